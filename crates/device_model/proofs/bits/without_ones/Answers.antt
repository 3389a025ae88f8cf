use Rattle.device_model.proofs.BitLemmas.{bits_of-and_not}
use Rattle.device_model.proofs.bits.without_ones.Goals as goal

pub returns : goal.returns
returns c = bits_of-and_not c.args.value c.args.ones c.ranges.value.fits c.ranges.ones.fits
