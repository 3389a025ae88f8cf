use Rattle.hba_regs.proofs.BitLemmas.{and_mask}
use Rattle.hba_regs.proofs.bit.has.Goals as goal

pub returns : goal.returns
returns c = and_mask c.args.value c.args.mask
