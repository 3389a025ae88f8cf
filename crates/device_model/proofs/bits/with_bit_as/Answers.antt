use Rattle.std.proofs.Common.{sym, ◌∙◌}
use Rattle.device_model.proofs.BitLemmas.{one_bit}
use Rattle.device_model.proofs.bits.with_bit_as.Goals as goal

pub returns-then-set : goal.returns-then-set
returns-then-set c =
    one_bit c.args.value c.with_bit.result c.args.place c.args.set c.ranges.value.fits c.with_bit.type_inv (c.with_bit.ensures.set ∙ sym c.if-set.true) c.with_bit.ensures.others_are_kept

pub returns-else-set : goal.returns-else-set
returns-else-set c =
    one_bit c.args.value c.without_bit.result c.args.place c.args.set c.ranges.value.fits c.without_bit.type_inv (c.without_bit.ensures.cleared ∙ sym c.if-set.false) c.without_bit.ensures.others_are_kept
