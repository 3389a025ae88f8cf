use Rattle.std.proofs.Common.{ap, w32}
use Rattle.std.specs.Prelude.{◌==◌}
use Rattle.std.proofs.lemmas.Nat.Bits.{bit_at_clear_same, bit_at_clear_other}
use Rattle.hba_regs.proofs.bit.without_bit.Goals as goal

pub returns-clause-cleared : goal.returns-clause-cleared
returns-clause-cleared c = ap (λ b. b == 1) (bit_at_clear_same w32 c.args.value c.args.place c.requires)

pub returns-clause-others_are_kept : goal.returns-clause-others_are_kept
returns-clause-others_are_kept c = λ k lt other. ap (λ b. b == 1) (bit_at_clear_other w32 c.args.value c.args.place c.requires k lt other)
