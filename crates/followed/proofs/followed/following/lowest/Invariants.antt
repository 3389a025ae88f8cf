use Rattle.std.proofs.Common.{◌≡◌, ℕ, ◌<◌, false}
use Rattle.hba_regs.specs.Bits.{bit}
use Rattle.followed.proofs.followed.following.lowest.Given as goal

abbrev pub invariant-loop-slot : goal.invariant-loop-slot
invariant-loop-slot l = (place : ℕ) → place < l.slot → bit l.slots place ≡ false
