-- The test of a mask that has one bit, said of the bit's place.
use Rattle.std.proofs.Common.{◌≡◌, ℕ, suc, zero, ◌*◌, ◌^◌, ◌<◌, ◌==◌, arith}
use Rattle.std.proofs.lemmas.Bool.{eq-eqb, ne_eqb}
use Rattle.std.proofs.lemmas.Nat.{pow_pos}
use Rattle.std.proofs.lemmas.Nat.Bits.{and_pow, bit_at-lt}
use Rattle.std.specs.Int.{bit_at}
use Rattle.std.specs.Int.RustNames.{bit_and}
use Rattle.hba_regs.specs.Bits.{bit}

-- a number that is 0 or 1, times the mask
all_or_none : (b p : ℕ) → b < 2 → 0 < p → (b * p == p) ≡ (b == 1)
all_or_none zero p lt pos = ne_eqb (0 * p) p (λ e. omega (arith, pos, e))
all_or_none (suc zero) p lt pos = eq-eqb (1 * p) p (omega arith)
all_or_none (suc (suc b)) p lt pos = absurd (omega (arith, lt))

pub and_mask : (n mask k : ℕ) → mask ≡ 2 ^ k → (bit_and n mask == mask) ≡ bit n k
and_mask n mask k is_mask = rw (is_mask, and_pow n k) (all_or_none (bit_at n k) (2 ^ k) (bit_at-lt n k) (pow_pos k))
