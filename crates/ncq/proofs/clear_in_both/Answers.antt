use Rattle.std.proofs.Common.{ℕ, ◌≡◌, ◌-◌, ◌<◌, ◌==◌, ◌&&◌, not, min, max, zero, suc, bit_or, w32, refl, ◌∙◌, ap, arith}
use Rattle.std.specs.Int.{bit_at}
use Rattle.std.proofs.lemmas.Nat.Bits.{bit_at_and, bit_at_not, bit_at_or, bit_at-lt}
use Rattle.std.proofs.lemmas.Nat.{or_lt}
use Rattle.ncq.proofs.clear_in_both.Goals as goal

-- of numbers that are 0 or 1
both : (x y z : ℕ) → x < 2 → y < 2 → z < 2 → (min x (1 - max y z) == 1) ≡ ((x == 1) && not (y == 1) && not (z == 1))
both zero zero zero a b c = refl
both zero zero (suc zero) a b c = refl
both zero (suc zero) zero a b c = refl
both zero (suc zero) (suc zero) a b c = refl
both (suc zero) zero zero a b c = refl
both (suc zero) zero (suc zero) a b c = refl
both (suc zero) (suc zero) zero a b c = refl
both (suc zero) (suc zero) (suc zero) a b c = refl
both (suc (suc x)) y z a b c = absurd (omega (arith, a))
both zero (suc (suc y)) z a b c = absurd (omega (arith, b))
both (suc zero) (suc (suc y)) z a b c = absurd (omega (arith, b))
both zero zero (suc (suc z)) a b c = absurd (omega (arith, c))
both zero (suc zero) (suc (suc z)) a b c = absurd (omega (arith, c))
both (suc zero) zero (suc (suc z)) a b c = absurd (omega (arith, c))
both (suc zero) (suc zero) (suc (suc z)) a b c = absurd (omega (arith, c))

pub returns : goal.returns
returns c = λ place small.
    ap (λ (n : ℕ). n == 1)
    (bit_at_and c.args.mask _ place
    ∙ (ap (λ (n : ℕ). min (bit_at c.args.mask place) n) (bit_at_not w32 (bit_or c.args.issued c.args.active) place (or_lt 32 c.args.issued c.args.active c.ranges.issued.fits c.ranges.active.fits) small)
    ∙ ap (λ (n : ℕ). min (bit_at c.args.mask place) (1 - n)) (bit_at_or c.args.issued c.args.active place)))
    ∙ both (bit_at c.args.mask place) (bit_at c.args.issued place) (bit_at c.args.active place) (bit_at-lt c.args.mask place) (bit_at-lt c.args.issued place) (bit_at-lt c.args.active place)
