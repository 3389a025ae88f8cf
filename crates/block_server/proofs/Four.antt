-- What is so of each of four is so of the one at a place.
use Rattle.std.proofs.Common.{ℕ, ◌<◌, [], ◌∷◌, zero, suc, get_or, arith}

pub of_four : {X : Type 0} (P : ℕ → X → Type 0) (default a b c d : X) → P 0 a → P 1 b → P 2 c → P 3 d → (number : ℕ) → number < 4 → P number (get_or (a ∷ b ∷ c ∷ d ∷ []) number default)
of_four P default a b c d first second third fourth zero small = first
of_four P default a b c d first second third fourth (suc zero) small = second
of_four P default a b c d first second third fourth (suc (suc zero)) small = third
of_four P default a b c d first second third fourth (suc (suc (suc zero))) small = fourth
of_four P default a b c d first second third fourth (suc (suc (suc (suc more)))) small = absurd (omega (arith, small))
