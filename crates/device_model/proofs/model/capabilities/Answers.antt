use Rattle.std.proofs.Common.{ℕ, zero, suc, ◌≡◌, ◌≤◌, refl, arith, count_ones}
use Rattle.std.proofs.lemmas.Nat.{zero_from_ones}
use Rattle.device_model.proofs.model.capabilities.Goals as goal

positive : (k : ℕ) → (k ≡ 0 → ⊥) → 1 ≤ k
positive zero nonzero = absurd (nonzero refl)
positive (suc k) nonzero = omega arith

has_one : (n : ℕ) → 1 ≤ n → 1 ≤ count_ones n
has_one n some = positive (count_ones n) (λ none. let zero = zero_from_ones n none in absurd (omega (arith, zero, some)))

pub overflow_sub-result : goal.overflow_sub-result
overflow_sub-result c = has_one c.args.pi c.requires.ports.0
