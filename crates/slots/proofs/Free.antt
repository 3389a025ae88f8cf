-- The lowest bit that isn't set.
use Rattle.std.proofs.Common.{ℕ, ◌≡◌, ◌≢◌, ◌^◌, ◌<◌, ap, ◌∙◌, ⊎_elim, arith}
use Rattle.std.specs.Int.{bit_at, bit_not, trailing_zeros, w32}
use Rattle.std.specs.Int.Count.{trailing_of_zero}
use Rattle.std.proofs.lemmas.Bool.{cases_eq}
use Rattle.std.proofs.lemmas.Nat.Bits.{bit_at-lt, bit_at-zero, bit_at_not, bit_at-trailing_zeros}
use Rattle.slots.specs.SlotMasks.{IsLowestClear}

module _ (mask : ℕ) (fits : mask < 2 ^ 32) where
  abbrev others : ℕ
  others = bit_not w32 mask

  abbrev zeros : ℕ
  zeros = trailing_zeros w32 others

  fewer : others < 2 ^ 32
  fewer = omega arith

  -- a bit that isn't set in the others is set in the mask, and the other way round
  turned : (k : ℕ) → k < 32 → bit_at others k ≡ 0 → bit_at mask k ≡ 1
  turned k low zero = let is = bit_at_not w32 mask k fits low in let few = bit_at-lt mask k in omega (arith, is, zero, few)

  turned_back : (k : ℕ) → k < 32 → bit_at others k ≡ 1 → bit_at mask k ≡ 0
  turned_back k low one = let is = bit_at_not w32 mask k fits low in let few = bit_at-lt mask k in omega (arith, is, one, few)

  -- each below the place that the zeros tell is set
  pub set_below : (k : ℕ) → k < zeros → k < 32 → bit_at mask k ≡ 1
  set_below k below low = ⊎_elim
      (λ (none : others ≡ 0). turned k low (ap (λ (n : ℕ). bit_at n k) none ∙ bit_at-zero k))
      (λ (some : others ≢ 0). turned k low ((bit_at-trailing_zeros w32 others (omega (arith, some)) fewer).2 k below))
      (cases_eq others 0)

  pub lowest_clear : zeros < 32 → IsLowestClear mask zeros
  lowest_clear low = ⊎_elim
      (λ (none : others ≡ 0). let all = ap (trailing_zeros w32) none ∙ trailing_of_zero 32 in absurd (omega (arith, low, all)))
      (λ (some : others ≢ 0). (turned_back zeros low (bit_at-trailing_zeros w32 others (omega (arith, some)) fewer).1, λ k below. set_below k below (omega (arith, below, low))))
      (cases_eq others 0)
