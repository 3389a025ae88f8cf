-- A search by halves, and what it costs.
use Rattle.std.proofs.Common.{refl, ◌≡◌, ℕ, zero, suc, ◌+◌, ◌*◌, ◌/◌, ◌^◌, ◌<◌, ◌≤◌, List, length, get_or, ap, ◌∙◌, sym, arith, inl, inr}
use Rattle.std.proofs.Math.Nat.{pow-succ'}
use Rattle.std.proofs.lemmas.Bool.{cases_eq, cases_lt}
use Rattle.std.proofs.lemmas.List.{get_or_default}
use Rattle.std.specs.List.{Contains}
use Rattle.grants.specs.NamedRows.{RowName, name_rank, AreInOrder}

-- With so many comparisons left, the places that are left are fewer than that power of two. One comparison leaves half of them at most.
pub spend : (left done most size new : ℕ) → done + left ≤ most → size < 2 ^ left → 0 < size → new ≤ size / 2
    → (rest : ℕ) × (done + 1 + rest ≤ most) × (new < 2 ^ rest)
spend zero done most size new fits small some half = absurd (let one : 2 ^ zero ≡ 1 = refl in omega (arith, one))
spend (suc left) done most size new fits small some half =
    let twice : 2 ^ suc left ≡ 2 * 2 ^ left = pow-succ' 2 left in
    (left, omega arith, omega (arith, twice))

module _ (names : List RowName) (order : AreInOrder names) (m : ℕ) (x : RowName) (within : m < length names) (is : x ≡ get_or names m x) (t : ℕ) where
  here : (d : RowName) → name_rank (get_or names m d) ≡ name_rank x
  here d = ap name_rank (get_or_default names m d x within ∙ sym is)

  -- where the middle stands before what is looked for, all up to it do
  pub low_more : name_rank x < t → (k : ℕ) (d : RowName) → k < m + 1 → name_rank (get_or names k d) < t
  low_more less k d lt = elim (cases_eq k m) [
    | inl e ↦ let same = ap (λ (i : ℕ). name_rank (get_or names i d)) e in let h = here d in omega (arith, same, h)
    | inr ne ↦ let rise = order k m d (omega arith) within in let h = here d in omega (arith, rise, h)
  ]

  -- and where it stands behind, all from it on do
  pub high_more : t < name_rank x → (k : ℕ) (d : RowName) → m ≤ k → k < length names → t < name_rank (get_or names k d)
  high_more more k d ge lt = elim (cases_eq k m) [
    | inl e ↦ let same = ap (λ (i : ℕ). name_rank (get_or names i d)) e in let h = here d in omega (arith, same, h)
    | inr ne ↦ let rise = order m k d (omega arith) lt in let h = here d in omega (arith, rise, h)
  ]

-- where all stand before it or behind, it isn't there
pub not_there : (names : List RowName) (name : RowName) (low high : ℕ) → high ≤ low → ((k : ℕ) (d : RowName) → k < low → name_rank (get_or names k d) < name_rank name)
    → ((k : ℕ) (d : RowName) → high ≤ k → k < length names → name_rank name < name_rank (get_or names k d)) → Contains names name → ⊥
not_there names name low high met below above there =
    let same = ap name_rank there.2 in
    elim (cases_lt there.0 low) [
      | inl before ↦ let h = below there.0 name before in omega (arith, same, h)
      | inr behind ↦ let h = above there.0 name (omega arith) there.1 in omega (arith, same, h)
    ]
