-- A symmetric relation of all pairs of a list is one of all pairs of the list in another order.
use Rattle.std.proofs.Common.{◌≡◌, ℕ, ◌<◌, ◌∙◌, List, length, get_or, inl, inr, refl, sym, ap, subst, arith}
use Rattle.std.specs.List.{AllPairs, swap}
use Rattle.std.specs.List.Sorted.{IsPermutation}
use Rattle.std.proofs.lemmas.Bool.{cases_eq, cases_lt}
use Rattle.std.proofs.lemmas.List.Edits.{Swapped, swapped_from_swap, length-swap}
use Rattle.std.proofs.lemmas.List.Sorted.{IsPermutation-keeps}

module _ {X : Type 0} (R : X → X → Type 0) (back : (a b : X) → R a b → R b a) where
  swapped_pairs : (xs : List X) (i j : ℕ) → i < length xs → j < length xs → AllPairs R xs → AllPairs R (swap xs i j)
  swapped_pairs xs i j hi hj all a b d less within = elim (cases_eq a i) [
    | inl ai ↦ elim (cases_eq b j) [
      | inl bj ↦ move _ _ (at_i a ai) (at_j b bj) (any j i (omega arith) hj hi)
      | inr bj ↦ move _ _ (at_i a ai) (other b (omega arith) bj) (any j b (omega arith) hj in_b)
    ]
    | inr na ↦ elim (cases_eq a j) [
      | inl aj ↦ elim (cases_eq b i) [
        | inl bi ↦ move _ _ (at_j a aj) (at_i b bi) (any i j (omega arith) hi hj)
        | inr bi ↦ move _ _ (at_j a aj) (other b bi (omega arith)) (any i b (omega arith) hi in_b)
      ]
      | inr nj ↦ elim (cases_eq b i) [
        | inl bi ↦ move _ _ (other a na nj) (at_i b bi) (any a j (omega arith) in_a hj)
        | inr bi ↦ elim (cases_eq b j) [
          | inl bj ↦ move _ _ (other a na nj) (at_j b bj) (any a i (omega arith) in_a hi)
          | inr bj ↦ move _ _ (other a na nj) (other b bi bj) (all a b d less in_b)
        ]
      ]
    ]
  ]
    where
      s : Swapped (λ k. get_or xs k d) (λ k. get_or (swap xs i j) k d) i j
      s = swapped_from_swap xs (swap xs i j) i j d hi hj refl

      in_b : b < length xs
      in_b = omega (arith, within, length-swap xs i j)

      in_a : a < length xs
      in_a = let h = in_b in omega (arith, h)

      at_i : (m : ℕ) → m ≡ i → get_or (swap xs i j) m d ≡ get_or xs j d
      at_i m e = ap (λ (k : ℕ). get_or (swap xs i j) k d) e ∙ s.0

      at_j : (m : ℕ) → m ≡ j → get_or (swap xs i j) m d ≡ get_or xs i d
      at_j m e = ap (λ (k : ℕ). get_or (swap xs i j) k d) e ∙ s.1

      other : (m : ℕ) → (m ≡ i → ⊥) → (m ≡ j → ⊥) → get_or (swap xs i j) m d ≡ get_or xs m d
      other m = s.2 m

      any : (p q : ℕ) → (p ≡ q → ⊥) → p < length xs → q < length xs → R (get_or xs p d) (get_or xs q d)
      any p q apart hp hq = elim (cases_lt p q) [
        | inl lt ↦ all p q d lt hq
        | inr ge ↦ back _ _ (all q p d (omega arith) hp)
      ]

      move : (p q : ℕ) → get_or (swap xs i j) a d ≡ get_or xs p d → get_or (swap xs i j) b d ≡ get_or xs q d → R (get_or xs p d) (get_or xs q d)
          → R (get_or (swap xs i j) a d) (get_or (swap xs i j) b d)
      move p q ea eb h = subst (λ (x : X). R x (get_or (swap xs i j) b d)) (sym ea) (subst (λ (y : X). R (get_or xs p d) y) (sym eb) h)

  pub permuted_pairs : (xs ys : List X) → IsPermutation xs ys → AllPairs R xs → AllPairs R ys
  permuted_pairs xs ys moved all = IsPermutation-keeps xs (AllPairs R) all (λ l i j hi hj. swapped_pairs l i j hi hj) ys moved
