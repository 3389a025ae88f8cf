-- Lists of sectors.
use Rattle.std.proofs.Common.{ℕ, zero, suc, Some, ◌+◌, ◌∙◌, ap, sym, subst, ◌≡◌, ◌<◌, List, [], length, slice_index_or, replicate, refl, inl, inr, arith, get_or-set_same, get_or-set_other}
use Rattle.std.specs.Prelude.{slice_set, ◌++◌, ◌-◌, ◌≤◌, ◌∷◌}
use Rattle.std.proofs.lemmas.Bool.Decides.{eqb_tells}
use Rattle.std.proofs.lemmas.List.{set-append_left, length-set, append_assoc, replicate-append-replicate, length-replicate}
use Rattle.std.proofs.Common.{length-append}
use Rattle.sector_store.specs.Stores.{AreSectors, IsSectorBytes, filled_with_zeros_to_size, with_sector}

-- one sector replaced
pub sectors_set : (xs : List (List ℕ)) (p : ℕ) (new : List ℕ) → p < length xs →
    (λ (k : ℕ). slice_index_or (slice_set xs p new) k []) ≡ with_sector (λ k. slice_index_or xs k []) p new
sectors_set xs p new small = λ i k. at k i
  where
    at : (k : ℕ) → slice_index_or (slice_set xs p new) k [] ≡ with_sector (λ k. slice_index_or xs k []) p new k
    at k =
        elim (eqb_tells k p) [
          | inl same ↦ rw same.0 (rw same.1 (get_or-set_same xs p new [] small))
          | inr differ ↦ rw differ.0 (get_or-set_other xs p k new [] differ.1)
        ]

-- each item of a list of equal items
each_same : {A : Type 0} (P : A → Type 0) (x d : A) (n k : ℕ) → P x → k < length (replicate n x) → P (slice_index_or (replicate n x) k d)
each_same P x d zero k here lt = absurd (omega arith)
each_same P x d (suc n) zero here lt = here
each_same P x d (suc n) (suc k) here lt = each_same P x d n k here (omega arith)

pub zero_sector : IsSectorBytes (replicate 512 0)
zero_sector = (refl, λ k d lt. each_same (λ b. b < 256) 0 d 512 k (omega arith) lt)

-- behind what was written there are zeros, of which so many more may be written
pub zeros_written : (size n : ℕ) (xs : List (List ℕ)) → length xs + n ≤ size →
    filled_with_zeros_to_size size (xs ++ replicate n (replicate 512 0)) ≡ filled_with_zeros_to_size size xs
zeros_written size n xs few =
    let z : List ℕ = replicate 512 0 in
    let grown : length (xs ++ replicate n z) ≡ length xs + n = simp (length-append, length-replicate) refl in
    append_assoc xs (replicate n z) (replicate (size - length (xs ++ replicate n z)) z)
    ∙ ap (λ (l : List (List ℕ)). xs ++ l)
    (replicate-append-replicate n (size - length (xs ++ replicate n z)) z
    ∙ ap (λ (k : ℕ). replicate k z) (omega (arith, few, grown)))

-- one of these zeros is in memory
pub zero_written : (size : ℕ) (xs ys : List (List ℕ)) → ys ≡ xs ++ replicate 512 0 ∷ [] → length xs < size →
    filled_with_zeros_to_size size ys ≡ filled_with_zeros_to_size size xs
zero_written size xs ys is few = ap (filled_with_zeros_to_size size) is ∙ zeros_written size 1 xs (omega (arith, few))

-- what is told, once a sector that was written before has other bytes
pub sector_rewritten : (size p : ℕ) (xs : List (List ℕ)) (new : List ℕ) → p < length xs →
    (λ (k : ℕ). slice_index_or (filled_with_zeros_to_size size (slice_set xs p new)) k [])
    ≡ with_sector (λ k. slice_index_or (filled_with_zeros_to_size size xs) k []) p new
sector_rewritten size p xs new small =
    let zeros = replicate (size - length xs) (replicate 512 0) in
    ap {B = ℕ → List ℕ} (λ (l : List (List ℕ)). λ k. slice_index_or l k [])
    (ap (λ (k : ℕ). slice_set xs p new ++ replicate (size - k) (replicate 512 0)) (length-set xs p new)
    ∙ sym (set-append_left xs zeros p new small))
    ∙ sectors_set (xs ++ zeros) p new (simp length-append (omega (arith, small)))

-- where sectors are told, one of them replaced, they still are
pub replaced_are_sectors : (size p : ℕ) (told : ℕ → List ℕ) (new : List ℕ) → AreSectors size (Some told)
    → IsSectorBytes new → AreSectors size (Some (with_sector told p new))
replaced_are_sectors size p told new are is k lt =
    elim (eqb_tells k p) [
      | inl same ↦ rw same.0 is
      | inr differ ↦ rw differ.0 (are k lt)
    ]

-- sectors, where none was written
pub zeros_are_sectors : (size : ℕ) → AreSectors size (Some (λ k. slice_index_or (filled_with_zeros_to_size size []) k []))
zeros_are_sectors size =
    let all : filled_with_zeros_to_size size [] ≡ replicate size (replicate 512 0) = ap (λ n. replicate n (replicate 512 0)) (omega arith) in
    λ k lt. subst (λ (l : List (List ℕ)). IsSectorBytes (slice_index_or l k [])) (sym all)
    (each_same IsSectorBytes (replicate 512 0) [] size k zero_sector (simp length-replicate lt))
