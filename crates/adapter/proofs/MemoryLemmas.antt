-- Bytes of memory that were put there, or were left alone.
use Rattle.std.proofs.Common.{ℕ, zero, suc, ◌≡◌, ◌<◌, ◌≤◌, ◌+◌, ◌-◌, List, [], ◌∷◌, length, slice_index, refl, ap, ◌∙◌, inl, inr, arith}
use Rattle.std.proofs.lemmas.Bool.{cases_lt}
use Rattle.std.proofs.lemmas.Bool.Decides.{leb_tells}
use Rattle.std.proofs.lemmas.List.{get_or_past}
use Rattle.adapter.specs.Memory.{patched, bytes_at}

-- ---- what was patched, and what wasn't

pub patched_before : (memory : ℕ → ℕ) (at : ℕ) (bytes : List ℕ) (a : ℕ) → a < at → patched memory at bytes a ≡ memory a
unfolding patched
patched_before memory at bytes a small =
    elim (leb_tells at a) [ inl here ↦ absurd (omega (arith, here.1)) | inr there ↦ rw there.0 refl ]

pub patched_past : (memory : ℕ → ℕ) (at : ℕ) (bytes : List ℕ) (a : ℕ) → at + length bytes ≤ a → patched memory at bytes a ≡ memory a
unfolding patched
patched_past memory at bytes a large =
    elim (leb_tells at a) [
      | inl here ↦ rw here.0 (get_or_past bytes (a - at) (memory a) (omega arith))
      | inr there ↦ rw there.0 refl
    ]

-- bytes that a patch may not hold
pub patched_apart : (memory : ℕ → ℕ) (at : ℕ) (bytes : List ℕ) (a : ℕ) → (at ≤ a → a < at + length bytes → ⊥) → patched memory at bytes a ≡ memory a
patched_apart memory at bytes a apart =
    elim (cases_lt a at) [
      | inl before ↦ patched_before memory at bytes a before
      | inr from ↦
          elim (cases_lt a (at + length bytes))
          [ inl inside ↦ absurd (apart from inside) | inr past ↦ patched_past memory at bytes a past ]
    ]

patched_here : (memory : ℕ → ℕ) (at b : ℕ) (bs : List ℕ) → patched memory at (b ∷ bs) at ≡ b
unfolding patched
patched_here memory at b bs =
    let zeros : at - at ≡ 0 = omega arith in
    elim (leb_tells at at) [ inl here ↦ rw (here.0, zeros) refl | inr there ↦ absurd (omega (arith, there.1)) ]

patched_next : (memory : ℕ → ℕ) (at b : ℕ) (bs : List ℕ) (a : ℕ) → suc at ≤ a → patched memory at (b ∷ bs) a ≡ patched memory (suc at) bs a
unfolding patched
patched_next memory at b bs a low =
    let next : a - at ≡ suc (a - suc at) = omega arith in
    elim (leb_tells at a) [
      | inl here ↦
          elim (leb_tells (suc at) a) [ inl both ↦ rw (here.0, both.0, next) refl | inr past ↦ absurd (omega (arith, past.1)) ]
      | inr there ↦ absurd (omega (arith, there.1))
    ]

-- ---- bytes read

-- memories that agree there have the same bytes there
pub bytes_same : (old new : ℕ → ℕ) (at n : ℕ) → ((a : ℕ) → at ≤ a → a < at + n → new a ≡ old a) → bytes_at new at n ≡ bytes_at old at n
unfolding bytes_at
bytes_same old new at zero same = refl
bytes_same old new at (suc n) same =
    let here : new at ≡ old at = same at (omega arith) (omega arith) in
    let rest : bytes_at new (suc at) n ≡ bytes_at old (suc at) n = bytes_same old new (suc at) n (λ a low high. same a (omega arith) (omega arith)) in
    λ i. here i ∷ rest i

pub bytes_length : (memory : ℕ → ℕ) (at n : ℕ) → length (bytes_at memory at n) ≡ n
unfolding bytes_at
bytes_length memory at zero = refl
bytes_length memory at (suc n) = let rest = bytes_length memory (suc at) n in omega (arith, rest)

pub bytes_index : (memory : ℕ → ℕ) (at n i : ℕ) → i < n → slice_index (bytes_at memory at n) i ≡ memory (at + i)
unfolding bytes_at
bytes_index memory at zero i small = absurd (omega arith)
bytes_index memory at (suc n) zero small = ap memory (omega arith)
bytes_index memory at (suc n) (suc i) small = bytes_index memory (suc at) n i (omega arith) ∙ ap memory (omega arith)

-- what was put into memory is read again
pub patched_bytes : (memory : ℕ → ℕ) (at : ℕ) (bs : List ℕ) → bytes_at (patched memory at bs) at (length bs) ≡ bs
unfolding bytes_at
patched_bytes memory at [] = refl
patched_bytes memory at (b ∷ bs) =
    let here : patched memory at (b ∷ bs) at ≡ b = patched_here memory at b bs in
    let rest : bytes_at (patched memory at (b ∷ bs)) (suc at) (length bs) ≡ bs =
    bytes_same (patched memory (suc at) bs) (patched memory at (b ∷ bs)) (suc at) (length bs) (λ a low high. patched_next memory at b bs a low) ∙ patched_bytes memory (suc at) bs in
    λ i. here i ∷ rest i
