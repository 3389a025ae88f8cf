-- A list of bytes as a memory.
use Rattle.std.proofs.Common.{ℕ, zero, suc, ◌≡◌, ◌<◌, ◌≤◌, ◌+◌, ◌-◌, List, [], ◌∷◌, ◌++◌, length, take, drop, refl, sym, ◌∙◌, ap, inl, inr, arith, length-append, length-take, length-drop, get_or-take, get_or-drop, drop-cons}
use Rattle.std.specs.Prelude.{slice_index, slice_index_or}
use Rattle.std.proofs.lemmas.Bool.{cases_lt}
use Rattle.std.proofs.lemmas.Bool.Decides.{leb_tells}
use Rattle.std.proofs.lemmas.List.{get_or_append_left, get_or-append_right, get_or_past}
use Rattle.std.proofs.lemmas.Grind.{common_steps, get_or_default_zero}
use Rattle.adapter.specs.Memory.{patched, bytes_at}
use Rattle.adapter.specs.Device.{Device}
use Rattle.device_model.proofs.Absurd.{fun_ext}

pub bytes_at-list : (xs : List ℕ) (at n : ℕ) → at + n ≤ length xs → bytes_at (λ a. slice_index xs a) at n ≡ take n (drop at xs)
unfolding bytes_at
bytes_at-list xs at zero small = grind (arith, common_steps)
bytes_at-list xs at (suc n) small =
    let lt : at < length xs = omega arith in
    rw (drop-cons xs at 0) (ap (λ (rest : List ℕ). slice_index xs at ∷ rest) (bytes_at-list xs (suc at) n (omega arith)))

-- bytes put over those from a place on
put_before : (xs bytes : List ℕ) (at a : ℕ) → at + length bytes ≤ length xs → a < at →
    slice_index (take at xs ++ (bytes ++ drop (at + length bytes) xs)) a ≡ slice_index xs a
put_before xs bytes at a small before =
    let lt : a < length (take at xs) = simp length-take (omega arith) in
    get_or_append_left (take at xs) _ 0 a lt ∙ get_or-take at xs a 0 before

put_after : (xs bytes : List ℕ) (at a : ℕ) → at + length bytes ≤ length xs → at ≤ a →
    slice_index (take at xs ++ (bytes ++ drop (at + length bytes) xs)) a ≡ slice_index (bytes ++ drop (at + length bytes) xs) (a - at)
put_after xs bytes at a small here =
    let e : length (take at xs) ≡ at = simp length-take (omega arith) in
    get_or-append_right (take at xs) (bytes ++ drop (at + length bytes) xs) at a 0 e here

put_here : (xs bytes : List ℕ) (at a : ℕ) → at + length bytes ≤ length xs → at ≤ a →
    slice_index (bytes ++ drop (at + length bytes) xs) (a - at) ≡ slice_index_or bytes (a - at) (slice_index xs a)
put_here xs bytes at a small here =
    elim (cases_lt (a - at) (length bytes)) [
      | inl inside ↦ get_or_append_left bytes _ 0 (a - at) inside ∙ sym (get_or_default_zero bytes (a - at) (slice_index xs a) inside)
      | inr past ↦
          let back : (at + length bytes) + ((a - at) - length bytes) ≡ a = omega arith in
          get_or-append_right bytes (drop (at + length bytes) xs) (length bytes) (a - at) 0 refl past
          ∙ (get_or-drop (at + length bytes) xs ((a - at) - length bytes) 0
          ∙ (ap (λ (k : ℕ). slice_index xs k) back ∙ sym (get_or_past bytes (a - at) (slice_index xs a) past)))
    ]

pub put_reads : (xs bytes : List ℕ) (at a : ℕ) → at + length bytes ≤ length xs →
    slice_index (take at xs ++ (bytes ++ drop (at + length bytes) xs)) a ≡ patched (λ k. slice_index xs k) at bytes a
unfolding patched
put_reads xs bytes at a small =
    elim (leb_tells at a) [
      | inl here ↦ rw here.0 (put_after xs bytes at a small here.1 ∙ put_here xs bytes at a small here.1)
      | inr before ↦ rw before.0 (put_before xs bytes at a small before.1)
    ]

pub put_length : (xs bytes : List ℕ) (at : ℕ) → at + length bytes ≤ length xs →
    length (take at xs ++ (bytes ++ drop (at + length bytes) xs)) ≡ length xs
put_length xs bytes at small = simp (length-append, length-take, length-drop) (omega arith)

-- a device whose memory is a list, after bytes were put there
pub memory_put : (d : Device) (xs bytes new : List ℕ) (at : ℕ) → at + length bytes ≤ length xs →
    new ≡ take at xs ++ (bytes ++ drop (at + length bytes) xs) →
    record d { memory_size = length new; memory = λ a. slice_index new a } ≡ record d { memory_size = length xs; memory = patched (λ a. slice_index xs a) at bytes }
memory_put d xs bytes new at small e =
    let sizes : length new ≡ length xs = ap length e ∙ put_length xs bytes at small in
    let reads : (λ (a : ℕ). slice_index new a) ≡ patched (λ a. slice_index xs a) at bytes =
    fun_ext (λ a. ap (λ (l : List ℕ). slice_index l a) e ∙ put_reads xs bytes at a small) in
    λ i. record d { memory_size = sizes i; memory = reads i }

pub list_load : (xs out : List ℕ) (at n : ℕ) → at + n ≤ length xs → out ≡ take n (drop at xs) →
    out ≡ bytes_at (λ a. slice_index xs a) at (length out)
list_load xs out at n small e =
    let size : length out ≡ n = ap length e ∙ simp (length-take, length-drop) (omega arith) in
    rw size (e ∙ sym (bytes_at-list xs at n small))

-- bytes that were copied one by one
pub bytes_copied : (memory : ℕ → ℕ) (at : ℕ) (xs : List ℕ) (n : ℕ) → length xs ≡ n → ((k : ℕ) → k < n → slice_index xs k ≡ memory (at + k)) →
    xs ≡ bytes_at memory at n
unfolding bytes_at
bytes_copied memory at [] zero size same = refl
bytes_copied memory at [] (suc n) size same = absurd (omega arith)
bytes_copied memory at (x ∷ xs) zero size same = absurd (omega arith)
bytes_copied memory at (x ∷ xs) (suc n) size same =
    let here : x ≡ memory at = same 0 (omega arith) ∙ ap memory (omega arith) in
    let rest : xs ≡ bytes_at memory (suc at) n = bytes_copied memory (suc at) xs n (omega arith) (λ k lt. same (suc k) (omega arith) ∙ ap memory (omega arith)) in
    λ i. here i ∷ rest i
