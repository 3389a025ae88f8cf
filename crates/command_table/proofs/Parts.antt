-- Parts of a buffer that was written to.
use Rattle.std.proofs.Common.{◌≡◌, ℕ, ◌+◌, ◌<◌, ◌≤◌, List, length, slice_index, get_or, drop, sym, ◌∙◌, arith, length-drop}
use Rattle.std.proofs.lemmas.List.{same_lists, get_or-take, get_or-drop, get_or_default, length-take}
use Rattle.command_table.specs.BufferBytes.{StoresBytes, bytes_from}

-- two lists of numbers of one length that agree at each place are one
pub numbers_alike : (xs ys : List ℕ) → length xs ≡ length ys → ((k : ℕ) → k < length xs → get_or xs k 0 ≡ get_or ys k 0) → xs ≡ ys
numbers_alike xs ys len h = same_lists xs ys len (λ k d lt. get_or_default xs k d 0 lt ∙ h k lt ∙ get_or_default ys k 0 d (omega (arith, len)))

part_length : (n k : ℕ) (zs : List ℕ) → k + n ≤ length zs → length (bytes_from zs k n) ≡ n
part_length n k zs fits = simp (length-take, length-drop) (omega arith)

-- two parts agree where their bytes do
pub part_agrees : (n i j : ℕ) (xs ys : List ℕ) → i + n ≤ length xs → j + n ≤ length ys → ((m : ℕ) → m < n → slice_index xs (i + m) ≡ slice_index ys (j + m)) → bytes_from xs i n ≡ bytes_from ys j n
part_agrees n i j xs ys fits fits' h =
    numbers_alike (bytes_from xs i n) (bytes_from ys j n) (part_length n i xs fits ∙ sym (part_length n j ys fits')) (λ k lt.
    let small : k < n = omega (arith, part_length n i xs fits) in
    get_or-take n (drop i xs) k 0 small ∙ get_or-drop i xs k 0 ∙ h k small ∙ sym (get_or-drop j ys k 0) ∙ sym (get_or-take n (drop j ys) k 0 small))

-- a part before what was written
pub part_before : (old new : List ℕ) (at : ℕ) (bytes : List ℕ) → StoresBytes old new at bytes → at + length bytes ≤ length old → (i n : ℕ) → i + n ≤ at → bytes_from new i n ≡ bytes_from old i n
part_before old new at bytes s room i n fits =
    part_agrees n i i new old (omega (arith, s.length_is_kept)) (omega arith) (λ m lt. s.before_is_kept (i + m) (omega arith))

-- what was written, whole
pub part_whole : (old new : List ℕ) (at : ℕ) (bytes : List ℕ) → StoresBytes old new at bytes → at + length bytes ≤ length old → bytes_from new at (length bytes) ≡ bytes
part_whole old new at bytes s room =
    numbers_alike (bytes_from new at (length bytes)) bytes (part_length (length bytes) at new (omega (arith, s.length_is_kept))) (λ k lt.
    let small : k < length bytes = omega (arith, length-take (length bytes) (drop at new)) in
    get_or-take (length bytes) (drop at new) k 0 small ∙ get_or-drop at new k 0 ∙ s.inside k small)
