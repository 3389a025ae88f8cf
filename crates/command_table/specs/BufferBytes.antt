-- Bytes in a buffer.
use Rattle.std.specs.Prelude.{◌≡◌, ℕ, ◌+◌, ◌<◌, ◌≤◌, List, length, slice_index, take, drop}

-- new is old with the bytes written from a place on, and nothing else changed
pub record StoresBytes (old new : List ℕ) (at : ℕ) (bytes : List ℕ) : Type 0 where
  pub length_is_kept : length new ≡ length old
  pub inside : (i : ℕ) → i < length bytes → slice_index new (at + i) ≡ slice_index bytes i
  pub before_is_kept : (i : ℕ) → i < at → slice_index new i ≡ slice_index old i
  pub after_is_kept : (i : ℕ) → at + length bytes ≤ i → slice_index new i ≡ slice_index old i

-- the n bytes from a place on
abbrev pub bytes_from : List ℕ → ℕ → ℕ → List ℕ
bytes_from bytes at n = take n (drop at bytes)
