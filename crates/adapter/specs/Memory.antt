-- Memory as a function from addresses to bytes.
use Rattle.std.specs.Prelude.{ℕ, zero, suc, ◌-◌, List, [], ◌∷◌, if◌then◌else◌, nat_le, nat_eq, slice_index_or}

-- the memory with these bytes from an address on, and every other byte as it was
unfoldable pub patched : (ℕ → ℕ) → ℕ → List ℕ → ℕ → ℕ
patched memory at bytes = λ a. if nat_le at a then slice_index_or bytes (a - at) (memory a) else memory a

-- n bytes of memory from an address on
unfoldable pub bytes_at : (ℕ → ℕ) → ℕ → ℕ → List ℕ
bytes_at memory at zero = []
bytes_at memory at (suc n) = memory at ∷ bytes_at memory (suc at) n

-- a function that is changed at one place
unfoldable pub changed : {A : Type 0} → (ℕ → A) → ℕ → A → ℕ → A
changed f place new = λ k. if nat_eq k place then new else f k
