-- What the block of a DATA SET MANAGEMENT command with TRIM means (ACS-3, 7.5).
use Rattle.std.specs.Prelude.{ℕ, zero, suc, ◌+◌, ◌*◌, List, [], ◌∷◌, ◌++◌}

-- count sectors from the first on
abbrev pub consecutive : ℕ → ℕ → List ℕ
consecutive first zero = []
consecutive first (suc count) = first ∷ consecutive (suc first) count

-- The sectors of its entries, in order: an entry has six bytes of a first sector and two of a length.
-- An entry of length 0 names none.
abbrev pub trim_sectors : List ℕ → List ℕ
trim_sectors (a ∷ b ∷ c ∷ d ∷ e ∷ f ∷ l ∷ h ∷ rest) =
    consecutive (a + 256 * (b + 256 * (c + 256 * (d + 256 * (e + 256 * f))))) (l + 256 * h) ++ trim_sectors rest
trim_sectors _ = []
