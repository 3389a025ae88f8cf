-- What a volatile write cache may lose: what its sectors held before they were changed (FLUSH CACHE EXT, ACS-3; how
-- they are kept is this project's own).
use Rattle.std.specs.Prelude.{ℕ, ◌≡◌, ◌<◌, ◌≤◌, List, [], ◌∷◌, Option, None, Some, if◌then◌else◌, length, nat_eq, slice_index_or, unwrap_or}
use Rattle.device_model.specs.declared.old_sectors.OldSector.{OldSector}

-- what an old sector is where there is none
abbrev pub no_old_sector : OldSector
no_old_sector = record { sector = 0; bytes = [] }

-- the number of the old sector in this place
abbrev pub old_number_at : List OldSector → ℕ → ℕ
old_number_at olds place = let old = slice_index_or olds place no_old_sector in old.sector

-- their numbers rise, so that none stands there twice
abbrev pub AreRising : List OldSector → Type 0
AreRising olds = (i j : ℕ) → i < j → j < length olds → old_number_at olds i < old_number_at olds j

-- the old sector with this number is in this place
pub record IsOldAt (olds : List OldSector) (sector place : ℕ) : Type 0 where
  pub is_inside : place < length olds
  pub number : old_number_at olds place ≡ sector

-- there is none with this number, and it would be put in this place: lower ones before it, and higher ones from it on
pub record IsGapFor (olds : List OldSector) (sector place : ℕ) : Type 0 where
  pub is_inside : place ≤ length olds
  pub lower : (k : ℕ) → k < place → old_number_at olds k < sector
  pub higher : (k : ℕ) → place ≤ k → k < length olds → sector < old_number_at olds k

-- what a sector held before it was changed, if it was
abbrev pub old_bytes_of : List OldSector → ℕ → Option (List ℕ)
old_bytes_of [] sector = None
old_bytes_of (old ∷ rest) sector = if nat_eq old.sector sector then Some old.bytes else old_bytes_of rest sector

-- the sector has these old bytes, and the others have what they had
abbrev pub SetsOldBytesOfSector : (was now : List OldSector) → (sector : ℕ) → List ℕ → Type 0
SetsOldBytesOfSector was now sector bytes = (k : ℕ) → old_bytes_of now k ≡ (if nat_eq sector k then Some bytes else
    old_bytes_of was k)

-- the sectors of a disk, each as it was before it was changed
abbrev pub with_old_bytes : List OldSector → (ℕ → List ℕ) → ℕ → List ℕ
with_old_bytes olds told = λ k. unwrap_or (old_bytes_of olds k) (told k)
