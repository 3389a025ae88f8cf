-- A volatile write cache: what is lasting of a disk that has one, and what is lost (FLUSH CACHE EXT, ACS-3).
use Rattle.std.specs.Prelude.{ℕ, Bool, true, false, ◌≡◌, ◌+◌, ◌<◌, ◌≤◌, ◌⊎◌, List, [], ◌∷◌, Option, Contains, if◌then◌else◌, length, option_map}
use Rattle.std.specs.Vec.{vec_len, vec_capacity}
use Rattle.sector_store.specs.Stores.{HasRecordAndNotesOneMoreFailure}
use Rattle.sector_store.specs.declared.store.Failures.{Failures}
use Rattle.device_model.specs.OldSectors.{with_old_bytes}
use Rattle.device_model.specs.declared.cache.Cache.{Cache}

-- Without growing, it has room for the old bytes of so many sectors more, if it keeps any.
abbrev pub HasRoomForOldSectors : Cache → ℕ → Type 0
HasRoomForOldSectors c more = c.is_on ≡ true → 1 ≤ more → vec_len c.kept.sectors + more ≤ vec_capacity c.kept.sectors

-- the same old sectors are kept, or none still are
pub record KeepsSameOldSectors (was now : Cache) : Type 0 where
  pub cache_mode_is_kept : now.is_on ≡ was.is_on
  pub old_sectors_are : now.kept.sectors.items ≡ was.kept.sectors.items

-- none are kept any more
pub record KeepsNoOldSectors (was now : Cache) : Type 0 where
  pub cache_mode_is_kept : now.is_on ≡ was.is_on
  pub old_sectors_are : now.kept.sectors.items ≡ []

-- What is lasting of a disk that tells these sectors: with a cache each is as it was before it was changed; without one
-- it is what is given.
abbrev pub lasting_in : Cache → (told lasting_without_cache : Option (ℕ → List ℕ)) → Option (ℕ → List ℕ)
lasting_in c told lasting_without_cache =
    if c.is_on then option_map (with_old_bytes c.kept.sectors.items) told else lasting_without_cache

-- One more call for this sector has failed: the one that was asked; or, where a sector is changed in a cache, the read
-- of what it held before.
abbrev pub OneMoreCallFails : (cached changes : Bool) → ℕ → (was now : Option Failures) → Type 0
OneMoreCallFails cached changes sector was now =
    HasRecordAndNotesOneMoreFailure changes sector was now
    ⊎ ((cached ≡ true) × (changes ≡ true) × HasRecordAndNotesOneMoreFailure false sector was now)

-- ---- what is lost

-- one sector, of those that a store tells
abbrev pub sector_told : Option (ℕ → List ℕ) → ℕ → Option (List ℕ)
sector_told told sector = option_map (λ f. f sector) told

-- one write more has failed of each of these sectors, in this order
abbrev pub WritesFail : List ℕ → (was now : Option Failures) → Type 0
WritesFail [] was now = now ≡ was
WritesFail (sector ∷ rest) was now = (mid : Option Failures) × HasRecordAndNotesOneMoreFailure true sector was mid
    × WritesFail rest mid now

-- The sectors of a store were to become these again. They did, but for some of which a write has failed: these, no more
-- than there are, are as they were, and so is what is told past the last sector.
pub record RollsBack {S : Type 0} (size : S → ℕ) (told : S → Option (ℕ → List ℕ)) (failures : S → Option Failures)
    (into : Option (ℕ → List ℕ)) (was now : S) : Type 0 where
  pub failed : List ℕ
  pub failed_count_is_allowed : length failed ≤ size was
  pub writes_fail : WritesFail failed (failures was) (failures now)
  pub size_is_kept : size now ≡ size was
  pub unfailed_sectors_are_rolled_back : (sector : ℕ) → sector < size was → (Contains failed sector → ⊥)
      → sector_told (told now) sector ≡ sector_told into sector
  pub failed_are_kept : (sector : ℕ) → (size was ≤ sector) ⊎ Contains failed sector
      → sector_told (told now) sector ≡ sector_told (told was) sector
