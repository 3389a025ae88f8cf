-- What stores hold.
use Rattle.std.specs.Prelude.{ℕ, Bool, true, false, ◌≡◌, ◌+◌, ◌-◌, ◌%◌, ◌^◌, ◌<◌, ◌≤◌, ◌⊎◌, ◌++◌, List, [], Option, Some, IfSome, All, if◌then◌else◌, length, nat_eq, option_map, replicate, slice_index_or}
use Rattle.sector_store.specs.declared.store.Failures.{Failures}

-- the bytes of a sector
abbrev pub IsSectorBytes : List ℕ → Type 0
IsSectorBytes bytes = (length bytes ≡ 512) × All (λ byte. byte < 256) bytes

-- these sectors, but for one, which has other bytes
abbrev pub with_sector : (ℕ → List ℕ) → ℕ → List ℕ → ℕ → List ℕ
with_sector told sector bytes = λ k. if nat_eq k sector then bytes else told k

-- where they are told, these are so many sectors
abbrev pub AreSectors : ℕ → Option (ℕ → List ℕ) → Type 0
AreSectors size told = IfSome told (λ f. (k : ℕ) → k < size → IsSectorBytes (f k))

-- so many sectors, these and zeros behind them
abbrev pub filled_with_zeros_to_size : ℕ → List (List ℕ) → List (List ℕ)
filled_with_zeros_to_size size sectors = sectors ++ replicate (size - length sectors) (replicate 512 0)

-- the first of so many sectors that stand at the end of a room
abbrev pub first_untaken_sector : (room : List (List ℕ)) → ℕ → List ℕ
first_untaken_sector room left = slice_index_or room (length room - left) []

-- One more call has failed: a write, or else a read, of this sector.
abbrev pub HasRecordAndNotesOneMoreFailure : Bool → ℕ → (was now : Option Failures) → Type 0
HasRecordAndNotesOneMoreFailure is_write sector was now =
    (f : Failures) × (was ≡ Some f)
    × (now ≡ Some (record {
      failed_calls = (f.failed_calls + 1) % 2 ^ 64;
      last_sector = sector;
      last_is_write = is_write;
    }))

-- A sector of a store was to be copied. It was; or there is none, or a call has failed, and the place that it was to
-- come to is as it was. What the store tells is as it was.
pub record ReadsSector {S : Type 0} (size : S → ℕ) (told : S → Option (ℕ → List ℕ)) (failures : S → Option Failures)
    (sector : ℕ) (old new : S) (before after : List ℕ) (done : Bool) : Type 0 where
  pub is_inside : done ≡ true → sector < size old
  pub bytes_are_told : done ≡ true → IfSome (told old) (λ told. after ≡ told sector)
  pub is_sector : done ≡ true → IsSectorBytes after
  pub place_is_kept : done ≡ false → after ≡ before
  pub no_call_fails : (done ≡ true) ⊎ (size old ≤ sector) → failures new ≡ failures old
  pub failure_is_noted : done ≡ false → sector < size old → HasRecordAndNotesOneMoreFailure false sector (failures old)
      (failures new)
  pub told_contents_are_kept : told new ≡ told old
  pub size_is_kept : size new ≡ size old

-- A sector of a store was to have these bytes. It has, and no other one has others; or there is none, or a call has
-- failed in this way, and what the store tells is as it was.
pub record WritesSector {S : Type 0} (size : S → ℕ) (told : S → Option (ℕ → List ℕ)) (failures : S → Option Failures)
    (FailsAndPosts : (was now : Option Failures) → Type 0) (sector : ℕ) (bytes : List ℕ) (old new : S)
    (done : Bool) : Type 0
  where
    pub is_inside : done ≡ true → sector < size old
    pub sector_is_replaced : done ≡ true → told new ≡ option_map (λ told. with_sector told sector bytes) (told old)
    pub failure_keeps_told_contents : done ≡ false → told new ≡ told old
    pub no_call_fails : (done ≡ true) ⊎ (size old ≤ sector) → failures new ≡ failures old
    pub failure_is_noted : done ≡ false → sector < size old → FailsAndPosts (failures old) (failures new)
    pub size_is_kept : size new ≡ size old
