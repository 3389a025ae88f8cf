-- Why the adapter's law on its disks holds of a model: each model tells its disks' sectors if it is one that tells.
use Rattle.std.proofs.Common.{ℕ, Bool, zero, suc, true, false, ◌≡◌, ◌&&◌, List, [], ◌∷◌, Option, None, Some, refl, subst, slice_index_or}
use Rattle.std.specs.Prelude.{is_some}
use Rattle.adapter.specs.Device.{HasKnownSectors}
use Rattle.device_model.specs.ModelState.{all_bay_stores_are_known, media_of, all_media_of, tells}
use Rattle.device_model.specs.declared.bay.Bay.{Bay}

is_told : (told other : Option (ℕ → List ℕ)) → is_some told && is_some other ≡ true → (f : ℕ → List ℕ) × (told ≡ Some f)
is_told None other known = absurd (let e : false ≡ true = known in cc)
is_told (Some f) other known = (f, refl)

module _ {S : Type 0} (size : S → ℕ) (told : S → Option (ℕ → List ℕ)) where
  pub bay_disk_has_known_sectors : (b : Option (Bay S)) → tells told b ≡ true
      → HasKnownSectors (media_of size told b).disk
  bay_disk_has_known_sectors None known = ((λ k. []), refl)
  bay_disk_has_known_sectors (Some b) known = is_told (told b.disk.store) (told b.other.store) known

  pub each_bay_store_is_known : (bays : List (Option (Bay S))) → all_bay_stores_are_known told bays ≡ true → (port : ℕ)
      → tells told (slice_index_or bays port None) ≡ true
  each_bay_store_is_known [] known port = refl
  each_bay_store_is_known (b ∷ rest) known zero = by (tells told b) refl
    where
      by : (x : Bool) → tells told b ≡ x → tells told b ≡ true
      by true e = e
      by false e = absurd (let no : false ≡ true = subst
          (λ y. y && all_bay_stores_are_known told rest ≡ true) e known in cc)
  each_bay_store_is_known (b ∷ rest) known (suc port) = each_bay_store_is_known rest (by (tells told b) known) port
    where
      by : (x : Bool) → x && all_bay_stores_are_known told rest ≡ true → all_bay_stores_are_known told rest ≡ true
      by true e = e
      by false e = absurd (let no : false ≡ true = e in cc)

  pub all_disks_have_known_sectors : (bays : List (Option (Bay S))) → all_bay_stores_are_known told bays ≡ true
      → (port : ℕ)
      → HasKnownSectors ((all_media_of size told bays).media port).disk
  all_disks_have_known_sectors bays known port = bay_disk_has_known_sectors (slice_index_or bays port None)
      (each_bay_store_is_known bays known port)
