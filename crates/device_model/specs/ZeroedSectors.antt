-- Sectors of a disk are made zero.
use Rattle.std.specs.Prelude.{ℕ, true, ◌≡◌, ◌+◌, ◌<◌, ◌≤◌, List, Option}
use Rattle.adapter.specs.Steps.{disk_cleared}
use Rattle.sector_store.specs.declared.store.Failures.{Failures}
use Rattle.device_model.specs.WriteCaches.{OneMoreCallFails, HasRoomForOldSectors, lasting_in}
use Rattle.device_model.specs.Disks.{disk_over}
use Rattle.device_model.specs.declared.cache.Cache.{Cache}
use Rattle.device_model.specs.declared.clearing.SectorExtent.{SectorExtent}
use Rattle.device_model.specs.declared.disks.DiskIndex.{DiskIndex}

-- So many sectors of these, of the disk that is in, were made zero, the first of them first: all, or those before the
-- one at which the store failed. With a cache, what they held is kept before, so what is lasting of the disk stays so.
pub record MakesZero {S : Type 0} (size : S → ℕ) (told : S → Option (ℕ → List ℕ)) (failures : S → Option Failures)
    (which : DiskIndex) (run : SectorExtent) (count : ℕ) (old new : S) (was now : Cache) : Type 0 where
  pub count_is_allowed : count ≤ run.count
  pub disk_is : disk_over which (size new) (told new)
      ≡ disk_cleared (disk_over which (size old) (told old)) run.first count
  pub size_is_kept : size new ≡ size old
  pub no_clear_keeps_sectors : count ≡ 0 → told new ≡ told old
  pub no_call_failed : count ≡ run.count → failures new ≡ failures old
  pub failure_is_noted : count < run.count → OneMoreCallFails was.is_on true (run.first + count) (failures old)
      (failures new)
  pub lasting_is_kept : (noted : Option (ℕ → List ℕ)) → lasting_in now (told new) noted
      ≡ lasting_in was (told old) noted
  pub cache_mode_is_kept : now.is_on ≡ was.is_on
  pub cache_has_room : (n : ℕ) → HasRoomForOldSectors was (run.count + n) → HasRoomForOldSectors now n
