-- A disk and the memory exchange the next piece of a command.
use Rattle.std.specs.Prelude.{ℕ, ◌≡◌, ◌<◌, ◌+◌, Bool, true, false, List, Option, IfSome, length, if◌then◌else◌}
use Rattle.adapter.specs.Commands.{moves_disk_sectors, reads_memory}
use Rattle.adapter.specs.Device.{IsValidSector}
use Rattle.adapter.specs.Memory.{bytes_at, patched}
use Rattle.adapter.specs.Steps.{disk_after}
use Rattle.sector_store.specs.declared.store.Failures.{Failures}
use Rattle.device_model.specs.WriteCaches.{OneMoreCallFails, HasRoomForOldSectors}
use Rattle.device_model.specs.Disks.{disk_over, identity, lasting_of}
use Rattle.device_model.specs.FetchedBytes.{bytes_of}
use Rattle.device_model.specs.DiskPages.{IsSentLog, IsSentIdentify}
use Rattle.device_model.specs.Trims.{sectors_left_to_write}
use Rattle.device_model.specs.declared.bay.Bay.{Bay}
use Rattle.device_model.specs.declared.hardware.Hardware.{Hardware}
use Rattle.adapter.specs.declared.command.Operation.TheVariants.{Identify, ReadLog}
use Rattle.device_model.specs.declared.steps.NextMove.{NextMove}

-- the 512 bytes that stand in the memory at the place of the next move
abbrev pub piece_in_memory : Hardware → NextMove → List ℕ
piece_in_memory h next = bytes_at (bytes_of h.memory.items) next.address 512

-- it was exchanged: it stands in memory, where nothing else is another; what the device reads there is as it was
pub record IsTransferred (old new : Hardware) (next : NextMove) : Type 0 where
  pub rest_is_kept : new ≡ record old { memory = new.memory }
  pub memory_size_is_kept : length new.memory.items ≡ length old.memory.items
  pub memory_is : bytes_of new.memory.items
      ≡ (if reads_memory next.operation then bytes_of old.memory.items
      else patched (bytes_of old.memory.items) next.address (piece_in_memory new next))

-- Bytes of memory, as they were and as they are now. The disk that is in has given them: the sector of a read, or its
-- page. Or it has taken them as a write's sector, or they are a trim's block. Or the store has failed: it tells what it
-- told, and the bytes are as they were. What is lasting of the disk stays so.
pub record TransfersPieceOrFails {S : Type 0} (size : S → ℕ) (told : S → Option (ℕ → List ℕ))
    (failures : S → Option Failures)
    (old new : Bay S) (next : NextMove) (before after : List ℕ) (done : Bool) : Type 0 where
  pub done_sector_is_on_disk : done ≡ true → moves_disk_sectors next.operation ≡ true
      → next.sector < size old.disk.store
  pub bytes_are_sector : IsValidSector after
  pub read_gives_told : done ≡ true → moves_disk_sectors next.operation ≡ true →
      reads_memory next.operation ≡ false →
      IfSome (told old.disk.store) (λ told. after ≡ told next.sector)
  pub write_keeps_bytes : reads_memory next.operation ≡ true → after ≡ before
  pub failure_keeps_bytes : done ≡ false → after ≡ before
  pub identify_page_is_sent : done ≡ true → next.operation ≡ Identify
      → IsSentIdentify (identity size old.disk) old.page_source after
  pub log_page_is_sent : done ≡ true → next.operation ≡ ReadLog → IsSentLog old.page_source after
  pub unranged_keeps_bay : moves_disk_sectors next.operation ≡ false → new ≡ old
  pub disk_is : done ≡ true → disk_over old.which (size new.disk.store) (told new.disk.store)
      ≡ disk_after next.operation (disk_over old.which (size old.disk.store) (told
      old.disk.store))
      next.sector after
  pub failure_keeps_told_contents : done ≡ false → told new.disk.store ≡ told old.disk.store
  pub size_is_kept : size new.disk.store ≡ size old.disk.store
  pub no_call_failed : done ≡ true → failures new.disk.store ≡ failures old.disk.store
  pub only_ranged_fails : done ≡ false → moves_disk_sectors next.operation ≡ true
  pub failure_is_noted : done ≡ false → next.sector < size old.disk.store →
      OneMoreCallFails old.cache.is_on (reads_memory next.operation) next.sector (failures
      old.disk.store)
      (failures new.disk.store)
  pub lasting_is_kept : lasting_of told new ≡ lasting_of told old
  pub cache_mode_is_kept : new.cache.is_on ≡ old.cache.is_on
  pub cache_has_room : (n : ℕ) → HasRoomForOldSectors old.cache
      (sectors_left_to_write next.operation 1 + n)
      → HasRoomForOldSectors new.cache n
  pub rest_is_kept : new ≡ record old { disk = record old.disk { store = new.disk.store }; cache = new.cache }
