-- A READ DMA EXT, from its fetch to its end.
use Rattle.std.specs.Prelude.{ℕ, zero, suc, true, ◌≡◌, ◌+◌, ◌<◌, ◌≤◌, ◌⊎◌, List, [], ◌∷◌, ◌++◌, Some, slice_index}
use Rattle.adapter.specs.AskedSteps.{DoesAtLeastOneSlotStep, PostsNone}
use Rattle.adapter.specs.Memory.{bytes_at, changed}
use Rattle.adapter.specs.Commands.{Meaning}
use Rattle.adapter.specs.Device.{HasValidSectors, Device}
use Rattle.adapter.specs.OneCommand.{SlotHasNoCommand}
use Rattle.adapter.specs.Steps.{Can, Steps, done_entry, snapshot_of_bytes}
use Rattle.adapter.specs.Steps.DeviceTransition.{Fetch}
use Rattle.adapter.specs.declared.command.Operation.TheVariants.{Read}
use Rattle.adapter.specs.declared.command.Direction.TheVariants.{ToMemory}
use Rattle.adapter.specs.declared.tape.Entry.{Entry}
use Rattle.adapter.specs.declared.tape.Entry.TheVariants as entry

abbrev pub read_of : ℕ → ℕ → Meaning
read_of first count = record { operation = Read; first = first; count = count }

-- A read that may be fetched. Each of its sectors is on a disk with specified contents, and each of its pieces is in
-- the memory and apart from the others.
pub record IsReadThatCanComplete (d : Device) (port slot first count : ℕ) (places : List ℕ) (told : ℕ
    → List ℕ) : Type 0 where
  pub may_be_fetched : Can (Fetch port slot (read_of first count) places) d
  pub disk_holds_sectors : HasValidSectors (d.port port).disk
  pub told_is : (d.port port).disk.sectors ≡ Some told
  pub on_disk : first + count ≤ (d.port port).disk.sector_count
  pub inside : (k : ℕ) → k < count → slice_index places k + 512 ≤ d.memory_size
  pub pieces_are_apart : (j k : ℕ) → j < k → k < count →
      (slice_index places j + 512 ≤ slice_index places k) ⊎ (slice_index places k + 512 ≤ slice_index places j)

-- the tape's entries of the first n moves: sector after sector goes to piece after piece
abbrev pub read_move_entries : (port slot first : ℕ) (places : List ℕ) (told : ℕ → List ℕ) → ℕ → List Entry
read_move_entries port slot first places told zero = []
read_move_entries port slot first places told (suc n) =
    read_move_entries port slot first places told n
    ++ entry.Move (record {
      port = record { 0 = port };
      slot = record { 0 = slot };
      operation = Read;
      sector = first + n;
      address = slice_index places n;
      direction = ToMemory;
      bytes = snapshot_of_bytes (told (first + n));
    })
    ∷ []

-- The device has done the read and nothing else, by steps of the slot's command alone. Each sector is in its piece, the
-- slot is free, PxIS shows DHRS beside what it showed, and the tape has the moves and the end.
pub record IsReadDone (old new : Device) (port slot first count : ℕ) (places : List ℕ)
    (told : ℕ → List ℕ) : Type 0 where
  pub steps : Steps old new
  pub slot_goes_on : DoesAtLeastOneSlotStep PostsNone port slot old new
  pub dhrs_is_shown : (new.port port).is ≡ changed (old.port port).is 0 true
  pub slot_has_no_command : SlotHasNoCommand (new.port port) slot
  pub tape_tells_read : new.tape ≡ old.tape ++ (read_move_entries port slot first places told count
      ++ done_entry port slot Read ∷ [])
  pub sectors_are_in_memory : (k : ℕ) → k < count → bytes_at new.memory (slice_index places k) 512 ≡ told (first + k)
