-- What has to hold that a command can be done to its end.
use Rattle.std.specs.Prelude.{ℕ, Bool, true, false, ◌≡◌, ◌+◌, ◌*◌, ◌/◌, ◌^◌, ◌<◌, ◌≤◌, ◌⊎◌, List, Option, None, Some, length, slice_index}
use Rattle.std.specs.Vec.{vec_len, vec_capacity}
use Rattle.adapter.specs.AskedSteps.{DoesFetch}
use Rattle.adapter.specs.Commands.{Meaning, moves_disk_sectors, sends_page}
use Rattle.adapter.specs.Device.{FetchedCommand, Device}
use Rattle.adapter.specs.Steps.{Can, WorksOn, newly_fetched, next_place}
use Rattle.adapter.specs.Steps.DeviceTransition.{Fetch}
use Rattle.adapter.specs.declared.command.Operation.{Operation}
use Rattle.adapter.specs.declared.command.Prd.{Prd}
use Rattle.device_model.specs.WriteCaches.{HasRoomForOldSectors}
use Rattle.device_model.specs.Trims.{HasClearsLeft, sectors_left_to_change}
use Rattle.device_model.specs.FetchedBytes.{bytes_of}
use Rattle.device_model.specs.PortView.{taken_of}
use Rattle.device_model.specs.WholeAdapter.{HasDisks, AllMedia, device_of}
use Rattle.device_model.specs.declared.cache.Cache.{Cache}
use Rattle.device_model.specs.declared.hardware.Hardware.{Hardware}
use Rattle.device_model.specs.declared.port.TakenCommand.{TakenCommand}

-- the tape has memory for so many more entries
abbrev pub TapeHasRoom : Hardware → ℕ → Type 0
TapeHasRoom h n = vec_len h.tape + n ≤ vec_capacity h.tape

-- A step wasn't done: it isn't possible, and nothing is another; or it is, and the tape had no memory for its one
-- entry, which is told.
abbrev pub IsImpossibleOrLacksTape : Hardware → Hardware → Type 0 → Type 0
IsImpossibleOrLacksTape old new possible = ((possible → ⊥) × (new ≡ old))
    ⊎ (possible × (TapeHasRoom old 1 → ⊥) × (new.starved ≡ true))

-- each of these pieces is in a memory of this size
abbrev pub PiecesInside : ℕ → List ℕ → Type 0
PiecesInside size places = (k : ℕ) → k < length places → slice_index places k + 512 ≤ size

-- each piece of this PRD is, if it has one
abbrev pub IsInside : ℕ → Prd → Type 0
IsInside size prd = 1 ≤ prd.bytes / 512 → prd.address + 512 * (prd.bytes / 512) ≤ size

-- so many moves are left of this command, and each of its pieces is in a memory of this size
pub record HasMovesLeftInMemory (t : FetchedCommand) (size left : ℕ) : Type 0 where
  pub moves_left_are : t.moved + left ≡ length t.places
  pub pieces_are_inside : PiecesInside size t.places

-- the port has disks, or the command names sectors, of which a port without disks has none
abbrev pub HasDisksOrOperationMovesSectors : Device → ℕ → Operation → Type 0
HasDisksOrOperationMovesSectors d port operation = HasDisks d port ⊎ (moves_disk_sectors operation ≡ true)

-- the port, which has disks, works on this command, and its next piece has a place in the memory
pub record HasMove (d : Device) (port slot : ℕ) (t : FetchedCommand) : Type 0 where
  pub works : WorksOn (d.port port) slot t t.meaning.operation
  pub piece_is_left : t.moved < length t.places
  pub piece_is_inside : next_place t + 512 ≤ d.memory_size
  pub has_disks : HasDisks d port

-- the port works on a command of which so many moves, and then so many clears, are left, all of them possible
pub record IsInProgress (d : Device) (port slot left clears : ℕ) : Type 0 where
  pub fetched_command : FetchedCommand
  pub has_moves_left : HasMovesLeftInMemory fetched_command d.memory_size left
  pub has_trim_runs_left : HasClearsLeft fetched_command.meaning.operation d.memory fetched_command clears
  pub works : WorksOn (d.port port) slot fetched_command fetched_command.meaning.operation

-- the same, or the command isn't taken yet, and may be
pub record MayFinish (d : Device) (port slot moves_left clears_left : ℕ) : Type 0 where
  pub fetched_command : FetchedCommand
  pub has_moves_left : HasMovesLeftInMemory fetched_command d.memory_size moves_left
  pub has_trim_runs_left : HasClearsLeft fetched_command.meaning.operation d.memory fetched_command clears_left
  pub is_begun_or_fetchable : WorksOn (d.port port) slot fetched_command fetched_command.meaning.operation
      ⊎ (Can (Fetch port slot fetched_command.meaning fetched_command.places) d
      × (fetched_command ≡ newly_fetched fetched_command.meaning fetched_command.places))

-- the port has a command that sends a page in this slot, taken or not, which can be done to its end; its pieces have
-- addresses of 32 bits
pub record HasFinishablePageCommand (d : Device) (port slot : ℕ) : Type 0 where
  pub moves_left : ℕ
  pub may_finish : MayFinish d port slot moves_left 0
  pub sends_page : sends_page may_finish.fetched_command.meaning.operation ≡ true
  pub addresses_are_low : PiecesInside (2 ^ 32) may_finish.fetched_command.places

-- one that is issued in this slot may be taken, wherever its page is to go
pub record MayTakePageCommand (d : Device) (port slot : ℕ) : Type 0 where
  pub meaning : Meaning
  pub places : List ℕ
  pub sends_page : sends_page meaning.operation ≡ true
  pub can : Can (Fetch port slot meaning places) d

-- What a look at a slot of a port finds: a command that sends a page and can be done to its end; or one that may be
-- taken, but can't be done to its end; or neither.
abbrev pub FindsPageCommandAndWhetherItCanEnd : Device → (port slot : ℕ) → Option Bool → Type 0
FindsPageCommandAndWhetherItCanEnd d port slot (Some true) = HasFinishablePageCommand d port slot
FindsPageCommandAndWhetherItCanEnd d port slot (Some false) = MayTakePageCommand d port slot
    × (HasFinishablePageCommand d port slot → ⊥)
FindsPageCommandAndWhetherItCanEnd d port slot None = (MayTakePageCommand d port slot → ⊥)
    × (HasFinishablePageCommand d port slot → ⊥)

-- some command is taken on the port: so none that sends a page may be, which is alone
abbrev pub HasTakenCommand : Device → ℕ → Type 0
HasTakenCommand d port = (slot : ℕ) × (t : FetchedCommand) × ((d.port port).taken slot ≡ Some t)

-- there is room for the old bytes of each sector that the slot's command is going to change, of so many moves
abbrev pub CacheHasRoomForRestOfCommand : Cache → (port slot left : ℕ) → Device → Type 0
CacheHasRoomForRestOfCommand cache port slot left d = (t : FetchedCommand) → (d.port port).taken slot ≡ Some t
    → HasRoomForOldSectors cache (sectors_left_to_change t.meaning.operation d.memory t left)

-- ---- a command that is to be done to its end

-- so many moves, and then so many clears, are left of this command, all of them possible with this memory
abbrev pub HasMovesAndTrimRunsLeft : TakenCommand → List ℕ → (left clears : ℕ) → Type 0
HasMovesAndTrimRunsLeft t memory left clears =
    HasMovesLeftInMemory (taken_of t) (length memory) left
    × HasClearsLeft t.operation (bytes_of memory) (taken_of t)
    clears

-- It is begun: so many moves and clears are left of it, each possible, and there is room for them and the end; it is
-- taken now, or was.
pub record IsCommandBegun (port slot left clears : ℕ) (is_newly_taken : Bool) (old new : Hardware) : Type 0 where
  pub may_finish : (o : AllMedia) → MayFinish (device_of old o) port slot left clears
  pub is_in_progress : (o : AllMedia) → IsInProgress (device_of new o) port slot left clears
  pub tape_has_room : TapeHasRoom new (left + clears + 1)
  pub newly_taken_is_fetched : is_newly_taken ≡ true → (o : AllMedia)
      → DoesFetch port slot (device_of old o) (device_of new o)
  pub device_is_kept : is_newly_taken ≡ false → (o : AllMedia) → device_of new o ≡ device_of old o
  pub tape_is_kept : new.tape.items ≡ old.tape.items
  pub starved_is_kept : new.starved ≡ old.starved

-- So many moves and clears are left of it, each possible, but there is no room for them and the end, or none for the
-- old bytes of the sectors that they change; and that is told.
pub record LacksRoom (port slot : ℕ) (old new : Hardware) (was now : Cache) : Type 0 where
  pub moves_left : ℕ
  pub clears_left : ℕ
  pub may_finish : (o : AllMedia) → MayFinish (device_of old o) port slot moves_left clears_left
  pub room_was_lacking : (o : AllMedia) (n m : ℕ) (may : MayFinish (device_of old o) port slot n m)
      → TapeHasRoom old (n + m + 1) →
      HasRoomForOldSectors was (sectors_left_to_change may.fetched_command.meaning.operation (device_of old o).memory
      may.fetched_command n) → ⊥
  pub room_is_lacking : (o : AllMedia) (n m : ℕ) (may : MayFinish (device_of old o) port slot n m)
      → TapeHasRoom new (n + m + 1) →
      HasRoomForOldSectors now (sectors_left_to_change may.fetched_command.meaning.operation (device_of old o).memory
      may.fetched_command n) → ⊥
  pub device_is_kept : (o : AllMedia) → device_of new o ≡ device_of old o
  pub starved_is_set : new.starved ≡ true

-- It isn't begun: there is none that can be done to its end, and nothing is another, or there is no room.
abbrev pub NoneMayFinishOrLacksRoom : (port slot : ℕ) → (old new : Hardware) → (was now : Cache) → Type 0
NoneMayFinishOrLacksRoom port slot old new was now =
    (((o : AllMedia) (left clears : ℕ) → MayFinish (device_of old o) port slot left clears → ⊥) × (new ≡ old))
    ⊎ LacksRoom port slot old new was now
