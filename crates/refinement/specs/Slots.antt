-- What the driver has put into the slots, and what a slot has to do with the request that it serves (this project's
-- own).
use Rattle.std.specs.Prelude.{ℕ, zero, suc, Bool, true, false, not, if◌then◌else◌, ◌&&◌, ◌≡◌, ◌⊎◌, ◌<◌, ◌≤◌, List, [], ◌∷◌, ◌++◌, length, Option, Some, None, slice_index, nat_lt, All}
use Rattle.ata_types.specs.declared.request.Op.{Op}
use Rattle.ata_types.specs.declared.request.Op.TheVariants.{Read, Write, Trim, Flush}
use Rattle.ata_types.specs.declared.request.RequestId.{RequestId}
use Rattle.ata_types.specs.declared.limits.TheConstants.{MOST_REQUEST_FRAMES}
use Rattle.adapter.specs.Commands.{Meaning, is_queued, moves_disk_sectors}
use Rattle.adapter.specs.Device.{FetchedCommand, DevicePort}
use Rattle.adapter.specs.Memory.{bytes_at, changed}
use Rattle.adapter.specs.Decoding.{DecodesTo}
use Rattle.adapter.specs.OneCommand.{SlotHasNoCommand}
use Rattle.adapter.specs.Trim.{trim_sectors, consecutive}
use Rattle.adapter.specs.declared.command.Operation.{Operation}
use Rattle.adapter.specs.declared.command.Operation.TheVariants as operation
use Rattle.adapter.specs.declared.tape.Entry.{Entry}
use Rattle.adapter.specs.declared.tape.Entry.TheVariants as entry
use Rattle.adapter.specs.declared.tape.Move as tape_move
use Rattle.block_machine.specs.State.{Accepted, Pending, Machine}
use Rattle.block_machine.specs.Steps.{IsIssuedOrKept, AllTouched}
use Rattle.refinement.specs.MemoryLayout.{command_list_address, command_table_address, scratch_frame_address, sector_address}

-- What the driver has put into a slot: nothing, its bit of PxSACT alone, a command of its own (IDENTIFY DEVICE or READ
-- LOG EXT), or the request of this id.
pub data SlotState : Type 0 where
  Free : SlotState
  Armed : SlotState
  Own : Operation → SlotState
  Serves : RequestId → SlotState

-- by the numbers of port and slot
abbrev pub SlotStates : Type 0
SlotStates = ℕ → ℕ → SlotState

-- one slot put to another use
abbrev pub set_slot_state : SlotStates → ℕ → ℕ → SlotState → SlotStates
set_slot_state uses port slot u = changed uses port (changed (uses port) slot u)

-- the slot serves a request
abbrev pub is_serving : SlotState → Bool
is_serving Free = false
is_serving Armed = false
is_serving (Own o) = false
is_serving (Serves id) = true

-- how many of the port's slots below n serve a request
abbrev pub serving_count : SlotStates → ℕ → ℕ → ℕ
serving_count uses port zero = 0
serving_count uses port (suc n) = if is_serving (uses port n) then suc (serving_count uses port n) else serving_count
    uses port n

-- the client's operation that a command does; the driver's own do none
abbrev pub client_operation_of : Operation → Option Op
client_operation_of operation.Read = Some Read
client_operation_of operation.ReadQueued = Some Read
client_operation_of operation.Write = Some Write
client_operation_of operation.WriteQueued = Some Write
client_operation_of operation.Trim = Some Trim
client_operation_of operation.Flush = Some Flush
client_operation_of operation.Identify = None
client_operation_of operation.ReadLog = None

-- ---- the command of a slot

-- The places of a request's bytes: its sectors at their places in its frames, a trim's block in the scratch frame.
abbrev pub AreRequestPlaces : Op → ℕ → Accepted → List ℕ → Type 0
AreRequestPlaces Read port r places = (length places ≡ r.asked.count)
    × ((i : ℕ) → i < r.asked.count → slice_index places i ≡ sector_address r.asked.frames.items i)
AreRequestPlaces Write port r places = (length places ≡ r.asked.count)
    × ((i : ℕ) → i < r.asked.count → slice_index places i ≡ sector_address r.asked.frames.items i)
AreRequestPlaces Trim port r places = places ≡ scratch_frame_address port ∷ []
AreRequestPlaces Flush port r places = places ≡ []

-- The command is the request's. Only slot 0 has a block in the scratch frame.
pub record MeansRequest (port slot : ℕ) (r : Accepted) (c : Meaning) (places : List ℕ) : Type 0 where
  pub op_is : client_operation_of c.operation ≡ Some r.asked.op
  pub first_sector_is_if_it_moves_sectors : moves_disk_sectors c.operation ≡ true → c.first ≡ r.asked.first.0
  pub places_are : AreRequestPlaces r.asked.op port r places
  pub trim_is_in_slot_0 : r.asked.op ≡ Trim → slot ≡ 0

-- Header and table of the slot say the command, and the table is the slot's. So they do at each stage, also once the
-- command is taken, has ended or was given up: what a slot in use has is never stored to.
pub record SlotDecodesTo (memory : ℕ → ℕ) (list port slot : ℕ) (c : Meaning) (places : List ℕ) : Type 0 where
  pub decodes_to : DecodesTo memory list slot c places
  pub table_is : decodes_to.table ≡ command_table_address port slot
  pub prds_are_few : length decodes_to.prds ≤ MOST_REQUEST_FRAMES

-- The port's command list is in its place.
pub record HasListInPlace (p : DevicePort) (port slot : ℕ) : Type 0 where
  pub port_below : port < 4
  pub slot_below : slot < 32
  pub list : p.bases.clb ≡ command_list_address port

-- ---- how far a request's command is

-- the first n sectors were touched, and no others
abbrev pub TouchedUpTo : (ℕ → Bool) → ℕ → Type 0
TouchedUpTo touched n = (i : ℕ) → touched i ≡ nat_lt i n

-- the block of a trim names the request's sectors
abbrev pub MeansRange : List ℕ → Accepted → Type 0
MeansRange block r = trim_sectors block ≡ consecutive r.asked.first.0 r.asked.count

-- a trim's block stands in the scratch frame
abbrev pub HasBlockIfTrim : Op → (ℕ → ℕ) → ℕ → Accepted → Type 0
HasBlockIfTrim Trim memory port r = MeansRange (bytes_at memory (scratch_frame_address port) 512) r
HasBlockIfTrim _ memory port r = Unit {0}

-- issued, and not taken yet: the request isn't ended
pub record AwaitsFetch (memory : ℕ → ℕ) (p : DevicePort) (port slot : ℕ) (e : Pending) (c : Meaning) : Type 0 where
  pub started : p.st ≡ true
  pub issued : p.ci slot ≡ true
  pub is_not_taken : p.taken slot ≡ None
  pub sact : p.sact slot ≡ is_queued c.operation
  pub has_block_if_trim : HasBlockIfTrim e.request.asked.op memory port e.request
  pub untouched : TouchedUpTo e.touched 0
  pub unended : e.ended ≡ false

-- what a taken command has moved, or cleared, was touched
abbrev pub TouchedAsMovedOrCleared : Op → (ℕ → ℕ) → ℕ → Pending → FetchedCommand → Type 0
TouchedAsMovedOrCleared Read memory port e t = TouchedUpTo e.touched t.moved
TouchedAsMovedOrCleared Write memory port e t = TouchedUpTo e.touched t.moved
TouchedAsMovedOrCleared Trim memory port e t =
    TouchedUpTo e.touched t.cleared
    × (((t.moved ≡ 0) × (t.cleared ≡ 0) × MeansRange (bytes_at memory (scratch_frame_address port) 512) e.request)
    ⊎ ((t.moved ≡ 1) × MeansRange t.block e.request))
TouchedAsMovedOrCleared Flush memory port e t = Unit {0}

-- Taken by the device: the request hasn't ended, even if all its sectors were touched.
pub record IsTakenFor (memory : ℕ → ℕ) (p : DevicePort) (port slot : ℕ) (e : Pending) (c : Meaning)
    (places : List ℕ) : Type 0 where
  pub command : FetchedCommand
  pub taken : p.taken slot ≡ Some command
  pub meaning : command.meaning ≡ c
  pub places_are : command.places ≡ places
  pub running : p.cr ≡ true
  pub ci_is_set_iff_st_and_plain : p.ci slot ≡ p.st && not (is_queued c.operation)
  pub sact : p.sact slot ≡ p.st && is_queued c.operation
  pub progress : TouchedAsMovedOrCleared e.request.asked.op memory port e command
  pub unended : e.ended ≡ false

-- ended, its bits clear
pub record IsEnded (p : DevicePort) (slot : ℕ) (e : Pending) : Type 0 where
  pub is_not_issued : p.ci slot ≡ false
  pub sact_is_clear : p.sact slot ≡ false
  pub is_not_taken : p.taken slot ≡ None
  pub ended : e.ended ≡ true
  pub touched : AllTouched e

-- given up by the device before it ended: ST was cleared before it was taken, CR fell, or a reset of the adapter ended
pub record IsDropped (p : DevicePort) (slot : ℕ) (e : Pending) : Type 0 where
  pub st_is_clear : p.st ≡ false
  pub is_not_issued : p.ci slot ≡ false
  pub sact_is_clear : p.sact slot ≡ false
  pub is_not_taken : p.taken slot ≡ None
  pub unended : e.ended ≡ false

-- a request's command waits, is taken, has ended, or was given up
abbrev pub IsInSomeStage : (ℕ → ℕ) → DevicePort → ℕ → ℕ → Pending → Meaning → List ℕ → Type 0
IsInSomeStage memory p port slot e c places =
    AwaitsFetch memory p port slot e c ⊎ (IsTakenFor memory p port slot e c places
    ⊎ (IsEnded p slot e ⊎ IsDropped p slot e))

-- The slot serves the request of this id: its bytes say the request's command.
pub record ServesRequest (m : Machine) (memory : ℕ → ℕ) (p : DevicePort) (port slot : ℕ) (id : RequestId) : Type 0 where
  pub pending : Pending
  pub may_still_move : IsIssuedOrKept m pending
  pub id_is : pending.request.id ≡ id
  pub port_is : pending.request.port.0 ≡ port
  pub list_is_in_place : HasListInPlace p port slot
  pub command : Meaning
  pub places : List ℕ
  pub slot_decodes_to : SlotDecodesTo memory p.bases.clb port slot command places
  pub means : MeansRequest port slot pending.request command places
  pub stage : IsInSomeStage memory p port slot pending command places

-- ---- the driver's own commands

-- the entry is a move of the port's, by a command of this operation
abbrev pub IsMove : ℕ → Operation → Entry → Type 0
IsMove port o (entry.Move move) = (move.port.0 ≡ port) × (move.operation ≡ o)
IsMove port o _ = ⊥

-- The page that the port's last command of this operation brought stands in the scratch frame, and it came when the
-- tape was at least so long.
pub record PageCameSinceAndStandsInScratch (memory : ℕ → ℕ) (tape : List Entry) (port : ℕ) (o : Operation)
    (since : ℕ) : Type 0
  where
    pub before : List Entry
    pub came_since : since ≤ length before
    pub move : tape_move.Move
    pub later : List Entry
    pub tape_is_split : tape ≡ before ++ entry.Move move ∷ later
    pub is_move : IsMove port o (entry.Move move)
    pub no_later_move : All (λ e. IsMove port o e → ⊥) later
    pub scratch_holds_page : bytes_at memory (scratch_frame_address port) 512 ≡ move.bytes.value

-- issued, and not taken yet
pub record OwnAwaitsFetch (p : DevicePort) (slot : ℕ) : Type 0 where
  pub started : p.st ≡ true
  pub issued : p.ci slot ≡ true
  pub is_not_taken : p.taken slot ≡ None

-- taken by the device
pub record OwnIsTaken (memory : ℕ → ℕ) (tape : List Entry) (p : DevicePort) (port slot : ℕ) (c : Meaning) : Type 0 where
  pub command : FetchedCommand
  pub taken : p.taken slot ≡ Some command
  pub meaning : command.meaning ≡ c
  pub places_are : command.places ≡ scratch_frame_address port ∷ []
  pub running : p.cr ≡ true
  pub issued : p.ci slot ≡ p.st
  pub page_stands_in_scratch_if_moved : (command.moved ≡ 0) ⊎ ((command.moved ≡ 1)
      × PageCameSinceAndStandsInScratch memory tape port c.operation
      p.notes.st_set_at)

-- Ended: if ST is one, its page came since ST was set, and is in the scratch frame.
pub record OwnIsOverWithPageIfSt (memory : ℕ → ℕ) (tape : List Entry) (p : DevicePort) (port slot : ℕ)
    (c : Meaning) : Type 0 where
  pub over : SlotHasNoCommand p slot
  pub page_stands_in_scratch_if_st : (p.st ≡ false)
      ⊎ PageCameSinceAndStandsInScratch memory tape port c.operation p.notes.st_set_at

-- The slot has a command of the driver's own, which is plain and has its page in the scratch frame. Only slot 0 has
-- one.
pub record ServesOwn (memory : ℕ → ℕ) (tape : List Entry) (p : DevicePort) (port slot : ℕ)
    (o : Operation) : Type 0 where
  pub operation_is_drivers_own : client_operation_of o ≡ None
  pub slot_is_0 : slot ≡ 0
  pub list_is_in_place : HasListInPlace p port slot
  pub command : Meaning
  pub operation_is : command.operation ≡ o
  pub slot_decodes_to : SlotDecodesTo memory p.bases.clb port slot command (scratch_frame_address port ∷ [])
  pub unqueued : p.sact slot ≡ false
  pub st_set_is_on_tape : p.notes.st_set_at ≤ length tape
  pub stage : OwnAwaitsFetch p slot ⊎ (OwnIsTaken memory tape p port slot command
      ⊎ OwnIsOverWithPageIfSt memory tape p port slot command)

-- no command is issued or taken, and no bit of SACT is set
pub record IsEmptySlot (p : DevicePort) (slot : ℕ) : Type 0 where
  pub is_not_issued : p.ci slot ≡ false
  pub is_not_taken : p.taken slot ≡ None
  pub unarmed : p.sact slot ≡ false

-- No command is issued or taken, and the bit of SACT is set for the next one; clearing ST clears it.
pub record IsArmedIfSt (p : DevicePort) (slot : ℕ) : Type 0 where
  pub is_not_issued : p.ci slot ≡ false
  pub is_not_taken : p.taken slot ≡ None
  pub armed : p.sact slot ≡ p.st

-- the relation of one slot
abbrev pub RelatesSlot : Machine → (ℕ → ℕ) → List Entry → DevicePort → ℕ → ℕ → SlotState → Type 0
RelatesSlot m memory tape p port slot Free = IsEmptySlot p slot
RelatesSlot m memory tape p port slot Armed = IsArmedIfSt p slot
RelatesSlot m memory tape p port slot (Own o) = ServesOwn memory tape p port slot o
RelatesSlot m memory tape p port slot (Serves id) = ServesRequest m memory p port slot id
