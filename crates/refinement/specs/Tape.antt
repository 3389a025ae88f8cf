-- What an entry of the tape is to the block machine (this project's own).
use Rattle.std.specs.Prelude.{ℕ, zero, suc, ◌≡◌, ◌≢◌, ◌⊎◌, ◌+◌, ◌/◌, ◌<◌, ◌≤◌, List, [], ◌∷◌, ◌++◌, Option, Some, None, All, slice_index}
use Rattle.ata_types.specs.declared.request.Op.{Op}
use Rattle.ata_types.specs.declared.request.Op.TheVariants.{Read, Write, Trim, Flush}
use Rattle.adapter.specs.Commands.{direction_of}
use Rattle.adapter.specs.Device as device
use Rattle.adapter.specs.declared.tape.Move as tape_move
use Rattle.adapter.specs.declared.tape.Clear as tape_clear
use Rattle.adapter.specs.declared.tape.Done as tape_done
use Rattle.adapter.specs.declared.tape.Entry.{Entry}
use Rattle.adapter.specs.declared.tape.Entry.TheVariants as entry
use Rattle.block_machine.specs.State.{DiskBytes, Pending, Machine, nth_frame, sector_of}
use Rattle.block_machine.specs.Steps.{Step, Touch, End, Unplug, PlugDisk, IsIssuedOrKept, touch}
use Rattle.block_machine.specs.Expected.{after}
use Rattle.block_machine.specs.Events.{IsByDevice}
use Rattle.refinement.specs.MemoryLayout.{scratch_frame_address, sector_address}
use Rattle.refinement.specs.Slots.{client_operation_of}

-- Sector number i of a request that may move went between its place on the disk and its place in memory, in the
-- operation's direction, and the frame there is lent to the request.
pub record MovesSector (m : Machine) (op : Op) (move : tape_move.Move) (steps : List Step) : Type 0 where
  pub pending : Pending
  pub may_still_move : IsIssuedOrKept m pending
  pub port_is : pending.request.port ≡ move.port
  pub op_is : pending.request.asked.op ≡ op
  pub sector_number : ℕ
  pub number_is_in_range : sector_number < pending.request.asked.count
  pub sector_is : move.sector ≡ sector_of pending.request sector_number
  pub place_is : move.address ≡ sector_address pending.request.asked.frames.items sector_number
  pub direction_is : move.direction ≡ direction_of move.operation
  pub frame_is_lent : m.lent (nth_frame pending.request.asked.frames.items (sector_number / 8))
      ≡ Some pending.request.id
  pub step_is : steps ≡ Touch pending sector_number (slice_index move.bytes.value) ∷ []

-- A move, by the client's operation that its command does. A page, or a trim's block, goes between disk and scratch
-- frame: that is no step of the machine.
abbrev pub TellsTouchOrIsScratchMove : Option Op → Machine → tape_move.Move → List Step → Type 0
TellsTouchOrIsScratchMove None m move steps = (move.address ≡ scratch_frame_address move.port.0) × (steps ≡ [])
TellsTouchOrIsScratchMove (Some Read) m move steps = MovesSector m Read move steps
TellsTouchOrIsScratchMove (Some Write) m move steps = MovesSector m Write move steps
TellsTouchOrIsScratchMove (Some Trim) m move steps = (move.address ≡ scratch_frame_address move.port.0) × (steps ≡ [])
TellsTouchOrIsScratchMove (Some Flush) m move steps = ⊥

-- n sectors touched in a row, from one on: the request then, and the steps, the newest first. No bytes are moved.
abbrev pub with_sectors_touched : Pending → ℕ → ℕ → Pending
with_sectors_touched e from zero = e
with_sectors_touched e from (suc n) = touch (from + n) (with_sectors_touched e from n)

-- The machine touches this many sectors of the request, from this place on.
abbrev pub touch_steps : Pending → ℕ → ℕ → List Step
touch_steps e from zero = []
touch_steps e from (suc n) = Touch (with_sectors_touched e from n) (from + n) (λ b. 0) ∷ touch_steps e from n

-- sectors of a trim became zero
pub record ClearsSectors (m : Machine) (clear : tape_clear.Clear) (steps : List Step) : Type 0 where
  pub pending : Pending
  pub may_still_move : IsIssuedOrKept m pending
  pub port_is : pending.request.port ≡ clear.port
  pub op_is : pending.request.asked.op ≡ Trim
  pub first_number : ℕ
  pub numbers_are_in_range : first_number + clear.count ≤ pending.request.asked.count
  pub first_is : clear.first ≡ sector_of pending.request first_number
  pub step_is : steps ≡ touch_steps pending first_number clear.count

-- A request's command ended. The tape ties it to no slot: which request ended follows from the slots, since none whose
-- command waits, is taken or was given up has.
pub record EndsPending (m : Machine) (op : Op) (done : tape_done.Done) (steps : List Step) : Type 0 where
  pub pending : Pending
  pub may_still_move : IsIssuedOrKept m pending
  pub port_is : pending.request.port ≡ done.port
  pub op_is : pending.request.asked.op ≡ op
  pub step_is : steps ≡ End pending ∷ []

-- an end, by the client's operation that its command does
abbrev pub TellsDone : Option Op → Machine → tape_done.Done → List Step → Type 0
TellsDone None m done steps = steps ≡ []
TellsDone (Some op) m done steps = EndsPending m op done steps

-- The machine's steps that an entry stands for. Of a disk that was put in the tape has only the name.
abbrev pub TellsEntry : Machine → Entry → List Step → Type 0
TellsEntry m (entry.Move move) steps = TellsTouchOrIsScratchMove (client_operation_of move.operation) m move steps
TellsEntry m (entry.Clear clear) steps = ClearsSectors m clear steps
TellsEntry m (entry.Done done) steps = TellsDone (client_operation_of done.operation) m done steps
TellsEntry m (entry.Fault fault) steps = steps ≡ []
TellsEntry m (entry.Fatal port) steps = steps ≡ []
TellsEntry m (entry.Unplug port) steps = steps ≡ Unplug port ∷ []
TellsEntry m (entry.Plug port name) steps =
    (size : ℕ) × (content : DiskBytes) × (steps ≡ PlugDisk port name size content ∷ [])

-- The entries, the oldest first, are these steps, the newest first: nothing else, and in their order.
abbrev pub TapeTells : Machine → List Entry → List Step → Type 0
TapeTells m [] steps = steps ≡ []
TapeTells m (entry ∷ entries) steps =
    (first : List Step) × (rest : List Step) × TellsEntry m entry first × TapeTells (after m first) entries rest
    × (steps ≡ rest ++ first)

-- at most one of the entries is of this kind
abbrev pub OneAtMost : (Entry → Type 0) → List Entry → Type 0
OneAtMost IsKind [] = Unit {0}
OneAtMost IsKind (entry ∷ entries) = (IsKind entry → All (λ e. IsKind e → ⊥) entries) × OneAtMost IsKind entries

-- ---- which disks were put in

-- The machine has the disk's name, its size and, if the disk has specified contents, their bytes.
pub record IsPutIn (disk : device.Disk) (name size : ℕ) (content : DiskBytes) : Type 0 where
  pub name_is : name ≡ disk.name
  pub size_is : size ≡ disk.sector_count
  pub bytes_are_same : (told : ℕ → List ℕ) → disk.sectors ≡ Some told → (k b : ℕ) → k < disk.sector_count → b < 512
      → slice_index (told k) b ≡ content k b

-- the disks that these steps, the newest first, put into the port, the oldest first
abbrev pub PortPlugsPutInDisks : ℕ → List device.Disk → List Step → Type 0
PortPlugsPutInDisks port disks [] = disks ≡ []
PortPlugsPutInDisks port disks (PlugDisk q name size content ∷ steps) =
    ((q.0 ≢ port) × PortPlugsPutInDisks port disks steps)
    ⊎ ((q.0 ≡ port) × ((earlier : List device.Disk) × (disk : device.Disk) × (disks ≡ earlier ++ disk ∷ [])
    × IsPutIn disk name size content × PortPlugsPutInDisks port earlier steps))
PortPlugsPutInDisks port disks (step ∷ steps) = PortPlugsPutInDisks port disks steps

-- ---- what a call adds: device steps, and the driver's own between them

-- no step is the device's
abbrev pub NoneByDevice : List Step → Type 0
NoneByDevice [] = Unit {0}
NoneByDevice (step ∷ before) = NoneByDevice before × (IsByDevice step → ⊥)

-- The entries, the oldest first, are the device's steps among these, the newest first. The other steps are the driver's
-- own.
abbrev pub TellsDeviceSteps : Machine → List Entry → List Step → Type 0
TellsDeviceSteps m [] steps = NoneByDevice steps
TellsDeviceSteps m (entry ∷ entries) steps =
    (own : List Step) × (first : List Step) × (rest : List Step) × NoneByDevice own
    × TellsEntry (after m own) entry first
    × TellsDeviceSteps (after m (first ++ own)) entries rest × (steps ≡ rest ++ (first ++ own))
