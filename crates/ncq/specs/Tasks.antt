-- What the command of a slot is to do for a request, and how it is issued (AHCI 1.3.1, 3.3.13, 3.3.14 and 5.5; ACS-3:
-- READ DMA EXT, WRITE DMA EXT, READ FPDMA QUEUED, WRITE FPDMA QUEUED, DATA SET MANAGEMENT with TRIM, FLUSH CACHE EXT).
use Rattle.std.specs.Prelude.{ℕ, Bool, true, false, not, ◌≡◌, ◌⊎◌, ◌<◌, ◌≤◌, ◌+◌, ◌/◌, ◌^◌, List, [], ◌∷◌, length}
use Rattle.ata_types.specs.declared.Port.{Port}
use Rattle.ata_types.specs.declared.range.Range.{Range}
use Rattle.ata_types.specs.declared.request.Frame.{Frame}
use Rattle.ata_types.specs.declared.request.Op.{Op}
use Rattle.ata_types.specs.declared.request.Op.TheVariants.{Read, Write, Trim, Flush}
use Rattle.ata_types.specs.declared.request.RequestId.{RequestId}
use Rattle.ata_types.specs.declared.limits.TheConstants.{MOST_READ_OR_WRITE_SECTORS}
use Rattle.hba_regs.specs.declared.reg.Reg.TheVariants.{Px}
use Rattle.hba_regs.specs.declared.reg.PortReg.TheVariants.{Ci, Sact}
use Rattle.adapter.specs.Access.{Access, Writes}
use Rattle.adapter.specs.Access.Access.{Writing}
use Rattle.adapter.specs.Commands.{Meaning}
use Rattle.adapter.specs.Device.{Device}
use Rattle.adapter.specs.Memory.{bytes_at}
use Rattle.adapter.specs.Trim.{consecutive, trim_sectors}
use Rattle.adapter.specs.declared.command.Operation.{Operation}
use Rattle.adapter.specs.declared.command.Operation.TheVariants as operation
use Rattle.block_machine.specs.DueRequests.{is_plain}
use Rattle.block_machine.specs.State.{Pending}
use Rattle.block_machine.specs.declared.due.QueueMode.{QueueMode}
use Rattle.refinement.specs.Acts.{DriverSlots}
use Rattle.refinement.specs.MemoryLayout.{command_list_address, scratch_frame_address}
use Rattle.refinement.specs.Slots.{SlotState, Free, Armed, Serves, set_slot_state}
use Rattle.command_table.specs.TableStores.{IsHeaderTableOrBlockStore, IsHeaderOrTableStore}
use Rattle.command_table.specs.SectorPlaces.{places_of}
use Rattle.ncq.specs.declared.tasks.Task.{Task}

-- ---- tasks

-- a read or a write: what moves its sectors to or from its frames
abbrev pub IsReadOrWrite : Op → Type 0
IsReadOrWrite op = (op ≡ Read) ⊎ (op ≡ Write)

-- A read or a write of 1 to 1024 sectors, the first of them below 2^48, and the frames that they need, eight sectors to
-- a frame.
pub record IsFitTransfer (r : Task) (frames : List Frame) : Type 0 where
  pub is_transfer : IsReadOrWrite r.op
  pub count_is_positive : 1 ≤ r.range.count
  pub count_is_allowed : r.range.count ≤ MOST_READ_OR_WRITE_SECTORS
  pub first_in_range : r.range.first.0 < 2 ^ 48
  pub frame_count_is : length frames ≡ (r.range.count + 7) / 8

-- the command that does what a request asks, queued if it is to be
abbrev pub task_operation : Bool → Op → Operation
task_operation true Read = operation.ReadQueued
task_operation false Read = operation.Read
task_operation true Write = operation.WriteQueued
task_operation false Write = operation.Write
task_operation queued Trim = operation.Trim
task_operation queued Flush = operation.Flush

-- of a range, what the command's FIS says: a trim's sectors stand in its block, and a flush has none
abbrev pub number_if_read_or_write : Op → ℕ → ℕ
number_if_read_or_write Read n = n
number_if_read_or_write Write n = n
number_if_read_or_write Trim n = 0
number_if_read_or_write Flush n = 0

-- what the task's command says
abbrev pub meaning_of : Task → Meaning
meaning_of r = record {
  operation = task_operation r.queued r.op;
  first = number_if_read_or_write r.op r.range.first.0;
  count = number_if_read_or_write r.op
      r.range.count;
}

-- The addresses that the slot's bytes say, on this port: a transfer's sectors are in its frames, and a trim's block is
-- in the scratch frame.
abbrev pub task_places : ℕ → Op → ℕ → List Frame → List ℕ
task_places port Read count frames = places_of frames count
task_places port Write count frames = places_of frames count
task_places port Trim count frames = scratch_frame_address port ∷ []
task_places port Flush count frames = []

-- a trim's block stands in the port's scratch frame, and names its sectors (ACS-3)
abbrev pub BlockNamesSectors : Op → Range → ℕ → (ℕ → ℕ) → Type 0
BlockNamesSectors Trim range port memory = trim_sectors (bytes_at memory (scratch_frame_address port) 512)
    ≡ consecutive range.first.0
    range.count
BlockNamesSectors _ range port memory = Unit {0}

-- The request is this task, on this port, and its mode asks for this kind of command. The slot is usable, and a plain
-- one's is slot 0.
pub record IsTaskOf (port : Port) (slot : ℕ) (r : Task) (frames : List Frame) (mode : QueueMode)
    (e : Pending) : Type 0 where
  pub port_is : e.request.port ≡ port
  pub operation_is : e.request.asked.op ≡ r.op
  pub first_is : e.request.asked.first ≡ r.range.first
  pub count_is : e.request.asked.count ≡ r.range.count
  pub frames_are : e.request.asked.frames.items ≡ frames
  pub queued_is : r.queued ≡ not (is_plain mode r.op)
  pub slot_is_usable : slot < mode.usable_slots
  pub plain_in_slot_0 : r.queued ≡ false → slot ≡ 0

-- ---- issuing

-- the port runs, with its command list in its place
pub record RunsItsList (port : ℕ) (d : Device) : Type 0 where
  pub st_is_set : (d.port port).st ≡ true
  pub list_is_in_place : (d.port port).bases.clb ≡ command_list_address port

-- what is stored for a task: the slot's header and table, and a trim's block
abbrev pub IsStoreFor : Op → ℕ → ℕ → Access → Type 0
IsStoreFor Trim port slot access = IsHeaderTableOrBlockStore port slot access
IsStoreFor _ port slot access = IsHeaderOrTableStore port slot access

-- What stands behind the stores: for a queued command PxSACT is written before PxCI (AHCI 1.3.1, 5.5.1).
abbrev pub issuing_writes : Port → Bool → ℕ → List Access
issuing_writes port true v = Writing (Px port Sact) v ∷ Writing (Px port Ci) v ∷ []
issuing_writes port false v = Writing (Px port Ci) v ∷ []

-- PxSACT was written, for a queued command; for a plain one nothing was done
abbrev pub WritesSactIfQueued : Bool → Port → ℕ → Device → Device → Type 0
WritesSactIfQueued true port v old new = Writes (Px port Sact) v old new
WritesSactIfQueued false port v old new = new ≡ old

-- the slot serves the request
abbrev pub with_serving : Port → ℕ → RequestId → DriverSlots → DriverSlots
with_serving port slot id s = record s { slot_states = set_slot_state s.slot_states port.0 slot (Serves id) }

-- on its way from being free to serving this request
abbrev pub IsFreeArmedOrServing : RequestId → SlotState → Type 0
IsFreeArmedOrServing id u = (u ≡ Free) ⊎ ((u ≡ Armed) ⊎ (u ≡ Serves id))
