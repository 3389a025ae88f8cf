-- When a task's command may be issued in a slot, what was done before PxCI is written, and what that makes of it
-- (AHCI 1.3.1, 5.5.1; the order is this project's own).
use Rattle.std.specs.Prelude.{ℕ, Bool, false, ◌≡◌, ◌<◌, ◌≤◌, ◌/◌, ◌%◌, List, All}
use Rattle.ata_types.specs.declared.Port.{Port}
use Rattle.ata_types.specs.declared.memory.TheConstants.{DRIVER_BYTES}
use Rattle.ata_types.specs.declared.request.Frame.{Frame}
use Rattle.ata_types.specs.declared.request.Op.TheVariants.{Trim}
use Rattle.adapter.specs.Commands.{is_queued}
use Rattle.adapter.specs.Device.{Device}
use Rattle.adapter.specs.Rules.{IsOn, HasPort}
use Rattle.refinement.specs.Fragments.{SomeMachineAgreesWith, IsSimulated}
use Rattle.command_table.specs.TableStores.{IsSlotStateFree}
use Rattle.ncq.specs.Batches.{BatchSlotsAreUnused, HasExactlySlotBitsOf, HaveOwnSlots, IsBatchIssued, IsStoreForBatch, MemoryEncodesTask, PlacedTask, batch_of_one}
use Rattle.ncq.specs.Tasks.{WritesSactIfQueued, IsFitTransfer, IsStoreFor, RunsItsList, meaning_of}
use Rattle.ncq.specs.declared.tasks.Issue.{Issue}
use Rattle.ncq.specs.declared.tasks.Task.{Task}

-- A command may be issued in the port's slot: the slot is unused, memory has the driver's areas, and the port runs,
-- with its command list in its place (AHCI 1.3.1, 5.5.1).
pub record MayIssueTask (port : Port) (slot : ℕ) (d : Device) : Type 0 where
  pub adapter_is_on : IsOn d
  pub has_port : HasPort d port.0
  pub driver_memory_fits : DRIVER_BYTES ≤ d.memory_size
  pub machine_is_related : SomeMachineAgreesWith (IsSlotStateFree port.0 slot) d
  pub list_runs : RunsItsList port.0 d

-- A transfer's command may be issued in the port's slot: the slot is one that the adapter has (AHCI 1.3.1, 3.1.1,
-- CAP.NCS), and the transfer fits its frames.
pub record MayIssueTransfer (port : Port) (slot : ℕ) (r : Task) (frames : List Frame) (d : Device) : Type 0 where
  pub may_issue_task : MayIssueTask port slot d
  pub slot_in_range : slot < 32
  pub slot_is_usable : slot ≤ d.cap / 256 % 32
  pub transfer_fits : IsFitTransfer r frames

-- the task of what is issued, in its slot, with the frames of its loan
abbrev pub placed_task_of : Issue → PlacedTask
placed_task_of what = record { slot = what.slot.0; task = what.task; frames = what.loan.now.frames }

-- The commands of these tasks might be issued in their slots, all queued or none, and a trim's in slot 0. What they
-- need was stored, and says them; and the slots' bits of PxSACT were set for queued commands.
pub record IsArmedFor (port : Port) (queued : Bool) (tasks : List PlacedTask) (mask : ℕ) (old armed : Device) : Type 0
  where
    pub adapter_is_on : IsOn old
    pub has_port : HasPort old port.0
    pub list_runs : RunsItsList port.0 old
    pub machine_is_related : SomeMachineAgreesWith (BatchSlotsAreUnused port.0 tasks) old
    pub slots_are_apart : HaveOwnSlots tasks
    pub slots_in_range : All (λ t. t.slot < 32) tasks
    pub slots_are_usable : All (λ t. t.slot ≤ old.cap / 256 % 32) tasks
    pub all_are_of_kind : All (λ t. t.task.queued ≡ queued) tasks
    pub operation_is_queued : All (λ t. is_queued (meaning_of t.task).operation ≡ t.task.queued) tasks
    pub trim_in_slot_0 : All (λ t. t.task.op ≡ Trim → t.slot ≡ 0) tasks
    pub after_stores : Device
    pub stores : IsSimulated (IsStoreForBatch port.0 tasks) (BatchSlotsAreUnused port.0 tasks) old after_stores
    pub slots_say_tasks : All (λ t. MemoryEncodesTask port.0 t after_stores.memory) tasks
    pub mask_has_slots : HasExactlySlotBitsOf tasks mask
    pub arms : WritesSactIfQueued queued port mask after_stores armed

-- what the write of PxCI makes of one task
abbrev pub IsIssued : Port → ℕ → Task → List Frame → Device → Device → Type 0
IsIssued port slot r frames old new = IsBatchIssued port (batch_of_one slot r frames) old new

-- What a plain task needs was stored in slot 0, which was unused, and nothing else was done: header and table, which
-- say it, and a trim's block.
pub record IsPlainTaskStored (port : Port) (r : Task) (frames : List Frame) (old stored : Device) : Type 0 where
  pub may_issue_task : MayIssueTask port 0 old
  pub is_plain : r.queued ≡ false
  pub operation_is_plain : is_queued (meaning_of r).operation ≡ false
  pub stores : IsSimulated (IsStoreFor r.op port.0 0) (IsSlotStateFree port.0 0) old stored
  pub slot_says_task : MemoryEncodesTask port.0 (record { slot = 0; task = r; frames = frames }) stored.memory
