-- Commands that are issued together, by one write of PxSACT and one of PxCI: a batch. Each bit that is written as one
-- is set, and each that is written as zero stays (AHCI 1.3.1, 3.3.13 and 3.3.14; what is stored before is this
-- project's own).
use Rattle.std.specs.Prelude.{ℕ, Bool, true, ◌≡◌, ◌⊎◌, ◌<◌, ◌≤◌, ◌/◌, ◌%◌, ◌++◌, List, [], ◌∷◌, All, AllPairs, Contains}
use Rattle.std.specs.List.{AllZip}
use Rattle.ata_types.specs.declared.Port.{Port}
use Rattle.ata_types.specs.declared.memory.TheConstants.{DRIVER_BYTES}
use Rattle.ata_types.specs.declared.request.Frame.{Frame}
use Rattle.hba_regs.specs.Bits.{bit}
use Rattle.hba_regs.specs.declared.reg.PortReg.TheVariants.{Ci, Sact}
use Rattle.hba_regs.specs.declared.reg.Reg.TheVariants.{Px}
use Rattle.adapter.specs.Access.{Access}
use Rattle.adapter.specs.Access.Access.{Writing, Storing}
use Rattle.adapter.specs.Device.{Device}
use Rattle.adapter.specs.Rules.{IsOn, HasPort}
use Rattle.block_machine.specs.Events.{AllByDevice, AllEnabled}
use Rattle.block_machine.specs.State.{Machine, Pending}
use Rattle.block_machine.specs.Steps.{Step, Issue}
use Rattle.block_machine.specs.declared.due.QueueMode.{QueueMode}
use Rattle.refinement.specs.Acts.{Act, ActsReachWith, DriverSlots, newest_first_steps_of_acts}
use Rattle.refinement.specs.Fragments.{IsDrivenBy, IsSimulated, SomeMachineAgreesWith}
use Rattle.refinement.specs.MemoryLayout.{command_list_address}
use Rattle.refinement.specs.ReadySlots.{IsStoredOnPortWithStSet}
use Rattle.refinement.specs.Slots.{Free, SlotDecodesTo, SlotStates}
use Rattle.command_table.specs.TableStores.{IsHeaderTableOrBlockStore, IsHeaderOrTableStore, IsSlotStateFree}
use Rattle.ncq.specs.Tasks.{BlockNamesSectors, IsFreeArmedOrServing, IsFitTransfer, IsStoreFor, IsTaskOf, RunsItsList, task_places, meaning_of, with_serving, issuing_writes}
use Rattle.ncq.specs.declared.tasks.Task.{Task}

-- ---- a batch

-- a task, the slot of its command, and the frames of its sectors
pub record PlacedTask : Type 0 where
  pub slot : ℕ
  pub task : Task
  pub frames : List Frame

-- a batch of one
abbrev pub batch_of_one : ℕ → Task → List Frame → List PlacedTask
batch_of_one slot task frames = record { slot = slot; task = task; frames = frames } ∷ []

-- a task of the batch has this slot
abbrev pub IsSlotOf : List PlacedTask → ℕ → Type 0
IsSlotOf tasks slot = (t : PlacedTask) × Contains tasks t × (t.slot ≡ slot)

-- no two of them have the same slot
abbrev pub HaveOwnSlots : List PlacedTask → Type 0
HaveOwnSlots tasks = AllPairs (λ a b. a.slot ≡ b.slot → ⊥) tasks

-- the slot of none is in use
abbrev pub BatchSlotsAreUnused : ℕ → List PlacedTask → SlotStates → Type 0
BatchSlotsAreUnused port tasks uses = All (λ t. uses port t.slot ≡ Free) tasks

-- the value has the bits of their slots, and no other
pub record HasExactlySlotBitsOf (tasks : List PlacedTask) (v : ℕ) : Type 0 where
  pub slots_are_set : All (λ t. bit v t.slot ≡ true) tasks
  pub no_other_is_set : (slot : ℕ) → bit v slot ≡ true → IsSlotOf tasks slot

-- the slot's header and table say what the task is to do, and a trim's block names its sectors
pub record MemoryEncodesTask (port : ℕ) (t : PlacedTask) (memory : ℕ → ℕ) : Type 0 where
  pub slot_says_task : SlotDecodesTo memory (command_list_address port) port t.slot (meaning_of t.task)
      (task_places port t.task.op t.task.range.count t.frames)
  pub block_names_sectors : BlockNamesSectors t.task.op t.task.range port memory

-- ---- it is stored

-- it stores what a task of the batch needs
abbrev pub IsStoreForBatch : ℕ → List PlacedTask → Access → Type 0
IsStoreForBatch port tasks access = (t : PlacedTask) × Contains tasks t × IsStoreFor t.task.op port t.slot access

-- What a transfer's command needs was stored in its slot, and nothing else was done: header and table, which say it.
pub record StoresTransfer (port : Port) (t : PlacedTask) (old new : Device) : Type 0 where
  pub adapter_is_on : IsOn new
  pub stores : IsSimulated (IsHeaderOrTableStore port.0 t.slot) (IsSlotStateFree port.0 t.slot) old new
  pub slot_says_task : MemoryEncodesTask port.0 t new.memory

-- Accesses that store for queued transfers led there, and no others: each transfer has a slot of its own that the
-- adapter has (AHCI 1.3.1, 3.1.1, CAP.NCS) and that wasn't in use, and the slot says it. The port runs.
pub record IsBatchStored (port : Port) (tasks : List PlacedTask) (old stored : Device) : Type 0 where
  pub adapter_is_on : IsOn old
  pub has_port : HasPort old port.0
  pub driver_memory_fits : DRIVER_BYTES ≤ old.memory_size
  pub list_runs : RunsItsList port.0 old
  pub machine_is_related : SomeMachineAgreesWith (BatchSlotsAreUnused port.0 tasks) old
  pub slots_are_apart : HaveOwnSlots tasks
  pub slots_in_range : All (λ t. t.slot < 32) tasks
  pub slots_are_usable : All (λ t. t.slot ≤ old.cap / 256 % 32) tasks
  pub transfers_fit : All (λ t. IsFitTransfer t.task t.frames) tasks
  pub all_are_queued : All (λ t. t.task.queued ≡ true) tasks
  pub stores : IsSimulated (IsStoreForBatch port.0 tasks) (BatchSlotsAreUnused port.0 tasks) old stored
  pub slots_say_tasks : All (λ t. MemoryEncodesTask port.0 t stored.memory) tasks

-- ---- it is issued

-- it stores header or table of a slot of the port, or a block, or writes the port's PxSACT or PxCI
abbrev pub IsCommandIssueAccess : Port → Access → Type 0
IsCommandIssueAccess port (Writing r v) = (r ≡ Px port Sact) ⊎ (r ≡ Px port Ci)
IsCommandIssueAccess port (Storing at bytes) = (slot : ℕ) × (slot < 32)
    × IsHeaderTableOrBlockStore port.0 slot (Storing at bytes)
IsCommandIssueAccess port access = ⊥

-- Stores of what the commands need come first, and then the writes of their slots' bits, all at once.
pub record StoresThenWritesAll (port : Port) (queued : Bool) (tasks : List PlacedTask) (accesses : List Access) : Type 0
  where
    pub stores : List Access
    pub all_are_batch_stores : All (IsStoreForBatch port.0 tasks) stores
    pub mask : ℕ
    pub mask_has_slots : HasExactlySlotBitsOf tasks mask
    pub accesses_are : accesses ≡ stores ++ issuing_writes port queued mask

-- the requests' issues, the last one first
abbrev pub issues_newest_first : QueueMode → List Pending → List Step
issues_newest_first mode [] = []
issues_newest_first mode (e ∷ es) = issues_newest_first mode es ++ Issue mode e ∷ []

-- the slots are free, and the requests may be issued one after another
pub record MayServeBatch (port : Port) (tasks : List PlacedTask) (mode : QueueMode) (es : List Pending) (s :
    DriverSlots)
    (m : Machine) : Type 0 where
  pub slots_are_free : BatchSlotsAreUnused port.0 tasks s.slot_states
  pub may_be_issued : AllEnabled m (issues_newest_first mode es)

-- each slot serves the request in its place
abbrev pub with_serving_batch : Port → List PlacedTask → List Pending → DriverSlots → DriverSlots
with_serving_batch port (t ∷ tasks) (e ∷ es) s =
    with_serving_batch port tasks es (with_serving port t.slot e.request.id s)
with_serving_batch port _ _ s = s

-- The device makes steps, and last of all the requests are issued, in this order, by the last act: before it the device
-- alone makes steps. Their slots are put to no other use meanwhile, and each other one is used after each act as before
-- the first.
pub record IssuesBatchAtEnd (port : Port) (tasks : List PlacedTask) (mode : QueueMode) (es : List Pending)
    (uses : SlotStates) (acts : List Act) : Type 0 where
  pub last_act_issues : (early : List Act) × (act : Act) × (acts ≡ early ++ act ∷ [])
      × AllByDevice (newest_first_steps_of_acts early)
  pub device_steps : List Step
  pub only_device_before : AllByDevice device_steps
  pub issues_come_last : newest_first_steps_of_acts acts ≡ issues_newest_first mode es ++ device_steps
  pub own_slots_are_being_issued : AllZip
      (λ t e. All (λ act. IsFreeArmedOrServing e.request.id (act.state_after.slot_states port.0 t.slot)) acts) tasks
      es
  pub other_slots_are_kept : (q k : ℕ) → (q ≡ port.0 → IsSlotOf tasks k → ⊥)
      → All (λ act. act.state_after.slot_states q k ≡ uses q k) acts

-- Such accesses led there, in this order. And from each machine that agrees with the slots free, and on which requests
-- that are these tasks may be issued one after another, acts with these accesses lead to one that agrees with a driver
-- whose slots serve them.
pub record IssuesBatch (port : Port) (tasks : List PlacedTask) (old new : Device) : Type 0 where
  pub queued : Bool
  pub all_are_of_kind : All (λ t. t.task.queued ≡ queued) tasks
  pub slots_in_range : All (λ t. t.slot < 32) tasks
  pub slots_are_apart : HaveOwnSlots tasks
  pub driven : IsDrivenBy (IsCommandIssueAccess port) old new
  pub stores_come_first : StoresThenWritesAll port queued tasks driven.accesses
  pub machine_follows : (mode : QueueMode) (es : List Pending)
      → AllZip (λ t e. IsTaskOf port t.slot t.task t.frames mode e) tasks es
      → ActsReachWith driven.accesses (MayServeBatch port tasks mode es) (with_serving_batch port tasks es)
      (λ s m. IssuesBatchAtEnd port tasks mode es s.slot_states) old new

-- What the write of PxCI makes of a batch: each slot's bytes say its task, and its bits are set.
pub record IsBatchIssued (port : Port) (tasks : List PlacedTask) (old new : Device) : Type 0 where
  pub adapter_is_on : IsOn new
  pub issues : IssuesBatch port tasks old new
  pub stored : All (λ t. IsStoredOnPortWithStSet new port.0 t.slot (meaning_of t.task)
      (task_places port.0 t.task.op t.task.range.count t.frames)) tasks
  pub block_names_sectors : All (λ t. BlockNamesSectors t.task.op t.task.range port.0 new.memory) tasks
  pub ci_is_set : All (λ t. (new.port port.0).ci t.slot ≡ true) tasks
  pub sact_is_set : All (λ t. t.task.queued ≡ true → (new.port port.0).sact t.slot ≡ true) tasks
