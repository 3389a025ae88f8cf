-- Adapters on which a transfer, and a batch of two, may be issued (this project's own).
use Rattle.std.specs.Prelude.{ℕ, false, ◌≡◌, ◌≤◌, List, length}
use Rattle.std.specs.List.{AllZip}
use Rattle.ata_types.specs.declared.memory.TheConstants.{DRIVER_BYTES}
use Rattle.ata_types.specs.declared.request.Frame.{Frame}
use Rattle.adapter.specs.Rules.{IsOn, HasPort}
use Rattle.block_machine.specs.State.{Pending}
use Rattle.block_machine.specs.Steps.{Issue, IsEnabled}
use Rattle.block_machine.specs.declared.due.QueueMode.{QueueMode}
use Rattle.refinement.specs.Relation.{port_at}
use Rattle.refinement.specs.Fragments.{SomeMachineAgrees}
use Rattle.refinement.specs.Slots.{Free}
use Rattle.refinement.specs.TwoReadsWitness.{two_reads_memory}
use Rattle.refinement.specs.ReadWitness.{prepared_read, ready_device}
use Rattle.ncq.specs.Batches.{HasExactlySlotBitsOf, IsBatchStored, MayServeBatch, PlacedTask}
use Rattle.ncq.specs.Tasks.{IsFitTransfer, IsTaskOf, RunsItsList}
use Rattle.ncq.specs.declared.tasks.Task.{Task}

-- What is asked of the adapter before a transfer is issued holds of port 0 of the first read's, before its bit of PxCI
-- was written: with a machine that agrees where no slot is used, and on which a request of that port is due that is a
-- plain transfer, which slot 0 may take.
pub record TransferIssueWitness : Type 0 where
  pub adapter_is_on : IsOn prepared_read
  pub has_port : HasPort prepared_read 0
  pub driver_memory_fits : DRIVER_BYTES ≤ prepared_read.memory_size
  pub list_runs : RunsItsList 0 prepared_read
  pub machine_is_related : SomeMachineAgrees (λ port slot. Free) prepared_read
  pub mode : QueueMode
  pub request : Pending
  pub issue_is_enabled : IsEnabled machine_is_related.machine (Issue mode request)
  pub transfer : Task
  pub frames : List Frame
  pub fits : IsFitTransfer transfer frames
  pub plain : transfer.queued ≡ false
  pub is_task : IsTaskOf (port_at 0) 0 transfer frames mode request

-- Two queued transfers are stored in slots of port 0, with a machine that agrees, on which both requests may be
-- issued; and a value has the slots' bits. So what is asked before a batch is issued can be met, and what is said of
-- issuing it speaks of something.
pub record BatchIssueWitness : Type 0 where
  pub tasks : List PlacedTask
  pub has_two_tasks : length tasks ≡ 2
  pub stored : IsBatchStored (port_at 0) tasks (ready_device two_reads_memory) (ready_device two_reads_memory)
  pub mask : ℕ
  pub mask_has_slots : HasExactlySlotBitsOf tasks mask
  pub mode : QueueMode
  pub requests : List Pending
  pub are_tasks : AllZip (λ t e. IsTaskOf (port_at 0) t.slot t.task t.frames mode e) tasks requests
  pub may_serve_batch : MayServeBatch (port_at 0) tasks mode requests
      (record { slot_states = stored.machine_is_related.0; awaiting_disposition = stored.machine_is_related.2.parked })
      stored.machine_is_related.2.machine
