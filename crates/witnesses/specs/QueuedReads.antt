-- A history in which two queued reads of one port end in the other order (this project's own; PxCI and PxSACT: AHCI
-- 1.3.1, 3.3.13, 3.3.14 and 5.5.3).
use Rattle.std.specs.Prelude.{true, false, ◌≡◌, List, [], ◌∷◌, Contains, Ok}
use Rattle.ata_types.specs.declared.Port.{Port}
use Rattle.ata_types.specs.declared.PortState.TheVariants.{Ready}
use Rattle.ata_types.specs.declared.request.Op.TheVariants.{Read}
use Rattle.ata_types.specs.declared.request.Outcome.TheVariants as outcome
use Rattle.ata_types.specs.declared.request.Request.{Request}
use Rattle.ata_types.specs.declared.request.RequestId.{RequestId}
use Rattle.hba_regs.specs.declared.reg.Reg.TheVariants.{Px}
use Rattle.hba_regs.specs.declared.reg.PortReg.TheVariants.{Sact, Ci}
use Rattle.adapter.specs.Access.{Access, DoesAll}
use Rattle.adapter.specs.Access.Access.{Reading}
use Rattle.adapter.specs.Device.{Device}
use Rattle.adapter.specs.declared.access.DeviceStep.{DeviceStep}
use Rattle.refinement.specs.Relation.{port_at}
use Rattle.refinement.specs.PortFacts.{RunsWell}
use Rattle.refinement.specs.TwoReadsWitness.{second_id}
use Rattle.refinement.specs.ReadWitness.{first_id}
use Rattle.block_machine.specs.Events.{Submit, Service, AbstractCallResult, Submitted, Replied, IsIssuedIn}
use Rattle.block_machine.specs.Histories.{JointState, JointEvent, joint_state_after}
use Rattle.block_machine.specs.State.{Pending}
use Rattle.identify.specs.declared.wanted.Wanted.TheVariants.{Any}
use Rattle.driver_history.specs.Evidence.{StaysHealthy}
use Rattle.driver_history.specs.Histories.{IsDriverHistory, PortCorresponds}
use Rattle.witnesses.specs.AllowedAccesses.{AreAllowed}
use Rattle.witnesses.specs.RunningAdapter.{queued_disk_mode}

-- The masks are read: PxCI has no bit, since the device has taken both commands; and PxSACT that of slot 0 alone, or
-- none.
abbrev pub second_done_accesses : List Access
second_done_accesses = Reading (Px (port_at 0) Ci) 0 ∷ Reading (Px (port_at 0) Sact) 1 ∷ []

-- The readings by which the first read is found done.
abbrev pub first_done_accesses : List Access
first_done_accesses = Reading (Px (port_at 0) Ci) 0 ∷ Reading (Px (port_at 0) Sact) 0 ∷ []

-- this request alone is answered, with Ok
abbrev pub served_only_ok : RequestId → Request → AbstractCallResult
served_only_ok id asked = Replied (record { id = id; client = asked.client; outcome = outcome.Ok } ∷ [])

-- Port 0 queues commands, 32 at a time, and stays ready. Two reads of it are accepted, each issued in the same call, in
-- slots 0 and 1. The device ends the second one first: a service finds it done, and answers it alone, while the first
-- is issued still, with its bit of PxSACT set. Then the device ends the first, and another service answers that. The
-- services' accesses keep to the adapter's rules; nothing goes wrong on the port in them, and it runs well in the end.
-- Each port's part in the four calls is done, whether it stays healthy or not.
pub record QueuedReadsEndOutOfOrder : Type 0 where
  pub initial_state : JointState Device
  pub queues : initial_state.abstract.ports.mode (port_at 0) ≡ queued_disk_mode
  pub submit_first : JointEvent Device DeviceStep
  pub asked_first : Request
  pub submits_first : (submit_first.event.call ≡ Submit asked_first)
      × (submit_first.event.result ≡ Submitted (Ok first_id))
  pub submit_second : JointEvent Device DeviceStep
  pub asked_second : Request
  pub submits_second : (submit_second.event.call ≡ Submit asked_second)
      × (submit_second.event.result ≡ Submitted (Ok second_id))
  pub both_are_reads : (asked_first.op ≡ Read) × (asked_second.op ≡ Read)
  pub issued : IsIssuedIn first_id submit_first.event.steps × IsIssuedIn second_id submit_second.event.steps
  pub both_active : ((submit_second.device.port 0).sact 0 ≡ true) × ((submit_second.device.port 0).sact 1 ≡ true)
  pub service_second : JointEvent Device DeviceStep
  pub answers_second : (service_second.event.call ≡ Service) × (service_second.event.result ≡ served_only_ok second_id
      asked_second)
  pub one_active : ((service_second.device.port 0).sact 0 ≡ true) × ((service_second.device.port 0).sact 1 ≡ false)
  pub only_first_is_left : (e : Pending)
      → Contains (joint_state_after initial_state (service_second ∷ submit_second ∷ submit_first
      ∷ [])).abstract.machine.book
      e
      → (e.request.id ≡ first_id) × (e.issued ≡ true)
  pub service_first : JointEvent Device DeviceStep
  pub answers_first_only : (service_first.event.call ≡ Service)
      × (service_first.event.result ≡ served_only_ok first_id asked_first)
  pub ready : (initial_state.abstract.ports.state (port_at 0) ≡ Ready)
      × (submit_first.event.ports.state (port_at 0) ≡ Ready) × (submit_second.event.ports.state (port_at 0) ≡ Ready)
      × (service_second.event.ports.state (port_at 0) ≡ Ready) × (service_first.event.ports.state (port_at 0) ≡ Ready)
  pub healthy : StaysHealthy 0 submit_second.device service_second.device
      × StaysHealthy 0 service_second.device service_first.device
  pub port_runs_well : RunsWell (service_first.device.port 0)
  pub service_second_reads_masks : DoesAll second_done_accesses submit_second.device service_second.device
  pub service_first_reads_masks : DoesAll first_done_accesses service_second.device service_first.device
  pub allowed : AreAllowed second_done_accesses submit_second.device service_second.device service_second_reads_masks
      × AreAllowed first_done_accesses service_second.device service_first.device service_first_reads_masks
  pub history : IsDriverHistory (Any ∷ Any ∷ []) initial_state (service_first ∷ service_second ∷ submit_second
      ∷ submit_first ∷
      [])
  pub accesses : (history.0.2.accesses ≡ second_done_accesses) × (history.2.accesses ≡ first_done_accesses)
  pub submit_first_corresponds : (port : Port)
      → PortCorresponds initial_state submit_first history.0.0.0.2.accesses port
  pub submit_second_corresponds : (port : Port) → PortCorresponds (joint_state_after initial_state (submit_first ∷ []))
      submit_second
      history.0.0.2.accesses port
  pub service_second_corresponds : (port : Port) → PortCorresponds (joint_state_after initial_state (submit_second
      ∷ submit_first ∷ []))
      service_second
      history.0.2.accesses port
  pub service_first_corresponds : (port : Port) → PortCorresponds (joint_state_after initial_state (service_second
      ∷ submit_second ∷ submit_first ∷
      []))
      service_first history.2.accesses port
