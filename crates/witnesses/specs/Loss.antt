-- A history in which a service finds a read done on one port, and loses the disk of another meanwhile (this project's
-- own).
use Rattle.std.specs.Prelude.{true, ◌≡◌, ◌++◌, List, [], ◌∷◌, Ok}
use Rattle.ata_types.specs.declared.Port.{Port}
use Rattle.ata_types.specs.declared.PortState.TheVariants.{Absent, Ready}
use Rattle.ata_types.specs.declared.request.Outcome.TheVariants as outcome
use Rattle.ata_types.specs.declared.request.Op.TheVariants.{Read}
use Rattle.ata_types.specs.declared.request.Request.{Request}
use Rattle.hba_regs.specs.declared.reg.Reg.TheVariants.{Px}
use Rattle.hba_regs.specs.declared.reg.PortReg.TheVariants.{Cmd, Ssts, Serr, Sact, Ci}
use Rattle.adapter.specs.Access.{Access, DoesAll}
use Rattle.adapter.specs.Access.Access.{Reading, Writing}
use Rattle.adapter.specs.Device.{Device}
use Rattle.adapter.specs.declared.access.DeviceStep.{DeviceStep}
use Rattle.refinement.specs.Relation.{port_at}
use Rattle.refinement.specs.ReadWitness.{first_id}
use Rattle.block_machine.specs.Events.{Submit, Service, Submitted, Replied}
use Rattle.block_machine.specs.Histories.{JointState, JointEvent, joint_state_after}
use Rattle.block_machine.specs.Ports.{Evidence}
use Rattle.identify.specs.declared.wanted.Wanted.TheVariants.{Any}
use Rattle.driver_history.specs.Histories.{IsDriverHistory, PortCorresponds}
use Rattle.witnesses.specs.AllowedAccesses.{AreAllowed}

-- the turn of port 0: the masks are read
abbrev pub completing_turn : List Access
completing_turn = Reading (Px (port_at 0) Ci) 0 ∷ Reading (Px (port_at 0) Sact) 0 ∷ []

-- that of port 1: PxSSTS shows no device; the port is stopped, PxSERR is cleared, and PxSSTS is read again
abbrev pub losing_turn : List Access
losing_turn =
    Reading (Px (port_at 1) Ssts) 0 ∷ Reading (Px (port_at 1) Cmd) 0xc011 ∷ Writing (Px (port_at 1) Cmd) 0xc010
    ∷ Reading (Px (port_at 1) Cmd) 0x4010 ∷ Writing (Px (port_at 1) Serr) 0xffffffff ∷ Reading (Px (port_at 1) Ssts) 0
    ∷ []

-- what is named: port 1 lost its disk, which is gone, and was stopped
abbrev pub port_1_loss_evidence : Evidence
port_1_loss_evidence = record {
  faults = [];
  lost = port_at 1 ∷ [];
  link_changed = port_at 1 ∷ [];
  showing_error = [];
  showing_fatal_error = [];
  stopped = port_at 1 ∷ [];
  stuck = [];
}

-- Both ports are ready when the history begins. A read of port 0 is accepted and issued. The service finds it done, and
-- answers it Ok, while the disk of port 1 is in; then that is taken out, and the service looks at port 1: it is
-- stopped, and absent after the call. The service's accesses keep to the adapter's rules. Each port's part in both
-- calls is done, whether it stays healthy or not.
pub record LossIsAHistory : Type 0 where
  pub initial_state : JointState Device
  pub ready : (initial_state.abstract.ports.state (port_at 0) ≡ Ready)
      × (initial_state.abstract.ports.state (port_at 1) ≡ Ready)
  pub submit : JointEvent Device DeviceStep
  pub asked : Request
  pub asked_is_read : asked.op ≡ Read
  pub submits : (submit.event.call ≡ Submit asked) × (submit.event.result ≡ Submitted (Ok first_id))
  pub service : JointEvent Device DeviceStep
  pub service_replies_ok : (service.event.call ≡ Service)
      × (service.event.result ≡ Replied (record { id = first_id; client = asked.client; outcome = outcome.Ok } ∷ []))
  pub between : Device
  pub completing_turn_is_made : DoesAll completing_turn submit.device between
  pub completing_turn_is_allowed : AreAllowed completing_turn submit.device between completing_turn_is_made
  pub disk_1_is_in_between : (between.port 1).present ≡ true
  pub losing_turn_is_made : DoesAll losing_turn between service.device
  pub losing_turn_is_allowed : AreAllowed losing_turn between service.device losing_turn_is_made
  pub evidence : service.event.evidence ≡ port_1_loss_evidence
  pub port_0_stays_ready : service.event.ports.state (port_at 0) ≡ Ready
  pub port_1_becomes_absent : service.event.ports.state (port_at 1) ≡ Absent
  pub history : IsDriverHistory (Any ∷ Any ∷ []) initial_state (service ∷ submit ∷ [])
  pub accesses_are : history.2.accesses ≡ completing_turn ++ losing_turn
  pub submit_corresponds : (port : Port) → PortCorresponds initial_state submit history.0.2.accesses port
  pub service_corresponds : (port : Port) → PortCorresponds (joint_state_after initial_state (submit ∷ [])) service
      history.2.accesses port
