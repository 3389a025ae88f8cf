-- A history with a service that answers a plain read with its fault, and leaves its port ready and running (this
-- project's own; AHCI 1.3.1, 6.2.2).
use Rattle.refinement.specs.PortFacts.{RunsWell}
use Rattle.std.specs.Prelude.{◌≡◌, List, [], ◌∷◌, Ok}
use Rattle.ata_types.specs.declared.Port.{Port}
use Rattle.ata_types.specs.declared.PortState.TheVariants.{Ready}
use Rattle.ata_types.specs.declared.request.Op.TheVariants.{Read}
use Rattle.ata_types.specs.declared.request.Outcome.TheVariants.{DeviceError}
use Rattle.ata_types.specs.declared.request.Request.{Request}
use Rattle.hba_regs.specs.declared.reg.Reg.TheVariants.{Px}
use Rattle.hba_regs.specs.declared.reg.PortReg.TheVariants.{Is, Cmd, Tfd, Serr, Sact, Ci}
use Rattle.adapter.specs.Access.{Access, DoesAll}
use Rattle.adapter.specs.Access.Access.{Reading, Writing}
use Rattle.adapter.specs.Device.{Device}
use Rattle.adapter.specs.declared.access.DeviceStep.{DeviceStep}
use Rattle.refinement.specs.Relation.{port_at}
use Rattle.refinement.specs.ReadWitness.{first_id}
use Rattle.block_machine.specs.Events.{Submit, Service, Submitted, Replied}
use Rattle.block_machine.specs.Histories.{JointState, JointEvent, joint_state_after}
use Rattle.block_machine.specs.Ports.{RequestFault, Evidence}
use Rattle.identify.specs.declared.wanted.Wanted.TheVariants.{Any}
use Rattle.driver_history.specs.Histories.{IsDriverHistory, PortCorresponds}
use Rattle.witnesses.specs.AllowedAccesses.{AreAllowed}

-- The masks are read, then PxTFD; the port is stopped; PxSERR and PxIS are cleared; PxTFD is read again, and ST is set.
abbrev pub stop_clear_and_restart_accesses : List Access
stop_clear_and_restart_accesses =
    Reading (Px (port_at 0) Ci) 1 ∷ Reading (Px (port_at 0) Sact) 0 ∷ Reading (Px (port_at 0) Tfd) 0x4041
    ∷ Reading (Px (port_at 0) Cmd) 0xc011 ∷ Writing (Px (port_at 0) Cmd) 0xc010 ∷ Reading (Px (port_at 0) Cmd) 0x4010
    ∷ Writing (Px (port_at 0) Serr) 0xffffffff ∷ Writing (Px (port_at 0) Is) 0xffffffff
    ∷ Reading (Px (port_at 0) Tfd) 0x4041 ∷ Reading (Px (port_at 0) Cmd) 0x4010 ∷ Writing (Px (port_at 0) Cmd) 0x4011
    ∷ []

-- what is named: request 1 failed, with status 41h and error 40h; port 0 failed, and was stopped
abbrev pub told_fault : RequestFault
told_fault = record { id = first_id; status = 0x41; error = 0x40 }

-- The evidence of the call that reports the fault.
abbrev pub fault_evidence : Evidence
fault_evidence = record {
  faults = told_fault ∷ [];
  lost = [];
  link_changed = [];
  showing_error = port_at 0 ∷ [];
  showing_fatal_error = [];
  stopped = port_at 0 ∷ [];
  stuck = [];
}

-- A read of port 0 is accepted and issued. The device fails it before the service looks at the port; the service
-- answers it with that fault, and leaves the port ready: it runs well. The service's accesses keep to the adapter's
-- rules. Each port's part in both calls is done, whether it stays healthy or not.
pub record RecoveryIsAHistory : Type 0 where
  pub initial_state : JointState Device
  pub submit : JointEvent Device DeviceStep
  pub asked : Request
  pub asked_is_read : asked.op ≡ Read
  pub submits : (submit.event.call ≡ Submit asked) × (submit.event.result ≡ Submitted (Ok first_id))
  pub ready : submit.event.ports.state (port_at 0) ≡ Ready
  pub service : JointEvent Device DeviceStep
  pub service_replies_device_error : (service.event.call ≡ Service)
      × (service.event.result ≡ Replied (record {
        id = first_id;
        client = asked.client;
        outcome = DeviceError 0x41 0x40;
      }
      ∷ []))
  pub evidence : service.event.evidence ≡ fault_evidence
  pub port_0_stays_ready : service.event.ports.state (port_at 0) ≡ Ready
  pub port_runs_well : RunsWell (service.device.port 0)
  pub service_makes_accesses : DoesAll stop_clear_and_restart_accesses submit.device service.device
  pub accesses_are_allowed : AreAllowed stop_clear_and_restart_accesses submit.device service.device
      service_makes_accesses
  pub history : IsDriverHistory (Any ∷ Any ∷ []) initial_state (service ∷ submit ∷ [])
  pub accesses : history.2.accesses ≡ stop_clear_and_restart_accesses
  pub submit_corresponds : (port : Port) → PortCorresponds initial_state submit history.0.2.accesses port
  pub service_corresponds : (port : Port) → PortCorresponds (joint_state_after initial_state (submit ∷ [])) service
      history.2.accesses port
