-- A history in which a port meets a fatal error, and a service gives the port up, and boots it anew (this project's
-- own; AHCI 1.3.1, 6.2.2).
use Rattle.std.specs.Prelude.{true, ◌≡◌, ◌++◌, List, [], ◌∷◌, Ok}
use Rattle.ata_types.specs.declared.Port.{Port}
use Rattle.ata_types.specs.declared.PortState.TheVariants.{Ready, Unfit}
use Rattle.ata_types.specs.declared.request.Op.TheVariants.{Read}
use Rattle.ata_types.specs.declared.request.Outcome.TheVariants.{Unplugged}
use Rattle.ata_types.specs.declared.request.Request.{Request}
use Rattle.hba_regs.specs.declared.reg.Reg.TheVariants.{Px}
use Rattle.hba_regs.specs.declared.reg.Reg.TheVariants as registers
use Rattle.hba_regs.specs.declared.reg.PortReg.TheVariants.{Is, Ssts}
use Rattle.adapter.specs.Access.{Access, DoesAll}
use Rattle.adapter.specs.Access.Access.{Reading, Writing}
use Rattle.adapter.specs.Device.{Device}
use Rattle.adapter.specs.declared.access.DeviceStep.{DeviceStep}
use Rattle.adapter.specs.declared.access.DeviceStep.TheVariants.{Fatal}
use Rattle.adapter.specs.declared.access.FatalError.TheVariants.{Interface}
use Rattle.refinement.specs.Relation.{port_at}
use Rattle.refinement.specs.ReadWitness.{first_id}
use Rattle.block_machine.specs.Events.{Submit, Service, StepDevice, Submitted, Replied, Stepped}
use Rattle.block_machine.specs.Histories.{JointState, JointEvent, joint_state_after}
use Rattle.block_machine.specs.Ports.{Evidence}
use Rattle.identify.specs.declared.wanted.Wanted.TheVariants.{Any}
use Rattle.error_recovery.specs.Evidence.{ShowsFatal}
use Rattle.driver_history.specs.Histories.{IsDriverHistory, PortCorresponds}
use Rattle.witnesses.specs.AllowedAccesses.{AreAllowed}
use Rattle.witnesses.specs.Restart.{port_0_lost_and_stopped_evidence, stop_and_comreset_accesses}

-- PxIS shows IFS, and is cleared, and so is the port's bit of IS; PxSSTS shows a device
abbrev pub port_0_look_accesses_showing_ifs : List Access
port_0_look_accesses_showing_ifs =
    Reading (Px (port_at 0) Is) 0x08000000 ∷ Writing (Px (port_at 0) Is) 0x08000000 ∷ Writing registers.Is 1
    ∷ Reading (Px (port_at 0) Ssts) 3 ∷ []

-- The accesses of the look and of the boot after the fatal error.
abbrev pub fatal_accesses : List Access
fatal_accesses = port_0_look_accesses_showing_ifs ++ stop_and_comreset_accesses

-- what is named: port 0 failed by a fatal error, was stopped, and has lost its disk
abbrev pub fatal_evidence : Evidence
fatal_evidence = port_0_lost_and_stopped_evidence (port_at 0 ∷ [])

-- A read of port 0 is accepted and issued. The device is asked to meet a fatal error of the port's link, and the port
-- shows it. The service finds it, gives the port up, and boots it anew, which finds no ATA disk. So the port is unfit,
-- and the read is answered Unplugged. The service's accesses keep to the adapter's rules. Each port's part in the three
-- calls is done, whether it stays healthy or not.
pub record FatalErrorIsAHistory : Type 0 where
  pub initial_state : JointState Device
  pub submit : JointEvent Device DeviceStep
  pub asked : Request
  pub asked_is_read : asked.op ≡ Read
  pub submits : (submit.event.call ≡ Submit asked) × (submit.event.result ≡ Submitted (Ok first_id))
  pub fatal_step : JointEvent Device DeviceStep
  pub device_is_told : (fatal_step.event.call ≡ StepDevice (Fatal (port_at 0) Interface))
      × (fatal_step.event.result ≡ Stepped true)
  pub shows : ShowsFatal (fatal_step.device.port 0)
  pub ready : fatal_step.event.ports.state (port_at 0) ≡ Ready
  pub service : JointEvent Device DeviceStep
  pub service_replies_unplugged : (service.event.call ≡ Service)
      × (service.event.result ≡ Replied (record { id = first_id; client = asked.client; outcome = Unplugged } ∷ []))
  pub evidence : service.event.evidence ≡ fatal_evidence
  pub unfit : service.event.ports.state (port_at 0) ≡ Unfit 8
  pub service_makes_accesses : DoesAll fatal_accesses fatal_step.device service.device
  pub accesses_are_allowed : AreAllowed fatal_accesses fatal_step.device service.device service_makes_accesses
  pub history : IsDriverHistory (Any ∷ Any ∷ []) initial_state (service ∷ fatal_step ∷ submit ∷ [])
  pub accesses : history.2.accesses ≡ fatal_accesses
  pub submit_corresponds : (port : Port) → PortCorresponds initial_state submit history.0.0.2.accesses port
  pub fatal_step_corresponds : (port : Port)
      → PortCorresponds (joint_state_after initial_state (submit ∷ [])) fatal_step
      history.0.2.accesses port
  pub service_corresponds : (port : Port)
      → PortCorresponds (joint_state_after initial_state (fatal_step ∷ submit ∷ [])) service
      history.2.accesses port
