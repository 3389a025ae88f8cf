-- A history in which a reset of the adapter doesn't finish, and a service then answers the requests of the dead ports
-- (this project's own; AHCI 1.3.1, 10.4.3).
use Rattle.std.specs.Prelude.{◌≡◌, List, [], ◌∷◌, Contains, None, Ok}
use Rattle.ata_types.specs.declared.Port.{Port}
use Rattle.ata_types.specs.declared.PortState.TheVariants.{Dead}
use Rattle.ata_types.specs.declared.request.Outcome.TheVariants.{PortDead}
use Rattle.ata_types.specs.declared.request.Request.{Request}
use Rattle.hba_regs.specs.declared.reg.Reg.TheVariants.{Ghc}
use Rattle.adapter.specs.Access.{Access}
use Rattle.adapter.specs.Access.Access.{Reading, Writing}
use Rattle.adapter.specs.Device.{Device}
use Rattle.adapter.specs.declared.access.DeviceStep.{DeviceStep}
use Rattle.refinement.specs.Relation.{port_at}
use Rattle.refinement.specs.ReadWitness.{first_id}
use Rattle.block_machine.specs.Events.{Submit, Service, Reset, Submitted, Replied, WasReset}
use Rattle.block_machine.specs.Histories.{JointState, JointEvent, joint_state_after}
use Rattle.block_machine.specs.State.{Pending}
use Rattle.identify.specs.declared.wanted.Wanted.TheVariants.{Any}
use Rattle.driver_history.specs.Histories.{IsDriverHistory, PortCorresponds}

-- HR of GHC is set, and is read 1 twice
abbrev pub stuck_reset_accesses : List Access
stuck_reset_accesses = Writing Ghc 0x80000001 ∷ Reading Ghc 0x80000001 ∷ Reading Ghc 0x80000001 ∷ []

-- A request is accepted; then a reset doesn't end, which leaves both ports dead and answers nobody; and a service that
-- makes no access answers the request PortDead: its frames are kept. Each port's part in the reset and in the service
-- is done.
pub record StuckResetIsAHistory : Type 0 where
  pub initial_state : JointState Device
  pub submit : JointEvent Device DeviceStep
  pub asked : Request
  pub submits : (submit.event.call ≡ Submit asked) × (submit.event.result ≡ Submitted (Ok first_id))
  pub reset : JointEvent Device DeviceStep
  pub resets : (reset.event.call ≡ Reset) × (reset.event.result ≡ WasReset None)
  pub both_become_dead : (reset.event.ports.state (port_at 0) ≡ Dead) × (reset.event.ports.state (port_at 1) ≡ Dead)
  pub service : JointEvent Device DeviceStep
  pub service_replies_port_dead : (service.event.call ≡ Service)
      × (service.event.result ≡ Replied (record { id = first_id; client = asked.client; outcome = PortDead } ∷ []))
  pub history : IsDriverHistory (Any ∷ Any ∷ []) initial_state (service ∷ reset ∷ submit ∷ [])
  pub kept : Pending
  pub read_is_kept : Contains (joint_state_after initial_state (service ∷ reset ∷ submit ∷ [])).abstract.machine.kept
      kept
      × (kept.request.id ≡ first_id)
  pub accesses : (history.0.2.accesses ≡ stuck_reset_accesses) × (history.2.accesses ≡ [])
  pub reset_corresponds : (port : Port) → PortCorresponds (joint_state_after initial_state (submit ∷ [])) reset
      history.0.2.accesses port
  pub service_corresponds : (port : Port)
      → PortCorresponds (joint_state_after initial_state (reset ∷ submit ∷ [])) service
      history.2.accesses port
