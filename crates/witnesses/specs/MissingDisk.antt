-- A history in which an unfit disk is taken out after a reset, and a service probes the port (this project's own).
use Rattle.std.specs.Prelude.{true, ◌≡◌, ◌++◌, List, [], ◌∷◌}
use Rattle.ata_types.specs.declared.Port.{Port}
use Rattle.ata_types.specs.declared.PortState.TheVariants.{Absent, Unfit}
use Rattle.hba_regs.specs.declared.reg.PortReg.TheVariants.{Is, Cmd, Ssts, Serr}
use Rattle.hba_regs.specs.declared.reg.Reg.TheVariants.{Px}
use Rattle.adapter.specs.Access.{Access, DoesAll}
use Rattle.adapter.specs.Access.Access.{Reading, Writing}
use Rattle.adapter.specs.Device.{Device}
use Rattle.adapter.specs.declared.access.DeviceStep.{DeviceStep}
use Rattle.adapter.specs.declared.access.DeviceStep.TheVariants as asked
use Rattle.refinement.specs.Relation.{port_at}
use Rattle.block_machine.specs.Events.{StepDevice, Service, Stepped, Replied}
use Rattle.block_machine.specs.Histories.{JointState, JointEvent, joint_state_after}
use Rattle.identify.specs.declared.wanted.Wanted.TheVariants.{Any}
use Rattle.driver_history.specs.Histories.{IsDriverHistory, PortCorresponds}
use Rattle.witnesses.specs.AllowedAccesses.{AreAllowed}

-- A look at an unfit port shows that a disk went (PRCS), and no device; the port is given up: it is stopped already. No
-- device shows, so it isn't booted.
abbrev pub missing_disk_turn : List Access
missing_disk_turn =
    Reading (Px (port_at 0) Is) 0x400000 ∷ Reading (Px (port_at 0) Ssts) 0 ∷ Reading (Px (port_at 0) Cmd) 0x4010
    ∷ Writing (Px (port_at 0) Cmd) 0x4010 ∷ Reading (Px (port_at 0) Cmd) 0x4010 ∷ Writing (Px (port_at 0) Serr)
    0xffffffff
    ∷ Reading (Px (port_at 0) Ssts) 0 ∷ []

-- and one of the other unfit port shows nothing new
abbrev pub unfit_look_accesses : List Access
unfit_look_accesses = Reading (Px (port_at 1) Is) 0 ∷ Reading (Px (port_at 1) Ssts) 3 ∷ []

-- Two ports are unfit, since a reset found no ATA disk on them, and the disk of port 0 is taken out. The service that
-- follows finds that out, and makes the port absent; it leaves the other as it is. The service's accesses keep to the
-- adapter's rules. Each port's part in both calls is done.
pub record MissingDiskIsAHistory : Type 0 where
  pub initial_state : JointState Device
  pub past : List (JointEvent Device DeviceStep)
  pub both_are_unfit : ((joint_state_after initial_state past).abstract.ports.state (port_at 0) ≡ Unfit 8)
      × ((joint_state_after initial_state past).abstract.ports.state (port_at 1) ≡ Unfit 8)
  pub unplug : JointEvent Device DeviceStep
  pub disk_is_unplugged : (unplug.event.call ≡ StepDevice (asked.Unplug (port_at 0)))
      × (unplug.event.result ≡ Stepped true)
  pub port_0_shows_unfit_still : unplug.event.ports.state (port_at 0) ≡ Unfit 8
  pub service : JointEvent Device DeviceStep
  pub service_has_no_replies : (service.event.call ≡ Service) × (service.event.result ≡ Replied [])
  pub port_0_becomes_absent : service.event.ports.state (port_at 0) ≡ Absent
  pub port_1_stays_unfit : service.event.ports.state (port_at 1) ≡ Unfit 8
  pub service_makes_accesses : DoesAll (missing_disk_turn ++ unfit_look_accesses) unplug.device service.device
  pub accesses_are_allowed : AreAllowed (missing_disk_turn ++ unfit_look_accesses) unplug.device service.device
      service_makes_accesses
  pub history : IsDriverHistory (Any ∷ Any ∷ []) initial_state (service ∷ unplug ∷ past)
  pub accesses : history.2.accesses ≡ missing_disk_turn ++ unfit_look_accesses
  pub unplug_corresponds : (port : Port)
      → PortCorresponds (joint_state_after initial_state past) unplug history.0.2.accesses
      port
  pub service_corresponds : (port : Port) → PortCorresponds (joint_state_after initial_state (unplug ∷ past)) service
      history.2.accesses port
