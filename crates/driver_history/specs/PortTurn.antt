-- A port's turn in a call, between accesses that leave the port to its device (this project's own).
use Rattle.std.specs.Prelude.{true, false, ◌≡◌, ◌≢◌, ◌⊎◌, ◌↔◌, ◌++◌, List, All, Contains}
use Rattle.ata_types.specs.declared.Port.{Port}
use Rattle.ata_types.specs.declared.PortState.TheVariants.{Absent, Dead}
use Rattle.adapter.specs.Access.{Access, DoesAll}
use Rattle.adapter.specs.Device.{Device}
use Rattle.refinement.specs.Fragments.{AccessesNoOtherPort}
use Rattle.refinement.specs.Errors.{NoDiskComes}
use Rattle.block_machine.specs.Histories.{JointState}
use Rattle.block_machine.specs.Ports.{Evidence, Ports}
use Rattle.driver_history.specs.Histories.{IsForeignOrUnfit}

-- the access keeps to another port: of ports' registers it touches that one's alone, and of IS that one's bit
abbrev pub KeepsToAnotherPort : Port → Access → Type 0
KeepsToAnotherPort port access = (other : Port) × (port.0 ≢ other.0) × AccessesNoOtherPort other access

-- A call's accesses are those before the port's turn, those of the turn, and those after it. But for the turn's, they
-- are of other ports.
pub record HasTurnIn (port : Port) (old new : Device) : Type 0 where
  pub before : List Access
  pub turn : List Access
  pub later : List Access
  pub start : Device
  pub end : Device
  pub leads_to_start : DoesAll before old start
  pub turn_leads_to_end : DoesAll turn start end
  pub leads_to_new : DoesAll later end new
  pub earlier_are_of_others : All (KeepsToAnotherPort port) before
  pub later_are_of_others : All (KeepsToAnotherPort port) later

-- all its accesses
abbrev pub call_accesses : {port : Port} {old new : Device} → HasTurnIn port old new → List Access
call_accesses t = t.before ++ (t.turn ++ t.later)

-- both name the port in the same lists
pub record EvidenceAgreesOn (port : Port) (one other : Evidence) : Type 0 where
  pub lost : Contains one.lost port ↔ Contains other.lost port
  pub link_changed : Contains one.link_changed port ↔ Contains other.link_changed port
  pub showing_error : Contains one.showing_error port ↔ Contains other.showing_error port
  pub showing_fatal_error : Contains one.showing_fatal_error port ↔ Contains other.showing_fatal_error port
  pub stopped : Contains one.stopped port ↔ Contains other.stopped port
  pub stuck : Contains one.stuck port ↔ Contains other.stuck port

-- Consider a port whose disk isn't served, that showed X, and to which no disk came since. No link of it is due any
-- more, unless it is absent or dead. (While one is due, X rises when it comes up, and the tape has no disk.)
abbrev pub NoLinkDueAfterXUnlessAbsentDeadOrDiskComes : Port → JointState Device → Ports → Device → Type 0
NoLinkDueAfterXUnlessAbsentDeadOrDiskComes port old ports new = IsForeignOrUnfit old.abstract.ports port
    → (old.device.port port.0).serr_x ≡ true → NoDiskComes port.0 old.device new → (ports.state port ≡ Absent)
    ⊎ ((ports.state port ≡ Dead) ⊎ ((new.port port.0).link_due ≡ false))
