-- What laws of the crates below say of a port that is recovered, and booted again, and of the others meanwhile.
use Rattle.std.specs.Prelude.{ℕ, false, ◌≡◌, ◌≢◌, ◌<◌, ◌≤◌, List, [], All, map}
use Rattle.ata_types.specs.declared.Port.{Port}
use Rattle.ata_types.specs.declared.PortState.{PortState}
use Rattle.ata_types.specs.declared.PortState.TheVariants.{Dead}
use Rattle.ata_types.specs.declared.request.RequestId.{RequestId}
use Rattle.hba_regs.specs.declared.reg.PortReg.TheVariants.{Cmd, Is, Serr}
use Rattle.hba_regs.specs.declared.reg.Reg.TheVariants.{Px}
use Rattle.adapter.specs.Access.{Access, Does, DoesAll}
use Rattle.adapter.specs.Device.{Device}
use Rattle.adapter.specs.Device.{DevicePort}
use Rattle.adapter.specs.Device.Halt.{NotHalted}
use Rattle.adapter.specs.Rules.{IsOn}
use Rattle.adapter.specs.declared.command.Operation.TheVariants.{Identify}
use Rattle.refinement.specs.Acts.{Act, AreActsDone, accesses_of}
use Rattle.refinement.specs.Relation.{StateRelation, HaveSlotsUnlessParked}
use Rattle.refinement.specs.Fragments.{IsDrivenBy, AccessesNoOtherPort, GainsNoMove}
use Rattle.refinement.specs.Driver.{DriverAdvances, DriverState, DriverRelation}
use Rattle.refinement.specs.Errors.{NoFatalErrors}
use Rattle.refinement.specs.PortFacts.{RecordsFaultsIfSt, Undisturbed}
use Rattle.refinement.specs.Halting.{HaltFitsTakenCommands, HaltFitsTakenCommandsIfSt}
use Rattle.refinement.specs.PreservedParts.{HasDet3IfDiskPresent, KeepsDisk, NoPlugEvents, SameAdapter, DoesNotWrite}
use Rattle.refinement.specs.HaltRecovery.{WorksOnUnqueuedCommandsOnly}
use Rattle.refinement.specs.Slots.{Serves, SlotState, SlotStates, set_slot_state, serving_count}
use Rattle.block_machine.specs.DueRequests.{issued_count}
use Rattle.block_machine.specs.Histories.{IsReachable}
use Rattle.block_machine.specs.Expected.{after}
use Rattle.block_machine.specs.State.{Machine, unanswered}
use Rattle.block_machine.specs.Steps.{NoneKept, Step}
use Rattle.host_boot.specs.Reboots.{RebootsPort, RebootsWithDet3OrFindsAbsent, IsCapPiOrBootAccess}
use Rattle.host_boot.specs.TakeOver.{FoundUnusableDevice, IsWantedAndImplemented, KeepsWhatBacksProbeResult, BacksProbeResult, StillBacksProbeResult}
use Rattle.host_boot.specs.declared.Booted.{Booted}
use Rattle.host_boot.specs.declared.ProbeResult.{ProbeResult}
use Rattle.host_boot.specs.declared.ProbeResult.TheVariants.{Unready}
use Rattle.identify.specs.declared.wanted.Wanted.{Wanted}
use Rattle.port_boot.specs.States.{ShownDiskIsIn}

-- The laws on recoveries that the proofs of this crate use.
pub record RecoveryLaws : Type 0 where
  -- if each issued request of a port has a slot, as many slots serve one
  pub serving_slots_are_issued_count : (uses : SlotStates) (m : Machine) (d : Device) → IsReachable m
      → StateRelation uses m d → (port : Port)
      → NoneKept m port → (n : ℕ) → HaveSlotsUnlessParked uses m port.0 []
      → ((slot : ℕ) (id : RequestId) → uses port.0 slot ≡ Serves id → slot < n)
      → serving_count uses port.0 n ≡ issued_count (map unanswered m.book) port
  -- acts lead to a machine that is reached
  pub advancing_keeps_reachable : (k later : DriverState) (m : Machine) (steps : List Step) → IsReachable m
      → DriverAdvances k m steps later
      → IsReachable (after m steps)
  pub setting_slot_keeps_others : (uses : SlotStates) (port slot : ℕ) (u : SlotState) (other_port other_slot : ℕ)
      → (other_port ≡ port → other_slot ≡ slot → ⊥) → set_slot_state uses port slot u other_port other_slot
      ≡ uses other_port
      other_slot
  -- what accesses leave
  pub shown_disk_stays_in : (port : ℕ) (accesses : List Access) (old new : Device) → DoesAll accesses old new
      → ShownDiskIsIn (old.port port) → ShownDiskIsIn (new.port port)
  pub other_port_keeps_record : (port : Port) (q : ℕ) (old new : Device) → q ≢ port.0
      → IsDrivenBy (AccessesNoOtherPort port) old new
      → RecordsFaultsIfSt old.tape (old.port q) q → RecordsFaultsIfSt new.tape (new.port q) q
  pub other_port_keeps_shown_disk : (port other : Port) (old new : Device) → port.0 ≢ other.0 → IsOn old
      → IsDrivenBy (AccessesNoOtherPort other) old new
      → HasDet3IfDiskPresent (old.port port.0) → HasDet3IfDiskPresent (new.port port.0)
  -- a port that was booted again
  pub reboot_is_of_port : (wanted : Wanted) (port : Port) (booted : Booted) (old new : Device)
      → RebootsPort wanted port booted old new → IsDrivenBy (AccessesNoOtherPort port) old new
  pub reboot_backs_result : (wanted : Wanted) (port : Port) (booted : Booted) (old new : Device)
      → RebootsPort wanted port booted old new → IsWantedAndImplemented wanted port.0 old
      → BacksProbeResult wanted booted.found port.0 new
  pub reboot_shows_bad_disk : (wanted : Wanted) (port : Port) (booted : Booted) (state : PortState) (old new : Device)
      → IsOn old
      → RebootsPort wanted port booted old new → FoundUnusableDevice state → booted.found ≡ Unready state
      → HasDet3IfDiskPresent (new.port port.0)
  -- what stands behind a port still does
  pub backing_begins : (wanted : Wanted) (found : ProbeResult) (port : ℕ) (d : Device)
      → BacksProbeResult wanted found port d
      → StillBacksProbeResult wanted found port d
  pub backing_goes_on : (wanted : Wanted) (found : ProbeResult) (port : ℕ) (old new : Device) → SameAdapter old new
      → KeepsWhatBacksProbeResult found (old.port port) (new.port port) → (found ≢ Unready Dead
      → GainsNoMove port Identify old new)
      → StillBacksProbeResult wanted found port old → StillBacksProbeResult wanted found port new
  -- and one that was booted because a device showed
  pub boot_start_access_is_of_port : (port : Port) (access : Access) → IsCapPiOrBootAccess port access
      → AccessesNoOtherPort port access
  pub conditional_boot_is_of_port : (wanted : Wanted) (port : Port) (booted : Booted) (old new : Device)
      → RebootsWithDet3OrFindsAbsent wanted port booted old new → IsDrivenBy (AccessesNoOtherPort port) old new
  pub conditional_boot_backs_result : (wanted : Wanted) (port : Port) (booted : Booted) (old new : Device)
      → RebootsWithDet3OrFindsAbsent wanted port booted old new → IsWantedAndImplemented wanted port.0 old
      → BacksProbeResult wanted booted.found port.0 new
  pub conditional_boot_shows_bad_disk : (wanted : Wanted) (port : Port) (booted : Booted) (state : PortState)
      (old new : Device) → IsOn old
      → RebootsWithDet3OrFindsAbsent wanted port booted old new → FoundUnusableDevice state → booted.found
      ≡ Unready state
      → HasDet3IfDiskPresent (new.port port.0)

-- What of a port's trouble is shown.
pub record PortErrorLaws : Type 0 where
  -- each error, and each disk that goes or comes, is shown until it is cleared
  pub pxis_shows_fatal_errors : (port : Port) (access : Access) (old new : Device) → old.hr ≡ false
      → DoesNotWrite (Px port Is) access → Does access old new
      → ((place : ℕ) → 27 ≤ place → place ≤ 29 → (new.port port.0).is place ≡ false)
      → ((place : ℕ) → 27 ≤ place → place ≤ 29 → (old.port port.0).is place ≡ false) × NoFatalErrors port.0 old new
  pub serr_n_shows_plug_events : (port : Port) (access : Access) (old new : Device) → old.hr ≡ false
      → DoesNotWrite (Px port Serr) access → Does access old new → (new.port port.0).serr_n ≡ false
      → ((old.port port.0).serr_n ≡ false) × NoPlugEvents port.0 old new
  -- if nothing disturbs a port
  pub undisturbed_has_no_fatal : (port : ℕ) (old new : Device) → Undisturbed port old new → NoFatalErrors port old new
  pub undisturbed_has_no_plug_event : (port : ℕ) (old new : Device) → Undisturbed port old new
      → NoPlugEvents port old new
  -- its disk, and its link, stay
  pub disk_stays_without_plug_events : (port : ℕ) (access : Access) (old new : Device) → Does access old new
      → NoPlugEvents port old new
      → KeepsDisk (old.port port) (new.port port)
  -- and a queued command that has halted it is taken still
  pub halt_of_taken_stays_over_acts : (port : Port) (acts : List Act) (k later : DriverState) (m : Machine)
      → IsReachable m
      → DriverRelation m k
      → AreActsDone acts k m later → All (DoesNotWrite (Px port Cmd)) (accesses_of acts)
      → HaltFitsTakenCommandsIfSt (k.device.port port.0)
      → HaltFitsTakenCommandsIfSt (later.device.port port.0)
  pub halt_of_taken_stays_but_for_cmd_write : (uses : SlotStates) (m : Machine) (port : Port) (access : Access)
      (old new : Device)
      → IsReachable m
      → StateRelation uses m old → DoesNotWrite (Px port Cmd) access → Does access old new
      → HaltFitsTakenCommandsIfSt (old.port port.0)
      → HaltFitsTakenCommandsIfSt (new.port port.0)
  pub not_halted_fits_taken_commands : (p : DevicePort) → p.halt ≡ NotHalted → HaltFitsTakenCommands p
  pub plain_port_halt_is_of_taken : (p : DevicePort) → WorksOnUnqueuedCommandsOnly p
      → HaltFitsTakenCommands p
