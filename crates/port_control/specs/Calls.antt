-- When the calls of this crate may be made of a port, and what they do (AHCI 1.3.1, 3.3, 6.2.2 and 10).
use Rattle.std.specs.Prelude.{ℕ, Bool, true, false, ◌≡◌, ◌≢◌, ◌≤◌, ◌%◌, length}
use Rattle.ata_types.specs.declared.Port.{Port}
use Rattle.ata_types.specs.declared.limits.TheConstants.{MOST_READINGS}
use Rattle.ata_types.specs.declared.memory.TheConstants.{DRIVER_BYTES}
use Rattle.adapter.specs.Device.{Device}
use Rattle.adapter.specs.Rules.{IsOn, HasPort}
use Rattle.refinement.specs.Fragments.{SomeMachineAgreesWith, AnySlotStates}
use Rattle.refinement.specs.Driver.{AllFree}
use Rattle.refinement.specs.Errors.{NoDiskComes, LinkErrorsRiseByDisks}
use Rattle.refinement.specs.PortFacts.{IsCleanToStart, RecordsFaultsIfSt}
use Rattle.refinement.specs.PreservedParts.{NoPlugEvents}
use Rattle.refinement.specs.HaltRecovery.{IsLinked, RunsLinked}
use Rattle.refinement.specs.StartedPort.{IsUpForStart, IsStoppedAndUpForStartIfDet3, IsStarted}
use Rattle.port_control.specs.Ports.{FindsSignature, SerrShowsOnlyNewPlugs, IsClearAndUpUnlessPlugEvents, RunsInPlaceWithoutCommands, IsStopped, SeesResetFault, IsStoppedReceiving, SameSctlAndNotesButCmd, SameSctlAndNotesButCmdAndStart, SawDeviceSinceSctlWrite, SawIdle, BacksFault, LastSignatureIsShown, SendsComresetThen}
use Rattle.port_control.specs.declared.PortFault.{PortFault}
use Rattle.port_control.specs.declared.PortFault.TheVariants.{NoDevice, EngineStuck, NotAta}

-- ---- to receive FISes

-- A port may be set to receive FISes: it is stopped, and memory has room for the driver's areas (AHCI 1.3.1, 10.1.2 and
-- 10.3.2).
pub record MayBeginReceiving (port : Port) (d : Device) : Type 0 where
  pub adapter_is_on : IsOn d
  pub has_port : HasPort d port.0
  pub machine_is_related : SomeMachineAgreesWith AnySlotStates d
  pub stopped : IsStopped (d.port port.0)
  pub driver_memory_fits : DRIVER_BYTES ≤ d.memory_size

-- Whether it receives FISes then or not: it is stopped still, and PxSCTL.DET and what readings noted, but of PxCMD, are
-- as they were.
pub record StaysStoppedWithNotesButCmdKept (port : Port) (old new : Device) : Type 0 where
  pub stopped : IsStopped (new.port port.0)
  pub sctl_and_notes_but_cmd_are_kept : SameSctlAndNotesButCmd (old.port port.0) (new.port port.0)

-- ---- errors, and devices that go and come

-- A port may forget its errors: it is stopped and receives FISes, and no COMRESET is under way (AHCI 1.3.1, 6.2.2).
pub record MayClearErrorState (port : Port) (d : Device) : Type 0 where
  pub adapter_is_on : IsOn d
  pub has_port : HasPort d port.0
  pub machine_is_related : SomeMachineAgreesWith AnySlotStates d
  pub receives : IsStoppedReceiving port.0 (d.port port.0)
  pub no_link_is_due : (d.port port.0).link_due ≡ false
  pub no_comreset : (d.port port.0).sctl_det ≡ 0

-- PxSERR was cleared, and then a device detected in PxSSTS, or none: one is there with a link; or none was seen, as
-- after 64 readings that found none. A stopped port is stopped still (AHCI 1.3.1, 3.3.10 and 3.3.12).
pub record DetectsDeviceAfterClearingSerr (port : Port) (found : Bool) (old new : Device) : Type 0 where
  pub stopped : IsStopped (old.port port.0) → IsStopped (new.port port.0)
  pub serr_shows_only_new_plugs : (old.port port.0).link_due ≡ false → SerrShowsOnlyNewPlugs port.0 old new
  pub device_is_shown : found ≡ true → (new.port port.0).ssts_det ≡ 3
  pub no_device_is_backed_if_waited : found ≡ false → (old.port port.0).notes.link_wait_count ≡ MOST_READINGS
      → BacksFault NoDevice (new.port port.0).notes

-- ---- COMRESET

-- A port's link may be reset: it is stopped, and receives FISes (AHCI 1.3.1, 10.4.2).
pub record MayResetLink (port : Port) (d : Device) : Type 0 where
  pub adapter_is_on : IsOn d
  pub has_port : HasPort d port.0
  pub machine_is_related : SomeMachineAgreesWith AnySlotStates d
  pub receives : IsStoppedReceiving port.0 (d.port port.0)

-- Whatever was found then: it receives FISes still; and where no disk came meanwhile, its link is up if DET is 3.
pub record StaysReceivingWithLinkUpIfDet3 (port : Port) (old new : Device) : Type 0 where
  pub receives : IsStoppedReceiving port.0 (new.port port.0)
  pub link_is_up_if_det_3_unless_disk_comes : NoDiskComes port.0 old new
      → IsStoppedAndUpForStartIfDet3 (new.port port.0)

-- COMRESET was sent, and an ATA disk was found that is idle, as the readings since showed (AHCI 1.3.1, 10.1.2 and
-- 10.4.2).
pub record ResetsAndFindsDisk (port : Port) (old new : Device) : Type 0 where
  pub comreset_is_sent : SendsComresetThen port (FindsSignature port 0x101) old new
  pub disk_is_seen : let notes = (new.port port.0).notes in SawDeviceSinceSctlWrite notes × SawIdle notes
      × (notes.last_sig ≡ 0x101)
  pub is_clear_and_up_unless_plug_events : IsClearAndUpUnlessPlugEvents port.0 old new
  pub signature_is_shown : LastSignatureIsShown (new.port port.0)

-- COMRESET was sent, and the readings since showed this fault in place of such a disk.
pub record ResetsAndFindsFault (port : Port) (fault : PortFault) (old new : Device) : Type 0 where
  pub comreset_is_sent : SendsComresetThen port (SeesResetFault port fault) old new
  pub fault_is_backed : BacksFault fault (new.port port.0).notes × (fault ≢ EngineStuck)
  pub is_clear_and_up_unless_plug_events : fault ≢ NoDevice → IsClearAndUpUnlessPlugEvents port.0 old new
  pub signature_is_shown : (signature : ℕ) → fault ≡ NotAta signature → LastSignatureIsShown (new.port port.0)

-- ---- to work on the command list

-- A port may be started: it is stopped and receives FISes, none of its slots is used, and the last readings showed a
-- device with a link, neither busy nor asking for a transfer (AHCI 1.3.1, 10.3.1).
pub record MayBeStarted (port : Port) (d : Device) : Type 0 where
  pub adapter_is_on : IsOn d
  pub has_port : HasPort d port.0
  pub machine_is_related : SomeMachineAgreesWith (λ uses. AllFree uses port.0) d
  pub receives : IsStoppedReceiving port.0 (d.port port.0)
  pub link_was_seen : (d.port port.0).notes.last_ssts % 16 ≡ 3
  pub disk_was_idle : SawIdle (d.port port.0).notes

-- It was started: it runs, ST was set last of all, and what was read before is as it was. Its link is up as it was
-- before, where no disk went or came; no cause is told that wasn't; and what had no error has none, but for disks that
-- went or came (AHCI 1.3.1, 10.3.1).
pub record Starts (port : Port) (old new : Device) : Type 0 where
  pub runs : RunsInPlaceWithoutCommands port.0 (new.port port.0)
  pub other_notes_are_kept : SameSctlAndNotesButCmdAndStart (old.port port.0) (new.port port.0)
  pub tape_is_as_at_st_set : (new.port port.0).notes.st_set_at ≡ length new.tape
  pub sctl_time_in_tape : (old.port port.0).notes.sctl_written_at ≤ length old.tape
      → (new.port port.0).notes.sctl_written_at ≤ length new.tape
  pub port_is_started : IsUpForStart (old.port port.0) → NoPlugEvents port.0 old new → IsStarted (new.port port.0)
  pub link_stays_up_without_plug_events : IsLinked (old.port port.0) → NoPlugEvents port.0 old new
      → RunsLinked (new.port port.0)
  pub faults_are_on_record : IsCleanToStart (old.port port.0) → RecordsFaultsIfSt new.tape (new.port port.0) port.0
  pub no_cause_rises : (place : ℕ) → (old.port port.0).is place ≡ false → (new.port port.0).is place ≡ false
  pub no_link_gets_due : (old.port port.0).link_due ≡ false → (new.port port.0).link_due ≡ false
  pub errors_change_by_disks : (old.port port.0).link_due ≡ false → LinkErrorsRiseByDisks port.0 old new
