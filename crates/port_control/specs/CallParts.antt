-- What the parts of this crate's calls do (AHCI 1.3.1, 3.3, 10.3.2 and 10.4.2).
use Rattle.std.specs.Prelude.{ℕ, Bool, true, false, ◌≡◌, ◌≢◌, ◌<◌}
use Rattle.ata_types.specs.declared.Port.{Port}
use Rattle.ata_types.specs.declared.limits.TheConstants.{MOST_READINGS}
use Rattle.hba_regs.specs.Bits.{bit}
use Rattle.hba_regs.specs.declared.reg.PortReg.TheVariants.{Ssts, Tfd}
use Rattle.adapter.specs.Device.{Device, DevicePort}
use Rattle.refinement.specs.Errors.{NoDiskComes}
use Rattle.refinement.specs.PortFacts.{IsQuiescentPort, WhileLinkAwaitedCrIsClearAndDrqSet, IsCleanToStart, CrAndTfesAreClear}
use Rattle.refinement.specs.StartedPort.{IsUpForStart, IsStoppedAndUpForStartIfDet3}
use Rattle.port_control.specs.Ports.{BacksFault, ClearsErrors, IsClearAndUpIfStoppedUnlessPlugEvents, FindsSignature, SerrShowsOnlyNewPlugs, HasLink, IsStopped, SeesResetFault, ReadsUntil, ReadsInVain, IsStoppedReceiving, SameSctlAndNotesButCmd, SawDeviceSinceSctlWrite, SawIdle, ShowsIdle, LastSignatureIsShown, SendsComresetThen, programmed_bases}
use Rattle.port_control.specs.declared.PortFault.{PortFault}
use Rattle.port_control.specs.declared.PortFault.TheVariants.{Busy, EngineStuck, NoDevice, NotAta}

-- FRE was cleared, whether FR fell or not: the port is stopped still, with its areas where they were, and PxSCTL.DET
-- and what readings noted, but of PxCMD, as they were.
pub record ClearsFre (old new : DevicePort) : Type 0 where
  pub stopped : IsStopped new
  pub fre_is_clear : new.fre ≡ false
  pub bases_are_kept : new.bases ≡ old.bases
  pub sctl_and_notes_but_cmd_are_kept : SameSctlAndNotesButCmd old new

-- The command list and the received FIS area are in their places; PxSCTL.DET and what readings noted, but of PxCMD, are
-- as they were.
pub record PlacesAreas (port : ℕ) (old new : DevicePort) : Type 0 where
  pub is_quiescent : IsQuiescentPort new
  pub areas_are_in_place : new.bases ≡ programmed_bases port
  pub sctl_and_notes_but_cmd_are_kept : SameSctlAndNotesButCmd old new

-- COMRESET was sent and ended: the port receives FISes still, and awaits its link, which is up if DET is 3 where no
-- disk came.
pub record SendsComreset (port : Port) (old new : Device) : Type 0 where
  pub comreset_is_sent : SendsComresetThen port (λ ended now. now ≡ ended) old new
  pub receives : IsStoppedReceiving port.0 (new.port port.0)
  pub shows_drq_till_link : WhileLinkAwaitedCrIsClearAndDrqSet (new.port port.0)
  pub link_is_up_if_det_3_unless_disk_comes : NoDiskComes port.0 old new
      → IsStoppedAndUpForStartIfDet3 (new.port port.0)

-- A device with a link was awaited, and found.
pub record FindsAwaitedDevice (port : Port) (old new : Device) : Type 0 where
  pub reads_until_link : ReadsUntil port Ssts HasLink old new
  pub device_was_seen : SawDeviceSinceSctlWrite (new.port port.0).notes
  pub link_is_up : NoDiskComes port.0 old new → IsStoppedAndUpForStartIfDet3 (old.port port.0)
      → IsUpForStart (new.port port.0)

-- Or it was awaited in vain.
pub record MissesDevice (port : Port) (old new : Device) : Type 0 where
  pub reads_in_vain : ReadsInVain port Ssts HasLink MOST_READINGS old new
  pub no_device_is_backed : BacksFault NoDevice (new.port port.0).notes

-- PxSERR and PxIS were cleared. No cause is told of then; nor an error, where no link was due, but of disks that went
-- or came since.
pub record LeavesOnlyNewPlugErrors (port : Port) (old new : Device) : Type 0 where
  pub clears : ClearsErrors port old new
  pub no_cause_is_set : (place : ℕ) → place < 32 → (new.port port.0).is place ≡ false
  pub serr_shows_only_new_plugs : (old.port port.0).link_due ≡ false → SerrShowsOnlyNewPlugs port.0 old new

-- A device was awaited that is neither busy nor asks for a transfer: whether one was found. Where the link was awaited,
-- the engine stood and TFES was clear, and PxTFD shows no DRQ by now, nothing is due.
pub record AwaitsIdle (port : Port) (found : Bool) (old new : Device) : Type 0 where
  pub device_was_seen : SawDeviceSinceSctlWrite (new.port port.0).notes
  pub found_disk_is_idle : found ≡ true → SawIdle (new.port port.0).notes × ReadsUntil port Tfd ShowsIdle old new
  pub busy_is_backed : found ≡ false → BacksFault Busy (new.port port.0).notes
      × ReadsInVain port Tfd ShowsIdle MOST_READINGS old new
  pub is_clean_to_start : WhileLinkAwaitedCrIsClearAndDrqSet (old.port port.0) → CrAndTfesAreClear (old.port port.0)
      → bit (new.port port.0).notes.last_tfd 3 ≡ false → IsCleanToStart (new.port port.0)

-- An ATA disk was found that is idle.
pub record FindsDiskAfterReset (port : Port) (old new : Device) : Type 0 where
  pub finds_signature : FindsSignature port 0x101 old new
  pub disk_is_seen : let notes = (new.port port.0).notes in SawDeviceSinceSctlWrite notes × SawIdle notes
      × (notes.last_sig ≡ 0x101)
  pub is_clear_and_up_if_stopped_unless_plug_events : IsClearAndUpIfStoppedUnlessPlugEvents port.0 old new
  pub signature_is_shown : LastSignatureIsShown (new.port port.0)

-- Or this fault was found in its place.
pub record FindsFaultAfterReset (port : Port) (fault : PortFault) (old new : Device) : Type 0 where
  pub sees_reset_fault : SeesResetFault port fault old new
  pub fault_is_backed : BacksFault fault (new.port port.0).notes × (fault ≢ EngineStuck)
  pub is_clear_and_up_if_stopped_unless_plug_events : fault ≢ NoDevice
      → IsClearAndUpIfStoppedUnlessPlugEvents port.0 old new
  pub signature_is_shown : (signature : ℕ) → fault ≡ NotAta signature → LastSignatureIsShown (new.port port.0)
