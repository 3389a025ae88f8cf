-- What a boot found of a port goes on as long as it isn't booted anew.
use Rattle.std.proofs.Common.{ℕ, ◌≡◌, ◌≢◌, Option, List, inl, inr, sym, ◌∙◌, ap, subst}
use Rattle.ata_types.specs.declared.Port.{Port}
use Rattle.ata_types.specs.declared.PortState.{PortState}
use Rattle.ata_types.specs.declared.PortState.TheVariants.{Absent, Ready, Foreign, Unfit, Dead}
use Rattle.ata_types.specs.declared.limits.TheConstants.{MOST_READINGS}
use Rattle.adapter.specs.Access.{Access}
use Rattle.adapter.specs.Device.{Notes, Device}
use Rattle.adapter.specs.Device as device
use Rattle.adapter.specs.declared.command.Operation.TheVariants.{Identify}
use Rattle.refinement.specs.Fragments.{IsDrivenBy, AccessesNoOtherPort, OnlyDeviceChangesPort, GainsNoMove}
use Rattle.identify.specs.declared.DiskInfo.{DiskInfo}
use Rattle.port_control.specs.Ports.{IsStopped, RunsInPlaceWithoutCommands, SawDeviceSinceSctlWrite, BacksFault}
use Rattle.port_control.specs.declared.PortFault.{PortFault}
use Rattle.port_boot.specs.States.{BacksState, HasFitDiskAndInterrupts, HasLastIdentifyPage, IsSimulatedBootTo, IsBootAccess, IsReadyAfterBoot, BacksUnfitNumber}
use Rattle.port_boot.proofs.Identifying.{page_on}
use Rattle.port_boot.specs.Laws.{Laws}
use Rattle.refinement.specs.Tape.{TapeTells}
use Rattle.port_boot.specs.Laws.RegisterSet.{BootRegisters}

pub disk_on : (wanted : Option (List ℕ)) (port : ℕ) (old new : Device) (info : DiskInfo) → GainsNoMove port Identify old new → (new.port port).sctl_det ≡ (old.port port).sctl_det → (new.port port).ie ≡ (old.port port).ie →
    (new.port port).notes.sctl_written_at ≡ (old.port port).notes.sctl_written_at → HasFitDiskAndInterrupts wanted port old info → HasFitDiskAndInterrupts wanted port new info
disk_on wanted port old new info silent det ie same h = record { no_comreset = det ∙ h.no_comreset; ie_is_named = ie ∙ h.ie_is_named; last_identify_page = h.last_identify_page; page_is_last = page_on port old new h.last_identify_page silent same h.page_is_last; disk_is_fit = h.disk_is_fit }

module _ (old new : device.DevicePort) (l : OnlyDeviceChangesPort old new) where
  stopped_on : IsStopped old → IsStopped new
  stopped_on s = record {
    engine_is_stopped = record {
      st_is_clear = l.bits_only_fall.st_stays_clear s.engine_is_stopped.st_is_clear;
      cr_is_clear = l.bits_only_fall.cr_stays_clear s.engine_is_stopped.cr_is_clear;
      no_command_is_issued = λ slot. l.bits_only_fall.ci_stays_clear slot (s.engine_is_stopped.no_command_is_issued slot);
      no_command_is_taken = l.bits_only_fall.none_stays_taken_while_cr_is_clear s.engine_is_stopped.cr_is_clear s.engine_is_stopped.no_command_is_taken;
    };
    sact_is_clear = λ slot. l.bits_only_fall.sact_stays_clear slot (s.sact_is_clear slot);
  }

  running_on : (port : ℕ) → RunsInPlaceWithoutCommands port old → RunsInPlaceWithoutCommands port new
  running_on port r = record {
    st_is_set = l.controls.st_is_kept ∙ r.st_is_set;
    cr_is_set = l.controls.engine_stays_running r.st_is_set r.cr_is_set;
    fre_is_set = l.controls.fre_is_kept ∙ r.fre_is_set;
    areas_are_in_place = l.bits_only_fall.bases_are_kept ∙ r.areas_are_in_place;
    ci_is_clear = λ slot. l.bits_only_fall.ci_stays_clear slot (r.ci_is_clear slot);
    sact_is_clear = λ slot. l.bits_only_fall.sact_stays_clear slot (r.sact_is_clear slot);
    none_is_taken = λ slot. l.bits_only_fall.slots_stay_free slot (r.ci_is_clear slot) (r.none_is_taken slot);
  }

  pub noted_on : (P : Notes → Type 0) → P old.notes → P new.notes
  noted_on P = subst P (sym l.notes)

module _ (port : ℕ) (old new : Device) (l : OnlyDeviceChangesPort (old.port port) (new.port port)) where
  written_on : (new.port port).notes.sctl_written_at ≡ (old.port port).notes.sctl_written_at
  written_on = ap (λ (n : Notes). n.sctl_written_at) l.notes

  page_stays : GainsNoMove port Identify old new → (page : List ℕ) → HasLastIdentifyPage port old page → HasLastIdentifyPage port new page
  page_stays silent page h = page_on port old new page silent written_on h

  unfit_on : GainsNoMove port Identify old new → (n : ℕ) → BacksUnfitNumber n port old → BacksUnfitNumber n port new
  unfit_on silent n (inl (is, shown)) = inl (is, noted_on (old.port port) (new.port port) l (λ k. BacksFault PortFault.Busy k) shown)
  unfit_on silent n (inr (inl (is, shown))) = inr (inl (is, noted_on (old.port port) (new.port port) l (λ k. (signature : ℕ) × BacksFault (PortFault.NotAta signature) k) shown))
  unfit_on silent n (inr (inr (inl (is, saw, count)))) =
      inr (inr (inl (is, noted_on (old.port port) (new.port port) l SawDeviceSinceSctlWrite saw, noted_on (old.port port) (new.port port) l (λ k. k.slot0_issued_count ≡ MOST_READINGS) count)))
  unfit_on silent n (inr (inr (inr (page, has, fault)))) = inr (inr (inr (page, page_stays silent page has, fault)))

  -- the page is not asked about where the port is dead
  pub ends_on : (wanted : Option (List ℕ)) (state : PortState) → (state ≢ Dead → GainsNoMove port Identify old new) → BacksState wanted state port old → BacksState wanted state port new
  ends_on wanted Absent silent (stopped, shown) = (stopped_on (old.port port) (new.port port) l stopped, noted_on (old.port port) (new.port port) l (λ k. BacksFault PortFault.NoDevice k) shown)
  ends_on wanted (Unfit n) silent (stopped, unfit) = (stopped_on (old.port port) (new.port port) l stopped, unfit_on (silent (λ e. absurd cc)) n unfit)
  ends_on wanted Foreign silent (stopped, (page, has, other)) = (stopped_on (old.port port) (new.port port) l stopped, (page, page_stays (silent (λ e. absurd cc)) page has, other))
  ends_on wanted Dead silent (st, shown) = (l.bits_only_fall.st_stays_clear st, noted_on (old.port port) (new.port port) l (λ k. BacksFault PortFault.EngineStuck k) shown)
  ends_on wanted Ready silent none = absurd none

  pub ready_on : (wanted : Option (List ℕ)) (info : DiskInfo) → GainsNoMove port Identify old new → IsReadyAfterBoot wanted port old info → IsReadyAfterBoot wanted port new info
  ready_on wanted info silent r = record {
    runs = running_on (old.port port) (new.port port) l port r.runs;
    device_was_seen = noted_on (old.port port) (new.port port) l SawDeviceSinceSctlWrite r.device_was_seen;
    has_fit_disk = disk_on wanted port old new info silent l.controls.sctl_det_is_kept l.controls.ie_is_kept written_on r.has_fit_disk;
  }

pub boot_driven : (TapeTells : List Access → Type 0) (port : Port) (old new : Device) (state : PortState) → IsSimulatedBootTo TapeTells port state old new → IsDrivenBy (IsBootAccess port) old new
boot_driven TapeTells port old new Dead (inl b) = b.is_simulated.is_driven
boot_driven TapeTells port old new Dead (inr b) = b.is_simulated.is_driven
boot_driven TapeTells port old new Absent b = b.is_simulated.is_driven
boot_driven TapeTells port old new Ready b = b.is_simulated.is_driven
boot_driven TapeTells port old new Foreign b = b.is_simulated.is_driven
boot_driven TapeTells port old new (Unfit n) b = b.is_simulated.is_driven

module _ (laws : Laws) where
  -- ---- what the accesses of a boot are

  pub of_boot : (port : Port) (access : Access) → IsBootAccess port access → AccessesNoOtherPort port access
  of_boot port access (inl control) = laws.control_spares_other_ports BootRegisters port access control
  of_boot port access (inr asking) = laws.asking_spares_other_ports port access asking
