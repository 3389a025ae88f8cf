-- What laws of the crates below say of accesses that look at a port, of each kind: their proofs rest on them.
use Rattle.std.specs.Prelude.{ℕ, true, false, ◌≡◌, ◌≢◌, ◌⊎◌, ◌<◌, ◌%◌, List}
use Rattle.ata_types.specs.declared.Port.{Port}
use Rattle.hba_regs.specs.Bits.{bit}
use Rattle.hba_regs.specs.declared.reg.PortReg.{PortReg}
use Rattle.hba_regs.specs.declared.reg.PortReg.TheVariants.{Is, Cmd, Sctl, Serr, Ssts, Sact, Ci}
use Rattle.hba_regs.specs.declared.reg.Reg.{Reg}
use Rattle.hba_regs.specs.declared.reg.Reg.TheVariants as registers
use Rattle.hba_regs.specs.declared.reg.Reg.TheVariants.{Ghc, Px}
use Rattle.adapter.specs.Access.{Access, Does, PortShows, Reads, Stores, Writes}
use Rattle.adapter.specs.Access.Access.{Writing}
use Rattle.adapter.specs.Device.{DevicePort, Device}
use Rattle.adapter.specs.KeptBySteps.{KeepsOverSteps}
use Rattle.adapter.specs.Rules.{IsOn, MayWrite, IsStable}
use Rattle.adapter.specs.RegisterEffects.{PortRegisterWritten}
use Rattle.adapter.specs.Steps.{Steps}
use Rattle.refinement.specs.Laws.{FragmentLaws, TapeLaws}
use Rattle.refinement.specs.Fragments.{AnyAccess, AnySlotStates, IsDrivenBy, AccessesNoOtherPort, SameSlotStates, OnlyDeviceChangesPort}
use Rattle.refinement.specs.Errors.{ErrorBitsRiseByErrors, NoFaults, ErrorBitsStayClear}
use Rattle.refinement.specs.PortFacts.{IsHaltedByPlainOrQueued, RecordsFaultsIfSt, RunsWell, ShowsNoTrouble, PxisValueTellsNoTrouble, Undisturbed}
use Rattle.refinement.specs.PreservedParts.{ControlsChangeOnlyByTheirWrites, LinkIsSameOrComesUp, NoPlugEvents, SameAdapter, DoesNotWrite}
use Rattle.refinement.specs.PortNotes.{NotesChangeOnlyByReadOrSctlWrite}
use Rattle.refinement.specs.Slots.{SlotStates}
use Rattle.refinement.specs.StartedPort.{WritesCmdOnlyWithStSet, IsStarted}
use Rattle.port_control.specs.PortEvents.{IsPxisSstsOrOwnIsAccess}
use Rattle.port_control.specs.ServiceAccesses.{WritesOnlyHbaIsPxIsCiOrSact, HidesNoPlugEvent, HidesNoFatal}

-- a look at a port, whatever the slots are used for; or ports are served, whose slots are used so
pub data AccessPurpose : Type 0 where
  TakingEvents : Port → AccessPurpose
  ServingAnyPortWithSlotsUsedSo : SlotStates → AccessPurpose

-- The accesses that a part of a call makes, by its purpose.
abbrev pub accesses_for : AccessPurpose → Access → Type 0
accesses_for (TakingEvents port) = IsPxisSstsOrOwnIsAccess port
accesses_for (ServingAnyPortWithSlotsUsedSo uses) = WritesOnlyHbaIsPxIsCiOrSact

-- What a part of a call needs of the slots, by its purpose.
abbrev pub slot_uses_for : AccessPurpose → SlotStates → Type 0
slot_uses_for (TakingEvents port) = AnySlotStates
slot_uses_for (ServingAnyPortWithSlotsUsedSo uses) = SameSlotStates uses

-- The laws of the crates below that the proofs of looks use.
pub record Laws : Type 0 where
  -- one access
  pub steps_reflexive : (d : Device) → Steps d d
  pub law_step_lists_keep_what_steps_keep : (old new : Device) → Steps old new → KeepsOverSteps old new
  pub write_changes_port_register : (port : Port) (r : PortReg) (v : ℕ) (old new : Device)
      → Writes (Px port r) v old new → old.hr ≡ false
      → PortRegisterWritten port.0 r v old new
  pub store_after_steps_leaves_ports_tape_hr : (at : ℕ) (bytes : List ℕ) (old new : Device) → Stores at bytes old new
      → (mid : Device) × Steps old mid × ((port : ℕ) → new.port port ≡ mid.port port) × (new.tape ≡ mid.tape)
      × (new.hr ≡ mid.hr)
  pub access_keeps_on : (access : Access) (old new : Device) → IsOn old
      → ((v : ℕ) → access ≡ Writing Ghc v → (bit v 31 ≡ true) × (bit v 0 ≡ false)) → Does access old new → IsOn new
  pub access_keeps_adapter : (access : Access) (old new : Device) → Does access old new → SameAdapter old new
  pub access_controls : (port : Port) (access : Access) (old new : Device) → old.hr ≡ false → Does access old new
      → ControlsChangeOnlyByTheirWrites access port (old.port port.0) (new.port port.0)
  pub shown_after : (port : Port) (r : PortReg) (v : ℕ) (old new : Device) → old.hr ≡ false
      → Reads (Px port r) v old new → PortShows r v (new.port port.0)
  -- what may be written
  pub write_stays : (r : Reg) (v : ℕ) (d : Device) → ((port : Port) → r ≢ Px port Ci) → MayWrite r v d
      → IsStable (MayWrite r v) d
  pub acknowledging_is_permitted : (port : Port) (v : ℕ) (old new : Device) → IsOn old → Writes (Px port Is) v old new
      → (ports : ℕ) → ((q : ℕ) → q < 32 → bit ports q ≡ true → (q ≡ port.0) ⊎ ((old.port q).notes.acknowledged ≡ true))
      → IsStable (MayWrite registers.Is ports) new
  -- bits of PxSACT that are clear
  pub steps_keep_sact_clear : (port slot : ℕ) (old new : Device) → Steps old new → (old.port port).sact slot ≡ false
      → (new.port port).sact slot ≡ false
  pub reads_keep_sact_clear : (port slot : ℕ) (r : Reg) (v : ℕ) (old new : Device) → Reads r v old new
      → (old.port port).sact slot ≡ false → (new.port port).sact slot ≡ false
  pub writes_keep_sact_clear : (port : Port) (slot : ℕ) (r : Reg) (v : ℕ) (old new : Device)
      → (r ≡ Px port Sact → bit v slot ≡ false) → Writes r v old new → (old.port port.0).sact slot ≡ false
      → (new.port port.0).sact slot ≡ false
  -- a port that runs well
  pub access_keeps_started : (port : Port) (access : Access) (old new : Device) → old.hr ≡ false
      → WritesCmdOnlyWithStSet port access
      → DoesNotWrite (Px port Sctl) access → Undisturbed port.0 old new → Does access old new
      → IsStarted (old.port port.0) → IsStarted (new.port port.0)
  pub started_quiet_port_runs_well : (p : DevicePort) → IsStarted p → ShowsNoTrouble p → RunsWell p
  pub runs_well_is_started : (p : DevicePort) → RunsWell p → IsStarted p
  pub access_keeps_error_bits_clear : (port : Port) (access : Access) (old new : Device) → old.hr ≡ false
      → (old.port port.0).link_due ≡ false → Undisturbed port.0 old new → Does access old new
      → ErrorBitsStayClear (old.port port.0) (new.port port.0)
  pub stays_clear_shows_no_trouble : (p new : DevicePort) → ErrorBitsStayClear p new → ShowsNoTrouble p
      → ShowsNoTrouble new
  pub read_keeps_running_well : (port : ℕ) (r : Reg) (v : ℕ) (old new : Device) → old.hr ≡ false → Reads r v old new
      → Undisturbed port old new → RunsWell (old.port port) → RunsWell (new.port port)
  -- trouble
  pub no_trouble_read_none_before : (port : ℕ) (r : Reg) (v : ℕ) (old new : Device) → old.hr ≡ false → Reads r v old new
      → ShowsNoTrouble (new.port port) → ShowsNoTrouble (old.port port) × Undisturbed port old new
  pub calm_causes_show_no_trouble : (port : Port) (v : ℕ) (old new : Device) → old.hr ≡ false
      → Reads (Px port Is) v old new
      → PxisValueTellsNoTrouble v → ShowsNoTrouble (new.port port.0)
  pub no_trouble_reads_calm_causes : (port : Port) (v : ℕ) (old new : Device) → old.hr ≡ false
      → Reads (Px port Is) v old new
      → ShowsNoTrouble (new.port port.0) → PxisValueTellsNoTrouble v
  pub serr_changes_are_read : (port : Port) (v : ℕ) (old new : Device) → old.hr ≡ false → Reads (Px port Is) v old new
      → ((old.port port.0).serr_n ≡ true → bit v 22 ≡ true) × ((old.port port.0).serr_x ≡ true → bit v 6 ≡ true)
  pub access_keeps_causes : (port : Port) (access : Access) (old new : Device) → old.hr ≡ false
      → DoesNotWrite (Px port Is) access → Does access old new → (place : ℕ) → (old.port port.0).is place ≡ true
      → (new.port port.0).is place ≡ true
  pub access_keeps_serr_changes : (port : Port) (access : Access) (old new : Device) → old.hr ≡ false
      → DoesNotWrite (Px port Serr) access → Does access old new
      → ((old.port port.0).serr_n ≡ true → (new.port port.0).serr_n ≡ true)
      × ((old.port port.0).serr_x ≡ true → (new.port port.0).serr_x ≡ true)
  pub tape : TapeLaws
  pub access_keeps_fault_record : (port : Port) (access : Access) (old new : Device) → DoesNotWrite (Px port Cmd) access
      → DoesNotWrite (Px port Sctl) access → Does access old new → RecordsFaultsIfSt old.tape (old.port port.0) port.0
      → RecordsFaultsIfSt new.tape (new.port port.0) port.0
  pub access_changes_by_errors : (port : Port) (access : Access) (old new : Device) → Does access old new
      → ErrorBitsRiseByErrors port.0 old new
  pub link_stays_or_comes_up : (port : Port) (access : Access) (old new : Device) → old.hr ≡ false
      → DoesNotWrite (Px port Sctl) access → Does access old new → NoPlugEvents port.0 old new
      → LinkIsSameOrComesUp (old.port port.0) (new.port port.0)
  pub change_read_has_cause : (port : Port) (v : ℕ) (old new : Device) → old.hr ≡ false
      → (old.port port.0).link_due ≡ false
      → Reads (Px port Is) v old new → (bit v 22 ≡ true) ⊎ (bit v 6 ≡ true) → ((old.port port.0).serr_n ≡ true)
      ⊎ (((old.port port.0).serr_x ≡ true) ⊎ (NoPlugEvents port.0 old new → ⊥))
  pub no_link_read_has_cause : (port : Port) (v : ℕ) (old new : Device) → old.hr ≡ false
      → (old.port port.0).link_due ≡ false
      → Reads (Px port Ssts) v old new → v % 16 ≢ 3 → ((old.port port.0).ssts_det ≢ 3)
      ⊎ (NoPlugEvents port.0 old new → ⊥)
  -- a fault
  pub steps_hide_no_fault : (port : ℕ) (old new : Device) → old.hr ≡ false → Steps old new
      → (new.port port).is 30 ≡ false
      → ((old.port port).is 30 ≡ false) × NoFaults port old new
  pub access_hides_no_fault : (port : Port) (access : Access) (old new : Device) → old.hr ≡ false
      → DoesNotWrite (Px port Is) access → Does access old new → (new.port port.0).is 30 ≡ false
      → ((old.port port.0).is 30 ≡ false) × NoFaults port.0 old new
  -- a fatal error, and a disk
  pub steps_hide_no_fatal : (port : ℕ) (old new : Device) → old.hr ≡ false → Steps old new → HidesNoFatal port old new
  pub access_hides_no_fatal : (port : Port) (access : Access) (old new : Device) → old.hr ≡ false
      → DoesNotWrite (Px port Is) access → Does access old new → HidesNoFatal port.0 old new
  pub access_hides_no_plug_event : (port : Port) (access : Access) (old new : Device) → old.hr ≡ false
      → DoesNotWrite (Px port Serr) access → Does access old new → HidesNoPlugEvent port.0 old new
  pub tfes_read_means_faulted : (port : Port) (v : ℕ) (old new : Device) → old.hr ≡ false → (old.port port.0).st ≡ true
      → RecordsFaultsIfSt old.tape (old.port port.0) port.0 → Reads (Px port Is) v old new → bit v 30 ≡ true
      → IsHaltedByPlainOrQueued (new.port port.0).halt
  pub read_keeps_faulted : (port : ℕ) (r : Reg) (v : ℕ) (old new : Device) → old.hr ≡ false → (old.port port).st ≡ true
      → RecordsFaultsIfSt old.tape (old.port port) port → IsHaltedByPlainOrQueued (old.port port).halt
      → Reads r v old new
      → IsHaltedByPlainOrQueued (new.port port).halt
  pub write_keeps_faulted : (port : ℕ) (r : Reg) (v : ℕ) (old new : Device) → old.hr ≡ false → (old.port port).st ≡ true
      → RecordsFaultsIfSt old.tape (old.port port) port → IsHaltedByPlainOrQueued (old.port port).halt
      → Writes r v old new
      → IsHaltedByPlainOrQueued (new.port port).halt
  pub last_ssts_is_read : (port : Port) (v : ℕ) (old new : Device) → Reads (Px port Ssts) v old new
      → (new.port port.0).notes.last_ssts ≡ v
  pub access_notes : (port : Port) (access : Access) (old new : Device) → Does access old new
      → NotesChangeOnlyByReadOrSctlWrite access port (old.port port.0).notes (new.port port.0).notes
  -- fragments
  pub other_ports_are_left : (port : Port) (q : ℕ) (old new : Device) → q ≢ port.0 → IsOn old
      → IsDrivenBy (AccessesNoOtherPort port) old new
      → OnlyDeviceChangesPort (old.port q) (new.port q)
  pub accesses_keep_adapter : (old new : Device) → IsDrivenBy AnyAccess old new → SameAdapter old new
  pub fragments : FragmentLaws AccessPurpose accesses_for slot_uses_for
