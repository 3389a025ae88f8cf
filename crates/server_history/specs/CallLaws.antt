-- What laws of the crates below say of looks at ports, and of a port's turn in a call.
use Rattle.std.specs.Prelude.{ℕ, true, false, ◌≡◌, ◌≢◌, ◌⊎◌, ◌≤◌, ◌%◌, List, All, Contains, length}
use Rattle.ata_types.specs.declared.Port.{Port}
use Rattle.ata_types.specs.declared.PortState.TheVariants.{Ready}
use Rattle.adapter.specs.Device.{Device, DevicePort}
use Rattle.adapter.specs.RegisterEffects.{PortRegisterRead}
use Rattle.adapter.specs.declared.access.DeviceStep.{DeviceStep}
use Rattle.adapter.specs.declared.command.Operation.TheVariants.{ReadLog}
use Rattle.adapter.specs.declared.tape.Fault.{Fault}
use Rattle.adapter.specs.Rules.{IsOn}
use Rattle.adapter.specs.Steps.{Steps}
use Rattle.adapter.specs.Access.{Access, Does, DoesAll, Reads, notes_after_reading}
use Rattle.refinement.specs.PreservedParts.{NoPlugEvents, DoesNotWrite, SameAdapter, HasDet3IfDiskPresent}
use Rattle.hba_regs.specs.Bits.{bit}
use Rattle.hba_regs.specs.declared.reg.PortReg.{PortReg}
use Rattle.hba_regs.specs.declared.reg.PortReg.TheVariants.{Ci, Is, Sact, Sctl, Ssts}
use Rattle.hba_regs.specs.declared.reg.Reg.TheVariants.{Ghc, Px}
use Rattle.refinement.specs.Fragments.{IsDrivenBy, AccessesNoOtherPort, OnlyDeviceChangesPort, GainsNoMove, TapeGrows}
use Rattle.refinement.specs.Errors.{NoDiskComes, IsFatalEntryOf}
use Rattle.refinement.specs.Laws.{FragmentLaws}
use Rattle.refinement.specs.PortFacts.{IsHaltedByPlainOrQueued, RecordsFaultsIfSt, RunsWell, ShowsNoTrouble, PxisValueTellsNoTrouble, Undisturbed, IsFaultOf}
use Rattle.block_machine.specs.Events.{AbstractCall, AbstractState, AbstractCallResult, Service}
use Rattle.block_machine.specs.Histories.{JointState}
use Rattle.block_machine.specs.Ports.{Evidence, IsStoppedOrStuck, Ports, SamePort}
use Rattle.driver_history.specs.Evidence.{IsEvidencedOf, ShowsLinkChange, ShowsFailure}
use Rattle.error_recovery.specs.Evidence.{BringsLastLogPage, HasFailed, GainsSinceStart}
use Rattle.driver_history.specs.Histories.{BootsAnewWhereRequired, HasOnlyTaskFileError, LosesNoPortError, RunsWellAnew, IsForeignOrUnfit, ProbesDisk}
use Rattle.driver_history.specs.PortTurn.{HasTurnIn, EvidenceAgreesOn, call_accesses, NoLinkDueAfterXUnlessAbsentDeadOrDiskComes}
use Rattle.driver_history.specs.AccessTrace.{WritesOneToNoTroubleBit, LastSctlWritesResetLink}
use Rattle.port_control.specs.Engines.{Stops}
use Rattle.port_control.specs.PortEvents.{TakesEvent, port_event_of, IsPxisSstsOrOwnIsAccess}
use Rattle.port_control.specs.ServiceAccesses.{ShowedLossOrHadPlugEvent, WritesOnlyHbaIsCiSactOrOtherPxIs, WritesOnlyHbaIsPxIsCiOrSact, HidesNoPlugEvent, HidesNoFatal, HidesNoFault}
use Rattle.port_control.specs.declared.events.PortEvent.{PortEvent}
use Rattle.port_control.specs.declared.events.PortEvent.TheVariants.{FatalError, TaskFileError, LinkChanged, NoEvent}
use Rattle.server_history.specs.AccessPurposes.{AccessPurpose, slot_uses_for, accesses_for}

-- The laws on looks at a port that the proofs of this crate use.
pub record LookLaws : Type 0 where
  -- a reading of a port's register; what other accesses leave of a port
  pub port_register_read : (port : Port) (r : PortReg) (v : ℕ) (old new : Device) → Reads (Px port r) v old new
      → old.hr ≡ false
      → PortRegisterRead port.0 r v old new
  pub reading_is_noted : (port : Port) (r : PortReg) (v : ℕ) (old new : Device) → old.hr ≡ false
      → Reads (Px port r) v old new
      → (new.port port.0).notes ≡ notes_after_reading r v (old.port port.0)
  pub disk_shown_if_in_stays_but_for_sctl_write : (port : Port) (access : Access) (old new : Device) → old.hr ≡ false
      → DoesNotWrite (Px port Sctl) access → Does access old new → HasDet3IfDiskPresent (old.port port.0)
      → HasDet3IfDiskPresent (new.port port.0)
  pub leaves_port_is_reflexive : (p : DevicePort) → OnlyDeviceChangesPort p p
  pub leaves_port_is_transitive : (old mid new : DevicePort) → OnlyDeviceChangesPort old mid
      → OnlyDeviceChangesPort mid new → OnlyDeviceChangesPort old new
  -- a command that failed
  pub look_finds_fault_halted : (port : Port) (old new : Device) → IsOn old → TakesEvent port TaskFileError old new
      → (old.port port.0).st ≡ true → RecordsFaultsIfSt old.tape (old.port port.0) port.0
      → IsHaltedByPlainOrQueued (new.port port.0).halt
      × ((new.port port.0).notes.last_ssts % 16 ≡ 3)
  pub reading_keeps_fault_halted : (port : Port) (r : PortReg) (v : ℕ) (old new : Device) → IsOn old
      → Reads (Px port r) v old new
      → r ≢ Ssts → (old.port port.0).st ≡ true → RecordsFaultsIfSt old.tape (old.port port.0) port.0
      → IsHaltedByPlainOrQueued (old.port port.0).halt → IsHaltedByPlainOrQueued (new.port port.0).halt
      × ((new.port port.0).notes.last_ssts ≡ (old.port port.0).notes.last_ssts)
  -- what a look shows of trouble
  pub look_tells_shown_change : (port : Port) (result : PortEvent) (old new : Device) → IsOn old
      → TakesEvent port result old new
      → ((old.port port.0).serr_n ≡ true) ⊎ ((old.port port.0).serr_x ≡ true) → result ≡ LinkChanged
  pub look_tells_missing_device_if_none_comes : (port : Port) (result : PortEvent) (old new : Device) → IsOn old
      → TakesEvent port result old new
      → (old.port port.0).ssts_det ≢ 3 → (old.port port.0).link_due ≡ false → NoDiskComes port.0 old new
      → result ≡ LinkChanged
  pub tfes_event_bits : (causes status : ℕ) → port_event_of causes status ≡ TaskFileError
      → (bit causes 30 ≡ true) × (bit causes 6 ≡ false) × (bit causes 22 ≡ false)
      × ((place : ℕ) → 27 ≤ place → place ≤ 29 → bit causes place ≡ false) × (status % 16 ≡ 3)
  pub no_event_bits : (causes status : ℕ) → port_event_of causes status ≡ NoEvent → PxisValueTellsNoTrouble causes
      × (status % 16 ≡ 3)
  pub no_event_means_undisturbed : (port : Port) (result : PortEvent) (old new : Device) → IsOn old
      → (l : TakesEvent port result old new)
      → result ≡ NoEvent → ShowsNoTrouble (old.port port.0) × Undisturbed port.0 old l.after_is_read
  -- a fatal error shows
  pub fatal_event_bits : (causes status : ℕ) → port_event_of causes status ≡ FatalError
      → ((bit causes 28 ≡ true) ⊎ (bit causes 29 ≡ true) ⊎ (bit causes 27 ≡ true)) × (bit causes 6 ≡ false)
      × (bit causes 22 ≡ false) × (status % 16 ≡ 3)
  -- what a look doesn't show hasn't come
  pub look_hides_no_fault : (port : Port) (result : PortEvent) (old new : Device) → IsOn old
      → (l : TakesEvent port result old new)
      → bit l.causes 30 ≡ false → HidesNoFault port.0 old new
  pub look_hides_no_fatal : (port : Port) (result : PortEvent) (old new : Device) → IsOn old
      → (l : TakesEvent port result old new)
      → ((place : ℕ) → 27 ≤ place → place ≤ 29 → bit l.causes place ≡ false) → HidesNoFatal port.0 old new
  pub look_hides_no_plug_event : (port : Port) (result : PortEvent) (old new : Device) → IsOn old
      → TakesEvent port result old new
      → HidesNoPlugEvent port.0 old new
  pub pxis_spared_hides_no_fault : (port : Port) (old new : Device) → IsOn old
      → IsDrivenBy (WritesOnlyHbaIsCiSactOrOtherPxIs port) old new
      → HidesNoFault port.0 old new
  pub pxis_spared_hides_no_fatal : (port : Port) (old new : Device) → IsOn old
      → IsDrivenBy (WritesOnlyHbaIsCiSactOrOtherPxIs port) old new
      → HidesNoFatal port.0 old new
  pub pxis_spared_hides_no_plug_event : (port : Port) (old new : Device) → IsOn old
      → IsDrivenBy (WritesOnlyHbaIsCiSactOrOtherPxIs port) old new
      → HidesNoPlugEvent port.0 old new
  pub link_changed_means_loss : (port : Port) (old new : Device) → IsOn old → TakesEvent port LinkChanged old new
      → (old.port port.0).link_due ≡ false → ShowedLossOrHadPlugEvent port.0 old new
  -- accesses that serve ports
  pub fragments : FragmentLaws AccessPurpose accesses_for slot_uses_for
  pub look_access_is_service_access : (port : Port) (access : Access) → IsPxisSstsOrOwnIsAccess port access
      → WritesOnlyHbaIsPxIsCiOrSact access
  pub look_access_is_of_port : (port : Port) (access : Access) → IsPxisSstsOrOwnIsAccess port access
      → AccessesNoOtherPort port access
  pub look_is_driven_by_its_accesses : (port : Port) (result : PortEvent) (old new : Device)
      → TakesEvent port result old new
      → IsDrivenBy (IsPxisSstsOrOwnIsAccess port) old new
  pub undisturbed_well_port_shows_no_event : (port : Port) (result : PortEvent) (old new : Device) → IsOn old
      → TakesEvent port result old new
      → RunsWell (old.port port.0) → Undisturbed port.0 old new → (result ≡ NoEvent) × RunsWell (new.port port.0)
  -- what serving ports writes, and leaves
  pub services_do_not_write_ghc : (access : Access) → WritesOnlyHbaIsPxIsCiOrSact access → DoesNotWrite Ghc access
  pub services_spare_other_registers : (port : Port) (r : PortReg) → r ≢ Is → r ≢ Ci → r ≢ Sact → (access : Access)
      → WritesOnlyHbaIsPxIsCiOrSact access
      → DoesNotWrite (Px port r) access
  pub service_keeps_adapter_on : (old new : Device) → IsOn old → IsDrivenBy WritesOnlyHbaIsPxIsCiOrSact old new
      → IsOn new
  pub service_keeps_adapter : (old new : Device) → IsDrivenBy WritesOnlyHbaIsPxIsCiOrSact old new → SameAdapter old new
  pub services_keep_controls : (port : ℕ) (old new : Device) → IsOn old → IsDrivenBy WritesOnlyHbaIsPxIsCiOrSact old new
      → ((new.port port).sctl_det ≡ (old.port port).sctl_det) × ((new.port port).ie ≡ (old.port port).ie)
      × ((new.port port).notes.sctl_written_at ≡ (old.port port).notes.sctl_written_at)
      × ((new.port port).notes.st_set_at ≡ (old.port port).notes.st_set_at)
  pub service_keeps_faults_on_record : (port : ℕ) (old new : Device) → IsDrivenBy WritesOnlyHbaIsPxIsCiOrSact old new
      → RecordsFaultsIfSt old.tape (old.port port) port → RecordsFaultsIfSt new.tape (new.port port) port
  pub look_keeps_sact_clear : (port : Port) (q slot : ℕ) (old new : Device)
      → IsDrivenBy (IsPxisSstsOrOwnIsAccess port) old new
      → (old.port q).sact slot ≡ false → (new.port q).sact slot ≡ false

-- The laws on calls that the proofs of this crate use.
pub record CallLaws : Type 0 where
  -- a port's turn in a call
  pub turn_evidence_is_calls : (port : Port) (old : JointState Device) (begun : AbstractState) (ended ports : Ports)
      (new : Device)
      (turn call : Evidence) (ask : AbstractCall DeviceStep) (said : AbstractCallResult) → IsOn old.device
      → ((old.abstract.ports.state port ≡ Ready) ⊎ Contains turn.lost port → (old.device.port port.0).link_due ≡ false)
      → (t : HasTurnIn port old.device new) → IsOn t.end → SamePort old.abstract.ports begun.ports port
      → SamePort ended ports port → EvidenceAgreesOn port turn call
      → IsEvidencedOf ask said t.turn (record { device = t.start; abstract = begun }) ended t.end turn port
      → IsEvidencedOf ask said (call_accesses t) old ports new call port
  pub turn_failure_is_calls : (port : Port) (old new : Device) (fault : Fault) → IsOn old → (t : HasTurnIn port old new)
      → HasFailed port t.turn t.start t.end fault → HasFailed port (call_accesses t) old new fault
  pub turn_log_page_is_calls : (port : Port) (old new : Device) (page : List ℕ) → IsOn old
      → (t : HasTurnIn port old new)
      → GainsNoMove port.0 ReadLog t.end new → BringsLastLogPage port t.start t.end page
      → BringsLastLogPage port old new page
  -- a port's trouble, and its turn in the call
  pub ordinary_accesses_lose_no_error : (port : Port) (old : JointState Device) (new : Device) (accesses : List Access)
      (evidence : Evidence)
      (ports : Ports) → IsOn old.device
      → DoesAll accesses old.device new → All (DoesNotWrite Ghc) accesses → All (WritesOneToNoTroubleBit port) accesses
      → LosesNoPortError evidence old ports new port
  pub steps_lose_no_error : (port : Port) (old : JointState Device) (new : Device) (evidence : Evidence) (ports : Ports)
      → IsOn old.device → Steps old.device new → LosesNoPortError evidence old ports new port
  pub lone_tfes_in_call_is_in_turn : (port : Port) (old : JointState Device) (begun : AbstractState) (new : Device)
      → IsOn old.device
      → (old.device.port port.0).link_due ≡ false → (t : HasTurnIn port old.device new) → IsOn t.end
      → begun.ports.state port ≡ Ready → HasOnlyTaskFileError port old new
      → HasOnlyTaskFileError port (record { device = t.start; abstract = begun }) t.end
  pub turn_trouble_is_calls : (port : Port) (old : JointState Device) (begun : AbstractState) (ended ports : Ports)
      (new : Device)
      (turn call : Evidence) → IsOn old.device
      → (t : HasTurnIn port old.device new) → IsOn t.end → SamePort ended ports port → EvidenceAgreesOn port turn call
      → SamePort old.abstract.ports begun.ports port → (ended.state port ≡ Ready → IsStoppedOrStuck turn port
      → length t.start.tape ≤ (t.end.port port.0).notes.st_set_at)
      → ((begun.ports.state port ≡ Ready) ⊎ (ended.state port ≡ Ready) → ShowsFailure (t.start.port port.0)
      ⊎ ShowsLinkChange (t.start.port port.0) → IsStoppedOrStuck turn port)
      → LosesNoPortError turn (record { device = t.start; abstract = begun }) ended t.end port
      → LosesNoPortError call old ports new port
  pub turn_boots_are_calls : (port : Port) (old : JointState Device) (begun : AbstractState) (ended ports : Ports)
      (new : Device)
      (one other : AbstractCallResult) → IsOn old.device
      → (old.abstract.ports.state port ≡ Ready → (old.device.port port.0).link_due ≡ false)
      → (t : HasTurnIn port old.device new) → IsOn t.end → SamePort ended ports port
      → SamePort old.abstract.ports begun.ports port
      → BootsAnewWhereRequired Service one t.turn (record { device = t.start; abstract = begun }) ended t.end port
      → BootsAnewWhereRequired Service other (call_accesses t) old ports new port
  pub turn_running_well_is_calls : (port : Port) (old : JointState Device) (begun : AbstractState) (ended ports : Ports)
      (new : Device)
      (turn call : Evidence) → IsOn old.device
      → (t : HasTurnIn port old.device new) → IsOn t.end
      → (ended.state port ≡ Ready → ((old.device.port port.0).link_due ≡ false) ⊎ LastSctlWritesResetLink port t.turn)
      → SamePort ended ports port → EvidenceAgreesOn port turn call
      → (ended.state port ≡ Ready → (t.end.port port.0).notes.st_set_at ≤ length t.end.tape)
      → RunsWellAnew turn t.turn (record { device = t.start; abstract = begun }) ended t.end port
      → RunsWellAnew call (call_accesses t) old ports new port
  -- a disk that is probed in a port's turn
  pub turn_probe_is_calls : (port : Port) (old : JointState Device) (begun : AbstractState) (ended ports : Ports)
      (new : Device)
      → IsOn old.device → (t : HasTurnIn port old.device new) → IsOn t.end → SamePort ended ports port
      → SamePort old.abstract.ports begun.ports port
      → (IsForeignOrUnfit old.abstract.ports port → HasDet3IfDiskPresent (old.device.port port.0))
      → NoLinkDueAfterXUnlessAbsentDeadOrDiskComes port (record { device = t.start; abstract = begun }) ended t.end
      → (NoDiskComes port.0 t.start t.end → ProbesDisk t.turn
      (record { device = t.start; abstract = begun }) ended t.end
      port)
      → NoDiskComes port.0 old.device new → ProbesDisk (call_accesses t) old ports new port
  pub turn_without_due_link_is_calls : (port : Port) (old : JointState Device) (begun : AbstractState)
      (ended ports : Ports) (new : Device)
      → IsOn old.device → (t : HasTurnIn port old.device new) → IsOn t.end → SamePort ended ports port
      → SamePort old.abstract.ports begun.ports port
      → NoLinkDueAfterXUnlessAbsentDeadOrDiskComes port (record { device = t.start; abstract = begun }) ended
      t.end → NoLinkDueAfterXUnlessAbsentDeadOrDiskComes port old ports new
  pub stopped_port_set_st_since : (port : Port) (accesses : List Access) (old new : Device) → IsOn old
      → All (DoesNotWrite Ghc) accesses → DoesAll accesses old new → Stops port accesses → (new.port port.0).st ≡ true
      → length old.tape ≤ (new.port port.0).notes.st_set_at
  -- what came since ST was set
  pub fatal_in_part_is_in_whole : (port : ℕ) (old start end new : Device) → TapeGrows old start → TapeGrows end new
      → (new.port port).notes.st_set_at ≡ (end.port port).notes.st_set_at
      → GainsSinceStart (IsFatalEntryOf port) port start end
      → GainsSinceStart (IsFatalEntryOf port) port old new
  pub untroubled_since_st_is_calm : (port : ℕ) (old mid new : Device) → TapeGrows old mid → TapeGrows mid new
      → (new.port port).notes.st_set_at
      ≤ length mid.tape → NoPlugEvents port old new
      → (GainsSinceStart (IsFaultOf port) port old new → ⊥) → (GainsSinceStart (IsFatalEntryOf port) port old new → ⊥)
      → Undisturbed port mid new
