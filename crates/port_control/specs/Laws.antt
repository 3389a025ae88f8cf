-- What laws of the crates below say of accesses that control a port, of each kind: their proofs rest on them.
use Rattle.std.specs.Prelude.{ℕ, true, false, ◌≡◌, ◌≢◌, ◌⊎◌, ◌+◌, ◌%◌, ◌≤◌, ◌++◌, List, length}
use Rattle.ata_types.specs.declared.Port.{Port}
use Rattle.adapter.specs.Access.{Access, Does, DoesAll, PortShows, Reads, Writes, notes_after_reading}
use Rattle.refinement.specs.Laws.{FragmentLaws, TapeLaws}
use Rattle.refinement.specs.Relation.{StateRelation}
use Rattle.refinement.specs.Driver.{AllFree, KeepsOtherCmdBits}
use Rattle.refinement.specs.Fragments.{AnyAccess, AnySlotStates, ReadsPortOrWrites, IsDrivenBy, AccessesNoOtherPort}
use Rattle.refinement.specs.Errors.{NoDiskComes}
use Rattle.hba_regs.specs.declared.reg.PortReg.TheVariants.{Ci, Clb, Clbu, Cmd, Fb, Fbu, Is, Sact, Sctl, Serr, Ssts, Tfd}
use Rattle.adapter.specs.Device.{Device, DevicePort}
use Rattle.adapter.specs.declared.tape.Entry.{Entry}
use Rattle.refinement.specs.Slots.{Free, SlotStates}
use Rattle.hba_regs.specs.declared.reg.Reg.TheVariants.{Ghc, Px}
use Rattle.adapter.specs.Rules.{HasPort, IsOn, MaySetFre, MayStart, MayStopReceiving, MayWrite, IsStable}
use Rattle.refinement.specs.PortFacts.{IsQuiescentPort, WhileLinkAwaitedCrIsClearAndDrqSet, IsEngineStopped, IsCleanToStart, RecordsFaultsIfSt, CrAndTfesAreClear, StartsCleanAndWritesSctlStopped}
use Rattle.port_control.specs.Ports.{IsSerrOrIs, IsCmdOrBaseRegister, IsSctlSerrOrIs, IsCommandRegister}
use Rattle.refinement.specs.HaltRecovery.{IsLinked, RunsLinked}
use Rattle.refinement.specs.StartedPort.{IsStoppedAndUpForStartIfDet3, IsStarted, IsUpForStart, WritesCmdOnlyWithStClear}
use Rattle.block_machine.specs.Histories.{IsReachable}
use Rattle.adapter.specs.KeptBySteps.{KeepsOverSteps}
use Rattle.ata_types.specs.declared.memory.TheConstants.{LIST_BYTES, RECEIVED_FIS_BYTES}
use Rattle.refinement.specs.PreservedParts.{ControlsChangeOnlyByTheirWrites, NoPlugEvents, SameAdapter, DoesNotWrite}
use Rattle.refinement.specs.PortNotes.{NotesChangeOnlyByReadOrSctlWrite}
use Rattle.block_machine.specs.State.{Machine}
use Rattle.hba_regs.specs.declared.reg.PortReg.{PortReg}
use Rattle.adapter.specs.RegisterEffects.{PortRegisterWritten, PortRegisterRead}
use Rattle.adapter.specs.Access.Access.{Reading, Writing}
use Rattle.hba_regs.specs.declared.reg.Reg.{Reg}
use Rattle.adapter.specs.Steps.{Steps}
use Rattle.hba_regs.specs.Bits.{bit}
use Rattle.refinement.specs.MemoryLayout.{command_list_address, received_fis_address}

-- ---- kinds of accesses

-- sets of registers that are written
pub data RegisterSet : Type 0 where
  Commanding : RegisterSet
  Placing : RegisterSet
  ClearingErrors : RegisterSet
  ResettingLink : RegisterSet

-- The registers of a port in the set.
abbrev pub registers_of : RegisterSet → PortReg → Type 0
registers_of Commanding = IsCommandRegister
registers_of Placing = IsCmdOrBaseRegister
registers_of ClearingErrors = IsSerrOrIs
registers_of ResettingLink = IsSctlSerrOrIs

-- a port's registers are read, and those of a set written; or a port is started, none of whose slots is used
pub data AccessPurpose : Type 0 where
  Controlling : RegisterSet → Port → AccessPurpose
  StartingWithAllFree : Port → AccessPurpose

-- The accesses that a part of a call makes, by its purpose.
abbrev pub accesses_for : AccessPurpose → Access → Type 0
accesses_for (Controlling set port) = ReadsPortOrWrites (registers_of set) port
accesses_for (StartingWithAllFree port) = ReadsPortOrWrites IsCommandRegister port

-- What a part of a call needs of the slots, by its purpose.
abbrev pub slot_uses_for : AccessPurpose → SlotStates → Type 0
slot_uses_for (Controlling set port) = AnySlotStates
slot_uses_for (StartingWithAllFree port) = λ uses. AllFree uses port.0

-- ---- laws

-- The laws of the crates below that the proofs of this crate use.
pub record Laws : Type 0 where
  -- one access
  pub read_changes_port_register : (port : Port) (r : PortReg) (v : ℕ) (old new : Device) → Reads (Px port r) v old new
      → old.hr ≡ false
      → PortRegisterRead port.0 r v old new
  pub write_changes_port_register : (port : Port) (r : PortReg) (v : ℕ) (old new : Device)
      → Writes (Px port r) v old new → old.hr ≡ false
      → PortRegisterWritten port.0 r v old new
  pub does_append : (early late : List Access) (old mid new : Device) → DoesAll early old mid → DoesAll late mid new
      → DoesAll (early ++ late) old new
  pub law_step_lists_keep_what_steps_keep : (old new : Device) → Steps old new → KeepsOverSteps old new
  pub access_keeps_on : (access : Access) (old new : Device) → IsOn old
      → ((v : ℕ) → access ≡ Writing Ghc v → (bit v 31 ≡ true) × (bit v 0 ≡ false)) → Does access old new → IsOn new
  pub write_stays : (r : Reg) (v : ℕ) (d : Device) → ((port : Port) → r ≢ Px port Ci) → MayWrite r v d
      → IsStable (MayWrite r v) d
  pub writing_clb_is_permitted : (d : Device) (port : Port) → IsOn d → HasPort d port.0 → (d.port port.0).st ≡ false
      → (d.port port.0).cr ≡ false → command_list_address port.0 + LIST_BYTES ≤ d.memory_size
      → IsStable (MayWrite (Px port Clb) (command_list_address port.0)) d
  pub writing_clbu_is_permitted : (d : Device) (port : Port) → IsOn d → HasPort d port.0 → (d.port port.0).st ≡ false
      → (d.port port.0).cr ≡ false → IsStable (MayWrite (Px port Clbu) 0) d
  pub writing_fb_is_permitted : (d : Device) (port : Port) → IsOn d → HasPort d port.0 → (d.port port.0).fre ≡ false
      → (d.port port.0).fr ≡ false → received_fis_address port.0 + RECEIVED_FIS_BYTES ≤ d.memory_size
      → IsStable (MayWrite (Px port Fb) (received_fis_address port.0)) d
  pub writing_fbu_is_permitted : (d : Device) (port : Port) → IsOn d → HasPort d port.0 → (d.port port.0).fre ≡ false
      → (d.port port.0).fr ≡ false → IsStable (MayWrite (Px port Fbu) 0) d
  pub starting_is_permitted : (port : Port) (was v : ℕ) (d : Device) → IsOn d → HasPort d port.0
      → (d.port port.0).notes.last_cmd
      ≡ was → MayStart (d.port port.0) → KeepsOtherCmdBits true true was v → IsStable (MayWrite (Px port Cmd) v) d
  pub stopping_is_permitted : (port : Port) (was v : ℕ) (d : Device) → IsOn d → HasPort d port.0
      → (d.port port.0).notes.last_cmd
      ≡ was → KeepsOtherCmdBits false (d.port port.0).fre was v → IsStable (MayWrite (Px port Cmd) v) d
  pub receiving_is_permitted : (port : Port) (was v : ℕ) (d : Device) → IsOn d → HasPort d port.0
      → (d.port port.0).notes.last_cmd ≡ was → MaySetFre (d.port port.0)
      → KeepsOtherCmdBits (d.port port.0).st true was v
      → IsStable (MayWrite (Px port Cmd) v) d
  pub clearing_fre_is_permitted : (port : Port) (was v : ℕ) (d : Device) → IsOn d → HasPort d port.0
      → (d.port port.0).notes.last_cmd ≡ was → MayStopReceiving (d.port port.0) → KeepsOtherCmdBits false false was v
      → IsStable (MayWrite (Px port Cmd) v) d
  -- what it notes and sets
  pub last_cmd_is_read : (port : Port) (v : ℕ) (old new : Device) → Reads (Px port Cmd) v old new
      → (new.port port.0).notes.last_cmd ≡ v
  pub notes_read : (port : Port) (r : PortReg) (v : ℕ) (old new : Device) → old.hr ≡ false → Reads (Px port r) v old new
      → (new.port port.0).notes ≡ notes_after_reading r v (old.port port.0)
  pub shown_after : (port : Port) (r : PortReg) (v : ℕ) (old new : Device) → old.hr ≡ false
      → Reads (Px port r) v old new → PortShows r v (new.port port.0)
  pub access_notes : (port : Port) (access : Access) (old new : Device) → Does access old new
      → NotesChangeOnlyByReadOrSctlWrite access port (old.port port.0).notes (new.port port.0).notes
  pub writes_keep_notes : (port : Port) (r : PortReg) (v : ℕ) (old new : Device) → r ≢ Sctl → r ≢ Is
      → (r ≡ Cmd → bit v 0 ≡ false) → Writes (Px port r) v old new → (new.port port.0).notes ≡ (old.port port.0).notes
  pub cmd_write_keeps_notes_but_st_time : (port : Port) (v : ℕ) (old new : Device) → Writes (Px port Cmd) v old new
      → (new.port port.0).notes ≡ record (old.port port.0).notes { st_set_at = (new.port port.0).notes.st_set_at }
  pub access_controls : (port : Port) (access : Access) (old new : Device) → old.hr ≡ false → Does access old new
      → ControlsChangeOnlyByTheirWrites access port (old.port port.0) (new.port port.0)
  pub cmd_write_sets_st_and_fre : (port : Port) (v : ℕ) (old new : Device) → Writes (Px port Cmd) v old new
      → ((new.port port.0).st ≡ bit v 0) × ((new.port port.0).fre ≡ bit v 4)
  pub start_sets_cr_and_time : (port : Port) (v : ℕ) (old new : Device) → (old.port port.0).st ≡ false → bit v 0 ≡ true
      → Writes (Px port Cmd) v old new → ((new.port port.0).cr ≡ true)
      × ((new.port port.0).notes.st_set_at ≡ length new.tape)
  pub sctl_write_sets_det : (port : Port) (v : ℕ) (old new : Device) → Writes (Px port Sctl) v old new
      → ((new.port port.0).sctl_det ≡ v % 16) × ((new.port port.0).notes.sctl_written_at ≡ length new.tape)
  pub errors_cleared : (port : Port) (v : ℕ) (old new : Device) → Writes (Px port Serr) v old new
      → (bit v 16 ≡ true → (new.port port.0).serr_n ≡ false) × (bit v 26 ≡ true → (new.port port.0).serr_x ≡ false)
  pub causes_cleared : (port : Port) (v : ℕ) (old new : Device) → Writes (Px port Is) v old new → (place : ℕ)
      → bit v place ≡ true → (new.port port.0).is place ≡ false
  pub access_keeps_cause_clear : (port : Port) (place : ℕ) (access : Access) (old new : Device)
      → (old.port port.0).cr ≡ false
      → Does access old new → (old.port port.0).is place ≡ false → (new.port port.0).is place ≡ false
  pub writes_keep_engine_stopped : (port : Port) (r : Reg) (v : ℕ) (old new : Device) → IsStable (MayWrite r v) old
      → (r ≡ Px port Cmd → bit v 0 ≡ false) → Writes r v old new → IsEngineStopped (old.port port.0)
      → IsEngineStopped (new.port port.0)
  pub law_cr_read_clear_means_engine_stopped : (uses : SlotStates) (m : Machine) (port : Port) (v : ℕ)
      (old new : Device)
      → IsReachable m
      → StateRelation uses m old → (old.port port.0).st ≡ false → Reads (Px port Cmd) v old new → bit v 15 ≡ false
      → IsEngineStopped (new.port port.0)
  pub writes_keep_port_quiescent : (port : Port) (r : Reg) (v : ℕ) (old new : Device) → IsStable (MayWrite r v) old
      → (r ≡ Px port Cmd → (bit v 0 ≡ false) × (bit v 4 ≡ false)) → Writes r v old new
      → IsQuiescentPort (old.port port.0)
      → IsQuiescentPort (new.port port.0)
  pub stopped_port_bits_are_clear : (uses : SlotStates) (m : Machine) (d : Device) (port slot : ℕ)
      → StateRelation uses m d
      → (d.port port).st ≡ false
      → ((d.port port).ci slot ≡ false) × ((d.port port).sact slot ≡ false)
  pub writes_keep_sact_clear : (port : Port) (slot : ℕ) (r : Reg) (v : ℕ) (old new : Device)
      → (r ≡ Px port Sact → bit v slot ≡ false) → Writes r v old new → (old.port port.0).sact slot ≡ false
      → (new.port port.0).sact slot ≡ false
  pub free_unarmed : (uses : SlotStates) (m : Machine) (d : Device) → StateRelation uses m d → (port slot : ℕ)
      → uses port slot ≡ Free → (d.port port).sact slot ≡ false
  -- the link
  pub comreset_shows_drq_till_link : (port : Port) (v : ℕ) (old new : Device) → (old.port port.0).cr ≡ false
      → v % 16 ≡ 1 → Writes (Px port Sctl) v old new → WhileLinkAwaitedCrIsClearAndDrqSet (new.port port.0)
  pub writes_keep_drq_till_link : (port : ℕ) (r : Reg) (v : ℕ) (old new : Device) → IsStable (MayWrite r v) old
      → IsStable (StartsCleanAndWritesSctlStopped r v) old → Writes r v old new
      → WhileLinkAwaitedCrIsClearAndDrqSet (old.port port)
      → WhileLinkAwaitedCrIsClearAndDrqSet (new.port port)
  pub reads_keep_drq_till_link : (port : ℕ) (r : Reg) (v : ℕ) (old new : Device) → Reads r v old new
      → WhileLinkAwaitedCrIsClearAndDrqSet (old.port port)
      → WhileLinkAwaitedCrIsClearAndDrqSet (new.port port)
  pub access_keeps_drq_till_link : (port : Port) (access : Access) (old new : Device)
      → DoesNotWrite (Px port Cmd) access
      → DoesNotWrite (Px port Sctl) access → Does access old new → WhileLinkAwaitedCrIsClearAndDrqSet (old.port port.0)
      → WhileLinkAwaitedCrIsClearAndDrqSet (new.port port.0)
  pub comreset_begins_coming_up : (port : Port) (v : ℕ) (old new : Device) → (old.port port.0).cr ≡ false → v % 16 ≡ 1
      → Writes (Px port Sctl) v old new → IsStoppedAndUpForStartIfDet3 (new.port port.0)
  pub access_keeps_coming_up : (port : Port) (access : Access) (old new : Device) → WritesCmdOnlyWithStClear port access
      → Does access old new
      → NoDiskComes port.0 old new → IsStoppedAndUpForStartIfDet3 (old.port port.0)
      → IsStoppedAndUpForStartIfDet3 (new.port port.0)
  pub access_keeps_up : (port : Port) (access : Access) (old new : Device) → old.hr ≡ false
      → (old.port port.0).cr ≡ false
      → WritesCmdOnlyWithStClear port access → DoesNotWrite (Px port Sctl) access → NoPlugEvents port.0 old new
      → Does access old new
      → IsUpForStart (old.port port.0) → IsUpForStart (new.port port.0)
  pub up_is_found : (port : Port) (v : ℕ) (old new : Device) → NoDiskComes port.0 old new
      → Reads (Px port Ssts) v old new
      → v % 16 ≡ 3 → IsStoppedAndUpForStartIfDet3 (old.port port.0) → IsUpForStart (new.port port.0)
  pub start_of_up_port_is_started : (port : Port) (v : ℕ) (old new : Device) → old.hr ≡ false
      → (old.port port.0).st ≡ false
      → (old.port port.0).cr ≡ false → bit v 0 ≡ true → Writes (Px port Cmd) v old new → IsUpForStart (old.port port.0)
      → NoPlugEvents port.0 old new → IsStarted (new.port port.0)
  pub access_keeps_linked : (port : Port) (access : Access) (old new : Device) → old.hr ≡ false
      → DoesNotWrite (Px port Sctl) access → NoPlugEvents port.0 old new → Does access old new
      → IsLinked (old.port port.0) → IsLinked (new.port port.0)
  pub start_runs_linked : (port : Port) (v : ℕ) (old new : Device) → old.hr ≡ false → (old.port port.0).st ≡ false
      → (old.port port.0).cr ≡ false → bit v 0 ≡ true → NoPlugEvents port.0 old new → Writes (Px port Cmd) v old new
      → IsLinked (old.port port.0) → RunsLinked (new.port port.0)
  pub last_tfd_is_read : (port : Port) (v : ℕ) (old new : Device) → Reads (Px port Tfd) v old new
      → (new.port port.0).notes.last_tfd ≡ v
  pub law_tfes_and_drq_clear_mean_clean_to_start : (port : Port) (v : ℕ) (old new : Device)
      → WhileLinkAwaitedCrIsClearAndDrqSet (old.port port.0)
      → CrAndTfesAreClear (old.port port.0) → Reads (Px port Tfd) v old new → bit v 3 ≡ false
      → IsCleanToStart (new.port port.0)
  pub steps_keep_clean_to_start : (port : ℕ) (old new : Device) → Steps old new → IsCleanToStart (old.port port)
      → IsCleanToStart (new.port port)
  pub reads_keep_clean_to_start : (port : ℕ) (r : Reg) (v : ℕ) (old new : Device) → Reads r v old new
      → IsCleanToStart (old.port port)
      → IsCleanToStart (new.port port)
  pub writes_keep_clean_to_start : (port : Port) (r : Reg) (v : ℕ) (old new : Device)
      → (r ≡ Px port Cmd → bit v 0 ≡ false)
      → (r ≡ Px port Sctl → v % 16 ≢ 1) → Writes r v old new → IsCleanToStart (old.port port.0)
      → IsCleanToStart (new.port port.0)
  pub reads_keep_tfes_clear : (port : ℕ) (r : Reg) (v : ℕ) (old new : Device) → Reads r v old new
      → CrAndTfesAreClear (old.port port) → CrAndTfesAreClear (new.port port)
  -- what the tape tells
  pub tape : TapeLaws
  pub stopped_port_has_fault_record : (tape : List Entry) (p : DevicePort) (port : ℕ) → p.st ≡ false
      → RecordsFaultsIfSt tape p port
  pub writes_keep_fault_record : (port : ℕ) (r : Reg) (v : ℕ) (old new : Device) → IsStable (MayWrite r v) old
      → IsStable (StartsCleanAndWritesSctlStopped r v) old → Writes r v old new
      → RecordsFaultsIfSt old.tape (old.port port) port
      → RecordsFaultsIfSt new.tape (new.port port) port
  -- fragments
  pub accesses_of_port_keep_on : (port : Port) (old new : Device) → IsOn old
      → IsDrivenBy (AccessesNoOtherPort port) old new → IsOn new
  pub accesses_keep_adapter : (old new : Device) → IsDrivenBy AnyAccess old new → SameAdapter old new
  pub accesses_extend_tape : (old new : Device) → IsDrivenBy AnyAccess old new → (gained : List Entry)
      × (new.tape ≡ old.tape ++ gained)
  pub accesses_of_port_spare_ghc : (port : Port) (access : Access) → AccessesNoOtherPort port access
      → DoesNotWrite Ghc access
  -- this crate's kinds of accesses
  pub control_reads_or_writes : (set : RegisterSet) (port : Port) (access : Access)
      → ReadsPortOrWrites (registers_of set) port access
      → ((r : PortReg) × (v : ℕ) × (access ≡ Reading (Px port r) v))
      ⊎ ((r : PortReg) × (v : ℕ) × (access ≡ Writing (Px port r) v) × registers_of set r)
  pub control_spares_other_ports : (set : RegisterSet) (port : Port) (access : Access)
      → ReadsPortOrWrites (registers_of set) port access
      → AccessesNoOtherPort port access
  pub control_spares_other_registers : (set : RegisterSet) (port : Port) (r : PortReg) → (registers_of set r → ⊥)
      → (access : Access)
      → ReadsPortOrWrites (registers_of set) port access → DoesNotWrite (Px port r) access
  pub control_of_larger_set : (set more : RegisterSet) (port : Port)
      → ((r : PortReg) → registers_of set r → registers_of more r) → (access : Access)
      → ReadsPortOrWrites (registers_of set) port access → ReadsPortOrWrites (registers_of more) port access
  pub fragments : FragmentLaws AccessPurpose accesses_for slot_uses_for
