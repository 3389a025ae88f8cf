-- What laws of the crates below say of accesses: the laws on parts of calls rest on them.
use Rattle.std.specs.Prelude.{ℕ, true, false, ◌≡◌, ◌≢◌, ◌≤◌, ◌%◌, ◌++◌, List, All, length, ◌∷◌}
use Rattle.ata_types.specs.declared.Port.{Port}
use Rattle.hba_regs.specs.Bits.{bit}
use Rattle.hba_regs.specs.declared.reg.PortReg.{PortReg}
use Rattle.hba_regs.specs.declared.reg.PortReg.TheVariants.{Cmd, Is, Sctl, Serr}
use Rattle.hba_regs.specs.declared.reg.Reg.TheVariants.{Ghc, Px}
use Rattle.adapter.specs.Access.{Access, Does, DoesAll, Writes}
use Rattle.adapter.specs.Device.{DevicePort, Device}
use Rattle.adapter.specs.KeptBySteps.{KeepsOverSteps}
use Rattle.adapter.specs.Rules.{IsOn}
use Rattle.adapter.specs.Steps.{Steps}
use Rattle.refinement.specs.Laws.{TapeLaws}
use Rattle.refinement.specs.Fragments.{IsDrivenBy, AccessesNoOtherPort, OnlyDeviceChangesPort}
use Rattle.refinement.specs.Errors.{ErrorBitsRiseByErrors, KeepsSetBitsOfPxisAndSerrNX, NoDiskComes, NoFaults, NoFatalErrors}
use Rattle.refinement.specs.PortFacts.{RunsWell, Undisturbed}
use Rattle.refinement.specs.PreservedParts.{ControlsChangeOnlyByTheirWrites, LinkIsSameOrComesUp, NoPlugEvents, DoesNotWrite}
use Rattle.refinement.specs.Vacant.{HasFirstFisIfDet3, IsVacant}
use Rattle.error_recovery.specs.Evidence.{ShowsFatal}
use Rattle.port_boot.specs.States.{StaysRunningIfUndisturbed}
use Rattle.port_control.specs.Engines.{EngineFalls, EngineSticks}
use Rattle.adapter.specs.RegisterEffects.{PortRegisterWritten}
use Rattle.adapter.specs.declared.access.DeviceStep.{DeviceStep}
use Rattle.block_machine.specs.Confinement.{IsConfined, WasAccepted}
use Rattle.block_machine.specs.Events.{AbstractState, CallRecord, EveryReadHoldsExpected, IsRun, abstract_after_all, steps_of, AllEnabled}
use Rattle.block_machine.specs.Expected.{AllStepsFaithful, IsInitial, after}
use Rattle.block_machine.specs.State.{Block, Machine, Pending}
use Rattle.block_machine.specs.Steps.{IsInBookOrKept, Step, Touch}

-- The laws on accesses that the proofs of this crate use.
pub record AccessLaws : Type 0 where
  pub other_ports_are_left : (port : Port) (q : ℕ) (old new : Device) → q ≢ port.0 → IsOn old
      → IsDrivenBy (AccessesNoOtherPort port) old new
      → OnlyDeviceChangesPort (old.port q) (new.port q)
  pub leaves_port_is_reflexive : (p : DevicePort) → OnlyDeviceChangesPort p p
  pub leaves_port_is_transitive : (old mid new : DevicePort) → OnlyDeviceChangesPort old mid
      → OnlyDeviceChangesPort mid new → OnlyDeviceChangesPort old new
  pub one_port_spares_registers : (port q : Port) (r : PortReg) → q.0 ≢ port.0 → (access : Access)
      → AccessesNoOtherPort port access
      → DoesNotWrite (Px q r) access
  pub one_port_keeps_adapter_on : (port : Port) (old new : Device) → IsOn old
      → IsDrivenBy (AccessesNoOtherPort port) old new → IsOn new
  pub tape : TapeLaws
  pub access_changes_by_errors : (port : Port) (access : Access) (old new : Device) → Does access old new
      → ErrorBitsRiseByErrors port.0 old new
  pub link_is_same_or_comes_up_without_plugs : (port : Port) (access : Access) (old new : Device) → old.hr ≡ false
      → DoesNotWrite (Px port Sctl) access
      → Does access old new → NoPlugEvents port.0 old new → LinkIsSameOrComesUp (old.port port.0) (new.port port.0)
  pub fall_holds_with_later : (early late : List Access) (start running : ℕ) (port : Port)
      → EngineFalls start running port early
      → EngineFalls start running port (early ++ late)
  pub fall_holds_with_earlier : (early late : List Access) (start running : ℕ) (port : Port)
      → EngineFalls start running port late
      → EngineFalls start running port (early ++ late)
  pub sticking_holds_with_later : (early late : List Access) (port : Port) → EngineSticks port early
      → EngineSticks port (early ++ late)
  pub sticking_holds_with_earlier : (early late : List Access) (port : Port) → EngineSticks port late
      → EngineSticks port (early ++ late)
  pub does_append : (early late : List Access) (old mid new : Device) → DoesAll early old mid → DoesAll late mid new
      → DoesAll (early ++ late) old new
  pub steps_keep_adapter_and_notes : (old new : Device) → Steps old new → KeepsOverSteps old new
  pub port_register_written : (port : Port) (r : PortReg) (v : ℕ) (old new : Device) → Writes (Px port r) v old new
      → old.hr ≡ false
      → PortRegisterWritten port.0 r v old new
  pub accesses_keep_adapter_on : (accesses : List Access) (old new : Device) → IsOn old
      → All (DoesNotWrite Ghc) accesses
      → DoesAll accesses old new → IsOn new
  pub one_port_spares_ghc : (port : Port) (access : Access) → AccessesNoOtherPort port access → DoesNotWrite Ghc access
  pub steps_end_tfes_clear_no_fault : (port : ℕ) (old new : Device) → old.hr ≡ false → Steps old new
      → (new.port port).is 30 ≡ false
      → ((old.port port).is 30 ≡ false) × NoFaults port old new
  pub access_ends_tfes_clear_no_fault : (port : Port) (access : Access) (old new : Device) → old.hr ≡ false
      → DoesNotWrite (Px port Is) access → Does access old new → (new.port port.0).is 30 ≡ false
      → ((old.port port.0).is 30 ≡ false) × NoFaults port.0 old new
  pub steps_end_fatal_clear_no_fatal : (port : ℕ) (old new : Device) → old.hr ≡ false → Steps old new
      → ((place : ℕ) → 27 ≤ place → place ≤ 29 → (new.port port).is place ≡ false)
      → ((place : ℕ) → 27 ≤ place → place ≤ 29 → (old.port port).is place ≡ false) × NoFatalErrors port old new
  pub access_ends_fatal_clear_no_fatal : (port : Port) (access : Access) (old new : Device) → old.hr ≡ false
      → DoesNotWrite (Px port Is) access → Does access old new
      → ((place : ℕ) → 27 ≤ place → place ≤ 29 → (new.port port.0).is place ≡ false)
      → ((place : ℕ) → 27 ≤ place → place ≤ 29 → (old.port port.0).is place ≡ false) × NoFatalErrors port.0 old new
  pub steps_end_n_clear_no_plug_event : (port : ℕ) (old new : Device) → old.hr ≡ false → Steps old new
      → (new.port port).serr_n ≡ false
      → ((old.port port).serr_n ≡ false) × NoPlugEvents port old new
  pub access_ends_n_clear_no_plugs : (port : Port) (access : Access) (old new : Device) → old.hr ≡ false
      → DoesNotWrite (Px port Serr) access → Does access old new → (new.port port.0).serr_n ≡ false
      → ((old.port port.0).serr_n ≡ false) × NoPlugEvents port.0 old new
  pub steps_keep_errors : (port : ℕ) (old new : Device) → old.hr ≡ false → Steps old new
      → KeepsSetBitsOfPxisAndSerrNX (old.port port) (new.port port)
  pub access_but_serr_write_keeps_set_n_and_x : (port : Port) (access : Access) (old new : Device) → old.hr ≡ false
      → DoesNotWrite (Px port Serr) access → Does access old new
      → ((old.port port.0).serr_n ≡ true → (new.port port.0).serr_n ≡ true)
      × ((old.port port.0).serr_x ≡ true → (new.port port.0).serr_x ≡ true)
  pub shows_fatal_unless_clear : (p : DevicePort) → (((place : ℕ) → 27 ≤ place → place ≤ 29 → p.is place ≡ false) → ⊥)
      → ShowsFatal p
  pub access_leaves_controls : (port : Port) (access : Access) (old new : Device) → old.hr ≡ false → Does access old new
      → ControlsChangeOnlyByTheirWrites access port (old.port port.0) (new.port port.0)
  pub cmd_write_sets_st_and_fre : (port : Port) (v : ℕ) (old new : Device) → Writes (Px port Cmd) v old new
      → ((new.port port.0).st ≡ bit v 0) × ((new.port port.0).fre ≡ bit v 4)
  pub sctl_write_sets_det : (port : Port) (v : ℕ) (old new : Device) → Writes (Px port Sctl) v old new
      → ((new.port port.0).sctl_det ≡ v % 16) × ((new.port port.0).notes.sctl_written_at ≡ length new.tape)
  pub setting_st_is_noted : (port : Port) (v : ℕ) (old new : Device) → (old.port port.0).st ≡ false → bit v 0 ≡ true
      → Writes (Px port Cmd) v old new → ((new.port port.0).cr ≡ true)
      × ((new.port port.0).notes.st_set_at ≡ length new.tape)
  pub vacant_port_stays_vacant_if_no_disk_comes : (port : Port) (access : Access) (old new : Device)
      → NoDiskComes port.0 old new → Does access old new → IsVacant (old.port port.0) → IsVacant (new.port port.0)
  pub first_fis_if_det_3_stays_if_no_disk_comes : (port : Port) (access : Access) (old new : Device)
      → NoDiskComes port.0 old new → Does access old new
      → HasFirstFisIfDet3 (old.port port.0) → HasFirstFisIfDet3 (new.port port.0)
  pub runs_on_after_accesses : (port : Port) (accesses : List Access) (old new : Device) → IsOn old
      → DoesAll accesses old new
      → All (DoesNotWrite Ghc) accesses → All (DoesNotWrite (Px port Sctl)) accesses
      → All (DoesNotWrite (Px port Cmd)) accesses → StaysRunningIfUndisturbed port.0 old new
  pub stays_well_if_undisturbed : (port : ℕ) (old new : Device) → StaysRunningIfUndisturbed port old new
      → Undisturbed port old new → RunsWell (old.port port) → RunsWell (new.port port)

-- What laws say of runs of calls, and of the steps that they make one after another.
pub record RunLaws : Type 0 where
  pub run_steps_are_enabled : (first : AbstractState) (run : List (CallRecord DeviceStep)) → IsRun first run
      → IsInitial first.machine × AllEnabled first.machine (steps_of run)
      × ((abstract_after_all first run).machine ≡ after first.machine (steps_of run))
  pub touches_are_confined : (first : AbstractState) (run : List (CallRecord DeviceStep)) (late early : List Step)
      (e : Pending)
      (i : ℕ) (block : Block) → IsRun first run → steps_of run ≡ late ++ Touch e i block ∷ early
      → IsConfined first.machine early e.request i
  pub faithful_runs_read_expected : (first : AbstractState) (run : List (CallRecord DeviceStep)) → IsRun first run
      → AllStepsFaithful first.machine (steps_of run) → EveryReadHoldsExpected first run
  pub after_joins : (m : Machine) (late early : List Step) → after m (late ++ early) ≡ after (after m early) late
  pub faithful_lists_join : (m : Machine) (late early : List Step) → AllStepsFaithful m early
      → AllStepsFaithful (after m early) late
      → AllStepsFaithful m (late ++ early)
  pub holders_were_accepted : (start : Machine) (history : List Step) (e : Pending) → IsInitial start
      → AllEnabled start history
      → IsInBookOrKept (after start history) e → WasAccepted start history e.request
