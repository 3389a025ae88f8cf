-- What laws of the crates below say of accesses, with the kinds of accesses of this crate: its proofs rest on them.
use Rattle.std.specs.Prelude.{ℕ, true, false, ◌≡◌, ◌≢◌, ◌/◌, ◌%◌, ◌≤◌, ◌++◌, List, drop}
use Rattle.ata_types.specs.declared.Port.{Port}
use Rattle.hba_regs.specs.Bits.{bit}
use Rattle.hba_regs.specs.declared.reg.PortReg.{PortReg}
use Rattle.hba_regs.specs.declared.reg.PortReg.TheVariants.{Ci, Is, Sctl, Serr, Tfd}
use Rattle.hba_regs.specs.declared.reg.Reg.{Reg}
use Rattle.hba_regs.specs.declared.reg.Reg.TheVariants.{Ghc, Px}
use Rattle.adapter.specs.Access.{Access, Does, Reads}
use Rattle.adapter.specs.Access.Access.{Writing}
use Rattle.adapter.specs.Device.{Device, DevicePort}
use Rattle.adapter.specs.Device.Halt.{NotHalted}
use Rattle.adapter.specs.Rules.{IsOn}
use Rattle.adapter.specs.RegisterEffects.{PortRegisterRead}
use Rattle.adapter.specs.declared.command.Operation.{Operation}
use Rattle.adapter.specs.declared.tape.Entry.{Entry}
use Rattle.block_machine.specs.State.{Machine}
use Rattle.refinement.specs.Laws.{FragmentLaws, TapeLaws}
use Rattle.refinement.specs.Relation.{StateRelation}
use Rattle.refinement.specs.Fragments.{AnyAccess, AnySlotStates, NoCommandIsIssuedOrTaken, ReadsPortOrWrites, IsDrivenBy, AccessesNoOtherPort, GainsNoMove}
use Rattle.refinement.specs.Driver.{AllFree, DriverState, DriverRelation}
use Rattle.refinement.specs.Errors.{ErrorBitsRiseByErrors, NoFaults, NoFatalErrors}
use Rattle.refinement.specs.PortFacts.{IsHaltedByPlainOrQueued, IsEngineStopped, RecordsFaultsIfSt, RunsWell, ShowsFault, ShowsNoTrouble}
use Rattle.refinement.specs.GivingUp.{with_all_parked}
use Rattle.refinement.specs.PreservedParts.{ControlsChangeOnlyByTheirWrites, NoPlugEvents, SameAdapter, DoesNotWrite}
use Rattle.refinement.specs.PortNotes.{NotesChangeOnlyByReadOrSctlWrite}
use Rattle.refinement.specs.HaltRecovery.{IsLinked, RunsLinked, WorksOnUnqueuedCommandsOnly}
use Rattle.adapter.specs.OneCommand.{SlotHasNoCommand}
use Rattle.refinement.specs.Slots.{Free, Own, SlotStates, set_slot_state}
use Rattle.refinement.specs.StartedPort.{WritesCmdOnlyWithStSet, IsStarted, IsUpForStart}
use Rattle.command_table.specs.TableStores.{IsSlotStateFree}
use Rattle.disk_page.specs.PageRequests.{IsPxciOrSlot0PageMemoryAccess, LeavesPortWhileAsking, WaitsForSlot0InVain}
use Rattle.port_control.specs.Engines.{FailsToStop, EngineFalls, EngineSticks}
use Rattle.port_control.specs.Ports.{IsSerrOrIs, IsCommandRegister}
use Rattle.error_recovery.specs.Recovery.{IsCmdSerrOrIs, IsRecoveryAccess}

-- ---- kinds of accesses

-- sets of registers that are written
pub data RegisterSet : Type 0 where
  CommandRegister : RegisterSet
  ErrorRegisters : RegisterSet
  RecoveryRegisters : RegisterSet
  AllButCi : RegisterSet

-- The registers of a port in the set.
abbrev pub registers_of : RegisterSet → PortReg → Type 0
registers_of CommandRegister = IsCommandRegister
registers_of ErrorRegisters = IsSerrOrIs
registers_of RecoveryRegisters = IsCmdSerrOrIs
registers_of AllButCi = λ r. r ≢ Ci

-- the uses of slots that fit: any, or with none of the port's slots used
pub data SlotCondition : Type 0 where
  AnyUses : SlotCondition
  PortUnused : SlotCondition

-- The slots meet the condition.
abbrev pub slot_uses_meeting : SlotCondition → Port → SlotStates → Type 0
slot_uses_meeting AnyUses port = AnySlotStates
slot_uses_meeting PortUnused port = λ uses. AllFree uses port.0

-- a port's registers are read, and those of a set written; its disk is asked for the log; or it is recovered
pub data AccessPurpose : Type 0 where
  Controlling : RegisterSet → SlotCondition → Port → AccessPurpose
  Asking : Port → AccessPurpose
  Recovering : SlotCondition → Port → AccessPurpose

-- The accesses that a part of a call makes, by its purpose.
abbrev pub accesses_for : AccessPurpose → Access → Type 0
accesses_for (Controlling set fitting port) = ReadsPortOrWrites (registers_of set) port
accesses_for (Asking port) = IsPxciOrSlot0PageMemoryAccess port
accesses_for (Recovering fitting port) = IsRecoveryAccess port

-- What a part of a call needs of the slots, by its purpose.
abbrev pub slot_uses_for : AccessPurpose → SlotStates → Type 0
slot_uses_for (Controlling set fitting port) = slot_uses_meeting fitting port
slot_uses_for (Asking port) = IsSlotStateFree port.0 0
slot_uses_for (Recovering fitting port) = slot_uses_meeting fitting port

-- ---- laws

-- The laws of the crates below that the proofs of this crate use.
pub record Laws : Type 0 where
  -- one access
  pub access_keeps_on : (access : Access) (old new : Device) → IsOn old
      → ((v : ℕ) → access ≡ Writing Ghc v → (bit v 31 ≡ true) × (bit v 0 ≡ false)) → Does access old new → IsOn new
  pub read_changes_port_register : (port : Port) (r : PortReg) (v : ℕ) (old new : Device) → Reads (Px port r) v old new
      → old.hr ≡ false
      → PortRegisterRead port.0 r v old new
  pub tape : TapeLaws
  pub access_controls : (port : Port) (access : Access) (old new : Device) → old.hr ≡ false → Does access old new
      → ControlsChangeOnlyByTheirWrites access port (old.port port.0) (new.port port.0)
  pub access_notes : (port : Port) (access : Access) (old new : Device) → Does access old new
      → NotesChangeOnlyByReadOrSctlWrite access port (old.port port.0).notes (new.port port.0).notes
  pub read_keeps_fault_record : (port : ℕ) (r : Reg) (v : ℕ) (old new : Device) → Reads r v old new
      → RecordsFaultsIfSt old.tape (old.port port) port → RecordsFaultsIfSt new.tape (new.port port) port
  -- errors
  pub access_changes_by_errors : (port : Port) (access : Access) (old new : Device) → Does access old new
      → ErrorBitsRiseByErrors port.0 old new
  pub access_hides_no_fault : (port : Port) (access : Access) (old new : Device) → old.hr ≡ false
      → DoesNotWrite (Px port Is) access → Does access old new → (new.port port.0).is 30 ≡ false
      → ((old.port port.0).is 30 ≡ false) × NoFaults port.0 old new
  pub access_hides_no_fatal : (port : Port) (access : Access) (old new : Device) → old.hr ≡ false
      → DoesNotWrite (Px port Is) access → Does access old new
      → ((place : ℕ) → 27 ≤ place → place ≤ 29 → (new.port port.0).is place ≡ false)
      → ((place : ℕ) → 27 ≤ place → place ≤ 29 → (old.port port.0).is place ≡ false) × NoFatalErrors port.0 old new
  pub access_hides_no_plug_event : (port : Port) (access : Access) (old new : Device) → old.hr ≡ false
      → DoesNotWrite (Px port Serr) access → Does access old new → (new.port port.0).serr_n ≡ false
      → ((old.port port.0).serr_n ≡ false) × NoPlugEvents port.0 old new
  -- the link
  pub access_keeps_linked : (port : Port) (access : Access) (old new : Device) → old.hr ≡ false
      → DoesNotWrite (Px port Sctl) access → NoPlugEvents port.0 old new → Does access old new
      → IsLinked (old.port port.0) → IsLinked (new.port port.0)
  pub access_runs_linked : (port : Port) (access : Access) (old new : Device) → old.hr ≡ false
      → WritesCmdOnlyWithStSet port access → DoesNotWrite (Px port Sctl) access → NoPlugEvents port.0 old new
      → NoFatalErrors port.0 old new → Does access old new → RunsLinked (old.port port.0) → RunsLinked (new.port port.0)
  pub linked_plain_port_is_up : (p : DevicePort) → IsLinked p → WorksOnUnqueuedCommandsOnly p → IsUpForStart p
  pub started_quiet_port_runs_well : (p : DevicePort) → IsStarted p → ShowsNoTrouble p → RunsWell p
  pub runs_well : (p : DevicePort) → RunsLinked p → p.halt ≡ NotHalted → p.is 30 ≡ false → p.serr_n ≡ false
      → p.serr_x ≡ false → ((place : ℕ) → 27 ≤ place → place ≤ 29 → p.is place ≡ false) → RunsWell p
  -- the fault
  pub fault_shown : (port : Port) (v : ℕ) (old new : Device) → old.hr ≡ false → (old.port port.0).st ≡ true
      → RecordsFaultsIfSt old.tape (old.port port.0) port.0 → IsHaltedByPlainOrQueued (old.port port.0).halt
      → Reads (Px port Tfd) v old new
      → (s : ShowsFault (drop (new.port port.0).notes.st_set_at new.tape) (new.port port.0) port.0)
      × (v % 256 ≡ s.fault.status) × (v / 256 % 256 ≡ s.fault.error)
  pub fault_is_of_sole_slot : (uses : SlotStates) (m : Machine) (d : Device) (port slot : ℕ) (entries : List Entry)
      → StateRelation uses m d
      → (s : ShowsFault entries (d.port port) port) → ((other : ℕ) → other ≢ slot → uses port other ≡ Free)
      → s.fault.slot.0 ≡ slot
  -- pages and slots
  pub no_moves_compose : (port : ℕ) (o : Operation) (old mid new : Device) → GainsNoMove port o old mid
      → GainsNoMove port o mid new → GainsNoMove port o old new
  pub accesses_gain_no_move : (port : Port) (o : Operation) (old new : Device)
      → IsDrivenBy (ReadsPortOrWrites (λ r. r ≢ Ci) port) old new → NoCommandIsIssuedOrTaken (old.port port.0)
      → GainsNoMove port.0 o old new
      × NoCommandIsIssuedOrTaken (new.port port.0)
  pub giving_up_keeps_relation : (k : DriverState) (m : Machine) (port : ℕ) → DriverRelation m k
      → IsEngineStopped (k.device.port port)
      → DriverRelation m (with_all_parked k port)
  pub given_up_free : (k : DriverState) (port : ℕ) → AllFree (with_all_parked k port).slot_states port
  pub given_up_leaves_other_ports : (k : DriverState) (port other : ℕ) → other ≢ port
      → ((with_all_parked k port).slot_states other ≡ k.slot_states other)
      × ((with_all_parked k port).awaiting_disposition other ≡ k.awaiting_disposition other)
  pub slot_has_state_set : (uses : SlotStates) (port slot : ℕ) (o : Operation)
      → set_slot_state uses port slot (Own o) port slot
      ≡ Own o
  -- fragments
  pub accesses_keep_adapter : (old new : Device) → IsDrivenBy AnyAccess old new → SameAdapter old new
  pub accesses_of_port_spare_ghc : (port : Port) (access : Access) → AccessesNoOtherPort port access
      → DoesNotWrite Ghc access
  pub accesses_of_port_spare_others : (port q : Port) (r : PortReg) → q.0 ≢ port.0 → (access : Access)
      → AccessesNoOtherPort port access
      → DoesNotWrite (Px q r) access
  pub asking_spares_other_ports : (port : Port) (access : Access) → IsPxciOrSlot0PageMemoryAccess port access
      → AccessesNoOtherPort port access
  pub asking_leaves_no_command : (port : ℕ) (old new : Device) → LeavesPortWhileAsking port old new
      → NoCommandIsIssuedOrTaken (old.port port)
      → SlotHasNoCommand (new.port port) 0 → NoCommandIsIssuedOrTaken (new.port port)
  -- what is told of engines, and of waits
  pub failing_sticks : (port : Port) (accesses : List Access) → FailsToStop port accesses → EngineSticks port accesses
  pub falls_with_later_accesses : (early late : List Access) (start running : ℕ) (port : Port)
      → EngineFalls start running port early
      → EngineFalls start running port (early ++ late)
  pub falls_with_earlier_accesses : (early late : List Access) (start running : ℕ) (port : Port)
      → EngineFalls start running port late
      → EngineFalls start running port (early ++ late)
  pub sticks_with_earlier_accesses : (early late : List Access) (port : Port) → EngineSticks port late
      → EngineSticks port (early ++ late)
  pub vain_with_later_accesses : (port : Port) (early late : List Access) → WaitsForSlot0InVain port early
      → WaitsForSlot0InVain port (early ++ late)
  pub vain_with_earlier_accesses : (port : Port) (early late : List Access) → WaitsForSlot0InVain port late
      → WaitsForSlot0InVain port (early ++ late)
  -- this crate's kinds of accesses
  pub control_spares_other_ports : (set : RegisterSet) (port : Port) (access : Access)
      → ReadsPortOrWrites (registers_of set) port access
      → AccessesNoOtherPort port access
  pub control_spares_other_registers : (set : RegisterSet) (port : Port) (r : PortReg) → (registers_of set r → ⊥)
      → (access : Access)
      → ReadsPortOrWrites (registers_of set) port access → DoesNotWrite (Px port r) access
  pub control_of_larger_set : (set more : RegisterSet) (port : Port)
      → ((r : PortReg) → registers_of set r → registers_of more r) → (access : Access)
      → ReadsPortOrWrites (registers_of set) port access → ReadsPortOrWrites (registers_of more) port access
  pub fragments : FragmentLaws AccessPurpose accesses_for slot_uses_for
