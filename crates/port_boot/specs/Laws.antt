-- What laws of the crates below say of accesses, with the kinds of accesses of this crate: its proofs rest on them.
use Rattle.std.specs.Prelude.{ℕ, true, false, ◌≡◌, ◌≢◌, ◌++◌, List}
use Rattle.ata_types.specs.declared.Port.{Port}
use Rattle.adapter.specs.Access.{Access, Does, Writes}
use Rattle.refinement.specs.Laws.{FragmentLaws, TapeLaws}
use Rattle.refinement.specs.Driver.{AllFree}
use Rattle.refinement.specs.Fragments.{AnyAccess, AnySlotStates, NoCommandIsIssuedOrTaken, ReadsPortOrWrites, IsDrivenBy, AccessesNoOtherPort, GainsNoMove}
use Rattle.refinement.specs.Errors.{ErrorBitsRiseByErrors, NoFaults, NoFatalErrors}
use Rattle.hba_regs.specs.declared.reg.PortReg.TheVariants.{Ci, Cmd, Sctl}
use Rattle.refinement.specs.StartedPort.{WritesCmdOnlyWithStSet, IsStarted, IsUpForStart}
use Rattle.adapter.specs.Device.{Device, DevicePort}
use Rattle.adapter.specs.Device.Halt.{NotHalted}
use Rattle.refinement.specs.Relation.{StateRelation}
use Rattle.refinement.specs.Halting.{HaltFitsTakenCommands, HaltFitsTakenCommandsIfSt}
use Rattle.block_machine.specs.Histories.{IsReachable}
use Rattle.block_machine.specs.State.{Machine}
use Rattle.adapter.specs.declared.tape.Entry.{Entry}
use Rattle.port_control.specs.Engines.{FailsToStop, FailsToStopReceiving, EngineFalls, EngineSticks}
use Rattle.adapter.specs.OneCommand.{SlotHasNoCommand}
use Rattle.refinement.specs.Slots.{SlotStates}
use Rattle.hba_regs.specs.declared.reg.Reg.TheVariants.{Ghc, Px}
use Rattle.disk_page.specs.PageRequests.{IsPxciOrSlot0PageMemoryAccess, LeavesPortWhileAsking}
use Rattle.port_boot.specs.States.{IsWrittenInBootButCi, IsBootAccess}
use Rattle.adapter.specs.Rules.{IsOn, MayWrite, IsStable}
use Rattle.port_control.specs.Ports.{IsCmdOrBaseRegister, IsSctlSerrOrIs, IsCommandRegister}
use Rattle.refinement.specs.PortFacts.{RecordsFaultsIfSt, RunsWell, ShowsNoTrouble, Undisturbed}
use Rattle.command_table.specs.TableStores.{IsSlotStateFree}
use Rattle.adapter.specs.declared.command.Operation.{Operation}
use Rattle.refinement.specs.PreservedParts.{NoPlugEvents, SameAdapter, DoesNotWrite}
use Rattle.hba_regs.specs.declared.reg.PortReg.{PortReg}
use Rattle.adapter.specs.RegisterEffects.{PortRegisterWritten}
use Rattle.hba_regs.specs.declared.reg.Reg.{Reg}
use Rattle.adapter.specs.Access.Access.{Writing}
use Rattle.hba_regs.specs.Bits.{bit}

-- ---- kinds of accesses

-- sets of registers that are written
pub data RegisterSet : Type 0 where
  CommandRegister : RegisterSet
  PlacingRegisters : RegisterSet
  ResetRegisters : RegisterSet
  BootRegisters : RegisterSet
  AllButCi : RegisterSet

-- The registers of a port in the set.
abbrev pub registers_of : RegisterSet → PortReg → Type 0
registers_of CommandRegister = IsCommandRegister
registers_of PlacingRegisters = IsCmdOrBaseRegister
registers_of ResetRegisters = IsSctlSerrOrIs
registers_of BootRegisters = IsWrittenInBootButCi
registers_of AllButCi = λ r. r ≢ Ci

-- the uses of slots that fit: any, with slot 0 of the port unused, or with none of its slots used
pub data SlotCondition : Type 0 where
  AnyUses : SlotCondition
  Slot0Unused : SlotCondition
  PortUnused : SlotCondition

-- The slots meet the condition.
abbrev pub slot_uses_meeting : SlotCondition → Port → SlotStates → Type 0
slot_uses_meeting AnyUses port = AnySlotStates
slot_uses_meeting Slot0Unused port = IsSlotStateFree port.0 0
slot_uses_meeting PortUnused port = λ uses. AllFree uses port.0

-- a port's registers are read, and those of a set written; a port is booted; or its disk is asked for its page
pub data AccessPurpose : Type 0 where
  Controlling : RegisterSet → SlotCondition → Port → AccessPurpose
  Booting : SlotCondition → Port → AccessPurpose
  Asking : Port → AccessPurpose

-- The accesses that a part of a call makes, by its purpose.
abbrev pub accesses_for : AccessPurpose → Access → Type 0
accesses_for (Controlling set fitting port) = ReadsPortOrWrites (registers_of set) port
accesses_for (Booting fitting port) = IsBootAccess port
accesses_for (Asking port) = IsPxciOrSlot0PageMemoryAccess port

-- What a part of a call needs of the slots, by its purpose.
abbrev pub slot_uses_for : AccessPurpose → SlotStates → Type 0
slot_uses_for (Controlling set fitting port) = slot_uses_meeting fitting port
slot_uses_for (Booting fitting port) = slot_uses_meeting fitting port
slot_uses_for (Asking port) = IsSlotStateFree port.0 0

-- ---- laws

-- The laws of the crates below that the proofs of this crate use.
pub record Laws : Type 0 where
  -- one access
  pub write_changes_port_register : (port : Port) (r : PortReg) (v : ℕ) (old new : Device)
      → Writes (Px port r) v old new → old.hr ≡ false
      → PortRegisterWritten port.0 r v old new
  pub access_keeps_on : (access : Access) (old new : Device) → IsOn old
      → ((v : ℕ) → access ≡ Writing Ghc v → (bit v 31 ≡ true) × (bit v 0 ≡ false)) → Does access old new → IsOn new
  pub write_stays : (r : Reg) (v : ℕ) (d : Device) → ((port : Port) → r ≢ Px port Ci) → MayWrite r v d
      → IsStable (MayWrite r v) d
  pub tape : TapeLaws
  pub access_gains_no_move : (port : ℕ) (o : Operation) (access : Access) (old new : Device)
      → NoCommandIsIssuedOrTaken (old.port port)
      → Does access old new → GainsNoMove port o old new
  pub accesses_gain_no_move : (port : Port) (o : Operation) (old new : Device)
      → IsDrivenBy (ReadsPortOrWrites (λ r. r ≢ Ci) port) old new → NoCommandIsIssuedOrTaken (old.port port.0)
      → GainsNoMove port.0 o old new
      × NoCommandIsIssuedOrTaken (new.port port.0)
  -- what goes on
  pub access_changes_by_errors : (port : Port) (access : Access) (old new : Device) → Does access old new
      → ErrorBitsRiseByErrors port.0 old new
  pub access_keeps_up : (port : Port) (access : Access) (old new : Device) → old.hr ≡ false
      → DoesNotWrite (Px port Sctl) access → Undisturbed port.0 old new → Does access old new
      → IsUpForStart (old.port port.0)
      → IsUpForStart (new.port port.0)
  pub access_keeps_started : (port : Port) (access : Access) (old new : Device) → old.hr ≡ false
      → WritesCmdOnlyWithStSet port access
      → DoesNotWrite (Px port Sctl) access → Undisturbed port.0 old new → Does access old new
      → IsStarted (old.port port.0) → IsStarted (new.port port.0)
  pub access_keeps_fault_record : (port : Port) (access : Access) (old new : Device) → DoesNotWrite (Px port Cmd) access
      → DoesNotWrite (Px port Sctl) access → Does access old new → RecordsFaultsIfSt old.tape (old.port port.0) port.0
      → RecordsFaultsIfSt new.tape (new.port port.0) port.0
  pub access_keeps_halt_of_taken : (uses : SlotStates) (m : Machine) (port : Port) (access : Access) (old new : Device)
      → IsReachable m
      → StateRelation uses m old → DoesNotWrite (Px port Cmd) access → Does access old new
      → HaltFitsTakenCommandsIfSt (old.port port.0)
      → HaltFitsTakenCommandsIfSt (new.port port.0)
  pub not_halted_is_halt_of_taken : (p : DevicePort) → p.halt ≡ NotHalted → HaltFitsTakenCommands p
  pub started_port_is_up : (p : DevicePort) → IsStarted p → p.sctl_det ≢ 1 → IsUpForStart p
  pub started_quiet_port_runs_well : (p : DevicePort) → IsStarted p → ShowsNoTrouble p → RunsWell p
  pub runs_well_is_started : (p : DevicePort) → RunsWell p → IsStarted p
  -- what the tape tells
  pub undisturbed_has_no_plug_events : (port : ℕ) (old new : Device) → Undisturbed port old new
      → NoPlugEvents port old new
  pub undisturbed_has_no_fatal : (port : ℕ) (old new : Device) → Undisturbed port old new → NoFatalErrors port old new
  pub undisturbed_has_no_fault : (port : ℕ) (old new : Device) → Undisturbed port old new → NoFaults port old new
  -- fragments
  pub accesses_of_port_keep_on : (port : Port) (old new : Device) → IsOn old
      → IsDrivenBy (AccessesNoOtherPort port) old new → IsOn new
  pub accesses_keep_adapter : (old new : Device) → IsDrivenBy AnyAccess old new → SameAdapter old new
  pub accesses_extend_tape : (old new : Device) → IsDrivenBy AnyAccess old new → (gained : List Entry)
      × (new.tape ≡ old.tape ++ gained)
  pub accesses_of_port_spare_ghc : (port : Port) (access : Access) → AccessesNoOtherPort port access
      → DoesNotWrite Ghc access
  pub asking_spares_other_ports : (port : Port) (access : Access) → IsPxciOrSlot0PageMemoryAccess port access
      → AccessesNoOtherPort port access
  pub asking_leaves_no_command : (port : ℕ) (old new : Device) → LeavesPortWhileAsking port old new
      → NoCommandIsIssuedOrTaken (old.port port)
      → SlotHasNoCommand (new.port port) 0 → NoCommandIsIssuedOrTaken (new.port port)
  -- what is told of engines
  pub failing_sticks : (port : Port) (accesses : List Access) → FailsToStop port accesses → EngineSticks port accesses
  pub failing_receiving_sticks : (port : Port) (accesses : List Access) → FailsToStopReceiving port accesses
      → EngineSticks port accesses
  pub falls_with_later_accesses : (early late : List Access) (start running : ℕ) (port : Port)
      → EngineFalls start running port early
      → EngineFalls start running port (early ++ late)
  pub falls_with_earlier_accesses : (early late : List Access) (start running : ℕ) (port : Port)
      → EngineFalls start running port late
      → EngineFalls start running port (early ++ late)
  pub sticks_with_earlier_accesses : (early late : List Access) (port : Port) → EngineSticks port late
      → EngineSticks port (early ++ late)
  -- this crate's kinds of accesses
  pub control_spares_other_ports : (set : RegisterSet) (port : Port) (access : Access)
      → ReadsPortOrWrites (registers_of set) port access
      → AccessesNoOtherPort port access
  pub control_spares_other_registers : (set : RegisterSet) (port : Port) (r : PortReg) → (registers_of set r → ⊥)
      → (access : Access)
      → ReadsPortOrWrites (registers_of set) port access → DoesNotWrite (Px port r) access
  pub control_of_larger_set : (set more : RegisterSet) (port : Port)
      → ((r : PortReg) → registers_of set r → registers_of more r) → (access : Access)
      → ReadsPortOrWrites (registers_of set) port access → ReadsPortOrWrites (registers_of more) port access
  pub fragments : FragmentLaws AccessPurpose accesses_for slot_uses_for
