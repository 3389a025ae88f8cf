-- What laws of the crates below say of accesses, with the kinds of accesses of this crate: its proofs rest on them.
use Rattle.std.specs.Prelude.{ℕ, true, false, ◌≡◌, ◌≢◌, ◌%◌, ◌++◌, List, All, Option}
use Rattle.ata_types.specs.declared.Port.{Port}
use Rattle.ata_types.specs.declared.PortState.{PortState as ShownState}
use Rattle.adapter.specs.Access.{Access, Does, DoesAll, Reads, Writes}
use Rattle.refinement.specs.Laws.{FragmentLaws, TapeLaws}
use Rattle.refinement.specs.Driver.{AllFree, DriverState, DriverRelation}
use Rattle.refinement.specs.Fragments.{AnyAccess, AnySlotStates, SomeMachineAgrees, ReadsPortOrWrites, IsDrivenBy, AccessesNoOtherPort, SameSlotStates, OnlyDeviceChangesPort, GainsNoMove}
use Rattle.hba_regs.specs.declared.reg.PortReg.TheVariants.{Cmd, Sctl, Ssts}
use Rattle.ata_types.specs.declared.PortState.TheVariants.{Dead}
use Rattle.adapter.specs.Device.{Device, DevicePort}
use Rattle.identify.specs.declared.DiskInfo.{DiskInfo}
use Rattle.port_boot.specs.States.{BacksState, BringsReady, HasFitDiskAndInterrupts, IsSimulatedBootTo, IsBootAccess, IsReadyAfterBoot, StaysRunningIfUndisturbed, ShownDiskIsIn, StopsReceivingAndStartedEngine}
use Rattle.adapter.specs.declared.tape.Entry.{Entry}
use Rattle.port_control.specs.Engines.{FailsToStop, EngineFalls, EngineSticks, StopsEachEngine}
use Rattle.refinement.specs.Slots.{Free, SlotState, SlotStates, set_slot_state}
use Rattle.hba_regs.specs.declared.reg.Reg.TheVariants.{Ghc, Px}
use Rattle.refinement.specs.Acts.{Act, AreActsDone, accesses_of}
use Rattle.refinement.specs.Halting.{HaltFitsTakenCommandsIfSt}
use Rattle.refinement.specs.PreservedParts.{HasDet3IfDiskPresent, SameAdapter, DoesNotWrite}
use Rattle.block_machine.specs.Histories.{IsReachable}
use Rattle.block_machine.specs.State.{Machine}
use Rattle.adapter.specs.declared.command.Operation.TheVariants.{Identify}
use Rattle.adapter.specs.Idle.{IsIdle, DisksAreKnownIfTheyTell}
use Rattle.host_boot.specs.Reboots.{IsCapPiOrBootAccess}
use Rattle.host_boot.specs.Resets.{IsResetAccess}
use Rattle.host_boot.specs.TakeOver.{ReadsCapOrPiOrSetsAe, IsTakeOverAccess, ReadsCapOrPi}
use Rattle.adapter.specs.Rules.{IsOn}
use Rattle.port_control.specs.Ports.{IsSerrOrIs, IsCmdOrBaseRegister, IsCommandRegister}
use Rattle.adapter.specs.KeptBySteps.{KeepsOverSteps}
use Rattle.hba_regs.specs.declared.reg.PortReg.{PortReg}
use Rattle.adapter.specs.Access.Access.{Writing}
use Rattle.refinement.specs.PortFacts.{RunsWell, Undisturbed}
use Rattle.adapter.specs.Steps.{Steps}
use Rattle.identify.specs.declared.wanted.Wanted.{Wanted}
use Rattle.hba_regs.specs.Bits.{bit}

-- ---- kinds of accesses

-- the uses of slots that fit: any, with none of a port's slots used, or these alone
pub data SlotCondition : Type 0 where
  AnyUses : SlotCondition
  PortUnused : Port → SlotCondition
  ExactUses : SlotStates → SlotCondition

-- The slots meet the condition.
abbrev pub slot_uses_meeting : SlotCondition → SlotStates → Type 0
slot_uses_meeting AnyUses = AnySlotStates
slot_uses_meeting (PortUnused port) = λ uses. AllFree uses port.0
slot_uses_meeting (ExactUses uses) = SameSlotStates uses

-- a port is stopped, or booted, with none of its slots used; registers of the adapter's own are read and written, or
-- CAP and PI alone are read; a port is looked at, and its PxSERR or PxIS cleared, or all of this is done for its boot;
-- or all ports are taken over; or the adapter is reset
pub data AccessPurpose : Type 0 where
  Commanding : Port → AccessPurpose
  Booting : Port → AccessPurpose
  AccessingHostRegisters : AccessPurpose
  ReadingCapAndPi : AccessPurpose
  ClearingSerrOrIs : Port → AccessPurpose
  Rebooting : Port → AccessPurpose
  TakingOver : List Wanted → SlotCondition → AccessPurpose
  Resetting : AccessPurpose

-- The accesses that a part of a call makes, by its purpose.
abbrev pub accesses_for : AccessPurpose → Access → Type 0
accesses_for (Commanding port) = ReadsPortOrWrites IsCommandRegister port
accesses_for (Booting port) = IsBootAccess port
accesses_for AccessingHostRegisters = ReadsCapOrPiOrSetsAe
accesses_for ReadingCapAndPi = ReadsCapOrPi
accesses_for (ClearingSerrOrIs port) = ReadsPortOrWrites IsSerrOrIs port
accesses_for (Rebooting port) = IsCapPiOrBootAccess port
accesses_for (TakingOver wanted fitting) = IsTakeOverAccess wanted
accesses_for Resetting = IsResetAccess

-- What a part of a call needs of the slots, by its purpose.
abbrev pub slot_uses_for : AccessPurpose → SlotStates → Type 0
slot_uses_for (Commanding port) = AnySlotStates
slot_uses_for (Booting port) = λ uses. AllFree uses port.0
slot_uses_for AccessingHostRegisters = AnySlotStates
slot_uses_for ReadingCapAndPi = AnySlotStates
slot_uses_for (ClearingSerrOrIs port) = AnySlotStates
slot_uses_for (Rebooting port) = λ uses. AllFree uses port.0
slot_uses_for (TakingOver wanted fitting) = slot_uses_meeting fitting
slot_uses_for Resetting = AnySlotStates

-- ---- laws

-- of what was found of a port: it goes on as long as the port isn't booted anew
pub record ProbeResultLaws : Type 0 where
  pub fit_disk_stays : (wanted : Option (List ℕ)) (port : ℕ) (old new : Device) (info : DiskInfo)
      → GainsNoMove port Identify old new → (new.port port).sctl_det ≡ (old.port port).sctl_det
      → (new.port port).ie ≡ (old.port port).ie → (new.port port).notes.sctl_written_at
      ≡ (old.port port).notes.sctl_written_at → HasFitDiskAndInterrupts wanted port old info
      → HasFitDiskAndInterrupts wanted port new info
  pub ready_port_stays_backed : (wanted : Option (List ℕ)) (port : ℕ) (old new : Device) (info : DiskInfo)
      → OnlyDeviceChangesPort (old.port port) (new.port port) → GainsNoMove port Identify old new
      → IsReadyAfterBoot wanted port old info
      → IsReadyAfterBoot wanted port new info
  pub state_stays_backed : (wanted : Option (List ℕ)) (state : ShownState) (port : ℕ) (old new : Device)
      → OnlyDeviceChangesPort (old.port port) (new.port port) → (state ≢ Dead → GainsNoMove port Identify old new)
      → BacksState wanted state port old → BacksState wanted state port new

-- The laws of the crates below that the proofs of this crate use.
pub record Laws : Type 0 where
  pub probe_results : ProbeResultLaws
  -- one access
  pub steps_keep_adapter_and_notes : (old new : Device) → Steps old new → KeepsOverSteps old new
  pub access_keeps_adapter_on : (access : Access) (old new : Device) → IsOn old
      → ((v : ℕ) → access ≡ Writing Ghc v → (bit v 31 ≡ true) × (bit v 0 ≡ false)) → Does access old new → IsOn new
  pub access_keeps_adapter : (access : Access) (old new : Device) → Does access old new → SameAdapter old new
  pub tape : TapeLaws
  pub ghc_write_switches_on : (v : ℕ) (old new : Device) → old.hr ≡ false → bit v 31 ≡ true → bit v 0 ≡ false
      → Writes Ghc v old new → IsOn new
  pub ghc_write_sets_hr : (v : ℕ) (old new : Device) → bit v 0 ≡ true → Writes Ghc v old new → new.hr ≡ true
  pub ghc_reading_tells_hr_and_ae : (v : ℕ) (old new : Device) → Reads Ghc v old new → (new.hr ≡ bit v 0)
      × (new.ae ≡ bit v 31)
  pub ended_reset_is_idle : (v : ℕ) (old new : Device) → old.hr ≡ true → Reads Ghc v old new → bit v 0 ≡ false
      → IsIdle new
  pub disk_in_stays_shown_over_access : (port : Port) (access : Access) (old new : Device) → old.hr ≡ false
      → DoesNotWrite (Px port Sctl) access → Does access old new → HasDet3IfDiskPresent (old.port port.0)
      → HasDet3IfDiskPresent (new.port port.0)
  pub shown_disk_stays_in_over_access : (port : ℕ) (access : Access) (old new : Device) → Does access old new
      → ShownDiskIsIn (old.port port)
      → ShownDiskIsIn (new.port port)
  pub shown_disk_stays_in : (port : ℕ) (accesses : List Access) (old new : Device) → DoesAll accesses old new
      → ShownDiskIsIn (old.port port) → ShownDiskIsIn (new.port port)
  pub ready_boot_has_shown_disk_in : (port : Port) (old new : Device) → BringsReady port old new
      → ShownDiskIsIn (new.port port.0)
  pub ssts_reading_shows_disk : (port : Port) (v : ℕ) (old new : Device) → Reads (Px port Ssts) v old new → v % 16 ≡ 3
      → HasDet3IfDiskPresent (new.port port.0)
  -- fragments
  pub does_append : (early late : List Access) (old mid new : Device) → DoesAll early old mid → DoesAll late mid new
      → DoesAll (early ++ late) old new
  pub same_adapter_is_reflexive : (d : Device) → SameAdapter d d
  pub same_adapter_is_transitive : (old mid new : Device) → SameAdapter old mid → SameAdapter mid new
      → SameAdapter old new
  pub accesses_keep_adapter_on : (accesses : List Access) (old new : Device) → IsOn old
      → All (DoesNotWrite Ghc) accesses
      → DoesAll accesses old new → IsOn new
  pub other_ports_are_left : (port : Port) (q : ℕ) (old new : Device) → q ≢ port.0 → IsOn old
      → IsDrivenBy (AccessesNoOtherPort port) old new
      → OnlyDeviceChangesPort (old.port q) (new.port q)
  pub leaves_port_is_transitive : (old mid new : DevicePort) → OnlyDeviceChangesPort old mid
      → OnlyDeviceChangesPort mid new → OnlyDeviceChangesPort old new
  pub one_port_spares_registers : (port q : Port) (r : PortReg) → q.0 ≢ port.0 → (access : Access)
      → AccessesNoOtherPort port access
      → DoesNotWrite (Px q r) access
  pub one_port_spares_ghc : (port : Port) (access : Access) → AccessesNoOtherPort port access → DoesNotWrite Ghc access
  pub accesses_keep_adapter : (old new : Device) → IsDrivenBy AnyAccess old new → SameAdapter old new
  pub accesses_extend_tape : (old new : Device) → IsDrivenBy AnyAccess old new → (gained : List Entry)
      × (new.tape ≡ old.tape ++ gained)
  pub idle_device_is_related : (d : Device) → IsIdle d → DisksAreKnownIfTheyTell d
      → SomeMachineAgrees (λ port slot. Free) d
  pub set_slot_has_state : (uses : SlotStates) (port slot : ℕ) (u : SlotState)
      → set_slot_state uses port slot u port slot ≡ u
  pub setting_slot_keeps_others : (uses : SlotStates) (port slot : ℕ) (u : SlotState) (other_port other_slot : ℕ)
      → (other_port ≡ port → other_slot ≡ slot → ⊥) → set_slot_state uses port slot u other_port other_slot
      ≡ uses other_port
      other_slot
  -- a port
  pub cmd_access_is_of_port : (port : Port) (access : Access) → ReadsPortOrWrites IsCommandRegister port access
      → AccessesNoOtherPort port access
      × DoesNotWrite (Px port Sctl) access
  pub placing_access_is_of_port : (port : Port) (access : Access) → ReadsPortOrWrites IsCmdOrBaseRegister port access
      → AccessesNoOtherPort port access
      × DoesNotWrite (Px port Sctl) access
  pub failed_stop_sticks : (port : Port) (accesses : List Access) → FailsToStop port accesses
      → EngineSticks port accesses
  pub fall_holds_with_later : (early late : List Access) (start running : ℕ) (port : Port)
      → EngineFalls start running port early
      → EngineFalls start running port (early ++ late)
  pub fall_holds_with_earlier : (early late : List Access) (start running : ℕ) (port : Port)
      → EngineFalls start running port late
      → EngineFalls start running port (early ++ late)
  pub sticking_holds_with_later : (early late : List Access) (port : Port) → EngineSticks port early
      → EngineSticks port (early ++ late)
  pub sticking_holds_with_earlier : (early late : List Access) (port : Port) → EngineSticks port late
      → EngineSticks port (early ++ late)
  pub boot_access_is_of_port : (port : Port) (access : Access) → IsBootAccess port access
      → AccessesNoOtherPort port access
  pub boot_on_way_is_driven : (port : Port) (state : ShownState) (old new : Device)
      → IsSimulatedBootTo (StopsReceivingAndStartedEngine port state) port state old new
      → IsDrivenBy (IsBootAccess port) old new
  pub boot_with_stops_is_driven : (port : Port) (state : ShownState) (old new : Device)
      → IsSimulatedBootTo (StopsEachEngine port) port state old new → IsDrivenBy (IsBootAccess port) old new
  pub cmd_access_is_boot_access : (port : Port) (access : Access) → ReadsPortOrWrites IsCommandRegister port access
      → IsBootAccess port access
  pub runs_on_after_access : (port : Port) (access : Access) (old new : Device) → IsOn old
      → DoesNotWrite (Px port Sctl) access
      → DoesNotWrite (Px port Cmd) access → Does access old new → StaysRunningIfUndisturbed port.0 old new
  pub runs_on_after_accesses : (port : Port) (accesses : List Access) (old new : Device) → IsOn old
      → DoesAll accesses old new
      → All (DoesNotWrite Ghc) accesses → All (DoesNotWrite (Px port Sctl)) accesses
      → All (DoesNotWrite (Px port Cmd)) accesses → StaysRunningIfUndisturbed port.0 old new
  pub stays_well_if_undisturbed : (port : ℕ) (old new : Device) → StaysRunningIfUndisturbed port old new
      → Undisturbed port old new → RunsWell (old.port port) → RunsWell (new.port port)
  pub halt_of_taken_stays_over_acts : (port : Port) (acts : List Act) (k later : DriverState) (m : Machine)
      → IsReachable m
      → DriverRelation m k
      → AreActsDone acts k m later → All (DoesNotWrite (Px port Cmd)) (accesses_of acts)
      → HaltFitsTakenCommandsIfSt (k.device.port port.0)
      → HaltFitsTakenCommandsIfSt (later.device.port port.0)
  -- this crate's kinds of accesses
  pub fragments : FragmentLaws AccessPurpose accesses_for slot_uses_for
