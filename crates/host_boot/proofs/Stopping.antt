-- A port is stopped, and then booted; and what the accesses tell of its engines.
use Rattle.std.proofs.Common.{ℕ, ◌≡◌, ◌≢◌, ◌≤◌, ◌+◌, ◌++◌, List, inl, inr, length, ◌∙◌, ap, arith}
use Rattle.std.proofs.lemmas.List.{length-append}
use Rattle.ata_types.specs.declared.Port.{Port}
use Rattle.ata_types.specs.declared.PortState.{PortState}
use Rattle.ata_types.specs.declared.PortState.TheVariants.{Absent, Ready as ReadyState, Foreign, Unfit, Dead}
use Rattle.ata_types.specs.declared.memory.TheConstants.{DRIVER_BYTES}
use Rattle.hba_regs.specs.Bits.{bit}
use Rattle.adapter.specs.Access.{Access}
use Rattle.adapter.specs.Device.{Device}
use Rattle.adapter.specs.Rules.{IsOn, HasPort}
use Rattle.adapter.specs.declared.command.Operation.TheVariants.{Identify}
use Rattle.refinement.specs.Fragments.{SomeMachineAgreesWith, AnySlotStates, ReadsPortOrWrites, IsSimulated, IsSimulatedAlong, IsSimulatedAlongChangingUses}
use Rattle.refinement.specs.Driver.{AllFree}
use Rattle.refinement.specs.Slots.{Own, SlotStates, set_slot_state}
use Rattle.refinement.specs.PreservedParts.{SameAdapter}
use Rattle.port_control.specs.Engines.{FailsToStop, Stops, StopsEachEngine, StopsReceiving, EngineSticks}
use Rattle.port_control.specs.Ports.{IsCommandRegister}
use Rattle.port_boot.specs.States.{IsSimulatedBoot, IsSimulatedBootTo, IsOnWithPortMemoryAndFreeSlots, IsBootAccess, StopsReceivingAndStartedEngine}
use Rattle.host_boot.specs.TakeOver.{EngineSticksDuringBoot, ShowsEnginesStoppedOrStuck, WroteSctlUnlessUnservedOrDead}
use Rattle.host_boot.specs.declared.ProbeResult.{ProbeResult}
use Rattle.host_boot.specs.declared.ProbeResult.TheVariants.{Unserved, Ready, Unready}
use Rattle.host_boot.specs.Laws.{Laws, AccessPurpose, slot_uses_for, accesses_for}
use Rattle.refinement.specs.Tape.{TapeTells}
use Rattle.host_boot.proofs.Stretching.{told_both, told_more, same_over, tape_over, told_wider}
use Rattle.host_boot.specs.Laws.AccessPurpose.{Booting, Commanding}

pub still_there : (port : Port) (old new : Device) → SameAdapter old new → HasPort old port.0 → HasPort new port.0
still_there port old new same there = (there.0, ap (λ (pi : ℕ). bit pi port.0) same.pi ∙ there.1)

-- a boot to a dead port tells of the engine that is stuck
pub boot_sticks : (TapeTells : List Access → Type 0) (port : Port) (old new : Device) → IsSimulatedBootTo TapeTells port Dead old new → EngineSticksDuringBoot port old new
boot_sticks TapeTells port old new (inl b) = record { driven = b.is_simulated.is_driven; sticks = b.accesses_are_such }
boot_sticks TapeTells port old new (inr b) = record { driven = b.is_simulated.is_driven; sticks = b.accesses_are_such }

module _ (laws : Laws) where
  -- a port may be booted after accesses that leave its slots as they are
  pub bootable_over : (kind : AccessPurpose) (port : Port) (old new : Device) → ((uses : SlotStates) → AllFree uses port.0 → slot_uses_for kind uses) → IsSimulated (accesses_for kind) (slot_uses_for kind) old new →
      HasPort old port.0 → DRIVER_BYTES ≤ old.memory_size → SomeMachineAgreesWith (λ uses. AllFree uses port.0) old → IsOn new → IsOnWithPortMemoryAndFreeSlots port new
  bootable_over kind port old new fits f there room a on =
      let same = same_over laws (accesses_for kind) old new f.is_driven in
      record {
        adapter_is_on = on;
        has_port = still_there port old new same there;
        driver_memory_fits = let size = same.memory_size in omega (arith, size, room);
        machine_is_related = (a.0, a.1, laws.fragments.some_machine_agrees kind (λ uses. uses) a.0 old new (fits a.0 a.1) f a.2);
      }

  stop_boots : (TapeTells : List Access → Type 0) (port : Port) (old mid : Device) → IsSimulatedAlong TapeTells (ReadsPortOrWrites IsCommandRegister port) AnySlotStates old mid → IsSimulatedBoot TapeTells port old mid
  stop_boots TapeTells port old mid stops = told_wider laws TapeTells (Commanding port) (Booting port) (λ uses. uses) old mid (laws.cmd_access_is_boot_access port) (λ uses free. tt) stops

  -- where it didn't stop, its engine is stuck
  pub stuck_boots : (port : Port) (old mid : Device) → IsSimulatedAlong (FailsToStop port) (ReadsPortOrWrites IsCommandRegister port) AnySlotStates old mid → IsSimulatedBoot (EngineSticks port) port old mid
  stuck_boots port old mid f = told_more (FailsToStop port) (EngineSticks port) (IsBootAccess port) (λ uses. AllFree uses port.0) (λ uses. uses) old mid (laws.failed_stop_sticks port) (stop_boots (FailsToStop port) port old mid f)

  module _ (port : Port) (old mid : Device) (stops : IsSimulatedAlong (Stops port) (ReadsPortOrWrites IsCommandRegister port) AnySlotStates old mid) where
    pub bootable : HasPort old port.0 → DRIVER_BYTES ≤ old.memory_size → SomeMachineAgreesWith (λ uses. AllFree uses port.0) old → IsOn mid → IsOnWithPortMemoryAndFreeSlots port mid
    bootable there room agreed on = bootable_over (Commanding port) port old mid (λ uses free. tt) stops.is_simulated there room agreed on

    pub since_stop : (since : ℕ) → length mid.tape ≤ since → length old.tape ≤ since
    since_stop since is =
        let g = tape_over laws (ReadsPortOrWrites IsCommandRegister port) old mid stops.is_simulated.is_driven in
        let n : length mid.tape ≡ length old.tape + length g.0 = ap (λ es. length es) g.1 ∙ length-append old.tape g.0 in
        omega (arith, n, is)

    module _ (new : Device) where
      -- both engines fell: the one before the boot, and the other in it
      both : (TapeTells : List Access → Type 0) → ((accesses : List Access) → TapeTells accesses → StopsReceiving port accesses) → IsSimulatedBoot TapeTells port mid new → IsSimulatedBoot (StopsEachEngine port) port old new
      both TapeTells tells f = told_both laws (Stops port) TapeTells (StopsEachEngine port) (λ early late first then. (laws.fall_holds_with_later early late 0 15 port first, laws.fall_holds_with_earlier early late 4 14 port (tells late then)))
          (Booting port) (Booting port) (λ uses. uses) (λ uses. uses) (λ access may. may) (λ uses free. free) old mid new (stop_boots (Stops port) port old mid stops) f

      -- or one is stuck
      dies : (next : SlotStates → SlotStates) → IsSimulatedAlongChangingUses (EngineSticks port) (IsBootAccess port) (λ uses. AllFree uses port.0) next mid new → IsSimulatedAlongChangingUses (EngineSticks port) (IsBootAccess port) (λ uses. AllFree uses port.0) next old new
      dies next f = told_both laws (Stops port) (EngineSticks port) (EngineSticks port) (λ early late any is. laws.sticking_holds_with_earlier early late port is) (Booting port) (Booting port) (λ uses. uses) next
          (λ access may. may) (λ uses free. free) old mid new (stop_boots (Stops port) port old mid stops) f

      pub then_boot : IsSimulatedBoot (StopsReceiving port) port mid new → IsSimulatedBoot (StopsEachEngine port) port old new
      then_boot f = both (StopsReceiving port) (λ accesses is. is) f

      pub then_boot_to : (state : PortState) → IsSimulatedBootTo (StopsReceivingAndStartedEngine port state) port state mid new → IsSimulatedBootTo (StopsEachEngine port) port state old new
      then_boot_to Dead (inl f) = inl (dies (λ uses. uses) f)
      then_boot_to Dead (inr f) = inr (dies (λ uses. set_slot_state uses port.0 0 (Own Identify)) f)
      then_boot_to Absent f = both (StopsReceivingAndStartedEngine port Absent) (λ accesses is. is.0) f
      then_boot_to ReadyState f = both (StopsReceivingAndStartedEngine port ReadyState) (λ accesses is. is.0) f
      then_boot_to Foreign f = both (StopsReceivingAndStartedEngine port Foreign) (λ accesses is. is.0) f
      then_boot_to (Unfit n) f = both (StopsReceivingAndStartedEngine port (Unfit n)) (λ accesses is. is.0) f

      pub ended_since : (state : PortState) → (state ≢ Dead → length mid.tape ≤ (new.port port.0).notes.sctl_written_at) → WroteSctlUnlessUnservedOrDead (Unready state) port.0 (length old.tape) new
      ended_since Dead is = tt
      ended_since Absent is = since_stop _ (is (λ e. absurd cc))
      ended_since ReadyState is = since_stop _ (is (λ e. absurd cc))
      ended_since Foreign is = since_stop _ (is (λ e. absurd cc))
      ended_since (Unfit n) is = since_stop _ (is (λ e. absurd cc))

  -- ---- what accesses tell of engines

  both_then : (port : Port) (early late : List Access) → StopsEachEngine port early → StopsEachEngine port (early ++ late)
  both_then port early late is = (laws.fall_holds_with_later early late 0 15 port is.0, laws.fall_holds_with_later early late 4 14 port is.1)

  both_since : (port : Port) (early late : List Access) → StopsEachEngine port late → StopsEachEngine port (early ++ late)
  both_since port early late is = (laws.fall_holds_with_earlier early late 0 15 port is.0, laws.fall_holds_with_earlier early late 4 14 port is.1)

  -- what one property goes on with, and the other, they tell of each port
  tells_on : (port : Port) (found : ProbeResult) (a b : List Access) → (StopsEachEngine port a → StopsEachEngine port b) → (EngineSticks port a → EngineSticks port b) → ShowsEnginesStoppedOrStuck port found a → ShowsEnginesStoppedOrStuck port found b
  tells_on port Unserved a b both stick is = tt
  tells_on port (Ready info) a b both stick is = both is
  tells_on port (Unready Dead) a b both stick is = stick is
  tells_on port (Unready Absent) a b both stick is = both is
  tells_on port (Unready ReadyState) a b both stick is = both is
  tells_on port (Unready Foreign) a b both stick is = both is
  tells_on port (Unready (Unfit n)) a b both stick is = both is

  pub tells_then : (port : Port) (found : ProbeResult) (early late : List Access) → ShowsEnginesStoppedOrStuck port found early → ShowsEnginesStoppedOrStuck port found (early ++ late)
  tells_then port found early late = tells_on port found early (early ++ late) (both_then port early late) (laws.sticking_holds_with_later early late port)

  pub tells_since : (port : Port) (found : ProbeResult) (early late : List Access) → ShowsEnginesStoppedOrStuck port found late → ShowsEnginesStoppedOrStuck port found (early ++ late)
  tells_since port found early late = tells_on port found late (early ++ late) (both_since port early late) (laws.sticking_holds_with_earlier early late port)
