-- Stretches of this crate's kinds: one after another, and of the one kind of recovery.
use Rattle.std.proofs.Common.{ℕ, ◌++◌, List, inl, inr, sym, ◌∙◌, ap, subst, arith}
use Rattle.std.specs.Prelude.{All}
use Rattle.std.proofs.lemmas.List.Elements.{All-weaker}
use Rattle.ata_types.specs.declared.Port.{Port}
use Rattle.hba_regs.specs.Bits.{bit}
use Rattle.hba_regs.specs.declared.reg.PortReg.{PortReg}
use Rattle.adapter.specs.Access.{Access}
use Rattle.adapter.specs.Device.{Device}
use Rattle.adapter.specs.Rules.{IsOn}
use Rattle.refinement.specs.Fragments.{AnyAccess, SomeMachineAgrees, ReadsPortOrWrites, IsDrivenBy, IsSimulated, IsSimulatedAlong, IsSimulatedAlongChangingUses}
use Rattle.refinement.specs.Driver.{AllFree, DriverState}
use Rattle.refinement.specs.Fragments.{driver_state_of}
use Rattle.refinement.specs.PortFacts.{IsEngineStopped}
use Rattle.refinement.specs.GivingUp.{with_all_parked}
use Rattle.refinement.specs.PreservedParts.{SameAdapter}
use Rattle.refinement.specs.Slots.{SlotStates}
use Rattle.port_control.specs.Ports.{IsSerrOrIs, IsCommandRegister}
use Rattle.error_recovery.specs.Laws.{Laws, AccessPurpose, slot_uses_for, accesses_for, slot_uses_meeting, SlotCondition}
use Rattle.error_recovery.specs.Laws.RegisterSet.{CommandRegister, ErrorRegisters, RecoveryRegisters}
use Rattle.error_recovery.specs.Laws.AccessPurpose.{Controlling, Recovering}
use Rattle.error_recovery.specs.RecoveryParts.{IsOnWithPortAndDriverMemory}
use Rattle.error_recovery.specs.Recovery.{IsCmdSerrOrIs, IsRecoveryAccess}

-- accesses of any kind
pub any : (May : Access → Type 0) (old new : Device) → IsDrivenBy May old new → IsDrivenBy AnyAccess old new
any May old new a = record { accesses = a.accesses; all_are_done = a.all_are_done; accesses_are_of_kind = All-weaker May AnyAccess (λ access may. tt) a.accesses a.accesses_are_of_kind }

module _ (laws : Laws) where
  -- what is told of a stretch, also where it is of a wider kind
  pub told_wider : (Tells : List Access → Type 0) (kind more : AccessPurpose) (next : SlotStates → SlotStates) (old new : Device) → ((access : Access) → accesses_for kind access → accesses_for more access) →
      ((uses : SlotStates) → slot_uses_for more uses → slot_uses_for kind uses) → IsSimulatedAlongChangingUses Tells (accesses_for kind) (slot_uses_for kind) next old new → IsSimulatedAlongChangingUses Tells (accesses_for more) (slot_uses_for more) next old new
  told_wider Tells kind more next old new wider fits a =
      let f = laws.fragments.is_of_wider_kind kind more next wider fits old new a.is_simulated in
      record { is_simulated = f.is_simulated; accesses_are_such = subst Tells (sym f.accesses_are_such) a.accesses_are_such }

  -- of two, one after another
  pub told_both : (First Second Tells : List Access → Type 0) → ((early late : List Access) → First early → Second late → Tells (early ++ late)) →
      (kind more : AccessPurpose) (first second : SlotStates → SlotStates) → ((access : Access) → accesses_for more access → accesses_for kind access) → ((uses : SlotStates) → slot_uses_for kind uses → slot_uses_for more (first uses)) →
      (old mid new : Device) → IsSimulatedAlongChangingUses First (accesses_for kind) (slot_uses_for kind) first old mid → IsSimulatedAlongChangingUses Second (accesses_for more) (slot_uses_for more) second mid new →
      IsSimulatedAlongChangingUses Tells (accesses_for kind) (slot_uses_for kind) (λ uses. second (first uses)) old new
  told_both First Second Tells join kind more first second wider on old mid new a b =
      let f = laws.fragments.fragments_join kind more first second wider on old mid new a.is_simulated b.is_simulated in
      record { is_simulated = f.is_simulated; accesses_are_such = subst Tells (sym f.accesses_are_such) (join a.is_simulated.is_driven.accesses b.is_simulated.is_driven.accesses a.accesses_are_such b.accesses_are_such) }

  -- ---- of the kind of recovery

  commanding : (r : PortReg) → IsCommandRegister r → IsCmdSerrOrIs r
  commanding r is = inl is

  clearing : (r : PortReg) → IsSerrOrIs r → IsCmdSerrOrIs r
  clearing r is = inr is

  pub commands_recover : (port : Port) (access : Access) → ReadsPortOrWrites IsCommandRegister port access → IsRecoveryAccess port access
  commands_recover port access is = inl (laws.control_of_larger_set CommandRegister RecoveryRegisters port commanding access is)

  pub clears_recover : (port : Port) (access : Access) → ReadsPortOrWrites IsSerrOrIs port access → IsRecoveryAccess port access
  clears_recover port access is = inl (laws.control_of_larger_set ErrorRegisters RecoveryRegisters port clearing access is)

  -- PxCMD alone is written
  pub told_commands : (Tells : List Access → Type 0) (fitting : SlotCondition) (port : Port) (old new : Device) → IsSimulatedAlong Tells (ReadsPortOrWrites IsCommandRegister port) (slot_uses_meeting fitting port) old new →
      IsSimulatedAlong Tells (IsRecoveryAccess port) (slot_uses_meeting fitting port) old new
  told_commands Tells fitting port old new a = told_wider Tells (Controlling CommandRegister fitting port) (Recovering fitting port) (λ uses. uses) old new (commands_recover port) (λ uses fits. fits) a

  -- PxCMD alone is accessed then, as before
  pub only_commands : (Tells : List Access → Type 0) (fitting : SlotCondition) (port : Port) (old new : Device) → (a : IsSimulatedAlong Tells (ReadsPortOrWrites IsCommandRegister port) (slot_uses_meeting fitting port) old new) →
      All (ReadsPortOrWrites IsCommandRegister port) (told_commands Tells fitting port old new a).is_simulated.is_driven.accesses
  unfolding told_commands told_wider
  only_commands Tells fitting port old new a =
      let f = laws.fragments.is_of_wider_kind (Controlling CommandRegister fitting port) (Recovering fitting port) (λ uses. uses) (commands_recover port) (λ uses fits. fits) old new a.is_simulated in
      subst (All (ReadsPortOrWrites IsCommandRegister port)) (sym f.accesses_are_such) a.is_simulated.is_driven.accesses_are_of_kind

  pub followed_commands : (fitting : SlotCondition) (port : Port) (old new : Device) → IsSimulated (ReadsPortOrWrites IsCommandRegister port) (slot_uses_meeting fitting port) old new → IsSimulated (IsRecoveryAccess port) (slot_uses_meeting fitting port) old new
  followed_commands fitting port old new a = (told_commands (λ made. Unit {0}) fitting port old new (record { is_simulated = a; accesses_are_such = tt })).is_simulated

  -- ---- what stays

  pub room_after : (May : Access → Type 0) (port : ℕ) (old new : Device) → IsDrivenBy May old new → IsOn new → IsOnWithPortAndDriverMemory port old → IsOnWithPortAndDriverMemory port new
  room_after May port old new driven on r =
      let same : SameAdapter old new = laws.accesses_keep_adapter old new (any May old new driven) in
      record {
        adapter_is_on = on;
        has_port = (r.has_port.0, ap (λ (pi : ℕ). bit pi port) same.pi ∙ r.has_port.1);
        driver_memory_fits = let size = same.memory_size in let room = r.driver_memory_fits in omega (arith, size, room);
      }

  -- the slots of a port that has halted may be given up
  pub agreed_free : (uses : SlotStates) (port : ℕ) (d : Device) → IsEngineStopped (d.port port) → SomeMachineAgrees uses d → (free : SlotStates) × AllFree free port × SomeMachineAgrees free d
  agreed_free uses port d halted a =
      let k : DriverState = driver_state_of uses a.parked d in (
        (with_all_parked k port).slot_states,
        laws.given_up_free k port,
        record { machine = a.machine; parked = (with_all_parked k port).awaiting_disposition; reached = a.reached; driver_relation = laws.giving_up_keeps_relation k a.machine port a.driver_relation halted },
      )
