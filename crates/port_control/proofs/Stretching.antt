-- Stretches of this crate's kinds: one after another, and of wider kinds.
use Rattle.std.proofs.Common.{ℕ, ◌++◌, List, sym, subst}
use Rattle.ata_types.specs.declared.Port.{Port}
use Rattle.hba_regs.specs.declared.reg.PortReg.{PortReg}
use Rattle.adapter.specs.Access.{Access, Reads, Writes}
use Rattle.adapter.specs.Device.{Device}
use Rattle.refinement.specs.Fragments.{AnySlotStates, ReadsPortOrWrites, IsSimulated, IsSimulatedAlong}
use Rattle.port_control.specs.Laws.{Laws, RegisterSet, AccessPurpose, slot_uses_for, accesses_for, registers_of}
use Rattle.port_control.specs.Laws.AccessPurpose.{Controlling}
use Rattle.refinement.specs.Driver.{KeepsSlotStates}
use Rattle.adapter.specs.Rules.{MayWrite, IsStable}
use Rattle.adapter.specs.Access.Access.{Reading, Writing}
use Rattle.hba_regs.specs.declared.reg.Reg.{Reg}
use Rattle.refinement.specs.Slots.{SlotStates}

module _ (laws : Laws) where
  pub followed_then : (kind : AccessPurpose) (old mid new : Device) → IsSimulated (accesses_for kind) (slot_uses_for kind) old mid → IsSimulated (accesses_for kind) (slot_uses_for kind) mid new →
      IsSimulated (accesses_for kind) (slot_uses_for kind) old new
  followed_then kind old mid new a b = (laws.fragments.fragments_join kind kind (λ uses. uses) (λ uses. uses) (λ access may. may) (λ uses fits. fits) old mid new a b).is_simulated

  -- what is told of both
  pub told_both : (First Second Tells : List Access → Type 0) → ((early late : List Access) → First early → Second late → Tells (early ++ late)) → (kind : AccessPurpose) (old mid new : Device) →
      IsSimulatedAlong First (accesses_for kind) (slot_uses_for kind) old mid → IsSimulatedAlong Second (accesses_for kind) (slot_uses_for kind) mid new → IsSimulatedAlong Tells (accesses_for kind) (slot_uses_for kind) old new
  told_both First Second Tells join kind old mid new a b =
      let f = laws.fragments.fragments_join kind kind (λ uses. uses) (λ uses. uses) (λ access may. may) (λ uses fits. fits) old mid new a.is_simulated b.is_simulated in
      record { is_simulated = f.is_simulated; accesses_are_such = subst Tells (sym f.accesses_are_such) (join a.is_simulated.is_driven.accesses b.is_simulated.is_driven.accesses a.accesses_are_such b.accesses_are_such) }

  -- where more registers may be written
  module _ (set more : RegisterSet) (port : Port) (old new : Device) (wider : (r : PortReg) → registers_of set r → registers_of more r) where
    pub told_wider : (Tells : List Access → Type 0) → IsSimulatedAlong Tells (ReadsPortOrWrites (registers_of set) port) AnySlotStates old new → IsSimulatedAlong Tells (ReadsPortOrWrites (registers_of more) port) AnySlotStates old new
    told_wider Tells a =
        let f = laws.fragments.is_of_wider_kind (Controlling set port) (Controlling more port) (λ uses. uses) (laws.control_of_larger_set set more port wider) (λ uses fits. fits) old new a.is_simulated in
        record { is_simulated = f.is_simulated; accesses_are_such = subst Tells (sym f.accesses_are_such) a.accesses_are_such }

    pub followed_wider : IsSimulated (ReadsPortOrWrites (registers_of set) port) AnySlotStates old new → IsSimulated (ReadsPortOrWrites (registers_of more) port) AnySlotStates old new
    followed_wider a = (told_wider (λ made. Unit {0}) (record { is_simulated = a; accesses_are_such = tt })).is_simulated

  -- ---- one access

  pub followed_read : (kind : AccessPurpose) (r : Reg) (v : ℕ) (old new : Device) → accesses_for kind (Reading r v) → Reads r v old new → IsSimulated (accesses_for kind) (slot_uses_for kind) old new
  followed_read kind r v old new may call = (laws.fragments.reads kind r v old new may call).is_simulated

  pub followed_write : (kind : AccessPurpose) (r : Reg) (v : ℕ) (old new : Device) → accesses_for kind (Writing r v) → IsStable (MayWrite r v) old → ((uses : SlotStates) → slot_uses_for kind uses → KeepsSlotStates uses r v old) →
      Writes r v old new → IsSimulated (accesses_for kind) (slot_uses_for kind) old new
  followed_write kind r v old new may permitted leaves call = (laws.fragments.writes kind r v old new may permitted leaves call).is_simulated
