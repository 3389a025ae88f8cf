-- A command of the driver's own that is over leaves its slot.
use Rattle.std.proofs.Common.{ℕ, ◌≡◌, List, refl, sym, ◌∙◌, ap, subst, ⊎_elim}
use Rattle.std.proofs.Math.Path.{fun_ext}
use Rattle.ata_types.specs.declared.Port.{Port}
use Rattle.ata_types.specs.declared.request.RequestId.{RequestId}
use Rattle.hba_regs.specs.declared.reg.Reg.TheVariants.{Px}
use Rattle.hba_regs.specs.declared.reg.PortReg.TheVariants.{Ci}
use Rattle.adapter.specs.Access.{Access}
use Rattle.adapter.specs.Access.Access.{Writing}
use Rattle.adapter.specs.Device.{Device}
use Rattle.adapter.specs.declared.command.Operation.{Operation}
use Rattle.block_machine.specs.State.{Machine}
use Rattle.refinement.specs.Fragments.{driver_state_of, SomeMachineAgrees, IsSimulatedChangingUses, IsSimulatedAlong}
use Rattle.refinement.specs.Driver.{DriverRelation}
use Rattle.adapter.specs.OneCommand.{SlotHasNoCommand}
use Rattle.refinement.specs.Slots.{Free, Own, SlotStates, set_slot_state}
use Rattle.refinement.proofs.driver.OwnSteps.{own_release_knows}
use Rattle.refinement.proofs.driver.Stretches.{told_known}
use Rattle.refinement.proofs.driver.PutSlot.{put_same, put_cases}

-- once it is given up, the slots are used as they were
given_up : (uses : SlotStates) (port : ℕ) (o : Operation) → uses port 0 ≡ Free → set_slot_state (set_slot_state uses port 0 (Own o)) port 0 Free ≡ uses
given_up uses port o free = fun_ext (λ q. fun_ext (λ slot. ⊎_elim
    (λ (here : (q ≡ port) × (slot ≡ 0)).
    ap (λ (n : ℕ). set_slot_state (set_slot_state uses port 0 (Own o)) port 0 Free n slot) here.0 ∙ ap (λ (k : ℕ). set_slot_state (set_slot_state uses port 0 (Own o)) port 0 Free port k) here.1
    ∙ put_same (set_slot_state uses port 0 (Own o)) port 0 Free ∙ sym free ∙ ap (λ (n : ℕ). uses n 0) (sym here.0) ∙ ap (λ (k : ℕ). uses q k) (sym here.1))
    (λ (there : (q ≡ port → slot ≡ 0 → ⊥) × (set_slot_state (set_slot_state uses port 0 (Own o)) port 0 Free q slot ≡ set_slot_state uses port 0 (Own o) q slot)). there.1 ∙ ⊎_elim
    (λ (here : (q ≡ port) × (slot ≡ 0)). absurd (there.0 here.0 here.1))
    (λ (other : (q ≡ port → slot ≡ 0 → ⊥) × (set_slot_state uses port 0 (Own o) q slot ≡ uses q slot)). other.1)
    (put_cases uses port 0 (Own o) q slot))
    (put_cases (set_slot_state uses port 0 (Own o)) port 0 Free q slot)))

released : (uses : SlotStates) (parked : ℕ → List RequestId) (port : ℕ) (o : Operation) (m : Machine) (d : Device) → uses port 0 ≡ Free → SlotHasNoCommand (d.port port) 0 →
    DriverRelation m (driver_state_of (set_slot_state uses port 0 (Own o)) parked d) → DriverRelation m (driver_state_of uses parked d)
released uses parked port o m d free over knows =
    subst (λ (u : SlotStates). DriverRelation m (driver_state_of u parked d)) (given_up uses port o free)
    (own_release_knows (driver_state_of (set_slot_state uses port 0 (Own o)) parked d) m knows port 0 over o (put_same uses port 0 (Own o)))

-- some machine agrees with the slots used as they were
pub agrees_released : (uses : SlotStates) (port : ℕ) (o : Operation) (d : Device) → uses port 0 ≡ Free → SlotHasNoCommand (d.port port) 0 → SomeMachineAgrees (set_slot_state uses port 0 (Own o)) d → SomeMachineAgrees uses d
agrees_released uses port o d free over a = record {
  machine = a.machine;
  parked = a.parked;
  reached = a.reached;
  driver_relation = released uses a.parked port o a.machine d free over a.driver_relation;
}

-- where it was issued meanwhile
pub told_released : (May : Access → Type 0) (Fits : SlotStates → Type 0) (port : Port) (o : Operation) (v : ℕ) (old new : Device) → May (Writing (Px port Ci) v) →
    ((uses : SlotStates) → Fits uses → uses port.0 0 ≡ Free) → SlotHasNoCommand (new.port port.0) 0 → (a : IsSimulatedChangingUses May Fits (λ uses. set_slot_state uses port.0 0 (Own o)) old new) →
    IsSimulatedAlong (λ made. made ≡ a.is_driven.accesses) May Fits old new
told_released May Fits port o v old new issues free over a = told_known May Fits (λ uses. set_slot_state uses port.0 0 (Own o)) (λ uses. uses) old new (λ made. made ≡ a.is_driven.accesses)
    (λ uses parked m fits knows. released uses parked port.0 o m new (free uses fits) over knows) (λ uses q none arms. refl) (record { is_simulated = a; accesses_are_such = refl })
