-- What issuing commands, and finding them done, are to callers.
use Rattle.std.proofs.Common.{ℕ, ◌≡◌, ◌⊎◌, List, None, inl, inr, refl, sym, ◌∙◌, ap, subst, ⊎_elim}
use Rattle.std.proofs.lemmas.Bool.{cases_eq}
use Rattle.std.specs.List.{All, AllZip}
use Rattle.ata_types.specs.declared.Port.{Port}
use Rattle.ata_types.specs.declared.request.RequestId.{RequestId}
use Rattle.hba_regs.specs.declared.reg.Reg.{Reg}
use Rattle.hba_regs.specs.declared.reg.Reg.TheVariants.{Px}
use Rattle.hba_regs.specs.declared.reg.PortReg.{PortReg}
use Rattle.adapter.specs.Access.{Access}
use Rattle.adapter.specs.Access.Access.{Reading, Writing, Loading, Storing}
use Rattle.adapter.specs.Device.{Device}
use Rattle.adapter.specs.declared.command.Operation.{Operation}
use Rattle.block_machine.specs.Events.{AllEnabled}
use Rattle.block_machine.specs.Histories.{IsReachable}
use Rattle.block_machine.specs.Expected.{after}
use Rattle.block_machine.specs.State.{Machine, Pending}
use Rattle.block_machine.specs.Steps.{Step}
use Rattle.block_machine.specs.declared.due.QueueMode.{QueueMode}
use Rattle.refinement.specs.Acts.{Act, AreActsDone, ActsReach, DriverSlots, driver_state_of_slots, newest_first_steps_of_acts}
use Rattle.refinement.specs.Fragments.{AnySlotStates, IsSimulated, AccessesNoOtherPort, GainsNoMove}
use Rattle.refinement.specs.Driver.{EndsInOwnStepsAfterDeviceSteps, DriverAdvances, TapeBacksSteps, DriverState, DriverRelation}
use Rattle.refinement.specs.Slots.{Own, SlotState, client_operation_of}
use Rattle.ncq.specs.Masks.{ReadsDone, ReadsCiOrSact}
use Rattle.ncq.specs.Batches.{IsCommandIssueAccess, IsSlotOf, IssuesBatch, IssuesBatchAtEnd, MayServeBatch, PlacedTask, issues_newest_first, with_serving_batch}
use Rattle.ncq.specs.Tasks.{IsFreeArmedOrServing, IsTaskOf}
use Rattle.ncq.proofs.Batch.{all_as, slot_cases, zip_at}

-- ---- of one port

reading_own : (port : Port) (r : PortReg) (place : Reg) (v : ℕ) → place ≡ Px port r → AccessesNoOtherPort port (Reading place v)
reading_own port r place v e = subst (λ (w : Reg). AccessesNoOtherPort port (Reading w v)) (sym e) refl

writing_own : (port : Port) (r : PortReg) (place : Reg) (v : ℕ) → place ≡ Px port r → AccessesNoOtherPort port (Writing place v)
writing_own port r place v e = subst (λ (w : Reg). AccessesNoOtherPort port (Writing w v)) (sym e) refl

pub issuing_of : (port : Port) (access : Access) → IsCommandIssueAccess port access → AccessesNoOtherPort port access
issuing_of port (Writing r v) here = ⊎_elim (λ e. writing_own port _ r v e) (λ e. writing_own port _ r v e) here
issuing_of port (Storing place bytes) here = tt
issuing_of port (Reading r v) here = absurd here
issuing_of port (Loading place bytes) here = absurd here

pub finding_of : (port : Port) (access : Access) → ReadsCiOrSact port access → AccessesNoOtherPort port access
finding_of port (Reading r v) here = ⊎_elim (λ e. reading_own port _ r v e) (λ e. reading_own port _ r v e) here
finding_of port (Writing r v) here = absurd here
finding_of port (Storing place bytes) here = absurd here
finding_of port (Loading place bytes) here = absurd here

-- ---- issuing

-- what laws of acts say
pub record Laws : Type 0 where
  pub goes : (acts : List Act) (k later : DriverState) (m : Machine) → DriverRelation m k → AreActsDone acts k m later → DriverAdvances k m (newest_first_steps_of_acts acts) later
  pub silent : (acts : List Act) (k later : DriverState) (m : Machine) (port : ℕ) (o : Operation) → client_operation_of o ≡ None → IsReachable m → DriverRelation m k → (k.slot_states port 0 ≡ Own o → ⊥)
      → All (λ act. act.state_after.slot_states port 0 ≡ Own o → ⊥) acts → AreActsDone acts k m later → GainsNoMove port o k.device later.device

-- a slot on its way has no command of the driver's own
not_own : (id : RequestId) (o : Operation) (u : SlotState) → IsFreeArmedOrServing id u → u ≡ Own o → ⊥
not_own id o u (inl e) own = absurd cc
not_own id o u (inr (inl e)) own = absurd cc
not_own id o u (inr (inr e)) own = absurd cc

module _ (laws : Laws) (port : Port) (tasks : List PlacedTask) (mode : QueueMode) (es : List Pending) (old new : Device) (s : DriverSlots) (m : Machine) (i : IssuesBatch port tasks old new)
    (is : AllZip (λ t e. IsTaskOf port t.slot t.task t.frames mode e) tasks es) (reached : IsReachable m) (knows : DriverRelation m (driver_state_of_slots s old)) (fits : MayServeBatch port tasks mode es s m) where
  later : DriverState
  later = driver_state_of_slots (with_serving_batch port tasks es s) new

  x : ActsReach i.driven.accesses (driver_state_of_slots s old) m later (IssuesBatchAtEnd port tasks mode es s.slot_states)
  unfolding later
  x = i.machine_follows mode es is s m reached knows fits

  g : DriverAdvances (driver_state_of_slots s old) m (newest_first_steps_of_acts x.acts) later
  g = laws.goes x.acts (driver_state_of_slots s old) later m knows x.acts_are_done

  pub ends : EndsInOwnStepsAfterDeviceSteps (driver_state_of_slots s old) m (issues_newest_first mode es) (driver_state_of_slots (with_serving_batch port tasks es s) new)
  unfolding later
  ends = record {
    steps = x.acts_are_such.device_steps;
    all_steps_are_by_device = x.acts_are_such.only_device_before;
    steps_are_enabled = subst (λ (steps : List Step). AllEnabled m steps) x.acts_are_such.issues_come_last g.steps_are_enabled;
    is_backed = subst (λ (steps : List Step). TapeBacksSteps old new m steps) x.acts_are_such.issues_come_last g.is_backed;
    driver_relation = subst (λ (steps : List Step). DriverRelation (after m steps) later) x.acts_are_such.issues_come_last g.driver_relation;
  }

  pub silent : (q : ℕ) (o : Operation) → client_operation_of o ≡ None → (s.slot_states q 0 ≡ Own o → ⊥) → GainsNoMove q o old new
  unfolding later
  silent q o own not = laws.silent x.acts (driver_state_of_slots s old) later m q o own reached knows not (never (cases_eq q port.0) (slot_cases tasks 0)) x.acts_are_done
    where
      P : Act → Type 0
      P act = act.state_after.slot_states q 0 ≡ Own o → ⊥

      beside : (q ≡ port.0 → IsSlotOf tasks 0 → ⊥) → All P x.acts
      beside other = all_as (λ act. act.state_after.slot_states q 0 ≡ s.slot_states q 0) P (λ act same is_own. not (sym same ∙ is_own)) x.acts (x.acts_are_such.other_slots_are_kept q 0 other)

      never : (q ≡ port.0) ⊎ (q ≡ port.0 → ⊥) → IsSlotOf tasks 0 ⊎ (IsSlotOf tasks 0 → ⊥) → All P x.acts
      never (inl at_port) (inl t) =
          let z = zip_at (λ t e. All (λ act. IsFreeArmedOrServing e.request.id (act.state_after.slot_states port.0 t.slot)) x.acts) tasks es x.acts_are_such.own_slots_are_being_issued t.0 t.1 in
          all_as (λ act. IsFreeArmedOrServing z.0.request.id (act.state_after.slot_states port.0 t.0.slot)) P
          (λ act way is_own. not_own z.0.request.id o (act.state_after.slot_states port.0 t.0.slot) way (ap (act.state_after.slot_states port.0) t.2 ∙ (sym (ap (λ (n : ℕ). act.state_after.slot_states n 0) at_port) ∙ is_own))) x.acts z.1
      never (inr other) slots = beside (λ a b. other a)
      never (inl at_port) (inr other) = beside (λ a b. other b)

-- ---- finding

pub finding_followed : (port : Port) (mask done : ℕ) (old new : Device) → ReadsDone port mask done old new → IsSimulated (ReadsCiOrSact port) AnySlotStates old new
finding_followed port mask done old new f = record {
  is_driven = f.driven;
  acts_reach = λ s m reached knows any.
      let x = f.machine_follows s m reached knows tt in
      record {
        acts = x.acts;
        acts_are_done = x.acts_are_done;
        accesses_match_acts = x.accesses_match_acts;
        acts_are_such = record {
          all_steps_are_by_device = x.acts_are_such.only_device_steps;
          unwritten_ports_keep_slots = λ q issues arms. all_as (λ act. act.state_after.slot_states ≡ s.slot_states) (λ act. act.state_after.slot_states q.0 ≡ s.slot_states q.0) (λ act same. ap (λ (uses : ℕ → ℕ → SlotState). uses q.0) same) x.acts x.acts_are_such.slots_are_kept;
        };
      };
}
