-- Stretches that are followed are parts of a call, also with the slots given up between two of them.
use Rattle.std.proofs.Common.{ℕ, ◌++◌, List, [], ◌∷◌, None, refl, sym, ◌∙◌, ap, subst, inl}
use Rattle.adapter.specs.Access.{Access, DoesAll}
use Rattle.adapter.specs.Device.{Device}
use Rattle.block_machine.specs.Events.{AllByDevice}
use Rattle.block_machine.specs.Expected.{after}
use Rattle.refinement.specs.Acts.{Act, ActsByDeviceAlone, DriverSlots, IsActDone, AccessesAreSimulatedByActs, accesses_of, driver_state_of_slots, newest_first_steps_of_acts}
use Rattle.refinement.specs.Fragments.{IsSimulated, IsSimulatedChangingUses}
use Rattle.refinement.specs.Driver.{AllFree}
use Rattle.refinement.specs.PortFacts.{IsEngineStopped}
use Rattle.refinement.specs.GivingUp.{slots_with_all_parked}
use Rattle.refinement.specs.Slots.{SlotStates}
use Rattle.refinement.proofs.driver.ComposedMoves.{goes_still, going_reaches}
use Rattle.refinement.proofs.driver.GivenUpSlots.{all_free, given_up_halted}
use Rattle.refinement.proofs.driver.ActParts.{accesses_append, done_goes, done_more, steps_append}
use Rattle.refinement.proofs.steps.WaitingRequests.{device_append}

-- what is in the slots then
abbrev after_next : (SlotStates → SlotStates) → DriverSlots → DriverSlots
after_next next s = record s { slot_states = next s.slot_states }

pub performs_one : (May : Access → Type 0) (Fits : SlotStates → Type 0) (next : SlotStates → SlotStates) (old new : Device) → (a : IsSimulatedChangingUses May Fits next old new) →
    AccessesAreSimulatedByActs a.is_driven.accesses (λ s m. Fits s.slot_states) (after_next next) ActsByDeviceAlone old new
performs_one May Fits next old new a = record {
  accesses_are_done = a.is_driven.all_are_done;
  acts_reach = λ s m reached x fits.
      let c = a.acts_reach s m reached x fits in record { acts = c.acts; acts_are_done = c.acts_are_done; accesses_match_acts = c.accesses_match_acts; acts_are_such = c.acts_are_such.all_steps_are_by_device };
}

pub performs_giving_up : ((early late : List Access) (old mid new : Device) → DoesAll early old mid → DoesAll late mid new → DoesAll (early ++ late) old new) → (May Then : Access → Type 0) (Fits Less : SlotStates → Type 0) (next : SlotStates → SlotStates) (port : ℕ) (old mid new : Device) → (a : IsSimulated May Fits old mid) → IsEngineStopped (mid.port port) →
    ((uses : SlotStates) → AllFree uses port → Less uses) → (b : IsSimulatedChangingUses Then Less next mid new) →
    AccessesAreSimulatedByActs (a.is_driven.accesses ++ b.is_driven.accesses) (λ s m. Fits s.slot_states) (λ s. after_next next (slots_with_all_parked port s)) ActsByDeviceAlone old new
performs_giving_up append May Then Fits Less next port old mid new a halted less b = record {
  accesses_are_done = append a.is_driven.accesses b.is_driven.accesses old mid new a.is_driven.all_are_done b.is_driven.all_are_done;
  acts_reach = λ s m reached x fits.
      let c = a.acts_reach s m reached x fits in
      let g = done_goes c.acts (driver_state_of_slots s old) (driver_state_of_slots s mid) m x c.acts_are_done in
      let parked = driver_state_of_slots (slots_with_all_parked port s) mid in
      let there = given_up_halted (driver_state_of_slots s mid) (after m (newest_first_steps_of_acts c.acts)) port g.driver_relation halted in
      let park : Act = record { access = None; steps = []; state_after = parked } in
      let gives : IsActDone (driver_state_of_slots s mid) (after m (newest_first_steps_of_acts c.acts)) park =
      record { access_is_done_or_device_is_same = refl; are_device_steps_then_decision = inl refl; driver_advances = goes_still (driver_state_of_slots s mid) parked (after m (newest_first_steps_of_acts c.acts)) refl there } in
      let e = b.acts_reach (slots_with_all_parked port s) (after m (newest_first_steps_of_acts c.acts)) (going_reaches (driver_state_of_slots s old) (driver_state_of_slots s mid) m (newest_first_steps_of_acts c.acts) reached g) there
      (less (slots_with_all_parked port s).slot_states (all_free (driver_state_of_slots s mid) port)) in
      record {
        acts = c.acts ++ (park ∷ e.acts);
        acts_are_done = done_more c.acts (park ∷ e.acts) (driver_state_of_slots s old) (driver_state_of_slots s mid) (driver_state_of_slots (after_next next (slots_with_all_parked port s)) new) m c.acts_are_done (gives, e.acts_are_done);
        accesses_match_acts = accesses_append c.acts (park ∷ e.acts)
            ∙ (ap (λ (early : List Access). early ++ accesses_of e.acts) c.accesses_match_acts ∙ ap (λ (late : List Access). a.is_driven.accesses ++ late) e.accesses_match_acts);
        acts_are_such = subst AllByDevice (sym (steps_append c.acts (park ∷ e.acts))) (device_append (newest_first_steps_of_acts e.acts ++ []) (newest_first_steps_of_acts c.acts) (device_append (newest_first_steps_of_acts e.acts) [] e.acts_are_such.all_steps_are_by_device tt) c.acts_are_such.all_steps_are_by_device);
      };
}
