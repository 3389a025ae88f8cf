-- A slot of a port put to another use.
use Rattle.std.proofs.Common.{ℕ, ◌≡◌, ◌≢◌, ◌≤◌, ◌<◌, List, get_or, length, ◌⊎◌, Option, None, Some, inl, inr, sym, ap, ◌∙◌, subst, ⊎_elim, arith}
use Rattle.std.proofs.lemmas.Bool.{cases_eq}
use Rattle.std.proofs.lemmas.List.{get_or-set_same, get_or-set_other, length-set}
use Rattle.refinement.specs.Slots.{SlotState, SlotStates, set_slot_state}
use Rattle.block_machine.specs.declared.due.QueueMode.{QueueMode}
use Rattle.host_boot.specs.TakeOver.{probe_result_of}
use Rattle.host_boot.specs.declared.ProbeResult.{ProbeResult}
use Rattle.server_history.specs.Prerequisites.{PrerequisiteLaws}
use Rattle.slots.specs.SlotUses.{PortSlots, with_use}
use Rattle.slots.specs.declared.SlotUse.{SlotUse}
use Rattle.server_history.specs.ServerState.{SlotsInvariant, SlotStateAgreesUnlessDead, mode_at, no_slots, usable_slots_of, slot_state_of_use, used_for, with_slot}

-- it is this slot, or another
pub its_or_other : (port slot q k : ℕ) → ((q ≡ port) × (k ≡ slot)) ⊎ (q ≡ port → k ≡ slot → ⊥)
its_or_other port slot q k = ⊎_elim
    (λ (same : q ≡ port). ⊎_elim (λ (its : k ≡ slot). inl (same, its)) (λ (ne : k ≢ slot). inr (λ _ its. ne its)) (cases_eq k slot))
    (λ (ne : q ≢ port). inr (λ same _. ne same))
    (cases_eq q port)

module _ (slots : List PortSlots) (port slot : ℕ) (used : Option SlotUse) (low : port < length slots) (small : slot < length (get_or slots port no_slots).slot_uses) where
  abbrev its : PortSlots
  its = get_or slots port no_slots

  here : get_or (with_slot slots port slot used) port no_slots ≡ with_use its slot used
  here = get_or-set_same slots port (with_use its slot used) no_slots low

  pub placed_same : used_for (with_slot slots port slot used) port slot ≡ used
  placed_same = ap (λ (u : PortSlots). get_or u.slot_uses slot None) here ∙ get_or-set_same its.slot_uses slot used None small

  pub placed_other : (q k : ℕ) → (q ≡ port → k ≡ slot → ⊥) → used_for (with_slot slots port slot used) q k ≡ used_for slots q k
  placed_other q k other = ⊎_elim
      (λ (e : q ≡ port).
      ap (λ (p : ℕ). used_for (with_slot slots port slot used) p k) e
      ∙ ap (λ (u : PortSlots). get_or u.slot_uses k None) here ∙ get_or-set_other its.slot_uses slot k used None (other e) ∙ ap (λ (p : ℕ). used_for slots p k) (sym e))
      (λ (n : q ≢ port). ap (λ (u : PortSlots). get_or u.slot_uses k None) (get_or-set_other slots port q (with_use its slot used) no_slots n))
      (cases_eq q port)

  -- where its uses are what they were but for this slot
  pub placed_uses : PrerequisiteLaws → (found : List ProbeResult) (uses : SlotStates) → ((q k : ℕ) → SlotStateAgreesUnlessDead (probe_result_of found q) (used_for slots q k) (uses q k))
      → (q k : ℕ) → SlotStateAgreesUnlessDead (probe_result_of found q) (used_for (with_slot slots port slot used) q k) (set_slot_state uses port slot (slot_state_of_use used) q k)
  placed_uses laws found uses was q k = ⊎_elim
      (λ (at : (q ≡ port) × (k ≡ slot)).
      λ _. ap (λ (p : ℕ). set_slot_state uses port slot (slot_state_of_use used) p k) at.0 ∙ ap (λ (n : ℕ). set_slot_state uses port slot (slot_state_of_use used) port n) at.1 ∙ laws.slots.set_slot_has_state uses port slot (slot_state_of_use used)
      ∙ ap slot_state_of_use (sym placed_same ∙ ap (λ (n : ℕ). used_for (with_slot slots port slot used) port n) (sym at.1) ∙ ap (λ (p : ℕ). used_for (with_slot slots port slot used) p k) (sym at.0)))
      (λ (there : q ≡ port → k ≡ slot → ⊥).
      let U : SlotState → Type 0 = λ u. SlotStateAgreesUnlessDead (probe_result_of found q) (used_for (with_slot slots port slot used) q k) u in
      let P : Option SlotUse → Type 0 = λ p. SlotStateAgreesUnlessDead (probe_result_of found q) p (uses q k) in
      subst U (sym (laws.recovery.setting_slot_keeps_others uses port slot (slot_state_of_use used) q k there)) (subst P (sym (placed_other q k there)) (was q k)))
      (its_or_other port slot q k)

  -- what is used afterwards, but for this slot, was used before
  pub placed_was : (q k : ℕ) (u : SlotUse) → (q ≡ port → k ≡ slot → ⊥) → used_for (with_slot slots port slot used) q k ≡ Some u → used_for slots q k ≡ Some u
  placed_was q k u other is = sym (placed_other q k other) ∙ is

-- what is used once a slot was freed is another, and was used before
pub freed_was : (slots : List PortSlots) (port slot : ℕ) → port < length slots → slot < length (get_or slots port no_slots).slot_uses → (q k : ℕ) (u : SlotUse)
    → used_for (with_slot slots port slot None) q k ≡ Some u → used_for slots q k ≡ Some u
freed_was slots port slot low small q k u is = ⊎_elim
    (λ (its : (q ≡ port) × (k ≡ slot)).
    let z : None ≡ Some u = sym (placed_same slots port slot None low small) ∙ ap (λ (n : ℕ). used_for (with_slot slots port slot None) port n) (sym its.1)
    ∙ ap (λ (p : ℕ). used_for (with_slot slots port slot None) p k) (sym its.0) ∙ is in absurd cc)
    (λ (other : q ≡ port → k ≡ slot → ⊥). placed_was slots port slot None low small q k u other is)
    (its_or_other port slot q k)

-- the four ports have their slots still
module _ (found : List ProbeResult) (modes : List QueueMode) (slots : List PortSlots) (port slot : ℕ) (used : Option SlotUse) (four : length slots ≡ 4) (low : port < 4) (slot_low : slot < usable_slots_of (probe_result_of found port) (mode_at modes port))
    (few : usable_slots_of (probe_result_of found port) (mode_at modes port) ≤ 32) (has : (q : ℕ) → q < 4 → SlotsInvariant found modes slots q) where
  in_list : port < length slots
  in_list = omega (arith, four, low)

  in_places : slot < length (get_or slots port no_slots).slot_uses
  in_places = let p = (has port low).has_32_slots in omega (arith, p, slot_low, few)

  pub placed_four : length (with_slot slots port slot used) ≡ 4
  placed_four = length-set slots port (with_use (get_or slots port no_slots) slot used) ∙ four

  pub placed_has : (q : ℕ) → q < 4 → SlotsInvariant found modes (with_slot slots port slot used) q
  placed_has q small = record {
    has_32_slots = ⊎_elim
        (λ (e : q ≡ port).
        ap (λ (p : ℕ). length (get_or (with_slot slots port slot used) p no_slots).slot_uses) e ∙ ap (λ (u : PortSlots). length u.slot_uses) (here slots port slot used in_list in_places)
        ∙ length-set (get_or slots port no_slots).slot_uses slot used ∙ (has port low).has_32_slots)
        (λ (n : q ≢ port). ap (λ (u : PortSlots). length u.slot_uses) (other q n) ∙ (has q small).has_32_slots)
        (cases_eq q port);
    usable_count_is_of_mode = ⊎_elim
        (λ (e : q ≡ port).
        ap (λ (p : ℕ). (get_or (with_slot slots port slot used) p no_slots).usable_count) e ∙ ap (λ (u : PortSlots). u.usable_count) (here slots port slot used in_list in_places) ∙ (has port low).usable_count_is_of_mode
        ∙ ap (λ (p : ℕ). (mode_at modes p).usable_slots) (sym e))
        (λ (n : q ≢ port). ap (λ (u : PortSlots). u.usable_count) (other q n) ∙ (has q small).usable_count_is_of_mode)
        (cases_eq q port);
    unusable_are_unused = λ k high.
        placed_other slots port slot used in_list in_places q k (λ e s. let h = subst (λ (p : ℕ). usable_slots_of (probe_result_of found p) (mode_at modes p) ≤ k) e high in absurd (omega (arith, h, s, slot_low)))
        ∙ (has q small).unusable_are_unused k high;
  }
    where
      other : (q : ℕ) → q ≢ port → get_or (with_slot slots port slot used) q no_slots ≡ get_or slots q no_slots
      other q n = get_or-set_other slots port q (with_use (get_or slots port no_slots) slot used) no_slots n
