-- The model's own steps, one after another.
use Rattle.std.proofs.Common.{ℕ, length, Bool, zero, suc, true, false, ◌≡◌, ◌+◌, ◌∙◌, List, [], ◌∷◌, ◌++◌, None, Some, All, refl, sym, ap, subst, inl, inr, arith}
use Rattle.std.proofs.lemmas.Bool.Decides.{eqb_tells}
use Rattle.std.proofs.lemmas.List.Elements.{All-append, All-nil}
use Rattle.std.specs.Prelude.{if◌then◌else◌, slice_index_or}
use Rattle.adapter.specs.AskedSteps.{DoesClear, DoesFatal, DoesSlotStep, DoesExactlySlotSteps, FailsAndPosts, DoesAtLeastOneSlotStep, fatal_bit}
use Rattle.adapter.specs.Commands.{Meaning, is_queued, sends_page}
use Rattle.adapter.specs.Device.{DevicePort, Device, FetchedCommand}
use Rattle.adapter.specs.Memory.{changed}
use Rattle.adapter.specs.declared.access.FatalError.{FatalError}
use Rattle.adapter.specs.declared.command.Operation.{Operation}
use Rattle.device_model.proofs.Absurd.{some-none, some_one, true-false}
use Rattle.device_model.proofs.Places.{changed_other, changed_same}
use Rattle.adapter.specs.Steps.{DeviceTransition, Can, Steps, device_after, newly_fetched, block_after, port_after_clear, port_after_done_except_lasting, port_with_lasting_after_operation, port_after_fault, port_after_fetch, port_after_move}
use Rattle.adapter.proofs.Runs.{Steps-one, Steps-refl, Steps-trans}
use Rattle.adapter.specs.Steps.DeviceTransition.{Fetch, FetchFault, Move, Clear, Done, Fault, Fatal, Fall, FrFall, LinkUp, Unplug, Plug, ResetEnds, Scribble}
use Rattle.device_model.specs.HeldPorts.{IsPortHeld, IsPortReleased}
use Rattle.device_model.specs.SentFises.{SendsFisAfterSpontaneousStep, SendsEnd, SendsFaultOfOperation, SendsFault}
use Rattle.device_model.specs.ModelOwnSteps.{DoesSpontaneousSteps, EndsPendingResetUnlessAllHeld, SendsPages, IsSpontaneousStep, LeadsBySteps, LeadsByStepsWithFises}
use Rattle.device_model.proofs.Posting.{after_rest, after_steps, end_rest, fault_rest}
use Rattle.device_model.proofs.Transfers.{page_plain}

pub own_none : (Own : DeviceTransition → Type 0) (d : Device) → LeadsBySteps Own d d
own_none Own d = record { steps = []; steps_are_own = All-nil Own; steps_lead = refl }

all_one : {X : Type 0} (P : X → Type 0) (x : X) → P x → All P (x ∷ [])
all_one P x here zero d small = here
all_one P x here (suc k) d small = absurd (omega (arith, small))

pub own_one : (Own : DeviceTransition → Type 0) (step : DeviceTransition) (old new : Device) → Own step → Can step old → SendsFisAfterSpontaneousStep step (device_after step old) new → LeadsBySteps Own old new
own_one Own step old new own can sends = record { steps = step ∷ []; steps_are_own = all_one Own step own; steps_lead = (can, new, sends, refl) }

leads_on : (first more : List DeviceTransition) (old mid new : Device) → LeadsByStepsWithFises first old mid → LeadsByStepsWithFises more mid new → LeadsByStepsWithFises (first ++ more) old new
leads_on [] more old mid new e rest = let P : Device → Type 0 = λ d. LeadsByStepsWithFises more d new in subst P e rest
leads_on (step ∷ steps) more old mid new (can, next, sends, lead) rest = (can, next, sends, leads_on steps more next mid new lead rest)

pub own_on : (Own : DeviceTransition → Type 0) (old mid new : Device) → LeadsBySteps Own old mid → LeadsBySteps Own mid new → LeadsBySteps Own old new
own_on Own old mid new a b = record {
  steps = a.steps ++ b.steps;
  steps_are_own = All-append Own a.steps b.steps a.steps_are_own b.steps_are_own;
  steps_lead = leads_on a.steps b.steps old mid new a.steps_lead b.steps_lead;
}

leads_steps : (steps : List DeviceTransition) (old new : Device) → LeadsByStepsWithFises steps old new → Steps old new
leads_steps [] old new e = let P : Device → Type 0 = λ d. Steps old d in subst P (sym e) (Steps-refl old)
leads_steps (step ∷ steps) old new (can, next, sends, lead) =
    Steps-trans (Steps-one step old (device_after step old) can refl) (Steps-trans (after_steps step (device_after step old) next sends) (leads_steps steps next new lead))

pub own_steps : (Own : DeviceTransition → Type 0) (old new : Device) → LeadsBySteps Own old new → Steps old new
own_steps Own old new d = leads_steps d.steps old new d.steps_lead

pub reset_steps : (was held : List Bool) (old new : Device) → EndsPendingResetUnlessAllHeld was held old new → Steps old new
reset_steps was held old new (inl stays) = record { steps = []; lead = stays.2 }
reset_steps was held old new (inr ends) = Steps-one ResetEnds old new ends.0 ends.3

-- ---- the steps of one slot's command

-- they neither put a disk into a port nor take one out
present_with : (q : ℕ) (f : ℕ → DevicePort) (port : ℕ) (p : DevicePort) → p.present ≡ (f port).present → (changed f port p q).present ≡ (f q).present
present_with q f port p same =
    elim (eqb_tells q port) [
      | inl here ↦
          let P : ℕ → Type 0 = λ k. (changed f port p k).present ≡ (f k).present in
          subst P (sym here.1) (ap (λ (x : DevicePort). x.present) (changed_same f port p) ∙ same)
      | inr there ↦ ap (λ (x : DevicePort). x.present) (changed_other f port p q there.1)
    ]

pub clear_keeps_present : (q : ℕ) (port slot most : ℕ) (old new : Device) → DoesClear port slot most old new → (new.port q).present ≡ (old.port q).present
clear_keeps_present q port slot most old new c =
    ap (λ (d : Device). (d.port q).present) c.effect ∙ present_with q old.port port (port_after_clear (old.port port) slot c.fetched_command c.first c.count) refl

pub one_keeps_present : (q : ℕ) (port slot : ℕ) (old new : Device) → DoesSlotStep (SendsEnd slot) port slot old new → (new.port q).present ≡ (old.port q).present
one_keeps_present q port slot old new (inl f) =
    ap (λ (d : Device). (d.port q).present) f.effect ∙ present_with q old.port port (port_after_fetch (old.port port) slot f.meaning f.places) refl
one_keeps_present q port slot old new (inr (inl m)) =
    ap (λ (d : Device). (d.port q).present) m.effect ∙ present_with q old.port port (port_after_move (old.port port) slot m.fetched_command m.bytes) refl
one_keeps_present q port slot old new (inr (inr (inr (most, some, c)))) = clear_keeps_present q port slot most old new c
one_keeps_present q port slot old new (inr (inr (inl e))) =
    ap (λ (d : Device). (d.port q).present) (end_rest port slot e.done.cause_bit e.done.fetched_command.meaning.operation e.after_end new e.posts)
    ∙ (ap (λ (d : Device). (d.port q).present) e.done.effect ∙ present_with q old.port port (port_with_lasting_after_operation (port_after_done_except_lasting (old.port port) slot e.done.cause_bit e.done.fetched_command.meaning.operation) e.done.fetched_command.meaning.operation (length old.tape)) refl)

pub fault_keeps_present : (q : ℕ) (port slot error kept : ℕ) (old new : Device) → FailsAndPosts SendsFaultOfOperation port slot error kept old new → (new.port q).present ≡ (old.port q).present
fault_keeps_present q port slot error kept old new f =
    let queued : Bool = is_queued f.fault.fetched_command.meaning.operation in
    ap (λ (d : Device). (d.port q).present) (fault_rest queued port f.after_failure new f.posts)
    ∙ (ap (λ (d : Device). (d.port q).present) f.fault.effect ∙ present_with q old.port port (port_after_fault (old.port port) queued error kept) refl)

pub fatal_keeps_present : (q : ℕ) (port : ℕ) (error : FatalError) (old new : Device) → DoesFatal port error old new → (new.port q).present ≡ (old.port q).present
fatal_keeps_present q port error old new f =
    ap (λ (d : Device). (d.port q).present) f.effect
    ∙ present_with q old.port port (record (old.port port) { is = changed (old.port port).is (fatal_bit error) true; broken = true }) refl

pub senseless_keeps_present : (q : ℕ) (port slot : ℕ) (old new : Device) → SendsFault false port (device_after (FetchFault port slot false 0) old) new →
    (new.port q).present ≡ (old.port q).present
senseless_keeps_present q port slot old new sends =
    ap (λ (d : Device). (d.port q).present) (fault_rest false port (device_after (FetchFault port slot false 0) old) new sends) ∙ present_with q old.port port (port_after_fault (old.port port) false 4 0) refl

pub some_keep_present : (q : ℕ) (n port slot : ℕ) (old new : Device) → DoesExactlySlotSteps (SendsEnd slot) n port slot old new → (new.port q).present ≡ (old.port q).present
some_keep_present q zero port slot old new same = ap (λ (d : Device). (d.port q).present) same
some_keep_present q (suc n) port slot old new s = one_keeps_present q port slot s.0 new s.2 ∙ some_keep_present q n port slot old s.0 s.1

-- whatever command is taken in the slot, or may be, this holds of what it is and of its places
pub record IsOnly (P : Operation → List ℕ → Type 0) (d : Device) (port slot : ℕ) : Type 0 where
  pub taken : (t : FetchedCommand) → (d.port port).taken slot ≡ Some t → P t.meaning.operation t.places
  pub fetched : (m : Meaning) (places : List ℕ) → Can (Fetch port slot m places) d → P m.operation places

module _ (P : Operation → List ℕ → Type 0) (is_plain : (o : Operation) (places : List ℕ) → P o places → is_queued o ≡ false) (port slot : ℕ) where
  -- a command stands in the slot afterwards
  only_with : (new : Device) (p : DevicePort) (t : FetchedCommand) → new.port port ≡ p → p.taken slot ≡ Some t → P t.meaning.operation t.places → IsOnly P new port slot
  only_with new p t there here holds =
      let stands : (new.port port).taken slot ≡ Some t = ap (λ (x : DevicePort). x.taken slot) there ∙ here in
      record {
        taken = λ u is.
            let same : t ≡ u = some_one (sym stands ∙ is) in
            subst (λ (x : FetchedCommand). P x.meaning.operation x.places) same holds;
        fetched = λ m places can. some-none stands can.fetchable.free;
      }

  only_by_one : (old new : Device) → DoesSlotStep (SendsEnd slot) port slot old new → IsOnly P old port slot → IsOnly P new port slot
  only_by_one old new (inl f) only =
      let p : DevicePort = port_after_fetch (old.port port) slot f.meaning f.places in
      only_with new p (newly_fetched f.meaning f.places) (ap (λ (d : Device). d.port port) f.effect ∙ changed_same old.port port p)
      (changed_same (old.port port).taken slot (Some (newly_fetched f.meaning f.places))) (only.fetched f.meaning f.places f.can)
  only_by_one old new (inr (inl m)) only =
      let p : DevicePort = port_after_move (old.port port) slot m.fetched_command m.bytes in
      let u : FetchedCommand = record m.fetched_command { moved = m.fetched_command.moved + 1; block = block_after m.fetched_command.meaning.operation m.bytes m.fetched_command.block } in
      only_with new p u (ap (λ (d : Device). d.port port) m.effect ∙ changed_same old.port port p) (changed_same (old.port port).taken slot (Some u))
      (only.taken m.fetched_command m.can.works.taken)
  only_by_one old new (inr (inr (inl e))) only =
      let t : FetchedCommand = e.done.fetched_command in
      let p : DevicePort = port_with_lasting_after_operation (port_after_done_except_lasting (old.port port) slot e.done.cause_bit t.meaning.operation) t.meaning.operation (length old.tape) in
      let there : new.port port ≡ p =
      ap (λ (d : Device). d.port port) (end_rest port slot e.done.cause_bit t.meaning.operation e.after_end new e.posts)
      ∙ (ap (λ (d : Device). d.port port) e.done.effect ∙ changed_same old.port port p) in
      let none : (new.port port).taken slot ≡ None = ap (λ (x : DevicePort). x.taken slot) there ∙ changed_same (old.port port).taken slot None in
      let plain = is_plain t.meaning.operation t.places (only.taken t e.done.can.works.taken) in
      let clear : (new.port port).ci slot ≡ false =
      ap (λ (x : DevicePort). x.ci slot) there
      ∙ (ap (λ (b : Bool). (if b then (old.port port).ci else changed (old.port port).ci slot false) slot) plain ∙ changed_same (old.port port).ci slot false) in
      record { taken = λ t is. some-none is none; fetched = λ m places can. true-false can.fetchable.issued clear }
  only_by_one old new (inr (inr (inr (most, some, c)))) only =
      let p : DevicePort = port_after_clear (old.port port) slot c.fetched_command c.first c.count in
      let u : FetchedCommand = record c.fetched_command { cleared = c.fetched_command.cleared + c.count } in
      only_with new p u (ap (λ (d : Device). d.port port) c.effect ∙ changed_same old.port port p) (changed_same (old.port port).taken slot (Some u))
      (only.taken c.fetched_command c.can.works.taken)

  only_by_some : (n : ℕ) (old new : Device) → DoesExactlySlotSteps (SendsEnd slot) n port slot old new → IsOnly P old port slot → IsOnly P new port slot
  only_by_some zero old new e only = let Q : Device → Type 0 = λ d. IsOnly P d port slot in subst Q (sym e) only
  only_by_some (suc n) old new s only = only_by_one s.0 new s.2 (only_by_some n old s.0 s.1 only)

  -- a command went on, or didn't
  pub only_gone : (did : Bool) (old new : Device) → (did ≡ true → DoesAtLeastOneSlotStep (SendsEnd slot) port slot old new) → (did ≡ false → new ≡ old) → IsOnly P old port slot →
      IsOnly P new port slot
  only_gone true old new went same only = let g = went refl in only_by_some (suc g.0) old new g.1 only
  only_gone false old new went same only = only_by_some zero old new (same refl) only

module _ (P : Operation → List ℕ → Type 0) (is_page : (o : Operation) (places : List ℕ) → P o places → sends_page o ≡ true) (held : List Bool) (port slot : ℕ)
    (loose : IsPortReleased held port) where
  plain : (o : Operation) (places : List ℕ) → P o places → is_queued o ≡ false
  plain o places holds = page_plain o (is_page o places holds)

  own_by_one : (old new : Device) → DoesSlotStep (SendsEnd slot) port slot old new → IsOnly P old port slot → LeadsBySteps (SendsPages held) old new
  own_by_one old new (inl f) only =
      own_one (SendsPages held) (Fetch port slot f.meaning f.places) old new ((loose, is_page _ _ (only.fetched f.meaning f.places f.can)), tt) f.can f.effect
  own_by_one old new (inr (inl m)) only =
      own_one (SendsPages held) (Move port slot m.fetched_command m.bytes) old new ((loose, is_page _ _ (only.taken m.fetched_command m.can.works.taken)), tt) m.can m.effect
  own_by_one old new (inr (inr (inl e))) only =
      let t : FetchedCommand = e.done.fetched_command in
      let Sent : Device → Type 0 = λ d. SendsEnd slot port e.done.cause_bit t.meaning.operation d new in
      own_one (SendsPages held) (Done port slot e.done.cause_bit t) old new ((loose, is_page _ _ (only.taken t e.done.can.works.taken)), tt) e.done.can
      (subst Sent e.done.effect e.posts)
  own_by_one old new (inr (inr (inr (most, some, c)))) only =
      true-false (is_page _ _ (only.taken c.fetched_command c.can.works.taken)) (ap sends_page c.can.trim)

  pub own_by_some : (n : ℕ) (old new : Device) → DoesExactlySlotSteps (SendsEnd slot) n port slot old new → IsOnly P old port slot → LeadsBySteps (SendsPages held) old new × IsOnly P new port slot
  own_by_some zero old new e only =
      let Q : Device → Type 0 = λ d. LeadsBySteps (SendsPages held) old d × IsOnly P d port slot in
      subst Q (sym e) (own_none (SendsPages held) old, only)
  own_by_some (suc n) old new s only =
      let first = own_by_some n old s.0 s.1 only in (
        own_on (SendsPages held) old s.0 new first.0 (own_by_one s.0 new s.2 first.1),
        only_by_one P plain port slot s.0 new s.2 first.1,
      )

  -- a command went on, or didn't
  pub own_gone : (did : Bool) (old new : Device) → (did ≡ true → DoesAtLeastOneSlotStep (SendsEnd slot) port slot old new) → (did ≡ false → new ≡ old) → IsOnly P old port slot →
      LeadsBySteps (SendsPages held) old new × IsOnly P new port slot
  own_gone true old new went same only = let g = went refl in own_by_some (suc g.0) old new g.1 only
  own_gone false old new went same only = own_by_some zero old new (same refl) only

-- ---- a held port

module _ (held : List Bool) (port : ℕ) (is : IsPortHeld held port) where
  -- a port on which a step of its own is done isn't it
  elsewhere : (q : ℕ) (p : DevicePort) (d : Device) → IsPortReleased held q → changed d.port q p port ≡ d.port port
  elsewhere q p d loose = changed_other d.port q p port (λ same. true-false is (ap (λ k. slice_index_or held k false) same ∙ loose))

  one_stays : (step : DeviceTransition) (d : Device) → IsSpontaneousStep held step → (device_after step d).port port ≡ d.port port
  one_stays (Fall q) d own = elsewhere q _ d own
  one_stays (FrFall q) d own = elsewhere q _ d own
  one_stays (LinkUp q sig n) d own = elsewhere q _ d own.0
  one_stays (Fetch q slot meaning places) d own = elsewhere q _ d own.0
  one_stays (Move q slot t bytes) d own = elsewhere q _ d own.0
  one_stays (Done q slot flag t) d own = elsewhere q _ d own.0
  one_stays (FetchFault q slot queued kept_bits) d own = absurd own
  one_stays (Clear q slot t first count) d own = absurd own
  one_stays (Fault q slot error kept_bits t) d own = absurd own
  one_stays (Fatal q place) d own = absurd own
  one_stays (Unplug q) d own = absurd own
  one_stays (Plug q disk) d own = absurd own
  one_stays ResetEnds d own = absurd own
  one_stays (Scribble q slot at bytes) d own = absurd own

  held_stays : (steps : List DeviceTransition) (old new : Device) → All (IsSpontaneousStep held) steps → LeadsByStepsWithFises steps old new → new.port port ≡ old.port port
  held_stays [] old new own e = ap (λ (d : Device). d.port port) e
  held_stays (step ∷ steps) old new own (can, next, sends, lead) =
      held_stays steps next new (λ k d small. own (suc k) d (omega (arith, small))) lead
      ∙ (ap (λ (d : Device). d.port port) (after_rest step (device_after step old) next sends) ∙ one_stays step old (own 0 step (omega arith)))

  pub own_stays : (old new : Device) → DoesSpontaneousSteps held old new → new.port port ≡ old.port port
  own_stays old new d =
      held_stays d.sends_pages.steps d.settled new (λ k e small. (d.sends_pages.steps_are_own k e small).0) d.sends_pages.steps_lead
      ∙ held_stays d.settles_ports.steps old d.settled (λ k e small. (d.settles_ports.steps_are_own k e small).0) d.settles_ports.steps_lead
