-- What a step leaves of the requests that it isn't of.
use Rattle.std.proofs.Common.{ℕ, ◌≡◌, ◌≢◌, Bool, true, false, [], ◌∷◌, map, refl, sym, subst, if◌then◌else◌, inl, inr, ⊎_elim}
use Rattle.std.specs.List.{Contains}
use Rattle.std.proofs.lemmas.List.Elements.{Contains-append_left}
use Rattle.ata_types.specs.declared.Port.{Port}
use Rattle.ata_types.specs.declared.request.RequestId.{RequestId}
use Rattle.block_machine.specs.State.{Pending, Machine}
use Rattle.block_machine.specs.Steps.{Step, Accept, Issue, Touch, End, Age, WaitAgain, Answer, Release, NoneKept, after_step, newly_accepted, newly_issued, touch, mark_ended, aged_pending, requeued, is_kept_at_answer}
use Rattle.block_machine.proofs.Members.{into_map, contains_there}
use Rattle.refinement.specs.PortFacts.{EndedOnPort}
use Rattle.refinement.specs.SparedBook.{IsNotStepOfPendingRequest}
use Rattle.refinement.proofs.driver.OwnSteps.{older_is, without_into}
use Rattle.refinement.proofs.relation.TouchesAndEnds.{into_other}

-- ---- the book, and what is kept

pub stays_booked : (m : Machine) (step : Step) (e : Pending) → IsNotStepOfPendingRequest e.request.id step → ((ready : Port → Bool) → step ≢ Age ready) → Contains m.book e → Contains (after_step m step).book e
stays_booked m (Accept r) e other tick here = Contains-append_left m.book (newly_accepted r ∷ []) e here
stays_booked m (Issue mode x) e other tick here = into_other newly_issued x.request.id m.book e (λ same. other (sym same)) here
stays_booked m (Touch x i block) e other tick here = into_other (touch i) x.request.id m.book e (λ same. other (sym same)) here
stays_booked m (End x) e other tick here = into_other mark_ended x.request.id m.book e (λ same. other (sym same)) here
stays_booked m (Age ready) e other tick here = absurd (tick ready refl)
stays_booked m (WaitAgain x) e other tick here = into_other requeued x.request.id m.book e (λ same. other (sym same)) here
stays_booked m (Answer x outcome) e other tick here = without_into x.request.id m.book e (λ same. other (sym same)) here
stays_booked m _ e other tick here = here

pub ages : (m : Machine) (ready : Port → Bool) (e : Pending) → Contains m.book e → Contains (after_step m (Age ready)).book (aged_pending ready e)
ages m ready e here = into_map (aged_pending ready) m.book e here

pub stays_kept : (m : Machine) (step : Step) (e : Pending) → IsNotStepOfPendingRequest e.request.id step → step ≢ Release → Contains m.kept e → Contains (after_step m step).kept e
stays_kept m (Touch x i block) e other more here = into_other (touch i) x.request.id m.kept e (λ same. other (sym same)) here
stays_kept m (End x) e other more here = into_other mark_ended x.request.id m.kept e (λ same. other (sym same)) here
stays_kept m Release e other more here = absurd (more refl)
stays_kept m (Answer x outcome) e other more here = by (is_kept_at_answer x outcome)
  where
    by : (b : Bool) → Contains (if b then x ∷ m.kept else m.kept) e
    by true = contains_there x m.kept e here
    by false = here
stays_kept m _ e other more here = here

-- ---- requests that have ended

-- perhaps a tick older
stays_aged : (m : Machine) (step : Step) (e : Pending) → IsNotStepOfPendingRequest e.request.id step → Contains m.book e → (age : ℕ) × Contains (after_step m step).book (record e { age = age })
stays_aged m (Age ready) e other here = ((aged_pending ready e).age, subst (λ (y : Pending). Contains (map (aged_pending ready) m.book) y) (older_is ready e) (ages m ready e here))
stays_aged m step e other here = (e.age, stays_booked m step e other (λ ready same. absurd cc) here)

pub stays_ended : (m : Machine) (step : Step) (port : Port) (id : RequestId) → IsNotStepOfPendingRequest id step → step ≢ Release → EndedOnPort m port id → EndedOnPort (after_step m step) port id
stays_ended m step port id other more h = ⊎_elim
    (λ (z : Contains m.book h.pending × (h.pending.issued ≡ true)).
    let q = stays_aged m step h.pending its z.0 in
    record {
      pending = record h.pending { age = q.0 };
      may_still_move = inl (q.1, z.1);
      id_is = h.id_is;
      port_is = h.port_is;
      ended = h.ended;
      all_are_touched = h.all_are_touched;
      in_book_if_none_kept = λ none. q.1;
    })
    (λ (z : Contains m.kept h.pending).
    let k = stays_kept m step h.pending its more z in
    record {
      pending = h.pending;
      may_still_move = inr k;
      id_is = h.id_is;
      port_is = h.port_is;
      ended = h.ended;
      all_are_touched = h.all_are_touched;
      in_book_if_none_kept = λ none. absurd (none h.pending k h.port_is);
    })
    h.may_still_move
  where
    its : IsNotStepOfPendingRequest h.pending.request.id step
    its = subst (λ (i : RequestId). IsNotStepOfPendingRequest i step) (sym h.id_is) other

pub ended_released : (m : Machine) (port : Port) (id : RequestId) → NoneKept m port → EndedOnPort m port id → EndedOnPort (after_step m Release) port id
ended_released m port id none h = record {
  pending = h.pending;
  may_still_move = ⊎_elim
      (λ (z : Contains m.book h.pending × (h.pending.issued ≡ true)). inl z)
      (λ (k : Contains m.kept h.pending). absurd (none h.pending k h.port_is))
      h.may_still_move;
  id_is = h.id_is;
  port_is = h.port_is;
  ended = h.ended;
  all_are_touched = h.all_are_touched;
  in_book_if_none_kept = λ _. h.in_book_if_none_kept none;
}
