-- What a request's marks say is in the history: each sector that is marked was touched since the last issue, and one that is
-- ended was ended since.
use Rattle.std.proofs.Common.{◌≡◌, ◌⊎◌, ℕ, ◌<◌, Bool, true, false, ◌==◌, List, [], ◌∷◌, ◌++◌, inl, inr, ⊎_elim, refl, sym, ap, ◌∙◌, subst, eqb-true}
use Rattle.std.proofs.lemmas.Bool.{or_cases, false≢true}
use Rattle.std.specs.List.{Contains}
use Rattle.ata_types.specs.declared.request.Outcome.TheVariants.{Ok}
use Rattle.block_machine.specs.State.{Accepted, Pending, Machine, sector_of, newly_unanswered}
use Rattle.block_machine.specs.Steps.{Step, Accept, Issue, Touch, End, Age, WaitAgain, Answer, Release, Revoke, Unplug, PlugDisk, Store, Load, IsInBookOrKept, IsEnabled, IsIssuedOrKept, after_step, newly_issued, touch, mark_ended, requeued, newly_accepted}
use Rattle.block_machine.specs.DueRequests.{conflict_on_port_by_flush_or_overlap}
use Rattle.block_machine.specs.Expected.{after, IsInitial, IsIssue, IsTouch, IsEnd, HasTouchedSinceIssue, HasEndedSinceIssue}
use Rattle.block_machine.specs.Events.{AbstractState, CallRecord, IsRun, steps_of, AllEnabled}
use Rattle.block_machine.proofs.Members.{map_in, at_cases, without_in, append_in}
use Rattle.block_machine.proofs.Sound.{Sound}
use Rattle.block_machine.proofs.Keeps.{older_keeps, older_touched, older_ended}
use Rattle.block_machine.proofs.Trace.{lives_one, runs_lives}
use Rattle.block_machine.proofs.Runs.{traced, nobody}
use Rattle.block_machine.proofs.EventLemmas.{run_starts, step_of_run}

-- Where a request of the book, and its marks, come from. A step issues it, makes the mark, or finds it there.
record Marks (m : Machine) (step : Step) (e : Pending) : Type 0 where
  old : Pending
  here : Contains m.book old
  same : old.request ≡ e.request
  not_issued : IsIssue step e.request → ⊥
  touched : (k : ℕ) → e.touched k ≡ true → (old.touched k ≡ true) ⊎ IsTouch step e.request (sector_of e.request k)
  ended : e.ended ≡ true → (old.ended ≡ true) ⊎ IsEnd step e.request

-- the request has no mark
abbrev IsUnmarked : Pending → Type 0
IsUnmarked e = ((k : ℕ) → e.touched k ≡ false) × (e.ended ≡ false)

unmarked : (e o : Pending) → e ≡ o → IsUnmarked o → IsUnmarked e
unmarked e o same u = ((λ k. ap (λ (y : Pending). y.touched k) same ∙ u.0 k), ap (λ (y : Pending). y.ended) same ∙ u.1)

-- the step leaves the marks
as_before : (m : Machine) (step : Step) (e o : Pending) → Contains m.book o → o.request ≡ e.request → (IsIssue step e.request → ⊥) → e.touched ≡ o.touched → e.ended ≡ o.ended → Marks m step e
as_before m step e o here same not touched ended = record {
  old = o;
  here = here;
  same = same;
  not_issued = not;
  touched = λ k t. inl (ap (λ (f : ℕ → Bool). f k) (sym touched) ∙ t);
  ended = λ t. inl (sym ended ∙ t);
}

-- the same request, as it was
stayed : (m : Machine) (step : Step) (e o : Pending) → Contains m.book o → e ≡ o → (IsIssue step e.request → ⊥) → Marks m step e
stayed m step e o here same not = as_before m step e o here (ap (λ (y : Pending). y.request) (sym same)) not (ap (λ (y : Pending). y.touched) same) (ap (λ (y : Pending). y.ended) same)

marks : (m : Machine) (step : Step) → IsEnabled m step → Sound m → (e : Pending) → Contains (after_step m step).book e → Marks m step e ⊎ IsUnmarked e
marks m (Accept r) may s e i = ⊎_elim
    (λ o. inl (stayed m (Accept r) e e o refl (λ x. x)))
    (λ p. inr (unmarked e (newly_accepted r) p ((λ k. refl), refl)))
    (append_in m.book _ e i)
marks m (Issue mode p) may s e i =
    let r = map_in _ m.book e i in
    ⊎_elim
    (λ c. inr (unmarked e (newly_issued r.0) (r.2 ∙ c.1) ((λ k. refl), refl)))
    (λ c. inl (stayed m (Issue mode p) e r.0 r.1 (r.2 ∙ c.1) (λ same. c.0 (ap (λ (y : Pending). y.request.id.0) (sym (r.2 ∙ c.1)) ∙ ap (λ (x : Accepted). x.id.0) (sym same)))))
    (at_cases p.request.id newly_issued r.0)
marks m (Touch p i block) may s e j =
    let r = map_in _ m.book e j in
    ⊎_elim
    (λ c.
    let mine : p.request ≡ e.request = sym (ap (λ (y : Pending). y.request) (r.2 ∙ c.1) ∙ lives_one m s r.0 p (inl r.1) (runs_lives m p may.0) c.0) in
    inl (record {
      old = r.0;
      here = r.1;
      same = ap (λ (y : Pending). y.request) (sym (r.2 ∙ c.1));
      not_issued = λ x. x;
      touched = λ k t. ⊎_elim
          (λ same. inr (mine, ap (λ n. sector_of e.request n) (sym (eqb-true k i same))))
          (λ old. inl old)
          (or_cases (k == i) (r.0.touched k) (ap (λ (y : Pending). y.touched k) (sym (r.2 ∙ c.1)) ∙ t));
      ended = λ t. inl (ap (λ (y : Pending). y.ended) (sym (r.2 ∙ c.1)) ∙ t);
    }))
    (λ c. inl (stayed m (Touch p i block) e r.0 r.1 (r.2 ∙ c.1) (λ x. x)))
    (at_cases p.request.id (touch i) r.0)
marks m (End p) may s e j =
    let r = map_in _ m.book e j in
    ⊎_elim
    (λ c. inl (record {
      old = r.0;
      here = r.1;
      same = ap (λ (y : Pending). y.request) (sym (r.2 ∙ c.1));
      not_issued = λ x. x;
      touched = λ k t. inl (ap (λ (y : Pending). y.touched k) (sym (r.2 ∙ c.1)) ∙ t);
      ended = λ t. inr (sym (ap (λ (y : Pending). y.request) (r.2 ∙ c.1) ∙ lives_one m s r.0 p (inl r.1) (runs_lives m p may.0) c.0));
    }))
    (λ c. inl (stayed m (End p) e r.0 r.1 (r.2 ∙ c.1) (λ x. x)))
    (at_cases p.request.id mark_ended r.0)
marks m (WaitAgain p) may s e j =
    let r = map_in _ m.book e j in
    ⊎_elim
    (λ c. inr (unmarked e (requeued r.0) (r.2 ∙ c.1) ((λ k. refl), refl)))
    (λ c. inl (stayed m (WaitAgain p) e r.0 r.1 (r.2 ∙ c.1) (λ x. x)))
    (at_cases p.request.id requeued r.0)
marks m (Age ready) may s e j =
    let r = map_in _ m.book e j in
    inl (as_before m (Age ready) e r.0 r.1 (sym (ap (λ (y : Pending). y.request) r.2 ∙ older_keeps ready r.0)) (λ x. x)
    (ap (λ (y : Pending). y.touched) r.2 ∙ older_touched ready r.0) (ap (λ (y : Pending). y.ended) r.2 ∙ older_ended ready r.0))
marks m (Answer p o) may s e j = inl (stayed m (Answer p o) e e (without_in p.request.id m.book e j).0 refl (λ x. x))
marks m (Revoke client number) may s e j = inl (stayed m (Revoke client number) e e j refl (λ x. x))
marks m Release may s e j = inl (stayed m Release e e j refl (λ x. x))
marks m (Unplug p) may s e j = inl (stayed m (Unplug p) e e j refl (λ x. x))
marks m (PlugDisk p id size disk) may s e j = inl (stayed m (PlugDisk p id size disk) e e j refl (λ x. x))
marks m (Store c f o b) may s e j = inl (stayed m (Store c f o b) e e j refl (λ x. x))
marks m (Load c f o b) may s e j = inl (stayed m (Load c f o b) e e j refl (λ x. x))

-- what a request's marks say is in the history
pub record IsTraced (h : List Step) (e : Pending) : Type 0 where
  pub touched : (k : ℕ) → e.touched k ≡ true → HasTouchedSinceIssue e.request (sector_of e.request k) h
  pub ended : e.ended ≡ true → HasEndedSinceIssue e.request h

pub traced_marks : (start : Machine) (h : List Step) → IsInitial start → AllEnabled start h → (e : Pending) → Contains (after start h).book e → IsTraced h e
traced_marks start [] s enabled e i = absurd (nobody start s e (inl i))
traced_marks start (step ∷ past) s enabled e i = ⊎_elim
    (λ (c : Marks (after start past) step e).
    let before = traced_marks start past s enabled.0 c.old c.here in
    record {
      touched = λ k t. ⊎_elim
          (λ old. inr (c.not_issued, subst (λ (r : Accepted). HasTouchedSinceIssue r (sector_of r k) past) c.same (before.touched k old)))
          (λ now. inl now)
          (c.touched k t);
      ended = λ t. ⊎_elim
          (λ old. inr (c.not_issued, subst (λ (r : Accepted). HasEndedSinceIssue r past) c.same (before.ended old)))
          (λ now. inl now)
          (c.ended t);
    })
    (λ (u : IsUnmarked e). record {
      touched = λ k t. absurd (false≢true (sym (u.0 k) ∙ t));
      ended = λ t. absurd (false≢true (sym u.1 ∙ t));
    })
    (marks (after start past) step enabled.1 (traced start past s enabled.0).sound e i)

pub law_ok_was_touched : {D : Type 0} (first : AbstractState) (run : List (CallRecord D)) (late early : List Step) (e : Pending) → IsRun first run → steps_of run ≡ late ++ Answer e Ok ∷ early
    → (i : ℕ) → i < e.request.asked.count → HasTouchedSinceIssue e.request (sector_of e.request i) early
law_ok_was_touched first run late early e r split i lt =
    let u = step_of_run first run late (Answer e Ok) early r split in
    (traced_marks first.machine early (run_starts first run r) u.0 e u.1.0).touched i (u.2.0 i lt)

pub law_ok_was_ended : {D : Type 0} (first : AbstractState) (run : List (CallRecord D)) (late early : List Step) (e : Pending) → IsRun first run → steps_of run ≡ late ++ Answer e Ok ∷ early
    → HasEndedSinceIssue e.request early
law_ok_was_ended first run late early e r split =
    let u = step_of_run first run late (Answer e Ok) early r split in
    (traced_marks first.machine early (run_starts first run r) u.0 e u.1.0).ended u.2.1

-- a request isn't moved while an earlier one that conflicts with it is there
pub take_turns : (start : Machine) (history : List Step) (earlier later : Pending) → IsInitial start → AllEnabled start history → IsInBookOrKept (after start history) earlier → IsIssuedOrKept (after start history) later
    → earlier.request.id.0 < later.request.id.0 → conflict_on_port_by_flush_or_overlap (newly_unanswered earlier.request) (newly_unanswered later.request) ≡ true → ⊥
take_turns start history earlier later starts enabled living may before conflicts = (traced start history starts enabled).sound.order later earlier may living before conflicts
