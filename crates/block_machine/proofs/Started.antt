-- A request that has ended is issued.
use Rattle.std.proofs.Common.{◌≡◌, true, [], ◌∷◌, List, inl, inr, ⊎_elim, refl, sym, ap, ◌∙◌, subst}
use Rattle.std.proofs.lemmas.Bool.{false≢true}
use Rattle.std.specs.List.{Contains}
use Rattle.block_machine.specs.State.{Pending, Machine}
use Rattle.block_machine.specs.Steps.{Step, Accept, Issue, Touch, End, Age, WaitAgain, Answer, Revoke, Release, Unplug, PlugDisk, Store, Load, IsEnabled, IsIssuedOrKept, after_step, newly_issued, touch, mark_ended, requeued, aged_pending, newly_accepted}
use Rattle.block_machine.specs.Events.{AllEnabled}
use Rattle.block_machine.specs.Expected.{after, IsInitial}
use Rattle.block_machine.specs.Histories.{IsReachable}
use Rattle.block_machine.proofs.Keeps.{older_ended, older_issued}
use Rattle.block_machine.proofs.Members.{map_in, at_cases, without_in, append_in}
use Rattle.block_machine.proofs.Runs.{traced, nobody}
use Rattle.block_machine.proofs.Sound.{Sound}

abbrev IsStarted : Pending → Type 0
IsStarted e = e.ended ≡ true → e.issued ≡ true

started : (e o : Pending) → e ≡ o → IsStarted o → IsStarted e
started e o same s = subst IsStarted (sym same) s

-- what may move of the book is issued
moving_issued : (m : Machine) → Sound m → (e p : Pending) → Contains m.book e → IsIssuedOrKept m p → e.request.id.0 ≡ p.request.id.0 → e.issued ≡ true
moving_issued m s e p here (inl may) same = ap (λ (x : Pending). x.issued) (s.one e p here may.0 same) ∙ may.1
moving_issued m s e p here (inr kept) same = absurd (s.apart e p here kept same)

started_step : (m : Machine) (step : Step) → IsEnabled m step → Sound m → ((e : Pending) → Contains m.book e → IsStarted e) → (e : Pending) → Contains (after_step m step).book e → IsStarted e
started_step m (Accept r) may s all e h = ⊎_elim
    (λ i. all e i)
    (λ same. started e (newly_accepted r) same (λ t. absurd (false≢true t)))
    (append_in m.book (newly_accepted r) e h)
started_step m (Issue mode p) may s all e h =
    let r = map_in _ m.book e h in
    ⊎_elim
    (λ c. started e (newly_issued r.0) (r.2 ∙ c.1) (λ _. refl))
    (λ c. started e r.0 (r.2 ∙ c.1) (all r.0 r.1))
    (at_cases p.request.id newly_issued r.0)
started_step m (Touch p i block) may s all e h =
    let r = map_in _ m.book e h in
    ⊎_elim
    (λ c. started e (touch i r.0) (r.2 ∙ c.1) (all r.0 r.1))
    (λ c. started e r.0 (r.2 ∙ c.1) (all r.0 r.1))
    (at_cases p.request.id (touch i) r.0)
started_step m (End p) may s all e h =
    let r = map_in _ m.book e h in
    ⊎_elim
    (λ c. started e (mark_ended r.0) (r.2 ∙ c.1) (λ _. moving_issued m s r.0 p r.1 may.0 c.0))
    (λ c. started e r.0 (r.2 ∙ c.1) (all r.0 r.1))
    (at_cases p.request.id mark_ended r.0)
started_step m (Age ready) may s all e h =
    let r = map_in _ m.book e h in
    started e (aged_pending ready r.0) r.2 (λ t. older_issued ready r.0 ∙ all r.0 r.1 (sym (older_ended ready r.0) ∙ t))
started_step m (WaitAgain p) may s all e h =
    let r = map_in _ m.book e h in
    ⊎_elim
    (λ c. started e (requeued r.0) (r.2 ∙ c.1) (λ t. absurd (false≢true t)))
    (λ c. started e r.0 (r.2 ∙ c.1) (all r.0 r.1))
    (at_cases p.request.id requeued r.0)
started_step m (Answer p o) may s all e h = all e (without_in p.request.id m.book e h).0
started_step m (Revoke client number) may s all e h = all e h
started_step m Release may s all e h = all e h
started_step m (Unplug p) may s all e h = all e h
started_step m (PlugDisk p id size disk) may s all e h = all e h
started_step m (Store c f o b) may s all e h = all e h
started_step m (Load c f o b) may s all e h = all e h

started_at : (start : Machine) (h : List Step) → IsInitial start → AllEnabled start h → (e : Pending) → Contains (after start h).book e → IsStarted e
started_at start [] s enabled e h = absurd (nobody start s e (inl h))
started_at start (step ∷ past) s enabled e h =
    started_step (after start past) step enabled.1 (traced start past s enabled.0).sound (started_at start past s enabled.0) e h

pub ended_issued : (m : Machine) (e : Pending) → IsReachable m → Contains m.book e → e.ended ≡ true → e.issued ≡ true
ended_issued m e r here = started_at r.initial_machine r.steps_since r.is_initial r.steps_since_are_enabled e (subst (λ (n : Machine). Contains n.book e) r.leads_to_machine here)
