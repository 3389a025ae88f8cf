-- Each answer of a run is lawful; and an id is issued four times at most, and four times where it is answered Aborted.
use Rattle.std.proofs.Common.{◌≡◌, ℕ, ◌+◌, ◌≤◌, ◌==◌, Bool, true, false, cond, List, [], ◌∷◌, ◌++◌, map, inl, ⊎_elim, refl, sym, ap, ◌∙◌, subst, arith, eqb-true}
use Rattle.std.proofs.lemmas.Bool.{eqb-false, false_from_ne_true}
use Rattle.std.proofs.lemmas.List.{append_assoc}
use Rattle.std.proofs.lemmas.List.Elements.{Contains-append_cases}
use Rattle.std.specs.List.{Contains, count_by}
use Rattle.ata_types.specs.declared.Port.{Port}
use Rattle.ata_types.specs.declared.request.RequestId.{RequestId}
use Rattle.ata_types.specs.declared.request.Outcome.{Outcome}
use Rattle.ata_types.specs.declared.request.Outcome.TheVariants.{Aborted, Ok}
use Rattle.block_machine.specs.Ports.{Ports, Evidence}
use Rattle.block_machine.specs.State.{Accepted, Pending, Machine}
use Rattle.block_machine.specs.Steps.{Step, Accept, Issue, Touch, End, Age, WaitAgain, Answer, Release, Revoke, Unplug, PlugDisk, Store, Load, IsEnabled, after_step, update_pending, newly_issued, touch, mark_ended, requeued, aged_pending}
use Rattle.block_machine.specs.Expected.{after, IsInitial}
use Rattle.block_machine.specs.Confinement.{KeepsLimitsAndHoldsOwnFrames}
use Rattle.block_machine.specs.Events.{AbstractState, CallRecord, AnswersLawfulAndWaitsOnStoppedPorts, EveryReadHoldsExpected, IsLawfulAnswer, IsRun, issues_id, abstract_after_all, steps_of, AllEnabled}
use Rattle.block_machine.proofs.Members.{contains_none, contains_here, contains_there, contains_cases, map_in, into_map, at_cases, without_in, append_in}
use Rattle.block_machine.proofs.Keeps.{older_keeps, older_issued}
use Rattle.block_machine.proofs.Limits.{law_book_limits_hold_and_frames_are_lent, older_issues}
use Rattle.block_machine.proofs.Sound.{Sound}
use Rattle.block_machine.proofs.Runs.{traced, nobody}
use Rattle.block_machine.proofs.Counting.{count_cons, count_append, issued_not_due}
use Rattle.machine_runs.specs.AnswerOrigins.{CallAnswersOk, requeues_id}
use Rattle.block_machine.proofs.EventLemmas.{moment_is, run_starts, run_steps_are_enabled, step_of_run}
use Rattle.machine_runs.proofs.Once.{law_answered_was_accepted}
use Rattle.machine_runs.proofs.Touching.{law_ok_was_touched, law_ok_was_ended}

-- Each answer is lawful.

abbrev IsLawfulStep : AbstractState → Evidence → Ports → Step → Type 0
IsLawfulStep old evidence ports (Answer e o) = IsLawfulAnswer old evidence ports e o
IsLawfulStep old evidence ports step = Unit {0}

lawful_first : (old : AbstractState) (evidence : Evidence) (ports : Ports) (step : Step) (before : List Step) → AnswersLawfulAndWaitsOnStoppedPorts old evidence ports (step ∷ before) → AnswersLawfulAndWaitsOnStoppedPorts old evidence ports before × IsLawfulStep old evidence ports step
lawful_first old evidence ports (Answer e o) before l = l
lawful_first old evidence ports (WaitAgain e) before l = (l.0, tt)
lawful_first old evidence ports _ before l = (l, tt)

lawful_in : (old : AbstractState) (evidence : Evidence) (ports : Ports) (steps : List Step) → AnswersLawfulAndWaitsOnStoppedPorts old evidence ports steps → (step : Step) → Contains steps step → IsLawfulStep old evidence ports step
lawful_in old evidence ports [] l step h = absurd (contains_none step h)
lawful_in old evidence ports (x ∷ before) l step h =
    let first = lawful_first old evidence ports x before l in
    ⊎_elim
    (λ (same : step ≡ x). subst (IsLawfulStep old evidence ports) (sym same) first.1)
    (λ i. lawful_in old evidence ports before first.0 step i)
    (contains_cases x before step h)

pub law_answers_are_lawful : {D : Type 0} (first : AbstractState) (past : List (CallRecord D)) (event : CallRecord D) (e : Pending) (outcome : Outcome) → IsRun first (event ∷ past) → Contains event.steps (Answer e outcome)
    → IsLawfulAnswer (abstract_after_all first past) event.evidence event.ports e outcome
law_answers_are_lawful first past event e outcome r h = lawful_in (abstract_after_all first past) event.evidence event.ports event.steps r.1.answers_are_lawful (Answer e outcome) h

-- How often an id was issued: not yet where it is still to come, as often as its unanswered request says, and four times at most.
record IsCounted (m : Machine) (id : RequestId) (n : ℕ) : Type 0 where
  most : n ≤ 4
  none : m.next_id ≤ id.0 → n ≡ 0
  here : (e : Pending) → Contains m.book e → e.request.id.0 ≡ id.0 → n ≡ e.issue_count

-- an unanswered request from which this one came, of the same id, and alike in what is looked at
abbrev CameSo : {X : Type 0} → (Pending → X) → Machine → Pending → Type 0
CameSo seen m e = (o : Pending) × Contains m.book o × (o.request.id.0 ≡ e.request.id.0) × (seen o ≡ seen e)

came_same : {X : Type 0} (seen : Pending → X) (m : Machine) (e o : Pending) → Contains m.book o → e ≡ o → CameSo seen m e
came_same seen m e o here same = (o, here, ap (λ (x : Pending). x.request.id.0) (sym same), ap seen (sym same))

came_at : {X : Type 0} (seen : Pending → X) (m : Machine) (id : RequestId) (f : Pending → Pending) → ((o : Pending) → (f o).request ≡ o.request) → ((o : Pending) → seen (f o) ≡ seen o) → (e : Pending)
    → Contains (map (update_pending id f) m.book) e → CameSo seen m e
came_at seen m id f keeps sees e h =
    let r = map_in (update_pending id f) m.book e h in
    ⊎_elim
    (λ c. let same = r.2 ∙ c.1 in (r.0, r.1, sym (ap (λ (x : Pending). x.request.id.0) same ∙ ap (λ (x : Accepted). x.id.0) (keeps r.0)), sym (ap seen same ∙ sees r.0)))
    (λ c. came_same seen m e r.0 r.1 (r.2 ∙ c.1))
    (at_cases id f r.0)

came_older : {X : Type 0} (seen : Pending → X) (m : Machine) (ready : Port → Bool) → ((o : Pending) → seen (aged_pending ready o) ≡ seen o) → (e : Pending) → Contains (map (aged_pending ready) m.book) e → CameSo seen m e
came_older seen m ready sees e h =
    let r = map_in (aged_pending ready) m.book e h in
    (r.0, r.1, sym (ap (λ (x : Pending). x.request.id.0) r.2 ∙ ap (λ (x : Accepted). x.id.0) (older_keeps ready r.0)), sym (ap seen r.2 ∙ sees r.0))

-- how often it was issued
abbrev issues_newest_first : Pending → ℕ
issues_newest_first e = e.issue_count

-- a step that issues nothing
counted_on : (m n : Machine) (id : RequestId) (k : ℕ) → n.next_id ≡ m.next_id → ((e : Pending) → Contains n.book e → CameSo issues_newest_first m e) → IsCounted m id k → IsCounted n id (0 + k)
counted_on m n id k next from c =
    let most = c.most in
    record {
      most = omega (arith, most);
      none = λ le. let zero = c.none (omega (arith, le, next)) in omega (arith, zero);
      here = λ e h same. let o = from e h in let count = c.here o.0 o.1 (o.2 ∙ same) in let issues = o.3 in omega (arith, count, issues);
    }

counted_issue : (m : Machine) (p : Pending) (id : RequestId) (n : ℕ) → Contains m.book p → Sound m → (newly_issued p).issue_count ≤ 4 → IsCounted m id n
    → (b : Bool) → (p.request.id.0 == id.0) ≡ b → IsCounted (record m { book = map (update_pending p.request.id newly_issued) m.book }) id (cond b 1 0 + n)
counted_issue m p id n here s few c true e =
    let same = eqb-true p.request.id.0 id.0 e in
    let count = c.here p here same in
    let below = s.below p (inl here) in
    record {
      most = omega (arith, count, few);
      none = λ le. absurd (omega (arith, le, same, below));
      here = λ x h is.
          let r = map_in (update_pending p.request.id newly_issued) m.book x h in
          ⊎_elim
          (λ a. let old = c.here r.0 r.1 (a.0 ∙ same) in let new = ap (λ (y : Pending). y.issue_count) (r.2 ∙ a.1) in omega (arith, old, new))
          (λ a. absurd (a.0 (ap (λ (y : Pending). y.request.id.0) (sym (r.2 ∙ a.1)) ∙ is ∙ sym same)))
          (at_cases p.request.id newly_issued r.0);
    }
counted_issue m p id n here s few c false e =
    let most = c.most in
    record {
      most = omega (arith, most);
      none = λ le. let zero = c.none le in omega (arith, zero);
      here = λ x h is.
          let r = map_in (update_pending p.request.id newly_issued) m.book x h in
          ⊎_elim
          (λ a. let mine = ap (λ (y : Pending). y.request.id.0) (r.2 ∙ a.1) in absurd (eqb-false p.request.id.0 id.0 e (sym a.0 ∙ sym mine ∙ is)))
          (λ a. let old = c.here r.0 r.1 (ap (λ (y : Pending). y.request.id.0) (sym (r.2 ∙ a.1)) ∙ is) in let new = ap (λ (y : Pending). y.issue_count) (r.2 ∙ a.1) in omega (arith, old, new))
          (at_cases p.request.id newly_issued r.0);
    }

counted_step : (m : Machine) (step : Step) (id : RequestId) (n : ℕ) → IsEnabled m step → Sound m → KeepsLimitsAndHoldsOwnFrames (after_step m step) → IsCounted m id n → IsCounted (after_step m step) id (cond (issues_id id step) 1 0 + n)
counted_step m (Issue mode p) id n may s limits c = counted_issue m p id n may.0 s most c (p.request.id.0 == id.0) refl
  where
    most : (newly_issued p).issue_count ≤ 4
    most = ⊎_elim
        (λ a. subst (λ (x : Pending). x.issue_count ≤ 4) a.1 (limits.issued_four_times_at_most (update_pending p.request.id newly_issued p) (inl (into_map (update_pending p.request.id newly_issued) m.book p may.0))))
        (λ a. absurd (a.0 refl))
        (at_cases p.request.id newly_issued p)
counted_step m (Accept r) id n may s limits c =
    let most = c.most in
    let next : r.id.0 ≡ m.next_id = may.id_is_next in
    record {
      most = omega (arith, most);
      none = λ le. let zero = c.none (omega (arith, le)) in omega (arith, zero);
      here = λ x h is. ⊎_elim
          (λ old. let count = c.here x old is in omega (arith, count))
          (λ new. let mine = ap (λ (y : Pending). y.request.id.0) new in let issues = ap (λ (y : Pending). y.issue_count) new in let zero = c.none (omega (arith, next, mine, is)) in omega (arith, zero, issues))
          (append_in m.book _ x h);
    }
counted_step m (Touch p i block) id n may s limits c = counted_on m (after_step m (Touch p i block)) id n refl (came_at issues_newest_first m p.request.id (touch i) (λ _. refl) (λ _. refl)) c
counted_step m (End p) id n may s limits c = counted_on m (after_step m (End p)) id n refl (came_at issues_newest_first m p.request.id mark_ended (λ _. refl) (λ _. refl)) c
counted_step m (WaitAgain p) id n may s limits c = counted_on m (after_step m (WaitAgain p)) id n refl (came_at issues_newest_first m p.request.id requeued (λ _. refl) (λ _. refl)) c
counted_step m (Age ready) id n may s limits c = counted_on m (after_step m (Age ready)) id n refl (came_older issues_newest_first m ready (older_issues ready)) c
counted_step m (Answer p o) id n may s limits c = counted_on m (after_step m (Answer p o)) id n refl (λ e h. came_same issues_newest_first m e e (without_in p.request.id m.book e h).0 refl) c
counted_step m (Revoke client number) id n may s limits c = counted_on m (after_step m (Revoke client number)) id n refl (λ e h. came_same issues_newest_first m e e h refl) c
counted_step m Release id n may s limits c = counted_on m (after_step m Release) id n refl (λ e h. came_same issues_newest_first m e e h refl) c
counted_step m (Unplug p) id n may s limits c = counted_on m (after_step m (Unplug p)) id n refl (λ e h. came_same issues_newest_first m e e h refl) c
counted_step m (PlugDisk p i size disk) id n may s limits c = counted_on m (after_step m (PlugDisk p i size disk)) id n refl (λ e h. came_same issues_newest_first m e e h refl) c
counted_step m (Store k f o b) id n may s limits c = counted_on m (after_step m (Store k f o b)) id n refl (λ e h. came_same issues_newest_first m e e h refl) c
counted_step m (Load k f o b) id n may s limits c = counted_on m (after_step m (Load k f o b)) id n refl (λ e h. came_same issues_newest_first m e e h refl) c

counted : (start : Machine) (h : List Step) (id : RequestId) → IsInitial start → AllEnabled start h → IsCounted (after start h) id (count_by (issues_id id) h)
counted start [] id s enabled = record { most = omega arith; none = λ le. refl; here = λ e h same. absurd (nobody start s e (inl h)) }
counted start (step ∷ past) id s enabled = subst (IsCounted (after start (step ∷ past)) id) (sym (count_cons (issues_id id) step past))
    (counted_step (after start past) step id (count_by (issues_id id) past) enabled.1 (traced start past s enabled.0).sound (law_book_limits_hold_and_frames_are_lent start (step ∷ past) s enabled) (counted start past id s enabled.0))

pub law_issued_four_times_at_most : {D : Type 0} (first : AbstractState) (run : List (CallRecord D)) (id : RequestId) → IsRun first run → count_by (issues_id id) (steps_of run) ≤ 4
law_issued_four_times_at_most first run id r = (counted first.machine (steps_of run) id (run_starts first run r) (run_steps_are_enabled first run r)).most

-- An id that is still to come was neither issued nor made to wait again; and its unanswered request was issued once more where it is issued, and
-- else as often as it was made to wait again.
record IsBalanced (m : Machine) (id : RequestId) (issues waits : ℕ) : Type 0 where
  none : m.next_id ≤ id.0 → (issues ≡ 0) × (waits ≡ 0)
  here : (e : Pending) → Contains m.book e → e.request.id.0 ≡ id.0 → issues ≡ waits + cond e.issued 1 0

abbrev issued_of : Pending → Bool
issued_of e = e.issued

-- a step that neither issues a request nor has one wait
balanced_on : (m n : Machine) (id : RequestId) (issues waits : ℕ) → n.next_id ≡ m.next_id → ((e : Pending) → Contains n.book e → CameSo issued_of m e) → IsBalanced m id issues waits
    → IsBalanced n id (0 + issues) (0 + waits)
balanced_on m n id issues waits next from b = record {
  none = λ le. let zero = b.none (omega (arith, le, next)) in let i = zero.0 in let w = zero.1 in (omega (arith, i), omega (arith, w));
  here = λ e h same.
      let o = from e h in
      let count = b.here o.0 o.1 (o.2 ∙ same) in
      let alike : ◌≡◌ {A = ℕ} (cond o.0.issued 1 0) (cond e.issued 1 0) = ap (λ (x : Bool). cond x 1 0) o.3 in
      omega (arith, count, alike);
}

-- Where the requests of this id are made so, all that changes is whether they are issued, and how often.
balanced_at : (m : Machine) (p : Pending) (id : RequestId) (f : Pending → Pending) (was now : Bool) (i w : ℕ) → Contains m.book p → Sound m → ((o : Pending) → (f o).request ≡ o.request)
    → ((o : Pending) → (f o).issued ≡ now) → p.issued ≡ was → ((issues waits : ℕ) → issues ≡ waits + cond was 1 0 → i + issues ≡ (w + waits) + cond now 1 0)
    → (issues waits : ℕ) → IsBalanced m id issues waits
    → (b : Bool) → (p.request.id.0 == id.0) ≡ b → IsBalanced (record m { book = map (update_pending p.request.id f) m.book }) id (cond b i 0 + issues) (cond b w 0 + waits)
balanced_at m p id f was now i w here s keeps makes is_was goes issues waits c true e =
    let same = eqb-true p.request.id.0 id.0 e in
    let below = s.below p (inl here) in
    let count = c.here p here same ∙ ap (λ (x : Bool). waits + cond x 1 0) is_was in
    record {
      none = λ le. absurd (omega (arith, le, same, below));
      here = λ x h is.
          let r = map_in (update_pending p.request.id f) m.book x h in
          ⊎_elim
          (λ a. goes issues waits count ∙ ap (λ (y : Bool). (w + waits) + cond y 1 0) (sym (ap issued_of (r.2 ∙ a.1) ∙ makes r.0)))
          (λ a. absurd (a.0 (ap (λ (y : Pending). y.request.id.0) (sym (r.2 ∙ a.1)) ∙ is ∙ sym same)))
          (at_cases p.request.id f r.0);
    }
balanced_at m p id f was now i w here s keeps makes is_was goes issues waits c false e = record {
  none = λ le. let zero = c.none le in let i0 = zero.0 in let w0 = zero.1 in (omega (arith, i0), omega (arith, w0));
  here = λ x h is.
      let r = map_in (update_pending p.request.id f) m.book x h in
      ⊎_elim
      (λ a. let mine = ap (λ (y : Pending). y.request.id.0) (r.2 ∙ a.1) ∙ ap (λ (y : Accepted). y.id.0) (keeps r.0) in absurd (eqb-false p.request.id.0 id.0 e (sym a.0 ∙ sym mine ∙ is)))
      (λ a.
      let old = c.here r.0 r.1 (ap (λ (y : Pending). y.request.id.0) (sym (r.2 ∙ a.1)) ∙ is) in
      let alike : ◌≡◌ {A = ℕ} (cond x.issued 1 0) (cond r.0.issued 1 0) = ap (λ (y : Pending). cond {A = ℕ} y.issued 1 0) (r.2 ∙ a.1) in
      omega (arith, old, alike))
      (at_cases p.request.id f r.0);
}

-- a test that counts nothing
cond_same : (b : Bool) → cond {A = ℕ} b 0 0 ≡ 0
cond_same true = refl
cond_same false = refl

balanced_step : (m : Machine) (step : Step) (id : RequestId) (issues waits : ℕ) → IsEnabled m step → Sound m → IsBalanced m id issues waits
    → IsBalanced (after_step m step) id (cond (issues_id id step) 1 0 + issues) (cond (requeues_id id step) 1 0 + waits)
balanced_step m (Issue mode p) id issues waits may s b =
    let waited : p.issued ≡ false = false_from_ne_true p.issued (λ is. issued_not_due mode _ _ is may.1) in
    subst (IsBalanced (after_step m (Issue mode p)) id (cond (p.request.id.0 == id.0) 1 0 + issues)) (ap (λ (k : ℕ). k + waits) (cond_same (p.request.id.0 == id.0)))
    (balanced_at m p id newly_issued false true 1 0 may.0 s (λ _. refl) (λ _. refl) waited (λ i w e. omega (arith, e)) issues waits b (p.request.id.0 == id.0) refl)
balanced_step m (WaitAgain p) id issues waits may s b =
    subst (λ (k : ℕ). IsBalanced (after_step m (WaitAgain p)) id (k + issues) (cond (p.request.id.0 == id.0) 1 0 + waits)) (cond_same (p.request.id.0 == id.0))
    (balanced_at m p id requeued true false 0 1 may.0 s (λ _. refl) (λ _. refl) may.1 (λ i w e. omega (arith, e)) issues waits b (p.request.id.0 == id.0) refl)
balanced_step m (Accept r) id issues waits may s b =
    let next : r.id.0 ≡ m.next_id = may.id_is_next in
    record {
      none = λ le. let zero = b.none (omega (arith, le)) in let i = zero.0 in let w = zero.1 in (omega (arith, i), omega (arith, w));
      here = λ x h is. ⊎_elim
          (λ old. let count = b.here x old is in omega (arith, count))
          (λ new.
          let mine = ap (λ (y : Pending). y.request.id.0) new in
          let waiting : ◌≡◌ {A = ℕ} (cond x.issued 1 0) 0 = ap (λ (y : Pending). cond {A = ℕ} y.issued 1 0) new in
          let zero = b.none (omega (arith, next, mine, is)) in
          let i = zero.0 in
          let w = zero.1 in
          omega (arith, i, w, waiting))
          (append_in m.book _ x h);
    }
balanced_step m (Touch p i block) id issues waits may s b = balanced_on m (after_step m (Touch p i block)) id issues waits refl (came_at issued_of m p.request.id (touch i) (λ _. refl) (λ _. refl)) b
balanced_step m (End p) id issues waits may s b = balanced_on m (after_step m (End p)) id issues waits refl (came_at issued_of m p.request.id mark_ended (λ _. refl) (λ _. refl)) b
balanced_step m (Age ready) id issues waits may s b = balanced_on m (after_step m (Age ready)) id issues waits refl (came_older issued_of m ready (older_issued ready)) b
balanced_step m (Answer p o) id issues waits may s b = balanced_on m (after_step m (Answer p o)) id issues waits refl (λ e h. came_same issued_of m e e (without_in p.request.id m.book e h).0 refl) b
balanced_step m (Revoke client number) id issues waits may s b = balanced_on m (after_step m (Revoke client number)) id issues waits refl (λ e h. came_same issued_of m e e h refl) b
balanced_step m Release id issues waits may s b = balanced_on m (after_step m Release) id issues waits refl (λ e h. came_same issued_of m e e h refl) b
balanced_step m (Unplug p) id issues waits may s b = balanced_on m (after_step m (Unplug p)) id issues waits refl (λ e h. came_same issued_of m e e h refl) b
balanced_step m (PlugDisk p i size disk) id issues waits may s b = balanced_on m (after_step m (PlugDisk p i size disk)) id issues waits refl (λ e h. came_same issued_of m e e h refl) b
balanced_step m (Store k f o x) id issues waits may s b = balanced_on m (after_step m (Store k f o x)) id issues waits refl (λ e h. came_same issued_of m e e h refl) b
balanced_step m (Load k f o x) id issues waits may s b = balanced_on m (after_step m (Load k f o x)) id issues waits refl (λ e h. came_same issued_of m e e h refl) b

balanced : (start : Machine) (h : List Step) (id : RequestId) → IsInitial start → AllEnabled start h → IsBalanced (after start h) id (count_by (issues_id id) h) (count_by (requeues_id id) h)
balanced start [] id s enabled = record { none = λ le. (refl, refl); here = λ e h same. absurd (nobody start s e (inl h)) }
balanced start (step ∷ past) id s enabled =
    subst (IsBalanced (after start (step ∷ past)) id (count_by (issues_id id) (step ∷ past))) (sym (count_cons (requeues_id id) step past))
    (subst (λ (n : ℕ). IsBalanced (after start (step ∷ past)) id n (cond (requeues_id id step) 1 0 + count_by (requeues_id id) past)) (sym (count_cons (issues_id id) step past))
    (balanced_step (after start past) step id (count_by (issues_id id) past) (count_by (requeues_id id) past) enabled.1 (traced start past s enabled.0).sound (balanced start past id s enabled.0)))

pub law_book_issue_counts_match_history : (start : Machine) (history : List Step) (e : Pending) → IsInitial start → AllEnabled start history → Contains (after start history).book e
    → (count_by (issues_id e.request.id) history ≡ e.issue_count) × (count_by (issues_id e.request.id) history ≡ count_by (requeues_id e.request.id) history + cond e.issued 1 0)
law_book_issue_counts_match_history start history e starts enabled here =
    ((counted start history e.request.id starts enabled).here e here refl, (balanced start history e.request.id starts enabled).here e here refl)

-- a step of a run is one of a call's
abort_of_run : {D : Type 0} (first : AbstractState) (run : List (CallRecord D)) (e : Pending) → IsRun first run → Contains (steps_of run) (Answer e Aborted) → e.issue_count ≡ 4
abort_of_run first [] e r h = absurd (contains_none (Answer e Aborted) h)
abort_of_run first (event ∷ past) e r h = ⊎_elim
    (λ i. (law_answers_are_lawful first past event e Aborted r i).1)
    (λ i. abort_of_run first past e r.0 i)
    (Contains-append_cases event.steps (steps_of past) (Answer e Aborted) h)

in_middle : (late : List Step) (step : Step) (early : List Step) → Contains (late ++ step ∷ early) step
in_middle [] step early = contains_here step early step refl
in_middle (x ∷ late) step early = contains_there x (late ++ step ∷ early) step (in_middle late step early)

pub aborted_after_four : {D : Type 0} (first : AbstractState) (run : List (CallRecord D)) (late early : List Step) (e : Pending) → IsRun first run
    → steps_of run ≡ late ++ Answer e Aborted ∷ early → count_by (issues_id e.request.id) (steps_of run) ≡ 4
aborted_after_four first run late early e r split =
    let issues : Step → Bool = issues_id e.request.id in
    let four = abort_of_run first run e r (subst (λ (xs : List Step). Contains xs (Answer e Aborted)) (sym split) (in_middle late (Answer e Aborted) early)) in
    let u = step_of_run first run late (Answer e Aborted) early r split in
    let count = (counted first.machine early e.request.id (run_starts first run r) u.0).here e u.1.0 refl in
    let most = law_issued_four_times_at_most first run e.request.id r in
    let all : count_by issues (steps_of run) ≡ count_by issues (late ++ Answer e Aborted ∷ early) = ap (count_by issues) split in
    omega (arith, four, count, most, all, count_append issues late (Answer e Aborted ∷ early), count_cons issues (Answer e Aborted) early)

-- one id is one request, at each moment of a run
pub one_of_run : {D : Type 0} (first : AbstractState) (run : List (CallRecord D)) (a b : Pending) → IsRun first run → Contains (abstract_after_all first run).machine.book a → Contains (abstract_after_all first run).machine.book b
    → a.request.id.0 ≡ b.request.id.0 → a ≡ b
one_of_run first run a b r h k same =
    let there : (x : Pending) → Contains (abstract_after_all first run).machine.book x → Contains (after first.machine (steps_of run)).book x = λ x i. subst (λ (m : Machine). Contains m.book x) (moment_is first run) i in
    (traced first.machine (steps_of run) (run_starts first run r) (run_steps_are_enabled first run r)).sound.one a b (there a h) (there b k) same

pub counted_more : {X : Type 0} (p : X → Bool) (x : X) (xs : List X) → count_by p (x ∷ xs) ≡ cond (p x) 1 0 + count_by p xs
counted_more p x xs = count_cons p x xs

-- What is answered Ok was served.

in_place : (steps : List Step) (step : Step) → Contains steps step → (late : List Step) × (early : List Step) × (steps ≡ late ++ step ∷ early)
in_place [] step h = absurd (contains_none step h)
in_place (x ∷ steps) step h = ⊎_elim
    (λ (same : step ≡ x). ([], steps, ap (λ (y : Step). y ∷ steps) (sym same)))
    (λ i. let p = in_place steps step i in (x ∷ p.0, p.1, ap (λ (ys : List Step). x ∷ ys) p.2))
    (contains_cases x steps step h)

pub law_ok_was_served : {D : Type 0} (first : AbstractState) (past : List (CallRecord D)) (event : CallRecord D) (e : Pending) → IsRun first (event ∷ past) → EveryReadHoldsExpected first (event ∷ past)
    → Contains event.steps (Answer e Ok) → CallAnswersOk first past event e
law_ok_was_served first past event e r holds h =
    let p = in_place event.steps (Answer e Ok) h in
    let split : steps_of (event ∷ past) ≡ p.0 ++ Answer e Ok ∷ (p.1 ++ steps_of past) = ap (λ (xs : List Step). xs ++ steps_of past) p.2 ∙ append_assoc p.0 (Answer e Ok ∷ p.1) (steps_of past) in
    let u = step_of_run first (event ∷ past) p.0 (Answer e Ok) (p.1 ++ steps_of past) r split in
    let issued = (law_answers_are_lawful first past event e Ok r h).1 in
    let counted = (law_book_issue_counts_match_history first.machine (p.1 ++ steps_of past) e (run_starts first (event ∷ past) r) u.0 u.1.0).1 in
    let one : ◌≡◌ {A = ℕ} (cond e.issued 1 0) 1 = ap (λ (b : Bool). cond {A = ℕ} b 1 0) issued in
    record {
      late = p.0;
      early = p.1;
      answered = p.2;
      served = record {
        accepted = law_answered_was_accepted first (event ∷ past) p.0 (p.1 ++ steps_of past) e Ok r split;
        issued = omega (arith, counted, one);
        touched = law_ok_was_touched first (event ∷ past) p.0 (p.1 ++ steps_of past) e r split;
        ended = law_ok_was_ended first (event ∷ past) p.0 (p.1 ++ steps_of past) e r split;
      };
      read_holds_expected = holds [] past event p.0 p.1 e refl p.2;
    }
