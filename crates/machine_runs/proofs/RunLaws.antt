-- What holds at each moment of a run: of the ages of requests, of their ports, and of their sectors.
use Rattle.std.proofs.Common.{◌≡◌, ◌≢◌, ◌⊎◌, ℕ, ◌+◌, ◌<◌, ◌≤◌, Bool, true, false, cond, List, [], ◌∷◌, Some, None, Ok, Err, inl, inr, ⊎_elim, refl, sym, ap, ◌∙◌, subst, arith}
use Rattle.std.proofs.lemmas.Bool.{cases_lt, or_parts, false_from_ne_true, true_from_ne_false, false≢true}
use Rattle.std.specs.List.{Contains, count_by, list_any}
use Rattle.ata_types.specs.declared.Port.{Port}
use Rattle.ata_types.specs.declared.PortState.{PortState}
use Rattle.ata_types.specs.declared.PortState.TheVariants.{Ready, Dead}
use Rattle.ata_types.specs.declared.request.RequestId.{RequestId}
use Rattle.ata_types.specs.declared.request.Request.{Request}
use Rattle.ata_types.specs.declared.request.Op.TheVariants.{Flush}
use Rattle.ata_types.specs.declared.request.Outcome.TheVariants as outcome
use Rattle.ata_types.specs.declared.refusal.Refusal.TheVariants as refused
use Rattle.ata_types.specs.declared.grant.GrantRow.{GrantRow}
use Rattle.block_machine.specs.Rules.{IsNamed}
use Rattle.block_machine.specs.Refusals.{IsAcceptable}
use Rattle.block_machine.specs.Ports.{Ports, Evidence, MayBecome, SamePorts, PortsWellFormed, MayBecomeInService, IsDeadAfterStuckResetIfServed}
use Rattle.block_machine.specs.State.{Accepted, Pending, Machine}
use Rattle.block_machine.specs.Steps.{Step, Issue, Age, Touch, End, WaitAgain, Answer, Release, MayAccept, touch, mark_ended}
use Rattle.block_machine.specs.Expected.{after}
use Rattle.block_machine.specs.Events.{AbstractState, AbstractCall, AllEnabled, AreStepsOfCall, EmptyUnlessReady, Submit, StoreAt, LoadAt, Service, Tick, Reset, State, StepDevice, RevokeOf, AbstractCallResult, Submitted, Stored, Loaded, Replied, WasReset, WasRevoked, PortStateShown, Stepped, CallRecord, ResultMatchesSteps, Happens, AnswersLawfulAndWaitsOnStoppedPorts, AgesReadyPortsFirstAndOnce, RestartsTimedOut, ReleasesOnceBeforeServerSteps, IssueIsLastOfRequest, IsRun, LastServiceOrResetIsStuckReset, LastServiceOrResetIsStuckResetAfter, accepts_of, is_age, is_release, issues_id, issues_requeues_or_answers_id, abstract_after_all, admission_context_of, abstract_after}
use Rattle.block_machine.proofs.Members.{contains_none, contains_cases, map_in}
use Rattle.block_machine.proofs.Keeps.{at_keeps}
use Rattle.block_machine.specs.Confinement.{IsGranted}
use Rattle.block_machine.proofs.Runs.{nobody}
use Rattle.block_machine.proofs.Accepts.{law_accepted_is_granted}
use Rattle.block_machine.proofs.Counting.{count_cons, count_append, count_least}
use Rattle.machine_runs.proofs.CallSteps.{Since, IsAccepted, since, accepted_new, accepted_asked, ages_it, is_tick, is_reset, AllFit, all_fit, none_accepted, none_aged}

-- A call issues a request once at most.

issuing_handles : (id : RequestId) (step : Step) → issues_id id step ≡ true → issues_requeues_or_answers_id id step ≡ true
issuing_handles id (Issue mode e) t = t
issuing_handles id _ t = absurd (false≢true t)

issued_once : (id : RequestId) (steps : List Step) → IssueIsLastOfRequest steps → (list_any (issues_id id) steps ≡ false → count_by (issues_id id) steps ≡ 0) × (count_by (issues_id id) steps ≤ 1)
issued_once id [] l = ((λ _. refl), omega arith)
issued_once id (step ∷ before) l = go (issues_id id step) refl (issued_once id before l.0)
  where
    go : (b : Bool) → issues_id id step ≡ b → (list_any (issues_id id) before ≡ false → count_by (issues_id id) before ≡ 0) × (count_by (issues_id id) before ≤ 1)
        → (list_any (issues_id id) (step ∷ before) ≡ false → count_by (issues_id id) (step ∷ before) ≡ 0) × (count_by (issues_id id) (step ∷ before) ≤ 1)
    go true e rest =
        let none = rest.0 (false_from_ne_true _ (l.1 id (issuing_handles id step e))) in
        let one : ◌≡◌ {A = ℕ} (cond (issues_id id step) 1 0) 1 = ap (λ (b : Bool). cond {A = ℕ} b 1 0) e in
        ((λ f. absurd (false≢true (sym (or_parts _ _ f).0 ∙ e))), omega (arith, none, one, count_cons (issues_id id) step before))
    go false e rest =
        let most = rest.1 in
        let zero : ◌≡◌ {A = ℕ} (cond (issues_id id step) 1 0) 0 = ap (λ (b : Bool). cond {A = ℕ} b 1 0) e in (
          (λ f. let none = rest.0 (or_parts _ _ f).1 in omega (arith, none, zero, count_cons (issues_id id) step before)),
          omega (arith, most, zero, count_cons (issues_id id) step before),
        )

pub law_issued_at_most_once_a_call : {D : Type 0} (old : AbstractState) (event : CallRecord D) (id : RequestId) → Happens old event → count_by (issues_id id) event.steps ≤ 1
law_issued_at_most_once_a_call old event id h = (issued_once id event.steps h.issue_is_last_of_request).1

-- What a call that was answered may have done to ports and book. `was`: a reset was stuck before it, and is so still.
data Kind {D : Type 0} (ask : AbstractCall D) (said : AbstractCallResult) (old : AbstractState) (evidence : Evidence) (steps : List Step) (new : AbstractState) (was : Type 0) : Type 0 where
  Leaves : is_tick ask ≡ false → is_reset ask ≡ false → SamePorts old.ports new.ports → (was → LastServiceOrResetIsStuckResetAfter ask said was) → Kind ask said old evidence steps new was
  Serves : is_tick ask ≡ false → is_reset ask ≡ false → ((port : Port) → EmptyUnlessReady new port × MayBecomeInService old.ports evidence new.ports port) → Kind ask said old evidence steps new was
  Ticks : is_reset ask ≡ false → AgesReadyPortsFirstAndOnce old.ports steps → RestartsTimedOut old evidence steps new → ((port : Port) → old.ports.state port ≡ Ready → EmptyUnlessReady new port)
      → (was → LastServiceOrResetIsStuckResetAfter ask said was) → Kind ask said old evidence steps new was
  Resets : is_tick ask ≡ false → ReleasesOnceBeforeServerSteps steps → ((port : Port) → EmptyUnlessReady new port × MayBecome old.ports evidence new.ports port) → Kind ask said old evidence steps new was
  Sticks : is_tick ask ≡ false → ((port : Port) → IsDeadAfterStuckResetIfServed old.ports evidence new.ports port) → LastServiceOrResetIsStuckResetAfter ask said was → Kind ask said old evidence steps new was

kind : {D : Type 0} (ask : AbstractCall D) (said : AbstractCallResult) (old : AbstractState) (evidence : Evidence) (steps : List Step) (new : AbstractState) (was : Type 0) → ResultMatchesSteps ask said old evidence steps new → Kind ask said old evidence steps new was
kind (Submit r) (Submitted (Ok id)) old evidence steps new was a = Leaves refl refl a.2 (λ w. w)
kind (Submit r) (Submitted (Err refusal)) old evidence steps new was a = Leaves refl refl a.2 (λ w. w)
kind (StoreAt c f o b) (Stored None) old evidence steps new was a = Leaves refl refl a.0 (λ w. w)
kind (StoreAt c f o b) (Stored (Some fault)) old evidence steps new was a = Leaves refl refl a.0 (λ w. w)
kind (LoadAt c f o n) (Loaded (Ok bytes)) old evidence steps new was a = Leaves refl refl a.0 (λ w. w)
kind (LoadAt c f o n) (Loaded (Err fault)) old evidence steps new was a = Leaves refl refl a.0 (λ w. w)
kind (State port) (PortStateShown state) old evidence steps new was a = Leaves refl refl a.2 (λ w. w)
kind (StepDevice d) (Stepped true) old evidence steps new was a = Leaves refl refl a.1 (λ w. w)
kind (StepDevice d) (Stepped false) old evidence steps new was a = Leaves refl refl a.1 (λ w. w)
kind Service (Replied replies) old evidence steps new was a = Serves refl refl (λ port. (a.empty_unless_ready port, a.port_is_serviced port))
kind Tick (Replied replies) old evidence steps new was a = Ticks refl a.ages_once a.restarts_timed_out a.was_ready_empty_unless_ready (λ w. w)
kind Reset (WasReset (Some replies)) old evidence steps new was a = Resets refl a.releases_once (λ port. (a.empty_unless_ready port, a.port_may_become port))
kind Reset (WasReset None) old evidence steps new was a = Sticks refl a.1 tt
kind (RevokeOf c n) (WasRevoked (Some replies)) old evidence steps new was a = Leaves refl refl a.ports_are_same (λ w. w)
kind (RevokeOf c n) (WasRevoked None) old evidence steps new was a = Leaves refl refl a.2 (λ w. w)
kind ask said old evidence steps new was a = absurd a

-- Ports.

abbrev pub is_ready : PortState → Bool
is_ready Ready = true
is_ready _ = false

abbrev is_dead : PortState → Bool
is_dead Dead = true
is_dead _ = false

-- whether a port is ready
ready_or : (s : PortState) → (s ≡ Ready) ⊎ (s ≢ Ready)
ready_or Ready = inl refl
ready_or _ = inr (λ e. false≢true (ap is_ready e))

pub run_fit : {D : Type 0} (first : AbstractState) (run : List (CallRecord D)) → IsRun first run → PortsWellFormed (abstract_after_all first run).ports
run_fit first [] r = r.1
run_fit first (event ∷ past) r = r.1.ports_are_well_formed

-- The port and the sectors of a request that a call accepts. Such a call leaves the ports alone.
record IsWelcome (old : AbstractState) (new : Ports) (r : Accepted) : Type 0 where
  ready : old.ports.state r.port ≡ Ready
  within : r.asked.op ≢ Flush → r.asked.first.0 + r.asked.count ≤ old.ports.sectors r.port
  same : SamePorts old.ports new

welcome : (old : AbstractState) (new : Ports) (q : Request) (n : Machine) (r : Accepted) → ((row : GrantRow) → Contains n.rows row → Contains old.machine.rows row) → r.asked ≡ q → MayAccept n r → IsAcceptable (admission_context_of old) q → SamePorts old.ports new
    → IsWelcome old new r
welcome old new q n r rows asked fresh ok same = record {
  ready = ⊎_elim (λ y. y) (λ ne. absurd (ok (refused.PortNotReady (old.ports.state r.port)) (ne, (g.row, named, ap old.ports.state (sym g.row_port_is))))) (ready_or (old.ports.state r.port));
  within = λ op. ⊎_elim
      (λ (lt : old.ports.sectors r.port < r.asked.first.0 + r.asked.count). absurd (ok refused.OutsideDisk (
        subst (λ (x : Request). x.op ≢ Flush) asked op,
        (
          g.row,
          named,
          subst (λ (x : Request). old.ports.sectors g.row.port < x.first.0 + x.count) asked (subst (λ (p : Port). old.ports.sectors p < r.asked.first.0 + r.asked.count) g.row_port_is lt),
        ),
      )))
      (λ le. le)
      (cases_lt (old.ports.sectors r.port) (r.asked.first.0 + r.asked.count));
  same = same;
}
  where
    g : IsGranted n.rows r
    g = law_accepted_is_granted n r fresh

    named : IsNamed old.machine.rows q g.row
    named = subst (λ (x : Request). IsNamed old.machine.rows x g.row) asked (rows g.row g.is_named.0, g.is_named.1)

welcomed : {D : Type 0} (ask : AbstractCall D) (said : AbstractCallResult) (old : AbstractState) (evidence : Evidence) (steps : List Step) (ports : Ports) (r : Accepted)
    → ResultMatchesSteps ask said old evidence steps (record { machine = after old.machine steps; ports = ports }) → AllEnabled old.machine steps → AreStepsOfCall ask ports steps → Contains (accepts_of steps) r → IsWelcome old ports r
welcomed {D} (Submit q) (Submitted (Ok id)) old evidence steps ports r a may b h =
    let x = accepted_new old.machine steps r may h in
    welcome old ports q x.0 r x.1 (accepted_asked D q ports steps r b h) x.2 a.0 a.2
welcomed (Submit q) (Submitted (Err refusal)) old evidence steps ports r a may b h = absurd (contains_none r (subst (λ (xs : List Step). Contains (accepts_of xs) r) a.1 h))
welcomed (Submit q) said old evidence steps ports r a may b h = absurd a
welcomed ask said old evidence steps ports r a may b h = absurd (contains_none r (subst (λ (xs : List Accepted). Contains xs r) (none_accepted ask steps refl (all_fit ask ports steps b)) h))

-- a request that the event accepts
welcomes : {D : Type 0} (old : AbstractState) (event : CallRecord D) → Happens old event → (r : Accepted) → Contains (accepts_of event.steps) r → IsWelcome old event.ports r
welcomes old event h r i = welcomed event.call event.result old event.evidence event.steps event.ports r h.result_matches_steps h.steps_are_enabled h.steps_are_of_call i

-- An unanswered request is on a ready port, or on one that is dead since a reset that was stuck.

abbrev IsPlaced : Ports → Port → Type 0 → Type 0
IsPlaced ports port was = (ports.state port ≡ Ready) ⊎ ((ports.state port ≡ Dead) × was)

emptied_ready : (m : AbstractState) (e : Pending) → Contains m.machine.book e → EmptyUnlessReady m e.request.port → m.ports.state e.request.port ≡ Ready
emptied_ready m e h empty = ⊎_elim (λ y. y) (λ ne. absurd (empty ne e h refl)) (ready_or (m.ports.state e.request.port))

-- a ready or dead port is served
placed_served : (ports : Ports) (port : Port) (was : Type 0) → PortsWellFormed ports → IsPlaced ports port was → ports.served port ≡ true
placed_served ports port was fit placed = true_from_ne_false _ (λ f. ⊎_elim
    (λ ready. false≢true (ap is_ready (sym (fit.unserved_are_absent port f)) ∙ ap is_ready ready))
    (λ (dead : (ports.state port ≡ Dead) × was). false≢true (ap is_dead (sym (fit.unserved_are_absent port f)) ∙ ap is_dead dead.0)) placed)

placed_event : {D : Type 0} (ask : AbstractCall D) (said : AbstractCallResult) (old : AbstractState) (evidence : Evidence) (steps : List Step) (new : AbstractState) (was : Type 0) (e : Pending) → PortsWellFormed old.ports
    → Contains new.machine.book e → IsPlaced old.ports e.request.port was → Kind ask said old evidence steps new was → IsPlaced new.ports e.request.port (LastServiceOrResetIsStuckResetAfter ask said was)
placed_event ask said old evidence steps new was e fit here placed (Leaves t r same keep) = ⊎_elim
    (λ ready. inl ((same e.request.port).1 ∙ ready)) (λ dead. inr ((same e.request.port).1 ∙ dead.0, keep dead.1)) placed
placed_event ask said old evidence steps new was e fit here placed (Serves t r ports) = inl (emptied_ready new e here (ports e.request.port).0)
placed_event ask said old evidence steps new was e fit here placed (Ticks r ages hung empty keep) = ⊎_elim
    (λ ready. inl (emptied_ready new e here (empty e.request.port ready)))
    (λ dead. ⊎_elim
    (λ same. inr (same.1.1 ∙ dead.0, keep dead.1))
    (λ h. absurd (false≢true (ap is_ready (sym dead.0) ∙ ap is_ready h.0.ready)))
    (hung.each_port_is_same_or_restarts e.request.port))
    placed
placed_event ask said old evidence steps new was e fit here placed (Resets t releases ports) = inl (emptied_ready new e here (ports e.request.port).0)
placed_event ask said old evidence steps new was e fit here placed (Sticks t ports keep) = inr (((ports e.request.port).1 (placed_served old.ports e.request.port was fit placed)).0, keep)

pub law_port_of_unanswered_is_ready_or_reset_stuck : {D : Type 0} (first : AbstractState) (run : List (CallRecord D)) (e : Pending) → IsRun first run → Contains (abstract_after_all first run).machine.book e
    → ((abstract_after_all first run).ports.state e.request.port ≡ Ready) ⊎ (((abstract_after_all first run).ports.state e.request.port ≡ Dead) × LastServiceOrResetIsStuckReset run)
law_port_of_unanswered_is_ready_or_reset_stuck first [] e r h = absurd (nobody first.machine r.0 e (inl h))
law_port_of_unanswered_is_ready_or_reset_stuck first (event ∷ past) e r h = ⊎_elim
    (λ (s : Since (abstract_after_all first past).machine event.steps e). placed_event event.call event.result (abstract_after_all first past) event.evidence event.steps (abstract_after_all first (event ∷ past)) (LastServiceOrResetIsStuckReset past) e
    (run_fit first past r.0) h
    (subst (λ (x : Accepted). IsPlaced (abstract_after_all first past).ports x.port (LastServiceOrResetIsStuckReset past)) s.same (law_port_of_unanswered_is_ready_or_reset_stuck first past s.old r.0 s.here))
    (kind event.call event.result (abstract_after_all first past) event.evidence event.steps (abstract_after_all first (event ∷ past)) (LastServiceOrResetIsStuckReset past) r.1.result_matches_steps))
    (λ (a : IsAccepted event.steps e). let w = welcomes (abstract_after_all first past) event r.1 e.request a.0 in inl ((w.same e.request.port).1 ∙ w.ready))
    (since (abstract_after_all first past).machine event.steps e h)

-- Its sectors are sectors of the disk that the port showed.

pub law_unanswered_sectors_are_on_disk : {D : Type 0} (first : AbstractState) (run : List (CallRecord D)) (e : Pending) → IsRun first run → Contains (abstract_after_all first run).machine.book e → e.request.asked.op ≢ Flush
    → e.request.asked.first.0 + e.request.asked.count ≤ (abstract_after_all first run).ports.sectors e.request.port
law_unanswered_sectors_are_on_disk first [] e r h op = absurd (nobody first.machine r.0 e (inl h))
law_unanswered_sectors_are_on_disk first (event ∷ past) e r h op = ⊎_elim
    (λ (s : Since (abstract_after_all first past).machine event.steps e).
    let le = subst (λ (x : Accepted). x.asked.first.0 + x.asked.count ≤ (abstract_after_all first past).ports.sectors x.port) s.same
    (law_unanswered_sectors_are_on_disk first past s.old r.0 s.here (subst (λ (x : Accepted). x.asked.op ≢ Flush) (sym s.same) op)) in
    let same = (r.1.unanswered_keep_serial_and_size e s.old h s.here (ap (λ (x : Accepted). x.id) s.same)).1 in
    omega (arith, le, same))
    (λ (a : IsAccepted event.steps e).
    let w = welcomes (abstract_after_all first past) event r.1 e.request a.0 in
    let le = w.within op in
    let same = (w.same e.request.port).3 in
    omega (arith, le, same))
    (since (abstract_after_all first past).machine event.steps e h)

-- The age of an issued request is two at most.

-- a tick ages a port once, where it is ready
aged_once : (ports : Ports) (steps : List Step) (port : Port) → AgesReadyPortsFirstAndOnce ports steps → (count_by (ages_it port) steps ≤ 1) × (ports.state port ≢ Ready → count_by (ages_it port) steps ≡ 0)
aged_once ports steps port a =
    let split : count_by (ages_it port) steps ≡ count_by (ages_it port) a.later + count_by (ages_it port) (Age a.ready_ports ∷ []) =
    ap (λ (xs : List Step). count_by (ages_it port) xs) a.age_is_first ∙ count_append (ages_it port) a.later (Age a.ready_ports ∷ []) in
    let last = count_cons (ages_it port) (Age a.ready_ports) [] in
    let fewer = count_least (ages_it port) is_age a.later (λ y _. aging y) in
    let none = a.no_other_age in (
      (let one = at_most (a.ready_ports port) in omega (arith, split, last, fewer, none, one)),
      (λ ne. let zero : ◌≡◌ {A = ℕ} (cond (a.ready_ports port) 1 0) 0 = ap (λ (b : Bool). cond {A = ℕ} b 1 0) (false_from_ne_true _ (λ t. ne ((a.is_ready port).0 t))) in
          omega (arith, split, last, fewer, none, zero)),
    )
  where
    aging : (y : Step) → ages_it port y ≡ true → is_age y ≡ true
    aging (Age ready) t = refl
    aging _ t = absurd (false≢true t)

    at_most : (b : Bool) → cond {A = ℕ} b 1 0 ≤ 1
    at_most true = omega arith
    at_most false = omega arith

-- where a call ages nothing, or ages and restarts, ages stay two at most
young : {D : Type 0} (ask : AbstractCall D) (said : AbstractCallResult) (old : AbstractState) (evidence : Evidence) (steps : List Step) (new : AbstractState) (e : Pending) → AllFit ask steps → Kind ask said old evidence steps new (Unit {0})
    → Contains new.machine.book e → e.issued ≡ true → ((o : Pending) → Contains old.machine.book o → o.issued ≡ true → o.age ≤ 2)
    → Since old.machine steps e ⊎ IsAccepted steps e → e.age ≤ 2
young {D} ask said old evidence steps new e fit k here t all from = by k
  where
    -- as it is where the port isn't aged
    unaged : count_by (ages_it e.request.port) steps ≡ 0 → e.age ≤ 2
    unaged none = ⊎_elim
        (λ (s : Since old.machine steps e). ⊎_elim
        (λ anew. let le = anew.1 in omega (arith, le, none))
        (λ kept. let le = kept.2 in let was = all s.old s.here kept.1 in omega (arith, le, was, none))
        (s.issued t))
        (λ (a : IsAccepted steps e). let le = (a.1 t).1 in omega (arith, le, none))
        from

    quiet : is_tick ask ≡ false → e.age ≤ 2
    quiet still = unaged (none_aged ask e.request.port steps still fit)

    -- and where it is, and a request that keeps its issue isn't old enough to be hung
    aged : AgesReadyPortsFirstAndOnce old.ports steps → RestartsTimedOut old evidence steps new → old.ports.state e.request.port ≡ Ready → e.age ≤ 2
    aged ages hung ready =
        let once = (aged_once old.ports steps e.request.port ages).0 in
        ⊎_elim
        (λ (s : Since old.machine steps e). ⊎_elim
        (λ anew. let le = anew.1 in omega (arith, le, once))
        (λ kept. ⊎_elim
        (λ (less : s.old.age < 2). let le = kept.2 in omega (arith, le, once, less))
        (λ (more : 2 ≤ s.old.age). absurd (false≢true (sym kept.0 ∙ hung.issued_are_issued_in_steps e.request.port
        (record { ready = ready; pending = s.old; is_in_book = s.here; port_is = ap (λ (x : Accepted). x.port) s.same; issued = kept.1; old_enough = more }) e here refl t)))
        (cases_lt s.old.age 2))
        (s.issued t))
        (λ (a : IsAccepted steps e). let le = (a.1 t).1 in omega (arith, le, once))
        from

    by : Kind ask said old evidence steps new (Unit {0}) → e.age ≤ 2
    by (Leaves still r same keep) = quiet still
    by (Serves still r ports) = quiet still
    by (Ticks r ages hung empty keep) = ⊎_elim (aged ages hung)
        (λ ne. unaged ((aged_once old.ports steps e.request.port ages).1 ne)) (ready_or (old.ports.state e.request.port))
    by (Resets still releases ports) = quiet still
    by (Sticks still ports keep) = quiet still

pub law_issued_ages_are_at_most_two : {D : Type 0} (first : AbstractState) (run : List (CallRecord D)) (e : Pending) → IsRun first run → Contains (abstract_after_all first run).machine.book e → e.issued ≡ true → e.age ≤ 2
law_issued_ages_are_at_most_two first [] e r h t = absurd (nobody first.machine r.0 e (inl h))
law_issued_ages_are_at_most_two first (event ∷ past) e r h t = young event.call event.result (abstract_after_all first past) event.evidence event.steps (abstract_after_all first (event ∷ past)) e
    (all_fit event.call event.ports event.steps r.1.steps_are_of_call)
    (kind event.call event.result (abstract_after_all first past) event.evidence event.steps (abstract_after_all first (event ∷ past)) (Unit {0}) r.1.result_matches_steps)
    h t (λ o i u. law_issued_ages_are_at_most_two first past o r.0 i u) (since (abstract_after_all first past).machine event.steps e h)

-- A kept request is on a dead port.

-- where a kept request comes from: it was kept before, and nothing was released, or it was answered PortDead
moved_kept : (ports : Ports) (m : Machine) (step : Step) (before : List Step) (e x : Pending) → e.request ≡ x.request → is_release step ≡ false
    → ((o : Pending) × Contains m.kept o × (o.request ≡ x.request) × (count_by is_release before ≡ 0)) ⊎ (ports.state x.request.port ≡ Dead)
    → ((o : Pending) × Contains m.kept o × (o.request ≡ e.request) × (count_by is_release (step ∷ before) ≡ 0)) ⊎ (ports.state e.request.port ≡ Dead)
moved_kept ports m step before e x same quiet (inl o) =
    let none = o.3 in
    let zero : ◌≡◌ {A = ℕ} (cond (is_release step) 1 0) 0 = ap (λ (b : Bool). cond {A = ℕ} b 1 0) quiet in
    inl (o.0, o.1, o.2 ∙ sym same, omega (arith, none, zero, count_cons is_release step before))
moved_kept ports m step before e x same quiet (inr dead) = inr (ap (λ (r : Accepted). ports.state r.port) same ∙ dead)

kept_from : (old : AbstractState) (evidence : Evidence) (ports : Ports) (m : Machine) (steps : List Step) → AnswersLawfulAndWaitsOnStoppedPorts old evidence ports steps → (e : Pending) → Contains (after m steps).kept e
    → ((o : Pending) × Contains m.kept o × (o.request ≡ e.request) × (count_by is_release steps ≡ 0)) ⊎ (ports.state e.request.port ≡ Dead)
kept_from old evidence ports m [] l e h = inl (e, h, refl, refl)
kept_from old evidence ports m (Touch p i block ∷ before) l e h =
    let r = map_in _ (after m before).kept e h in
    moved_kept ports m (Touch p i block) before e r.0 (ap (λ (x : Pending). x.request) r.2 ∙ at_keeps p.request.id (touch i) (λ x. refl) r.0) refl (kept_from old evidence ports m before l r.0 r.1)
kept_from old evidence ports m (End p ∷ before) l e h =
    let r = map_in _ (after m before).kept e h in
    moved_kept ports m (End p) before e r.0 (ap (λ (x : Pending). x.request) r.2 ∙ at_keeps p.request.id mark_ended (λ x. refl) r.0) refl (kept_from old evidence ports m before l r.0 r.1)
kept_from old evidence ports m (Release ∷ before) l e h = absurd (contains_none e h)
kept_from old evidence ports m (Answer p outcome.Ok ∷ before) l e h = moved_kept ports m (Answer p outcome.Ok) before e e refl refl (kept_from old evidence ports m before l.0 e h)
kept_from old evidence ports m (Answer p (outcome.DeviceError status error) ∷ before) l e h =
    moved_kept ports m (Answer p (outcome.DeviceError status error)) before e e refl refl (kept_from old evidence ports m before l.0 e h)
kept_from old evidence ports m (Answer p outcome.Revoked ∷ before) l e h = moved_kept ports m (Answer p outcome.Revoked) before e e refl refl (kept_from old evidence ports m before l.0 e h)
kept_from old evidence ports m (Answer p outcome.Aborted ∷ before) l e h = moved_kept ports m (Answer p outcome.Aborted) before e e refl refl (kept_from old evidence ports m before l.0 e h)
kept_from old evidence ports m (Answer p outcome.Unplugged ∷ before) l e h = moved_kept ports m (Answer p outcome.Unplugged) before e e refl refl (kept_from old evidence ports m before l.0 e h)
kept_from old evidence ports m (Answer p outcome.PortDead ∷ before) l e h = go p.issued h (kept_from old evidence ports m before l.0 e)
  where
    go : (b : Bool) → Contains (cond b (p ∷ (after m before).kept) (after m before).kept) e
        → (Contains (after m before).kept e → ((o : Pending) × Contains m.kept o × (o.request ≡ e.request) × (count_by is_release before ≡ 0)) ⊎ (ports.state e.request.port ≡ Dead))
        → ((o : Pending) × Contains m.kept o × (o.request ≡ e.request) × (count_by is_release (Answer p outcome.PortDead ∷ before) ≡ 0)) ⊎ (ports.state e.request.port ≡ Dead)
    go true h rest = ⊎_elim
        (λ same. inr (subst (λ (x : Pending). ports.state x.request.port ≡ Dead) (sym same) l.1))
        (λ i. moved_kept ports m (Answer p outcome.PortDead) before e e refl refl (rest i))
        (contains_cases p (after m before).kept e h)
    go false h rest = moved_kept ports m (Answer p outcome.PortDead) before e e refl refl (rest h)
kept_from old evidence ports m (WaitAgain p ∷ before) l e h = moved_kept ports m (WaitAgain p) before e e refl refl (kept_from old evidence ports m before l.0 e h)
kept_from old evidence ports m (step ∷ before) l e h = moved_kept ports m step before e e refl refl (kept_from old evidence ports m before l e h)

kept_event : {D : Type 0} (ask : AbstractCall D) (said : AbstractCallResult) (old : AbstractState) (evidence : Evidence) (steps : List Step) (new : AbstractState) (port : Port) → PortsWellFormed old.ports
    → count_by is_release steps ≡ 0 → old.ports.state port ≡ Dead → Kind ask said old evidence steps new (Unit {0}) → new.ports.state port ≡ Dead
kept_event ask said old evidence steps new port fit none dead (Leaves t r same keep) = (same port).1 ∙ dead
kept_event ask said old evidence steps new port fit none dead (Serves t r ports) = ((ports port).1.0 dead).1 ∙ dead
kept_event ask said old evidence steps new port fit none dead (Ticks r ages hung empty keep) = ⊎_elim
    (λ same. same.1.1 ∙ dead)
    (λ h. absurd (false≢true (ap is_ready (sym dead) ∙ ap is_ready h.0.ready)))
    (hung.each_port_is_same_or_restarts port)
kept_event ask said old evidence steps new port fit none dead (Resets t releases ports) =
    let split : count_by is_release steps ≡ count_by is_release releases.later + count_by is_release (Release ∷ releases.earlier) =
    ap (λ (xs : List Step). count_by is_release xs) releases.release_splits_steps ∙ count_append is_release releases.later (Release ∷ releases.earlier) in
    let one = count_cons is_release Release releases.earlier in
    absurd (omega (arith, split, one, none))
kept_event ask said old evidence steps new port fit none dead (Sticks t ports keep) = ((ports port).1 (placed_served old.ports port (Unit {0}) fit (inr (dead, tt)))).0

pub law_kept_only_where_dead : {D : Type 0} (first : AbstractState) (run : List (CallRecord D)) (e : Pending) → IsRun first run → Contains (abstract_after_all first run).machine.kept e → (abstract_after_all first run).ports.state e.request.port ≡ Dead
law_kept_only_where_dead first [] e r h = absurd (nobody first.machine r.0 e (inr h))
law_kept_only_where_dead first (event ∷ past) e r h = ⊎_elim
    (λ o. kept_event event.call event.result (abstract_after_all first past) event.evidence event.steps (abstract_after_all first (event ∷ past)) e.request.port
    (run_fit first past r.0) o.3
    (subst (λ (x : Accepted). (abstract_after_all first past).ports.state x.port ≡ Dead) o.2 (law_kept_only_where_dead first past o.0 r.0 o.1))
    (kind event.call event.result (abstract_after_all first past) event.evidence event.steps (abstract_after_all first (event ∷ past)) (Unit {0}) r.1.result_matches_steps))
    (λ dead. dead)
    (kept_from (abstract_after_all first past) event.evidence event.ports (abstract_after_all first past).machine event.steps r.1.answers_are_lawful e h)

-- A port that is dead after a call was dead when it began, or got stuck in it.

dead_or : (s : PortState) → (s ≡ Dead) ⊎ (s ≢ Dead)
dead_or Dead = inl refl
dead_or _ = inr (λ e. false≢true (ap is_dead e))

was_dead : {D : Type 0} (ask : AbstractCall D) (said : AbstractCallResult) (old : AbstractState) (evidence : Evidence) (steps : List Step) (new : AbstractState) (port : Port) → PortsWellFormed new.ports → new.ports.state port ≡ Dead
    → Kind ask said old evidence steps new (Unit {0}) → (old.ports.state port ≡ Dead) ⊎ Contains evidence.stuck port
was_dead ask said old evidence steps new port fit dead (Leaves t r same keep) = inl (sym (same port).1 ∙ dead)
was_dead ask said old evidence steps new port fit dead (Serves t r ports) = ⊎_elim (λ was. inl was) (λ alive. inr (((ports port).1.1 alive).0.dead_exactly_if_stuck.0 dead)) (dead_or (old.ports.state port))
was_dead ask said old evidence steps new port fit dead (Ticks r ages hung empty keep) = ⊎_elim (λ same. inl (sym same.1.1 ∙ dead)) (λ h. inr (h.1.dead_exactly_if_stuck.0 dead)) (hung.each_port_is_same_or_restarts port)
was_dead ask said old evidence steps new port fit dead (Resets t releases ports) = inr ((ports port).1.dead_exactly_if_stuck.0 dead)
was_dead ask said old evidence steps new port fit dead (Sticks t ports keep) =
    inr (((ports port).1 (sym (ports port).0 ∙ placed_served new.ports port (Unit {0}) fit (inr (dead, tt)))).1)

pub law_ports_die_only_when_stuck : {D : Type 0} (old : AbstractState) (event : CallRecord D) (port : Port) → Happens old event → event.ports.state port ≡ Dead
    → (old.ports.state port ≡ Dead) ⊎ Contains event.evidence.stuck port
law_ports_die_only_when_stuck old event port h dead =
    was_dead event.call event.result old event.evidence event.steps (abstract_after old event) port h.ports_are_well_formed dead
    (kind event.call event.result old event.evidence event.steps (abstract_after old event) (Unit {0}) h.result_matches_steps)
