-- At each moment of a run no request of a ready port is due: what comes between two calls that issue changes nothing of it. So the only unanswered request is issued.
use Rattle.std.proofs.Common.{◌≡◌, ℕ, ◌==◌, Bool, true, false, not, cond, ◌&&◌, ◌||◌, List, [], ◌∷◌, map, Some, None, Ok, Err, ⊎_elim, refl, sym, ap, ◌∙◌, subst, arith}
use Rattle.std.specs.Prelude.{nat_lt, if◌then◌else◌}
use Rattle.std.specs.List.{Contains, count_by, list_any}
use Rattle.std.proofs.lemmas.Bool.{cases_Bool, false≢true, le-ltb, or_from, true_from_ne_false}
use Rattle.ata_types.specs.declared.Port.{Port}
use Rattle.ata_types.specs.declared.PortState.TheVariants.{Ready}
use Rattle.ata_types.specs.declared.request.RequestId.{RequestId}
use Rattle.block_machine.specs.declared.due.QueueMode.{QueueMode}
use Rattle.block_machine.specs.declared.due.Unanswered.{Unanswered}
use Rattle.block_machine.specs.DueRequests.{NoneDue, unblocked_ahead_count, waits_for, is_waiting_and_unblocked, is_earlier_on_port, is_plain, issued_count}
use Rattle.block_machine.specs.Ports.{Ports, Evidence, PortsWellFormed, SamePorts, IsDeadAfterStuckResetIfServed}
use Rattle.block_machine.specs.State.{Pending, Machine, unanswered}
use Rattle.block_machine.specs.Steps.{Step, Accept, Issue, Touch, End, Age, WaitAgain, Answer, Store, Load, after_step, update_pending, touch, mark_ended}
use Rattle.block_machine.specs.Expected.{after}
use Rattle.block_machine.specs.Events.{AbstractState, AbstractCall, Submit, StoreAt, LoadAt, Service, Tick, Reset, RevokeOf, State, StepDevice, AbstractCallResult, Submitted, Stored, Loaded, Replied, WasReset, WasRevoked, PortStateShown, Stepped, CallRecord, NoneDueWhereReady, ResultMatchesSteps, IsByDevice, IsByServer, AreStepsOfCall, IsRun, abstract_after_all}
use Rattle.block_machine.proofs.Members.{contains_none, contains_here, contains_there, at_cases, map_in, into_map}
use Rattle.machine_runs.proofs.RunLaws.{is_ready, run_fit}
use Rattle.machine_runs.proofs.Issuing.{counted_more, one_of_run}

same_due : (id : RequestId) (f : Pending → Pending) → ((e : Pending) → unanswered (f e) ≡ unanswered e) → (es : List Pending) → map unanswered (map (update_pending id f) es) ≡ map unanswered es
same_due id f same [] = refl
same_due id f same (x ∷ xs) =
    ap (λ (u : Unanswered). u ∷ map unanswered (map (update_pending id f) xs)) (⊎_elim (λ c. ap unanswered c.1 ∙ same x) (λ c. ap unanswered c.1) (at_cases id f x))
    ∙ ap (λ (us : List Unanswered). unanswered x ∷ us) (same_due id f same xs)

-- the step changes nothing of what is due
abbrev IsIdle : Step → Type 0
IsIdle (Accept r) = ⊥
IsIdle (Issue mode e) = ⊥
IsIdle (Age ready) = ⊥
IsIdle (WaitAgain e) = ⊥
IsIdle (Answer e o) = ⊥
IsIdle _ = Unit {0}

idle_due : (m : Machine) (step : Step) → IsIdle step → map unanswered (after_step m step).book ≡ map unanswered m.book
idle_due m (Touch p i block) h = same_due p.request.id (touch i) (λ e. refl) m.book
idle_due m (End p) h = same_due p.request.id mark_ended (λ e. refl) m.book
idle_due m (Accept r) h = absurd h
idle_due m (Issue mode e) h = absurd h
idle_due m (Age ready) h = absurd h
idle_due m (WaitAgain e) h = absurd h
idle_due m (Answer e o) h = absurd h
idle_due m _ h = refl

devices_idle : (step : Step) → IsByDevice step → IsIdle step
devices_idle (Accept r) h = absurd h
devices_idle (Issue mode e) h = absurd h
devices_idle (Age ready) h = absurd h
devices_idle (WaitAgain e) h = absurd h
devices_idle (Answer e o) h = absurd h
devices_idle _ h = tt

-- a call that neither issues nor answers
abbrev is_idle : {D : Type 0} → AbstractCall D → Bool
is_idle (StoreAt c f o b) = true
is_idle (LoadAt c f o n) = true
is_idle (State p) = true
is_idle (StepDevice d) = true
is_idle _ = false

servers_idle : {D : Type 0} (ask : AbstractCall D) (ports : Ports) (step : Step) → is_idle ask ≡ true → IsByServer ask ports step → IsIdle step
servers_idle (StoreAt c f o b) ports (Store _ _ _ _) t h = tt
servers_idle (StoreAt c f o b) ports _ t h = absurd h
servers_idle (LoadAt c f o n) ports (Load _ _ _ _) t h = tt
servers_idle (LoadAt c f o n) ports _ t h = absurd h
servers_idle (State p) ports _ t h = absurd h
servers_idle (StepDevice d) ports _ t h = absurd h
servers_idle ask ports _ t h = absurd (false≢true t)

idle_steps : {D : Type 0} (ask : AbstractCall D) (ports : Ports) (m : Machine) (steps : List Step) → is_idle ask ≡ true → AreStepsOfCall ask ports steps → map unanswered (after m steps).book ≡ map unanswered m.book
idle_steps ask ports m [] t b = refl
idle_steps ask ports m (step ∷ before) t b =
    idle_due (after m before) step (⊎_elim (devices_idle step) (servers_idle ask ports step t) b.1) ∙ idle_steps ask ports m before t b.0

-- with the same ports and the same requests, none is due
issued_still : (old new : AbstractState) → map unanswered new.machine.book ≡ map unanswered old.machine.book → SamePorts old.ports new.ports → NoneDueWhereReady old → NoneDueWhereReady new
issued_still old new book same all port ready =
    subst (λ (mode : QueueMode). NoneDue mode (map unanswered new.machine.book) port) (sym (same port).5)
    (subst (λ (us : List Unanswered). NoneDue (old.ports.mode port) us port) (sym book) (all port (sym (same port).1 ∙ ready)))

-- and where each served port is dead, none is ready
issued_stuck : (old new : AbstractState) (evidence : Evidence) → PortsWellFormed new.ports → ((port : Port) → IsDeadAfterStuckResetIfServed old.ports evidence new.ports port) → NoneDueWhereReady new
issued_stuck old new evidence fit stuck port ready = absurd (⊎_elim
    (λ served. false≢true (ap is_ready (sym ((stuck port).1 served).0) ∙ ap is_ready ready))
    (λ other. false≢true (ap is_ready (sym (fit.unserved_are_absent port ((stuck port).0 ∙ other))) ∙ ap is_ready ready))
    (cases_Bool (old.ports.served port)))

-- what these steps leave, with these ports
abbrev left : AbstractState → List Step → Ports → AbstractState
left old steps ports = record { machine = after old.machine steps; ports = ports }

issued_event : {D : Type 0} (ask : AbstractCall D) (said : AbstractCallResult) (old : AbstractState) (evidence : Evidence) (steps : List Step) (ports : Ports)
    → ResultMatchesSteps ask said old evidence steps (left old steps ports) → AreStepsOfCall ask ports steps → PortsWellFormed ports → NoneDueWhereReady old → NoneDueWhereReady (left old steps ports)
issued_event (Submit r) (Submitted (Ok id)) old evidence steps ports a b fit all = a.3
issued_event (Submit r) (Submitted (Err refusal)) old evidence steps ports a b fit all =
    issued_still old (left old steps ports) (ap (λ (xs : List Step). map unanswered (after old.machine xs).book) a.1) a.2 all
issued_event {D} (StoreAt c f o x) (Stored None) old evidence steps ports a b fit all = issued_still old (left old steps ports) (idle_steps {D = D} (StoreAt c f o x) ports old.machine steps refl b) a.0 all
issued_event {D} (StoreAt c f o x) (Stored (Some fault)) old evidence steps ports a b fit all = issued_still old (left old steps ports) (idle_steps {D = D} (StoreAt c f o x) ports old.machine steps refl b) a.0 all
issued_event {D} (LoadAt c f o n) (Loaded (Ok bytes)) old evidence steps ports a b fit all = issued_still old (left old steps ports) (idle_steps {D = D} (LoadAt c f o n) ports old.machine steps refl b) a.0 all
issued_event {D} (LoadAt c f o n) (Loaded (Err fault)) old evidence steps ports a b fit all = issued_still old (left old steps ports) (idle_steps {D = D} (LoadAt c f o n) ports old.machine steps refl b) a.0 all
issued_event {D} (State p) (PortStateShown state) old evidence steps ports a b fit all = issued_still old (left old steps ports) (idle_steps {D = D} (State p) ports old.machine steps refl b) a.2 all
issued_event {D} (StepDevice d) (Stepped true) old evidence steps ports a b fit all = issued_still old (left old steps ports) (idle_steps {D = D} (StepDevice d) ports old.machine steps refl b) a.1 all
issued_event {D} (StepDevice d) (Stepped false) old evidence steps ports a b fit all = issued_still old (left old steps ports) (idle_steps {D = D} (StepDevice d) ports old.machine steps refl b) a.1 all
issued_event Service (Replied replies) old evidence steps ports a b fit all = a.none_is_due_where_ready
issued_event Tick (Replied replies) old evidence steps ports a b fit all = a.none_is_due_where_ready
issued_event Reset (WasReset (Some replies)) old evidence steps ports a b fit all = a.none_is_due_where_ready
issued_event Reset (WasReset None) old evidence steps ports a b fit all = issued_stuck old (left old steps ports) evidence fit a.1
issued_event (RevokeOf c n) (WasRevoked (Some replies)) old evidence steps ports a b fit all = a.none_is_due_where_ready
issued_event (RevokeOf c n) (WasRevoked None) old evidence steps ports a b fit all =
    issued_still old (left old steps ports) (ap (λ (xs : List Step). map unanswered (after old.machine xs).book) a.1) a.2 all
issued_event ask said old evidence steps ports a b fit all = absurd a

pub law_none_due_where_ready_between_calls : {D : Type 0} (first : AbstractState) (run : List (CallRecord D)) → IsRun first run → NoneDueWhereReady (abstract_after_all first run)
law_none_due_where_ready_between_calls first [] r = λ port ready x here due. contains_none x (subst (λ (es : List Pending). Contains (map unanswered es) x) r.0.book_is_empty due.is_in_book)
law_none_due_where_ready_between_calls first (event ∷ past) r = issued_event event.call event.result (abstract_after_all first past) event.evidence event.steps event.ports r.1.result_matches_steps r.1.steps_are_of_call r.1.ports_are_well_formed (law_none_due_where_ready_between_calls first past r.0)

-- The only unanswered request waits for nothing: so where its port is ready, it is issued.

none_any : (p : Unanswered → Bool) (us : List Unanswered) → ((u : Unanswered) → Contains us u → p u ≡ false) → list_any p us ≡ false
none_any p [] f = refl
none_any p (u ∷ us) f = or_from _ _ (f u (contains_here u us u refl)) (none_any p us (λ x i. f x (contains_there u us x i)))

none_counted : (p : Unanswered → Bool) (us : List Unanswered) → ((u : Unanswered) → Contains us u → p u ≡ false) → count_by p us ≡ 0
none_counted p [] f = refl
none_counted p (u ∷ us) f =
    let rest = none_counted p us (λ x i. f x (contains_there u us x i)) in
    let head : ◌≡◌ {A = ℕ} (cond (p u) 1 0) 0 = ap (λ (b : Bool). cond {A = ℕ} b 1 0) (f u (contains_here u us u refl)) in
    omega (arith, rest, head, counted_more p u us)

-- one that waits, and isn't earlier than itself, doesn't hold itself back
held_none : (port plain issued earlier other : Bool) → issued ≡ false → earlier ≡ false
    → (port && (if plain then issued || earlier else ((plain && issued) || (earlier && other)))) ≡ false
held_none port plain true earlier other i l = absurd (false≢true (sym i))
held_none port plain false true other i l = absurd (false≢true (sym l))
held_none true true false false other i l = refl
held_none true false false false other i l = refl
held_none false plain false false other i l = refl

not_earlier : (port earlier clear : Bool) → earlier ≡ false → ((port && earlier) && clear) ≡ false
not_earlier port true clear l = absurd (false≢true (sym l))
not_earlier true false clear l = refl
not_earlier false false clear l = refl

not_issued : (port issued : Bool) → issued ≡ false → (port && issued) ≡ false
not_issued port true i = absurd (false≢true (sym i))
not_issued true false i = refl
not_issued false false i = refl

clear_from : (issued held : Bool) → issued ≡ false → held ≡ false → (not issued && not held) ≡ true
clear_from true held i h = absurd (false≢true (sym i))
clear_from false true i h = absurd (false≢true (sym h))
clear_from false false i h = refl

pub lone_is_issued : {D : Type 0} (first : AbstractState) (run : List (CallRecord D)) (e : Pending) → IsRun first run → Contains (abstract_after_all first run).machine.book e
    → (abstract_after_all first run).ports.state e.request.port ≡ Ready → ((o : Pending) → Contains (abstract_after_all first run).machine.book o → o.request.id ≡ e.request.id) → e.issued ≡ true
lone_is_issued first run e r h ready alone = true_from_ne_false e.issued due
  where
    book : List Pending
    book = (abstract_after_all first run).machine.book

    mode : QueueMode
    mode = (abstract_after_all first run).ports.mode e.request.port

    -- each of the book is this one
    same : (u : Unanswered) → Contains (map unanswered book) u → u ≡ unanswered e
    same u i =
        let o = map_in unanswered book u i in
        o.2 ∙ ap unanswered (one_of_run first run o.0 e r o.1 h (ap (λ (id : RequestId). id.0) (alone o.0 o.1)))

    -- so what this one isn't, none is
    none : (p : Unanswered → Bool) → p (unanswered e) ≡ false → (u : Unanswered) → Contains (map unanswered book) u → p u ≡ false
    none p is u i = subst (λ (x : Unanswered). p x ≡ false) (sym (same u i)) is

    later : nat_lt e.request.id.0 e.request.id.0 ≡ false
    later = le-ltb e.request.id.0 e.request.id.0 (omega arith)

    due : e.issued ≡ false → ⊥
    due waits =
        let alone_there = none_any (waits_for mode (unanswered e)) (map unanswered book)
        (none (waits_for mode (unanswered e)) (held_none (e.request.port.0 == e.request.port.0) (is_plain mode e.request.asked.op) e.issued (nat_lt e.request.id.0 e.request.id.0) _ waits later)) in
        let first_there : unblocked_ahead_count mode (map unanswered book) (unanswered e) ≡ 0 = none_counted (λ other. is_earlier_on_port other (unanswered e) && is_waiting_and_unblocked mode (map unanswered book) other) (map unanswered book)
        (none _ (not_earlier (e.request.port.0 == e.request.port.0) (nat_lt e.request.id.0 e.request.id.0) _ later)) in
        let free_there : issued_count (map unanswered book) e.request.port ≡ 0 = none_counted (λ (other : Unanswered). other.port.0 == e.request.port.0 && other.issued) (map unanswered book)
        (none _ (not_issued (e.request.port.0 == e.request.port.0) e.issued waits)) in
        let usable = ((run_fit first run r).modes_are_valid e.request.port ready).0 in
        law_none_due_where_ready_between_calls first run r e.request.port ready (unanswered e) refl (record {
          is_in_book = into_map unanswered book e h;
          waits_and_nothing_blocks = clear_from e.issued (list_any (waits_for mode (unanswered e)) (map unanswered book)) waits alone_there;
          slot_is_left = λ queued. omega (arith, first_there, free_there, usable);
        })
