-- Over every run an id is accepted once at most, and answered once at most, after it was accepted: as steps, and as what calls say.
use Rattle.std.proofs.Common.{◌≡◌, ◌⊎◌, ℕ, ◌+◌, ◌≤◌, ◌==◌, Bool, true, false, cond, List, [], ◌∷◌, ◌++◌, map, None, Some, Ok, Err, inl, inr, ⊎_elim, refl, sym, ap, ◌∙◌, subst, arith, eqb-true}
use Rattle.std.proofs.lemmas.List.Sorted.{sum_by-IsPermutation, Contains-permutation}
use Rattle.std.specs.List.{Contains, count_by}
use Rattle.ata_types.specs.declared.request.RequestId.{RequestId}
use Rattle.ata_types.specs.declared.request.ClientId.{ClientId}
use Rattle.ata_types.specs.declared.request.Request.{Request}
use Rattle.ata_types.specs.declared.request.Outcome.{Outcome}
use Rattle.ata_types.specs.declared.request.Reply.{Reply}
use Rattle.block_machine.specs.Ports.{Ports, Evidence}
use Rattle.block_machine.specs.State.{Accepted, Pending, Machine}
use Rattle.block_machine.specs.Steps.{Step, Accept, Answer, IsEnabled, after_step}
use Rattle.block_machine.specs.Expected.{after, IsInitial}
use Rattle.block_machine.specs.Confinement.{WasAccepted}
use Rattle.block_machine.specs.Events.{AbstractState, AbstractCall, Submit, Service, Tick, Reset, RevokeOf, AbstractCallResult, Submitted, Replied, WasReset, WasRevoked, CallRecord, AllEnabled, AreStepsOfCall, RepliesMatch, ResultMatchesSteps, IsRun, accepts_id, answers_id, accepts_of, answers_of, reply_of, replies_of, all_replies, gives_id, WasGivenId, abstract_after_all, steps_of}
use Rattle.block_machine.proofs.Members.{contains_none, contains_here, contains_there, contains_cases, map_in, without_in, append_in}
use Rattle.block_machine.proofs.Sound.{Sound}
use Rattle.block_machine.proofs.Runs.{traced, nobody}
use Rattle.block_machine.proofs.Accepts.{living_accepted}
use Rattle.block_machine.proofs.Counting.{count_cons, count_append, count_map}
use Rattle.machine_runs.specs.AnswerOrigins.{WasUnansweredBefore, WasSubmittedAndGivenId}
use Rattle.machine_runs.proofs.CallSteps.{Came, came, Since, IsAccepted, since, is_submit, none_accepted, all_fit, accepted_asked}
use Rattle.block_machine.proofs.EventLemmas.{run_starts, run_steps_are_enabled, step_of_run}

-- How often an id was accepted: not yet where it is still to come, and once at most.
record IsFresh (m : Machine) (id : RequestId) (n : ℕ) : Type 0 where
  most : n ≤ 1
  none : m.next_id ≤ id.0 → n ≡ 0

fresh_step : (m : Machine) (step : Step) (id : RequestId) (n : ℕ) → IsEnabled m step → IsFresh m id n → IsFresh (after_step m step) id (cond (accepts_id id step) 1 0 + n)
fresh_step m (Accept r) id n may f = go (r.id.0 == id.0) refl
  where
    next : r.id.0 ≡ m.next_id
    next = may.id_is_next

    go : (b : Bool) → (r.id.0 == id.0) ≡ b → IsFresh (after_step m (Accept r)) id (cond b 1 0 + n)
    go true e =
        let same = eqb-true r.id.0 id.0 e in
        let zero = f.none (omega (arith, same, next)) in
        record { most = omega (arith, zero); none = λ le. absurd (omega (arith, le, same, next)) }
    go false e = let most = f.most in record { most = omega (arith, most); none = λ le. let zero = f.none (omega (arith, le)) in omega (arith, zero) }
fresh_step m step id n may f = let most = f.most in record { most = omega (arith, most); none = λ le. let zero = f.none le in omega (arith, zero) }

fresh : (start : Machine) (h : List Step) (id : RequestId) → IsInitial start → AllEnabled start h → IsFresh (after start h) id (count_by (accepts_id id) h)
fresh start [] id s enabled = record { most = omega arith; none = λ le. refl }
fresh start (step ∷ past) id s enabled = subst (IsFresh (after start (step ∷ past)) id) (sym (count_cons (accepts_id id) step past))
    (fresh_step (after start past) step id (count_by (accepts_id id) past) enabled.1 (fresh start past id s enabled.0))

pub law_accepted_at_most_once : {D : Type 0} (first : AbstractState) (run : List (CallRecord D)) (id : RequestId) → IsRun first run → count_by (accepts_id id) (steps_of run) ≤ 1
law_accepted_at_most_once first run id r = (fresh first.machine (steps_of run) id (run_starts first run r) (run_steps_are_enabled first run r)).most

-- How often an id was answered: not yet where it is still to come, or unanswered, and once at most.
record IsUntold (m : Machine) (id : RequestId) (n : ℕ) : Type 0 where
  most : n ≤ 1
  none : m.next_id ≤ id.0 → n ≡ 0
  here : (e : Pending) → Contains m.book e → e.request.id.0 ≡ id.0 → n ≡ 0

untold_step : (m : Machine) (step : Step) (id : RequestId) (n : ℕ) → IsEnabled m step → Sound m → IsUntold m id n → IsUntold (after_step m step) id (cond (answers_id id step) 1 0 + n)
untold_step m (Answer p o) id n may s f = go (p.request.id.0 == id.0) refl
  where
    go : (b : Bool) → (p.request.id.0 == id.0) ≡ b → IsUntold (after_step m (Answer p o)) id (cond b 1 0 + n)
    go true e =
        let same = eqb-true p.request.id.0 id.0 e in
        let zero = f.here p may.0 same in
        let below = s.below p (inl may.0) in
        record { most = omega (arith, zero); none = λ le. absurd (omega (arith, le, same, below)); here = λ x i q. absurd ((without_in p.request.id m.book x i).1 (q ∙ sym same)) }
    go false e =
        let most = f.most in
        record {
          most = omega (arith, most);
          none = λ le. let zero = f.none le in omega (arith, zero);
          here = λ x i q. let zero = f.here x (without_in p.request.id m.book x i).0 q in omega (arith, zero);
        }
untold_step m (Accept r) id n may s f =
    let most = f.most in
    let next : r.id.0 ≡ m.next_id = may.id_is_next in
    record {
      most = omega (arith, most);
      none = λ le. let zero = f.none (omega (arith, le)) in omega (arith, zero);
      here = λ x i q. ⊎_elim
          (λ old. let zero = f.here x old q in omega (arith, zero))
          (λ new. let mine = ap (λ (y : Pending). y.request.id.0) new in let zero = f.none (omega (arith, next, mine, q)) in omega (arith, zero))
          (append_in m.book _ x i);
    }
untold_step m step id n may s f =
    let most = f.most in
    record {
      most = omega (arith, most);
      none = λ le. let zero = f.none le in omega (arith, zero);
      here = λ x i q. ⊎_elim
          (λ (c : Came m step x). let zero = f.here c.old c.here (ap (λ (r : Accepted). r.id.0) c.same ∙ q) in omega (arith, zero))
          (λ new. absurd new.0)
          (came m step x i);
    }

untold : (start : Machine) (h : List Step) (id : RequestId) → IsInitial start → AllEnabled start h → IsUntold (after start h) id (count_by (answers_id id) h)
untold start [] id s enabled = record { most = omega arith; none = λ le. refl; here = λ e i q. refl }
untold start (step ∷ past) id s enabled = subst (IsUntold (after start (step ∷ past)) id) (sym (count_cons (answers_id id) step past))
    (untold_step (after start past) step id (count_by (answers_id id) past) enabled.1 (traced start past s enabled.0).sound (untold start past id s enabled.0))

pub law_answered_at_most_once : {D : Type 0} (first : AbstractState) (run : List (CallRecord D)) (id : RequestId) → IsRun first run → count_by (answers_id id) (steps_of run) ≤ 1
law_answered_at_most_once first run id r = (untold first.machine (steps_of run) id (run_starts first run r) (run_steps_are_enabled first run r)).most

pub law_answered_was_accepted : {D : Type 0} (first : AbstractState) (run : List (CallRecord D)) (late early : List Step) (e : Pending) (outcome : Outcome) → IsRun first run
    → steps_of run ≡ late ++ Answer e outcome ∷ early → WasAccepted first.machine early e.request
law_answered_was_accepted first run late early e outcome r split =
    let u = step_of_run first run late (Answer e outcome) early r split in
    living_accepted first.machine early (run_starts first run r) u.0 e (inl u.1.0)

-- What a call says of it.

-- a call tells the answers of its steps, or gives no reply
told_or_none : {D : Type 0} (ask : AbstractCall D) (said : AbstractCallResult) (old : AbstractState) (evidence : Evidence) (steps : List Step) (new : AbstractState) → ResultMatchesSteps ask said old evidence steps new
    → (RepliesMatch steps (replies_of said) × (is_submit ask ≡ false)) ⊎ (replies_of said ≡ [])
told_or_none Service (Replied replies) old evidence steps new a = inl (a.replies_match, refl)
told_or_none Tick (Replied replies) old evidence steps new a = inl (a.replies_match, refl)
told_or_none Reset (WasReset (Some replies)) old evidence steps new a = inl (a.replies_match, refl)
told_or_none (RevokeOf c n) (WasRevoked (Some replies)) old evidence steps new a = inl (a.replies_match, refl)
told_or_none ask (Replied replies) old evidence steps new a = absurd a
told_or_none ask (WasReset (Some replies)) old evidence steps new a = absurd a
told_or_none ask (WasRevoked (Some replies)) old evidence steps new a = absurd a
told_or_none ask (WasRevoked None) old evidence steps new a = inr refl
told_or_none ask said old evidence steps new a = inr refl

-- the answers of this id
abbrev is_of : RequestId → Pending × Outcome → Bool
is_of id answer = answer.0.request.id.0 == id.0

-- a step, counted
count_answers : (id : RequestId) (steps : List Step) → count_by (is_of id) (answers_of steps) ≡ count_by (answers_id id) steps
count_answers id [] = refl
count_answers id (Answer e o ∷ before) =
    let rest = count_answers id before in omega (arith, rest, count_cons (is_of id) (e, o) (answers_of before), count_cons (answers_id id) (Answer e o) before)
count_answers id (step ∷ before) = let rest = count_answers id before in omega (arith, rest, count_cons (answers_id id) step before)

count_replies : (id : RequestId) (answers : List (Pending × Outcome)) → count_by (λ (reply : Reply). reply.id.0 == id.0) (map reply_of answers) ≡ count_by (is_of id) answers
count_replies id answers = count_map (λ (reply : Reply). reply.id.0 == id.0) (is_of id) reply_of answers (λ y i. refl)

-- a call replies as often as it answers, or not
replies_few : (id : RequestId) (steps : List Step) (replies : List Reply) → RepliesMatch steps replies ⊎ (replies ≡ []) → count_by (λ (reply : Reply). reply.id.0 == id.0) replies ≤ count_by (answers_id id) steps
replies_few id steps replies (inl t) =
    let same = ap (count_by (λ (reply : Reply). reply.id.0 == id.0)) t.replies_are_of_answers in
    let swapped : count_by (is_of id) (answers_of steps) ≡ count_by (is_of id) t.answers = sum_by-IsPermutation (λ a. cond (is_of id a) 1 0) t.answers (answers_of steps) t.is_permutation in
    omega (arith, same, swapped, count_answers id steps, count_replies id t.answers)
replies_few id steps replies (inr e) = let same = ap (count_by (λ (reply : Reply). reply.id.0 == id.0)) e in omega (arith, same)

run_replies : {D : Type 0} (first : AbstractState) (run : List (CallRecord D)) (id : RequestId) → IsRun first run → count_by (λ (reply : Reply). reply.id.0 == id.0) (all_replies run) ≤ count_by (answers_id id) (steps_of run)
run_replies first [] id r = omega arith
run_replies first (event ∷ past) id r =
    let rest = run_replies first past id r.0 in
    let now = replies_few id event.steps (replies_of event.result)
    (⊎_elim (λ t. inl t.0) (λ e. inr e) (told_or_none event.call event.result (abstract_after_all first past) event.evidence event.steps _ r.1.result_matches_steps)) in
    omega (arith, rest, now, count_append (λ (reply : Reply). reply.id.0 == id.0) (replies_of event.result) (all_replies past), count_append (answers_id id) event.steps (steps_of past))

pub law_replied_at_most_once : {D : Type 0} (first : AbstractState) (run : List (CallRecord D)) (id : RequestId) → IsRun first run → count_by (λ (reply : Reply). reply.id.0 == id.0) (all_replies run) ≤ 1
law_replied_at_most_once first run id r = let few = run_replies first run id r in let once = law_answered_at_most_once first run id r in omega (arith, few, once)

-- a call that accepts says so
accepts_count : (id : RequestId) (steps : List Step) → count_by (λ (r : Accepted). r.id.0 == id.0) (accepts_of steps) ≡ count_by (accepts_id id) steps
accepts_count id [] = refl
accepts_count id (Accept r ∷ before) =
    let rest = accepts_count id before in omega (arith, rest, count_cons (λ (x : Accepted). x.id.0 == id.0) r (accepts_of before), count_cons (accepts_id id) (Accept r) before)
accepts_count id (step ∷ before) = let rest = accepts_count id before in omega (arith, rest, count_cons (accepts_id id) step before)

gives_accepted : {D : Type 0} (id : RequestId) (ask : AbstractCall D) (said : AbstractCallResult) (old : AbstractState) (evidence : Evidence) (steps : List Step) (new : AbstractState) → ResultMatchesSteps ask said old evidence steps new
    → cond (gives_id id said) 1 0 ≤ count_by (accepts_id id) steps
gives_accepted id (Submit q) (Submitted (Ok given)) old evidence steps new a =
    let one : count_by (λ (r : Accepted). r.id.0 == id.0) (accepts_of steps) ≡ cond (a.1.0.id.0 == id.0) 1 0 + 0 =
    ap (count_by (λ (r : Accepted). r.id.0 == id.0)) a.1.1 ∙ count_cons (λ (r : Accepted). r.id.0 == id.0) a.1.0 [] in
    let same : cond (a.1.0.id.0 == id.0) 1 0 ≡ cond (given.0 == id.0) 1 0 = ap (λ (x : RequestId). cond {A = ℕ} (x.0 == id.0) 1 0) a.1.2 in
    omega (arith, one, same, accepts_count id steps)
gives_accepted id ask (Submitted (Ok given)) old evidence steps new a = absurd a
gives_accepted id ask said old evidence steps new a = omega arith

run_gives : {D : Type 0} (first : AbstractState) (run : List (CallRecord D)) (id : RequestId) → IsRun first run → count_by (λ (event : CallRecord D). gives_id id event.result) run ≤ count_by (accepts_id id) (steps_of run)
run_gives first [] id r = omega arith
run_gives {D} first (event ∷ past) id r =
    let rest = run_gives first past id r.0 in
    let now = gives_accepted id event.call event.result (abstract_after_all first past) event.evidence event.steps _ r.1.result_matches_steps in
    omega (arith, rest, now, count_cons (λ (x : CallRecord D). gives_id id x.result) event past, count_append (accepts_id id) event.steps (steps_of past))

pub law_ids_are_given_at_most_once : {D : Type 0} (first : AbstractState) (run : List (CallRecord D)) (id : RequestId) → IsRun first run → count_by (λ (event : CallRecord D). gives_id id event.result) run ≤ 1
law_ids_are_given_at_most_once first run id r = let few = run_gives first run id r in let once = law_accepted_at_most_once first run id r in omega (arith, few, once)

-- Each unanswered request is one that a submit asked for.

accepts_asked : {D : Type 0} (r : Accepted) (ask : AbstractCall D) (said : AbstractCallResult) (old : AbstractState) (evidence : Evidence) (steps : List Step) (ports : Ports) (new : AbstractState) → AreStepsOfCall ask ports steps
    → ResultMatchesSteps ask said old evidence steps new → Contains (accepts_of steps) r → (ask ≡ Submit r.asked) × (said ≡ Submitted (Ok r.id))
accepts_asked {D} r (Submit q) (Submitted (Ok given)) old evidence steps ports new b a h =
    let same : r ≡ a.1.0 = ⊎_elim (λ e. e) (λ n. absurd (contains_none r n)) (contains_cases a.1.0 [] r (subst (λ (xs : List Accepted). Contains xs r) a.1.1 h)) in
    let asks : Request → AbstractCall D = λ x. Submit x in
    (ap asks (sym (accepted_asked D q ports steps r b h)), ap (λ (x : RequestId). Submitted (Ok x)) (sym a.1.2 ∙ ap (λ (x : Accepted). x.id) (sym same)))
accepts_asked r (Submit q) (Submitted (Err refusal)) old evidence steps ports new b a h = absurd (contains_none r (subst (λ (xs : List Step). Contains (accepts_of xs) r) a.1 h))
accepts_asked r (Submit q) said old evidence steps ports new b a h = absurd a
accepts_asked r ask said old evidence steps ports new b a h = absurd (contains_none r (subst (λ (xs : List Accepted). Contains xs r) (none_accepted ask steps refl (all_fit ask ports steps b)) h))

-- it was there before its last call, or that asked for it
pub came_from : {D : Type 0} (first : AbstractState) (past : List (CallRecord D)) (event : CallRecord D) (e : Pending) → IsRun first (event ∷ past) → Contains (abstract_after_all first (event ∷ past)).machine.book e
    → WasUnansweredBefore (abstract_after_all first past).machine event.steps e ⊎ ((event.call ≡ Submit e.request.asked) × (event.result ≡ Submitted (Ok e.request.id)))
came_from first past event e r h = ⊎_elim
    (λ (s : Since (abstract_after_all first past).machine event.steps e). inl (record {
      before = s.old;
      is_in_book = s.here;
      same_request = s.same;
      if_issued_then_before_or_now = λ t. ⊎_elim (λ anew. inl anew.0) (λ kept. inr kept.1) (s.issued t);
    }))
    (λ (a : IsAccepted event.steps e). inr
    (accepts_asked e.request event.call event.result (abstract_after_all first past) event.evidence event.steps event.ports _ r.1.steps_are_of_call r.1.result_matches_steps a.0))
    (since (abstract_after_all first past).machine event.steps e h)

was_asked : {D : Type 0} (first : AbstractState) (run : List (CallRecord D)) (e : Pending) → IsRun first run → Contains (abstract_after_all first run).machine.book e → WasSubmittedAndGivenId e.request run
was_asked first [] e r h = absurd (nobody first.machine r.0 e (inl h))
was_asked first (event ∷ past) e r h = ⊎_elim
    (λ (c : WasUnansweredBefore (abstract_after_all first past).machine event.steps e). inr
    (subst (λ (x : Accepted). WasSubmittedAndGivenId x past) c.same_request (was_asked first past c.before r.0 c.is_in_book)))
    (λ asked. inl asked)
    (came_from first past event e r h)

-- A request that was accepted is one that a submit asked for.
accepted_in : (start : Machine) (steps past : List Step) (r : Accepted) → WasAccepted start (steps ++ past) r → Contains (accepts_of steps) r ⊎ WasAccepted start past r
accepted_in start [] past r w = inr w
accepted_in start (Accept new ∷ steps) past r (inl c) = inl (contains_here new (accepts_of steps) r (sym c.0))
accepted_in start (Accept new ∷ steps) past r (inr w) = ⊎_elim (λ i. inl (contains_there new (accepts_of steps) r i)) (λ was. inr was) (accepted_in start steps past r w)
accepted_in start (step ∷ steps) past r (inl c) = absurd c.0
accepted_in start (step ∷ steps) past r (inr w) = accepted_in start steps past r w

pub law_accepted_was_asked : {D : Type 0} (first : AbstractState) (run : List (CallRecord D)) (r : Accepted) → IsRun first run → WasAccepted first.machine (steps_of run) r → WasSubmittedAndGivenId r run
law_accepted_was_asked first [] r run w = w
law_accepted_was_asked first (event ∷ past) r run w = ⊎_elim
    (λ (i : Contains (accepts_of event.steps) r). inl (accepts_asked r event.call event.result (abstract_after_all first past) event.evidence event.steps event.ports _ run.1.steps_are_of_call run.1.result_matches_steps i))
    (λ was. inr (law_accepted_was_asked first past r run.0 was))
    (accepted_in first.machine event.steps (steps_of past) r w)

-- so a submit of its client gave its id
asked_given : {D : Type 0} (r : Accepted) (run : List (CallRecord D)) → WasSubmittedAndGivenId r run → WasGivenId r.id r.asked.client run
asked_given r [] w = w
asked_given r (event ∷ past) (inl w) = inl (r.asked, w.0, w.1, refl)
asked_given r (event ∷ past) (inr w) = inr (asked_given r past w)

-- So has each reply.

not_cons : {X : Type 0} (x : X) (xs : List X) → x ∷ xs ≡ [] → ⊥
not_cons x xs e = contains_none x (subst (λ ys. Contains ys x) e (contains_here x xs x refl))

-- a request that these steps answer was unanswered before them, where they accept none
was_open : (m : Machine) (steps : List Step) (answer : Pending × Outcome) → AllEnabled m steps → accepts_of steps ≡ [] → Contains (answers_of steps) answer
    → (e : Pending) × Contains m.book e × (e.request ≡ answer.0.request)
was_open m [] answer may none h = absurd (contains_none answer h)
was_open m (Accept r ∷ before) answer may none h = absurd (not_cons r (accepts_of before) none)
was_open m (Answer p o ∷ before) answer may none h = ⊎_elim
    (λ (same : answer ≡ (p, o)). ⊎_elim
    (λ (s : Since m before p). (s.old, s.here, s.same ∙ ap (λ (x : Pending × Outcome). x.0.request) (sym same)))
    (λ (a : IsAccepted before p). absurd (contains_none p.request (subst (λ (xs : List Accepted). Contains xs p.request) none a.0)))
    (since m before p may.1.0))
    (λ i. was_open m before answer may.0 none i)
    (contains_cases (p, o) (answers_of before) answer h)
was_open m (step ∷ before) answer may none h = was_open m before answer may.0 none h

answers_in : (steps : List Step) (a : Pending × Outcome) → Contains (answers_of steps) a → Contains steps (Answer a.0 a.1)
answers_in [] a h = absurd (contains_none a h)
answers_in (Answer e o ∷ before) a h = ⊎_elim
    (λ (same : a ≡ (e, o)). contains_here (Answer e o) before (Answer a.0 a.1) (ap (λ (x : Pending × Outcome). Answer x.0 x.1) same))
    (λ i. contains_there (Answer e o) before (Answer a.0 a.1) (answers_in before a i))
    (contains_cases (e, o) (answers_of before) a h)
answers_in (step ∷ before) a h = contains_there step before (Answer a.0 a.1) (answers_in before a h)

-- the request that a reply tells of
abbrev pub IsRepliedBy : {D : Type 0} → Reply → CallRecord D → List (CallRecord D) → Type 0
IsRepliedBy reply event past = (e : Pending) × Contains event.steps (Answer e reply.outcome) × (e.request.id ≡ reply.id) × (e.request.asked.client ≡ reply.client) × WasSubmittedAndGivenId e.request past

pub law_replied_was_asked : {D : Type 0} (first : AbstractState) (past : List (CallRecord D)) (event : CallRecord D) (reply : Reply) → IsRun first (event ∷ past) → Contains (replies_of event.result) reply
    → IsRepliedBy reply event past
law_replied_was_asked first past event reply r h = ⊎_elim
    (λ (t : RepliesMatch event.steps (replies_of event.result) × (is_submit event.call ≡ false)).
    let a = map_in reply_of t.0.answers reply (subst (λ (xs : List Reply). Contains xs reply) t.0.replies_are_of_answers h) in
    let i = Contains-permutation t.0.answers (answers_of event.steps) a.0 t.0.is_permutation a.1 in
    let waited = was_open (abstract_after_all first past).machine event.steps a.0 r.1.steps_are_enabled (none_accepted event.call event.steps t.1 (all_fit event.call event.ports event.steps r.1.steps_are_of_call)) i in
    let asked : WasSubmittedAndGivenId a.0.0.request past = subst (λ (x : Accepted). WasSubmittedAndGivenId x past) waited.2 (was_asked first past waited.0 r.0 waited.1) in
    let told : IsRepliedBy (reply_of a.0) event past = (a.0.0, answers_in event.steps a.0 i, refl, refl, asked) in
    subst (λ (x : Reply). IsRepliedBy x event past) (sym a.2) told)
    (λ e. absurd (contains_none reply (subst (λ (xs : List Reply). Contains xs reply) e h)))
    (told_or_none event.call event.result (abstract_after_all first past) event.evidence event.steps _ r.1.result_matches_steps)

pub law_replied_id_was_given_to_its_client : {D : Type 0} (first : AbstractState) (past : List (CallRecord D)) (event : CallRecord D) (reply : Reply) → IsRun first (event ∷ past) → Contains (replies_of event.result) reply
    → WasGivenId reply.id reply.client past
law_replied_id_was_given_to_its_client first past event reply r h =
    let told = law_replied_was_asked first past event reply r h in
    subst (λ (c : ClientId). WasGivenId reply.id c past) told.3 (subst (λ (id : RequestId). WasGivenId id told.0.request.asked.client past) told.2 (asked_given told.0.request past told.4))
