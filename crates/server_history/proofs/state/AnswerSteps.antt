-- Steps that answer requests, and that answer none.
use Rattle.std.proofs.Common.{◌≡◌, ◌⊎◌, ◌==◌, true, false, not, List, [], ◌∷◌, ◌++◌, map, inl, inr, refl, sym, ap, ◌∙◌, subst, ⊎_elim, eqb-true}
use Rattle.std.specs.List.{All, AllZip, Contains, list_any}
use Rattle.std.proofs.lemmas.Bool.{cases_Bool}
use Rattle.std.proofs.lemmas.List.Elements.{All-contains, All-head, All-tail, Contains-append_cases, Contains-append_left, Contains-append_right}
use Rattle.ata_types.specs.declared.Port.{Port}
use Rattle.ata_types.specs.declared.request.Outcome.{Outcome}
use Rattle.ata_types.specs.declared.request.Outcome.TheVariants.{Ok}
use Rattle.ata_types.specs.declared.request.Reply.{Reply}
use Rattle.ata_types.specs.declared.request.RequestId.{RequestId}
use Rattle.adapter.specs.declared.access.DeviceStep.{DeviceStep}
use Rattle.block_machine.specs.declared.due.QueueMode.{QueueMode}
use Rattle.block_machine.specs.Events.{AllByDevice, AnswersLawfulAndWaitsOnStoppedPorts, AllEnabled, AbstractCall, AreStepsOfCall, IsByDevice, IsLawfulAnswer, IsByServer, AbstractState, answers_of, issues_id, reply_of}
use Rattle.block_machine.specs.Expected.{after}
use Rattle.block_machine.specs.Ports.{Evidence, Ports}
use Rattle.block_machine.specs.State.{Pending, Machine}
use Rattle.block_machine.specs.Steps.{Step, Issue, Answer, IsEnabled, after_step}
use Rattle.server_history.proofs.state.ListMembers.{contains_cases, contains_here, contains_there, in_filter, without_in}
use Rattle.request_queue.specs.BookEntries.{BookEntry}
use Rattle.server_history.specs.IssuingAndAnswering.{HasEnded, AllByDeviceOrIssue, ok_answers_newest_first, done_reply}
use Rattle.server_history.specs.Prerequisites.{PrerequisiteLaws}
use Rattle.server_history.proofs.state.FirstMembers.{nowhere}

-- ---- steps

-- steps that may come may come in two parts
pub may_parts : PrerequisiteLaws → (m : Machine) (late early : List Step) → AllEnabled m (late ++ early) → AllEnabled m early × AllEnabled (after m early) late
may_parts laws m [] early may = (may, tt)
may_parts laws m (step ∷ late) early may =
    let x = may_parts laws m late early may.0 in
    (x.0, (x.1, subst (λ (n : Machine). IsEnabled n step) (laws.steps_and_accesses.after_joins m late early) may.1))

-- ---- answers

-- the device answers nobody
pub no_answer : (steps : List Step) → AllByDevice steps → (e : Pending) (o : Outcome) → Contains steps (Answer e o) → ⊥
no_answer [] only e o here = nowhere (Answer e o) here
no_answer (step ∷ steps) only e o here = ⊎_elim
    (λ (is : Answer e o ≡ step). subst IsByDevice (sym is) only.1)
    (λ (there : Contains steps (Answer e o)). no_answer steps only.0 e o there)
    (contains_cases step steps (Answer e o) here)

pub no_answer_issuing : (mode : QueueMode) (port : Port) (steps : List Step) → AllByDeviceOrIssue mode port steps → (e : Pending) (o : Outcome) → Contains steps (Answer e o) → ⊥
no_answer_issuing mode port [] only e o here = nowhere (Answer e o) here
no_answer_issuing mode port (Issue its x ∷ steps) only e o here = ⊎_elim
    (λ (is : Answer e o ≡ Issue its x). absurd (let z : Answer e o ≡ Issue its x = is in cc))
    (λ (there : Contains steps (Answer e o)). no_answer_issuing mode port steps only.2 e o there)
    (contains_cases (Issue its x) steps (Answer e o) here)
no_answer_issuing mode port (step ∷ steps) only e o here = ⊎_elim
    (λ (is : Answer e o ≡ step). subst IsByDevice (sym is) only.0)
    (λ (there : Contains steps (Answer e o)). no_answer_issuing mode port steps only.1 e o there)
    (contains_cases step steps (Answer e o) here)

-- the answers of these alone
pub answered_in : (ended : List Pending) (e : Pending) (o : Outcome) → Contains (ok_answers_newest_first ended) (Answer e o) → Contains ended e × (o ≡ Ok)
answered_in [] e o here = absurd (nowhere (Answer e o) here)
answered_in (x ∷ ended) e o here = ⊎_elim
    (λ (rest : Contains (ok_answers_newest_first ended) (Answer e o)). let r = answered_in ended e o rest in (contains_there x ended e r.0, r.1))
    (λ (last : Contains (Answer x Ok ∷ []) (Answer e o)). ⊎_elim
    (λ (is : Answer e o ≡ Answer x Ok). let a : e ≡ x = cc in let b : o ≡ Ok = cc in (contains_here x ended e a, b))
    (λ none. absurd (nowhere (Answer e o) none))
    (contains_cases (Answer x Ok) [] (Answer e o) last))
    (Contains-append_cases (ok_answers_newest_first ended) (Answer x Ok ∷ []) (Answer e o) here)

pub in_answered : (ended : List Pending) (e : Pending) → Contains ended e → Contains (ok_answers_newest_first ended) (Answer e Ok)
in_answered [] e here = absurd (nowhere e here)
in_answered (x ∷ ended) e here = ⊎_elim
    (λ (is : e ≡ x). Contains-append_right (ok_answers_newest_first ended) (Answer x Ok ∷ []) (Answer e Ok) (contains_here (Answer x Ok) [] (Answer e Ok) (ap (λ (y : Pending). Answer y Ok) is)))
    (λ (there : Contains ended e). Contains-append_left (ok_answers_newest_first ended) (Answer x Ok ∷ []) (Answer e Ok) (in_answered ended e there))
    (contains_cases x ended e here)

-- as they are told
abbrev pub with_ok : Pending → Pending × Outcome
with_ok e = (e, Ok)

pub told_so : (port : Port) (requests : List BookEntry) (ended : List Pending) → AllZip (HasEnded port) requests ended → map done_reply requests ≡ map reply_of (map with_ok ended)
told_so port [] [] each = refl
told_so port [] (p ∷ ended) each = absurd each
told_so port (e ∷ requests) [] each = absurd each
told_so port (e ∷ requests) (p ∷ ended) each =
    (λ i. record { id = sym each.0.entry.id i; client = sym each.0.entry.client i; outcome = Ok } ∷ map done_reply requests)
    ∙ ap (λ (replies : List Reply). reply_of (p, Ok) ∷ replies) (told_so port requests ended each.1)

-- who is answered was unanswered before
pub ended_stood : PrerequisiteLaws → (m : Machine) (ended : List Pending) → AllEnabled m (ok_answers_newest_first ended) → (p : Pending) → Contains ended p → Contains m.book p
ended_stood laws m [] may p here = absurd (nowhere p here)
ended_stood laws m (x ∷ ended) may p here = ⊎_elim
    (λ (is : p ≡ x). subst (Contains m.book) (sym is) parts.0.1.0)
    (λ (there : Contains ended p). (without_in x.request.id m.book p (ended_stood laws (after_step m (Answer x Ok)) ended parts.1 p there)).0)
    (contains_cases x ended p here)
  where
    parts : AllEnabled m (Answer x Ok ∷ []) × AllEnabled (after_step m (Answer x Ok)) (ok_answers_newest_first ended)
    parts = may_parts laws m (ok_answers_newest_first ended) (Answer x Ok ∷ []) may

-- nor do steps that issue requests
pub issuing_answers : (mode : QueueMode) (port : Port) (late base : List Step) → AllByDeviceOrIssue mode port late → answers_of (late ++ base) ≡ answers_of base
issuing_answers mode port [] base only = refl
issuing_answers mode port (Issue its e ∷ late) base only = issuing_answers mode port late base only.2
issuing_answers mode port (Answer e o ∷ late) base only = absurd only.0
issuing_answers mode port (step ∷ late) base only = issuing_answers mode port late base only.1

-- ---- steps that answer requests alone

-- a request is answered, in this way
abbrev pub IsAnswerOf : (Pending → Outcome → Type 0) → Step → Type 0
IsAnswerOf Told (Answer e o) = Told e o
IsAnswerOf Told step = ⊥

module _ (Told : Pending → Outcome → Type 0) where
  pub answer_told : (steps : List Step) → All (IsAnswerOf Told) steps → (e : Pending) (o : Outcome) → Contains steps (Answer e o) → Told e o
  answer_told steps all e o here = All-contains (IsAnswerOf Told) steps (Answer e o) all here

  pub answers_belong : (ask : AbstractCall DeviceStep) (ports : Ports) → ((e : Pending) (o : Outcome) → Told e o → IsByServer ask ports (Answer e o)) → (steps : List Step) → All (IsAnswerOf Told) steps → AreStepsOfCall ask ports steps
  answers_belong ask ports own [] all = tt
  answers_belong ask ports own (Answer e o ∷ steps) all =
      (answers_belong ask ports own steps (All-tail (IsAnswerOf Told) (Answer e o) steps all), inr (own e o (All-head (IsAnswerOf Told) (Answer e o) steps all)))
  answers_belong ask ports own (step ∷ steps) all = absurd (All-head (IsAnswerOf Told) step steps all)

  pub answers_issue_none : (id : RequestId) (steps : List Step) → All (IsAnswerOf Told) steps → list_any (issues_id id) steps ≡ false
  answers_issue_none id [] all = refl
  answers_issue_none id (Answer e o ∷ steps) all = answers_issue_none id steps (All-tail (IsAnswerOf Told) (Answer e o) steps all)
  answers_issue_none id (step ∷ steps) all = absurd (All-head (IsAnswerOf Told) step steps all)

  pub answers_lawful : (old : AbstractState) (evidence : Evidence) (ports : Ports) → ((e : Pending) (o : Outcome) → Told e o → IsLawfulAnswer old evidence ports e o) → (steps : List Step) → All (IsAnswerOf Told) steps
      → AnswersLawfulAndWaitsOnStoppedPorts old evidence ports steps
  answers_lawful old evidence ports lawful [] all = tt
  answers_lawful old evidence ports lawful (Answer e o ∷ steps) all =
      (answers_lawful old evidence ports lawful steps (All-tail (IsAnswerOf Told) (Answer e o) steps all), lawful e o (All-head (IsAnswerOf Told) (Answer e o) steps all))
  answers_lawful old evidence ports lawful (step ∷ steps) all = absurd (All-head (IsAnswerOf Told) step steps all)

  -- who is unanswered after them was so before
  pub left_stood : (m : Machine) (steps : List Step) → All (IsAnswerOf Told) steps → (e : Pending) → Contains (after m steps).book e → Contains m.book e
  left_stood m [] all e here = here
  left_stood m (Answer x o ∷ steps) all e here =
      left_stood m steps (All-tail (IsAnswerOf Told) (Answer x o) steps all) e (without_in x.request.id (after m steps).book e here).0
  left_stood m (step ∷ steps) all e here = absurd (All-head (IsAnswerOf Told) step steps all)

  -- and so was who is answered
  pub answered_stood : (m : Machine) (steps : List Step) → All (IsAnswerOf Told) steps → AllEnabled m steps → (e : Pending) (o : Outcome) → Contains steps (Answer e o) → Contains m.book e
  answered_stood m [] all may e o here = absurd (nowhere (Answer e o) here)
  answered_stood m (Answer x p ∷ steps) all may e o here = ⊎_elim
      (λ (is : Answer e o ≡ Answer x p).
      let same : e ≡ x = cc in
      subst (Contains m.book) (sym same) (left_stood m steps (All-tail (IsAnswerOf Told) (Answer x p) steps all) x may.1.0))
      (λ (there : Contains steps (Answer e o)). answered_stood m steps (All-tail (IsAnswerOf Told) (Answer x p) steps all) may.0 e o there)
      (contains_cases (Answer x p) steps (Answer e o) here)
  answered_stood m (step ∷ steps) all may e o here = absurd (All-head (IsAnswerOf Told) step steps all)

  -- who was unanswered is answered, or is so still
  pub answered_or_left : (m : Machine) (steps : List Step) → All (IsAnswerOf Told) steps → (e : Pending) → Contains m.book e
      → ((x : Pending) × (o : Outcome) × Contains steps (Answer x o) × (x.request.id.0 ≡ e.request.id.0)) ⊎ Contains (after m steps).book e
  answered_or_left m [] all e here = inr here
  answered_or_left m (Answer x o ∷ steps) all e here = ⊎_elim
      (λ before. inl (before.0, before.1, contains_there (Answer x o) steps (Answer before.0 before.1) before.2, before.3))
      (λ (there : Contains (after m steps).book e). ⊎_elim
      (λ (its : (e.request.id.0 == x.request.id.0) ≡ true). inl (x, o, contains_here (Answer x o) steps (Answer x o) refl, sym (eqb-true e.request.id.0 x.request.id.0 its)))
      (λ (other : (e.request.id.0 == x.request.id.0) ≡ false). inr (in_filter (λ (y : Pending). not (y.request.id.0 == x.request.id.0)) (after m steps).book e there (ap not other)))
      (cases_Bool (e.request.id.0 == x.request.id.0)))
      (answered_or_left m steps (All-tail (IsAnswerOf Told) (Answer x o) steps all) e here)
  answered_or_left m (step ∷ steps) all e here = absurd (All-head (IsAnswerOf Told) step steps all)
