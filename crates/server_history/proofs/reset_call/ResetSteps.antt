-- The steps of a reset that ends: the device's, Release among them, then those that decide on requests, and last those that issue what is due.
use Rattle.std.proofs.Common.{Bool, List, [], ap, eq-eqb, false, inl, inr, refl, subst, sym, true, ⊎_elim, ◌++◌, ◌||◌, ◌∙◌, ◌∷◌, ◌≡◌, ◌⊎◌}
use Rattle.std.proofs.lemmas.Bool.{false≢true, or_left, or_right}
use Rattle.std.proofs.lemmas.List.Elements.{All-cons, All-head, All-nil, All-tail}
use Rattle.std.specs.List.{All, Contains, count_by, list_any}
use Rattle.adapter.specs.declared.access.DeviceStep.{DeviceStep}
use Rattle.ata_types.specs.declared.PortState.TheVariants.{Ready as ReadyState}
use Rattle.ata_types.specs.declared.request.Outcome.{Outcome}
use Rattle.ata_types.specs.declared.request.RequestId.{RequestId}
use Rattle.server_history.proofs.state.ListMembers.{at_cases, contains_cases, contains_there, map_in, without_in}
use Rattle.block_machine.specs.Events.{AllByDevice, AnswersLawfulAndWaitsOnStoppedPorts, AllEnabled, AreStepsOfCall, IsNeitherOkNorDeviceError, IsByDevice, IsIssuedIn, IsLawfulAnswer, IssueIsLastOfRequest, AbstractState, Reset, IsIssuedInBook, answers_of, is_release, issues_id}
use Rattle.block_machine.specs.Expected.{after}
use Rattle.block_machine.specs.Ports.{Evidence, Ports}
use Rattle.block_machine.specs.State.{Machine, Pending}
use Rattle.block_machine.specs.Steps.{WaitAgain, Answer, Issue, IsEnabled, Release, Step, update_pending, newly_issued, requeued}
use Rattle.server_history.proofs.reset_call.FatesOfAllPorts.{Decides}
use Rattle.server_history.proofs.state.FirstMembers.{first_here, nowhere}
use Rattle.server_history.proofs.reset_call.IssuesOfAllPorts.{IsReissue}
use Rattle.server_history.proofs.plain_calls.IssueRounds.{issued_parts}
use Rattle.server_history.specs.Prerequisites.{PrerequisiteLaws}

-- ---- steps that decide

pub decided_none : (id : RequestId) (steps : List Step) → All Decides steps → list_any (issues_id id) steps ≡ false
decided_none id [] all = refl
decided_none id (WaitAgain e ∷ steps) all = decided_none id steps (All-tail Decides (WaitAgain e) steps all)
decided_none id (Answer e o ∷ steps) all = decided_none id steps (All-tail Decides (Answer e o) steps all)
decided_none id (step ∷ steps) all = absurd (All-head Decides step steps all).1

module _ (ports : Ports) where
  pub decided_belong : (steps : List Step) → All Decides steps → ((e : Pending) (o : Outcome) → Contains steps (Answer e o) → IsNeitherOkNorDeviceError o) → ((e : Pending) → Contains steps (WaitAgain e) → ports.state e.request.port ≡ ReadyState)
      → AreStepsOfCall {D = DeviceStep} Reset ports steps
  decided_belong [] all answer again = tt
  decided_belong (WaitAgain e ∷ steps) all answer again = (
    decided_belong steps (All-tail Decides (WaitAgain e) steps all) (λ x o there. answer x o (contains_there (WaitAgain e) steps (Answer x o) there)) (λ x there. again x (contains_there (WaitAgain e) steps (WaitAgain x) there)),
    inr (again e (first_here (WaitAgain e) steps)),
  )
  decided_belong (Answer e o ∷ steps) all answer again = (
    decided_belong steps (All-tail Decides (Answer e o) steps all) (λ x p there. answer x p (contains_there (Answer e o) steps (Answer x p) there)) (λ x there. again x (contains_there (Answer e o) steps (WaitAgain x) there)),
    inr (answer e o (first_here (Answer e o) steps)),
  )
  decided_belong (step ∷ steps) all answer again = absurd (All-head Decides step steps all).1

pub decided_lawful : (old : AbstractState) (evidence : Evidence) (ports : Ports) (steps : List Step) → All Decides steps → ((e : Pending) (o : Outcome) → Contains steps (Answer e o) → IsLawfulAnswer old evidence ports e o)
    → ((e : Pending) → Contains steps (WaitAgain e) → Contains evidence.stopped e.request.port) → AnswersLawfulAndWaitsOnStoppedPorts old evidence ports steps
decided_lawful old evidence ports [] all answer again = tt
decided_lawful old evidence ports (WaitAgain e ∷ steps) all answer again = (
  decided_lawful old evidence ports steps (All-tail Decides (WaitAgain e) steps all) (λ x o there. answer x o (contains_there (WaitAgain e) steps (Answer x o) there)) (λ x there. again x (contains_there (WaitAgain e) steps (WaitAgain x) there)),
  again e (first_here (WaitAgain e) steps),
)
decided_lawful old evidence ports (Answer e o ∷ steps) all answer again = (
  decided_lawful old evidence ports steps (All-tail Decides (Answer e o) steps all) (λ x p there. answer x p (contains_there (Answer e o) steps (Answer x p) there)) (λ x there. again x (contains_there (Answer e o) steps (WaitAgain x) there)),
  answer e o (first_here (Answer e o) steps),
)
decided_lawful old evidence ports (step ∷ steps) all answer again = absurd (All-head Decides step steps all).1

-- ---- steps that issue

module _ (ports : Ports) where
  pub reissued_belong : (steps : List Step) → All (IsReissue ports) steps → AreStepsOfCall {D = DeviceStep} Reset ports steps
  reissued_belong [] all = tt
  reissued_belong (Issue mode e ∷ steps) all = (reissued_belong steps (All-tail (IsReissue ports) (Issue mode e) steps all), inr (All-head (IsReissue ports) (Issue mode e) steps all))
  reissued_belong (step ∷ steps) all = (reissued_belong steps (All-tail (IsReissue ports) step steps all), inl (All-head (IsReissue ports) step steps all))

  pub reissued_lawful : (old : AbstractState) (evidence : Evidence) (later : Ports) (steps : List Step) → All (IsReissue ports) steps → AnswersLawfulAndWaitsOnStoppedPorts old evidence later steps
  reissued_lawful old evidence later [] all = tt
  reissued_lawful old evidence later (WaitAgain e ∷ steps) all = absurd (All-head (IsReissue ports) (WaitAgain e) steps all)
  reissued_lawful old evidence later (Answer e o ∷ steps) all = absurd (All-head (IsReissue ports) (Answer e o) steps all)
  reissued_lawful old evidence later (step ∷ steps) all = reissued_lawful old evidence later steps (All-tail (IsReissue ports) step steps all)

  pub reissued_answers : (steps : List Step) → All (IsReissue ports) steps → answers_of steps ≡ []
  reissued_answers [] all = refl
  reissued_answers (Answer e o ∷ steps) all = absurd (All-head (IsReissue ports) (Answer e o) steps all)
  reissued_answers (step ∷ steps) all = reissued_answers steps (All-tail (IsReissue ports) step steps all)

-- ---- steps but Release

abbrev pub KeepsLoans : Step → Type 0
KeepsLoans Release = ⊥
KeepsLoans step = Unit {0}

pub none_released : (steps : List Step) → All KeepsLoans steps → count_by is_release steps ≡ 0
none_released [] all = refl
none_released (Release ∷ steps) all = absurd (All-head KeepsLoans Release steps all)
none_released (step ∷ steps) all = none_released steps (All-tail KeepsLoans step steps all)

pub devices_keep : (steps : List Step) → AllByDevice steps → All KeepsLoans steps
devices_keep [] all = All-nil KeepsLoans
devices_keep (Release ∷ steps) all = absurd all.1
devices_keep (step ∷ steps) all = All-cons KeepsLoans step steps tt (devices_keep steps all.0)

pub decides_keeps : (step : Step) → Decides step → KeepsLoans step
decides_keeps Release is = is.1
decides_keeps step is = tt

pub reissue_keeps : (ports : Ports) (step : Step) → IsReissue ports step → KeepsLoans step
reissue_keeps ports Release is = is
reissue_keeps ports step is = tt

-- ---- who is issued

-- one that is issued after such steps was issued in them, or before
module _ (laws : PrerequisiteLaws) (ports : Ports) (m : Machine) where
  pub issued_from : (steps : List Step) → AreStepsOfCall {D = DeviceStep} Reset ports steps → (z : Pending) → Contains (after m steps).book z → z.issued ≡ true → IsIssuedIn z.request.id steps ⊎ IsIssuedInBook m z.request.id
  issued_from [] b z here is = inr (record { pending = z; is_in_book = here; id_is = refl; issued = is })
  issued_from (Issue mode e ∷ steps) b z here is =
      let w = map_in (update_pending e.request.id newly_issued) (after m steps).book z here in
      ⊎_elim
      (λ its. inl (or_left _ _ (eq-eqb e.request.id.0 z.request.id.0 (sym its.0 ∙ ap (λ (x : Pending). x.request.id.0) (sym its.1) ∙ ap (λ (x : Pending). x.request.id.0) (sym w.2)))))
      (λ other.
      let same : z ≡ w.0 = w.2 ∙ other.1 in
      ⊎_elim (λ late. inl (or_right _ _ late)) (λ was. inr was) (issued_from steps b.0 z (subst (Contains (after m steps).book) (sym same) w.1) is))
      (at_cases e.request.id newly_issued w.0)
  issued_from (WaitAgain e ∷ steps) b z here is =
      let w = map_in (update_pending e.request.id requeued) (after m steps).book z here in
      ⊎_elim
      (λ its. absurd (false≢true (sym (ap (λ (x : Pending). x.issued) (w.2 ∙ its.1)) ∙ is)))
      (λ other.
      let same : z ≡ w.0 = w.2 ∙ other.1 in
      issued_from steps b.0 z (subst (Contains (after m steps).book) (sym same) w.1) is)
      (at_cases e.request.id requeued w.0)
  issued_from (Answer e o ∷ steps) b z here is = issued_from steps b.0 z (without_in e.request.id (after m steps).book z here).0 is
  issued_from (Release ∷ steps) b z here is = issued_from steps b.0 z here is
  issued_from (step ∷ steps) b z here is =
      let device : IsByDevice step = ⊎_elim (λ own. own) (λ none. absurd none) b.1 in
      let spares = laws.steps_and_accesses.device_steps_spare_book (after m steps) (step ∷ []) (tt, device) in
      let l = laws.steps_and_accesses.entry_is_found_in_earlier_book (after m steps).book (after m (step ∷ steps)).book z spares.book here in
      let id : z.request.id ≡ l.0.request.id = ap (λ r. r.id) l.2.request in
      ⊎_elim
      (λ late. inl (or_right (issues_id z.request.id step) (list_any (issues_id z.request.id) steps) (subst (λ (i : RequestId). IsIssuedIn i steps) (sym id) late)))
      (λ was. inr (record { pending = was.pending; is_in_book = was.is_in_book; id_is = was.id_is ∙ sym id; issued = was.issued }))
      (issued_from steps b.0 l.0 l.1 (sym l.2.issued ∙ is))

  -- who is answered was in the book then
  pub answered_issued : (steps : List Step) → AreStepsOfCall {D = DeviceStep} Reset ports steps → AllEnabled m steps → ((id : RequestId) → list_any (issues_id id) steps ≡ false) → (e : Pending) (o : Outcome) → Contains steps (Answer e o) → e.issued ≡ true
      → IsIssuedInBook m e.request.id
  answered_issued [] b may none e o here is = absurd (nowhere (Answer e o) here)
  answered_issued (step ∷ steps) b may none e o here is = ⊎_elim
      (λ (same : Answer e o ≡ step).
      let may_answer : IsEnabled (after m steps) (Answer e o) = subst (λ (x : Step). IsEnabled (after m steps) x) (sym same) may.1 in
      let there = may_answer.0 in
      ⊎_elim (λ issued. absurd (false≢true (sym (rest e.request.id) ∙ issued))) (λ was. was) (issued_from steps b.0 e there is))
      (λ (later : Contains steps (Answer e o)). answered_issued steps b.0 may.0 rest e o later is)
      (contains_cases step steps (Answer e o) here)
    where
      rest : (id : RequestId) → list_any (issues_id id) steps ≡ false
      rest id = right (issues_id id step) (list_any (issues_id id) steps) (none id)
        where
          right : (a b : Bool) → (a || b) ≡ false → b ≡ false
          right true b is = absurd (false≢true (sym is))
          right false b is = is

-- what issues nothing, and then what issues, each request last
pub last_then : (late early : List Step) → IssueIsLastOfRequest late → IssueIsLastOfRequest early → ((id : RequestId) → list_any (issues_id id) early ≡ false) → IssueIsLastOfRequest (late ++ early)
last_then [] early l e none = e
last_then (step ∷ late) early l e none = (
  last_then late early l.0 e none,
  λ id h i. ⊎_elim (λ before. l.1 id h before) (λ there. false≢true (sym (none id) ∙ there)) (issued_parts id late early i),
)
