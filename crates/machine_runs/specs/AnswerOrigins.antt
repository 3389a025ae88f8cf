-- What stands behind the answers to a request in a run (this project's own).
use Rattle.std.specs.Prelude.{◌≡◌, ◌⊎◌, ℕ, ◌<◌, ◌≤◌, ◌==◌, Bool, true, false, List, [], ◌∷◌, ◌++◌, count_by, Contains, Ok}
use Rattle.ata_types.specs.declared.request.RequestId.{RequestId}
use Rattle.ata_types.specs.declared.request.Op.TheVariants.{Read}
use Rattle.ata_types.specs.declared.request.Outcome.TheVariants as outcome
use Rattle.block_machine.specs.State.{Accepted, Pending, Machine, sector_of}
use Rattle.block_machine.specs.Steps.{Step, WaitAgain, Answer}
use Rattle.block_machine.specs.Expected.{HasTouchedSinceIssue, HasEndedSinceIssue, HoldsExpected}
use Rattle.block_machine.specs.Confinement.{WasAccepted}
use Rattle.block_machine.specs.Events.{CallRecord, AbstractState, Submit, Submitted, IsIssuedIn, issues_id, abstract_after_all, steps_of}

-- The call is a submit that asked for the request, and got its id.
abbrev pub SubmitsAndIsGivenId : {D : Type 0} → Accepted → CallRecord D → Type 0
SubmitsAndIsGivenId r event = (event.call ≡ Submit r.asked) × (event.result ≡ Submitted (Ok r.id))

-- a call of the run is
abbrev pub WasSubmittedAndGivenId : {D : Type 0} → Accepted → List (CallRecord D) → Type 0
WasSubmittedAndGivenId r [] = ⊥
WasSubmittedAndGivenId r (event ∷ past) = SubmitsAndIsGivenId r event ⊎ WasSubmittedAndGivenId r past

-- the step has the request of this id wait again
abbrev pub requeues_id : RequestId → Step → Bool
requeues_id id (WaitAgain e) = e.request.id.0 == id.0
requeues_id id _ = false

-- In these steps the request was accepted and issued; and since its last issue each of its sectors was touched, and it
-- was ended.
pub record WasServed (start : Machine) (steps : List Step) (r : Accepted) : Type 0 where
  pub accepted : WasAccepted start steps r
  pub issued : 1 ≤ count_by (issues_id r.id) steps
  pub touched : (i : ℕ) → i < r.asked.count → HasTouchedSinceIssue r (sector_of r i) steps
  pub ended : HasEndedSinceIssue r steps

-- A call of a run answers the request Ok, which is as far as this then. Before that it was served; and a read has, at
-- the call's end, what is left.
pub record CallAnswersOk {D : Type 0} (first : AbstractState) (past : List (CallRecord D)) (event : CallRecord D)
    (e : Pending) : Type 0 where
  pub late : List Step
  pub early : List Step
  pub answered : event.steps ≡ late ++ Answer e outcome.Ok ∷ early
  pub served : WasServed first.machine (early ++ steps_of past) e.request
  pub read_holds_expected : e.request.asked.op ≡ Read
      → HoldsExpected first.machine (early ++ steps_of past) (abstract_after_all first
      (event ∷ past)).machine.memory e.request

-- An unanswered request was there before these steps. If it is issued now, it was issued then, or these steps issue it.
pub record WasUnansweredBefore (old : Machine) (steps : List Step) (e : Pending) : Type 0 where
  pub before : Pending
  pub is_in_book : Contains old.book before
  pub same_request : before.request ≡ e.request
  pub if_issued_then_before_or_now : e.issued ≡ true → IsIssuedIn e.request.id steps ⊎ (before.issued ≡ true)
