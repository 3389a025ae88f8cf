-- What steps leave of the machine: the device's own, and those of another request (this project's own).
use Rattle.std.specs.Prelude.{ℕ, true, ◌≡◌, ◌≢◌, List, [], ◌∷◌}
use Rattle.ata_types.specs.declared.request.RequestId.{RequestId}
use Rattle.block_machine.specs.State.{Pending, Machine}
use Rattle.block_machine.specs.Steps.{Step, Issue, Touch, End, WaitAgain, Answer}

-- The same request, issued as often and as long ago: it is as far as it was, or further.
pub record IsAsFarOrFurther (old new : Pending) : Type 0 where
  pub request : new.request ≡ old.request
  pub issues : new.issue_count ≡ old.issue_count
  pub age : new.age ≡ old.age
  pub issued : new.issued ≡ old.issued
  pub touched : (i : ℕ) → old.touched i ≡ true → new.touched i ≡ true
  pub ended : old.ended ≡ true → new.ended ≡ true

-- the same requests in the same order, each as far as it was, or further
abbrev pub AllAsFarOrFurther : List Pending → List Pending → Type 0
AllAsFarOrFurther [] later = later ≡ []
AllAsFarOrFurther (old ∷ olds) [] = ⊥
AllAsFarOrFurther (old ∷ olds) (new ∷ news) = IsAsFarOrFurther old new × AllAsFarOrFurther olds news

-- Grants, owners, loans and the next id are the same; each request that is unanswered or kept is as far as it was, or
-- further.
pub record KeepsLoansAndPendingsOnlyAdvance (m later : Machine) : Type 0 where
  pub rows : later.rows ≡ m.rows
  pub owner : later.owner ≡ m.owner
  pub lent : later.lent ≡ m.lent
  pub next_id : later.next_id ≡ m.next_id
  pub book : AllAsFarOrFurther m.book later.book
  pub kept : AllAsFarOrFurther m.kept later.kept

-- The step isn't of the request of this id: it issues, touches, ends, puts back or answers none, or another. (A tick,
-- Release and Revoke are of none.)
abbrev pub IsNotStepOfPendingRequest : RequestId → Step → Type 0
IsNotStepOfPendingRequest id (Issue mode e) = e.request.id ≢ id
IsNotStepOfPendingRequest id (Touch e i block) = e.request.id ≢ id
IsNotStepOfPendingRequest id (End e) = e.request.id ≢ id
IsNotStepOfPendingRequest id (WaitAgain e) = e.request.id ≢ id
IsNotStepOfPendingRequest id (Answer e outcome) = e.request.id ≢ id
IsNotStepOfPendingRequest id step = Unit {0}
