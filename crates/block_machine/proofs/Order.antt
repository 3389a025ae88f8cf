-- Members and order of a book, by recursion on the list.
use Rattle.std.proofs.Common.{◌≡◌, ◌⊎◌, ℕ, ◌<◌, List, [], ◌∷◌, length, get_or, zero, suc, inl, inr, ⊎_elim, refl, subst, arith}
use Rattle.std.specs.List.{Contains}
use Rattle.block_machine.specs.declared.due.Unanswered.{Unanswered}
use Rattle.block_machine.specs.DueRequests.{IsInOrder}
use Rattle.block_machine.proofs.Members.{contains_none, contains_here, contains_there, contains_cases}

abbrev pub In : {X : Type 0} → X → List X → Type 0
In x [] = ⊥
In x (y ∷ ys) = (x ≡ y) ⊎ In x ys

pub in_from : {X : Type 0} (xs : List X) (x : X) → Contains xs x → In x xs
in_from [] x h = absurd (contains_none x h)
in_from (y ∷ ys) x h = ⊎_elim (λ p. inl p) (λ i. inr (in_from ys x i)) (contains_cases y ys x h)

pub from_in : {X : Type 0} (x : X) (xs : List X) → In x xs → Contains xs x
from_in x [] h = absurd h
from_in x (y ∷ ys) (inl p) = contains_here y ys x p
from_in x (y ∷ ys) (inr i) = contains_there y ys x (from_in x ys i)

abbrev pub Ordered : List Unanswered → Type 0
Ordered [] = Unit {0}
Ordered (x ∷ xs) = ((later : Unanswered) → In later xs → x.id.0 < later.id.0) × Ordered xs

pub ordered_from : (book : List Unanswered) → IsInOrder book → Ordered book
ordered_from [] o = tt
ordered_from (x ∷ xs) o = (first, ordered_from xs (λ i j d lt below. o (suc i) (suc j) d (omega (arith, lt)) (omega (arith, below))))
  where
    first : (later : Unanswered) → In later xs → x.id.0 < later.id.0
    first later h =
        let c = from_in later xs h in
        let lt : x.id.0 < (get_or xs c.0 later).id.0 = o 0 (suc c.0) later (omega arith) (let below = c.1 in omega (arith, below)) in
        subst (λ (y : Unanswered). x.id.0 < y.id.0) c.2 lt

pub from_ordered : (book : List Unanswered) → Ordered book → IsInOrder book
from_ordered book o i j d lt below = go book o i j lt below
  where
    at : (xs : List Unanswered) (j : ℕ) → j < length xs → In (get_or xs j d) xs
    at [] j below = absurd (omega (arith, below))
    at (y ∷ ys) zero below = inl refl
    at (y ∷ ys) (suc j) below = inr (at ys j (omega (arith, below)))

    go : (xs : List Unanswered) → Ordered xs → (i j : ℕ) → i < j → j < length xs → (get_or xs i d).id.0 < (get_or xs j d).id.0
    go [] o i j lt below = absurd (omega (arith, below))
    go (x ∷ xs) o zero zero lt below = absurd (omega (arith, lt))
    go (x ∷ xs) o zero (suc j) lt below = o.0 (get_or xs j d) (at xs j (omega (arith, below)))
    go (x ∷ xs) o (suc i) zero lt below = absurd (omega (arith, lt))
    go (x ∷ xs) o (suc i) (suc j) lt below = go xs o.1 i j (omega (arith, lt)) (omega (arith, below))
