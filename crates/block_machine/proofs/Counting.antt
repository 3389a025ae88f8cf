-- Counts of members, and what is clear or issued in a book.
use Rattle.std.proofs.Common.{◌≡◌, ℕ, ◌+◌, ◌≤◌, Bool, true, false, cond, List, [], ◌∷◌, ◌++◌, map, inl, inr, refl, ap, arith}
use Rattle.std.proofs.lemmas.List.Sums.{sum_by-cons, sum_by-append}
use Rattle.std.specs.List.{count_by, Contains}
use Rattle.std.proofs.lemmas.Bool.{and_parts, false≢true, not-true, both_ways}
use Rattle.block_machine.specs.declared.due.QueueMode.{QueueMode}
use Rattle.block_machine.specs.declared.due.Unanswered.{Unanswered}
use Rattle.block_machine.specs.DueRequests.{waits_for, is_waiting_and_unblocked, IsDue}
use Rattle.block_machine.proofs.Members.{none_of}
use Rattle.block_machine.proofs.Order.{In}

-- a count counts its first, and then the rest
pub count_cons : {X : Type 0} (p : X → Bool) (x : X) (xs : List X) → count_by p (x ∷ xs) ≡ cond (p x) 1 0 + count_by p xs
count_cons p x xs = sum_by-cons (λ y. cond (p y) 1 0) x xs

pub count_append : {X : Type 0} (p : X → Bool) (xs ys : List X) → count_by p (xs ++ ys) ≡ count_by p xs + count_by p ys
count_append p xs ys = sum_by-append (λ y. cond (p y) 1 0) xs ys

-- a count of changed members
pub count_map : {X Y : Type 0} (p : Y → Bool) (q : X → Bool) (f : X → Y) (xs : List X) → ((y : X) → In y xs → p (f y) ≡ q y) → count_by p (map f xs) ≡ count_by q xs
count_map p q f [] same = refl
count_map p q f (x ∷ xs) same =
    let rest = count_map p q f xs (λ y h. same y (inr h)) in
    let head : ◌≡◌ {A = ℕ} (cond (p (f x)) 1 0) (cond (q x) 1 0) = ap (λ (b : Bool). cond b 1 0) (same x (inl refl)) in
    omega (arith, rest, head, count_cons p (f x) (map f xs), count_cons q x xs)

pub count_eq : {X : Type 0} (p q : X → Bool) (xs : List X) → ((y : X) → In y xs → p y ≡ q y) → count_by p xs ≡ count_by q xs
count_eq p q [] same = refl
count_eq p q (x ∷ xs) same =
    let rest = count_eq p q xs (λ y h. same y (inr h)) in
    let head : ◌≡◌ {A = ℕ} (cond (p x) 1 0) (cond (q x) 1 0) = ap (λ (b : Bool). cond b 1 0) (same x (inl refl)) in
    omega (arith, rest, head, count_cons p x xs, count_cons q x xs)

pub count_none : {X : Type 0} (p : X → Bool) (xs : List X) → ((y : X) → In y xs → p y ≡ false) → count_by p xs ≡ 0
count_none p [] none = refl
count_none p (x ∷ xs) none =
    let rest = count_none p xs (λ y h. none y (inr h)) in
    let head : ◌≡◌ {A = ℕ} (cond (p x) 1 0) 0 = ap (λ (b : Bool). cond b 1 0) (none x (inl refl)) in
    omega (arith, rest, head, count_cons p x xs)

-- a test that more pass counts more
pub count_least : {X : Type 0} (p q : X → Bool) (es : List X) → ((y : X) → In y es → p y ≡ true → q y ≡ true) → count_by p es ≤ count_by q es
count_least p q [] more = omega arith
count_least p q (y ∷ ys) more =
    let rest = count_least p q ys (λ z k. more z (inr k)) in
    let head = head_of (p y) (q y) (more y (inl refl)) in
    omega (arith, rest, head, count_cons p y ys, count_cons q y ys)
  where
    head_of : (a b : Bool) → (a ≡ true → b ≡ true) → cond {A = ℕ} a 1 0 ≤ cond b 1 0
    head_of true true f = omega arith
    head_of true false f = absurd (false≢true (f refl))
    head_of false b f = omega arith

-- nothing stands in the way of one that is clear
pub unheld : (mode : QueueMode) (book : List Unanswered) (r : Unanswered) → is_waiting_and_unblocked mode book r ≡ true → (o : Unanswered) → Contains book o → waits_for mode r o ≡ false
unheld mode book r clear o h = none_of (waits_for mode r) book o (not-true _ (and_parts _ _ clear).1) h

-- the issued one is due no more
pub issued_not_due : (mode : QueueMode) (book : List Unanswered) (r : Unanswered) → r.issued ≡ true → IsDue mode book r → ⊥
issued_not_due mode book r issued d = both_ways _ (not-true _ (and_parts _ _ d.waits_and_nothing_blocks).0) issued
