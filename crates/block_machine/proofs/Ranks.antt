-- Whether those ahead are counted as clear or as due, a slot is left for the same requests.
use Rattle.std.proofs.Common.{◌≡◌, ◌⊎◌, ◌↔◌, ℕ, ◌+◌, ◌<◌, ◌≤◌, Bool, true, false, cond, ◌&&◌, ◌||◌, ◌==◌, ltb, List, [], ◌∷◌, ◌++◌, zero, suc, inl, inr, ⊎_elim, refl, sym, ap, ◌∙◌, subst, arith, append_assoc, lt-ltb, le-ltb, eqb-true}
use Rattle.std.specs.List.{count_by, Contains}
use Rattle.std.proofs.lemmas.Bool.{cases_lt, cond-true, cond-false, or_left, or_right, and_left, and_right, and_parts, and_from, both_ways, false_from_ne_true}
use Rattle.ata_types.specs.declared.Port.{Port}
use Rattle.block_machine.specs.declared.due.QueueMode.{QueueMode}
use Rattle.block_machine.specs.declared.due.Unanswered.{Unanswered}
use Rattle.block_machine.specs.DueRequests.{IsInOrder, conflict_on_port_by_flush_or_overlap, waits_for, is_plain, is_earlier_on_port, is_waiting_and_unblocked, unblocked_ahead_count, free_slots, is_due, due_ahead_count}
use Rattle.block_machine.proofs.Keeps.{same_port}
use Rattle.block_machine.proofs.Order.{In, Ordered, in_from, from_in, ordered_from}
use Rattle.block_machine.proofs.Counting.{count_cons, count_append, count_eq, count_none, count_least, unheld}

in_right : (xs ys : List Unanswered) (x : Unanswered) → In x ys → In x (xs ++ ys)
in_right [] ys x h = h
in_right (y ∷ xs) ys x h = inr (in_right xs ys x h)

front_less : (front back : List Unanswered) (o : Unanswered) → Ordered (front ++ o ∷ back) → (y : Unanswered) → In y front → y.id.0 < o.id.0
front_less [] back o order y h = absurd h
front_less (x ∷ xs) back o order y (inl p) = subst (λ (z : Unanswered). z.id.0 < o.id.0) (sym p) (order.0 o (in_right xs (o ∷ back) o (inl refl)))
front_less (x ∷ xs) back o order y (inr h) = front_less xs back o order.1 y h

back_more : (front back : List Unanswered) (o : Unanswered) → Ordered (front ++ o ∷ back) → (y : Unanswered) → In y (o ∷ back) → o.id.0 ≤ y.id.0
back_more [] back o order y (inl p) = subst (λ (z : Unanswered). o.id.0 ≤ z.id.0) (sym p) (omega arith)
back_more [] back o order y (inr h) = let lt = order.0 y h in omega (arith, lt)
back_more (x ∷ xs) back o order y h = back_more xs back o order.1 y h

-- a count of those before o is a count over the front
pub count_front : (q : Unanswered → Bool) (front back : List Unanswered) (o : Unanswered) → Ordered (front ++ o ∷ back) → count_by (λ y. ltb y.id.0 o.id.0 && q y) (front ++ o ∷ back) ≡ count_by q front
count_front q front back o order =
    let test : Unanswered → Bool = λ y. ltb y.id.0 o.id.0 && q y in
    let a = count_append test front (o ∷ back) in
    let b : count_by test front ≡ count_by q front = count_eq test q front (λ y h. true_and _ _ (lt-ltb y.id.0 o.id.0 (front_less front back o order y h))) in
    let c : count_by test (o ∷ back) ≡ 0 = count_none test (o ∷ back) (λ y h. and_left _ _ (le-ltb y.id.0 o.id.0 (back_more front back o order y h))) in
    omega (arith, a, b, c)
  where
    true_and : (a b : Bool) → a ≡ true → (a && b) ≡ b
    true_and a b e = ap (λ (x : Bool). x && b) e

-- how many pass p before o
abbrev pub rank : (Unanswered → Bool) → List Unanswered → Unanswered → ℕ
rank p book o = count_by (λ y. ltb y.id.0 o.id.0 && p y) book

-- those that pass p, and whose rank is below n
abbrev pub low : (Unanswered → Bool) → ℕ → List Unanswered → Unanswered → Bool
low p n book o = p o && ltb (rank p book o) n

abbrev Full : (Unanswered → Bool) → ℕ → List Unanswered → List Unanswered → Type 0
Full p n book done = ((count_by p done ≤ n) × (count_by (low p n book) done ≡ count_by p done)) ⊎ (n ≤ count_by (low p n book) done)

fill : (p : Unanswered → Bool) (n : ℕ) (book done todo tail : List Unanswered) → Ordered book → book ≡ done ++ (todo ++ tail) → Full p n book done → Full p n book (done ++ todo)
fill p n book done [] tail order is f = subst (λ (xs : List Unanswered). Full p n book xs) (sym (nil done)) f
  where
    nil : (xs : List Unanswered) → xs ++ [] ≡ xs
    nil [] = refl
    nil (x ∷ xs) = ap (λ (ys : List Unanswered). x ∷ ys) (nil xs)
fill p n book done (x ∷ todo) tail order is f =
    subst (λ (xs : List Unanswered). Full p n book xs) (append_assoc done (x ∷ []) todo)
    (fill p n book (done ++ x ∷ []) todo tail order (is ∙ sym (append_assoc done (x ∷ []) (todo ++ tail))) (step (p x) refl f))
  where
    at_rank : rank p book x ≡ count_by p done
    at_rank = subst (λ (xs : List Unanswered). count_by (λ y. ltb y.id.0 x.id.0 && p y) xs ≡ count_by p done) (sym is)
        (count_front p done (todo ++ tail) x (subst (λ (xs : List Unanswered). Ordered xs) is order))

    more : count_by p (done ++ x ∷ []) ≡ count_by p done + cond (p x) 1 0
    more = let a = count_append p done (x ∷ []) in let c = count_cons p x [] in omega (arith, a, c)

    more_low : count_by (low p n book) (done ++ x ∷ []) ≡ count_by (low p n book) done + cond (low p n book x) 1 0
    more_low = let a = count_append (low p n book) done (x ∷ []) in let c = count_cons (low p n book) x [] in omega (arith, a, c)

    step : (b : Bool) → p x ≡ b → Full p n book done → Full p n book (done ++ x ∷ [])
    step b e (inr le) = inr (omega (arith, le, more_low))
    step false e (inl l) =
        let a : ◌≡◌ {A = ℕ} (cond (p x) 1 0) 0 = cond-false (p x) 1 0 e in
        let c : ◌≡◌ {A = ℕ} (cond (low p n book x) 1 0) 0 = cond-false (low p n book x) 1 0 (and_left _ _ e) in
        inl (omega (arith, more, a, l.0), omega (arith, more, more_low, a, c, l.1))
    step true e (inl l) = ⊎_elim
        (λ (lt : count_by p done < n).
        let a : ◌≡◌ {A = ℕ} (cond (p x) 1 0) 1 = cond-true (p x) 1 0 e in
        let t : ltb (rank p book x) n ≡ true = lt-ltb (rank p book x) n (omega (arith, at_rank, lt)) in
        let c : ◌≡◌ {A = ℕ} (cond (low p n book x) 1 0) 1 = cond-true (low p n book x) 1 0 (and_from _ _ e t) in
        inl (omega (arith, more, a, lt), omega (arith, more, more_low, a, c, l.1)))
        (λ (le : n ≤ count_by p done). inr (omega (arith, more_low, le, l.1)))
        (cases_lt (count_by p done) n)

split : (book : List Unanswered) (e : Unanswered) → In e book → (front : List Unanswered) × (back : List Unanswered) × (book ≡ front ++ e ∷ back)
split [] e h = absurd h
split (x ∷ xs) e (inl p) = ([], xs, ap (λ (y : Unanswered). y ∷ xs) (sym p))
split (x ∷ xs) e (inr h) = let r = split xs e h in (x ∷ r.0, r.1, ap (λ (ys : List Unanswered). x ∷ ys) r.2)

-- of n or more that pass p before e, at least n have a rank below n
pub low_enough : (p : Unanswered → Bool) (n : ℕ) (book : List Unanswered) (e : Unanswered) → Ordered book → In e book
    → n ≤ rank p book e → n ≤ rank (low p n book) book e
low_enough p n book e order h le =
    let r = split book e h in
    let order' : Ordered (r.0 ++ e ∷ r.1) = subst (λ (xs : List Unanswered). Ordered xs) r.2 order in
    let a : rank p book e ≡ count_by p r.0 = ap (λ (xs : List Unanswered). rank p xs e) r.2 ∙ count_front p r.0 r.1 e order' in
    let b : rank (low p n book) book e ≡ count_by (low p n book) r.0 = ap (λ (xs : List Unanswered). rank (low p n book) xs e) r.2 ∙ count_front (low p n book) r.0 r.1 e order' in
    ⊎_elim
    (λ (l : (count_by p r.0 ≤ n) × (count_by (low p n book) r.0 ≡ count_by p r.0)). omega (arith, a, b, le, l.1))
    (λ (g : n ≤ count_by (low p n book) r.0). omega (arith, b, g))
    (fill p n book [] r.0 (e ∷ r.1) order r.2 (inl (omega arith, refl)))

turn : (a b c : Bool) → ((a && b) && c) ≡ (b && (a && c))
turn true true c = refl
turn true false c = refl
turn false true c = refl
turn false false c = refl

-- an earlier request of the port holds r back where one of the two is plain
pub holds_if : (mode : QueueMode) (r o : Unanswered) → (o.port.0 == r.port.0) ≡ true → ltb o.id.0 r.id.0 ≡ true
    → (is_plain mode r.op ≡ true) ⊎ (is_plain mode o.op ≡ true) → waits_for mode r o ≡ true
holds_if mode r o port less plain = and_from _ _ port (go (is_plain mode r.op) refl plain)
  where
    go : (b : Bool) → is_plain mode r.op ≡ b → (is_plain mode r.op ≡ true) ⊎ (is_plain mode o.op ≡ true)
        → cond b (o.issued || ltb o.id.0 r.id.0) ((is_plain mode o.op && o.issued) || (ltb o.id.0 r.id.0 && (is_plain mode o.op || conflict_on_port_by_flush_or_overlap o r))) ≡ true
    go true p h = or_right _ _ less
    go false p (inl q) = absurd (both_ways _ p q)
    go false p (inr q) = or_right _ _ (and_from _ _ less (or_left _ _ q))

-- those of a port that are clear
abbrev clear_of : QueueMode → List Unanswered → Port → Unanswered → Bool
clear_of mode book port y = (y.port.0 == port.0) && is_waiting_and_unblocked mode book y

ahead_rank : (mode : QueueMode) (book : List Unanswered) (r : Unanswered) → unblocked_ahead_count mode book r ≡ rank (clear_of mode book r.port) book r
ahead_rank mode book r = count_eq _ _ book (λ y k. turn (y.port.0 == r.port.0) (ltb y.id.0 r.id.0) (is_waiting_and_unblocked mode book y))

-- a plain one that is clear has none ahead
plain_first : (mode : QueueMode) (book : List Unanswered) (r : Unanswered) → is_waiting_and_unblocked mode book r ≡ true → is_plain mode r.op ≡ true → unblocked_ahead_count mode book r ≡ 0
plain_first mode book r clear plain = count_none _ book (λ y k. false_from_ne_true _ (λ t.
    let p = and_parts (is_earlier_on_port y r) (is_waiting_and_unblocked mode book y) t in
    let q = and_parts (y.port.0 == r.port.0) (ltb y.id.0 r.id.0) p.0 in
    both_ways _ (unheld mode book r clear y (from_in y book k)) (holds_if mode r y q.0 q.1 (inl plain))))

-- where a slot is free, one is due where it is clear and few enough are ahead
due_by_rank : (mode : QueueMode) (book : List Unanswered) (n : ℕ) (o : Unanswered) → free_slots mode book o.port ≡ suc n
    → is_due mode book o ≡ (is_waiting_and_unblocked mode book o && ltb (unblocked_ahead_count mode book o) (suc n))
due_by_rank mode book n o free = go (is_waiting_and_unblocked mode book o) (is_plain mode o.op) refl refl
  where
    go : (c p : Bool) → is_waiting_and_unblocked mode book o ≡ c → is_plain mode o.op ≡ p
        → is_due mode book o ≡ (is_waiting_and_unblocked mode book o && ltb (unblocked_ahead_count mode book o) (suc n))
    go false p e f = and_left _ _ e ∙ sym (and_left _ _ e)
    go true false e f = ap (λ (x : Bool). is_waiting_and_unblocked mode book o && x)
        (ap (λ (x : Bool). x || ltb (unblocked_ahead_count mode book o) (free_slots mode book o.port)) f ∙ ap (λ (m : ℕ). ltb (unblocked_ahead_count mode book o) m) free)
    go true true e f = ap (λ (x : Bool). is_waiting_and_unblocked mode book o && x)
        (or_left _ _ f ∙ sym (ap (λ (m : ℕ). ltb m (suc n)) (plain_first mode book o e f) ∙ lt-ltb 0 (suc n) (omega arith)))

module _ (mode : QueueMode) (book : List Unanswered) (r : Unanswered) (order : Ordered book) (here : In r book) where
  less_due : due_ahead_count mode book r ≤ unblocked_ahead_count mode book r
  less_due = count_least
      (λ o. is_earlier_on_port o r && is_due mode book o)
      (λ o. is_earlier_on_port o r && is_waiting_and_unblocked mode book o) book
      (λ y k t. let a = and_parts (is_earlier_on_port y r) (is_due mode book y) t in and_from _ _ a.0 (and_parts (is_waiting_and_unblocked mode book y) _ a.1).0)

  module _ (n : ℕ) (free : free_slots mode book r.port ≡ suc n) where
    due_one : (o : Unanswered) (b : Bool) → (o.port.0 == r.port.0) ≡ b
        → (is_earlier_on_port o r && is_due mode book o)
        ≡ (ltb o.id.0 r.id.0 && (clear_of mode book r.port o && ltb (rank (clear_of mode book r.port) book o) (suc n)))
    due_one o true t =
        let port : o.port ≡ r.port = same_port o.port r.port (eqb-true o.port.0 r.port.0 t) in
        let free' : free_slots mode book o.port ≡ suc n = ap (free_slots mode book) port ∙ free in
        let rank' : unblocked_ahead_count mode book o ≡ rank (clear_of mode book r.port) book o = ahead_rank mode book o ∙ ap (λ (p : Port). rank (clear_of mode book p) book o) port in
        turn (o.port.0 == r.port.0) (ltb o.id.0 r.id.0) (is_due mode book o)
        ∙ ap (λ (x : Bool). ltb o.id.0 r.id.0 && x)
        (ap (λ (x : Bool). (o.port.0 == r.port.0) && x) (due_by_rank mode book n o free' ∙ ap (λ (m : ℕ). is_waiting_and_unblocked mode book o && ltb m (suc n)) rank')
        ∙ assoc (o.port.0 == r.port.0) (is_waiting_and_unblocked mode book o) _)
      where
        assoc : (a b c : Bool) → (a && (b && c)) ≡ ((a && b) && c)
        assoc true b c = refl
        assoc false b c = refl
    due_one o false t = and_left _ _ (and_left _ _ t) ∙ sym (and_right _ _ (and_left _ _ (and_left _ _ t)))

    due_is : due_ahead_count mode book r ≡ rank (low (clear_of mode book r.port) (suc n) book) book r
    due_is = count_eq _ _ book (λ o k. due_one o _ refl)

    enough : suc n ≤ unblocked_ahead_count mode book r → suc n ≤ due_ahead_count mode book r
    enough le =
        let a = ahead_rank mode book r in
        let l = low_enough (clear_of mode book r.port) (suc n) book r order here (omega (arith, le, a)) in
        omega (arith, l, due_is)

  slot_by_due : due_ahead_count mode book r < free_slots mode book r.port → unblocked_ahead_count mode book r < free_slots mode book r.port
  slot_by_due lt = go (free_slots mode book r.port) refl
    where
      go : (f : ℕ) → free_slots mode book r.port ≡ f → unblocked_ahead_count mode book r < free_slots mode book r.port
      go zero e = absurd (omega (arith, lt, e))
      go (suc n) e = ⊎_elim
          (λ (less : unblocked_ahead_count mode book r < suc n). omega (arith, less, e))
          (λ (le : suc n ≤ unblocked_ahead_count mode book r). let more = enough n e le in absurd (omega (arith, more, lt, e)))
          (cases_lt (unblocked_ahead_count mode book r) (suc n))

-- a slot is left for a request whether those ahead are counted as clear or as due
pub law_counts_ahead_agree_on_slot_left : (mode : QueueMode) (book : List Unanswered) (r : Unanswered) → IsInOrder book → Contains book r
    → (unblocked_ahead_count mode book r < free_slots mode book r.port) ↔ (due_ahead_count mode book r < free_slots mode book r.port)
law_counts_ahead_agree_on_slot_left mode book r order here = (
  (λ lt. let le = less_due mode book r (ordered_from book order) (in_from book r here) in omega (arith, le, lt)),
  slot_by_due mode book r (ordered_from book order) (in_from book r here),
)
