-- The request that was accepted last: where none was due before, no other is due.
use Rattle.std.proofs.Common.{◌≡◌, ℕ, zero, suc, ◌+◌, ◌≤◌, Bool, true, false, cond, not, ◌&&◌, ◌||◌, ◌==◌, List, [], ◌∷◌, ◌++◌, length, refl, sym, ap, ◌∙◌, subst, arith, le-ltb}
use Rattle.std.proofs.lemmas.Bool.{true≢false}
use Rattle.std.proofs.lemmas.List.{map-append}
use Rattle.std.proofs.lemmas.List.Elements.{All-contains_itself, filter-append}
use Rattle.std.proofs.lemmas.List.Folds.{list_any-append}
use Rattle.std.proofs.lemmas.List.Sums.{sum_by-append, sum_by-cons}
use Rattle.std.specs.List.{All, Contains, count_by, filter, list_any}
use Rattle.std.specs.Prelude.{nat_lt}
use Rattle.ata_types.specs.declared.Port.{Port}
use Rattle.block_machine.specs.declared.due.QueueMode.{QueueMode}
use Rattle.block_machine.specs.declared.due.Unanswered.{Unanswered}
use Rattle.block_machine.specs.DueRequests.{IsDue, NoneDue, unblocked_ahead_count, conflict_on_port_by_flush_or_overlap, due_of, free_slots, waits_for, is_waiting_and_unblocked, is_due, is_earlier_on_port, is_plain, issued_count}
use Rattle.request_queue.specs.BookEntries.{BookEntry, as_unanswered, unanswered_of}

-- ---- tests

held_no : (issued lt same plain other rest : Bool) → issued ≡ false → lt ≡ false
    → (same && (cond plain (issued || lt) ((other && issued) || (lt && rest)))) ≡ false
held_no true lt same plain other rest i l = absurd (true≢false i)
held_no false true same plain other rest i l = absurd (true≢false l)
held_no false false false plain other rest i l = refl
held_no false false true true other rest i l = refl
held_no false false true false true rest i l = refl
held_no false false true false false rest i l = refl

or_none : (b c : Bool) → c ≡ false → (b || (c || false)) ≡ b
or_none b true e = absurd (true≢false e)
or_none true false e = refl
or_none false false e = refl

and_none : (b c : Bool) → c ≡ false → (b && c) ≡ false
and_none b true e = absurd (true≢false e)
and_none true false e = refl
and_none false false e = refl

none_and : (b c : Bool) → b ≡ false → (b && c) ≡ false
none_and true c e = absurd (true≢false e)
none_and false c e = refl

-- ---- lists

-- it is so of each of them
abbrev pub EachOf : (Unanswered → Type 0) → List Unanswered → Type 0
EachOf P [] = Unit {0}
EachOf P (x ∷ xs) = P x × EachOf P xs

count_last : (p : Unanswered → Bool) (xs : List Unanswered) (x : Unanswered) → p x ≡ false → count_by p (xs ++ x ∷ []) ≡ count_by p xs
count_last p xs x e =
    let one : ◌≡◌ {A = ℕ} (cond (p x) 1 0) 0 = ap (λ (b : Bool). cond b 1 0) e in
    let whole = sum_by-append (λ y. cond (p y) 1 0) xs (x ∷ []) in
    let last = sum_by-cons (λ y. cond (p y) 1 0) x [] in
    omega (arith, one, whole, last)

count_same : (p q : Unanswered → Bool) (xs : List Unanswered) → EachOf (λ x. p x ≡ q x) xs → count_by p xs ≡ count_by q xs
count_same p q [] same = refl
count_same p q (x ∷ xs) same =
    let one : ◌≡◌ {A = ℕ} (cond (p x) 1 0) (cond (q x) 1 0) = ap (λ (b : Bool). cond b 1 0) same.0 in
    let rest = count_same p q xs same.1 in
    let first = sum_by-cons (λ y. cond (p y) 1 0) x xs in
    let second = sum_by-cons (λ y. cond (q y) 1 0) x xs in
    omega (arith, one, rest, first, second)

filter_same : (p q : Unanswered → Bool) (xs : List Unanswered) → EachOf (λ x. p x ≡ q x) xs → filter p xs ≡ filter q xs
filter_same p q [] same = refl
filter_same p q (x ∷ xs) same =
    ap (λ (b : Bool). cond b (x ∷ filter p xs) (filter p xs)) same.0 ∙ ap (λ (ys : List Unanswered). cond (q x) (x ∷ ys) ys) (filter_same p q xs same.1)

filter_one : (p : Unanswered → Bool) (x : Unanswered) → length (filter p (x ∷ [])) ≤ 1
filter_one p x = by (p x)
  where
    by : (b : Bool) → length (cond b (x ∷ []) []) ≤ 1
    by true = omega arith
    by false = omega arith

All_each : {P Q : Unanswered → Type 0} (xs : List Unanswered) → ((x : Unanswered) → P x → Q x) → EachOf P xs → EachOf Q xs
All_each [] each all = tt
All_each (x ∷ xs) each all = (each x all.0, All_each xs each all.1)

-- ---- one more request, which waits, after all others

module _ (mode : QueueMode) (book : List Unanswered) (r : Unanswered) (waits : r.issued ≡ false) where
  abbrev Earlier : Unanswered → Type 0
  Earlier x = nat_lt r.id.0 x.id.0 ≡ false

  abbrev longer : List Unanswered
  longer = book ++ r ∷ []

  -- it stands in the way of no earlier one
  free : (x : Unanswered) → Earlier x → waits_for mode x r ≡ false
  free x late = held_no r.issued (nat_lt r.id.0 x.id.0) (r.port.0 == x.port.0) (is_plain mode x.op) (is_plain mode r.op) (is_plain mode r.op || conflict_on_port_by_flush_or_overlap r x) waits late

  clear_same : (x : Unanswered) → Earlier x → is_waiting_and_unblocked mode longer x ≡ is_waiting_and_unblocked mode book x
  clear_same x late =
      ap (λ (b : Bool). not x.issued && not b) (list_any-append (waits_for mode x) book (r ∷ []) ∙ or_none (list_any (waits_for mode x) book) (waits_for mode x r) (free x late))

  ahead_same : EachOf Earlier book → (x : Unanswered) → Earlier x → unblocked_ahead_count mode longer x ≡ unblocked_ahead_count mode book x
  ahead_same all x late =
      count_last (λ other. is_earlier_on_port other x && is_waiting_and_unblocked mode longer other) book r
      (none_and (is_earlier_on_port r x) (is_waiting_and_unblocked mode longer r) (and_none (r.port.0 == x.port.0) (nat_lt r.id.0 x.id.0) late))
      ∙ count_same (λ other. is_earlier_on_port other x && is_waiting_and_unblocked mode longer other) (λ other. is_earlier_on_port other x && is_waiting_and_unblocked mode book other) book
      (All_each book (λ other its. ap (λ (b : Bool). is_earlier_on_port other x && b) (clear_same other its)) all)

  free_same : (port : Port) → free_slots mode longer port ≡ free_slots mode book port
  free_same port =
      let same : issued_count longer port ≡ issued_count book port =
      count_last (λ other. other.port.0 == port.0 && other.issued) book r (and_none (r.port.0 == port.0) r.issued waits) in
      omega (arith, same)

  due_same : EachOf Earlier book → (x : Unanswered) → Earlier x → is_due mode longer x ≡ is_due mode book x
  due_same all x late =
      ap (λ (b : Bool). b && (is_plain mode x.op || nat_lt (unblocked_ahead_count mode longer x) (free_slots mode longer x.port))) (clear_same x late)
      ∙ ap (λ (n : ℕ). is_waiting_and_unblocked mode book x && (is_plain mode x.op || nat_lt n (free_slots mode longer x.port))) (ahead_same all x late)
      ∙ ap (λ (n : ℕ). is_waiting_and_unblocked mode book x && (is_plain mode x.op || nat_lt (unblocked_ahead_count mode book x) n)) (free_same x.port)

  pub due_alone : (port : Port) → EachOf Earlier book → due_of mode port book ≡ [] → length (due_of mode port longer) ≤ 1
  due_alone port all none =
      let p : Unanswered → Bool = λ x. x.port.0 == port.0 && is_due mode longer x in
      let q : Unanswered → Bool = λ x. x.port.0 == port.0 && is_due mode book x in
      let whole = filter-append p book (r ∷ []) in
      let before : filter p book ≡ [] = filter_same p q book (All_each book (λ x its. ap (λ (b : Bool). x.port.0 == port.0 && b) (due_same all x its)) all) ∙ none in
      let same : filter p longer ≡ filter p (r ∷ []) = whole ∙ ap (λ (xs : List Unanswered). xs ++ filter p (r ∷ [])) before in
      subst (λ (xs : List Unanswered). length xs ≤ 1) (sym same) (filter_one p r)

-- what has no member is empty
empty : (xs : List Unanswered) → ((x : Unanswered) → Contains xs x → ⊥) → xs ≡ []
empty [] none = refl
empty (x ∷ xs) none = absurd (none x (All-contains_itself (x ∷ xs) zero x (omega arith)))

-- none is in the list of the due ones
pub none_of_them : (mode : QueueMode) (port : Port) (book : List Unanswered) → ((x : Unanswered) → Contains (due_of mode port book) x → (x.port ≡ port) × IsDue mode book x) → NoneDue mode book port
    → due_of mode port book ≡ []
none_of_them mode port book are none = empty (due_of mode port book) (λ x has. let is = are x has in none x is.0 is.1)

-- the ids of a book are below the next one
pub all_earlier : (book : List BookEntry) (last : ℕ) (r : Unanswered) → r.id.0 ≡ last + 1 → All (λ e. e.request.id.0 ≤ last) book → EachOf (λ x. nat_lt r.id.0 x.id.0 ≡ false) (unanswered_of book)
all_earlier [] last r is all = tt
all_earlier (e ∷ book) last r is all = (
  le-ltb r.id.0 e.request.id.0 (let first = all zero e (omega arith) in omega (arith, is, first)),
  all_earlier book last r is (λ k d low. all (suc k) d (omega (arith, low))),
)

-- what is asked, with one more at the end
pub asks_more : (book : List BookEntry) (e : BookEntry) → unanswered_of (book ++ e ∷ []) ≡ unanswered_of book ++ as_unanswered e.request ∷ []
asks_more book e = map-append (λ (x : BookEntry). as_unanswered x.request) book (e ∷ [])
