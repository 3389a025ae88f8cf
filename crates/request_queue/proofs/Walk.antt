-- The walk gives a slot to the requests that are due, and ends where no later one is.
use Rattle.std.proofs.Common.{◌≡◌, ◌↔◌, ℕ, ◌<◌, ◌≤◌, ◌+◌, Bool, true, false, not, cond, ◌&&◌, ◌||◌, ◌==◌, List, [], ◌∷◌, ◌++◌, length, map, take, drop, Some, refl, sym, ap, ◌∙◌, subst, arith, append_assoc, lt-ltb, ltb-true, eqb-true, ⊎_elim}
use Rattle.std.specs.List.{count_by, filter, slice_get, Contains}
use Rattle.std.specs.Prelude.{nat_lt}
use Rattle.std.proofs.lemmas.Bool.{and_parts, and_from, or_cases, or_left, or_right, cond-true, cond-false, not-true, both_ways, false_from_ne_true}
use Rattle.std.proofs.lemmas.List.{take-append-drop, map-append, append-nil, length-map}
use Rattle.std.proofs.lemmas.List.Folds.{list_any_at}
use Rattle.std.proofs.lemmas.List.Sums.{length-filter}
use Rattle.std.proofs.lemmas.List.Elements.{filter-append}
use Rattle.std.proofs.lemmas.Option.{slice_get_within, get_or_from_slice_get}
use Rattle.ata_types.specs.declared.Port.{Port}
use Rattle.ata_types.specs.declared.request.RequestId.{RequestId}
use Rattle.block_machine.specs.declared.due.QueueMode.{QueueMode}
use Rattle.block_machine.specs.declared.due.Unanswered.{Unanswered}
use Rattle.block_machine.specs.DueRequests.{IsInOrder, conflict_on_port_by_flush_or_overlap, waits_for, is_plain, is_waiting_and_unblocked, unblocked_ahead_count, free_slots, is_due, due_ahead_count}
use Rattle.request_queue.proofs.Members.{taken_more, count_least, none_pass}

turn : (a b c : Bool) → ((a && b) && c) ≡ (b && (a && c))
turn true true c = refl
turn true false c = refl
turn false true c = refl
turn false false c = refl

same_lt : (a b n : ℕ) → (a < n) ↔ (b < n) → nat_lt a n ≡ nat_lt b n
same_lt a b n both = go (nat_lt a n) (nat_lt b n) refl refl
  where
    go : (x y : Bool) → nat_lt a n ≡ x → nat_lt b n ≡ y → nat_lt a n ≡ nat_lt b n
    go true true p q = p ∙ sym q
    go false false p q = p ∙ sym q
    go true false p q = absurd (both_ways _ q (lt-ltb b n (both.0 (ltb-true a n p))))
    go false true p q = absurd (both_ways _ p (lt-ltb a n (both.1 (ltb-true b n q))))

abbrev pub due_test : QueueMode → Port → List Unanswered → Unanswered → Bool
due_test mode port book x = x.port.0 == port.0 && is_due mode book x

-- what the walk has before this place
abbrev pub ids_so_far : QueueMode → Port → List Unanswered → ℕ → List RequestId
ids_so_far mode port book i = map (λ (x : Unanswered). x.id) (filter (due_test mode port book) (take i book))

-- the walk's tests of a request of the port, where so many slots are free and so many of them are given away: whether it goes, and whether no
-- later one does
abbrev pub walk_test : QueueMode → List Unanswered → Unanswered → ℕ → ℕ → Bool
walk_test mode book r given free = is_waiting_and_unblocked mode book r && (is_plain mode r.op || nat_lt given free)

abbrev pub end_test : QueueMode → Unanswered → ℕ → ℕ → Bool
end_test mode r given free = is_plain mode r.op || not (nat_lt given free)

-- two laws of the machine: those that stand before a request are the earlier ones, and a slot is left after them, clear or due
abbrev pub StandBefore : Type 0
StandBefore = (passes : Unanswered → Bool) (front back : List Unanswered) (r : Unanswered) → IsInOrder (front ++ r ∷ back)
    → count_by (λ other. nat_lt other.id.0 r.id.0 && passes other) (front ++ r ∷ back) ≡ count_by passes front

abbrev pub SlotsByDue : Type 0
SlotsByDue = (mode : QueueMode) (book : List Unanswered) (r : Unanswered) → IsInOrder book → Contains book r
    → (unblocked_ahead_count mode book r < free_slots mode book r.port) ↔ (due_ahead_count mode book r < free_slots mode book r.port)

module _ (before : StandBefore) (by_due : SlotsByDue) (mode : QueueMode) (port : Port) (book : List Unanswered) (ordered : IsInOrder book) where
  here : (i : ℕ) (r : Unanswered) → slice_get book i ≡ Some r → Contains book r
  here i r at = (i, slice_get_within book i r at, get_or_from_slice_get book i r r at)

  split : (i : ℕ) (r : Unanswered) → slice_get book i ≡ Some r → book ≡ take i book ++ r ∷ drop (i + 1) book
  split i r at =
      sym (take-append-drop (i + 1) book)
      ∙ (ap (λ (xs : List Unanswered). xs ++ drop (i + 1) book) (taken_more book i r at) ∙ append_assoc (take i book) (r ∷ []) (drop (i + 1) book))

  -- those that are due before a request are those that the walk took
  taken : (i : ℕ) (r : Unanswered) → slice_get book i ≡ Some r → r.port ≡ port → due_ahead_count mode book r ≡ count_by (due_test mode port book) (take i book)
  taken i r at own =
      let q : Unanswered → Bool = λ y. (y.port.0 == r.port.0) && is_due mode book y in
      let p : Unanswered → Bool = λ y. nat_lt y.id.0 r.id.0 && q y in
      let is = split i r at in
      let a : due_ahead_count mode book r ≡ count_by p book = ap (λ (t : Unanswered → Bool). count_by t book) (λ j y. turn (y.port.0 == r.port.0) (nat_lt y.id.0 r.id.0) (is_due mode book y) j) in
      let b : count_by p book ≡ count_by p (take i book ++ r ∷ drop (i + 1) book) = ap (λ (xs : List Unanswered). count_by p xs) is in
      let c = before q (take i book) (drop (i + 1) book) r (subst (λ (xs : List Unanswered). IsInOrder xs) is ordered) in
      let d : count_by q (take i book) ≡ count_by (due_test mode port book) (take i book) = ap (λ (x : Port). count_by (λ (y : Unanswered). (y.port.0 == x.0) && is_due mode book y) (take i book)) own in
      a ∙ b ∙ c ∙ d

  own_port : (r : Unanswered) → (r.port.0 == port.0) ≡ true → r.port ≡ port
  own_port r mine = ap (λ (n : ℕ). record { 0 = n }) (eqb-true r.port.0 port.0 mine)

  -- so the walk's test is the definition's
  pub walks : (i : ℕ) (r : Unanswered) (given : ℕ) → slice_get book i ≡ Some r → (r.port.0 == port.0) ≡ true → given ≡ count_by (due_test mode port book) (take i book)
      → walk_test mode book r given (free_slots mode book port) ≡ due_test mode port book r
  walks i r given at mine counted =
      let own = own_port r mine in
      let slots : nat_lt given (free_slots mode book port) ≡ nat_lt (unblocked_ahead_count mode book r) (free_slots mode book r.port) =
      ap (λ (n : ℕ). nat_lt n (free_slots mode book port)) (counted ∙ sym (taken i r at own))
      ∙ (ap (λ (x : Port). nat_lt (due_ahead_count mode book r) (free_slots mode book x)) (sym own)
      ∙ sym (same_lt (unblocked_ahead_count mode book r) (due_ahead_count mode book r) (free_slots mode book r.port) (by_due mode book r ordered (here i r at)))) in
      ap (λ (x : Bool). is_waiting_and_unblocked mode book r && (is_plain mode r.op || x)) slots ∙ sym (ap (λ (b : Bool). b && is_due mode book r) mine)

  -- what stands in the way of a request isn't there where the request is clear
  without_blocker : (r o : Unanswered) → is_waiting_and_unblocked mode book o ≡ true → Contains book r → waits_for mode o r ≡ true → ⊥
  without_blocker r o clear h held =
      both_ways _ (not-true _ (and_parts _ _ clear).1)
      (list_any_at (waits_for mode o) book h.0 r h.1 (ap (waits_for mode o) h.2 ∙ held))

  -- no later one is due
  pub none_later : (i : ℕ) (r : Unanswered) (given : ℕ) → slice_get book i ≡ Some r → (r.port.0 == port.0) ≡ true → given ≡ count_by (due_test mode port book) (take (i + 1) book)
      → end_test mode r given (free_slots mode book port) ≡ true → (j : ℕ) (o : Unanswered) → i + 1 ≤ j → slice_get book j ≡ Some o → due_test mode port book o ≡ false
  none_later i r given at its counted ends j o later at_j = false_from_ne_true _ (λ due.
      let mine = and_parts (o.port.0 == port.0) _ due in
      let clear = and_parts (is_waiting_and_unblocked mode book o) _ mine.1 in
      let own = own_port o mine.0 in
      let of_one_port : (r.port.0 == o.port.0) ≡ true = ap (λ (x : Port). r.port.0 == x.0) own ∙ its in
      let first : r.id.0 < o.id.0 = earlier in
      let lt : nat_lt r.id.0 o.id.0 ≡ true = lt-ltb r.id.0 o.id.0 first in
      let held : waits_for mode o r ≡ true → ⊥ = without_blocker r o clear.0 (here i r at) in
      by of_one_port lt held own clear.1 (is_plain mode o.op) refl ends)
    where
      earlier : r.id.0 < o.id.0
      earlier =
          let lt = ordered i j r (omega (arith, later)) (slice_get_within book j o at_j) in
          let p = ap (λ (x : Unanswered). x.id.0) (get_or_from_slice_get book i r r at) in
          let q = ap (λ (x : Unanswered). x.id.0) (get_or_from_slice_get book j o r at_j) in
          omega (arith, lt, p, q)

      by : (r.port.0 == o.port.0) ≡ true → nat_lt r.id.0 o.id.0 ≡ true → (waits_for mode o r ≡ true → ⊥) → o.port ≡ port
          → (is_plain mode o.op || nat_lt (unblocked_ahead_count mode book o) (free_slots mode book o.port)) ≡ true
          → (b : Bool) → is_plain mode o.op ≡ b → (is_plain mode r.op || not (nat_lt given (free_slots mode book port))) ≡ true → ⊥
      by same lt held own slot true plain last =
          held (and_from _ _ same (cond-true (is_plain mode o.op) _ _ plain ∙ or_right r.issued _ lt))
      by same lt held own slot false queued last = ⊎_elim
          (λ (alone : is_plain mode r.op ≡ true).
          held (and_from _ _ same (cond-false (is_plain mode o.op) _ _ queued ∙ or_right (is_plain mode r.op && r.issued) _ (and_from _ _ lt (or_left (is_plain mode r.op) (conflict_on_port_by_flush_or_overlap r o) alone)))))
          (λ (spent : not (nat_lt given (free_slots mode book port)) ≡ true).
          let few = ⊎_elim
          (λ (plain : is_plain mode o.op ≡ true). absurd (both_ways _ queued plain))
          (λ (few : nat_lt (unblocked_ahead_count mode book o) (free_slots mode book o.port) ≡ true). few)
          (or_cases (is_plain mode o.op) _ slot) in
          let less = (by_due mode book o ordered (here j o at_j)).0 (ltb-true (unblocked_ahead_count mode book o) (free_slots mode book o.port) few) in
          let due : due_ahead_count mode book o < free_slots mode book port = subst (λ (x : Port). due_ahead_count mode book o < free_slots mode book x) own less in
          let t = taken j o at_j own in
          let more = count_least (due_test mode port book) book (i + 1) j later in
          let fits : given < free_slots mode book port = omega (arith, due, t, more, counted) in
          both_ways _ (not-true _ spent) (lt-ltb given (free_slots mode book port) fits))
          (or_cases (is_plain mode r.op) _ last)

-- ---- at a place of the book

module _ (before : StandBefore) (by_due : SlotsByDue) (mode : QueueMode) (port : Port) (book : List Unanswered) (ordered : IsInOrder book)
    (i : ℕ) (r : Unanswered) (at : slice_get book i ≡ Some r) (mine : (r.port.0 == port.0) ≡ true) (due : List RequestId) (so_far : due ≡ ids_so_far mode port book i) (given free : ℕ)
    (counted : given ≡ length due) (slots : free ≡ free_slots mode book port) where
  many : (n : ℕ) → length (ids_so_far mode port book n) ≡ count_by (due_test mode port book) (take n book)
  many n = length-map (filter (due_test mode port book) (take n book)) (λ (x : Unanswered). x.id) ∙ length-filter (due_test mode port book) (take n book)

  walks_at : walk_test mode book r given free ≡ due_test mode port book r
  walks_at = ap (λ (n : ℕ). walk_test mode book r given n) slots ∙ walks before by_due mode port book ordered i r given at mine (counted ∙ (ap length so_far ∙ many i))

  one_more : ids_so_far mode port book (i + 1) ≡ ids_so_far mode port book i ++ map (λ (x : Unanswered). x.id) (filter (due_test mode port book) (r ∷ []))
  one_more =
      ap (λ (xs : List Unanswered). map (λ (x : Unanswered). x.id) (filter (due_test mode port book) xs)) (taken_more book i r at)
      ∙ (ap (λ (xs : List Unanswered). map (λ (x : Unanswered). x.id) xs) (filter-append (due_test mode port book) (take i book) (r ∷ []))
      ∙ map-append (λ (x : Unanswered). x.id) (filter (due_test mode port book) (take i book)) (filter (due_test mode port book) (r ∷ [])))

  goes_on : walk_test mode book r given free ≡ true → due ++ r.id ∷ [] ≡ ids_so_far mode port book (i + 1)
  goes_on goes =
      let passes : due_test mode port book r ≡ true = sym walks_at ∙ goes in
      ap (λ (xs : List RequestId). xs ++ r.id ∷ []) so_far
      ∙ sym (one_more ∙ ap (λ (xs : List Unanswered). ids_so_far mode port book i ++ map (λ (x : Unanswered). x.id) xs) (cond-true (due_test mode port book r) (r ∷ []) [] passes))

  stays_on : walk_test mode book r given free ≡ false → due ≡ ids_so_far mode port book (i + 1)
  stays_on stays =
      let fails : due_test mode port book r ≡ false = sym walks_at ∙ stays in
      so_far ∙ sym (one_more ∙ (ap (λ (xs : List Unanswered). ids_so_far mode port book i ++ map (λ (x : Unanswered). x.id) xs) (cond-false (due_test mode port book r) (r ∷ []) [] fails)
      ∙ append-nil (ids_so_far mode port book i)))

  -- what it has after this place
  pub steps_on : (after : List RequestId) (goes : Bool) → goes ≡ walk_test mode book r given free → after ≡ cond goes (due ++ r.id ∷ []) due → after ≡ ids_so_far mode port book (i + 1)
  steps_on after true goes is = is ∙ goes_on (sym goes)
  steps_on after false stays is = is ∙ stays_on (sym stays)

-- where the walk ends at this place, it has all
pub has_all : StandBefore → SlotsByDue → (mode : QueueMode) (port : Port) (book : List Unanswered) → IsInOrder book → (i : ℕ) (r : Unanswered) → slice_get book i ≡ Some r → (r.port.0 == port.0) ≡ true
    → (due : List RequestId) → due ≡ ids_so_far mode port book (i + 1) → (given free : ℕ) → given ≡ length due → free ≡ free_slots mode book port
    → end_test mode r given free ≡ true → due ≡ map (λ (x : Unanswered). x.id) (filter (due_test mode port book) book)
has_all before by_due mode port book ordered i r at mine due so_far given free counted slots ends =
    so_far ∙ ap (λ (xs : List Unanswered). map (λ (x : Unanswered). x.id) xs) (none_pass (due_test mode port book) book (i + 1)
    (none_later before by_due mode port book ordered i r given at mine many (ap (λ (n : ℕ). end_test mode r given n) (sym slots) ∙ ends)))
  where
    many : given ≡ count_by (due_test mode port book) (take (i + 1) book)
    many = counted ∙ (ap length so_far ∙ (length-map (filter (due_test mode port book) (take (i + 1) book)) (λ (x : Unanswered). x.id) ∙ length-filter (due_test mode port book) (take (i + 1) book)))

-- a walk that goes on has room for one more
pub has_room : (mode : QueueMode) (port : Port) (book : List Unanswered) (r : Unanswered) (given free : ℕ) → free ≡ free_slots mode book port → mode.usable_slots ≤ 32
    → end_test mode r given free ≡ false → given < 32
has_room mode port book r given free slots small goes_on =
    by (nat_lt given free) refl
  where
    by : (b : Bool) → nat_lt given free ≡ b → given < 32
    by true lt = let l = ltb-true given free lt in let f : free_slots mode book port ≤ mode.usable_slots = omega arith in omega (arith, l, f, small, slots)
    by false ge = absurd (both_ways _ goes_on (or_right (is_plain mode r.op) _ (ap not ge)))
