-- A port that takes plain commands alone.
use Rattle.std.proofs.Common.{◌≡◌, ℕ, ◌<◌, ◌≤◌, Bool, true, false, cond, not, ◌||◌, ◌==◌, List, [], ◌∷◌, length, inl, inr, refl, sym, ap, ◌∙◌, arith, eqb-true, eq-eqb, lt-ltb, le-ltb}
use Rattle.std.proofs.lemmas.Bool.{and_parts, and_from, or_left, or_right, cond-true, cond-false, both_ways, false_from_ne_true, not_from_false}
use Rattle.std.proofs.lemmas.List.Sums.{length-filter}
use Rattle.std.specs.List.{Contains, list_any, count_by, filter}
use Rattle.std.specs.Prelude.{nat_lt}
use Rattle.ata_types.specs.declared.Port.{Port}
use Rattle.ata_types.specs.declared.request.Op.{Op}
use Rattle.ata_types.specs.declared.request.Op.TheVariants.{Read, Write, Trim, Flush}
use Rattle.block_machine.specs.declared.due.QueueMode.{QueueMode}
use Rattle.block_machine.specs.declared.due.Unanswered.{Unanswered}
use Rattle.block_machine.specs.DueRequests.{IsInOrder, waits_for, is_plain, is_waiting_and_unblocked, due_of}
use Rattle.block_machine.proofs.Order.{In, Ordered, in_from, from_in, ordered_from}
use Rattle.block_machine.proofs.Counting.{count_cons, count_none, unheld}
use Rattle.block_machine.proofs.Keeps.{same_port}
use Rattle.block_machine.proofs.Turns.{due_test, in_filter}

filter_none : (p : Unanswered → Bool) (xs : List Unanswered) → ((x : Unanswered) → In x xs → p x ≡ false) → filter p xs ≡ []
filter_none p [] none = refl
filter_none p (x ∷ xs) none = cond-false (p x) (x ∷ filter p xs) (filter p xs) (none x (inl refl)) ∙ filter_none p xs (λ y h. none y (inr h))

any_none : (p : Unanswered → Bool) (xs : List Unanswered) → ((x : Unanswered) → In x xs → p x ≡ false) → list_any p xs ≡ false
any_none p [] none = refl
any_none p (x ∷ xs) none = ap (λ (b : Bool). b || list_any p xs) (none x (inl refl)) ∙ any_none p xs (λ y h. none y (inr h))

-- where no later one passes after one that does, one passes at most
few : (p : Unanswered → Bool) (xs : List Unanswered) → Ordered xs → ((a b : Unanswered) → In a xs → In b xs → a.id.0 < b.id.0 → p a ≡ true → p b ≡ false) → count_by p xs ≤ 1
few p [] order alone = omega arith
few p (x ∷ xs) order alone = by (p x) refl (few p xs order.1 (λ a b h k lt t. alone a b (inr h) (inr k) lt t))
  where
    by : (b : Bool) → p x ≡ b → count_by p xs ≤ 1 → count_by p (x ∷ xs) ≤ 1
    by true t rest =
        let none = count_none p xs (λ y k. alone x y (inl refl) (inr k) (order.0 y k) t) in
        let one : ◌≡◌ {A = ℕ} (cond (p x) 1 0) 1 = cond-true (p x) 1 0 t in
        omega (arith, none, one, count_cons p x xs)
    by false t rest = let zero : ◌≡◌ {A = ℕ} (cond (p x) 1 0) 0 = cond-false (p x) 1 0 t in omega (arith, rest, zero, count_cons p x xs)

single : (xs : List Unanswered) (r : Unanswered) → length xs ≤ 1 → In r xs → xs ≡ r ∷ []
single [] r short h = absurd h
single (x ∷ []) r short (inl same) = ap (λ (y : Unanswered). y ∷ []) (sym same)
single (x ∷ []) r short (inr h) = absurd h
single (x ∷ y ∷ ys) r short h = absurd (omega (arith, short))

module _ (mode : QueueMode) (unqueued : mode.queued ≡ false) (port : Port) (book : List Unanswered) where
  plain : (op : Op) → is_plain mode op ≡ true
  plain Read = ap not unqueued
  plain Write = ap not unqueued
  plain Trim = refl
  plain Flush = refl

  -- one that is issued or earlier keeps the others of its port waiting
  kept_waiting : (r o : Unanswered) → Contains book r → r.port ≡ port → (r.issued || nat_lt r.id.0 o.id.0) ≡ true → due_test mode port book o ≡ false
  kept_waiting r o h own first = false_from_ne_true _ (λ due.
      let mine = and_parts (o.port.0 == port.0) _ due in
      let clear = and_parts (is_waiting_and_unblocked mode book o) _ mine.1 in
      let same : (r.port.0 == o.port.0) ≡ true = eq-eqb r.port.0 o.port.0 (ap (λ (p : Port). p.0) (own ∙ sym (same_port o.port port (eqb-true o.port.0 port.0 mine.0)))) in
      let held : waits_for mode o r ≡ true = and_from _ _ same (cond-true (is_plain mode o.op) _ _ (plain o.op) ∙ first) in
      both_ways _ (unheld mode book o clear.0 r h) held)

  pub none_due : (r : Unanswered) → Contains book r → r.port ≡ port → r.issued ≡ true → due_of mode port book ≡ []
  none_due r h own issued = filter_none (due_test mode port book) book (λ o k. kept_waiting r o h own (or_left r.issued _ issued))

  pub one_due : IsInOrder book → length (due_of mode port book) ≤ 1
  one_due order =
      let c = few (due_test mode port book) book (ordered_from book order) (λ a b h k lt t.
      let mine = and_parts (a.port.0 == port.0) _ t in
      kept_waiting a b (from_in a book h) (same_port a.port port (eqb-true a.port.0 port.0 mine.0)) (or_right a.issued _ (lt-ltb a.id.0 b.id.0 lt))) in
      let n = length-filter (due_test mode port book) book in
      omega (arith, c, n)

  pub first_due : (r : Unanswered) → IsInOrder book → Contains book r → r.port ≡ port
      → ((other : Unanswered) → Contains book other → other.port ≡ port → (other.issued ≡ false) × (r.id.0 ≤ other.id.0)) → due_of mode port book ≡ r ∷ []
  first_due r order h own first = single (due_of mode port book) r (one_due order) (in_filter (due_test mode port book) book r goes (in_from book r h))
    where
      free : (o : Unanswered) → In o book → waits_for mode r o ≡ false
      free o k = false_from_ne_true _ (λ held.
          let mine = and_parts (o.port.0 == r.port.0) _ held in
          let its = first o (from_in o book k) (same_port o.port r.port (eqb-true o.port.0 r.port.0 mine.0) ∙ own) in
          let blocks : (o.issued || nat_lt o.id.0 r.id.0) ≡ true = sym (cond-true (is_plain mode r.op) _ _ (plain r.op)) ∙ mine.1 in
          both_ways _ (le-ltb o.id.0 r.id.0 its.1) (sym (ap (λ (b : Bool). b || nat_lt o.id.0 r.id.0) its.0) ∙ blocks))

      clear : is_waiting_and_unblocked mode book r ≡ true
      clear = and_from _ _ (not_from_false r.issued (first r h own).0) (not_from_false _ (any_none (waits_for mode r) book free))

      goes : due_test mode port book r ≡ true
      goes = and_from _ _ (eq-eqb r.port.0 port.0 (ap (λ (p : Port). p.0) own)) (and_from _ _ clear (or_left (is_plain mode r.op) _ (plain r.op)))
