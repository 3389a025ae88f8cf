-- A walk over the requests without a blocker finds all that are due.
use Rattle.std.proofs.Common.{◌≡◌, ℕ, zero, suc, ◌-◌, ◌<◌, ◌≤◌, Bool, true, false, not, cond, ◌&&◌, ◌||◌, ◌==◌, List, [], ◌∷◌, refl, sym, ap, ◌∙◌, subst, arith, lt-ltb, ltb-true, eqb-true, ⊎_elim}
use Rattle.std.specs.List.{Contains, count_by, filter, list_any}
use Rattle.std.specs.Prelude.{nat_lt}
use Rattle.std.proofs.lemmas.Bool.{and_parts, and_from, or_cases, or_right, cond-true, cond-false, not-true, both_ways, false_from_ne_true}
use Rattle.std.proofs.lemmas.List.Elements.{All-contains, All-contains_itself, All-filter, filter_passes}
use Rattle.std.proofs.lemmas.List.Folds.{list_any_at, Any-from_list_any}
use Rattle.ata_types.specs.declared.Port.{Port}
use Rattle.ata_types.specs.declared.request.Op.{Op}
use Rattle.ata_types.specs.declared.request.Op.TheVariants.{Read, Write, Trim, Flush}
use Rattle.block_machine.specs.declared.due.QueueMode.{QueueMode}
use Rattle.block_machine.specs.declared.due.Unanswered.{Unanswered}
use Rattle.block_machine.specs.DueRequests.{unblocked_ahead_count, conflict_on_port_by_flush_or_overlap, due_of, free_slots, waits_for, is_waiting_and_unblocked, is_due, is_earlier_on_port, is_flush, is_plain, issued_count}
use Rattle.request_queue.specs.Blockers.{waiting_read_or_write_has_blocker, is_read_or_write, is_waiting_read_or_write, conflicts_with_earlier, without_blocker}
use Rattle.request_queue.proofs.Members.{count_cons, contains_none, contains_here, contains_there, contains_cases}

-- ---- tests and lists

pub same_bool : (a b : Bool) → (a ≡ true → b ≡ true) → (b ≡ true → a ≡ true) → a ≡ b
same_bool true true f g = refl
same_bool false false f g = refl
same_bool true false f g = sym (f refl)
same_bool false true f g = g refl

pub in_filter : {X : Type 0} (p : X → Bool) (xs : List X) (x : X) → Contains xs x → p x ≡ true → Contains (filter p xs) x
in_filter p [] x there passes = absurd (contains_none x there)
in_filter {X} p (y ∷ xs) x there passes = ⊎_elim
    (λ (same : x ≡ y). subst (λ (list : List X). Contains list x) (sym (cond-true (p y) (y ∷ filter p xs) (filter p xs) (ap p (sym same) ∙ passes))) (contains_here y (filter p xs) x same))
    (λ (later : Contains xs x). by (p y) (in_filter p xs x later passes))
    (contains_cases y xs x there)
  where
    by : (b : Bool) → Contains (filter p xs) x → Contains (cond b (y ∷ filter p xs) (filter p xs)) x
    by true rest = contains_there y (filter p xs) x rest
    by false rest = rest

pub found : {X : Type 0} (p : X → Bool) (xs : List X) (x : X) → Contains xs x → p x ≡ true → list_any p xs ≡ true
found p xs x there is = list_any_at p xs there.0 x there.1 (ap p there.2 ∙ is)

pub one_found : {X : Type 0} (p : X → Bool) (xs : List X) → list_any p xs ≡ true → (x : X) × Contains xs x × (p x ≡ true)
one_found p xs is = let any = Any-from_list_any p xs is in (any.1, (any.0, any.2, any.3), any.4)

-- what a filter leaves is of the list, and passes
pub of_filter : {X : Type 0} (p : X → Bool) (xs : List X) (x : X) → Contains (filter p xs) x → Contains xs x × (p x ≡ true)
of_filter p xs x there =
    (All-contains (Contains xs) (filter p xs) x (All-filter p (Contains xs) xs (All-contains_itself xs)) there, All-contains (λ y. p y ≡ true) (filter p xs) x (filter_passes p xs) there)

-- a filter of what a filter leaves
pub filtered_twice : {X : Type 0} (p q t : X → Bool) (xs : List X) → ((x : X) → Contains xs x → t x ≡ (p x && q x)) → filter t xs ≡ filter q (filter p xs)
filtered_twice p q t [] same = refl
filtered_twice {X} p q t (x ∷ xs) same = go (p x) refl (filtered_twice p q t xs (λ y h. same y (contains_there x xs y h))) (same x (contains_here x xs x refl))
  where
    go : (b : Bool) → p x ≡ b → filter t xs ≡ filter q (filter p xs) → t x ≡ (p x && q x) → filter t (x ∷ xs) ≡ filter q (cond b (x ∷ filter p xs) (filter p xs))
    go true is rest head =
        ap (λ (b : Bool). cond b (x ∷ filter t xs) (filter t xs)) (head ∙ ap (λ (b : Bool). b && q x) is)
        ∙ ap (λ (ys : List X). cond (q x) (x ∷ ys) ys) rest
    go false is rest head =
        ap (λ (b : Bool). cond b (x ∷ filter t xs) (filter t xs)) (head ∙ ap (λ (b : Bool). b && q x) is) ∙ rest

-- a count over what a filter leaves
pub counted_within : {X : Type 0} (p q t : X → Bool) (xs : List X) → ((x : X) → Contains xs x → t x ≡ (p x && q x)) → count_by t xs ≡ count_by q (filter p xs)
counted_within p q t [] same = refl
counted_within {X} p q t (x ∷ xs) same = go (p x) refl (counted_within p q t xs (λ y h. same y (contains_there x xs y h))) (same x (contains_here x xs x refl))
  where
    go : (b : Bool) → p x ≡ b → count_by t xs ≡ count_by q (filter p xs) → t x ≡ (p x && q x) → count_by t (x ∷ xs) ≡ count_by q (cond b (x ∷ filter p xs) (filter p xs))
    go true is rest head =
        let one : ◌≡◌ {A = ℕ} (cond (t x) 1 0) (cond (q x) 1 0) = ap (λ (b : Bool). cond {A = ℕ} b 1 0) (head ∙ ap (λ (b : Bool). b && q x) is) in
        omega (arith, one, rest, count_cons t x xs, count_cons q x (filter p xs))
    go false is rest head =
        let none : ◌≡◌ {A = ℕ} (cond (t x) 1 0) 0 = ap (λ (b : Bool). cond {A = ℕ} b 1 0) (head ∙ ap (λ (b : Bool). b && q x) is) in
        omega (arith, none, rest, count_cons t x xs)

-- ---- operations

-- where one read or write is queued, all are
queued_with : (mode : QueueMode) (a b : Op) → is_plain mode a ≡ false → is_read_or_write b ≡ true → is_plain mode b ≡ false
queued_with mode Read Read q is = q
queued_with mode Read Write q is = q
queued_with mode Write Read q is = q
queued_with mode Write Write q is = q
queued_with mode Trim b q is = absurd (both_ways _ q refl)
queued_with mode Flush b q is = absurd (both_ways _ q refl)
queued_with mode Read Trim q is = absurd (both_ways _ refl is)
queued_with mode Read Flush q is = absurd (both_ways _ refl is)
queued_with mode Write Trim q is = absurd (both_ways _ refl is)
queued_with mode Write Flush q is = absurd (both_ways _ refl is)

pub queued_is_read_or_write : (mode : QueueMode) (op : Op) → is_plain mode op ≡ false → is_read_or_write op ≡ true
queued_is_read_or_write mode Read q = refl
queued_is_read_or_write mode Write q = refl
queued_is_read_or_write mode Trim q = absurd (both_ways _ q refl)
queued_is_read_or_write mode Flush q = absurd (both_ways _ q refl)

pub no_flush : (op : Op) → is_read_or_write op ≡ true → is_flush op ≡ false
no_flush Read is = refl
no_flush Write is = refl
no_flush Trim is = refl
no_flush Flush is = absurd (both_ways _ refl is)

-- ---- without a blocker

module _ (mode : QueueMode) (port : Port) (book : List Unanswered) where
  abbrev p : Unanswered → Bool
  p r = r.port.0 == port.0 && not (waiting_read_or_write_has_blocker book r)

  waits : (r : Unanswered) → waiting_read_or_write_has_blocker book r ≡ true → r.issued ≡ false
  waits r held = not-true r.issued (and_parts (not r.issued) _ (and_parts (is_waiting_read_or_write r) _ held).0).0

  -- its blocker was accepted before it, on its port
  its_holder : (r : Unanswered) → waiting_read_or_write_has_blocker book r ≡ true → (o : Unanswered) × Contains book o × ((o.port.0 == r.port.0) ≡ true) × (o.id.0 < r.id.0)
      × (conflict_on_port_by_flush_or_overlap o r ≡ true)
  its_holder r held =
      let any = one_found (conflicts_with_earlier r) book (and_parts (is_waiting_read_or_write r) _ held).1 in
      let parts = and_parts (is_earlier_on_port any.0 r) _ any.2 in
      let early = and_parts (any.0.port.0 == r.port.0) _ parts.0 in
      (any.0, any.1, early.0, ltb-true any.0.id.0 r.id.0 early.1, parts.1)

  -- one with a blocker isn't clear
  held_back : (r : Unanswered) → waiting_read_or_write_has_blocker book r ≡ true → is_waiting_and_unblocked mode book r ≡ false
  held_back r held = false_from_ne_true _ (λ clear.
      let o = its_holder r held in
      both_ways _ (not-true _ (and_parts (not r.issued) _ clear).1) (found (waits_for mode r) book o.0 o.1 (by o.0 o.2 (lt-ltb o.0.id.0 r.id.0 o.3) o.4 (is_plain mode r.op) refl)))
    where
      by : (o : Unanswered) → (o.port.0 == r.port.0) ≡ true → nat_lt o.id.0 r.id.0 ≡ true → conflict_on_port_by_flush_or_overlap o r ≡ true → (b : Bool) → is_plain mode r.op ≡ b → waits_for mode r o ≡ true
      by o same lt meets true plain = and_from _ _ same (cond-true (is_plain mode r.op) _ _ plain ∙ or_right o.issued _ lt)
      by o same lt meets false queued = and_from _ _ same
          (cond-false (is_plain mode r.op) _ _ queued ∙ or_right (is_plain mode o.op && o.issued) _ (and_from _ _ lt (or_right (is_plain mode o.op) _ meets)))

  -- and one without is at least as early
  earliest : (bound : ℕ) (o : Unanswered) → o.id.0 < bound → Contains book o → (o.port.0 == port.0) ≡ true
      → (f : Unanswered) × Contains (without_blocker port book) f × (f.id.0 ≤ o.id.0) × ((f.port.0 == port.0) ≡ true)
  earliest zero o lt there own = absurd (omega (arith, lt))
  earliest (suc bound) o lt there own = go (earliest bound) (waiting_read_or_write_has_blocker book o) refl
    where
      go : ((u : Unanswered) → u.id.0 < bound → Contains book u → (u.port.0 == port.0) ≡ true → (f : Unanswered) × Contains (without_blocker port book) f × (f.id.0 ≤ u.id.0) × ((f.port.0 == port.0) ≡ true))
          → (b : Bool) → waiting_read_or_write_has_blocker book o ≡ b → (f : Unanswered) × Contains (without_blocker port book) f × (f.id.0 ≤ o.id.0) × ((f.port.0 == port.0) ≡ true)
      go before true held =
          let u = its_holder o held in
          let less = u.3 in
          let same : (u.0.port.0 == port.0) ≡ true = ap (λ (n : ℕ). u.0.port.0 == n) (sym (eqb-true o.port.0 port.0 own)) ∙ u.2 in
          let rest = before u.0 (omega (arith, lt, less)) u.1 same in
          let low = rest.2 in
          (rest.0, rest.1, omega (arith, low, less), rest.3)
      go before false free = (o, in_filter p book o there (and_from _ _ own (ap not free)), omega arith, own)

  -- what holds such a one back holds it back among those without a blocker
  still_back : (x : Unanswered) → p x ≡ true → x.issued ≡ false → list_any (waits_for mode x) book ≡ true → list_any (waits_for mode x) (without_blocker port book) ≡ true
  still_back x passes free is = go (p o) refl
    where
      any : (o : Unanswered) × Contains book o × (waits_for mode x o ≡ true)
      any = one_found (waits_for mode x) book is

      o : Unanswered
      o = any.0

      parts : ((o.port.0 == x.port.0) ≡ true) × (cond (is_plain mode x.op) (o.issued || nat_lt o.id.0 x.id.0)
          ((is_plain mode o.op && o.issued) || (nat_lt o.id.0 x.id.0 && (is_plain mode o.op || conflict_on_port_by_flush_or_overlap o x))) ≡ true)
      parts = and_parts (o.port.0 == x.port.0) _ any.2

      mine : ((x.port.0 == port.0) ≡ true) × (not (waiting_read_or_write_has_blocker book x) ≡ true)
      mine = and_parts (x.port.0 == port.0) _ passes

      own : (o.port.0 == port.0) ≡ true
      own = ap (λ (n : ℕ). o.port.0 == n) (sym (eqb-true x.port.0 port.0 mine.0)) ∙ parts.0

      entry_with_id : p o ≡ false → waiting_read_or_write_has_blocker book o ≡ true
      entry_with_id out = by (waiting_read_or_write_has_blocker book o) refl
        where
          by : (b : Bool) → waiting_read_or_write_has_blocker book o ≡ b → waiting_read_or_write_has_blocker book o ≡ true
          by true is = is
          by false is = absurd (both_ways _ out (and_from _ _ own (ap not is)))

      -- a plain one is held back by the first
      first : nat_lt o.id.0 x.id.0 ≡ true → is_plain mode x.op ≡ true → list_any (waits_for mode x) (without_blocker port book) ≡ true
      first less plain =
          let f = earliest (suc o.id.0) o (omega arith) any.1 own in
          let low = f.2 in
          let lt = ltb-true o.id.0 x.id.0 less in
          let same : (f.0.port.0 == x.port.0) ≡ true = ap (λ (n : ℕ). f.0.port.0 == n) (eqb-true x.port.0 port.0 mine.0) ∙ f.3 in
          found (waits_for mode x) (without_blocker port book) f.0 f.1
          (and_from _ _ same (cond-true (is_plain mode x.op) _ _ plain ∙ or_right f.0.issued _ (lt-ltb f.0.id.0 x.id.0 (omega (arith, low, lt)))))

      -- a queued one would have a blocker
      none : waiting_read_or_write_has_blocker book o ≡ true → nat_lt o.id.0 x.id.0 ≡ true → is_plain mode x.op ≡ false → conflict_on_port_by_flush_or_overlap o x ≡ true → ⊥
      none held less queued meets =
          both_ways _ (not-true _ mine.1)
          (and_from (is_waiting_read_or_write x) _ (and_from (not x.issued) _ (ap not free) (queued_is_read_or_write mode x.op queued))
          (found (conflicts_with_earlier x) book o any.1 (and_from _ _ (and_from _ _ parts.0 less) meets)))

      out_of : waiting_read_or_write_has_blocker book o ≡ true → (b : Bool) → is_plain mode x.op ≡ b → list_any (waits_for mode x) (without_blocker port book) ≡ true
      out_of held true plain = ⊎_elim
          (λ (issued : o.issued ≡ true). absurd (both_ways _ (waits o held) issued))
          (λ (less : nat_lt o.id.0 x.id.0 ≡ true). first less plain)
          (or_cases o.issued _ (sym (cond-true (is_plain mode x.op) _ _ plain) ∙ parts.1))
      out_of held false queued = ⊎_elim
          (λ (alone : (is_plain mode o.op && o.issued) ≡ true). absurd (both_ways _ (waits o held) (and_parts (is_plain mode o.op) _ alone).1))
          (λ (early : (nat_lt o.id.0 x.id.0 && (is_plain mode o.op || conflict_on_port_by_flush_or_overlap o x)) ≡ true).
          let two = and_parts (nat_lt o.id.0 x.id.0) _ early in
          let read_or_write = (and_parts (not o.issued) _ (and_parts (is_waiting_read_or_write o) _ held).0).1 in
          absurd (⊎_elim
          (λ (plain : is_plain mode o.op ≡ true). both_ways _ (queued_with mode x.op o.op queued read_or_write) plain)
          (λ (meets : conflict_on_port_by_flush_or_overlap o x ≡ true). none held two.0 queued meets)
          (or_cases (is_plain mode o.op) _ two.1)))
          (or_cases (is_plain mode o.op && o.issued) _ (sym (cond-false (is_plain mode x.op) _ _ queued) ∙ parts.1))

      go : (b : Bool) → p o ≡ b → list_any (waits_for mode x) (without_blocker port book) ≡ true
      go true in_it = found (waits_for mode x) (without_blocker port book) o (in_filter p book o any.1 in_it) any.2
      go false out = out_of (entry_with_id out) (is_plain mode x.op) refl

  -- so it is clear among them where it is clear
  same_clear : (x : Unanswered) → p x ≡ true → is_waiting_and_unblocked mode (without_blocker port book) x ≡ is_waiting_and_unblocked mode book x
  same_clear x passes = go x.issued refl
    where
      fewer : list_any (waits_for mode x) (without_blocker port book) ≡ true → list_any (waits_for mode x) book ≡ true
      fewer is = let any = one_found (waits_for mode x) (without_blocker port book) is in found (waits_for mode x) book any.0 (of_filter p book any.0 any.1).0 any.2

      go : (b : Bool) → x.issued ≡ b → is_waiting_and_unblocked mode (without_blocker port book) x ≡ is_waiting_and_unblocked mode book x
      go true issued = ap (λ (b : Bool). not b && not (list_any (waits_for mode x) (without_blocker port book))) issued
          ∙ sym (ap (λ (b : Bool). not b && not (list_any (waits_for mode x) book)) issued)
      go false free = ap (λ (b : Bool). not x.issued && not b) (same_bool (list_any (waits_for mode x) (without_blocker port book)) (list_any (waits_for mode x) book) fewer (still_back x passes free))

  out_of_way : (x : Unanswered) → p x ≡ false → (x.port.0 == port.0) ≡ true → is_waiting_and_unblocked mode book x ≡ false
  out_of_way x out own = by (waiting_read_or_write_has_blocker book x) refl
    where
      by : (b : Bool) → waiting_read_or_write_has_blocker book x ≡ b → is_waiting_and_unblocked mode book x ≡ false
      by true held = held_back x held
      by false free = absurd (both_ways _ out (and_from _ _ own (ap not free)))

  same_ahead : (r : Unanswered) → (r.port.0 == port.0) ≡ true → unblocked_ahead_count mode (without_blocker port book) r ≡ unblocked_ahead_count mode book r
  same_ahead r own = sym (counted_within p (λ (o : Unanswered). is_earlier_on_port o r && is_waiting_and_unblocked mode (without_blocker port book) o) (λ (o : Unanswered). is_earlier_on_port o r && is_waiting_and_unblocked mode book o) book (λ o there. go o (p o) refl))
    where
      go : (o : Unanswered) (b : Bool) → p o ≡ b → (is_earlier_on_port o r && is_waiting_and_unblocked mode book o) ≡ (p o && (is_earlier_on_port o r && is_waiting_and_unblocked mode (without_blocker port book) o))
      go o true passes = ap (λ (c : Bool). is_earlier_on_port o r && c) (sym (same_clear o passes)) ∙ sym (ap (λ (c : Bool). c && (is_earlier_on_port o r && is_waiting_and_unblocked mode (without_blocker port book) o)) passes)
      go o false out = false_from_ne_true _ (λ both.
          let two = and_parts (is_earlier_on_port o r) _ both in
          let same = (and_parts (o.port.0 == r.port.0) _ two.0).0 in
          both_ways _ (out_of_way o out (ap (λ (n : ℕ). o.port.0 == n) (sym (eqb-true r.port.0 port.0 own)) ∙ same)) two.1)
          ∙ sym (ap (λ (c : Bool). c && (is_earlier_on_port o r && is_waiting_and_unblocked mode (without_blocker port book) o)) out)

  same_issued : issued_count (without_blocker port book) port ≡ issued_count book port
  same_issued = sym (counted_within p (λ (o : Unanswered). o.port.0 == port.0 && o.issued) (λ (o : Unanswered). o.port.0 == port.0 && o.issued) book (λ o there. go o (p o) refl))
    where
      go : (o : Unanswered) (b : Bool) → p o ≡ b → (o.port.0 == port.0 && o.issued) ≡ (p o && (o.port.0 == port.0 && o.issued))
      go o true passes = sym (ap (λ (c : Bool). c && (o.port.0 == port.0 && o.issued)) passes)
      go o false out = false_from_ne_true _ (λ both.
          let two = and_parts (o.port.0 == port.0) _ both in
          by o out two.0 two.1 (waiting_read_or_write_has_blocker book o) refl)
          ∙ sym (ap (λ (c : Bool). c && (o.port.0 == port.0 && o.issued)) out)
        where
          by : (o : Unanswered) → p o ≡ false → (o.port.0 == port.0) ≡ true → o.issued ≡ true → (b : Bool) → waiting_read_or_write_has_blocker book o ≡ b → ⊥
          by o out own issued true held = both_ways _ (waits o held) issued
          by o out own issued false free = both_ways _ out (and_from _ _ own (ap not free))

  same_due : (r : Unanswered) → p r ≡ true → is_due mode (without_blocker port book) r ≡ is_due mode book r
  same_due r passes =
      let own = (and_parts (r.port.0 == port.0) _ passes).0 in
      let its : r.port ≡ port = ap (λ (n : ℕ). record { 0 = n }) (eqb-true r.port.0 port.0 own) in
      let slots : free_slots mode (without_blocker port book) r.port ≡ free_slots mode book r.port =
      subst (λ (x : Port). free_slots mode (without_blocker port book) x ≡ free_slots mode book x) (sym its) (ap (λ (n : ℕ). mode.usable_slots - n) same_issued) in
      ap (λ (b : Bool). b && (is_plain mode r.op || nat_lt (unblocked_ahead_count mode (without_blocker port book) r) (free_slots mode (without_blocker port book) r.port))) (same_clear r passes)
      ∙ (ap (λ (n : ℕ). is_waiting_and_unblocked mode book r && (is_plain mode r.op || nat_lt n (free_slots mode (without_blocker port book) r.port))) (same_ahead r own)
      ∙ ap (λ (n : ℕ). is_waiting_and_unblocked mode book r && (is_plain mode r.op || nat_lt (unblocked_ahead_count mode book r) n)) slots)

  pub due_without : due_of mode port (without_blocker port book) ≡ due_of mode port book
  due_without = sym (filtered_twice p (λ (r : Unanswered). r.port.0 == port.0 && is_due mode (without_blocker port book) r) (λ (r : Unanswered). r.port.0 == port.0 && is_due mode book r) book (λ r there. go r (p r) refl))
    where
      go : (r : Unanswered) (b : Bool) → p r ≡ b → (r.port.0 == port.0 && is_due mode book r) ≡ (p r && (r.port.0 == port.0 && is_due mode (without_blocker port book) r))
      go r true passes = ap (λ (c : Bool). r.port.0 == port.0 && c) (sym (same_due r passes)) ∙ sym (ap (λ (c : Bool). c && (r.port.0 == port.0 && is_due mode (without_blocker port book) r)) passes)
      go r false out = false_from_ne_true _ (λ both.
          let two = and_parts (r.port.0 == port.0) _ both in
          both_ways _ (out_of_way r out two.0) (and_parts (is_waiting_and_unblocked mode book r) _ two.1).0)
          ∙ sym (ap (λ (c : Bool). c && (r.port.0 == port.0 && is_due mode (without_blocker port book) r)) out)
