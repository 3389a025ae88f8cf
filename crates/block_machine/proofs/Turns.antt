-- Due requests that are issued in turn, and the requests of one port alone.
use Rattle.std.proofs.Common.{◌≡◌, ◌≢◌, ◌↔◌, ℕ, ◌<◌, ◌-◌, Bool, true, false, cond, not, ◌&&◌, ◌||◌, ◌==◌, List, [], ◌∷◌, length, get_or, map, drop, inl, inr, refl, sym, ap, ◌∙◌, subst, arith, eqb-true, eq-eqb}
use Rattle.std.specs.List.{Contains, list_any, count_by, filter}
use Rattle.std.specs.Prelude.{nat_lt}
use Rattle.std.proofs.lemmas.Bool.{and_left, and_right, and_parts, and_from, cond-true, cond-false, both_ways, eqb-false}
use Rattle.std.proofs.lemmas.List.{get_or-map, length-map}
use Rattle.ata_types.specs.declared.Port.{Port}
use Rattle.ata_types.specs.declared.request.RequestId.{RequestId}
use Rattle.block_machine.specs.declared.due.QueueMode.{QueueMode}
use Rattle.block_machine.specs.declared.due.Unanswered.{Unanswered}
use Rattle.block_machine.specs.DueRequests.{IsDue, IsInOrder, waits_for, is_plain, is_earlier_on_port, is_waiting_and_unblocked, unblocked_ahead_count, issued_count, free_slots, is_due, mark_issued, with_issued, mark_waiting, with_waiting, without_request, requests_of_port, due_of, AreDueInTurnAndLeaveNoneDue}
use Rattle.block_machine.proofs.Members.{into_map}
use Rattle.block_machine.proofs.Order.{In, Ordered, in_from, from_in, ordered_from}
use Rattle.block_machine.proofs.Counting.{count_cons}
use Rattle.block_machine.proofs.Dues.{in_order_one, law_issue_leaves_others_due_as_before}
use Rattle.block_machine.proofs.Keeps.{same_port}
use Rattle.block_machine.proofs.DueTests.{same_test, due_test as tested}

abbrev pub due_test : QueueMode → Port → List Unanswered → Unanswered → Bool
due_test mode port book x = x.port.0 == port.0 && is_due mode book x

abbrev due_ids : QueueMode → Port → List Unanswered → List RequestId
due_ids mode port book = map (λ r. r.id) (due_of mode port book)

-- ---- members of a filter

filter_in : (p : Unanswered → Bool) (xs : List Unanswered) (x : Unanswered) → In x (filter p xs) → In x xs × (p x ≡ true)
filter_in p [] x h = absurd h
filter_in p (y ∷ ys) x h = go (p y) refl (λ k. filter_in p ys x k) h
  where
    go : (b : Bool) → p y ≡ b → (In x (filter p ys) → In x ys × (p x ≡ true)) → In x (cond b (y ∷ filter p ys) (filter p ys)) → In x (y ∷ ys) × (p x ≡ true)
    go true e rest (inl q) = (inl q, ap p q ∙ e)
    go true e rest (inr k) = let r = rest k in (inr r.0, r.1)
    go false e rest k = let r = rest k in (inr r.0, r.1)

pub in_filter : (p : Unanswered → Bool) (xs : List Unanswered) (x : Unanswered) → p x ≡ true → In x xs → In x (filter p xs)
in_filter p [] x t h = absurd h
in_filter p (y ∷ ys) x t h = go (p y) refl (λ k. in_filter p ys x t k) h
  where
    go : (b : Bool) → p y ≡ b → (In x ys → In x (filter p ys)) → In x (y ∷ ys) → In x (cond b (y ∷ filter p ys) (filter p ys))
    go true e rest (inl q) = inl q
    go true e rest (inr k) = inr (rest k)
    go false e rest (inl q) = absurd (both_ways _ e (ap p (sym q) ∙ t))
    go false e rest (inr k) = rest k

-- a request of the port is due exactly where it is one of the due
pub due_member : (mode : QueueMode) (port : Port) (book : List Unanswered) (r : Unanswered) → r.port ≡ port → Contains (due_of mode port book) r ↔ IsDue mode book r
due_member mode port book r own = (to, from)
  where
    to : Contains (due_of mode port book) r → IsDue mode book r
    to h =
        let f = filter_in (due_test mode port book) book r (in_from (due_of mode port book) r h) in
        (tested mode book r (from_in r book f.0)).0 (and_parts (r.port.0 == port.0) (is_due mode book r) f.1).1

    from : IsDue mode book r → Contains (due_of mode port book) r
    from d = from_in r (due_of mode port book) (in_filter (due_test mode port book) book r
        (and_from _ _ (eq-eqb r.port.0 port.0 (ap (λ (p : Port). p.0) own)) ((tested mode book r d.is_in_book).1 d))
        (in_from book r d.is_in_book))

-- each of the due is of the port
pub due_own : (mode : QueueMode) (port : Port) (book : List Unanswered) (r : Unanswered) → Contains (due_of mode port book) r → r.port ≡ port
due_own mode port book r h =
    let f = filter_in (due_test mode port book) book r (in_from (due_of mode port book) r h) in
    same_port r.port port (eqb-true r.port.0 port.0 (and_parts (r.port.0 == port.0) (is_due mode book r) f.1).0)

-- ---- what a change of one request leaves of a filter

kept_apart : (p q gone : Unanswered → Bool) (f : Unanswered → Unanswered) (xs : List Unanswered)
    → ((x : Unanswered) → In x xs → gone x ≡ true → p (f x) ≡ false)
    → ((x : Unanswered) → In x xs → gone x ≡ false → (f x ≡ x) × (p x ≡ q x))
    → filter p (map f xs) ≡ filter (λ x. not (gone x)) (filter q xs)
kept_apart p q gone f [] out same = refl
kept_apart p q gone f (x ∷ xs) out same = go (gone x) (q x) refl refl (kept_apart p q gone f xs (λ y h. out y (inr h)) (λ y h. same y (inr h)))
  where
    stays : Unanswered → Bool
    stays y = not (gone y)

    new : List Unanswered
    new = filter p (map f xs)

    old : List Unanswered
    old = filter q xs

    go : (d b : Bool) → gone x ≡ d → q x ≡ b → new ≡ filter stays old → cond (p (f x)) (f x ∷ new) new ≡ filter stays (cond (q x) (x ∷ old) old)
    go true true dx qx rest = cond-false (p (f x)) (f x ∷ new) new (out x (inl refl) dx) ∙ (rest
        ∙ sym (ap (filter stays) (cond-true (q x) (x ∷ old) old qx) ∙ cond-false (stays x) (x ∷ filter stays old) (filter stays old) (ap not dx)))
    go true false dx qx rest = cond-false (p (f x)) (f x ∷ new) new (out x (inl refl) dx) ∙ (rest
        ∙ sym (ap (filter stays) (cond-false (q x) (x ∷ old) old qx)))
    go false true dx qx rest =
        let s = same x (inl refl) dx in
        cond-true (p (f x)) (f x ∷ new) new (ap p s.0 ∙ (s.1 ∙ qx))
        ∙ (ap (λ (y : Unanswered). y ∷ new) s.0 ∙ (ap (λ (ys : List Unanswered). x ∷ ys) rest
        ∙ sym (ap (filter stays) (cond-true (q x) (x ∷ old) old qx) ∙ cond-true (stays x) (x ∷ filter stays old) (filter stays old) (ap not dx))))
    go false false dx qx rest =
        let s = same x (inl refl) dx in
        cond-false (p (f x)) (f x ∷ new) new (ap p s.0 ∙ (s.1 ∙ qx)) ∙ (rest
        ∙ sym (ap (filter stays) (cond-false (q x) (x ∷ old) old qx)))

-- once a due request is issued, the others that were due are the due ones
pub law_issue_removes_only_that_request_from_due : (mode : QueueMode) (port : Port) (book : List Unanswered) (e : Unanswered) → IsInOrder book → IsDue mode book e → e.port ≡ port
    → due_of mode port (with_issued e.id book) ≡ without_request e.id (due_of mode port book)
law_issue_removes_only_that_request_from_due mode port book e order due own =
    kept_apart (due_test mode port (with_issued e.id book)) (due_test mode port book) (λ x. x.id.0 == e.id.0) (mark_issued e.id) book out same
  where
    out : (x : Unanswered) → In x book → (x.id.0 == e.id.0) ≡ true → due_test mode port (with_issued e.id book) (mark_issued e.id x) ≡ false
    out x h its = ap (due_test mode port (with_issued e.id book)) (cond-true (x.id.0 == e.id.0) (record x { issued = true }) x its) ∙ and_right _ _ refl

    same : (x : Unanswered) → In x book → (x.id.0 == e.id.0) ≡ false → (mark_issued e.id x ≡ x) × (due_test mode port (with_issued e.id book) x ≡ due_test mode port book x)
    same x h other = (stays, by (x.port.0 == port.0) refl)
      where
        stays : mark_issued e.id x ≡ x
        stays = cond-false (x.id.0 == e.id.0) (record x { issued = true }) x other

        old : Contains book x
        old = from_in x book h

        new : Contains (with_issued e.id book) x
        new = subst (λ (y : Unanswered). Contains (with_issued e.id book) y) stays (into_map (mark_issued e.id) book x old)

        by : (b : Bool) → (x.port.0 == port.0) ≡ b → due_test mode port (with_issued e.id book) x ≡ due_test mode port book x
        by false apart = and_left _ _ apart ∙ sym (and_left _ _ apart)
        by true mine =
            let here : x.port ≡ e.port = same_port x.port port (eqb-true x.port.0 port.0 mine) ∙ sym own in
            let both = law_issue_leaves_others_due_as_before mode book e x order due old (λ is. eqb-false x.id.0 e.id.0 other (ap (λ (i : RequestId). i.0) is)) here in
            let n = tested mode (with_issued e.id book) x new in
            let o = tested mode book x old in
            ap (λ (b : Bool). (x.port.0 == port.0) && b) (same_test (is_due mode (with_issued e.id book) x) (is_due mode book x)
            ((λ t. both.1 (n.0 t)), (λ d. n.1 (both.0 d))) o)

-- ---- issued in turn

order_stays : (id : RequestId) (book : List Unanswered) → IsInOrder book → IsInOrder (with_issued id book)
order_stays id book order i j d lt below =
    let long : length (map (mark_issued id) book) ≡ length book = length-map book (mark_issued id) in
    let inside : j < length book = omega (arith, below, long) in
    let a = order i j d lt inside in
    let x = ap (λ (y : Unanswered). y.id.0) (get_or-map (mark_issued id) book i d d (omega (arith, lt, inside))) ∙ keeps (get_or book i d) (((get_or book i d).id.0) == id.0) refl in
    let y = ap (λ (y : Unanswered). y.id.0) (get_or-map (mark_issued id) book j d d inside) ∙ keeps (get_or book j d) (((get_or book j d).id.0) == id.0) refl in
    omega (arith, a, x, y)
  where
    keeps : (x : Unanswered) (b : Bool) → (x.id.0 == id.0) ≡ b → (mark_issued id x).id.0 ≡ x.id.0
    keeps x true e = ap (λ (y : Unanswered). y.id.0) (cond-true (x.id.0 == id.0) (record x { issued = true }) x e)
    keeps x false e = ap (λ (y : Unanswered). y.id.0) (cond-false (x.id.0 == id.0) (record x { issued = true }) x e)

ordered_filter : (p : Unanswered → Bool) (xs : List Unanswered) → Ordered xs → Ordered (filter p xs)
ordered_filter p [] o = tt
ordered_filter p (x ∷ xs) o = go (p x) refl (ordered_filter p xs o.1)
  where
    go : (b : Bool) → p x ≡ b → Ordered (filter p xs) → Ordered (cond b (x ∷ filter p xs) (filter p xs))
    go true e rest = ((λ later h. o.0 later (filter_in p xs later h).0), rest)
    go false e rest = rest

none_dropped : (id : RequestId) (xs : List Unanswered) → ((x : Unanswered) → In x xs → (x.id.0 == id.0) ≡ false) → without_request id xs ≡ xs
none_dropped id [] none = refl
none_dropped id (x ∷ xs) none =
    cond-true (not (x.id.0 == id.0)) (x ∷ without_request id xs) (without_request id xs) (ap not (none x (inl refl)))
    ∙ ap (λ (ys : List Unanswered). x ∷ ys) (none_dropped id xs (λ y h. none y (inr h)))

none_of_none : (xs : List Unanswered) (r : Unanswered) → [] ≡ map (λ (x : Unanswered). x.id) xs → In r xs → ⊥
none_of_none [] r is h = h
none_of_none (x ∷ xs) r is h = let f : 0 ≡ length (map (λ (y : Unanswered). y.id) (x ∷ xs)) = ap length is in absurd (omega (arith, f))

pub in_turn : (mode : QueueMode) (port : Port) (ids : List RequestId) (book : List Unanswered) → IsInOrder book → ids ≡ due_ids mode port book → AreDueInTurnAndLeaveNoneDue mode port ids book
in_turn mode port [] book order is = λ r own due.
    none_of_none (due_of mode port book) r is (in_from (due_of mode port book) r ((due_member mode port book r own).1 due))
in_turn mode port (id ∷ ids) book order is = go (due_of mode port book) refl (λ b o e. in_turn mode port ids b o e)
  where
    go : (ds : List Unanswered) → due_of mode port book ≡ ds → ((b : List Unanswered) → IsInOrder b → ids ≡ due_ids mode port b → AreDueInTurnAndLeaveNoneDue mode port ids b)
        → AreDueInTurnAndLeaveNoneDue mode port (id ∷ ids) book
    go [] e rest = let none : ◌≡◌ {A = ℕ} (length (id ∷ ids)) 0 = ap length (is ∙ ap (λ (xs : List Unanswered). map (λ (x : Unanswered). x.id) xs) e) in absurd (omega (arith, none))
    go (r ∷ rs) e rest =
        let both : id ∷ ids ≡ r.id ∷ map (λ (x : Unanswered). x.id) rs = is ∙ ap (λ (xs : List Unanswered). map (λ (x : Unanswered). x.id) xs) e in
        let first : id ≡ r.id = ap (λ (xs : List RequestId). get_or xs 0 id) both in
        let others : ids ≡ map (λ (x : Unanswered). x.id) rs = ap (λ (xs : List RequestId). drop 1 xs) both in
        let here : Contains (due_of mode port book) r = subst (λ (xs : List Unanswered). Contains xs r) (sym e) (from_in r (r ∷ rs) (inl refl)) in
        let own = due_own mode port book r here in
        let due = (due_member mode port book r own).0 here in
        let later : Ordered (r ∷ rs) = subst (λ (xs : List Unanswered). Ordered xs) e (ordered_filter (due_test mode port book) book (ordered_from book order)) in
        let left : due_of mode port (with_issued r.id book) ≡ rs =
        law_issue_removes_only_that_request_from_due mode port book r order due own
        ∙ (ap (without_request r.id) e
        ∙ (cond-false (not (r.id.0 == r.id.0)) (r ∷ without_request r.id rs) (without_request r.id rs) (ap not (eq-eqb r.id.0 r.id.0 refl))
        ∙ none_dropped r.id rs (λ x h. apart x (later.0 x h) (x.id.0 == r.id.0) refl))) in (
          (r, sym first, own, due),
          subst (λ (i : RequestId). AreDueInTurnAndLeaveNoneDue mode port ids (with_issued i book)) (sym first)
              (rest (with_issued r.id book) (order_stays r.id book order) (others ∙ sym (ap (λ (xs : List Unanswered). map (λ (x : Unanswered). x.id) xs) left))),
        )
      where
        apart : (x : Unanswered) → r.id.0 < x.id.0 → (b : Bool) → (x.id.0 == r.id.0) ≡ b → (x.id.0 == r.id.0) ≡ false
        apart x lt false t = t
        apart x lt true t = let same = eqb-true x.id.0 r.id.0 t in absurd (omega (arith, same, lt))

-- ---- the requests of one port alone

filter_both : (s p q : Unanswered → Bool) → ((x : Unanswered) → s x ≡ true → p x ≡ q x) → (xs : List Unanswered) → filter (λ x. s x && p x) xs ≡ filter q (filter s xs)
filter_both s p q same [] = refl
filter_both s p q same (x ∷ xs) = go (s x) refl (filter_both s p q same xs)
  where
    new : List Unanswered
    new = filter (λ y. s y && p y) xs

    go : (b : Bool) → s x ≡ b → new ≡ filter q (filter s xs) → cond (s x && p x) (x ∷ new) new ≡ filter q (cond (s x) (x ∷ filter s xs) (filter s xs))
    go true e rest =
        ap (λ (b : Bool). cond b (x ∷ new) new) (ap (λ (b : Bool). b && p x) e ∙ same x e)
        ∙ (ap (λ (ys : List Unanswered). cond (q x) (x ∷ ys) ys) rest
        ∙ sym (ap (filter q) (cond-true (s x) (x ∷ filter s xs) (filter s xs) e)))
    go false e rest =
        cond-false (s x && p x) (x ∷ new) new (and_left _ _ e) ∙ (rest ∙ sym (ap (filter q) (cond-false (s x) (x ∷ filter s xs) (filter s xs) e)))

any_own : (s p : Unanswered → Bool) → ((x : Unanswered) → s x ≡ false → p x ≡ false) → (xs : List Unanswered) → list_any p xs ≡ list_any p (filter s xs)
any_own s p none [] = refl
any_own s p none (x ∷ xs) = go (s x) refl (any_own s p none xs)
  where
    go : (b : Bool) → s x ≡ b → list_any p xs ≡ list_any p (filter s xs) → (p x || list_any p xs) ≡ list_any p (cond (s x) (x ∷ filter s xs) (filter s xs))
    go true e rest = ap (λ (b : Bool). p x || b) rest ∙ sym (ap (list_any p) (cond-true (s x) (x ∷ filter s xs) (filter s xs) e))
    go false e rest = ap (λ (b : Bool). b || list_any p xs) (none x e) ∙ (rest ∙ sym (ap (list_any p) (cond-false (s x) (x ∷ filter s xs) (filter s xs) e)))

count_own : (s p q : Unanswered → Bool) → ((x : Unanswered) → s x ≡ false → p x ≡ false) → ((x : Unanswered) → s x ≡ true → p x ≡ q x) → (xs : List Unanswered) → count_by p xs ≡ count_by q (filter s xs)
count_own s p q none same [] = refl
count_own s p q none same (x ∷ xs) = go (s x) refl (count_own s p q none same xs)
  where
    go : (b : Bool) → s x ≡ b → count_by p xs ≡ count_by q (filter s xs) → count_by p (x ∷ xs) ≡ count_by q (cond (s x) (x ∷ filter s xs) (filter s xs))
    go true e rest =
        let here : ◌≡◌ {A = ℕ} (cond (p x) 1 0) (cond (q x) 1 0) = ap (λ (b : Bool). cond {A = ℕ} b 1 0) (same x e) in
        let there : count_by q (cond (s x) (x ∷ filter s xs) (filter s xs)) ≡ count_by q (x ∷ filter s xs) = ap (count_by q) (cond-true (s x) (x ∷ filter s xs) (filter s xs) e) in
        omega (arith, rest, here, there, count_cons p x xs, count_cons q x (filter s xs))
    go false e rest =
        let here : ◌≡◌ {A = ℕ} (cond (p x) 1 0) 0 = ap (λ (b : Bool). cond {A = ℕ} b 1 0) (none x e) in
        let there : count_by q (cond (s x) (x ∷ filter s xs) (filter s xs)) ≡ count_by q (filter s xs) = ap (count_by q) (cond-false (s x) (x ∷ filter s xs) (filter s xs) e) in
        omega (arith, rest, here, there, count_cons p x xs)

module _ (mode : QueueMode) (port : Port) (book : List Unanswered) where
  abbrev own : Unanswered → Bool
  own x = x.port.0 == port.0

  clear_own : (r : Unanswered) → r.port ≡ port → is_waiting_and_unblocked mode book r ≡ is_waiting_and_unblocked mode (requests_of_port port book) r
  clear_own r its = ap (λ (b : Bool). not r.issued && not b)
      (any_own own (waits_for mode r) (λ x other. and_left _ _ (ap (λ (p : Port). x.port.0 == p.0) its ∙ other)) book)

  ahead_own : (r : Unanswered) → r.port ≡ port → unblocked_ahead_count mode book r ≡ unblocked_ahead_count mode (requests_of_port port book) r
  ahead_own r its = count_own own (λ o. is_earlier_on_port o r && is_waiting_and_unblocked mode book o) (λ o. is_earlier_on_port o r && is_waiting_and_unblocked mode (requests_of_port port book) o)
      (λ x other. and_left _ _ (and_left _ _ (ap (λ (p : Port). x.port.0 == p.0) its ∙ other)))
      (λ x mine. ap (λ (b : Bool). is_earlier_on_port x r && b) (clear_own x (same_port x.port port (eqb-true x.port.0 port.0 mine))))
      book

  issued_own : issued_count book port ≡ issued_count (requests_of_port port book) port
  issued_own = count_own own (λ o. (o.port.0 == port.0) && o.issued) (λ o. (o.port.0 == port.0) && o.issued) (λ x other. and_left _ _ other) (λ x mine. refl) book

  due_is_own : (r : Unanswered) → r.port ≡ port → is_due mode book r ≡ is_due mode (requests_of_port port book) r
  due_is_own r its =
      let free : free_slots mode book r.port ≡ free_slots mode (requests_of_port port book) r.port =
      ap (λ (p : Port). free_slots mode book p) its ∙ (ap (λ (n : ℕ). mode.usable_slots - n) issued_own ∙ ap (λ (p : Port). free_slots mode (requests_of_port port book) p) (sym its)) in
      ap (λ (b : Bool). b && (is_plain mode r.op || nat_lt (unblocked_ahead_count mode book r) (free_slots mode book r.port))) (clear_own r its)
      ∙ (ap (λ (n : ℕ). is_waiting_and_unblocked mode (requests_of_port port book) r && (is_plain mode r.op || nat_lt n (free_slots mode book r.port))) (ahead_own r its)
      ∙ ap (λ (n : ℕ). is_waiting_and_unblocked mode (requests_of_port port book) r && (is_plain mode r.op || nat_lt (unblocked_ahead_count mode (requests_of_port port book) r) n)) free)

  due_of_own : due_of mode port book ≡ filter (is_due mode (requests_of_port port book)) (requests_of_port port book)
  due_of_own = filter_both own (is_due mode book) (is_due mode (requests_of_port port book)) (λ x mine. due_is_own x (same_port x.port port (eqb-true x.port.0 port.0 mine))) book

pub due_of_same : (mode : QueueMode) (port : Port) (book other : List Unanswered) → requests_of_port port book ≡ requests_of_port port other → due_of mode port book ≡ due_of mode port other
due_of_same mode port book other same = due_of_own mode port book ∙ (ap (λ (xs : List Unanswered). filter (is_due mode xs) xs) same ∙ sym (due_of_own mode port other))

pub due_same : (mode : QueueMode) (port : Port) (book other : List Unanswered) (r : Unanswered) → requests_of_port port book ≡ requests_of_port port other → r.port ≡ port → IsDue mode book r ↔ IsDue mode other r
due_same mode port book other r same its =
    let a = due_member mode port book r its in
    let b = due_member mode port other r its in
    let e = due_of_same mode port book other same in
    ((λ d. b.0 (subst (λ (xs : List Unanswered). Contains xs r) e (a.1 d))), (λ d. a.0 (subst (λ (xs : List Unanswered). Contains xs r) (sym e) (b.1 d))))

-- ---- what a change of one request leaves of another port's

filter_same : (s : Unanswered → Bool) (f : Unanswered → Unanswered) (xs : List Unanswered) → ((x : Unanswered) → In x xs → (s (f x) ≡ s x) × (s x ≡ true → f x ≡ x)) → filter s (map f xs) ≡ filter s xs
filter_same s f [] same = refl
filter_same s f (x ∷ xs) same = go (s x) refl (filter_same s f xs (λ y h. same y (inr h)))
  where
    new : List Unanswered
    new = filter s (map f xs)

    go : (b : Bool) → s x ≡ b → new ≡ filter s xs → cond (s (f x)) (f x ∷ new) new ≡ cond (s x) (x ∷ filter s xs) (filter s xs)
    go true e rest = let k = same x (inl refl) in
        cond-true (s (f x)) (f x ∷ new) new (k.0 ∙ e) ∙ (ap (λ (y : Unanswered). y ∷ new) (k.1 e) ∙ (ap (λ (ys : List Unanswered). x ∷ ys) rest ∙ sym (cond-true (s x) (x ∷ filter s xs) (filter s xs) e)))
    go false e rest = let k = same x (inl refl) in
        cond-false (s (f x)) (f x ∷ new) new (k.0 ∙ e) ∙ (rest ∙ sym (cond-false (s x) (x ∷ filter s xs) (filter s xs) e))

filter_swap : (s t : Unanswered → Bool) (xs : List Unanswered) → ((x : Unanswered) → In x xs → s x ≡ true → t x ≡ true) → filter s (filter t xs) ≡ filter s xs
filter_swap s t [] keeps = refl
filter_swap s t (x ∷ xs) keeps = go (s x) (t x) refl refl (filter_swap s t xs (λ y h. keeps y (inr h)))
  where
    go : (a b : Bool) → s x ≡ a → t x ≡ b → filter s (filter t xs) ≡ filter s xs
        → filter s (cond (t x) (x ∷ filter t xs) (filter t xs)) ≡ cond (s x) (x ∷ filter s xs) (filter s xs)
    go a true sx tx rest = ap (filter s) (cond-true (t x) (x ∷ filter t xs) (filter t xs) tx) ∙ ap (λ (ys : List Unanswered). cond (s x) (x ∷ ys) ys) rest
    go true false sx tx rest = absurd (both_ways _ tx (keeps x (inl refl) sx))
    go false false sx tx rest = ap (filter s) (cond-false (t x) (x ∷ filter t xs) (filter t xs) tx) ∙ (rest ∙ sym (cond-false (s x) (x ∷ filter s xs) (filter s xs) sx))

module _ (port : Port) (book : List Unanswered) (e : Unanswered) (order : IsInOrder book) (here : Contains book e) (other : e.port ≢ port) where
  apart : (x : Unanswered) → In x book → (x.port.0 == port.0) ≡ true → (x.id.0 == e.id.0) ≡ false
  apart x h mine = by (x.id.0 == e.id.0) refl
    where
      by : (b : Bool) → (x.id.0 == e.id.0) ≡ b → (x.id.0 == e.id.0) ≡ false
      by false t = t
      by true t = absurd (other (ap (λ (y : Unanswered). y.port) (sym (in_order_one book (ordered_from book order) x e h (in_from book e here) (eqb-true x.id.0 e.id.0 t)))
          ∙ same_port x.port port (eqb-true x.port.0 port.0 mine)))

  pub issued_elsewhere : requests_of_port port (with_issued e.id book) ≡ requests_of_port port book
  issued_elsewhere = filter_same (λ x. x.port.0 == port.0) (mark_issued e.id) book
      (λ x h. (keeps x (x.id.0 == e.id.0) refl, λ mine. cond-false (x.id.0 == e.id.0) (record x { issued = true }) x (apart x h mine)))
    where
      keeps : (x : Unanswered) (b : Bool) → (x.id.0 == e.id.0) ≡ b → ((mark_issued e.id x).port.0 == port.0) ≡ (x.port.0 == port.0)
      keeps x true t = ap (λ (y : Unanswered). y.port.0 == port.0) (cond-true (x.id.0 == e.id.0) (record x { issued = true }) x t)
      keeps x false t = ap (λ (y : Unanswered). y.port.0 == port.0) (cond-false (x.id.0 == e.id.0) (record x { issued = true }) x t)

  pub waiting_elsewhere : requests_of_port port (with_waiting e.id book) ≡ requests_of_port port book
  waiting_elsewhere = filter_same (λ x. x.port.0 == port.0) (mark_waiting e.id) book
      (λ x h. (keeps x (x.id.0 == e.id.0) refl, λ mine. cond-false (x.id.0 == e.id.0) (record x { issued = false }) x (apart x h mine)))
    where
      keeps : (x : Unanswered) (b : Bool) → (x.id.0 == e.id.0) ≡ b → ((mark_waiting e.id x).port.0 == port.0) ≡ (x.port.0 == port.0)
      keeps x true t = ap (λ (y : Unanswered). y.port.0 == port.0) (cond-true (x.id.0 == e.id.0) (record x { issued = false }) x t)
      keeps x false t = ap (λ (y : Unanswered). y.port.0 == port.0) (cond-false (x.id.0 == e.id.0) (record x { issued = false }) x t)

  pub gone_elsewhere : requests_of_port port (without_request e.id book) ≡ requests_of_port port book
  gone_elsewhere = filter_swap (λ x. x.port.0 == port.0) (λ x. not (x.id.0 == e.id.0)) book (λ x h mine. ap not (apart x h mine))
