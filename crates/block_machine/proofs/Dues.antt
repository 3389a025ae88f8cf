-- Issuing one due request leaves the others of its port as due as they were.
use Rattle.std.proofs.Common.{◌≡◌, ◌≢◌, ◌⊎◌, ◌↔◌, ℕ, ◌+◌, ◌-◌, ◌<◌, ◌≤◌, Bool, true, false, cond, not, ◌&&◌, ◌||◌, ◌==◌, ltb, List, [], ◌∷◌, map, inl, inr, ⊎_elim, refl, sym, ap, ◌∙◌, subst, arith, eqb-true, eq-eqb, lt-ltb, ltb-true}
use Rattle.std.proofs.lemmas.Bool.{cases_lt, or_left, and_parts, and_from, and_left, and_right, cond-true, cond-false, eqb-false, false≢true, not-true, both_ways, false_from_ne_true}
use Rattle.std.specs.List.{Contains, list_any, count_by}
use Rattle.ata_types.specs.declared.Port.{Port}
use Rattle.ata_types.specs.declared.request.RequestId.{RequestId}
use Rattle.block_machine.specs.declared.due.QueueMode.{QueueMode}
use Rattle.block_machine.specs.declared.due.Unanswered.{Unanswered}
use Rattle.block_machine.specs.DueRequests.{IsDue, IsInOrder, conflict_on_port_by_flush_or_overlap, waits_for, is_plain, is_earlier_on_port, is_waiting_and_unblocked, unblocked_ahead_count, issued_count, free_slots, mark_issued, with_issued}
use Rattle.block_machine.proofs.Members.{into_map, some_in}
use Rattle.block_machine.proofs.Order.{In, Ordered, in_from, from_in, ordered_from}
use Rattle.block_machine.proofs.Counting.{count_cons, count_map, count_least, unheld}
use Rattle.block_machine.proofs.Ranks.{holds_if}

pub in_order_one : (es : List Unanswered) → Ordered es → (a b : Unanswered) → In a es → In b es → a.id.0 ≡ b.id.0 → a ≡ b
in_order_one [] o a b h k eq = absurd h
in_order_one (x ∷ xs) o a b (inl p) (inl q) eq = p ∙ sym q
in_order_one (x ∷ xs) o a b (inl p) (inr k) eq = let lt = o.0 b k in let e : a.id.0 ≡ x.id.0 = ap (λ (y : Unanswered). y.id.0) p in absurd (omega (arith, lt, e, eq))
in_order_one (x ∷ xs) o a b (inr h) (inl q) eq = let lt = o.0 a h in let e : b.id.0 ≡ x.id.0 = ap (λ (y : Unanswered). y.id.0) q in absurd (omega (arith, lt, e, eq))
in_order_one (x ∷ xs) o a b (inr h) (inr k) eq = in_order_one xs o.1 a b h k eq

-- what becomes of a request of the book
mark_cases : (id : RequestId) (r : Unanswered) → ((r.id.0 ≡ id.0) × (mark_issued id r ≡ record r { issued = true })) ⊎ ((r.id.0 ≢ id.0) × (mark_issued id r ≡ r))
mark_cases id r = go (r.id.0 == id.0) refl
  where
    go : (b : Bool) → (r.id.0 == id.0) ≡ b → ((r.id.0 ≡ id.0) × (mark_issued id r ≡ record r { issued = true })) ⊎ ((r.id.0 ≢ id.0) × (mark_issued id r ≡ r))
    go true p = inl (eqb-true r.id.0 id.0 p, cond-true (r.id.0 == id.0) (record r { issued = true }) r p)
    go false p = inr (eqb-false r.id.0 id.0 p, cond-false (r.id.0 == id.0) (record r { issued = true }) r p)

any_map : (p q : Unanswered → Bool) (f : Unanswered → Unanswered) (xs : List Unanswered) → ((y : Unanswered) → In y xs → p (f y) ≡ q y) → list_any p (map f xs) ≡ list_any q xs
any_map p q f [] same = refl
any_map p q f (x ∷ xs) same = ap (λ (b : Bool). b || list_any p (map f xs)) (same x (inl refl)) ∙ ap (λ (b : Bool). q x || b) (any_map p q f xs (λ y h. same y (inr h)))

-- a count in which one member alone changes
count_changed : (p q : Unanswered → Bool) (f : Unanswered → Unanswered) (es : List Unanswered) (e : Unanswered) → Ordered es → In e es
    → ((y : Unanswered) → In y es → (y.id.0 ≡ e.id.0 → ⊥) → p (f y) ≡ q y)
    → count_by p (map f es) + cond (q e) 1 0 ≡ count_by q es + cond (p (f e)) 1 0
count_changed p q f [] e o h same = absurd h
count_changed p q f (x ∷ xs) e o (inl eq) same =
    let rest : count_by p (map f xs) ≡ count_by q xs = count_map p q f xs (λ y k. same y (inr k)
    (λ (id : y.id.0 ≡ e.id.0). let lt = o.0 y k in let b : e.id.0 ≡ x.id.0 = ap (λ (z : Unanswered). z.id.0) eq in let f : ⊥ = omega (arith, lt, id, b) in f)) in
    let old : ◌≡◌ {A = ℕ} (cond (q x) 1 0) (cond (q e) 1 0) = ap (λ (z : Unanswered). cond {A = ℕ} (q z) 1 0) (sym eq) in
    let new : ◌≡◌ {A = ℕ} (cond (p (f x)) 1 0) (cond (p (f e)) 1 0) = ap (λ (z : Unanswered). cond {A = ℕ} (p (f z)) 1 0) (sym eq) in
    omega (arith, rest, old, new, count_cons p (f x) (map f xs), count_cons q x xs)
count_changed p q f (x ∷ xs) e o (inr h) same =
    let ne : x.id.0 ≡ e.id.0 → ⊥ = λ id. (let lt = o.0 e h in let f : ⊥ = omega (arith, lt, id) in f) in
    let rest = count_changed p q f xs e o.1 h (λ y k. same y (inr k)) in
    let head : ◌≡◌ {A = ℕ} (cond (p (f x)) 1 0) (cond (q x) 1 0) = ap (λ (b : Bool). cond {A = ℕ} b 1 0) (same x (inl refl) ne) in
    omega (arith, rest, head, count_cons p (f x) (map f xs), count_cons q x xs)

-- one that passes all that another passes, and one member more, counts more
count_more : (p q : Unanswered → Bool) (es : List Unanswered) (x : Unanswered) → ((y : Unanswered) → In y es → p y ≡ true → q y ≡ true) → In x es → p x ≡ false → q x ≡ true → count_by p es < count_by q es
count_more p q [] x more h px qx = absurd h
count_more p q (y ∷ ys) x more (inl e) px qx =
    let py : ◌≡◌ {A = ℕ} (cond (p y) 1 0) 0 = ap (λ (b : Bool). cond {A = ℕ} b 1 0) (ap p (sym e) ∙ px) in
    let qy : ◌≡◌ {A = ℕ} (cond (q y) 1 0) 1 = ap (λ (b : Bool). cond {A = ℕ} b 1 0) (ap q (sym e) ∙ qx) in
    let le = count_least p q ys (λ z k. more z (inr k)) in
    omega (arith, le, py, qy, count_cons p y ys, count_cons q y ys)
count_more p q (y ∷ ys) x more (inr h) px qx =
    let rest = count_more p q ys x (λ z k. more z (inr k)) h px qx in
    let head = head_of (p y) (q y) (more y (inl refl)) in
    omega (arith, rest, head, count_cons p y ys, count_cons q y ys)
  where
    head_of : (a b : Bool) → (a ≡ true → b ≡ true) → cond {A = ℕ} a 1 0 ≤ cond b 1 0
    head_of true true f = omega arith
    head_of true false f = absurd (false≢true (f refl))
    head_of false b f = omega arith

-- an issued plain request, or any issued one where x is plain, holds x back
holds_issued : (mode : QueueMode) (x o : Unanswered) → (o.port.0 == x.port.0) ≡ true → o.issued ≡ true
    → (is_plain mode x.op ≡ true) ⊎ (is_plain mode o.op ≡ true) → waits_for mode x o ≡ true
holds_issued mode x o port now plain = and_from _ _ port (go (is_plain mode x.op) refl plain)
  where
    go : (b : Bool) → is_plain mode x.op ≡ b → (is_plain mode x.op ≡ true) ⊎ (is_plain mode o.op ≡ true)
        → cond b (o.issued || ltb o.id.0 x.id.0) ((is_plain mode o.op && o.issued) || (ltb o.id.0 x.id.0 && (is_plain mode o.op || conflict_on_port_by_flush_or_overlap o x))) ≡ true
    go true p h = or_left _ _ now
    go false p (inl q) = absurd (both_ways _ p q)
    go false p (inr q) = or_left _ _ (and_from _ _ q now)

-- between two queued requests, whether the other is issued doesn't matter
holds_queued : (mode : QueueMode) (x o : Unanswered) → is_plain mode x.op ≡ false → is_plain mode o.op ≡ false → waits_for mode x (record o { issued = true }) ≡ waits_for mode x o
holds_queued mode x o px po =
    ap (λ (b : Bool). (o.port.0 == x.port.0) && b)
    (cond-false (is_plain mode x.op) _ _ px
    ∙ ap (λ (b : Bool). b || (ltb o.id.0 x.id.0 && (is_plain mode o.op || conflict_on_port_by_flush_or_overlap o x))) (and_left _ true po ∙ sym (and_left _ o.issued po))
    ∙ sym (cond-false (is_plain mode x.op) _ _ px))

holds_elsewhere : (mode : QueueMode) (x o : Unanswered) → (o.port.0 == x.port.0) ≡ false → waits_for mode x (record o { issued = true }) ≡ waits_for mode x o
holds_elsewhere mode x o port = and_left _ _ port ∙ sym (and_left _ _ port)

module _ (mode : QueueMode) (book : List Unanswered) (e : Unanswered) (order : Ordered book) (due : IsDue mode book e) where
  here : In e book
  here = in_from book e due.is_in_book

  waits : e.issued ≡ false
  waits = not-true _ (and_parts _ _ due.waits_and_nothing_blocks).0

  is_e : (y : Unanswered) → In y book → y.id.0 ≡ e.id.0 → y ≡ e
  is_e y h id = in_order_one book order y e h here id

  stays : (y : Unanswered) → (y.id.0 ≡ e.id.0 → ⊥) → mark_issued e.id y ≡ y
  stays y ne = ⊎_elim (λ p. absurd (ne p.0)) (λ p. p.1) (mark_cases e.id y)

  becomes : mark_issued e.id e ≡ record e { issued = true }
  becomes = ⊎_elim (λ p. p.1) (λ p. absurd (p.0 refl)) (mark_cases e.id e)

  -- of two of a port, one of them plain, the due one is the earlier
  comes_later : (y : Unanswered) → In y book → (y.id.0 ≡ e.id.0 → ⊥) → (y.port.0 == e.port.0) ≡ true
      → (is_plain mode e.op ≡ true) ⊎ (is_plain mode y.op ≡ true) → e.id.0 < y.id.0
  comes_later y h ne port plain = ⊎_elim
      (λ (less : y.id.0 < e.id.0). absurd (both_ways _ (unheld mode book e due.waits_and_nothing_blocks y (from_in y book h)) (holds_if mode e y port (lt-ltb y.id.0 e.id.0 less) plain)))
      (λ (le : e.id.0 ≤ y.id.0). let differ : y.id.0 ≢ e.id.0 = ne in omega arith)
      (cases_lt y.id.0 e.id.0)

  -- whether another request is held back doesn't change
  held_same : (y : Unanswered) → In y book → (y.id.0 ≡ e.id.0 → ⊥) → list_any (waits_for mode y) (with_issued e.id book) ≡ list_any (waits_for mode y) book
  held_same y h ne = by_port (e.port.0 == y.port.0) refl
    where
      alike : waits_for mode y (record e { issued = true }) ≡ waits_for mode y e → list_any (waits_for mode y) (with_issued e.id book) ≡ list_any (waits_for mode y) book
      alike same = any_map (waits_for mode y) (waits_for mode y) (mark_issued e.id) book (λ z k. ⊎_elim
          (λ p. let is : z ≡ e = is_e z k p.0 in
          ap (waits_for mode y) (p.1 ∙ ap (λ (o : Unanswered). record o { issued = true }) is) ∙ same ∙ ap (waits_for mode y) (sym is))
          (λ p. ap (waits_for mode y) p.1)
          (mark_cases e.id z))

      both : (e.port.0 == y.port.0) ≡ true → (is_plain mode y.op ≡ true) ⊎ (is_plain mode e.op ≡ true)
          → list_any (waits_for mode y) (with_issued e.id book) ≡ list_any (waits_for mode y) book
      both port plain =
          let port' : (y.port.0 == e.port.0) ≡ true = eq-eqb y.port.0 e.port.0 (sym (eqb-true e.port.0 y.port.0 port)) in
          let later = comes_later y h ne port' (⊎_elim (λ p. inr p) (λ p. inl p) plain) in
          let new : list_any (waits_for mode y) (with_issued e.id book) ≡ true =
          some_in (waits_for mode y) (with_issued e.id book) (record e { issued = true })
          (subst (λ (z : Unanswered). Contains (with_issued e.id book) z) becomes (into_map (mark_issued e.id) book e due.is_in_book))
          (holds_issued mode y (record e { issued = true }) port refl plain) in
          new ∙ sym (some_in (waits_for mode y) book e due.is_in_book (holds_if mode y e port (lt-ltb e.id.0 y.id.0 later) plain))

      by_plain : (e.port.0 == y.port.0) ≡ true → (a b : Bool) → is_plain mode y.op ≡ a → is_plain mode e.op ≡ b
          → list_any (waits_for mode y) (with_issued e.id book) ≡ list_any (waits_for mode y) book
      by_plain port true b p q = both port (inl p)
      by_plain port false true p q = both port (inr q)
      by_plain port false false p q = alike (holds_queued mode y e p q)

      by_port : (b : Bool) → (e.port.0 == y.port.0) ≡ b → list_any (waits_for mode y) (with_issued e.id book) ≡ list_any (waits_for mode y) book
      by_port true port = by_plain port _ _ refl refl
      by_port false port = alike (holds_elsewhere mode y e port)

  clear_same : (y : Unanswered) → In y book → (y.id.0 ≡ e.id.0 → ⊥) → is_waiting_and_unblocked mode (with_issued e.id book) y ≡ is_waiting_and_unblocked mode book y
  clear_same y h ne = ap (λ (b : Bool). not y.issued && not b) (held_same y h ne)

  -- the count of those ahead of x falls by one if e was ahead of it
  ahead_less : (x : Unanswered) → unblocked_ahead_count mode (with_issued e.id book) x + cond (is_earlier_on_port e x) 1 0 ≡ unblocked_ahead_count mode book x
  ahead_less x =
      let new : Unanswered → Bool = λ y. is_earlier_on_port y x && is_waiting_and_unblocked mode (with_issued e.id book) y in
      let old : Unanswered → Bool = λ y. is_earlier_on_port y x && is_waiting_and_unblocked mode book y in
      let changed : unblocked_ahead_count mode (with_issued e.id book) x + cond (old e) 1 0 ≡ unblocked_ahead_count mode book x + cond (new (mark_issued e.id e)) 1 0
      = count_changed new old (mark_issued e.id) book e order here
      (λ y h ne. ap new (stays y ne) ∙ ap (λ (b : Bool). is_earlier_on_port y x && b) (clear_same y h ne)) in
      let gone : ◌≡◌ {A = ℕ} (cond (new (mark_issued e.id e)) 1 0) 0 = ap (λ (b : Bool). cond {A = ℕ} b 1 0) (ap new becomes ∙ and_right _ _ refl) in
      let was : ◌≡◌ {A = ℕ} (cond (old e) 1 0) (cond (is_earlier_on_port e x) 1 0) =
      ap (λ (b : Bool). cond {A = ℕ} b 1 0) (ap (λ (b : Bool). is_earlier_on_port e x && b) due.waits_and_nothing_blocks ∙ and_true _) in
      omega (arith, changed, gone, was)
    where
      and_true : (b : Bool) → (b && true) ≡ b
      and_true true = refl
      and_true false = refl

  -- one slot more is taken
  one_more : issued_count (with_issued e.id book) e.port ≡ issued_count book e.port + 1
  one_more =
      let new : Unanswered → Bool = λ y. (y.port.0 == e.port.0) && y.issued in
      let changed : issued_count (with_issued e.id book) e.port + cond (new e) 1 0 ≡ issued_count book e.port + cond (new (mark_issued e.id e)) 1 0
      = count_changed new new (mark_issued e.id) book e order here (λ y h ne. ap new (stays y ne)) in
      let was : ◌≡◌ {A = ℕ} (cond (new e) 1 0) 0 = ap (λ (b : Bool). cond {A = ℕ} b 1 0) (and_right _ _ waits) in
      let is : ◌≡◌ {A = ℕ} (cond (new (mark_issued e.id e)) 1 0) 1 = ap (λ (b : Bool). cond {A = ℕ} b 1 0) (ap new becomes ∙ and_from _ _ (eq-eqb e.port.0 e.port.0 refl) refl) in
      omega (arith, changed, was, is)

  slots_less : (x : Unanswered) → x.port ≡ e.port → free_slots mode (with_issued e.id book) x.port ≡ mode.usable_slots - (issued_count book x.port + 1)
  slots_less x port = ap (λ (n : ℕ). mode.usable_slots - n)
      (ap (issued_count (with_issued e.id book)) port ∙ one_more ∙ ap (λ (p : Port). issued_count book p + 1) (sym port))

  earlier_one : (x : Unanswered) → x.port ≡ e.port → e.id.0 < x.id.0 → ◌≡◌ {A = ℕ} (cond (is_earlier_on_port e x) 1 0) 1
  earlier_one x port less = ap (λ (b : Bool). cond {A = ℕ} b 1 0) (and_from _ _ (eq-eqb e.port.0 x.port.0 (ap (λ (p : Port). p.0) (sym port))) (lt-ltb e.id.0 x.id.0 less))

  later_none : (x : Unanswered) → x.id.0 ≤ e.id.0 → ◌≡◌ {A = ℕ} (cond (is_earlier_on_port e x) 1 0) 0
  later_none x le = ap (λ (b : Bool). cond {A = ℕ} b 1 0) (and_right _ _ (false_from_ne_true _ (λ t. let lt = ltb-true e.id.0 x.id.0 t in let f : ⊥ = omega (arith, lt, le) in f)))

  -- an earlier one of the port that is clear has fewer ahead of it
  fewer_ahead : (x : Unanswered) → In x book → is_waiting_and_unblocked mode book x ≡ true → x.port ≡ e.port → x.id.0 < e.id.0 → unblocked_ahead_count mode book x < unblocked_ahead_count mode book e
  fewer_ahead x h clear port less = count_more
      (λ y. is_earlier_on_port y x && is_waiting_and_unblocked mode book y)
      (λ y. is_earlier_on_port y e && is_waiting_and_unblocked mode book y)
      book x
      (λ y k t.
      let p = and_parts (is_earlier_on_port y x) (is_waiting_and_unblocked mode book y) t in
      let q = and_parts (y.port.0 == x.port.0) (ltb y.id.0 x.id.0) p.0 in
      let lower = ltb-true y.id.0 x.id.0 q.1 in
      let port' : x.port.0 ≡ e.port.0 = ap (λ (r : Port). r.0) port in
      and_from _ _ (and_from _ _ (eq-eqb y.port.0 e.port.0 (eqb-true y.port.0 x.port.0 q.0 ∙ port')) (lt-ltb y.id.0 e.id.0 (omega (arith, lower, less)))) p.1)
      h
      (and_left _ _ (and_right _ _ (false_from_ne_true _ (λ t. let lt = ltb-true x.id.0 x.id.0 t in let f : ⊥ = omega (arith, lt) in f))))
      (and_from _ _ (and_from _ _ (eq-eqb x.port.0 e.port.0 (ap (λ (r : Port). r.0) port)) (lt-ltb x.id.0 e.id.0 less)) clear)

  -- the due one is queued where an earlier one of its port is in the book
  not_plain : (x : Unanswered) → In x book → x.port ≡ e.port → x.id.0 < e.id.0 → is_plain mode e.op ≡ false
  not_plain x h port less = false_from_ne_true _ (λ t.
      let port' : (x.port.0 == e.port.0) ≡ true = eq-eqb x.port.0 e.port.0 (ap (λ (r : Port). r.0) port) in
      both_ways _ (unheld mode book e due.waits_and_nothing_blocks x (from_in x book h)) (holds_if mode e x port' (lt-ltb x.id.0 e.id.0 less) (inl t)))

  -- a request of the port that was due still is
  still_due : (x : Unanswered) → (x.id.0 ≡ e.id.0 → ⊥) → x.port ≡ e.port → IsDue mode book x → IsDue mode (with_issued e.id book) x
  still_due x ne port dx = record {
    is_in_book = subst (λ (z : Unanswered). Contains (with_issued e.id book) z) (stays x ne) (into_map (mark_issued e.id) book x dx.is_in_book);
    waits_and_nothing_blocks = clear_same x (in_from book x dx.is_in_book) ne ∙ dx.waits_and_nothing_blocks;
    slot_is_left = λ queued. ⊎_elim
        (λ (less : e.id.0 < x.id.0).
        let a = ahead_less x in let b = dx.slot_is_left queued in let c = earlier_one x port less in let d = slots_less x port in omega (arith, a, b, c, d))
        (λ (le : x.id.0 ≤ e.id.0).
        let differ : x.id.0 ≢ e.id.0 = ne in
        let less : x.id.0 < e.id.0 = omega (arith, le, differ) in
        let h : In x book = in_from book x dx.is_in_book in
        let a = ahead_less x in
        let more = fewer_ahead x h dx.waits_and_nothing_blocks port less in
        let b = due.slot_is_left (not_plain x h port less) in
        let c = later_none x le in
        let d = slots_less x port in
        let same : issued_count book x.port ≡ issued_count book e.port = ap (issued_count book) port in
        omega (arith, a, more, b, c, d, same))
        (cases_lt e.id.0 x.id.0);
  }

  -- and one that is due then was due before
  was_due : (x : Unanswered) → Contains book x → (x.id.0 ≡ e.id.0 → ⊥) → x.port ≡ e.port → IsDue mode (with_issued e.id book) x → IsDue mode book x
  was_due x h ne port dx = record {
    is_in_book = h;
    waits_and_nothing_blocks = sym (clear_same x (in_from book x h) ne) ∙ dx.waits_and_nothing_blocks;
    slot_is_left = λ queued. ⊎_elim
        (λ (less : e.id.0 < x.id.0). let a = ahead_less x in let b = dx.slot_is_left queued in let c = earlier_one x port less in let d = slots_less x port in omega (arith, a, b, c, d))
        (λ (le : x.id.0 ≤ e.id.0). let a = ahead_less x in let b = dx.slot_is_left queued in let c = later_none x le in let d = slots_less x port in omega (arith, a, b, c, d))
        (cases_lt e.id.0 x.id.0);
  }

pub law_issue_leaves_others_due_as_before : (mode : QueueMode) (book : List Unanswered) (e other : Unanswered) → IsInOrder book → IsDue mode book e → Contains book other
    → other.id ≢ e.id → other.port ≡ e.port → IsDue mode book other ↔ IsDue mode (with_issued e.id book) other
law_issue_leaves_others_due_as_before mode book e other order due here differ port = (
  still_due mode book e (ordered_from book order) due other ne port,
  was_due mode book e (ordered_from book order) due other here ne port,
)
  where
    ne : other.id.0 ≡ e.id.0 → ⊥
    ne p = differ (ap (λ n. record { 0 = n }) p)
