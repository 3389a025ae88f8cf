-- Slots that serve a request, and the requests that are issued.
use Rattle.std.proofs.Common.{◌≡◌, ◌≢◌, ℕ, zero, suc, ◌<◌, ◌≤◌, Bool, true, false, cond, ◌&&◌, ◌||◌, ◌==◌, List, [], ◌∷◌, map, refl, sym, ◌∙◌, ap, subst, arith, inl, inr, ⊎_elim, eqb-true, eq-eqb, ne_eqb}
use Rattle.std.specs.List.{Contains, count_by}
use Rattle.std.proofs.lemmas.Bool.{cases_eq, cond-true, cond-false, and_parts, and_from, and_left, and_right, or_left, or_right, false_from_ne_true}
use Rattle.ata_types.specs.declared.Port.{Port}
use Rattle.ata_types.specs.declared.request.RequestId.{RequestId}
use Rattle.adapter.specs.Device.{Device}
use Rattle.adapter.specs.declared.command.Operation.{Operation}
use Rattle.block_machine.specs.declared.due.QueueMode.{QueueMode}
use Rattle.block_machine.specs.declared.due.Unanswered.{Unanswered}
use Rattle.block_machine.specs.DueRequests.{IsInOrder, is_plain, issued_count}
use Rattle.block_machine.specs.Histories.{IsReachable}
use Rattle.block_machine.specs.State.{Pending, Machine, unanswered}
use Rattle.block_machine.specs.Steps.{Issue, IsEnabled, NoneKept}
use Rattle.block_machine.proofs.Counting.{count_cons, count_eq, count_none, count_least}
use Rattle.block_machine.proofs.Limits.{law_book_in_order, finds_slot}
use Rattle.block_machine.proofs.Members.{map_in, into_map, contains_none}
use Rattle.block_machine.proofs.Order.{In, Ordered, in_from, from_in, ordered_from}
use Rattle.refinement.specs.Slots.{SlotState, Free, Own, Serves, SlotStates, is_serving, serving_count, ServesRequest, ServesOwn, RelatesSlot, Armed}
use Rattle.refinement.specs.Relation.{StateRelation, HaveSlotsUnlessParked, port_at}
use Rattle.refinement.proofs.relation.OtherSlots.{true_false}

-- one more is counted, where the tests differ at one member alone
count_more : (p q : Unanswered → Bool) (e : Unanswered) (es : List Unanswered) → Ordered es → In e es → p e ≡ false → q e ≡ true
    → ((y : Unanswered) → y.id.0 ≢ e.id.0 → q y ≡ p y) → count_by q es ≡ suc (count_by p es)
count_more p q e [] o h was now others = absurd h
count_more p q e (x ∷ xs) o (inl is) was now others =
    let rest = count_eq q p xs (λ y k. others y (λ same. let lt = o.0 y k in let z : x.id.0 ≡ e.id.0 = ap (λ (u : Unanswered). u.id.0) (sym is) in omega (arith, lt, z, same))) in
    let old : ◌≡◌ {A = ℕ} (cond (p x) 1 0) 0 = cond-false (p x) 1 0 (ap p (sym is) ∙ was) in
    let new : ◌≡◌ {A = ℕ} (cond (q x) 1 0) 1 = cond-true (q x) 1 0 (ap q (sym is) ∙ now) in
    omega (arith, rest, old, new, count_cons p x xs, count_cons q x xs)
count_more p q e (x ∷ xs) o (inr k) was now others =
    let rest = count_more p q e xs o.1 k was now others in
    let same : ◌≡◌ {A = ℕ} (cond (q x) 1 0) (cond (p x) 1 0) = ap (λ (b : Bool). cond b 1 0) (others x (λ eq. let lt = o.0 e k in omega (arith, lt, eq))) in
    omega (arith, rest, same, count_cons p x xs, count_cons q x xs)

-- the slot serves the request of this number
abbrev serves_it : SlotState → ℕ → Bool
serves_it Free n = false
serves_it Armed n = false
serves_it (Own o) n = false
serves_it (Serves id) n = id.0 == n

-- one of the port's slots below n does
abbrev some_serves : SlotStates → ℕ → ℕ → ℕ → Bool
some_serves uses port zero i = false
some_serves uses port (suc n) i = serves_it (uses port n) i || some_serves uses port n i

some_served : (uses : SlotStates) (port n slot : ℕ) (id : RequestId) → slot < n → uses port slot ≡ Serves id → some_serves uses port n id.0 ≡ true
some_served uses port zero slot id lt u = absurd (omega (arith, lt))
some_served uses port (suc n) slot id lt u = ⊎_elim
    (λ (e : slot ≡ n). or_left (serves_it (uses port n) id.0) (some_serves uses port n id.0)
    (ap (λ (v : SlotState). serves_it v id.0) (ap (λ (k : ℕ). uses port k) (sym e) ∙ u) ∙ eq-eqb id.0 id.0 refl))
    (λ (ne : slot ≡ n → ⊥). or_right (serves_it (uses port n) id.0) (some_serves uses port n id.0) (some_served uses port n slot id (omega (arith, ne, lt)) u))
    (cases_eq slot n)

serves_found : (u : SlotState) (i : ℕ) → serves_it u i ≡ true → (id : RequestId) × (u ≡ Serves id) × (id.0 ≡ i)
serves_found Free i t = true_false t refl
serves_found Armed i t = true_false t refl
serves_found (Own o) i t = true_false t refl
serves_found (Serves id) i t = (id, refl, eqb-true id.0 i t)

-- a slot below n that serves the request of this number
abbrev ServedBelow : SlotStates → ℕ → ℕ → ℕ → Type 0
ServedBelow uses port n i = (slot : ℕ) × (slot < n) × ((id : RequestId) × (uses port slot ≡ Serves id) × (id.0 ≡ i))

some_found : (uses : SlotStates) (port n i : ℕ) → some_serves uses port n i ≡ true → ServedBelow uses port n i
some_found uses port zero i t = true_false t refl
some_found uses port (suc n) i t = go (serves_it (uses port n) i) refl (some_found uses port n i)
  where
    go : (b : Bool) → serves_it (uses port n) i ≡ b → (some_serves uses port n i ≡ true → ServedBelow uses port n i) → ServedBelow uses port (suc n) i
    go true e rest = (n, omega arith, serves_found (uses port n) i e)
    go false e rest =
        let r = rest (ap (λ (b : Bool). b || some_serves uses port n i) (sym e) ∙ t) in
        (r.0, (let lt = r.1 in omega (arith, lt)), r.2)

-- a slot below n that serves nothing, where fewer than n serve
unserving : (uses : SlotStates) (port n : ℕ) → serving_count uses port n < n → (slot : ℕ) × (slot < n) × (is_serving (uses port slot) ≡ false)
unserving uses port zero lt = absurd (omega (arith, lt))
unserving uses port (suc n) lt = go (is_serving (uses port n)) refl (unserving uses port n)
  where
    go : (b : Bool) → is_serving (uses port n) ≡ b → (serving_count uses port n < n → (slot : ℕ) × (slot < n) × (is_serving (uses port slot) ≡ false))
        → (slot : ℕ) × (slot < suc n) × (is_serving (uses port slot) ≡ false)
    go false e rest = (n, omega arith, e)
    go true e rest =
        let all : serving_count uses port (suc n) ≡ suc (serving_count uses port n) = cond-true (is_serving (uses port n)) (suc (serving_count uses port n)) (serving_count uses port n) e in
        let r = rest (omega (arith, lt, all)) in
        (r.0, (let less = r.1 in omega (arith, less)), r.2)

-- ---- requests that are issued, by slot

-- where none is kept on the port, a slot that serves a request serves one that is issued in the book
pub issued_one : (uses : SlotStates) (m : Machine) (d : Device) → StateRelation uses m d → (port : Port) → NoneKept m port → (slot : ℕ) (id : RequestId) → uses port.0 slot ≡ Serves id →
    (e : Pending) × Contains m.book e × (e.issued ≡ true) × (e.request.id ≡ id) × (e.request.port ≡ port)
issued_one uses m d a port none slot id u =
    let h : ServesRequest m d.memory (d.port port.0) port.0 slot id = subst (λ (v : SlotState). RelatesSlot m d.memory d.tape (d.port port.0) port.0 slot v) u (a.relates_slots port.0 slot) in
    let here : h.pending.request.port ≡ port = ap port_at h.port_is in
    ⊎_elim
    (λ (r : Contains m.book h.pending × (h.pending.issued ≡ true)). (h.pending, r.0, r.1, h.id_is, here))
    (λ (r : Contains m.kept h.pending). absurd (none h.pending r here))
    h.may_still_move

module _ (uses : SlotStates) (m : Machine) (d : Device) (reached : IsReachable m) (a : StateRelation uses m d) (port : Port) (none : NoneKept m port) where
  abbrev book : List Unanswered
  book = map unanswered m.book

  order : Ordered book
  order = ordered_from book (subst (λ (n : Machine). IsInOrder (map unanswered n.book)) (sym reached.leads_to_machine) (law_book_in_order reached.initial_machine reached.steps_since reached.is_initial reached.steps_since_are_enabled))

  -- issued on the port, and with a slot below n
  abbrev is_issued : Unanswered → Bool
  is_issued u = u.port.0 == port.0 && u.issued

  abbrev is_slotted : ℕ → Unanswered → Bool
  is_slotted n u = is_issued u && some_serves uses port.0 n u.id.0

  -- what a slot serves is one of these
  served_one : (slot : ℕ) (id : RequestId) → uses port.0 slot ≡ Serves id → (e : Unanswered) × In e book × (is_issued e ≡ true) × (e.id ≡ id)
  served_one slot id u =
      let s = issued_one uses m d a port none slot id u in (
        unanswered s.0,
        in_from book (unanswered s.0) (into_map unanswered m.book s.0 s.1),
        and_from (s.0.request.port.0 == port.0) s.0.issued (eq-eqb s.0.request.port.0 port.0 (ap (λ (p : Port). p.0) s.4)) s.2,
        s.3,
      )

  -- no slot below n serves what slot n serves
  not_below : (n : ℕ) (id : RequestId) → uses port.0 n ≡ Serves id → some_serves uses port.0 n id.0 ≡ false
  not_below n id u = false_from_ne_true (some_serves uses port.0 n id.0) (λ t.
      let r = some_found uses port.0 n id.0 t in
      let same : r.0 ≡ n = (a.serve_distinct_requests port.0 r.0 port.0 n id (r.2.1 ∙ ap Serves (ap (λ (n : ℕ). record { 0 = n }) r.2.2)) u).1 in
      let lt = r.1 in
      omega (arith, lt, same))

  counted : (n : ℕ) → count_by (is_slotted n) book ≡ serving_count uses port.0 n
  counted zero = count_none (is_slotted 0) book (λ y k. and_right (is_issued y) false refl)
  counted (suc n) = by (uses port.0 n) refl (counted n)
    where
      unserved : (u : SlotState) → uses port.0 n ≡ u → ((i : ℕ) → serves_it u i ≡ false) → is_serving u ≡ false → count_by (is_slotted n) book ≡ serving_count uses port.0 n
          → count_by (is_slotted (suc n)) book ≡ serving_count uses port.0 (suc n)
      unserved u e differs off before =
          count_eq (is_slotted (suc n)) (is_slotted n) book
          (λ y k. ap (λ (b : Bool). is_issued y && (b || some_serves uses port.0 n y.id.0)) (ap (λ (v : SlotState). serves_it v y.id.0) e ∙ differs y.id.0))
          ∙ before ∙ sym (cond-false (is_serving (uses port.0 n)) (suc (serving_count uses port.0 n)) (serving_count uses port.0 n) (ap is_serving e ∙ off))

      by : (u : SlotState) → uses port.0 n ≡ u → count_by (is_slotted n) book ≡ serving_count uses port.0 n → count_by (is_slotted (suc n)) book ≡ serving_count uses port.0 (suc n)
      by Free e before = unserved Free e (λ i. refl) refl before
      by Armed e before = unserved Armed e (λ i. refl) refl before
      by (Own o) e before = unserved (Own o) e (λ i. refl) refl before
      by (Serves id) e before =
          let s = served_one n id e in
          let id_is : s.0.id.0 ≡ id.0 = ap (λ (i : RequestId). i.0) s.3 in
          count_more (is_slotted n) (is_slotted (suc n)) s.0 book order s.1
          (and_right (is_issued s.0) (some_serves uses port.0 n s.0.id.0) (ap (some_serves uses port.0 n) id_is ∙ not_below n id e))
          (and_from (is_issued s.0) (some_serves uses port.0 (suc n) s.0.id.0) s.2
          (or_left (serves_it (uses port.0 n) s.0.id.0) (some_serves uses port.0 n s.0.id.0) (ap (λ (v : SlotState). serves_it v s.0.id.0) e ∙ eq-eqb id.0 s.0.id.0 (sym id_is))))
          (λ y ne. ap (λ (b : Bool). is_issued y && (b || some_serves uses port.0 n y.id.0)) (ap (λ (v : SlotState). serves_it v y.id.0) e ∙ ne_eqb id.0 y.id.0 (λ q. ne (sym q ∙ sym id_is))))
          ∙ ap suc before ∙ sym (cond-true (is_serving (uses port.0 n)) (suc (serving_count uses port.0 n)) (serving_count uses port.0 n) (ap is_serving e))

  pub serving_most : (n : ℕ) → serving_count uses port.0 n ≤ issued_count book port
  serving_most n =
      let is = counted n in
      let less : count_by (is_slotted n) book ≤ count_by is_issued book = count_least (is_slotted n) is_issued book (λ y k t. (and_parts (is_issued y) (some_serves uses port.0 n y.id.0) t).0) in
      omega (arith, is, less)

  pub serving_all : (n : ℕ) → HaveSlotsUnlessParked uses m port.0 [] → ((slot : ℕ) (id : RequestId) → uses port.0 slot ≡ Serves id → slot < n) → serving_count uses port.0 n ≡ issued_count book port
  serving_all n have below = sym (counted n) ∙ count_eq (is_slotted n) is_issued book (λ y k. same y (map_in unanswered m.book y (from_in y book k)) (is_issued y) refl)
    where
      slotted : (e : Pending) → Contains m.book e → is_issued (unanswered e) ≡ true → some_serves uses port.0 n e.request.id.0 ≡ true
      slotted e here t =
          let parts = and_parts (e.request.port.0 == port.0) e.issued t in
          ⊎_elim
          (λ (p : Contains [] e.request.id). absurd (contains_none e.request.id p))
          (λ (w : (slot : ℕ) × (uses port.0 slot ≡ Serves e.request.id)). some_served uses port.0 n w.0 e.request.id (below w.0 e.request.id w.1) w.1)
          (have e (inl (here, parts.1)) (eqb-true e.request.port.0 port.0 parts.0))

      same : (y : Unanswered) → (e : Pending) × Contains m.book e × (y ≡ unanswered e) → (b : Bool) → is_issued y ≡ b → is_slotted n y ≡ is_issued y
      same y w false t = and_left (is_issued y) (some_serves uses port.0 n y.id.0) t ∙ sym t
      same y w true t =
          and_from (is_issued y) (some_serves uses port.0 n y.id.0) t
          (ap (λ (u : Unanswered). some_serves uses port.0 n u.id.0) w.2 ∙ slotted w.0 w.1 (ap is_issued (sym w.2) ∙ t)) ∙ sym t

-- ---- a request that is due

module _ (uses : SlotStates) (m : Machine) (d : Device) (reached : IsReachable m) (a : StateRelation uses m d) (mode : QueueMode) (e : Pending) (may : IsEnabled m (Issue mode e)) (none : (o : Operation) → uses e.request.port.0 0 ≡ Own o → ⊥) (unarmed : (slot : ℕ) → uses e.request.port.0 slot ≡ Armed → ⊥) where
  -- a slot that serves nothing is free, since only slot 0 has a command of the driver's own
  idle_free : (slot : ℕ) → is_serving (uses e.request.port.0 slot) ≡ false → uses e.request.port.0 slot ≡ Free
  idle_free slot off = by (uses e.request.port.0 slot) refl
    where
      by : (u : SlotState) → uses e.request.port.0 slot ≡ u → u ≡ Free
      by Free f = refl
      by Armed f = absurd (unarmed slot f)
      by (Serves id) f = true_false (ap is_serving f) off
      by (Own o) f =
          let h : ServesOwn d.memory d.tape (d.port e.request.port.0) e.request.port.0 slot o = subst (λ (v : SlotState). RelatesSlot m d.memory d.tape (d.port e.request.port.0) e.request.port.0 slot v) f (a.relates_slots e.request.port.0 slot) in
          absurd (none o (ap (λ (k : ℕ). uses e.request.port.0 k) (sym h.slot_is_0) ∙ f))

  free_below : (n : ℕ) → issued_count (map unanswered m.book) e.request.port < n → (slot : ℕ) × (slot < n) × (uses e.request.port.0 slot ≡ Free)
  free_below n lt =
      let few = serving_most uses m d reached a e.request.port may.2 n in
      let r = unserving uses e.request.port.0 n (omega (arith, few, lt)) in
      (r.0, r.1, idle_free r.0 r.2)

  pub plain_finds_free : is_plain mode e.request.asked.op ≡ true → uses e.request.port.0 0 ≡ Free
  plain_finds_free plain =
      let r = free_below 1 (let zero_is = (finds_slot mode (map unanswered m.book) (unanswered e) may.1).0 plain in omega (arith, zero_is)) in
      ap (λ (k : ℕ). uses e.request.port.0 k) (let lt = r.1 in omega (arith, lt)) ∙ r.2

  pub queued_finds_free : is_plain mode e.request.asked.op ≡ false → (slot : ℕ) × (slot < mode.usable_slots) × (uses e.request.port.0 slot ≡ Free)
  queued_finds_free queued = free_below mode.usable_slots ((finds_slot mode (map unanswered m.book) (unanswered e) may.1).1 queued)
