-- Due requests of a port are put in its lowest free slots: what holds of book and slots then, whatever the device does.
use Rattle.std.proofs.Common.{ℕ, zero, suc, ◌≡◌, ◌≢◌, ◌⊎◌, ⊎_elim, inl, inr, length, ◌<◌, ◌≤◌, ◌+◌, ◌==◌, false, true, not, cond, Bool, List, [], ◌∷◌, ◌++◌, map, Option, Some, None, nat_lt, ◌&&◌, ◌||◌, refl, sym, ap, ◌∙◌, subst, arith, eq-eqb}
use Rattle.std.specs.Prelude.{IsSome, if◌then◌else◌}
use Rattle.std.specs.List.{All, Contains}
use Rattle.std.proofs.lemmas.Bool.{and_parts, cases_Bool, cases_eq, cond-true, cond-false, false≢true}
use Rattle.std.proofs.lemmas.List.Elements.{All-cons, All-contains, All-nil, All-weaker}
use Rattle.std.proofs.lemmas.List.Sums.{sum_by-cons}
use Rattle.ata_types.specs.declared.Port.{Port}
use Rattle.ata_types.specs.declared.PortState.TheVariants.{Ready as ReadyState}
use Rattle.ata_types.specs.declared.request.Op.{Op}
use Rattle.ata_types.specs.declared.request.RequestId.{RequestId}
use Rattle.block_machine.specs.DueRequests.{IsDue, conflict_on_port_by_flush_or_overlap, is_plain, issued_count, mark_issued, waits_for, with_issued}
use Rattle.block_machine.specs.declared.due.QueueMode.{QueueMode}
use Rattle.block_machine.specs.declared.due.Unanswered.{Unanswered}
use Rattle.ncq.specs.Batches.{PlacedTask}
use Rattle.ncq.specs.declared.tasks.Task.{Task}
use Rattle.host_boot.specs.TakeOver.{probe_result_of}
use Rattle.host_boot.specs.declared.ProbeResult.{ProbeResult}
use Rattle.refinement.specs.Relation.{HaveSlotsUnlessParked}
use Rattle.refinement.specs.Slots.{Serves, SlotState, SlotStates, is_serving, set_slot_state, serving_count}
use Rattle.request_queue.specs.BookEntries.{BookEntry, BookIsWellFormed, IsWellFormedEntry, as_unanswered, unanswered_of, has_id, issued_request, update_if_id}
use Rattle.slots.specs.SlotUses.{IsLowestFree, IsTaken, PortSlots}
use Rattle.slots.specs.declared.SlotUse.{SlotUse}
use Rattle.server_history.specs.Prerequisites.{PrerequisiteLaws}
use Rattle.server_history.specs.IssuingAndAnswering.{PutsInSlot, PutsInSlots, use_for}
use Rattle.server_history.specs.ServerState.{InCallInvariant, SlotStateAgreesUnlessDead, RevokedMarkInvariant, ServerState, SlotsInvariant, IsLoneSlot0, mode_at, mode_in, slot_state_of_use, slots_at, state_of, usable_slots_of, used_for, with_slot}
use Rattle.server_history.proofs.state.ChangedRequests.{all_changed}
use Rattle.server_history.proofs.state.DueRequests.{same_book}
use Rattle.server_history.proofs.state.FirstMembers.{first_here, nowhere}
use Rattle.server_history.proofs.state.ListMembers.{contains_cases, contains_there, into_map, map_in, some_in}
use Rattle.server_history.proofs.state.PlacedSlots.{its_or_other, placed_four, placed_has, placed_other, placed_same, placed_uses}
use Rattle.server_history.proofs.state.PortSlots.{its_mode, none_kept, not_dead, not_false, not_true, ready_found, ready_use, served_request, serves_used, usable_ready, used_low, used_or_not, used_ready, used_serves}
use Rattle.server_history.proofs.state.RevokedMarks.{issued_marked}
use Rattle.server_history.proofs.state.StoredCommands.{AreApart}

-- ---- what holds of book and slots

-- the slots' uses, as the driver has them of ports that aren't dead
abbrev pub slot_uses : List PortSlots → SlotStates
slot_uses slots port slot = slot_state_of_use (used_for slots port slot)

-- What a slot is used for has its request in the book, an issued one of the port.
pub record HasItsRequest (book : List BookEntry) (port : ℕ) (used : SlotUse) : Type 0 where
  pub request : BookEntry
  pub there : Contains book request
  pub id_is : request.request.id ≡ used.id
  pub port_is : request.request.port.0 ≡ port
  pub issued : request.request.issued ≡ true

-- What of `InCallInvariant` speaks of neither device nor machine; and each used slot has its request, so that on a ready
-- port no more slots are used than requests are issued.
pub record BookAndSlotsInvariant (s : ServerState) : Type 0 where
  pub modes : (port : ℕ) → state_of (probe_result_of s.probe_results port) ≡ ReadyState → (port < 4) × (usable_slots_of (probe_result_of s.probe_results port) (mode_at s.modes port) ≡ (mode_at s.modes port).usable_slots)
      × (1 ≤ (mode_at s.modes port).usable_slots) × ((mode_at s.modes port).usable_slots ≤ 32)
  pub four : length s.slots ≡ 4
  pub slots : (port : ℕ) → port < 4 → SlotsInvariant s.probe_results s.modes s.slots port
  pub kinds : (port : Port) (slot : ℕ) (used : SlotUse) (e : BookEntry) → used_for s.slots port.0 slot ≡ Some used → Contains s.book e → e.request.id ≡ used.id → used.queued ≡ not (is_plain (mode_in s port) e.request.op)
  pub alone : (port slot : ℕ) (used : SlotUse) → used_for s.slots port slot ≡ Some used → used.queued ≡ false → IsLoneSlot0 s.slots port slot
  pub served : (port slot : ℕ) (used : SlotUse) → used_for s.slots port slot ≡ Some used → HasItsRequest s.book port used
  pub counted : (port : Port) → state_of (probe_result_of s.probe_results port.0) ≡ ReadyState → serving_count (slot_uses s.slots) port.0 (mode_in s port).usable_slots ≤ issued_count (unanswered_of s.book) port
  pub accepted : All (IsWellFormedEntry s.table) s.book
  pub ordered : BookIsWellFormed s.book
  pub marked : All (RevokedMarkInvariant s.grants) s.book
  pub handed_out : All (λ e. e.request.id.0 ≤ s.last_id) s.book
  pub ready : All (λ e. state_of (probe_result_of s.probe_results e.request.port.0) ≡ ReadyState) s.book

-- where the slots' uses are the same, as many serve
serving_alike : (uses other : SlotStates) (port : ℕ) → ((slot : ℕ) → uses port slot ≡ other port slot) → (n : ℕ) → serving_count uses port n ≡ serving_count other port n
serving_alike uses other port same zero = refl
serving_alike uses other port same (suc n) =
    ap (λ (b : Bool). if b then suc (serving_count uses port n) else serving_count uses port n) (ap is_serving (same n))
    ∙ ap (λ (k : ℕ). if is_serving (other port n) then suc k else k) (serving_alike uses other port same n)

pub book_and_slots : PrerequisiteLaws → (s : ServerState) → InCallInvariant s → BookAndSlotsInvariant s
book_and_slots laws s k = record {
  modes = λ port ready. let low = (ready_found s port k ready).0 in let fit = (its_mode s port k low).0 in (low, usable_ready s port k ready, fit.0, fit.1);
  four = k.slots_are_of_four_ports;
  slots = k.slots_invariant;
  kinds = k.slots_queue_as_asked;
  alone = k.plain_is_alone_in_slot_0;
  served = λ port slot used is.
      let ready = used_ready s port slot used k is in
      let x = served_request s k.machine port slot k.machine_relation ready used.id (serves_used s k.machine port k.machine_relation ready slot used is) in
      record { request = x.request; there = x.there; id_is = x.id_is; port_is = x.port_is; issued = sym x.entry.issued ∙ x.issued };
  counted = λ port ready. let n = as_many port ready in omega (arith, n);
  accepted = k.entries_are_well_formed;
  ordered = k.book_is_well_formed;
  marked = k.revoked_marks_agree;
  handed_out = k.ids_were_handed_out;
  ready = k.requests_are_of_ready_ports;
}
  where
    as_many : (port : Port) → state_of (probe_result_of s.probe_results port.0) ≡ ReadyState → serving_count (slot_uses s.slots) port.0 (mode_in s port).usable_slots ≡ issued_count (unanswered_of s.book) port
    as_many port ready =
        serving_alike (slot_uses s.slots) k.machine_relation.uses port.0 (λ slot. sym (ready_use s k.machine port.0 k.machine_relation ready slot)) (mode_in s port).usable_slots
        ∙ laws.recovery.serving_slots_are_issued_count k.machine_relation.uses k.machine s.device k.reached k.machine_relation.driver_relation.state_relation port (none_kept s k.machine port k.machine_relation (not_dead s port.0 ready)) (mode_in s port).usable_slots
        (subst (λ (ids : List RequestId). HaveSlotsUnlessParked k.machine_relation.uses k.machine port.0 ids) (k.machine_relation.only_dead_ports_park port.0 (not_dead s port.0 ready)) (k.machine_relation.driver_relation.have_slots_unless_parked port.0))
        (λ slot id serves.
        let u = used_serves s k.machine port.0 k.machine_relation ready slot id serves in
        subst (λ (n : ℕ). slot < n) (usable_ready s port.0 k ready) (used_low s port.0 slot u.0 k (ready_found s port.0 k ready).0 u.1))
        ∙ ap (λ (us : List Unanswered). issued_count us port) (same_book s.book k.machine.book k.machine_relation.book)

-- ---- a due request finds a slot

-- a taken slot is used for something
taken_used : (used : Option SlotUse) → IsSome used → (u : SlotUse) × (used ≡ Some u)
taken_used None some = absurd (false≢true some)
taken_used (Some u) some = (u, refl)

-- where each slot below this one serves, so many do
all_serve : (uses : SlotStates) (port most : ℕ) → ((slot : ℕ) → slot < most → is_serving (uses port slot) ≡ true) → (n : ℕ) → n ≤ most → n ≤ serving_count uses port n
all_serve uses port most each zero few = omega arith
all_serve uses port most each (suc n) few =
    subst (λ (k : ℕ). suc n ≤ k) (sym (cond-true (is_serving (uses port n)) (suc (serving_count uses port n)) (serving_count uses port n) (each n (omega (arith, few)))))
    (let before = all_serve uses port most each n (omega (arith, few)) in omega (arith, before))

module _ (s : ServerState) (port : Port) (k : BookAndSlotsInvariant s) (e : BookEntry) (here : Contains s.book e) (port_is : e.request.port ≡ port) (due : IsDue (mode_in s port) (unanswered_of s.book) (as_unanswered e.request)) where
  -- how its port takes commands
  abbrev due_mode : QueueMode
  due_mode = mode_in s port

  port_same : e.request.port.0 ≡ port.0
  port_same = ap (λ (p : Port). p.0) port_is

  pub due_ready : state_of (probe_result_of s.probe_results port.0) ≡ ReadyState
  due_ready = subst (λ (q : ℕ). state_of (probe_result_of s.probe_results q) ≡ ReadyState) port_same (All-contains (λ (x : BookEntry). state_of (probe_result_of s.probe_results x.request.port.0) ≡ ReadyState) s.book e k.ready here)

  pub due_low : port.0 < 4
  due_low = (k.modes port.0 due_ready).0

  pub due_waits : e.request.issued ≡ false
  due_waits = not_true e.request.issued (and_parts _ _ due.waits_and_nothing_blocks).0

  -- an issued request of the port holds it back, if either is plain
  holds : (other : Unanswered) → other.port.0 ≡ port.0 → other.issued ≡ true → (is_plain due_mode e.request.op ≡ true) ⊎ (is_plain due_mode other.op ≡ true) → waits_for due_mode (as_unanswered e.request) other ≡ true
  holds other own issued plain =
      ap (λ (b : Bool). b && kept) (eq-eqb other.port.0 e.request.port.0 (own ∙ sym port_same)) ∙ by (is_plain due_mode e.request.op) plain
    where
      kept : Bool
      kept = if is_plain due_mode e.request.op then other.issued || nat_lt other.id.0 e.request.id.0 else (is_plain due_mode other.op && other.issued) || (nat_lt other.id.0 e.request.id.0 && (is_plain due_mode other.op || conflict_on_port_by_flush_or_overlap other (as_unanswered e.request)))

      by : (b : Bool) → (b ≡ true) ⊎ (is_plain due_mode other.op ≡ true) →
          (if b then other.issued || nat_lt other.id.0 e.request.id.0 else (is_plain due_mode other.op && other.issued) || (nat_lt other.id.0 e.request.id.0 && (is_plain due_mode other.op || conflict_on_port_by_flush_or_overlap other (as_unanswered e.request)))) ≡ true
      by true it = ap (λ (x : Bool). x || nat_lt other.id.0 e.request.id.0) issued
      by false (inl queued) = absurd (false≢true queued)
      by false (inr its) =
          ap (λ (x : Bool). (x && other.issued) || (nat_lt other.id.0 e.request.id.0 && (x || conflict_on_port_by_flush_or_overlap other (as_unanswered e.request)))) its
          ∙ ap (λ (x : Bool). x || (nat_lt other.id.0 e.request.id.0 && (true || conflict_on_port_by_flush_or_overlap other (as_unanswered e.request)))) issued

  -- so no slot of the port is used for a plain request, and none at all where this one is plain
  pub none_beside : (n : ℕ) (u : SlotUse) → used_for s.slots port.0 n ≡ Some u → (is_plain due_mode e.request.op ≡ true) ⊎ (u.queued ≡ false) → ⊥
  none_beside n u used plain = false≢true (sym (not_true _ (and_parts _ _ due.waits_and_nothing_blocks).1) ∙ some_in (waits_for due_mode (as_unanswered e.request)) (unanswered_of s.book) (as_unanswered x.request.request)
      (into_map (λ (h : BookEntry). as_unanswered h.request) s.book x.request x.there)
      (holds (as_unanswered x.request.request) x.port_is x.issued (⊎_elim (λ it. inl it) (λ its. inr (plain_of its)) plain)))
    where
      x : HasItsRequest s.book port.0 u
      x = k.served port.0 n u used

      plain_of : u.queued ≡ false → is_plain due_mode x.request.request.op ≡ true
      plain_of its = not_false (is_plain due_mode x.request.request.op) (sym (k.kinds port n u x.request used x.there x.id_is) ∙ its)

  -- not all usable slots are taken
  pub never_full : ((slot : ℕ) → slot < (slots_at s.slots port.0).usable_count → IsTaken (slots_at s.slots port.0) slot) → ⊥
  never_full all = ⊎_elim
      (λ (plain : is_plain due_mode e.request.op ≡ true). let some = (k.modes port.0 due_ready).2 in let u = taken 0 some in none_beside 0 u.0 u.1 (inl plain))
      (λ (queued : is_plain due_mode e.request.op ≡ false).
      let left = due.slot_is_left queued in
      let most = k.counted port due_ready in
      let many = all_serve (slot_uses s.slots) port.0 due_mode.usable_slots (λ slot small. let u = taken slot small in ap (λ (used : Option SlotUse). is_serving (slot_state_of_use used)) u.1) due_mode.usable_slots (omega arith) in
      let same = ap (λ (p : Port). issued_count (unanswered_of s.book) p) port_is in
      omega (arith, left, most, many, same))
      (cases_Bool (is_plain due_mode e.request.op))
    where
      taken : (slot : ℕ) → slot < due_mode.usable_slots → (u : SlotUse) × (used_for s.slots port.0 slot ≡ Some u)
      taken slot small = taken_used (used_for s.slots port.0 slot) (all slot (subst (λ (n : ℕ). slot < n) (sym (k.slots port.0 due_low).usable_count_is_of_mode) small))

  module _ (slot : ℕ) (lowest : IsLowestFree (slots_at s.slots port.0) slot) where
    -- the lowest free slot is usable, and slot 0 for a plain one
    pub lowest_usable : slot < due_mode.usable_slots
    lowest_usable = subst (λ (n : ℕ). slot < n) (k.slots port.0 due_low).usable_count_is_of_mode lowest.0

    pub lowest_small : slot < 32
    lowest_small = let few = (k.modes port.0 due_ready).3 in let small = lowest_usable in omega (arith, few, small)

    pub lowest_head : is_plain due_mode e.request.op ≡ true → slot ≡ 0
    lowest_head plain = ⊎_elim
        (λ (head : slot ≡ 0). head)
        (λ (other : slot ≢ 0). let u = taken_used (used_for s.slots port.0 0) (lowest.2 0 (omega (arith, other))) in absurd (none_beside 0 u.0 u.1 (inl plain)))
        (cases_eq slot 0)

-- ---- how many are issued, and how many slots serve

-- one, if it is an issued one of the port
abbrev one_issued : Port → Unanswered → ℕ
one_issued port u = cond (u.port.0 == port.0 && u.issued) 1 0

issued_count_first : (port : Port) (u : Unanswered) (us : List Unanswered) → issued_count (u ∷ us) port ≡ one_issued port u + issued_count us port
issued_count_first port u us = sum_by-cons (one_issued port) u us

-- marking one takes none away
mark_grows : (port : Port) (id : RequestId) (u : Unanswered) → one_issued port u ≤ one_issued port (mark_issued id u)
mark_grows port id u = by (u.id.0 == id.0)
  where
    more : (own issued : Bool) → cond (own && issued) 1 0 ≤ cond (own && true) 1 0
    more true true = omega arith
    more true false = omega arith
    more false issued = omega arith

    by : (b : Bool) → one_issued port u ≤ one_issued port (if b then record u { issued = true } else u)
    by true = more (u.port.0 == port.0) u.issued
    by false = omega arith

issued_count_grows : (port : Port) (id : RequestId) (us : List Unanswered) → issued_count us port ≤ issued_count (with_issued id us) port
issued_count_grows port id [] = omega arith
issued_count_grows port id (u ∷ us) =
    let rest = issued_count_grows port id us in
    let one = mark_grows port id u in
    let left = issued_count_first port u us in
    let right = issued_count_first port (mark_issued id u) (with_issued id us) in
    omega (arith, rest, one, left, right)

-- and that of one that waits adds one
issued_count_adds : (port : Port) (r : Unanswered) (us : List Unanswered) → Contains us r → r.port ≡ port → r.issued ≡ false → suc (issued_count us port) ≤ issued_count (with_issued r.id us) port
issued_count_adds port r [] here own waits = absurd (nowhere r here)
issued_count_adds port r (u ∷ us) here own waits = ⊎_elim
    (λ (same : r ≡ u).
    let rest = issued_count_grows port r.id us in
    let left = issued_count_first port u us in
    let right = issued_count_first port (mark_issued r.id u) (with_issued r.id us) in
    let before : one_issued port u ≡ 0 = ap (one_issued port) (sym same) ∙ cond-false (r.port.0 == port.0 && r.issued) 1 0 (ap (λ (b : Bool). r.port.0 == port.0 && b) waits ∙ never (r.port.0 == port.0)) in
    let marked : mark_issued r.id u ≡ record r { issued = true } = ap (mark_issued r.id) (sym same) ∙ cond-true (r.id.0 == r.id.0) (record r { issued = true }) r (eq-eqb r.id.0 r.id.0 refl) in
    let after : one_issued port (mark_issued r.id u) ≡ 1 = ap (one_issued port) marked ∙ cond-true (r.port.0 == port.0 && true) 1 0 (ap (λ (b : Bool). b && true) (eq-eqb r.port.0 port.0 (ap (λ (p : Port). p.0) own))) in
    omega (arith, rest, left, right, before, after))
    (λ (later : Contains us r).
    let rest = issued_count_adds port r us later own waits in
    let one = mark_grows port r.id u in
    let left = issued_count_first port u us in
    let right = issued_count_first port (mark_issued r.id u) (with_issued r.id us) in
    omega (arith, rest, one, left, right))
    (contains_cases u us r here)
  where
    never : (b : Bool) → (b && false) ≡ false
    never true = refl
    never false = refl

-- one, if it serves
abbrev one_if : Bool → ℕ
one_if true = 1
one_if false = 0

-- of slots that are used as before but for one, one more serves at most
serving_more : (uses other : SlotStates) (port slot : ℕ) → ((k : ℕ) → k ≢ slot → other port k ≡ uses port k) → (n : ℕ) → serving_count other port n ≤ suc (serving_count uses port n)
serving_more uses other port slot same n = (both n).1
  where
    count_at : (u : SlotStates) (k : ℕ) → serving_count u port (suc k) ≡ one_if (is_serving (u port k)) + serving_count u port k
    count_at u k = by (is_serving (u port k))
      where
        by : (b : Bool) → (if b then suc (serving_count u port k) else serving_count u port k) ≡ one_if b + serving_count u port k
        by true = omega arith
        by false = omega arith

    one_most : (b : Bool) → one_if b ≤ 1
    one_most true = omega arith
    one_most false = omega arith

    both : (k : ℕ) → (k ≤ slot → serving_count other port k ≤ serving_count uses port k) × (serving_count other port k ≤ suc (serving_count uses port k))
    both zero = (λ low. omega arith, omega arith)
    both (suc k) =
        let before = both k in
        let left = count_at other k in
        let right = count_at uses k in
        ⊎_elim
        (λ (its : k ≡ slot). let one = one_most (is_serving (other port k)) in let less = before.0 (omega (arith, its)) in (λ low. absurd (omega (arith, low, its)), omega (arith, left, right, one, less)))
        (λ (ne : k ≢ slot).
        let alike : one_if (is_serving (other port k)) ≡ one_if (is_serving (uses port k)) = ap (λ (u : SlotState). one_if (is_serving u)) (same k ne) in
        let most = before.1 in
        (λ low. let less = before.0 (omega (arith, low)) in omega (arith, left, right, alike, less), omega (arith, left, right, alike, most)))
        (cases_eq k slot)

-- ---- one is put in its slot

module _ (laws : PrerequisiteLaws) (s new : ServerState) (port : Port) (id : RequestId) (t : PlacedTask) (k : BookAndSlotsInvariant s) (one : PutsInSlot port id t s new) where
  abbrev e : BookEntry
  e = one.request

  abbrev put_mode : QueueMode
  put_mode = mode_in s port

  abbrev slot : ℕ
  slot = t.slot

  abbrev its_use : Option SlotUse
  its_use = Some (use_for put_mode e)

  -- slots and book then
  abbrev slots_then : List PortSlots
  slots_then = with_slot s.slots port.0 slot its_use

  abbrev book_then : List BookEntry
  book_then = map (update_if_id id issued_request) s.book

  pub put_ready : state_of (probe_result_of s.probe_results port.0) ≡ ReadyState
  put_ready = due_ready s port k e one.is_in_book one.port_is one.due

  low : port.0 < 4
  low = (k.modes port.0 put_ready).0

  pub put_usable : slot < put_mode.usable_slots
  put_usable = lowest_usable s port k e one.is_in_book one.port_is one.due slot one.lowest

  pub put_head : is_plain put_mode e.request.op ≡ true → slot ≡ 0
  put_head = lowest_head s port k e one.is_in_book one.port_is one.due slot one.lowest

  slot_low : slot < usable_slots_of (probe_result_of s.probe_results port.0) (mode_at s.modes port.0)
  slot_low = subst (λ (n : ℕ). slot < n) (sym (k.modes port.0 put_ready).1) put_usable

  few : usable_slots_of (probe_result_of s.probe_results port.0) (mode_at s.modes port.0) ≤ 32
  few = let same = (k.modes port.0 put_ready).1 in let most = (k.modes port.0 put_ready).3 in omega (arith, same, most)

  in_list : port.0 < length s.slots
  in_list = let f = k.four in let l = low in omega (arith, f, l)

  in_places : slot < length (slots_at s.slots port.0).slot_uses
  in_places = let p = (k.slots port.0 low).has_32_slots in let small = one.slot_is_below_32 in omega (arith, p, small)

  pub its_use_placed : used_for slots_then port.0 slot ≡ its_use
  its_use_placed = placed_same s.slots port.0 slot its_use in_list in_places

  pub other_uses_placed : (q n : ℕ) → AreApart port.0 slot q n → used_for slots_then q n ≡ used_for s.slots q n
  other_uses_placed q n other = placed_other s.slots port.0 slot its_use in_list in_places q n other

  -- where the uses agree with the slots, they do with this one serving its request
  pub put_slot_placed : (found : List ProbeResult) (uses : SlotStates) → ((q n : ℕ) → SlotStateAgreesUnlessDead (probe_result_of found q) (used_for s.slots q n) (uses q n))
      → (q n : ℕ) → SlotStateAgreesUnlessDead (probe_result_of found q) (used_for slots_then q n) (set_slot_state uses port.0 slot (Serves e.request.id) q n)
  put_slot_placed found uses was = placed_uses s.slots port.0 slot its_use in_list in_places laws found uses was

  its_there : (q n : ℕ) (used : SlotUse) → q ≡ port.0 → n ≡ slot → used_for slots_then q n ≡ Some used → use_for put_mode e ≡ used
  its_there q n used same its is =
      let z : Some (use_for put_mode e) ≡ Some used = sym its_use_placed ∙ ap (λ (m : ℕ). used_for slots_then port.0 m) (sym its) ∙ ap (λ (p : ℕ). used_for slots_then p n) (sym same) ∙ is in cc

  was_used : (q n : ℕ) (used : SlotUse) → AreApart port.0 slot q n → used_for slots_then q n ≡ Some used → used_for s.slots q n ≡ Some used
  was_used q n used other is = sym (other_uses_placed q n other) ∙ is

  -- what the update leaves of a request
  op_same : (x : BookEntry) → (update_if_id id issued_request x).request.op ≡ x.request.op
  op_same x = by (has_id id x)
    where
      by : (b : Bool) → (if b then record x { request = issued_request x.request } else x).request.op ≡ x.request.op
      by true = refl
      by false = refl

  id_same : (x : BookEntry) → (update_if_id id issued_request x).request.id ≡ x.request.id
  id_same x = by (has_id id x)
    where
      by : (b : Bool) → (if b then record x { request = issued_request x.request } else x).request.id ≡ x.request.id
      by true = refl
      by false = refl

  port_same_then : (x : BookEntry) → (update_if_id id issued_request x).request.port ≡ x.request.port
  port_same_then x = by (has_id id x)
    where
      by : (b : Bool) → (if b then record x { request = issued_request x.request } else x).request.port ≡ x.request.port
      by true = refl
      by false = refl

  issued_still : (x : BookEntry) → x.request.issued ≡ true → (update_if_id id issued_request x).request.issued ≡ true
  issued_still x is = by (has_id id x)
    where
      by : (b : Bool) → (if b then record x { request = issued_request x.request } else x).request.issued ≡ true
      by true = refl
      by false = is

  e_issued : update_if_id id issued_request e ≡ record e { request = issued_request e.request }
  e_issued = cond-true (has_id id e) (record e { request = issued_request e.request }) e (eq-eqb e.request.id.0 id.0 (ap (λ (r : RequestId). r.0) one.id_is))

  kinds_then : (q : Port) (n : ℕ) (used : SlotUse) (h : BookEntry) → used_for slots_then q.0 n ≡ Some used → Contains book_then h → h.request.id ≡ used.id → used.queued ≡ not (is_plain (mode_in s q) h.request.op)
  kinds_then q n used h is there same = ⊎_elim
      (λ (its : (q.0 ≡ port.0) × (n ≡ slot)).
      let alike : use_for put_mode e ≡ used = its_there q.0 n used its.0 its.1 is in
      let one_is : old.0 ≡ e = laws.an_id_is_one_entry s.book old.0 e k.ordered old.1 one.is_in_book (sym (id_same old.0) ∙ sym (ap (λ (x : BookEntry). x.request.id) old.2) ∙ same ∙ ap (λ (u : SlotUse). u.id) (sym alike)) in
      ap (λ (u : SlotUse). u.queued) (sym alike) ∙ ap (λ (o : Op). not (is_plain put_mode o)) (ap (λ (x : BookEntry). x.request.op) (sym one_is) ∙ sym (op_same old.0) ∙ ap (λ (x : BookEntry). x.request.op) (sym old.2))
      ∙ ap (λ (p : ℕ). not (is_plain (mode_at s.modes p) h.request.op)) (sym its.0))
      (λ (other : AreApart port.0 slot q.0 n).
      k.kinds q n used old.0 (was_used q.0 n used other is) old.1 (sym (id_same old.0) ∙ sym (ap (λ (x : BookEntry). x.request.id) old.2) ∙ same)
      ∙ ap (λ (o : Op). not (is_plain (mode_in s q) o)) (sym (op_same old.0) ∙ ap (λ (x : BookEntry). x.request.op) (sym old.2)))
      (its_or_other port.0 slot q.0 n)
    where
      old : (x : BookEntry) × Contains s.book x × (h ≡ update_if_id id issued_request x)
      old = map_in (update_if_id id issued_request) s.book h there

  none_with : (n : ℕ) (u : SlotUse) → used_for s.slots port.0 n ≡ Some u → (is_plain put_mode e.request.op ≡ true) ⊎ (u.queued ≡ false) → ⊥
  none_with = none_beside s port k e one.is_in_book one.port_is one.due

  alone_then : (q n : ℕ) (used : SlotUse) → used_for slots_then q n ≡ Some used → used.queued ≡ false → IsLoneSlot0 slots_then q n
  alone_then q n used is plain = ⊎_elim
      (λ (its : (q ≡ port.0) × (n ≡ slot)).
      let its_plain : is_plain put_mode e.request.op ≡ true = not_false (is_plain put_mode e.request.op) (ap (λ (u : SlotUse). u.queued) (its_there q n used its.0 its.1 is) ∙ plain) in
      let head : slot ≡ 0 = put_head its_plain in (
        its.1 ∙ head,
        λ other ne. none_else q other (λ u used_now.
            none_with other u (subst (λ (p : ℕ). used_for s.slots p other ≡ Some u) its.0 (was_used q other u (λ a b. ne (b ∙ head)) used_now)) (inl its_plain)),
      ))
      (λ (apart : AreApart port.0 slot q n).
      let was = was_used q n used apart is in
      let old = k.alone q n used was plain in
      ⊎_elim
      (λ (same : q ≡ port.0). absurd (none_with n used (subst (λ (p : ℕ). used_for s.slots p n ≡ Some used) same was) (inr plain)))
      (λ (beside : q ≢ port.0). (
        old.0,
        λ other ne. none_else q other (λ u used_now.
            let z : None ≡ Some u = sym (old.1 other ne) ∙ was_used q other u (λ a b. beside a) used_now in cc),
      ))
      (cases_eq q port.0))
      (its_or_other port.0 slot q n)
    where
      none_else : (q other : ℕ) → ((u : SlotUse) → used_for slots_then q other ≡ Some u → ⊥) → used_for slots_then q other ≡ None
      none_else q other never = ⊎_elim (λ x. absurd (never x.0 x.1)) (λ none. none) (used_or_not (used_for slots_then q other))

  served_then : (q n : ℕ) (used : SlotUse) → used_for slots_then q n ≡ Some used → HasItsRequest book_then q used
  served_then q n used is = ⊎_elim
      (λ (its : (q ≡ port.0) × (n ≡ slot)).
      let alike : use_for put_mode e ≡ used = its_there q n used its.0 its.1 is in
      record {
        request = update_if_id id issued_request e;
        there = into_map (update_if_id id issued_request) s.book e one.is_in_book;
        id_is = id_same e ∙ ap (λ (u : SlotUse). u.id) alike;
        port_is = ap (λ (p : Port). p.0) (port_same_then e ∙ one.port_is) ∙ sym its.0;
        issued = ap (λ (x : BookEntry). x.request.issued) e_issued;
      })
      (λ (other : AreApart port.0 slot q n).
      let x = k.served q n used (was_used q n used other is) in
      record {
        request = update_if_id id issued_request x.request;
        there = into_map (update_if_id id issued_request) s.book x.request x.there;
        id_is = id_same x.request ∙ x.id_is;
        port_is = ap (λ (p : Port). p.0) (port_same_then x.request) ∙ x.port_is;
        issued = issued_still x.request x.issued;
      })
      (its_or_other port.0 slot q n)

  counted_then : (q : Port) → state_of (probe_result_of s.probe_results q.0) ≡ ReadyState → serving_count (slot_uses slots_then) q.0 (mode_in s q).usable_slots ≤ issued_count (unanswered_of book_then) q
  counted_then q ready =
      subst (λ (us : List Unanswered). serving_count (slot_uses slots_then) q.0 (mode_in s q).usable_slots ≤ issued_count us q) (sym (laws.unanswered_after_issue s.book id)) (⊎_elim
      (λ (its : q.0 ≡ port.0).
      let more = serving_more (slot_uses s.slots) (slot_uses slots_then) q.0 slot (λ n ne. ap slot_state_of_use (other_uses_placed q.0 n (λ same here. ne here))) (mode_in s q).usable_slots in
      let most = k.counted q ready in
      let added : suc (issued_count (unanswered_of s.book) q) ≤ issued_count (with_issued id (unanswered_of s.book)) q =
      subst (λ (i : RequestId). suc (issued_count (unanswered_of s.book) q) ≤ issued_count (with_issued i (unanswered_of s.book)) q) one.id_is
      (issued_count_adds q (as_unanswered e.request) (unanswered_of s.book) (into_map (λ (x : BookEntry). as_unanswered x.request) s.book e one.is_in_book) (one.port_is ∙ ap (λ (n : ℕ). record { 0 = n }) (sym its)) (due_waits s port k e one.is_in_book one.port_is one.due)) in
      omega (arith, more, most, added))
      (λ (other : q.0 ≢ port.0).
      let same = serving_alike (slot_uses slots_then) (slot_uses s.slots) q.0 (λ n. ap slot_state_of_use (other_uses_placed q.0 n (λ is here. other is))) (mode_in s q).usable_slots in
      let most = k.counted q ready in
      let more = issued_count_grows q id (unanswered_of s.book) in
      omega (arith, same, most, more))
      (cases_eq q.0 port.0))

  -- book and slots hold what they hold
  pub put_keeps : BookAndSlotsInvariant new
  put_keeps = subst BookAndSlotsInvariant (sym one.server_is) (record {
    modes = k.modes;
    four = placed_four s.probe_results s.modes s.slots port.0 slot its_use k.four low slot_low few k.slots;
    slots = placed_has s.probe_results s.modes s.slots port.0 slot its_use k.four low slot_low few k.slots;
    kinds = kinds_then;
    alone = alone_then;
    served = served_then;
    counted = counted_then;
    accepted = laws.issuing_keeps_entries_well_formed s.table s.book id k.accepted;
    ordered = laws.issuing_keeps_book_well_formed s.book id k.ordered (e, one.is_in_book, one.id_is, due_waits s port k e one.is_in_book one.port_is one.due);
    marked = all_changed id issued_request (RevokedMarkInvariant s.grants) (issued_marked s.grants) s.book k.marked;
    handed_out = all_changed id issued_request (λ y. y.request.id.0 ≤ s.last_id) (λ y a. a) s.book k.handed_out;
    ready = all_changed id issued_request (λ y. state_of (probe_result_of s.probe_results y.request.port.0) ≡ ReadyState) (λ y a. a) s.book k.ready;
  })

-- ---- one after another

-- the task's slot of the port is used for it
abbrev pub IsUsedFor : Port → ServerState → PlacedTask → Type 0
IsUsedFor port s t = (used : SlotUse) × (used_for s.slots port.0 t.slot ≡ Some used) × (used.queued ≡ t.task.queued)

module _ (laws : PrerequisiteLaws) (port : Port) where
  pub puts_keep : (ids : List RequestId) (tasks : List PlacedTask) (s new : ServerState) → BookAndSlotsInvariant s → PutsInSlots port ids tasks s new → BookAndSlotsInvariant new
  puts_keep [] [] s new k none = subst BookAndSlotsInvariant (sym none) k
  puts_keep (id ∷ ids) (t ∷ tasks) s new k (mid, one, more) = puts_keep ids tasks mid new (put_keeps laws s mid port id t k one) more
  puts_keep [] (t ∷ tasks) s new k more = absurd more
  puts_keep (id ∷ ids) [] s new k more = absurd more

  -- but for slots and book, the server is as it was
  pub puts_settings : (ids : List RequestId) (tasks : List PlacedTask) (s new : ServerState) → PutsInSlots port ids tasks s new → new ≡ record s { slots = new.slots; book = new.book }
  puts_settings [] [] s new none = none ∙ ap (λ (n : ServerState). record s { slots = n.slots; book = n.book }) (sym none)
  puts_settings (id ∷ ids) (t ∷ tasks) s new (mid, one, more) =
      puts_settings ids tasks mid new more ∙ ap (λ (n : ServerState). record n { slots = new.slots; book = new.book }) one.server_is
  puts_settings [] (t ∷ tasks) s new more = absurd more
  puts_settings (id ∷ ids) [] s new more = absurd more

  -- one more
  pub puts_more : (ids : List RequestId) (tasks : List PlacedTask) (s mid new : ServerState) (id : RequestId) (t : PlacedTask) → PutsInSlots port ids tasks s mid → PutsInSlot port id t mid new → PutsInSlots port (ids ++ id ∷ []) (tasks ++ t ∷ []) s new
  puts_more [] [] s mid new id t none one = (new, subst (λ (n : ServerState). PutsInSlot port id t n new) none one, refl)
  puts_more (first ∷ ids) (other ∷ tasks) s mid new id t (next, its, more) one = (next, its, puts_more ids tasks next mid new id t more one)
  puts_more [] (other ∷ tasks) s mid new id t puts one = absurd puts
  puts_more (first ∷ ids) [] s mid new id t puts one = absurd puts

  -- where one is put in a slot, the port is ready
  pub puts_ready : (id : RequestId) (ids : List RequestId) (tasks : List PlacedTask) (s new : ServerState) → BookAndSlotsInvariant s → PutsInSlots port (id ∷ ids) tasks s new → state_of (probe_result_of s.probe_results port.0) ≡ ReadyState
  puts_ready id ids [] s new k more = absurd more
  puts_ready id ids (t ∷ tasks) s new k (mid, one, more) = put_ready laws s mid port id t k one

  -- what was used still is
  still_used : (s new : ServerState) (id : RequestId) (t : PlacedTask) → BookAndSlotsInvariant s → PutsInSlot port id t s new → (q n : ℕ) (used : SlotUse) → used_for s.slots q n ≡ Some used → used_for new.slots q n ≡ Some used
  still_used s new id t k one q n used is =
      ap (λ (c : ServerState). used_for c.slots q n) one.server_is
      ∙ other_uses_placed laws s new port id t k one q n
      (λ same its. let z : None ≡ Some used = sym one.lowest.1 ∙ ap (λ (i : ℕ). used_for s.slots port.0 i) (sym its) ∙ ap (λ (p : ℕ). used_for s.slots p n) (sym same) ∙ is in cc)
      ∙ is

  -- so the slots were free
  pub puts_free : (ids : List RequestId) (tasks : List PlacedTask) (s new : ServerState) → BookAndSlotsInvariant s → PutsInSlots port ids tasks s new → All (λ t. used_for s.slots port.0 t.slot ≡ None) tasks
  puts_free [] [] s new k none = All-nil (λ t. used_for s.slots port.0 t.slot ≡ None)
  puts_free (id ∷ ids) (t ∷ tasks) s new k (mid, one, more) =
      All-cons (λ t. used_for s.slots port.0 t.slot ≡ None) t tasks one.lowest.1
      (All-weaker (λ t. used_for mid.slots port.0 t.slot ≡ None) (λ t. used_for s.slots port.0 t.slot ≡ None)
      (λ other free. ⊎_elim
      (λ (x : (u : SlotUse) × (used_for s.slots port.0 other.slot ≡ Some u)).
      let z : None ≡ Some x.0 = sym free ∙ still_used s mid id t k one port.0 other.slot x.0 x.1 in absurd cc)
      (λ (none : used_for s.slots port.0 other.slot ≡ None). none)
      (used_or_not (used_for s.slots port.0 other.slot)))
      tasks (puts_free ids tasks mid new (put_keeps laws s mid port id t k one) more))
  puts_free [] (t ∷ tasks) s new k more = absurd more
  puts_free (id ∷ ids) [] s new k more = absurd more

  -- a slot that is used then is used as one of the tasks, or was before, and is none of theirs
  pub puts_used : (ids : List RequestId) (tasks : List PlacedTask) (s new : ServerState) → BookAndSlotsInvariant s → PutsInSlots port ids tasks s new → (q n : ℕ) (used : SlotUse) → used_for new.slots q n ≡ Some used
      → ((used_for s.slots q n ≡ Some used) × ((t : PlacedTask) → Contains tasks t → AreApart port.0 t.slot q n))
      ⊎ ((q ≡ port.0) × ((t : PlacedTask) × Contains tasks t × (t.slot ≡ n) × (t.task.queued ≡ used.queued)))
  puts_used [] [] s new k none q n used is = inl (ap (λ (c : ServerState). used_for c.slots q n) (sym none) ∙ is, λ t here. absurd (nowhere t here))
  puts_used (id ∷ ids) (t ∷ tasks) s new k (mid, one, more) q n used is = ⊎_elim
      (λ (was : (used_for mid.slots q n ≡ Some used) × ((x : PlacedTask) → Contains tasks x → AreApart port.0 x.slot q n)).
      let is_then : used_for (with_slot s.slots port.0 t.slot (Some (use_for (mode_in s port) one.request))) q n ≡ Some used = ap (λ (c : ServerState). used_for c.slots q n) (sym one.server_is) ∙ was.0 in
      ⊎_elim
      (λ (its : (q ≡ port.0) × (n ≡ t.slot)).
      let same : use_for (mode_in s port) one.request ≡ used = its_there laws s mid port id t k one q n used its.0 its.1 is_then in
      inr (its.0, (t, first_here t tasks, sym its.1, ap (λ (r : Task). r.queued) one.task_is ∙ ap (λ (u : SlotUse). u.queued) same)))
      (λ (other : AreApart port.0 t.slot q n).
      inl (was_used laws s mid port id t k one q n used other is_then, λ x here. ⊎_elim (λ (same : x ≡ t). subst (λ (y : PlacedTask). AreApart port.0 y.slot q n) (sym same) other) (λ (later : Contains tasks x). was.1 x later) (contains_cases t tasks x here)))
      (its_or_other port.0 t.slot q n))
      (λ (its : (q ≡ port.0) × ((x : PlacedTask) × Contains tasks x × (x.slot ≡ n) × (x.task.queued ≡ used.queued))).
      inr (its.0, (its.1.0, contains_there t tasks its.1.0 its.1.1, its.1.2, its.1.3)))
      (puts_used ids tasks mid new (put_keeps laws s mid port id t k one) more q n used is)
  puts_used [] (t ∷ tasks) s new k more q n used is = absurd more
  puts_used (id ∷ ids) [] s new k more q n used is = absurd more

  -- what was used before any of them still is
  pub puts_still_used : (ids : List RequestId) (tasks : List PlacedTask) (s new : ServerState) → BookAndSlotsInvariant s → PutsInSlots port ids tasks s new → (q n : ℕ) (used : SlotUse) → used_for s.slots q n ≡ Some used → used_for new.slots q n ≡ Some used
  puts_still_used [] [] s new k none q n used is = ap (λ (c : ServerState). used_for c.slots q n) none ∙ is
  puts_still_used (id ∷ ids) (t ∷ tasks) s new k (mid, one, more) q n used is = puts_still_used ids tasks mid new (put_keeps laws s mid port id t k one) more q n used (still_used s mid id t k one q n used is)
  puts_still_used [] (t ∷ tasks) s new k more q n used is = absurd more
  puts_still_used (id ∷ ids) [] s new k more q n used is = absurd more

  -- each one's slot is used for it
  pub puts_there : (ids : List RequestId) (tasks : List PlacedTask) (s new : ServerState) → BookAndSlotsInvariant s → PutsInSlots port ids tasks s new → All (IsUsedFor port new) tasks
  puts_there [] [] s new k none = All-nil (IsUsedFor port new)
  puts_there (id ∷ ids) (t ∷ tasks) s new k (mid, one, more) =
      All-cons (IsUsedFor port new) t tasks (
        use_for (mode_in s port) one.request,
        puts_still_used ids tasks mid new (put_keeps laws s mid port id t k one) more port.0 t.slot (use_for (mode_in s port) one.request) (ap (λ (c : ServerState). used_for c.slots port.0 t.slot) one.server_is ∙ its_use_placed laws s mid port id t k one),
        ap (λ (r : Task). r.queued) (sym one.task_is),
      )
      (puts_there ids tasks mid new (put_keeps laws s mid port id t k one) more)
  puts_there [] (t ∷ tasks) s new k more = absurd more
  puts_there (id ∷ ids) [] s new k more = absurd more

  -- ---- each of them waits until its turn comes

  puts_wait : (ids : List RequestId) (tasks : List PlacedTask) (s new : ServerState) → BookAndSlotsInvariant s → PutsInSlots port ids tasks s new → (id : RequestId) → Contains ids id → (e : BookEntry) → Contains s.book e → e.request.id ≡ id → e.request.issued ≡ false
  puts_wait [] tasks s new k more id there e here its = absurd (nowhere id there)
  puts_wait (first ∷ ids) (t ∷ tasks) s new k (mid, one, more) id there e here its = ⊎_elim
      (λ (same : id ≡ first).
      let it : one.request ≡ e = laws.an_id_is_one_entry s.book one.request e k.ordered one.is_in_book here (one.id_is ∙ sym same ∙ sym its) in
      subst (λ (x : BookEntry). x.request.issued ≡ false) it (not_true one.request.request.issued (and_parts _ _ one.due.waits_and_nothing_blocks).0))
      (λ (later : Contains ids id).
      let moved : Contains mid.book (update_if_id first issued_request e) = subst (λ (n : ServerState). Contains n.book (update_if_id first issued_request e)) (sym one.server_is) (into_map (update_if_id first issued_request) s.book e here) in
      let waits : (update_if_id first issued_request e).request.issued ≡ false = puts_wait ids tasks mid new (put_keeps laws s mid port first t k one) more id later (update_if_id first issued_request e) moved (id_same laws s mid port first t k one e ∙ its) in
      still e (has_id first e) refl waits)
      (contains_cases first ids id there)
    where
      still : (e : BookEntry) (b : Bool) → has_id first e ≡ b → (update_if_id first issued_request e).request.issued ≡ false → e.request.issued ≡ false
      still e true is waits = absurd (false≢true (sym waits ∙ ap (λ (x : BookEntry). x.request.issued) (cond-true (has_id first e) (record e { request = issued_request e.request }) e is)))
      still e false is waits = sym (ap (λ (x : BookEntry). x.request.issued) (cond-false (has_id first e) (record e { request = issued_request e.request }) e is)) ∙ waits
  puts_wait (first ∷ ids) [] s new k more id there e here its = absurd more

  -- so none is put in two slots
  pub never_again : (first : RequestId) (t : PlacedTask) (ids : List RequestId) (tasks : List PlacedTask) (s mid new : ServerState) → BookAndSlotsInvariant s → PutsInSlot port first t s mid → PutsInSlots port ids tasks mid new → Contains ids first → ⊥
  never_again first t ids tasks s mid new k one more there = false≢true (sym waits ∙ ap (λ (x : BookEntry). x.request.issued) now)
    where
      e : BookEntry
      e = one.request

      now : update_if_id first issued_request e ≡ record e { request = issued_request e.request }
      now = cond-true (has_id first e) (record e { request = issued_request e.request }) e (eq-eqb e.request.id.0 first.0 (ap (λ (r : RequestId). r.0) one.id_is))

      waits : (update_if_id first issued_request e).request.issued ≡ false
      waits = puts_wait ids tasks mid new (put_keeps laws s mid port first t k one) more first there (update_if_id first issued_request e)
          (subst (λ (n : ServerState). Contains n.book (update_if_id first issued_request e)) (sym one.server_is) (into_map (update_if_id first issued_request) s.book e one.is_in_book))
          (ap (λ (x : BookEntry). x.request.id) now ∙ one.id_is)
