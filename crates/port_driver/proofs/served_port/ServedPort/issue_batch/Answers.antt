use Rattle.std.proofs.Common.{ℕ, rules, ◌≡◌, ◌+◌, ◌/◌, ◌%◌, ◌<◌, ◌≤◌, ◌⊎◌, ⊎_elim, suc, zero, Some, not, false, true, inl, inr, List, [], ◌∷◌, ◌++◌, drop, get_or, length, map, refl, sym, take, ap, ◌∙◌, subst, arith}
use Rattle.std.proofs.lemmas.Bool.{cases_eq}
use Rattle.std.proofs.lemmas.List.{drop_more, length-map, take_all, take_more}
use Rattle.std.proofs.lemmas.List.Elements.{All-nil}
use Rattle.ata_types.specs.declared.request.RequestId.{RequestId}
use Rattle.hba_regs.specs.Bits.{bit}
use Rattle.adapter.specs.Device.{Device}
use Rattle.block_machine.specs.DueRequests.{AreDueInTurnAndLeaveNoneDue, due_of, is_plain}
use Rattle.block_machine.specs.declared.due.QueueMode.{QueueMode}
use Rattle.block_machine.specs.declared.due.Unanswered.{Unanswered}
use Rattle.ncq.specs.Batches.{BatchSlotsAreUnused, IsBatchIssued, IsBatchStored, PlacedTask, StoresTransfer}
use Rattle.ncq.specs.Issuing.{MayIssueTransfer}
use Rattle.ncq.specs.declared.tasks.Task.{Task}
use Rattle.refinement.specs.Slots.{Free}
use Rattle.request_queue.specs.BookEntries.{BookEntry, BookIsWellFormed, unanswered_of, due_ids, issued_request, update_if_id}
use Rattle.server_history.specs.IssuingAndAnswering.{IssuesTogetherIfAny, IssuesTogether, ChangesOnlySlotsAndBook, FindsSlotFor, PutsInSlots, task_of, use_for}
use Rattle.server_history.specs.ServerState.{ServerState}
use Rattle.slots.specs.SlotUses.{IsLowestFree, IsTaken, PortSlots, with_use}
use Rattle.port_driver.specs.LentSlots.{HasPortToIssue, with_port_slots}
use Rattle.port_driver.specs.declared.served_port.ServedPort.{ServedPort}
use Rattle.port_driver.proofs.Batching as batching
use Rattle.port_driver.proofs.Batching.{Preparing}
use Rattle.port_driver.proofs.Sending as sending
use Rattle.port_driver.proofs.served_port.ServedPort.issue_batch.Given.{Over}
use Rattle.port_driver.proofs.served_port.ServedPort.issue_batch.Goals as goal
use Rattle.port_driver.proofs.served_port.ServedPort.issue_batch.Goals.{After-deref, After-store_transfer-arg-in-loop-place-1}

abbrev no_id : RequestId
no_id = record { 0 = 0 }

pub loop-place-init : goal.loop-place-init
loop-place-init g c =
    let device = g.A.Adapter.device c.args.adapter.now in
    let book = c.args.book.now in
    let self = c.args.self.now in
    let port = c.args.port in
    let may = c.requires.may in
    let s = may.some_server_has_port.0 in
    let l = may.some_server_has_port.1 in
    let there = sending.ready_there s port l.in_call_invariant (ap (λ f. Rattle.server_history.specs.ServerState.state_of f) l.probe_result_is ∙ may.ready) in
    let runs = (l.in_call_invariant.port_invariant port.0 there.0).ready_engine_runs (ap (λ f. Rattle.server_history.specs.ServerState.state_of f) l.probe_result_is ∙ may.ready) in
    let none : IsBatchStored port [] s.device s.device = c.law_stored_task_extends_batch.ensures.empty_batch port s.device l.in_call_invariant.adapter_is_on there l.in_call_invariant.driver_memory_fits (record { st_is_set = runs.st_is_set; list_is_in_place = ap (λ b. b.clb) runs.bases_are_programmed })
    (l.in_call_invariant.machine_relation.uses, All-nil (λ t. l.in_call_invariant.machine_relation.uses port.0 t.slot ≡ Free), record { machine = l.in_call_invariant.machine; parked = l.in_call_invariant.machine_relation.awaiting_disposition; reached = l.in_call_invariant.reached; driver_relation = l.in_call_invariant.machine_relation.driver_relation }) in
    let order : BookIsWellFormed book = subst BookIsWellFormed l.book_is l.in_call_invariant.book_is_well_formed in
    record {
      batch = ([], subst (λ (d : Device). IsBatchStored port [] d d) l.device_is none, c.law_batch_mask_gains_task_slot_bit.ensures.empty_mask, λ s l. sending.lent_same s device book self.slots port self.mode self.probe_result may.ready l);
      turns = subst (λ (ids : List RequestId). AreDueInTurnAndLeaveNoneDue self.mode port ids (unanswered_of book)) (sym c.requires.due) (c.law_issuing_due_in_turn_leaves_none_due.ensures self.mode port (unanswered_of book) (c.law_book_stays_well_formed.ensures.unanswered_are_in_order book order));
      many = refl;
      port = refl;
      fits = omega arith;
      cost = omega arith;
    }

-- ---- the request at a place

module _ (g : Over) (c : After-deref g) where
  abbrev items : List RequestId
  items = c.args.due.now.items

  abbrev id : RequestId
  id = get_or c.deref.result.now c.loop-place.place no_id

  pub in_list : c.loop-place.place < length items
  in_list = let low = c.loop-place-test.true in let end = c.len-place-end.ensures.value in omega (arith, low, end)

  pub id_is : id ≡ get_or items c.loop-place.place no_id
  id_is = ap (λ (ids : List RequestId). get_or ids c.loop-place.place no_id) c.deref.ensures.0

  abbrev mode : QueueMode
  mode = c.args.self.now.mode

  abbrev pub preparing : Preparing
  preparing = record {
    port = c.args.port;
    mode = mode;
    found = c.args.self.now.probe_result;
    ready = c.requires.may.ready;
    start = g.A.Adapter.device c.args.adapter.now;
    first_book = c.args.book.now;
    first_slots = c.args.self.now.slots;
    ids = take c.loop-place.place items;
    tasks = c.loop-place.invariant.batch.0;
    book = c.loop-place.book;
    slots = c.loop-place.self.slots;
    puts = c.loop-place.invariant.batch.3;
    id = id;
    turn = subst (sending.IsTurn c.loop-place.book c.args.port mode) (sym id_is)
        (sending.next_due c.loop-place.book c.args.port mode items c.loop-place.place no_id in_list c.loop-place.invariant.turns);
  }

  -- what is said of each server that the port may be a part of
  module _ (s : ServerState) (l : HasPortToIssue s preparing.start preparing.first_book preparing.first_slots preparing.port preparing.mode preparing.found) where
    abbrev mid : ServerState
    mid = batching.mid preparing s l

    pub goes_on : ChangesOnlySlotsAndBook s mid
    goes_on = c.law_due_requests_get_slots.ensures.invariant_goes_on s mid preparing.port preparing.ids preparing.tasks l.in_call_invariant (preparing.puts s l)

    pub full : ((slot : ℕ) → slot < preparing.slots.usable_count → IsTaken preparing.slots slot) → ⊥
    full all = c.law_due_requests_get_slots.ensures.not_all_usable_are_taken s mid preparing.port preparing.ids preparing.tasks preparing.turn.0 l.in_call_invariant (preparing.puts s l) preparing.turn.1 preparing.turn.3 (batching.mid_due preparing s l)
        (subst (λ (u : PortSlots). (slot : ℕ) → slot < u.usable_count → IsTaken u slot) (sym (batching.mid_slots preparing s l)) all)

    pub may_take : (slot : ℕ) → IsLowestFree preparing.slots slot → FindsSlotFor s preparing.port preparing.tasks preparing.turn.0 slot
    may_take slot lowest = c.law_due_requests_get_slots.ensures.lowest_free_slot_fits s mid preparing.port preparing.ids preparing.tasks preparing.turn.0 l.in_call_invariant (preparing.puts s l) preparing.turn.1 preparing.turn.3 (batching.mid_due preparing s l)
        slot (subst (λ (u : PortSlots). IsLowestFree u slot) (sym (batching.mid_slots preparing s l)) lowest)

    -- it is queued, since another is due beside it
    pub is_queued : (slot : ℕ) → IsLowestFree preparing.slots slot → is_plain mode preparing.turn.0.request.op ≡ false
    is_queued slot lowest = ⊎_elim first later (cases_eq c.loop-place.place 0)
      where
        in_mode : is_plain (Rattle.server_history.specs.ServerState.mode_in s preparing.port) preparing.turn.0.request.op ≡ false → is_plain mode preparing.turn.0.request.op ≡ false
        in_mode queued = ap (λ (m : QueueMode). is_plain m preparing.turn.0.request.op) (sym l.mode_is) ∙ queued

        later : (c.loop-place.place ≡ 0 → ⊥) → is_plain mode preparing.turn.0.request.op ≡ false
        later some = in_mode (c.law_due_requests_get_slots.ensures.several_are_queued s mid preparing.port preparing.ids preparing.tasks preparing.turn.0 l.in_call_invariant (preparing.puts s l) preparing.turn.1 preparing.turn.3 (batching.mid_due preparing s l)
            (λ none. some (batching.puts_place preparing.port items c.loop-place.place preparing.tasks s mid in_list (preparing.puts s l) none))).0

        first : c.loop-place.place ≡ 0 → is_plain mode preparing.turn.0.request.op ≡ false
        first zero_is = batching.first_queued preparing s l slot (may_take slot lowest).slot_is_below_32 lowest c.law_unanswered_follow_book_operations.ensures.issue c.law_due_requests_get_slots.ensures.one_more_gets_a_slot c.law_due_requests_get_slots.ensures.several_are_queued
            items c.loop-place.place no_id (let some = c.requires.several in omega (arith, some, zero_is)) id_is c.loop-place.invariant.turns

pub entry-requires : goal.entry-requires
entry-requires g c = let turn = (preparing g (goal.at.entry-requires g c).After-deref).turn in (turn.0, turn.1, turn.2)

pub unreachable-requires : goal.unreachable-requires
unreachable-requires g c =
    let l = c.requires.may.some_server_has_port in
    full g (goal.at.unreachable-requires g c).After-deref l.0 l.1 c.in_default.ensures.all_are_allocated

-- ---- it is stored

module _ (g : Over) (c : After-store_transfer-arg-in-loop-place-1 g) where
  abbrev d : After-deref g
  d = (goal.at.store_transfer-requires g c).After-deref

  abbrev x : Preparing
  x = preparing g d

  abbrev slot : ℕ
  slot = c.in-Some.slot.0

  abbrev now : Device
  now = g.A.Adapter.device c.loop-place.adapter

  abbrev s0 : ServerState
  s0 = c.requires.may.some_server_has_port.0

  abbrev l0 : HasPortToIssue s0 x.start x.first_book x.first_slots x.port x.mode x.found
  l0 = c.requires.may.some_server_has_port.1

  takes : FindsSlotFor s0 x.port x.tasks x.turn.0 slot
  takes = may_take g d s0 l0 slot c.in-Some.ensures.lowest

  pub slot_small : slot < 32
  slot_small = takes.slot_is_below_32

  pub queued : is_plain x.mode x.turn.0.request.op ≡ false
  queued = is_queued g d s0 l0 slot c.in-Some.ensures.lowest

  abbrev pub t : PlacedTask
  t = record { slot = slot; task = task_of x.mode x.turn.0; frames = x.turn.0.frames }

  pub made_is : ◌≡◌ {A = PlacedTask} (record { slot = slot; task = c.task_for-task.result; frames = c.entry.result.1.now.frames }) t
  made_is = ap (λ (r : Task). record { slot = slot; task = r; frames = c.entry.result.1.now.frames }) c.task_for-task.ensures
      ∙ batching.task_made x s0 l0 (goes_on g d s0 l0) c.law_an_id_is_one_request.ensures.one_request_an_id c.entry.result.0.now c.entry.result.1.now.frames c.entry.ensures.is_in_book c.entry.ensures.id.0 queued slot

  pub grows : MayIssueTransfer x.port t.slot t.task t.frames now × ((new : Device) → StoresTransfer x.port t now new → IsBatchStored x.port (x.tasks ++ t ∷ []) x.start new)
  grows = c.law_stored_task_extends_batch.ensures.one_more_task x.port x.tasks t x.start now c.loop-place.invariant.batch.1
      (subst (λ (v : Device). Rattle.refinement.specs.Fragments.SomeMachineAgreesWith (BatchSlotsAreUnused x.port.0 (x.tasks ++ t ∷ [])) v) l0.device_is (takes.some_machine_agrees t refl))
      takes.is_none_of_tasks slot_small (subst (λ (v : Device). slot ≤ v.cap / 256 % 32) l0.device_is takes.slot_exists)
      (batching.fits x s0 l0 (goes_on g d s0 l0) queued slot (λ plain. takes.plain_is_in_slot_0 (ap (λ (m : QueueMode). is_plain m x.turn.0.request.op) l0.mode_is ∙ plain)))
      (ap not queued)

pub store_transfer-requires : goal.store_transfer-requires
store_transfer-requires g c = record { may = subst (λ (u : PlacedTask). MayIssueTransfer c.args.port u.slot u.task u.frames (g.A.Adapter.device c.loop-place.adapter)) (sym (made_is g c)) (grows g c).0 }

pub issue-requires : goal.issue-requires
issue-requires g c =
    let x = preparing g (goal.at.issue-requires g c).After-deref in
    let w = c.law_unanswered_follow_book_operations.ensures.waits x.mode x.book _ x.turn.4 in
    (w.0, w.1, w.2 ∙ x.turn.2, w.3)

pub with_bit-mask-requires : goal.with_bit-mask-requires
with_bit-mask-requires g c = let small = slot_small g (goal.at.with_bit-mask-requires g c).After-store_transfer-arg-in-loop-place-1 in let same = c.from.ensures in omega (arith, small, same)

pub loop-place-preserved : goal.loop-place-preserved
loop-place-preserved g c =
    let f = (goal.at.loop-place-preserved g c).After-store_transfer-arg-in-loop-place-1 in
    let e = (goal.at.loop-place-preserved g c).After-deref in
    let x = preparing g e in
    let items = c.args.due.now.items in
    let place = c.loop-place.place in
    let task = t g f in
    let later = c.issue.new.self in
    let used = c.take.new.self in
    let then = g.A.Adapter.device c.store_transfer.new.adapter in
    let next = drop_more items place no_id (in_list g e) in
    let ids_are : take place items ++ x.id ∷ [] ≡ take (place + 1) items = ap (λ (i : RequestId). take place items ++ i ∷ []) (id_is g e) ∙ sym (take_more items place no_id (in_list g e)) in
    let used_is : used ≡ with_use x.slots c.in-Some.slot.0 (Some (use_for x.mode (sending.with_id x.id x.turn.0))) = c.in-Some.ensures.taken ∙ ap (λ (b : Rattle.std.proofs.Common.Bool). with_use x.slots c.in-Some.slot.0 (Some (record { id = x.id; queued = b }))) (sym (ap not (queued g f))) in
    let turn : AreDueInTurnAndLeaveNoneDue x.mode x.port (x.id ∷ drop (place + 1) items) (unanswered_of x.book) =
    subst (λ (i : RequestId). AreDueInTurnAndLeaveNoneDue x.mode x.port (i ∷ drop (place + 1) items) (unanswered_of x.book)) (sym (id_is g e))
    (subst (λ (ids : List RequestId). AreDueInTurnAndLeaveNoneDue x.mode x.port ids (unanswered_of x.book)) next c.loop-place.invariant.turns) in
    record {
      batch = (
        x.tasks ++ task ∷ [],
        (grows g f).1 then (subst (λ (u : PlacedTask). StoresTransfer x.port u (g.A.Adapter.device c.loop-place.adapter) then) (made_is g f) c.store_transfer.ensures.stores),
        c.law_batch_mask_gains_task_slot_bit.ensures.one_more_bit x.tasks task c.loop-place.mask c.with_bit-mask.result c.loop-place.invariant.fits c.with_bit-mask.type_inv c.loop-place.invariant.batch.2
            (subst (λ (n : ℕ). bit c.with_bit-mask.result n ≡ true) c.from.ensures c.with_bit-mask.ensures.set) (λ k small other. c.with_bit-mask.ensures.others_are_kept k small (λ same. other (same ∙ c.from.ensures))),
        λ s l. subst (λ (ids : List RequestId). PutsInSlots x.port ids (x.tasks ++ task ∷ []) s (with_port_slots s x.start later used x.port)) ids_are
            (c.law_due_requests_get_slots.ensures.one_more_gets_a_slot s (batching.mid x s l) (with_port_slots s x.start later used x.port) x.port x.ids x.tasks x.id task (x.puts s l)
            (batching.puts_it x s l c.in-Some.slot.0 (slot_small g f) c.in-Some.ensures.lowest later c.issue.ensures used used_is)),
      );
      turns = subst (λ (us : List Unanswered). AreDueInTurnAndLeaveNoneDue x.mode x.port (drop (place + 1) items) us)
          (sym (ap unanswered_of c.issue.ensures ∙ c.law_unanswered_follow_book_operations.ensures.issue x.book x.id)) turn.1;
      many = ap length c.issue.ensures ∙ length-map x.book (update_if_id x.id issued_request) ∙ c.loop-place.invariant.many;
      port = ap (λ (p : ServedPort). record p { slots = used }) c.loop-place.invariant.port;
      fits = c.with_bit-mask.type_inv;
      cost = let cost = c.store_transfer.ensures.cost in let before = c.loop-place.invariant.cost in omega (arith, cost, before);
    }

pub issue_all-requires : goal.issue_all-requires
issue_all-requires g c = let b = c.loop-place.invariant.batch in record { stored = (g.A.Adapter.device c.args.adapter.now, b.0, b.1, b.2) }

pub returns : goal.returns
returns g c =
    let items = c.args.due.now.items in
    let port = c.args.port in
    let self = c.args.self.now in
    let b = c.loop-place.invariant.batch in
    let start = g.A.Adapter.device c.args.adapter.now in
    let then = g.A.Adapter.device c.issue_all.new.adapter in
    let low = c.loop-place-test.false in
    let end = c.len-place-end.ensures.value in
    let whole : take c.loop-place.place items ≡ items = take_all c.loop-place.place items (omega (arith, low, end)) in
    let many = ap length c.requires.due in
    let as_long = length-map (due_of self.mode port (unanswered_of c.args.book.now)) (λ r. r.id) in
    let several = c.requires.several in
    record {
      issues_all_due = λ s l.
          let after : ServerState = with_port_slots s then c.loop-place.book c.loop-place.self.slots port in
          let together : IssuesTogether port items s after = record {
            tasks = b.0;
            server_with_slots = with_port_slots s start c.loop-place.book c.loop-place.self.slots port;
            puts = subst (λ (ids : List RequestId). PutsInSlots port ids b.0 s (with_port_slots s start c.loop-place.book c.loop-place.self.slots port)) whole (b.3 s l);
            issued = subst (λ (d : Device). IsBatchIssued port b.0 d then) (sym l.device_is) (c.issue_all.ensures.issued start b.0 b.1 b.2);
            server_is = refl;
          } in
          let M : QueueMode → Type 0 = λ mode. IssuesTogetherIfAny port (due_ids mode port (unanswered_of s.book)) s after in
          subst M (sym l.mode_is) (subst (λ (ids : List RequestId). IssuesTogetherIfAny port ids s after)
          (c.requires.due ∙ ap (λ (book : List BookEntry). due_ids self.mode port (unanswered_of book)) (sym l.book_is)) (batching.as_batch port items s after several together));
      only_slots_change = c.loop-place.invariant.port;
      book_length_is_unchanged = c.loop-place.invariant.many;
      none_due_no_access = λ none. absurd (let least : length (due_of self.mode port (unanswered_of c.args.book.now)) ≡ 0 = ap length none in omega (arith, least, many, as_long, several));
      cost_per_due_request = let cost = c.issue_all.ensures.cost in let before = c.loop-place.invariant.cost in omega (arith, low, end, many, as_long, several, cost, before);
      cost = search rules;
    }
