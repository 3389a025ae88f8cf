-- A due request of a port is issued: what is asked of the calls, and what the server then is.
use Rattle.std.proofs.Common.{ℕ, ◌≡◌, ◌≢◌, ◌+◌, ◌/◌, ◌%◌, ◌^◌, ◌<◌, ◌≤◌, Bool, not, true, inl, inr, List, [], ◌∷◌, drop, length, map, get_or, set, Some, refl, sym, ◌∙◌, ap, subst, arith, ⊎_elim, false}
use Rattle.std.specs.List.{Contains}
use Rattle.std.proofs.lemmas.List.{drop_more, get_or-map, get_or_default, get_or-set_same, length-map, set-get_or, set-set}
use Rattle.std.proofs.lemmas.List.Elements.{All-contains, Contains-get_or}
use Rattle.ata_types.specs.declared.Port.{Port}
use Rattle.ata_types.specs.declared.PortState.TheVariants.{Absent, Ready}
use Rattle.ata_types.specs.declared.request.Frame.{Frame}
use Rattle.ata_types.specs.declared.request.Op.{Op}
use Rattle.ata_types.specs.declared.request.Op.TheVariants.{Read, Write, Trim, Flush}
use Rattle.ata_types.specs.declared.request.RequestId.{RequestId}
use Rattle.adapter.specs.Device.{Device}
use Rattle.block_machine.specs.DueRequests.{AreDueInTurnAndLeaveNoneDue, IsDue, is_plain}
use Rattle.block_machine.specs.Rules.{IsAllowedCount, frame_count_for}
use Rattle.block_machine.specs.declared.due.QueueMode.{QueueMode}
use Rattle.block_machine.specs.declared.due.Unanswered.{Unanswered}
use Rattle.port_driver.specs.LentSlots.{HasPortToIssue, FitsSlot, with_port_slots}
use Rattle.dma_frames.specs.FrameTables.{OwnersAndLoans}
use Rattle.adapter.specs.Rules.{HasPort}
use Rattle.refinement.specs.Fragments.{SomeMachineAgreesWith}
use Rattle.command_table.specs.TableStores.{IsSlotStateFree}
use Rattle.host_boot.specs.TakeOver.{probe_result_of}
use Rattle.host_boot.specs.declared.ProbeResult.{ProbeResult}
use Rattle.host_boot.specs.declared.ProbeResult.TheVariants.{Unserved, Ready as FoundReady, Unready}
use Rattle.identify.specs.declared.DiskInfo.{DiskInfo}
use Rattle.request_queue.specs.BookEntries.{BookEntry, IsWellFormedEntry, BookIsWellFormed, as_unanswered, unanswered_of, update_if_id, due_ids, issued_request}
use Rattle.request_queue.specs.RequestSlab.{blank_request}
use Rattle.request_queue.specs.declared.PendingRequest.{PendingRequest}
use Rattle.server_history.specs.IssuingAndAnswering.{IssuesDueOfPort, IssuesTogetherIfAny, IssuesTogether, PutsInSlot, task_of, use_for}
use Rattle.server_history.specs.ServerState.{ServerState, InCallInvariant, is_served, mode_in, no_slots, slots_at, state_of, with_slot}
use Rattle.slots.specs.SlotUses.{PortSlots, IsLowestFree, IsTaken, with_use}
use Rattle.ncq.specs.Batches.{IsBatchIssued, batch_of_one}
use Rattle.ncq.specs.Issuing.{MayIssueTask}
use Rattle.ncq.specs.Tasks.{IsFitTransfer, IsReadOrWrite}

-- ---- what a request of the book is

module _ (table : OwnersAndLoans) (e : BookEntry) (is : IsWellFormedEntry table e) (mode : QueueMode) (slot : ℕ)
    (head : is_plain mode e.request.op ≡ true → slot ≡ 0) where
  counted : (op : Op) → e.request.op ≡ op → IsAllowedCount op e.request.range.count
  counted op same = subst (λ (o : Op). IsAllowedCount o e.request.range.count) same is.count_is_allowed

  enough : (op : Op) → e.request.op ≡ op → length e.frames ≡ frame_count_for op e.request.range.count
  enough op same = is.frame_count_is ∙ ap (λ (o : Op). frame_count_for o e.request.range.count) same

  not_flush : (op : Op) → op ≢ Flush → e.request.op ≡ op → e.request.op ≢ Flush
  not_flush op other same flush = other (sym same ∙ flush)

  -- and so is the first of some
  first : e.request.op ≢ Flush → 1 ≤ e.request.range.count → e.request.range.first.0 < 2 ^ 48
  first other some = let below = is.range_is_below_2_48_unless_flush other in omega (arith, some, below)

  fits : (queued : Bool) → IsReadOrWrite e.request.op → IsFitTransfer (record { op = e.request.op; range = e.request.range; queued = queued }) e.frames
  fits queued (inl same) = record { is_transfer = inl same; count_is_positive = (counted Read same).0; count_is_allowed = (counted Read same).1; first_in_range = first (not_flush Read (λ e. cc) same) (counted Read same).0; frame_count_is = enough Read same }
  fits queued (inr same) = record { is_transfer = inr same; count_is_positive = (counted Write same).0; count_is_allowed = (counted Write same).1; first_in_range = first (not_flush Write (λ e. cc) same) (counted Write same).0; frame_count_is = enough Write same }

  in_slot_0 : (queued : Bool) → queued ≡ not (is_plain mode e.request.op) → (op : Op) → is_plain mode op ≡ true → e.request.op ≡ op → (slot ≡ 0) × (queued ≡ false)
  in_slot_0 queued kind op plain same = let is_so = ap (is_plain mode) same ∙ plain in (head is_so, kind ∙ ap not is_so)

  goes : (queued : Bool) → queued ≡ not (is_plain mode e.request.op) → FitsSlot (record { op = e.request.op; range = e.request.range; queued = queued }) e.frames slot
  goes queued kind = record {
    transfer_fits_frames = fits queued;
    trim_range_is_allowed = λ same. ((counted Trim same).0, (counted Trim same).1, is.range_is_below_2_48_unless_flush (not_flush Trim (λ e. cc) same));
    trim_and_flush_are_plain_in_slot_0 = λ which. ⊎_elim (in_slot_0 queued kind Trim refl) (in_slot_0 queued kind Flush refl) which;
  }

  -- it may go in the slot, wherever its entry and its frames are told
  pub may_go : (queued : Bool) → queued ≡ not (is_plain mode e.request.op) → (entry : PendingRequest) → entry ≡ e.request → (frames : List Frame) → frames ≡ e.frames
      → FitsSlot (record { op = entry.op; range = entry.range; queued = queued }) frames slot
  may_go queued kind entry entry_is frames frames_are =
      subst (λ (x : PendingRequest). FitsSlot (record { op = x.op; range = x.range; queued = queued }) frames slot) (sym entry_is)
      (subst (λ (fs : List Frame). FitsSlot (record { op = e.request.op; range = e.request.range; queued = queued }) fs slot) (sym frames_are) (goes queued kind))

-- ---- what is lent

-- a due request of the port, with this id
abbrev pub IsTurn : List BookEntry → Port → QueueMode → RequestId → Type 0
IsTurn book port mode id = (request : BookEntry) × Contains book request × (request.request.id ≡ id) × (request.request.port ≡ port) × IsDue mode (unanswered_of book) (as_unanswered request.request)

-- the slots of a port, wherever that is said to be
pub slots_said : (s : ServerState) (port : ℕ) → InCallInvariant s → port < 4 → (number : ℕ) → number ≡ port → (default : PortSlots) → get_or s.slots port no_slots ≡ get_or s.slots number default
slots_said s port k low number is default =
    let f = k.slots_are_of_four_ports in
    get_or_default s.slots port no_slots default (omega (arith, f, low)) ∙ ap (λ (n : ℕ). get_or s.slots n default) (sym is)

-- a port that is ready is served, so it is there
served_ready : (f : ProbeResult) → state_of f ≡ Ready → is_served f ≡ true
served_ready Unserved ready = let z : Absent ≡ Ready = ready in absurd cc
served_ready (FoundReady info) ready = refl
served_ready (Unready state) ready = refl

pub ready_there : (s : ServerState) (port : Port) → InCallInvariant s → state_of (probe_result_of s.probe_results port.0) ≡ Ready → HasPort s.device port.0
ready_there s port k ready = k.served_ports_exist port.0 (served_ready (probe_result_of s.probe_results port.0) ready)

-- and the server has its slots
pub ready_listed : (s : ServerState) (port : Port) → InCallInvariant s → state_of (probe_result_of s.probe_results port.0) ≡ Ready → port.0 < length s.slots
ready_listed s port k ready = let f = k.slots_are_of_four_ports in let p = (ready_there s port k ready).0 in omega (arith, f, p)

-- the entry, with the id by which it was found
abbrev pub with_id : RequestId → BookEntry → BookEntry
with_id id e = record e { request = record e.request { id = id } }

-- A due request of a server was put in a slot: its book and the port's slots are these then.
pub put : (s : ServerState) (book : List BookEntry) (slots : PortSlots) (port : Port) (mode : QueueMode) → s.book ≡ book → slots_at s.slots port.0 ≡ slots → mode_in s port ≡ mode
    → (id : RequestId) (turn : IsTurn book port mode id) (slot : ℕ) → slot < 32 → IsLowestFree slots slot
    → (later : List BookEntry) → later ≡ map (update_if_id id issued_request) book
    → (used : PortSlots) → used ≡ with_use slots slot (Some (use_for mode (with_id id turn.0)))
    → PutsInSlot port id (record { slot = slot; task = task_of mode turn.0; frames = turn.0.frames }) s (record s { slots = set s.slots port.0 used; book = later })
put s book slots port mode book_is slots_are mode_is id turn slot small lowest later later_is used used_is = record {
  request = turn.0;
  is_in_book = subst (λ (b : List BookEntry). Contains b turn.0) (sym book_is) turn.1;
  id_is = turn.2;
  port_is = turn.3;
  due = subst (λ (m : QueueMode). IsDue m (unanswered_of s.book) (as_unanswered turn.0.request)) (sym mode_is) (subst (λ (b : List BookEntry). IsDue mode (unanswered_of b) (as_unanswered turn.0.request)) (sym book_is) turn.4);
  task_is = ap (λ (m : QueueMode). task_of m turn.0) (sym mode_is);
  frames_are = refl;
  slot_is_below_32 = small;
  lowest = subst (λ (u : PortSlots). IsLowestFree u slot) (sym slots_are) lowest;
  server_is = λ i. record s { slots = set_to i; book = (later_is ∙ ap (map (update_if_id id issued_request)) (sym book_is)) i };
}
  where
    use_is : with_use slots slot (Some (use_for mode (with_id id turn.0))) ≡ with_use (slots_at s.slots port.0) slot (Some (use_for (mode_in s port) turn.0))
    use_is = λ i. with_use (sym slots_are i) slot (Some (record { id = sym turn.2 i; queued = not (is_plain (sym mode_is i) turn.0.request.op) }))

    set_to : set s.slots port.0 used ≡ with_slot s.slots port.0 slot (Some (use_for (mode_in s port) turn.0))
    set_to = ap (set s.slots port.0) (used_is ∙ use_is)

module _ (s : ServerState) (device : Device) (book : List BookEntry) (slots : PortSlots) (port : Port) (mode : QueueMode) (found : ProbeResult) (ready : state_of found ≡ Ready)
    (l : HasPortToIssue s device book slots port mode found) where
  its_ready : state_of (probe_result_of s.probe_results port.0) ≡ Ready
  its_ready = ap state_of l.probe_result_is ∙ ready

  there : HasPort s.device port.0
  there = ready_there s port l.in_call_invariant its_ready

  -- what is lent is where it was
  pub lent_same : with_port_slots s device book slots port ≡ s
  lent_same =
      (λ i. record s { device = sym l.device_is i; slots = set s.slots port.0 (sym l.slots_are i); book = sym l.book_is i })
      ∙ ap (λ (list : List PortSlots). record s { slots = list }) (set-get_or s.slots port.0 no_slots)

  -- other parts in its place
  module _ (new : Device) (later : List BookEntry) (used : PortSlots) where
    pub lent_on_from : InCallInvariant (with_port_slots s new later used port) → HasPortToIssue (with_port_slots s new later used port) new later used port mode found
    lent_on_from kept = record { in_call_invariant = kept; probe_result_is = l.probe_result_is; device_is = refl; book_is = refl; slots_are = get_or-set_same s.slots port.0 used no_slots (ready_listed s port l.in_call_invariant its_ready); mode_is = l.mode_is }

    pub lent_again : (d : Device) (b : List BookEntry) (u : PortSlots) → with_port_slots (with_port_slots s new later used port) d b u port ≡ with_port_slots s d b u port
    lent_again d b u = ap (λ (list : List PortSlots). record s { device = d; slots = list; book = b }) (set-set s.slots port.0 used u)

  module _ (id : RequestId) (turn : IsTurn book port mode id) where
    abbrev e : BookEntry
    e = turn.0

    here : Contains s.book e
    here = subst (λ (b : List BookEntry). Contains b e) (sym l.book_is) turn.1

    due : IsDue (mode_in s port) (unanswered_of s.book) (as_unanswered e.request)
    due = subst (λ (m : QueueMode). IsDue m (unanswered_of s.book) (as_unanswered e.request)) (sym l.mode_is) (subst (λ (b : List BookEntry). IsDue mode (unanswered_of b) (as_unanswered e.request)) (sym l.book_is) turn.4)

    its_due : IsDue (mode_in s e.request.port) (unanswered_of s.book) (as_unanswered e.request)
    its_due = subst (λ (p : Port). IsDue (mode_in s p) (unanswered_of s.book) (as_unanswered e.request)) (sym turn.3) due

    its_slots : slots ≡ slots_at s.slots e.request.port.0
    its_slots = sym l.slots_are ∙ ap (λ (p : Port). slots_at s.slots p.0) (sym turn.3)

    pub its : IsWellFormedEntry s.table e
    its = All-contains (IsWellFormedEntry s.table) s.book e l.in_call_invariant.entries_are_well_formed here

    -- what was found in the book by its id
    module _ (one : (entries : List BookEntry) (a b : BookEntry) → BookIsWellFormed entries → Contains entries a → Contains entries b → a.request.id ≡ b.request.id → a ≡ b) where
      pub found_is : (found : BookEntry) → Contains book found → found.request.id ≡ id → found ≡ e
      found_is found there_too same = one book found e (subst BookIsWellFormed l.book_is l.in_call_invariant.book_is_well_formed) there_too turn.1 (same ∙ sym turn.2)

      module _ (r : PendingRequest) (fs : List Frame) (held : Contains book (record { request = r; frames = fs })) (same : r.id ≡ id) where
        pub entry_is : r ≡ e.request
        entry_is = ap (λ (x : BookEntry). x.request) (found_is (record { request = r; frames = fs }) held same)

        pub frames_are : fs ≡ e.frames
        frames_are = ap (λ (x : BookEntry). x.frames) (found_is (record { request = r; frames = fs }) held same)

    -- as its port's mode has it, wherever its entry is told
    pub task_is : (plain : Bool) (r : PendingRequest) → plain ≡ is_plain mode r.op → r ≡ e.request → record { op = r.op; range = r.range; queued = not plain } ≡ task_of mode e
    task_is plain r plain_is r_is =
        ap (λ (b : Bool). record { op = r.op; range = r.range; queued = not b }) plain_is
        ∙ ap (λ (x : PendingRequest). record { op = x.op; range = x.range; queued = not (is_plain mode x.op) }) r_is

    -- a slot that it may be issued in
    pub may_issue : ((s : ServerState) (request : BookEntry) → InCallInvariant s → Contains s.book request → IsDue (mode_in s request.request.port) (unanswered_of s.book) (as_unanswered request.request)
        → (slot : ℕ) → IsLowestFree (slots_at s.slots request.request.port.0) slot
        → (slot < (mode_in s request.request.port).usable_slots) × (slot < 32) × (slot ≤ s.device.cap / 256 % 32)
        × (is_plain (mode_in s request.request.port) request.request.op ≡ true → slot ≡ 0) × SomeMachineAgreesWith (IsSlotStateFree request.request.port.0 slot) s.device)
        → (slot : ℕ) → IsLowestFree slots slot → (slot < 32) × (slot ≤ device.cap / 256 % 32) × (is_plain mode e.request.op ≡ true → slot ≡ 0) × SomeMachineAgreesWith (IsSlotStateFree port.0 slot) device
    may_issue may slot lowest =
        let m = may s e l.in_call_invariant here its_due slot (subst (λ (u : PortSlots). IsLowestFree u slot) its_slots lowest) in (
          m.1,
          subst (λ (d : Device). slot ≤ d.cap / 256 % 32) l.device_is m.2,
          subst (λ (x : QueueMode). is_plain x e.request.op ≡ true → slot ≡ 0) l.mode_is (subst (λ (p : Port). is_plain (mode_in s p) e.request.op ≡ true → slot ≡ 0) turn.3 m.3),
          subst (SomeMachineAgreesWith (IsSlotStateFree port.0 slot)) l.device_is (subst (λ (p : Port). SomeMachineAgreesWith (IsSlotStateFree p.0 slot) s.device) turn.3 m.4),
        )

    pub may_issue_task : ((s : ServerState) (request : BookEntry) → InCallInvariant s → Contains s.book request → IsDue (mode_in s request.request.port) (unanswered_of s.book) (as_unanswered request.request)
        → (slot : ℕ) → IsLowestFree (slots_at s.slots request.request.port.0) slot
        → (slot < (mode_in s request.request.port).usable_slots) × (slot < 32) × (slot ≤ s.device.cap / 256 % 32)
        × (is_plain (mode_in s request.request.port) request.request.op ≡ true → slot ≡ 0) × SomeMachineAgreesWith (IsSlotStateFree request.request.port.0 slot) s.device)
        → (slot : ℕ) → IsLowestFree slots slot → MayIssueTask port slot device
    may_issue_task may slot lowest =
        let runs = (l.in_call_invariant.port_invariant port.0 there.0).ready_engine_runs its_ready in
        subst (MayIssueTask port slot) l.device_is (record {
          adapter_is_on = l.in_call_invariant.adapter_is_on;
          has_port = there;
          driver_memory_fits = l.in_call_invariant.driver_memory_fits;
          machine_is_related = subst (SomeMachineAgreesWith (IsSlotStateFree port.0 slot)) (sym l.device_is) (may_issue may slot lowest).3;
          list_runs = record { st_is_set = runs.st_is_set; list_is_in_place = ap (λ b. b.clb) runs.bases_are_programmed };
        })

    -- and there is one
    pub is_free : ((s : ServerState) (request : BookEntry) → InCallInvariant s → Contains s.book request → IsDue (mode_in s request.request.port) (unanswered_of s.book) (as_unanswered request.request)
        → ((slot : ℕ) → slot < (slots_at s.slots request.request.port.0).usable_count → IsTaken (slots_at s.slots request.request.port.0) slot) → ⊥)
        → ((slot : ℕ) → slot < slots.usable_count → IsTaken slots slot) → ⊥
    is_free full all = full s e l.in_call_invariant here its_due (subst (λ (u : PortSlots). (slot : ℕ) → slot < u.usable_count → IsTaken u slot) its_slots all)

    -- it was issued alone
    pub sent : (slot : ℕ) → slot < 32 → IsLowestFree slots slot → (new : Device)
        → IsBatchIssued port (batch_of_one slot (task_of mode e) e.frames) device new
        → (later : List BookEntry) → later ≡ map (update_if_id id issued_request) book
        → (used : PortSlots) → used ≡ with_use slots slot (Some (use_for mode (with_id id e))) → IssuesTogether port (id ∷ []) s (with_port_slots s new later used port)
    sent slot small lowest new issued later later_is used used_is = record {
      tasks = batch_of_one slot (task_of mode e) e.frames;
      server_with_slots = record s { slots = set s.slots port.0 used; book = later };
      puts = (_, put s book slots port mode l.book_is l.slots_are l.mode_is id turn slot small lowest later later_is used used_is, refl);
      issued = subst (λ (d : Device). IsBatchIssued port (batch_of_one slot (task_of mode e) e.frames) d new) (sym l.device_is) issued;
      server_is = refl;
    }

-- ---- one after another

-- what is asked is asked of a request of the book
asked_of : (book : List BookEntry) (u : Unanswered) → Contains (unanswered_of book) u → (e : BookEntry) × Contains book e × (u ≡ as_unanswered e.request)
asked_of book u there =
    let blank : BookEntry = record { request = blank_request; frames = [] } in
    let long = length-map book (λ (e : BookEntry). as_unanswered e.request) in
    let low = there.1 in
    let lt : there.0 < length book = omega (arith, low, long) in
    (get_or book there.0 blank, Contains-get_or book there.0 blank lt, sym there.2 ∙ get_or-map (λ (e : BookEntry). as_unanswered e.request) book there.0 blank u lt)

-- at a place, one is next
pub next_there : (ids : List RequestId) (place : ℕ) (d : RequestId) → place < length ids → drop place ids ≡ get_or ids place d ∷ drop (place + 1) ids
next_there ids place d low = drop_more ids place d low

-- the next one is due
pub next_due : (book : List BookEntry) (port : Port) (mode : QueueMode) (ids : List RequestId) (place : ℕ) (d : RequestId) → place < length ids → AreDueInTurnAndLeaveNoneDue mode port (drop place ids) (unanswered_of book) → IsTurn book port mode (get_or ids place d)
next_due book port mode ids place d low turns =
    let t : AreDueInTurnAndLeaveNoneDue mode port (get_or ids place d ∷ drop (place + 1) ids) (unanswered_of book) = subst (λ (xs : List RequestId). AreDueInTurnAndLeaveNoneDue mode port xs (unanswered_of book)) (next_there ids place d low) turns in
    let r = t.0 in
    let x = asked_of book r.0 r.3.is_in_book in
    (x.0, x.1, ap (λ (u : Unanswered). u.id) (sym x.2) ∙ r.1, ap (λ (u : Unanswered). u.port) (sym x.2) ∙ r.2, subst (IsDue mode (unanswered_of book)) x.2 r.3)

-- ---- a port that isn't ready

-- on it nothing is due, and so nothing issued
pub none_issued : ((s : ServerState) (port : Port) → InCallInvariant s → ((info : DiskInfo) → probe_result_of s.probe_results port.0 ≡ FoundReady info → ⊥) → due_ids (mode_in s port) port (unanswered_of s.book) ≡ [])
    → (s : ServerState) (device : Device) (book : List BookEntry) (slots : PortSlots) (port : Port) (mode : QueueMode) (found : ProbeResult) → HasPortToIssue s device book slots port mode found → ((info : DiskInfo) → found ≡ FoundReady info → ⊥)
    → IssuesDueOfPort port s (with_port_slots s device book slots port)
none_issued undue s device book slots port mode found l unready =
    subst (λ (ids : List RequestId). IssuesTogetherIfAny port ids s (with_port_slots s device book slots port)) (sym (undue s port l.in_call_invariant (λ info is. unready info (sym l.probe_result_is ∙ is)))) same
  where
    same : with_port_slots s device book slots port ≡ s
    same =
        (λ i. record s { device = sym l.device_is i; slots = set s.slots port.0 (sym l.slots_are i); book = sym l.book_is i })
        ∙ ap (λ (list : List PortSlots). record s { slots = list }) (set-get_or s.slots port.0 no_slots)
