-- Several due requests of a port are put in slots, one after another, before any is issued.
use Rattle.std.proofs.Common.{ℕ, Bool, Some, drop, get_or, take, map, not, ◌≡◌, ◌+◌, ◌<◌, true, false, inl, inr, List, [], ◌∷◌, ◌++◌, length, refl, sym, ◌∙◌, ap, subst, arith}
use Rattle.std.proofs.lemmas.Bool.{false≢true}
use Rattle.std.proofs.lemmas.List.{get_or-set_same, length-map, length-take-le}
use Rattle.std.proofs.lemmas.List.Elements.{All-contains, Contains-append_right}
use Rattle.std.specs.List.{All, Contains}
use Rattle.ata_types.specs.declared.Port.{Port}
use Rattle.ata_types.specs.declared.request.RequestId.{RequestId}
use Rattle.ata_types.specs.declared.PortState.TheVariants.{Ready}
use Rattle.ata_types.specs.declared.request.Frame.{Frame}
use Rattle.ata_types.specs.declared.request.Op.{Op}
use Rattle.ata_types.specs.declared.request.Op.TheVariants.{Read, Write, Trim, Flush}
use Rattle.adapter.specs.Device.{Device}
use Rattle.adapter.specs.AccessBounds.{MakesAtMost}
use Rattle.block_machine.specs.DueRequests.{AreDueInTurnAndLeaveNoneDue, IsDue, due_of, is_plain, with_issued}
use Rattle.block_machine.specs.declared.due.QueueMode.{QueueMode}
use Rattle.block_machine.specs.declared.due.Unanswered.{Unanswered}
use Rattle.ncq.specs.Costs.{ISSUE_ACCESSES}
use Rattle.ncq.specs.Tasks.{IsFitTransfer, IsReadOrWrite}
use Rattle.host_boot.specs.declared.ProbeResult.{ProbeResult}
use Rattle.ncq.specs.Batches.{PlacedTask}
use Rattle.request_queue.specs.BookEntries.{BookEntry, BookIsWellFormed, IsWellFormedEntry, as_unanswered, unanswered_of, due_ids, issued_request, update_if_id}
use Rattle.request_queue.specs.declared.PendingRequest.{PendingRequest}
use Rattle.server_history.specs.IssuingAndAnswering.{IssuesTogetherIfAny, IssuesTogether, ChangesOnlySlotsAndBook, PutsInSlot, PutsInSlots, task_of, use_for}
use Rattle.server_history.specs.ServerState.{InCallInvariant, ServerState, mode_in, no_slots, slots_at, state_of}
use Rattle.slots.specs.SlotUses.{IsLowestFree, PortSlots, with_use}
use Rattle.port_driver.specs.Issuing.{IssuesWhatIsDue, MayIssueDue}
use Rattle.port_driver.specs.LentSlots.{HasPortToIssue, with_port_slots}
use Rattle.port_driver.specs.declared.served_port.ServedPort.{ServedPort}
use Rattle.port_driver.proofs.Sending as sending

-- no request came or went
put_length : (port : Port) (ids : List RequestId) (tasks : List PlacedTask) (old new : ServerState) → PutsInSlots port ids tasks old new → length new.book ≡ length old.book
put_length port [] [] old new same = ap (λ (s : ServerState). length s.book) same
put_length port [] (u ∷ tasks) old new none = absurd none
put_length port (i ∷ ids) [] old new none = absurd none
put_length port (i ∷ ids) (u ∷ tasks) old new (mid, one, rest) =
    put_length port ids tasks mid new rest ∙ (ap (λ (s : ServerState). length s.book) one.server_is ∙ length-map old.book (update_if_id i issued_request))

issued_length : (port : Port) (ids : List RequestId) (old new : ServerState) → IssuesTogether port ids old new → length new.book ≡ length old.book
issued_length port ids old new issues = ap (λ (s : ServerState). length s.book) issues.server_is ∙ put_length port ids issues.tasks old issues.server_with_slots issues.puts

-- ---- one more is put in a slot

-- what a port takes queued is a transfer
transfers_of : (mode : QueueMode) (op : Op) → is_plain mode op ≡ false → IsReadOrWrite op
transfers_of mode Read queued = inl refl
transfers_of mode Write queued = inr refl
transfers_of mode Trim queued = absurd (false≢true (sym queued))
transfers_of mode Flush queued = absurd (false≢true (sym queued))

-- none was put in a slot where there is no task
puts_none : (port : Port) (ids : List RequestId) (old new : ServerState) → PutsInSlots port ids [] old new → length ids ≡ 0
puts_none port [] old new same = refl
puts_none port (i ∷ ids) old new none = absurd none

not_empty : (tasks : List PlacedTask) (t : PlacedTask) → tasks ++ t ∷ [] ≡ [] → ⊥
not_empty [] t same = let z : t ∷ [] ≡ [] = same in absurd cc
not_empty (u ∷ tasks) t same = let z : u ∷ (tasks ++ t ∷ []) ≡ [] = same in absurd cc

-- A port of a server, some of whose due requests were put in slots: the next one is this.
pub record Preparing : Type 0 where
  pub port : Port
  pub mode : QueueMode
  pub found : ProbeResult
  pub ready : state_of found ≡ Ready
  pub start : Device
  pub first_book : List BookEntry
  pub first_slots : PortSlots
  pub ids : List RequestId
  pub tasks : List PlacedTask
  pub book : List BookEntry
  pub slots : PortSlots
  pub puts : (s : ServerState) → HasPortToIssue s start first_book first_slots port mode found → PutsInSlots port ids tasks s (with_port_slots s start book slots port)
  pub id : RequestId
  pub turn : sending.IsTurn book port mode id

module _ (x : Preparing) (s : ServerState) (l : HasPortToIssue s x.start x.first_book x.first_slots x.port x.mode x.found) where
  abbrev e : BookEntry
  e = x.turn.0

  abbrev pub mid : ServerState
  mid = with_port_slots s x.start x.book x.slots x.port

  pub mid_slots : slots_at mid.slots x.port.0 ≡ x.slots
  mid_slots = get_or-set_same s.slots x.port.0 x.slots no_slots (sending.ready_listed s x.port l.in_call_invariant (ap state_of l.probe_result_is ∙ x.ready))

  pub mid_due : IsDue (mode_in mid x.port) (unanswered_of mid.book) (as_unanswered e.request)
  mid_due = subst (λ (m : QueueMode). IsDue m (unanswered_of x.book) (as_unanswered e.request)) (sym l.mode_is) x.turn.4

  -- the request as its entry was found
  module _ (goes_on : ChangesOnlySlotsAndBook s mid) (one : (entries : List BookEntry) (a b : BookEntry) → BookIsWellFormed entries → Contains entries a → Contains entries b → a.request.id ≡ b.request.id → a ≡ b)
      (r : PendingRequest) (frames : List Frame) (held : Contains x.book (record { request = r; frames = frames })) (same : r.id ≡ x.id) (queued : is_plain x.mode e.request.op ≡ false) where
    found_is : record { request = r; frames = frames } ≡ e
    found_is = one x.book (record { request = r; frames = frames }) e goes_on.book_is_well_formed held x.turn.1 (same ∙ sym x.turn.2)

    -- its task, as it is made
    pub task_made : (slot : ℕ) → ◌≡◌ {A = PlacedTask} (record { slot = slot; task = record { op = r.op; range = r.range; queued = true }; frames = frames }) (record { slot = slot; task = task_of x.mode e; frames = e.frames })
    task_made slot = λ i. record {
      slot = slot;
      task = record { op = (found_is i).request.op; range = (found_is i).request.range; queued = sym (ap not queued) i };
      frames = (found_is i).frames;
    }

  pub fits : ChangesOnlySlotsAndBook s mid → is_plain x.mode e.request.op ≡ false → (slot : ℕ) → (is_plain x.mode e.request.op ≡ true → slot ≡ 0) → IsFitTransfer (task_of x.mode e) e.frames
  fits goes_on queued slot head =
      (sending.may_go s.table e (All-contains (IsWellFormedEntry s.table) x.book e goes_on.entries_are_well_formed x.turn.1) x.mode slot head (not (is_plain x.mode e.request.op)) refl e.request refl e.frames refl).transfer_fits_frames
      (transfers_of x.mode e.request.op queued)

  -- it is put in a slot
  module _ (slot : ℕ) (small : slot < 32) (lowest : IsLowestFree x.slots slot) (later : List BookEntry) (later_is : later ≡ map (update_if_id x.id issued_request) x.book)
      (used : PortSlots) (used_is : used ≡ with_use x.slots slot (Some (use_for x.mode (sending.with_id x.id e)))) where
    abbrev t : PlacedTask
    t = record { slot = slot; task = task_of x.mode e; frames = e.frames }

    pub puts_it : PutsInSlot x.port x.id t mid (with_port_slots s x.start later used x.port)
    puts_it = subst (λ (n : ServerState). PutsInSlot x.port x.id t mid n) (sending.lent_again s x.start x.first_book x.first_slots x.port x.mode x.found x.ready l x.start x.book x.slots x.start later used)
        (sending.put mid x.book x.slots x.port x.mode refl mid_slots l.mode_is x.id x.turn slot small lowest later later_is used used_is)

-- some task, where the place isn't the first
pub puts_place : (port : Port) (items : List RequestId) (place : ℕ) (tasks : List PlacedTask) (old new : ServerState) → place < length items → PutsInSlots port (take place items) tasks old new → tasks ≡ [] → place ≡ 0
puts_place port items place tasks old new low puts none =
    let short = puts_none port (take place items) old new (subst (λ (ts : List PlacedTask). PutsInSlots port (take place items) ts old new) none puts) in
    let long = length-take-le place items (omega (arith, low)) in
    sym long ∙ short

-- what law_due_requests_get_slots says of several
abbrev MorePut : Type 0
MorePut = (s mid new : ServerState) (port : Port) (ids : List RequestId) (tasks : List PlacedTask) (id : RequestId) (t : PlacedTask) → PutsInSlots port ids tasks s mid → PutsInSlot port id t mid new
    → PutsInSlots port (ids ++ id ∷ []) (tasks ++ t ∷ []) s new

abbrev Together : Type 0
Together = (s mid : ServerState) (port : Port) (ids : List RequestId) (tasks : List PlacedTask) (request : BookEntry) → InCallInvariant s → PutsInSlots port ids tasks s mid → Contains mid.book request
    → request.request.port ≡ port → IsDue (mode_in mid port) (unanswered_of mid.book) (as_unanswered request.request)
    → (tasks ≡ [] → ⊥) → (is_plain (mode_in s port) request.request.op ≡ false) × All (λ t. t.task.queued ≡ true) tasks

-- the first of several is queued, since the second is due once it was issued
pub first_queued : (x : Preparing) (s : ServerState) (l : HasPortToIssue s x.start x.first_book x.first_slots x.port x.mode x.found) (slot : ℕ) → slot < 32 → IsLowestFree x.slots slot
    → ((entries : List BookEntry) (id : RequestId) → unanswered_of (map (update_if_id id issued_request) entries) ≡ with_issued id (unanswered_of entries)) → MorePut → Together
    → (items : List RequestId) (place : ℕ) (d : RequestId) → place + 1 < length items → x.id ≡ get_or items place d → AreDueInTurnAndLeaveNoneDue x.mode x.port (drop place items) (unanswered_of x.book)
    → is_plain x.mode x.turn.0.request.op ≡ false
first_queued x s l slot small lowest issues more together items place d low id_is turns = by (is_plain x.mode x.turn.0.request.op) refl
  where
    later : List BookEntry
    later = map (update_if_id x.id issued_request) x.book

    used : PortSlots
    used = with_use x.slots slot (Some (use_for x.mode (sending.with_id x.id x.turn.0)))

    task : PlacedTask
    task = record { slot = slot; task = task_of x.mode x.turn.0; frames = x.turn.0.frames }

    then : ServerState
    then = with_port_slots s x.start later used x.port

    both : PutsInSlots x.port (x.ids ++ x.id ∷ []) (x.tasks ++ task ∷ []) s then
    both = more s (mid x s l) then x.port x.ids x.tasks x.id task (x.puts s l) (puts_it x s l slot small lowest later refl used refl)

    rest : AreDueInTurnAndLeaveNoneDue x.mode x.port (get_or items place d ∷ drop (place + 1) items) (unanswered_of x.book)
    rest = subst (λ (ids : List RequestId). AreDueInTurnAndLeaveNoneDue x.mode x.port ids (unanswered_of x.book)) (sending.next_there items place d (omega (arith, low))) turns

    due_then : AreDueInTurnAndLeaveNoneDue x.mode x.port (drop (place + 1) items) (unanswered_of later)
    due_then = subst (λ (us : List Unanswered). AreDueInTurnAndLeaveNoneDue x.mode x.port (drop (place + 1) items) us)
        (sym (issues x.book x.id ∙ ap (λ (i : RequestId). with_issued i (unanswered_of x.book)) id_is)) rest.1

    second : sending.IsTurn later x.port x.mode (get_or items (place + 1) d)
    second = sending.next_due later x.port x.mode items (place + 1) d low due_then

    all : All (λ t. t.task.queued ≡ true) (x.tasks ++ task ∷ [])
    all = (together s then x.port (x.ids ++ x.id ∷ []) (x.tasks ++ task ∷ []) second.0 l.in_call_invariant both second.1 second.3
        (subst (λ (m : QueueMode). IsDue m (unanswered_of later) (as_unanswered second.0.request)) (sym l.mode_is) second.4) (not_empty x.tasks task)).1

    its : task.task.queued ≡ true
    its = All-contains (λ t. t.task.queued ≡ true) (x.tasks ++ task ∷ []) task all (Contains-append_right x.tasks (task ∷ []) task (0, omega arith, refl))

    by : (b : Bool) → is_plain x.mode x.turn.0.request.op ≡ b → is_plain x.mode x.turn.0.request.op ≡ false
    by false is = is
    by true is = absurd (false≢true (sym (ap not is) ∙ its))

-- together, where there are some
pub as_batch : (port : Port) (ids : List RequestId) (old new : ServerState) → 1 < length ids → IssuesTogether port ids old new → IssuesTogetherIfAny port ids old new
as_batch port [] old new some issues = absurd (omega (arith, some))
as_batch port (id ∷ ids) old new some issues = issues

-- ---- what is due is one request, or none

module _ {A : Type 0} (device : A → Device) (accesses : A → ℕ) (port : Port) (self : ServedPort) (before : A) (book : List BookEntry) (may : MayIssueDue device port self before book) where
  -- how many are due
  as_long : (ids : List RequestId) → due_ids self.mode port (unanswered_of book) ≡ ids → length (due_of self.mode port (unanswered_of book)) ≡ length ids
  as_long ids is = sym (length-map (due_of self.mode port (unanswered_of book)) (λ r. r.id)) ∙ ap length is

  pub none_due : due_ids self.mode port (unanswered_of book) ≡ [] → IssuesWhatIsDue device accesses port self self before before book book
  none_due none = record {
    issues_all_due = λ s l.
        let after : ServerState = with_port_slots s (device before) book self.slots port in
        let M : QueueMode → Type 0 = λ mode. IssuesTogetherIfAny port (due_ids mode port (unanswered_of s.book)) s after in
        subst M (sym l.mode_is) (subst (λ (ids : List RequestId). IssuesTogetherIfAny port ids s after) (sym (ap (λ (b : List BookEntry). due_ids self.mode port (unanswered_of b)) l.book_is ∙ none))
        (sending.lent_same s (device before) book self.slots port self.mode self.probe_result may.ready l));
    only_slots_change = refl;
    book_length_is_unchanged = refl;
    none_due_no_access = λ none. refl;
    cost_per_due_request = omega arith;
    cost = omega arith;
  }

  pub one_due : (new : ServedPort) (after : A) (left : List BookEntry) (id : RequestId) → due_ids self.mode port (unanswered_of book) ≡ id ∷ []
      → ((s : ServerState) → HasPortToIssue s (device before) book self.slots port self.mode self.probe_result → IssuesTogether port (id ∷ []) s (with_port_slots s (device after) left new.slots port))
      → new ≡ record self { slots = new.slots } → MakesAtMost ISSUE_ACCESSES (accesses before) (accesses after) → IssuesWhatIsDue device accesses port self new before after book left
  one_due new after left id only issues rest cost = record {
    issues_all_due = λ s l.
        let then : ServerState = with_port_slots s (device after) left new.slots port in
        let M : QueueMode → Type 0 = λ mode. IssuesTogetherIfAny port (due_ids mode port (unanswered_of s.book)) s then in
        subst M (sym l.mode_is) (subst (λ (ids : List RequestId). IssuesTogetherIfAny port ids s then) (sym (ap (λ (b : List BookEntry). due_ids self.mode port (unanswered_of b)) l.book_is ∙ only)) (issues s l));
    only_slots_change = rest;
    book_length_is_unchanged = issued_length port (id ∷ []) may.some_server_has_port.0 _ (issues may.some_server_has_port.0 may.some_server_has_port.1) ∙ ap (λ (b : List BookEntry). length b) may.some_server_has_port.1.book_is;
    none_due_no_access = λ none. absurd (let long = as_long (id ∷ []) only in let least : length (due_of self.mode port (unanswered_of book)) ≡ 0 = ap length none in omega (arith, long, least));
    cost_per_due_request = let long = as_long (id ∷ []) only in omega (arith, long, cost);
    cost = omega (arith, cost);
  }
