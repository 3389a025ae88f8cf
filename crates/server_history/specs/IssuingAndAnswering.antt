-- How a port is served, as the block machine has it (this project's own).
use Rattle.std.specs.Prelude.{ℕ, Bool, true, false, not, ◌≡◌, ◌⊎◌, ◌↔◌, ◌<◌, ◌≤◌, ◌+◌, ◌/◌, ◌%◌, ◌++◌, List, [], ◌∷◌, map, Option, Some, None, All, AllPairs, Contains, length}
use Rattle.std.specs.List.{AllZip}
use Rattle.ata_types.specs.declared.Port.{Port}
use Rattle.ata_types.specs.declared.request.Outcome.TheVariants as outcome
use Rattle.ata_types.specs.declared.grant.GrantRow.{GrantRow}
use Rattle.ata_types.specs.declared.request.Reply.{Reply}
use Rattle.ata_types.specs.declared.request.Request.{Request}
use Rattle.ata_types.specs.declared.request.RequestId.{RequestId}
use Rattle.adapter.specs.Device.{Device}
use Rattle.refinement.specs.Fragments.{IsDrivenBy, SomeMachineAgreesWith}
use Rattle.block_machine.specs.DueRequests.{IsDue, is_plain}
use Rattle.block_machine.specs.declared.due.QueueMode.{QueueMode}
use Rattle.block_machine.specs.Events.{AllByDevice, IsByDevice}
use Rattle.block_machine.specs.Rules.{IsNamed}
use Rattle.block_machine.specs.State.{Pending}
use Rattle.block_machine.specs.Steps.{Step, Answer, Issue, AllTouched}
use Rattle.dma_frames.specs.FrameTables.{OwnersAndLoans, SetsLoanOnly}
use Rattle.hba_regs.specs.Bits.{bit}
use Rattle.ncq.specs.Masks.{ReadsDone}
use Rattle.ncq.specs.Batches.{BatchSlotsAreUnused, IsBatchIssued, IsCommandIssueAccess, IsSlotOf, PlacedTask}
use Rattle.ncq.specs.declared.tasks.Task.{Task}
use Rattle.request_queue.specs.BookEntries.{BookEntry, BookIsWellFormed, IsWellFormedEntry, IsEarlier, as_unanswered, unanswered_of, update_if_id, due_ids, issued_request, without_entry}
use Rattle.request_queue.specs.BookRelation.{EntryRelation}
use Rattle.server_history.specs.ServerState.{ServerState, SlotsInvariant, mode_in, slots_at, used_for, with_slot}
use Rattle.slots.specs.SlotUses.{PortSlots, IsLowestFree, use_at}
use Rattle.slots.specs.declared.SlotUse.{SlotUse}
use Rattle.port_control.specs.PortEvents.{TakesEvent}
use Rattle.port_control.specs.declared.events.PortEvent.{PortEvent}
use Rattle.port_control.specs.declared.events.PortEvent.TheVariants.{NoEvent}

-- ---- a port's turn

-- whether something is issued in a slot
abbrev pub is_used : Option SlotUse → Bool
is_used None = false
is_used (Some used) = true

-- it has the bits of the slots that are used, and no other
abbrev pub IsMaskOf : PortSlots → ℕ → Type 0
IsMaskOf slots mask = (slot : ℕ) → slot < 32 → bit mask slot ≡ is_used (use_at slots slot)

-- no slot has its bit
abbrev pub IsEmptyMask : ℕ → Type 0
IsEmptyMask mask = (slot : ℕ) → slot < 32 → bit mask slot ≡ false

-- a reply names the request
abbrev pub IsAnsweredIn : RequestId → List Reply → Type 0
IsAnsweredIn id replies = (reply : Reply) × Contains replies reply × (reply.id ≡ id)

-- PxCI and PxSACT were read, which show which slots of the mask are done. A used slot's request was answered exactly if
-- its slot was found done. If none was, nobody was answered, and that was all. The only accesses that followed, if any,
-- store for commands of the port, or write its PxSACT or PxCI.
pub record PollsSlots (port : Port) (slots : PortSlots) (mask : ℕ) (replies : List Reply)
    (old new : Device) : Type 0 where
  pub done : ℕ
  pub device_after_read : Device
  pub reads : ReadsDone port mask done old device_after_read
  pub answered_iff_done : (slot : ℕ) (used : SlotUse) → slot < 32 → use_at slots slot ≡ Some used → bit done slot ≡ true
      ↔ IsAnsweredIn used.id replies
  pub none_done_answers_none : IsEmptyMask done → (replies ≡ []) × (new ≡ device_after_read)
  pub only_issuing_follows : IsDrivenBy (IsCommandIssueAccess port) device_after_read new

-- The slots that are used were checked. If none is, nothing was read, nobody was answered, and that was all.
pub record PollsUsedSlots (port : Port) (slots : PortSlots) (replies : List Reply) (old new : Device) : Type 0 where
  pub mask : ℕ
  pub is_mask_of : IsMaskOf slots mask
  pub none_used_reads_nothing : IsEmptyMask mask → (replies ≡ []) × (new ≡ old)
  pub polls_slots : (IsEmptyMask mask → ⊥) → PollsSlots port slots mask replies old new

-- A port's turn in a service that found no trouble: the port was looked at, and the slots that it uses were checked.
pub record PollsInTurnWithoutEvent (port : Port) (slots : PortSlots) (replies : List Reply) (old new : Device) : Type 0
  where
    pub look : PortEvent
    pub device_after_look : Device
    pub takes_event : TakesEvent port look old device_after_look
    pub look_is_no_event : look ≡ NoEvent
    pub polls_used_slots : PollsUsedSlots port slots replies device_after_look new

-- ---- requests are issued

-- a request, as a port with this mode issues it
abbrev pub task_of : QueueMode → BookEntry → Task
task_of mode e = record { op = e.request.op; range = e.request.range; queued = not (is_plain mode e.request.op) }

-- what a slot is used for that has its command
abbrev pub use_for : QueueMode → BookEntry → SlotUse
use_for mode e = record { id = e.request.id; queued = (task_of mode e).queued }

-- A due request of the port was put in the lowest slot that was free, as this task. Book and slots say so; the device
-- doesn't know it yet.
pub record PutsInSlot (port : Port) (id : RequestId) (t : PlacedTask) (old new : ServerState) : Type 0 where
  pub request : BookEntry
  pub is_in_book : Contains old.book request
  pub id_is : request.request.id ≡ id
  pub port_is : request.request.port ≡ port
  pub due : IsDue (mode_in old port) (unanswered_of old.book) (as_unanswered request.request)
  pub task_is : t.task ≡ task_of (mode_in old port) request
  pub frames_are : t.frames ≡ request.frames
  pub slot_is_below_32 : t.slot < 32
  pub lowest : IsLowestFree (slots_at old.slots port.0) t.slot
  pub server_is : new ≡ record old {
    slots = with_slot old.slots port.0 t.slot (Some (use_for (mode_in old port) request));
    book = map (update_if_id id issued_request) old.book;
  }

-- these requests of the port were put in slots, as these tasks, one after another
abbrev pub PutsInSlots : Port → List RequestId → List PlacedTask → ServerState → ServerState → Type 0
PutsInSlots port [] [] old new = new ≡ old
PutsInSlots port (id ∷ ids) (t ∷ tasks) old new =
    (mid : ServerState) × PutsInSlot port id t old mid × PutsInSlots port ids tasks mid new
PutsInSlots port _ _ old new = ⊥

-- What holds of the lowest free slot that a due request of the port finds once these tasks were put in slots: it is
-- usable, one of the adapter's, none of theirs, and slot 0 for a plain command; and some machine agrees with a driver
-- that uses none of them, nor this one.
pub record FindsSlotFor (s : ServerState) (port : Port) (tasks : List PlacedTask) (request : BookEntry) (slot : ℕ)
    : Type 0 where
  pub slot_is_usable : slot < (mode_in s port).usable_slots
  pub slot_is_below_32 : slot < 32
  pub slot_exists : slot ≤ s.device.cap / 256 % 32
  pub plain_is_in_slot_0 : is_plain (mode_in s port) request.request.op ≡ true → slot ≡ 0
  pub is_none_of_tasks : IsSlotOf tasks slot → ⊥
  pub some_machine_agrees : (t : PlacedTask) → t.slot ≡ slot
      → SomeMachineAgreesWith (BatchSlotsAreUnused port.0 (tasks ++ t ∷ [])) s.device

-- What requests that are put in slots leave of a server: all but book and slots; each port has as many slots as it had,
-- and the book is in order, with requests as they were accepted.
pub record ChangesOnlySlotsAndBook (old new : ServerState) : Type 0 where
  pub only_slots_and_book_change : new ≡ record old { slots = new.slots; book = new.book }
  pub slots_are_of_four_ports : length new.slots ≡ 4
  pub slots_invariant : (port : ℕ) → port < 4 → SlotsInvariant old.probe_results old.modes new.slots port
  pub book_is_well_formed : BookIsWellFormed new.book
  pub entries_are_well_formed : All (IsWellFormedEntry old.table) new.book

-- They were put in slots, and their commands were issued together: the slots' bytes say them, and a trim's block names
-- its sectors.
pub record IssuesTogether (port : Port) (ids : List RequestId) (old new : ServerState) : Type 0 where
  pub tasks : List PlacedTask
  pub server_with_slots : ServerState
  pub puts : PutsInSlots port ids tasks old server_with_slots
  pub issued : IsBatchIssued port tasks old.device new.device
  pub server_is : new ≡ record server_with_slots { device = new.device }

-- These requests of the port were issued together. If there is none, nothing was done.
abbrev pub IssuesTogetherIfAny : Port → List RequestId → ServerState → ServerState → Type 0
IssuesTogetherIfAny port [] old new = new ≡ old
IssuesTogetherIfAny port ids old new = IssuesTogether port ids old new

-- the port's due requests were issued, in order of acceptance, together
abbrev pub IssuesDueOfPort : Port → ServerState → ServerState → Type 0
IssuesDueOfPort port old new = IssuesTogetherIfAny port (due_ids (mode_in old port) port (unanswered_of old.book)) old
    new

-- ---- a request is accepted

-- the book's entry for a request, on a port
abbrev pub accepted_as : Port → Request → RequestId → BookEntry
accepted_as port r id = record {
  request = record {
    id = id;
    client = r.client;
    grant = r.grant;
    port = port;
    op = r.op;
    range = record { first = r.first; count = r.count };
    issued = false;
    issue_count = 0;
    age = 0;
    revoked = false;
  };
  frames = r.frames.items;
}

-- the server, with the request last in its book, and these loans
abbrev pub with_accepted : Port → Request → RequestId → OwnersAndLoans → ServerState → ServerState
with_accepted port r id table s = record s {
  table = table;
  book = s.book ++ accepted_as port r id ∷ [];
  last_id = s.last_id +
      1;
}

-- The request goes last in the book with the next id, on the port of its row, and its frames are lent to it. Then what
-- is due on the port is issued.
pub record AcceptsAndIssues (port : Port) (r : Request) (id : RequestId) (old new : ServerState) : Type 0 where
  pub row : GrantRow
  pub named : IsNamed old.grants r row
  pub port_is : row.port ≡ port
  pub id_is : id.0 ≡ old.last_id + 1
  pub table : OwnersAndLoans
  pub lends_only : SetsLoanOnly old.table table r.frames.items (Some id)
  pub issues_due : IssuesDueOfPort port (with_accepted port r id table old) new

-- ---- a port is served

-- Apart from the device, the loans, the slots and the book, the server is as it was.
abbrev pub SameButDeviceLoansSlotsBook : ServerState → ServerState → Type 0
SameButDeviceLoansSlotsBook old new = new
    ≡ record old { device = new.device; table = new.table; slots = new.slots; book = new.book }

-- the reply that says that a request was done
abbrev pub done_reply : BookEntry → Reply
done_reply e = record { id = e.request.id; client = e.request.client; outcome = outcome.Ok }

-- The request of a slot of the port was answered: it left slot and book, and its frames were given back.
pub record AnswersOne (port : Port) (request : BookEntry) (old new : ServerState) : Type 0 where
  pub is_in_book : Contains old.book request
  pub port_is : request.request.port ≡ port
  pub slot : ℕ
  pub slot_is_below_32 : slot < 32
  pub used : SlotUse
  pub slot_use_is : used_for old.slots port.0 slot ≡ Some used
  pub id_is : used.id ≡ request.request.id
  pub lends_only : SetsLoanOnly old.table new.table request.frames None
  pub server_is : new ≡ record old {
    table = new.table;
    slots = with_slot old.slots port.0 slot None;
    book = without_entry
        request.request.id old.book;
  }

-- these requests, whose slots have their bits set here, were answered one after another
abbrev pub AnswersEach : Port → ℕ → List BookEntry → ServerState → ServerState → Type 0
AnswersEach port done [] old new = new ≡ old
AnswersEach port done (request ∷ requests) old new =
    (mid : ServerState) × (one : AnswersOne port request old mid) × (bit done one.slot ≡ true)
    × AnswersEach port done requests mid new

-- What was found done on the port was answered, in order of acceptance, and no slot of it is in use any more. Then what
-- is due on the port was issued.
pub record AnswersDoneAndIssues (port : Port) (done : ℕ) (replies : List Reply) (old new : ServerState) : Type 0 where
  pub requests : List BookEntry
  pub replies_are : replies ≡ map done_reply requests
  pub ordered : AllPairs IsEarlier requests
  pub server_after_answers : ServerState
  pub answers_each : AnswersEach port done requests old server_after_answers
  pub done_slots_are_free : (slot : ℕ) → slot < 32 → bit done slot ≡ true
      → used_for server_after_answers.slots port.0 slot ≡ None
  pub issued : IssuesDueOfPort port server_after_answers new

-- Nobody was answered in the turn, and nothing but the device changed; or what was found done in it was, from the
-- moment on when the masks had been read.
abbrev pub TurnAnswers : (port : Port) (replies : List Reply) (old new : ServerState)
    → PollsInTurnWithoutEvent port (slots_at old.slots port.0) replies old.device new.device → Type 0
TurnAnswers port replies old new turn =
    ((replies ≡ []) × (new ≡ record old { device = new.device }))
    ⊎ ((some : IsEmptyMask turn.polls_used_slots.mask → ⊥)
    × AnswersDoneAndIssues port (turn.polls_used_slots.polls_slots some).done replies
    (record old { device = (turn.polls_used_slots.polls_slots some).device_after_read }) new)

-- ---- as the machine has it

-- The steps are the device's, apart from those that issue requests of the port.
abbrev pub AllByDeviceOrIssue : QueueMode → Port → List Step → Type 0
AllByDeviceOrIssue mode port [] = Unit {0}
AllByDeviceOrIssue mode port (Issue its e ∷ steps) = (its ≡ mode) × (e.request.port ≡ port)
    × AllByDeviceOrIssue mode port steps
AllByDeviceOrIssue mode port (step ∷ steps) = IsByDevice step × AllByDeviceOrIssue mode port steps

-- the answers of these requests, one after another, the last first
abbrev pub ok_answers_newest_first : List Pending → List Step
ok_answers_newest_first [] = []
ok_answers_newest_first (e ∷ rest) = ok_answers_newest_first rest ++ Answer e outcome.Ok ∷ []

-- The machine's request is this one of the port; it was issued, and it had ended with all its sectors touched.
pub record HasEnded (port : Port) (request : BookEntry) (done : Pending) : Type 0 where
  pub port_is : request.request.port ≡ port
  pub entry : EntryRelation request done
  pub issued : done.issued ≡ true
  pub ended : done.ended ≡ true
  pub touched : AllTouched done

-- The steps are the device's, then the answers of these requests, which had ended, and then the device's again, apart
-- from the issues of requests of the port.
pub record StepsAnswer (mode : QueueMode) (port : Port) (replies : List Reply) (steps : List Step) : Type 0 where
  pub requests : List BookEntry
  pub replies_are : replies ≡ map done_reply requests
  pub ordered : AllPairs IsEarlier requests
  pub ended : List Pending
  pub each_has_ended : AllZip (HasEnded port) requests ended
  pub later : List Step
  pub before : List Step
  pub steps_are : steps ≡ later ++ (ok_answers_newest_first ended ++ before)
  pub device_steps_come_first : AllByDevice before
  pub others_come_last : AllByDeviceOrIssue mode port later
