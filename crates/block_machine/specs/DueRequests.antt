-- Which unanswered requests are due to be issued: a condition on each request of the book (this project's own).
-- A port serves reads and writes queued (native command queuing, up to `usable` at a time) or plain, one at a time.
use Rattle.std.specs.Prelude.{◌≡◌, ℕ, ◌-◌, ◌<◌, Bool, true, false, not, ◌&&◌, ◌||◌, ◌==◌, nat_lt, if◌then◌else◌, List, [], ◌∷◌, map, filter, count_by, Contains, AllPairs}
use Rattle.std.specs.List.{list_any}
use Rattle.ata_types.specs.declared.Port.{Port}
use Rattle.ata_types.specs.declared.range.Range.{Range}
use Rattle.ata_types.specs.declared.request.Op.{Op}
use Rattle.ata_types.specs.declared.request.Op.TheVariants.{Write, Trim, Flush}
use Rattle.ata_types.specs.declared.request.RequestId.{RequestId}
use Rattle.ata_types.specs.Range.{range_end}
use Rattle.block_machine.specs.declared.due.QueueMode.{QueueMode}
use Rattle.block_machine.specs.declared.due.Unanswered.{Unanswered}

-- the operation is a flush
abbrev pub is_flush : Op → Bool
is_flush Flush = true
is_flush _ = false

-- the operation changes sectors
abbrev pub changes_sectors : Op → Bool
changes_sectors Write = true
changes_sectors Trim = true
changes_sectors _ = false

-- the ranges have a sector in common
abbrev pub are_overlapping : Range → Range → Bool
are_overlapping a b = (nat_lt a.first.0 (range_end b) && nat_lt b.first.0 (range_end a)) &&
    (nat_lt 0 a.count && nat_lt 0 b.count)

-- two requests of one port conflict if one is a flush, or if one of them writes or trims and their ranges overlap
abbrev pub conflict_on_port_by_flush_or_overlap : Unanswered → Unanswered → Bool
conflict_on_port_by_flush_or_overlap a b = a.port.0 == b.port.0
    && ((is_flush a.op || is_flush b.op) || ((changes_sectors a.op || changes_sectors b.op) && are_overlapping a.range
    b.range))

-- Trims and flushes are plain. If commands aren't queued, reads and writes are plain too.
abbrev pub is_plain : QueueMode → Op → Bool
is_plain mode Trim = true
is_plain mode Flush = true
is_plain mode _ = not mode.queued

-- the one was accepted before the other, on the same port
abbrev pub is_earlier_on_port : Unanswered → Unanswered → Bool
is_earlier_on_port a b = a.port.0 == b.port.0 && nat_lt a.id.0 b.id.0

-- A request stands in the way of r. A plain r waits for each issued and each earlier one of its port.
-- A queued r waits for the plain ones, issued or earlier, and for earlier ones that conflict with it.
abbrev pub waits_for : QueueMode → Unanswered → Unanswered → Bool
waits_for mode r other = other.port.0 == r.port.0 && (if is_plain mode r.op
    then other.issued || nat_lt other.id.0 r.id.0
    else (is_plain mode other.op && other.issued)
    || (nat_lt other.id.0 r.id.0 && (is_plain mode other.op || conflict_on_port_by_flush_or_overlap other r)))

-- it waits, and nothing stands in its way
abbrev pub is_waiting_and_unblocked : QueueMode → List Unanswered → Unanswered → Bool
is_waiting_and_unblocked mode book r = not r.issued && not (list_any (waits_for mode r) book)

-- how many earlier ones of its port are clear to go
abbrev pub unblocked_ahead_count : QueueMode → List Unanswered → Unanswered → ℕ
unblocked_ahead_count mode book r =
    count_by (λ other. is_earlier_on_port other r && is_waiting_and_unblocked mode book other) book

-- how many requests of the port are issued: each has a slot
abbrev pub issued_count : List Unanswered → Port → ℕ
issued_count book port = count_by (λ other. other.port.0 == port.0 && other.issued) book

-- how many usable slots of the port are free
abbrev pub free_slots : QueueMode → List Unanswered → Port → ℕ
free_slots mode book port = mode.usable_slots - issued_count book port

-- The request is due: it is clear to go, and a slot is left for it after the earlier ones that go.
-- (A plain one goes alone, so its slot is free.)
pub record IsDue (mode : QueueMode) (book : List Unanswered) (r : Unanswered) : Type 0 where
  pub is_in_book : Contains book r
  pub waits_and_nothing_blocks : is_waiting_and_unblocked mode book r ≡ true
  pub slot_is_left : is_plain mode r.op ≡ false → unblocked_ahead_count mode book r < free_slots mode book r.port

-- `IsDue` of a request of the book, as a test
abbrev pub is_due : QueueMode → List Unanswered → Unanswered → Bool
is_due mode book r = is_waiting_and_unblocked mode book r &&
    (is_plain mode r.op || nat_lt (unblocked_ahead_count mode book r) (free_slots mode book r.port))

-- how many earlier ones of its port are due: `law_counts_ahead_agree_on_slot_left` says that a slot is left after these
-- too
abbrev pub due_ahead_count : QueueMode → List Unanswered → Unanswered → ℕ
due_ahead_count mode book r = count_by (λ other. is_earlier_on_port other r && is_due mode book other) book

-- no request of the port is due
abbrev pub NoneDue : QueueMode → List Unanswered → Port → Type 0
NoneDue mode book port = (r : Unanswered) → r.port ≡ port → IsDue mode book r → ⊥

-- the book is in order of acceptance
abbrev pub IsInOrder : List Unanswered → Type 0
IsInOrder book = AllPairs (λ a b. a.id.0 < b.id.0) book

-- the request issued, if it has this id
abbrev pub mark_issued : RequestId → Unanswered → Unanswered
mark_issued id r = if r.id.0 == id.0 then record r { issued = true } else r

-- the book with the request of this id issued
abbrev pub with_issued : RequestId → List Unanswered → List Unanswered
with_issued id book = map (mark_issued id) book

-- the request waiting again, if it has this id
abbrev pub mark_waiting : RequestId → Unanswered → Unanswered
mark_waiting id r = if r.id.0 == id.0 then record r { issued = false } else r

-- the book with the request of this id waiting again
abbrev pub with_waiting : RequestId → List Unanswered → List Unanswered
with_waiting id book = map (mark_waiting id) book

-- the book without the request of this id
abbrev pub without_request : RequestId → List Unanswered → List Unanswered
without_request id book = filter (λ r. not (r.id.0 == id.0)) book

-- the requests of the port
abbrev pub requests_of_port : Port → List Unanswered → List Unanswered
requests_of_port port book = filter (λ r. r.port.0 == port.0) book

-- the requests of the port that are due, in order of acceptance
abbrev pub due_of : QueueMode → Port → List Unanswered → List Unanswered
due_of mode port book = filter (λ r. r.port.0 == port.0 && is_due mode book r) book

-- each of these is due on the port once those before it were issued; and once all were, none is
abbrev pub AreDueInTurnAndLeaveNoneDue : QueueMode → Port → List RequestId → List Unanswered → Type 0
AreDueInTurnAndLeaveNoneDue mode port [] book = NoneDue mode book port
AreDueInTurnAndLeaveNoneDue mode port (id ∷ ids) book =
    ((r : Unanswered) × (r.id ≡ id) × (r.port ≡ port) × IsDue mode book r)
    × AreDueInTurnAndLeaveNoneDue mode port ids (with_issued id book)
