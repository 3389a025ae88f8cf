-- An earlier request that each waiting read or write conflicts with: its blocker, for which it waits (this project's
-- own).
use Rattle.std.specs.Prelude.{ℕ, ◌≡◌, ◌<◌, Bool, true, false, not, ◌&&◌, ◌==◌, if◌then◌else◌, List, filter, length, Option, Some, None, Contains, slice_index_or}
use Rattle.std.specs.List.{list_any}
use Rattle.ata_types.specs.declared.Port.{Port}
use Rattle.ata_types.specs.declared.request.Op.{Op}
use Rattle.ata_types.specs.declared.request.Op.TheVariants.{Read, Write, Trim, Flush}
use Rattle.ata_types.specs.declared.request.RequestId.{RequestId}
use Rattle.block_machine.specs.DueRequests.{conflict_on_port_by_flush_or_overlap, is_earlier_on_port}
use Rattle.block_machine.specs.declared.due.Unanswered.{Unanswered}
use Rattle.request_queue.specs.declared.blocker.TheConstants.{NOBODY}

-- the operation is a read or a write
abbrev pub is_read_or_write : Op → Bool
is_read_or_write Read = true
is_read_or_write Write = true
is_read_or_write Trim = false
is_read_or_write Flush = false

-- The request is a read or a write that waits. No other has a blocker: an issued one has a slot, and at a trim or a
-- flush the walk for what is due ends, so that it has to come to them.
abbrev pub is_waiting_read_or_write : Unanswered → Bool
is_waiting_read_or_write r = not r.issued && is_read_or_write r.op

-- the other was accepted before the request, and conflicts with it
abbrev pub conflicts_with_earlier : Unanswered → Unanswered → Bool
conflicts_with_earlier r other = is_earlier_on_port other r && conflict_on_port_by_flush_or_overlap other r

-- the request is a waiting read or write, and conflicts with an earlier one of the book
abbrev pub waiting_read_or_write_has_blocker : List Unanswered → Unanswered → Bool
waiting_read_or_write_has_blocker book r = is_waiting_read_or_write r && list_any (conflicts_with_earlier r) book

-- The request's blocker is the one of the book with this id. None says that it has no blocker.
abbrev pub IsBlockerOf : List Unanswered → Unanswered → Option RequestId → Type 0
IsBlockerOf book r None = waiting_read_or_write_has_blocker book r ≡ false
IsBlockerOf book r (Some id) = (is_waiting_read_or_write r ≡ true)
    × ((other : Unanswered) × Contains book other × (other.id ≡ id) × (conflicts_with_earlier r other ≡ true))

-- each request's blocker, in order of acceptance
pub record AreBlockers (book : List Unanswered) (blockers : List (Option RequestId)) : Type 0 where
  pub lengths_are_same : length blockers ≡ length book
  pub blocker_of_each : (k : ℕ) (d : Unanswered) → k < length book
      → IsBlockerOf book (slice_index_or book k d) (slice_index_or blockers k None)

-- A blocker in one word: its id. The greatest id stands for none, since no blocker has it.
abbrev pub blocker_unless_greatest_id : ℕ → Option RequestId
blocker_unless_greatest_id word = if word == NOBODY then None else Some (record { 0 = word })

-- the blocker is the request with this id
abbrev pub is_blocked_by : RequestId → Option RequestId → Bool
is_blocked_by id None = false
is_blocked_by id (Some blocker) = blocker.0 == id.0

-- The same, but for those from a place on whose blocker has left the book: the one with this id.
pub record AreBlockersExceptOf (id : RequestId) (place : ℕ) (book : List Unanswered)
    (blockers : List (Option RequestId))
    : Type 0 where
  pub lengths_are_same : length blockers ≡ length book
  pub blockers_before_place : (k : ℕ) (d : Unanswered) → k < place → k < length book
      → IsBlockerOf book (slice_index_or book k d) (slice_index_or blockers k None)
  pub other_blockers : (k : ℕ) (d : Unanswered) → k < length book → is_blocked_by id (slice_index_or blockers k None)
      ≡ false
      → IsBlockerOf book (slice_index_or book k d) (slice_index_or blockers k None)

-- the requests of the port that have no blocker, in order of acceptance
abbrev pub without_blocker : Port → List Unanswered → List Unanswered
without_blocker port book = filter (λ r. r.port.0 == port.0 && not (waiting_read_or_write_has_blocker book r)) book
