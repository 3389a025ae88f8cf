-- What the walk knows of a request that it comes to (this project's own).
use Rattle.std.specs.Prelude.{ℕ, ◌≡◌, ◌<◌, ◌≤◌, Bool, true, false, ◌&&◌, List, Some, All, count_by, length, slice_get, slice_index_or}
use Rattle.std.specs.List.{list_any}
use Rattle.block_machine.specs.DueRequests.{IsInOrder, is_plain}
use Rattle.block_machine.specs.declared.due.QueueMode.{QueueMode}
use Rattle.block_machine.specs.declared.due.Unanswered.{Unanswered}
use Rattle.request_queue.specs.Blockers.{waiting_read_or_write_has_blocker}
use Rattle.request_queue.specs.declared.due.IssuedTally.{IssuedTally}

-- the request is issued, and goes alone
abbrev pub is_issued_plain : QueueMode → Unanswered → Bool
is_issued_plain mode r = is_plain mode r.op && r.issued

-- this is issued of the requests: so many, and whether one of them was issued alone
abbrev pub TalliesIssued : QueueMode → List Unanswered → IssuedTally → Type 0
TalliesIssued mode requests issued = (issued.count ≡ count_by (λ r. r.issued) requests)
    × (issued.has_plain ≡ list_any (is_issued_plain mode) requests)

-- So many requests stand at the head that are issued, and none of them alone: the walk begins behind them.
pub record AreQueuedIssuedAhead (mode : QueueMode) (requests : List Unanswered) (leading : ℕ) : Type 0 where
  pub leading_is_in_range : leading ≤ length requests
  pub leading_are_issued : (k : ℕ) (d : Unanswered) → k < leading → (slice_index_or requests k d).issued ≡ true
  pub leading_are_queued : (k : ℕ) (d : Unanswered) → k < leading → is_plain mode (slice_index_or requests k d).op
      ≡ false

-- The request has this number among those of its port without a blocker, in order of acceptance. All before it are
-- queued, since the walk ends at a plain one.
pub record IsReachedInWalk (mode : QueueMode) (requests : List Unanswered) (number : ℕ) (r : Unanswered) : Type 0 where
  pub request_is_at_number : slice_get requests number ≡ Some r
  pub book_is_in_order : IsInOrder requests
  pub all_are_of_its_port : All (λ other. other.port ≡ r.port) requests
  pub without_blocker : waiting_read_or_write_has_blocker requests r ≡ false
  pub earlier_are_queued : (k : ℕ) (d : Unanswered) → k < number → is_plain mode (slice_index_or requests k d).op
      ≡ false
