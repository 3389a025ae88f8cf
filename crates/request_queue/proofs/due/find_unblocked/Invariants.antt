use Rattle.std.proofs.Common.{◌≡◌, ◌<◌, ◌≤◌, ◌&&◌, ◌==◌, not, length, take}
use Rattle.std.specs.List.{All, count_by, filter, list_any}
use Rattle.request_queue.specs.BookEntries.{unanswered_of}
use Rattle.request_queue.specs.Blockers.{waiting_read_or_write_has_blocker}
use Rattle.request_queue.specs.DueWalk.{AreQueuedIssuedAhead, is_issued_plain}
use Rattle.request_queue.specs.RequestSlab.{unanswered_at}
use Rattle.request_queue.proofs.due.find_unblocked.Given as goal

abbrev pub invariant-loop-place : goal.invariant-loop-place
invariant-loop-place l = record {
  without_blocker : unanswered_at l.store l.places.items ≡ filter (λ r. r.port.0 == l.port.0 && not (waiting_read_or_write_has_blocker (unanswered_of l.store) r)) (take l.place (unanswered_of l.store));
  within : All (λ place. place < length l.store) l.places.items;
  few : length l.places.items ≤ l.place;
  counted : l.count ≡ count_by (λ r. r.issued) (unanswered_at l.store l.places.items);
  fits : l.count ≤ l.place;
  leading : AreQueuedIssuedAhead l.mode (unanswered_at l.store l.places.items) l.leading;
  alone : l.has_plain ≡ list_any (is_issued_plain l.mode) (unanswered_at l.store l.places.items);
}
