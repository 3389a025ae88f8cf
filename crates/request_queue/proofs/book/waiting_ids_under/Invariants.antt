use Rattle.std.proofs.Common.{◌≡◌, ◌≤◌, length, take}
use Rattle.request_queue.specs.BookEntries.{ids_where, waits_under}
use Rattle.request_queue.proofs.book.waiting_ids_under.Given as goal

abbrev pub invariant-loop-place : goal.invariant-loop-place
invariant-loop-place l = record {
  listed : l.ids.items ≡ ids_where (waits_under l.client l.grant) (take l.place l.store);
  few : length l.ids.items ≤ l.place;
}
