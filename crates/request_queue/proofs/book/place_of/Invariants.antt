use Rattle.std.proofs.Common.{ℕ, ◌≡◌, ◌≤◌, ◌<◌, ◌-◌, get_or, length}
use Rattle.request_queue.specs.BookEntries.{BookEntry}
use Rattle.request_queue.proofs.book.place_of.Given as goal

abbrev pub invariant-loop-past : goal.invariant-loop-past
invariant-loop-past l = record {
  within : l.past ≤ length l.store;
  place : (k : ℕ) × (l.first ≤ k) × (k < l.past) × ((d : BookEntry) → (get_or l.store k d).request.id.0 ≡ l.id.0);
}

abbrev pub decreases-loop-past : goal.decreases-loop-past
decreases-loop-past l = l.past - l.first
