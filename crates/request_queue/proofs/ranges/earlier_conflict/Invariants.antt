use Rattle.std.proofs.Common.{ℕ, ◌≡◌, ◌<◌, ◌≤◌, false, get_or, length}
use Rattle.request_queue.specs.declared.ranges.RequestRange.{RequestRange}
use Rattle.request_queue.specs.BookRanges.{is_earlier_conflict_on_port}
use Rattle.request_queue.specs.RangeIndex.{items_of}
use Rattle.request_queue.proofs.ranges.earlier_conflict.Given as goal

abbrev pub invariant-loop-past : goal.invariant-loop-past
invariant-loop-past l = record {
  within : l.past ≤ length l.entries;
  none : (k : ℕ) (d : RequestRange) → l.past ≤ k → k < length (items_of l.entries) → is_earlier_conflict_on_port l.item (get_or (items_of l.entries) k d) ≡ false;
}

abbrev pub decreases-loop-past : goal.decreases-loop-past
decreases-loop-past l = l.past
