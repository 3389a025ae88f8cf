use Rattle.std.proofs.Common.{ℕ, ◌≤◌, ◌<◌, ◌-◌, get_or, length}
use Rattle.request_queue.specs.declared.ranges.RequestRange.{RequestRange}
use Rattle.request_queue.specs.BookRanges.{StandsBefore}
use Rattle.request_queue.specs.RangeIndex.{items_of}
use Rattle.request_queue.proofs.ranges.count_before.Given as goal

abbrev pub invariant-loop-low : goal.invariant-loop-low
invariant-loop-low l = record {
  meets : l.low ≤ l.high;
  within : l.high ≤ length l.entries;
  before : (k : ℕ) (d : RequestRange) → k < l.low → StandsBefore (get_or (items_of l.entries) k d) l.first l.id;
  behind : (k : ℕ) (d : RequestRange) → l.high ≤ k → k < length l.entries → StandsBefore (get_or (items_of l.entries) k d) l.first l.id → ⊥;
}

abbrev pub decreases-loop-low : goal.decreases-loop-low
decreases-loop-low l = l.high - l.low
