use Rattle.std.proofs.Common.{ℕ, ◌≤◌, ◌<◌, ◌+◌, ◌-◌, ◌^◌, get_or, length}
use Rattle.grants.specs.NamedRows.{RowName, name_rank}
use Rattle.grants.proofs.find_key.Given as goal

abbrev pub invariant-loop-low : goal.invariant-loop-low
invariant-loop-low l = record {
  within : l.high ≤ length l.keys;
  below : (k : ℕ) (d : RowName) → k < l.low → name_rank (get_or l.keys k d) < name_rank (l.client, l.number);
  above : (k : ℕ) (d : RowName) → l.high ≤ k → k < length l.keys → name_rank (l.client, l.number) < name_rank (get_or l.keys k d);
  counts : l.fn.compared ≤ l.compared;
  budget : (left : ℕ) × (l.compared + left ≤ l.fn.compared + 7) × (l.high - l.low < 2 ^ left);
}

abbrev pub decreases-loop-low : goal.decreases-loop-low
decreases-loop-low l = l.high - l.low
