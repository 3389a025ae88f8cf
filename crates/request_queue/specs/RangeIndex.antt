-- How items are kept: in order, each with the greatest end so far (this project's own).
use Rattle.std.specs.Prelude.{ℕ, ◌+◌, ◌<◌, List, map, length, slice_index_or}
use Rattle.request_queue.specs.declared.ranges.IndexEntry.{IndexEntry}
use Rattle.request_queue.specs.declared.ranges.RequestRange.{RequestRange}
use Rattle.request_queue.specs.BookRanges.{AreSorted, EndIsGreatestUpTo}

-- the items of entries: what contracts see of the ranges
abbrev pub items_of : List IndexEntry → List RequestRange
items_of entries = map (λ (e : IndexEntry). e.item) entries

-- The items are sorted, and each entry has the greatest end of its item and of all before it.
pub record IsSortedWithGreatestEndSoFar (entries : List IndexEntry) : Type 0 where
  pub sorted : AreSorted (items_of entries)
  pub ends_are_greatest : (k : ℕ) (d : IndexEntry) → k < length entries
      → EndIsGreatestUpTo (items_of entries) k (slice_index_or entries k d).greatest_end

-- where the entry at a place has its greatest end, the next has its own, too
abbrev pub NextEndIsGreatestIfThis : List IndexEntry → ℕ → IndexEntry → Type 0
NextEndIsGreatestIfThis entries k d = k + 1 < length entries
    → EndIsGreatestUpTo (items_of entries) k (slice_index_or entries k d).greatest_end
    → EndIsGreatestUpTo (items_of entries) (k + 1) (slice_index_or entries (k + 1) d).greatest_end
