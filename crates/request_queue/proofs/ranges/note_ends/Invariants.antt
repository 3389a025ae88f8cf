use Rattle.std.proofs.Common.{ℕ, ◌≡◌, ◌<◌, ◌≤◌, get_or, length}
use Rattle.std.specs.Prelude.{vec_capacity, vec_len}
use Rattle.request_queue.specs.declared.ranges.IndexEntry.{IndexEntry}
use Rattle.request_queue.specs.BookRanges.{EndIsGreatestUpTo}
use Rattle.request_queue.specs.RangeIndex.{items_of}
use Rattle.request_queue.proofs.ranges.note_ends.Given as goal

abbrev pub invariant-loop-place : goal.invariant-loop-place
invariant-loop-place l = record {
  long : vec_len l.entries ≡ vec_len l.fn.entries;
  many : length l.entries.items ≡ length l.fn.entries.items;
  room : vec_capacity l.entries ≡ vec_capacity l.fn.entries;
  items : items_of l.entries.items ≡ items_of l.fn.entries.items;
  ends : (k : ℕ) (d : IndexEntry) → k < l.place → EndIsGreatestUpTo (items_of l.fn.entries.items) k (get_or l.entries.items k d).greatest_end;
  later : (k : ℕ) (d : IndexEntry) → l.place ≤ k → get_or l.entries.items k d ≡ get_or l.fn.entries.items k d;
}
