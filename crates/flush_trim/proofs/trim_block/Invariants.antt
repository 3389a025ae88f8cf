use Rattle.std.proofs.Common.{ℕ, ◌≡◌, ◌<◌, length}
use Rattle.flush_trim.specs.TrimBlocks.{entry_first, entry_length, wanted_entry_first, wanted_entry_length}
use Rattle.flush_trim.proofs.trim_block.Given as goal

abbrev pub invariant-loop-place : goal.invariant-loop-place
invariant-loop-place l = record {
  size : length l.block ≡ 512;
  firsts : (i : ℕ) → i < l.place → entry_first l.block i ≡ wanted_entry_first l.range.first.0 l.range.count i;
  lengths : (i : ℕ) → i < l.place → entry_length l.block i ≡ wanted_entry_length l.range.count i;
}
