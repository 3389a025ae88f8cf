use Rattle.std.proofs.Common.{◌≡◌, ℕ, ◌+◌, ◌<◌, ◌≤◌, slice_index}
use Rattle.command_table.proofs.store_at.Given as goal

abbrev pub invariant-loop-i : goal.invariant-loop-i
invariant-loop-i l = record {
  inside : (k : ℕ) → k < l.i → slice_index l.buffer (l.at + k) ≡ slice_index l.bytes k;
  before : (k : ℕ) → k < l.at → slice_index l.buffer k ≡ slice_index l.initial.buffer k;
  after : (k : ℕ) → l.at + l.i ≤ k → slice_index l.buffer k ≡ slice_index l.initial.buffer k;
}
