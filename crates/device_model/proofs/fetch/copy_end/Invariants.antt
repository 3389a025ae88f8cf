use Rattle.std.proofs.Common.{◌≡◌, ◌+◌, ℕ, ◌<◌, slice_index, length}
use Rattle.device_model.proofs.fetch.copy_end.Given as goal

abbrev pub invariant-loop-i : goal.invariant-loop-i
invariant-loop-i l = record {
  copied : (k : ℕ) → k < l.i → slice_index l.out k ≡ slice_index l.memory (l.at + k);
  size : length l.out ≡ length l.fn.out;
}
