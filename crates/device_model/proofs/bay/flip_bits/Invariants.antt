use Rattle.std.proofs.Common.{ℕ, ◌≡◌, ◌<◌, ◌≤◌, length, slice_index}
use Rattle.std.specs.Prelude.{All, bit_xor}
use Rattle.device_model.proofs.bay.flip_bits.Given as goal

-- the bytes below are turned, and the others are as they were
abbrev pub invariant-loop-offset : goal.invariant-loop-offset
invariant-loop-offset l = record {
  long : length l.page ≡ 512;
  below : (k : ℕ) → k < l.offset → slice_index l.page k ≡ bit_xor (slice_index l.fn.page k) (slice_index l.bits k);
  rest : (k : ℕ) → l.offset ≤ k → slice_index l.page k ≡ slice_index l.fn.page k;
  bytes : All (λ byte. byte < 256) l.fn.page → All (λ byte. byte < 256) l.page;
}
