-- One bit for each frame in words of 64 bits.
use Rattle.std.specs.Prelude.{ℕ, ◌/◌, ◌%◌, List, slice_index}
use Rattle.std.specs.Int.{bit_at}

-- the bit of a frame
abbrev pub frame_bit : List ℕ → ℕ → ℕ
frame_bit words frame = bit_at (slice_index words (frame / 64)) (frame % 64)
