-- What a disk holds of which some sectors were cleared, one after another, and no other one was written.
use Rattle.std.specs.Prelude.{ℕ, ◌&&◌, ◌%◌, List, replicate, if◌then◌else◌, nat_le, nat_lt}

-- each byte of a sector is its number's lowest, but zero from the first that was cleared up to the next
abbrev pub numbered_sectors_with_cleared_range : (first next : ℕ) → ℕ → List ℕ
numbered_sectors_with_cleared_range first next = λ k. if nat_le first k && nat_lt k next then replicate 512 0 else
    replicate 512 (k % 256)
