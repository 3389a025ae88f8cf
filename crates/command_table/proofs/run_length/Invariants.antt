use Rattle.std.proofs.Common.{ℕ, ◌≡◌, ◌+◌, ◌<◌}
use Rattle.command_table.specs.SectorPlaces.{frame_number}
use Rattle.command_table.proofs.run_length.Given as goal

abbrev pub invariant-loop-count : goal.invariant-loop-count
invariant-loop-count l = (k : ℕ) → k < l.count → frame_number l.frames (l.from + k) ≡ l.first + k
