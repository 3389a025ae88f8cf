use Rattle.std.proofs.Common.{ℕ, ◌<◌}
use Rattle.block_machine.specs.Rules.{IsLentAt}
use Rattle.dma_frames.specs.FrameTables.{lent_to}
use Rattle.dma_frames.proofs.FrameTable.first_lent.Given as goal

abbrev pub invariant-loop-place : goal.invariant-loop-place
invariant-loop-place l = (k : ℕ) → k < l.place → IsLentAt (lent_to l.self) l.frames k → ⊥
