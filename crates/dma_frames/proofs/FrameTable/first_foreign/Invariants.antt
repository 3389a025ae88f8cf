use Rattle.std.proofs.Common.{ℕ, ◌<◌}
use Rattle.block_machine.specs.Rules.{IsForeignAt}
use Rattle.dma_frames.specs.FrameTables.{owner_of}
use Rattle.dma_frames.proofs.FrameTable.first_foreign.Given as goal

abbrev pub invariant-loop-place : goal.invariant-loop-place
invariant-loop-place l = (k : ℕ) → k < l.place → IsForeignAt (owner_of l.self) l.client l.frames k → ⊥
