use Rattle.std.proofs.Common.{◌≡◌, ℕ, ◌<◌, length}
use Rattle.block_machine.specs.Rules.{IsForeignAt, IsRepeatAt, IsLentAt}
use Rattle.dma_frames.specs.FrameTables.{owner_of, lent_to}
use Rattle.dma_frames.proofs.Seen.{AreSeen}
use Rattle.dma_frames.proofs.FrameTable.are_clear.Given as goal

abbrev pub invariant-loop-frame : goal.invariant-loop-frame
invariant-loop-frame l = record {
  words : length l.before ≡ 16;
  seen : AreSeen l.before l.frames l.frame-index;
  own : (k : ℕ) → k < l.frame-index → IsForeignAt (owner_of l.self) l.client l.frames k → ⊥;
  once : (k : ℕ) → k < l.frame-index → IsRepeatAt l.frames k → ⊥;
  free : (k : ℕ) → k < l.frame-index → IsLentAt (lent_to l.self) l.frames k → ⊥;
}
