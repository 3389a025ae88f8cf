use Rattle.std.proofs.Common.{◌≡◌, ℕ, ◌<◌, length}
use Rattle.block_machine.specs.Rules.{IsRepeatAt}
use Rattle.dma_frames.proofs.Seen.{AreSeen}
use Rattle.dma_frames.proofs.first_twice.Given as goal

abbrev pub invariant-loop-place : goal.invariant-loop-place
invariant-loop-place l = record {
  words : length l.seen ≡ 16;
  seen : AreSeen l.seen l.frames l.place;
  once : (k : ℕ) → k < l.place → IsRepeatAt l.frames k → ⊥;
}
