use Rattle.std.proofs.Common.{◌≡◌, ℕ, ◌<◌, get_or, length, None}
use Rattle.std.specs.List.{Contains}
use Rattle.ata_types.specs.declared.request.Frame.{Frame}
use Rattle.ata_types.specs.declared.memory.TheConstants.{MOST_FRAMES}
use Rattle.dma_frames.specs.TableWords.{AreLentBits}
use Rattle.dma_frames.proofs.set_borrower.Given as goal

abbrev pub invariant-loop-frame : goal.invariant-loop-frame
invariant-loop-frame l = record {
  words : length l.lent ≡ 16;
  all_frames : length l.ids ≡ MOST_FRAMES;
  agree : AreLentBits l.lent l.ids;
  these : (k : ℕ) (d : Frame) → k < l.frame-index → get_or l.ids (get_or l.frames k d).0 None ≡ l.borrower;
  others : (f : Frame) → (Contains l.frames f → ⊥) → get_or l.ids f.0 None ≡ get_or l.fn.ids f.0 None;
}
