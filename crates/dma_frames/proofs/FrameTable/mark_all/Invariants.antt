use Rattle.std.proofs.Common.{◌≡◌}
use Rattle.dma_frames.specs.TableWords.{WordsAgreeWithIds, owners_of}
use Rattle.dma_frames.proofs.OwnerLemmas.{Owned, Only}
use Rattle.dma_frames.proofs.FrameTable.mark_all.Given as goal

abbrev pub invariant-loop-run : goal.invariant-loop-run
invariant-loop-run l = record {
  agree : WordsAgreeWithIds l.self-inside.owners l.self-inside.lent l.self-inside.ids;
  lent : l.self-inside.ids ≡ l.fn.self.lent;
  owned : Owned l.runs (owners_of l.self-inside.owners) l.run-index;
  only : Only l.runs (owners_of l.self-inside.owners) l.run-index;
}
