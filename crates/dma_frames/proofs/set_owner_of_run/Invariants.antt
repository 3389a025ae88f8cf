use Rattle.std.proofs.Common.{◌≡◌, ℕ, ◌<◌, ◌≤◌, get_or, length, Some, None}
use Rattle.dma_frames.specs.TableWords.{owners_of}
use Rattle.dma_frames.proofs.set_owner_of_run.Given as goal

abbrev pub invariant-loop-place : goal.invariant-loop-place
invariant-loop-place l = record {
  words : length l.owners ≡ 64;
  these : (k : ℕ) → l.first ≤ k → k < l.place → get_or (owners_of l.owners) k None ≡ Some l.client;
  before : (k : ℕ) → k < l.first → get_or (owners_of l.owners) k None ≡ get_or (owners_of l.fn.owners) k None;
  after : (k : ℕ) → l.place ≤ k → get_or (owners_of l.owners) k None ≡ get_or (owners_of l.fn.owners) k None;
}
