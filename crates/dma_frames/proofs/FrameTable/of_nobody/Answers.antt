use Rattle.dma_frames.proofs.LentBits.{none_agree}
use Rattle.dma_frames.proofs.OwnerWords.{nobody_owns}
use Rattle.dma_frames.proofs.FrameTable.of_nobody.Goals as goal

pub invariant_of-result : goal.invariant_of-result
invariant_of-result c = record {
  owner_words = c.no_owners.ensures.length;
  bit_words = c.no_bits.ensures.length;
  all_frames = c.no_ids.ensures.length;
  lent_bits = none_agree c.no_bits.result c.no_ids.result c.no_bits.ensures.zero c.no_ids.ensures.none;
}

pub returns-clause-owners : goal.returns-clause-owners
returns-clause-owners c = λ f. nobody_owns c.no_owners.result c.no_owners.ensures.zero f.0

pub returns-clause-free : goal.returns-clause-free
returns-clause-free c = λ f. c.no_ids.ensures.none f.0
