use Rattle.dma_frames.proofs.OwnerLemmas.{get_or-copies}
use Rattle.dma_frames.proofs.no_bits.Goals as goal

pub returns-clause-zero : goal.returns-clause-zero
returns-clause-zero c = λ i. get_or-copies 16 i 0
