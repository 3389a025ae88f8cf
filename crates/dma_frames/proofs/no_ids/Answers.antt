use Rattle.ata_types.specs.declared.memory.TheConstants.{MOST_FRAMES}
use Rattle.std.proofs.Common.{None}
use Rattle.dma_frames.proofs.OwnerLemmas.{get_or-copies}
use Rattle.dma_frames.proofs.no_ids.Goals as goal

pub returns-clause-none : goal.returns-clause-none
returns-clause-none c = λ i. get_or-copies MOST_FRAMES i None
