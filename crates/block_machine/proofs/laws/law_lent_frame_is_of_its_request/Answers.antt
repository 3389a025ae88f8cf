use Rattle.block_machine.proofs.Lending.{lent_own}
use Rattle.block_machine.proofs.laws.law_lent_frame_is_of_its_request.Goals as goal

pub returns : goal.returns
returns c m f e r l h = lent_own m f e r l h
