use Rattle.block_machine.proofs.Lending.{lent_accepted}
use Rattle.block_machine.proofs.laws.law_lent_frame_is_of_accepted_request.Goals as goal

pub returns : goal.returns
returns c = lent_accepted
