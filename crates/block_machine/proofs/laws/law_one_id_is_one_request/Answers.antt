use Rattle.block_machine.proofs.Accepts.{law_one_id_is_one_request}
use Rattle.block_machine.proofs.laws.law_one_id_is_one_request.Goals as goal

pub returns : goal.returns
returns c = law_one_id_is_one_request
