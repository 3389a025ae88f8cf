use Rattle.block_server.proofs.Saying.{unambiguous}
use Rattle.block_server.proofs.laws.law_said_lists_are_unambiguous.Goals as goal

pub returns : goal.returns
returns c = unambiguous
