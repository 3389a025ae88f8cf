use Rattle.driver_history.proofs.Turned.{alone_then}
use Rattle.driver_history.proofs.troubles.law_a_fault_alone_in_a_call_is_alone_in_a_turn.Goals as goal

pub returns : goal.returns
returns c port old begun new on undue t on_then ready alone = alone_then c.law_prerequisites.ensures port old begun new on undue t on_then ready alone
