use Rattle.driver_history.proofs.Standing.{seen_answered}
use Rattle.driver_history.proofs.laws.law_services_answer_where_bits_are_clear.Goals as goal

pub returns : goal.returns
returns c = seen_answered
