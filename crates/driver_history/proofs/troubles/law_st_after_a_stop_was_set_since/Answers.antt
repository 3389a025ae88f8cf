use Rattle.driver_history.proofs.Within.{set_since}
use Rattle.driver_history.proofs.troubles.law_st_after_a_stop_was_set_since.Goals as goal

pub returns : goal.returns
returns c = set_since c.law_prerequisites.ensures
