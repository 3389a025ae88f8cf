use Rattle.driver_history.proofs.Within.{reset_noted}
use Rattle.driver_history.proofs.troubles.law_link_reset_sets_sctl_written_at.Goals as goal

pub returns : goal.returns
returns c = reset_noted c.law_prerequisites.ensures
