use Rattle.refinement.proofs.driver.StoredCommand.{done_stored}
use Rattle.refinement.proofs.readying.law_stored_command_stays_over_acts_sparing_it.Goals as goal

pub returns : goal.returns
returns c = done_stored c.law_prerequisites.ensures
