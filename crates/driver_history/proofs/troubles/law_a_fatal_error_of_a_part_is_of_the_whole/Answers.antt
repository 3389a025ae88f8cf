use Rattle.refinement.specs.Errors.{IsFatalEntryOf}
use Rattle.driver_history.proofs.Since.{running_in_part}
use Rattle.driver_history.proofs.troubles.law_a_fatal_error_of_a_part_is_of_the_whole.Goals as goal

pub returns : goal.returns
returns c = λ port. running_in_part (IsFatalEntryOf port) port
