use Rattle.driver_history.proofs.Errors.{steps_show}
use Rattle.driver_history.proofs.Losing.{accesses_show, loses_none}
use Rattle.driver_history.proofs.troubles.law_errors_stay_unless_cleared_or_ghc_written.Goals as goal

pub returns-clause-accesses : goal.returns-clause-accesses
returns-clause-accesses c port old new accesses evidence ports on does spares clears =
    loses_none c.law_prerequisites.ensures port old new (accesses_show c.law_prerequisites.ensures port accesses old.device new on does spares clears) evidence ports

pub returns-clause-steps : goal.returns-clause-steps
returns-clause-steps c port old new evidence ports on moves =
    loses_none c.law_prerequisites.ensures port old new (λ kind. steps_show c.law_prerequisites.ensures kind port.0 old.device new on.no_reset moves) evidence ports
