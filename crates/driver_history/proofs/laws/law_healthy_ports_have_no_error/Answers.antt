use Rattle.driver_history.proofs.Calm.{no_errors, no_fatal_errors, not_gone, untroubled}
use Rattle.driver_history.proofs.laws.law_healthy_ports_have_no_error.Goals as goal

pub returns-clause-link_is_unchanged : goal.returns-clause-link_is_unchanged
returns-clause-link_is_unchanged c port old new healthy gone = not_gone port old new healthy gone

pub returns-clause-has_no_errors : goal.returns-clause-has_no_errors
returns-clause-has_no_errors c port old new healthy errors = no_errors port old new healthy errors

pub returns-clause-has_no_fatal_errors : goal.returns-clause-has_no_fatal_errors
returns-clause-has_no_fatal_errors c port old new healthy errors = no_fatal_errors port old new healthy errors

pub returns-clause-loses_no_error : goal.returns-clause-loses_no_error
returns-clause-loses_no_error c = untroubled
