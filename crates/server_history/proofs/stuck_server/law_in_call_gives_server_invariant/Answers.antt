use Rattle.server_history.proofs.failed_reset.ServerBook.{booked, may_settle}
use Rattle.server_history.proofs.stuck_server.law_in_call_gives_server_invariant.Goals as goal

pub returns-clause-server_invariant : goal.returns-clause-server_invariant
returns-clause-server_invariant c = booked c.law_history_prerequisites.ensures

pub returns-clause-may_resolve : goal.returns-clause-may_resolve
returns-clause-may_resolve c = may_settle
