use Rattle.server_history.proofs.failed_reset.ServerBook.{settles_on}
use Rattle.server_history.proofs.stuck_server.law_resolving_one_port_lets_others_resolve.Goals as goal

pub returns : goal.returns
returns c = settles_on c.law_history_prerequisites.ensures
