use Rattle.server_history.proofs.failed_reset.StuckCalls.{none_acceptable}
use Rattle.server_history.proofs.stuck_server.law_stuck_servers_admit_none.Goals as goal

pub returns : goal.returns
returns c s r t fine = none_acceptable c.law_history_prerequisites.ensures s t r fine
