use Rattle.server_history.proofs.failed_reset.StuckReset.{stuck_adds}
use Rattle.server_history.proofs.failed_reset.StuckCalls.{stalled_tick}
use Rattle.server_history.proofs.failed_reset.StuckService.{stalled_service}
use Rattle.server_history.proofs.revoke_call.StuckRevocation.{stalled_revocation}
use Rattle.server_history.proofs.stuck_server.law_calls_that_end_stuck_extend_history.Goals as goal

pub returns-clause-resets : goal.returns-clause-resets
returns-clause-resets c = stuck_adds c.law_history_prerequisites.ensures

pub returns-clause-ticks : goal.returns-clause-ticks
returns-clause-ticks c = stalled_tick c.law_history_prerequisites.ensures

pub returns-clause-revocations : goal.returns-clause-revocations
returns-clause-revocations c = stalled_revocation c.law_history_prerequisites.ensures

pub returns-clause-services : goal.returns-clause-services
returns-clause-services c s new replies t settles = stalled_service c.law_history_prerequisites.ensures s t new replies settles
