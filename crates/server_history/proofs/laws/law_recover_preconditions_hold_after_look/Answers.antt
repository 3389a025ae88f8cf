use Rattle.server_history.proofs.recovery_turn.FailedPort.{are_alike, fits_for, is_alone, may_recover}
use Rattle.server_history.proofs.laws.law_recover_preconditions_hold_after_look.Goals as goal

pub returns-clause-may_recover : goal.returns-clause-may_recover
returns-clause-may_recover c s seen found port mask done k ready l looks finds = may_recover c.law_history_prerequisites.ensures s seen found port mask done k ready l looks finds

pub returns-clause-plain_uses_slot_0 : goal.returns-clause-plain_uses_slot_0
returns-clause-plain_uses_slot_0 c s port queued k ready kinds = fits_for s port queued k ready kinds

pub returns-clause-are_queued_alike : goal.returns-clause-are_queued_alike
returns-clause-are_queued_alike c = are_alike

pub returns-clause-plain_is_alone : goal.returns-clause-plain_is_alone
returns-clause-plain_is_alone c = is_alone
