use Rattle.refinement.proofs.witnesses.ReadLog.{log_is_ended}
use Rattle.refinement.proofs.recovery_witnesses.law_read_log_ext_can_end_halt.Goals as goal

pub returns : goal.returns
returns c = log_is_ended c.law_prerequisites.ensures
