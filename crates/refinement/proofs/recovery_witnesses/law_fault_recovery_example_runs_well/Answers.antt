use Rattle.refinement.proofs.witnesses.RecoveredFault.{recovery_is_found}
use Rattle.refinement.proofs.recovery_witnesses.law_fault_recovery_example_runs_well.Goals as goal

pub returns : goal.returns
returns c = recovery_is_found c.law_prerequisites.ensures
