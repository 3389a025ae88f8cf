use Rattle.machine_runs.proofs.Issuing.{law_issued_four_times_at_most, aborted_after_four}
use Rattle.machine_runs.proofs.laws.law_issued_four_times_at_most.Goals as goal

pub returns-clause-four_at_most : goal.returns-clause-four_at_most
returns-clause-four_at_most g c = law_issued_four_times_at_most

pub returns-clause-aborted : goal.returns-clause-aborted
returns-clause-aborted g c = aborted_after_four
