use Rattle.machine_runs.proofs.NoneDue.{law_none_due_where_ready_between_calls}
use Rattle.machine_runs.proofs.laws.law_none_due_where_ready_between_calls.Goals as goal

pub returns : goal.returns
returns g c = law_none_due_where_ready_between_calls
