use Rattle.machine_runs.proofs.Once.{came_from}
use Rattle.machine_runs.proofs.laws.law_unanswered_was_there_or_just_asked.Goals as goal

pub returns : goal.returns
returns g c = came_from
