use Rattle.machine_runs.proofs.Issuing.{law_answers_are_lawful}
use Rattle.machine_runs.proofs.laws.law_answers_are_lawful.Goals as goal

pub returns : goal.returns
returns g c = law_answers_are_lawful
