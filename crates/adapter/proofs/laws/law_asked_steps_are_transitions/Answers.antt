use Rattle.adapter.proofs.Going.{asked_steps}
use Rattle.adapter.proofs.laws.law_asked_steps_are_transitions.Goals as goal

pub returns : goal.returns
returns c = asked_steps
