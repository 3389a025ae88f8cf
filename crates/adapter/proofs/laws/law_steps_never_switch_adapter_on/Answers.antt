use Rattle.adapter.proofs.Switching.{was_on}
use Rattle.adapter.proofs.laws.law_steps_never_switch_adapter_on.Goals as goal

pub returns : goal.returns
returns c = λ old new s. was_on s.steps old new s.lead
