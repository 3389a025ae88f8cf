use Rattle.device_model.proofs.Absurd.{some-none}
use Rattle.device_model.proofs.steps.can_end.Goals as goal

pub returns-in-None-clause-only : goal.returns-in-None-clause-only
returns-in-None-clause-only c = λ _ left covered low. some-none (c.moves_left_of.ensures.only left covered) c.in-None.is
