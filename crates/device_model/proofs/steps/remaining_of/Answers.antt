use Rattle.device_model.proofs.Absurd.{some-none}
use Rattle.device_model.proofs.steps.remaining_of.Goals as goal

pub returns-in_err-moves-clause-only : goal.returns-in_err-moves-clause-only
returns-in_err-moves-clause-only c = λ left clears rest. some-none (c.moves_left_of.ensures.only left rest.0) c.in_err-moves.was
