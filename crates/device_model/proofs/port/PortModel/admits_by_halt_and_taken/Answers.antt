use Rattle.std.proofs.Common.{◌∙◌, sym}
use Rattle.device_model.proofs.port.PortModel.admits_by_halt_and_taken.Goals as goal

pub returns-then-admits-clause-open : goal.returns-then-admits-clause-open
returns-then-admits-clause-open c = λ alone. (sym c.admits.ensures ∙ c.if-admits.true, c.is_alone_or_all_are_queued.ensures.alone alone)
