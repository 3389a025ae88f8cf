use Rattle.std.proofs.Common.{refl}
use Rattle.device_model.proofs.GoingOn.{goes_area_fallen, goes_nowhere}
use Rattle.device_model.proofs.port.PortModel.fr_fall.Goals as goal

pub returns-then-not-self-2-clause-does : goal.returns-then-not-self-2-clause-does
returns-then-not-self-2-clause-does c = λ m. goes_area_fallen _ _ c.if-not-self.true c.if-not-self-2.true c.if-self.true refl

pub returns-else-self-clause-does : goal.returns-else-self-clause-does
returns-else-self-clause-does c = λ m. goes_nowhere _
