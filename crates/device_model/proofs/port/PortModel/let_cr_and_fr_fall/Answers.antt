use Rattle.device_model.proofs.GoingOn.{goes_on}
use Rattle.device_model.proofs.port.PortModel.let_cr_and_fr_fall.Goals as goal

pub returns-clause-does : goal.returns-clause-does
returns-clause-does c = λ m. goes_on _ _ _ (c.fall.ensures.does m) (c.fr_fall.ensures.does m)
