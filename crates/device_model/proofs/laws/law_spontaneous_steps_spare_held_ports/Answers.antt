use Rattle.device_model.proofs.Own.{own_stays}
use Rattle.device_model.proofs.laws.law_spontaneous_steps_spare_held_ports.Goals as goal

pub returns : goal.returns
returns c = λ held old new port is own. own_stays held port is old new own
