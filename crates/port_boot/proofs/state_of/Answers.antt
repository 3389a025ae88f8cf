use Rattle.std.proofs.Common.{arith}
use Rattle.std.proofs.lemmas.Grind.{common_steps}
use Rattle.port_boot.proofs.state_of.Goals as goal

pub returns-in-Busy : goal.returns-in-Busy
returns-in-Busy c = grind (arith, common_steps)
