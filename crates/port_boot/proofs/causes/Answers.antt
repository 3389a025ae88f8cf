use Rattle.std.proofs.Common.{arith}
use Rattle.port_boot.proofs.causes.Goals as goal

pub returns : goal.returns
returns c = omega arith
