use Rattle.std.proofs.Common.{inr, refl}
use Rattle.port_boot.proofs.halt.Goals as goal

pub returns-in-Err-clause-halted : goal.returns-in-Err-clause-halted
returns-in-Err-clause-halted g c = inr (refl, c.stop.ensures.st_is_cleared.st_is_clear, c.in-Err.ensures.fails.2)
