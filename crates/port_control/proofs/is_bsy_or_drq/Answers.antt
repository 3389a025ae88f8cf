use Rattle.std.proofs.Common.{rules}
use Rattle.port_control.proofs.is_bsy_or_drq.Goals as goal

pub returns-else-is_busy : goal.returns-else-is_busy
returns-else-is_busy c = search rules
