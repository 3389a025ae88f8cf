use Rattle.std.proofs.Common.{rules}
use Rattle.port_driver.proofs.modes.probed_mode.Goals as goal

pub returns-in-Ready-clause-mode_is_by_cap : goal.returns-in-Ready-clause-mode_is_by_cap
returns-in-Ready-clause-mode_is_by_cap c = search rules
