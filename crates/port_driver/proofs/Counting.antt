-- What the handling of an error costs, whichever it is.
use Rattle.std.proofs.Common.{◌≤◌, arith}
use Rattle.port_driver.specs.Costs.{handling_accesses}
use Rattle.port_control.specs.Costs.{STOP_ACCESSES}
use Rattle.port_control.specs.declared.events.PortError.{PortError}
use Rattle.port_control.specs.declared.events.PortError.TheVariants.{FatalError, TaskFileError, TimedOut, LinkChanged}

-- to mend any trouble a port may be stopped
pub mending_stops : (port_error : PortError) → STOP_ACCESSES ≤ handling_accesses port_error
mending_stops TaskFileError = omega arith
mending_stops FatalError = omega arith
mending_stops LinkChanged = omega arith
mending_stops TimedOut = omega arith
