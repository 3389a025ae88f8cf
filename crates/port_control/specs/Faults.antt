-- The numbers of the faults by which a port doesn't get where it was to (this project's own).
use Rattle.std.specs.Prelude.{ℕ}
use Rattle.port_control.specs.declared.PortFault.{PortFault}
use Rattle.port_control.specs.declared.PortFault.TheVariants.{NoDevice, Busy, EngineStuck, NotAta}

-- the number of a fault, whatever the signature is
abbrev pub port_fault_number : PortFault → ℕ
port_fault_number NoDevice = 1
port_fault_number Busy = 2
port_fault_number EngineStuck = 3
port_fault_number (NotAta signature) = 4
