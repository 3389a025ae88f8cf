use Rattle.device_model.proofs.EachPort.{IsDoneUpTo}
use Rattle.device_model.specs.PortView.{port_after_hba_is_bits}
use Rattle.device_model.proofs.hardware.clear_is_bit.Given as goal

abbrev pub invariant-loop-port : goal.invariant-loop-port
invariant-loop-port l = IsDoneUpTo (port_after_hba_is_bits l.value) l.fn.ports l.ports l.port
