use Rattle.adapter.specs.Steps.{port_after_hba_reset}
use Rattle.device_model.proofs.EachPort.{IsDoneUpTo}
use Rattle.device_model.proofs.hardware.reset_all.Given as goal

abbrev pub invariant-loop-port : goal.invariant-loop-port
invariant-loop-port l = IsDoneUpTo (λ _. port_after_hba_reset) l.fn.ports l.ports l.port
