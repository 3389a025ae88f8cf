use Rattle.std.proofs.Common.{true}
use Rattle.device_model.proofs.port.PortModel.end_registers.Goals as goal

pub returns : goal.returns
returns c = λ m.
    let e = c.status_and_error-status.ensures m in
    λ i. record { interrupt = true; status = e.0 i; error = e.1 i; lba = 0; device = 0; count = 0 }
