use Rattle.std.proofs.Common.{true}
use Rattle.std.specs.Prelude.{bit_and}
use Rattle.device_model.proofs.port.PortModel.failed_bits.Goals as goal

pub returns : goal.returns
returns c = λ m.
    let e = c.status_and_error-status.ensures m in
    λ i. record { interrupt = true; status = bit_and (e.0 i) 0x77; error = e.1 i; tags = 0 }
