use Rattle.std.proofs.Common.{false}
use Rattle.device_model.proofs.port.PortModel.signature.Goals as goal

pub returns : goal.returns
returns c = λ m. λ i. record (c.end_registers.ensures m i) { interrupt = false; lba = 1; count = 1 }
