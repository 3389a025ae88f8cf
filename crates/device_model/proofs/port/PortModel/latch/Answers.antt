use Rattle.device_model.specs.PortView.{port_of}
use Rattle.device_model.proofs.port.PortModel.latch.Goals as goal

pub returns : goal.returns
returns c = λ m. let pending = c.is_ips_set-self.ensures m in λ i. record (port_of c.args.self.now m) { ips_latched = pending i }
