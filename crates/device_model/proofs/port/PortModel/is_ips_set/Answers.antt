use Rattle.std.proofs.Common.{◌||◌, Bool, ap}
use Rattle.device_model.proofs.port.PortModel.is_ips_set.Goals as goal

pub returns : goal.returns
returns c = λ m. ap (λ (raised : Bool). c.args.self.now.ips || raised) (c.raises_interrupt.ensures m)
