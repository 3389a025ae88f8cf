use Rattle.std.proofs.Common.{◌∙◌, ◌&&◌, Bool, ap}
use Rattle.hba_regs.specs.Bits.{bit}
use Rattle.device_model.proofs.BitLemmas.{bit-and}
use Rattle.device_model.proofs.port.PortModel.raises_cause.Goals as goal

pub returns : goal.returns
returns c = λ m. c.is_set.ensures ∙ (bit-and c.causes.result c.args.self.now.ie c.args.place ∙ ap (λ (b : Bool). b && bit c.args.self.now.ie c.args.place) (c.causes.ensures m c.args.place))
