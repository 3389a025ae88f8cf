use Rattle.std.proofs.Common.{ℕ, Bool, ap, ◌∙◌}
use Rattle.adapter.specs.Memory.{changed}
use Rattle.device_model.proofs.port.PortModel.causes.Goals as goal

pub returns : goal.returns
unfolding changed
returns c = λ m place.
    ap (λ (f : ℕ → Bool). f place)
    (c.with_bit_as-2.ensures ∙ ap (λ (f : ℕ → Bool). changed f 6 c.args.self.now.serr_x) c.with_bit_as.ensures)
