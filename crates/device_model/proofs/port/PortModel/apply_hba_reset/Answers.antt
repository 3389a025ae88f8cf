use Rattle.std.proofs.Common.{◌≡◌, ◌∙◌, ◌%◌, ◌||◌}
use Rattle.std.specs.Prelude.{nat_eq}
use Rattle.adapter.specs.Steps.{port_after_hba_reset}
use Rattle.device_model.specs.PortView.{port_of, taken_commands_by_slot}
use Rattle.device_model.proofs.GoingOn.{no_bits}
use Rattle.device_model.proofs.port.PortModel.apply_hba_reset.Goals as goal
use Rattle.device_model.proofs.port.PortModel.apply_hba_reset.Goals.{then-self, else-self}

pub returns : goal.returns
returns c = λ m.
    let p = c.args.self.now in
    let due : c.if-self.self ≡ (p.link_due || nat_eq (p.sctl_det % 16) 1) =
    elim c.if-self.branch [
      | then-self w ↦ rw w.if-self.true (w.self-is ∙ w.if-self.true)
      | else-self w ↦ rw w.if-self.false w.self-is
    ] in
    λ i. record (port_after_hba_reset (port_of p m)) { ci = no_bits i; sact = no_bits i; is = no_bits i; taken = taken_commands_by_slot (c.clear.ensures i); link_due = due i }
