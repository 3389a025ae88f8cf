use Rattle.std.proofs.Common.{ap, arith, sym, ◌∙◌}
use Rattle.adapter.specs.Device.{DevicePort}
use Rattle.device_model.specs.WholeAdapter.{no_media}
use Rattle.device_model.proofs.port.PortModel.link_up_if_possible.Goals as goal

pub returns-then-may-clause-up : goal.returns-then-may-clause-up
returns-then-may-clause-up c = λ _ m.
    let may = c.may_link-may.ensures.0 c.if-may.true in
    (record { present = may.0; no_comreset = may.1; link_is_due = may.2; sig_is_32_bit = omega arith }, c.link_up.ensures.up m)

pub returns-then-may-clause-no_link_may_come : goal.returns-then-may-clause-no_link_may_come
returns-then-may-clause-no_link_may_come c = λ _ _ due. sym (ap (λ (p : DevicePort). p.link_due) (c.link_up.ensures.up no_media)) ∙ due
