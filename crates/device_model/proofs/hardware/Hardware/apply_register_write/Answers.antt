use Rattle.std.proofs.Common.{rules, ap, ℕ, ◌<◌, length, ◌∙◌}
use Rattle.adapter.specs.Access.{device_after_write}
use Rattle.hba_regs.specs.declared.reg.Reg.TheVariants.{Px}
use Rattle.device_model.specs.WholeAdapter.{device_of}
use Rattle.device_model.proofs.Ports.{set_port}
use Rattle.device_model.proofs.SlotLemmas.{at_port}
use Rattle.device_model.proofs.hardware.Hardware.apply_register_write.Goals as goal

pub returns-in-Px-clause-written : goal.returns-in-Px-clause-written
returns-in-Px-clause-written c = λ o.
    let h : c.in-Px.port.0 < 4 = rw c.in-Px.is at c.requires in
    let small : c.from.result < length c.args.self.now.ports = search rules in
    rw c.in-Px.is
    (set_port c.args.self.now o c.from.result _ _ small (rw (at_port c.args.self.now.ports c.from.result c.index-self-from.result small) at (rw (c.len-tape.ensures, c.args.self.now.tape.ok.0) at (c.write.ensures (o.media c.from.result))))
    ∙ ap (λ (p : ℕ). device_after_write (Px (record { 0 = p }) c.in-Px.r) c.args.value (device_of c.args.self.now o)) c.from.ensures)

pub returns-in-Ghc-clause-written : goal.returns-in-Ghc-clause-written
returns-in-Ghc-clause-written c = λ o. rw c.in-Ghc.is (c.set_global.ensures.written o)
