use Rattle.std.proofs.Common.{rules, ℕ, ◌<◌, length, subst}
use Rattle.adapter.specs.Access.{PortShows}
use Rattle.device_model.specs.WholeAdapter.{device_of}
use Rattle.device_model.proofs.SlotLemmas.{at_port}
use Rattle.device_model.proofs.hardware.Hardware.shown.Goals as goal

pub returns-in-Px : goal.returns-in-Px
returns-in-Px c = λ o.
    let h : c.in-Px.port.0 < 4 = rw c.in-Px.is at c.requires in
    let small : c.from.result < length c.args.self.now.ports = search rules in
    let P : ℕ → Type 0 = λ p. PortShows c.in-Px.r c.shown.result ((device_of c.args.self.now o).port p) in
    rw c.in-Px.is
    (subst P c.from.ensures (rw (at_port c.args.self.now.ports c.from.result c.index-self-from.result small) at (c.shown.ensures (o.media c.from.result))))

pub returns-in-Is : goal.returns-in-Is
returns-in-Is c = λ o. rw c.in-Is.is (λ port small has either. c.pending.ensures (o.media port) port small)
