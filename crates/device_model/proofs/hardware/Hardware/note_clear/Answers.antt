use Rattle.std.proofs.Common.{rules, ℕ, ◌<◌, length, arith, subst, sym, slice_index_or}
use Rattle.std.specs.Vec.{vec_len, vec_capacity}
use Rattle.device_model.specs.Slots.{WorksOnIn}
use Rattle.device_model.specs.PortView.{reset_port_without_disk}
use Rattle.device_model.proofs.Stepping.{port_clears}
use Rattle.device_model.proofs.SlotLemmas.{at_port}
use Rattle.device_model.proofs.hardware.Hardware.note_clear.Goals as goal

pub returns-clause-cleared : goal.returns-clause-cleared
returns-clause-cleared c = λ _ o t holds.
    let h = c.args.self.now in
    let small : c.from.result < length h.ports = search rules in
    let P : ℕ → Type 0 = λ q. WorksOnIn (slice_index_or h.ports q reset_port_without_disk) c.args.slot t in
    let here = subst P (sym c.from.ensures) holds in
    let room : vec_len h.tape < vec_capacity h.tape = let enough = c.requires.room in omega (arith, enough) in
    port_clears h o c.from.result c.args.port c.args.slot c.args.run.first c.args.run.count _ t c.record-recorded.new.tape c.from.ensures small
    ((rw (at_port h.ports c.from.result c.index-self-from.result small) at (c.clear.ensures (o.media c.from.result) t)) here.is_taken)
    (c.record-recorded.ensures.added (c.record-recorded.ensures.room room))
