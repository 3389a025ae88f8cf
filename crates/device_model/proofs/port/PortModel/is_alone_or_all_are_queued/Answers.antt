use Rattle.std.proofs.Common.{Bool, true, false, ◌≡◌, ◌∙◌, ◌&&◌, sym, ap}
use Rattle.adapter.specs.Commands.{is_queued}
use Rattle.device_model.proofs.Absurd.{true-false}
use Rattle.device_model.specs.PortView.{taken_in, port_of, taken_of}
use Rattle.device_model.proofs.SlotLemmas.{none_slot, slot_taken}
use Rattle.device_model.proofs.Transfers.{alone_none}
use Rattle.device_model.proofs.port.PortModel.is_alone_or_all_are_queued.Goals as goal

pub returns-then-is_queued-clause-only : goal.returns-then-is_queued-clause-only
returns-then-is_queued-clause-only c = λ no m alone.
    let taken = taken_in c.args.self.now.taken in
    let queued : true ≡ is_queued c.args.operation = sym c.if-is_queued.true ∙ c.is_queued.ensures in
    true-false
    (c.are_all_queued.ensures.1
    (λ slot t held. ap (λ (b : Bool). b && is_queued t.operation) queued ∙ alone slot (taken_of t) (slot_taken taken t slot held)))
    no

pub returns-else-is_queued-clause-only : goal.returns-else-is_queued-clause-only
returns-else-is_queued-clause-only c = λ no m alone.
    let taken = taken_in c.args.self.now.taken in
    let plain : is_queued c.args.operation ≡ false = sym c.is_queued.ensures ∙ c.if-is_queued.false in
    true-false
    (c.is_empty.ensures.1
    (λ slot. none_slot (taken slot) (alone_none (port_of c.args.self.now m) c.args.operation plain alone slot)))
    no
