use Rattle.std.proofs.Common.{◌<◌, length, arith, sym, ap, ◌∙◌}
use Rattle.std.proofs.lemmas.List.{length-map, get_or_default}
use Rattle.request_queue.specs.RequestSlab.{entry_at_key}
use Rattle.request_queue.proofs.Keeping.{request_there}
use Rattle.request_queue.proofs.request_slab.RequestSlab.request.Goals as goal

pub returns : goal.returns
returns c =
    let same = sym (length-map c.self.inside.order.items (entry_at_key c.self.inside.requests c.self.inside.loans.items)) ∙ ap length c.self.view_is in
    let within : c.args.place < length c.self.inside.order.items = omega (arith, same, c.requires) in
    rw (sym c.self.view_is) (request_there c.self.inside.requests c.self.inside.loans.items c.self.inside.order.items c.index.result.now c.args.place within
    (λ d. get_or_default _ _ d c.index.result.now within ∙ sym c.index.ensures) c.index-2.result.now c.index-2.ensures)
