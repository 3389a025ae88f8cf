use Rattle.std.proofs.Common.{arith, sym, ◌∙◌}
use Rattle.request_queue.proofs.Taking as taking
use Rattle.request_queue.proofs.request_slab.RequestSlab.remove.Goals as goal

pub invariant_of-self : goal.invariant_of-self
invariant_of-self c = rw (c.take.ensures.after, c.remove-key.ensures.items) (
  taking.still_sound c.self.inside.requests c.remove-request.new.self c.self.inside.loans.items c.self.inside.order.items c.args.self.now c.self.view_is c.self.invariant.0
      c.args.place c.remove-key.result c.requires c.remove-key.ensures.value c.remove-request.ensures.updates c.remove-request.ensures.len c.remove-request.ensures.capacity,
  omega (arith, c.remove-key.ensures.capacity, c.self.invariant.1),
)

pub returns-clause-entry : goal.returns-clause-entry
returns-clause-entry c =
    taking.taken_is c.self.inside.requests c.remove-request.new.self c.self.inside.loans.items c.self.inside.order.items c.args.self.now c.self.view_is c.self.invariant.0
    c.args.place c.remove-key.result c.requires c.remove-key.ensures.value c.remove-request.ensures.updates
    c.index_mut.result.now c.index_mut.ensures.value c.remove-request.result c.in-Some.loan c.remove-request.ensures.value (sym c.take.ensures.value ∙ c.in-Some.is)

pub returns-clause-id : goal.returns-clause-id
returns-clause-id c =
    taking.its_loan c.self.inside.requests c.remove-request.new.self c.self.inside.loans.items c.self.inside.order.items c.args.self.now c.self.view_is c.self.invariant.0
    c.args.place c.remove-key.result c.requires c.remove-key.ensures.value c.remove-request.ensures.updates
    c.index_mut.result.now c.index_mut.ensures.value c.remove-request.result c.in-Some.loan c.remove-request.ensures.value (sym c.take.ensures.value ∙ c.in-Some.is)

pub returns-clause-rest : goal.returns-clause-rest
returns-clause-rest c = rw (c.take.ensures.after, c.remove-key.ensures.items)
    (taking.rest_is c.self.inside.requests c.remove-request.new.self c.self.inside.loans.items c.self.inside.order.items c.args.self.now c.self.view_is c.self.invariant.0
    c.args.place c.remove-key.result c.requires c.remove-key.ensures.value c.remove-request.ensures.updates)
