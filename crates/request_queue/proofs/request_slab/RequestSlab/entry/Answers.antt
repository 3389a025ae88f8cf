use Rattle.std.proofs.Common.{◌≡◌, ℕ, ◌<◌, length, arith, sym, ap, ◌∙◌, get_or, None, Some}
use Rattle.std.proofs.lemmas.List.{length-map, get_or_default}
use Rattle.request_queue.specs.RequestSlab.{entry_at_key}
use Rattle.request_queue.proofs.Keeping.{both_there, key_there, same_there}
use Rattle.request_queue.proofs.request_slab.RequestSlab.entry.Goals as goal
use Rattle.request_queue.proofs.request_slab.RequestSlab.entry.Goals.{After-index-in-Some}

-- the place is one of the order
within : (c : After-index-in-Some) → c.args.place < length c.self.inside.order.items
within c =
    let same = sym (length-map c.self.inside.order.items (entry_at_key c.self.inside.requests c.self.inside.loans.items)) ∙ ap length c.self.view_is in
    omega (arith, same, c.requires)

is_key : (c : After-index-in-Some) (d : ℕ) → get_or c.self.inside.order.items c.args.place d ≡ c.index-key.result.now
is_key c d = get_or_default _ _ d c.index-key.result.now (within c) ∙ sym c.index-key.ensures

has_loan : (c : After-index-in-Some) → get_or c.self.inside.loans.items c.index-key.result.now None ≡ Some c.in-Some.loan
has_loan c =
    let lt = key_there c.self.inside.requests c.self.inside.loans.items c.self.inside.order.items c.index-key.result.now c.args.place (within c) (is_key c) c.self.invariant.0 in
    get_or_default c.self.inside.loans.items c.index-key.result.now None c.index.result.now lt ∙ (sym c.index.ensures ∙ c.in-Some.is)

pub returns-clause-entry : goal.returns-clause-entry
returns-clause-entry c = rw (sym c.self.view_is)
    (both_there c.self.inside.requests c.self.inside.loans.items c.self.inside.order.items c.index-key.result.now c.args.place (within c) (is_key c) c.index-in-Some.result.now c.index-in-Some.ensures c.in-Some.loan (has_loan c))

pub returns-clause-id : goal.returns-clause-id
returns-clause-id c =
    same_there c.self.inside.requests c.self.inside.loans.items c.self.inside.order.items c.index-key.result.now c.args.place (within c) (is_key c) c.self.invariant.0 c.index-in-Some.result.now c.index-in-Some.ensures c.in-Some.loan (has_loan c)
