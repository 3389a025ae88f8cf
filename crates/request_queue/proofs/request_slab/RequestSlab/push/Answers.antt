use Rattle.std.proofs.Common.{◌<◌, List, [], ◌∷◌, ◌++◌, length, arith, sym, ap, ◌∙◌}
use Rattle.request_queue.specs.BookEntries.{BookEntry}
use Rattle.request_queue.proofs.Keeping.{entries_more, sound_more}
use Rattle.request_queue.proofs.request_slab.RequestSlab.push.Goals as goal

pub invariant_of-self : goal.invariant_of-self
invariant_of-self c =
    let e = c.insert_reserved-key.ensures in
    let sound = c.self.invariant.0 in
    let within : c.insert_reserved-key.result < length c.self.inside.loans.items = omega (arith, e.key_in_range, e.capacity, sound.one_loan_place_a_key) in
    rw (c.replace.ensures.after, c.push_reserved.ensures.items) (
      sound_more _ _ _ _ _ sound c.args.request c.lend-loan.result e.was_vacant e.updates within c.lend-loan.ensures.request e.len e.capacity,
      omega (arith, c.push_reserved.ensures.capacity, c.self.invariant.1),
    )

pub returns-clause-request_is_appended : goal.returns-clause-request_is_appended
returns-clause-request_is_appended c =
    let e = c.insert_reserved-key.ensures in
    let sound = c.self.invariant.0 in
    let within : c.insert_reserved-key.result < length c.self.inside.loans.items = omega (arith, e.key_in_range, e.capacity, sound.one_loan_place_a_key) in
    rw (c.replace.ensures.after, c.push_reserved.ensures.items, sym c.lend-loan.ensures.frames)
    (entries_more _ _ _ _ _ sound c.args.request c.lend-loan.result e.was_vacant e.updates within c.lend-loan.ensures.request
    ∙ ap (λ (es : List BookEntry). es ++ record { request = c.args.request; frames = c.lend-loan.result.frames } ∷ []) c.self.view_is)
