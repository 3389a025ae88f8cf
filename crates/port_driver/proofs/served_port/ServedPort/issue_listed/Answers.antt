use Rattle.std.proofs.Common.{◌≡◌, [], ◌∷◌, List, get_or, length, refl, sym, ap, ◌∙◌, subst, arith}
use Rattle.ata_types.specs.declared.request.RequestId.{RequestId}
use Rattle.block_machine.specs.DueRequests.{AreDueInTurnAndLeaveNoneDue}
use Rattle.request_queue.specs.BookEntries.{BookIsWellFormed, unanswered_of}
use Rattle.port_driver.proofs.Batching as batching
use Rattle.port_driver.proofs.Sending as sending
use Rattle.port_driver.proofs.served_port.ServedPort.issue_listed.Goals as goal

-- one alone is the first
one_is : (ids : List RequestId) (d : RequestId) → length ids ≡ 1 → ids ≡ get_or ids 0 d ∷ []
one_is [] d one = absurd (omega (arith, one))
one_is (id ∷ []) d one = refl
one_is (id ∷ other ∷ ids) d one = absurd (omega (arith, one))

pub issue_one-requires-clause-due : goal.issue_one-requires-clause-due
issue_one-requires-clause-due g c =
    let d : RequestId = record { 0 = 0 } in
    let book = c.args.book.now in
    let mode = c.args.self.now.mode in
    let port = c.args.port in
    let l = c.requires.some_server_has_port.1 in
    let order : BookIsWellFormed book = subst BookIsWellFormed l.book_is l.in_call_invariant.book_is_well_formed in
    let turns : AreDueInTurnAndLeaveNoneDue mode port c.issuable.new.due.items (unanswered_of book) =
    subst (λ (ids : List RequestId). AreDueInTurnAndLeaveNoneDue mode port ids (unanswered_of book)) (sym c.issuable.ensures) (c.law_issuing_due_in_turn_leaves_none_due.ensures mode port (unanswered_of book) (c.law_book_stays_well_formed.ensures.unanswered_are_in_order book order)) in
    subst (λ (ids : List RequestId). sending.IsTurn book port mode (get_or ids 0 d)) (sym c.deref.ensures.0)
    (sending.next_due book port mode c.issuable.new.due.items 0 d (let one = c.in-1.is in let long = c.len.ensures.value in omega (arith, one, long)) turns)

pub returns-in-1 : goal.returns-in-1
returns-in-1 g c =
    let d : RequestId = record { 0 = 0 } in
    let ids = c.issuable.new.due.items in
    let one : ids ≡ get_or c.deref.result.now 0 d ∷ [] = one_is ids d (sym c.len.ensures.value ∙ c.in-1.is) ∙ ap (λ (xs : List RequestId). get_or xs 0 d ∷ []) (sym c.deref.ensures.0) in
    batching.one_due g.A.Adapter.device g.A.Adapter.access_count c.args.port c.args.self.now c.args.adapter.now c.args.book.now c.requires c.issue_one.new.self c.issue_one.new.adapter c.issue_one.new.book
    (get_or c.deref.result.now 0 d) (sym c.issuable.ensures ∙ one) c.issue_one.ensures.issues c.issue_one.ensures.rest c.issue_one.ensures.cost
