use Rattle.std.proofs.Common.{[], ◌∷◌, List, ap, subst, arith}
use Rattle.ata_types.specs.declared.request.RequestId.{RequestId}
use Rattle.block_machine.specs.DueRequests.{AreDueInTurnAndLeaveNoneDue}
use Rattle.request_queue.specs.BookEntries.{BookEntry, BookIsWellFormed, unanswered_of, due_ids}
use Rattle.port_driver.proofs.Batching as batching
use Rattle.port_driver.proofs.Sending as sending
use Rattle.port_driver.proofs.served_port.ServedPort.issue_due.Goals as goal

pub issue_one-requires-clause-due : goal.issue_one-requires-clause-due
issue_one-requires-clause-due g c =
    let l = c.requires.some_server_has_port.1 in
    let book = c.args.book.now in
    let mode = c.args.self.now.mode in
    let port = c.args.port in
    let id = c.in-Some.id in
    let order : BookIsWellFormed book = subst BookIsWellFormed l.book_is l.in_call_invariant.book_is_well_formed in
    let turns : AreDueInTurnAndLeaveNoneDue mode port (id ∷ []) (unanswered_of book) =
    subst (λ (ids : List RequestId). AreDueInTurnAndLeaveNoneDue mode port ids (unanswered_of book)) c.in-Some.ensures.is_the_only_due (c.law_issuing_due_in_turn_leaves_none_due.ensures mode port (unanswered_of book) (c.law_book_stays_well_formed.ensures.unanswered_are_in_order book order)) in
    sending.next_due book port mode (id ∷ []) 0 id (omega arith) turns

-- no request is left, so none is due
pub returns-then-is_empty : goal.returns-then-is_empty
returns-then-is_empty g c =
    batching.none_due g.A.Adapter.device g.A.Adapter.access_count c.args.port c.args.self.now c.args.adapter.now c.args.book.now c.requires
    (ap (λ (b : List BookEntry). due_ids c.args.self.now.mode c.args.port (unanswered_of b)) (c.is_empty.ensures.0 c.if-is_empty.true))

-- the only request is issued
pub returns-in-Some : goal.returns-in-Some
returns-in-Some g c =
    batching.one_due g.A.Adapter.device g.A.Adapter.access_count c.args.port c.args.self.now c.args.adapter.now c.args.book.now c.requires c.issue_one.new.self c.issue_one.new.adapter c.issue_one.new.book
    c.in-Some.id c.in-Some.ensures.is_the_only_due c.issue_one.ensures.issues c.issue_one.ensures.rest c.issue_one.ensures.cost
