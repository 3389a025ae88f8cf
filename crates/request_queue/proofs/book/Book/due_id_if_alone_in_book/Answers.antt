use Rattle.std.proofs.Common.{◌≡◌, List, [], ◌∷◌, length, map, sym, ap, ◌∙◌, subst}
use Rattle.std.proofs.lemmas.List.{length-map}
use Rattle.block_machine.specs.declared.due.Unanswered.{Unanswered}
use Rattle.request_queue.specs.BookEntries.{BookEntry, as_unanswered, unanswered_of, due_ids}
use Rattle.request_queue.proofs.Alone.{one_of, only_due}
use Rattle.request_queue.proofs.book.Book.due_id_if_alone_in_book.Goals as goal

pub returns-then-is_due_alone-clause-is_the_only_due : goal.returns-then-is_due_alone-clause-is_the_only_due
returns-then-is_due_alone-clause-is_the_only_due c =
    let store = c.self.inside.store in
    let r = c.unanswered-asks.result in
    let many : length (unanswered_of store) ≡ 1 = length-map store (λ (e : BookEntry). as_unanswered e.request) ∙ (sym c.len.ensures ∙ c.if-len-ne1.false) in
    let alone : unanswered_of c.args.self.now ≡ r ∷ [] = ap unanswered_of (sym c.self.view_is) ∙ one_of (unanswered_of store) r many c.unanswered-asks.ensures in
    subst (λ (book : List Unanswered). due_ids c.args.mode c.args.port book ≡ r.id ∷ []) (sym alone)
    (ap (map (λ (x : Unanswered). x.id)) (only_due c.args.mode c.args.port r (sym c.is_due_alone.ensures ∙ c.if-is_due_alone.true)))
