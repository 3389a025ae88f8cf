use Rattle.std.proofs.Common.{◌≡◌, List, sym, subst, arith}
use Rattle.request_queue.specs.BookEntries.{BookEntry, entry_count_of_client}
use Rattle.request_queue.proofs.ClientCounts.{beyond}
use Rattle.request_queue.proofs.book.Book.unanswered_count.Goals as goal

pub returns-in-None : goal.returns-in-None
returns-in-None c =
    let s = c.self.invariant.0 in
    let from = c.from.ensures in
    let none = c.in-None.ensures.lookup in
    subst (λ (es : List BookEntry). 0 ≡ entry_count_of_client es c.args.client.0) c.self.view_is
    (sym (beyond c.args.client.0 c.self.inside.store c.self.inside.counts c.self.invariant.4 (let l = none.3 in omega (arith, l, from)) (λ k d lt. (s.clients_are_valid k d lt).1)))
