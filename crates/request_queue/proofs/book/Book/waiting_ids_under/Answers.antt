use Rattle.request_queue.proofs.ClientCounts.{all_fit}
use Rattle.request_queue.proofs.book.Book.waiting_ids_under.Goals as goal

pub waiting_ids_under-requires : goal.waiting_ids_under-requires
waiting_ids_under-requires c =
    let s = c.self.invariant.0 in
    all_fit c.self.inside.store (λ k d lt. (s.clients_are_valid k d lt).0) s.clients_are_within_limit (λ k d lt. (s.clients_are_valid k d lt).1)
