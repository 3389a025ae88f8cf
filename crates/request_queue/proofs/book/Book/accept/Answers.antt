use Rattle.std.specs.Vec.{vec_len}
use Rattle.std.proofs.lemmas.List.{length-map}
use Rattle.std.proofs.Common.{ℕ, ◌+◌, get_or, set, ◌≡◌, length, arith, ◌<◌, ◌++◌, ◌∷◌, [], List, sym, ap, subst}
use Rattle.ata_types.specs.declared.limits.TheConstants.{MOST_UNANSWERED_OF_A_CLIENT}
use Rattle.block_machine.specs.declared.due.Unanswered.{Unanswered}
use Rattle.ata_types.specs.declared.request.RequestId.{RequestId}
use Rattle.request_queue.specs.Conflicts.{AreConflictLists}
use Rattle.request_queue.specs.ClientCounts.{AreClientCounts}
use Rattle.request_queue.specs.Blockers.{AreBlockers}
use Rattle.request_queue.proofs.Holding.{longer_holders}
use Rattle.request_queue.proofs.Indexing.{asks_more, asks_newest}
use Rattle.std.specs.List.{All}
use Rattle.request_queue.specs.BookEntries.{BookEntry, as_unanswered, unanswered_of, entry_count_of_client}
use Rattle.request_queue.proofs.ClientCounts.{fits, one_counted}
use Rattle.request_queue.proofs.Changing.{longer_in_order}
use Rattle.request_queue.proofs.book.Book.accept.Goals as goal

pub push-requires-clause-room : goal.push-requires-clause-room
push-requires-clause-room c =
    let s = c.self.invariant.0 in
    fits c.self.inside.store (λ k d lt. (s.clients_are_valid k d lt).0) s.clients_are_within_limit c.args.request.client.0 (λ k d lt. (s.clients_are_valid k d lt).1) c.requires.client_is_valid.0 c.requires.client_is_valid.1
    (subst (λ (es : List BookEntry). entry_count_of_client es c.args.request.client.0 < MOST_UNANSWERED_OF_A_CLIENT) (sym c.self.view_is) c.requires.client_has_room)

-- the requests of the book are older than the one that comes
newest : (store : List BookEntry) (id : RequestId) (asks : Unanswered) → asks.id ≡ id → All (λ (e : BookEntry). e.request.id.0 < id.0) store
    → All (λ (o : Unanswered). o.id.0 < asks.id.0) (unanswered_of store)
newest store id asks same older = subst (λ (i : RequestId). All (λ (o : Unanswered). o.id.0 < i.0) (unanswered_of store)) (sym same) (asks_newest store id.0 older)

pub invariant_of-self : goal.invariant_of-self
invariant_of-self c =
    let new : BookEntry = record { request = c.args.request; frames = c.args.frames.now } in (
      rw c.push.ensures.request_is_appended
          (longer_in_order c.self.inside.store (record { request = c.args.request; frames = c.args.frames.now }) c.self.invariant.0
          (subst (λ (es : List BookEntry). All (λ x. x.request.id.0 < c.args.request.id.0) es) (sym c.self.view_is) c.requires.id_is_newest)
          c.requires.is_newly_accepted c.requires.client_is_valid.0 c.requires.client_is_valid.1
          (subst (λ (es : List BookEntry). entry_count_of_client es c.args.request.client.0 < MOST_UNANSWERED_OF_A_CLIENT) (sym c.self.view_is) c.requires.client_has_room)),
      subst (λ (es : List BookEntry). AreConflictLists (unanswered_of es) c.add-blocker.new.self) (sym c.push.ensures.request_is_appended)
          (subst (λ (book : List Unanswered). AreConflictLists book c.add-blocker.new.self) (sym (asks_more c.self.inside.store new))
          (subst (λ (r : Unanswered). AreConflictLists (unanswered_of c.self.inside.store ++ r ∷ []) c.add-blocker.new.self) c.as_unanswered.ensures (c.add-blocker.ensures.lists (unanswered_of c.self.inside.store) c.self.invariant.1 (newest c.self.inside.store c.args.request.id c.as_unanswered.result (ap (λ (r : Unanswered). r.id) c.as_unanswered.ensures) (subst (λ (es : List BookEntry). All (λ x. x.request.id.0 < c.args.request.id.0) es) (sym c.self.view_is) c.requires.id_is_newest))))),
      rw (c.push_reserved.ensures.items) (subst (λ (es : List BookEntry). AreBlockers (unanswered_of es) (c.self.inside.blockers.items ++ c.add-blocker.result ∷ [])) (sym c.push.ensures.request_is_appended)
          (longer_holders c.self.inside.store new c.self.inside.blockers.items c.as_unanswered.result c.add-blocker.result c.as_unanswered.ensures c.self.invariant.2
          (subst (λ (es : List BookEntry). All (λ x. x.request.id.0 < c.args.request.id.0) es) (sym c.self.view_is) c.requires.id_is_newest)
          (c.add-blocker.ensures.blocker (unanswered_of c.self.inside.store) c.self.invariant.1))),
      let more = c.push_reserved.ensures.capacity in let had = c.self.invariant.3 in omega (arith, more, had),
      subst (λ (es : List BookEntry). AreClientCounts es (set c.self.inside.counts c.from.result (get_or c.self.inside.counts c.from.result 0 + 1))) (sym c.push.ensures.request_is_appended)
          (subst (λ (n : ℕ). AreClientCounts (c.self.inside.store ++ new ∷ []) (set c.self.inside.counts n (get_or c.self.inside.counts n 0 + 1))) (sym c.from.ensures)
          (let high = c.requires.client_is_valid.1 in
          let its = c.self.invariant.4.count_of_each c.args.request.client.0 (omega (arith, high)) in
          one_counted c.self.inside.store new c.self.inside.counts (get_or c.self.inside.counts c.args.request.client.0 0 + 1) c.self.invariant.4 (omega (arith, high)) (omega (arith, its)))),
    )

pub add-blocker-requires : goal.add-blocker-requires
add-blocker-requires c =
    let s = c.self.invariant.0 in
    let few = fits c.self.inside.store (λ k d lt. (s.clients_are_valid k d lt).0) s.clients_are_within_limit c.args.request.client.0 (λ k d lt. (s.clients_are_valid k d lt).1) c.requires.client_is_valid.0 c.requires.client_is_valid.1
    (subst (λ (es : List BookEntry). entry_count_of_client es c.args.request.client.0 < MOST_UNANSWERED_OF_A_CLIENT) (sym c.self.view_is) c.requires.client_has_room) in
    let long = length-map c.self.inside.store (λ (e : BookEntry). as_unanswered e.request) in
    record { fits = (unanswered_of c.self.inside.store, c.self.invariant.1, omega (arith, few, long), newest c.self.inside.store c.args.request.id c.as_unanswered.result (ap (λ (r : Unanswered). r.id) c.as_unanswered.ensures) (subst (λ (es : List BookEntry). All (λ x. x.request.id.0 < c.args.request.id.0) es) (sym c.self.view_is) c.requires.id_is_newest)) }

pub push_reserved-requires : goal.push_reserved-requires
push_reserved-requires c =
    let s = c.self.invariant.0 in
    let few = fits c.self.inside.store (λ k d lt. (s.clients_are_valid k d lt).0) s.clients_are_within_limit c.args.request.client.0 (λ k d lt. (s.clients_are_valid k d lt).1) c.requires.client_is_valid.0 c.requires.client_is_valid.1
    (subst (λ (es : List BookEntry). entry_count_of_client es c.args.request.client.0 < MOST_UNANSWERED_OF_A_CLIENT) (sym c.self.view_is) c.requires.client_has_room) in
    let n = c.self.invariant.2.lengths_are_same in
    let long = length-map c.self.inside.store (λ (e : BookEntry). as_unanswered e.request) in
    let room = c.self.invariant.3 in
    let ok : vec_len c.self.inside.blockers ≡ length c.self.inside.blockers.items = c.self.inside.blockers.ok.0 in
    omega (arith, few, n, long, room, ok)
