use Rattle.std.proofs.Common.{ℕ, ◌≡◌, ◌<◌, ◌≤◌, ◌-◌, Some, get_or, length, map, set, arith, List, sym, ap, subst, refl}
use Rattle.std.specs.List.{remove, slice_get}
use Rattle.block_machine.specs.declared.due.Unanswered.{Unanswered}
use Rattle.request_queue.specs.Conflicts.{AreConflictLists}
use Rattle.request_queue.specs.ClientCounts.{AreClientCounts}
use Rattle.request_queue.specs.BookEntries.{BookEntry, BookIsWellFormed}
use Rattle.request_queue.specs.Blockers.{AreBlockers}
use Rattle.request_queue.specs.declared.PendingRequest.{PendingRequest}
use Rattle.request_queue.proofs.Changing.{asks_in_order, request_is}
use Rattle.request_queue.proofs.ClientCounts.{is_counted, one_uncounted}
use Rattle.request_queue.proofs.Holding.{fewer_holders}
use Rattle.request_queue.proofs.Indexing.{asks_less}
use Rattle.request_queue.proofs.Placed.{e, at}
use Rattle.request_queue.proofs.book.remove_from_indexes.Goals as goal

module _ (es : List BookEntry) (i : ℕ) (r : PendingRequest) (lt : i < length es) (s : BookIsWellFormed es) (is : slice_get (map (λ (e : BookEntry). e.request) es) i ≡ Some r) where
  small : r.client.0 < 9
  small =
      let c = (s.clients_are_valid i (e es i r lt s is) lt).1 in
      let same = ap (λ (x : PendingRequest). x.client.0) (request_is es i r (e es i r lt s is) is) in
      omega (arith, c, same)

  some : (counts : List ℕ) → AreClientCounts es counts → 1 ≤ get_or counts r.client.0 0
  some counts are = let its = are.count_of_each r.client.0 small in let one = is_counted es (e es i r lt s is) i (at es i r lt s is) in omega (arith, its, one)

  fewer : (counts : List ℕ) → AreClientCounts es counts → AreClientCounts (remove es i) (set counts r.client.0 (get_or counts r.client.0 0 - 1))
  fewer counts are =
      let its = are.count_of_each r.client.0 small in
      let one = is_counted es (e es i r lt s is) i (at es i r lt s is) in
      one_uncounted es (e es i r lt s is) i counts (get_or counts r.client.0 0 - 1) are (at es i r lt s is) small (omega (arith, its, one))

pub find_blockers_anew_before_removal-requires-clause-answered_blocks_excepted : goal.find_blockers_anew_before_removal-requires-clause-answered_blocks_excepted
find_blockers_anew_before_removal-requires-clause-answered_blocks_excepted c =
    let es = c.args.store.now in
    let r = c.request-request.result in
    rw (c.remove-2.ensures.items) (fewer_holders es c.args.blockers.now.items c.args.place (e es c.args.place r c.requires.place c.requires.ordered c.request-request.ensures) r.id c.requires.beside.blockers_match
    (asks_in_order es c.requires.ordered.ids_rise) (at es c.args.place r c.requires.place c.requires.ordered c.request-request.ensures) refl)

pub returns-clause-beside : goal.returns-clause-beside
returns-clause-beside c =
    let es = c.args.store.now in
    let r = c.request-request.result in
    let less = sym (asks_less es c.args.place) in
    record {
      conflict_lists_match = subst (λ (book : List Unanswered). AreConflictLists book c.remove.new.self) less c.remove.ensures;
      blockers_match = subst (λ (book : List Unanswered). AreBlockers book c.find_blockers_anew_before_removal.new.blockers.items) less c.find_blockers_anew_before_removal.ensures.blockers;
      client_counts_match = subst (λ (n : ℕ). AreClientCounts (remove es c.args.place) (set c.args.counts.now n (get_or c.args.counts.now n 0 - 1))) (sym c.from.ensures)
          (fewer es c.args.place r c.requires.place c.requires.ordered c.request-request.ensures c.args.counts.now c.requires.beside.client_counts_match);
    }

pub overflow_sub-counts : goal.overflow_sub-counts
overflow_sub-counts c =
    let is = some c.args.store.now c.args.place c.request-request.result c.requires.place c.requires.ordered c.request-request.ensures c.args.counts.now c.requires.beside.client_counts_match in
    let same = ap (λ (n : ℕ). get_or c.args.counts.now n 0) c.from.ensures in
    omega (arith, is, same)

pub bounds-counts-from : goal.bounds-counts-from
bounds-counts-from c =
    let lt = small c.args.store.now c.args.place c.request-request.result c.requires.place c.requires.ordered c.request-request.ensures in
    let from = c.from.ensures in
    omega (arith, lt, from)

pub bounds-counts-from-2 : goal.bounds-counts-from-2
bounds-counts-from-2 c =
    let lt = small c.args.store.now c.args.place c.request-request.result c.requires.place c.requires.ordered c.request-request.ensures in
    let from = c.from.ensures in
    omega (arith, lt, from)
