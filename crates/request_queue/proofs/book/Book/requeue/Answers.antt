use Rattle.std.proofs.Common.{refl, Some, ◌≡◌, ◌∙◌, List, sym, ap, subst, map, set}
use Rattle.std.proofs.lemmas.Option.{same_Some}
use Rattle.std.specs.List.{slice_get}
use Rattle.request_queue.specs.Conflicts.{AreConflictLists}
use Rattle.request_queue.specs.Blockers.{AreBlockers, IsBlockerOf}
use Rattle.request_queue.specs.ClientCounts.{AreClientCounts}
use Rattle.request_queue.proofs.ClientCounts.{counts_at}
use Rattle.request_queue.proofs.Holding.{requeued_holders}
use Rattle.request_queue.proofs.Conflicting.{requeued_lists}
use Rattle.request_queue.specs.BookEntries.{BookEntry, unanswered_of, update_if_id, request_with_issued_cleared, BookIsWellFormed, IsIssuedBelowLimit}
use Rattle.request_queue.specs.declared.PendingRequest.{PendingRequest}
use Rattle.request_queue.proofs.Changing.{changed_at, request_at, waiting_in_order}
use Rattle.request_queue.proofs.book.Book.requeue.Goals as goal

pub invariant_of-self : goal.invariant_of-self
invariant_of-self c =
    let found = c.place_of-place.ensures in
    let e = c.replace.ensures in
    let store = c.self.inside.store in
    let place = c.place_of-place.result in
    let named = subst (λ (x : BookEntry). x.request.id ≡ c.args.id) (same_Some found.0 e.0 (sym found.1 ∙ e.1)) found.2 in
    let same = request_at store place c.request-old.result e.0 c.request-old.ensures e.1 in
    let here = e.2 ∙ ap (λ (r : PendingRequest). set store place (record (e.0) { request = request_with_issued_cleared r })) (sym same) in
    let changed = here ∙ changed_at store place e.0 c.args.id request_with_issued_cleared c.self.invariant.0.ids_rise e.1 named in
    let waits = subst (λ (es : List BookEntry). IsIssuedBelowLimit c.args.id es) (sym c.self.view_is) c.requires in
    let lists = subst (λ (es : List BookEntry). AreConflictLists (unanswered_of es) c.self.inside.conflicts) (sym changed) (requeued_lists store c.args.id c.self.inside.conflicts c.self.invariant.1) in
    let h = c.blocker-blocker.result in (
      subst (λ (es : List BookEntry). BookIsWellFormed es) (sym changed) (waiting_in_order store c.args.id waits.0 c.self.invariant.0 waits.1 waits.2 waits.4),
      lists,
      subst (λ (es : List BookEntry). AreBlockers (unanswered_of es) (set c.self.inside.blockers.items place h)) (sym here)
          (requeued_holders store c.self.inside.blockers.items place e.0 c.unanswered.result h c.self.invariant.2 e.1
          (subst (λ (es : List BookEntry). slice_get (unanswered_of es) place ≡ Some c.unanswered.result) here c.unanswered.ensures)
          (subst (λ (es : List BookEntry). IsBlockerOf (unanswered_of es) c.unanswered.result h) here (c.blocker-blocker.ensures (unanswered_of c.replace.new.self) lists))),
      c.self.invariant.3,
      subst (λ (es : List BookEntry). AreClientCounts es c.self.inside.counts) (sym changed) (counts_at store c.args.id request_with_issued_cleared c.self.inside.counts (λ r. refl) c.self.invariant.4),
    )

pub returns : goal.returns
returns c =
    let found = c.place_of-place.ensures in
    let e = c.replace.ensures in
    let store = c.self.inside.store in
    let named = subst (λ (x : BookEntry). x.request.id ≡ c.args.id) (same_Some found.0 e.0 (sym found.1 ∙ e.1)) found.2 in
    let same = request_at store c.place_of-place.result c.request-old.result e.0 c.request-old.ensures e.1 in
    e.2 ∙ (ap (λ (r : PendingRequest). set store c.place_of-place.result (record (e.0) { request = request_with_issued_cleared r })) (sym same)
    ∙ (changed_at store c.place_of-place.result e.0 c.args.id request_with_issued_cleared c.self.invariant.0.ids_rise e.1 named
    ∙ ap (λ (es : List BookEntry). map (update_if_id c.args.id request_with_issued_cleared) es) c.self.view_is))
