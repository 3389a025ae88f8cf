use Rattle.std.proofs.Common.{refl, ◌≡◌, ◌∙◌, ℕ, suc, ◌+◌, true, arith, List, sym, ap, subst, map, set}
use Rattle.std.proofs.lemmas.Option.{same_Some}
use Rattle.request_queue.specs.Conflicts.{AreConflictLists}
use Rattle.request_queue.specs.Blockers.{AreBlockers}
use Rattle.request_queue.specs.ClientCounts.{AreClientCounts}
use Rattle.request_queue.proofs.ClientCounts.{counts_at}
use Rattle.request_queue.proofs.Holding.{issued_holders}
use Rattle.request_queue.proofs.Conflicting.{issued_lists}
use Rattle.request_queue.specs.BookEntries.{BookEntry, unanswered_of, update_if_id, issued_request, BookIsWellFormed, IsWaiting}
use Rattle.request_queue.specs.declared.PendingRequest.{PendingRequest}
use Rattle.request_queue.proofs.Changing.{changed_at, request_at, issued_in_order}
use Rattle.request_queue.proofs.book.Book.issue.Goals as goal

one_more : (n : ℕ) → n + 1 ≡ suc n
one_more n = omega arith

pub invariant_of-self : goal.invariant_of-self
invariant_of-self c =
    let found = c.place_of-place.ensures in
    let e = c.replace.ensures in
    let store = c.self.inside.store in
    let named = subst (λ (x : BookEntry). x.request.id ≡ c.args.id) (same_Some found.0 e.0 (sym found.1 ∙ e.1)) found.2 in
    let same = request_at store c.place_of-place.result c.request-old.result e.0 c.request-old.ensures e.1 in
    let here = e.2 ∙ (ap (λ (n : ℕ). set store c.place_of-place.result (record (e.0) { request = record (c.request-old.result) { issued = true; issue_count = n; age = 0 } })) (one_more c.request-old.result.issue_count) ∙ ap (λ (r : PendingRequest). set store c.place_of-place.result (record (e.0) { request = issued_request r })) (sym same)) in
    let changed = here ∙ changed_at store c.place_of-place.result e.0 c.args.id issued_request c.self.invariant.0.ids_rise e.1 named in
    let waits = subst (λ (es : List BookEntry). IsWaiting c.args.id es) (sym c.self.view_is) c.requires in (
      subst (λ (es : List BookEntry). BookIsWellFormed es) (sym changed) (issued_in_order store c.args.id waits.0 c.self.invariant.0 waits.1 waits.2 waits.3),
      subst (λ (es : List BookEntry). AreConflictLists (unanswered_of es) c.self.inside.conflicts) (sym changed) (issued_lists store c.args.id c.self.inside.conflicts c.self.invariant.1),
      subst (λ (es : List BookEntry). AreBlockers (unanswered_of es) (set c.self.inside.blockers.items c.place_of-place.result c.nobody.result)) (sym here)
          (rw c.nobody.ensures (issued_holders store c.self.inside.blockers.items c.place_of-place.result e.0 c.self.invariant.2 e.1)),
      c.self.invariant.3,
      subst (λ (es : List BookEntry). AreClientCounts es c.self.inside.counts) (sym changed) (counts_at store c.args.id issued_request c.self.inside.counts (λ r. refl) c.self.invariant.4),
    )

pub returns : goal.returns
returns c =
    let found = c.place_of-place.ensures in
    let e = c.replace.ensures in
    let store = c.self.inside.store in
    let named = subst (λ (x : BookEntry). x.request.id ≡ c.args.id) (same_Some found.0 e.0 (sym found.1 ∙ e.1)) found.2 in
    let same = request_at store c.place_of-place.result c.request-old.result e.0 c.request-old.ensures e.1 in
    e.2 ∙ (ap (λ (n : ℕ). set store c.place_of-place.result (record (e.0) { request = record (c.request-old.result) { issued = true; issue_count = n; age = 0 } })) (one_more c.request-old.result.issue_count) ∙ ap (λ (r : PendingRequest). set store c.place_of-place.result (record (e.0) { request = issued_request r })) (sym same)
    ∙ (changed_at store c.place_of-place.result e.0 c.args.id issued_request c.self.invariant.0.ids_rise e.1 named
    ∙ ap (λ (es : List BookEntry). map (update_if_id c.args.id issued_request) es) c.self.view_is))
