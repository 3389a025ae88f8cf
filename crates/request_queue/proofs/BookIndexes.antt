-- A book whose request was taken out of the store, and out of what stands beside it.
use Rattle.std.proofs.Common.{ℕ, ◌≡◌, ◌<◌, ◌∙◌, length, List, Option, Some, sym, subst}
use Rattle.std.specs.List.{remove, slice_get}
use Rattle.std.proofs.lemmas.Option.{slice_get_within}
use Rattle.ata_types.specs.declared.request.RequestId.{RequestId}
use Rattle.request_queue.specs.BookIndexes.{IndexesMatch}
use Rattle.request_queue.specs.Conflicts.{AreConflictLists, ConflictLists}
use Rattle.request_queue.specs.ClientCounts.{AreClientCounts}
use Rattle.request_queue.specs.BookEntries.{BookEntry, BookIsWellFormed, unanswered_of, without_entry}
use Rattle.request_queue.specs.Blockers.{AreBlockers}
use Rattle.request_queue.proofs.Changing.{dropped_at, fewer_in_order}

-- what stands beside a book's requests
pub parts_beside : {A : Type 0} (es : List BookEntry) (lists : ConflictLists) (blockers : List (Option RequestId)) (counts : List ℕ)
    → BookIsWellFormed es × AreConflictLists (unanswered_of es) lists × AreBlockers (unanswered_of es) blockers × A × AreClientCounts es counts
    → IndexesMatch es lists blockers counts
parts_beside es lists blockers counts all = record { conflict_lists_match = all.1; blockers_match = all.2; client_counts_match = all.4 }

module _ (es : List BookEntry) (place : ℕ) (id : RequestId) (e : BookEntry) (order : BookIsWellFormed es) (at : slice_get es place ≡ Some e) (named : e.request.id ≡ id) (now : List BookEntry) (rest : now ≡ remove es place) where
  pub is_within : place < length es
  is_within = slice_get_within es place e at

  pub is_without : now ≡ without_entry id es
  is_without = rest ∙ dropped_at es place e id order.ids_rise at named

  pub parts_less : {A : Type 0} (lists : ConflictLists) (blockers : List (Option RequestId)) (counts : List ℕ) → IndexesMatch (remove es place) lists blockers counts → A
      → BookIsWellFormed now × AreConflictLists (unanswered_of now) lists × AreBlockers (unanswered_of now) blockers × A × AreClientCounts now counts
  parts_less lists blockers counts are a =
      let beside = subst (λ (xs : List BookEntry). IndexesMatch xs lists blockers counts) (sym rest) are in
      (subst BookIsWellFormed (sym is_without) (fewer_in_order id es order), beside.conflict_lists_match, beside.blockers_match, a, beside.client_counts_match)
