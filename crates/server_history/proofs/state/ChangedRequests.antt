-- What holds of each request of a book, as one of them changes.
use Rattle.std.proofs.Common.{◌≡◌, Bool, true, false, List, [], ◌∷◌, map, refl, sym, subst}
use Rattle.std.specs.List.{All}
use Rattle.std.proofs.lemmas.Bool.{cond-true, cond-false}
use Rattle.std.proofs.lemmas.List.Elements.{All-head, All-tail, All-cons, All-nil}
use Rattle.ata_types.specs.declared.request.RequestId.{RequestId}
use Rattle.request_queue.specs.BookEntries.{BookEntry, update_if_id, has_id}
use Rattle.request_queue.specs.declared.PendingRequest.{PendingRequest}

-- what a change keeps of each it keeps of all
pub all_changed : (id : RequestId) (change : PendingRequest → PendingRequest) (P : BookEntry → Type 0) → ((e : BookEntry) → P e → P (record e { request = change e.request })) → (book : List BookEntry) → All P book → All P (map (update_if_id id change) book)
all_changed id change P keeps [] all = All-nil P
all_changed id change P keeps (e ∷ book) all =
    All-cons P (update_if_id id change e) (map (update_if_id id change) book) (one (has_id id e) refl) (all_changed id change P keeps book (All-tail P e book all))
  where
    one : (b : Bool) → has_id id e ≡ b → P (update_if_id id change e)
    one true is = subst P (sym (cond-true (has_id id e) (record e { request = change e.request }) e is)) (keeps e (All-head P e book all))
    one false is = subst P (sym (cond-false (has_id id e) (record e { request = change e.request }) e is)) (All-head P e book all)
