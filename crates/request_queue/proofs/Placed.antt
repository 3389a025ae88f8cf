-- A request at a place of the store, and its entry.
use Rattle.std.proofs.Common.{ℕ, ◌≡◌, ◌<◌, ◌∙◌, List, Some, [], get_or, length, map, ap, refl}
use Rattle.std.specs.List.{remove, slice_get}
use Rattle.std.proofs.lemmas.Option.{slice_get-get_or}
use Rattle.request_queue.specs.BookEntries.{BookEntry, BookIsWellFormed, without_entry}
use Rattle.request_queue.specs.declared.PendingRequest.{PendingRequest}
use Rattle.request_queue.proofs.Changing.{dropped_at, request_is}

module _ (es : List BookEntry) (i : ℕ) (r : PendingRequest) (lt : i < length es) (s : BookIsWellFormed es) (is : slice_get (map (λ (e : BookEntry). e.request) es) i ≡ Some r) where
  abbrev d : BookEntry
  d = record { request = r; frames = [] }

  -- the request with its frames
  abbrev pub e : BookEntry
  e = record { request = r; frames = (get_or es i d).frames }

  pub at : slice_get es i ≡ Some e
  at = slice_get-get_or es i d lt ∙ ap (λ (x : PendingRequest). Some (record { request = x; frames = (get_or es i d).frames })) (request_is es i r d is)

  pub dropped : remove es i ≡ without_entry r.id es
  dropped = dropped_at es i e r.id s.ids_rise at refl
