-- Ids of the requests that pass a test.
use Rattle.std.proofs.Common.{◌≡◌, ℕ, ◌+◌, Bool, true, false, List, [], ◌∷◌, ◌++◌, get_or, map, take, Some, sym, ap, ◌∙◌}
use Rattle.std.specs.List.{filter, slice_get}
use Rattle.std.proofs.lemmas.Bool.{cond-true, cond-false}
use Rattle.std.proofs.lemmas.List.{take_more, map-append, append-nil}
use Rattle.std.proofs.lemmas.List.Elements.{filter-append}
use Rattle.request_queue.specs.BookEntries.{BookEntry, ids_where}
use Rattle.request_queue.specs.declared.PendingRequest.{PendingRequest}
use Rattle.request_queue.proofs.Changing.{request_is, place_within}

module _ (p : PendingRequest → Bool) (es : List BookEntry) (i : ℕ) (r : PendingRequest) (is : slice_get (map (λ (e : BookEntry). e.request) es) i ≡ Some r) where
  abbrev d : BookEntry
  d = record { request = r; frames = [] }

  abbrev here : BookEntry
  here = get_or es i d

  test : p here.request ≡ p r
  test = ap p (request_is es i r d is)

  more : ids_where p (take (i + 1) es) ≡ ids_where p (take i es) ++ ids_where p (here ∷ [])
  more =
      ap (ids_where p) (take_more es i d (place_within es i r is))
      ∙ (ap (λ (xs : List BookEntry). map (λ (e : BookEntry). e.request.id) xs) (filter-append (λ (e : BookEntry). p e.request) (take i es) (here ∷ []))
      ∙ map-append (λ (e : BookEntry). e.request.id) (filter (λ (e : BookEntry). p e.request) (take i es)) (filter (λ (e : BookEntry). p e.request) (here ∷ [])))

  pub one_listed : p r ≡ true → ids_where p (take i es) ++ r.id ∷ [] ≡ ids_where p (take (i + 1) es)
  one_listed passes = sym (more ∙ (ap (λ (xs : List BookEntry). ids_where p (take i es) ++ map (λ (e : BookEntry). e.request.id) xs) (cond-true (p here.request) (here ∷ []) [] (test ∙ passes))
      ∙ ap (λ (x : PendingRequest). ids_where p (take i es) ++ x.id ∷ []) (request_is es i r d is)))

  pub one_passed_over : p r ≡ false → ids_where p (take i es) ≡ ids_where p (take (i + 1) es)
  one_passed_over fails = sym (more ∙ (ap (λ (xs : List BookEntry). ids_where p (take i es) ++ map (λ (e : BookEntry). e.request.id) xs) (cond-false (p here.request) (here ∷ []) [] (test ∙ fails))
      ∙ append-nil (ids_where p (take i es))))
