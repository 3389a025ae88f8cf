-- The requests of one port, at their places.
use Rattle.std.proofs.Common.{eqb-true, not, ◌≡◌, ℕ, zero, suc, ◌<◌, ◌+◌, ◌-◌, ◌==◌, ◌&&◌, ◌||◌, Bool, true, false, cond, List, [], ◌∷◌, ◌++◌, length, get_or, map, take, Some, refl, sym, ap, ◌∙◌, subst, arith}
use Rattle.std.specs.List.{All, Contains, count_by, filter, list_any, slice_get}
use Rattle.std.specs.Option.{option_map}
use Rattle.std.proofs.lemmas.Bool.{and_from, and_parts, both_ways, cond-true, cond-false, false_from_ne_true, not-true}
use Rattle.std.proofs.lemmas.List.{map-append, append-nil, length-map}
use Rattle.std.proofs.lemmas.List.Elements.{All-head, All-tail, filter-append}
use Rattle.std.proofs.lemmas.List.Folds.{list_any-append}
use Rattle.std.proofs.lemmas.List.Kept.{AllPairs-filter}
use Rattle.std.proofs.lemmas.Option.{get_or_from_slice_get, slice_get_within, slice_get-get_or, slice_get-map}
use Rattle.ata_types.specs.declared.Port.{Port}
use Rattle.ata_types.specs.declared.request.RequestId.{RequestId}
use Rattle.block_machine.specs.declared.due.QueueMode.{QueueMode}
use Rattle.block_machine.specs.declared.due.Unanswered.{Unanswered}
use Rattle.block_machine.specs.DueRequests.{IsInOrder, is_plain, issued_count, free_slots, due_of}
use Rattle.request_queue.specs.BookEntries.{BookEntry, as_unanswered, unanswered_of, due_ids}
use Rattle.request_queue.specs.Blockers.{waiting_read_or_write_has_blocker, is_waiting_read_or_write, conflicts_with_earlier, without_blocker}
use Rattle.request_queue.specs.DueWalk.{IsReachedInWalk}
use Rattle.request_queue.specs.RequestSlab.{unanswered_at, blank_request}
use Rattle.request_queue.proofs.Members.{count_append, count_cons, taken_more}
use Rattle.request_queue.proofs.Unheld.{due_without, found, of_filter, one_found}

-- what a filter leaves passes
passes : (p : Unanswered → Bool) (xs : List Unanswered) → All (λ x. p x ≡ true) (filter p xs)
passes p [] = λ k d lt. absurd (omega (arith, lt))
passes p (y ∷ ys) = go (p y) refl (passes p ys)
  where
    first : p y ≡ true → All (λ x. p x ≡ true) (filter p ys) → All (λ x. p x ≡ true) (y ∷ filter p ys)
    first t rest zero d lt = t
    first t rest (suc k) d lt = rest k d (omega (arith, lt))

    go : (b : Bool) → p y ≡ b → All (λ x. p x ≡ true) (filter p ys) → All (λ x. p x ≡ true) (cond b (y ∷ filter p ys) (filter p ys))
    go true t rest = first t rest
    go false t rest = rest

-- so their issued ones are the port's
own_issued : (port : Port) (xs : List Unanswered) → All (λ r. (r.port.0 == port.0) ≡ true) xs → count_by (λ r. r.issued) xs ≡ issued_count xs port
own_issued port [] own = refl
own_issued port (x ∷ xs) own =
    let rest = own_issued port xs (All-tail (λ (r : Unanswered). (r.port.0 == port.0) ≡ true) x xs own) in
    let mine = All-head (λ (r : Unanswered). (r.port.0 == port.0) ≡ true) x xs own in
    let head : ◌≡◌ {A = ℕ} (cond ((x.port.0 == port.0) && x.issued) 1 0) (cond x.issued 1 0) = ap (λ (b : Bool). cond {A = ℕ} (b && x.issued) 1 0) mine in
    omega (arith, rest, head, count_cons (λ (r : Unanswered). r.issued) x xs, count_cons (λ (r : Unanswered). (r.port.0 == port.0) && r.issued) x xs)

-- the walk is over those of the port that have no blocker
module _ (port : Port) (all book : List Unanswered) (is : book ≡ without_blocker port all) where
  abbrev p : Unanswered → Bool
  p r = r.port.0 == port.0 && not (waiting_read_or_write_has_blocker all r)

  pub unheld_in_order : IsInOrder all → IsInOrder book
  unheld_in_order order = subst (λ (xs : List Unanswered). IsInOrder xs) (sym is) (AllPairs-filter (λ (a : Unanswered) (b : Unanswered). a.id.0 < b.id.0) p all order)

  each_passes : All (λ r. p r ≡ true) book
  each_passes = subst (λ (xs : List Unanswered). All (λ r. p r ≡ true) xs) (sym is) (passes p all)

  own : All (λ r. (r.port.0 == port.0) ≡ true) book
  own k d lt = (and_parts ((get_or book k d).port.0 == port.0) _ (each_passes k d lt)).0

  pub own_at : (i : ℕ) (r : Unanswered) → slice_get book i ≡ Some r → (r.port.0 == port.0) ≡ true
  own_at i r at = subst (λ (x : Unanswered). (x.port.0 == port.0) ≡ true) (get_or_from_slice_get book i r r at) (own i r (slice_get_within book i r at))

  of_port_of : (i : ℕ) (r : Unanswered) → slice_get book i ≡ Some r → All (λ other. other.port ≡ r.port) book
  of_port_of i r at k d lt = ap (λ (n : ℕ). record { 0 = n }) (eqb-true (get_or book k d).port.0 port.0 (own k d lt) ∙ sym (eqb-true r.port.0 port.0 (own_at i r at)))

  -- none of them has a blocker among them
  unheld_at : (i : ℕ) (r : Unanswered) → slice_get book i ≡ Some r → waiting_read_or_write_has_blocker book r ≡ false
  unheld_at i r at = false_from_ne_true _ (λ held.
      let two = and_parts (is_waiting_read_or_write r) _ held in
      let o = one_found (conflicts_with_earlier r) book two.1 in
      let in_all = (of_filter p all o.0 (subst (λ (xs : List Unanswered). Contains xs o.0) is o.1)).0 in
      let its = subst (λ (x : Unanswered). p x ≡ true) (get_or_from_slice_get book i r r at) (each_passes i r (slice_get_within book i r at)) in
      both_ways _ (not-true _ (and_parts (r.port.0 == port.0) _ its).1) (and_from _ _ two.0 (found (conflicts_with_earlier r) all o.0 in_all o.2)))

  -- the walk has come to it
  pub reached : IsInOrder all → (mode : QueueMode) (i : ℕ) (r : Unanswered) → slice_get book i ≡ Some r
      → ((k : ℕ) (d : Unanswered) → k < i → is_plain mode (get_or book k d).op ≡ false) → IsReachedInWalk mode book i r
  reached order mode i r at queued = record { request_is_at_number = at; book_is_in_order = unheld_in_order order; all_are_of_its_port = of_port_of i r at; without_blocker = unheld_at i r at; earlier_are_queued = queued }

  pub own_free : (mode : QueueMode) (free : ℕ) → free ≡ mode.usable_slots - count_by (λ r. r.issued) book → free ≡ free_slots mode book port
  own_free mode free counted = counted ∙ ap (λ (n : ℕ). mode.usable_slots - n) (own_issued port book own)

  pub own_due : (mode : QueueMode) (due : List RequestId) → due ≡ due_ids mode port book → due ≡ due_ids mode port all
  own_due mode due so_far = so_far ∙ ap (λ (rs : List Unanswered). map (λ (r : Unanswered). r.id) rs) (ap (due_of mode port) is ∙ due_without mode port all)

-- as many as there are places
pub as_long : (es : List BookEntry) (places : List ℕ) → length (unanswered_at es places) ≡ length places
as_long es places = length-map places (λ (place : ℕ). get_or (unanswered_of es) place (as_unanswered blank_request))

-- the request at the place with a number
pub at_number : (es : List BookEntry) (places read : List ℕ) (n : ℕ) (r : Unanswered) → n < length places → read ≡ places → slice_get (unanswered_of es) (get_or read n 0) ≡ Some r
    → slice_get (unanswered_at es places) n ≡ Some r
at_number es places read n r lt same is =
    slice_get-map (λ (place : ℕ). get_or (unanswered_of es) place (as_unanswered blank_request)) places n
    ∙ (ap (option_map (λ (place : ℕ). get_or (unanswered_of es) place (as_unanswered blank_request))) (slice_get-get_or places n 0 lt)
    ∙ ap Some (ap (λ (xs : List ℕ). get_or (unanswered_of es) (get_or xs n 0) (as_unanswered blank_request)) (sym same) ∙ get_or_from_slice_get (unanswered_of es) (get_or read n 0) r (as_unanswered blank_request) is))

-- one place more
module _ (p : Unanswered → Bool) (es : List BookEntry) (places : List ℕ) (i : ℕ) (r : Unanswered) (is : slice_get (unanswered_of es) i ≡ Some r)
    (so_far : unanswered_at es places ≡ filter p (take i (unanswered_of es))) where
  more : filter p (take (i + 1) (unanswered_of es)) ≡ filter p (take i (unanswered_of es)) ++ filter p (r ∷ [])
  more = ap (filter p) (taken_more (unanswered_of es) i r is) ∙ filter-append p (take i (unanswered_of es)) (r ∷ [])

  pub one_in : p r ≡ true → unanswered_at es (places ++ i ∷ []) ≡ filter p (take (i + 1) (unanswered_of es))
  one_in passes =
      map-append (λ (place : ℕ). get_or (unanswered_of es) place (as_unanswered blank_request)) places (i ∷ [])
      ∙ (ap (λ (xs : List Unanswered). xs ++ get_or (unanswered_of es) i (as_unanswered blank_request) ∷ []) so_far
      ∙ (ap (λ (x : Unanswered). filter p (take i (unanswered_of es)) ++ x ∷ []) (get_or_from_slice_get (unanswered_of es) i r (as_unanswered blank_request) is)
      ∙ sym (more ∙ ap (λ (xs : List Unanswered). filter p (take i (unanswered_of es)) ++ xs) (cond-true (p r) (r ∷ []) [] passes))))

  pub one_out : p r ≡ false → unanswered_at es places ≡ filter p (take (i + 1) (unanswered_of es))
  one_out fails =
      so_far ∙ sym (more ∙ (ap (λ (xs : List Unanswered). filter p (take i (unanswered_of es)) ++ xs) (cond-false (p r) (r ∷ []) [] fails) ∙ append-nil (filter p (take i (unanswered_of es)))))

-- and what is counted of those at the places
module _ (es : List BookEntry) (places : List ℕ) (i : ℕ) (r : Unanswered) (is : slice_get (unanswered_of es) i ≡ Some r) (p : Unanswered → Bool) where
  pub asked_more : unanswered_at es (places ++ i ∷ []) ≡ unanswered_at es places ++ r ∷ []
  asked_more =
      map-append (λ (place : ℕ). get_or (unanswered_of es) place (as_unanswered blank_request)) places (i ∷ [])
      ∙ ap (λ (x : Unanswered). unanswered_at es places ++ x ∷ []) (get_or_from_slice_get (unanswered_of es) i r (as_unanswered blank_request) is)

  pub counted_more : count_by p (unanswered_at es (places ++ i ∷ [])) ≡ count_by p (unanswered_at es places) + cond (p r) 1 0
  counted_more =
      let a = ap (λ (xs : List Unanswered). count_by p xs) asked_more in
      let b = count_append p (unanswered_at es places) (r ∷ []) in
      let c = count_cons p r [] in
      omega (arith, a, b, c)

  pub any_more : list_any p (unanswered_at es (places ++ i ∷ [])) ≡ (list_any p (unanswered_at es places) || p r)
  any_more =
      ap (list_any p) asked_more
      ∙ (list_any-append p (unanswered_at es places) (r ∷ []) ∙ ap (λ (b : Bool). list_any p (unanswered_at es places) || b) (or_none (p r)))
    where
      or_none : (b : Bool) → (b || false) ≡ b
      or_none true = refl
      or_none false = refl
