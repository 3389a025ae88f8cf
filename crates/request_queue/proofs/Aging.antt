-- Ages of the issued requests alone are counted, and those that are three ticks old are noted.
use Rattle.std.proofs.Common.{ℕ, ◌≡◌, ◌<◌, ◌≤◌, ◌+◌, ◌↔◌, Bool, true, false, cond, ◌&&◌, ◌||◌, List, [], ◌∷◌, get_or, length, map, take, refl, sym, ap, ◌∙◌, subst, arith, IsTrue, le-leb, leb-true, min, suc, ⊎_elim}
use Rattle.std.specs.List.{list_any}
use Rattle.std.specs.Prelude.{nat_le}
use Rattle.std.proofs.lemmas.Bool.{and_from, and_parts, cases_eq}
use Rattle.std.proofs.lemmas.List.{take_more, take_all}
use Rattle.std.proofs.lemmas.List.Folds.{list_any-append}
use Rattle.ata_types.specs.declared.Port.{Port}
use Rattle.request_queue.specs.BookEntries.{BookEntry, HasAnyOverdue, aged_request}
use Rattle.request_queue.specs.declared.PendingRequest.{PendingRequest}
use Rattle.block_machine.specs.declared.due.Unanswered.{Unanswered}
use Rattle.request_queue.proofs.Changing.{ChangedSoFar, all_are_changed, older_spares}
use Rattle.request_queue.proofs.Unheld.{found, one_found}

-- the request is issued, and three ticks old
abbrev pub is_old : PendingRequest → Bool
is_old r = r.issued && nat_le 3 r.age

-- one that waits doesn't get older
pub waits_on : (ports : Port → Bool) (r : PendingRequest) → r.issued ≡ false → aged_request ports r ≡ r
waits_on ports r waits = ap (λ (b : Bool). cond (b && ports r.port) (record r { age = min (suc r.age) 3 }) r) waits

pub not_old : (ports : Port → Bool) (r : PendingRequest) → r.issued ≡ false → is_old (aged_request ports r) ≡ false
not_old ports r waits = ap is_old (waits_on ports r waits) ∙ ap (λ (b : Bool). b && nat_le 3 r.age) waits

-- and is passed over
pub none_changed : (f : PendingRequest → PendingRequest) (old now : List BookEntry) (place : ℕ) → ChangedSoFar f old now place → ((d : BookEntry) → f (get_or old place d).request ≡ (get_or old place d).request)
    → ChangedSoFar f old now (place + 1)
none_changed f old now place so_far same = record {
  done = λ k d lt short. ⊎_elim
      (λ (here : k ≡ place).
      so_far.rest k d (omega (arith, here))
      ∙ ap (λ (x : PendingRequest). record (get_or old k d) { request = x }) (subst (λ (n : ℕ). (get_or old n d).request ≡ f (get_or old n d).request) (sym here) (sym (same d))))
      (λ other. so_far.done k d (omega (arith, lt, other)) short)
      (cases_eq k place);
  rest = λ k d le. so_far.rest k d (omega (arith, le));
  long = so_far.long;
}

or_none : (b : Bool) → (b || false) ≡ b
or_none true = refl
or_none false = refl

-- what is noted of one more
pub one_noted : (q : BookEntry → Bool) (es : List BookEntry) (i : ℕ) (d : BookEntry) → i < length es → list_any q (take (i + 1) es) ≡ (list_any q (take i es) || q (get_or es i d))
one_noted q es i d lt =
    ap (list_any q) (take_more es i d lt)
    ∙ (list_any-append q (take i es) (get_or es i d ∷ []) ∙ ap (λ (b : Bool). list_any q (take i es) || b) (or_none (q (get_or es i d))))

-- what is noted of all tells whether one is overdue
pub all_noted : (f : PendingRequest → PendingRequest) (es : List BookEntry) (place : ℕ) → length es ≤ place
    → list_any (λ e. is_old (f e.request)) (take place es) ≡ list_any (λ (e : BookEntry). is_old e.request) (map (λ (e : BookEntry). record e { request = f e.request }) es)
all_noted f es place all = ap (list_any (λ e. is_old (f e.request))) (take_all place es all) ∙ go es
  where
    go : (es : List BookEntry) → list_any (λ e. is_old (f e.request)) es ≡ list_any (λ (e : BookEntry). is_old e.request) (map (λ (e : BookEntry). record e { request = f e.request }) es)
    go [] = refl
    go (e ∷ es) = ap (λ (b : Bool). is_old (f e.request) || b) (go es)

pub tells : (es : List BookEntry) → IsTrue (list_any (λ (e : BookEntry). is_old e.request) es) ↔ HasAnyOverdue es
tells es = (
  (λ is.
      let one = one_found (λ (e : BookEntry). is_old e.request) es is in
      let parts = and_parts one.0.request.issued _ one.2 in
      (one.0.request.port, (one.0, one.1, (refl, parts.0, leb-true 3 one.0.request.age parts.1)))),
  (λ overdue. let its = overdue.1 in found (λ (e : BookEntry). is_old e.request) es its.0 its.1 (and_from _ _ its.2.1 (le-leb 3 its.0.request.age its.2.2))),
)

-- ---- at a place of the loop

module _ (ports : Port → Bool) (old now : List BookEntry) (place : ℕ) (noted : Bool) (small : place < length old)
    (so_far : ChangedSoFar (aged_request ports) old now place) (is : noted ≡ list_any (λ e. is_old (aged_request ports e.request)) (take place old)) where
  abbrev q : BookEntry → Bool
  q e = is_old (aged_request ports e.request)

  -- one that is noted as what it is
  noted_more : (d : BookEntry) (b : Bool) → b ≡ q (get_or old place d) → (noted || b) ≡ list_any q (take (place + 1) old)
  noted_more d b its = ap (λ (x : Bool). x || b) is ∙ (ap (λ (x : Bool). list_any q (take place old) || x) its ∙ sym (one_noted q old place d small))

  -- one that is issued
  pub issued_more : (d : BookEntry) (r x : PendingRequest) → (get_or old place d).request ≡ r → r.issued ≡ true → x ≡ aged_request ports r → (noted || nat_le 3 x.age) ≡ list_any q (take (place + 1) old)
  issued_more d r x its issued grown =
      let still : x.issued ≡ true = ap (λ (y : PendingRequest). y.issued) grown ∙ (ap (λ (u : Unanswered). u.issued) (older_spares ports r).asked ∙ issued) in
      noted_more d (nat_le 3 x.age) (ap (λ (b : Bool). b && nat_le 3 x.age) (sym still) ∙ ap is_old (grown ∙ ap (aged_request ports) (sym its)))

  -- one that waits
  pub waiting_more : (d : BookEntry) → (get_or old place d).request.issued ≡ false
      → ((d : BookEntry) → (get_or old place d).request.issued ≡ false) → ChangedSoFar (aged_request ports) old now (place + 1) × (noted ≡ list_any q (take (place + 1) old))
  waiting_more d waits all = (
    none_changed (aged_request ports) old now place so_far (λ x. waits_on ports (get_or old place x).request (all x)),
    sym (or_none noted) ∙ noted_more d false (sym (not_old ports (get_or old place d).request waits)),
  )

-- ---- and at its end

pub all_aged : (ports : Port → Bool) (old now : List BookEntry) (place : ℕ) (noted : Bool) → length old ≤ place → ChangedSoFar (aged_request ports) old now place
    → noted ≡ list_any (λ e. is_old (aged_request ports e.request)) (take place old) → IsTrue noted ↔ HasAnyOverdue now
all_aged ports old now place noted all so_far is =
    let same = is ∙ (all_noted (aged_request ports) old place all ∙ ap (list_any (λ (e : BookEntry). is_old e.request)) (sym (all_are_changed (aged_request ports) old now place all so_far))) in
    subst (λ (b : Bool). IsTrue b ↔ HasAnyOverdue now) (sym same) (tells now)
