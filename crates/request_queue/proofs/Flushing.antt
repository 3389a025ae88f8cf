-- What the book's changes make of the list of flushes.
use Rattle.std.proofs.Common.{◌≡◌, ◌≤◌, ◌==◌, Bool, true, false, not, cond, List, [], ◌∷◌, ◌++◌, map, length, refl, sym, ap, ◌∙◌, arith}
use Rattle.std.specs.List.{Contains, filter}
use Rattle.std.proofs.lemmas.Bool.{cond-true, cond-false}
use Rattle.std.proofs.lemmas.List.{map-append}
use Rattle.std.proofs.lemmas.List.Elements.{filter-append}
use Rattle.ata_types.specs.declared.request.RequestId.{RequestId}
use Rattle.block_machine.specs.declared.due.Unanswered.{Unanswered}
use Rattle.block_machine.specs.DueRequests.{is_flush, mark_issued, mark_waiting, without_request}
use Rattle.request_queue.specs.declared.flushes.Flush.{Flush}
use Rattle.request_queue.specs.BookEntries.{BookEntry, unanswered_of, update_if_id, issued_request, request_with_issued_cleared, without_entry}
use Rattle.request_queue.specs.Flushes.{listed_flush, flushes_among}
use Rattle.request_queue.proofs.Members.{into_map, map_in}
use Rattle.request_queue.proofs.Unheld.{in_filter, of_filter}
use Rattle.request_queue.proofs.Working.{after_answer, after_issue, after_requeue}

-- ---- of a book

listed : (r : Unanswered) (book : List Unanswered) → is_flush r.op ≡ true → flushes_among (r ∷ book) ≡ listed_flush r ∷ flushes_among book
listed r book is = ap (map listed_flush) (cond-true (is_flush r.op) (r ∷ filter (λ x. is_flush x.op) book) (filter (λ x. is_flush x.op) book) is)

passed : (r : Unanswered) (book : List Unanswered) → is_flush r.op ≡ false → flushes_among (r ∷ book) ≡ flushes_among book
passed r book is = ap (map listed_flush) (cond-false (is_flush r.op) (r ∷ filter (λ x. is_flush x.op) book) (filter (λ x. is_flush x.op) book) is)

-- there are no more than requests
pub few_flushes : (book : List Unanswered) → length (flushes_among book) ≤ length book
few_flushes [] = omega arith
few_flushes (r ∷ book) = go (is_flush r.op) refl (few_flushes book)
  where
    go : (b : Bool) → is_flush r.op ≡ b → length (flushes_among book) ≤ length book → length (flushes_among (r ∷ book)) ≤ length (r ∷ book)
    go true is rest = let e = ap length (listed r book is) in omega (arith, e, rest)
    go false is rest = let e = ap length (passed r book is) in omega (arith, e, rest)

-- a flush of the book is listed
pub in_flushes : (book : List Unanswered) (r : Unanswered) → Contains book r → is_flush r.op ≡ true → Contains (flushes_among book) (listed_flush r)
in_flushes book r there is = into_map listed_flush (filter (λ x. is_flush x.op) book) r (in_filter (λ (x : Unanswered). is_flush x.op) book r there is)

-- and what is listed is a flush of the book
pub of_flushes : (book : List Unanswered) (f : Flush) → Contains (flushes_among book) f → (r : Unanswered) × Contains book r × (is_flush r.op ≡ true) × (listed_flush r ≡ f)
of_flushes book f there =
    let m = map_in listed_flush (filter (λ x. is_flush x.op) book) f there in
    let own = of_filter (λ (x : Unanswered). is_flush x.op) book m.0 m.1 in
    (m.0, own.0, own.1, sym m.2)

-- accepted
pub longer_flushes : (xs ys : List Unanswered) → flushes_among (xs ++ ys) ≡ flushes_among xs ++ flushes_among ys
longer_flushes xs ys = ap (map listed_flush) (filter-append (λ (x : Unanswered). is_flush x.op) xs ys) ∙ map-append listed_flush (filter (λ x. is_flush x.op) xs) (filter (λ x. is_flush x.op) ys)

-- changed in nothing that the list has
same_flushes : (g : Unanswered → Unanswered) → ((r : Unanswered) → listed_flush (g r) ≡ listed_flush r) → ((r : Unanswered) → (g r).op ≡ r.op) → (book : List Unanswered)
    → flushes_among (map g book) ≡ flushes_among book
same_flushes g same op [] = refl
same_flushes g same op (r ∷ book) = go (is_flush r.op) refl (same_flushes g same op book)
  where
    go : (b : Bool) → is_flush r.op ≡ b → flushes_among (map g book) ≡ flushes_among book → flushes_among (map g (r ∷ book)) ≡ flushes_among (r ∷ book)
    go true is rest = listed (g r) (map g book) (ap is_flush (op r) ∙ is)
        ∙ (ap (λ (f : Flush). f ∷ flushes_among (map g book)) (same r) ∙ (ap (λ (fs : List Flush). listed_flush r ∷ fs) rest ∙ sym (listed r book is)))
    go false is rest = passed (g r) (map g book) (ap is_flush (op r) ∙ is) ∙ (rest ∙ sym (passed r book is))

same_marked : (b : Bool) (r : Unanswered) (issued : Bool) → (listed_flush (cond b (record r { issued = issued }) r) ≡ listed_flush r) × ((cond b (record r { issued = issued }) r).op ≡ r.op)
same_marked true r issued = (refl, refl)
same_marked false r issued = (refl, refl)

-- answered
left_listed : (id : RequestId) (book : List Unanswered) → filter (λ (f : Flush). not (f.id.0 == id.0)) (flushes_among book) ≡ flushes_among (without_request id book)
left_listed id [] = refl
left_listed id (r ∷ book) = go (is_flush r.op) (not (r.id.0 == id.0)) refl refl (left_listed id book)
  where
    stays : Flush → Bool
    stays f = not (f.id.0 == id.0)

    kept : not (r.id.0 == id.0) ≡ true → without_request id (r ∷ book) ≡ r ∷ without_request id book
    kept is = cond-true (not (r.id.0 == id.0)) (r ∷ without_request id book) (without_request id book) is

    dropped : not (r.id.0 == id.0) ≡ false → without_request id (r ∷ book) ≡ without_request id book
    dropped is = cond-false (not (r.id.0 == id.0)) (r ∷ without_request id book) (without_request id book) is

    go : (b c : Bool) → is_flush r.op ≡ b → not (r.id.0 == id.0) ≡ c → filter stays (flushes_among book) ≡ flushes_among (without_request id book)
        → filter stays (flushes_among (r ∷ book)) ≡ flushes_among (without_request id (r ∷ book))
    go true true flush other rest = ap (filter stays) (listed r book flush)
        ∙ (cond-true (stays (listed_flush r)) (listed_flush r ∷ filter stays (flushes_among book)) (filter stays (flushes_among book)) other
        ∙ (ap (λ (fs : List Flush). listed_flush r ∷ fs) rest ∙ (sym (listed r (without_request id book) flush) ∙ ap flushes_among (sym (kept other)))))
    go true false flush own rest = ap (filter stays) (listed r book flush)
        ∙ (cond-false (stays (listed_flush r)) (listed_flush r ∷ filter stays (flushes_among book)) (filter stays (flushes_among book)) own
        ∙ (rest ∙ ap flushes_among (sym (dropped own))))
    go false true none other rest = ap (filter stays) (passed r book none) ∙ (rest ∙ (sym (passed r (without_request id book) none) ∙ ap flushes_among (sym (kept other))))
    go false false none own rest = ap (filter stays) (passed r book none) ∙ (rest ∙ ap flushes_among (sym (dropped own)))

-- ---- of the book's own requests

pub issued_flushes : (es : List BookEntry) (id : RequestId) (fs : List Flush) → fs ≡ flushes_among (unanswered_of es) → fs ≡ flushes_among (unanswered_of (map (update_if_id id issued_request) es))
issued_flushes es id fs is = is ∙ sym (ap flushes_among (after_issue es id)
    ∙ same_flushes (mark_issued id) (λ r. (same_marked (r.id.0 == id.0) r true).0) (λ r. (same_marked (r.id.0 == id.0) r true).1) (unanswered_of es))

pub requeued_flushes : (es : List BookEntry) (id : RequestId) (fs : List Flush) → fs ≡ flushes_among (unanswered_of es) → fs ≡ flushes_among (unanswered_of (map (update_if_id id request_with_issued_cleared) es))
requeued_flushes es id fs is = is ∙ sym (ap flushes_among (after_requeue es id)
    ∙ same_flushes (mark_waiting id) (λ r. (same_marked (r.id.0 == id.0) r false).0) (λ r. (same_marked (r.id.0 == id.0) r false).1) (unanswered_of es))

pub fewer_flushes : (es : List BookEntry) (id : RequestId) (fs left : List Flush) → fs ≡ flushes_among (unanswered_of es) → left ≡ filter (λ (f : Flush). not (f.id.0 == id.0)) fs
    → left ≡ flushes_among (unanswered_of (without_entry id es))
fewer_flushes es id fs left is are = are ∙ (ap (filter (λ (f : Flush). not (f.id.0 == id.0))) is ∙ (left_listed id (unanswered_of es) ∙ ap flushes_among (sym (after_answer es id))))
