-- The book and the machine's book go together.
use Rattle.std.proofs.Common.{min, ℕ, suc, ◌≡◌, ◌↔◌, ◌==◌, ◌&&◌, Bool, true, false, cond, not, List, [], ◌∷◌, ◌++◌, map, refl, sym, ap, ◌∙◌, subst, arith, ⊎_elim}
use Rattle.std.specs.List.{AllZip, Contains, filter}
use Rattle.std.proofs.lemmas.Bool.{cond-true, cond-false}
use Rattle.ata_types.specs.declared.Port.{Port}
use Rattle.ata_types.specs.declared.request.ClientId.{ClientId}
use Rattle.ata_types.specs.declared.request.RequestId.{RequestId}
use Rattle.block_machine.specs.declared.due.QueueMode.{QueueMode}
use Rattle.block_machine.specs.declared.due.Unanswered.{Unanswered}
use Rattle.block_machine.specs.DueRequests.{IsDue, due_of}
use Rattle.block_machine.specs.State.{unanswered, newly_unanswered}
use Rattle.block_machine.specs.State as machine
use Rattle.block_machine.specs.Steps as steps
use Rattle.request_queue.specs.BookEntries.{BookEntry, as_unanswered, unanswered_of, has_id, update_if_id, without_entry, issued_request, request_with_issued_cleared, aged_request, aged_entries, with_revoked_mark_if_under_grant, with_requests_under_grant_revoked, entry_count_of_client, due_ids}
use Rattle.request_queue.specs.BookRelation.{EntryRelation, BookRelation}
use Rattle.request_queue.specs.declared.PendingRequest.{PendingRequest}
use Rattle.request_queue.proofs.Members.{contains_none, contains_here, contains_there, contains_cases, count_cons, map_in, into_map}
use Rattle.request_queue.proofs.Changing.{either_way}
use Rattle.block_machine.specs.Rules.{is_same_grant_name}

-- ---- two lists, place by place

zip_both : {X Y : Type 0} (R : X → Y → Type 0) (f : X → X) (g : Y → Y) → ((x : X) (y : Y) → R x y → R (f x) (g y)) → (xs : List X) (ys : List Y) → AllZip R xs ys → AllZip R (map f xs) (map g ys)
zip_both R f g step [] [] all = tt
zip_both R f g step [] (y ∷ ys) all = absurd all
zip_both R f g step (x ∷ xs) [] all = absurd all
zip_both R f g step (x ∷ xs) (y ∷ ys) all = (step x y all.0, zip_both R f g step xs ys all.1)

zip_right : {X Y : Type 0} (R : X → Y → Type 0) (g : Y → Y) → ((x : X) (y : Y) → R x y → R x (g y)) → (xs : List X) (ys : List Y) → AllZip R xs ys → AllZip R xs (map g ys)
zip_right R g step [] [] all = tt
zip_right R g step [] (y ∷ ys) all = absurd all
zip_right R g step (x ∷ xs) [] all = absurd all
zip_right R g step (x ∷ xs) (y ∷ ys) all = (step x y all.0, zip_right R g step xs ys all.1)

zip_left : {X Y : Type 0} (R : X → Y → Type 0) (f : X → X) → ((x : X) (y : Y) → R x y → R (f x) y) → (xs : List X) (ys : List Y) → AllZip R xs ys → AllZip R (map f xs) ys
zip_left R f step [] [] all = tt
zip_left R f step [] (y ∷ ys) all = absurd all
zip_left R f step (x ∷ xs) [] all = absurd all
zip_left R f step (x ∷ xs) (y ∷ ys) all = (step x y all.0, zip_left R f step xs ys all.1)

zip_filter : {X Y : Type 0} (R : X → Y → Type 0) (p : X → Bool) (q : Y → Bool) → ((x : X) (y : Y) → R x y → p x ≡ q y) → (xs : List X) (ys : List Y) → AllZip R xs ys → AllZip R (filter p xs) (filter q ys)
zip_filter R p q same [] [] all = tt
zip_filter R p q same [] (y ∷ ys) all = absurd all
zip_filter R p q same (x ∷ xs) [] all = absurd all
zip_filter R p q same (x ∷ xs) (y ∷ ys) all = go (p x) (q y) (same x y all.0) (zip_filter R p q same xs ys all.1)
  where
    go : (a b : Bool) → a ≡ b → AllZip R (filter p xs) (filter q ys) → AllZip R (cond a (x ∷ filter p xs) (filter p xs)) (cond b (y ∷ filter q ys) (filter q ys))
    go true true e rest = (all.0, rest)
    go false false e rest = rest
    go true false e rest = let no : true ≡ false = e in cc
    go false true e rest = let no : false ≡ true = e in cc

zip_push : {X Y : Type 0} (R : X → Y → Type 0) (xs : List X) (ys : List Y) (x : X) (y : Y) → AllZip R xs ys → R x y → AllZip R (xs ++ x ∷ []) (ys ++ y ∷ [])
zip_push R [] [] a b all last = (last, tt)
zip_push R [] (y ∷ ys) a b all last = absurd all
zip_push R (x ∷ xs) [] a b all last = absurd all
zip_push R (x ∷ xs) (y ∷ ys) a b all last = (all.0, zip_push R xs ys a b all.1 last)

-- each of the one list has its like in the other
pub like_right : {X Y : Type 0} (R : X → Y → Type 0) (xs : List X) (ys : List Y) → AllZip R xs ys → (x : X) → Contains xs x → (y : Y) × Contains ys y × R x y
like_right R [] ys all x here = absurd (contains_none x here)
like_right R (a ∷ xs) [] all x here = absurd all
like_right R (a ∷ xs) (b ∷ ys) all x here = ⊎_elim
    (λ (same : x ≡ a). (b, contains_here b ys b refl, subst (λ (z : _). R z b) (sym same) all.0))
    (λ later. let r = like_right R xs ys all.1 x later in (r.0, contains_there b ys r.0 r.1, r.2))
    (contains_cases a xs x here)

pub like_left : {X Y : Type 0} (R : X → Y → Type 0) (xs : List X) (ys : List Y) → AllZip R xs ys → (y : Y) → Contains ys y → (x : X) × Contains xs x × R x y
like_left R [] [] all y here = absurd (contains_none y here)
like_left R [] (b ∷ ys) all y here = absurd all
like_left R (a ∷ xs) [] all y here = absurd (contains_none y here)
like_left R (a ∷ xs) (b ∷ ys) all y here = ⊎_elim
    (λ (same : y ≡ b). (a, contains_here a xs a refl, subst (λ (z : _). R a z) (sym same) all.0))
    (λ later. let r = like_left R xs ys all.1 y later in (r.0, contains_there a xs r.0 r.1, r.2))
    (contains_cases b ys y here)

-- ---- one request

same_asks : (a b : Unanswered) → a.id ≡ b.id → a.port ≡ b.port → a.op ≡ b.op → a.range ≡ b.range → a.issued ≡ b.issued → a ≡ b
same_asks a b p q r s t = λ i. record { id = p i; port = q i; op = r i; range = s i; issued = t i }

pub asked_alike : (e : BookEntry) (p : machine.Pending) → EntryRelation e p → unanswered p ≡ as_unanswered e.request
asked_alike e p s = same_asks (unanswered p) (as_unanswered e.request) s.id s.port s.op s.range s.issued

-- the machine's due requests are the book's
pub same_book : (es : List BookEntry) (ps : List machine.Pending) → BookRelation es ps → map unanswered ps ≡ unanswered_of es
same_book [] [] all = refl
same_book [] (p ∷ ps) all = absurd all
same_book (e ∷ es) [] all = absurd all
same_book (e ∷ es) (p ∷ ps) all = ap (λ (u : Unanswered). u ∷ map unanswered ps) (asked_alike e p all.0) ∙ ap (λ (us : List Unanswered). as_unanswered e.request ∷ us) (same_book es ps all.1)

at_both : (id : RequestId) (f : PendingRequest → PendingRequest) (g : machine.Pending → machine.Pending) → ((e : BookEntry) (p : machine.Pending) → EntryRelation e p → EntryRelation (record e { request = f e.request }) (g p))
    → (e : BookEntry) (p : machine.Pending) → EntryRelation e p → EntryRelation (update_if_id id f e) (steps.update_pending id g p)
at_both id f g step e p s = go (has_id id e) refl
  where
    same : (p.request.id.0 == id.0) ≡ has_id id e
    same = ap (λ (i : RequestId). i.0 == id.0) s.id

    go : (b : Bool) → has_id id e ≡ b → EntryRelation (update_if_id id f e) (steps.update_pending id g p)
    go true here =
        subst (λ (x : BookEntry). EntryRelation x (steps.update_pending id g p)) (sym (cond-true (has_id id e) (record e { request = f e.request }) e here))
        (subst (λ (y : machine.Pending). EntryRelation (record e { request = f e.request }) y) (sym (cond-true (p.request.id.0 == id.0) (g p) p (same ∙ here))) (step e p s))
    go false here =
        subst (λ (x : BookEntry). EntryRelation x (steps.update_pending id g p)) (sym (cond-false (has_id id e) (record e { request = f e.request }) e here))
        (subst (λ (y : machine.Pending). EntryRelation e y) (sym (cond-false (p.request.id.0 == id.0) (g p) p (same ∙ here))) s)

one_issued : (e : BookEntry) (p : machine.Pending) → EntryRelation e p → EntryRelation (record e { request = issued_request e.request }) (steps.newly_issued p)
one_issued e p s = record { id = s.id; client = s.client; grant = s.grant; port = s.port; op = s.op; range = s.range; frames = s.frames; issued = refl; issues = ap suc s.issues; age = refl }

one_waits : (e : BookEntry) (p : machine.Pending) → EntryRelation e p → EntryRelation (record e { request = request_with_issued_cleared e.request }) (steps.requeued p)
one_waits e p s = record { id = s.id; client = s.client; grant = s.grant; port = s.port; op = s.op; range = s.range; frames = s.frames; issued = refl; issues = s.issues; age = s.age }

one_touched : (i : ℕ) (e : BookEntry) (p : machine.Pending) → EntryRelation e p → EntryRelation e (steps.touch i p)
one_touched i e p s = record { id = s.id; client = s.client; grant = s.grant; port = s.port; op = s.op; range = s.range; frames = s.frames; issued = s.issued; issues = s.issues; age = s.age }

one_ended : (e : BookEntry) (p : machine.Pending) → EntryRelation e p → EntryRelation e (steps.mark_ended p)
one_ended e p s = record { id = s.id; client = s.client; grant = s.grant; port = s.port; op = s.op; range = s.range; frames = s.frames; issued = s.issued; issues = s.issues; age = s.age }

at_right : (id : RequestId) (g : machine.Pending → machine.Pending) → ((e : BookEntry) (p : machine.Pending) → EntryRelation e p → EntryRelation e (g p))
    → (e : BookEntry) (p : machine.Pending) → EntryRelation e p → EntryRelation e (steps.update_pending id g p)
at_right id g step e p s = go (p.request.id.0 == id.0) refl
  where
    go : (b : Bool) → (p.request.id.0 == id.0) ≡ b → EntryRelation e (steps.update_pending id g p)
    go true here = subst (λ (y : machine.Pending). EntryRelation e y) (sym (cond-true (p.request.id.0 == id.0) (g p) p here)) (step e p s)
    go false here = subst (λ (y : machine.Pending). EntryRelation e y) (sym (cond-false (p.request.id.0 == id.0) (g p) p here)) s

one_revoked : (client : ClientId) (grant : ℕ) (e : BookEntry) (p : machine.Pending) → EntryRelation e p → EntryRelation (record e { request = with_revoked_mark_if_under_grant client grant e.request }) p
one_revoked client grant e p s = either_way (λ (r : PendingRequest). EntryRelation (record e { request = r }) p) (is_same_grant_name client grant e.request.client e.request.grant) (record (e.request) { revoked = true }) e.request
    (record { id = s.id; client = s.client; grant = s.grant; port = s.port; op = s.op; range = s.range; frames = s.frames; issued = s.issued; issues = s.issues; age = s.age }) s

one_older : (ports : Port → Bool) (e : BookEntry) (p : machine.Pending) → EntryRelation e p → EntryRelation (record e { request = aged_request ports e.request }) (steps.aged_pending ports p)
one_older ports e p s = go (e.request.issued && ports e.request.port) refl
  where
    same : (p.issued && ports p.request.port) ≡ (e.request.issued && ports e.request.port)
    same = ap (λ (b : Bool). b && ports p.request.port) s.issued ∙ ap (λ (q : Port). e.request.issued && ports q) s.port

    go : (b : Bool) → (e.request.issued && ports e.request.port) ≡ b → EntryRelation (record e { request = aged_request ports e.request }) (steps.aged_pending ports p)
    go true here =
        subst (λ (r : PendingRequest). EntryRelation (record e { request = r }) (steps.aged_pending ports p)) (sym (cond-true (e.request.issued && ports e.request.port) (record (e.request) { age = min (suc e.request.age) 3 }) e.request here))
        (subst (λ (y : machine.Pending). EntryRelation (record e { request = record (e.request) { age = min (suc e.request.age) 3 } }) y) (sym (cond-true (p.issued && ports p.request.port) (record p { age = suc p.age }) p (same ∙ here)))
        (record { id = s.id; client = s.client; grant = s.grant; port = s.port; op = s.op; range = s.range; frames = s.frames; issued = s.issued; issues = s.issues; age = (let a = s.age in omega (arith, a)) }))
    go false here =
        subst (λ (r : PendingRequest). EntryRelation (record e { request = r }) (steps.aged_pending ports p)) (sym (cond-false (e.request.issued && ports e.request.port) (record (e.request) { age = min (suc e.request.age) 3 }) e.request here))
        (subst (λ (y : machine.Pending). EntryRelation e y) (sym (cond-false (p.issued && ports p.request.port) (record p { age = suc p.age }) p (same ∙ here))) s)

-- ---- a step of each

pub goes_last : (es : List BookEntry) (ps : List machine.Pending) (e : BookEntry) (p : machine.Pending) → BookRelation es ps → EntryRelation e p → BookRelation (es ++ e ∷ []) (ps ++ p ∷ [])
goes_last es ps e p is last = zip_push EntryRelation es ps e p is last

pub is_issued : (es : List BookEntry) (ps : List machine.Pending) (id : RequestId) → BookRelation es ps → BookRelation (map (update_if_id id issued_request) es) (map (steps.update_pending id steps.newly_issued) ps)
is_issued es ps id is = zip_both EntryRelation (update_if_id id issued_request) (steps.update_pending id steps.newly_issued) (at_both id issued_request steps.newly_issued one_issued) es ps is

pub waits_again : (es : List BookEntry) (ps : List machine.Pending) (id : RequestId) → BookRelation es ps → BookRelation (map (update_if_id id request_with_issued_cleared) es) (map (steps.update_pending id steps.requeued) ps)
waits_again es ps id is = zip_both EntryRelation (update_if_id id request_with_issued_cleared) (steps.update_pending id steps.requeued) (at_both id request_with_issued_cleared steps.requeued one_waits) es ps is

pub is_answered : (es : List BookEntry) (ps : List machine.Pending) (id : RequestId) → BookRelation es ps → BookRelation (without_entry id es) (steps.without_pending id ps)
is_answered es ps id is = zip_filter EntryRelation (λ e. not (has_id id e)) (λ p. not (p.request.id.0 == id.0)) (λ e p s. ap (λ (i : RequestId). not (i.0 == id.0)) (sym s.id)) es ps is

pub is_older : (es : List BookEntry) (ps : List machine.Pending) (ports : Port → Bool) → BookRelation es ps → BookRelation (aged_entries ports es) (map (steps.aged_pending ports) ps)
is_older es ps ports is = zip_both EntryRelation (λ (e : BookEntry). record e { request = aged_request ports e.request }) (steps.aged_pending ports) (one_older ports) es ps is

pub is_revoked : (es : List BookEntry) (ps : List machine.Pending) (client : ClientId) (grant : ℕ) → BookRelation es ps → BookRelation (with_requests_under_grant_revoked client grant es) ps
is_revoked es ps client grant is = zip_left EntryRelation (λ (e : BookEntry). record e { request = with_revoked_mark_if_under_grant client grant e.request }) (one_revoked client grant) es ps is

pub is_touched : (es : List BookEntry) (ps : List machine.Pending) (id : RequestId) (i : ℕ) → BookRelation es ps → BookRelation es (map (steps.update_pending id (steps.touch i)) ps)
is_touched es ps id i is = zip_right EntryRelation (steps.update_pending id (steps.touch i)) (at_right id (steps.touch i) (one_touched i)) es ps is

pub is_ended_at_age_two : (es : List BookEntry) (ps : List machine.Pending) (id : RequestId) → BookRelation es ps → BookRelation es (map (steps.update_pending id steps.mark_ended) ps)
is_ended_at_age_two es ps id is = zip_right EntryRelation (steps.update_pending id steps.mark_ended) (at_right id steps.mark_ended one_ended) es ps is

-- ---- what is due is the machine's

-- the machine's law, that the due requests of a port are listed exactly
abbrev pub DueIsExact : Type 0
DueIsExact = (mode : QueueMode) (port : Port) (book : List Unanswered) (r : Unanswered) → r.port ≡ port → Contains (due_of mode port book) r ↔ IsDue mode book r

abbrev pub DueIsOwn : Type 0
DueIsOwn = (mode : QueueMode) (port : Port) (book : List Unanswered) (r : Unanswered) → Contains (due_of mode port book) r → r.port ≡ port

-- an id of the due list is a due request of the machine's book
pub due_there : DueIsExact → DueIsOwn → (mode : QueueMode) (port : Port) (es : List BookEntry) (ps : List machine.Pending) (id : RequestId) → BookRelation es ps → Contains (due_ids mode port (unanswered_of es)) id
    → (p : machine.Pending) × Contains ps p × (p.request.id ≡ id) × (p.request.port ≡ port) × IsDue mode (map unanswered ps) (unanswered p)
due_there exact of_port mode port es ps id is h =
    let e = same_book es ps is in
    let u = ids_in (due_of mode port (unanswered_of es)) h in
    let own = of_port mode port (unanswered_of es) u.0 u.1 in
    let due = (exact mode port (unanswered_of es) u.0 own).0 u.1 in
    let due' : IsDue mode (map unanswered ps) u.0 = subst (λ (b : List Unanswered). IsDue mode b u.0) (sym e) due in
    let p = map_in unanswered ps u.0 due'.is_in_book in (
      p.0,
      p.1,
      ap (λ (x : Unanswered). x.id) (sym p.2) ∙ sym u.2,
      ap (λ (x : Unanswered). x.port) (sym p.2) ∙ own,
      subst (λ (x : Unanswered). IsDue mode (map unanswered ps) x) p.2 due',
    )
  where
    ids_in : (us : List Unanswered) → Contains (map (λ (x : Unanswered). x.id) us) id → (u : Unanswered) × Contains us u × (id ≡ u.id)
    ids_in us k = map_in (λ (x : Unanswered). x.id) us id k

-- and each due request of the machine's book on the port is in the list
pub due_listed : DueIsExact → (mode : QueueMode) (port : Port) (es : List BookEntry) (ps : List machine.Pending) (p : machine.Pending) → BookRelation es ps → p.request.port ≡ port
    → IsDue mode (map unanswered ps) (unanswered p) → Contains (due_ids mode port (unanswered_of es)) p.request.id
due_listed exact mode port es ps p is own due =
    let d = subst (λ (b : List Unanswered). IsDue mode b (unanswered p)) (same_book es ps is) due in
    into_map (λ (x : Unanswered). x.id) (due_of mode port (unanswered_of es)) (unanswered p) ((exact mode port (unanswered_of es) (unanswered p) own).1 d)

-- ---- as many of each client

pub as_many : (es : List BookEntry) (ps : List machine.Pending) (client : ClientId) → BookRelation es ps → steps.unanswered_count ps client ≡ entry_count_of_client es client.0
as_many [] [] client all = refl
as_many [] (p ∷ ps) client all = absurd all
as_many (e ∷ es) [] client all = absurd all
as_many (e ∷ es) (p ∷ ps) client all =
    let rest = as_many es ps client all.1 in
    let first : ◌≡◌ {A = ℕ} (cond (p.request.asked.client.0 == client.0) 1 0) (cond (e.request.client.0 == client.0) 1 0) = ap (λ (c : ClientId). cond {A = ℕ} (c.0 == client.0) 1 0) all.0.client in
    omega (arith, rest, first, count_cons (λ (x : machine.Pending). x.request.asked.client.0 == client.0) p ps, count_cons (λ (x : BookEntry). x.request.client.0 == client.0) e es)
