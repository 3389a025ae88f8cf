-- What a change of one request makes of the book, and that the book stays in order.
use Rattle.std.proofs.Common.{min, ℕ, zero, suc, ◌≡◌, ◌≢◌, ◌⊎◌, ◌<◌, ◌≤◌, ◌+◌, ◌==◌, ◌&&◌, Bool, true, false, cond, not, List, [], ◌∷◌, ◌++◌, length, get_or, set, map, Option, Some, None, refl, sym, ap, ◌∙◌, subst, arith, ⊎_elim, inl, inr, eqb-true, eq-eqb}
use Rattle.std.specs.List.{All, AllPairs, Contains, count_by, remove, slice_get}
use Rattle.std.proofs.lemmas.Bool.{cond-true, cond-false, cases_eq, cases_lt, ne_eqb, false≢true}
use Rattle.std.proofs.lemmas.List.{get_or-map, length-map, get_or-set_same, get_or-set_other, length-set, same_lists, get_or_default}
use Rattle.std.proofs.lemmas.List.Elements.{All-push, All-contains, All-filter}
use Rattle.std.proofs.lemmas.List.Kept.{AllPairs-filter}
use Rattle.std.proofs.lemmas.List.Quantifiers.{all_pairs_push}
use Rattle.std.specs.Option.{IfSome}
use Rattle.std.proofs.lemmas.Option.{slice_get-get_or, slice_get_within, get_or_from_slice_get, same_Some}
use Rattle.ata_types.specs.declared.limits.TheConstants.{MOST_UNANSWERED_OF_A_CLIENT}
use Rattle.ata_types.specs.declared.Port.{Port}
use Rattle.ata_types.specs.declared.request.ClientId.{ClientId}
use Rattle.ata_types.specs.declared.request.RequestId.{RequestId}
use Rattle.block_machine.specs.declared.due.Unanswered.{Unanswered}
use Rattle.block_machine.specs.DueRequests as machine
use Rattle.request_queue.specs.BookEntries.{BookEntry, as_unanswered, unanswered_of, has_id, update_if_id, without_entry, issued_request, request_with_issued_cleared, aged_request, with_revoked_mark_if_under_grant, entry_count_of_client, IsEarlier, BookIsWellFormed, IssuesAreWithinLimit, IsNewlyAccepted}
use Rattle.request_queue.specs.declared.PendingRequest.{PendingRequest}
use Rattle.request_queue.proofs.Members.{count_cons, count_append, count_map, contains_here, contains_there, contains_cases}
use Rattle.block_machine.specs.Rules.{is_same_grant_name}

-- ---- by place

pub there : (es : List BookEntry) (place : ℕ) (e : BookEntry) → slice_get es place ≡ Some e → Contains es e
there es place e h = (place, slice_get_within es place e h, get_or_from_slice_get es place e e h)

pub request_is : (es : List BookEntry) (place : ℕ) (r : PendingRequest) (d : BookEntry) → slice_get (map (λ (e : BookEntry). e.request) es) place ≡ Some r → (get_or es place d).request ≡ r
request_is es place r d h =
    let within = slice_get_within (map (λ (e : BookEntry). e.request) es) place r h in
    let lt : place < length es = omega (arith, within, length-map es (λ (e : BookEntry). e.request)) in
    sym (get_or-map (λ (e : BookEntry). e.request) es place d d.request lt) ∙ get_or_from_slice_get (map (λ (e : BookEntry). e.request) es) place r d.request h

pub request_at : (es : List BookEntry) (place : ℕ) (r : PendingRequest) (e : BookEntry) → slice_get (map (λ (x : BookEntry). x.request) es) place ≡ Some r → slice_get es place ≡ Some e → e.request ≡ r
request_at es place r e h is = ap (λ (x : BookEntry). x.request) (sym (get_or_from_slice_get es place e e is)) ∙ request_is es place r e h

pub place_within : (es : List BookEntry) (place : ℕ) (r : PendingRequest) → slice_get (map (λ (e : BookEntry). e.request) es) place ≡ Some r → place < length es
place_within es place r h = let within = slice_get_within (map (λ (e : BookEntry). e.request) es) place r h in omega (arith, within, length-map es (λ (e : BookEntry). e.request))

-- two of one id are one
pub one_by_id : (es : List BookEntry) (a b : BookEntry) → AllPairs IsEarlier es → Contains es a → Contains es b → a.request.id.0 ≡ b.request.id.0 → a ≡ b
one_by_id es a b ordered x y same = ⊎_elim
    (λ (low : x.0 < y.0). let lt = ordered x.0 y.0 a low y.1 in
    let p = ap (λ (e : BookEntry). e.request.id.0) x.2 in
    let q = ap (λ (e : BookEntry). e.request.id.0) (get_or_default es y.0 a b y.1 ∙ y.2) in
    absurd (omega (arith, lt, p, q, same)))
    (λ (high : y.0 ≤ x.0). ⊎_elim
    (λ (e : x.0 ≡ y.0). sym x.2 ∙ (ap (λ (n : ℕ). get_or es n a) e ∙ (get_or_default es y.0 a b y.1 ∙ y.2)))
    (λ (ne : x.0 ≢ y.0). let lt = ordered y.0 x.0 a (omega (arith, high, ne)) x.1 in
    let p = ap (λ (e : BookEntry). e.request.id.0) x.2 in
    let q = ap (λ (e : BookEntry). e.request.id.0) (get_or_default es y.0 a b y.1 ∙ y.2) in
    absurd (omega (arith, lt, p, q, same)))
    (cases_eq x.0 y.0))
    (cases_lt x.0 y.0)

-- another state at the place of a request is a change of the request with its id
pub changed_at : (es : List BookEntry) (place : ℕ) (e : BookEntry) (id : RequestId) (f : PendingRequest → PendingRequest) → AllPairs IsEarlier es → slice_get es place ≡ Some e → e.request.id ≡ id
    → set es place (record e { request = f e.request }) ≡ map (update_if_id id f) es
changed_at es place e id f ordered is named =
    same_lists (set es place new) (map (update_if_id id f) es) (length-set es place new ∙ sym (length-map es (update_if_id id f))) each
  where
    new : BookEntry
    new = record e { request = f e.request }

    within : place < length es
    within = slice_get_within es place e is

    each : (k : ℕ) (d : BookEntry) → k < length (set es place new) → get_or (set es place new) k d ≡ get_or (map (update_if_id id f) es) k d
    each k d lt =
        let short : k < length es = omega (arith, lt, length-set es place new) in
        ⊎_elim
        (λ (same : k ≡ place).
        ap (λ (n : ℕ). get_or (set es place new) n d) same
        ∙ (get_or-set_same es place new d within
        ∙ sym (ap (λ (n : ℕ). get_or (map (update_if_id id f) es) n d) same
        ∙ (get_or-map (update_if_id id f) es place d d within
        ∙ (ap (update_if_id id f) (get_or_from_slice_get es place e d is)
        ∙ cond-true (has_id id e) new e (eq-eqb e.request.id.0 id.0 (ap (λ (i : RequestId). i.0) named)))))))
        (λ (ne : k ≢ place).
        get_or-set_other es place k new d ne
        ∙ sym (get_or-map (update_if_id id f) es k d d short
        ∙ cond-false (has_id id (get_or es k d)) (record (get_or es k d) { request = f (get_or es k d).request }) (get_or es k d)
        (ne_eqb (get_or es k d).request.id.0 id.0 (apart k d ne short))))
        (cases_eq k place)
      where
        apart : (k : ℕ) (d : BookEntry) → k ≢ place → k < length es → (get_or es k d).request.id.0 ≢ id.0
        apart k d ne short same =
            let its = ap (λ (x : BookEntry). x.request.id.0) (get_or_from_slice_get es place e d is) in
            let n = ap (λ (i : RequestId). i.0) named in
            ⊎_elim
            (λ (low : k < place). let lt = ordered k place d low within in omega (arith, lt, its, n, same))
            (λ (high : place ≤ k). let lt = ordered place k d (omega (arith, high, ne)) short in omega (arith, lt, its, n, same))
            (cases_lt k place)

pub rest_ordered : (x : BookEntry) (xs : List BookEntry) → AllPairs IsEarlier (x ∷ xs) → AllPairs IsEarlier xs
rest_ordered x xs ordered i j d lt small = ordered (suc i) (suc j) d (omega (arith, lt)) (omega (arith, small))

pub later_than : (x : BookEntry) (xs : List BookEntry) (y : BookEntry) → AllPairs IsEarlier (x ∷ xs) → Contains xs y → x.request.id.0 < y.request.id.0
later_than x xs y ordered h =
    let lt : x.request.id.0 < (get_or xs h.0 y).request.id.0 = ordered 0 (suc h.0) y (omega arith) (let l = h.1 in omega (arith, l)) in
    subst (λ (z : BookEntry). x.request.id.0 < z.request.id.0) h.2 lt

none_named : (id : RequestId) (xs : List BookEntry) → ((y : BookEntry) → Contains xs y → has_id id y ≡ false) → without_entry id xs ≡ xs
none_named id [] none = refl
none_named id (x ∷ xs) none =
    cond-true (not (has_id id x)) (x ∷ without_entry id xs) (without_entry id xs) (ap not (none x (contains_here x xs x refl)))
    ∙ ap (λ (ys : List BookEntry). x ∷ ys) (none_named id xs (λ y h. none y (contains_there x xs y h)))

-- a place taken out is a request taken out
pub dropped_at : (es : List BookEntry) (place : ℕ) (e : BookEntry) (id : RequestId) → AllPairs IsEarlier es → slice_get es place ≡ Some e → e.request.id ≡ id → remove es place ≡ without_entry id es
dropped_at [] place e id ordered is named = let no : ◌≡◌ {A = Option BookEntry} None (Some e) = is in cc
dropped_at (x ∷ xs) zero e id ordered is named =
    let same : x ≡ e = same_Some x e is in
    let its : x.request.id.0 ≡ id.0 = ap (λ (y : BookEntry). y.request.id.0) same ∙ ap (λ (i : RequestId). i.0) named in
    sym (cond-false (not (has_id id x)) (x ∷ without_entry id xs) (without_entry id xs) (ap not (eq-eqb x.request.id.0 id.0 its))
    ∙ none_named id xs (λ y h. ne_eqb y.request.id.0 id.0 (λ same. let lt = later_than x xs y ordered h in let f : ⊥ = omega (arith, lt, same, its) in f)))
dropped_at (x ∷ xs) (suc place) e id ordered is named =
    let rest = dropped_at xs place e id (rest_ordered x xs ordered) is named in
    let lt = later_than x xs e ordered (there xs place e is) in
    ap (λ (ys : List BookEntry). x ∷ ys) rest
    ∙ sym (cond-true (not (has_id id x)) (x ∷ without_entry id xs) (without_entry id xs)
    (ap not (ne_eqb x.request.id.0 id.0 (λ same. let n = ap (λ (i : RequestId). i.0) named in let f : ⊥ = omega (arith, lt, same, n) in f))))

-- ---- the book stays in order

-- what each change leaves of a request
pub record Leaves (e x : BookEntry) : Type 0 where
  pub id : x.request.id.0 ≡ e.request.id.0
  pub client : x.request.client.0 ≡ e.request.client.0
  pub issues : IssuesAreWithinLimit x.request

pub changed_in_order : (es : List BookEntry) (g : BookEntry → BookEntry) → ((e : BookEntry) → Contains es e → Leaves e (g e)) → BookIsWellFormed es → BookIsWellFormed (map g es)
changed_in_order es g leaves s = record {
  ids_rise = λ i j d lt below.
      let inside : j < length es = short j below in
      let a = s.ids_rise i j d lt inside in
      let x = at_place i d (omega (arith, lt, inside)) in
      let y = at_place j d inside in
      let p = ap (λ (z : BookEntry). z.request.id.0) x.1 in
      let q = ap (λ (z : BookEntry). z.request.id.0) y.1 in
      omega (arith, a, p, q, x.0.id, y.0.id);
  clients_are_valid = λ i d below.
      let x = at_place i d (short i below) in
      let c = s.clients_are_valid i d (short i below) in
      let p = ap (λ (z : BookEntry). z.request.client.0) x.1 in
      (omega (arith, c.0, p, x.0.client), omega (arith, c.1, p, x.0.client));
  clients_are_within_limit = λ client.
      let f = s.clients_are_within_limit client in
      let same : entry_count_of_client (map g es) client ≡ entry_count_of_client es client =
      count_map (λ (e : BookEntry). e.request.client.0 == client) (λ (e : BookEntry). e.request.client.0 == client) g es (λ y h. ap (λ (n : ℕ). n == client) (leaves y h).client) in
      omega (arith, f, same);
  issues_are_within_limit = λ i d below.
      let x = at_place i d (short i below) in
      subst (λ (z : BookEntry). IssuesAreWithinLimit z.request) (sym x.1) x.0.issues;
}
  where
    short : (k : ℕ) → k < length (map g es) → k < length es
    short k below = omega (arith, below, length-map es g)

    at_place : (k : ℕ) (d : BookEntry) → k < length es → Leaves (get_or es k d) (g (get_or es k d)) × (get_or (map g es) k d ≡ g (get_or es k d))
    at_place k d lt = (leaves (get_or es k d) (k, lt, get_or_default es k (get_or es k d) d lt), get_or-map g es k d d lt)

-- a change of one request, that the request bears
pub one_in_order : (es : List BookEntry) (id : RequestId) (f : PendingRequest → PendingRequest) → ((r : PendingRequest) → (f r).id.0 ≡ r.id.0) → ((r : PendingRequest) → (f r).client.0 ≡ r.client.0)
    → ((e : BookEntry) → Contains es e → e.request.id.0 ≡ id.0 → IssuesAreWithinLimit (f e.request)) → BookIsWellFormed es → BookIsWellFormed (map (update_if_id id f) es)
one_in_order es id f ids clients bears s = changed_in_order es (update_if_id id f) (λ e h. go e h (has_id id e) refl) s
  where
    go : (e : BookEntry) → Contains es e → (b : Bool) → has_id id e ≡ b → Leaves e (update_if_id id f e)
    go e h true named = subst (λ (x : BookEntry). Leaves e x) (sym (cond-true (has_id id e) (record e { request = f e.request }) e named))
        (record { id = ids e.request; client = clients e.request; issues = bears e h (eqb-true e.request.id.0 id.0 named) })
    go e h false named = subst (λ (x : BookEntry). Leaves e x) (sym (cond-false (has_id id e) (record e { request = f e.request }) e named))
        (record { id = refl; client = refl; issues = All-contains (λ (x : BookEntry). IssuesAreWithinLimit x.request) es e s.issues_are_within_limit h })

pub issued_in_order : (es : List BookEntry) (id : RequestId) (e : BookEntry) → BookIsWellFormed es → Contains es e → e.request.id ≡ id → e.request.issued ≡ false → BookIsWellFormed (map (update_if_id id issued_request) es)
issued_in_order es id e s here named waits = one_in_order es id issued_request (λ r. refl) (λ r. refl) bears s
  where
    bears : (x : BookEntry) → Contains es x → x.request.id.0 ≡ id.0 → IssuesAreWithinLimit (issued_request x.request)
    bears x h same =
        let is : x ≡ e = one_by_id es x e s.ids_rise h here (same ∙ sym (ap (λ (i : RequestId). i.0) named)) in
        let left = (All-contains (λ (y : BookEntry). IssuesAreWithinLimit y.request) es e s.issues_are_within_limit here).1 waits in
        let n = ap (λ (y : BookEntry). y.request.issue_count) is in
        (omega (arith, left, n), λ no. absurd (false≢true (sym no)))

pub waiting_in_order : (es : List BookEntry) (id : RequestId) (e : BookEntry) → BookIsWellFormed es → Contains es e → e.request.id ≡ id → e.request.issue_count < 4 → BookIsWellFormed (map (update_if_id id request_with_issued_cleared) es)
waiting_in_order es id e s here named few = one_in_order es id request_with_issued_cleared (λ r. refl) (λ r. refl) bears s
  where
    bears : (x : BookEntry) → Contains es x → x.request.id.0 ≡ id.0 → IssuesAreWithinLimit (request_with_issued_cleared x.request)
    bears x h same =
        let is : x ≡ e = one_by_id es x e s.ids_rise h here (same ∙ sym (ap (λ (i : RequestId). i.0) named)) in
        let n = ap (λ (y : BookEntry). y.request.issue_count) is in
        (omega (arith, few, n), λ no. omega (arith, few, n))

pub longer_in_order : (es : List BookEntry) (e : BookEntry) → BookIsWellFormed es → All (λ x. x.request.id.0 < e.request.id.0) es → IsNewlyAccepted e.request → 1 ≤ e.request.client.0 → e.request.client.0 ≤ 8
    → entry_count_of_client es e.request.client.0 < MOST_UNANSWERED_OF_A_CLIENT → BookIsWellFormed (es ++ e ∷ [])
longer_in_order es e s newest fresh low high has_room = record {
  ids_rise = all_pairs_push IsEarlier es e s.ids_rise newest;
  clients_are_valid = All-push (λ (x : BookEntry). (1 ≤ x.request.client.0) × (x.request.client.0 ≤ 8)) es e s.clients_are_valid (low, high);
  clients_are_within_limit = λ client. few client (cases_eq e.request.client.0 client);
  issues_are_within_limit = All-push (λ (x : BookEntry). IssuesAreWithinLimit x.request) es e s.issues_are_within_limit (let n = fresh.1 in (omega (arith, n), λ no. omega (arith, n)));
}
  where
    counted : (client : ℕ) → entry_count_of_client (es ++ e ∷ []) client ≡ entry_count_of_client es client + cond {A = ℕ} (e.request.client.0 == client) 1 0
    counted client =
        let p : BookEntry → Bool = λ x. x.request.client.0 == client in
        let a = count_append p es (e ∷ []) in
        let b = count_cons p e [] in
        omega (arith, a, b)

    small : (b : Bool) → cond {A = ℕ} b 1 0 ≤ 1
    small true = omega arith
    small false = omega arith

    few : (client : ℕ) → (e.request.client.0 ≡ client) ⊎ (e.request.client.0 ≢ client) → entry_count_of_client (es ++ e ∷ []) client ≤ MOST_UNANSWERED_OF_A_CLIENT
    few client (inl is) =
        let P : ℕ → Type 0 = λ n. entry_count_of_client es n < MOST_UNANSWERED_OF_A_CLIENT in
        let here = subst P is has_room in
        omega (arith, counted client, small (e.request.client.0 == client), here)
    few client (inr other) =
        let none : ◌≡◌ {A = ℕ} (cond (e.request.client.0 == client) 1 0) 0 = cond-false (e.request.client.0 == client) 1 0 (ne_eqb e.request.client.0 client other) in
        omega (arith, counted client, none, s.clients_are_within_limit client)

-- ---- and as each is changed

-- each of them changed
abbrev pub all_changed : (PendingRequest → PendingRequest) → List BookEntry → List BookEntry
all_changed f es = map (λ (e : BookEntry). record e { request = f e.request }) es

-- a test's change of an entry, or none, has what both have
pub either_way : (P : PendingRequest → Type 0) (b : Bool) (x y : PendingRequest) → P x → P y → P (cond b x y)
either_way P true x y p q = p
either_way P false x y p q = q

-- what a change of all leaves of an entry
pub record Spares (r x : PendingRequest) : Type 0 where
  pub asked : as_unanswered x ≡ as_unanswered r
  pub client : x.client ≡ r.client
  pub issues : x.issue_count ≡ r.issue_count

pub older_spares : (ports : Port → Bool) (r : PendingRequest) → Spares r (aged_request ports r)
older_spares ports r = either_way (Spares r) (r.issued && ports r.port) (record r { age = min (suc r.age) 3 }) r
    (record { asked = refl; client = refl; issues = refl }) (record { asked = refl; client = refl; issues = refl })

pub revoked_spares : (client : ClientId) (grant : ℕ) (r : PendingRequest) → Spares r (with_revoked_mark_if_under_grant client grant r)
revoked_spares client grant r = either_way (Spares r) (is_same_grant_name client grant r.client r.grant) (record r { revoked = true }) r
    (record { asked = refl; client = refl; issues = refl }) (record { asked = refl; client = refl; issues = refl })

pub all_in_order : (f : PendingRequest → PendingRequest) → ((r : PendingRequest) → Spares r (f r)) → (es : List BookEntry) → BookIsWellFormed es → BookIsWellFormed (all_changed f es)
all_in_order f spares es s = changed_in_order es (λ (e : BookEntry). record e { request = f e.request }) leaves s
  where
    leaves : (e : BookEntry) → Contains es e → Leaves e (record e { request = f e.request })
    leaves e h =
        let k = spares e.request in
        let left : IssuesAreWithinLimit e.request = All-contains (λ (x : BookEntry). IssuesAreWithinLimit x.request) es e s.issues_are_within_limit h in
        record {
          id = ap (λ (u : Unanswered). u.id.0) k.asked;
          client = ap (λ (c : ClientId). c.0) k.client;
          issues = subst (λ (n : ℕ). (n ≤ 4) × ((f e.request).issued ≡ false → n < 4)) (sym k.issues) (left.0, λ waits. left.1 (sym (ap (λ (u : Unanswered). u.issued) k.asked) ∙ waits));
        }

pub all_asked : (f : PendingRequest → PendingRequest) → ((r : PendingRequest) → Spares r (f r)) → (es : List BookEntry) → unanswered_of (all_changed f es) ≡ unanswered_of es
all_asked f spares [] = refl
all_asked f spares (e ∷ es) =
    ap (λ (u : Unanswered). u ∷ unanswered_of (all_changed f es)) (spares e.request).asked
    ∙ ap (λ (us : List Unanswered). as_unanswered e.request ∷ us) (all_asked f spares es)

-- those before a place are changed, and the others are as they were
pub record ChangedSoFar (f : PendingRequest → PendingRequest) (old now : List BookEntry) (place : ℕ) : Type 0 where
  pub done : (k : ℕ) (d : BookEntry) → k < place → k < length old → get_or now k d ≡ record (get_or old k d) { request = f (get_or old k d).request }
  pub rest : (k : ℕ) (d : BookEntry) → place ≤ k → get_or now k d ≡ get_or old k d
  pub long : length now ≡ length old

one_changed_more : (f : PendingRequest → PendingRequest) (old now : List BookEntry) (place : ℕ) (e : BookEntry) (r : PendingRequest) → ChangedSoFar f old now place → slice_get now place ≡ Some e → r ≡ f e.request
    → ChangedSoFar f old (set now place (record e { request = r })) (place + 1)
one_changed_more f old now place e r so_far is changed = record {
  done = λ k d lt short. ⊎_elim
      (λ (here : k ≡ place).
      let its : get_or old k d ≡ e = ap (λ (n : ℕ). get_or old n d) here ∙ (sym (so_far.rest place d (omega arith)) ∙ get_or_from_slice_get now place e d is) in
      ap (λ (n : ℕ). get_or (set now place new) n d) here
      ∙ (get_or-set_same now place new d (slice_get_within now place e is)
      ∙ (ap (λ (x : PendingRequest). record e { request = x }) changed
      ∙ ap (λ (x : BookEntry). record x { request = f x.request }) (sym its))))
      (λ (other : k ≢ place). get_or-set_other now place k new d other ∙ so_far.done k d (omega (arith, lt, other)) short)
      (cases_eq k place);
  rest = λ k d le. get_or-set_other now place k new d (λ here. let no : ⊥ = omega (arith, here, le) in no) ∙ so_far.rest k d (omega (arith, le));
  long = length-set now place new ∙ so_far.long;
}
  where
    new : BookEntry
    new = record e { request = r }

pub all_are_changed : (f : PendingRequest → PendingRequest) (old now : List BookEntry) (place : ℕ) → length old ≤ place → ChangedSoFar f old now place → now ≡ all_changed f old
all_are_changed f old now place all so_far =
    same_lists now (all_changed f old) (so_far.long ∙ sym (length-map old (λ (e : BookEntry). record e { request = f e.request })))
    (λ k d lt.
    let short : k < length old = omega (arith, lt, so_far.long) in
    so_far.done k d (omega (arith, short, all)) short ∙ sym (get_or-map (λ (e : BookEntry). record e { request = f e.request }) old k d d short))

-- the request in a place, changed, keeps its id
pub keeps_its_id : (f : PendingRequest → PendingRequest) → ((r : PendingRequest) → Spares r (f r)) → (es : List BookEntry) (place : ℕ) (r x : PendingRequest) → slice_get (map (λ (e : BookEntry). e.request) es) place ≡ Some r → x ≡ f r
    → IfSome (slice_get es place) (λ old. x.id ≡ old.request.id)
keeps_its_id f spares es place r x is changed =
    let d : BookEntry = record { request = r; frames = [] } in
    subst (λ (o : Option BookEntry). IfSome o (λ old. x.id ≡ old.request.id)) (sym (slice_get-get_or es place d (place_within es place r is)))
    (ap (λ (y : PendingRequest). y.id) changed ∙ (ap (λ (u : Unanswered). u.id) (spares r).asked ∙ ap (λ (y : PendingRequest). y.id) (sym (request_is es place r d is))))

-- and put back it is one changed more
pub next_changed : (f : PendingRequest → PendingRequest) (old now later : List BookEntry) (place : ℕ) (r x : PendingRequest) → ChangedSoFar f old now place → slice_get (map (λ (e : BookEntry). e.request) now) place ≡ Some r → x ≡ f r
    → (e : BookEntry) × (slice_get now place ≡ Some e) × (later ≡ set now place (record e { request = x })) → ChangedSoFar f old later (place + 1)
next_changed f old now later place r x so_far is changed e =
    subst (λ (es : List BookEntry). ChangedSoFar f old es (place + 1)) (sym e.2)
    (one_changed_more f old now place e.0 x so_far e.1 (changed ∙ ap f (sym (request_at now place r e.0 is e.1))))

-- ---- and as one goes

pub without_in : (id : RequestId) (es : List BookEntry) (e : BookEntry) → Contains (without_entry id es) e → Contains es e
without_in id [] e h = h
without_in id (x ∷ xs) e h = go (not (has_id id x)) (λ k. without_in id xs e k) h
  where
    go : (b : Bool) → (Contains (without_entry id xs) e → Contains xs e) → Contains (cond b (x ∷ without_entry id xs) (without_entry id xs)) e → Contains (x ∷ xs) e
    go true rest k = ⊎_elim (λ same. contains_here x xs e same) (λ later. contains_there x xs e (rest later)) (contains_cases x (without_entry id xs) e k)
    go false rest k = contains_there x xs e (rest k)

fewer_counted : (id : RequestId) (p : BookEntry → Bool) (es : List BookEntry) → count_by p (without_entry id es) ≤ count_by p es
fewer_counted id p [] = omega arith
fewer_counted id p (x ∷ xs) = go (not (has_id id x)) (fewer_counted id p xs)
  where
    go : (b : Bool) → count_by p (without_entry id xs) ≤ count_by p xs → count_by p (cond b (x ∷ without_entry id xs) (without_entry id xs)) ≤ count_by p (x ∷ xs)
    go true rest = omega (arith, rest, count_cons p x xs, count_cons p x (without_entry id xs))
    go false rest = omega (arith, rest, count_cons p x xs)

pub fewer_in_order : (id : RequestId) (es : List BookEntry) → BookIsWellFormed es → BookIsWellFormed (without_entry id es)
fewer_in_order id es s = record {
  ids_rise = AllPairs-filter IsEarlier (λ e. not (has_id id e)) es s.ids_rise;
  clients_are_valid = All-filter (λ e. not (has_id id e)) (λ (x : BookEntry). (1 ≤ x.request.client.0) × (x.request.client.0 ≤ 8)) es s.clients_are_valid;
  clients_are_within_limit = λ client. let a = fewer_counted id (λ (x : BookEntry). x.request.client.0 == client) es in let b = s.clients_are_within_limit client in omega (arith, a, b);
  issues_are_within_limit = All-filter (λ e. not (has_id id e)) (λ (x : BookEntry). IssuesAreWithinLimit x.request) es s.issues_are_within_limit;
}

-- ---- the walk is given a book in order

pub asks_in_order : (es : List BookEntry) → AllPairs IsEarlier es → machine.IsInOrder (unanswered_of es)
asks_in_order es ordered i j d lt below =
    let long = length-map es (λ (e : BookEntry). as_unanswered e.request) in
    let inside : j < length es = omega (arith, below, long) in
    step es i j d lt inside (ordered i j)
  where
    step : (es : List BookEntry) (i j : ℕ) (d : Unanswered) → i < j → j < length es → ((e : BookEntry) → i < j → j < length es → (get_or es i e).request.id.0 < (get_or es j e).request.id.0)
        → (get_or (unanswered_of es) i d).id.0 < (get_or (unanswered_of es) j d).id.0
    step [] i j d lt inside o = absurd (omega (arith, inside))
    step (x ∷ xs) i j d lt inside o =
        let a = ap (λ (u : Unanswered). u.id.0) (get_or-map (λ (e : BookEntry). as_unanswered e.request) (x ∷ xs) i x d (omega (arith, lt, inside))) in
        let b = ap (λ (u : Unanswered). u.id.0) (get_or-map (λ (e : BookEntry). as_unanswered e.request) (x ∷ xs) j x d inside) in
        let c = o x lt inside in
        omega (arith, a, b, c)
