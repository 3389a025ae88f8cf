-- How many loans of a port may be kept: one of each of its requests that is issued, beside those that are.
use Rattle.std.proofs.Common.{ℕ, ◌≡◌, ◌≤◌, ◌+◌, Bool, true, false, cond, if◌then◌else◌, List, [], ◌∷◌, map, refl, sym, ap, ◌∙◌, subst, arith, le_refl, ⊎_elim}
use Rattle.std.specs.Prelude.{count_by, filter}
use Rattle.std.specs.List.{Contains}
use Rattle.std.proofs.lemmas.Bool.{cond-false, false≢true}
use Rattle.std.proofs.lemmas.List.Sums.{sum_by-cons}
use Rattle.ata_types.specs.declared.Port.{Port}
use Rattle.ata_types.specs.declared.request.ClientId.{ClientId}
use Rattle.ata_types.specs.declared.request.Outcome.{Outcome}
use Rattle.ata_types.specs.declared.request.Outcome.TheVariants as outcome
use Rattle.ata_types.specs.declared.request.RequestId.{RequestId}
use Rattle.server_history.proofs.state.ListMembers.{contains_cases}
use Rattle.request_queue.specs.BookEntries.{BookEntry, with_requests_under_grant_revoked, update_if_id, has_id, is_of_port, with_revoked_mark_if_under_grant, request_with_issued_cleared}
use Rattle.request_queue.specs.Dispositions.{keeps_loan}
use Rattle.request_queue.specs.declared.PendingRequest.{PendingRequest}
use Rattle.server_history.specs.ErrorHandling.{requests_of}
use Rattle.server_history.proofs.state.FirstMembers.{nowhere}
use Rattle.block_machine.specs.Rules.{is_same_grant_name}

-- how many requests of the port are issued
abbrev pub issued_of : Port → List BookEntry → ℕ
issued_of port book = count_by (λ (e : BookEntry). e.request.issued) (requests_of port book)

-- one, if it is an issued one of the port
abbrev pub counts : Port → BookEntry → ℕ
counts port e = cond (is_of_port port e.request) (cond e.request.issued 1 0) 0

-- the first, and the others
pub issued_first : (port : Port) (e : BookEntry) (book : List BookEntry) → issued_of port (e ∷ book) ≡ counts port e + issued_of port book
issued_first port e book = by (is_of_port port e.request)
  where
    by : (own : Bool) → count_by (λ (x : BookEntry). x.request.issued) (cond own (e ∷ requests_of port book) (requests_of port book)) ≡ cond own (cond e.request.issued 1 0) 0 + issued_of port book
    by true = sum_by-cons (λ (x : BookEntry). cond x.request.issued 1 0) e (requests_of port book)
    by false = omega arith

-- of fewer requests no more are issued
pub fewer_issued : (port : Port) (passes : BookEntry → Bool) (book : List BookEntry) → issued_of port (filter passes book) ≤ issued_of port book
fewer_issued port passes [] = le_refl 0
fewer_issued port passes (x ∷ book) = by (passes x) (fewer_issued port passes book)
  where
    first : issued_of port (x ∷ book) ≡ counts port x + issued_of port book
    first = issued_first port x book

    by : (b : Bool) → issued_of port (filter passes book) ≤ issued_of port book → issued_of port (cond b (x ∷ filter passes book) (filter passes book)) ≤ issued_of port (x ∷ book)
    by true less = let left = issued_first port x (filter passes book) in let right = first in omega (arith, less, left, right)
    by false less = let right = first in omega (arith, less, right)

-- and fewer by one that is left out
pub one_fewer : (port : Port) (passes : BookEntry → Bool) (book : List BookEntry) (e : BookEntry) → Contains book e → passes e ≡ false → counts port e + issued_of port (filter passes book) ≤ issued_of port book
one_fewer port passes [] e here out = absurd (nowhere e here)
one_fewer port passes (x ∷ book) e here out = ⊎_elim
    (λ (same : e ≡ x).
    let gone : filter passes (x ∷ book) ≡ filter passes book = cond-false (passes x) (x ∷ filter passes book) (filter passes book) (ap passes (sym same) ∙ out) in
    let less = fewer_issued port passes book in
    let right = issued_first port x book in
    subst (λ (list : List BookEntry). counts port e + issued_of port list ≤ issued_of port (x ∷ book)) (sym gone)
    (subst (λ (y : BookEntry). counts port y + issued_of port (filter passes book) ≤ issued_of port (x ∷ book)) (sym same) (omega (arith, less, right))))
    (λ (there : Contains book e). by (passes x) (one_fewer port passes book e there out))
    (contains_cases x book e here)
  where
    by : (b : Bool) → counts port e + issued_of port (filter passes book) ≤ issued_of port book
        → counts port e + issued_of port (cond b (x ∷ filter passes book) (filter passes book)) ≤ issued_of port (x ∷ book)
    by true less = let left = issued_first port x (filter passes book) in let right = issued_first port x book in omega (arith, less, left, right)
    by false less = let right = issued_first port x book in omega (arith, less, right)

-- where one waits again, no more are issued
pub requeued_issued : (port : Port) (id : RequestId) (book : List BookEntry) → issued_of port (map (update_if_id id request_with_issued_cleared) book) ≤ issued_of port book
requeued_issued port id [] = le_refl 0
requeued_issued port id (x ∷ book) =
    let rest = requeued_issued port id book in
    let one = by (has_id id x) in
    let left = issued_first port (update_if_id id request_with_issued_cleared x) (map (update_if_id id request_with_issued_cleared) book) in
    let right = issued_first port x book in
    omega (arith, rest, one, left, right)
  where
    own : (b : Bool) → cond b (cond false 1 0) 0 ≤ cond b (cond x.request.issued 1 0) 0
    own true = omega arith
    own false = le_refl 0

    by : (b : Bool) → counts port (if b then record x { request = request_with_issued_cleared x.request } else x) ≤ counts port x
    by true = own (is_of_port port x.request)
    by false = le_refl (counts port x)

-- and where requests are marked, as many are
pub marked_issued : (port : Port) (client : ClientId) (grant : ℕ) (book : List BookEntry) → issued_of port (with_requests_under_grant_revoked client grant book) ≡ issued_of port book
marked_issued port client grant [] = refl
marked_issued port client grant (x ∷ book) =
    let rest = marked_issued port client grant book in
    let one = by (is_same_grant_name client grant x.request.client x.request.grant) in
    let left = issued_first port (record x { request = with_revoked_mark_if_under_grant client grant x.request }) (with_requests_under_grant_revoked client grant book) in
    let right = issued_first port x book in
    omega (arith, rest, one, left, right)
  where
    by : (b : Bool) → counts port (record x { request = if b then record (x.request) { revoked = true } else x.request }) ≡ counts port x
    by true = refl
    by false = refl

-- only an issued request's loan is kept
pub kept_issued : (o : Outcome) (e : PendingRequest) → keeps_loan o e ≡ true → e.issued ≡ true
kept_issued outcome.Ok e is = absurd (false≢true is)
kept_issued (outcome.DeviceError status error) e is = absurd (false≢true is)
kept_issued outcome.Aborted e is = absurd (false≢true is)
kept_issued outcome.Unplugged e is = absurd (false≢true is)
kept_issued outcome.Revoked e is = absurd (false≢true is)
kept_issued outcome.PortDead e is = is
