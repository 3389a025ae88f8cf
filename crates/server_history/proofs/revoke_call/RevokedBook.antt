-- The book once a grant is revoked: which requests are told so, and that each of them is marked.
use Rattle.std.proofs.Common.{ℕ, ◌≡◌, ◌==◌, Bool, true, false, cond, not, List, refl, sym, ap, ◌∙◌, subst, eqb-true, eq-eqb}
use Rattle.std.specs.List.{All, AllPairs, Contains}
use Rattle.std.proofs.lemmas.Bool.{and_from, and_parts, cond-true}
use Rattle.std.proofs.lemmas.List.Elements.{All-contains}
use Rattle.std.proofs.lemmas.List.Kept.{AllPairs-filter}
use Rattle.ata_types.specs.declared.request.ClientId.{ClientId}
use Rattle.ata_types.specs.declared.request.Outcome.TheVariants.{Aborted, Revoked}
use Rattle.request_queue.specs.BookEntries.{BookEntry, IsEarlier, BookIsWellFormed, with_revoked_mark_if_under_grant, waits_under}
use Rattle.request_queue.specs.declared.PendingRequest.{PendingRequest}
use Rattle.server_history.specs.Revoking.{with_grant_revoked}
use Rattle.server_history.specs.ServerState.{RevokedMarkInvariant, ServerState, RevokedMarkAgrees}
use Rattle.server_history.proofs.dispositions.FittingFates.{AllFit, ends_fits}
use Rattle.server_history.proofs.plain_calls.IssueRounds.{not_true}
use Rattle.server_history.proofs.revoke_call.RevokedEach.{ends_revoked, waiting_under}
use Rattle.server_history.proofs.state.ListMembers.{filter_in, in_filter, map_in}
use Rattle.server_history.proofs.state.RevokedGrants.{marked_one, tells_then}
use Rattle.block_machine.specs.Rules.{is_same_grant_name}

-- What a mark changes: nothing but itself.
pub record IsMarkOf (was e : BookEntry) : Type 0 where
  pub id : e.request.id ≡ was.request.id
  pub client : e.request.client ≡ was.request.client
  pub grant : e.request.grant ≡ was.request.grant
  pub port : e.request.port ≡ was.request.port
  pub op : e.request.op ≡ was.request.op
  pub issued : e.request.issued ≡ was.request.issued

module _ (client : ClientId) (number : ℕ) where
  -- the request, marked if it is under the grant
  abbrev pub mark : BookEntry → BookEntry
  mark e = record e { request = with_revoked_mark_if_under_grant client number e.request }

  mark_of : (e : BookEntry) → IsMarkOf e (mark e)
  mark_of e = by (is_same_grant_name client number e.request.client e.request.grant)
    where
      by : (b : Bool) → IsMarkOf e (record e { request = cond b (record (e.request) { revoked = true }) (e.request) })
      by true = record { id = refl; client = refl; grant = refl; port = refl; op = refl; issued = refl }
      by false = record { id = refl; client = refl; grant = refl; port = refl; op = refl; issued = refl }

  -- who is under it is marked
  marked_is : (e : BookEntry) → is_same_grant_name client number e.request.client e.request.grant ≡ true → (mark e).request.revoked ≡ true
  marked_is e is = ap (λ (x : PendingRequest). x.revoked) (cond-true (is_same_grant_name client number e.request.client e.request.grant) (record (e.request) { revoked = true }) e.request is)

  -- what a waiting request of the grant is
  pub record WaitsUnder (e : PendingRequest) : Type 0 where
    pub waits : e.issued ≡ false
    pub client_is : e.client ≡ client
    pub grant_is : e.grant ≡ number

  pub waits_as : (e : PendingRequest) → waits_under client number e ≡ true → WaitsUnder e
  waits_as e is =
      let a = and_parts (not e.issued) (is_same_grant_name client number e.client e.grant) is in
      let b = and_parts (e.client.0 == client.0) (e.grant == number) a.1 in
      record { waits = not_true e.issued a.0; client_is = ap (λ (n : ℕ). record { 0 = n }) (eqb-true e.client.0 client.0 b.0); grant_is = eqb-true e.grant number b.1 }

  pub as_waits : (e : PendingRequest) → e.issued ≡ false → e.client ≡ client → e.grant ≡ number → waits_under client number e ≡ true
  as_waits e waits its_client its_grant =
      and_from (not e.issued) (is_same_grant_name client number e.client e.grant) (ap not waits)
      (and_from (e.client.0 == client.0) (e.grant == number) (eq-eqb e.client.0 client.0 (ap (λ (c : ClientId). c.0) its_client)) (eq-eqb e.grant number its_grant))

  module _ (s : ServerState) where
    abbrev pub old : ServerState
    old = with_grant_revoked client number s

    -- the requests that are told Revoked
    abbrev pub requests : List BookEntry
    requests = waiting_under client number old.book

    -- each request was there before
    pub was_there : (e : BookEntry) → Contains old.book e → (was : BookEntry) × Contains s.book was × (e ≡ mark was)
    was_there e here = map_in mark s.book e here

    pub mark_is : (e : BookEntry) (here : Contains old.book e) → IsMarkOf (was_there e here).0 e
    mark_is e here = let w = was_there e here in subst (IsMarkOf w.0) (sym w.2) (mark_of w.0)

    pub of_requests : (e : BookEntry) → Contains requests e → Contains old.book e × WaitsUnder e.request
    of_requests e here = let w = filter_in (λ (x : BookEntry). waits_under client number x.request) old.book e here in (w.0, waits_as e.request w.1)

    pub in_requests : (e : BookEntry) → Contains old.book e → WaitsUnder e.request → Contains requests e
    in_requests e here w = in_filter (λ (x : BookEntry). waits_under client number x.request) old.book e here (as_waits e.request w.waits w.client_is w.grant_is)

    under_was : (e : BookEntry) → Contains requests e → (here : Contains old.book e) → is_same_grant_name client number (was_there e here).0.request.client (was_there e here).0.request.grant ≡ true
    under_was e there here =
        let w = (of_requests e there).1 in
        let m = mark_is e here in
        let was = (was_there e here).0.request in
        and_from (was.client.0 == client.0) (was.grant == number)
        (eq-eqb was.client.0 client.0 (ap (λ (c : ClientId). c.0) (sym m.client ∙ w.client_is))) (eq-eqb was.grant number (sym m.grant ∙ w.grant_is))

    pub is_marked : (e : BookEntry) → Contains requests e → e.request.revoked ≡ true
    is_marked e there =
        let here = (of_requests e there).0 in
        let w = was_there e here in
        ap (λ (x : BookEntry). x.request.revoked) w.2 ∙ marked_is w.0 (under_was e there here)

    pub fit : AllFit ends_revoked requests
    fit e there = ends_fits e.request Revoked (λ is. let z : Revoked ≡ Aborted = is in absurd cc) (λ is. is_marked e there)

    pub earlier : BookIsWellFormed old.book → AllPairs IsEarlier requests
    earlier ordered = AllPairs-filter IsEarlier (λ (x : BookEntry). waits_under client number x.request) old.book ordered.ids_rise

    module _ (marked : All (RevokedMarkInvariant s.grants) s.book) where
      -- marks tell which grants are there then
      pub tells : (e : BookEntry) → Contains old.book e → RevokedMarkAgrees old.grants e.request
      tells e here =
          let w = was_there e here in
          subst (λ (x : BookEntry). RevokedMarkAgrees old.grants x.request) (sym w.2) (tells_then s.grants client number w.0.request (All-contains (RevokedMarkInvariant s.grants) s.book w.0 marked w.1).revoked_mark_agrees)

      -- and of one that isn't told Revoked all that its mark is to tell
      pub true_mark : (e : BookEntry) → Contains old.book e → (WaitsUnder e.request → ⊥) → RevokedMarkInvariant old.grants e
      true_mark e here left =
          let w = was_there e here in
          let m = mark_is e here in
          subst (RevokedMarkInvariant old.grants) (sym w.2)
          (marked_one s.grants client number w.0
          (stays (waits_under client number w.0.request) (λ is. let u = waits_as w.0.request is in left (record { waits = m.issued ∙ u.waits; client_is = m.client ∙ u.client_is; grant_is = m.grant ∙ u.grant_is })))
          (All-contains (RevokedMarkInvariant s.grants) s.book w.0 marked w.1))
        where
          stays : (b : Bool) → (b ≡ true → ⊥) → b ≡ false
          stays true other = absurd (other refl)
          stays false other = refl
