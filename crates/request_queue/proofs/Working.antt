-- What the book's operations make of what says which requests are due.
use Rattle.std.proofs.Common.{ℕ, ◌≡◌, ◌==◌, Bool, true, false, cond, not, List, [], ◌∷◌, map, refl, sym, ap, ◌∙◌, subst}
use Rattle.std.proofs.lemmas.Bool.{cond-true, cond-false, not-true, and_parts}
use Rattle.ata_types.specs.declared.Port.{Port}
use Rattle.ata_types.specs.declared.request.ClientId.{ClientId}
use Rattle.ata_types.specs.declared.request.RequestId.{RequestId}
use Rattle.block_machine.specs.declared.due.QueueMode.{QueueMode}
use Rattle.block_machine.specs.declared.due.Unanswered.{Unanswered}
use Rattle.block_machine.specs.DueRequests.{IsDue, with_issued, with_waiting, without_request, AreDueInTurnAndLeaveNoneDue}
use Rattle.request_queue.specs.BookEntries.{BookEntry, as_unanswered, unanswered_of, has_id, update_if_id, without_entry, issued_request, request_with_issued_cleared, aged_request, aged_entries, with_revoked_mark_if_under_grant, with_requests_under_grant_revoked, IsWaiting}
use Rattle.request_queue.specs.declared.PendingRequest.{PendingRequest}
use Rattle.request_queue.proofs.Members.{map_in}
use Rattle.request_queue.proofs.Changing.{all_asked, older_spares, revoked_spares}

-- a due request waits
pub due_waits : (mode : QueueMode) (es : List BookEntry) (r : Unanswered) → IsDue mode (unanswered_of es) r → IsWaiting r.id es
due_waits mode es r due =
    let e = map_in (λ (x : BookEntry). as_unanswered x.request) es r due.is_in_book in (
      e.0,
      e.1,
      ap (λ (u : Unanswered). u.id) (sym e.2),
      ap (λ (u : Unanswered). u.issued) (sym e.2) ∙ not-true r.issued (and_parts (not r.issued) _ due.waits_and_nothing_blocks).0,
    )

-- a change of one request
changed : (id : RequestId) (f : PendingRequest → PendingRequest) (g : Unanswered → Unanswered) → ((r : PendingRequest) → as_unanswered (f r) ≡ g (as_unanswered r)) → (es : List BookEntry)
    → unanswered_of (map (update_if_id id f) es) ≡ map (λ u. cond (u.id.0 == id.0) (g u) u) (unanswered_of es)
changed id f g same [] = refl
changed id f g same (e ∷ es) = go (has_id id e) refl (changed id f g same es)
  where
    go : (b : Bool) → has_id id e ≡ b → unanswered_of (map (update_if_id id f) es) ≡ map (λ u. cond (u.id.0 == id.0) (g u) u) (unanswered_of es)
        → unanswered_of (map (update_if_id id f) (e ∷ es)) ≡ map (λ u. cond (u.id.0 == id.0) (g u) u) (unanswered_of (e ∷ es))
    go true t rest =
        ap (λ (x : BookEntry). as_unanswered x.request ∷ unanswered_of (map (update_if_id id f) es)) (cond-true (has_id id e) (record e { request = f e.request }) e t)
        ∙ (ap (λ (u : Unanswered). u ∷ unanswered_of (map (update_if_id id f) es)) (same e.request ∙ sym (cond-true (e.request.id.0 == id.0) (g (as_unanswered e.request)) (as_unanswered e.request) t))
        ∙ ap (λ (us : List Unanswered). cond (e.request.id.0 == id.0) (g (as_unanswered e.request)) (as_unanswered e.request) ∷ us) rest)
    go false t rest =
        ap (λ (x : BookEntry). as_unanswered x.request ∷ unanswered_of (map (update_if_id id f) es)) (cond-false (has_id id e) (record e { request = f e.request }) e t)
        ∙ (ap (λ (u : Unanswered). u ∷ unanswered_of (map (update_if_id id f) es)) (sym (cond-false (e.request.id.0 == id.0) (g (as_unanswered e.request)) (as_unanswered e.request) t))
        ∙ ap (λ (us : List Unanswered). cond (e.request.id.0 == id.0) (g (as_unanswered e.request)) (as_unanswered e.request) ∷ us) rest)

pub after_issue : (es : List BookEntry) (id : RequestId) → unanswered_of (map (update_if_id id issued_request) es) ≡ with_issued id (unanswered_of es)
after_issue es id = changed id issued_request (λ u. record u { issued = true }) (λ r. refl) es

pub after_requeue : (es : List BookEntry) (id : RequestId) → unanswered_of (map (update_if_id id request_with_issued_cleared) es) ≡ with_waiting id (unanswered_of es)
after_requeue es id = changed id request_with_issued_cleared (λ u. record u { issued = false }) (λ r. refl) es

pub after_answer : (es : List BookEntry) (id : RequestId) → unanswered_of (without_entry id es) ≡ without_request id (unanswered_of es)
after_answer [] id = refl
after_answer (e ∷ es) id = go (not (has_id id e)) (after_answer es id)
  where
    go : (b : Bool) → unanswered_of (without_entry id es) ≡ without_request id (unanswered_of es)
        → unanswered_of (cond b (e ∷ without_entry id es) (without_entry id es)) ≡ cond b (as_unanswered e.request ∷ without_request id (unanswered_of es)) (without_request id (unanswered_of es))
    go true rest = ap (λ (us : List Unanswered). as_unanswered e.request ∷ us) rest
    go false rest = rest

pub after_tick : (es : List BookEntry) (ports : Port → Bool) → unanswered_of (aged_entries ports es) ≡ unanswered_of es
after_tick es ports = all_asked (aged_request ports) (older_spares ports) es

pub after_revoke : (es : List BookEntry) (client : ClientId) (grant : ℕ) → unanswered_of (with_requests_under_grant_revoked client grant es) ≡ unanswered_of es
after_revoke es client grant = all_asked (with_revoked_mark_if_under_grant client grant) (revoked_spares client grant) es

-- ---- a walk that issues

pub head_of : (mode : QueueMode) (port : Port) (ids : List RequestId) (id : RequestId) (es : List BookEntry) → AreDueInTurnAndLeaveNoneDue mode port (id ∷ ids) (unanswered_of es)
    → IsWaiting id es × AreDueInTurnAndLeaveNoneDue mode port ids (unanswered_of (map (update_if_id id issued_request) es))
head_of mode port ids id es turn = (
  subst (λ (x : RequestId). IsWaiting x es) turn.0.1 (due_waits mode es turn.0.0 turn.0.3),
  subst (λ (us : List Unanswered). AreDueInTurnAndLeaveNoneDue mode port ids us) (sym (after_issue es id)) turn.1,
)
