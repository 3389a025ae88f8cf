-- The marks that tell whether requests have their grants: what they say of the machine's rows, and how they last.
use Rattle.std.proofs.Common.{ℕ, ◌≡◌, ◌∙◌, false, true, refl, sym, subst, List}
use Rattle.std.proofs.lemmas.Bool.{false≢true}
use Rattle.ata_types.specs.declared.grant.GrantRow.{GrantRow}
use Rattle.ata_types.specs.declared.request.Outcome.{Outcome}
use Rattle.ata_types.specs.declared.request.Outcome.TheVariants as outcome
use Rattle.block_machine.specs.State.{Machine, Pending}
use Rattle.block_machine.specs.Steps.{HasGrant, RevokedLacksGrantAbortedHasGrant}
use Rattle.request_queue.specs.BookEntries.{BookEntry, issued_request}
use Rattle.request_queue.specs.BookRelation.{EntryRelation}
use Rattle.request_queue.specs.declared.PendingRequest.{PendingRequest}
use Rattle.server_history.specs.ServerState.{RevokedMarkInvariant, RevokedMarkAgrees}

-- ---- in the machine

-- one that isn't marked has its grant there
pub unmarked_has : (m : Machine) (e : BookEntry) (p : Pending) → EntryRelation e p → RevokedMarkAgrees m.rows e.request → e.request.revoked ≡ false → HasGrant m p
unmarked_has m e p entry tells plain = let has = tells.0 plain in (has.0, has.1, (has.2.0 ∙ sym entry.client, has.2.1 ∙ sym entry.grant))

-- and one that is has none
pub marked_none : (m : Machine) (e : BookEntry) (p : Pending) → EntryRelation e p → RevokedMarkAgrees m.rows e.request → e.request.revoked ≡ true → HasGrant m p → ⊥
marked_none m e p entry tells marked has = false≢true (sym (tells.1 (has.0, has.1, (has.2.0 ∙ entry.client, has.2.1 ∙ entry.grant))) ∙ marked)

-- so one may be told Revoked that is marked, and Aborted one that isn't
pub tellable : (m : Machine) (e : BookEntry) (p : Pending) (o : Outcome) → EntryRelation e p → RevokedMarkAgrees m.rows e.request
    → (o ≡ outcome.Revoked → e.request.revoked ≡ true) → (o ≡ outcome.Aborted → e.request.revoked ≡ false) → RevokedLacksGrantAbortedHasGrant m p o
tellable m e p outcome.Revoked entry tells marked plain = marked_none m e p entry tells (marked refl)
tellable m e p outcome.Aborted entry tells marked plain = unmarked_has m e p entry tells (plain refl)
tellable m e p outcome.Ok entry tells marked plain = tt
tellable m e p (outcome.DeviceError status error) entry tells marked plain = tt
tellable m e p outcome.Unplugged entry tells marked plain = tt
tellable m e p outcome.PortDead entry tells marked plain = tt

-- the machine has the server's rows
pub tells_of : (rows grants : List GrantRow) (r : PendingRequest) → rows ≡ grants → RevokedMarkAgrees grants r → RevokedMarkAgrees rows r
tells_of rows grants r same tells = subst (λ (list : List GrantRow). RevokedMarkAgrees list r) (sym same) tells

-- ---- as requests are issued, and get older

pub issued_marked : (rows : List GrantRow) (e : BookEntry) → RevokedMarkInvariant rows e → RevokedMarkInvariant rows (record e { request = issued_request e.request })
issued_marked rows e m = record { revoked_mark_agrees = (m.revoked_mark_agrees.0, m.revoked_mark_agrees.1); waiting_is_unmarked = λ waits. absurd (false≢true (sym waits)) }

pub older_marked : (rows : List GrantRow) (e : BookEntry) (age : ℕ) → RevokedMarkInvariant rows e → RevokedMarkInvariant rows (record e { request = record (e.request) { age = age } })
older_marked rows e age m = record { revoked_mark_agrees = (m.revoked_mark_agrees.0, m.revoked_mark_agrees.1); waiting_is_unmarked = m.waiting_is_unmarked }
