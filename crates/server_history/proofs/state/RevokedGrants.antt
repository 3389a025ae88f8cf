-- A grant is revoked: its row goes, the requests that waited under it are answered, and the others under it are marked.
use Rattle.std.proofs.Common.{ℕ, ◌≡◌, ◌∙◌, ◌&&◌, ◌==◌, Bool, true, false, cond, not, List, refl, sym, ap}
use Rattle.std.proofs.lemmas.Bool.{false≢true}
use Rattle.ata_types.specs.declared.grant.GrantRow.{GrantRow}
use Rattle.ata_types.specs.declared.request.ClientId.{ClientId}
use Rattle.block_machine.specs.Rules.{HasGrantName, is_same_grant_name, without_row}
use Rattle.request_queue.specs.BookEntries.{BookEntry, with_revoked_mark_if_under_grant, waits_under}
use Rattle.request_queue.specs.declared.PendingRequest.{PendingRequest}
use Rattle.server_history.specs.ServerState.{RevokedMarkInvariant, RevokedMarkAgrees}
use Rattle.server_history.proofs.state.ListMembers.{filter_in, in_filter}

module _ (rows : List GrantRow) (client : ClientId) (number : ℕ) where
  abbrev stays : GrantRow → Bool
  stays row = not (is_same_grant_name client number row.client row.number)

  -- a row is the one that goes just if a request is under that grant that names it
  row_under : (r : PendingRequest) (row : GrantRow) → HasGrantName r.client r.grant row → is_same_grant_name client number row.client row.number ≡ is_same_grant_name client number r.client r.grant
  row_under r row named = λ i. (named.0 i).0 == client.0 && named.1 i == number

  pub tells_then : (r : PendingRequest) → RevokedMarkAgrees rows r → RevokedMarkAgrees (without_row client number rows) (with_revoked_mark_if_under_grant client number r)
  tells_then r tells = by (is_same_grant_name client number r.client r.grant) refl
    where
      by : (b : Bool) → is_same_grant_name client number r.client r.grant ≡ b → RevokedMarkAgrees (without_row client number rows) (cond b (record r { revoked = true }) r)
      by true is = (
        λ plain. absurd (false≢true (sym plain)),
        λ has. absurd (false≢true (sym (ap not (row_under r has.0 has.2 ∙ is)) ∙ (filter_in stays rows has.0 has.1).1)),
      )
      by false is = (
        λ plain. let has = tells.0 plain in (has.0, in_filter stays rows has.0 has.1 (ap not (row_under r has.0 has.2 ∙ is)), has.2),
        λ has. tells.1 (has.0, (filter_in stays rows has.0 has.1).0, has.2),
      )

  -- one that isn't answered, and waits, isn't under it
  waits_then : (r : PendingRequest) → waits_under client number r ≡ false → (r.issued ≡ false → r.revoked ≡ false) → (with_revoked_mark_if_under_grant client number r).issued ≡ false → (with_revoked_mark_if_under_grant client number r).revoked ≡ false
  waits_then r left waiting = by (is_same_grant_name client number r.client r.grant) refl
    where
      by : (b : Bool) → is_same_grant_name client number r.client r.grant ≡ b → (cond b (record r { revoked = true }) r).issued ≡ false → (cond b (record r { revoked = true }) r).revoked ≡ false
      by true is waits = absurd (false≢true (sym left ∙ (λ i. not (waits i) && is i)))
      by false is waits = waiting waits

  pub marked_one : (e : BookEntry) → waits_under client number e.request ≡ false → RevokedMarkInvariant rows e → RevokedMarkInvariant (without_row client number rows) (record e { request = with_revoked_mark_if_under_grant client number e.request })
  marked_one e left m = record { revoked_mark_agrees = tells_then e.request m.revoked_mark_agrees; waiting_is_unmarked = waits_then e.request left m.waiting_is_unmarked }
