-- A grant that is revoked since a reset that got stuck adds an event: what waited under it is answered, and nothing is issued.
use Rattle.std.proofs.Common.{ℕ, List, Some, sym, subst}
use Rattle.ata_types.specs.declared.request.ClientId.{ClientId}
use Rattle.ata_types.specs.declared.request.Reply.{Reply}
use Rattle.block_machine.specs.Events.{RevokeOf, WasRevoked}
use Rattle.server_history.specs.Prerequisites.{PrerequisiteLaws}
use Rattle.server_history.specs.Histories.{ExtendsToStuck}
use Rattle.server_history.specs.Revoking.{RevokesGrant}
use Rattle.server_history.specs.ServerState.{ServerState}
use Rattle.server_history.specs.StuckServer.{StuckInvariant}
use Rattle.server_history.proofs.failed_reset.StuckCalls.{goes}
use Rattle.server_history.proofs.failed_reset.StuckInstant.{holds_off, never_ready}
use Rattle.server_history.proofs.revoke_call.Revocation.{quiet_event}
use Rattle.server_history.proofs.revoke_call.RevokedEach.{RevokesEach, revokes_each, with_revoked}
use Rattle.server_history.proofs.revoke_call.RevokedServer.{revoked_stalled}

pub stalled_revocation : PrerequisiteLaws → (s new : ServerState) (client : ClientId) (number : ℕ) (replies : List Reply) → StuckInvariant s → RevokesGrant client number replies s new
    → ExtendsToStuck s new (RevokeOf client number) (WasRevoked (Some replies))
stalled_revocation laws s new client number replies t r = subst (λ (n : ServerState). ExtendsToStuck s n (RevokeOf client number) (WasRevoked (Some replies))) (sym each.server) (record {
  stuck_invariant = off;
  extends_history = quiet_event laws s client number replies new each
      (holds_off (with_revoked client number new.table each.now.book s) off.server_invariant off.served_ports_are_dead off.adapter_is_not_on)
      (goes laws s t s.device t)
      (never_ready s t.served_ports_are_dead each.has.0.port.0)
      (λ q ready. absurd (never_ready s t.served_ports_are_dead q.0 ready))
      (λ m was is. record { ordered = t.server_invariant.book_is_well_formed; accepted = t.server_invariant.entries_are_well_formed; marked = t.server_invariant.revoked_marks_agree; reached = was; stands = is });
})
  where
    each : RevokesEach client number replies s new
    each = revokes_each laws s new client number replies t.server_invariant.book_is_well_formed t.server_invariant.entries_are_well_formed r

    off : StuckInvariant (with_revoked client number new.table each.now.book s)
    off = revoked_stalled laws s client number replies new each t
