-- What a server keeps once a grant is revoked, whether or not its adapter is on.
use Rattle.std.proofs.Common.{refl, ℕ, true, ◌≡◌, ◌≢◌, ◌+◌, ◌≤◌, List, length, not, sym, ap, ◌∙◌, arith, [], None}
use Rattle.std.specs.List.{All, Contains}
use Rattle.std.proofs.lemmas.List.Elements.{All-contains, All-filter, All-nil}
use Rattle.ata_types.specs.declared.Port.{Port}
use Rattle.ata_types.specs.declared.PortState.TheVariants.{Ready as ReadyState}
use Rattle.ata_types.specs.declared.grant.GrantRow.{GrantRow}
use Rattle.ata_types.specs.declared.request.ClientId.{ClientId}
use Rattle.ata_types.specs.declared.request.Op.{Op}
use Rattle.ata_types.specs.declared.request.Reply.{Reply}
use Rattle.ata_types.specs.declared.request.RequestId.{RequestId}
use Rattle.block_machine.specs.DueRequests.{NoneDue, is_plain}
use Rattle.block_machine.specs.Expected.{IsValidRow, after}
use Rattle.block_machine.specs.Rules.{is_same_grant_name, without_row}
use Rattle.host_boot.specs.TakeOver.{probe_result_of}
use Rattle.request_queue.specs.BookEntries.{BookEntry, with_requests_under_grant_revoked, unanswered_of, IsWellFormedEntry}
use Rattle.server_history.specs.Prerequisites.{PrerequisiteLaws}
use Rattle.server_history.specs.ErrorHandling.{book_and_loans_of}
use Rattle.server_history.specs.Revoking.{with_grant_revoked}
use Rattle.server_history.specs.ServerState.{InCallInvariant, ServerState, is_served, quarantined_at, mode_in, state_of}
use Rattle.server_history.specs.StuckServer.{StuckInvariant, ServerInvariant}
use Rattle.server_history.proofs.failed_reset.StuckInstant.{booked_then}
use Rattle.server_history.proofs.dispositions.RemainingBook.{IsLeft}
use Rattle.server_history.proofs.revoke_call.RevokedEach.{RevokesEach, ends_revoked, waiting_under, with_revoked}
use Rattle.server_history.proofs.revoke_call.RevokedMachine as revoked
use Rattle.server_history.proofs.revoke_call.RevokedMachine.{MayRevoke}
use Rattle.server_history.proofs.state.HistorySteps.{kept_then}
use Rattle.server_history.proofs.state.LoanCounts.{issued_of, marked_issued}
use Rattle.dma_frames.specs.FrameTables.{lent_to}
use Rattle.ata_types.specs.declared.request.Frame.{Frame}

module _ (laws : PrerequisiteLaws) (s : ServerState) (client : ClientId) (number : ℕ) (replies : List Reply) (mid : ServerState) (r : RevokesEach client number replies s mid) where
  -- grants are as a configuration may give them still
  rows_then : All IsValidRow s.grants → All IsValidRow (without_row client number s.grants)
  rows_then rows = All-filter (λ (row : GrantRow). not (is_same_grant_name client number row.client row.number)) IsValidRow s.grants rows

  -- and requests as they were accepted
  still_accepted : All (IsWellFormedEntry r.now.table) r.now.book → All (IsWellFormedEntry mid.table) r.now.book
  still_accepted accepted = laws.lending_keeps_well_formed r.now.table mid.table r.now.book [] None r.lends (All-nil (λ (f : Frame). lent_to r.now.table f ≡ None)) accepted

  -- ---- a server whose adapter is on

  module _ (k : InCallInvariant s) where
    pub may_revoke : MayRevoke s k.machine
    may_revoke = record { ordered = k.book_is_well_formed; accepted = k.entries_are_well_formed; marked = k.revoked_marks_agree; reached = k.reached; stands = k.machine_relation }

    abbrev Left : Type 0
    Left = (e : BookEntry) → Contains r.now.book e → (was : BookEntry) × Contains s.book was × (e.request.id ≡ was.request.id) × (e.request.port ≡ was.request.port) × (e.request.op ≡ was.request.op)

    before : Left
    before = revoked.before laws s client number replies mid r k.machine may_revoke

    pub revoked_kept : InCallInvariant (with_revoked client number mid.table r.now.book s)
    revoked_kept = kept_then s s.device (without_row client number s.grants) mid.table s.slots r.now.book s.last_id k (rows_then k.rows_are_valid) k.adapter_is_on (record { disks_tell_sectors = refl; memory_size = refl; cap = refl; pi = refl }) k.port_invariant (r.lends.owners_are_kept ∙ left.owners) k.slots_are_of_four_ports k.slots_invariant
        (λ q slot used e its here same.
        let b = before e here in
        k.slots_queue_as_asked q slot used b.0 its b.1 (sym b.2 ∙ same) ∙ ap (λ (o : Op). not (is_plain (mode_in s q) o)) (sym b.4))
        k.slots_store_commands k.plain_is_alone_in_slot_0 (still_accepted left.accepted) left.ordered (revoked.marked_then laws s client number replies mid r k.machine may_revoke)
        (revoked.each_left laws s client number replies mid r k.machine may_revoke (λ e. e.request.id.0 ≤ s.last_id) (λ e here.
        let b = before e here in
        let low = All-contains (λ (x : BookEntry). x.request.id.0 ≤ s.last_id) s.book b.0 k.ids_were_handed_out b.1 in
        let id = ap (λ (i : RequestId). i.0) b.2 in omega (arith, low, id)))
        (revoked.each_left laws s client number replies mid r k.machine may_revoke (λ e. state_of (probe_result_of s.probe_results e.request.port.0) ≡ ReadyState) (λ e here.
        let b = before e here in
        ap (λ (q : Port). state_of (probe_result_of s.probe_results q.0)) b.3 ∙ All-contains (λ (x : BookEntry). state_of (probe_result_of s.probe_results x.request.port.0) ≡ ReadyState) s.book b.0 k.requests_are_of_ready_ports b.1))
        (after k.machine (revoked.steps laws s client number replies mid r k.machine may_revoke)) (revoked.reached_then laws s client number replies mid r k.machine may_revoke)
        (revoked.stands laws s client number replies mid r k.machine may_revoke)
      where
        left : IsLeft r.has.0.port ends_revoked (waiting_under client number (with_grant_revoked client number s).book) (book_and_loans_of r.has.0.port (with_grant_revoked client number s)) r.now
        left = revoked.left laws s client number replies mid r k.machine may_revoke

    pub none_other : ((q : Port) → NoneDue (mode_in s q) (unanswered_of s.book) q) → (q : Port) → q ≢ r.has.0.port → NoneDue (mode_in s q) (unanswered_of r.now.book) q
    none_other none q ne u own due =
        none q u own ((laws.due_depends_on_own_port (mode_in s q) q (unanswered_of r.now.book) (unanswered_of s.book) u (revoked.apart laws s client number replies mid r k.machine may_revoke q ne) own).0 due)

  -- ---- one whose adapter is off

  module _ (t : StuckInvariant s) where
    abbrev b : ServerInvariant s
    b = t.server_invariant

    pub may_revoke_off : MayRevoke s b.machine
    may_revoke_off = record { ordered = b.book_is_well_formed; accepted = b.entries_are_well_formed; marked = b.revoked_marks_agree; reached = b.reached; stands = b.machine_relation }

    pub revoked_stalled : StuckInvariant (with_revoked client number mid.table r.now.book s)
    revoked_stalled = record {
      server_invariant = booked_then s (without_row client number s.grants) mid.table s.kept_loans r.now.book b (rows_then b.rows_are_valid) (r.lends.owners_are_kept ∙ left.owners) b.kept_loans_are_of_four_ports
          (λ q.
          let fewer : issued_of q r.now.book ≤ issued_of q (with_requests_under_grant_revoked client number s.book) = left.fewer q in
          let same = marked_issued q client number s.book in
          let were : length (quarantined_at s.kept_loans q.0) + issued_of q s.book ≤ 32 = b.kept_loans_have_room q in
          omega (arith, fewer, same, were))
          (still_accepted left.accepted) left.ordered (revoked.marked_then laws s client number replies mid r b.machine may_revoke_off)
          (revoked.each_left laws s client number replies mid r b.machine may_revoke_off (λ e. e.request.id.0 ≤ s.last_id) (λ e here.
          let x = revoked.before laws s client number replies mid r b.machine may_revoke_off e here in
          let low = All-contains (λ (y : BookEntry). y.request.id.0 ≤ s.last_id) s.book x.0 b.ids_were_handed_out x.1 in
          let id = ap (λ (i : RequestId). i.0) x.2 in omega (arith, low, id)))
          (revoked.each_left laws s client number replies mid r b.machine may_revoke_off (λ e. is_served (probe_result_of s.probe_results e.request.port.0) ≡ true) (λ e here.
          let x = revoked.before laws s client number replies mid r b.machine may_revoke_off e here in
          ap (λ (q : Port). is_served (probe_result_of s.probe_results q.0)) x.3 ∙ All-contains (λ (y : BookEntry). is_served (probe_result_of s.probe_results y.request.port.0) ≡ true) s.book x.0 b.requests_are_of_served_ports x.1))
          (after b.machine (revoked.steps laws s client number replies mid r b.machine may_revoke_off)) (revoked.reached_then laws s client number replies mid r b.machine may_revoke_off)
          (revoked.stands laws s client number replies mid r b.machine may_revoke_off);
      adapter_is_not_on = t.adapter_is_not_on;
      served_ports_are_dead = t.served_ports_are_dead;
    }
      where
        left : IsLeft r.has.0.port ends_revoked (waiting_under client number (with_grant_revoked client number s).book) (book_and_loans_of r.has.0.port (with_grant_revoked client number s)) r.now
        left = revoked.left laws s client number replies mid r b.machine may_revoke_off
