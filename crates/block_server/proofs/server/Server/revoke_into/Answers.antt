use Rattle.std.proofs.Common.{Bool, true, false, ◌≡◌, List, None, Some, refl, sym, ap, ◌∙◌, subst, arith, get_or, length, set, [], ⊎_elim}
use Rattle.ata_types.specs.declared.grant.GrantRow.{GrantRow}
use Rattle.block_machine.specs.Events.{RevokeOf, WasRevoked}
use Rattle.block_machine.specs.DueRequests.{due_of}
use Rattle.block_machine.specs.declared.due.QueueMode.{QueueMode}
use Rattle.request_queue.specs.BookEntries.{with_requests_under_grant_revoked, unanswered_of}
use Rattle.server_history.specs.Histories.{ExtendsToNoneDue, ExtendsHistory, ExtendsToStuck, InvariantBetweenCalls}
use Rattle.server_history.specs.Revoking.{RevokesGrant}
use Rattle.server_history.specs.IssuingAndAnswering.{IssuesDueOfPort}
use Rattle.server_history.specs.ServerState.{InCallInvariant, InvariantWithNoneDue, ServerState}
use Rattle.port_driver.specs.LentSlots.{HasPortToIssue}
use Rattle.port_driver.specs.declared.served_port.ServedPort.{ServedPort}
use Rattle.port_driver.specs.declared.served_port.Shared.{Shared}
use Rattle.block_server.proofs.Placing as placing
use Rattle.server_history.specs.StuckServer.{StuckInvariant, ServerInvariant}
use Rattle.port_driver.specs.LoanRoom.{BookIsSound}
use Rattle.block_server.specs.Revoking.{RevokesAndIssuesDueOfItsPort}
use Rattle.block_server.specs.ServerFieldsView.{server_view_of}
use Rattle.block_server.specs.ServerView.{ServerView, server_of}
use Rattle.block_server.proofs.Revoking as revoking
use Rattle.block_server.proofs.Standing.{holds_either}
use Rattle.block_server.proofs.server.Server.revoke_into.Given.{Over}
use Rattle.block_server.proofs.server.Server.revoke_into.Goals as goal
use Rattle.block_server.proofs.server.Server.revoke_into.Goals.{After-index-self-from, After-issue_where_ready, Then-self}

pub returns-in_default-clause-extends_history : goal.returns-in_default-clause-extends_history
returns-in_default-clause-extends_history g c =
    let device = g.A.Adapter.device in
    let s = server_view_of c.self.inside in
    let none = c.in_default.ensures.absent_changes_nothing refl in
    let P : ServerView g.row.A.Denot → Type 0 = λ v. ExtendsHistory (server_of device v) (server_of device (record s { grants = c.revoke.new.self })) (RevokeOf c.args.client c.args.number) (WasRevoked None) in
    let Q : List GrantRow → Type 0 = λ rows. ExtendsHistory (server_of device s) (server_of device (record s { grants = rows })) (RevokeOf c.args.client c.args.number) (WasRevoked None) in
    subst P c.self.view_is (subst Q (sym none.0) (c.law_refusals_extend_history.ensures.revoke c.self.inside.stuck (server_of device s) c.args.client c.args.number c.self.invariant none.1))

pub complete_waiting_under_grant_as_revoked-requires : goal.complete_waiting_under_grant_as_revoked-requires
complete_waiting_under_grant_as_revoked-requires g c =
    let s = server_of g.A.Adapter.device (server_view_of c.self.inside) in
    let b : ServerInvariant s = holds_either c.self.inside.stuck c.self.invariant (λ _ settled. c.law_in_call_gives_server_invariant.ensures.server_invariant s settled.in_call_invariant) (λ _ stalled. stalled.server_invariant) in
    let marked : BookIsSound s.table (with_requests_under_grant_revoked c.args.client c.args.number s.book) = record {
      book_is_well_formed = c.law_book_stays_well_formed.ensures.revoked s.book c.args.client c.args.number b.book_is_well_formed;
      entries_are_well_formed = c.law_entries_stay_well_formed.ensures.revoked s.table s.book c.args.client c.args.number b.entries_are_well_formed;
    } in
    let sound : BookIsSound s.table c.mark_revoked.new.self = subst (BookIsSound s.table) (sym c.mark_revoked.ensures) marked in
    let all = c.law_book_stays_well_formed.ensures.has_128_at_most c.mark_revoked.new.self sound.book_is_well_formed in
    let none = ap length c.clear.ensures in
    record { book_is_sound = sound; replies_have_room = omega (arith, all, none) }

-- ---- since a reset that got stuck

-- the server then
abbrev after_off : (g : Over) (c : Then-self g) → ServerView g.row.A.Denot
after_off g c = record (server_view_of c.self.inside) { grants = c.revoke.new.self; table = c.complete_waiting_under_grant_as_revoked.new.self.table.value; book = c.complete_waiting_under_grant_as_revoked.new.self.book }

abbrev revoked_off : (g : Over) (c : Then-self g) → RevokesGrant c.args.client c.args.number c.complete_waiting_under_grant_as_revoked.new.replies.items (server_of g.A.Adapter.device (server_view_of c.self.inside)) (server_of g.A.Adapter.device (after_off g c))
revoked_off g c =
    revoking.revokes (server_of g.A.Adapter.device (server_view_of c.self.inside)) c.args.client c.args.number c.in-Some.row c.revoke.new.self c.in-Some.ensures.found c.mark_revoked.new.self c.mark_revoked.ensures
    c.self.inside.shared.table.value refl c.clear.new.self.items c.clear.ensures c.complete_waiting_under_grant_as_revoked.new.self.book c.complete_waiting_under_grant_as_revoked.new.self.table.value c.complete_waiting_under_grant_as_revoked.new.replies.items c.complete_waiting_under_grant_as_revoked.ensures

-- it adds an event
added_off : (g : Over) (c : Then-self g) → ExtendsToStuck (server_of g.A.Adapter.device (server_view_of c.self.inside)) (server_of g.A.Adapter.device (after_off g c)) (RevokeOf c.args.client c.args.number) (WasRevoked (Some c.complete_waiting_under_grant_as_revoked.new.replies.items))
added_off g c =
    let s = server_of g.A.Adapter.device (server_view_of c.self.inside) in
    let stalled : StuckInvariant s = holds_either c.self.inside.stuck c.self.invariant (λ on _. absurd (let z : false ≡ true = sym on ∙ c.if-self.true in cc)) (λ _ stalled. stalled) in
    c.law_calls_that_end_stuck_extend_history.ensures.revocations s (server_of g.A.Adapter.device (after_off g c)) c.args.client c.args.number c.complete_waiting_under_grant_as_revoked.new.replies.items stalled (revoked_off g c)

pub invariant_of-self-then-self : goal.invariant_of-self-then-self
invariant_of-self-then-self g c = subst (λ (b : Bool). InvariantBetweenCalls b (server_of g.A.Adapter.device (after_off g c))) (sym c.if-self.true) (added_off g c).stuck_invariant

pub returns-then-self-clause-revokes : goal.returns-then-self-clause-revokes
returns-then-self-clause-revokes g c =
    let device = g.A.Adapter.device in
    let P : ServerView g.row.A.Denot → Type 0 = λ v. RevokesAndIssuesDueOfItsPort device c.args.client c.args.number c.complete_waiting_under_grant_as_revoked.new.replies.items v (after_off g c) in (
      subst P c.self.view_is (record {
        server_after_revocation = server_of device (after_off g c);
        revokes = revoked_off g c;
        issues = λ on. absurd (let z : true ≡ false = sym c.if-self.true ∙ on in cc);
        none_issued_if_stuck = λ _. refl;
        no_access_if_none_due = λ _. refl;
      }),
      ap (λ (v : ServerView g.row.A.Denot). v.stuck) c.self.view_is,
    )

pub returns-then-self-clause-extends_history : goal.returns-then-self-clause-extends_history
returns-then-self-clause-extends_history g c =
    let device = g.A.Adapter.device in
    let P : ServerView g.row.A.Denot → Type 0 = λ v. ExtendsHistory (server_of device v) (server_of device (after_off g c)) (RevokeOf c.args.client c.args.number) (WasRevoked (Some c.complete_waiting_under_grant_as_revoked.new.replies.items)) in
    subst P c.self.view_is (added_off g c).extends_history

-- ---- while the adapter is on

-- the server once those that waited are told
abbrev mid_on : (g : Over) (c : After-index-self-from g) → ServerState
mid_on g c = record (server_of g.A.Adapter.device (server_view_of c.self.inside)) { grants = c.revoke.new.self; table = c.complete_waiting_under_grant_as_revoked.new.self.table.value; book = c.complete_waiting_under_grant_as_revoked.new.self.book }

is_on : (g : Over) (c : After-index-self-from g) → InvariantWithNoneDue (server_of g.A.Adapter.device (server_view_of c.self.inside))
is_on g c = holds_either c.self.inside.stuck c.self.invariant (λ _ settled. settled) (λ off _. absurd (let z : true ≡ false = sym off ∙ c.if-self.false in cc))

abbrev revoked_on : (g : Over) (c : After-index-self-from g) → RevokesGrant c.args.client c.args.number c.complete_waiting_under_grant_as_revoked.new.replies.items (server_of g.A.Adapter.device (server_view_of c.self.inside)) (mid_on g c)
revoked_on g c =
    revoking.revokes (server_of g.A.Adapter.device (server_view_of c.self.inside)) c.args.client c.args.number c.in-Some.row c.revoke.new.self c.in-Some.ensures.found c.mark_revoked.new.self c.mark_revoked.ensures
    c.self.inside.shared.table.value refl c.clear.new.self.items c.clear.ensures c.complete_waiting_under_grant_as_revoked.new.self.book c.complete_waiting_under_grant_as_revoked.new.self.table.value c.complete_waiting_under_grant_as_revoked.new.replies.items c.complete_waiting_under_grant_as_revoked.ensures

-- it goes on
keeps_on : (g : Over) (c : After-index-self-from g) → InCallInvariant (mid_on g c)
keeps_on g c = c.law_requests_preserve_invariant.ensures.revoked (server_of g.A.Adapter.device (server_view_of c.self.inside)) (mid_on g c) c.args.client c.args.number c.complete_waiting_under_grant_as_revoked.new.replies.items (is_on g c).in_call_invariant (revoked_on g c)

-- the grant's port
abbrev its_port : (g : Over) (c : After-index-self-from g) → ServedPort
its_port g c = get_or c.self.inside.ports c.from.result c.index-self-from.result

lends_on : (g : Over) (c : After-index-self-from g) → HasPortToIssue (mid_on g c) (g.A.Adapter.device c.self.inside.adapter) c.complete_waiting_under_grant_as_revoked.new.self.book (its_port g c).slots c.in-Some.row.port (its_port g c).mode (its_port g c).probe_result
lends_on g c =
    let v = c.self.inside in
    let four = placing.four_ports v.ports (is_on g c).in_call_invariant.slots_are_of_four_ports in
    let small = revoking.low (server_of g.A.Adapter.device (server_view_of c.self.inside)) c.args.client c.args.number c.in-Some.row c.revoke.new.self c.in-Some.ensures.found c.mark_revoked.new.self c.mark_revoked.ensures
    c.self.inside.shared.table.value refl c.clear.new.self.items c.clear.ensures c.complete_waiting_under_grant_as_revoked.new.self.book c.complete_waiting_under_grant_as_revoked.new.self.table.value c.complete_waiting_under_grant_as_revoked.new.replies.items c.complete_waiting_under_grant_as_revoked.ensures
    (is_on g c).in_call_invariant (keeps_on g c) in
    let from = c.from.ensures in
    revoking.lends (server_of g.A.Adapter.device (server_view_of c.self.inside)) c.args.client c.args.number c.in-Some.row c.revoke.new.self c.in-Some.ensures.found c.mark_revoked.new.self c.mark_revoked.ensures
    c.self.inside.shared.table.value refl c.clear.new.self.items c.clear.ensures c.complete_waiting_under_grant_as_revoked.new.self.book c.complete_waiting_under_grant_as_revoked.new.self.table.value c.complete_waiting_under_grant_as_revoked.new.replies.items c.complete_waiting_under_grant_as_revoked.ensures
    (is_on g c).in_call_invariant (keeps_on g c) (its_port g c)
    (placing.has_at_place (server_of g.A.Adapter.device (server_view_of v)) (g.A.Adapter.device v.adapter) v.shared v.ports c.in-Some.row.port.0 c.from.result from c.index-self-from.result (omega (arith, four, small, from)))

pub issue_where_ready-requires : goal.issue_where_ready-requires
issue_where_ready-requires g c =
    let it = (goal.at.issue_where_ready-requires g c).After-index-self-from in
    record { server_has_port = (mid_on g it, lends_on g it) }

-- the server then
abbrev after_on : (g : Over) (c : After-issue_where_ready g) → ServerView g.row.A.Denot
after_on g c = server_view_of (record c.self.inside {
  adapter = c.issue_where_ready.new.adapter;
  grants = c.revoke.new.self;
  shared = record c.complete_waiting_under_grant_as_revoked.new.self { book = c.issue_where_ready.new.book };
  ports = set c.self.inside.ports c.from.result c.issue_where_ready.new.self;
})

-- the moment before that
abbrev before : (g : Over) (c : After-issue_where_ready g) → After-index-self-from g
before g c = (goal.at.returns-clause-revokes g c).After-index-self-from

issued_on : (g : Over) (c : After-issue_where_ready g) → IssuesDueOfPort c.in-Some.row.port (mid_on g (before g c)) (server_of g.A.Adapter.device (after_on g c))
issued_on g c =
    let v = c.self.inside in
    let s = server_of g.A.Adapter.device (server_view_of v) in
    let new = g.A.Adapter.device c.issue_where_ready.new.adapter in
    let shared : Shared = record c.complete_waiting_under_grant_as_revoked.new.self { book = c.issue_where_ready.new.book } in
    subst (IssuesDueOfPort c.in-Some.row.port (mid_on g (before g c)))
    (sym (placing.slots_placed (record s { grants = c.revoke.new.self }) v.ports c.from.result c.index-self-from.result new shared c.issue_where_ready.new.self c.issue_where_ready.ensures.only_slots_change))
    (revoking.issued (server_of g.A.Adapter.device (server_view_of c.self.inside)) c.args.client c.args.number c.in-Some.row c.revoke.new.self c.in-Some.ensures.found c.mark_revoked.new.self c.mark_revoked.ensures
    c.self.inside.shared.table.value refl c.clear.new.self.items c.clear.ensures c.complete_waiting_under_grant_as_revoked.new.self.book c.complete_waiting_under_grant_as_revoked.new.self.table.value c.complete_waiting_under_grant_as_revoked.new.replies.items c.complete_waiting_under_grant_as_revoked.ensures
    (is_on g (before g c)).in_call_invariant (keeps_on g (before g c)) c.from.result c.from.ensures new c.issue_where_ready.new.book c.issue_where_ready.new.self.slots
    (c.issue_where_ready.ensures.issues_all_due (mid_on g (before g c)) (lends_on g (before g c))))

-- it adds an event
added_on : (g : Over) (c : After-issue_where_ready g) → ExtendsToNoneDue (server_of g.A.Adapter.device (server_view_of c.self.inside)) (server_of g.A.Adapter.device (after_on g c)) (RevokeOf c.args.client c.args.number) (WasRevoked (Some c.complete_waiting_under_grant_as_revoked.new.replies.items))
added_on g c = c.law_revocations_extend_history.ensures (server_of g.A.Adapter.device (server_view_of c.self.inside)) (mid_on g (before g c)) (server_of g.A.Adapter.device (after_on g c)) c.args.client c.args.number c.complete_waiting_under_grant_as_revoked.new.replies.items (is_on g (before g c)) (revoked_on g (before g c)) (issued_on g c)

pub invariant_of-self-2 : goal.invariant_of-self-2
invariant_of-self-2 g c = subst (λ (b : Bool). InvariantBetweenCalls b (server_of g.A.Adapter.device (after_on g c))) (sym c.if-self.false) (added_on g c).invariant_with_none_due

-- and no access was made where nothing was due
revokes_on : (g : Over) (c : After-issue_where_ready g) → RevokesAndIssuesDueOfItsPort g.A.Adapter.device c.args.client c.args.number c.complete_waiting_under_grant_as_revoked.new.replies.items (server_view_of c.self.inside) (after_on g c)
revokes_on g c = record {
  server_after_revocation = mid_on g (before g c);
  revokes = revoked_on g (before g c);
  issues = λ _. issued_on g c;
  none_issued_if_stuck = λ off. absurd (let z : true ≡ false = sym off ∙ c.if-self.false in cc);
  no_access_if_none_due = λ why. ⊎_elim
      (λ off. absurd (let z : true ≡ false = sym off ∙ c.if-self.false in cc))
      (λ none. c.issue_where_ready.ensures.none_due_no_access (subst (λ (m : QueueMode). due_of m c.in-Some.row.port (unanswered_of c.complete_waiting_under_grant_as_revoked.new.self.book) ≡ []) (lends_on g (before g c)).mode_is none))
      why;
}

pub returns-clause-revokes : goal.returns-clause-revokes
returns-clause-revokes g c =
    let P : ServerView g.row.A.Denot → Type 0 = λ v. RevokesAndIssuesDueOfItsPort g.A.Adapter.device c.args.client c.args.number c.complete_waiting_under_grant_as_revoked.new.replies.items v (after_on g c) in
    (subst P c.self.view_is (revokes_on g c), ap (λ (v : ServerView g.row.A.Denot). v.stuck) c.self.view_is)

pub returns-clause-extends_history : goal.returns-clause-extends_history
returns-clause-extends_history g c =
    let device = g.A.Adapter.device in
    let P : ServerView g.row.A.Denot → Type 0 = λ v. ExtendsHistory (server_of device v) (server_of device (after_on g c)) (RevokeOf c.args.client c.args.number) (WasRevoked (Some c.complete_waiting_under_grant_as_revoked.new.replies.items)) in
    subst P c.self.view_is (added_on g c).extends_history
