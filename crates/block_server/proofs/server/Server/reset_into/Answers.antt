use Rattle.std.proofs.Common.{◌∙◌, ◌++◌, List, None, Some, ap, refl, sym, subst}
use Rattle.std.specs.Box.{with_value}
use Rattle.ata_types.specs.declared.request.Reply.{Reply}
use Rattle.block_machine.specs.Events.{Reset, WasReset}
use Rattle.dma_frames.specs.FrameTables.{OwnersAndLoans}
use Rattle.host_boot.specs.TakeOver.{TakesOver}
use Rattle.host_boot.specs.declared.ProbeResult.{ProbeResult}
use Rattle.identify.specs.declared.wanted.Wanted.{Wanted}
use Rattle.server_history.specs.Histories.{ExtendsToNoneDue, ExtendsHistory, ExtendsToStuck}
use Rattle.server_history.specs.KeptLoans.{IsKeptIn, MayGiveBack, GivesBackLoans}
use Rattle.server_history.specs.Resets.{IsReinitialized, IssuesOnEachReadyPort, ResetsServer, ResolvesEachPort}
use Rattle.server_history.specs.ServerState.{InCallInvariant, ServerState}
use Rattle.server_history.specs.StuckServer.{ResetGetsStuck, ServerInvariant}
use Rattle.block_server.specs.FourPorts.{EachBecomes, IsAsHostProbed, by_port}
use Rattle.block_server.specs.ServerFieldsView.{server_view_of, with_ports}
use Rattle.block_server.specs.ServerView.{ServerView, server_of}
use Rattle.port_driver.specs.declared.served_port.ServedPort.{ServedPort}
use Rattle.port_driver.specs.declared.served_port.Shared.{Shared}
use Rattle.block_server.proofs.Becoming as becoming
use Rattle.block_server.proofs.Placing as placing
use Rattle.block_server.proofs.Reviving as reviving
use Rattle.block_server.proofs.Standing.{holds_either}
use Rattle.block_server.proofs.server.Server.reset_into.Given.{Over}
use Rattle.block_server.proofs.server.Server.reset_into.Goals as goal
use Rattle.block_server.proofs.server.Server.reset_into.Goals.{After-note_stuck_reset, After-issue_due_on_ports, After-issue_due_on_ports-arg-3-1, After-resolve_ports-arg-3-1}

-- ---- the adapter didn't end its reset

-- the server then
abbrev stuck_server : (g : Over) (c : After-note_stuck_reset g) → ServerState
stuck_server g c = with_ports (server_of g.A.Adapter.device (server_view_of c.self.inside)) (g.A.Adapter.device c.reset.new.adapter) c.self.inside.shared c.note_stuck_reset.new.ports

stuck_books : (g : Over) (c : After-note_stuck_reset g) → ServerInvariant (server_of g.A.Adapter.device (server_view_of c.self.inside))
stuck_books g c =
    holds_either c.self.inside.stuck c.self.invariant (λ _ settled. c.law_in_call_gives_server_invariant.ensures.server_invariant (server_of g.A.Adapter.device (server_view_of c.self.inside)) settled.in_call_invariant) (λ _ stalled. stalled.server_invariant)

got_stuck : (g : Over) (c : After-note_stuck_reset g) → ResetGetsStuck (server_of g.A.Adapter.device (server_view_of c.self.inside)) (stuck_server g c)
got_stuck g c =
    let device = g.A.Adapter.device in
    let v = c.self.inside in
    becoming.gets_stuck (server_of device (server_view_of v)) (device v.adapter) (device c.reset.new.adapter) v.shared v.ports c.note_stuck_reset.new.ports (placing.four_ports v.ports (stuck_books g c).slots_are_of_four_ports) c.note_stuck_reset.ensures c.in-Err.ensures.stuck

stuck_then : (g : Over) (c : After-note_stuck_reset g) → ExtendsToStuck (server_of g.A.Adapter.device (server_view_of c.self.inside)) (stuck_server g c) Reset (WasReset None)
stuck_then g c = c.law_calls_that_end_stuck_extend_history.ensures.resets (server_of g.A.Adapter.device (server_view_of c.self.inside)) (stuck_server g c) (stuck_books g c) (got_stuck g c)

pub invariant_of-self : goal.invariant_of-self
invariant_of-self g c = (stuck_then g (goal.at.invariant_of-self g c).After-note_stuck_reset).stuck_invariant

pub returns-in-Err-clause-extends_history : goal.returns-in-Err-clause-extends_history
returns-in-Err-clause-extends_history g c =
    let device = g.A.Adapter.device in
    let at = (goal.at.returns-in-Err-clause-extends_history g c).After-note_stuck_reset in
    let P : ServerView g.row.A.Denot → Type 0 = λ v. ExtendsHistory (server_of device v) (stuck_server g at) Reset (WasReset None) in
    subst P c.self.view_is (stuck_then g at).extends_history

pub returns-in-Err-clause-resets : goal.returns-in-Err-clause-resets
returns-in-Err-clause-resets g c =
    let device = g.A.Adapter.device in
    let at = (goal.at.returns-in-Err-clause-resets g c).After-note_stuck_reset in
    let P : ServerView g.row.A.Denot → Type 0 = λ v. ResetGetsStuck (server_of device v) (stuck_server g at) in
    (c.clear.ensures, subst P c.self.view_is (got_stuck g at), refl)

-- ---- it was reset

pub give_all_back-requires : goal.give_all_back-requires
give_all_back-requires g c =
    let s = server_of g.A.Adapter.device (server_view_of c.self.inside) in
    let booked : ServerInvariant s = holds_either c.self.inside.stuck c.self.invariant (λ _ settled. c.law_in_call_gives_server_invariant.ensures.server_invariant s settled.in_call_invariant) (λ _ stalled. stalled.server_invariant) in
    let laws = c.law_quarantined_loans_are_lent.ensures in
    subst (λ (table : OwnersAndLoans). MayGiveBack table s.kept_loans) (sym c.deref_mut.ensures.value)
    (reviving.may_go s booked (λ port. laws.lent s port booked) (λ port. laws.differ_in_one_port s port booked) (λ port other a b. laws.differ_between_ports s port other a b booked))

-- the server as its adapter was taken over again, with no loan kept
its_books : (g : Over) (c : After-resolve_ports-arg-3-1 g) → ServerInvariant (server_of g.A.Adapter.device (server_view_of c.self.inside))
its_books g c =
    holds_either c.self.inside.stuck c.self.invariant (λ _ settled. c.law_in_call_gives_server_invariant.ensures.server_invariant (server_of g.A.Adapter.device (server_view_of c.self.inside)) settled.in_call_invariant) (λ _ stalled. stalled.server_invariant)

abbrev shared_then : (g : Over) (c : After-resolve_ports-arg-3-1 g) → Shared
shared_then g c = record { table = with_value c.self.inside.shared.table c.give_all_back.new.table; book = c.self.inside.shared.book }

abbrev taken : (g : Over) (c : After-resolve_ports-arg-3-1 g) → ServerState
taken g c = with_ports (server_of g.A.Adapter.device (server_view_of c.self.inside)) (g.A.Adapter.device c.take_over-host.new.adapter) (shared_then g c) c.replace_probe_results_and_free_slots.new.ports

takes : (g : Over) (c : After-resolve_ports-arg-3-1 g) → IsReinitialized (server_of g.A.Adapter.device (server_view_of c.self.inside)) (taken g c)
takes g c =
    let device = g.A.Adapter.device in
    let v = c.self.inside in
    let host = c.take_over-host.result in
    let back = c.give_all_back.ensures in
    let new = device c.take_over-host.new.adapter in
    let idle = device c.reset.new.adapter in
    becoming.takes_again (server_of device (server_view_of v)) (device v.adapter) idle new v.shared (shared_then g c) v.ports c.replace_probe_results_and_free_slots.new.ports (placing.four_ports v.ports (its_books g c).slots_are_of_four_ports) host c.take_over-host.ensures.has_four_ports
    (subst (λ (ports : List ServedPort). EachBecomes (IsAsHostProbed host) ports c.replace_probe_results_and_free_slots.new.ports) back.ports c.replace_probe_results_and_free_slots.ensures) c.in_default.ensures.reset
    (subst (λ (table : OwnersAndLoans). GivesBackLoans table c.give_all_back.new.table (IsKeptIn (by_port (λ p. p.kept) v.ports))) c.deref_mut.ensures.value back.takes_kept_loans_back)
    (subst (λ (wanted : List Wanted). TakesOver wanted host idle new) (c.wanted_disks.ensures ∙ ap (by_port (λ p. p.wanted)) back.ports) c.take_over-host.ensures.takes_over) refl

pub resolve_ports-requires-clause-may_resolve : goal.resolve_ports-requires-clause-may_resolve
resolve_ports-requires-clause-may_resolve g c = (taken g c, c.law_reset_leads_to_none_due.ensures.may_resolve (server_of g.A.Adapter.device (server_view_of c.self.inside)) (taken g c) (its_books g c) (takes g c))

-- its requests were resolved
abbrev at_settling : (g : Over) (c : After-issue_due_on_ports-arg-3-1 g) → After-resolve_ports-arg-3-1 g
at_settling g c = (goal.at.issue_due_on_ports-requires g c).After-resolve_ports-arg-3-1

abbrev settled : (g : Over) (c : After-issue_due_on_ports-arg-3-1 g) → ServerState
settled g c = with_ports (taken g (at_settling g c)) (taken g (at_settling g c)).device c.resolve_ports.new.shared c.resolve_ports.new.ports

settles : (g : Over) (c : After-issue_due_on_ports-arg-3-1 g) → ResolvesEachPort 0 (taken g (at_settling g c)).probe_results c.resolve_ports.new.replies.items (taken g (at_settling g c)) (settled g c)
settles g c =
    let a = at_settling g c in
    let from = taken g a in
    let all = c.resolve_ports.ensures.resolves_ports from (c.law_reset_leads_to_none_due.ensures.may_resolve (server_of g.A.Adapter.device (server_view_of c.self.inside)) from (its_books g a) (takes g a)) in
    subst (λ (replies : List Reply). ResolvesEachPort 0 from.probe_results replies from (settled g c)) (sym (all.1 ∙ ap (λ (told : List Reply). told ++ all.0) c.clear.ensures)) all.2

keeps : (g : Over) (c : After-issue_due_on_ports-arg-3-1 g) → InCallInvariant (settled g c)
keeps g c =
    let a = at_settling g c in
    c.law_reset_leads_to_none_due.ensures.resolved_has_invariant (server_of g.A.Adapter.device (server_view_of c.self.inside)) (taken g a) (settled g c) c.resolve_ports.new.replies.items (its_books g a) (takes g a) (settles g c)

pub issue_due_on_ports-requires : goal.issue_due_on_ports-requires
issue_due_on_ports-requires g c = record { in_call_invariant = (settled g c, keeps g c) }

-- the server then
abbrev after : (g : Over) (c : After-issue_due_on_ports g) → ServerState
after g c = with_ports (server_of g.A.Adapter.device (server_view_of c.self.inside)) (g.A.Adapter.device c.issue_due_on_ports.new.adapter) c.issue_due_on_ports.new.shared c.issue_due_on_ports.new.ports

-- the server was reset, and that adds an event
was_reset : (g : Over) (c : After-issue_due_on_ports g) → ResetsServer c.resolve_ports.new.replies.items (server_of g.A.Adapter.device (server_view_of c.self.inside)) (after g c)
    × ExtendsToNoneDue (server_of g.A.Adapter.device (server_view_of c.self.inside)) (after g c) Reset (WasReset (Some c.resolve_ports.new.replies.items))
was_reset g c =
    let i = (goal.at.returns-clause-resets g c).After-issue_due_on_ports-arg-3-1 in
    let a = at_settling g i in
    let s = server_of g.A.Adapter.device (server_view_of c.self.inside) in
    let I : List ProbeResult → Type 0 = λ found. IssuesOnEachReadyPort 0 found (settled g i) (after g c) in
    let resets : ResetsServer c.resolve_ports.new.replies.items s (after g c) =
    record { server_after_take_over = taken g a; is_reinitialized = takes g a; server_after_resolving = settled g i; resolves_each_port = settles g i; issues_on_each_ready_port = subst I c.resolve_ports.ensures.found (c.issue_due_on_ports.ensures.issues (settled g i) (keeps g i)) } in
    (resets, c.law_ended_resets_extend_history.ensures s (after g c) c.resolve_ports.new.replies.items (its_books g a) resets)

pub invariant_of-self-2 : goal.invariant_of-self-2
invariant_of-self-2 g c = (was_reset g c).1.invariant_with_none_due

pub returns-clause-resets : goal.returns-clause-resets
returns-clause-resets g c =
    let device = g.A.Adapter.device in
    let P : ServerView g.row.A.Denot → Type 0 = λ v. ResetsServer c.resolve_ports.new.replies.items (server_of device v) (after g c) in
    (subst P c.self.view_is (was_reset g c).0, refl)

pub returns-clause-extends_history : goal.returns-clause-extends_history
returns-clause-extends_history g c =
    let device = g.A.Adapter.device in
    let P : ServerView g.row.A.Denot → Type 0 = λ v. ExtendsHistory (server_of device v) (after g c) Reset (WasReset (Some c.resolve_ports.new.replies.items)) in
    subst P c.self.view_is (was_reset g c).1.extends_history
