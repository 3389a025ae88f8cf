use Rattle.std.proofs.Common.{◌≡◌, ◌∙◌, ◌++◌, Bool, List, true, ap, refl, sym, subst}
use Rattle.ata_types.specs.declared.request.Reply.{Reply}
use Rattle.block_machine.specs.Events.{Service, Replied}
use Rattle.server_history.specs.Histories.{ExtendsHistory, ExtendsToStuck, InvariantBetweenCalls}
use Rattle.server_history.specs.Resets.{ResolvesEachPort}
use Rattle.server_history.specs.ServerState.{ServerState}
use Rattle.server_history.specs.StuckServer.{StuckInvariant}
use Rattle.block_server.specs.Calls.{ServicesEachPortOrResolvesIfStuck}
use Rattle.block_server.specs.ServerFieldsView.{server_view_of, with_ports}
use Rattle.block_server.specs.ServerView.{ServerView, server_of}
use Rattle.block_server.proofs.Standing.{now_off, still}
use Rattle.block_server.proofs.server.Server.fail_all.Given.{Over}
use Rattle.block_server.proofs.server.Server.fail_all.Goals as goal
use Rattle.block_server.proofs.server.Server.fail_all.Goals.{After-resolve_ports}

pub resolve_ports-requires-clause-may_resolve : goal.resolve_ports-requires-clause-may_resolve
resolve_ports-requires-clause-may_resolve g c =
    let device = g.A.Adapter.device in
    let s = server_of device (server_view_of c.self.inside) in
    let off : StuckInvariant s = now_off device refl (still true c.self.view_is c.requires.stuck) c.self.invariant in
    (s, c.law_in_call_gives_server_invariant.ensures.may_resolve s off.server_invariant)

-- the server then
abbrev after : (g : Over) (c : After-resolve_ports g) → ServerState
after g c =
    let s = server_of g.A.Adapter.device (server_view_of c.self.inside) in
    with_ports s s.device c.resolve_ports.new.shared c.resolve_ports.new.ports

-- all requests were told, and that adds an event
told : (g : Over) (c : After-resolve_ports g) → ResolvesEachPort 0 (server_view_of c.self.inside).probe_results c.resolve_ports.new.replies.items (server_of g.A.Adapter.device (server_view_of c.self.inside)) (after g c)
    × ExtendsToStuck (server_of g.A.Adapter.device (server_view_of c.self.inside)) (after g c) Service (Replied c.resolve_ports.new.replies.items)
told g c =
    let device = g.A.Adapter.device in
    let s = server_of device (server_view_of c.self.inside) in
    let off : StuckInvariant s = now_off device refl (still true c.self.view_is c.requires.stuck) c.self.invariant in
    let all = c.resolve_ports.ensures.resolves_ports s (c.law_in_call_gives_server_invariant.ensures.may_resolve s off.server_invariant) in
    let settles = subst (λ (replies : List Reply). ResolvesEachPort 0 s.probe_results replies s (after g c)) (sym (all.1 ∙ ap (λ (told : List Reply). told ++ all.0) c.requires.none)) all.2 in
    (settles, c.law_calls_that_end_stuck_extend_history.ensures.services s (after g c) c.resolve_ports.new.replies.items off settles)

pub invariant_of-self : goal.invariant_of-self
invariant_of-self g c = subst (λ (b : Bool). InvariantBetweenCalls b (after g c)) (sym (still true c.self.view_is c.requires.stuck)) (told g c).1.stuck_invariant

pub returns-clause-services : goal.returns-clause-services
returns-clause-services g c =
    let device = g.A.Adapter.device in
    let P : ServerView g.row.A.Denot → Type 0 = λ v. ServicesEachPortOrResolvesIfStuck v.stuck v.probe_results c.resolve_ports.new.replies.items (server_of device v) (after g c) × (c.self.inside.stuck ≡ v.stuck) in
    subst P c.self.view_is (
      subst (λ (b : Bool). ServicesEachPortOrResolvesIfStuck b (server_view_of c.self.inside).probe_results c.resolve_ports.new.replies.items (server_of device (server_view_of c.self.inside)) (after g c)) (sym (still true c.self.view_is c.requires.stuck)) (told g c).0,
      refl,
    )

pub returns-clause-extends_history : goal.returns-clause-extends_history
returns-clause-extends_history g c =
    let device = g.A.Adapter.device in
    let P : ServerView g.row.A.Denot → Type 0 = λ v. ExtendsHistory (server_of device v) (after g c) Service (Replied c.resolve_ports.new.replies.items) in
    subst P c.self.view_is (told g c).1.extends_history
