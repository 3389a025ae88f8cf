use Rattle.std.proofs.Common.{◌≡◌, Bool, false, List, arith, length, refl, sym, ap, ◌∙◌, subst}
use Rattle.std.proofs.lemmas.List.{length-map}
use Rattle.ata_types.specs.declared.request.Reply.{Reply}
use Rattle.block_server.specs.ServerFieldsView.{server_view_of}
use Rattle.block_server.specs.ServerView.{ServerView, server_of}
use Rattle.port_driver.specs.declared.served_port.ServedPort.{ServedPort}
use Rattle.server_history.specs.Histories.{InvariantBetweenCalls}
use Rattle.server_history.specs.Turns.{ServicesEachPort, ServicesPort, ProbesUnready}
use Rattle.block_server.specs.Calls.{ServicesEachPortOrResolvesIfStuck}
use Rattle.block_server.proofs.Placing as placing
use Rattle.block_server.proofs.Turns.{TurnsSoFar, all_turns, its_part, none_yet, one_more}
use Rattle.block_server.proofs.Standing.{by_on, now_on}
use Rattle.block_server.proofs.server.Server.service_into.Given.{Over}
use Rattle.block_server.proofs.server.Server.service_into.Goals as goal
use Rattle.block_server.proofs.server.Server.service_into.Goals.{After-loop-number}

pub service-requires-clause-none_due : goal.service-requires-clause-none_due
service-requires-clause-none_due g c =
    let device = g.A.Adapter.device in
    let v = c.loop-number.self-inside in
    let s = server_of device (server_view_of v) in (
      s,
      its_part ServicesPort ProbesUnready c.args.self.now.probe_results (server_of device c.args.self.now) s (device v.adapter) v.shared v.ports c.loop-number.replies.items c.loop-number.number
          c.loop-number.invariant.turns c.loop-number-test.true _,
    )

pub loop-number-preserved : goal.loop-number-preserved
loop-number-preserved g c =
    let device = g.A.Adapter.device in
    let so_far = c.loop-number.invariant in
    let v = c.loop-number.self-inside in
    let number = c.loop-number.number in
    let small = c.loop-number-test.true in
    let told = c.loop-number.replies.items in
    let first = server_of device c.args.self.now in
    let s = server_of device (server_view_of v) in
    let default = c.index-self-number.result in
    let new = c.service.new in
    record {
      first = so_far.first;
      turns = one_more ServicesPort ProbesUnready c.args.self.now.probe_results first s (device v.adapter) v.shared v.ports told number so_far.turns small so_far.first default (device new.adapter) new.shared new.self new.replies.items
          (c.service.ensures.turn s (its_part ServicesPort ProbesUnready c.args.self.now.probe_results first s (device v.adapter) v.shared v.ports told number so_far.turns small default));
      room = c.service.ensures.room;
      on = so_far.on;
      cost = omega (arith, so_far.cost, c.service.ensures.cost);
    }

-- the ports had their turns
served : (g : Over) (c : After-loop-number g) → ServicesEachPort 0 c.args.self.now.probe_results c.loop-number.replies.items (server_of g.A.Adapter.device c.args.self.now) (server_of g.A.Adapter.device (server_view_of c.loop-number.self-inside))
served g c =
    let device = g.A.Adapter.device in
    let first = c.loop-number.invariant.first in
    let past = c.loop-number-test.false in
    let v = c.loop-number.self-inside in
    all_turns ServicesPort ProbesUnready c.args.self.now.probe_results (server_of device c.args.self.now) (server_of device (server_view_of v)) (device v.adapter) v.shared v.ports c.loop-number.replies.items c.loop-number.number c.loop-number.invariant.turns
    (omega (arith, first, past))

pub invariant_of-self : goal.invariant_of-self
invariant_of-self g c = subst (λ (b : Bool). InvariantBetweenCalls b (server_of g.A.Adapter.device (server_view_of c.loop-number.self-inside))) (sym c.loop-number.invariant.on) c.loop-number.invariant.turns.invariant_with_none_due

pub returns-clause-services : goal.returns-clause-services
returns-clause-services g c =
    let device = g.A.Adapter.device in (
      by_on (λ (b : Bool). ServicesEachPortOrResolvesIfStuck b c.args.self.now.probe_results c.loop-number.replies.items (server_of device c.args.self.now) (server_of device (server_view_of c.loop-number.self-inside))) c.self.view_is c.if-self.false (served g c),
      c.loop-number.invariant.on ∙ by_on (λ (b : Bool). false ≡ b) c.self.view_is c.if-self.false refl,
    )

pub returns-clause-extends_history : goal.returns-clause-extends_history
returns-clause-extends_history g c =
    let device = g.A.Adapter.device in
    (c.law_services_extend_history.ensures (server_of device c.args.self.now) (server_of device (server_view_of c.loop-number.self-inside)) c.loop-number.replies.items
    (now_on device c.self.view_is c.if-self.false c.self.invariant) (served g c)).extends_history

pub loop-number-init : goal.loop-number-init
loop-number-init g c =
    let device = g.A.Adapter.device in
    let v = c.self.inside in
    let ports = ap (λ (x : ServerView g.row.A.Denot). x.probe_results) c.self.view_is in
    let settled = now_on device refl c.if-self.false c.self.invariant in
    let four = placing.four_ports v.ports settled.in_call_invariant.slots_are_of_four_ports in
    record {
      first = ap length (sym ports) ∙ length-map v.ports (λ (p : ServedPort). p.probe_result) ∙ four;
      turns = subst (λ (told : List Reply). TurnsSoFar ServicesPort ProbesUnready c.args.self.now.probe_results (server_of device c.args.self.now) v.ports told (server_of device (server_view_of v)) 0) (sym c.clear.ensures)
          (none_yet ServicesPort ProbesUnready c.args.self.now.probe_results (server_of device c.args.self.now) v.ports (server_of device (server_view_of v)) four ports settled (ap (server_of device) c.self.view_is));
      room = let all = c.law_book_stays_well_formed.ensures.has_128_at_most v.shared.book settled.in_call_invariant.book_is_well_formed in let none = ap length c.clear.ensures in omega (arith, all, none);
      on = c.if-self.false;
      cost = let same = ap (λ (x : ServerView g.row.A.Denot). g.A.Adapter.access_count x.adapter) c.self.view_is in omega (arith, same);
    }
