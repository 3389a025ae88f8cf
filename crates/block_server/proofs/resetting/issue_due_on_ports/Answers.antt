use Rattle.std.proofs.Common.{◌<◌, List, arith, get_or, length, set, refl, sym, ap, ◌∙◌, subst}
use Rattle.std.proofs.lemmas.List.{length-map, length-set}
use Rattle.std.proofs.Math.Seq.{map-set_same}
use Rattle.ata_types.specs.declared.request.RequestId.{RequestId}
use Rattle.refinement.specs.Relation.{port_at}
use Rattle.host_boot.specs.TakeOver.{probe_result_of}
use Rattle.host_boot.specs.declared.ProbeResult.{ProbeResult}
use Rattle.block_server.specs.FourPorts.{by_port}
use Rattle.block_server.specs.ServerFieldsView.{with_ports}
use Rattle.port_driver.specs.declared.served_port.ServedPort.{ServedPort}
use Rattle.port_driver.specs.declared.served_port.Shared.{Shared}
use Rattle.server_history.specs.IssuingAndAnswering.{IssuesDueOfPort, IssuesTogetherIfAny}
use Rattle.server_history.specs.ServerState.{InCallInvariant, ServerState, mode_in}
use Rattle.request_queue.specs.BookEntries.{unanswered_of, due_ids}
use Rattle.block_server.proofs.Placing as placing
use Rattle.block_server.proofs.Reviving as reviving
use Rattle.block_server.proofs.resetting.issue_due_on_ports.Goals as goal

pub loop-number-init : goal.loop-number-init
loop-number-init g c = record { four = c.told-ports; found = refl; kept = λ s kept. kept; rest = λ s kept new issues. issues; cost = omega arith }

pub issue_where_ready-requires : goal.issue_where_ready-requires
issue_where_ready-requires g c =
    let device = g.A.Adapter.device c.loop-number.adapter in
    let so_far = c.loop-number.invariant in
    let s = c.requires.in_call_invariant.0 in
    let ports = c.loop-number.ports in
    let number = c.loop-number.number in
    let low : number < length ports = let four = so_far.four in let small = c.loop-number-test.true in omega (arith, four, small) in
    let now = with_ports s device c.loop-number.shared ports in
    let has = placing.has_parts s device c.loop-number.shared ports number c.index-ports-number.result low in
    record { server_has_port = (now, reviving.found_one now device c.loop-number.shared (port_at number) (get_or ports number c.index-ports-number.result) (so_far.kept s c.requires.in_call_invariant.1) has) }

pub loop-number-preserved : goal.loop-number-preserved
loop-number-preserved g c =
    let device = g.A.Adapter.device c.loop-number.adapter in
    let so_far = c.loop-number.invariant in
    let number = c.loop-number.number in
    let ports = c.loop-number.ports in
    let found = by_port (λ p. p.probe_result) c.args.ports.now in
    let four = so_far.four in
    let small = c.loop-number-test.true in
    let low : number < length ports = omega (arith, four, small) in
    let told = c.told-ports in
    let long = length-map c.args.ports.now (λ (p : ServedPort). p.probe_result) in
    let within : number < length found = omega (arith, told, long, small) in
    let issued = c.issue_where_ready in
    let p : ServedPort = get_or ports number c.index-ports-number.result in
    let shared : Shared = record c.loop-number.shared { book = issued.new.book } in
    let new = g.A.Adapter.device issued.new.adapter in
    let now : ServerState → ServerState = λ s. with_ports s device c.loop-number.shared ports in
    let later : ServerState → ServerState = λ s. with_ports s new shared (set ports number issued.new.self) in
    let all : (s : ServerState) → InCallInvariant (now s) → IssuesDueOfPort (port_at number) (now s) (later s) = λ s kept.
    subst (IssuesDueOfPort (port_at number) (now s)) (sym (placing.slots_placed s ports number c.index-ports-number.result new shared issued.new.self issued.ensures.only_slots_change))
    (issued.ensures.issues_all_due (now s) (reviving.found_one (now s) device c.loop-number.shared (port_at number) p kept (placing.has_parts s device c.loop-number.shared ports number c.index-ports-number.result low))) in
    record {
      four = length-set ports number issued.new.self ∙ four;
      found = map-set_same (λ (q : ServedPort). q.probe_result) ports number issued.new.self c.index-ports-number.result (ap (λ (q : ServedPort). q.probe_result) issued.ensures.only_slots_change) ∙ so_far.found;
      kept = λ s kept.
          c.law_requests_preserve_invariant.ensures.issued (now s) (later s) (port_at number) (due_ids (mode_in (now s) (port_at number)) (port_at number) (unanswered_of (now s).book)) (so_far.kept s kept)
          (all s (so_far.kept s kept));
      rest = λ s kept last issues.
          let holds = so_far.kept s kept in
          so_far.rest s kept last
          (reviving.one_issued found number within (now s) (later s) last (all s holds)
          (λ unready.
          subst (λ (ids : List RequestId). IssuesTogetherIfAny (port_at number) ids (now s) (later s))
          (c.law_resolved_errors_keep_in_call_invariant.ensures.unready_has_none_due (now s) (port_at number) holds (λ info is. unready info (ap (λ (list : List ProbeResult). probe_result_of list number) (sym so_far.found) ∙ is))) (all s holds))
          issues);
      cost = omega (arith, so_far.cost, issued.ensures.cost);
    }

pub returns : goal.returns
returns g c = record {
  issues = λ s kept.
      let now = with_ports s (g.A.Adapter.device c.loop-number.adapter) c.loop-number.shared c.loop-number.ports in
      let long = length-map c.args.ports.now (λ (p : ServedPort). p.probe_result) in
      let four = c.told-ports in
      let large = c.loop-number-test.false in
      c.loop-number.invariant.rest s kept now (reviving.none_to_issue (by_port (λ p. p.probe_result) c.args.ports.now) c.loop-number.number (omega (arith, long, four, large)) now);
  cost = omega (arith, c.loop-number.invariant.cost);
}
