use Rattle.std.proofs.Common.{◌≡◌, ◌<◌, ◌++◌, List, [], append-nil, append_assoc, arith, length, set, refl, sym, ap, ◌∙◌, subst}
use Rattle.std.proofs.lemmas.List.{length-map, length-set}
use Rattle.std.proofs.Math.Seq.{map-set_same}
use Rattle.ata_types.specs.declared.request.Reply.{Reply}
use Rattle.refinement.specs.Relation.{port_at}
use Rattle.block_server.specs.FourPorts.{by_port}
use Rattle.block_server.specs.ServerFieldsView.{with_ports}
use Rattle.port_driver.specs.declared.served_port.ServedPort.{ServedPort}
use Rattle.server_history.specs.Resets.{MayResolve, ResolvesPort}
use Rattle.server_history.specs.ServerState.{ServerState}
use Rattle.block_server.proofs.Placing as placing
use Rattle.block_server.proofs.Reviving as reviving
use Rattle.block_server.proofs.resetting.resolve_ports.Goals as goal
use Rattle.block_server.proofs.resetting.resolve_ports.Goals.{After-resolve_after_reset}

pub loop-number-init : goal.loop-number-init
loop-number-init c = record {
  four = c.told-ports;
  found = refl;
  settle = λ s may. may;
  rest = λ s may later new settles. (later, refl, settles);
  room = c.requires.room;
}

pub resolve_after_reset-requires-clause-may_resolve : goal.resolve_after_reset-requires-clause-may_resolve
resolve_after_reset-requires-clause-may_resolve c =
    let so_far = c.loop-number.invariant in
    let s = c.requires.may_resolve.0 in
    let low : c.loop-number.number < length c.loop-number.ports = let four = so_far.four in let small = c.loop-number-test.true in omega (arith, four, small) in (
      with_ports s s.device c.loop-number.shared c.loop-number.ports,
      so_far.settle s c.requires.may_resolve.1,
      placing.has_parts s s.device c.loop-number.shared c.loop-number.ports c.loop-number.number c.index-ports-number.result low,
    )

pub resolve_after_reset-requires-clause-room : goal.resolve_after_reset-requires-clause-room
resolve_after_reset-requires-clause-room c = c.loop-number.invariant.room

-- the port's requests were resolved
module _ (c : After-resolve_after_reset) (s : ServerState) (may : MayResolve (with_ports s s.device c.loop-number.shared c.loop-number.ports)) (low : c.loop-number.number < length c.loop-number.ports) where
  abbrev now : ServerState
  now = with_ports s s.device c.loop-number.shared c.loop-number.ports

  abbrev after : ServerState
  after = with_ports s s.device c.resolve_after_reset.new.shared (set c.loop-number.ports c.loop-number.number c.resolve_after_reset.new.self)

  settled : (its : List Reply) × (c.resolve_after_reset.new.replies.items ≡ c.loop-number.replies.items ++ its) × ResolvesPort (port_at c.loop-number.number) its now after
  settled =
      let one = c.resolve_after_reset.ensures.resolves_port now may (placing.has_parts s s.device c.loop-number.shared c.loop-number.ports c.loop-number.number c.index-ports-number.result low) in (
        one.0,
        one.1,
        subst (ResolvesPort (port_at c.loop-number.number) one.0 now)
            (placing.placed s s.device c.loop-number.shared c.loop-number.ports c.loop-number.number s.device c.resolve_after_reset.new.shared c.resolve_after_reset.new.self) one.2,
      )

pub loop-number-preserved : goal.loop-number-preserved
loop-number-preserved c =
    let so_far = c.loop-number.invariant in
    let number = c.loop-number.number in
    let ports = c.loop-number.ports in
    let four = so_far.four in
    let small = c.loop-number-test.true in
    let low : number < length ports = omega (arith, four, small) in
    let found = by_port (λ p. p.probe_result) c.args.ports.now in
    let told = c.told-ports in
    let long = length-map c.args.ports.now (λ (p : ServedPort). p.probe_result) in
    let at = (goal.at.loop-number-preserved c).After-resolve_after_reset in
    record {
      four = length-set ports number c.resolve_after_reset.new.self ∙ four;
      found = map-set_same (λ (p : ServedPort). p.probe_result) ports number c.resolve_after_reset.new.self c.index-ports-number.result (ap (λ (p : ServedPort). p.probe_result) c.resolve_after_reset.ensures.only_quarantine_changes) ∙ so_far.found;
      settle = λ s may.
          let one = settled at s (so_far.settle s may) low in
          c.law_resolving_one_port_lets_others_resolve.ensures (now at s (so_far.settle s may) low) (after at s (so_far.settle s may) low) (port_at number) one.0 small (so_far.settle s may) one.2;
      rest = λ s may later new settles.
          let one = settled at s (so_far.settle s may) low in
          let all = so_far.rest s may (one.0 ++ later) new
          (reviving.one_settled found number (omega (arith, told, long, small)) (now at s (so_far.settle s may) low) (after at s (so_far.settle s may) low) new one.0 later one.2 settles) in
          (all.0, ap (λ (told : List Reply). told ++ later) one.1 ∙ append_assoc c.loop-number.replies.items one.0 later ∙ all.1, all.2);
      room = c.resolve_after_reset.ensures.room;
    }

pub returns-clause-resolves_ports : goal.returns-clause-resolves_ports
returns-clause-resolves_ports c = λ s may.
    let now = with_ports s s.device c.loop-number.shared c.loop-number.ports in
    let long = length-map c.args.ports.now (λ (p : ServedPort). p.probe_result) in
    let four = c.told-ports in
    let large = c.loop-number-test.false in
    let all = c.loop-number.invariant.rest s may [] now (reviving.none_to_settle (by_port (λ p. p.probe_result) c.args.ports.now) c.loop-number.number (omega (arith, long, four, large)) now) in
    (all.0, sym (append-nil c.loop-number.replies.items) ∙ all.1, all.2)

pub returns-clause-found : goal.returns-clause-found
returns-clause-found c = c.loop-number.invariant.found
