use Rattle.std.proofs.Common.{◌<◌, ◌≤◌, vec_len, ◌≡◌, ◌+◌, ◌++◌, ◌∷◌, List, sym, ◌∙◌, ap, subst, [], append_assoc, append-nil, length, length-append, take, arith, refl}
use Rattle.std.proofs.lemmas.List.{take_all, take_more}
use Rattle.std.specs.List.{flat_map}
use Rattle.adapter.specs.AccessBounds.{MakesAtMost}
use Rattle.block_server.specs.Costs.{most_accesses_of_all}
use Rattle.block_server.specs.Said.{said_of, most_said_of_all}
use Rattle.block_server.specs.declared.said.Said.{Said}
use Rattle.block_server.proofs.Counting.{most_more, most_taken, said_more, said_taken}
use Rattle.block_server.proofs.Saying.{said_once_more}
use Rattle.block_server.specs.Promise.{RunsAsPromised, Simulates}
use Rattle.ata_types.specs.declared.call.Call.{Call}
use Rattle.adapter.specs.declared.access.DeviceStep.{DeviceStep}
use Rattle.block_server.proofs.server.Server.run.Goals as goal

pub loop-at-init : goal.loop-at-init
loop-at-init g c = record {
  ran = record { results = []; said_is = sym (append-nil c.args.out.now.items); one_result_an_event = refl; simulates_calls = c.law_calls_that_extend_history_keep_promise.ensures.no_calls c.args.self.now };
  length = omega arith;
  room = omega arith;
  cost = omega arith;
}

pub loop-at-preserved : goal.loop-at-preserved
loop-at-preserved g c =
    let so_far = c.loop-at.invariant.ran in
    let below : c.loop-at.at < length c.args.events.now = omega arith in
    let event = c.index-events-at.result in
    let says = c.say_event.ensures.says in
    let one = says.0 in
    let P : List (Call DeviceStep) → Type 0 = λ calls. Simulates g.A.Adapter.device c.args.self.now c.say_event.new.self calls (so_far.results ++ one ∷ []) in
    let Q : List (Call DeviceStep) → Type 0 = λ calls. length (so_far.results ++ one ∷ []) ≡ length calls in
    let calls = ap (λ (e : Call DeviceStep). take c.loop-at.at c.args.events.now ++ e ∷ []) c.index-events-at.is ∙ sym (take_more c.args.events.now c.loop-at.at event below) in
    record {
      ran = record {
        results = so_far.results ++ one ∷ [];
        said_is = says.2 ∙ ap (λ (l : List Said). l ++ said_of one) (c.reserve.ensures.items ∙ so_far.said_is) ∙ append_assoc c.args.out.now.items (flat_map said_of so_far.results) (said_of one)
            ∙ ap (λ (l : List Said). c.args.out.now.items ++ l) (sym (said_once_more so_far.results one));
        one_result_an_event = subst Q calls (length-append so_far.results (one ∷ []) ∙ ap (λ n. n + 1) so_far.one_result_an_event ∙ sym (length-append (take c.loop-at.at c.args.events.now) (event ∷ [])));
        simulates_calls = subst P calls (c.law_calls_that_extend_history_keep_promise.ensures.calls_join _ _ _ _ _ _ _ so_far.simulates_calls (c.law_calls_that_extend_history_keep_promise.ensures.one_call _ _ event one says.1 c.say_event.ensures.wanted_is_unchanged));
      };
      length = let more = said_more (take c.loop-at.at c.args.events.now) event in
          let L : List (Call DeviceStep) → Type 0 = λ calls. vec_len c.say_event.new.out ≤ vec_len c.args.out.now + most_said_of_all calls in
          subst L calls (omega (arith, more, c.say_event.ensures.len, c.reserve.ensures.len, c.loop-at.invariant.length));
      room = omega (arith, c.loop-at.invariant.room, c.reserve.ensures.capacity, c.say_event.ensures.capacity);
      cost =
          let M : List (Call DeviceStep) → Type 0 = λ calls. MakesAtMost (most_accesses_of_all calls) (g.A.Adapter.access_count c.args.self.now.adapter) (g.A.Adapter.access_count c.say_event.new.self.adapter) in
          let more = most_more (take c.loop-at.at c.args.events.now) event in
          subst M calls (omega (arith, more, c.loop-at.invariant.cost, c.say_event.ensures.cost));
    }

pub returns-clause-done : goal.returns-clause-done
returns-clause-done g c =
    let P : List (Call DeviceStep) → Type 0 = λ calls. RunsAsPromised g.A.Adapter.device c.args.self.now c.loop-at.self calls c.args.out.now.items c.loop-at.out.items in
    subst P (take_all c.loop-at.at c.args.events.now (omega arith)) c.loop-at.invariant.ran

pub returns-then-is_err-clause-events_before_stop_are_run : goal.returns-then-is_err-clause-events_before_stop_are_run
returns-then-is_err-clause-events_before_stop_are_run g c =
    let r = c.loop-at.invariant.ran in
    record { results = r.results; said_is = c.reserve.ensures.items ∙ r.said_is; one_result_an_event = r.one_result_an_event; simulates_calls = r.simulates_calls }

pub returns-clause-cost : goal.returns-clause-cost
returns-clause-cost g c = let all = most_taken c.loop-at.at c.args.events.now in omega (arith, all, c.loop-at.invariant.cost)

pub returns-then-is_err-clause-cost : goal.returns-then-is_err-clause-cost
returns-then-is_err-clause-cost g c = let all = most_taken c.loop-at.at c.args.events.now in omega (arith, all, c.loop-at.invariant.cost)

pub returns-then-is_err-clause-never_stops_with_room : goal.returns-then-is_err-clause-never_stops_with_room
returns-then-is_err-clause-never_stops_with_room g c room =
    let below : c.loop-at.at < length c.args.events.now = omega arith in
    let event = c.index-events-at.result in
    let calls = ap (λ (e : Call DeviceStep). take c.loop-at.at c.args.events.now ++ e ∷ []) c.index-events-at.is ∙ sym (take_more c.args.events.now c.loop-at.at event below) in
    let more = said_more (take c.loop-at.at c.args.events.now) event in
    let fit : most_said_of_all (take c.loop-at.at c.args.events.now ++ event ∷ []) ≤ most_said_of_all c.args.events.now =
    subst (λ (some : List (Call DeviceStep)). most_said_of_all some ≤ most_said_of_all c.args.events.now) (sym calls) (said_taken (c.loop-at.at + 1) c.args.events.now) in
    let succeeds = c.reserve.ensures.succeeds (omega (arith, more, fit, c.most_said.ensures, c.loop-at.invariant.length, c.loop-at.invariant.room, room)) in
    let fails = c.if-is_err.ensures.negation in
    cc (succeeds, fails)
