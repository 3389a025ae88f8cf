use Rattle.std.proofs.Common.{◌≡◌, ◌↔◌, Bool, IsTrue, false, List, arith, length, slice_index_or, inr, refl, sym, ap, ◌∙◌, subst}
use Rattle.std.proofs.lemmas.Bool.{false_from_ne_true, false≢true}
use Rattle.std.proofs.Math.ListN.{get_or-map}
use Rattle.std.proofs.lemmas.List.{length-map}
use Rattle.ata_types.specs.declared.request.Reply.{Reply}
use Rattle.refinement.specs.Relation.{port_at}
use Rattle.host_boot.specs.TakeOver.{probe_result_of}
use Rattle.request_queue.specs.BookEntries.{BookEntry, HasOverdueOn, aged_entries}
use Rattle.block_machine.specs.Events.{Replied, Tick}
use Rattle.block_server.specs.Calls.{TicksUnlessStuck}
use Rattle.server_history.specs.Histories.{ExtendsHistory, InvariantBetweenCalls}
use Rattle.server_history.specs.ServerState.{InvariantWithNoneDue, ServerState}
use Rattle.server_history.specs.Turns.{Ticks, TakesTickTurn, a_tick_older, is_ready}
use Rattle.port_driver.specs.PortAndShared.{ChangesNothing, no_port}
use Rattle.block_server.specs.FourPorts.{by_port}
use Rattle.block_server.specs.ServerFieldsView.{server_view_of}
use Rattle.block_server.specs.ServerView.{ServerView, server_of}
use Rattle.port_driver.specs.declared.served_port.ServedPort.{ServedPort}
use Rattle.block_server.proofs.Placing as placing
use Rattle.block_server.proofs.Turns.{TurnsSoFar, all_turns, its_part, none_yet, one_more}
use Rattle.block_server.proofs.Standing.{by_on, now_off, now_on}
use Rattle.block_server.proofs.server.Server.tick_into.Given.{Over}
use Rattle.block_server.proofs.server.Server.tick_into.Goals as goal
use Rattle.block_server.proofs.server.Server.tick_into.Goals.{After-loop-number, After-overdue_ports-overdue}

-- requests are a tick older
older : (g : Over) (c : After-overdue_ports-overdue g) → c.tick-any_overdue.new.self ≡ aged_entries (λ port. is_ready (probe_result_of (by_port (λ p. p.probe_result) c.self.inside.ports) port.0)) c.self.inside.shared.book
older g c =
    c.tick-any_overdue.ensures.book_is_aged
    ∙ (λ i. aged_entries (λ port. (c.ready_ports.ensures port ∙ ap is_ready (sym (get_or-map (λ (p : ServedPort). p.probe_result) c.self.inside.ports port.0 no_port))) i) c.self.inside.shared.book)

older_now : (g : Over) (c : After-overdue_ports-overdue g) → record (server_of g.A.Adapter.device (server_view_of c.self.inside)) { book = c.tick-any_overdue.new.self } ≡ a_tick_older (server_of g.A.Adapter.device c.args.self.now)
older_now g c =
    ap (λ (book : List BookEntry). record (server_of g.A.Adapter.device (server_view_of c.self.inside)) { book = book }) (older g c)
    ∙ ap (λ (v : ServerView g.row.A.Denot). a_tick_older (server_of g.A.Adapter.device v)) c.self.view_is

pub tick-requires-clause-none_due : goal.tick-requires-clause-none_due
tick-requires-clause-none_due g c =
    let device = g.A.Adapter.device in
    let v = c.loop-number.self-inside in
    let s = server_of device (server_view_of v) in
    let old = a_tick_older (server_of device c.args.self.now) in
    (s, its_part (TakesTickTurn old.book) ChangesNothing c.args.self.now.probe_results old s (device v.adapter) v.shared v.ports c.loop-number.replies.items c.loop-number.number c.loop-number.invariant.turns c.loop-number-test.true _)

pub loop-number-preserved : goal.loop-number-preserved
loop-number-preserved g c =
    let device = g.A.Adapter.device in
    let so_far = c.loop-number.invariant in
    let v = c.loop-number.self-inside in
    let number = c.loop-number.number in
    let small = c.loop-number-test.true in
    let told = c.loop-number.replies.items in
    let old = a_tick_older (server_of device c.args.self.now) in
    let s = server_of device (server_view_of v) in
    let default = c.index-self-number.result in
    let new = c.tick.new in
    let O : List BookEntry → Type 0 = λ book. IsTrue (slice_index_or c.overdue_ports-overdue.result number false) ↔ HasOverdueOn (port_at number) book in
    let at = (goal.at.loop-number-preserved g c).After-overdue_ports-overdue in
    let exact : O old.book = subst O (ap (λ (x : ServerState). x.book) (older_now g at)) (c.overdue_ports-overdue.ensures number small) in
    record {
      first = so_far.first;
      turns = one_more (TakesTickTurn old.book) ChangesNothing c.args.self.now.probe_results old s (device v.adapter) v.shared v.ports told number so_far.turns small so_far.first default (device new.adapter) new.shared new.self new.replies.items
          (c.tick.ensures.turn s old.book exact (its_part (TakesTickTurn old.book) ChangesNothing c.args.self.now.probe_results old s (device v.adapter) v.shared v.ports told number so_far.turns small default));
      room = c.tick.ensures.room;
      on = so_far.on;
      rests = λ none. c.tick.ensures.no_access_if_unready_or_not_overdue (inr (false_from_ne_true (slice_index_or c.overdue_ports-overdue.result number false) (λ overdue. none (port_at number, exact.0 overdue)))) ∙ so_far.rests none;
      cost = omega (arith, so_far.cost, c.tick.ensures.cost);
    }

-- the ports had their turns
ticked : (g : Over) (c : After-loop-number g) → Ticks c.loop-number.replies.items (server_of g.A.Adapter.device c.args.self.now) (server_of g.A.Adapter.device (server_view_of c.loop-number.self-inside))
ticked g c =
    let device = g.A.Adapter.device in
    let old = server_of device c.args.self.now in
    let first = c.loop-number.invariant.first in
    let past = c.loop-number-test.false in
    let v = c.loop-number.self-inside in
    all_turns (TakesTickTurn (a_tick_older old).book) ChangesNothing c.args.self.now.probe_results (a_tick_older old) (server_of device (server_view_of v)) (device v.adapter) v.shared v.ports c.loop-number.replies.items c.loop-number.number c.loop-number.invariant.turns
    (omega (arith, first, past))

pub invariant_of-self : goal.invariant_of-self
invariant_of-self g c = subst (λ (b : Bool). InvariantBetweenCalls b (server_of g.A.Adapter.device (server_view_of c.loop-number.self-inside))) (sym c.loop-number.invariant.on) c.loop-number.invariant.turns.invariant_with_none_due

pub returns-clause-ticks : goal.returns-clause-ticks
returns-clause-ticks g c =
    let device = g.A.Adapter.device in
    record {
      ticks = by_on (λ (b : Bool). TicksUnlessStuck b c.loop-number.replies.items (server_of device c.args.self.now) (server_of device (server_view_of c.loop-number.self-inside))) c.self.view_is c.if-self.false (ticked g c);
      stuck_is_unchanged = c.loop-number.invariant.on ∙ by_on (λ (b : Bool). false ≡ b) c.self.view_is c.if-self.false refl;
      no_access_if_none_overdue = c.loop-number.invariant.rests;
      no_access_if_stuck = λ stuck. absurd (false≢true (by_on (λ (b : Bool). false ≡ b) c.self.view_is c.if-self.false refl ∙ stuck));
    }

pub returns-clause-extends_history : goal.returns-clause-extends_history
returns-clause-extends_history g c =
    let device = g.A.Adapter.device in
    (c.law_ticks_extend_history.ensures (server_of device c.args.self.now) (server_of device (server_view_of c.loop-number.self-inside)) c.loop-number.replies.items
    (now_on device c.self.view_is c.if-self.false c.self.invariant) (ticked g c)).extends_history

-- since a reset that got stuck there is no ready port
pub returns-then-self-clause-ticks : goal.returns-then-self-clause-ticks
returns-then-self-clause-ticks g c =
    let s = server_of g.A.Adapter.device c.args.self.now in
    record {
      ticks = subst (λ (b : Bool). TicksUnlessStuck b c.clear.new.self.items s s) (sym (ap (λ (v : ServerView g.row.A.Denot). v.stuck) (sym c.self.view_is) ∙ c.if-self.true)) (c.clear.ensures, refl);
      stuck_is_unchanged = refl;
      no_access_if_none_overdue = λ none. refl;
      no_access_if_stuck = λ stuck. refl;
    }

pub returns-then-self-clause-extends_history : goal.returns-then-self-clause-extends_history
returns-then-self-clause-extends_history g c =
    let s = server_of g.A.Adapter.device c.args.self.now in
    subst (λ (replies : List Reply). ExtendsHistory s s Tick (Replied replies)) (sym c.clear.ensures)
    (c.law_calls_that_end_stuck_extend_history.ensures.ticks s (now_off g.A.Adapter.device c.self.view_is c.if-self.true c.self.invariant)).extends_history

pub loop-number-init : goal.loop-number-init
loop-number-init g c =
    let device = g.A.Adapter.device in
    let v = c.self.inside in
    let old = a_tick_older (server_of device c.args.self.now) in
    let at = (goal.at.loop-number-init g c).After-overdue_ports-overdue in
    let ports = ap (λ (x : ServerView g.row.A.Denot). x.probe_results) c.self.view_is in
    let settled = now_on device refl c.if-self.false c.self.invariant in
    let now : InvariantWithNoneDue (record (server_of device (server_view_of v)) { book = c.tick-any_overdue.new.self }) =
    subst (λ (book : List BookEntry). InvariantWithNoneDue (record (server_of device (server_view_of v)) { book = book })) (sym (older g at)) (c.law_aging_keeps_invariant.ensures (server_of device (server_view_of v)) settled) in
    let four = placing.four_ports v.ports settled.in_call_invariant.slots_are_of_four_ports in
    record {
      first = ap length (sym ports) ∙ length-map v.ports (λ (p : ServedPort). p.probe_result) ∙ four;
      turns = subst (λ (told : List Reply). TurnsSoFar (TakesTickTurn old.book) ChangesNothing c.args.self.now.probe_results old v.ports told (record (server_of device (server_view_of v)) { book = c.tick-any_overdue.new.self }) 0) (sym c.clear.ensures)
          (none_yet (TakesTickTurn old.book) ChangesNothing c.args.self.now.probe_results old v.ports (record (server_of device (server_view_of v)) { book = c.tick-any_overdue.new.self }) four ports now (older_now g at));
      room = let all = c.law_book_stays_well_formed.ensures.has_128_at_most c.tick-any_overdue.new.self now.in_call_invariant.book_is_well_formed in let none = ap length c.clear.ensures in omega (arith, all, none);
      on = c.if-self.false;
      rests = λ none. ap (λ (x : ServerView g.row.A.Denot). x.adapter) c.self.view_is;
      cost = let same = ap (λ (x : ServerView g.row.A.Denot). g.A.Adapter.access_count x.adapter) c.self.view_is in omega (arith, same);
    }
