use Rattle.std.proofs.Common.{sym, subst}
use Rattle.dma_frames.specs.FrameTables.{OwnersAndLoans}
use Rattle.server_history.specs.ServerState.{ServerState}
use Rattle.port_driver.specs.LentSlots.{HasPortToAnswer}
use Rattle.port_driver.specs.Recovery.{IsInError}
use Rattle.port_driver.proofs.Lent.{Answered, FoundDone, Troubled, Waiting, agreed, alike, alone, lends_done, may, mid_kept, mends_rest, mid_there, named, places, seen_kept, seen_there}
use Rattle.port_driver.proofs.served_port.ServedPort.complete_and_recover.Given.{Over}
use Rattle.port_driver.proofs.served_port.ServedPort.complete_and_recover.Goals as goal
use Rattle.port_driver.proofs.served_port.ServedPort.complete_and_recover.Goals.{After-answer_done-arg-3-1, After-done-arg-1, After-recover_or_stop-arg-1, After-is_any_queued-arg-1}

-- a server of which so much is lent
abbrev Has : (g : Over) (c : After-done-arg-1 g) → Type 0
Has g c = (s : ServerState) × IsInError s (g.A.Adapter.device c.args.adapter.now) c.args.shared.now c.args.port c.args.self.now c.args.port_error

abbrev troubled : (g : Over) (c : After-done-arg-1 g) → Has g c → Troubled
troubled g c l = record {
  laws = record {
    looking = c.law_looks_preserve_invariant.ensures.looking;
    finding = c.law_looks_preserve_invariant.ensures.finding;
    over = c.law_looks_preserve_invariant.ensures.done_slots_are_over;
    may = c.law_recover_preconditions_hold_after_look.ensures.may_recover;
    agreed = c.law_recover_preconditions_hold_after_look.ensures.plain_uses_slot_0;
    alike = c.law_recover_preconditions_hold_after_look.ensures.are_queued_alike;
    alone = c.law_recover_preconditions_hold_after_look.ensures.plain_is_alone;
  };
  s = l.0;
  device = g.A.Adapter.device c.args.adapter.now;
  shared = c.args.shared.now;
  port = c.args.port;
  p = c.args.self.now;
  port_error = c.args.port_error;
  lends = l.1;
}

abbrev at_taking : (g : Over) (c : After-answer_done-arg-3-1 g) → After-done-arg-1 g
at_taking g c = (goal.at.answer_done-requires-clause-server_has_port g c).After-done-arg-1

abbrev found_done : (g : Over) (c : After-answer_done-arg-3-1 g) (l : Has g (at_taking g c)) → FoundDone (troubled g (at_taking g c) l)
found_done g c l = record {
  mask = c.taken-used.result;
  exact = c.taken-used.ensures;
  done = c.done-finished.result;
  found = g.A.Adapter.device c.done-finished.new.adapter;
  reads = c.done-finished.ensures.finds;
}

abbrev at_done : (g : Over) (c : After-is_any_queued-arg-1 g) → After-answer_done-arg-3-1 g
at_done g c = (goal.at.is_any_queued-queued-requires g c).After-answer_done-arg-3-1

-- both, once what is done was answered
abbrev its_trouble : (g : Over) (c : After-is_any_queued-arg-1 g) → Has g (at_taking g (at_done g c)) → Troubled
its_trouble g c l = troubled g (at_taking g (at_done g c)) l

abbrev its_done : (g : Over) (c : After-is_any_queued-arg-1 g) (l : Has g (at_taking g (at_done g c))) → FoundDone (its_trouble g c l)
its_done g c l = found_done g (at_done g c) l

abbrev answered : (g : Over) (c : After-is_any_queued-arg-1 g) (l : Has g (at_taking g (at_done g c))) → Answered (its_trouble g c l) (its_done g c l)
answered g c l =
    let f = its_done g c l in
    let from = record l.0 { device = f.found } in
    let done = lends_done (its_trouble g c l) f in
    record {
      before = c.args.replies.now.items;
      after = c.answer_done.new.replies.items;
      t = c.answer_done.new.table;
      b = c.answer_done.new.book;
      u = c.answer_done.new.slots;
      answers = (rw c.deref_mut.ensures.value at c.answer_done.ensures.answers) from c.args.port done;
      lent = (rw c.deref_mut.ensures.value at c.answer_done.ensures.lends) from c.args.port done;
    }

abbrev at_answer : (g : Over) (c : After-recover_or_stop-arg-1 g) → After-is_any_queued-arg-1 g
at_answer g c = (goal.at.recover_or_stop-recovered-requires-clause-ready g c).After-is_any_queued-arg-1

abbrev waiting : (g : Over) (c : After-recover_or_stop-arg-1 g) (l : Has g (at_taking g (at_done g (at_answer g c)))) → Waiting (its_trouble g (at_answer g c) l) (its_done g (at_answer g c) l) (answered g (at_answer g c) l)
waiting g c l = record {
  outstanding = c.taken-outstanding.result;
  left = c.taken-outstanding.ensures;
  queued = c.is_any_queued-queued.result;
  kinds = c.is_any_queued-queued.ensures;
}

pub done-finished-requires-clause-adapter_is_on : goal.done-finished-requires-clause-adapter_is_on
done-finished-requires-clause-adapter_is_on g c = (seen_kept (troubled g c c.requires.server_is_in_error)).adapter_is_on

pub done-finished-requires-clause-has_port : goal.done-finished-requires-clause-has_port
done-finished-requires-clause-has_port g c = seen_there (troubled g c c.requires.server_is_in_error)

pub answer_done-requires-clause-server_has_port : goal.answer_done-requires-clause-server_has_port
answer_done-requires-clause-server_has_port g c =
    let f = found_done g c c.requires.server_is_in_error in
    let s = record c.requires.server_is_in_error.0 { device = f.found } in
    let D : OwnersAndLoans → Type 0 = λ table. HasPortToAnswer s table c.args.shared.now.book c.args.self.now.slots c.args.port f.done in
    (s, c.args.port, subst D (sym c.deref_mut.ensures.value) (lends_done (troubled g (at_taking g c) c.requires.server_is_in_error) f))

pub is_any_queued-queued-requires : goal.is_any_queued-queued-requires
is_any_queued-queued-requires g c =
    let l = c.requires.server_is_in_error in
    record { all_queued_or_none = alike (its_trouble g c l) (its_done g c l) (answered g c l); places = places (its_trouble g c l) (its_done g c l) (answered g c l) }

pub recover_or_stop-recovered-requires-clause-ready : goal.recover_or_stop-recovered-requires-clause-ready
recover_or_stop-recovered-requires-clause-ready g c =
    let l = c.requires.server_is_in_error in
    let a = at_answer g c in
    record {
      adapter_is_on = (mid_kept (its_trouble g a l) (its_done g a l) (answered g a l)).adapter_is_on;
      has_port = mid_there (its_trouble g a l) (its_done g a l) (answered g a l);
      driver_memory_fits = (mid_kept (its_trouble g a l) (its_done g a l) (answered g a l)).driver_memory_fits;
      machine_is_related = agreed (its_trouble g a l) (its_done g a l) (answered g a l) (waiting g c l);
      plain_is_slot_0 = alone (its_trouble g a l) (its_done g a l) (answered g a l) (waiting g c l);
    }

pub recover_or_stop-recovered-requires-clause-may : goal.recover_or_stop-recovered-requires-clause-may
recover_or_stop-recovered-requires-clause-may g c =
    let l = c.requires.server_is_in_error in
    let a = at_answer g c in
    may (its_trouble g a l) (its_done g a l)

pub failed_request_in-failed-requires : goal.failed_request_in-failed-requires
failed_request_in-failed-requires g c =
    let l = c.requires.server_is_in_error in
    let q = (goal.at.failed_request_in-failed-requires g c).After-recover_or_stop-arg-1 in
    let a = at_answer g q in
    named (its_trouble g a l) (its_done g a l) (answered g a l) (waiting g q l) c.recover_or_stop-recovered.result (g.A.Adapter.device c.recover_or_stop-recovered.new.adapter) c.recover_or_stop-recovered.ensures.handling

pub returns-clause-completes_and_recovers : goal.returns-clause-completes_and_recovers
returns-clause-completes_and_recovers g c = λ s sees.
    let q = (goal.at.returns-clause-completes_and_recovers g c).After-recover_or_stop-arg-1 in
    let a = at_answer g q in
    let l : Has g (at_taking g (at_done g a)) = (s, sees) in
    mends_rest (its_trouble g a l) (its_done g a l) (answered g a l) (waiting g q l) c.recover_or_stop-recovered.result (g.A.Adapter.device c.recover_or_stop-recovered.new.adapter) c.recover_or_stop-recovered.ensures.handling c.failed_request_in-failed.result c.failed_request_in-failed.ensures
