use Rattle.std.proofs.Common.{ap, arith, refl}
use Rattle.server_history.specs.ServerState.{state_of}
use Rattle.port_driver.proofs.Sending.{none_issued}
use Rattle.port_driver.proofs.served_port.ServedPort.issue_where_ready.Goals as goal

pub issue_due-requires : goal.issue_due-requires
issue_due-requires g c = record { ready = ap state_of c.in-Ready.is; some_server_has_port = c.requires.server_has_port }

pub returns-in_default : goal.returns-in_default
returns-in_default g c = record {
  issues_all_due = λ s l. none_issued c.law_resolved_errors_keep_in_call_invariant.ensures.unready_has_none_due s (g.A.Adapter.device c.args.adapter.now) c.args.book.now c.args.self.now.slots c.args.port c.args.self.now.mode c.args.self.now.probe_result l c.in_default.not-Ready;
  only_slots_change = refl;
  book_length_is_unchanged = refl;
  none_due_no_access = λ none. refl;
  cost_per_due_request = omega arith;
  cost = omega arith;
}
