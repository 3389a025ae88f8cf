use Rattle.std.proofs.Common.{ℕ, ◌≡◌, ◌<◌, true, map, refl, set, sym, ap, ◌∙◌, subst}
use Rattle.std.specs.Box.{with_value}
use Rattle.adapter.specs.Device.{Device}
use Rattle.port_driver.specs.declared.served_port.Shared.{Shared}
use Rattle.port_driver.specs.PortAndShared.{HasNoneDueAndParts, TakesTurn, with_served_port}
use Rattle.port_driver.specs.LentSlots.{HasPortToAnswer, HasPortToIssue, with_answers}
use Rattle.server_history.specs.IssuingAndAnswering.{AnswersDoneAndIssues, done_reply}
use Rattle.server_history.specs.ServerState.{ServerState, state_of}
use Rattle.ata_types.specs.declared.PortState.TheVariants.{Ready}
use Rattle.host_boot.specs.TakeOver.{probe_result_of}
use Rattle.hba_regs.specs.Bits.{bit}
use Rattle.adapter.specs.OneCommand.{SlotHasNoCommand}
use Rattle.port_driver.proofs.Finishing as finishing
use Rattle.port_driver.proofs.Placing as placing
use Rattle.port_driver.proofs.served_port.ServedPort.answer_and_issue.Given.{Over}
use Rattle.port_driver.proofs.served_port.ServedPort.answer_and_issue.Goals as goal
use Rattle.port_driver.proofs.served_port.ServedPort.answer_and_issue.Goals.{After-issue_due}

-- a settled server that has the port
module _ (g : Over) (c : After-issue_due g) (s : ServerState) (h : HasNoneDueAndParts s (g.A.Adapter.device c.args.adapter.now) c.args.shared.now c.args.port c.args.self.now) where
  its_ready : state_of (probe_result_of s.probe_results c.args.port.0) ≡ Ready
  its_ready = ap state_of h.has_port_and_shared.port_is.probe_result_is ∙ c.requires.ready

  over : (slot : ℕ) → slot < 32 → bit c.args.finished slot ≡ true → SlotHasNoCommand (s.device.port c.args.port.0) slot
  over slot small its = subst (λ (d : Device). SlotHasNoCommand (d.port c.args.port.0) slot) (sym h.has_port_and_shared.device_is) (c.requires.over slot small its)

  lent : HasPortToAnswer s c.deref_mut.result.now c.args.shared.now.book c.args.self.now.slots c.args.port c.args.finished
  lent = record {
    in_call_invariant = h.invariant_with_none_due.in_call_invariant;
    ready = its_ready;
    table_is = h.has_port_and_shared.table_is ∙ sym c.deref_mut.ensures.value;
    book_is = h.has_port_and_shared.book_is;
    slots_are = h.has_port_and_shared.port_is.slots_are;
    over = over;
  }

  abbrev mid : ServerState
  mid = with_answers s c.answer_done.new.table c.answer_done.new.book c.answer_done.new.slots c.args.port

  found_then : HasPortToIssue mid (g.A.Adapter.device c.args.adapter.now) c.answer_done.new.book c.answer_done.new.slots c.args.port c.args.self.now.mode c.args.self.now.probe_result
  found_then =
      let then = c.answer_done.new in
      subst (λ (d : Device). HasPortToIssue mid d then.book then.slots c.args.port c.args.self.now.mode c.args.self.now.probe_result) h.has_port_and_shared.device_is
      (finishing.lends_on s c.args.port c.args.finished c.args.replies.now.items then.replies.items then.table then.book then.slots
      (c.answer_done.ensures.answers s c.args.port lent) (c.answer_done.ensures.lends s c.args.port lent) c.args.self.now.mode h.has_port_and_shared.port_is.mode_is c.args.self.now.probe_result h.has_port_and_shared.port_is.probe_result_is)

  finished : TakesTurn (AnswersDoneAndIssues c.args.port c.args.finished) c.args.replies.now.items c.answer_done.new.replies.items s
      (with_served_port s (g.A.Adapter.device c.issue_due.new.adapter) (record { table = with_value c.args.shared.now.table c.answer_done.new.table; book = c.issue_due.new.book }) c.args.port c.issue_due.new.self)
  finished =
      let then = c.answer_done.new in
      let new = g.A.Adapter.device c.issue_due.new.adapter in
      let u = c.issue_due.new.self.slots in
      let answers = c.answer_done.ensures.answers s c.args.port lent in
      let done = finishing.finishes s c.args.port c.args.finished c.args.replies.now.items then.replies.items then.table then.book then.slots answers (c.answer_done.ensures.lends s c.args.port lent)
      new c.issue_due.new.book u (c.issue_due.ensures.issues_all_due mid found_then) c.args.port.0 refl in
      let after : ServerState = record s { device = new; table = then.table; slots = set s.slots c.args.port.0 u; book = c.issue_due.new.book } in
      let settled = c.law_answer_and_issue_leave_none_due.ensures s after c.args.port c.args.finished (map done_reply answers.requests) h.invariant_with_none_due its_ready over done in
      let shared : Shared = record { table = with_value c.args.shared.now.table then.table; book = c.issue_due.new.book } in
      subst (TakesTurn (AnswersDoneAndIssues c.args.port c.args.finished) c.args.replies.now.items then.replies.items s)
      (sym (ap (with_served_port s new shared c.args.port) c.issue_due.ensures.only_slots_change ∙ placing.with_slots s c.args.port c.args.self.now h.has_port_and_shared.port_is new shared u))
      (record { new_replies = map done_reply answers.requests; replies_are = answers.replies_are_appended; turn_is_taken = done; invariant_with_none_due = settled })

pub returns-clause-finishes : goal.returns-clause-finishes
returns-clause-finishes g c = λ s h. finished g (goal.at.returns-clause-finishes g c).After-issue_due s h
