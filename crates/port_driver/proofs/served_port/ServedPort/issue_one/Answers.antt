use Rattle.std.proofs.Common.{◌<◌, ◌≤◌, ◌/◌, ◌%◌, List, Some, not, refl, sym, ap, ◌∙◌, subst}
use Rattle.port_driver.specs.LentSlots.{FitsSlot}
use Rattle.ata_types.specs.declared.request.Frame.{Frame}
use Rattle.ncq.specs.Issuing.{IsIssued}
use Rattle.block_machine.specs.DueRequests.{is_plain}
use Rattle.request_queue.specs.declared.PendingRequest.{PendingRequest}
use Rattle.ncq.specs.declared.tasks.Task.{Task}
use Rattle.slots.specs.SlotUses.{with_use}
use Rattle.port_driver.proofs.Sending as sending
use Rattle.port_driver.proofs.served_port.ServedPort.issue_one.Given.{Over}
use Rattle.port_driver.proofs.served_port.ServedPort.issue_one.Goals as goal
use Rattle.port_driver.proofs.served_port.ServedPort.issue_one.Goals.{After-issue_task-arg-2-1}

pub unreachable-requires : goal.unreachable-requires
unreachable-requires g c =
    let l = c.requires.may.some_server_has_port in
    sending.is_free l.0 (g.A.Adapter.device c.args.adapter.now) c.args.book.now c.args.self.now.slots c.args.port c.args.self.now.mode c.args.self.now.probe_result c.requires.may.ready l.1 c.args.id c.requires.due c.law_a_due_request_finds_a_free_slot.ensures.not_all_usable_are_taken c.in_default.ensures.all_are_allocated

pub issue_task-requires-clause-fits : goal.issue_task-requires-clause-fits
issue_task-requires-clause-fits g c =
    let l = c.requires.may.some_server_has_port in
    let one = c.law_an_id_is_one_request.ensures.one_request_an_id in
    let device = g.A.Adapter.device c.args.adapter.now in
    let book = c.args.book.now in
    let slots = c.args.self.now.slots in
    let lowest = c.law_a_due_request_finds_a_free_slot.ensures.lowest_free_slot_fits in
    let entry_is = sending.entry_is l.0 device book slots c.args.port c.args.self.now.mode c.args.self.now.probe_result c.requires.may.ready l.1 c.args.id c.requires.due one c.entry.result.0.now c.entry.result.1.now.frames c.entry.ensures.is_in_book c.entry.ensures.id.0 in
    subst (λ (t : Task). FitsSlot t c.entry.result.1.now.frames c.in-Some.slot.0) (sym c.task_for-task.ensures)
    (sending.may_go l.0.table c.requires.due.0 (sending.its l.0 device book slots c.args.port c.args.self.now.mode c.args.self.now.probe_result c.requires.may.ready l.1 c.args.id c.requires.due) c.args.self.now.mode c.in-Some.slot.0
    (sending.may_issue l.0 device book slots c.args.port c.args.self.now.mode c.args.self.now.probe_result c.requires.may.ready l.1 c.args.id c.requires.due lowest c.in-Some.slot.0 c.in-Some.ensures.lowest).2
    (not c.is_plain-queued.result) (ap not c.is_plain-queued.ensures ∙ ap (λ (x : PendingRequest). not (is_plain c.args.self.now.mode x.op)) entry_is) c.entry.result.0.now entry_is
    c.entry.result.1.now.frames (sending.frames_are l.0 device book slots c.args.port c.args.self.now.mode c.args.self.now.probe_result c.requires.may.ready l.1 c.args.id c.requires.due one c.entry.result.0.now c.entry.result.1.now.frames c.entry.ensures.is_in_book c.entry.ensures.id.0))

pub returns : goal.returns
returns g c = record {
  issues = λ s l.
      let device = g.A.Adapter.device in
      let port = c.args.port in
      let slot = c.in-Some.slot.0 in
      let one = c.law_an_id_is_one_request.ensures.one_request_an_id in
      let e = c.requires.due.0 in
      let small = (sending.may_issue s (device c.args.adapter.now) c.args.book.now c.args.self.now.slots port c.args.self.now.mode c.args.self.now.probe_result c.requires.may.ready l c.args.id c.requires.due c.law_a_due_request_finds_a_free_slot.ensures.lowest_free_slot_fits slot c.in-Some.ensures.lowest).0 in
      let entry_is = sending.entry_is s (device c.args.adapter.now) c.args.book.now c.args.self.now.slots port c.args.self.now.mode c.args.self.now.probe_result c.requires.may.ready l c.args.id c.requires.due one c.entry.result.0.now c.entry.result.1.now.frames c.entry.ensures.is_in_book c.entry.ensures.id.0 in
      let task_is = sending.task_is s (device c.args.adapter.now) c.args.book.now c.args.self.now.slots port c.args.self.now.mode c.args.self.now.probe_result c.requires.may.ready l c.args.id c.requires.due c.is_plain-queued.result c.entry.result.0.now c.is_plain-queued.ensures entry_is in
      let lent_is = sending.frames_are s (device c.args.adapter.now) c.args.book.now c.args.self.now.slots port c.args.self.now.mode c.args.self.now.probe_result c.requires.may.ready l c.args.id c.requires.due one c.entry.result.0.now c.entry.result.1.now.frames c.entry.ensures.is_in_book c.entry.ensures.id.0 in
      let F : List Frame → Type 0 = λ frames. IsIssued port slot c.task_for-task.result frames (device c.args.adapter.now) (device c.issue_task.new.adapter) in
      let T : Task → Type 0 = λ t. IsIssued port slot t e.frames (device c.args.adapter.now) (device c.issue_task.new.adapter) in
      sending.sent s (device c.args.adapter.now) c.args.book.now c.args.self.now.slots port c.args.self.now.mode c.args.self.now.probe_result c.requires.may.ready l c.args.id c.requires.due
      slot small c.in-Some.ensures.lowest (device c.issue_task.new.adapter)
      (subst T (c.task_for-task.ensures ∙ task_is) (subst F lent_is c.issue_task.ensures.issued)) c.issue.new.self c.issue.ensures
      c.take.new.self (c.in-Some.ensures.taken ∙ ap (λ (t : Task). with_use c.args.self.now.slots slot (Some (record { id = c.args.id; queued = t.queued }))) task_is);
  rest = refl;
  cost = c.issue_task.ensures.cost;
}

pub issue_task-requires-clause-may : goal.issue_task-requires-clause-may
issue_task-requires-clause-may g c =
    let l = c.requires.may.some_server_has_port in
    sending.may_issue_task l.0 (g.A.Adapter.device c.args.adapter.now) c.args.book.now c.args.self.now.slots c.args.port c.args.self.now.mode c.args.self.now.probe_result c.requires.may.ready l.1 c.args.id c.requires.due c.law_a_due_request_finds_a_free_slot.ensures.lowest_free_slot_fits c.in-Some.slot.0 c.in-Some.ensures.lowest

-- where it may be issued
goes_in : (g : Over) (c : After-issue_task-arg-2-1 g) → (c.in-Some.slot.0 < 32) × (c.in-Some.slot.0 ≤ (g.A.Adapter.device c.args.adapter.now).cap / 256 % 32)
goes_in g c =
    let l = c.requires.may.some_server_has_port in
    let may = sending.may_issue l.0 (g.A.Adapter.device c.args.adapter.now) c.args.book.now c.args.self.now.slots c.args.port c.args.self.now.mode c.args.self.now.probe_result c.requires.may.ready l.1 c.args.id c.requires.due c.law_a_due_request_finds_a_free_slot.ensures.lowest_free_slot_fits c.in-Some.slot.0 c.in-Some.ensures.lowest in
    (may.0, may.1)

pub issue_task-requires-clause-small : goal.issue_task-requires-clause-small
issue_task-requires-clause-small g c = (goes_in g c).0

pub issue_task-requires-clause-usable : goal.issue_task-requires-clause-usable
issue_task-requires-clause-usable g c = (goes_in g c).1
