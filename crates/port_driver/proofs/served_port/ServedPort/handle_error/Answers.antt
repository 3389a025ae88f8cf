use Rattle.std.proofs.Common.{Option, Some, ℕ, ◌≡◌, ◌≤◌, ◌++◌, List, [], map, take, drop, length, refl, set, sym, ap, ◌∙◌, subst, arith}
use Rattle.std.specs.List.Sorted.{IsPermutation}
use Rattle.std.proofs.lemmas.List.{length-append, set-set}
use Rattle.port_driver.specs.PortAndShared.{TakesTurn, with_served_port}
use Rattle.port_driver.specs.Recovery.{HandlesPortErrorOf, IsInError}
use Rattle.port_driver.specs.LoanRoom.{HaveRoomForIssuedLoans, book_and_loans}
use Rattle.port_driver.specs.LentSlots.{HasPortToIssue, with_port_slots}
use Rattle.block_machine.specs.declared.due.QueueMode.{QueueMode}
use Rattle.host_boot.specs.declared.ProbeResult.{ProbeResult}
use Rattle.identify.specs.declared.DiskInfo.{DiskInfo}
use Rattle.identify.specs.declared.wanted.Wanted.{Wanted}
use Rattle.server_history.specs.ErrorHandling.{IsFoundAfterError, requests_of}
use Rattle.server_history.specs.IssuingAndAnswering.{done_reply}
use Rattle.server_history.specs.ServerState.{ServerState, quarantined_at, last_disk_of}
use Rattle.slots.specs.SlotUses.{PortSlots}
use Rattle.port_driver.specs.declared.served_port.ServedPort.{ServedPort}
use Rattle.port_driver.specs.declared.served_port.Shared.{Shared}
use Rattle.dma_frames.specs.Loan.{Lending}
use Rattle.request_queue.specs.Dispositions.{AreResolved, disposition_of}
use Rattle.port_driver.proofs.Placing as placing
use Rattle.port_driver.proofs.Usable.{few_usable}
use Rattle.port_driver.proofs.Restoring as restoring
use Rattle.port_driver.proofs.Restoring.{Ordered, Recovery, Restoration}
use Rattle.port_driver.proofs.served_port.ServedPort.handle_error.Given.{Over}
use Rattle.port_driver.proofs.served_port.ServedPort.handle_error.Goals as goal
use Rattle.port_driver.proofs.served_port.ServedPort.handle_error.Goals.{After-complete_and_recover-failed, After-sort_replies_from-arg-1, After-issue_where_ready}

-- a server whose port, which is this one, told of the error
abbrev Has : (g : Over) (c : After-complete_and_recover-failed g) → ServerState → Type 0
Has g c s = IsInError s (g.A.Adapter.device c.args.adapter.now) c.args.shared.now c.args.port c.args.self.now c.args.port_error

-- what was seen of the port, and what recovery left
abbrev recovered : (g : Over) (c : After-complete_and_recover-failed g) (s : ServerState) → Has g c s → Recovery
recovered g c s h =
    let then = c.complete_and_recover-failed.new in
    record {
      laws = record {
        bootable = c.law_resolved_errors_keep_in_call_invariant.ensures.bootable;
        mode = c.law_resolved_errors_keep_in_call_invariant.ensures.mode_is_kept;
        places = c.law_resolved_errors_keep_in_call_invariant.ensures.issued_loans_have_room;
        settled = c.law_resolved_errors_keep_in_call_invariant.ensures.resolved_has_invariant;
        error_handled = c.law_handling_look_result_is_a_service_turn.ensures.error_handled;
        restarted = c.law_handling_timeout_is_a_restart_turn.ensures;
      };
      s = s;
      port = c.args.port;
      port_error = c.args.port_error;
      first = g.A.Adapter.device c.args.adapter.now;
      sees = h.sees_port_error;
      was = c.in-Ready.was;
      is_ready = h.had_none_due_and_parts.has_port_and_shared.port_is.probe_result_is ∙ c.in-Ready.is;
      before = c.args.replies.now.items;
      told = then.replies.items;
      failed = c.complete_and_recover-failed.result.0;
      next = c.complete_and_recover-failed.result.1;
      t = then.shared.table.value;
      b = then.shared.book;
      u = then.self.slots;
      one = g.A.Adapter.device then.adapter;
      rest = c.complete_and_recover-failed.ensures.completes_and_recovers s h;
    }

-- what the port is once it was found so
abbrev found_so : (g : Over) (c : After-sort_replies_from-arg-1 g) → Option DiskInfo → ServedPort
found_so g c disk = record c.complete_and_recover-failed.new.self {
  probe_result = c.resume_or_reboot-found.result.0;
  remembered = disk;
  mode = c.resume_or_reboot-found.result.1;
  slots = c.replace_probe_result_and_free_slots.new.self.slots;
}

-- its disk is the one that it was ready with
is_anew : (g : Over) (c : After-sort_replies_from-arg-1 g) → c.replace_probe_result_and_free_slots.new.self ≡ found_so g c (Some c.in-Ready.was)
is_anew g c =
    let then = c.complete_and_recover-failed.new.self in
    c.replace_probe_result_and_free_slots.ensures.only_these_change
    ∙ ap (λ (f : ProbeResult). found_so g c (last_disk_of f then.remembered)) (ap (λ (p : ServedPort). p.probe_result) c.complete_and_recover-failed.ensures.only_slots_change ∙ c.in-Ready.is)

-- what the server kept of the port is kept still
same_kept : (g : Over) (c : After-complete_and_recover-failed g) (s : ServerState) → Has g c s → c.complete_and_recover-failed.new.self.kept ≡ quarantined_at s.kept_loans c.args.port.0
same_kept g c s h = ap (λ (p : ServedPort). p.kept) c.complete_and_recover-failed.ensures.only_slots_change ∙ sym h.had_none_due_and_parts.has_port_and_shared.port_is.quarantine_is

pub resume_or_reboot-found-requires-clause-mode : goal.resume_or_reboot-found-requires-clause-mode
resume_or_reboot-found-requires-clause-mode g c =
    let a = (goal.at.resume_or_reboot-found-requires-clause-mode g c).After-complete_and_recover-failed in
    let h = c.requires.sees in
    restoring.mode_then (recovered g a h.0 h.1) c.complete_and_recover-failed.new.self.mode (ap (λ (p : ServedPort). p.mode) c.complete_and_recover-failed.ensures.only_slots_change ∙ sym h.1.had_none_due_and_parts.has_port_and_shared.port_is.mode_is)

pub resume_or_reboot-found-requires-clause-bootable : goal.resume_or_reboot-found-requires-clause-bootable
resume_or_reboot-found-requires-clause-bootable g c =
    restoring.bootable (recovered g (goal.at.resume_or_reboot-found-requires-clause-bootable g c).After-complete_and_recover-failed c.requires.sees.0 c.requires.sees.1)

pub replace_probe_result_and_free_slots-requires : goal.replace_probe_result_and_free_slots-requires
replace_probe_result_and_free_slots-requires g c =
    let few = few_usable (g.A.Adapter.device c.resume_or_reboot-found.new.adapter).cap c.resume_or_reboot-found.result.0 in
    subst (λ (mode : QueueMode). mode.usable_slots ≤ 32) (sym c.resume_or_reboot-found.ensures.mode) few

pub resolve-requires-clause-all_may_be_answered : goal.resolve-requires-clause-all_may_be_answered
resolve-requires-clause-all_may_be_answered g c = record {
  book_is_sound = restoring.sound (recovered g (goal.at.resolve-requires-clause-all_may_be_answered g c).After-complete_and_recover-failed c.requires.sees.0 c.requires.sees.1);
  replies_have_room = c.complete_and_recover-failed.ensures.room;
}

pub resolve-requires-clause-loans_have_room : goal.resolve-requires-clause-loans_have_room
resolve-requires-clause-loans_have_room g c =
    let a = (goal.at.resolve-requires-clause-loans_have_room g c).After-complete_and_recover-failed in
    let x = recovered g a c.requires.sees.0 c.requires.sees.1 in
    subst (HaveRoomForIssuedLoans (requests_of c.args.port x.b)) (sym (ap (λ (p : ServedPort). p.kept) c.replace_probe_result_and_free_slots.ensures.only_these_change ∙ same_kept g a c.requires.sees.0 c.requires.sees.1)) (restoring.have_places x c.args.port.0 refl [])

pub sort_replies_from-requires : goal.sort_replies_from-requires
sort_replies_from-requires g c =
    let r = (recovered g (goal.at.sort_replies_from-requires g c).After-complete_and_recover-failed c.requires.sees.0 c.requires.sees.1).rest in
    let all = ap length c.resolve.ensures.resolves.1 ∙ length-append c.complete_and_recover-failed.new.replies.items c.resolve.ensures.resolves.0 in
    let told = ap length r.replies_are ∙ length-append c.args.replies.now.items (map done_reply r.error_handled.requests) in
    let first = c.len-first.ensures.value in
    omega (arith, all, told, first)

abbrev at_mending : (g : Over) (c : After-sort_replies_from-arg-1 g) → After-complete_and_recover-failed g
at_mending g c = (goal.at.sort_replies_from-requires g c).After-complete_and_recover-failed

-- what the port was found to be then, and how its requests were resolved
abbrev restored : (g : Over) (c : After-sort_replies_from-arg-1 g) (s : ServerState) (h : Has g (at_mending g c) s) → Restoration (recovered g (at_mending g c) s h)
restored g c s h =
    let device = g.A.Adapter.device in
    let x = recovered g (at_mending g c) s h in
    let met = c.resolve.ensures.resolves in
    let now = book_and_loans c.resolve.new.self.book c.resolve.new.self.table.value c.resolve.new.kept in
    let K : List Lending → Type 0 = λ loans. AreResolved (disposition_of c.complete_and_recover-failed.result.0 c.revalidation_of.result) (requests_of c.args.port x.b) met.0 (book_and_loans x.b x.t loans) now in
    let W : Wanted → Type 0 = λ wanted. IsFoundAfterError wanted c.args.port c.args.port_error c.in-Ready.was x.next x.one (device c.resume_or_reboot-found.new.adapter) c.resume_or_reboot-found.result.0 in
    let wanted_is = (ap (λ (p : ServedPort). p.wanted) c.complete_and_recover-failed.ensures.only_slots_change ∙ sym h.had_none_due_and_parts.has_port_and_shared.port_is.wanted_is) in
    record {
      two = device c.resume_or_reboot-found.new.adapter;
      found = c.resume_or_reboot-found.result.0;
      is_found = subst W wanted_is (c.resume_or_reboot-found.ensures.found c.args.port (restoring.token_of x));
      mode = c.resume_or_reboot-found.result.1;
      mode_is = c.resume_or_reboot-found.ensures.mode;
      fresh = c.replace_probe_result_and_free_slots.new.self.slots;
      usable = c.replace_probe_result_and_free_slots.ensures.has_no_used_slot.usable_count_is_of_mode;
      as_many = c.replace_probe_result_and_free_slots.ensures.has_no_used_slot.has_32_slots;
      free = c.replace_probe_result_and_free_slots.ensures.has_no_used_slot.all_slots_are_free;
      revalidation = c.revalidation_of.result;
      expects = c.revalidation_of.ensures;
      now = now;
      later = met.0;
      meets = subst K (ap (λ (p : ServedPort). p.kept) c.replace_probe_result_and_free_slots.ensures.only_these_change ∙ same_kept g (at_mending g c) s h) met.2;
    }

-- and it has what issuing asks
lends_anew : (g : Over) (c : After-sort_replies_from-arg-1 g) (s : ServerState) (h : Has g (at_mending g c) s)
    → HasPortToIssue (restoring.then (recovered g (at_mending g c) s h) (restored g c s h)) (g.A.Adapter.device c.resume_or_reboot-found.new.adapter) c.resolve.new.self.book c.replace_probe_result_and_free_slots.new.self.slots c.args.port c.replace_probe_result_and_free_slots.new.self.mode c.replace_probe_result_and_free_slots.new.self.probe_result
lends_anew g c s h =
    let x = recovered g (at_mending g c) s h in
    let y = restored g c s h in
    let L : ServedPort → Type 0 = λ p. HasPortToIssue (restoring.then x y) (g.A.Adapter.device c.resume_or_reboot-found.new.adapter) c.resolve.new.self.book p.slots c.args.port p.mode p.probe_result in
    subst L (sym (is_anew g c)) (restoring.lends_found x y)

pub issue_where_ready-requires : goal.issue_where_ready-requires
issue_where_ready-requires g c =
    let a = (goal.at.issue_where_ready-requires g c).After-sort_replies_from-arg-1 in
    let s = c.requires.sees.0 in
    let x = recovered g (at_mending g a) s c.requires.sees.1 in
    let y = restored g a s c.requires.sees.1 in
    record { server_has_port = (restoring.then x y, lends_anew g a s c.requires.sees.1) }

-- the port's error was handled, with as many replies as there were before they were put in order
abbrev at_order : (g : Over) (c : After-issue_where_ready g) → After-sort_replies_from-arg-1 g
at_order g c = (goal.at.returns-clause-room g c).After-sort_replies_from-arg-1

module _ (g : Over) (c : After-issue_where_ready g) (s : ServerState) (h : IsInError s (g.A.Adapter.device c.args.adapter.now) c.args.shared.now c.args.port c.args.self.now c.args.port_error) where
  abbrev x : Recovery
  x = recovered g (at_mending g (at_order g c)) s h

  abbrev y : Restoration x
  y = restored g (at_order g c) s h

  o : Ordered x y
  o =
      let sorted = c.sort_replies_from.ensures in
      let X : ℕ → Type 0 = λ n. (c.sort_replies_from.new.replies.items ≡ take n c.resolve.new.replies.items ++ sorted.0) × IsPermutation sorted.0 (drop n c.resolve.new.replies.items) in
      let moved = subst X c.len-first.ensures.value (sorted.1, sorted.2) in
      record {
        settled = h.had_none_due_and_parts.invariant_with_none_due;
        three = g.A.Adapter.device c.issue_where_ready.new.adapter;
        book = c.issue_where_ready.new.book;
        slots = c.issue_where_ready.new.self.slots;
        issues = c.issue_where_ready.ensures.issues_all_due (restoring.then x y) (lends_anew g (at_order g c) s h);
        all = c.resolve.new.replies.items;
        its = sorted.0;
        after = c.sort_replies_from.new.replies.items;
        all_is = c.resolve.ensures.resolves.1;
        sorted = moved.0;
        moved = moved.1;
        ordered = sorted.3;
      }

  abbrev shared : Shared
  shared = record c.resolve.new.self { book = c.issue_where_ready.new.book }

  -- so it is with the port in its place
  placed : with_served_port s (g.A.Adapter.device c.issue_where_ready.new.adapter) shared c.args.port c.issue_where_ready.new.self
      ≡ with_port_slots (restoring.then x y) (g.A.Adapter.device c.issue_where_ready.new.adapter) c.issue_where_ready.new.book c.issue_where_ready.new.self.slots c.args.port
  placed =
      let three = g.A.Adapter.device c.issue_where_ready.new.adapter in
      let wanted_is = ap (λ (p : ServedPort). p.wanted) c.issue_where_ready.ensures.only_slots_change ∙ ap (λ (p : ServedPort). p.wanted) (is_anew g (at_order g c)) ∙ ap (λ (p : ServedPort). p.wanted) c.complete_and_recover-failed.ensures.only_slots_change in
      let P : List Lending → PortSlots → ServedPort → ServerState = λ kept slots p. record s {
        device = three;
        table = c.resolve.new.self.table.value;
        probe_results = set s.probe_results c.args.port.0 p.probe_result;
        remembered = set s.remembered c.args.port.0 p.remembered;
        modes = set s.modes c.args.port.0 p.mode;
        slots = set s.slots c.args.port.0 slots;
        kept_loans = set s.kept_loans c.args.port.0 kept;
        book = c.issue_where_ready.new.book;
      } in
      placing.with_other s c.args.port c.args.self.now h.had_none_due_and_parts.has_port_and_shared.port_is three shared c.issue_where_ready.new.self wanted_is
      ∙ ap (λ (p : ServedPort). P p.kept p.slots p) c.issue_where_ready.ensures.only_slots_change
      ∙ ap (P c.resolve.new.kept c.issue_where_ready.new.self.slots) (is_anew g (at_order g c))
      ∙ ap (λ (list : List PortSlots). record (restoring.then x y) { device = three; slots = list; book = c.issue_where_ready.new.book })
      (sym (set-set s.slots c.args.port.0 c.replace_probe_result_and_free_slots.new.self.slots c.issue_where_ready.new.self.slots))

  handled : TakesTurn (HandlesPortErrorOf c.args.port c.args.port_error) c.args.replies.now.items c.sort_replies_from.new.replies.items s
      (with_served_port s (g.A.Adapter.device c.issue_where_ready.new.adapter) shared c.args.port c.issue_where_ready.new.self)
  unfolding o
  handled =
      let done = restoring.error_handled x y o in
      subst (TakesTurn (HandlesPortErrorOf c.args.port c.args.port_error) c.args.replies.now.items c.sort_replies_from.new.replies.items s) (sym placed)
      (record { new_replies = c.sort_replies_from.ensures.0; replies_are = restoring.replies_are x y o; turn_is_taken = done.0; invariant_with_none_due = done.1 })

  as_many : length c.sort_replies_from.new.replies.items ≡ length c.resolve.new.replies.items
  unfolding o
  as_many = restoring.as_many_replies x y o

pub returns-clause-handles : goal.returns-clause-handles
returns-clause-handles g c = λ s h. handled g (goal.at.returns-clause-handles g c).After-issue_where_ready s h

pub returns-clause-room : goal.returns-clause-room
returns-clause-room g c =
    let same = as_many g (goal.at.returns-clause-room g c).After-issue_where_ready c.requires.sees.0 c.requires.sees.1 in
    let room = c.resolve.ensures.may.replies_have_room in
    let as_many = c.issue_where_ready.ensures.book_length_is_unchanged in
    omega (arith, same, room, as_many)
