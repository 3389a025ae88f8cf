use Rattle.std.proofs.Common.{◌≡◌, ◌≢◌, [], Some, append-nil, refl, sym, ap, ◌∙◌, subst}
use Rattle.ata_types.specs.declared.PortState.TheVariants.{Ready as ReadyState}
use Rattle.adapter.specs.Device.{Device}
use Rattle.host_boot.specs.TakeOver.{probe_result_of}
use Rattle.refinement.specs.Fragments.{AnySlotStates, IsSimulated}
use Rattle.server_history.specs.ErrorHandling.{LookTellsErrorUnlessTimedOut}
use Rattle.server_history.specs.IssuingAndAnswering.{IsMaskOf}
use Rattle.server_history.specs.ServerState.{InCallInvariant, InvariantWithNoneDue, ServerState, slots_at, state_of}
use Rattle.server_history.specs.Turns.{ServicesPort}
use Rattle.slots.specs.SlotUses.{PortSlots}
use Rattle.port_control.specs.PortEvents.{IsPxisSstsOrOwnIsAccess, TakesEvent}
use Rattle.port_control.specs.declared.events.PortError.{PortError}
use Rattle.port_control.specs.declared.events.PortError.TheVariants.{TimedOut}
use Rattle.port_control.specs.declared.events.PortEvent.TheVariants.{NoEvent}
use Rattle.port_driver.specs.PortAndShared.{HasNoneDueAndParts, TakesTurn, with_served_port}
use Rattle.port_driver.specs.Recovery.{IsInError, error_of}
use Rattle.port_driver.proofs.Sending.{ready_there}
use Rattle.port_driver.proofs.Placing as placing
use Rattle.port_driver.proofs.Serving as serving
use Rattle.port_driver.proofs.served_port.ServedPort.service_ready.Given.{Over}
use Rattle.port_driver.proofs.served_port.ServedPort.service_ready.Goals as goal
use Rattle.port_driver.proofs.served_port.ServedPort.service_ready.Goals.{After-done-finished, After-take_event-look, After-taken-used}

-- ---- what the port was looked at with

-- a settled server that has the port
abbrev Has : (g : Over) (c : After-take_event-look g) → ServerState → Type 0
Has g c s = HasNoneDueAndParts s (g.A.Adapter.device c.args.adapter.now) c.args.shared.now c.args.port c.args.self.now

module _ (g : Over) (c : After-take_event-look g) (s : ServerState) (h : Has g c s) where
  abbrev seen : Device
  seen = g.A.Adapter.device c.take_event-look.new.adapter

  abbrev looked : ServerState
  looked = record s { device = seen }

  ready : state_of (probe_result_of s.probe_results c.args.port.0) ≡ ReadyState
  ready = ap state_of h.has_port_and_shared.port_is.probe_result_is ∙ c.requires.ready

  looks : TakesEvent c.args.port c.take_event-look.result s.device seen
  looks = subst (λ (d : Device). TakesEvent c.args.port c.take_event-look.result d seen) (sym h.has_port_and_shared.device_is) c.take_event-look.ensures.looks

  followed : IsSimulated (IsPxisSstsOrOwnIsAccess c.args.port) AnySlotStates s.device seen
  followed = subst (λ (d : Device). IsSimulated (IsPxisSstsOrOwnIsAccess c.args.port) AnySlotStates d seen) (sym h.has_port_and_shared.device_is) c.take_event-look.ensures.followed

  looked_settled : InvariantWithNoneDue looked
  looked_settled = record {
    in_call_invariant = c.law_looks_preserve_invariant.ensures.looking s seen c.args.port h.invariant_with_none_due.in_call_invariant ready followed;
    none_is_due = h.invariant_with_none_due.none_is_due;
  }

  -- the port is as it was; only the device is another
  same : (device : Device) → with_served_port s device c.args.shared.now c.args.port c.args.self.now ≡ record s { device = device }
  same device =
      placing.with_same s c.args.port c.args.self.now h.has_port_and_shared.port_is device c.args.shared.now
      ∙ (λ i. record s { device = device; table = sym h.has_port_and_shared.table_is i; book = sym h.has_port_and_shared.book_is i })

  -- an error that the look tells
  found : (port_error : PortError) → error_of c.take_event-look.result ≡ Some port_error → LookTellsErrorUnlessTimedOut c.args.port port_error s.device seen × (port_error ≢ TimedOut)
  found port_error is = serving.found_out c.take_event-look.result port_error c.args.port s.device seen is looks

  in_error : (port_error : PortError) → error_of c.take_event-look.result ≡ Some port_error → IsInError s seen c.args.shared.now c.args.port c.args.self.now port_error
  in_error port_error is = record {
    had_none_due_and_parts = placing.on_its_device s c.args.shared.now c.args.port c.args.self.now h;
    sees_port_error = record { in_call_invariant = h.invariant_with_none_due.in_call_invariant; ready = ready; error_is_found = (found port_error is).0; is_simulated = followed };
  }

-- ---- it shows trouble

pub handle_error-requires-clause-sees : goal.handle_error-requires-clause-sees
handle_error-requires-clause-sees g c =
    let l = (goal.at.handle_error-requires-clause-sees g c).After-take_event-look in
    (c.requires.none_due.0, in_error g l c.requires.none_due.0 c.requires.none_due.1 c.in-Some.port_error (sym c.error_of.ensures ∙ c.in-Some.is))

pub returns-in-Some-clause-serves : goal.returns-in-Some-clause-serves
returns-in-Some-clause-serves g c = λ s h.
    let l = (goal.at.returns-in-Some-clause-serves g c).After-take_event-look in
    let is = sym c.error_of.ensures ∙ c.in-Some.is in
    let turn = c.handle_error.ensures.handles s (in_error g l s h c.in-Some.port_error is) in
    let r = turn.turn_is_taken in
    let served = c.law_handling_look_result_is_a_service_turn.ensures.error_handled s _ c.args.port turn.new_replies h.invariant_with_none_due (ready g l s h) r.handling (λ hung. (found g l s h c.in-Some.port_error is).1 (sym r.port_error_is ∙ hung)) r.is_simulated in
    record { new_replies = turn.new_replies; replies_are = turn.replies_are; turn_is_taken = served.0; invariant_with_none_due = served.1 }

-- ---- it shows none

-- the mask has the port's slots, and the look told of nothing
its_mask : (g : Over) (c : After-taken-used g) (s : ServerState) → HasNoneDueAndParts s (g.A.Adapter.device c.args.adapter.now) c.args.shared.now c.args.port c.args.self.now → IsMaskOf (slots_at s.slots c.args.port.0) c.taken-used.result
its_mask g c s h = subst (λ (slots : PortSlots). IsMaskOf slots c.taken-used.result) (sym h.has_port_and_shared.port_is.slots_are) (serving.mask_of c.args.self.now.slots c.taken-used.result c.taken-used.ensures)

calm : (g : Over) (c : After-taken-used g) (s : ServerState) → TakesEvent c.args.port c.take_event-look.result s.device (g.A.Adapter.device c.take_event-look.new.adapter) → TakesEvent c.args.port NoEvent s.device (g.A.Adapter.device c.take_event-look.new.adapter)
calm g c s seen = serving.undisturbed c.take_event-look.result c.error_of.result c.args.port s.device (g.A.Adapter.device c.take_event-look.new.adapter) c.error_of.ensures c.in_default.not-Some seen

pub returns-then-used-eq0-clause-serves : goal.returns-then-used-eq0-clause-serves
returns-then-used-eq0-clause-serves g c = λ s h.
    let u = (goal.at.returns-then-used-eq0-clause-serves g c).After-taken-used in
    let l = (goal.at.returns-then-used-eq0-clause-serves g c).After-take_event-look in
    let d = g.A.Adapter.device c.take_event-look.new.adapter in
    subst (TakesTurn (ServicesPort c.args.port) c.args.replies.now.items c.args.replies.now.items s) (sym (same g l s h d)) (record {
      new_replies = [];
      replies_are = sym (append-nil c.args.replies.now.items);
      turn_is_taken = c.law_handling_look_result_is_a_service_turn.ensures.no_slot_is_used s d c.args.port h.invariant_with_none_due (ready g l s h) (calm g u s (looks g l s h)) (followed g l s h)
          (subst (IsMaskOf (slots_at s.slots c.args.port.0)) c.if-used-eq0.true (its_mask g u s h));
      invariant_with_none_due = looked_settled g l s h;
    })

pub done-finished-requires-clause-has_port : goal.done-finished-requires-clause-has_port
done-finished-requires-clause-has_port g c =
    let l = (goal.at.done-finished-requires-clause-has_port g c).After-take_event-look in
    let h = c.requires.none_due in
    ready_there (looked g l h.0 h.1) c.args.port (looked_settled g l h.0 h.1).in_call_invariant (ready g l h.0 h.1)

-- the server once it was looked for what is done
module _ (g : Over) (c : After-done-finished g) (s : ServerState) (h : HasNoneDueAndParts s (g.A.Adapter.device c.args.adapter.now) c.args.shared.now c.args.port c.args.self.now)
    (kept : InCallInvariant (record s { device = g.A.Adapter.device c.take_event-look.new.adapter })) where
  abbrev found_device : Device
  found_device = g.A.Adapter.device c.done-finished.new.adapter

  found_settled : InvariantWithNoneDue (record s { device = found_device })
  found_settled = record {
    in_call_invariant = c.law_looks_preserve_invariant.ensures.finding (record s { device = g.A.Adapter.device c.take_event-look.new.adapter }) found_device c.args.port c.taken-used.result c.done-finished.result kept
        (ap state_of h.has_port_and_shared.port_is.probe_result_is ∙ c.requires.ready) c.done-finished.ensures.finds;
    none_is_due = h.invariant_with_none_due.none_is_due;
  }

  -- it has the same parts
  found_has : HasNoneDueAndParts (record s { device = found_device }) found_device c.args.shared.now c.args.port c.args.self.now
  found_has = record { invariant_with_none_due = found_settled; has_port_and_shared = record { device_is = refl; table_is = h.has_port_and_shared.table_is; book_is = h.has_port_and_shared.book_is; port_is = placing.on_device s found_device c.args.port.0 c.args.self.now h.has_port_and_shared.port_is } }

pub answer_and_issue-requires-clause-none_due : goal.answer_and_issue-requires-clause-none_due
answer_and_issue-requires-clause-none_due g c =
    let d = (goal.at.answer_and_issue-requires-clause-none_due g c).After-done-finished in
    let l = (goal.at.answer_and_issue-requires-clause-none_due g c).After-take_event-look in
    let h = c.requires.none_due in
    (record h.0 { device = g.A.Adapter.device c.done-finished.new.adapter }, found_has g d h.0 h.1 (looked_settled g l h.0 h.1).in_call_invariant)

pub answer_and_issue-requires-clause-over : goal.answer_and_issue-requires-clause-over
answer_and_issue-requires-clause-over g c =
    let u = (goal.at.answer_and_issue-requires-clause-over g c).After-taken-used in
    let l = (goal.at.answer_and_issue-requires-clause-over g c).After-take_event-look in
    let h = c.requires.none_due in
    λ slot small its. c.law_looks_preserve_invariant.ensures.done_slots_are_over (looked g l h.0 h.1) (g.A.Adapter.device c.done-finished.new.adapter) c.args.port c.taken-used.result c.done-finished.result slot
    (looked_settled g l h.0 h.1).in_call_invariant (ready g l h.0 h.1) (its_mask g u h.0 h.1) small c.done-finished.ensures.finds its

pub returns-then-finished-ne0-clause-serves : goal.returns-then-finished-ne0-clause-serves
returns-then-finished-ne0-clause-serves g c = λ s h.
    let d = (goal.at.returns-then-finished-ne0-clause-serves g c).After-done-finished in
    let u = (goal.at.returns-then-finished-ne0-clause-serves g c).After-taken-used in
    let l = (goal.at.returns-then-finished-ne0-clause-serves g c).After-take_event-look in
    let device = g.A.Adapter.device in
    let turn = c.answer_and_issue.ensures.finishes (record s { device = device c.done-finished.new.adapter }) (found_has g d s h (looked_settled g l s h).in_call_invariant) in
    record {
      new_replies = turn.new_replies;
      replies_are = turn.replies_are;
      turn_is_taken = c.law_handling_look_result_is_a_service_turn.ensures.some_are_done s _ (device c.take_event-look.new.adapter) (device c.done-finished.new.adapter) c.args.port c.taken-used.result c.done-finished.result turn.new_replies
          h.invariant_with_none_due (ready g l s h) (calm g u s (looks g l s h)) (followed g l s h) (its_mask g u s h)
          (λ none. c.if-used-eq0.false (serving.zero_of_none c.taken-used.result c.taken-used.type_inv none)) c.done-finished.ensures.finds c.done-finished.ensures.finds_each_that_was_clear
          (λ none. c.if-finished-ne0.true (serving.zero_of_none c.done-finished.result c.done-finished.type_inv none)) turn.turn_is_taken;
      invariant_with_none_due = turn.invariant_with_none_due;
    }

pub returns-else-finished-ne0-clause-serves : goal.returns-else-finished-ne0-clause-serves
returns-else-finished-ne0-clause-serves g c = λ s h.
    let d = (goal.at.returns-else-finished-ne0-clause-serves g c).After-done-finished in
    let u = (goal.at.returns-else-finished-ne0-clause-serves g c).After-taken-used in
    let l = (goal.at.returns-else-finished-ne0-clause-serves g c).After-take_event-look in
    let device = g.A.Adapter.device in
    subst (TakesTurn (ServicesPort c.args.port) c.args.replies.now.items c.args.replies.now.items s) (sym (same g l s h (device c.done-finished.new.adapter))) (record {
      new_replies = [];
      replies_are = sym (append-nil c.args.replies.now.items);
      turn_is_taken = c.law_handling_look_result_is_a_service_turn.ensures.none_is_done s (device c.take_event-look.new.adapter) (device c.done-finished.new.adapter) c.args.port c.taken-used.result
          h.invariant_with_none_due (ready g l s h) (calm g u s (looks g l s h)) (followed g l s h) (its_mask g u s h)
          (λ none. c.if-used-eq0.false (serving.zero_of_none c.taken-used.result c.taken-used.type_inv none)) c.done-finished.result c.done-finished.ensures.finds c.done-finished.ensures.finds_each_that_was_clear
          (serving.none_of_zero c.done-finished.result c.if-finished-ne0.false);
      invariant_with_none_due = found_settled g d s h (looked_settled g l s h).in_call_invariant;
    })
