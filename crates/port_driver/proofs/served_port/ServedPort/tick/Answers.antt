use Rattle.std.proofs.Common.{true, false, ◌≡◌, List, [], append-nil, inl, inr, refl, sym, ap, ◌∙◌, subst, ⊎_elim}
use Rattle.std.proofs.lemmas.Bool.{false≢true}
use Rattle.ata_types.specs.declared.Port.{Port}
use Rattle.adapter.specs.Device.{Device}
use Rattle.refinement.specs.Fragments.{AnySlotStates, IsSimulated}
use Rattle.port_control.specs.PortEvents.{IsPxisSstsOrOwnIsAccess}
use Rattle.identify.specs.declared.DiskInfo.{DiskInfo}
use Rattle.host_boot.specs.declared.ProbeResult.{ProbeResult}
use Rattle.host_boot.specs.declared.ProbeResult.TheVariants.{Ready, Unready, Unserved}
use Rattle.request_queue.specs.BookEntries.{BookEntry}
use Rattle.port_control.specs.declared.events.PortError.TheVariants.{TimedOut}
use Rattle.server_history.specs.ServerState.{ServerState, state_of}
use Rattle.server_history.specs.Turns.{is_ready}
use Rattle.port_driver.specs.PortAndShared.{HasNoneDueAndParts, TakesTurn, RestartsOverdueOrRests, with_served_port}
use Rattle.port_driver.specs.Recovery.{IsInError}
use Rattle.port_driver.specs.declared.served_port.ServedPort.{ServedPort}
use Rattle.port_driver.specs.declared.served_port.Shared.{Shared}
use Rattle.port_driver.proofs.Placing as placing
use Rattle.port_driver.proofs.served_port.ServedPort.tick.Given.{Over}
use Rattle.port_driver.proofs.served_port.ServedPort.tick.Goals as goal
use Rattle.port_driver.proofs.served_port.ServedPort.tick.Goals.{In-Ready}

-- nothing was done
same : (s : ServerState) (device : Device) (shared : Shared) (port : Port) (p : ServedPort) → HasNoneDueAndParts s device shared port p → with_served_port s device shared port p ≡ s
same s device shared port p h =
    placing.with_same s port p h.has_port_and_shared.port_is device shared ∙ (λ i. record s { device = sym h.has_port_and_shared.device_is i; table = sym h.has_port_and_shared.table_is i; book = sym h.has_port_and_shared.book_is i })

-- a port that isn't ready rests
rests : (found : ProbeResult) → ((info : DiskInfo) → found ≡ Ready info → ⊥) → (book : List BookEntry) (port : Port) (s : ServerState) → RestartsOverdueOrRests found book port [] s s
rests (Ready info) unready book port s = absurd (unready info refl)
rests (Unready state) unready book port s = (refl, refl)
rests Unserved unready book port s = (refl, refl)

-- a request of it hangs
in_error : (g : Over) (c : In-Ready g) (s : ServerState) → HasNoneDueAndParts s (g.A.Adapter.device c.args.adapter.now) c.args.shared.now c.args.port c.args.self.now
    → IsInError s (g.A.Adapter.device c.args.adapter.now) c.args.shared.now c.args.port c.args.self.now TimedOut
in_error g c s h = record {
  had_none_due_and_parts = placing.on_its_device s c.args.shared.now c.args.port c.args.self.now h;
  sees_port_error =
      record {
        in_call_invariant = h.invariant_with_none_due.in_call_invariant;
        ready = ap state_of (h.has_port_and_shared.port_is.probe_result_is ∙ c.in-Ready.is);
        error_is_found = sym h.has_port_and_shared.device_is;
        is_simulated = subst (IsSimulated (IsPxisSstsOrOwnIsAccess c.args.port) AnySlotStates s.device) h.has_port_and_shared.device_is (c.law_looks_preserve_invariant.ensures.empty_look_is_simulated c.args.port s.device);
      };
}

pub returns-in_default-clause-turn : goal.returns-in_default-clause-turn
returns-in_default-clause-turn g c = λ s book exact h.
    subst (TakesTurn (RestartsOverdueOrRests c.args.self.now.probe_result book c.args.port) c.args.replies.now.items c.args.replies.now.items s) (sym (same s _ c.args.shared.now c.args.port c.args.self.now h))
    (record { new_replies = []; replies_are = sym (append-nil c.args.replies.now.items); turn_is_taken = rests c.args.self.now.probe_result c.in_default.not-Ready book c.args.port s; invariant_with_none_due = h.invariant_with_none_due })

pub handle_error-requires-clause-sees : goal.handle_error-requires-clause-sees
handle_error-requires-clause-sees g c = (c.requires.none_due.0, in_error g (goal.at.handle_error-requires-clause-sees g c).In-Ready c.requires.none_due.0 c.requires.none_due.1)

pub returns-then-is_overdue-clause-turn : goal.returns-then-is_overdue-clause-turn
returns-then-is_overdue-clause-turn g c = λ s book exact h.
    let turn = c.handle_error.ensures.handles s (in_error g (goal.at.returns-then-is_overdue-clause-turn g c).In-Ready s h) in
    let r = turn.turn_is_taken in
    let part = c.law_handling_timeout_is_a_restart_turn.ensures s _ c.args.port turn.new_replies h.invariant_with_none_due (ap state_of (h.has_port_and_shared.port_is.probe_result_is ∙ c.in-Ready.is)) r.handling r.port_error_is in
    subst (λ (found : ProbeResult). TakesTurn (RestartsOverdueOrRests found book c.args.port) c.args.replies.now.items c.handle_error.new.replies.items s (with_served_port s (g.A.Adapter.device c.handle_error.new.adapter) c.handle_error.new.shared c.args.port c.handle_error.new.self)) (sym c.in-Ready.is)
    (record { new_replies = turn.new_replies; replies_are = turn.replies_are; turn_is_taken = inl (exact.0 c.if-is_overdue.true, r.handling, r.port_error_is, part.0); invariant_with_none_due = turn.invariant_with_none_due })

-- a ready one of which a request is overdue doesn't rest
pub returns-then-is_overdue-clause-no_access_if_unready_or_not_overdue : goal.returns-then-is_overdue-clause-no_access_if_unready_or_not_overdue
returns-then-is_overdue-clause-no_access_if_unready_or_not_overdue g c = λ which. ⊎_elim
    (λ unready. let z : true ≡ false = ap is_ready (sym c.in-Ready.is) ∙ unready in absurd cc)
    (λ young. let z : true ≡ false = sym c.if-is_overdue.true ∙ young in absurd cc)
    which

pub returns-else-is_overdue-clause-turn : goal.returns-else-is_overdue-clause-turn
returns-else-is_overdue-clause-turn g c = λ s book exact h.
    subst (TakesTurn (RestartsOverdueOrRests c.args.self.now.probe_result book c.args.port) c.args.replies.now.items c.args.replies.now.items s) (sym (same s _ c.args.shared.now c.args.port c.args.self.now h))
    (subst (λ (found : ProbeResult). TakesTurn (RestartsOverdueOrRests found book c.args.port) c.args.replies.now.items c.args.replies.now.items s s) (sym c.in-Ready.is)
    (record { new_replies = []; replies_are = sym (append-nil c.args.replies.now.items); turn_is_taken = inr (λ due. false≢true (sym c.if-is_overdue.false ∙ exact.1 due), refl, refl); invariant_with_none_due = h.invariant_with_none_due }))
