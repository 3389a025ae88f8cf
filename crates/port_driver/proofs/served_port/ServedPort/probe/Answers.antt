use Rattle.std.proofs.Common.{Bool, true, false, ◌≡◌, refl, sym, ap, ◌∙◌, subst}
use Rattle.adapter.specs.Device.{Device}
use Rattle.host_boot.specs.TakeOver.{probe_result_of}
use Rattle.host_boot.specs.declared.ProbeResult.{ProbeResult}
use Rattle.host_boot.specs.declared.ProbeResult.TheVariants.{Unready}
use Rattle.identify.specs.declared.wanted.Wanted.{Wanted}
use Rattle.adapter.specs.Rules.{HasPort, IsOn}
use Rattle.refinement.specs.Fragments.{AnySlotStates, IsSimulated, SomeMachineAgreesWith}
use Rattle.port_control.specs.PortEvents.{IsPxisSstsOrOwnIsAccess}
use Rattle.server_history.specs.Probing.{FindsReasonToBoot, ProbesAnew}
use Rattle.server_history.specs.ServerState.{ServerState, InvariantWithNoneDue, last_disk_of}
use Rattle.server_history.specs.Turns.{ProbesUnready}
use Rattle.port_driver.specs.PortAndShared.{HasNoneDueAndParts, with_served_port}
use Rattle.port_driver.specs.declared.served_port.Shared.{Shared}
use Rattle.port_driver.proofs.Anew as anew
use Rattle.port_driver.proofs.Placing as placing
use Rattle.port_driver.proofs.served_port.ServedPort.probe.Given.{Over}
use Rattle.port_driver.proofs.served_port.ServedPort.probe.Goals as goal
use Rattle.port_driver.proofs.served_port.ServedPort.probe.Goals.{After-needs_probe}

-- a settled server that has the port
module _ (g : Over) (c : After-needs_probe g) (s : ServerState) (shared : Shared) (h : HasNoneDueAndParts s (g.A.Adapter.device c.args.adapter.now) shared c.args.port c.args.self.now) where
  abbrev seen : Device
  seen = g.A.Adapter.device c.needs_probe.new.adapter

  unready : probe_result_of s.probe_results c.args.port.0 ≡ Unready c.args.state
  unready = h.has_port_and_shared.port_is.probe_result_is ∙ c.requires.unready

  looks : (shows : Bool) → FindsReasonToBoot c.args.state c.args.port shows (g.A.Adapter.device c.args.adapter.now) seen → FindsReasonToBoot c.args.state c.args.port shows s.device seen
  looks shows looked = subst (λ (d : Device). FindsReasonToBoot c.args.state c.args.port shows d seen) (sym h.has_port_and_shared.device_is) looked

  followed : IsSimulated (IsPxisSstsOrOwnIsAccess c.args.port) AnySlotStates s.device seen
  followed = subst (λ (d : Device). IsSimulated (IsPxisSstsOrOwnIsAccess c.args.port) AnySlotStates d seen) (sym h.has_port_and_shared.device_is) c.needs_probe.ensures.followed

  -- where it shows that it may have a disk, it may be stopped
  looked : FindsReasonToBoot c.args.state c.args.port true (g.A.Adapter.device c.args.adapter.now) seen → IsOn seen × HasPort seen c.args.port.0 × SomeMachineAgreesWith AnySlotStates seen
  looked shows =
      c.law_probe_of_unready_port_is_a_service_turn.ensures.look_keeps_relation s seen c.args.port c.args.state h.invariant_with_none_due.in_call_invariant unready (anew.booted_alive c.args.state c.args.port s.device seen (looks true shows)) followed

pub returns-then-not-needs_probe-clause-probes : goal.returns-then-not-needs_probe-clause-probes
returns-then-not-needs_probe-clause-probes g c = λ s shared h.
    let a = (goal.at.returns-then-not-needs_probe-clause-probes g c).After-needs_probe in
    let new = seen g a s shared h in
    subst (λ (x : ServerState). ProbesUnready c.args.port s x × InvariantWithNoneDue x)
    (sym (placing.with_same s c.args.port c.args.self.now h.has_port_and_shared.port_is new shared ∙ (λ i. record s { device = new; table = sym h.has_port_and_shared.table_is i; book = sym h.has_port_and_shared.book_is i })))
    (anew.left_settles c.law_probe_of_unready_port_is_a_service_turn.ensures.probe_is_a_turn s c.args.port c.args.state (unready g a s shared h) h.invariant_with_none_due new (looks g a s shared h false c.if-not-needs_probe.ensures.is_looked_at) (followed g a s shared h))

-- a dead port isn't booted
pub returns-clause-dead : goal.returns-clause-dead
returns-clause-dead g c = λ dead.
    absurd (anew.booted_alive c.args.state c.args.port (g.A.Adapter.device c.args.adapter.now) (g.A.Adapter.device c.needs_probe.new.adapter) c.if-not-needs_probe.ensures.is_looked_at dead)

pub probe_anew-found-requires-clause-has_port : goal.probe_anew-found-requires-clause-has_port
probe_anew-found-requires-clause-has_port g c =
    (looked g (goal.at.probe_anew-found-requires-clause-has_port g c).After-needs_probe c.requires.none_due.0 c.requires.none_due.1 c.requires.none_due.2 c.if-not-needs_probe.ensures.is_looked_at).1

pub probe_anew-found-requires-clause-some_machine_agrees : goal.probe_anew-found-requires-clause-some_machine_agrees
probe_anew-found-requires-clause-some_machine_agrees g c =
    (looked g (goal.at.probe_anew-found-requires-clause-some_machine_agrees g c).After-needs_probe c.requires.none_due.0 c.requires.none_due.1 c.requires.none_due.2 c.if-not-needs_probe.ensures.is_looked_at).2

pub probe_anew-found-requires-clause-bootable : goal.probe_anew-found-requires-clause-bootable
probe_anew-found-requires-clause-bootable g c = λ stopped result token gives restarts.
    let a = (goal.at.probe_anew-found-requires-clause-bootable g c).After-needs_probe in
    let h = c.requires.none_due in
    let its = looks g a h.0 h.1 h.2 true c.if-not-needs_probe.ensures.is_looked_at in
    c.law_probe_of_unready_port_is_a_service_turn.ensures.bootable h.0 (seen g a h.0 h.1 h.2) stopped c.args.port c.args.state result token h.2.invariant_with_none_due.in_call_invariant (unready g a h.0 h.1 h.2)
    (anew.booted_alive c.args.state c.args.port h.0.device (seen g a h.0 h.1 h.2) its) (followed g a h.0 h.1 h.2) gives restarts

pub returns-clause-probes : goal.returns-clause-probes
returns-clause-probes g c = λ s shared h.
    let a = (goal.at.returns-clause-probes g c).After-needs_probe in
    let new = g.A.Adapter.device c.probe_anew-found.new.adapter in
    let found = c.probe_anew-found.result.0 in
    let mode = c.probe_anew-found.result.1 in
    let slots = c.replace_probe_result_and_free_slots.new.self.slots in
    let old = c.args.self.now in
    let anew_is : c.replace_probe_result_and_free_slots.new.self ≡ record old { probe_result = found; mode = mode; slots = slots } =
    c.replace_probe_result_and_free_slots.ensures.only_these_change ∙ ap (λ (f : ProbeResult). record old { probe_result = found; remembered = last_disk_of f old.remembered; mode = mode; slots = slots }) c.requires.unready in
    let F : Wanted → Type 0 = λ wanted. ProbesAnew wanted c.args.port found mode (seen g a s shared h) new in
    let back : with_served_port s new shared c.args.port c.replace_probe_result_and_free_slots.new.self ≡ anew.found_anew s new found mode slots c.args.port.0 =
    ap (with_served_port s new shared c.args.port) anew_is ∙ placing.with_found s c.args.port c.args.self.now h.has_port_and_shared.port_is new shared found mode slots
    ∙ (λ i. record (anew.found_anew s new found mode slots c.args.port.0) { table = sym h.has_port_and_shared.table_is i; book = sym h.has_port_and_shared.book_is i }) in
    subst (λ (x : ServerState). ProbesUnready c.args.port s x × InvariantWithNoneDue x) (sym back)
    (anew.booted_settles c.law_probe_of_unready_port_is_a_service_turn.ensures.probe_is_a_turn s c.args.port c.args.state (unready g a s shared h) h.invariant_with_none_due (seen g a s shared h)
    (looks g a s shared h true c.if-not-needs_probe.ensures.is_looked_at) (followed g a s shared h) new found mode slots
    (subst F (sym h.has_port_and_shared.port_is.wanted_is) c.probe_anew-found.ensures.finds) c.replace_probe_result_and_free_slots.ensures.has_no_used_slot c.args.port.0 refl)
