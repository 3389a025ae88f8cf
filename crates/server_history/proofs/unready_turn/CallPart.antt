-- The turn of a port that isn't ready, in a service: it is looked at, and that is all; or it is booted then.
use Rattle.std.proofs.Common.{ℕ, ◌≡◌, ◌≢◌, ◌<◌, ◌≤◌, ◌++◌, Bool, true, false, List, [], refl, sym, ap, ◌∙◌, subst, inl, inr, arith, ⊎_elim, ◌⊎◌}
use Rattle.std.proofs.lemmas.Bool.{cases_Bool, cases_eq}
use Rattle.std.proofs.lemmas.List.{get_or-set_other}
use Rattle.std.proofs.lemmas.List.Elements.{All-nil, All-weaker, Contains-append_cases}
use Rattle.std.specs.List.{Contains, list_any}
use Rattle.ata_types.specs.declared.Port.{Port}
use Rattle.ata_types.specs.declared.PortState.{PortState}
use Rattle.ata_types.specs.declared.PortState.TheVariants.{Absent, Dead as DeadState, Foreign, Ready as ReadyState, Unfit}
use Rattle.ata_types.specs.declared.request.RequestId.{RequestId}
use Rattle.hba_regs.specs.declared.reg.PortReg.TheVariants.{Cmd, Is, Sctl}
use Rattle.adapter.specs.Access.{Access}
use Rattle.adapter.specs.Device.{Device}
use Rattle.adapter.specs.declared.command.Operation.TheVariants.{Identify, ReadLog}
use Rattle.refinement.specs.Relation.{port_at}
use Rattle.refinement.specs.Fragments.{AnySlotStates, IsDrivenBy, IsSimulated, AccessesNoOtherPort}
use Rattle.refinement.specs.Driver.{TapeBacksSteps}
use Rattle.refinement.specs.Slots.{Free, Serves}
use Rattle.refinement.specs.SparedBook.{KeepsLoansAndPendingsOnlyAdvance}
use Rattle.block_machine.specs.DueRequests.{NoneDue}
use Rattle.block_machine.specs.Events.{AllByDevice, AllEnabled, ShownDiskWasInOrCame, ShowsDisk, changes_disk}
use Rattle.block_machine.specs.Histories.{IsReachable}
use Rattle.block_machine.specs.Expected.{after}
use Rattle.block_machine.specs.State.{Machine, Pending}
use Rattle.block_machine.specs.Steps.{Step}
use Rattle.block_machine.specs.declared.due.QueueMode.{QueueMode}
use Rattle.driver_history.specs.AccessTrace.{StaysInDriverFrames, WritesNeitherCmdNorSctl}
use Rattle.error_recovery.specs.declared.Next.{Next}
use Rattle.error_recovery.specs.declared.Next.TheVariants as next
use Rattle.host_boot.specs.TakeOver.{StillBacksProbeResult, probe_result_of, wanted_of}
use Rattle.host_boot.specs.declared.ProbeResult.{ProbeResult}
use Rattle.host_boot.specs.declared.ProbeResult.TheVariants.{Unready, Unserved}
use Rattle.port_control.specs.PortEvents.{IsPxisSstsOrOwnIsAccess}
use Rattle.port_control.specs.ServiceAccesses.{WritesOnlyHbaIsPxIsCiOrSact}
use Rattle.request_queue.specs.BookEntries.{unanswered_of}
use Rattle.server_history.specs.Prerequisites.{PrerequisiteLaws}
use Rattle.server_history.specs.ServerState.{KeptRequestsRelation, InCallInvariant, MachineRelation, PortInvariant, InvariantWithNoneDue, ServerState, is_served, mode_at, mode_in, plain_mode, state_of, usable_slots_of, slot_state_of_use}
use Rattle.server_history.specs.Probing.{BootsUnreadyPort, IsFoundAfterStop, FindsReasonToBoot, ProbesPort}
use Rattle.server_history.specs.Turns.{IsPortTurn, InProbe, ProbesUnready, abstract_state_of}
use Rattle.port_control.specs.declared.events.PortError.TheVariants.{TimedOut}
use Rattle.server_history.proofs.unready_turn.AnotherBoot.{accesses, after_it, book_left, does, found_then, its_stand, listed, looking_part, low, never_ready, no_disk, only, others, silent, stuck_if, tells, then_is, unready, until, until_of, whole}
use Rattle.server_history.proofs.state.DrivenAccesses.{driven_as}
use Rattle.server_history.proofs.unready_turn.IdleLook.{looked_stands}
use Rattle.server_history.proofs.state.HistorySteps.{book_on, still_kept}
use Rattle.server_history.proofs.state.PlainHalts.{followed_halts}
use Rattle.server_history.proofs.recovery_turn.RecoveredDevice.{IsPassed, devices_both, passed, uses_then}
use Rattle.server_history.proofs.state.FirstMembers.{nowhere}
use Rattle.server_history.proofs.plain_calls.Looks.{looked_kept, looking_silent, looking_spares}
use Rattle.server_history.proofs.dispositions.MetFates.{nobody}
use Rattle.server_history.proofs.recovery_turn.CallPart.{none_due_unready, unlooked}
use Rattle.server_history.proofs.state.PortsOverAccesses.{port_on}
use Rattle.server_history.proofs.recovery_turn.RecoveryAccesses.{IsPart}
use Rattle.server_history.proofs.recovery_turn.TurnParts.{stopped_of}
use Rattle.server_history.proofs.recovery_turn.ReplacedPort.{replaced_kept}
use Rattle.server_history.proofs.state.RunningPorts.{shown_on}
use Rattle.server_history.proofs.healthy_turn.ServedPort.{followed_steps, looks_serve}
use Rattle.server_history.proofs.recovery_turn.FoundDisk.{booted_had}
use Rattle.server_history.proofs.unready_turn.TurnAsCall.{boot_does, rests_does}
use Rattle.server_history.proofs.unready_turn.TriedPort.{AddsTried, TellsTried, makes_try}

-- ---- it was booted

module _ (laws : PrerequisiteLaws) (s new : ServerState) (seen : Device) (port : Port) (state : PortState) (t : InvariantWithNoneDue s) (is : probe_result_of s.probe_results port.0 ≡ Unready state) (lives : state ≢ DeadState)
    (looks : IsSimulated (IsPxisSstsOrOwnIsAccess port) AnySlotStates s.device seen) (b : BootsUnreadyPort port (record s { device = seen }) new) where
  abbrev k : InCallInvariant s
  k = t.in_call_invariant

  abbrev then : ServerState
  then = then_is laws s new seen port state k is lives looks b

  abbrev part : List Access
  part = b.probes_anew.stops_for_reset.handling.accesses

  small : port.0 < 4
  small = low laws s seen port state k is lives looks

  alive : probe_result_of s.probe_results port.0 ≢ Unready DeadState
  alive dead = lives (let z : Unready state ≡ Unready DeadState = sym is ∙ dead in cc)

  -- ---- the machine

  module _ (m : Machine) (reached : IsReachable m) (stood : MachineRelation s m) where
    looked : (steps : List Step) × AllEnabled m steps × MachineRelation (record s { device = seen }) (after m steps) × TapeBacksSteps s.device seen m steps × AllByDevice steps
    looked = followed_steps laws s seen (looks_serve laws port s.device seen looks) m reached stood

    abbrev n : Machine
    n = after m looked.0

    abbrev at : MachineRelation (record s { device = seen }) n
    at = looked.2

    p : IsPassed port.0 b.probes_anew.result.next b.found seen new.device (record { slot_states = at.uses; awaiting_disposition = at.awaiting_disposition }) n
    p = passed laws (wanted_of s.wanted port.0) port TimedOut no_disk b.probes_anew.result.next part seen b.probes_anew.stopped new.device b.found b.probes_anew.stops_for_reset.handling.does.slots_after (after_it laws s new seen port state k is lives looks b)
        (record { slot_states = at.uses; awaiting_disposition = at.awaiting_disposition }) n (laws.steps_and_accesses.reachable_stays_reachable m looked.0 reached looked.1) at.driver_relation

    abbrev w : Machine
    w = after n p.passes.steps

    spares : KeepsLoansAndPendingsOnlyAdvance n w
    spares = laws.steps_and_accesses.device_steps_spare_book n p.passes.steps p.passes.only

    -- no slot of it served a request, and none was parked
    none_served : (slot : ℕ) (id : RequestId) → at.uses port.0 slot ≡ Serves id → ⊥
    none_served slot id serves =
        let none = (k.slots_invariant port.0 small).unusable_are_unused slot (subst (λ (f : ProbeResult). usable_slots_of f (mode_at s.modes port.0) ≤ slot) (sym is) (omega arith)) in
        let z : Free ≡ Serves id = sym (ap slot_state_of_use none) ∙ sym (at.slot_states_agree_unless_dead port.0 slot alive) ∙ serves in absurd cc

    unparked : (q : ℕ) → probe_result_of then.probe_results q ≢ Unready DeadState → p.slots.awaiting_disposition q ≡ []
    unparked q other = ⊎_elim
        (λ (same : q ≡ port.0).
        ap p.slots.awaiting_disposition same ∙ nobody (p.slots.awaiting_disposition port.0) (λ id here. ⊎_elim
        (λ served. let slot = laws.slots.ids_in_slots_are_served at.uses port.0 32 id served in none_served slot.0 id slot.2)
        (λ parked. nowhere id (subst (λ (ids : List RequestId). Contains ids id) (at.only_dead_ports_park port.0 alive) parked))
        (Contains-append_cases _ (at.awaiting_disposition port.0) id (p.left.its id here))))
        (λ (ne : q ≢ port.0). p.left.parked q ne ∙ at.only_dead_ports_park q (λ dead. other (get_or-set_other s.probe_results port.0 q b.found Unserved ne ∙ dead)))
        (cases_eq q port.0)

    was_kept : KeptRequestsRelation s.probe_results s.kept_loans w.kept
    was_kept = still_kept laws s.probe_results s.kept_loans n.kept w.kept spares.kept at.quarantine_relation

    -- a request that is kept is of another port
    elsewhere : (e : Pending) → Contains w.kept e → e.request.port.0 ≢ port.0
    elsewhere e here same = alive (ap (probe_result_of s.probe_results) (sym same) ∙ was_kept.quarantine_ports_are_dead e here)

    stands : MachineRelation then w
    stands = record {
      uses = p.slots.slot_states;
      slot_states_agree_unless_dead = uses_then port.0 b.probes_anew.result.next b.found s.probe_results s.slots b.slots (record { slot_states = at.uses; awaiting_disposition = at.awaiting_disposition }) p.slots (listed laws s new seen port state k is lives looks b)
          (let four = k.slots_are_of_four_ports in let l = small in omega (arith, four, l)) b.has_no_used_slot.all_slots_are_free p.left at.slot_states_agree_unless_dead;
      awaiting_disposition = p.slots.awaiting_disposition;
      only_dead_ports_park = unparked;
      driver_relation = p.passes.driver_relation;
      book = book_on s.book n.book w.book spares.book at.book;
      quarantine_relation = record {
        quarantine_ports_are_dead = λ e here. get_or-set_other s.probe_results port.0 e.request.port.0 b.found Unserved (elsewhere e here) ∙ was_kept.quarantine_ports_are_dead e here;
        each_request_has_its_loan = was_kept.each_request_has_its_loan;
        each_loan_has_its_request = was_kept.each_loan_has_its_request;
        loans_differ_in_request = was_kept.loans_differ_in_request;
      };
      rows = spares.rows ∙ at.rows;
      owner = λ frame. ap (λ f. f frame) spares.owner ∙ at.owner frame;
      lent = λ frame. ap (λ f. f frame) spares.lent ∙ at.lent frame;
      next_id_is = spares.next_id ∙ at.next_id_is;
    }

    steps : List Step
    steps = p.passes.steps ++ looked.0

    may : AllEnabled m steps
    unfolding steps
    may = laws.steps_and_accesses.enabled_lists_join m p.passes.steps looked.0 looked.1 p.passes.may

    then_stands : MachineRelation then (after m steps)
    unfolding steps
    then_stands = subst (MachineRelation then) (sym (laws.steps_and_accesses.after_joins m p.passes.steps looked.0)) stands

    backed : TapeBacksSteps s.device new.device m steps
    unfolding steps
    backed = laws.backed_parts_join s.device seen new.device m looked.0 p.passes.steps looked.3 p.passes.backed

    devices : AllByDevice steps
    unfolding steps
    devices = devices_both p.passes.steps looked.0 p.passes.only looked.4

    -- where it shows a disk then, one was in
    had : ShownDiskWasInOrCame (abstract_state_of s m) steps (abstract_state_of then (after m steps)) port
    had shows = by b.probes_anew.result.next b.probes_anew.is_probed_anew (subst (λ (f : ProbeResult). ShowsDisk (state_of f)) (found_then laws s new seen port state k is lives looks b) shows)
      where
        by : (after_it : Next) → IsFoundAfterStop (wanted_of s.wanted port.0) port after_it b.probes_anew.stopped new.device b.found → ShowsDisk (state_of b.found) → (m.present port ≡ true) ⊎ (list_any (changes_disk port) steps ≡ true)
        by (next.Running token) none disk = absurd none
        by next.Dead (dead, same) disk = absurd (subst (λ (f : ProbeResult). ShowsDisk (state_of f)) dead disk)
        by (next.Restart token) (booted, so, boots) disk =
            booted_had laws port s (wanted_of s.wanted port.0) booted (looks.is_driven.accesses ++ part) b.probes_anew.stopped new.device new.device k.adapter_is_on (until laws s new seen port state k is lives looks b)
            (until_of laws s new seen port state k is lives looks b) boots (subst (λ (f : ProbeResult). ShowsDisk (state_of f)) (sym so) disk) (laws.port_event_laws.tape.growth_is_reflexive new.device) m stood steps backed

    adds : AddsTried port s then m
    adds = record { steps = steps; only = devices; may = may; stands = then_stands; backed = backed; disk = inr had }

  -- ---- the server

  kept_then : InCallInvariant then
  kept_then =
      let w = whole laws s new seen port state k is lives looks b in
      replaced_kept laws port s k small new.device w.0 w.1 s.table b.found s.remembered b.mode b.slots s.kept_loans s.book (ap is_served is) (its_stand laws s new seen port state k is lives looks b) b.probes_anew.mode_is b.has_no_used_slot
      (book_left laws s new seen port state k is lives looks b) k.remembered_is_of_four_ports k.kept_loans_are_of_four_ports k.at_most_32_loans_kept_by_port (after k.machine (steps k.machine k.reached k.machine_relation)) (laws.steps_and_accesses.reachable_stays_reachable k.machine _ k.reached (may k.machine k.reached k.machine_relation))
      (then_stands k.machine k.reached k.machine_relation)

  none_due : (q : Port) → NoneDue (mode_in then q) (unanswered_of s.book) q
  none_due q = ⊎_elim
      (λ (same : q.0 ≡ port.0).
      subst (λ (x : Port). NoneDue (mode_in then q) (unanswered_of s.book) x) (ap (λ (x : ℕ). record { 0 = x }) (sym same)) (none_due_unready s k port (unready laws s new seen port state k is lives looks b) (mode_in then q)))
      (λ (other : q.0 ≢ port.0). subst (λ (mode : QueueMode). NoneDue mode (unanswered_of s.book) q) (sym (get_or-set_other s.modes port.0 q.0 b.mode plain_mode other)) (t.none_is_due q))
      (cases_eq q.0 port.0)

  settled_then : InvariantWithNoneDue then
  settled_then = record { in_call_invariant = kept_then; none_is_due = none_due }

  part_then : IsPortTurn InProbe port [] s then
  part_then =
      let its = only laws s new seen port state k is lives looks b in
      record {
        accesses = accesses laws s new seen port state k is lives looks b;
        accesses_are_done = does laws s new seen port state k is lives looks b;
        accesses_are_of_port = All-weaker (IsPart port) (AccessesNoOtherPort port) (λ access x. x.1) _ its;
        accesses_are_drivers_own = All-weaker (IsPart port) StaysInDriverFrames (λ access x. x.0) _ its;
        leaves_others = others laws s new seen port state k is lives looks b;
        others_get_no_log_unless_dead = silent laws s new seen port state k is lives looks b;
        simulates_turn = λ m reached stood. makes_try laws port s k (unready laws s new seen port state k is lives looks b) then settled_then (stopped_of port b.probes_anew.result.next) (stuck_if port b.found) _ (tells laws s new seen port state k is lives looks b) (boot_does laws s new seen port state k is lives looks b) m stood
            (adds m reached stood);
      }

  pub booted_turn : IsPortTurn InProbe port [] s new × InvariantWithNoneDue new
  booted_turn = subst (λ (x : ServerState). IsPortTurn InProbe port [] s x × InvariantWithNoneDue x) (sym b.server_is) (part_then, settled_then)

-- ---- it was looked at, and that is all

-- a look leaves the engine of each port
leaving : (port q : Port) (access : Access) → IsPxisSstsOrOwnIsAccess port access → WritesNeitherCmdNorSctl q access
leaving port q access its = (looking_spares port q Cmd (λ e. let z : Is ≡ Cmd = e in cc) access its, looking_spares port q Sctl (λ e. let z : Is ≡ Sctl = e in cc) access its)

module _ (laws : PrerequisiteLaws) (s : ServerState) (seen : Device) (port : Port) (state : PortState) (t : InvariantWithNoneDue s) (is : probe_result_of s.probe_results port.0 ≡ Unready state) (looks : IsSimulated (IsPxisSstsOrOwnIsAccess port) AnySlotStates s.device seen) where
  abbrev rest : ServerState
  rest = record s { device = seen }

  never : state_of (probe_result_of s.probe_results port.0) ≢ ReadyState
  never ready = never_ready s port state t.in_call_invariant is (sym (ap state_of is) ∙ ready)

  rests_told : TellsTried port [] [] looks.is_driven.accesses s rest
  rests_told = record {
    its_stopped = All-nil (λ q. q ≡ port);
    its_stuck = All-nil (λ q. q ≡ port);
    becomes = (
      λ dead. (refl, refl, refl, refl, refl, refl),
      λ alive. (record { served_is_unchanged = refl; dead_exactly_if_stuck = (λ dead. absurd (alive dead), λ here. absurd (nowhere port here)); disk_is_remembered_unless_ready = λ other. (refl, refl) }, inl (refl, refl, refl, refl, refl, refl)),
    );
    engine = inl (All-weaker (IsPxisSstsOrOwnIsAccess port) (WritesNeitherCmdNorSctl port) (leaving port port) looks.is_driven.accesses looks.is_driven.accesses_are_of_kind);
    stops = λ here. absurd (nowhere port here);
    sticks = λ here. absurd (nowhere port here);
  }

  -- ---- the server

  serves : IsDrivenBy WritesOnlyHbaIsPxIsCiOrSact s.device seen
  serves = driven_as (IsPxisSstsOrOwnIsAccess port) WritesOnlyHbaIsPxIsCiOrSact s.device seen (laws.look_laws.look_access_is_service_access port) looks.is_driven

  module _ (lives : state ≢ DeadState) (result : Bool) (l : FindsReasonToBoot state port result s.device seen) (none : result ≡ false) where
    its_port : PortInvariant s.wanted s.probe_results port.0 seen
    its_port =
        let was = t.in_call_invariant.port_invariant port.0 (low laws s seen port state t.in_call_invariant is lives looks) in
        record {
          probe_result_is_backed = subst (λ (f : ProbeResult). StillBacksProbeResult (wanted_of s.wanted port.0) f port.0 seen) (sym is)
              (looked_stands laws (wanted_of s.wanted port.0) port state result s.device seen t.in_call_invariant.adapter_is_on lives l none (laws.look_laws.service_keeps_adapter s.device seen serves)
              (looking_silent s seen port t.in_call_invariant laws looks port.0 Identify refl (λ dead. lives (let z : Unready state ≡ Unready DeadState = sym is ∙ dead in cc)))
              (subst (λ (f : ProbeResult). StillBacksProbeResult (wanted_of s.wanted port.0) f port.0 s.device) is was.probe_result_is_backed));
          ready_engine_runs = λ ready. absurd (never ready);
          bad_disk_is_shown_if_in = λ bad. shown_on laws port s.device seen t.in_call_invariant.adapter_is_on serves (was.bad_disk_is_shown_if_in bad);
          ready_has_disk_if_det_3 = λ ready. absurd (never ready);
          ready_halt_fits_taken_commands = λ ready. absurd (never ready);
        }

    other_port : (q : ℕ) → q < 4 → q ≢ port.0 → PortInvariant s.wanted s.probe_results q seen
    other_port q small other =
        port_on laws s.wanted s.probe_results q s.device seen (laws.look_laws.service_keeps_adapter s.device seen serves) t.in_call_invariant.adapter_is_on serves
        (λ _. laws.port_event_laws.other_ports_are_left port q s.device seen other t.in_call_invariant.adapter_is_on (driven_as (IsPxisSstsOrOwnIsAccess port) (AccessesNoOtherPort port) s.device seen (laws.look_laws.look_access_is_of_port port) looks.is_driven))
        (looking_silent s seen port t.in_call_invariant laws looks q Identify refl)
        (followed_halts laws (port_at q) (IsPxisSstsOrOwnIsAccess port) s t.in_call_invariant seen looks (λ access its. (leaving port (port_at q) access its).0))
        (t.in_call_invariant.port_invariant q small)

    pub rests_kept : InCallInvariant rest
    rests_kept = looked_kept s seen port t.in_call_invariant laws looks (λ q small. ⊎_elim
        (λ (same : q ≡ port.0). subst (λ (x : ℕ). PortInvariant s.wanted s.probe_results x seen) (sym same) its_port)
        (λ (other : q ≢ port.0). other_port q small other)
        (cases_eq q port.0))

  module _ (result : Bool) (l : FindsReasonToBoot state port result s.device seen) (none : result ≡ false) (kept : InCallInvariant rest) where
    rests_settled : InvariantWithNoneDue rest
    rests_settled = record { in_call_invariant = kept; none_is_due = t.none_is_due }

    pub rests : IsPortTurn InProbe port [] s rest × InvariantWithNoneDue rest
    rests = (
      record {
        accesses = looks.is_driven.accesses;
        accesses_are_done = looks.is_driven.all_are_done;
        accesses_are_of_port = All-weaker (IsPxisSstsOrOwnIsAccess port) (AccessesNoOtherPort port) (laws.look_laws.look_access_is_of_port port) looks.is_driven.accesses looks.is_driven.accesses_are_of_kind;
        accesses_are_drivers_own = All-weaker (IsPxisSstsOrOwnIsAccess port) StaysInDriverFrames (λ access its. (looking_part laws port access its).0) looks.is_driven.accesses looks.is_driven.accesses_are_of_kind;
        leaves_others = record { grants = refl; wanted = refl; last_id = refl; other_probe_results_are_same = λ q ne. refl; other_remembered_are_same = λ q ne. refl; other_modes_are_same = λ q ne. refl; other_slots_are_same = λ q ne. refl; others_requests_are_same = λ q ne. refl };
        others_get_no_log_unless_dead = λ q other alive. looking_silent s seen port t.in_call_invariant laws looks q ReadLog refl (λ dead. alive (ap state_of dead));
        simulates_turn = λ m reached stood.
            let x = followed_steps laws s seen (looks_serve laws port s.device seen looks) m reached stood in
            makes_try laws port s t.in_call_invariant never rest rests_settled [] [] looks.is_driven.accesses rests_told (rests_does s port state t.in_call_invariant is laws seen result l none looks.is_driven.accesses looks.is_driven.accesses_are_of_kind looks.is_driven.all_are_done) m stood
            (record { steps = x.0; only = x.4; may = x.1; stands = x.2; backed = x.3; disk = inl (refl, refl, refl, refl, refl, refl) });
      },
      rests_settled,
    )

-- ---- the whole

dead_or_not : (state : PortState) → (state ≡ DeadState) ⊎ (state ≢ DeadState)
dead_or_not Absent = inr (λ is. let z : Absent ≡ DeadState = is in cc)
dead_or_not ReadyState = inr (λ is. let z : ReadyState ≡ DeadState = is in cc)
dead_or_not Foreign = inr (λ is. let z : Foreign ≡ DeadState = is in cc)
dead_or_not (Unfit n) = inr (λ is. let z : Unfit n ≡ DeadState = is in cc)
dead_or_not DeadState = inl refl

-- A dead port isn't looked at. Another one is, and booted where what it was looked at for was found.
pub turns : PrerequisiteLaws → (s new : ServerState) (port : Port) → InvariantWithNoneDue s → (probes : ProbesPort port s new) → (probes.state ≢ DeadState → IsSimulated (IsPxisSstsOrOwnIsAccess port) AnySlotStates s.device probes.device_after_look)
    → IsPortTurn InProbe port [] s new × InvariantWithNoneDue new
turns laws s new port t probes looks = ⊎_elim
    (λ (dead : probes.state ≡ DeadState).
    let l = subst (λ (state : PortState). FindsReasonToBoot state port probes.has_found_something s.device probes.device_after_look) dead probes.is_looked_at in
    whole_rest l.0 (unlooked port s.device probes.device_after_look l.1) (subst (λ (d : Device). InCallInvariant (record s { device = d })) (sym l.1) t.in_call_invariant))
    (λ (lives : probes.state ≢ DeadState). ⊎_elim
    (λ (found : probes.has_found_something ≡ true). booted_turn laws s new probes.device_after_look port probes.state t probes.unready_state_is lives (looks lives) (probes.boots found))
    (λ (none : probes.has_found_something ≡ false). whole_rest none (looks lives) (rests_kept laws s probes.device_after_look port probes.state t probes.unready_state_is (looks lives) lives probes.has_found_something probes.is_looked_at none))
    (cases_Bool probes.has_found_something))
    (dead_or_not probes.state)
  where
    whole_rest : probes.has_found_something ≡ false → IsSimulated (IsPxisSstsOrOwnIsAccess port) AnySlotStates s.device probes.device_after_look → InCallInvariant (record s { device = probes.device_after_look }) → IsPortTurn InProbe port [] s new × InvariantWithNoneDue new
    whole_rest none its kept = subst (λ (n : ServerState). IsPortTurn InProbe port [] s n × InvariantWithNoneDue n) (sym (probes.is_left_if_not_found none)) (rests laws s probes.device_after_look port probes.state t probes.unready_state_is its probes.has_found_something probes.is_looked_at none kept)

pub tried : PrerequisiteLaws → (s new : ServerState) (port : Port) → InvariantWithNoneDue s → (probes : ProbesPort port s new) → (probes.state ≢ DeadState → IsSimulated (IsPxisSstsOrOwnIsAccess port) AnySlotStates s.device probes.device_after_look) → ProbesUnready port s new × InvariantWithNoneDue new
tried laws s new port t probes looks = let x = turns laws s new port t probes looks in (record { does_turn = probes; is_port_turn = x.0 }, x.1)
