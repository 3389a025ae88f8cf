-- A reset that gets stuck adds an event, whether or not the last one did.
use Rattle.std.proofs.Common.{ℕ, Bool, true, ◌≡◌, ◌≢◌, List, ◌∷◌, None, inl, inr, refl, sym, ap, ◌∙◌, subst, ⊎_elim}
use Rattle.std.specs.List.{Contains}
use Rattle.std.proofs.lemmas.Bool.{false≢true}
use Rattle.std.proofs.lemmas.List.Elements.{All-weaker}
use Rattle.ata_types.specs.declared.Port.{Port}
use Rattle.ata_types.specs.declared.PortState.TheVariants.{Dead}
use Rattle.hba_regs.specs.declared.reg.PortReg.TheVariants.{Cmd, Sctl}
use Rattle.hba_regs.specs.declared.reg.Reg.TheVariants.{Ghc, Px}
use Rattle.adapter.specs.Access.{Access}
use Rattle.adapter.specs.Access.Access.{Loading, Reading, Storing, Writing}
use Rattle.adapter.specs.Device.{Device}
use Rattle.adapter.specs.Rules.{IsOn}
use Rattle.adapter.specs.declared.access.DeviceStep.{DeviceStep}
use Rattle.refinement.specs.Driver.{TapeBacksSteps}
use Rattle.server_history.proofs.state.FollowedAccesses.{followed_adds}
use Rattle.block_machine.specs.Events.{AllByDevice, AllEnabled, Reset, WasReset}
use Rattle.block_machine.specs.Histories.{JointEvent, JointState, IsReachable, joint_state_after}
use Rattle.block_machine.specs.Expected.{after}
use Rattle.block_machine.specs.Ports.{PortsWellFormed, Evidence, RequestFault, IsDeadAfterStuckResetIfServed, Ports, SameSerialAndSize}
use Rattle.block_machine.specs.State.{Machine}
use Rattle.block_machine.specs.Steps.{Step}
use Rattle.driver_history.specs.Evidence.{IsEvidencedOf}
use Rattle.driver_history.specs.Histories.{PortCorresponds}
use Rattle.driver_history.specs.AccessTrace.{WritesNeitherCmdNorSctl}
use Rattle.host_boot.specs.Resets.{IsResetAccess}
use Rattle.host_boot.specs.TakeOver.{probe_result_of}
use Rattle.host_boot.specs.declared.ProbeResult.{ProbeResult}
use Rattle.host_boot.specs.declared.ProbeResult.TheVariants.{Ready, Unready, Unserved}
use Rattle.identify.specs.declared.DiskInfo.{DiskInfo}
use Rattle.std.specs.Prelude.{Option}
use Rattle.request_queue.specs.BookEntries.{BookEntry}
use Rattle.server_history.specs.Prerequisites.{PrerequisiteLaws}
use Rattle.server_history.specs.Histories.{ExtendsToStuck, LeadsToServer}
use Rattle.server_history.specs.ServerState.{ServerState, MachineRelation, last_disk_in, last_disk_of, is_served, ports_of, remembered_at, last_sectors_of, last_serial_of, state_of, slot_state_of_use}
use Rattle.server_history.specs.StuckServer.{ServedPortsAreDead, ResetGetsStuck, ServerInvariant, StuckInvariant, found_after_stuck_reset}
use Rattle.server_history.proofs.state.DeviceSteps.{devices_belong, devices_last, devices_lawful}
use Rattle.server_history.proofs.state.HistorySteps.{happening_with, lead_with, machine_on, with_device}
use Rattle.server_history.proofs.state.FirstMembers.{nowhere}
use Rattle.server_history.proofs.failed_reset.StuckInstant.{OnlyDeviceChangesPorts, accesses_idle, booked_on, dead_fit, dead_if_served, holds_off, never_ready}
use Rattle.server_history.proofs.state.CallEvidence.{chosen, chosen_is, evidenced_of, four, in_four, is_chosen, told_by}

-- ---- a reset's accesses

-- they leave each port
leaves_ports : (access : Access) → IsResetAccess access → OnlyDeviceChangesPorts access
leaves_ports (Reading Ghc v) its = tt
leaves_ports (Writing Ghc v) its = tt
leaves_ports (Reading r v) its = absurd its
leaves_ports (Writing r v) its = absurd its
leaves_ports (Loading at bytes) its = absurd its
leaves_ports (Storing at bytes) its = absurd its

-- so none stops one
leaves_engine : (port : Port) (access : Access) → IsResetAccess access → WritesNeitherCmdNorSctl port access
leaves_engine port (Reading Ghc v) its = (tt, tt)
leaves_engine port (Writing Ghc v) its = ((λ e. let z : Ghc ≡ Px port Cmd = e in cc), (λ e. let z : Ghc ≡ Px port Sctl = e in cc))
leaves_engine port (Reading r v) its = absurd its
leaves_engine port (Writing r v) its = absurd its
leaves_engine port (Loading at bytes) its = absurd its
leaves_engine port (Storing at bytes) its = absurd its

-- ---- ports that got stuck

-- it is served as it was
stuck_served : (f : ProbeResult) → is_served (found_after_stuck_reset f) ≡ is_served f
stuck_served Unserved = refl
stuck_served (Ready info) = refl
stuck_served (Unready state) = refl

stuck_dead : (f : ProbeResult) → is_served (found_after_stuck_reset f) ≡ true → found_after_stuck_reset f ≡ Unready Dead
stuck_dead Unserved its = absurd (false≢true its)
stuck_dead (Ready info) its = refl
stuck_dead (Unready state) its = refl

stuck_unserved : (f : ProbeResult) → found_after_stuck_reset f ≡ Unserved → f ≡ Unserved
stuck_unserved Unserved is = refl
stuck_unserved (Ready info) is = let z : Unready Dead ≡ Unserved = is in absurd cc
stuck_unserved (Unready state) is = let z : Unready Dead ≡ Unserved = is in absurd cc

-- of it nothing but the last disk is known
stuck_disk : (f : ProbeResult) (last : Option DiskInfo) → last_disk_of (found_after_stuck_reset f) last ≡ last
stuck_disk Unserved last = refl
stuck_disk (Ready info) last = refl
stuck_disk (Unready state) last = refl

module _ (laws : PrerequisiteLaws) (s new : ServerState) (b : ServerInvariant s) (g : ResetGetsStuck s new) where
  -- the server then
  abbrev n : ServerState
  n = record s { device = new.device; probe_results = new.probe_results; remembered = new.remembered; modes = new.modes; slots = new.slots }

  abbrev its_accesses : List Access
  its_accesses = g.reset_stays_pending.followed.is_driven.accesses

  dead : ServedPortsAreDead new.probe_results
  dead port its = g.served_ports_become_dead port ∙ stuck_dead (probe_result_of s.probe_results port) (sym (ap is_served (g.served_ports_become_dead port)) ∙ its)

  served_same : (port : ℕ) → is_served (probe_result_of new.probe_results port) ≡ is_served (probe_result_of s.probe_results port)
  served_same port = ap is_served (g.served_ports_become_dead port) ∙ stuck_served (probe_result_of s.probe_results port)

  was_unserved : (port : ℕ) → probe_result_of new.probe_results port ≡ Unserved → probe_result_of s.probe_results port ≡ Unserved
  was_unserved port is = stuck_unserved (probe_result_of s.probe_results port) (sym (g.served_ports_become_dead port) ∙ is)

  alive_unserved : (port : ℕ) → probe_result_of new.probe_results port ≢ Unready Dead → probe_result_of s.probe_results port ≡ Unserved
  alive_unserved port alive = ⊎_elim (was_unserved port) (λ is. absurd (alive is)) (dead_if_served (probe_result_of new.probe_results port) (dead port))

  disk_same : (port : Port) → last_disk_in n port ≡ last_disk_in s port
  disk_same port =
      ap (λ (f : ProbeResult). last_disk_of f (remembered_at new.remembered port.0)) (g.served_ports_become_dead port.0) ∙ stuck_disk (probe_result_of s.probe_results port.0) (remembered_at new.remembered port.0) ∙ g.last_disks_are_remembered port.0

  off : IsOn new.device → ⊥
  off on = false≢true (sym on.no_reset ∙ g.reset_stays_pending.hr_is_set)

  -- ---- the machine that stands for it

  stands_then : (m : Machine) → MachineRelation (record s { device = new.device }) m → MachineRelation n m
  stands_then m is = record {
    uses = is.uses;
    slot_states_agree_unless_dead = λ port slot alive.
        let unserved = alive_unserved port alive in
        is.slot_states_agree_unless_dead port slot (unserved_alive port unserved) ∙ ap slot_state_of_use (b.unserved_use_no_slot port slot unserved) ∙ sym (ap slot_state_of_use (g.no_slot_is_used port slot));
    awaiting_disposition = is.awaiting_disposition;
    only_dead_ports_park = λ port alive. is.only_dead_ports_park port (unserved_alive port (alive_unserved port alive));
    driver_relation = is.driver_relation;
    book = is.book;
    quarantine_relation = record {
      quarantine_ports_are_dead = λ e here. g.served_ports_become_dead e.request.port.0 ∙ ap found_after_stuck_reset (is.quarantine_relation.quarantine_ports_are_dead e here);
      each_request_has_its_loan = is.quarantine_relation.each_request_has_its_loan;
      each_loan_has_its_request = is.quarantine_relation.each_loan_has_its_request;
      loans_differ_in_request = is.quarantine_relation.loans_differ_in_request;
    };
    rows = is.rows;
    owner = is.owner;
    lent = is.lent;
    next_id_is = is.next_id_is;
  }
    where
      unserved_alive : (port : ℕ) → probe_result_of s.probe_results port ≡ Unserved → probe_result_of s.probe_results port ≢ Unready Dead
      unserved_alive port unserved is_dead = let z : Unserved ≡ Unready Dead = sym unserved ∙ is_dead in cc

  -- What the reset makes of a machine that stands for the server: the device's steps lead to one that stands for the server then.
  record Follows (m : Machine) : Type 0 where
    steps : List Step
    only : AllByDevice steps
    may : AllEnabled m steps
    backed : TapeBacksSteps s.device new.device m steps
    with_device_alone : MachineRelation (record s { device = new.device }) (after m steps)

  follows : (m : Machine) → IsReachable m → MachineRelation s m → Follows m
  follows m reached is =
      let x = (followed_adds laws g.reset_stays_pending.followed is.uses is.awaiting_disposition tt).simulates m reached is.driver_relation in
      record { steps = x.0; only = x.3.all_steps_are_by_device; may = x.1; backed = x.3.is_backed; with_device_alone = machine_on laws s new.device m x.0 is x.3.all_steps_are_by_device x.2 }

  booked_then : (m : Machine) → IsReachable m → MachineRelation (record s { device = new.device }) m → ServerInvariant n
  booked_then m reached is =
      let on = booked_on s new.device b g.reset_stays_pending.adapter_is_kept
      (λ port idle. accesses_idle laws its_accesses (All-weaker IsResetAccess OnlyDeviceChangesPorts leaves_ports its_accesses g.reset_stays_pending.followed.is_driven.accesses_are_of_kind) s.device new.device g.reset_stays_pending.followed.is_driven.all_are_done port idle)
      m reached is in
      record {
        driver_memory_fits = on.driver_memory_fits;
        served_iff_wanted_and_there = λ port low. let w = on.served_iff_wanted_and_there port low in ((λ its. w.0 (sym (served_same port) ∙ its)), (λ there. served_same port ∙ w.1 there));
        served_are_below_4 = λ port its. on.served_are_below_4 port (sym (served_same port) ∙ its);
        unserved_are_idle = λ port low unserved. on.unserved_are_idle port low (was_unserved port unserved);
        unserved_use_no_slot = λ port slot unserved. g.no_slot_is_used port slot;
        slots_are_of_four_ports = g.slots_are_of_four_ports;
        modes_are_of_four_ports = g.modes_are_of_four_ports;
        remembered_is_of_four_ports = g.remembered_is_of_four_ports;
        kept_loans_are_of_four_ports = on.kept_loans_are_of_four_ports;
        kept_loans_have_room = on.kept_loans_have_room;
        rows_are_valid = on.rows_are_valid;
        owned_frames_are_clients = on.owned_frames_are_clients;
        entries_are_well_formed = on.entries_are_well_formed;
        book_is_well_formed = on.book_is_well_formed;
        revoked_marks_agree = on.revoked_marks_agree;
        ids_were_handed_out = on.ids_were_handed_out;
        requests_are_of_served_ports = All-weaker (λ (e : BookEntry). is_served (probe_result_of s.probe_results e.request.port.0) ≡ true) (λ (e : BookEntry). is_served (probe_result_of new.probe_results e.request.port.0) ≡ true)
            (λ e its. served_same e.request.port.0 ∙ its) s.book b.requests_are_of_served_ports;
        machine = m;
        reached = reached;
        machine_relation = stands_then m is;
      }

  stalled : StuckInvariant n
  stalled =
      let f = follows b.machine b.reached b.machine_relation in
      record { server_invariant = booked_then (after b.machine f.steps) (laws.steps_and_accesses.reachable_stays_reachable b.machine f.steps b.reached f.may) f.with_device_alone; adapter_is_not_on = off; served_ports_are_dead = dead }

  -- ---- the event

  abbrev its_served : Port → Bool
  its_served port = is_served (probe_result_of s.probe_results port.0)

  -- each served port got stuck
  abbrev stuck_told : Ports → Evidence
  stuck_told ports = record (told_by s.device ports) { stuck = chosen its_served four }

  stuck_named : (port : Port) → is_served (probe_result_of s.probe_results port.0) ≡ true → Contains (chosen its_served four) port
  stuck_named port its = is_chosen its_served four port (in_four port (b.served_are_below_4 port.0 its)) its

  module _ (first : JointState Device) (past : List (JointEvent Device DeviceStep)) (leads : LeadsToServer first past s) where
    abbrev old : JointState Device
    old = joint_state_after first past

    abbrev began : JointState Device
    began = with_device s.device old

    ports_are : old.abstract.ports ≡ ports_of s
    ports_are = leads.state_is_at_history_end.ports_are

    fit : PortsWellFormed old.abstract.ports
    fit = laws.steps_and_accesses.history_ports_are_well_formed s.wanted first past leads.history

    evidence : Evidence
    evidence = stuck_told old.abstract.ports

    was_served : (port : Port) → old.abstract.ports.served port ≡ true → is_served (probe_result_of s.probe_results port.0) ≡ true
    was_served port its = ap (λ (p : Ports). p.served port) (sym ports_are) ∙ its

    same_disk : (port : Port) → SameSerialAndSize old.abstract.ports (ports_of n) port
    same_disk port = subst (λ (p : Ports). SameSerialAndSize p (ports_of n) port) (sym ports_are) (ap last_serial_of (disk_same port), ap last_sectors_of (disk_same port))

    gets_stuck : (port : Port) → IsDeadAfterStuckResetIfServed old.abstract.ports evidence (ports_of n) port
    unfolding evidence
    gets_stuck port = (
      served_same port.0 ∙ ap (λ (p : Ports). p.served port) (sym ports_are),
      (λ its. let w = was_served port its in (ap state_of (dead port.0 (served_same port.0 ∙ w)), stuck_named port w)),
      same_disk port,
    )

    evidenced_port : (port : Port) → IsEvidencedOf Reset (WasReset None) its_accesses began (ports_of n) new.device evidence port
    unfolding evidence
    evidenced_port port =
        let leaves = All-weaker IsResetAccess (WritesNeitherCmdNorSctl port) (leaves_engine port) its_accesses g.reset_stays_pending.followed.is_driven.accesses_are_of_kind in
        let base = evidenced_of four Reset (WasReset None) its_accesses began (ports_of n) new.device port (λ ready. in_four port (laws.steps_and_accesses.ready_ports_are_served old.abstract.ports port fit ready).1) leaves in
        record {
          named_lost_showed_loss_or_changed = base.named_lost_showed_loss_or_changed;
          shown_loss_of_ready_is_named = base.shown_loss_of_ready_is_named;
          named_link_changed_had_change_or_no_device = base.named_link_changed_had_change_or_no_device;
          shown_failure_of_ready_is_named = base.shown_failure_of_ready_is_named;
          named_showing_error_had_error = base.named_showing_error_had_error;
          shown_fatal_of_ready_is_named = base.shown_fatal_of_ready_is_named;
          named_showing_fatal_had_fatal = base.named_showing_fatal_had_fatal;
          engine_is_left_or_stopped = inl leaves;
          named_stopped_was_stopped_or_reset = base.named_stopped_was_stopped_or_reset;
          stuck_only = λ here. inr (tt, ap (λ (p : Ports). p.served port) ports_are ∙ chosen_is its_served four port here);
        }

    no_fault : (told : RequestFault) → Contains evidence.faults told → ⊥
    unfolding evidence
    no_fault told here = nowhere told here

    part : (steps : List Step) (port : Port) → PortCorresponds began (happening_with evidence new.device Reset (WasReset None) steps (ports_of n)) its_accesses port
    unfolding evidence
    part steps port = record {
      finds_done = tt;
      lone_plain_faults_are_told_unless_dead = tt;
      probes_disk = tt;
      boots_anew = tt;
      loses_no_error = record {
        ready_errors_are_handled_or_shown = λ ready shown. inl (inr (stuck_named port (was_served port (laws.steps_and_accesses.ready_ports_are_served old.abstract.ports port fit ready).0)));
        changes_are_handled_or_shown_unless_dead = λ tends shown. inl (inr (stuck_named port (was_served port tends.0)));
        ready_shows_fault_since_start = λ ready. absurd (never_ready n dead port.0 ready);
        ready_shows_fatal_since_start = λ ready. absurd (never_ready n dead port.0 ready);
        ready_shows_plug_event_since_start = λ ready. absurd (never_ready n dead port.0 ready);
      };
      runs_well_anew = λ i ready. absurd (never_ready n dead port.0 ready);
      handles_evidence = tt;
    }

    event : (h : JointEvent Device DeviceStep) × (h.event.call ≡ Reset) × (h.event.result ≡ WasReset None) × LeadsToServer first (h ∷ past) n
    event =
        let f = follows old.abstract.machine (laws.steps_and_accesses.history_machine_is_reachable s.wanted first past leads.history) leads.state_is_at_history_end.machine_stands_for_it in
        lead_with laws first past s n Reset (WasReset None) evidence f.steps refl leads (holds_off n stalled.server_invariant dead off) (dead_fit n dead stalled.server_invariant.served_are_below_4)
        f.may (devices_belong {D = DeviceStep} Reset (ports_of n) f.steps f.only) (devices_last f.steps f.only) (devices_lawful old.abstract evidence (ports_of n) f.steps f.only)
        (λ e o here there same. same_disk e.request.port)
        (f.only, gets_stuck)
        tt
        its_accesses
        (g.reset_stays_pending.followed.is_driven.all_are_done, g.reset_stays_pending.awaited)
        (record { faults_are_told = λ told here. absurd (no_fault told here); each_port_is_evidenced = evidenced_port })
        (λ port ready. absurd (never_ready n dead port.0 ready))
        (part f.steps)
        f.backed
        (stands_then (after old.abstract.machine f.steps) f.with_device_alone)

  pub stuck_adds : ExtendsToStuck s new Reset (WasReset None)
  stuck_adds = subst (λ (x : ServerState). ExtendsToStuck s x Reset (WasReset None)) (sym g.server_is) (record { stuck_invariant = stalled; extends_history = event })
