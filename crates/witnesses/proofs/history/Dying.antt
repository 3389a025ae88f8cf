-- A reset that doesn't end, and the service after it.
use Rattle.std.proofs.Common.{◌∙◌, ℕ, zero, suc, ◌≡◌, false, List, [], ◌∷◌, ◌++◌, None, inl, inr, ⊎_elim, refl, sym, ap, arith, true, ◌≢◌, append-nil}
use Rattle.std.proofs.lemmas.Bool.{true≢false}
use Rattle.std.specs.List.{Contains}
use Rattle.std.proofs.lemmas.List.Elements.{All-cons, All-nil}
use Rattle.std.proofs.lemmas.List.Sorted.{IsPermutation-refl}
use Rattle.ata_types.specs.declared.Port.{Port}
use Rattle.ata_types.specs.declared.PortState.TheVariants.{Absent, Ready, Unfit, Foreign, Dead}
use Rattle.ata_types.specs.declared.request.Outcome.TheVariants as outcome
use Rattle.ata_types.specs.declared.request.Reply.{Reply}
use Rattle.adapter.specs.Device.{Device}
use Rattle.adapter.specs.declared.access.DeviceStep.{DeviceStep}
use Rattle.refinement.specs.Relation.{port_at}
use Rattle.refinement.specs.Acts.{driver_state_of_slots}
use Rattle.refinement.specs.Driver.{TapeBacksSteps, DriverRelation}
use Rattle.refinement.specs.Slots.{ServesRequest, RelatesSlot}
use Rattle.refinement.specs.ReadWitness.{first_id}
use Rattle.block_machine.specs.Events.{Service, Replied, Happens}
use Rattle.block_machine.specs.Histories.{JointEvent, JointState}
use Rattle.block_machine.specs.Ports.{MayBecomeInService, Ports, PortsWellFormed}
use Rattle.block_machine.specs.Expected.{after}
use Rattle.block_machine.specs.State.{Pending, Machine}
use Rattle.block_machine.specs.Steps.{Step, Answer, NoneKept}
use Rattle.host_boot.specs.TakeOver.{wanted_of}
use Rattle.identify.specs.declared.wanted.Wanted.TheVariants.{Any}
use Rattle.driver_history.specs.Evidence.{IsEvidencedOf}
use Rattle.driver_history.specs.Histories.{CallCorresponds, PortCorresponds, ProbesDisk, IsForeignOrUnfit, IsServedAndNotDead}
use Rattle.driver_history.specs.PortInvariants.{PortStateInvariant, DriverInvariantWith, HasNoUnanswered}
use Rattle.driver_history.specs.AccessTrace.{WritesNeitherCmdNorSctl, UsesPortsAndNotGhc}
use Rattle.host_boot.specs.Resets.{ReadsHrSet}
use Rattle.witnesses.specs.StuckReset.{stuck_reset_accesses, StuckResetIsAHistory}
use Rattle.witnesses.specs.RunningAdapter.{port_or_empty, ports_with_disks}
use Rattle.hba_regs.specs.declared.reg.Reg.TheVariants.{Ghc}
use Rattle.adapter.specs.Access.{DoesAll, Reads}
use Rattle.adapter.specs.Access.Access.{Reading}
use Rattle.adapter.specs.Rules.{IsOn}
use Rattle.refinement.specs.Acts.{driver_state_of_slots}
use Rattle.refinement.specs.Driver.{DriverRelation}
use Rattle.block_machine.specs.Events.{Reset, WasReset}
use Rattle.block_machine.specs.Ports.{Evidence, IsDeadAfterStuckResetIfServed}
use Rattle.driver_history.specs.Histories.{ProbesDisk}
use Rattle.witnesses.proofs.history.Command.{read_memory}
use Rattle.witnesses.proofs.history.Devices.{leaves}
use Rattle.witnesses.proofs.history.Holding.{first_slots, have_first, unnamed_evidenced, unserved_at, uses_first, IsCalm, no_trouble}
use Rattle.witnesses.proofs.history.Issuing.{none_named, nothing}
use Rattle.witnesses.proofs.history.Submitting.{issued, pages, second, submitted}
use Rattle.witnesses.proofs.history.Accepting.{asked, both, first, holds_submitted, in_book, issuing, submit, submit_happens, submit_ties, submitted_at, waiting, serves, the_answer, not_ended}
use Rattle.witnesses.proofs.history.Pages.{plain_disks}
use Rattle.witnesses.proofs.history.Ready.{begins, calm, fit_ready, served_of, served_ready, starts}
use Rattle.witnesses.proofs.history.Members.{nowhere, only, either}

-- ---- the reset

abbrev dead : Ports
dead = ports_with_disks plain_disks.info (true ∷ true ∷ []) (Dead ∷ Dead ∷ [])

abbrev pending : Device
pending = record submitted { hr = true; ae = true; ie = false }

resets : DoesAll stuck_reset_accesses submitted pending
resets = (
  pending,
  record { at_access = submitted; steps = record { steps = []; lead = refl }; effect = refl },
  (pending, asked_once, (pending, asked_once, refl)),
)
  where
    asked_once : Reads Ghc 0x80000001 pending pending
    asked_once = record { at_access = pending; steps = record { steps = []; lead = refl }; shows = (refl, refl, refl); effect = refl }

abbrev stuck_evidence : Evidence
stuck_evidence = record { faults = []; lost = []; link_changed = []; showing_error = []; showing_fatal_error = []; stopped = []; stuck = port_at 0 ∷ port_at 1 ∷ [] }

abbrev reset : JointEvent Device DeviceStep
reset = record {
  event = record { call = Reset; result = WasReset None; evidence = stuck_evidence; steps = []; ports = dead };
  device = pending;
}

abbrev pending_at : JointState Device
pending_at = record { device = pending; abstract = record { machine = issuing; ports = dead } }

not_on : IsOn pending → ⊥
not_on on = absurd (true≢false on.no_reset)

-- nothing that the machine agrees with changes by a reset that is pending
still_knows : (m : Machine) → DriverRelation m (driver_state_of_slots first_slots submitted) → DriverRelation m (driver_state_of_slots first_slots pending)
still_knows m k = record {
  state_relation = record { relates_slots = k.state_relation.relates_slots; serve_distinct_requests = k.state_relation.serve_distinct_requests; received_areas_in_use_are_placed = k.state_relation.received_areas_in_use_are_placed; disks_are_same = k.state_relation.disks_are_same; client_frames_are_same = k.state_relation.client_frames_are_same; sectors_are_same_if_disks_tell = k.state_relation.sectors_are_same_if_disks_tell; knows_replug_candidates_if_disks_tell = k.state_relation.knows_replug_candidates_if_disks_tell };
  have_slots_unless_parked = k.have_slots_unless_parked;
}

-- what holds of each port, where requests are port 0's alone
port_dead : (m : Machine) → ((n : ℕ) → n ≢ 0 → HasNoUnanswered m (port_at n)) → ((n : ℕ) → n ≢ 0 → NoneKept m (port_at n)) → (n : ℕ)
    → PortStateInvariant (wanted_of (Any ∷ Any ∷ []) n) first_slots (record { device = pending; abstract = record { machine = m; ports = dead } }) (port_at n) (dead.served (port_at n)) (dead.state (port_at n))
port_dead m waits kept zero = record { is_backed_or_off = inr not_on; has_no_unanswered = λ on. absurd (not_on on) }
port_dead m waits kept (suc zero) = record { is_backed_or_off = inr not_on; has_no_unanswered = λ on. absurd (not_on on) }
port_dead m waits kept (suc (suc n)) = unserved_at first_slots (record { device = pending; abstract = record { machine = m; ports = dead } }) (suc (suc n)) refl refl
    (record { all_are_free = λ slot. refl; none_is_parked = refl }) (waits (suc (suc n)) (omega arith)) (kept (suc (suc n)) (omega arith))

all_dead : (n : ℕ) → dead.served (port_at n) ≡ true → dead.state (port_at n) ≡ Dead
all_dead zero is = refl
all_dead (suc zero) is = refl
all_dead (suc (suc n)) is = absurd (true≢false (sym is))

holds_dead : (m : Machine) → DriverRelation m (driver_state_of_slots first_slots pending) → ((n : ℕ) → n ≢ 0 → HasNoUnanswered m (port_at n)) → ((n : ℕ) → n ≢ 0 → NoneKept m (port_at n))
    → DriverInvariantWith (Any ∷ Any ∷ []) first_slots (record { device = pending; abstract = record { machine = m; ports = dead } })
holds_dead m knows waits kept = record {
  driver_relation = knows;
  served_iff_wanted_and_there = λ port low. served_of pages read_memory (issued ∷ second ∷ []) port.0;
  is_on_or_served_are_dead = inr (λ port is. all_dead port.0 is);
  ports_hold = λ port low. port_dead m waits kept port.0;
}

waits_first : (n : ℕ) → n ≢ 0 → HasNoUnanswered issuing (port_at n)
waits_first n ne e here is = ne (sym (sym (ap (λ (x : Pending). x.request.port.0) (in_book 0 e here)) ∙ ap (λ (p : Port). p.0) is))

not_ready : (n : ℕ) → dead.state (port_at n) ≡ Ready → ⊥
not_ready zero is = let x : Dead ≡ Ready = is in cc
not_ready (suc zero) is = let x : Dead ≡ Ready = is in cc
not_ready (suc (suc n)) is = let x : Absent ≡ Ready = is in cc

fit_dead : PortsWellFormed dead
fit_dead = record {
  served_are_ports_0_to_3 = (fit_ready plain_disks).served_are_ports_0_to_3;
  unserved_are_absent = λ port is. absent_of port.0 is;
  modes_are_valid = λ port is. absurd (not_ready port.0 is);
  causes_are_valid = λ port cause is. absurd (no_cause port.0 cause is);
}
  where
    absent_of : (n : ℕ) → dead.served (port_at n) ≡ false → dead.state (port_at n) ≡ Absent
    absent_of zero is = absurd (true≢false is)
    absent_of (suc zero) is = absurd (true≢false is)
    absent_of (suc (suc n)) is = refl

    no_cause : (n cause : ℕ) → dead.state (port_at n) ≡ Unfit cause → ⊥
    no_cause zero cause is = let x : Dead ≡ Unfit cause = is in cc
    no_cause (suc zero) cause is = let x : Dead ≡ Unfit cause = is in cc
    no_cause (suc (suc n)) cause is = let x : Absent ≡ Unfit cause = is in cc

stuck_is : (n : ℕ) → IsDeadAfterStuckResetIfServed both stuck_evidence dead (port_at n)
stuck_is zero = (refl, λ is. (refl, (0, omega arith, refl)), (refl, refl))
stuck_is (suc zero) = (refl, λ is. (refl, (1, omega arith, refl)), (refl, refl))
stuck_is (suc (suc n)) = (refl, λ is. absurd (true≢false (sym is)), (refl, refl))

reset_happens : Happens submitted_at.abstract reset.event
reset_happens = record {
  steps_are_enabled = tt;
  steps_are_of_call = tt;
  issue_is_last_of_request = tt;
  answers_are_lawful = tt;
  ports_are_well_formed = fit_dead;
  unanswered_keep_serial_and_size = λ e o here there same. (refl, refl);
  result_matches_steps = (tt, λ port. stuck_is port.0);
}

unchanged : (d : Device) → ((n : ℕ) → (d.port n).plug_history ≡ (d.port n).plug_history ++ [])
unchanged d n = sym (append-nil (d.port n).plug_history)

reset_backed : TapeBacksSteps submitted pending issuing []
reset_backed = record { disks_tell_sectors_is_same = refl; new_entries = []; tape_is = refl; tells_device_steps = tt; steps_are_faithful = λ _. tt; plugged_disks_match_steps = λ port. ([], unchanged submitted port, refl) }

-- the port is served if it is named
named_served : (n : ℕ) → Contains (port_at 0 ∷ port_at 1 ∷ []) (port_at n) → both.served (port_at n) ≡ true
named_served zero h = refl
named_served (suc zero) h = refl
named_served (suc (suc n)) h = absurd (⊎_elim
    (λ (same : port_at (suc (suc n)) ≡ port_at 0). let z : suc (suc n) ≡ 0 = ap (λ (p : Port). p.0) same in omega (arith, z))
    (λ (same : port_at (suc (suc n)) ≡ port_at 1). let z : suc (suc n) ≡ 1 = ap (λ (p : Port). p.0) same in omega (arith, z))
    (either (port_at 0) (port_at 1) (port_at (suc (suc n))) h))

reset_evidenced : (n : ℕ) → IsEvidencedOf Reset (WasReset None) stuck_reset_accesses submitted_at dead pending stuck_evidence (port_at n)
reset_evidenced n =
    let quiet = calm submitted.tape read_memory issued refl refl refl (λ place from. refl) pending n in
    record {
      named_lost_showed_loss_or_changed = λ h. absurd (nowhere (port_at n) h);
      shown_loss_of_ready_is_named = λ is loss. absurd ((quiet is).0 loss);
      named_link_changed_had_change_or_no_device = λ h. absurd (nowhere (port_at n) h);
      shown_failure_of_ready_is_named = λ is f. absurd ((quiet is).1 f);
      named_showing_error_had_error = λ h. absurd (nowhere (port_at n) h);
      shown_fatal_of_ready_is_named = λ is f. absurd ((quiet is).1 (inl f));
      named_showing_fatal_had_fatal = λ h. absurd (nowhere (port_at n) h);
      engine_is_left_or_stopped = inl (leaves (λ r. r ≡ Ghc) (port_at n) (λ is. cc) (λ is. cc) stuck_reset_accesses (refl, tt));
      named_stopped_was_stopped_or_reset = λ h. absurd (nowhere (port_at n) h);
      stuck_only = λ h. inr (tt, named_served n h);
    }

reset_part : (n : ℕ) → PortCorresponds submitted_at reset stuck_reset_accesses (port_at n)
reset_part n = record {
  finds_done = tt;
  lone_plain_faults_are_told_unless_dead = tt;
  probes_disk = tt;
  boots_anew = tt;
  loses_no_error = no_trouble stuck_evidence submitted_at dead pending (port_at n) [] refl (All-nil (IsCalm n)) (served_ready n) (calm submitted.tape read_memory issued refl refl refl (λ place from. refl) pending n);
  runs_well_anew = λ why ready. absurd (not_ready n ready);
  handles_evidence = tt;
}

reset_ties : CallCorresponds (Any ∷ Any ∷ []) submitted_at reset
reset_ties = record {
  accesses = stuck_reset_accesses;
  accesses_are_explained = (resets, record { polls = Reading Ghc 0x80000001 ∷ []; last_ghc = 0x80000001; accesses_are = refl; polls_show_hr = All-cons ReadsHrSet (Reading Ghc 0x80000001) [] refl (All-nil ReadsHrSet); hr_is = refl });
  is_backed = reset_backed;
  is_evidenced = record { faults_are_told = λ f here. absurd (nowhere f here); each_port_is_evidenced = λ port. reset_evidenced port.0 };
  only_failed_requeue_if_service = tt;
  issues_all_due = λ port is. absurd (not_ready port.0 is);
  ports_correspond = λ port. reset_part port.0;
  invariant_holds = (first_slots, holds_dead issuing (still_knows issuing holds_submitted.driver_relation) waits_first (λ n ne e kept. absurd (nowhere e kept)));
}

-- ---- the service

abbrev answer : Step
answer = Answer waiting outcome.PortDead

abbrev answered : Machine
answered = after issuing (answer ∷ [])

abbrev replies : List Reply
replies = record { id = first_id; client = asked.client; outcome = outcome.PortDead } ∷ []

abbrev service : JointEvent Device DeviceStep
service = record {
  event = record { call = Service; result = Replied replies; evidence = nothing; steps = answer ∷ []; ports = dead };
  device = pending;
}

is_kept : (e : Pending) → Contains answered.kept e → e ≡ waiting
is_kept e here = only waiting e here

-- the slot serves the kept request as it served it before
serves_kept : ServesRequest answered read_memory issued 0 0 first_id
serves_kept =
    let s = serves in
    record {
      pending = s.pending;
      may_still_move = inr (0, omega arith, sym (⊎_elim (λ here. in_book 0 s.pending here.0) (λ kept. absurd (nowhere s.pending kept)) s.may_still_move));
      id_is = s.id_is;
      port_is = s.port_is;
      list_is_in_place = s.list_is_in_place;
      command = s.command;
      places = s.places;
      slot_decodes_to = s.slot_decodes_to;
      means = s.means;
      stage = s.stage;
    }

slot_kept : (n k : ℕ) → RelatesSlot answered read_memory pages (port_or_empty (issued ∷ second ∷ []) n) n k (uses_first n k)
slot_kept zero zero = serves_kept
slot_kept zero (suc k) = holds_submitted.driver_relation.state_relation.relates_slots zero (suc k)
slot_kept (suc n) k = holds_submitted.driver_relation.state_relation.relates_slots (suc n) k

knows_kept : DriverRelation answered (driver_state_of_slots first_slots pending)
knows_kept =
    let k : DriverRelation issuing (driver_state_of_slots first_slots submitted) = holds_submitted.driver_relation in
    record {
      state_relation = record {
        relates_slots = slot_kept;
        serve_distinct_requests = k.state_relation.serve_distinct_requests;
        received_areas_in_use_are_placed = k.state_relation.received_areas_in_use_are_placed;
        disks_are_same = λ n. let d = k.state_relation.disks_are_same n in record { present = d.present; id = d.id; sector_count = d.sector_count };
        client_frames_are_same = k.state_relation.client_frames_are_same;
        sectors_are_same_if_disks_tell = λ disks_tell_sectors n. let d = k.state_relation.sectors_are_same_if_disks_tell disks_tell_sectors n in record { told_sectors = d.told_sectors; disk_tells = d.disk_tells; bytes_are_same = d.bytes_are_same };
        knows_replug_candidates_if_disks_tell = k.state_relation.knows_replug_candidates_if_disks_tell;
      };
      have_slots_unless_parked = λ n e may at_port. inr (⊎_elim
          (λ here. absurd (nowhere e here.0))
          (λ kept. have_first e n (ap (λ (x : Pending). x.request.port.0) (is_kept e kept)) (ap (λ (x : Pending). x.request.id) (is_kept e kept)) at_port) may);
    }

kept_first : (n : ℕ) → n ≢ 0 → NoneKept answered (port_at n)
kept_first n ne e here is = ne (sym (sym (ap (λ (x : Pending). x.request.port.0) (is_kept e here)) ∙ ap (λ (p : Port). p.0) is))

not_unplugged : (e : Pending) → Contains (answer ∷ []) (Answer e outcome.Unplugged) → ⊥
not_unplugged e here = let x : outcome.Unplugged ≡ outcome.PortDead = (the_answer outcome.PortDead e outcome.Unplugged here).1 in cc

becomes : (n : ℕ) → MayBecomeInService dead nothing dead (port_at n)
becomes zero = (λ is. (refl, refl, refl, refl, refl, refl), λ other. absurd (other refl))
becomes (suc zero) = (λ is. (refl, refl, refl, refl, refl, refl), λ other. absurd (other refl))
becomes (suc (suc n)) = (
  λ is. (refl, refl, refl, refl, refl, refl),
  λ other. (
    record {
      served_is_unchanged = refl;
      dead_exactly_if_stuck = (λ is. absurd (let x : Absent ≡ Dead = is in cc), λ h. absurd (nowhere (port_at (suc (suc n))) h));
      disk_is_remembered_unless_ready = λ is. (refl, refl);
    },
    inl (refl, refl, refl, refl, refl, refl),
  ),
)

service_happens : Happens pending_at.abstract service.event
service_happens = record {
  steps_are_enabled = (tt, ((0, omega arith, refl), tt));
  steps_are_of_call = (tt, inr tt);
  issue_is_last_of_request = (tt, λ id handled issued_in. absurd (true≢false (sym issued_in)));
  answers_are_lawful = (tt, refl);
  ports_are_well_formed = fit_dead;
  unanswered_keep_serial_and_size = λ e o here. absurd (nowhere e here);
  result_matches_steps = record {
    replies_match = record { answers = (waiting, outcome.PortDead) ∷ []; is_permutation = IsPermutation-refl _; ordered = λ i j d less low. absurd (omega (arith, less, low)); replies_are_of_answers = refl };
    dead_ports_tell_only_port_dead = λ e o here is. (the_answer outcome.PortDead e o here).1;
    unplugged_outcome_empties_port = record { none_is_left = λ e other here. absurd (not_unplugged e here); none_is_told_dead = λ e other here. absurd (not_unplugged e here) };
    none_is_due_where_ready = λ port is r at_port due. absurd (nowhere r due.is_in_book);
    empty_unless_ready = λ port other e here. absurd (nowhere e here);
    answers_ok_what_had_ended = λ port is e here at_port done. absurd (not_ended 0 e here done);
    port_is_serviced = λ port. becomes port.0;
    shown_disk_was_in_or_came = λ port. inl (refl, refl, refl, refl, refl, refl);
  };
}

service_evidenced : (n : ℕ) → IsEvidencedOf Service (Replied replies) [] pending_at dead pending nothing (port_at n)
service_evidenced n = unnamed_evidenced Service (Replied replies) [] pending_at dead pending nothing (port_at n)
    (none_named (port_at n))
    (λ is. absurd (not_ready n is))
    (All-nil (WritesNeitherCmdNorSctl (port_at n)))

probes : (n : ℕ) → dead.served (port_at n) ≡ true → ProbesDisk [] pending_at dead pending (port_at n)
probes n served =
    let is = all_dead n served in
    record {
      absent_with_device_is_booted_dead_or_has_plug_event = λ absent. absurd (let x : Dead ≡ Absent = sym is ∙ absent in cc);
      absent_gets_first_fis_or_dead_or_no_device = λ absent. absurd (let x : Dead ≡ Absent = sym is ∙ absent in cc);
      missing_disk_makes_absent_or_dead = λ bad. absurd (not_bad is bad);
      changed_disk_is_booted_or_absent_or_dead = λ bad. absurd (not_bad is bad);
    }
  where
    not_bad : dead.state (port_at n) ≡ Dead → IsForeignOrUnfit dead (port_at n) → ⊥
    not_bad is (inl foreign) = let x : Dead ≡ Foreign = sym is ∙ foreign in cc
    not_bad is (inr unfit) = let x : Dead ≡ Unfit unfit.0 = sym is ∙ unfit.1 in cc

untended : (n : ℕ) → IsServedAndNotDead dead (port_at n) → ⊥
untended zero tends = tends.1 refl
untended (suc zero) tends = tends.1 refl
untended (suc (suc n)) tends = true≢false (sym tends.0)

service_part : (n : ℕ) → PortCorresponds pending_at service [] (port_at n)
service_part n = record {
  finds_done = λ is. absurd (not_ready n is);
  lone_plain_faults_are_told_unless_dead = λ alone. absurd (not_ready n alone.ready);
  probes_disk = λ served none. probes n served;
  boots_anew = (λ is. absurd (not_ready n is), inl (refl, refl, refl, refl, refl, refl));
  loses_no_error = record {
    ready_errors_are_handled_or_shown = λ is. absurd (not_ready n is);
    changes_are_handled_or_shown_unless_dead = λ tends. absurd (untended n tends);
    ready_shows_fault_since_start = λ is. absurd (not_ready n is);
    ready_shows_fatal_since_start = λ is. absurd (not_ready n is);
    ready_shows_plug_event_since_start = λ is. absurd (not_ready n is);
  };
  runs_well_anew = λ why is. absurd (not_ready n is);
  handles_evidence = λ is. absurd (not_ready n is);
}

service_backed : TapeBacksSteps pending pending issuing (answer ∷ [])
service_backed = record { disks_tell_sectors_is_same = refl; new_entries = []; tape_is = refl; tells_device_steps = (tt, λ d. d); steps_are_faithful = λ _. (tt, tt); plugged_disks_match_steps = λ port. ([], unchanged pending port, refl) }

service_ties : CallCorresponds (Any ∷ Any ∷ []) pending_at service
service_ties = record {
  accesses = [];
  accesses_are_explained = (refl, All-nil (UsesPortsAndNotGhc (IsServedAndNotDead dead)));
  is_backed = service_backed;
  is_evidenced = record { faults_are_told = λ f here. absurd (nowhere f here); each_port_is_evidenced = λ port. service_evidenced port.0 };
  only_failed_requeue_if_service = tt;
  issues_all_due = λ port is. absurd (not_ready port.0 is);
  ports_correspond = λ port. service_part port.0;
  invariant_holds = (first_slots, holds_dead answered knows_kept (λ n ne e here. absurd (nowhere e here)) kept_first);
}

pub death_is_a_history : StuckResetIsAHistory
unfolding reset_ties service_ties
death_is_a_history = record {
  initial_state = first;
  submit = submit;
  asked = asked;
  submits = (refl, refl);
  reset = reset;
  resets = (refl, refl);
  both_become_dead = (refl, refl);
  service = service;
  service_replies_port_dead = (refl, refl);
  history = (((((starts, fit_ready plain_disks), begins plain_disks), submit_happens, submit_ties), reset_happens, reset_ties), service_happens, service_ties);
  kept = waiting;
  read_is_kept = ((0, omega arith, refl), refl);
  accesses = (refl, refl);
  reset_corresponds = λ port. reset_part port.0;
  service_corresponds = λ port. service_part port.0;
}
