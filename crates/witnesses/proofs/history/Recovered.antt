-- What holds after that service, which tells the fault; and it meets all that is asked of it.
use Rattle.std.proofs.lemmas.Bool.{cases_eq, cond-false, ne_eqb, true≢false}
use Rattle.adapter.specs.declared.tape.Entry.{Entry}
use Rattle.std.proofs.lemmas.List.{append_cancel_left}
use Rattle.std.proofs.Common.{length, length-append, true, subst, ◌∙◌, ℕ, zero, suc, ◌≡◌, false, List, [], ◌∷◌, ◌++◌, inl, inr, ⊎_elim, refl, sym, ap, arith, ◌≢◌, Bool, not, ◌&&◌, ◌==◌}
use Rattle.std.specs.List.{Contains, All}
use Rattle.std.proofs.lemmas.List.Elements.{All-nil, All-cons}
use Rattle.std.proofs.lemmas.List.Sorted.{IsPermutation-refl}
use Rattle.ata_types.specs.declared.Port.{Port}
use Rattle.ata_types.specs.declared.PortState.TheVariants.{Absent, Ready}
use Rattle.ata_types.specs.declared.request.Outcome.TheVariants as outcome
use Rattle.ata_types.specs.declared.request.Reply.{Reply}
use Rattle.hba_regs.specs.Bits.{bit}
use Rattle.hba_regs.specs.declared.reg.Reg.TheVariants.{Px}
use Rattle.hba_regs.specs.declared.reg.PortReg.TheVariants.{Cmd, Tfd}
use Rattle.adapter.specs.Access.Access.{Reading}
use Rattle.adapter.specs.Device.{Device}
use Rattle.adapter.specs.Memory.{changed}
use Rattle.adapter.specs.declared.access.DeviceStep.{DeviceStep}
use Rattle.adapter.specs.declared.command.Operation.TheVariants.{Identify}
use Rattle.adapter.specs.declared.tape.Entry.TheVariants as entry
use Rattle.refinement.specs.Relation.{port_at}
use Rattle.refinement.specs.Acts.{driver_state_of_slots}
use Rattle.refinement.specs.Driver.{TapeBacksSteps, DriverRelation}
use Rattle.refinement.specs.Errors.{IsFatalEntryOf}
use Rattle.refinement.specs.PortFacts.{IsFaultOf, RunsWell}
use Rattle.refinement.specs.PreservedParts.{IsPlugEvent}
use Rattle.refinement.specs.Slots.{IsEmptySlot, IsMove}
use Rattle.refinement.specs.ReadWitness.{first_id}
use Rattle.block_machine.specs.Events.{Service, Replied, Happens}
use Rattle.block_machine.specs.Histories.{JointEvent, JointState}
use Rattle.block_machine.specs.Expected.{after}
use Rattle.block_machine.specs.State.{Pending, Machine}
use Rattle.block_machine.specs.Steps.{Step, Answer}
use Rattle.host_boot.specs.TakeOver.{wanted_of}
use Rattle.identify.specs.declared.wanted.Wanted.TheVariants.{Any}
use Rattle.error_recovery.specs.Evidence.{GainsSinceStart}
use Rattle.driver_history.specs.EvidenceHandling.{ServicesReadyPort}
use Rattle.driver_history.specs.Evidence.{TapeGainsEntry, IsEvidencedOf, ShowedLinkChangeOrNoDeviceAndNoneCame, ShowsFailure}
use Rattle.driver_history.specs.Histories.{CallCorresponds, PortCorresponds, FindsDone, IsAnsweredOk, IsIssuedOn, LosesNoPortError, RunsWellAnew, IsServedAndNotDead}
use Rattle.driver_history.specs.PortInvariants.{PortStateInvariant, DriverInvariantWith, IsReadyAt}
use Rattle.driver_history.specs.AccessTrace.{DoesNotWriteCmd}
use Rattle.port_control.specs.Engines.{Stops}
use Rattle.witnesses.specs.Recovery.{fault_evidence, stop_clear_and_restart_accesses, told_fault, RecoveryIsAHistory}
use Rattle.witnesses.specs.RunningAdapter.{port_or_empty, page_entry}
use Rattle.witnesses.proofs.history.Command.{read_memory}
use Rattle.witnesses.proofs.history.Devices.{IsOf, WritesOf, leaves, serving, AreServing}
use Rattle.witnesses.proofs.history.Finding.{stay_serviced}
use Rattle.witnesses.proofs.history.Holding.{IsUnnamed, fit_disk, named, named_is, no_slots, requests_none, runs_on, tries_ready, unnamed_evidenced, unserved_at, IsCalm, gained_none, no_trouble, ran_none}
use Rattle.witnesses.proofs.history.Memory.{past_driver}
use Rattle.witnesses.proofs.history.Submitting.{issued, second, submitted, pages}
use Rattle.witnesses.proofs.history.Accepting.{asked, both, first, issuing, submit, submit_happens, submit_parts, submit_ties, submitted_at, waiting, bits_set, leaves_other, no_flags, none_there, not_ended, the_answer}
use Rattle.witnesses.proofs.history.Pages.{plain_disks}
use Rattle.witnesses.proofs.history.Ready.{agreeing, begins, calm, fit_ready, free_apart, no_page, not_dead, other_page, second_ready, served_of, served_ready, starts}
use Rattle.witnesses.proofs.history.Recovering.{allowed, does, fault, from_fall, from_stop, recovered, started, tape_failed, told, until_stop}
use Rattle.witnesses.proofs.history.Members.{nowhere, only}

-- ---- the machine, and what holds

abbrev answer : Step
answer = Answer waiting (outcome.DeviceError 0x41 0x40)

abbrev answered : Machine
answered = after issuing (answer ∷ [])

abbrev recovered_at : JointState Device
recovered_at = record { device = recovered; abstract = record { machine = answered; ports = both } }

free : (n k : ℕ) → IsEmptySlot (port_or_empty (started ∷ second ∷ []) n) k
free zero k = record { is_not_issued = refl; is_not_taken = refl; unarmed = refl }
free (suc zero) k = record { is_not_issued = refl; is_not_taken = refl; unarmed = refl }
free (suc (suc n)) k = record { is_not_issued = refl; is_not_taken = refl; unarmed = refl }

present : (n : ℕ) → answered.present (port_at n) ≡ (port_or_empty (started ∷ second ∷ []) n).present
present zero = refl
present (suc zero) = refl
present (suc (suc n)) = refl

knows : DriverRelation answered (driver_state_of_slots no_slots recovered)
knows = agreeing answered no_slots tape_failed read_memory started second
    (record { own_first = refl; own_second = refl; disks = (refl, refl); present = present; ids = refl; sizes = refl; bytes = refl; lasting = (refl, refl); still = refl })
    free free_apart (λ f b from small. past_driver f b from) (λ n e may at_port. ⊎_elim (λ z. absurd (nowhere e z.0)) (λ z. absurd (nowhere e z)) may)

-- no page came after those of the two ports
unpaged : (port : ℕ) → All (λ e. IsMove port Identify e → ⊥) (entry.Fault fault ∷ [])
unpaged port = All-cons (λ e. IsMove port Identify e → ⊥) (entry.Fault fault) [] (λ x. x) (no_page port)

ready : IsReadyAt Any no_slots recovered_at (port_at 0)
unfolding changed
ready = record {
  adapter_is_on = record { ae_is_set = refl; no_reset = refl };
  engine_runs = runs_on 0 recovered refl refl refl refl refl (omega arith) refl refl refl;
  info = plain_disks.info;
  has_fit_disk = fit_disk plain_disks 0 recovered [] (page_entry plain_disks.page 1 ∷ entry.Fault fault ∷ []) refl refl refl refl (other_page plain_disks.page (entry.Fault fault ∷ []) (unpaged 0));
  shows_disk_info = record { serial = refl; sectors = refl; zeroes_after_trim_is = refl; mode = refl };
  slots_invariant = requests_none no_slots recovered_at (port_at 0) (both.mode (port_at 0)) (λ slot. refl) refl;
  none_is_quarantined = λ e k. absurd (nowhere e k);
}

port_recovered : (n : ℕ) → PortStateInvariant (wanted_of (Any ∷ Any ∷ []) n) no_slots recovered_at (port_at n) (both.served (port_at n)) (both.state (port_at n))
port_recovered zero = ready
port_recovered (suc zero) = second_ready plain_disks no_slots answered (entry.Fault fault ∷ []) read_memory started (unpaged 1) (λ slot. refl) refl refl
port_recovered (suc (suc n)) = unserved_at no_slots recovered_at (suc (suc n)) refl refl (record { all_are_free = λ slot. refl; none_is_parked = refl }) (λ e here. absurd (nowhere e here)) (λ e kept. absurd (nowhere e kept))

holds_recovered : DriverInvariantWith (Any ∷ Any ∷ []) no_slots recovered_at
holds_recovered = record {
  driver_relation = knows;
  served_iff_wanted_and_there = λ port low. served_of tape_failed read_memory (started ∷ second ∷ []) port.0;
  is_on_or_served_are_dead = inl (record { ae_is_set = refl; no_reset = refl });
  ports_hold = λ port low. port_recovered port.0;
}

-- ---- the call

abbrev replies : List Reply
replies = record { id = first_id; client = waiting.request.asked.client; outcome = outcome.DeviceError 0x41 0x40 } ∷ []

abbrev service : JointEvent Device DeviceStep
service = record {
  event = record { call = Service; result = Replied replies; evidence = fault_evidence; steps = answer ∷ []; ports = both };
  device = recovered;
}

stops : Stops (port_at 0) stop_clear_and_restart_accesses
stops = record {
  before = until_stop ++ Reading (Px (port_at 0) Cmd) 0xc011 ∷ [];
  written_cmd = 0xc010;
  between = [];
  read_cmd = 0x4010;
  later = from_fall;
  accesses_are = refl;
  start_is_cleared = refl;
  cmd_is_unwritten = All-nil (DoesNotWriteCmd (port_at 0));
  stop_is_shown = refl;
}

of_first : WritesOf (IsOf (port_at 0)) stop_clear_and_restart_accesses
of_first = (refl, (refl, (refl, (refl, tt))))

gains : TapeGainsEntry (IsFaultOf 0) submitted recovered
gains = record {
  new_entries = entry.Fault fault ∷ [];
  tape_is = refl;
  entry = entry.Fault fault;
  entry_is_new = (0, omega arith, refl);
  entry_is_of_kind = refl;
}

unnamed : (n : ℕ) → IsUnnamed fault_evidence (port_at (suc n))
unnamed n = record {
  lost = nowhere (port_at (suc n));
  gone = nowhere (port_at (suc n));
  failed = λ h. let same = named_is 0 (suc n) h in omega (arith, same);
  fatal = nowhere (port_at (suc n));
  stopped = λ h. let same = named_is 0 (suc n) h in omega (arith, same);
  stuck = nowhere (port_at (suc n));
}

of_served : AreServing (IsServedAndNotDead both) stop_clear_and_restart_accesses
of_served = (tended, (tended, (tended, (tended, ((λ is. cc, tended), (tended, ((λ is. cc, tended), ((λ is. cc, tended), (tended, (tended, ((λ is. cc, tended), tt)))))))))))
  where
    tended : IsServedAndNotDead both (port_at 0)
    tended = (refl, not_dead 0)

quiet : (n : ℕ) → both.state (port_at n) ≡ Ready → (ShowedLinkChangeOrNoDeviceAndNoneCame (port_at n) submitted recovered → ⊥) × (ShowsFailure (submitted.port n) → ⊥)
quiet = calm submitted.tape read_memory issued refl refl refl (λ place from. refl) recovered

evidenced_of : (n : ℕ) → IsEvidencedOf Service (Replied replies) stop_clear_and_restart_accesses submitted_at both recovered fault_evidence (port_at n)
evidenced_of zero = record {
  named_lost_showed_loss_or_changed = λ h. absurd (nowhere (port_at 0) h);
  shown_loss_of_ready_is_named = λ is loss. absurd ((quiet 0 is).0 loss);
  named_link_changed_had_change_or_no_device = λ h. absurd (nowhere (port_at 0) h);
  shown_failure_of_ready_is_named = λ is f. named 0;
  named_showing_error_had_error = λ h. (refl, inr (inl gains));
  shown_fatal_of_ready_is_named = λ is f. absurd ((quiet 0 is).1 (inl f));
  named_showing_fatal_had_fatal = λ h. absurd (nowhere (port_at 0) h);
  engine_is_left_or_stopped = inr (inl (named 0));
  named_stopped_was_stopped_or_reset = λ h. inl stops;
  stuck_only = λ h. absurd (nowhere (port_at 0) h);
}
evidenced_of (suc n) = unnamed_evidenced Service (Replied replies) stop_clear_and_restart_accesses submitted_at both recovered fault_evidence (port_at (suc n)) (unnamed n) (quiet (suc n))
    (leaves (IsOf (port_at 0)) (port_at (suc n)) (λ is. apart (ap (λ (p : Port). p.0) is)) (λ is. apart (ap (λ (p : Port). p.0) is)) stop_clear_and_restart_accesses of_first)
  where
    apart : suc n ≡ 0 → ⊥
    apart e = omega (arith, e)

-- no answer is Ok
none_ok : (e : Pending) → IsAnsweredOk e (answer ∷ []) → ⊥
none_ok e a = let same : Answer a.0 outcome.Ok ≡ answer = only answer (Answer a.0 outcome.Ok) a.2 in cc

finds : FindsDone (port_at 0) stop_clear_and_restart_accesses submitted_at (answer ∷ [])
finds = record {
  ci = 1;
  sact = 0;
  reads = record { before = []; later = Reading (Px (port_at 0) Tfd) 0x4041 ∷ from_stop; accesses_are_split = refl; cmd_is_unwritten_before = All-nil (DoesNotWriteCmd (port_at 0)) };
  answered_iff_done = λ e slot on s. (λ ok. absurd (none_ok e ok), λ clear. absurd (bits_set 0 issued refl (λ k. refl) (λ k. refl) e slot s clear.0));
}

service_finds : (n : ℕ) (e : Pending) → IsIssuedOn (port_at n) issuing e → FindsDone (port_at n) stop_clear_and_restart_accesses submitted_at (answer ∷ [])
service_finds zero e on = finds
service_finds (suc n) e on = absurd (none_there 0 n e on)

heeds : (n : ℕ) → both.state (port_at n) ≡ Ready → ServicesReadyPort submitted_at.abstract fault_evidence (answer ∷ []) recovered_at.abstract (port_at n)
heeds zero is = record {
  answers_ok_what_had_ended = λ e here at_port ended. absurd (not_ended 0 e here ended);
  link_change_leaves_none = λ g. absurd (nowhere (port_at 0) g);
  link_change_tells_alike = λ g. absurd (nowhere (port_at 0) g);
  trouble_stops_or_sticks = λ why. inl (named 0);
  error_or_stop_leaves_no_old_issue = λ why e here. absurd (nowhere e here);
  one_fault_at_most = omega arith;
  fatal_tells_no_fault = λ h. absurd (nowhere (port_at 0) h);
  shown_disk_was_in_or_came = λ shows. inl refl;
  is_left_alone_if_calm = inl (inl (named 0));
}
heeds (suc zero) is = leaves_other (outcome.DeviceError 0x41 0x40) fault_evidence recovered_at.abstract (unnamed 0) (omega arith) (refl, refl, refl, refl, refl, refl)
heeds (suc (suc n)) is = absurd (let x : Absent ≡ Ready = is in cc)

-- the fault is the one entry that the tape has gained
fault_alone : (n : ℕ) → n ≢ 0 → All (IsCalm n) (entry.Fault fault ∷ [])
fault_alone n ne = All-cons (IsCalm n) (entry.Fault fault) [] (λ (is : 0 ≡ n). ne (sym is), λ x. x, λ x. x) (All-nil (IsCalm n))

-- it came before ST was set again
too_early : GainsSinceStart (IsFaultOf 0) 0 submitted recovered → ⊥
too_early g =
    let same : g.before ++ (g.entry ∷ g.later) ≡ entry.Fault fault ∷ [] = append_cancel_left pages (g.before ++ (g.entry ∷ g.later)) (entry.Fault fault ∷ []) (sym g.tape_grows) in
    let long : length (g.before ++ (g.entry ∷ g.later)) ≡ 1 = ap (λ (es : List Entry). length es) same in
    let parts = length-append g.before (g.entry ∷ g.later) in
    let since = g.came_since_start in
    omega (arith, since, long, parts)

port_error : (n : ℕ) → LosesNoPortError fault_evidence submitted_at both recovered (port_at n)
port_error zero = record {
  ready_errors_are_handled_or_shown = λ ready why. inl (inl (named 0));
  changes_are_handled_or_shown_unless_dead = λ tends why. inl (inl (named 0));
  ready_shows_fault_since_start = λ ready g. absurd (too_early g);
  ready_shows_fatal_since_start = λ ready g. absurd (ran_none (IsFatalEntryOf 0) 0 submitted recovered (gained_none (IsFatalEntryOf 0) submitted recovered (entry.Fault fault ∷ []) refl (All-cons (λ e. IsFatalEntryOf 0 e → ⊥) (entry.Fault fault) [] (λ x. x) (All-nil (λ e. IsFatalEntryOf 0 e → ⊥)))) g);
  ready_shows_plug_event_since_start = λ ready g. absurd (ran_none (IsPlugEvent 0) 0 submitted recovered (gained_none (IsPlugEvent 0) submitted recovered (entry.Fault fault ∷ []) refl (All-cons (λ e. IsPlugEvent 0 e → ⊥) (entry.Fault fault) [] (λ x. x) (All-nil (λ e. IsPlugEvent 0 e → ⊥)))) g);
}
port_error (suc n) = no_trouble fault_evidence submitted_at both recovered (port_at (suc n)) (entry.Fault fault ∷ []) refl (fault_alone (suc n) (omega arith)) (served_ready (suc n)) (quiet (suc n))

-- the bits of PxIS are clear again
quiet_again : (place : ℕ) → started.is place ≡ false
unfolding changed
quiet_again place = ⊎_elim
    (λ (same : place ≡ 30). subst (λ (k : ℕ). started.is k ≡ false) (sym same) refl)
    (λ (ne : place ≢ 30). ap (λ (b : Bool). b && not (bit 0xffffffff place)) (cond-false (place == 30) true false (ne_eqb place 30 ne)))
    (cases_eq place 30)

runs_well : RunsWell started
runs_well = record {
  st_is_set = refl;
  cr_is_set = refl;
  det_is_3 = refl;
  present = refl;
  fresh = refl;
  no_link_is_due = refl;
  is_not_halted = refl;
  is_not_broken = refl;
  shows_no_trouble = record { serr_n_is_clear = refl; serr_x_is_clear = refl; bits_27_to_30_are_clear = λ place from to. quiet_again place };
}

-- its fault came before ST was set again: port 0 runs well; and no other port was stopped
well : (n : ℕ) → RunsWellAnew fault_evidence stop_clear_and_restart_accesses submitted_at both recovered (port_at n)
well zero = λ why ready plugs unfailed unbroken how. runs_well
well (suc n) = λ why. absurd (⊎_elim (unnamed n).stopped (unnamed n).stuck why)

part_of : (n : ℕ) → PortCorresponds submitted_at service stop_clear_and_restart_accesses (port_at n)
part_of n = record {
  finds_done = λ is e on. service_finds n e on;
  lone_plain_faults_are_told_unless_dead = λ alone. absurd (true≢false (sym alone.shows_only_tfes.tfes_is_set ∙ (no_flags n 30)));
  probes_disk = λ served none. tries_ready stop_clear_and_restart_accesses submitted_at both recovered (port_at n) (served_ready n served);
  boots_anew = (λ is f. absurd (⊎_elim (λ fatal. (quiet n is).1 (inl fatal)) (quiet n is).0 f), inl (refl, refl, refl, refl, refl, refl));
  loses_no_error = port_error n;
  runs_well_anew = well n;
  handles_evidence = heeds n;
}

backed : TapeBacksSteps submitted recovered issuing (answer ∷ [])
backed = record {
  disks_tell_sectors_is_same = refl;
  new_entries = entry.Fault fault ∷ [];
  tape_is = refl;
  tells_device_steps = ([], [], answer ∷ [], tt, refl, (tt, λ d. d), refl);
  steps_are_faithful = λ _. (tt, tt);
  plugged_disks_match_steps = λ port. ([], plugs port, refl);
}
  where
    plugs : (n : ℕ) → (recovered.port n).plug_history ≡ (submitted.port n).plug_history ++ []
    plugs zero = refl
    plugs (suc zero) = refl
    plugs (suc (suc n)) = refl

unplugged_not : (e : Pending) → Contains (answer ∷ []) (Answer e outcome.Unplugged) → ⊥
unplugged_not e here = let x : outcome.Unplugged ≡ outcome.DeviceError 0x41 0x40 = (the_answer (outcome.DeviceError 0x41 0x40) e outcome.Unplugged here).1 in cc

happens : Happens submitted_at.abstract service.event
happens = record {
  steps_are_enabled = (tt, ((0, omega arith, refl), tt));
  steps_are_of_call = (tt, inr tt);
  issue_is_last_of_request = (tt, λ id is none. absurd (true≢false (sym none)));
  answers_are_lawful = (
    tt,
    (
      record { pending = waiting; is_in_book = (0, omega arith, refl); id_is = refl; issued = refl },
      refl,
      (0, omega arith, refl),
      named 0,
    ),
  );
  ports_are_well_formed = fit_ready plain_disks;
  unanswered_keep_serial_and_size = λ e o here. absurd (nowhere e here);
  result_matches_steps = record {
    replies_match = record { answers = (waiting, outcome.DeviceError 0x41 0x40) ∷ []; is_permutation = IsPermutation-refl _; ordered = λ i j d less low. absurd (omega (arith, less, low)); replies_are_of_answers = refl };
    dead_ports_tell_only_port_dead = λ e o here is. absurd (not_dead e.request.port.0 is);
    unplugged_outcome_empties_port = record { none_is_left = λ e other here. absurd (unplugged_not e here); none_is_told_dead = λ e other here. absurd (unplugged_not e here) };
    none_is_due_where_ready = λ port is r at_port due. absurd (nowhere r due.is_in_book);
    empty_unless_ready = λ port other e here. absurd (nowhere e here);
    answers_ok_what_had_ended = λ port is e here at_port done. absurd (not_ended 0 e here done);
    port_is_serviced = λ port. stay_serviced plain_disks fault_evidence port.0 (nowhere port);
    shown_disk_was_in_or_came = λ port. inl (refl, refl, refl, refl, refl, refl);
  };
}

ties : CallCorresponds (Any ∷ Any ∷ []) submitted_at service
ties = record {
  accesses = stop_clear_and_restart_accesses;
  accesses_are_explained = (does, serving (IsServedAndNotDead both) stop_clear_and_restart_accesses of_served);
  is_backed = backed;
  is_evidenced = record {
    faults_are_told = λ f here. told f (only told_fault f here);
    each_port_is_evidenced = λ port. evidenced_of port.0;
  };
  only_failed_requeue_if_service = (tt, named 0);
  issues_all_due = λ port is r here. absurd (nowhere r here);
  ports_correspond = λ port. part_of port.0;
  invariant_holds = (no_slots, holds_recovered);
}

pub recovery_ties : RecoveryIsAHistory
unfolding ties
recovery_ties = record {
  initial_state = first;
  submit = submit;
  asked = asked;
  asked_is_read = refl;
  submits = (refl, refl);
  ready = refl;
  service = service;
  service_replies_device_error = (refl, refl);
  evidence = refl;
  port_0_stays_ready = refl;
  port_runs_well = runs_well;
  service_makes_accesses = does;
  accesses_are_allowed = allowed;
  history = ((((starts, fit_ready plain_disks), begins plain_disks), submit_happens, submit_ties), happens, ties);
  accesses = refl;
  submit_corresponds = submit_parts;
  service_corresponds = λ port. part_of port.0;
}
