-- The service that answers the read and loses the other disk meets all that is asked of it.
use Rattle.adapter.specs.declared.command.Operation.TheVariants as operation
use Rattle.adapter.specs.FirstRead.{first_disk_sector}
use Rattle.adapter.specs.Steps.{move_of, done_entry}
use Rattle.std.proofs.Common.{ℕ, zero, suc, ◌≡◌, ◌≢◌, ◌∙◌, true, false, List, [], ◌∷◌, inl, inr, ⊎_elim, refl, sym, ap, arith, ◌⊎◌, ◌++◌}
use Rattle.std.proofs.lemmas.Bool.{true≢false}
use Rattle.std.specs.List.{Contains, All}
use Rattle.std.proofs.lemmas.List.Elements.{All-nil, All-cons, All-contains}
use Rattle.ata_types.specs.declared.Port.{Port}
use Rattle.ata_types.specs.declared.PortState.TheVariants.{Absent, Ready, Unfit, Dead}
use Rattle.ata_types.specs.declared.request.Op.TheVariants.{Read, Write}
use Rattle.ata_types.specs.declared.request.Outcome.TheVariants as outcome
use Rattle.adapter.specs.Device.{Device}
use Rattle.adapter.specs.declared.tape.Entry.TheVariants as entry
use Rattle.refinement.specs.Relation.{port_at}
use Rattle.refinement.specs.Driver.{TapeBacksSteps}
use Rattle.refinement.specs.ReadWitness.{first_id}
use Rattle.block_machine.specs.Histories.{JointEvent}
use Rattle.block_machine.specs.Events.{ShownDiskWasInOrCame, Happens, Service, Replied}
use Rattle.block_machine.specs.Ports.{PortsWellFormed, IsStoppedOrStuck, MayBecomeInService, SamePort}
use Rattle.block_machine.specs.State.{Pending}
use Rattle.block_machine.specs.Steps.{Step, End, Answer, Unplug}
use Rattle.identify.specs.declared.wanted.Wanted.TheVariants.{Any}
use Rattle.std.proofs.lemmas.List.Sorted.{IsPermutation-refl}
use Rattle.ata_types.specs.declared.request.Outcome.{Outcome}
use Rattle.ata_types.specs.declared.request.Reply.{Reply}
use Rattle.hba_regs.specs.declared.reg.Reg.TheVariants.{Px}
use Rattle.hba_regs.specs.declared.reg.PortReg.TheVariants.{Cmd, Ssts, Serr}
use Rattle.adapter.specs.Access.{Access}
use Rattle.adapter.specs.Access.Access.{Reading, Writing}
use Rattle.adapter.specs.declared.access.DeviceStep.{DeviceStep}
use Rattle.refinement.specs.PreservedParts.{IsPlugEvent}
use Rattle.error_recovery.specs.Evidence.{ShowsFatal}
use Rattle.driver_history.specs.EvidenceHandling.{ServicesReadyPort}
use Rattle.driver_history.specs.Evidence.{TapeGainsEntry, IsEvidencedOf, ShowedLinkChangeOrNoDeviceAndNoneCame, ShowsFailure}
use Rattle.driver_history.specs.Histories.{FindsDone, IsIssuedOn, CallCorresponds, PortCorresponds, BootsAnewWhereRequired, LosesNoPortError, RunsWellAnew, IsServedAndNotDead}
use Rattle.driver_history.specs.AccessTrace.{DoesNotWriteCmd}
use Rattle.port_control.specs.Engines.{Stops}
use Rattle.witnesses.specs.Loss.{completing_turn, losing_turn, port_1_loss_evidence, LossIsAHistory}
use Rattle.witnesses.proofs.history.Holding.{IsUnnamed, named, named_is, no_slots, tries_ready, unnamed_evidenced, IsCalm, no_trouble}
use Rattle.witnesses.proofs.history.Command.{read_memory}
use Rattle.witnesses.proofs.history.Devices.{does_append, IsOf, leaves, no_bit, serving, WritesOf, AreServing}
use Rattle.witnesses.proofs.history.Submitting.{issued, submitted, command}
use Rattle.witnesses.proofs.history.Accepting.{asked, both, first, in_book, issuing, submit, submit_happens, submit_parts, submit_ties, submitted_at, waiting, no_flags, none_there, not_ended}
use Rattle.witnesses.proofs.history.Pages.{plain_disks}
use Rattle.witnesses.proofs.history.Ready.{begins, calm, fit_ready, not_dead, served_ready, starts}
use Rattle.witnesses.proofs.history.Losing.{finding_allowed, losing_allowed, between, finds, loses, lost}
use Rattle.witnesses.proofs.history.Memory.{tells}
use Rattle.witnesses.proofs.history.Lost.{all_touched, ended, gained, holds_lost, lost_at, one, service_steps, touched, touching}
use Rattle.witnesses.proofs.history.Members.{nowhere}

-- ---- ports

fit_one : PortsWellFormed one
fit_one = record {
  served_are_ports_0_to_3 = (fit_ready plain_disks).served_are_ports_0_to_3;
  unserved_are_absent = λ port is. absent_of port.0 is;
  modes_are_valid = λ port is. (omega arith, omega arith, λ _. refl);
  causes_are_valid = λ port cause is. absurd (no_cause port.0 cause is);
}
  where
    absent_of : (n : ℕ) → one.served (port_at n) ≡ false → one.state (port_at n) ≡ Absent
    absent_of zero is = absurd (true≢false is)
    absent_of (suc zero) is = refl
    absent_of (suc (suc n)) is = refl

    no_cause : (n cause : ℕ) → one.state (port_at n) ≡ Unfit cause → ⊥
    no_cause zero cause is = let x : Ready ≡ Unfit cause = is in cc
    no_cause (suc zero) cause is = let x : Absent ≡ Unfit cause = is in cc
    no_cause (suc (suc n)) cause is = let x : Absent ≡ Unfit cause = is in cc

not_dead_then : (n : ℕ) → one.state (port_at n) ≡ Dead → ⊥
not_dead_then zero is = let x : Ready ≡ Dead = is in cc
not_dead_then (suc zero) is = let x : Absent ≡ Dead = is in cc
not_dead_then (suc (suc n)) is = let x : Absent ≡ Dead = is in cc

-- ---- the service

abbrev reply : Reply
reply = record { id = first_id; client = asked.client; outcome = outcome.Ok }

abbrev service : JointEvent Device DeviceStep
service = record {
  event = record { call = Service; result = Replied (reply ∷ []); evidence = port_1_loss_evidence; steps = service_steps; ports = one };
  device = lost;
}

abbrev turns : List Access
turns = completing_turn ++ losing_turn

answer_here : Contains service_steps (Answer ended outcome.Ok)
answer_here = (1, omega arith, refl)

-- it is the one answer
only_ok : (e : Pending) (o : Outcome) → Contains service_steps (Answer e o) → o ≡ outcome.Ok
only_ok e o here =
    All-contains IsOk service_steps (Answer e o)
    (All-cons IsOk (Unplug (port_at 1)) (Answer ended outcome.Ok ∷ End touched ∷ touching ∷ []) (λ e o same. absurd cc)
    (All-cons IsOk (Answer ended outcome.Ok) (End touched ∷ touching ∷ []) (λ e o same. cc)
    (All-cons IsOk (End touched) (touching ∷ []) (λ e o same. absurd cc)
    (All-cons IsOk touching [] (λ e o same. absurd cc) (All-nil IsOk)))))
    here e o refl
  where
    IsOk : Step → Type 0
    IsOk step = (e : Pending) (o : Outcome) → step ≡ Answer e o → o ≡ outcome.Ok

not_unplugged : (e : Pending) → Contains service_steps (Answer e outcome.Unplugged) → ⊥
not_unplugged e here = let x : outcome.Unplugged ≡ outcome.Ok = only_ok e outcome.Unplugged here in cc

becomes : (n : ℕ) → MayBecomeInService both port_1_loss_evidence one (port_at n)
becomes n = (
  λ is. absurd (not_dead n is),
  λ _. (
    record {
      served_is_unchanged = refl;
      dead_exactly_if_stuck = (λ is. absurd (not_dead_then n is), λ h. absurd (nowhere (port_at n) h));
      disk_is_remembered_unless_ready = λ is. (refl, refl);
    },
    changes n,
  ),
)
  where
    changes : (n : ℕ) → SamePort both one (port_at n) ⊎ IsStoppedOrStuck port_1_loss_evidence (port_at n)
    changes zero = inl (refl, refl, refl, refl, refl, refl)
    changes (suc zero) = inr (inl (named 1))
    changes (suc (suc n)) = inl (refl, refl, refl, refl, refl, refl)

had_disk : (n : ℕ) → SamePort both one (port_at n) ⊎ ShownDiskWasInOrCame submitted_at.abstract service_steps lost_at.abstract (port_at n)
had_disk zero = inl (refl, refl, refl, refl, refl, refl)
had_disk (suc zero) = inr (λ shows. absurd shows)
had_disk (suc (suc n)) = inl (refl, refl, refl, refl, refl, refl)

service_backed : TapeBacksSteps submitted lost issuing service_steps
service_backed = record {
  disks_tell_sectors_is_same = refl;
  new_entries = gained;
  tape_is = refl;
  tells_device_steps = (
    [],
    touching ∷ [],
    Unplug (port_at 1) ∷ Answer ended outcome.Ok ∷ End touched ∷ [],
    tt,
    record {
      pending = waiting;
      may_still_move = inl ((0, omega arith, refl), refl);
      port_is = refl;
      op_is = refl;
      sector_number = 0;
      number_is_in_range = omega arith;
      sector_is = refl;
      place_is = refl;
      direction_is = refl;
      frame_is_lent = refl;
      step_is = refl;
    },
    (
      [],
      End touched ∷ [],
      Unplug (port_at 1) ∷ Answer ended outcome.Ok ∷ [],
      tt,
      record { pending = touched; may_still_move = inl ((0, omega arith, refl), refl); port_is = refl; op_is = refl; step_is = refl },
      (Answer ended outcome.Ok ∷ [], Unplug (port_at 1) ∷ [], [], (tt, λ d. d), refl, tt, refl),
      refl,
    ),
    refl,
  );
  steps_are_faithful = λ _. ((((tt, λ _ b low. tells 100 b low), tt), tt), tt);
  plugged_disks_match_steps = λ port. ([], plugs port, refl);
}
  where
    plugs : (n : ℕ) → (lost.port n).plug_history ≡ (submitted.port n).plug_history ++ []
    plugs zero = refl
    plugs (suc zero) = refl
    plugs (suc (suc n)) = refl

-- ---- what stands behind the evidence

stops : Stops (port_at 1) turns
stops = record {
  before = completing_turn ++ Reading (Px (port_at 1) Ssts) 0 ∷ Reading (Px (port_at 1) Cmd) 0xc011 ∷ [];
  written_cmd = 0xc010;
  between = [];
  read_cmd = 0x4010;
  later = Writing (Px (port_at 1) Serr) 0xffffffff ∷ Reading (Px (port_at 1) Ssts) 0 ∷ [];
  accesses_are = refl;
  start_is_cleared = refl;
  cmd_is_unwritten = All-nil (DoesNotWriteCmd (port_at 1));
  stop_is_shown = refl;
}

of_second : WritesOf (IsOf (port_at 1)) turns
of_second = (refl, (refl, tt))

of_served : AreServing (IsServedAndNotDead both) turns
of_served = (tended 0 refl, (tended 0 refl, (tended 1 refl, (tended 1 refl, ((λ is. cc, tended 1 refl), (tended 1 refl, ((λ is. cc, tended 1 refl), (tended 1 refl, tt))))))))
  where
    tended : (n : ℕ) → both.served (port_at n) ≡ true → IsServedAndNotDead both (port_at n)
    tended n served = (served, not_dead n)

gains : TapeGainsEntry (IsPlugEvent 1) submitted lost
gains = record {
  new_entries = gained;
  tape_is = refl;
  entry = entry.Unplug (port_at 1);
  entry_is_new = (2, omega arith, refl);
  entry_is_of_kind = refl;
}

-- a port but for the second one isn't named
unnamed : (n : ℕ) → n ≢ 1 → IsUnnamed port_1_loss_evidence (port_at n)
unnamed n ne = record {
  lost = λ h. ne (named_is 1 n h);
  gone = λ h. ne (named_is 1 n h);
  failed = nowhere (port_at n);
  fatal = nowhere (port_at n);
  stopped = λ h. ne (named_is 1 n h);
  stuck = nowhere (port_at n);
}

apart_evidenced : (n : ℕ) → n ≢ 1 → IsEvidencedOf Service (Replied (reply ∷ [])) turns submitted_at one lost port_1_loss_evidence (port_at n)
apart_evidenced n ne = unnamed_evidenced Service (Replied (reply ∷ [])) turns submitted_at one lost port_1_loss_evidence (port_at n) (unnamed n ne)
    (calm submitted.tape read_memory issued refl refl refl (λ place from. refl) lost n)
    (leaves (IsOf (port_at 1)) (port_at n) (λ is. ne (ap (λ (p : Port). p.0) is)) (λ is. ne (ap (λ (p : Port). p.0) is)) turns of_second)

service_evidenced : (n : ℕ) → IsEvidencedOf Service (Replied (reply ∷ [])) turns submitted_at one lost port_1_loss_evidence (port_at n)
service_evidenced zero = apart_evidenced 0 (omega arith)
service_evidenced (suc zero) =
    let quiet = calm submitted.tape read_memory issued refl refl refl (λ place from. refl) lost 1 refl in
    record {
      named_lost_showed_loss_or_changed = λ h. inr (inr (inl gains));
      shown_loss_of_ready_is_named = λ is loss. named 1;
      named_link_changed_had_change_or_no_device = λ h. (refl, inr (inr gains));
      shown_failure_of_ready_is_named = λ is f. absurd (quiet.1 f);
      named_showing_error_had_error = λ h. absurd (nowhere (port_at 1) h);
      shown_fatal_of_ready_is_named = λ is f. absurd (quiet.1 (inl f));
      named_showing_fatal_had_fatal = λ h. absurd (nowhere (port_at 1) h);
      engine_is_left_or_stopped = inr (inl (named 1));
      named_stopped_was_stopped_or_reset = λ h. inl stops;
      stuck_only = λ h. absurd (nowhere (port_at 1) h);
    }
service_evidenced (suc (suc n)) = apart_evidenced (suc (suc n)) (omega arith)

-- ---- each port's part

done_there : FindsDone (port_at 0) turns submitted_at service_steps
done_there = record {
  ci = 0;
  sact = 0;
  reads = record { before = []; later = losing_turn; accesses_are_split = refl; cmd_is_unwritten_before = All-nil (DoesNotWriteCmd (port_at 0)) };
  answered_iff_done = λ e slot on s. (λ ok. (no_bit slot, no_bit slot), λ clear. (ended, sym (ap (λ (x : Pending). x.request) (in_book 0 e on.is_in_book)), answer_here));
}

service_finds : (n : ℕ) (e : Pending) → IsIssuedOn (port_at n) issuing e → FindsDone (port_at n) turns submitted_at service_steps
service_finds zero e on = done_there
service_finds (suc n) e on = absurd (none_there 0 n e on)

heeds : (n : ℕ) → both.state (port_at n) ≡ Ready → ServicesReadyPort submitted_at.abstract port_1_loss_evidence service_steps lost_at.abstract (port_at n)
heeds zero is = record {
  answers_ok_what_had_ended = λ e here at_port done. absurd (not_ended 0 e here done);
  link_change_leaves_none = λ g e here. absurd (nowhere e here);
  link_change_tells_alike = λ g. absurd ((unnamed 0 (omega arith)).gone g);
  trouble_stops_or_sticks = λ why. absurd (⊎_elim (nowhere (port_at 0)) (unnamed 0 (omega arith)).gone why);
  error_or_stop_leaves_no_old_issue = λ why e here. absurd (nowhere e here);
  one_fault_at_most = omega arith;
  fatal_tells_no_fault = λ h. absurd (nowhere (port_at 0) h);
  shown_disk_was_in_or_came = λ shows. inl refl;
  is_left_alone_if_calm = inr (record {
    port_is_same = (refl, refl, refl, refl, refl, refl);
    only_ok_is_told = λ e o here at_port. inl (only_ok e o here);
    is_neither_stopped_nor_stuck = λ why. ⊎_elim (unnamed 0 (omega arith)).stopped (nowhere (port_at 0)) why;
  });
}
heeds (suc zero) is = record {
  answers_ok_what_had_ended = λ e here at_port done. absurd (not_ended 0 e here done);
  link_change_leaves_none = λ g e here. absurd (nowhere e here);
  link_change_tells_alike = λ g. inl (λ e o here at_port. inl (only_ok e o here));
  trouble_stops_or_sticks = λ why. inl (named 1);
  error_or_stop_leaves_no_old_issue = λ why e here. absurd (nowhere e here);
  one_fault_at_most = omega arith;
  fatal_tells_no_fault = λ h. absurd (nowhere (port_at 1) h);
  shown_disk_was_in_or_came = λ shows. absurd shows;
  is_left_alone_if_calm = inl (inr (inl (named 1)));
}
heeds (suc (suc n)) is = absurd (let x : Absent ≡ Ready = is in cc)

quiet : (n : ℕ) → both.state (port_at n) ≡ Ready → (ShowedLinkChangeOrNoDeviceAndNoneCame (port_at n) submitted lost → ⊥) × (ShowsFailure (submitted.port n) → ⊥)
quiet = calm submitted.tape read_memory issued refl refl refl (λ place from. refl) lost

not_shown : (n : ℕ) → both.state (port_at n) ≡ Ready → ShowsFatal (submitted.port n) ⊎ ShowedLinkChangeOrNoDeviceAndNoneCame (port_at n) submitted lost → ⊥
not_shown n is f = ⊎_elim (λ fatal. (quiet n is).1 (inl fatal)) (quiet n is).0 f

service_boots : (n : ℕ) → BootsAnewWhereRequired Service (Replied (reply ∷ [])) turns submitted_at one lost (port_at n)
service_boots zero = (λ is f. absurd (not_shown 0 is f), inl (refl, refl, refl, refl, refl, refl))
service_boots (suc zero) = (λ is f. absurd (not_shown 1 is f), inr (inr (inl refl)))
service_boots (suc (suc n)) = (λ is f. absurd (not_shown (suc (suc n)) is f), inl (refl, refl, refl, refl, refl, refl))

-- what the tape has gained is no trouble of another port than the second
gained_calm : (n : ℕ) → n ≢ 1 → All (IsCalm n) gained
gained_calm n ne =
    All-cons (IsCalm n) (entry.Move (move_of 0 0 command (first_disk_sector 100))) (done_entry 0 0 operation.Read ∷ entry.Unplug (port_at 1) ∷ []) (λ x. x, λ x. x, λ x. x)
    (All-cons (IsCalm n) (done_entry 0 0 operation.Read) (entry.Unplug (port_at 1) ∷ []) (λ x. x, λ x. x, λ x. x)
    (All-cons (IsCalm n) (entry.Unplug (port_at 1)) [] (λ x. x, λ x. x, λ (is : 1 ≡ n). ne (sym is)) (All-nil (IsCalm n))))

port_error : (n : ℕ) → LosesNoPortError port_1_loss_evidence submitted_at one lost (port_at n)
port_error zero = no_trouble port_1_loss_evidence submitted_at one lost (port_at 0) gained refl (gained_calm 0 (omega arith)) (served_ready 0) (quiet 0)
port_error (suc zero) = record {
  ready_errors_are_handled_or_shown = λ ready why. inl (inl (named 1));
  changes_are_handled_or_shown_unless_dead = λ tends why. inl (inl (named 1));
  ready_shows_fault_since_start = λ ready. absurd (let x : Absent ≡ Ready = ready in cc);
  ready_shows_fatal_since_start = λ ready. absurd (let x : Absent ≡ Ready = ready in cc);
  ready_shows_plug_event_since_start = λ ready. absurd (let x : Absent ≡ Ready = ready in cc);
}
port_error (suc (suc n)) = no_trouble port_1_loss_evidence submitted_at one lost (port_at (suc (suc n))) gained refl (gained_calm (suc (suc n)) (omega arith)) (served_ready (suc (suc n))) (quiet (suc (suc n)))

-- the port that was stopped isn't ready, and no other was stopped
well : (n : ℕ) → RunsWellAnew port_1_loss_evidence turns submitted_at one lost (port_at n)
well zero = λ why. absurd (⊎_elim (unnamed 0 (omega arith)).stopped (unnamed 0 (omega arith)).stuck why)
well (suc zero) = λ why ready. absurd (let x : Absent ≡ Ready = ready in cc)
well (suc (suc n)) = λ why. absurd (⊎_elim (unnamed (suc (suc n)) (omega arith)).stopped (unnamed (suc (suc n)) (omega arith)).stuck why)

service_happens : Happens submitted_at.abstract service.event
service_happens = record {
  steps_are_enabled = (
    (
      (
        (tt, (inl ((0, omega arith, refl), refl), omega arith, refl, omega arith, λ e. absurd (let x : Read ≡ Write = e in cc))),
        (inl ((0, omega arith, refl), refl), all_touched, refl),
      ),
      ((0, omega arith, refl), tt),
    ),
    refl,
  );
  steps_are_of_call = ((((tt, inl tt), inl tt), inr tt), inl tt);
  issue_is_last_of_request = ((((tt, λ id h is. absurd (true≢false (sym is))), λ id h is. absurd (true≢false (sym is))), λ id h is. absurd (true≢false (sym is))), λ id h is. absurd (true≢false (sym is)));
  answers_are_lawful = (tt, (record { pending = waiting; is_in_book = (0, omega arith, refl); id_is = refl; issued = refl }, refl, all_touched, refl));
  ports_are_well_formed = fit_one;
  unanswered_keep_serial_and_size = λ e o here. absurd (nowhere e here);
  result_matches_steps = record {
    replies_match = record { answers = (ended, outcome.Ok) ∷ []; is_permutation = IsPermutation-refl _; ordered = λ i j d less low. absurd (omega (arith, less, low)); replies_are_of_answers = refl };
    dead_ports_tell_only_port_dead = λ e o here is. absurd (not_dead e.request.port.0 is);
    unplugged_outcome_empties_port = record { none_is_left = λ e other here. absurd (not_unplugged e here); none_is_told_dead = λ e other here. absurd (not_unplugged e here) };
    none_is_due_where_ready = λ port is r at_port due. absurd (nowhere r due.is_in_book);
    empty_unless_ready = λ port other e here. absurd (nowhere e here);
    answers_ok_what_had_ended = λ port is e here at_port done. absurd (not_ended 0 e here done);
    port_is_serviced = λ port. becomes port.0;
    shown_disk_was_in_or_came = λ port. had_disk port.0;
  };
}

service_part : (n : ℕ) → PortCorresponds submitted_at service turns (port_at n)
service_part n = record {
  finds_done = λ is e on. service_finds n e on;
  lone_plain_faults_are_told_unless_dead = λ alone. absurd (true≢false (sym alone.shows_only_tfes.tfes_is_set ∙ (no_flags n 30)));
  probes_disk = λ served none. tries_ready turns submitted_at one lost (port_at n) (served_ready n served);
  boots_anew = service_boots n;
  loses_no_error = port_error n;
  runs_well_anew = well n;
  handles_evidence = heeds n;
}

service_ties : CallCorresponds (Any ∷ Any ∷ []) submitted_at service
service_ties = record {
  accesses = turns;
  accesses_are_explained = (does_append completing_turn losing_turn submitted between lost finds loses, serving (IsServedAndNotDead both) turns of_served);
  is_backed = service_backed;
  is_evidenced = record { faults_are_told = λ f here. absurd (nowhere f here); each_port_is_evidenced = λ port. service_evidenced port.0 };
  only_failed_requeue_if_service = tt;
  issues_all_due = λ port is r here. absurd (nowhere r here);
  ports_correspond = λ port. service_part port.0;
  invariant_holds = (no_slots, holds_lost);
}

pub loss_is_a_history : LossIsAHistory
unfolding service_ties
loss_is_a_history = record {
  initial_state = first;
  ready = (refl, refl);
  submit = submit;
  asked = asked;
  asked_is_read = refl;
  submits = (refl, refl);
  service = service;
  service_replies_ok = (refl, refl);
  between = between;
  completing_turn_is_made = finds;
  completing_turn_is_allowed = finding_allowed;
  disk_1_is_in_between = refl;
  losing_turn_is_made = loses;
  losing_turn_is_allowed = losing_allowed;
  evidence = refl;
  port_0_stays_ready = refl;
  port_1_becomes_absent = refl;
  history = ((((starts, fit_ready plain_disks), begins plain_disks), submit_happens, submit_ties), service_happens, service_ties);
  accesses_are = refl;
  submit_corresponds = submit_parts;
  service_corresponds = λ port. service_part port.0;
}
