-- The service that restarts the port of the fatal error, and finds no ATA disk: it meets all that is asked of it.
use Rattle.std.proofs.Common.{ℕ, zero, suc, ◌≡◌, ◌∙◌, [], ◌∷◌, inl, inr, ⊎_elim, refl, sym, arith, ◌⊎◌}
use Rattle.std.proofs.lemmas.Bool.{true≢false}
use Rattle.std.proofs.lemmas.List.Elements.{All-from_recursion}
use Rattle.std.proofs.lemmas.List.Sorted.{IsPermutation-refl}
use Rattle.ata_types.specs.declared.PortState.TheVariants.{Absent, Ready}
use Rattle.ata_types.specs.declared.request.Outcome.TheVariants as outcome
use Rattle.adapter.specs.Device.{Device}
use Rattle.adapter.specs.declared.access.DeviceStep.{DeviceStep}
use Rattle.refinement.specs.Relation.{port_at}
use Rattle.block_machine.specs.Events.{ShownDiskWasInOrCame, Happens, Replied, Service}
use Rattle.block_machine.specs.Histories.{JointEvent}
use Rattle.block_machine.specs.Ports.{IsStoppedOrStuck, MayBecomeInService, SamePort}
use Rattle.block_machine.specs.State.{Pending}
use Rattle.block_machine.specs.Steps.{Step, Answer}
use Rattle.identify.specs.declared.wanted.Wanted.TheVariants.{Any}
use Rattle.driver_history.specs.EvidenceHandling.{ServicesReadyPort}
use Rattle.driver_history.specs.Histories.{BootsAnewWhereRequired, FindsDone, IsIssuedOn, IsServedAndNotDead, CallCorresponds, PortCorresponds}
use Rattle.driver_history.specs.AccessTrace.{DoesNotWriteCmd}
use Rattle.witnesses.specs.FatalError.{FatalErrorIsAHistory, fatal_accesses, fatal_evidence, port_0_look_accesses_showing_ifs}
use Rattle.witnesses.proofs.history.Accepting.{asked, both, first, issuing, submit, submit_happens, submit_parts, submit_ties, waiting, bits_set, leaves_other, none_there, not_ended, the_answer}
use Rattle.witnesses.proofs.history.Breaking.{allowed, broken, does, outset}
use Rattle.witnesses.proofs.history.Devices.{AreServing, serving}
use Rattle.witnesses.proofs.history.Holding.{named, named_is, no_slots, tries_ready}
use Rattle.witnesses.proofs.history.Meeting.{broken_at, meeting, meeting_happens, meeting_part, meeting_ties, no_fault, shows_fatal, unpaged}
use Rattle.witnesses.proofs.history.Members.{nowhere}
use Rattle.witnesses.proofs.history.Pages.{plain_disks}
use Rattle.witnesses.proofs.history.Ready.{begins, fit_ready, not_dead, served_ready, starts}
use Rattle.witnesses.proofs.history.Rebooted.{IsRestart, Restart, backed, booted_at, evidenced, fit_one, finds, holds_booted, may_become, of_first, of_served, one, others_same, quiet, replies, resets, there, port_error, unnamed, unplugs, well}
use Rattle.witnesses.proofs.history.Rebooted as rebooted

-- ---- the restart

abbrev answer : Step
answer = Answer waiting outcome.Unplugged

abbrev restart : Restart
restart = record {
  ask = Service;
  said = Replied replies;
  steps = answer ∷ [];
  machine = issuing;
  port = broken;
  looked = port_0_look_accesses_showing_ifs;
  outset = outset;
  failed = port_at 0 ∷ [];
}

abbrev booted : Device
booted = rebooted.booted outset

is_restart : IsRestart restart
is_restart = record {
  no_change = (refl, refl);
  device = refl;
  failed_all = λ f. named 0;
  failed_only = λ n h. (named_is 0 n h, shows_fatal);
  writes = (inl refl, (inr refl, of_first));
  running = All-from_recursion (DoesNotWriteCmd (port_at 0)) port_0_look_accesses_showing_ifs (tt, (λ is. cc, (λ is. cc, (tt, tt))));
  unfound = λ e slot s clear. bits_set 0 broken refl (λ k. refl) (λ k. refl) e slot s clear;
  told = λ e o here. (the_answer outcome.Unplugged e o here).1;
  own = ((tt, λ d. d), (tt, tt), λ n. refl);
  plugged = refl;
}

-- ---- the call

becomes : (n : ℕ) → MayBecomeInService both fatal_evidence one (port_at n)
becomes n = (λ is. absurd (not_dead n is), λ _. (may_become (port_at 0 ∷ []) n, changes n))
  where
    changes : (n : ℕ) → SamePort both one (port_at n) ⊎ IsStoppedOrStuck fatal_evidence (port_at n)
    changes zero = inr (inl (named 0))
    changes (suc n) = inl (others_same n)

had_disk : (n : ℕ) → SamePort both one (port_at n) ⊎ ShownDiskWasInOrCame broken_at.abstract (answer ∷ []) (booted_at outset).abstract (port_at n)
had_disk zero = inr (λ shows. inl refl)
had_disk (suc n) = inl (others_same n)

abbrev service : JointEvent Device DeviceStep
service = record {
  event = record { call = Service; result = Replied replies; evidence = fatal_evidence; steps = answer ∷ []; ports = one };
  device = booted;
}

of_tended : AreServing (IsServedAndNotDead both) fatal_accesses
of_tended = (tended, ((λ is. cc, tended), ((λ is. cc, tt), (tended, of_served (IsServedAndNotDead both) tended))))
  where
    tended : IsServedAndNotDead both (port_at 0)
    tended = (refl, not_dead 0)

-- ---- what it owes each port

heeds : (n : ℕ) → both.state (port_at n) ≡ Ready → ServicesReadyPort broken_at.abstract fatal_evidence (answer ∷ []) (booted_at outset).abstract (port_at n)
heeds zero is = record {
  answers_ok_what_had_ended = λ e here at_port ended. absurd (not_ended 0 e here ended);
  link_change_leaves_none = λ g. absurd (nowhere (port_at 0) g);
  link_change_tells_alike = λ g. absurd (nowhere (port_at 0) g);
  trouble_stops_or_sticks = λ why. inl (named 0);
  error_or_stop_leaves_no_old_issue = λ why e here. absurd (nowhere e here);
  one_fault_at_most = omega arith;
  fatal_tells_no_fault = λ h. (named 0, refl);
  shown_disk_was_in_or_came = λ shows. inl refl;
  is_left_alone_if_calm = inl (inl (named 0));
}
heeds (suc zero) is = leaves_other outcome.Unplugged fatal_evidence (booted_at outset).abstract (unnamed restart is_restart 0) (omega arith) (refl, refl, refl, refl, refl, refl)
heeds (suc (suc n)) is = absurd (let x : Absent ≡ Ready = is in cc)

boots : (n : ℕ) → BootsAnewWhereRequired Service (Replied replies) fatal_accesses broken_at one booted (port_at n)
boots zero = (λ is f. inr (inr (resets port_0_look_accesses_showing_ifs)), inr (inr (inr (resets port_0_look_accesses_showing_ifs))))
boots (suc zero) = (λ is f. absurd (⊎_elim (λ fatal. quiet restart is_restart 0 is (inl fatal)) (there restart is_restart 1 is) f), inl (refl, refl, refl, refl, refl, refl))
boots (suc (suc n)) = (λ is. absurd (let x : Absent ≡ Ready = is in cc), inl (refl, refl, refl, refl, refl, refl))

service_finds : (n : ℕ) (e : Pending) → IsIssuedOn (port_at n) issuing e → FindsDone (port_at n) fatal_accesses broken_at (answer ∷ [])
service_finds zero e on = finds restart is_restart
service_finds (suc n) e on = absurd (none_there 0 n e on)

happens : Happens broken_at.abstract service.event
happens = record {
  steps_are_enabled = (tt, ((0, omega arith, refl), tt));
  steps_are_of_call = (tt, inr tt);
  issue_is_last_of_request = (tt, λ id h is. absurd (true≢false (sym is)));
  answers_are_lawful = (tt, (named 0, named 0));
  ports_are_well_formed = fit_one;
  unanswered_keep_serial_and_size = λ e o here. absurd (nowhere e here);
  result_matches_steps = record {
    replies_match = record { answers = (waiting, outcome.Unplugged) ∷ []; is_permutation = IsPermutation-refl _; ordered = λ i j d less low. absurd (omega (arith, less, low)); replies_are_of_answers = refl };
    dead_ports_tell_only_port_dead = λ e o here is. absurd (not_dead e.request.port.0 is);
    unplugged_outcome_empties_port = unplugs restart is_restart;
    none_is_due_where_ready = λ port is r at_port due. absurd (nowhere r due.is_in_book);
    empty_unless_ready = λ port other e here. absurd (nowhere e here);
    answers_ok_what_had_ended = λ port is e here at_port done. absurd (not_ended 0 e here done);
    port_is_serviced = λ port. becomes port.0;
    shown_disk_was_in_or_came = λ port. had_disk port.0;
  };
}

part_of : (n : ℕ) → PortCorresponds broken_at service fatal_accesses (port_at n)
part_of n = record {
  finds_done = λ is e on. service_finds n e on;
  lone_plain_faults_are_told_unless_dead = λ alone. absurd (true≢false (sym alone.shows_only_tfes.tfes_is_set ∙ no_fault n));
  probes_disk = λ served none. tries_ready fatal_accesses broken_at one booted (port_at n) (served_ready n served);
  boots_anew = boots n;
  loses_no_error = port_error restart is_restart n;
  runs_well_anew = well restart is_restart n;
  handles_evidence = heeds n;
}

ties : CallCorresponds (Any ∷ Any ∷ []) broken_at service
ties = record {
  accesses = fatal_accesses;
  accesses_are_explained = (does, serving (IsServedAndNotDead both) fatal_accesses of_tended);
  is_backed = backed restart is_restart;
  is_evidenced = record { faults_are_told = λ f here. absurd (nowhere f here); each_port_is_evidenced = λ port. evidenced restart is_restart port.0 };
  only_failed_requeue_if_service = tt;
  issues_all_due = λ port is r here. absurd (nowhere r here);
  ports_correspond = λ port. part_of port.0;
  invariant_holds = (no_slots, holds_booted outset (unpaged 1));
}

pub fatal_error_is_a_history : FatalErrorIsAHistory
unfolding ties meeting_ties
fatal_error_is_a_history = record {
  initial_state = first;
  submit = submit;
  asked = asked;
  asked_is_read = refl;
  submits = (refl, refl);
  fatal_step = meeting;
  device_is_told = (refl, refl);
  shows = shows_fatal;
  ready = refl;
  service = service;
  service_replies_unplugged = (refl, refl);
  evidence = refl;
  unfit = refl;
  service_makes_accesses = does;
  accesses_are_allowed = allowed;
  history = (((((starts, fit_ready plain_disks), begins plain_disks), submit_happens, submit_ties), meeting_happens, meeting_ties), happens, ties);
  accesses = refl;
  submit_corresponds = submit_parts;
  fatal_step_corresponds = λ port. meeting_part port.0;
  service_corresponds = λ port. part_of port.0;
}
