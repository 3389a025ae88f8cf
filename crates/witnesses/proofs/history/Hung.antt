-- The third tick finds the port of the read hung, and restarts it, which finds no ATA disk: it meets all that is asked of it.
use Rattle.std.proofs.Common.{ℕ, zero, suc, ◌≡◌, ◌⊎◌, true, List, [], ◌∷◌, inl, inr, ⊎_elim, refl, sym, ap, subst, arith}
use Rattle.std.specs.List.{Contains}
use Rattle.std.proofs.lemmas.Bool.{true≢false}
use Rattle.std.proofs.lemmas.List.Elements.{All-nil}
use Rattle.std.proofs.lemmas.List.Sorted.{IsPermutation-refl}
use Rattle.ata_types.specs.declared.Port.{Port}
use Rattle.ata_types.specs.declared.PortState.TheVariants.{Ready}
use Rattle.ata_types.specs.declared.request.Outcome.{Outcome}
use Rattle.ata_types.specs.declared.request.Outcome.TheVariants as outcome
use Rattle.adapter.specs.Device.{Device}
use Rattle.adapter.specs.declared.access.DeviceStep.{DeviceStep}
use Rattle.refinement.specs.Relation.{port_at}
use Rattle.refinement.specs.PortFacts.{RunsWell}
use Rattle.block_machine.specs.Events.{Happens, TimesOutAtTick, RestartsTimedOut, Replied, Tick}
use Rattle.block_machine.specs.Histories.{JointEvent}
use Rattle.block_machine.specs.Ports.{IsStoppedOrStuck, MayBecome, SamePort}
use Rattle.block_machine.specs.State.{Pending}
use Rattle.block_machine.specs.Steps.{WaitAgain, Answer, Step}
use Rattle.identify.specs.declared.wanted.Wanted.TheVariants.{Any}
use Rattle.driver_history.specs.Histories.{BootsAnewWhereRequired, FindsDone, CallCorresponds, PortCorresponds}
use Rattle.driver_history.specs.AccessTrace.{DoesNotWriteCmd}
use Rattle.witnesses.specs.HungPort.{HungPortIsAHistory}
use Rattle.witnesses.specs.Restart.{port_0_lost_and_stopped_evidence, stop_and_comreset_accesses}
use Rattle.witnesses.proofs.history.Accepting.{asked, bits_set, both, first, issued_at, issued_for, not_ended, submit, submit_happens, submit_parts, submit_ties, waiting_for}
use Rattle.witnesses.proofs.history.Aging.{ages, ages_once, hung_at, hung_first, not_hung, tick, tick_happens, tick_part, tick_ties}
use Rattle.witnesses.proofs.history.Devices.{serving}
use Rattle.witnesses.proofs.history.Holding.{named, named_is, no_slots, unfailing}
use Rattle.witnesses.proofs.history.Members.{either, nowhere}
use Rattle.witnesses.proofs.history.Pages.{plain_disks}
use Rattle.witnesses.proofs.history.Ready.{begins, fit_ready, no_page, starts}
use Rattle.witnesses.proofs.history.Rebooted.{IsRestart, Restart, backed, booted_at, evidenced, finds, fit_one, holds_booted, may_become, not_dead_then, not_ready_then, of_first, of_served, one, others_same, replies, resets, port_error, unplugs, well}
use Rattle.witnesses.proofs.history.Rebooted as rebooted
use Rattle.witnesses.proofs.history.Restarting.{Outset, restart_allowed, restarts}
use Rattle.witnesses.proofs.history.Submitting.{issued, submitted}

-- ---- the restart

-- the port was as when the read was issued
abbrev outset : Outset
outset = record { new_entries = []; still = refl; flags = issued.is; broken = issued.broken; notes = issued.notes }

abbrev booted : Device
booted = rebooted.booted outset

abbrev answer : Step
answer = Answer (waiting_for 3) outcome.Unplugged

abbrev steps : List Step
steps = answer ∷ ages ∷ []

abbrev restart : Restart
restart = record {
  ask = Tick;
  said = Replied replies;
  steps = steps;
  machine = issued_for 2;
  port = issued;
  looked = [];
  outset = outset;
  failed = [];
}

-- there is one answer
the_answer : (e : Pending) (o : Outcome) → Contains steps (Answer e o) → (e ≡ waiting_for 3) × (o ≡ outcome.Unplugged)
the_answer e o here = ⊎_elim
    (λ (same : Answer e o ≡ answer). (cc, cc))
    (λ (same : Answer e o ≡ ages). absurd cc)
    (either answer ages (Answer e o) here)

-- no request waits again
unrepeated : (e : Pending) → Contains steps (WaitAgain e) → ⊥
unrepeated e here = ⊎_elim (λ (same : WaitAgain e ≡ answer). cc) (λ (same : WaitAgain e ≡ ages). cc) (either answer ages (WaitAgain e) here)

-- it is port 0's
answers_first : (e : Pending) (o : Outcome) → Contains steps (Answer e o) → e.request.port ≡ port_at 0
answers_first e o here = ap (λ (x : Pending). x.request.port) (the_answer e o here).0

is_restart : IsRestart restart
is_restart = record {
  no_change = (refl, refl);
  device = refl;
  failed_all = λ f. absurd (unfailing issued (λ place from. refl) f);
  failed_only = λ n h. absurd (nowhere (port_at n) h);
  writes = of_first;
  running = All-nil (DoesNotWriteCmd (port_at 0));
  unfound = λ e slot s clear. bits_set 2 issued refl (λ k. refl) (λ k. refl) e slot s clear;
  told = λ e o here. (the_answer e o here).1;
  own = (((tt, λ d. d), λ d. d), ((tt, tt), tt), λ n. refl);
  plugged = refl;
}

-- ---- the call

abbrev restarting_tick : JointEvent Device DeviceStep
restarting_tick = record {
  event = record { call = Tick; result = Replied replies; evidence = port_0_lost_and_stopped_evidence []; steps = steps; ports = one };
  device = booted;
}

hung : TimesOutAtTick (issued_at 2).abstract (port_at 0)
hung = hung_at 2 (omega arith)

-- what is of port 0 alone is of a hung port
is_hung : (port : Port) → port ≡ port_at 0 → TimesOutAtTick (issued_at 2).abstract port
is_hung port is = subst (TimesOutAtTick (issued_at 2).abstract) (sym is) hung

-- no other port is hung
other : (n : ℕ) → TimesOutAtTick (issued_at 2).abstract (port_at (suc n)) → ⊥
other n h = let same = ap (λ (p : Port). p.0) (hung_first 2 (port_at (suc n)) h) in omega (arith, same)

interrupted : (port : Port) → IsStoppedOrStuck (port_0_lost_and_stopped_evidence []) port → TimesOutAtTick (issued_at 2).abstract port
interrupted port (inl h) = is_hung port (ap port_at (named_is 0 port.0 h))
interrupted port (inr h) = absurd (nowhere port h)

-- it becomes what a restart may make of it, and the others stay as they are
becomes : (n : ℕ) → ((TimesOutAtTick (issued_at 2).abstract (port_at n) → ⊥) × SamePort both one (port_at n)) ⊎ (TimesOutAtTick (issued_at 2).abstract (port_at n) × MayBecome both (port_0_lost_and_stopped_evidence []) one (port_at n))
becomes zero = inr (hung, may_become [] 0)
becomes (suc n) = inl (other n, others_same n)

restarts_hung : RestartsTimedOut (issued_at 2).abstract (port_0_lost_and_stopped_evidence []) steps (booted_at outset).abstract
restarts_hung = record {
  each_port_is_same_or_restarts = λ port. becomes port.0;
  only_timed_out_wait_again = λ e here. absurd (unrepeated e here);
  only_timed_out_are_answered = λ e o here. is_hung e.request.port (answers_first e o here);
  answers_ok_what_had_ended = λ port h e here at_port ended. absurd (not_ended 2 e here ended);
  issued_are_issued_in_steps = λ port h e here. absurd (nowhere e here);
  timed_out_iff_stopped_or_stuck = λ port. (λ h. subst (IsStoppedOrStuck (port_0_lost_and_stopped_evidence [])) (sym (hung_first 2 port h)) (inl (named 0)), interrupted port);
  unplugged_lost_disk = λ e here. (not_dead_then e.request.port.0, λ ready. absurd (not_ready_first e.request.port (answers_first e outcome.Unplugged here) ready));
  shown_disk_was_in_or_came = λ port h shows. inl (subst (λ (p : Port). (issued_for 2).present p ≡ true) (sym (hung_first 2 port h)) refl);
}
  where
    not_ready_first : (port : Port) → port ≡ port_at 0 → one.state port ≡ Ready → ⊥
    not_ready_first port is ready = not_ready_then (subst (λ (p : Port). one.state p ≡ Ready) is ready)

happens : Happens (issued_at 2).abstract restarting_tick.event
happens = record {
  steps_are_enabled = ((tt, tt), ((0, omega arith, refl), tt));
  steps_are_of_call = ((tt, inr tt), inr (inl tt));
  issue_is_last_of_request = ((tt, λ id handled issued_in. absurd (true≢false (sym handled))), λ id handled issued_in. absurd (true≢false (sym issued_in)));
  answers_are_lawful = (tt, (named 0, named 0));
  ports_are_well_formed = fit_one;
  unanswered_keep_serial_and_size = λ e o here. absurd (nowhere e here);
  result_matches_steps = record {
    replies_match = record { answers = (waiting_for 3, outcome.Unplugged) ∷ []; is_permutation = IsPermutation-refl _; ordered = λ i j d less low. absurd (omega (arith, less, low)); replies_are_of_answers = refl };
    ages_once = ages_once (answer ∷ []) refl;
    restarts_timed_out = restarts_hung;
    unplugged_outcome_empties_port = unplugs restart is_restart;
    none_is_due_where_ready = λ port is r at_port due. absurd (nowhere r due.is_in_book);
    was_ready_empty_unless_ready = λ port is not_ready e here. absurd (nowhere e here);
  };
}

-- ---- what it owes each port

finds_there : (n : ℕ) → TimesOutAtTick (issued_at 2).abstract (port_at n) → FindsDone (port_at n) stop_and_comreset_accesses (issued_at 2) steps
finds_there zero h = finds restart is_restart
finds_there (suc n) h = absurd (other n h)

boots : (n : ℕ) → BootsAnewWhereRequired Tick (Replied replies) stop_and_comreset_accesses (issued_at 2) one booted (port_at n)
boots zero h = inr (resets [])
boots (suc n) h = absurd (other n h)

part_of : (n : ℕ) → PortCorresponds (issued_at 2) restarting_tick stop_and_comreset_accesses (port_at n)
part_of n = record {
  finds_done = finds_there n;
  lone_plain_faults_are_told_unless_dead = tt;
  probes_disk = tt;
  boots_anew = boots n;
  loses_no_error = port_error restart is_restart n;
  runs_well_anew = well restart is_restart n;
  handles_evidence = tt;
}

ties : CallCorresponds (Any ∷ Any ∷ []) (issued_at 2) restarting_tick
ties = record {
  accesses = stop_and_comreset_accesses;
  accesses_are_explained = (restarts outset, serving (TimesOutAtTick (issued_at 2).abstract) stop_and_comreset_accesses (of_served (TimesOutAtTick (issued_at 2).abstract) hung));
  is_backed = backed restart is_restart;
  is_evidenced = record { faults_are_told = λ f here. absurd (nowhere f here); each_port_is_evidenced = λ port. evidenced restart is_restart port.0 };
  only_failed_requeue_if_service = tt;
  issues_all_due = λ port is r here. absurd (nowhere r here);
  ports_correspond = λ port. part_of port.0;
  invariant_holds = (no_slots, holds_booted outset (no_page 1));
}

-- ---- the history

-- when the third tick begins, the port runs well
runs_well : RunsWell (submitted.port 0)
runs_well = record {
  st_is_set = refl;
  cr_is_set = refl;
  det_is_3 = refl;
  present = refl;
  fresh = refl;
  no_link_is_due = refl;
  is_not_halted = refl;
  is_not_broken = refl;
  shows_no_trouble = record { serr_n_is_clear = refl; serr_x_is_clear = refl; bits_27_to_30_are_clear = λ place from to. refl };
}

pub hung_port_is_a_history : HungPortIsAHistory
unfolding ties tick_ties
hung_port_is_a_history = record {
  initial_state = first;
  submit = submit;
  asked = asked;
  asked_is_read = refl;
  submits = (refl, refl);
  first_tick = tick 0;
  first_tick_is_silent = (refl, refl);
  none_timed_out_at_first = not_hung 0 (omega arith);
  second_tick = tick 1;
  second_tick_is_silent = (refl, refl);
  none_timed_out_at_second = not_hung 1 (omega arith);
  ready = refl;
  port_runs_well = runs_well;
  port_0_has_timed_out = hung;
  only_port_0_has_timed_out = hung_first 2;
  third_tick = restarting_tick;
  third_tick_tells_unplugged = (refl, refl);
  evidence = refl;
  unfit = refl;
  third_tick_makes_accesses = restarts outset;
  accesses_are_allowed = restart_allowed outset;
  history = ((((((starts, fit_ready plain_disks), begins plain_disks), submit_happens, submit_ties), tick_happens 0 (omega arith), tick_ties 0 (omega arith)), tick_happens 1 (omega arith), tick_ties 1 (omega arith)), happens, ties);
  accesses = (refl, refl, refl);
  submit_corresponds = submit_parts;
  first_tick_corresponds = λ port. tick_part 0 (omega arith) port.0;
  second_tick_corresponds = λ port. tick_part 1 (omega arith) port.0;
  third_tick_corresponds = λ port. part_of port.0;
}
