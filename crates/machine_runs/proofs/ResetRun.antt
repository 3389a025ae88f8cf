-- A run in which a request hangs, is issued again by the third tick, and stays with a reset that is stuck.
use Rattle.std.proofs.Common.{◌≡◌, ℕ, ◌<◌, ◌==◌, Bool, true, false, cond, List, [], ◌∷◌, ◌++◌, Option, Some, None, inl, inr, ⊎_elim, refl, sym, ap, subst, arith, eqb-true}
use Rattle.std.proofs.lemmas.Bool.{false≢true}
use Rattle.std.specs.List.{Contains, count_by}
use Rattle.ata_types.specs.declared.Port.{Port}
use Rattle.ata_types.specs.declared.PortState.TheVariants.{Absent, Ready, Dead}
use Rattle.ata_types.specs.declared.request.Outcome.{Outcome}
use Rattle.ata_types.specs.declared.request.Outcome.TheVariants as outcome
use Rattle.block_machine.specs.Ports.{Evidence, SamePorts}
use Rattle.block_machine.specs.State.{Pending, unanswered}
use Rattle.block_machine.specs.Steps.{Step, Issue, Age, WaitAgain, Answer, Release, newly_accepted, newly_issued, requeued}
use Rattle.block_machine.specs.Events.{AbstractState, Service, Tick, Reset, Replied, WasReset, CallRecord, DeadPortsTellOnlyPortDead, AgesReadyPortsFirstAndOnce, TimesOutAtTick, IsIssuedIn, RestartsTimedOut, Happens, is_age, reply_of, abstract_after_all}
use Rattle.machine_runs.specs.ExampleRuns.{ResetReleasesFrameOfDeadPort}
use Rattle.block_machine.proofs.Members.{contains_none, contains_here, contains_cases}
use Rattle.block_machine.proofs.Setting.{port, frame, empty_starts, granted}
use Rattle.machine_runs.proofs.Scene.{none, mode, ports, ports_in, at_port, first, call, at_here, is_ready, is_dead, ready_here, none_dead, emptied_one, one_issued, none_there, one_told, none_told, none_ended, none_unplugged, finds_none, ready_port, restarts_here, only_one, ports_fit, row_zero}
use Rattle.machine_runs.proofs.WaitingRun.{write, run1, happens1}

-- the ports that a tick ages
abbrev pub aging : Port → Bool
aging p = p.0 == 0

abbrev pub tick : List Step → CallRecord (Unit {0})
tick later = call Tick (Replied []) (later ++ Age aging ∷ [])

abbrev pub run2 : List (CallRecord (Unit {0}))
run2 = tick [] ∷ run1

abbrev pub run3 : List (CallRecord (Unit {0}))
run3 = tick [] ∷ run2

-- the write, issued so many ticks ago
abbrev pub aged : ℕ → Pending
aged n = record (newly_issued (newly_accepted write)) { age = n }

abbrev waits : Pending
waits = requeued (aged 3)

abbrev restarts : List Step
restarts = Issue mode waits ∷ WaitAgain (aged 3) ∷ []

-- the port's engine was seen to stop, or the adapter's reset to end
abbrev pub halted : Evidence
halted = record { faults = []; lost = []; link_changed = []; showing_error = []; showing_fatal_error = []; stopped = port ∷ []; stuck = [] }

abbrev restarting : CallRecord (Unit {0})
restarting = record (tick restarts) { evidence = halted }

abbrev run4 : List (CallRecord (Unit {0}))
run4 = restarting ∷ run3

abbrev again : Pending
again = newly_issued waits

abbrev seen : Evidence
seen = record { faults = []; lost = []; link_changed = []; showing_error = []; showing_fatal_error = []; stopped = []; stuck = port ∷ [] }

abbrev stuck : CallRecord (Unit {0})
stuck = record { call = Reset; result = WasReset None; evidence = seen; steps = []; ports = ports_in Dead }

abbrev run5 : List (CallRecord (Unit {0}))
run5 = stuck ∷ run4

abbrev service : CallRecord (Unit {0})
service = record { call = Service; result = Replied (reply_of (again, outcome.PortDead) ∷ []); evidence = none; steps = Answer again outcome.PortDead ∷ []; ports = ports_in Dead }

abbrev run6 : List (CallRecord (Unit {0}))
run6 = service ∷ run5

-- the one port that is served
pub stopped_here : (p : Port) → (p.0 == 0) ≡ true → Contains (port ∷ []) p
stopped_here p here = contains_here port [] p (ap (λ (n : ℕ). record { 0 = n }) (eqb-true p.0 0 here))

abbrev reset : CallRecord (Unit {0})
reset = record { call = Reset; result = WasReset (Some []); evidence = halted; steps = Release ∷ []; ports = ports }

abbrev run7 : List (CallRecord (Unit {0}))
run7 = reset ∷ run6

-- What holds of the parts.

pub ages_once : (later : List Step) → count_by is_age later ≡ 0 → AgesReadyPortsFirstAndOnce ports (later ++ Age aging ∷ [])
ages_once later once = record {
  ready_ports = aging;
  is_ready = λ p. (at_here Ready p, ready_here p);
  later = later;
  age_is_first = refl;
  no_other_age = once;
}

-- a tick before the third leaves the port alone
abbrev pub IsYoung : AbstractState → Type 0
IsYoung m = (e : Pending) → Contains m.machine.book e → e.age < 2

not_hung : (m : AbstractState) → IsYoung m → (p : Port) → TimesOutAtTick m p → ⊥
not_hung m young p hung = let age = young hung.pending hung.is_in_book in let enough = hung.old_enough in omega (arith, age, enough)

only_age : (step : Step) → Contains (Age aging ∷ []) step → is_age step ≡ true
only_age step h = ⊎_elim (λ same. ap is_age same) (λ n. absurd (contains_none step n)) (contains_cases (Age aging) [] step h)

pub ticks : (old : AbstractState) → IsYoung old → (new : AbstractState) → SamePorts old.ports new.ports → RestartsTimedOut old none (Age aging ∷ []) new
ticks old young new same = record {
  each_port_is_same_or_restarts = λ p. inl (not_hung old young p, same p);
  only_timed_out_wait_again = λ e h. absurd (false≢true (only_age (WaitAgain e) h));
  only_timed_out_are_answered = λ e o h. absurd (false≢true (only_age (Answer e o) h));
  answers_ok_what_had_ended = λ p hung. absurd (not_hung old young p hung);
  timed_out_iff_stopped_or_stuck = λ p. (λ hung. absurd (not_hung old young p hung), λ i. absurd (⊎_elim (contains_none p) (contains_none p) i));
  unplugged_lost_disk = finds_none (Age aging ∷ []) old.ports new.ports refl;
  shown_disk_was_in_or_came = λ p hung. absurd (not_hung old young p hung);
  issued_are_issued_in_steps = λ p hung. absurd (not_hung old young p hung);
}

pub happens2 : Happens (abstract_after_all first run1) (tick [])
happens2 = record {
  steps_are_enabled = (tt, tt);
  steps_are_of_call = (tt, inr tt);
  issue_is_last_of_request = (tt, λ id h i. false≢true i);
  answers_are_lawful = tt;
  ports_are_well_formed = ports_fit Ready refl;
  unanswered_keep_serial_and_size = λ e o h i same. (refl, refl);
  result_matches_steps = record {
    replies_match = none_told (Age aging ∷ []) refl;
    ages_once = ages_once [] refl;
    restarts_timed_out = ticks (abstract_after_all first run1) (only_one (aged 0) (λ e. e.age < 2) (omega arith)) (abstract_after_all first run2) (λ p. (refl, refl, refl, refl, refl, refl));
    unplugged_outcome_empties_port = none_unplugged (Age aging ∷ []) (abstract_after_all first run2).machine refl;
    none_is_due_where_ready = λ p _. one_issued (unanswered (aged 1)) refl p;
    was_ready_empty_unless_ready = λ p _ ne e h. emptied_one (aged 1) refl p ne e h;
  };
}

pub happens3 : Happens (abstract_after_all first run2) (tick [])
happens3 = record {
  steps_are_enabled = (tt, tt);
  steps_are_of_call = (tt, inr tt);
  issue_is_last_of_request = (tt, λ id h i. false≢true i);
  answers_are_lawful = tt;
  ports_are_well_formed = ports_fit Ready refl;
  unanswered_keep_serial_and_size = λ e o h i same. (refl, refl);
  result_matches_steps = record {
    replies_match = none_told (Age aging ∷ []) refl;
    ages_once = ages_once [] refl;
    restarts_timed_out = ticks (abstract_after_all first run2) (only_one (aged 1) (λ e. e.age < 2) (omega arith)) (abstract_after_all first run3) (λ p. (refl, refl, refl, refl, refl, refl));
    unplugged_outcome_empties_port = none_unplugged (Age aging ∷ []) (abstract_after_all first run3).machine refl;
    none_is_due_where_ready = λ p _. one_issued (unanswered (aged 2)) refl p;
    was_ready_empty_unless_ready = λ p _ ne e h. emptied_one (aged 2) refl p ne e h;
  };
}

-- the third restarts it

pub hung : TimesOutAtTick (abstract_after_all first run3) port
hung = record { ready = refl; pending = aged 2; is_in_book = contains_here (aged 2) [] (aged 2) refl; port_is = refl; issued = refl; old_enough = omega arith }

abbrev again_of : Step → Option Pending
again_of (WaitAgain e) = Some e
again_of _ = None

abbrev is_answer : Step → Bool
is_answer (Answer e o) = true
is_answer _ = false

-- a fact of each of the steps
each_step : (P : Step → Type 0) → P (Issue mode waits) → P (WaitAgain (aged 3)) → P (Age aging) → (step : Step) → Contains restarting.steps step → P step
each_step P a b c step h = ⊎_elim
    (λ same. subst P (sym same) a)
    (λ n. ⊎_elim
    (λ same. subst P (sym same) b)
    (λ k. ⊎_elim (λ same. subst P (sym same) c) (λ l. absurd (contains_none step l)) (contains_cases (Age aging) [] step k))
    (contains_cases (WaitAgain (aged 3)) (Age aging ∷ []) step n))
    (contains_cases (Issue mode waits) (WaitAgain (aged 3) ∷ Age aging ∷ []) step h)

restarted : RestartsTimedOut (abstract_after_all first run3) halted restarting.steps (abstract_after_all first run4)
restarted = record {
  each_port_is_same_or_restarts = restarts_here (abstract_after_all first run3).machine halted refl hung;
  only_timed_out_wait_again = λ e h. each_step (λ step. (x : Pending) → again_of step ≡ Some x → TimesOutAtTick (abstract_after_all first run3) x.request.port)
      (λ x q. absurd (none_some x q))
      (λ x q. let same : aged 3 ≡ x = some_same x q in subst (λ (y : Pending). TimesOutAtTick (abstract_after_all first run3) y.request.port) same hung)
      (λ x q. absurd (none_some x q))
      (WaitAgain e) h e refl;
  only_timed_out_are_answered = λ e o h. absurd (false≢true (sym (each_step (λ step. is_answer step ≡ false) refl refl refl (Answer e o) h)));
  answers_ok_what_had_ended = λ p _. none_ended (abstract_after_all first run3).machine restarting.steps refl p;
  timed_out_iff_stopped_or_stuck = λ p. (
    λ h. inl (contains_here port [] p (ready_port p h.ready)),
    λ i. ⊎_elim
        (λ h. ⊎_elim (λ (same : p ≡ port). subst (λ (x : Port). TimesOutAtTick (abstract_after_all first run3) x) (sym same) hung) (λ n. absurd (contains_none p n)) (contains_cases port [] p h))
        (λ h. absurd (contains_none p h))
        i,
  );
  unplugged_lost_disk = finds_none restarting.steps ports ports refl;
  shown_disk_was_in_or_came = λ p _ _. inl refl;
  issued_are_issued_in_steps = λ p _ e h _ _. ⊎_elim
      (λ (same : e ≡ again). subst (λ (y : Pending). IsIssuedIn y.request.id restarting.steps) (sym same) refl)
      (λ n. absurd (contains_none e n))
      (contains_cases again [] e h);
}
  where
    none_some : (x : Pending) → None ≡ Some x → ⊥
    none_some x q = cc

    some_same : (x : Pending) → Some (aged 3) ≡ Some x → aged 3 ≡ x
    some_same x q = cc

happens4 : Happens (abstract_after_all first run3) restarting
happens4 = record {
  steps_are_enabled = (
    ((tt, tt), (contains_here (aged 3) [] (aged 3) refl, refl, omega arith, granted 0 row_zero refl)),
    (contains_here waits [] waits refl, record { is_in_book = contains_here (unanswered waits) [] (unanswered waits) refl; waits_and_nothing_blocks = refl; slot_is_left = λ _. omega arith }, λ e h. absurd (contains_none e h), granted 0 row_zero refl),
  );
  steps_are_of_call = (((tt, inr tt), inr refl), inr (refl, refl));
  issue_is_last_of_request = (((tt, λ id h i. false≢true i), λ id h i. false≢true i), λ id h i. false≢true i);
  answers_are_lawful = (tt, contains_here port [] port refl);
  ports_are_well_formed = ports_fit Ready refl;
  unanswered_keep_serial_and_size = λ e o h i same. (refl, refl);
  result_matches_steps = record {
    replies_match = none_told restarting.steps refl;
    ages_once = ages_once restarts refl;
    restarts_timed_out = restarted;
    unplugged_outcome_empties_port = none_unplugged restarting.steps (abstract_after_all first run4).machine refl;
    none_is_due_where_ready = λ p _. one_issued (unanswered again) refl p;
    was_ready_empty_unless_ready = λ p _ ne e h. emptied_one again refl p ne e h;
  };
}

-- The reset that is stuck, and what comes after it.

pub dead_not_ready : {A : Type 0} (p : Port) → at_port Dead p ≡ Ready → A
dead_not_ready {A} p e = go (p.0 == 0) e
  where
    go : (b : Bool) → cond b Dead Absent ≡ Ready → A
    go true e = absurd (false≢true (ap is_ready e))
    go false e = absurd (false≢true (ap is_ready e))

pub dead_here : (p : Port) → at_port Dead p ≡ Dead → Contains (port ∷ []) p
dead_here p e = contains_here port [] p (ap (λ (n : ℕ). record { 0 = n }) (eqb-true p.0 0 (go (p.0 == 0) e)))
  where
    go : (b : Bool) → cond b Dead Absent ≡ Dead → b ≡ true
    go true e = refl
    go false e = absurd (false≢true (ap is_dead e))

happens5 : Happens (abstract_after_all first run4) stuck
happens5 = record {
  steps_are_enabled = tt;
  steps_are_of_call = tt;
  issue_is_last_of_request = tt;
  answers_are_lawful = tt;
  ports_are_well_formed = ports_fit Dead refl;
  unanswered_keep_serial_and_size = λ e o h i same. (refl, refl);
  result_matches_steps = (tt, λ p. (refl, λ here. let dead = at_here Dead p here in (dead, dead_here p dead), (refl, refl)));
}

abbrev outcome_of : Step → Outcome
outcome_of (Answer e o) = o
outcome_of _ = outcome.Ok

told_dead : DeadPortsTellOnlyPortDead (abstract_after_all first run5) service.steps
told_dead e o h dead = ⊎_elim
    (λ same. ap outcome_of same)
    (λ n. absurd (contains_none (Answer e o) n))
    (contains_cases (Answer again outcome.PortDead) [] (Answer e o) h)

happens6 : Happens (abstract_after_all first run5) service
happens6 = record {
  steps_are_enabled = (tt, (contains_here again [] again refl, tt));
  steps_are_of_call = (tt, inr tt);
  issue_is_last_of_request = (tt, λ id h i. false≢true i);
  answers_are_lawful = (tt, refl);
  ports_are_well_formed = ports_fit Dead refl;
  unanswered_keep_serial_and_size = λ e o h i same. (refl, refl);
  result_matches_steps = record {
    replies_match = one_told again outcome.PortDead service.steps refl (reply_of (again, outcome.PortDead)) refl;
    dead_ports_tell_only_port_dead = told_dead;
    unplugged_outcome_empties_port = none_unplugged service.steps (abstract_after_all first run6).machine refl;
    none_is_due_where_ready = λ p ready. dead_not_ready p ready;
    empty_unless_ready = λ p ne e h. absurd (contains_none e h);
    answers_ok_what_had_ended = λ p _. none_ended (abstract_after_all first run5).machine service.steps refl p;
    port_is_serviced = λ p. (λ _. (refl, refl, refl, refl, refl, refl), λ alive. (record { served_is_unchanged = refl; dead_exactly_if_stuck = (λ dead. absurd (alive dead), λ h. absurd (contains_none p h)); disk_is_remembered_unless_ready = λ _. (refl, refl) }, inl (refl, refl, refl, refl, refl, refl)));
    shown_disk_was_in_or_came = λ p. inl (refl, refl, refl, refl, refl, refl);
  };
}

happens7 : Happens (abstract_after_all first run6) reset
happens7 = record {
  steps_are_enabled = (tt, tt);
  steps_are_of_call = (tt, inr tt);
  issue_is_last_of_request = (tt, λ id h i. false≢true i);
  answers_are_lawful = tt;
  ports_are_well_formed = ports_fit Ready refl;
  unanswered_keep_serial_and_size = λ e o h i same. (refl, refl);
  result_matches_steps = record {
    replies_match = none_told reset.steps refl;
    releases_once = record { later = []; earlier = []; release_splits_steps = refl; earlier_are_by_device = tt; no_other_release = refl };
    unplugged_outcome_empties_port = none_unplugged reset.steps (abstract_after_all first run7).machine refl;
    unplugged_lost_disk = finds_none reset.steps (ports_in Dead) ports refl;
    none_is_due_where_ready = λ p _. none_there p;
    empty_unless_ready = λ p ne e h. absurd (contains_none e h);
    port_may_become = λ p. record { served_is_unchanged = refl; dead_exactly_if_stuck = (λ e. none_dead p e, λ h. absurd (contains_none p h)); disk_is_remembered_unless_ready = λ _. (refl, refl) };
    issued_are_issued_in_steps = λ p e h. absurd (contains_none e h);
    served_are_stopped = λ p. stopped_here p;
    shown_disk_was_in_or_came = λ p _. inl refl;
  };
}

pub ends_with_a_reset : ResetReleasesFrameOfDeadPort
ends_with_a_reset = record {
  initial_state = first;
  earlier_calls = run1;
  first_call = tick [];
  second_call = tick [];
  third_call = restarting;
  stuck_reset = stuck;
  service = service;
  reset = reset;
  runs = ((((((((empty_starts, ports_fit Ready refl), happens1), happens2), happens3), happens4), happens5), happens6), happens7);
  ticks = (refl, refl, refl);
  aged = aged 2;
  book_is = refl;
  issued_once = (refl, refl, refl);
  reissued = again;
  request_is_same = refl;
  book_has_reissued = refl;
  issued_twice = (refl, refl, refl);
  reset_is_stuck = refl;
  asks_for_service = refl;
  answers = contains_here (Answer again outcome.PortDead) [] (Answer again outcome.PortDead) refl;
  reissued_is_kept = refl;
  frame = frame 100;
  frames_are = refl;
  lent = refl;
  reset_ends = refl;
  frame_is_given_back = refl;
  ready = refl;
}
