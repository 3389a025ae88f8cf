-- A run in which a disk is taken out under a request that hangs, and the third tick tells of it.
use Rattle.std.proofs.Common.{◌≡◌, ℕ, ◌<◌, Bool, true, false, zero, suc, List, [], ◌∷◌, map, inl, inr, ⊎_elim, refl, sym, subst, arith}
use Rattle.std.proofs.lemmas.Bool.{false≢true}
use Rattle.std.proofs.lemmas.List.Sorted.{IsPermutation-append_comm}
use Rattle.std.specs.List.{Contains}
use Rattle.std.specs.Prelude.{slice_index_or}
use Rattle.ata_types.specs.declared.Port.{Port}
use Rattle.ata_types.specs.declared.PortState.TheVariants.{Absent, Ready}
use Rattle.ata_types.specs.declared.request.Outcome.{Outcome}
use Rattle.ata_types.specs.declared.request.Outcome.TheVariants as outcome
use Rattle.block_machine.specs.Ports.{Evidence}
use Rattle.block_machine.specs.State.{Pending, Machine}
use Rattle.block_machine.specs.Steps.{Step, Age, WaitAgain, Answer, Unplug, newly_accepted, aged_pending}
use Rattle.block_machine.specs.Events.{AbstractState, Tick, StepDevice, Replied, Stepped, CallRecord, TimesOutAtTick, RestartsTimedOut, Happens, RepliesMatch, IsLowerByPortThenId, reply_of, abstract_after_all, abstract_after}
use Rattle.machine_runs.specs.ExampleRuns.{TickFindsUnplugged}
use Rattle.block_machine.proofs.Members.{contains_none, contains_here, contains_cases, none_of}
use Rattle.block_machine.proofs.Setting.{port, frame, empty_starts}
use Rattle.machine_runs.proofs.Scene.{first, ports, ports_in, call, none_told, ready_port, restarts_into, shows_none, is_told_dead, emptied_of, of_two, none_ended, none_unplugged, absent_not_ready, absent_not_dead, ports_fit}
use Rattle.machine_runs.proofs.WaitingRun.{read, run2, happens1, happens2, none_due}
use Rattle.machine_runs.proofs.ResetRun.{aging, aged, ages_once, ticks}
use Rattle.machine_runs.proofs.ResetRun as reset_run

-- the read, which waits for the write
abbrev waits : Pending
waits = newly_accepted read

abbrev run3 : List (CallRecord (Unit {0}))
run3 = reset_run.tick [] ∷ run2

abbrev run4 : List (CallRecord (Unit {0}))
run4 = reset_run.tick [] ∷ run3

abbrev going : CallRecord (Unit {0})
going = call (StepDevice tt) (Stepped true) (Unplug port ∷ [])

abbrev run5 : List (CallRecord (Unit {0}))
run5 = going ∷ run4

-- the link had told that the disk went, and the engine was seen to stop
abbrev gone : Evidence
gone = record { faults = []; lost = port ∷ []; link_changed = port ∷ []; showing_error = []; showing_fatal_error = []; stopped = port ∷ []; stuck = [] }

abbrev told : List (Pending × Outcome)
told = (aged 3, outcome.Unplugged) ∷ (waits, outcome.Unplugged) ∷ []

abbrev answers : List Step
answers = Answer waits outcome.Unplugged ∷ Answer (aged 3) outcome.Unplugged ∷ []

abbrev tick : CallRecord (Unit {0})
tick = record { call = Tick; result = Replied (map reply_of told); evidence = gone; steps = Answer waits outcome.Unplugged ∷ Answer (aged 3) outcome.Unplugged ∷ Age aging ∷ []; ports = ports_in Absent }

abbrev run6 : List (CallRecord (Unit {0}))
run6 = tick ∷ run5

-- the moment before a tick
abbrev before : Machine → ℕ → AbstractState
before m n = record { machine = record m { book = aged n ∷ waits ∷ []; kept = [] }; ports = ports }

ticked : (m : Machine) (n : ℕ) → n < 2 → Happens (before m n) (reset_run.tick [])
ticked m n young = record {
  steps_are_enabled = (tt, tt);
  steps_are_of_call = (tt, inr tt);
  issue_is_last_of_request = (tt, λ id h i. false≢true i);
  answers_are_lawful = tt;
  ports_are_well_formed = ports_fit Ready refl;
  unanswered_keep_serial_and_size = λ e o h i same. (refl, refl);
  result_matches_steps = record {
    replies_match = none_told (Age aging ∷ []) refl;
    ages_once = ages_once [] refl;
    restarts_timed_out = ticks (before m n) (of_two (aged n) waits (λ e. e.age < 2) young (omega arith)) (abstract_after (before m n) (reset_run.tick [])) (λ p. (refl, refl, refl, refl, refl, refl));
    unplugged_outcome_empties_port = none_unplugged (Age aging ∷ []) (abstract_after (before m n) (reset_run.tick [])).machine refl;
    none_is_due_where_ready = λ p _. none_due p;
    was_ready_empty_unless_ready = λ p _. emptied_of (aged_pending aging (aged n) ∷ aged_pending aging waits ∷ []) (of_two (aged_pending aging (aged n)) (aged_pending aging waits) (λ e. e.request.port ≡ port) refl refl) p;
  };
}

happens5 : Happens (abstract_after_all first run4) going
happens5 = record {
  steps_are_enabled = (tt, refl);
  steps_are_of_call = (tt, inl tt);
  issue_is_last_of_request = (tt, λ id h i. false≢true i);
  answers_are_lawful = tt;
  ports_are_well_formed = ports_fit Ready refl;
  unanswered_keep_serial_and_size = λ e o h i same. (refl, refl);
  result_matches_steps = ((tt, tt), λ p. (refl, refl, refl, refl, refl, refl));
}

-- The third tick.

hung : TimesOutAtTick (abstract_after_all first run5) port
hung = record { ready = refl; pending = aged 2; is_in_book = contains_here (aged 2) (waits ∷ []) (aged 2) refl; port_is = refl; issued = refl; old_enough = omega arith }

only_port : (p : Port) → Contains (port ∷ []) p → p ≡ port
only_port p h = ⊎_elim (λ same. same) (λ n. absurd (contains_none p n)) (contains_cases port [] p h)

-- the port of the request that is answered, else this port
abbrev port_of : Step → Port
port_of (Answer e o) = e.request.port
port_of _ = port

abbrev is_again : Step → Bool
is_again (WaitAgain e) = true
is_again _ = false

each_step : (P : Step → Type 0) → P (Answer waits outcome.Unplugged) → P (Answer (aged 3) outcome.Unplugged) → P (Age aging) → (step : Step) → Contains tick.steps step → P step
each_step P a b c step h = ⊎_elim
    (λ same. subst P (sym same) a)
    (λ n. ⊎_elim
    (λ same. subst P (sym same) b)
    (λ k. ⊎_elim (λ same. subst P (sym same) c) (λ l. absurd (contains_none step l)) (contains_cases (Age aging) [] step k))
    (contains_cases (Answer (aged 3) outcome.Unplugged) (Age aging ∷ []) step n))
    (contains_cases (Answer waits outcome.Unplugged) (Answer (aged 3) outcome.Unplugged ∷ Age aging ∷ []) step h)

restarted : RestartsTimedOut (abstract_after_all first run5) gone tick.steps (abstract_after_all first run6)
restarted = record {
  each_port_is_same_or_restarts = restarts_into (abstract_after_all first run5).machine Absent gone hung (λ p. record {
    served_is_unchanged = refl;
    dead_exactly_if_stuck = (λ dead. absent_not_dead p dead, λ h. absurd (contains_none p h));
    disk_is_remembered_unless_ready = λ _. (refl, refl);
  });
  only_timed_out_wait_again = λ e h. absurd (false≢true (sym (none_of is_again tick.steps (WaitAgain e) refl h)));
  only_timed_out_are_answered = λ e o h. subst (λ (x : Port). TimesOutAtTick (abstract_after_all first run5) x) (sym (each_step (λ step. port_of step ≡ port) refl refl refl (Answer e o) h)) hung;
  answers_ok_what_had_ended = λ p _. none_ended (abstract_after_all first run5).machine tick.steps refl p;
  issued_are_issued_in_steps = λ p _ e h. absurd (contains_none e h);
  timed_out_iff_stopped_or_stuck = λ p. (
    λ h. inl (contains_here port [] p (ready_port p h.ready)),
    λ i. ⊎_elim
        (λ h. subst (λ (x : Port). TimesOutAtTick (abstract_after_all first run5) x) (sym (only_port p h)) hung)
        (λ h. absurd (contains_none p h))
        i,
  );
  unplugged_lost_disk = λ e h. (λ dead. absent_not_dead e.request.port dead, λ ready. absent_not_ready e.request.port ready);
  shown_disk_was_in_or_came = λ p _ shows. shows_none Absent (λ s. s) p shows;
}

told_in_order : RepliesMatch tick.steps (map reply_of told)
told_in_order = record {
  answers = told;
  is_permutation = IsPermutation-append_comm ((aged 3, outcome.Unplugged) ∷ []) ((waits, outcome.Unplugged) ∷ []);
  ordered = go;
  replies_are_of_answers = refl;
}
  where
    go : (i j : ℕ) (d : Pending × Outcome) → i < j → j < 2 → IsLowerByPortThenId (slice_index_or told i d) (slice_index_or told j d)
    go zero (suc zero) d lt below = inr (refl, omega arith)
    go i j d lt below = absurd (omega (arith, lt, below))

happens6 : Happens (abstract_after_all first run5) tick
happens6 = record {
  steps_are_enabled = (((tt, tt), (contains_here (aged 3) (waits ∷ []) (aged 3) refl, tt)), (contains_here waits [] waits refl, tt));
  steps_are_of_call = (((tt, inr tt), inr (inl tt)), inr (inl tt));
  issue_is_last_of_request = (((tt, λ id h i. false≢true i), λ id h i. false≢true i), λ id h i. false≢true i);
  answers_are_lawful = (
    (tt, (contains_here port [] port refl, contains_here port [] port refl)),
    (contains_here port [] port refl, contains_here port [] port refl),
  );
  ports_are_well_formed = ports_fit Absent refl;
  unanswered_keep_serial_and_size = λ e o h i same. (refl, refl);
  result_matches_steps = record {
    replies_match = told_in_order;
    ages_once = ages_once answers refl;
    restarts_timed_out = restarted;
    unplugged_outcome_empties_port = record {
      none_is_left = λ e other h i. absurd (contains_none other i);
      none_is_told_dead = λ e other h i. absurd (false≢true (sym (none_of is_told_dead tick.steps (Answer other outcome.PortDead) refl i)));
    };
    none_is_due_where_ready = λ p ready. absent_not_ready p ready;
    was_ready_empty_unless_ready = λ p _ ne e h. absurd (contains_none e h);
  };
}

pub is_taken_out_before_a_tick : TickFindsUnplugged
is_taken_out_before_a_tick = record {
  initial_state = first;
  early = run4;
  unplug = going;
  tick = tick;
  runs = (((((((empty_starts, ports_fit Ready refl), happens1), happens2), ticked (abstract_after_all first run2).machine 0 (omega arith)), ticked (abstract_after_all first run3).machine 1 (omega arith)), happens5), happens6);
  issued = aged 2;
  waiter = waits;
  book = refl;
  requests_are = (refl, refl, refl, refl);
  device_is_told = refl;
  disk_is_unplugged = refl;
  ticks = refl;
  tells = refl;
  port_is_lost_and_stopped = (contains_here port [] port refl, contains_here port [] port refl);
  absent = refl;
  book_becomes_empty = refl;
  frame = frame 100;
  frames_are = refl;
  lent = refl;
  frame_is_given_back = refl;
}
