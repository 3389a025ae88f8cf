-- A run in which a request ends when it is two ticks old, and the third tick answers it.
use Rattle.std.proofs.Common.{◌≡◌, Bool, true, false, List, [], ◌∷◌, inl, inr, ⊎_elim, refl, sym, ap, subst, arith}
use Rattle.std.proofs.lemmas.Bool.{false≢true}
use Rattle.std.specs.List.{Contains}
use Rattle.ata_types.specs.declared.Port.{Port}
use Rattle.ata_types.specs.declared.PortState.TheVariants.{Ready}
use Rattle.ata_types.specs.declared.request.Outcome.{Outcome}
use Rattle.ata_types.specs.declared.request.Outcome.TheVariants as outcome
use Rattle.block_machine.specs.State.{Pending}
use Rattle.block_machine.specs.Steps.{Step, Touch, End, Age, WaitAgain, Answer, touch, mark_ended}
use Rattle.block_machine.specs.Events.{Tick, StepDevice, Replied, Stepped, CallRecord, TimesOutAtTick, RestartsTimedOut, Happens, reply_of, abstract_after_all}
use Rattle.machine_runs.specs.ExampleRuns.{TickAnswersEnded}
use Rattle.block_machine.proofs.Members.{contains_none, contains_here, contains_cases}
use Rattle.block_machine.proofs.Setting.{port, empty_starts}
use Rattle.machine_runs.proofs.Scene.{first, ports, call, ready_port, none_there, one_told, none_unplugged, finds_none, last_ended, one_touched, restarts_here, ports_fit}
use Rattle.machine_runs.proofs.WaitingRun.{write, happens1}
use Rattle.machine_runs.proofs.ResetRun.{aging, aged, halted, run3, happens2, happens3, ages_once}

-- the device ends the write that is two ticks old
abbrev ending : CallRecord (Unit {0})
ending = call (StepDevice tt) (Stepped true) (End (touch 0 (aged 2)) ∷ Touch (aged 2) 0 (write.blocks_at_acceptance 0) ∷ [])

abbrev run4 : List (CallRecord (Unit {0}))
run4 = ending ∷ run3

-- the write that has ended, so many ticks old
abbrev over : Pending
over = mark_ended (touch 0 (aged 2))

abbrev older_still : Pending
older_still = mark_ended (touch 0 (aged 3))

abbrev tick : CallRecord (Unit {0})
tick = record { call = Tick; result = Replied (reply_of (older_still, outcome.Ok) ∷ []); evidence = halted; steps = Answer older_still outcome.Ok ∷ Age aging ∷ []; ports = ports }

abbrev run5 : List (CallRecord (Unit {0}))
run5 = tick ∷ run4

happens4 : Happens (abstract_after_all first run3) ending
happens4 = record {
  steps_are_enabled = ((tt, (inl (contains_here (aged 2) [] (aged 2) refl, refl), omega arith, refl, omega arith, λ _ b lt. refl)), (inl (contains_here (touch 0 (aged 2)) [] (touch 0 (aged 2)) refl, refl), one_touched, refl));
  steps_are_of_call = ((tt, inl tt), inl tt);
  issue_is_last_of_request = ((tt, λ id h i. false≢true i), λ id h i. false≢true i);
  answers_are_lawful = tt;
  ports_are_well_formed = ports_fit Ready refl;
  unanswered_keep_serial_and_size = λ e o h i same. (refl, refl);
  result_matches_steps = (((tt, tt), tt), λ p. (refl, refl, refl, refl, refl, refl));
}

hung : TimesOutAtTick (abstract_after_all first run4) port
hung = record { ready = refl; pending = over; is_in_book = contains_here over [] over refl; port_is = refl; issued = refl; old_enough = omega arith }

abbrev is_again : Step → Bool
is_again (WaitAgain e) = true
is_again _ = false

abbrev is_answer : Step → Bool
is_answer (Answer e o) = true
is_answer _ = false

-- the port of the request that is answered
abbrev port_of : Step → Port
port_of (Answer e o) = e.request.port
port_of _ = port

restarted : RestartsTimedOut (abstract_after_all first run4) halted tick.steps (abstract_after_all first run5)
restarted = record {
  each_port_is_same_or_restarts = restarts_here (abstract_after_all first run4).machine halted refl hung;
  only_timed_out_wait_again = λ e h. absurd (false≢true (sym (each (λ step. is_again step ≡ false) refl refl (WaitAgain e) h)));
  only_timed_out_are_answered = λ e o h. each (λ step. (x : Pending) (a : Outcome) → step ≡ Answer x a → TimesOutAtTick (abstract_after_all first run4) x.request.port)
      (λ x a q. subst (λ (y : Step). TimesOutAtTick (abstract_after_all first run4) (port_of y)) q hung)
      (λ x a q. absurd (false≢true (ap is_answer q)))
      (Answer e o) h e o refl;
  answers_ok_what_had_ended = λ p _. last_ended (abstract_after_all first run4).machine tick.steps [] over refl refl older_still refl (contains_here (Answer older_still outcome.Ok) (Age aging ∷ []) (Answer older_still outcome.Ok) refl) p;
  issued_are_issued_in_steps = λ p _ e h. absurd (contains_none e h);
  timed_out_iff_stopped_or_stuck = λ p. (
    λ h. inl (contains_here port [] p (ready_port p h.ready)),
    λ i. ⊎_elim
        (λ h. ⊎_elim (λ (same : p ≡ port). subst (λ (x : Port). TimesOutAtTick (abstract_after_all first run4) x) (sym same) hung) (λ n. absurd (contains_none p n)) (contains_cases port [] p h))
        (λ h. absurd (contains_none p h))
        i,
  );
  unplugged_lost_disk = finds_none tick.steps ports ports refl;
  shown_disk_was_in_or_came = λ p _ _. inl refl;
}
  where
    each : (P : Step → Type 0) → P (Answer older_still outcome.Ok) → P (Age aging) → (step : Step) → Contains tick.steps step → P step
    each P a b step h = ⊎_elim
        (λ same. subst P (sym same) a)
        (λ n. ⊎_elim (λ same. subst P (sym same) b) (λ k. absurd (contains_none step k)) (contains_cases (Age aging) [] step n))
        (contains_cases (Answer older_still outcome.Ok) (Age aging ∷ []) step h)

happens5 : Happens (abstract_after_all first run4) tick
happens5 = record {
  steps_are_enabled = ((tt, tt), (contains_here older_still [] older_still refl, tt));
  steps_are_of_call = ((tt, inr tt), inr (inr refl));
  issue_is_last_of_request = ((tt, λ id h i. false≢true i), λ id h i. false≢true i);
  answers_are_lawful = (tt, (record { pending = over; is_in_book = contains_here over [] over refl; id_is = refl; issued = refl }, refl, one_touched, refl));
  ports_are_well_formed = ports_fit Ready refl;
  unanswered_keep_serial_and_size = λ e o h i same. (refl, refl);
  result_matches_steps = record {
    replies_match = one_told older_still outcome.Ok tick.steps refl (reply_of (older_still, outcome.Ok)) refl;
    ages_once = ages_once (Answer older_still outcome.Ok ∷ []) refl;
    restarts_timed_out = restarted;
    unplugged_outcome_empties_port = none_unplugged tick.steps (abstract_after_all first run5).machine refl;
    none_is_due_where_ready = λ p _. none_there p;
    was_ready_empty_unless_ready = λ p _ ne e h. absurd (contains_none e h);
  };
}

pub ends_at_a_tick : TickAnswersEnded
ends_at_a_tick = record {
  initial_state = first;
  early = run3;
  ending = ending;
  tick = tick;
  runs = ((((((empty_starts, ports_fit Ready refl), happens1), happens2), happens3), happens4), happens5);
  aged = aged 2;
  book_is = refl;
  not_ended = (refl, refl);
  device_is_told = refl;
  ended = over;
  request_is_same = refl;
  book = refl;
  is_ended_at_age_two = (refl, refl);
  ticks = refl;
  answers = refl;
  book_becomes_empty = refl;
}
