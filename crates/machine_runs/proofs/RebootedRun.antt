-- A run in which resets issue a request anew, abort it in the end, and issue one that waited for it.
use Rattle.std.proofs.Common.{◌≡◌, ℕ, ◌<◌, true, suc, List, [], ◌∷◌, Some, inl, inr, refl, arith}
use Rattle.std.proofs.lemmas.Bool.{false≢true}
use Rattle.std.proofs.lemmas.List.Elements.{All-contains, All-nil}
use Rattle.ata_types.specs.declared.Port.{Port}
use Rattle.ata_types.specs.declared.PortState.TheVariants.{Ready}
use Rattle.ata_types.specs.declared.request.Outcome.TheVariants as outcome
use Rattle.block_machine.specs.Ports.{MayBecome}
use Rattle.block_machine.specs.State.{Pending, Machine, unanswered}
use Rattle.block_machine.specs.Steps.{Issue, WaitAgain, Answer, Release, newly_accepted, newly_issued, requeued}
use Rattle.block_machine.specs.Events.{AbstractState, Reset, WasReset, CallRecord, Happens, IsIssuedIn, reply_of, abstract_after_all, abstract_after}
use Rattle.machine_runs.specs.ExampleRuns.{ResetsReissueThenAbort}
use Rattle.block_machine.proofs.Setting.{port, empty_starts, two_rows, granted}
use Rattle.machine_runs.proofs.Scene.{mode, ports, first, one_issued, one_told, none_told, none_unplugged, finds_none, emptied_of, only_one, of_two, ports_fit, none_dead, row_zero}
use Rattle.machine_runs.proofs.WaitingRun.{write, read, run2, happens1, happens2, none_due}
use Rattle.machine_runs.proofs.ResetRun.{halted, stopped_here}

-- the write, in its n-th issue
abbrev tried : ℕ → Pending
tried n = record (newly_issued (newly_accepted write)) { issue_count = n }

-- the read, which waits for it
abbrev waits : Pending
waits = newly_accepted read

abbrev retry : ℕ → CallRecord (Unit {0})
retry n = record { call = Reset; result = WasReset (Some []); evidence = halted; steps = Issue mode (requeued (tried n)) ∷ WaitAgain (tried n) ∷ Release ∷ []; ports = ports }

abbrev run5 : List (CallRecord (Unit {0}))
run5 = retry 3 ∷ retry 2 ∷ retry 1 ∷ run2

abbrev abort : CallRecord (Unit {0})
abort = record { call = Reset; result = WasReset (Some (reply_of (tried 4, outcome.Aborted) ∷ [])); evidence = halted; steps = Issue mode waits ∷ Answer (tried 4) outcome.Aborted ∷ Release ∷ []; ports = ports }

becomes : (p : Port) → MayBecome ports halted ports p
becomes p = record { served_is_unchanged = refl; dead_exactly_if_stuck = (λ dead. none_dead p dead, λ h. absurd (All-contains (λ _. ⊥) [] p (All-nil (λ _. ⊥)) h)); disk_is_remembered_unless_ready = λ _. (refl, refl) }

-- the moment before a reset
abbrev before : Machine → ℕ → AbstractState
before m n = record { machine = record m { book = tried n ∷ waits ∷ []; kept = [] }; ports = ports }

again : (m : Machine) (n : ℕ) → m.rows ≡ two_rows → ((p : Port) → m.present p ≡ true) → n < 4 → Happens (before m n) (retry n)
again m n rows present few = record {
  steps_are_enabled = (
    ((tt, tt), ((0, omega arith, refl), refl, few, granted 0 row_zero rows)),
    ((0, omega arith, refl), record { is_in_book = (0, omega arith, refl); waits_and_nothing_blocks = refl; slot_is_left = λ _. omega arith }, λ e h. absurd (All-contains (λ _. ⊥) [] e (All-nil (λ _. ⊥)) h), granted 0 row_zero rows),
  );
  steps_are_of_call = (((tt, inr tt), inr refl), inr (refl, refl));
  issue_is_last_of_request = (((tt, λ id h i. false≢true i), λ id h i. false≢true i), λ id h i. false≢true i);
  answers_are_lawful = (tt, (0, omega arith, refl));
  ports_are_well_formed = ports_fit Ready refl;
  unanswered_keep_serial_and_size = λ e o h i same. (refl, refl);
  result_matches_steps = record {
    replies_match = none_told (retry n).steps refl;
    releases_once = record { later = Issue mode (requeued (tried n)) ∷ WaitAgain (tried n) ∷ []; earlier = []; release_splits_steps = refl; earlier_are_by_device = tt; no_other_release = refl };
    unplugged_outcome_empties_port = none_unplugged (retry n).steps (abstract_after (before m n) (retry n)).machine refl;
    unplugged_lost_disk = finds_none (retry n).steps ports ports refl;
    none_is_due_where_ready = λ p _. none_due p;
    empty_unless_ready = λ p. emptied_of (tried (suc n) ∷ waits ∷ []) (of_two (tried (suc n)) waits (λ e. e.request.port ≡ port) refl refl) p;
    port_may_become = λ p. becomes p;
    issued_are_issued_in_steps = λ p e h _ issued. of_two (tried (suc n)) waits (λ x. x.issued ≡ true → IsIssuedIn x.request.id (retry n).steps) (λ _. refl) (λ t. absurd (false≢true t)) e h issued;
    served_are_stopped = λ p. stopped_here p;
    shown_disk_was_in_or_came = λ p _. inl (present p);
  };
}

happens6 : Happens (abstract_after_all first run5) abort
happens6 = record {
  steps_are_enabled = (
    ((tt, tt), ((0, omega arith, refl), granted 0 row_zero refl)),
    ((0, omega arith, refl), record { is_in_book = (0, omega arith, refl); waits_and_nothing_blocks = refl; slot_is_left = λ _. omega arith }, λ e h. absurd (All-contains (λ _. ⊥) [] e (All-nil (λ _. ⊥)) h), granted 0 row_zero refl),
  );
  steps_are_of_call = (((tt, inr tt), inr tt), inr (refl, refl));
  issue_is_last_of_request = (((tt, λ id h i. false≢true i), λ id h i. false≢true i), λ id h i. false≢true i);
  answers_are_lawful = (tt, (record { pending = tried 4; is_in_book = (0, omega arith, refl); id_is = refl; issued = refl }, refl, (refl, (0, omega arith, refl), (refl, refl))));
  ports_are_well_formed = ports_fit Ready refl;
  unanswered_keep_serial_and_size = λ e o h i same. (refl, refl);
  result_matches_steps = record {
    replies_match = one_told (tried 4) outcome.Aborted abort.steps refl (reply_of (tried 4, outcome.Aborted)) refl;
    releases_once = record { later = Issue mode waits ∷ Answer (tried 4) outcome.Aborted ∷ []; earlier = []; release_splits_steps = refl; earlier_are_by_device = tt; no_other_release = refl };
    unplugged_outcome_empties_port = none_unplugged abort.steps (abstract_after (abstract_after_all first run5) abort).machine refl;
    unplugged_lost_disk = finds_none abort.steps ports ports refl;
    none_is_due_where_ready = λ p _. one_issued (unanswered (newly_issued waits)) refl p;
    empty_unless_ready = λ p. emptied_of (newly_issued waits ∷ []) (only_one (newly_issued waits) (λ x. x.request.port ≡ port) refl) p;
    port_may_become = λ p. becomes p;
    issued_are_issued_in_steps = λ p e h _ _. only_one (newly_issued waits) (λ x. IsIssuedIn x.request.id abort.steps) refl e h;
    served_are_stopped = λ p. stopped_here p;
    shown_disk_was_in_or_came = λ p _. inl refl;
  };
}

pub goes_again_in_resets : ResetsReissueThenAbort
goes_again_in_resets = record {
  initial_state = first;
  earlier_calls = run2;
  first_call = retry 1;
  second_call = retry 2;
  third_call = retry 3;
  fourth_call = abort;
  runs = (((((((empty_starts, ports_fit Ready refl), happens1), happens2), again (abstract_after_all first run2).machine 1 refl (λ p. refl) (omega arith)), again (abstract_after_all first (retry 1 ∷ run2)).machine 2 refl (λ p. refl) (omega arith)), again (abstract_after_all first (retry 2 ∷ retry 1 ∷ run2)).machine 3 refl (λ p. refl) (omega arith)), happens6);
  resets = (refl, refl, refl, refl);
  issued = tried 1;
  waiter = waits;
  book = refl;
  issued_once = (refl, refl, refl);
  reissued = tried 2;
  after_one = refl;
  issued_twice = (refl, refl, refl);
  issued_last = tried 4;
  after_three = refl;
  four_times = (refl, refl, refl);
  aborts = refl;
  issued_waiter = newly_issued waits;
  after_four = refl;
  issues = (refl, refl);
}
