-- A run in which a read waits for a write of its sector.
use Rattle.std.proofs.Common.{◌≡◌, true, List, [], ◌∷◌, Ok, inl, inr, ⊎_elim, refl, sym, ap, ◌∙◌, arith}
use Rattle.std.proofs.lemmas.Bool.{false≢true}
use Rattle.ata_types.specs.declared.Port.{Port}
use Rattle.ata_types.specs.declared.PortState.TheVariants.{Ready}
use Rattle.ata_types.specs.declared.request.Op.TheVariants.{Read, Write}
use Rattle.ata_types.specs.declared.request.Outcome.TheVariants as outcome
use Rattle.block_machine.specs.declared.due.Unanswered.{Unanswered}
use Rattle.block_machine.specs.DueRequests.{NoneDue, is_waiting_and_unblocked}
use Rattle.block_machine.specs.State.{Block, Accepted, is_reader, unanswered}
use Rattle.block_machine.specs.Steps.{Accept, Issue, Touch, End, Answer, newly_accepted, newly_issued, touch}
use Rattle.block_machine.specs.Events.{Submit, Service, StepDevice, Submitted, Replied, Stepped, CallRecord, Happens, abstract_after_all, admission_context_of}
use Rattle.machine_runs.specs.ExampleRuns.{WaitsItsTurn}
use Rattle.block_machine.proofs.Members.{contains_none, contains_here, contains_there, contains_cases}
use Rattle.block_machine.proofs.Counting.{issued_not_due}
use Rattle.block_machine.proofs.Setting.{port, empty_starts, acceptable, granted}
use Rattle.machine_runs.proofs.Scene.{mode, first, id, call, reply, sector_request, done, served, IsQuiet, row_zero, fit_write, fit_read, new, one_issued, none_there, one_told, one_touched, ports_fit, plain_service, only_one, none_ended, last_ended}

abbrev pub run0 : List (CallRecord (Unit {0}))
run0 = []

abbrev pub write : Accepted
write = sector_request (abstract_after_all first run0).machine 1 Write 100

abbrev pub event1 : CallRecord (Unit {0})
event1 = call (Submit write.asked) (Submitted (Ok (id 1))) (Issue mode (newly_accepted write) ∷ Accept write ∷ [])

abbrev pub run1 : List (CallRecord (Unit {0}))
run1 = event1 ∷ run0

abbrev pub read : Accepted
read = sector_request (abstract_after_all first run1).machine 2 Read 101

abbrev event2 : CallRecord (Unit {0})
event2 = call (Submit read.asked) (Submitted (Ok (id 2))) (Accept read ∷ [])

abbrev pub run2 : List (CallRecord (Unit {0}))
run2 = event2 ∷ run1

abbrev event3 : CallRecord (Unit {0})
event3 = call Service (Replied (reply 1 ∷ [])) (Issue mode (newly_accepted read) ∷ served write)

abbrev run3 : List (CallRecord (Unit {0}))
run3 = event3 ∷ run2

-- the bytes that the write left
abbrev moved : Block
moved = (abstract_after_all first run3).machine.disk_bytes port 100

-- the device ends the read
abbrev event4 : CallRecord (Unit {0})
event4 = call (StepDevice tt) (Stepped true) (End (touch 0 (newly_issued (newly_accepted read))) ∷ Touch (newly_issued (newly_accepted read)) 0 moved ∷ [])

abbrev run4 : List (CallRecord (Unit {0}))
run4 = event4 ∷ run3

abbrev event5 : CallRecord (Unit {0})
event5 = call Service (Replied (reply 2 ∷ [])) (Answer (done read) outcome.Ok ∷ [])

abbrev run5 : List (CallRecord (Unit {0}))
run5 = event5 ∷ run4

quiet0 : IsQuiet 0 (abstract_after_all first run0)
quiet0 = record { rows = refl; mine = row_zero; ready = refl; size = refl; room = omega arith; few = omega arith }

quiet1 : IsQuiet 0 (abstract_after_all first run1)
quiet1 = record { rows = refl; mine = row_zero; ready = refl; size = refl; room = omega arith; few = omega arith }

pub happens1 : Happens (abstract_after_all first run0) event1
happens1 = record {
  steps_are_enabled = ((tt, new 0 (abstract_after_all first run0) write quiet0 (fit_write (abstract_after_all first run0) 100 quiet0 refl refl) refl refl refl), (contains_here (newly_accepted write) [] (newly_accepted write) refl, record { is_in_book = contains_here (unanswered (newly_accepted write)) [] (unanswered (newly_accepted write)) refl; waits_and_nothing_blocks = refl; slot_is_left = λ _. omega arith }, λ e h. absurd (contains_none e h), granted 0 row_zero refl));
  steps_are_of_call = ((tt, inr refl), inr (refl, refl));
  issue_is_last_of_request = ((tt, λ id h i. false≢true i), λ id h i. false≢true i);
  answers_are_lawful = tt;
  ports_are_well_formed = ports_fit Ready refl;
  unanswered_keep_serial_and_size = λ e o h i same. (refl, refl);
  result_matches_steps = (acceptable 0 (admission_context_of (abstract_after_all first run0)) write.asked (fit_write (abstract_after_all first run0) 100 quiet0 refl refl), (write, refl, refl), λ p. (refl, refl, refl, refl, refl, refl), λ p _. one_issued (unanswered (newly_issued (newly_accepted write))) refl p);
}

-- the write in its slot, and the read after it
abbrev pub book : List Unanswered
book = unanswered (newly_issued (newly_accepted write)) ∷ unanswered (newly_accepted read) ∷ []

-- neither is due
pub none_due : (p : Port) → NoneDue mode book p
none_due p r here due = ⊎_elim
    (λ e. issued_not_due mode book r (ap (λ (x : Unanswered). x.issued) e) due)
    (λ i. ⊎_elim
    (λ e. false≢true (ap (λ (x : Unanswered). is_waiting_and_unblocked mode book x) (sym e) ∙ due.waits_and_nothing_blocks))
    (λ n. contains_none r n)
    (contains_cases (unanswered (newly_accepted read)) [] r i))
    (contains_cases (unanswered (newly_issued (newly_accepted write))) (unanswered (newly_accepted read) ∷ []) r due.is_in_book)

pub happens2 : Happens (abstract_after_all first run1) event2
happens2 = record {
  steps_are_enabled = (tt, new 0 (abstract_after_all first run1) read quiet1 (fit_read 0 (abstract_after_all first run1) 101 quiet1 refl refl) refl refl refl);
  steps_are_of_call = (tt, inr refl);
  issue_is_last_of_request = (tt, λ id h i. false≢true i);
  answers_are_lawful = tt;
  ports_are_well_formed = ports_fit Ready refl;
  unanswered_keep_serial_and_size = λ e o h i same. (refl, refl);
  result_matches_steps = (acceptable 0 (admission_context_of (abstract_after_all first run1)) read.asked (fit_read 0 (abstract_after_all first run1) 101 quiet1 refl refl), (read, refl, refl), λ p. (refl, refl, refl, refl, refl, refl), λ p _. none_due p);
}

happens3 : Happens (abstract_after_all first run2) event3
happens3 = record {
  steps_are_enabled = (
    (
      (
        (tt, (inl (contains_here (newly_issued (newly_accepted write)) (newly_accepted read ∷ []) (newly_issued (newly_accepted write)) refl, refl), omega arith, refl, omega arith, λ _ b lt. refl)),
        (inl (contains_here (touch 0 (newly_issued (newly_accepted write))) (newly_accepted read ∷ []) (touch 0 (newly_issued (newly_accepted write))) refl, refl), one_touched, refl),
      ),
      (contains_here (done write) (newly_accepted read ∷ []) (done write) refl, tt),
    ),
    (contains_here (newly_accepted read) [] (newly_accepted read) refl, record { is_in_book = contains_here (unanswered (newly_accepted read)) [] (unanswered (newly_accepted read)) refl; waits_and_nothing_blocks = refl; slot_is_left = λ _. omega arith }, λ e h. absurd (contains_none e h), granted 0 row_zero refl),
  );
  steps_are_of_call = ((((tt, inl tt), inl tt), inr tt), inr (refl, refl));
  issue_is_last_of_request = ((((tt, λ id h i. false≢true i), λ id h i. false≢true i), λ id h i. false≢true i), λ id h i. false≢true i);
  answers_are_lawful = (tt, (record { pending = newly_issued (newly_accepted write); is_in_book = contains_here (newly_issued (newly_accepted write)) (newly_accepted read ∷ []) (newly_issued (newly_accepted write)) refl; id_is = refl; issued = refl }, refl, one_touched, refl));
  ports_are_well_formed = ports_fit Ready refl;
  unanswered_keep_serial_and_size = λ e o h i same. (refl, refl);
  result_matches_steps = plain_service (abstract_after_all first run2).machine (abstract_after_all first run3).machine event3.steps (reply 1 ∷ []) (one_told (done write) outcome.Ok event3.steps refl (reply 1) refl) refl (none_ended (abstract_after_all first run2).machine event3.steps refl) (λ p. one_issued (unanswered (newly_issued (newly_accepted read))) refl p) (only_one (newly_issued (newly_accepted read)) (λ e. e.request.port ≡ port) refl);
}

happens4 : Happens (abstract_after_all first run3) event4
happens4 = record {
  steps_are_enabled = ((tt, (inl (contains_here (newly_issued (newly_accepted read)) [] (newly_issued (newly_accepted read)) refl, refl), omega arith, refl, omega arith, λ e. absurd (false≢true (sym (ap is_reader e))))), (inl (contains_here (touch 0 (newly_issued (newly_accepted read))) [] (touch 0 (newly_issued (newly_accepted read))) refl, refl), one_touched, refl));
  steps_are_of_call = ((tt, inl tt), inl tt);
  issue_is_last_of_request = ((tt, λ id h i. false≢true i), λ id h i. false≢true i);
  answers_are_lawful = tt;
  ports_are_well_formed = ports_fit Ready refl;
  unanswered_keep_serial_and_size = λ e o h i same. (refl, refl);
  result_matches_steps = (((tt, tt), tt), λ p. (refl, refl, refl, refl, refl, refl));
}

happens5 : Happens (abstract_after_all first run4) event5
happens5 = record {
  steps_are_enabled = (tt, (contains_here (done read) [] (done read) refl, tt));
  steps_are_of_call = (tt, inr tt);
  issue_is_last_of_request = (tt, λ id h i. false≢true i);
  answers_are_lawful = (tt, (record { pending = done read; is_in_book = contains_here (done read) [] (done read) refl; id_is = refl; issued = refl }, refl, one_touched, refl));
  ports_are_well_formed = ports_fit Ready refl;
  unanswered_keep_serial_and_size = λ e o h i same. (refl, refl);
  result_matches_steps = plain_service (abstract_after_all first run4).machine (abstract_after_all first run5).machine event5.steps (reply 2 ∷ []) (one_told (done read) outcome.Ok event5.steps refl (reply 2) refl) refl (last_ended (abstract_after_all first run4).machine event5.steps [] (done read) refl refl (done read) refl (0, omega arith, refl)) (λ p. none_there p) (λ e h. absurd (contains_none e h));
}

pub waits_its_turn : WaitsItsTurn
waits_its_turn = record {
  initial_state = first;
  run = run5;
  runs = ((((((empty_starts, ports_fit Ready refl), happens1), happens2), happens3), happens4), happens5);
  steps_are_faithful = ((((((((((tt, tt), tt), tt), λ e. absurd (false≢true (ap is_reader e))), tt), tt), tt), λ _ b lt. refl), tt), tt);
  early = run2;
  answering_call = event3;
  ending = event4;
  service = event5;
  run_is = refl;
  issued = newly_issued (newly_accepted write);
  waiter = newly_accepted read;
  book_has_both = refl;
  is_issued = refl;
  is_waiting = refl;
  waiter_conflicts = refl;
  done = done write;
  answers = contains_there (Issue mode (newly_accepted read)) (served write) (Answer (done write) outcome.Ok)
      (contains_here (Answer (done write) outcome.Ok) (End (touch 0 (newly_issued (newly_accepted write))) ∷ Touch (newly_issued (newly_accepted write)) 0 (write.blocks_at_acceptance 0) ∷ []) (Answer (done write) outcome.Ok) refl);
  request_is = refl;
  mode = mode;
  issues = contains_here (Issue mode (newly_accepted read)) (served write) (Issue mode (newly_accepted read)) refl;
  issued_waiter = newly_issued (newly_accepted read);
  book_has_issued_waiter = refl;
  not_ended = (refl, refl);
  device_is_told = refl;
  ended_waiter = done read;
  last_is_waiter = refl;
  book_has_ended_waiter = refl;
  had_ended = refl;
  asks_for_service = refl;
  answered = contains_here (Answer (done read) outcome.Ok) [] (Answer (done read) outcome.Ok) refl;
}
