-- A run in which a write is flushed and a later one isn't, and a read finds the one or the other after its disk was out.
use Rattle.std.proofs.Common.{Bool, false, cond, ◌==◌, ◌≡◌, ◌⊎◌, ℕ, ◌+◌, ◌-◌, ◌<◌, ◌&&◌, true, List, [], ◌∷◌, ◌++◌, slice_index, None, Ok, inl, inr, ⊎_elim, refl, sym, ap, ◌∙◌, subst, arith, le-leb, lt-ltb, eqb-true}
use Rattle.std.proofs.lemmas.Bool.{and_from, cond-true, false≢true, cond-false}
use Rattle.std.specs.List.{Contains}
use Rattle.std.specs.Prelude.{nat_le, nat_lt}
use Rattle.ata_types.specs.declared.Port.{Port}
use Rattle.ata_types.specs.declared.PortState.TheVariants.{Absent, Ready}
use Rattle.ata_types.specs.declared.request.Op.TheVariants.{Read, Write, Flush}
use Rattle.ata_types.specs.declared.request.Outcome.TheVariants as outcome
use Rattle.block_machine.specs.DueRequests.{is_flush}
use Rattle.block_machine.specs.Ports.{Evidence}
use Rattle.block_machine.specs.State.{Block, DiskBytes, Accepted, block_of, is_reader, unanswered}
use Rattle.block_machine.specs.Steps.{Step, Accept, Issue, Touch, End, Answer, Unplug, PlugDisk, Store, Load, newly_accepted, newly_issued, touch, mark_ended, HoldsOrHeldSinceFlush, SameBytes}
use Rattle.block_machine.specs.Events.{Submit, StoreAt, LoadAt, Service, StepDevice, Submitted, Stored, Loaded, Replied, Stepped, CallRecord, Happens, IsRun, abstract_after_all, admission_context_of, steps_of, ShowsDisk}
use Rattle.machine_runs.specs.ExampleRuns.{FindsFlushedOrLater, ReplugIsFaithful, ReadsOneOf}
use Rattle.block_machine.proofs.Members.{contains_none, contains_here, contains_there, contains_cases}
use Rattle.block_machine.proofs.Setting.{client, port, frame, request, empty_starts, acceptable, granted}
use Rattle.machine_runs.proofs.Scene.{none, mode, first, at_port, ports_in, id, call, reply, sector_request, done, served, is_open, IsQuiet, row_zero, fit_write, fit_read, fit_flush, new, one_issued, none_there, one_told, none_told, one_touched, ports_fit, none_dead, none_unplugged, plain_service, ready_port, shows_none, changed_here, absent_not_dead, none_ended}

abbrev run0 : List (CallRecord (Unit {0}))
run0 = []

abbrev event1 : CallRecord (Unit {0})
event1 = call (StoreAt client (frame 100) 0 (90 ∷ [])) (Stored None) (Store client (frame 100) 0 (90 ∷ []) ∷ [])

abbrev run1 : List (CallRecord (Unit {0}))
run1 = event1 ∷ []

abbrev write : Accepted
write = sector_request (abstract_after_all first run1).machine 1 Write 100

abbrev event2 : CallRecord (Unit {0})
event2 = call (Submit write.asked) (Submitted (Ok (id 1))) (Issue mode (newly_accepted write) ∷ Accept write ∷ [])

abbrev run2 : List (CallRecord (Unit {0}))
run2 = event2 ∷ run1

abbrev event3 : CallRecord (Unit {0})
event3 = call Service (Replied (reply 1 ∷ [])) (served write)

abbrev run3 : List (CallRecord (Unit {0}))
run3 = event3 ∷ run2

abbrev flush : Accepted
flush = record { id = id 2; port = port; asked = request 0 Flush 0 0 []; blocks_at_acceptance = block_of (abstract_after_all first run3).machine.memory [] }

abbrev event4 : CallRecord (Unit {0})
event4 = call (Submit flush.asked) (Submitted (Ok (id 2))) (Issue mode (newly_accepted flush) ∷ Accept flush ∷ [])

abbrev run4 : List (CallRecord (Unit {0}))
run4 = event4 ∷ run3

abbrev event5 : CallRecord (Unit {0})
event5 = call Service (Replied (reply 2 ∷ [])) (Answer (mark_ended (newly_issued (newly_accepted flush))) outcome.Ok ∷ End (newly_issued (newly_accepted flush)) ∷ [])

abbrev run5 : List (CallRecord (Unit {0}))
run5 = event5 ∷ run4

abbrev event6 : CallRecord (Unit {0})
event6 = call (StoreAt client (frame 100) 0 (91 ∷ [])) (Stored None) (Store client (frame 100) 0 (91 ∷ []) ∷ [])

abbrev run6 : List (CallRecord (Unit {0}))
run6 = event6 ∷ run5

abbrev later : Accepted
later = sector_request (abstract_after_all first run6).machine 3 Write 100

abbrev event7 : CallRecord (Unit {0})
event7 = call (Submit later.asked) (Submitted (Ok (id 3))) (Issue mode (newly_accepted later) ∷ Accept later ∷ [])

abbrev run7 : List (CallRecord (Unit {0}))
run7 = event7 ∷ run6

abbrev event8 : CallRecord (Unit {0})
event8 = call Service (Replied (reply 3 ∷ [])) (served later)

abbrev run8 : List (CallRecord (Unit {0}))
run8 = event8 ∷ run7

-- what the disk held when the flush was ended
abbrev flushed_disk : DiskBytes
flushed_disk = (abstract_after_all first run5).machine.disk_bytes port

-- the disk is taken out
abbrev event9 : CallRecord (Unit {0})
event9 = call (StepDevice tt) (Stepped true) (Unplug port ∷ [])

abbrev run9 : List (CallRecord (Unit {0}))
run9 = event9 ∷ run8

-- what the device vouches for where port 0 told that its disk went
abbrev gone : Evidence
gone = record { faults = []; lost = port ∷ []; link_changed = port ∷ []; showing_error = []; showing_fatal_error = []; stopped = port ∷ []; stuck = [] }

-- a service notices
abbrev event10 : CallRecord (Unit {0})
event10 = record { call = Service; result = Replied []; evidence = gone; steps = []; ports = ports_in Absent }

abbrev run10 : List (CallRecord (Unit {0}))
run10 = event10 ∷ run9

-- the disk comes back, with these bytes
abbrev event11 : DiskBytes → CallRecord (Unit {0})
event11 disk = record { call = StepDevice tt; result = Stepped true; evidence = none; steps = PlugDisk port 0 200 disk ∷ []; ports = ports_in Absent }

abbrev run11 : DiskBytes → List (CallRecord (Unit {0}))
run11 disk = event11 disk ∷ run10

-- a service boots the port, which it stops first
abbrev booting : Evidence
booting = record { faults = []; lost = port ∷ []; link_changed = []; showing_error = []; showing_fatal_error = []; stopped = port ∷ []; stuck = [] }

abbrev event12 : CallRecord (Unit {0})
event12 = record { call = Service; result = Replied []; evidence = booting; steps = []; ports = ports_in Ready }

abbrev run12 : DiskBytes → List (CallRecord (Unit {0}))
run12 disk = event12 ∷ run11 disk

abbrev read : DiskBytes → Accepted
read disk = sector_request (abstract_after_all first (run12 disk)).machine 4 Read 101

abbrev event13 : DiskBytes → CallRecord (Unit {0})
event13 disk = call (Submit (read disk).asked) (Submitted (Ok (id 4))) (Issue mode (newly_accepted (read disk)) ∷ Accept (read disk) ∷ [])

abbrev run13 : DiskBytes → List (CallRecord (Unit {0}))
run13 disk = event13 disk ∷ run12 disk

abbrev read_served : DiskBytes → List Step
read_served disk = Answer (done (read disk)) outcome.Ok ∷ End (touch 0 (newly_issued (newly_accepted (read disk)))) ∷ Touch (newly_issued (newly_accepted (read disk))) 0 (disk 100) ∷ []

abbrev event14 : DiskBytes → CallRecord (Unit {0})
event14 disk = call Service (Replied (reply 4 ∷ [])) (read_served disk)

abbrev run14 : DiskBytes → List (CallRecord (Unit {0}))
run14 disk = event14 disk ∷ run13 disk

-- the client is told the first byte
abbrev event15 : DiskBytes → CallRecord (Unit {0})
event15 disk = call (LoadAt client (frame 101) 0 1) (Loaded (Ok (disk 100 0 ∷ []))) (Load client (frame 101) 0 (disk 100 0 ∷ []) ∷ [])

abbrev run15 : DiskBytes → List (CallRecord (Unit {0}))
run15 disk = event15 disk ∷ run14 disk

quiet1 : IsQuiet 0 (abstract_after_all first run1)
quiet1 = record { rows = refl; mine = row_zero; ready = refl; size = refl; room = omega arith; few = omega arith }

quiet3 : IsQuiet 0 (abstract_after_all first run3)
quiet3 = record { rows = refl; mine = row_zero; ready = refl; size = refl; room = omega arith; few = omega arith }

quiet6 : IsQuiet 0 (abstract_after_all first run6)
quiet6 = record { rows = refl; mine = row_zero; ready = refl; size = refl; room = omega arith; few = omega arith }

quiet12 : (disk : DiskBytes) → IsQuiet 0 (abstract_after_all first (run12 disk))
quiet12 disk = record { rows = refl; mine = row_zero; ready = refl; size = refl; room = omega arith; few = omega arith }

happens1 : Happens (abstract_after_all first run0) event1
happens1 = record {
  steps_are_enabled = (tt, is_open (abstract_after_all first run0).machine 100 0 1 refl refl (omega arith));
  steps_are_of_call = (tt, inr (refl, refl, refl, refl));
  issue_is_last_of_request = (tt, λ id h i. false≢true i);
  answers_are_lawful = tt;
  ports_are_well_formed = ports_fit Ready refl;
  unanswered_keep_serial_and_size = λ e o h i same. (refl, refl);
  result_matches_steps = (λ p. (refl, refl, refl, refl, refl, refl), is_open (abstract_after_all first run0).machine 100 0 1 refl refl (omega arith), refl);
}

happens2 : Happens (abstract_after_all first run1) event2
happens2 = record {
  steps_are_enabled = ((tt, new 0 (abstract_after_all first run1) write quiet1 (fit_write (abstract_after_all first run1) 100 quiet1 refl refl) refl refl refl), (contains_here (newly_accepted write) [] (newly_accepted write) refl, record { is_in_book = contains_here (unanswered (newly_accepted write)) [] (unanswered (newly_accepted write)) refl; waits_and_nothing_blocks = refl; slot_is_left = λ _. omega arith }, λ e h. absurd (contains_none e h), granted 0 row_zero refl));
  steps_are_of_call = ((tt, inr refl), inr (refl, refl));
  issue_is_last_of_request = ((tt, λ id h i. false≢true i), λ id h i. false≢true i);
  answers_are_lawful = tt;
  ports_are_well_formed = ports_fit Ready refl;
  unanswered_keep_serial_and_size = λ e o h i same. (refl, refl);
  result_matches_steps = (acceptable 0 (admission_context_of (abstract_after_all first run1)) write.asked (fit_write (abstract_after_all first run1) 100 quiet1 refl refl), (write, refl, refl), λ p. (refl, refl, refl, refl, refl, refl), λ p _. one_issued (unanswered (newly_issued (newly_accepted write))) refl p);
}

happens3 : Happens (abstract_after_all first run2) event3
happens3 = record {
  steps_are_enabled = (((tt, (inl (contains_here (newly_issued (newly_accepted write)) [] (newly_issued (newly_accepted write)) refl, refl), omega arith, refl, omega arith, λ _ b lt. refl)), (inl (contains_here (touch 0 (newly_issued (newly_accepted write))) [] (touch 0 (newly_issued (newly_accepted write))) refl, refl), one_touched, refl)), (contains_here (done write) [] (done write) refl, tt));
  steps_are_of_call = (((tt, inl tt), inl tt), inr tt);
  issue_is_last_of_request = (((tt, λ id h i. false≢true i), λ id h i. false≢true i), λ id h i. false≢true i);
  answers_are_lawful = (tt, (record { pending = newly_issued (newly_accepted write); is_in_book = contains_here (newly_issued (newly_accepted write)) [] (newly_issued (newly_accepted write)) refl; id_is = refl; issued = refl }, refl, one_touched, refl));
  ports_are_well_formed = ports_fit Ready refl;
  unanswered_keep_serial_and_size = λ e o h i same. (refl, refl);
  result_matches_steps = plain_service (abstract_after_all first run2).machine (abstract_after_all first run3).machine event3.steps (reply 1 ∷ []) (one_told (done write) outcome.Ok event3.steps refl (reply 1) refl) refl (none_ended (abstract_after_all first run2).machine event3.steps refl) (λ p. none_there p) (λ e h. absurd (contains_none e h));
}

happens4 : Happens (abstract_after_all first run3) event4
happens4 = record {
  steps_are_enabled = ((tt, new 0 (abstract_after_all first run3) flush quiet3 (fit_flush (abstract_after_all first run3) quiet3) refl refl refl), (contains_here (newly_accepted flush) [] (newly_accepted flush) refl, record { is_in_book = contains_here (unanswered (newly_accepted flush)) [] (unanswered (newly_accepted flush)) refl; waits_and_nothing_blocks = refl; slot_is_left = λ _. omega arith }, λ e h. absurd (contains_none e h), granted 0 row_zero refl));
  steps_are_of_call = ((tt, inr refl), inr (refl, refl));
  issue_is_last_of_request = ((tt, λ id h i. false≢true i), λ id h i. false≢true i);
  answers_are_lawful = tt;
  ports_are_well_formed = ports_fit Ready refl;
  unanswered_keep_serial_and_size = λ e o h i same. (refl, refl);
  result_matches_steps = (acceptable 0 (admission_context_of (abstract_after_all first run3)) flush.asked (fit_flush (abstract_after_all first run3) quiet3), (flush, refl, refl), λ p. (refl, refl, refl, refl, refl, refl), λ p _. one_issued (unanswered (newly_issued (newly_accepted flush))) refl p);
}

happens5 : Happens (abstract_after_all first run4) event5
happens5 = record {
  steps_are_enabled = ((tt, (inl (contains_here (newly_issued (newly_accepted flush)) [] (newly_issued (newly_accepted flush)) refl, refl), (λ k lt. absurd (omega (arith, lt))), refl)), (contains_here (mark_ended (newly_issued (newly_accepted flush))) [] (mark_ended (newly_issued (newly_accepted flush))) refl, tt));
  steps_are_of_call = ((tt, inl tt), inr tt);
  issue_is_last_of_request = ((tt, λ id h i. false≢true i), λ id h i. false≢true i);
  answers_are_lawful = (tt, (record { pending = newly_issued (newly_accepted flush); is_in_book = contains_here (newly_issued (newly_accepted flush)) [] (newly_issued (newly_accepted flush)) refl; id_is = refl; issued = refl }, refl, (λ k lt. absurd (omega (arith, lt))), refl));
  ports_are_well_formed = ports_fit Ready refl;
  unanswered_keep_serial_and_size = λ e o h i same. (refl, refl);
  result_matches_steps = plain_service (abstract_after_all first run4).machine (abstract_after_all first run5).machine event5.steps (reply 2 ∷ []) (one_told (mark_ended (newly_issued (newly_accepted flush))) outcome.Ok event5.steps refl (reply 2) refl) refl (none_ended (abstract_after_all first run4).machine event5.steps refl) (λ p. none_there p) (λ e h. absurd (contains_none e h));
}

happens6 : Happens (abstract_after_all first run5) event6
happens6 = record {
  steps_are_enabled = (tt, is_open (abstract_after_all first run5).machine 100 0 1 refl refl (omega arith));
  steps_are_of_call = (tt, inr (refl, refl, refl, refl));
  issue_is_last_of_request = (tt, λ id h i. false≢true i);
  answers_are_lawful = tt;
  ports_are_well_formed = ports_fit Ready refl;
  unanswered_keep_serial_and_size = λ e o h i same. (refl, refl);
  result_matches_steps = (λ p. (refl, refl, refl, refl, refl, refl), is_open (abstract_after_all first run5).machine 100 0 1 refl refl (omega arith), refl);
}

happens7 : Happens (abstract_after_all first run6) event7
happens7 = record {
  steps_are_enabled = ((tt, new 0 (abstract_after_all first run6) later quiet6 (fit_write (abstract_after_all first run6) 100 quiet6 refl refl) refl refl refl), (contains_here (newly_accepted later) [] (newly_accepted later) refl, record { is_in_book = contains_here (unanswered (newly_accepted later)) [] (unanswered (newly_accepted later)) refl; waits_and_nothing_blocks = refl; slot_is_left = λ _. omega arith }, λ e h. absurd (contains_none e h), granted 0 row_zero refl));
  steps_are_of_call = ((tt, inr refl), inr (refl, refl));
  issue_is_last_of_request = ((tt, λ id h i. false≢true i), λ id h i. false≢true i);
  answers_are_lawful = tt;
  ports_are_well_formed = ports_fit Ready refl;
  unanswered_keep_serial_and_size = λ e o h i same. (refl, refl);
  result_matches_steps = (acceptable 0 (admission_context_of (abstract_after_all first run6)) later.asked (fit_write (abstract_after_all first run6) 100 quiet6 refl refl), (later, refl, refl), λ p. (refl, refl, refl, refl, refl, refl), λ p _. one_issued (unanswered (newly_issued (newly_accepted later))) refl p);
}

happens8 : Happens (abstract_after_all first run7) event8
happens8 = record {
  steps_are_enabled = (((tt, (inl (contains_here (newly_issued (newly_accepted later)) [] (newly_issued (newly_accepted later)) refl, refl), omega arith, refl, omega arith, λ _ b lt. refl)), (inl (contains_here (touch 0 (newly_issued (newly_accepted later))) [] (touch 0 (newly_issued (newly_accepted later))) refl, refl), one_touched, refl)), (contains_here (done later) [] (done later) refl, tt));
  steps_are_of_call = (((tt, inl tt), inl tt), inr tt);
  issue_is_last_of_request = (((tt, λ id h i. false≢true i), λ id h i. false≢true i), λ id h i. false≢true i);
  answers_are_lawful = (tt, (record { pending = newly_issued (newly_accepted later); is_in_book = contains_here (newly_issued (newly_accepted later)) [] (newly_issued (newly_accepted later)) refl; id_is = refl; issued = refl }, refl, one_touched, refl));
  ports_are_well_formed = ports_fit Ready refl;
  unanswered_keep_serial_and_size = λ e o h i same. (refl, refl);
  result_matches_steps = plain_service (abstract_after_all first run7).machine (abstract_after_all first run8).machine event8.steps (reply 3 ∷ []) (one_told (done later) outcome.Ok event8.steps refl (reply 3) refl) refl (none_ended (abstract_after_all first run7).machine event8.steps refl) (λ p. none_there p) (λ e h. absurd (contains_none e h));
}

happens9 : Happens (abstract_after_all first run8) event9
happens9 = record {
  steps_are_enabled = (tt, refl);
  steps_are_of_call = (tt, inl tt);
  issue_is_last_of_request = (tt, λ id h i. false≢true i);
  answers_are_lawful = tt;
  ports_are_well_formed = ports_fit Ready refl;
  unanswered_keep_serial_and_size = λ e o h i same. (refl, refl);
  result_matches_steps = ((tt, tt), λ p. (refl, refl, refl, refl, refl, refl));
}

-- the service that notices
happens10 : Happens (abstract_after_all first run9) event10
happens10 = record {
  steps_are_enabled = tt;
  steps_are_of_call = tt;
  issue_is_last_of_request = tt;
  answers_are_lawful = tt;
  ports_are_well_formed = ports_fit Absent refl;
  unanswered_keep_serial_and_size = λ e o h i same. (refl, refl);
  result_matches_steps = record {
    replies_match = none_told [] refl;
    dead_ports_tell_only_port_dead = λ e o i dead. none_dead e.request.port dead;
    unplugged_outcome_empties_port = none_unplugged [] (abstract_after_all first run10).machine refl;
    none_is_due_where_ready = λ p _. none_there p;
    empty_unless_ready = λ p ne e h. absurd (contains_none e h);
    answers_ok_what_had_ended = λ p _. none_ended (abstract_after_all first run9).machine [] refl p;
    port_is_serviced = λ p. (λ dead. none_dead p dead, λ _. (record { served_is_unchanged = refl; dead_exactly_if_stuck = (λ dead. absent_not_dead p dead, λ h. absurd (contains_none p h)); disk_is_remembered_unless_ready = λ _. (refl, refl) }, changed_here Ready Absent gone (inl (contains_here port [] port refl)) p));
    shown_disk_was_in_or_came = λ p. inr (λ shows. shows_none Absent (λ s. s) p shows);
  };
}

happens11 : (disk : DiskBytes) → Happens (abstract_after_all first run10) (event11 disk)
happens11 disk = record {
  steps_are_enabled = (tt, (refl, λ _. refl));
  steps_are_of_call = (tt, inl tt);
  issue_is_last_of_request = (tt, λ id h i. false≢true i);
  answers_are_lawful = tt;
  ports_are_well_formed = ports_fit Absent refl;
  unanswered_keep_serial_and_size = λ e o h i same. (refl, refl);
  result_matches_steps = ((tt, tt), λ p. (refl, refl, refl, refl, refl, refl));
}

shows_ready : (p : Port) → ShowsDisk (at_port Ready p) → at_port Ready p ≡ Ready
shows_ready p shows = go (p.0 == 0) shows
  where
    go : (b : Bool) → ShowsDisk (cond b Ready Absent) → cond b Ready Absent ≡ Ready
    go true s = refl
    go false s = absurd s

-- the port that gets ready has the disk that was put in
present : (p : Port) → at_port Ready p ≡ Ready → (abstract_after_all first (run11 (λ k b. 0))).machine.present p ≡ true
present p ready = ap (abstract_after_all first (run11 (λ k b. 0))).machine.present (ready_port p ready)

happens12 : (disk : DiskBytes) → Happens (abstract_after_all first (run11 disk)) event12
happens12 disk = record {
  steps_are_enabled = tt;
  steps_are_of_call = tt;
  issue_is_last_of_request = tt;
  answers_are_lawful = tt;
  ports_are_well_formed = ports_fit Ready refl;
  unanswered_keep_serial_and_size = λ e o h i same. absurd (contains_none e h);
  result_matches_steps = record {
    replies_match = none_told [] refl;
    dead_ports_tell_only_port_dead = λ e o i dead. absent_not_dead e.request.port dead;
    unplugged_outcome_empties_port = none_unplugged [] (abstract_after_all first (run12 disk)).machine refl;
    none_is_due_where_ready = λ p _. none_there p;
    empty_unless_ready = λ p ne e h. absurd (contains_none e h);
    answers_ok_what_had_ended = λ p _. none_ended (abstract_after_all first (run11 disk)).machine [] refl p;
    port_is_serviced = λ p. (λ dead. absent_not_dead p dead, λ _. (record { served_is_unchanged = refl; dead_exactly_if_stuck = (λ dead. none_dead p dead, λ h. absurd (contains_none p h)); disk_is_remembered_unless_ready = λ _. (refl, refl) }, changed_here Absent Ready booting (inl (contains_here port [] port refl)) p));
    shown_disk_was_in_or_came = λ p. inr (λ shows. inl (present p (shows_ready p shows)));
  };
}

happens13 : (disk : DiskBytes) → Happens (abstract_after_all first (run12 disk)) (event13 disk)
happens13 disk = record {
  steps_are_enabled = ((tt, new 0 (abstract_after_all first (run12 disk)) (read disk) (quiet12 disk) (fit_read 0 (abstract_after_all first (run12 disk)) 101 (quiet12 disk) refl refl) refl refl refl), (contains_here (newly_accepted (read disk)) [] (newly_accepted (read disk)) refl, record { is_in_book = contains_here (unanswered (newly_accepted (read disk))) [] (unanswered (newly_accepted (read disk))) refl; waits_and_nothing_blocks = refl; slot_is_left = λ _. omega arith }, λ e h. absurd (contains_none e h), granted 0 row_zero refl));
  steps_are_of_call = ((tt, inr refl), inr (refl, refl));
  issue_is_last_of_request = ((tt, λ id h i. false≢true i), λ id h i. false≢true i);
  answers_are_lawful = tt;
  ports_are_well_formed = ports_fit Ready refl;
  unanswered_keep_serial_and_size = λ e o h i same. (refl, refl);
  result_matches_steps = (acceptable 0 (admission_context_of (abstract_after_all first (run12 disk))) (read disk).asked (fit_read 0 (abstract_after_all first (run12 disk)) 101 (quiet12 disk) refl refl), (read disk, refl, refl), λ p. (refl, refl, refl, refl, refl, refl), λ p _. one_issued (unanswered (newly_issued (newly_accepted (read disk)))) refl p);
}

happens14 : (disk : DiskBytes) → Happens (abstract_after_all first (run13 disk)) (event14 disk)
happens14 disk = record {
  steps_are_enabled = (((tt, (inl (contains_here (newly_issued (newly_accepted (read disk))) [] (newly_issued (newly_accepted (read disk))) refl, refl), omega arith, refl, omega arith, λ e. absurd (false≢true (sym (ap is_reader e))))), (inl (contains_here (touch 0 (newly_issued (newly_accepted (read disk)))) [] (touch 0 (newly_issued (newly_accepted (read disk)))) refl, refl), one_touched, refl)), (contains_here (done (read disk)) [] (done (read disk)) refl, tt));
  steps_are_of_call = (((tt, inl tt), inl tt), inr tt);
  issue_is_last_of_request = (((tt, λ id h i. false≢true i), λ id h i. false≢true i), λ id h i. false≢true i);
  answers_are_lawful = (tt, (record { pending = newly_issued (newly_accepted (read disk)); is_in_book = contains_here (newly_issued (newly_accepted (read disk))) [] (newly_issued (newly_accepted (read disk))) refl; id_is = refl; issued = refl }, refl, one_touched, refl));
  ports_are_well_formed = ports_fit Ready refl;
  unanswered_keep_serial_and_size = λ e o h i same. (refl, refl);
  result_matches_steps = plain_service (abstract_after_all first (run13 disk)).machine (abstract_after_all first (run14 disk)).machine (event14 disk).steps (reply 4 ∷ []) (one_told (done (read disk)) outcome.Ok (event14 disk).steps refl (reply 4) refl) refl (none_ended (abstract_after_all first (run13 disk)).machine (event14 disk).steps refl) (λ p. none_there p) (λ e h. absurd (contains_none e h));
}

loaded : (disk : DiskBytes) (b : ℕ) → b < 1 → slice_index (disk 100 0 ∷ []) b ≡ (abstract_after_all first (run14 disk)).machine.memory (frame 101) (0 + b)
loaded disk b lt = let z : b ≡ 0 = omega arith in subst (λ k. slice_index (disk 100 0 ∷ []) k ≡ (abstract_after_all first (run14 disk)).machine.memory (frame 101) (0 + k)) (sym z) refl

happens15 : (disk : DiskBytes) → Happens (abstract_after_all first (run14 disk)) (event15 disk)
happens15 disk = record {
  steps_are_enabled = (tt, (is_open (abstract_after_all first (run14 disk)).machine 101 0 1 refl refl (omega arith), loaded disk));
  steps_are_of_call = (tt, inr (refl, refl, refl, refl));
  issue_is_last_of_request = (tt, λ id h i. false≢true i);
  answers_are_lawful = tt;
  ports_are_well_formed = ports_fit Ready refl;
  unanswered_keep_serial_and_size = λ e o h i same. (refl, refl);
  result_matches_steps = (λ p. (refl, refl, refl, refl, refl, refl), is_open (abstract_after_all first (run14 disk)).machine 101 0 1 refl refl (omega arith), refl);
}

runs10 : IsRun first run10
runs10 = (((((((((((empty_starts, ports_fit Ready refl), happens1), happens2), happens3), happens4), happens5), happens6), happens7), happens8), happens9), happens10)

-- What the sector held since the flush was ended: the bytes of the one write or of the other.
since_flush : (block : Block) → HoldsOrHeldSinceFlush (abstract_after_all first run10).machine port 100 block → SameBytes block (write.blocks_at_acceptance 0) ⊎ SameBytes block (later.blocks_at_acceptance 0)
since_flush block (inl p) = inr p
since_flush block (inr (old, here, same)) = ⊎_elim
    (λ (p : old ≡ flushed_disk 100). inl (λ b lt. same b lt ∙ ap (λ (x : Block). x b) p))
    (λ none. absurd (contains_none old none))
    (contains_cases (flushed_disk 100) [] old here)

finds : (disk : DiskBytes) → ReplugIsFaithful first run10 port disk → ReadsOneOf first run10 disk write later
finds disk back = record {
  plug = event11 disk;
  service = event12;
  late = event15 disk ∷ event14 disk ∷ event13 disk ∷ [];
  runs = (((((runs10, happens11 disk), happens12 disk), happens13 disk), happens14 disk), happens15 disk);
  steps_are_faithful = ((((((((((((((((((((((((tt, tt), tt), tt), λ e. absurd (false≢true (ap is_reader e))), tt), tt), tt), tt), tt), tt), tt), tt), tt), λ e. absurd (false≢true (ap is_reader e))), tt), tt), tt), back), tt), tt), λ _ b lt. refl), tt), tt), tt);
  plug_is_replug = refl;
  asks_for_service = refl;
  port_becomes_ready = refl;
  read = done (read disk);
  reads = refl;
  read_is_of_port = refl;
  read_is_of_sector = refl;
  read_is_of_one_sector = refl;
  answered = contains_there (Load client (frame 101) 0 (disk 100 0 ∷ [])) (read_served disk ++ (event13 disk).steps) (Answer (done (read disk)) outcome.Ok)
      (contains_here (Answer (done (read disk)) outcome.Ok) (End (touch 0 (newly_issued (newly_accepted (read disk)))) ∷ Touch (newly_issued (newly_accepted (read disk))) 0 (disk 100) ∷ (event13 disk).steps) (Answer (done (read disk)) outcome.Ok) refl);
  memory = (abstract_after_all first (run15 disk)).machine.memory;
  memory_is_at_end = refl;
  frame_holds_either = ⊎_elim (λ p. inl (has (write.blocks_at_acceptance 0) p)) (λ p. inr (has (later.blocks_at_acceptance 0) p)) (since_flush (disk 100) (back refl 100 (omega arith)));
}
  where
    has : (block : Block) → SameBytes (disk 100) block → SameBytes (block_of (abstract_after_all first (run15 disk)).machine.memory (frame 101 ∷ []) 0) block
    has block same b lt = let all : (0 + b) - 0 ≡ b = omega arith in
        cond-true (nat_le 0 (0 + b) && nat_lt (0 + b) 512) (disk 100 ((0 + b) - 0)) ((abstract_after_all first (run12 disk)).machine.memory (frame 101) (0 + b))
        (and_from _ _ (le-leb 0 (0 + b) (omega arith)) (lt-ltb (0 + b) 512 (omega (arith, lt)))) ∙ ap (disk 100) all ∙ same b lt

pub finds_the_flushed : FindsFlushedOrLater
finds_the_flushed = record {
  initial_state = first;
  early = run8;
  unplug = event9;
  service = event10;
  runs = runs10;
  write = write;
  flush = flush;
  later = later;
  writes = refl;
  write_is_of_one_sector = refl;
  flushed = record { op_changes_sectors = refl; flush_is = refl; flush_port_is = refl; flush_is_ok_after_write = inr (refl, inr (refl, inr (refl, inr (refl, inr (refl, inr (refl, inl (refl, inr (refl, inr (refl, inl (refl, inl (refl, inr (refl, inr (refl, inr (refl, inl refl)))))))))))))) };
  later_overwrites = (refl, refl);
  later_writes_other_bytes = λ e. differ e;
  done = done later;
  request_is = refl;
  answered = contains_here (Answer (done later) outcome.Ok) (End (touch 0 (newly_issued (newly_accepted later))) ∷ Touch (newly_issued (newly_accepted later)) 0 (later.blocks_at_acceptance 0) ∷ steps_of run7) (Answer (done later) outcome.Ok) refl;
  later_is_unflushed = unflushed;
  disk_is_unplugged = refl;
  asks_for_service = refl;
  port_becomes_absent = refl;
  reads_find_either = finds;
  later_may_survive = ((abstract_after_all first run8).machine.disk_bytes port, (λ _ k lt. inl (λ b lb. refl)), λ b lb. refl);
  later_may_be_lost = (flushed_disk, (λ _ k lt. lost k (k == 100) refl), λ b lb. refl);
}
  where
    -- the sector that was written since is put aside, and any other is as it was
    lost : (k : ℕ) (b : Bool) → (k == 100) ≡ b → HoldsOrHeldSinceFlush (abstract_after_all first run10).machine port k (flushed_disk k)
    lost k true at = inr (flushed_disk k, subst (λ (n : ℕ). Contains ((abstract_after_all first run10).machine.overwritten_since_flush port n) (flushed_disk n)) (sym (eqb-true k 100 at)) (contains_here (flushed_disk 100) [] (flushed_disk 100) refl), λ b lb. refl)
    lost k false away = inl (λ b lb. sym (ap (λ (x : Block). x b) (cond-false (k == 100) (later.blocks_at_acceptance 0) (flushed_disk k) away)))

    differ : ◌≡◌ {A = ℕ} 91 90 → ⊥
    differ e = omega (arith, e)

    unflushed : (r : Accepted) → Contains (later ∷ flush ∷ write ∷ []) r → r.asked.op ≡ Flush → r.id.0 < 3
    unflushed r h op = ⊎_elim
        (λ (p : r ≡ later). absurd (false≢true (ap is_flush (sym (ap (λ (x : Accepted). x.asked.op) p) ∙ op))))
        (λ i. ⊎_elim
        (λ (p : r ≡ flush). let two = ap (λ (x : Accepted). x.id.0) p in omega (arith, two))
        (λ j. ⊎_elim
        (λ (p : r ≡ write). let one = ap (λ (x : Accepted). x.id.0) p in omega (arith, one))
        (λ n. absurd (contains_none r n))
        (contains_cases write [] r j))
        (contains_cases flush (write ∷ []) r i))
        (contains_cases later (flush ∷ write ∷ []) r h)
