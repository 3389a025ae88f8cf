-- A run in which one port fails and another loses its disk.
use Rattle.std.proofs.Common.{◌≡◌, ◌⊎◌, ℕ, ◌<◌, ◌≤◌, ◌||◌, ◌==◌, Bool, true, false, cond, zero, suc, List, [], ◌∷◌, map, Ok, inl, inr, ⊎_elim, refl, sym, ap, ◌∙◌, subst, arith, eqb-true, eq-eqb}
use Rattle.std.proofs.lemmas.Bool.{false≢true, or_cases, cond-true, cond-false}
use Rattle.std.proofs.lemmas.List.Sorted.{IsPermutation-append_comm}
use Rattle.std.specs.List.{Contains}
use Rattle.std.specs.Prelude.{slice_index_or}
use Rattle.ata_types.specs.declared.limits.TheConstants.{MOST_UNANSWERED_OF_A_CLIENT}
use Rattle.ata_types.specs.declared.Port.{Port}
use Rattle.ata_types.specs.declared.PortState.{PortState}
use Rattle.ata_types.specs.declared.PortState.TheVariants.{Absent, Ready, Unfit, Dead}
use Rattle.ata_types.specs.declared.request.RequestId.{RequestId}
use Rattle.ata_types.specs.declared.request.Op.TheVariants.{Read, Write}
use Rattle.ata_types.specs.declared.request.Outcome.{Outcome}
use Rattle.ata_types.specs.declared.request.Outcome.TheVariants as outcome
use Rattle.block_machine.specs.Ports.{Ports, Evidence, PortsWellFormed, SamePort, IsStoppedOrStuck, MayBecomeInService}
use Rattle.block_machine.specs.State.{Accepted, Pending, Machine, unanswered, is_reader}
use Rattle.block_machine.specs.Steps.{Step, Accept, Issue, Touch, End, WaitAgain, Answer, Unplug, newly_accepted, newly_issued, touch, requeued}
use Rattle.block_machine.specs.Events.{AbstractState, Submit, Service, StepDevice, Submitted, Replied, Stepped, CallRecord, Happens, UnpluggedOutcomeEmptiesPort, RepliesMatch, IsLowerByPortThenId, IsIssuedIn, abstract_after, abstract_after_all, admission_context_of, steps_of, reply_of, ShowsDisk}
use Rattle.machine_runs.specs.ExampleRuns.{ServiceHandlesTwoFailedPorts}
use Rattle.block_machine.proofs.Members.{contains_none, contains_here, contains_there, contains_cases, none_of}
use Rattle.block_machine.proofs.Setting.{on, frame, row, two_rows, empty, empty_starts, acceptable, granted}
use Rattle.machine_runs.proofs.Scene.{none, mode, id, one_sector, done, is_dead, IsQuiet, row_zero, write_at, fit_read, new, none_waits, none_there, one_told, none_told, one_touched, none_unplugged, is_unfit, is_told_dead, emptied_at, none_ended, last_ended}

-- ports 0 and 1 in these states, and no other port
abbrev both : PortState → PortState → Port → PortState
both low high p = cond (p.0 == 0) low (cond (p.0 == 1) high Absent)

abbrev ports_in : PortState → PortState → Ports
ports_in low high = record { served = λ p. p.0 == 0 || p.0 == 1; state = both low high; serial = λ p. []; sectors = λ p. 200; zeroes_after_trim = λ p. true; mode = λ p. mode }

abbrev first : AbstractState
first = record { machine = empty; ports = ports_in Ready Ready }

abbrev submit : Accepted → CallRecord (Unit {0})
submit r = record { call = Submit r.asked; result = Submitted (Ok r.id); evidence = none; steps = Issue mode (newly_accepted r) ∷ Accept r ∷ []; ports = ports_in Ready Ready }

abbrev run0 : List (CallRecord (Unit {0}))
run0 = []

abbrev lost : Accepted
lost = one_sector 1 empty 1 Read 100 102

abbrev run1 : List (CallRecord (Unit {0}))
run1 = submit lost ∷ run0

abbrev failed : Accepted
failed = one_sector 0 empty 2 Write 100 100

abbrev run2 : List (CallRecord (Unit {0}))
run2 = submit failed ∷ run1

abbrev again : Accepted
again = one_sector 0 empty 3 Write 101 101

abbrev run3 : List (CallRecord (Unit {0}))
run3 = submit again ∷ run2

abbrev finished : Accepted
finished = one_sector 0 empty 4 Write 102 103

abbrev run4 : List (CallRecord (Unit {0}))
run4 = submit finished ∷ run3

abbrev finishing : Pending
finishing = newly_issued (newly_accepted finished)

-- the device ends it
abbrev ending : CallRecord (Unit {0})
ending = record { call = StepDevice tt; result = Stepped true; evidence = none; steps = End (touch 0 finishing) ∷ Touch finishing 0 (finished.blocks_at_acceptance 0) ∷ []; ports = ports_in Ready Ready }

abbrev run5 : List (CallRecord (Unit {0}))
run5 = ending ∷ run4

abbrev unplug : CallRecord (Unit {0})
unplug = record { call = StepDevice tt; result = Stepped true; evidence = none; steps = Unplug (on 1) ∷ []; ports = ports_in Ready Ready }

abbrev run6 : List (CallRecord (Unit {0}))
run6 = unplug ∷ run5

-- the request that goes again, in its n-th issue
abbrev tried : ℕ → Pending
tried n = record (newly_issued (newly_accepted again)) { issue_count = n }

abbrev failing : Pending
failing = newly_issued (newly_accepted failed)

abbrev losing : Pending
losing = newly_issued (newly_accepted lost)

-- port 0 failed and told a fault, and port 1 told that its disk went; both were stopped
abbrev port_error : Evidence
port_error = record { faults = record { id = id 2; status = 65; error = 64 } ∷ []; lost = on 1 ∷ []; link_changed = on 1 ∷ []; showing_error = on 0 ∷ []; showing_fatal_error = []; stopped = on 0 ∷ on 1 ∷ []; stuck = [] }

abbrev requeuing : List Step
requeuing = WaitAgain (tried 1) ∷ Answer failing (outcome.DeviceError 65 64) ∷ Answer (done finished) outcome.Ok ∷ []

abbrev serving : List Step
serving = Answer losing outcome.Unplugged ∷ Issue mode (requeued (tried 1)) ∷ requeuing

abbrev service : CallRecord (Unit {0})
service = record {
  call = Service;
  result = Replied (reply_of (failing, outcome.DeviceError 65 64) ∷ reply_of (done finished, outcome.Ok) ∷ reply_of (losing, outcome.Unplugged) ∷ []);
  evidence = port_error;
  steps = serving;
  ports = ports_in Ready Absent;
}

abbrev run7 : List (CallRecord (Unit {0}))
run7 = service ∷ run6

-- port 0 failed, and was stopped
abbrev failure : Evidence
failure = record { faults = []; lost = []; link_changed = []; showing_error = on 0 ∷ []; showing_fatal_error = []; stopped = on 0 ∷ []; stuck = [] }

-- a service that issues it again
abbrev retry : ℕ → CallRecord (Unit {0})
retry n = record { call = Service; result = Replied []; evidence = failure; steps = Issue mode (requeued (tried n)) ∷ WaitAgain (tried n) ∷ []; ports = ports_in Ready Absent }

abbrev run9 : List (CallRecord (Unit {0}))
run9 = retry 3 ∷ retry 2 ∷ run7

abbrev abort : CallRecord (Unit {0})
abort = record { call = Service; result = Replied (reply_of (tried 4, outcome.Aborted) ∷ []); evidence = failure; steps = Answer (tried 4) outcome.Aborted ∷ []; ports = ports_in Ready Absent }

-- What holds of the ports.

not_dead : {A : Type 0} (low high : PortState) → is_dead low ≡ false → is_dead high ≡ false → (p : Port) → both low high p ≡ Dead → A
not_dead {A} low high z o p e = go (p.0 == 0) (p.0 == 1) e
  where
    go : (a b : Bool) → cond a low (cond b high Absent) ≡ Dead → A
    go true b e = absurd (false≢true (sym z ∙ ap is_dead e))
    go false true e = absurd (false≢true (sym o ∙ ap is_dead e))
    go false false e = absurd (false≢true (ap is_dead e))

fit : (low high : PortState) → is_unfit low ≡ false → is_unfit high ≡ false → PortsWellFormed (ports_in low high)
fit low high l h = record {
  served_are_ports_0_to_3 = λ p e. ⊎_elim (λ q. let n = eqb-true p.0 0 q in omega (arith, n)) (λ q. let n = eqb-true p.0 1 q in omega (arith, n)) (or_cases (p.0 == 0) (p.0 == 1) e);
  unserved_are_absent = λ p. go (p.0 == 0) (p.0 == 1);
  modes_are_valid = λ p e. (omega arith, omega arith, λ f. absurd (false≢true (sym f)));
  causes_are_valid = λ p cause e. unfit cause (p.0 == 0) (p.0 == 1) e;
}
  where
    unfit : (cause : ℕ) (a b : Bool) → cond a low (cond b high Absent) ≡ Unfit cause → (1 ≤ cause) × (cause ≤ 9)
    unfit cause true b e = absurd (false≢true (sym l ∙ ap is_unfit e))
    unfit cause false true e = absurd (false≢true (sym h ∙ ap is_unfit e))
    unfit cause false false e = absurd (false≢true (ap is_unfit e))

    go : (a b : Bool) → (a || b) ≡ false → cond a low (cond b high Absent) ≡ Absent
    go true b e = absurd (false≢true (sym e))
    go false true e = absurd (false≢true (sym e))
    go false false e = refl

-- where port 0 has a disk, each port that shows one has
in_zero : (m : Machine) → m.present (on 0) ≡ true → (p : Port) → ShowsDisk (both Ready Absent p) → m.present p ≡ true
in_zero m present p shows = go (p.0 == 0) refl (p.0 == 1) shows
  where
    go : (a : Bool) → (p.0 == 0) ≡ a → (b : Bool) → ShowsDisk (cond a Ready (cond b Absent Absent)) → m.present p ≡ true
    go true z b s = ap m.present (ap (λ (n : ℕ). record { 0 = n }) (eqb-true p.0 0 z)) ∙ present
    go false z true s = absurd s
    go false z false s = absurd s

-- a port that isn't interrupted is what it was where port 1 loses its disk
changed_there : (evidence : Evidence) → Contains evidence.stopped (on 1) → (p : Port) → SamePort (ports_in Ready Ready) (ports_in Ready Absent) p ⊎ IsStoppedOrStuck evidence p
changed_there evidence here p = go (p.0 == 0) refl (p.0 == 1) refl
  where
    go : (a : Bool) → (p.0 == 0) ≡ a → (b : Bool) → (p.0 == 1) ≡ b → SamePort (ports_in Ready Ready) (ports_in Ready Absent) p ⊎ IsStoppedOrStuck evidence p
    go true z b o = inl (refl, cond-true (p.0 == 0) Ready (cond (p.0 == 1) Absent Absent) z ∙ sym (cond-true (p.0 == 0) Ready (cond (p.0 == 1) Ready Absent) z), refl, refl, refl, refl)
    go false z true o = inr (inl (subst (λ (x : Port). Contains evidence.stopped x) (sym (ap (λ (n : ℕ). record { 0 = n }) (eqb-true p.0 1 o))) here))
    go false z false o = inl (
      refl,
      cond-false (p.0 == 0) Ready (cond (p.0 == 1) Absent Absent) z ∙ cond-false (p.0 == 1) Absent Absent o
          ∙ sym (cond-false (p.0 == 0) Ready (cond (p.0 == 1) Ready Absent) z ∙ cond-false (p.0 == 1) Ready Absent o),
      refl,
      refl,
      refl,
      refl,
    )

-- a service that changes no port
stays : (p : Port) → MayBecomeInService (ports_in Ready Absent) failure (ports_in Ready Absent) p
stays p = (
  λ dead. not_dead Ready Absent refl refl p dead,
  λ _. (
    record { served_is_unchanged = refl; dead_exactly_if_stuck = (λ dead. not_dead Ready Absent refl refl p dead, λ h. absurd (contains_none p h)); disk_is_remembered_unless_ready = λ _. (refl, refl) },
    inl (refl, refl, refl, refl, refl, refl),
  ),
)

-- one of them waits for nothing

quiet : (p : ℕ) (m : AbstractState) → Contains two_rows (row p) → m.machine.rows ≡ two_rows → m.ports.state (on p) ≡ Ready → m.ports.sectors (on p) ≡ 200 → (admission_context_of m).unanswered_count (record { 0 = 1 }) < MOST_UNANSWERED_OF_A_CLIENT → m.machine.next_id < 5 → IsQuiet p m
quiet p m mine rows ready size room next = record { rows = rows; mine = mine; ready = ready; size = size; room = room; few = omega (arith, next) }

quiet0 : IsQuiet 1 (abstract_after_all first run0)
quiet0 = quiet 1 (abstract_after_all first run0) (contains_there (row 0) (row 1 ∷ []) (row 1) (contains_here (row 1) [] (row 1) refl)) refl refl refl (omega arith) (omega arith)

quiet1 : IsQuiet 0 (abstract_after_all first run1)
quiet1 = quiet 0 (abstract_after_all first run1) row_zero refl refl refl (omega arith) (omega arith)

quiet2 : IsQuiet 0 (abstract_after_all first run2)
quiet2 = quiet 0 (abstract_after_all first run2) row_zero refl refl refl (omega arith) (omega arith)

quiet3 : IsQuiet 0 (abstract_after_all first run3)
quiet3 = quiet 0 (abstract_after_all first run3) row_zero refl refl refl (omega arith) (omega arith)

happens1 : Happens (abstract_after_all first run0) (submit lost)
happens1 = record {
  steps_are_enabled = ((tt, new 1 (abstract_after_all first run0) lost quiet0 (fit_read 1 (abstract_after_all first run0) 102 quiet0 refl refl) refl refl refl), (contains_here (newly_accepted lost) [] (newly_accepted lost) refl, record { is_in_book = contains_here (unanswered (newly_accepted lost)) [] (unanswered (newly_accepted lost)) refl; waits_and_nothing_blocks = refl; slot_is_left = λ _. omega arith }, λ e h. absurd (contains_none e h), granted 1 quiet0.mine refl));
  steps_are_of_call = ((tt, inr refl), inr (refl, refl));
  issue_is_last_of_request = ((tt, λ id h i. false≢true i), λ id h i. false≢true i);
  answers_are_lawful = tt;
  ports_are_well_formed = fit Ready Ready refl refl;
  unanswered_keep_serial_and_size = λ e o h i same. (refl, refl);
  result_matches_steps = (acceptable 1 (admission_context_of (abstract_after_all first run0)) lost.asked (fit_read 1 (abstract_after_all first run0) 102 quiet0 refl refl), (lost, refl, refl), λ p. (refl, refl, refl, refl, refl, refl), λ p _. none_waits _ refl p);
}

-- a request of the book's end
second : {X : Type 0} (a b : X) → Contains (a ∷ b ∷ []) b
second a b = contains_there a (b ∷ []) b (contains_here b [] b refl)

third : {X : Type 0} (a b c : X) → Contains (a ∷ b ∷ c ∷ []) c
third a b c = contains_there a (b ∷ c ∷ []) c (second b c)

fourth : {X : Type 0} (a b c d : X) → Contains (a ∷ b ∷ c ∷ d ∷ []) d
fourth a b c d = contains_there a (b ∷ c ∷ d ∷ []) d (third b c d)

happens2 : Happens (abstract_after_all first run1) (submit failed)
happens2 = record {
  steps_are_enabled = ((tt, new 0 (abstract_after_all first run1) failed quiet1 (write_at 0 (abstract_after_all first run1) 100 100 quiet1 (omega arith) (omega arith) refl refl) refl refl refl), (second losing (newly_accepted failed), record { is_in_book = second (unanswered losing) (unanswered (newly_accepted failed)); waits_and_nothing_blocks = refl; slot_is_left = λ _. omega arith }, λ e h. absurd (contains_none e h), granted 0 row_zero refl));
  steps_are_of_call = ((tt, inr refl), inr (refl, refl));
  issue_is_last_of_request = ((tt, λ id h i. false≢true i), λ id h i. false≢true i);
  answers_are_lawful = tt;
  ports_are_well_formed = fit Ready Ready refl refl;
  unanswered_keep_serial_and_size = λ e o h i same. (refl, refl);
  result_matches_steps = (acceptable 0 (admission_context_of (abstract_after_all first run1)) failed.asked (write_at 0 (abstract_after_all first run1) 100 100 quiet1 (omega arith) (omega arith) refl refl), (failed, refl, refl), λ p. (refl, refl, refl, refl, refl, refl), λ p _. none_waits _ refl p);
}

happens3 : Happens (abstract_after_all first run2) (submit again)
happens3 = record {
  steps_are_enabled = ((tt, new 0 (abstract_after_all first run2) again quiet2 (write_at 0 (abstract_after_all first run2) 101 101 quiet2 (omega arith) (omega arith) refl refl) refl refl refl), (third losing failing (newly_accepted again), record { is_in_book = third (unanswered losing) (unanswered failing) (unanswered (newly_accepted again)); waits_and_nothing_blocks = refl; slot_is_left = λ _. omega arith }, λ e h. absurd (contains_none e h), granted 0 row_zero refl));
  steps_are_of_call = ((tt, inr refl), inr (refl, refl));
  issue_is_last_of_request = ((tt, λ id h i. false≢true i), λ id h i. false≢true i);
  answers_are_lawful = tt;
  ports_are_well_formed = fit Ready Ready refl refl;
  unanswered_keep_serial_and_size = λ e o h i same. (refl, refl);
  result_matches_steps = (acceptable 0 (admission_context_of (abstract_after_all first run2)) again.asked (write_at 0 (abstract_after_all first run2) 101 101 quiet2 (omega arith) (omega arith) refl refl), (again, refl, refl), λ p. (refl, refl, refl, refl, refl, refl), λ p _. none_waits _ refl p);
}

happens4 : Happens (abstract_after_all first run3) (submit finished)
happens4 = record {
  steps_are_enabled = ((tt, new 0 (abstract_after_all first run3) finished quiet3 (write_at 0 (abstract_after_all first run3) 102 103 quiet3 (omega arith) (omega arith) refl refl) refl refl refl), (fourth losing failing (tried 1) (newly_accepted finished), record { is_in_book = fourth (unanswered losing) (unanswered failing) (unanswered (tried 1)) (unanswered (newly_accepted finished)); waits_and_nothing_blocks = refl; slot_is_left = λ _. omega arith }, λ e h. absurd (contains_none e h), granted 0 row_zero refl));
  steps_are_of_call = ((tt, inr refl), inr (refl, refl));
  issue_is_last_of_request = ((tt, λ id h i. false≢true i), λ id h i. false≢true i);
  answers_are_lawful = tt;
  ports_are_well_formed = fit Ready Ready refl refl;
  unanswered_keep_serial_and_size = λ e o h i same. (refl, refl);
  result_matches_steps = (acceptable 0 (admission_context_of (abstract_after_all first run3)) finished.asked (write_at 0 (abstract_after_all first run3) 102 103 quiet3 (omega arith) (omega arith) refl refl), (finished, refl, refl), λ p. (refl, refl, refl, refl, refl, refl), λ p _. none_waits _ refl p);
}

happens5 : Happens (abstract_after_all first run4) ending
happens5 = record {
  steps_are_enabled = ((tt, (inl (fourth losing failing (tried 1) finishing, refl), omega arith, refl, omega arith, λ _ b lt. refl)), (inl (fourth losing failing (tried 1) (touch 0 finishing), refl), one_touched, refl));
  steps_are_of_call = ((tt, inl tt), inl tt);
  issue_is_last_of_request = ((tt, λ id h i. false≢true i), λ id h i. false≢true i);
  answers_are_lawful = tt;
  ports_are_well_formed = fit Ready Ready refl refl;
  unanswered_keep_serial_and_size = λ e o h i same. (refl, refl);
  result_matches_steps = (((tt, tt), tt), λ p. (refl, refl, refl, refl, refl, refl));
}

happens6 : Happens (abstract_after_all first run5) unplug
happens6 = record {
  steps_are_enabled = (tt, refl);
  steps_are_of_call = (tt, inl tt);
  issue_is_last_of_request = (tt, λ id h i. false≢true i);
  answers_are_lawful = tt;
  ports_are_well_formed = fit Ready Ready refl refl;
  unanswered_keep_serial_and_size = λ e o h i same. (refl, refl);
  result_matches_steps = ((tt, tt), λ p. (refl, refl, refl, refl, refl, refl));
}

-- The call that finds both troubles.

-- the one request that is left isn't of the port that went
left_here : (n : ℕ) (e : Pending) → Contains (tried n ∷ []) e → e.request.port.0 ≡ 0
left_here n e h = ⊎_elim (λ (same : e ≡ tried n). ap (λ (x : Pending). x.request.port.0) same) (λ none. absurd (contains_none e none)) (contains_cases (tried n) [] e h)

abbrev all_told : List (Pending × Outcome)
all_told = (failing, outcome.DeviceError 65 64) ∷ (done finished, outcome.Ok) ∷ (losing, outcome.Unplugged) ∷ []

told_in_order : RepliesMatch serving (map reply_of all_told)
told_in_order = record {
  answers = all_told;
  is_permutation = IsPermutation-append_comm ((failing, outcome.DeviceError 65 64) ∷ (done finished, outcome.Ok) ∷ []) ((losing, outcome.Unplugged) ∷ []);
  ordered = λ i j d lt below. go i j d lt below;
  replies_are_of_answers = refl;
}
  where
    go : (i j : ℕ) (d : Pending × Outcome) → i < j → j < 3 → IsLowerByPortThenId (slice_index_or all_told i d) (slice_index_or all_told j d)
    go zero (suc zero) d lt below = inr (refl, omega arith)
    go zero (suc (suc zero)) d lt below = inl (omega arith)
    go (suc zero) (suc (suc zero)) d lt below = inl (omega arith)
    go i j d lt below = absurd (omega (arith, lt, below))

-- the step answers a request of port 0 Unplugged
abbrev unplugs_zero : Step → Bool
unplugs_zero (Answer e outcome.Unplugged) = e.request.port.0 == 0
unplugs_zero _ = false

-- port 1's alone are answered Unplugged
unplugs_all : UnpluggedOutcomeEmptiesPort serving (abstract_after_all first run7).machine
unplugs_all = record {
  none_is_left = λ e other h i q. false≢true (sym (none_of unplugs_zero serving (Answer e outcome.Unplugged) refl h)
      ∙ eq-eqb e.request.port.0 0 (ap (λ (x : Port). x.0) (sym q) ∙ left_here 2 other i));
  none_is_told_dead = λ e other h i. absurd (false≢true (sym (none_of is_told_dead serving (Answer other outcome.PortDead) refl i)));
}

happens7 : Happens (abstract_after_all first run6) service
happens7 = record {
  steps_are_enabled = (
    (
      (
        ((tt, (fourth losing failing (tried 1) (done finished), tt)), (contains_there losing (failing ∷ tried 1 ∷ []) failing (contains_here failing (tried 1 ∷ []) failing refl), tt)),
        (second losing (tried 1), refl, omega arith, granted 0 row_zero refl),
      ),
      (second losing (requeued (tried 1)), record { is_in_book = second (unanswered losing) (unanswered (requeued (tried 1))); waits_and_nothing_blocks = refl; slot_is_left = λ _. omega arith }, λ e h. absurd (contains_none e h), granted 0 row_zero refl),
    ),
    (contains_here losing (tried 2 ∷ []) losing refl, tt),
  );
  steps_are_of_call = (((((tt, inr tt), inr tt), inr refl), inr (refl, refl)), inr tt);
  issue_is_last_of_request = (((((tt, λ id h i. false≢true i), λ id h i. false≢true i), λ id h i. false≢true i), λ id h i. false≢true i), apart);
  answers_are_lawful = (
    (
      (
        (tt, (record { pending = done finished; is_in_book = fourth losing failing (tried 1) (done finished); id_is = refl; issued = refl }, refl, one_touched, refl)),
        (record { pending = failing; is_in_book = contains_there losing (failing ∷ tried 1 ∷ done finished ∷ []) failing (contains_here failing (tried 1 ∷ done finished ∷ []) failing refl); id_is = refl; issued = refl }, refl, contains_here _ [] _ refl, contains_here (on 0) (on 1 ∷ []) (on 0) refl),
      ),
      contains_here (on 0) (on 1 ∷ []) (on 0) refl,
    ),
    (contains_here (on 1) [] (on 1) refl, second (on 0) (on 1)),
  );
  ports_are_well_formed = fit Ready Absent refl refl;
  unanswered_keep_serial_and_size = λ e o h i same. (refl, refl);
  result_matches_steps = record {
    replies_match = told_in_order;
    dead_ports_tell_only_port_dead = λ e o i dead. not_dead Ready Ready refl refl e.request.port dead;
    unplugged_outcome_empties_port = unplugs_all;
    none_is_due_where_ready = λ p _. none_waits _ refl p;
    empty_unless_ready = λ p ne e h. emptied_at (both Ready Absent) (tried 2) refl p ne e h;
    answers_ok_what_had_ended = λ p _. last_ended (abstract_after_all first run6).machine service.steps (losing ∷ failing ∷ tried 1 ∷ []) (done finished) refl refl (done finished) refl (4, omega arith, refl) p;
    port_is_serviced = λ p. (
      λ dead. not_dead Ready Ready refl refl p dead,
      λ _. (
        record {
          served_is_unchanged = refl;
          dead_exactly_if_stuck = (λ dead. not_dead Ready Absent refl refl p dead, λ h. absurd (contains_none p h));
          disk_is_remembered_unless_ready = λ _. (refl, refl);
        },
        changed_there service.evidence (second (on 0) (on 1)) p,
      ),
    );
    shown_disk_was_in_or_came = λ p. inr (λ shows. inl (in_zero (abstract_after_all first run6).machine refl p shows));
  };
}
  where
    apart : (id : RequestId) → (1 == id.0) ≡ true → IsIssuedIn id (Issue mode (requeued (tried 1)) ∷ requeuing) → ⊥
    apart id h i = ⊎_elim
        (λ three. let a = eqb-true 1 id.0 h in let b = eqb-true 3 id.0 three in omega (arith, a, b))
        (λ none. false≢true none)
        (or_cases (3 == id.0) false i)

-- A service that issues the request again, and the one that aborts it.

-- the moment before such a service
abbrev before : Machine → ℕ → AbstractState
before m n = record { machine = record m { book = tried n ∷ []; kept = [] }; ports = ports_in Ready Absent }

retried : (m : Machine) (n : ℕ) → m.rows ≡ two_rows → n < 4 → Happens (before m n) (retry n)
retried m n rows few = record {
  steps_are_enabled = ((tt, (contains_here (tried n) [] (tried n) refl, refl, few, granted 0 row_zero rows)), (contains_here (requeued (tried n)) [] (requeued (tried n)) refl, record { is_in_book = contains_here (unanswered (requeued (tried n))) [] (unanswered (requeued (tried n))) refl; waits_and_nothing_blocks = refl; slot_is_left = λ _. omega arith }, λ e h. absurd (contains_none e h), granted 0 row_zero rows));
  steps_are_of_call = ((tt, inr refl), inr (refl, refl));
  issue_is_last_of_request = ((tt, λ id h i. false≢true i), λ id h i. false≢true i);
  answers_are_lawful = (tt, contains_here (on 0) [] (on 0) refl);
  ports_are_well_formed = fit Ready Absent refl refl;
  unanswered_keep_serial_and_size = λ e o h i same. (refl, refl);
  result_matches_steps = record {
    replies_match = none_told (retry n).steps refl;
    dead_ports_tell_only_port_dead = λ e o i dead. not_dead Ready Absent refl refl e.request.port dead;
    unplugged_outcome_empties_port = none_unplugged (retry n).steps (abstract_after (before m n) (retry n)).machine refl;
    none_is_due_where_ready = λ p _. none_waits _ refl p;
    empty_unless_ready = λ p ne e h. emptied_at (both Ready Absent) (tried (suc n)) refl p ne e h;
    answers_ok_what_had_ended = λ p _. none_ended (before m n).machine (retry n).steps refl p;
    port_is_serviced = stays;
    shown_disk_was_in_or_came = λ p. inl (refl, refl, refl, refl, refl, refl);
  };
}

happens10 : Happens (abstract_after_all first run9) abort
happens10 = record {
  steps_are_enabled = (tt, (contains_here (tried 4) [] (tried 4) refl, granted 0 row_zero refl));
  steps_are_of_call = (tt, inr tt);
  issue_is_last_of_request = (tt, λ id h i. false≢true i);
  answers_are_lawful = (tt, (record { pending = tried 4; is_in_book = contains_here (tried 4) [] (tried 4) refl; id_is = refl; issued = refl }, refl, (refl, contains_here (on 0) [] (on 0) refl, (refl, refl))));
  ports_are_well_formed = fit Ready Absent refl refl;
  unanswered_keep_serial_and_size = λ e o h i same. (refl, refl);
  result_matches_steps = record {
    replies_match = one_told (tried 4) outcome.Aborted abort.steps refl (reply_of (tried 4, outcome.Aborted)) refl;
    dead_ports_tell_only_port_dead = λ e o i dead. not_dead Ready Absent refl refl e.request.port dead;
    unplugged_outcome_empties_port = none_unplugged abort.steps (abstract_after (abstract_after_all first run9) abort).machine refl;
    none_is_due_where_ready = λ p _. none_there p;
    empty_unless_ready = λ p ne e h. absurd (contains_none e h);
    answers_ok_what_had_ended = λ p _. none_ended (abstract_after_all first run9).machine abort.steps refl p;
    port_is_serviced = stays;
    shown_disk_was_in_or_came = λ p. inl (refl, refl, refl, refl, refl, refl);
  };
}

pub meets_trouble : ServiceHandlesTwoFailedPorts
meets_trouble = record {
  initial_state = first;
  earlier_calls = run6;
  service = service;
  third = retry 2;
  fourth = retry 3;
  last = abort;
  runs = (((((((((((empty_starts, fit Ready Ready refl refl), happens1), happens2), happens3), happens4), happens5), happens6), happens7), retried (abstract_after_all first run7).machine 2 refl (omega arith)), retried (abstract_after_all first (retry 2 ∷ run7)).machine 3 refl (omega arith)), happens10);
  steps_are_faithful = (((((((((((((((((((((tt, tt), tt), tt), tt), tt), tt), tt), tt), λ e. absurd (false≢true (ap is_reader e))), tt), tt), tt), tt), tt), tt), tt), tt), tt), tt), tt), tt);
  lost = losing;
  failed = failing;
  again = tried 1;
  ended = done finished;
  book = refl;
  issued = (refl, refl, refl, refl);
  had_ended = refl;
  ports_differ = λ e. distinct (ap (λ (x : Port). x.0) e);
  share_failed_port = (refl, refl);
  disk_is_unplugged = contains_here (Unplug (on 1)) (steps_of run5) (Unplug (on 1)) refl;
  asks_for_service = (refl, refl, refl, refl);
  tells = refl;
  requeues = contains_there (Answer losing outcome.Unplugged) (Issue mode (requeued (tried 1)) ∷ requeuing) (WaitAgain (tried 1))
      (contains_there (Issue mode (requeued (tried 1))) requeuing (WaitAgain (tried 1)) (contains_here (WaitAgain (tried 1)) (Answer failing (outcome.DeviceError 65 64) ∷ Answer (done finished) outcome.Ok ∷ []) (WaitAgain (tried 1)) refl));
  absent = refl;
  ready = refl;
  reissued = tried 2;
  book_has_reissued = refl;
  issued_twice = (refl, refl, refl);
  issued_last = tried 4;
  book_has_issued_last = refl;
  issued_four_times = (refl, refl, refl);
  last_tells_aborted = refl;
  book_becomes_empty = refl;
  frame = frame 101;
  frames_are = refl;
  frame_is_given_back = refl;
}
  where
    distinct : ◌≡◌ {A = ℕ} 1 0 → ⊥
    distinct e = omega (arith, e)
