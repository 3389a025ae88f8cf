-- A run in which a port meets a fatal error, is stopped, and gets stuck in its boot.
use Rattle.std.proofs.Common.{◌≡◌, ℕ, ◌<◌, zero, suc, List, [], ◌∷◌, map, Ok, inl, inr, ⊎_elim, refl, ap, arith}
use Rattle.std.proofs.lemmas.Bool.{false≢true}
use Rattle.std.proofs.lemmas.List.Sorted.{IsPermutation-append_comm}
use Rattle.std.specs.List.{Contains}
use Rattle.std.specs.Prelude.{slice_index_or}
use Rattle.ata_types.specs.declared.Port.{Port}
use Rattle.ata_types.specs.declared.PortState.TheVariants.{Ready, Dead}
use Rattle.ata_types.specs.declared.request.Op.TheVariants.{Write}
use Rattle.ata_types.specs.declared.request.Outcome.{Outcome}
use Rattle.ata_types.specs.declared.request.Outcome.TheVariants as outcome
use Rattle.block_machine.specs.Ports.{Evidence}
use Rattle.block_machine.specs.State.{Accepted, Pending, unanswered}
use Rattle.block_machine.specs.Steps.{Accept, Issue, Answer, newly_accepted, newly_issued}
use Rattle.block_machine.specs.Events.{Submit, Service, Submitted, Replied, CallRecord, Happens, RepliesMatch, IsLowerByPortThenId, reply_of, abstract_after_all, admission_context_of}
use Rattle.machine_runs.specs.ExampleRuns.{PortStuckInBootAnswersPortDead}
use Rattle.block_machine.proofs.Members.{contains_none, contains_here, contains_there, contains_cases}
use Rattle.block_machine.proofs.Setting.{port, frame, empty_starts, acceptable, granted}
use Rattle.machine_runs.proofs.Scene.{mode, id, call, one_sector, ports_in, first, shows_none, changed_here, IsQuiet, row_zero, write_at, new, none_waits, none_unplugged, ports_fit, none_dead, none_ended}
use Rattle.machine_runs.proofs.WaitingRun.{write, run1, happens1}
use Rattle.machine_runs.proofs.ResetRun.{dead_not_ready, dead_here}

-- a write of another sector
abbrev other : Accepted
other = one_sector 0 (abstract_after_all first run1).machine 2 Write 101 101

abbrev submit : CallRecord (Unit {0})
submit = call (Submit other.asked) (Submitted (Ok (id 2))) (Issue mode (newly_accepted other) ∷ Accept other ∷ [])

abbrev run2 : List (CallRecord (Unit {0}))
run2 = submit ∷ run1

abbrev one : Pending
one = newly_issued (newly_accepted write)

abbrev two : Pending
two = newly_issued (newly_accepted other)

-- the port met a fatal error; it was stopped, and got stuck then
abbrev seen : Evidence
seen = record { faults = []; lost = []; link_changed = []; showing_error = port ∷ []; showing_fatal_error = port ∷ []; stopped = port ∷ []; stuck = port ∷ [] }

abbrev told : List (Pending × Outcome)
told = (one, outcome.PortDead) ∷ (two, outcome.PortDead) ∷ []

abbrev service : CallRecord (Unit {0})
service = record { call = Service; result = Replied (map reply_of told); evidence = seen; steps = Answer two outcome.PortDead ∷ Answer one outcome.PortDead ∷ []; ports = ports_in Dead }

abbrev run3 : List (CallRecord (Unit {0}))
run3 = service ∷ run2

quiet : IsQuiet 0 (abstract_after_all first run1)
quiet = record { rows = refl; mine = row_zero; ready = refl; size = refl; room = omega arith; few = omega arith }

second : {X : Type 0} (a b : X) → Contains (a ∷ b ∷ []) b
second a b = contains_there a (b ∷ []) b (contains_here b [] b refl)

happens2 : Happens (abstract_after_all first run1) submit
happens2 = record {
  steps_are_enabled = ((tt, new 0 (abstract_after_all first run1) other quiet (write_at 0 (abstract_after_all first run1) 101 101 quiet (omega arith) (omega arith) refl refl) refl refl refl), (second one (newly_accepted other), record { is_in_book = second (unanswered one) (unanswered (newly_accepted other)); waits_and_nothing_blocks = refl; slot_is_left = λ _. omega arith }, λ e h. absurd (contains_none e h), granted 0 row_zero refl));
  steps_are_of_call = ((tt, inr refl), inr (refl, refl));
  issue_is_last_of_request = ((tt, λ id h i. false≢true i), λ id h i. false≢true i);
  answers_are_lawful = tt;
  ports_are_well_formed = ports_fit Ready refl;
  unanswered_keep_serial_and_size = λ e o h i same. (refl, refl);
  result_matches_steps = (acceptable 0 (admission_context_of (abstract_after_all first run1)) other.asked (write_at 0 (abstract_after_all first run1) 101 101 quiet (omega arith) (omega arith) refl refl), (other, refl, refl), λ p. (refl, refl, refl, refl, refl, refl), λ p _. none_waits _ refl p);
}

tells : RepliesMatch service.steps (map reply_of told)
tells = record {
  answers = told;
  is_permutation = IsPermutation-append_comm ((one, outcome.PortDead) ∷ []) ((two, outcome.PortDead) ∷ []);
  ordered = go;
  replies_are_of_answers = refl;
}
  where
    go : (i j : ℕ) (d : Pending × Outcome) → i < j → j < 2 → IsLowerByPortThenId (slice_index_or told i d) (slice_index_or told j d)
    go zero (suc zero) d lt below = inr (refl, omega arith)
    go i j d lt below = absurd (omega (arith, lt, below))

happens3 : Happens (abstract_after_all first run2) service
happens3 = record {
  steps_are_enabled = ((tt, (contains_here one (two ∷ []) one refl, tt)), (contains_here two [] two refl, tt));
  steps_are_of_call = ((tt, inr tt), inr tt);
  issue_is_last_of_request = ((tt, λ id h i. false≢true i), λ id h i. false≢true i);
  answers_are_lawful = ((tt, refl), refl);
  ports_are_well_formed = ports_fit Dead refl;
  unanswered_keep_serial_and_size = λ e o h i same. (refl, refl);
  result_matches_steps = record {
    replies_match = tells;
    dead_ports_tell_only_port_dead = λ e o h dead. none_dead e.request.port dead;
    unplugged_outcome_empties_port = none_unplugged service.steps (abstract_after_all first run3).machine refl;
    none_is_due_where_ready = λ p ready. dead_not_ready p ready;
    empty_unless_ready = λ p ne e h. absurd (contains_none e h);
    answers_ok_what_had_ended = λ p _. none_ended (abstract_after_all first run2).machine service.steps refl p;
    port_is_serviced = λ p. (λ dead. none_dead p dead, λ _. (record { served_is_unchanged = refl; dead_exactly_if_stuck = (dead_here p, λ h. dies p h); disk_is_remembered_unless_ready = λ _. (refl, refl) }, changed_here Ready Dead seen (inl (contains_here port [] port refl)) p));
    shown_disk_was_in_or_came = λ p. inr (λ shows. shows_none Dead (λ s. s) p shows);
  };
}
  where
    only : (x p : Port) → Contains (x ∷ []) p → p ≡ x
    only x p h = ⊎_elim (λ same. same) (λ n. absurd (contains_none p n)) (contains_cases x [] p h)

    dies : (p : Port) → Contains (port ∷ []) p → (ports_in Dead).state p ≡ Dead
    dies p h = ap (ports_in Dead).state (only port p h)

pub dies_in_a_service : PortStuckInBootAnswersPortDead
dies_in_a_service = record {
  initial_state = first;
  earlier_calls = run2;
  service = service;
  runs = ((((empty_starts, ports_fit Ready refl), happens1), happens2), happens3);
  first_request = one;
  second_request = two;
  book = refl;
  issued = (refl, refl);
  share_port = refl;
  ready = refl;
  asks_for_service = refl;
  port_is_named_fatal = contains_here port [] port refl;
  stops = contains_here port [] port refl;
  sticks = contains_here port [] port refl;
  answers = refl;
  port_becomes_dead = refl;
  kept_is = refl;
  frame = frame 101;
  frames_are = refl;
  lent = refl;
}
