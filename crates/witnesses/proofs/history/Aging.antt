-- The read is issued, and the device never takes it: a tick makes it older, and restarts its port only at its age of three.
use Rattle.std.proofs.Common.{ℕ, zero, suc, ◌≡◌, ◌<◌, ◌≤◌, ◌∙◌, ◌++◌, List, [], ◌∷◌, inl, inr, ⊎_elim, refl, sym, ap, arith, append-nil}
use Rattle.std.specs.Prelude.{IsTrue, count_by}
use Rattle.std.specs.List.{Contains}
use Rattle.std.proofs.lemmas.Bool.{true≢false}
use Rattle.std.proofs.lemmas.List.Elements.{All-nil}
use Rattle.std.proofs.lemmas.List.Sorted.{IsPermutation-refl}
use Rattle.ata_types.specs.declared.Port.{Port}
use Rattle.ata_types.specs.declared.PortState.TheVariants.{Absent, Ready}
use Rattle.ata_types.specs.declared.request.Outcome.{Outcome}
use Rattle.ata_types.specs.declared.request.Outcome.TheVariants as outcome
use Rattle.adapter.specs.Device.{Device}
use Rattle.adapter.specs.declared.access.DeviceStep.{DeviceStep}
use Rattle.refinement.specs.Relation.{port_at}
use Rattle.refinement.specs.Driver.{TapeBacksSteps}
use Rattle.block_machine.specs.DueRequests.{NoneDue}
use Rattle.block_machine.specs.Events.{AgesReadyPortsFirstAndOnce, Happens, TimesOutAtTick, RestartsTimedOut, Replied, Tick, is_age}
use Rattle.block_machine.specs.Histories.{JointEvent}
use Rattle.block_machine.specs.State.{Pending, unanswered}
use Rattle.block_machine.specs.Steps.{Step, WaitAgain, Age, Answer}
use Rattle.block_machine.specs.declared.due.Unanswered.{Unanswered}
use Rattle.identify.specs.declared.wanted.Wanted.TheVariants.{Any}
use Rattle.driver_history.specs.Evidence.{IsEvidencedOf, ShowsFailure, ShowedLinkChangeOrNoDeviceAndNoneCame}
use Rattle.driver_history.specs.Histories.{IssuesDue, CallCorresponds, PortCorresponds}
use Rattle.driver_history.specs.AccessTrace.{UsesPortsAndNotGhc, WritesNeitherCmdNorSctl}
use Rattle.witnesses.specs.RunningAdapter.{plain_disk_mode}
use Rattle.witnesses.proofs.history.Accepting.{both, holds_issued, in_book, issued_at, issued_for, waiting_for}
use Rattle.witnesses.proofs.history.Command.{read_memory}
use Rattle.witnesses.proofs.history.Holding.{IsCalm, first_slots, no_trouble, unnamed_evidenced}
use Rattle.witnesses.proofs.history.Issuing.{none_named, nothing}
use Rattle.witnesses.proofs.history.Members.{nowhere, only}
use Rattle.witnesses.proofs.history.Pages.{plain_disks}
use Rattle.witnesses.proofs.history.Ready.{calm, fit_ready, served_ready, two_served}
use Rattle.witnesses.proofs.history.Serving.{none_due}
use Rattle.witnesses.proofs.history.Submitting.{issued, submitted}

-- ---- who is hung

pub hung_at : (age : ℕ) → 2 ≤ age → TimesOutAtTick (issued_at age).abstract (port_at 0)
hung_at age old = record { ready = refl; pending = waiting_for age; is_in_book = (0, omega arith, refl); port_is = refl; issued = refl; old_enough = old }

-- port 0 alone is ever
pub hung_first : (age : ℕ) (port : Port) → TimesOutAtTick (issued_at age).abstract port → port ≡ port_at 0
hung_first age port h = sym h.port_is ∙ ap (λ (e : Pending). e.request.port) (in_book age h.pending h.is_in_book)

pub not_hung : (age : ℕ) → age < 2 → (port : Port) → TimesOutAtTick (issued_at age).abstract port → ⊥
not_hung age young port h =
    let same : h.pending.age ≡ age = ap (λ (e : Pending). e.age) (in_book age h.pending h.is_in_book) in
    let old = h.old_enough in
    omega (arith, same, old, young)

-- ---- ages

-- the requests of both ports are a tick older
abbrev pub ages : Step
ages = Age two_served

pub ready_is : (n : ℕ) → (IsTrue (two_served (port_at n)) → both.state (port_at n) ≡ Ready) × (both.state (port_at n) ≡ Ready → IsTrue (two_served (port_at n)))
ready_is zero = (λ _. refl, λ _. refl)
ready_is (suc zero) = (λ _. refl, λ _. refl)
ready_is (suc (suc n)) = (λ t. absurd (true≢false (sym t)), λ is. absurd (let x : Absent ≡ Ready = is in cc))

-- a call ages them once, and first of all
pub ages_once : (later : List Step) → count_by is_age later ≡ 0 → AgesReadyPortsFirstAndOnce both (later ++ ages ∷ [])
ages_once later once = record { ready_ports = two_served; is_ready = λ port. ready_is port.0; later = later; age_is_first = refl; no_other_age = once }

-- no request is due
pub not_due : (age : ℕ) (port : Port) → NoneDue plain_disk_mode (unanswered (waiting_for age) ∷ []) port
not_due age = none_due plain_disk_mode (unanswered (waiting_for age) ∷ []) (λ r here. ap (λ (x : Unanswered). x.issued) (only (unanswered (waiting_for age)) r here))

-- nor does a port tell of trouble
pub quiet : (n : ℕ) → both.state (port_at n) ≡ Ready → (ShowedLinkChangeOrNoDeviceAndNoneCame (port_at n) submitted submitted → ⊥) × (ShowsFailure (submitted.port n) → ⊥)
quiet = calm submitted.tape read_memory issued refl refl refl (λ place from. refl) submitted

-- ---- a tick that restarts nothing

module _ (age : ℕ) where
  abbrev pub tick : JointEvent Device DeviceStep
  tick = record {
    event = record { call = Tick; result = Replied []; evidence = nothing; steps = ages ∷ []; ports = both };
    device = submitted;
  }

  -- it neither answers a request nor lets one wait again
  unanswered_then : (e : Pending) (o : Outcome) → Contains (ages ∷ []) (Answer e o) → ⊥
  unanswered_then e o here = let same : Answer e o ≡ ages = only ages (Answer e o) here in cc

  unrepeated : (e : Pending) → Contains (ages ∷ []) (WaitAgain e) → ⊥
  unrepeated e here = let same : WaitAgain e ≡ ages = only ages (WaitAgain e) here in cc

  pub backed : TapeBacksSteps submitted submitted (issued_for age) (ages ∷ [])
  backed = record {
    disks_tell_sectors_is_same = refl;
    new_entries = [];
    tape_is = refl;
    tells_device_steps = (tt, λ d. d);
    steps_are_faithful = λ _. (tt, tt);
    plugged_disks_match_steps = λ port. ([], sym (append-nil (submitted.port port).plug_history), refl);
  }

  pub evidenced : (n : ℕ) → IsEvidencedOf Tick (Replied []) [] (issued_at age) both submitted nothing (port_at n)
  evidenced n = unnamed_evidenced Tick (Replied []) [] (issued_at age) both submitted nothing (port_at n) (none_named (port_at n)) (quiet n) (All-nil (WritesNeitherCmdNorSctl (port_at n)))

  pub issues : (port : Port) → IssuesDue (both.mode port) (ages ∷ []) (issued_for (suc age)) port
  issues port r here at_port = (
    λ f. absurd (true≢false (sym f)),
    λ due. absurd (not_due (suc age) port r at_port due),
  )

  module _ (young : age < 2) where
    restarts_none : RestartsTimedOut (issued_at age).abstract nothing (ages ∷ []) (issued_at (suc age)).abstract
    restarts_none = record {
      each_port_is_same_or_restarts = λ port. inl (not_hung age young port, (refl, refl, refl, refl, refl, refl));
      only_timed_out_wait_again = λ e here. absurd (unrepeated e here);
      only_timed_out_are_answered = λ e o here. absurd (unanswered_then e o here);
      answers_ok_what_had_ended = λ port h. absurd (not_hung age young port h);
      issued_are_issued_in_steps = λ port h. absurd (not_hung age young port h);
      timed_out_iff_stopped_or_stuck = λ port. (λ h. absurd (not_hung age young port h), λ why. absurd (⊎_elim (nowhere port) (nowhere port) why));
      unplugged_lost_disk = λ e here. absurd (unanswered_then e outcome.Unplugged here);
      shown_disk_was_in_or_came = λ port h. absurd (not_hung age young port h);
    }

    pub tick_happens : Happens (issued_at age).abstract tick.event
    tick_happens = record {
      steps_are_enabled = (tt, tt);
      steps_are_of_call = (tt, inr tt);
      issue_is_last_of_request = (tt, λ id handled issued_in. absurd (true≢false (sym handled)));
      answers_are_lawful = tt;
      ports_are_well_formed = fit_ready plain_disks;
      unanswered_keep_serial_and_size = λ e o here there same. (refl, refl);
      result_matches_steps = record {
        replies_match = record { answers = []; is_permutation = IsPermutation-refl _; ordered = λ i j d less low. absurd (omega (arith, less, low)); replies_are_of_answers = refl };
        ages_once = ages_once [] refl;
        restarts_timed_out = restarts_none;
        unplugged_outcome_empties_port = record {
          none_is_left = λ e other here. absurd (unanswered_then e outcome.Unplugged here);
          none_is_told_dead = λ e other here. absurd (unanswered_then e outcome.Unplugged here);
        };
        none_is_due_where_ready = λ port is. not_due (suc age) port;
        was_ready_empty_unless_ready = λ port is not_ready. absurd (not_ready is);
      };
    }

    pub tick_part : (n : ℕ) → PortCorresponds (issued_at age) tick [] (port_at n)
    tick_part n = record {
      finds_done = λ h. absurd (not_hung age young (port_at n) h);
      lone_plain_faults_are_told_unless_dead = tt;
      probes_disk = tt;
      boots_anew = λ h. absurd (not_hung age young (port_at n) h);
      loses_no_error = no_trouble nothing (issued_at age) both submitted (port_at n) [] refl (All-nil (IsCalm n)) (served_ready n) (quiet n);
      runs_well_anew = λ why. absurd (⊎_elim (nowhere (port_at n)) (nowhere (port_at n)) why);
      handles_evidence = tt;
    }

    unfoldable pub tick_ties : CallCorresponds (Any ∷ Any ∷ []) (issued_at age) tick
    tick_ties = record {
      accesses = [];
      accesses_are_explained = (refl, All-nil (UsesPortsAndNotGhc (TimesOutAtTick (issued_at age).abstract)));
      is_backed = backed;
      is_evidenced = record { faults_are_told = λ f here. absurd (nowhere f here); each_port_is_evidenced = λ port. evidenced port.0 };
      only_failed_requeue_if_service = tt;
      issues_all_due = λ port is. issues port;
      ports_correspond = λ port. tick_part port.0;
      invariant_holds = (first_slots, holds_issued (suc age));
    }
