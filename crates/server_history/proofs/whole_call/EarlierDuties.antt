-- What a service has done of a port so far it has done still when another port has had its turn.
use Rattle.std.proofs.Common.{cond, ℕ, ◌≡◌, ◌≢◌, true, false, List, [], ◌++◌, refl, sym, ap, ◌∙◌, inl, inr, ⊎_elim, arith, ◌⊎◌}
use Rattle.std.specs.List.{count_by, list_any}
use Rattle.std.proofs.lemmas.List.Elements.{Contains-append_cases, Contains-append_right}
use Rattle.std.proofs.lemmas.List.Sums.{sum_by-append}
use Rattle.ata_types.specs.declared.Port.{Port}
use Rattle.ata_types.specs.declared.PortState.TheVariants.{Absent, Ready as ReadyState}
use Rattle.ata_types.specs.declared.request.Outcome.{Outcome}
use Rattle.ata_types.specs.declared.request.Outcome.TheVariants.{DeviceError}
use Rattle.ata_types.specs.declared.request.Reply.{Reply}
use Rattle.adapter.specs.Access.{Access}
use Rattle.adapter.specs.Device.{Device}
use Rattle.refinement.specs.Relation.{port_at}
use Rattle.block_machine.specs.Events.{AbstractState, Replied, changes_disk}
use Rattle.block_machine.specs.Histories.{JointState, IsReachable}
use Rattle.block_machine.specs.Expected.{after}
use Rattle.block_machine.specs.Ports.{Evidence, IsStoppedOrStuck, SamePort}
use Rattle.block_machine.specs.State.{Machine}
use Rattle.block_machine.specs.Steps.{Step, Answer}
use Rattle.host_boot.specs.TakeOver.{probe_result_of}
use Rattle.driver_history.specs.EvidenceHandling.{ToldOkOr, IsLeftAlone, ServicesReadyPort, tells_fault}
use Rattle.driver_history.specs.Evidence.{ShowsLinkChange, ShowsFailure}
use Rattle.driver_history.specs.Histories.{IsForeignOrUnfit, HasOnlyTaskFileError, IsAnsweredFaulty, PortCorresponds}
use Rattle.driver_history.specs.PortTurn.{HasTurnIn, EvidenceAgreesOn}
use Rattle.server_history.specs.Prerequisites.{PrerequisiteLaws}
use Rattle.server_history.specs.Turns.{IsPortTurn, LosesNoErrorAndRunsWellAnew, ServingReady, SimulatesTurn, joint_event_of_turn}
use Rattle.server_history.specs.ServerState.{ServerState, InCallInvariant, MachineRelation, InvariantWithNoneDue, ports_of}
use Rattle.server_history.proofs.any_turn.JoinedParts.{same_then}
use Rattle.server_history.proofs.any_turn.TurnSteps.{stood}
use Rattle.server_history.proofs.whole_call.EarlierResults as carrying
use Rattle.server_history.proofs.whole_call.ServiceAndTick.{AService, turn_at}
use Rattle.server_history.proofs.whole_call.Progress as progress
use Rattle.server_history.proofs.whole_call.TurnResults.{counts_apart}
use Rattle.server_history.proofs.unready_turn.UnfitPort.{ready_fits}

module _ (laws : PrerequisiteLaws) (s : ServerState) (start : InvariantWithNoneDue s) (old : AbstractState) (reached : IsReachable old.machine) (at : MachineRelation s old.machine) (ports_are : old.ports ≡ ports_of s) where
  abbrev kept : InCallInvariant s
  kept = start.in_call_invariant

  abbrev began : JointState Device
  began = record { device = s.device; abstract = old }

  abbrev IsDone : ServerState → List Access → List Step → Evidence → Port → Type 0
  IsDone c accesses steps evidence q = progress.IsDone AService laws s start old reached at ports_are c accesses steps evidence q

  abbrev Progress : ℕ → ServerState → List Reply → Type 0
  Progress n c replies = progress.Progress AService laws s start old reached at ports_are n c replies

  module _ (n : ℕ) (c mid : ServerState) (before its : List Reply) (p : Progress n c before) (part : IsPortTurn (turn_at AService (probe_result_of s.probe_results n) n) (port_at n) its c mid) (m_reached : IsReachable (after old.machine p.steps)) where
    abbrev m : Machine
    m = after old.machine p.steps

    abbrev x : SimulatesTurn (turn_at AService (probe_result_of s.probe_results n) n) (port_at n) its part.accesses c mid m
    x = part.simulates_turn m m_reached p.machine_relation

    abbrev all : List Step
    all = x.steps ++ p.steps

    abbrev accesses : List Access
    accesses = p.accesses ++ part.accesses

    module _ (q : Port) (apart : q ≢ port_at n) (d : IsDone c p.accesses p.steps p.evidence q) (evidence : Evidence) (alike : EvidenceAgreesOn q p.evidence evidence) (same : SamePort (ports_of c) (ports_of mid) q)
        (asked : old.ports.state q ≡ ReadyState) where
      undue : (s.device.port q.0).link_due ≡ false
      undue = carrying.undue AService laws s start old reached at ports_are n c mid before its p part m_reached q apart d asked

      abbrev t : HasTurnIn q s.device mid.device
      t = carrying.t AService laws s start old reached at ports_are n c mid before its p part m_reached q apart

      abbrev did : PortCorresponds began (joint_event_of_turn ServingReady [] c p.evidence p.steps) p.accesses q
      did = d.ties.0

      abbrev serves : ServicesReadyPort old p.evidence p.steps (record { machine = m; ports = ports_of c }) q
      serves = did.handles_evidence asked

      alone_so_far : HasOnlyTaskFileError q began mid.device → HasOnlyTaskFileError q began c.device
      alone_so_far alone = laws.calls.lone_tfes_in_call_is_in_turn q began old mid.device kept.adapter_is_on undue t p.adapter_is_on asked alone

      -- ---- what the call heeds of it

      told_whole : (o : Outcome) → ToldOkOr o p.steps q → ToldOkOr o all q
      told_whole o told e answer here own = ⊎_elim
          (λ late. absurd (carrying.not_late AService laws s start old reached at ports_are n c mid before its p part m_reached q apart e answer late own))
          (λ early. told e answer early own)
          (Contains-append_cases x.steps p.steps (Answer e answer) here)

      counted : count_by (tells_fault q) all ≡ count_by (tells_fault q) p.steps
      counted =
          let whole = sum_by-append (λ (step : Step). cond (tells_fault q step) 1 0) x.steps p.steps in
          let none = counts_apart q x.steps (carrying.not_late AService laws s start old reached at ports_are n c mid before its p part m_reached q apart) in
          omega (arith, whole, none)

      changed_whole : list_any (changes_disk q) p.steps ≡ true → list_any (changes_disk q) all ≡ true
      changed_whole = carrying.changed_whole AService laws s start old reached at ports_are n c mid before its p part m_reached q apart

      heeds_whole : ServicesReadyPort old evidence all (record { machine = after old.machine all; ports = ports_of mid }) q
      heeds_whole = record {
        answers_ok_what_had_ended = carrying.ended_still AService laws s start old reached at ports_are n c mid before its p part m_reached q apart serves.answers_ok_what_had_ended;
        link_change_leaves_none = λ gone e here own.
            let b = stood laws (port_at n) m x.steps x.steps_are_of_turn e (carrying.in_turn AService laws s start old reached at ports_are n c mid before its p part m_reached q apart e here) in
            serves.link_change_leaves_none (alike.link_changed.1 gone) b.was b.here (ap (λ r. r.port) b.request ∙ own);
        link_change_tells_alike = λ gone. ⊎_elim (λ a. inl (told_whole _ a)) (λ b. inr (told_whole _ b)) (serves.link_change_tells_alike (alike.link_changed.1 gone));
        trouble_stops_or_sticks = λ port_error. carrying.named AService laws s start old reached at ports_are n c mid before its p part m_reached q apart evidence alike (serves.trouble_stops_or_sticks (⊎_elim (λ failed. inl (alike.showing_error.1 failed)) (λ gone. inr (alike.link_changed.1 gone)) port_error));
        error_or_stop_leaves_no_old_issue = λ port_error. carrying.anew_still AService laws s start old reached at ports_are n c mid before its p part m_reached q apart (serves.error_or_stop_leaves_no_old_issue (⊎_elim (λ failed. inl (alike.showing_error.1 failed)) (λ stopped. inr (alike.stopped.1 stopped)) port_error));
        one_fault_at_most = let one = serves.one_fault_at_most in omega (arith, counted, one);
        fatal_tells_no_fault = λ here. let y = serves.fatal_tells_no_fault (alike.showing_fatal_error.1 here) in (alike.showing_error.0 y.0, counted ∙ y.1);
        shown_disk_was_in_or_came = carrying.disk_still AService laws s start old reached at ports_are n c mid before its p part m_reached q apart same serves.shown_disk_was_in_or_came;
        is_left_alone_if_calm = ⊎_elim
            (λ disturbed. inl (⊎_elim (λ failed. inl (alike.showing_error.0 failed)) (λ rest. inr (⊎_elim (λ gone. inl (alike.link_changed.0 gone)) (λ changed. inr (changed_whole changed)) rest)) disturbed))
            (λ (a : IsLeftAlone old.ports p.evidence p.steps (ports_of c) q). inr (record {
              port_is_same = same_then old.ports (ports_of c) (ports_of mid) q a.port_is_same same;
              only_ok_is_told = told_whole _ a.only_ok_is_told;
              is_neither_stopped_nor_stuck = λ i. a.is_neither_stopped_nor_stuck (carrying.unnamed AService laws s start old reached at ports_are n c mid before its p part m_reached q apart evidence alike i);
            }))
            serves.is_left_alone_if_calm;
      }

      -- ---- trouble

      same_self : SamePort old.ports old.ports q
      same_self = (refl, refl, refl, refl, refl, refl)

      -- and where it showed a failure when the call began, or a change of its link, it was stopped
      stops_troubled : ShowsFailure (s.device.port q.0) ⊎ ShowsLinkChange (s.device.port q.0) → IsStoppedOrStuck p.evidence q
      stops_troubled port_error = serves.trouble_stops_or_sticks (⊎_elim (λ failure. inl (d.evidenced.shown_failure_of_ready_is_named asked failure)) (λ change. inr (d.evidenced.shown_loss_of_ready_is_named asked (inl change))) port_error)

      -- ---- the whole

      not_bad : IsForeignOrUnfit old.ports q → ⊥
      not_bad bad = ready_fits (old.ports.state q) asked bad

      not_absent : old.ports.state q ≡ Absent → ⊥
      not_absent absent = let z : Absent ≡ ReadyState = sym absent ∙ asked in absurd cc

      heeds_trouble : LosesNoErrorAndRunsWellAnew q accesses began evidence (ports_of mid) mid.device
      heeds_trouble = carrying.trouble_still AService laws s start old reached at ports_are n c mid before its p part m_reached q apart d evidence alike same (λ _. stops_troubled) (λ _. inl undue) (record { loses_no_error = did.loses_no_error; runs_well_anew = did.runs_well_anew })

      pub ties_still : PortCorresponds began (joint_event_of_turn ServingReady [] mid evidence all) accesses q
      ties_still = record {
        finds_done = λ is_ready e own. carrying.finds_more AService laws s start old reached at ports_are n c mid before its p part m_reached q apart (did.finds_done is_ready e own);
        lone_plain_faults_are_told_unless_dead = λ alone e slot own unended says plain. ⊎_elim
            (λ (a : IsAnsweredFaulty e p.steps). inl (a.0, a.1, a.2, a.3, Contains-append_right x.steps p.steps (Answer a.0 (DeviceError a.1 a.2)) a.4))
            (λ dead. inr (same.1 ∙ dead))
            (did.lone_plain_faults_are_told_unless_dead (alone_so_far alone) e slot own unended says plain);
        probes_disk = λ served coming. record {
          absent_with_device_is_booted_dead_or_has_plug_event = λ absent det. absurd (not_absent absent);
          absent_gets_first_fis_or_dead_or_no_device = λ absent det fresh. absurd (not_absent absent);
          missing_disk_makes_absent_or_dead = λ bad. absurd (not_bad bad);
          changed_disk_is_booted_or_absent_or_dead = λ bad. absurd (not_bad bad);
        };
        boots_anew = laws.calls.turn_boots_are_calls q began old (ports_of c) (ports_of mid) mid.device (Replied []) (Replied []) kept.adapter_is_on (λ _. undue) t p.adapter_is_on same same_self did.boots_anew;
        loses_no_error = heeds_trouble.loses_no_error;
        runs_well_anew = heeds_trouble.runs_well_anew;
        handles_evidence = λ _. heeds_whole;
      }
