-- A port that isn't ready is looked at, and booted where its disk may have come, or may be another: a part of a service, after which the server goes on.
use Rattle.std.proofs.Common.{◌≡◌, ◌≢◌, List, [], refl, sym, ap, ◌∙◌, subst, inl, inr, arith, ◌⊎◌}
use Rattle.std.proofs.lemmas.List.Elements.{All-cons, All-nil}
use Rattle.std.proofs.lemmas.List.Sorted.{IsPermutation-refl}
use Rattle.std.specs.List.{All, Contains}
use Rattle.std.specs.List.Sorted.{IsPermutation}
use Rattle.ata_types.specs.declared.Port.{Port}
use Rattle.ata_types.specs.declared.PortState.TheVariants.{Absent, Dead, Ready as ReadyState}
use Rattle.ata_types.specs.declared.request.Outcome.TheVariants.{Unplugged}
use Rattle.ata_types.specs.declared.limits.TheConstants.{MOST_READINGS}
use Rattle.adapter.specs.Access.{Access}
use Rattle.adapter.specs.declared.access.DeviceStep.{DeviceStep}
use Rattle.refinement.specs.Driver.{TapeBacksSteps}
use Rattle.refinement.specs.Errors.{NoDiskComes}
use Rattle.block_machine.specs.Events.{AllByDevice, AllEnabled, ShownDiskWasInOrCame, Replied, Service, RepliesMatch, UnpluggedOutcomeEmptiesPort}
use Rattle.block_machine.specs.Expected.{after}
use Rattle.block_machine.specs.Ports.{Evidence, IsStoppedOrStuck, MayBecomeInService, SamePort}
use Rattle.block_machine.specs.State.{Machine}
use Rattle.block_machine.specs.Steps.{Step}
use Rattle.driver_history.specs.EvidenceHandling.{OnlyPortsShowingErrorRequeueAbortRevokeFault}
use Rattle.driver_history.specs.Evidence.{IsEvidencedOf}
use Rattle.driver_history.specs.Histories.{LosesNoPortError, RunsWellAnew, ProbesDisk}
use Rattle.driver_history.specs.PortInvariants.{HasNoUnanswered}
use Rattle.driver_history.specs.AccessTrace.{WritesNeitherCmdNorSctl, LastSctlWritesResetLink}
use Rattle.driver_history.specs.PortTurn.{NoLinkDueAfterXUnlessAbsentDeadOrDiskComes}
use Rattle.host_boot.specs.TakeOver.{probe_result_of}
use Rattle.port_control.specs.Engines.{EngineSticks, Stops}
use Rattle.request_queue.specs.BookEntries.{BookEntry}
use Rattle.request_queue.specs.BookRelation.{EntryRelation}
use Rattle.server_history.specs.Prerequisites.{PrerequisiteLaws}
use Rattle.server_history.specs.ServerState.{InCallInvariant, MachineRelation, InvariantWithNoneDue, ServerState, mode_in, ports_of, state_of}
use Rattle.server_history.specs.Turns.{ServingReady, InProbe, IsTurnOrDeviceStep, SimulatesTurn, PortListsNameOnly, RequeuesAndAbortsFitTurn, CorrespondsInServiceLosesNoErrorInRestart, joint_state_of, abstract_state_of}
use Rattle.server_history.proofs.state.AnswerSteps.{no_answer}
use Rattle.server_history.proofs.state.DueRequests.{none_issued}
use Rattle.server_history.proofs.state.DeviceSteps.{devices_belong, devices_last, devices_lawful}
use Rattle.server_history.proofs.state.FirstMembers.{nowhere}
use Rattle.server_history.proofs.healthy_turn.CallPart.{device_grounded, device_own, devices_all, devices_answers}
use Rattle.server_history.proofs.plain_calls.IssueRounds.{devices_issue_none}
use Rattle.server_history.proofs.state.PortSlots.{of_ready}
use Rattle.server_history.proofs.state.PairedLists.{at_right}

-- the evidence of such a turn: whether the port was stopped, and whether it got stuck
abbrev pub evidence_tried : List Port → List Port → Evidence
evidence_tried stopped stuck = record { faults = []; lost = []; link_changed = []; showing_error = []; showing_fatal_error = []; stopped = stopped; stuck = stuck }

-- What is told of the port then, by accesses that led to this device.
pub record TellsTried (port : Port) (stopped stuck : List Port) (accesses : List Access) (old new : ServerState) : Type 0 where
  pub its_stopped : All (λ q. q ≡ port) stopped
  pub its_stuck : All (λ q. q ≡ port) stuck
  pub becomes : MayBecomeInService (ports_of old) (evidence_tried stopped stuck) (ports_of new) port
  pub engine : All (WritesNeitherCmdNorSctl port) accesses ⊎ IsStoppedOrStuck (evidence_tried stopped stuck) port
  pub stops : Contains stopped port → Stops port accesses
  pub sticks : Contains stuck port → EngineSticks port accesses × ((new.device.port port.0).notes.engine_wait_count ≡ MOST_READINGS)

-- The device's steps lead a machine that stands for the one server to one that stands for the other.
pub record AddsTried (port : Port) (old new : ServerState) (m : Machine) : Type 0 where
  pub steps : List Step
  pub only : AllByDevice steps
  pub may : AllEnabled m steps
  pub stands : MachineRelation new (after m steps)
  pub backed : TapeBacksSteps old.device new.device m steps
  pub disk : SamePort (ports_of old) (ports_of new) port ⊎ ShownDiskWasInOrCame (abstract_state_of old m) steps (abstract_state_of new (after m steps)) port

-- What the turn has done of the port besides: where no disk of it came, what is there was tried, after which no link is due; it was booted anew, unless it is what it was, or dead or
-- absent; and no trouble of it is lost.
pub record DoesTried (port : Port) (evidence : Evidence) (accesses : List Access) (old new : ServerState) : Type 0 where
  pub probes : (m : Machine) → NoDiskComes port.0 old.device new.device → ProbesDisk accesses (joint_state_of old m) (ports_of new) new.device port
  pub linked : (m : Machine) → NoLinkDueAfterXUnlessAbsentDeadOrDiskComes port (joint_state_of old m) (ports_of new) new.device
  pub boots : SamePort (ports_of old) (ports_of new) port ⊎ (((ports_of new).state port ≡ Dead) ⊎ (((ports_of new).state port ≡ Absent) ⊎ LastSctlWritesResetLink port accesses))
  pub port_error : (m : Machine) → LosesNoPortError evidence (joint_state_of old m) (ports_of new) new.device port
  pub well : (m : Machine) → RunsWellAnew evidence accesses (joint_state_of old m) (ports_of new) new.device port

-- ---- what such a turn makes of a machine

module _ (laws : PrerequisiteLaws) (port : Port) (old : ServerState) (k : InCallInvariant old) (unready : state_of (probe_result_of old.probe_results port.0) ≢ ReadyState) where
  -- none of its requests is unanswered
  pub none_held : (e : BookEntry) → Contains old.book e → e.request.port ≢ port
  none_held e here same = unready (ap (λ (q : Port). state_of (probe_result_of old.probe_results q.0)) (sym same) ∙ of_ready old k e here)

  module _ (m : Machine) (is : MachineRelation old m) (steps : List Step) (only : AllByDevice steps) where
    pub none_waits : HasNoUnanswered (after m steps) port
    none_waits e here same =
        let b = laws.steps_and_accesses.entry_is_found_in_earlier_book m.book (after m steps).book e (laws.steps_and_accesses.device_steps_spare_book m steps only).book here in
        let h = at_right EntryRelation old.book m.book is.book b.0 b.1 in
        none_held h.0 h.1 (sym h.2.port ∙ ap (λ r. r.port) (sym b.2.request) ∙ same)

  module _ (new : ServerState) (settled : InvariantWithNoneDue new) (stopped stuck : List Port) (accesses : List Access) (t : TellsTried port stopped stuck accesses old new)
      (did : DoesTried port (evidence_tried stopped stuck) accesses old new) where
    abbrev its : Evidence
    its = evidence_tried stopped stuck

    names : PortListsNameOnly port its
    names = record {
      lost = All-nil (λ q. q ≡ port);
      link_changed = All-nil (λ q. q ≡ port);
      showing_error = All-nil (λ q. q ≡ port);
      showing_fatal_error = All-nil (λ q. q ≡ port);
      stopped = t.its_stopped;
      stuck = t.its_stuck;
    }

    evidenced : (m : Machine) → IsEvidencedOf Service (Replied []) accesses (joint_state_of old m) (ports_of new) new.device its port
    evidenced m = record {
      named_lost_showed_loss_or_changed = λ here. absurd (nowhere port here);
      shown_loss_of_ready_is_named = λ ready. absurd (unready ready);
      named_link_changed_had_change_or_no_device = λ here. absurd (nowhere port here);
      shown_failure_of_ready_is_named = λ ready. absurd (unready ready);
      named_showing_error_had_error = λ here. absurd (nowhere port here);
      shown_fatal_of_ready_is_named = λ ready. absurd (unready ready);
      named_showing_fatal_had_fatal = λ here. absurd (nowhere port here);
      engine_is_left_or_stopped = t.engine;
      named_stopped_was_stopped_or_reset = λ here. inl (t.stops here);
      stuck_only = λ here. inl (t.sticks here);
    }

    module _ (m : Machine) (is : MachineRelation old m) (x : AddsTried port old new m) where
      tells : RepliesMatch x.steps []
      tells = record {
        answers = [];
        is_permutation = subst (IsPermutation []) (sym (devices_answers x.steps x.only)) (IsPermutation-refl []);
        ordered = λ i j d lt below. absurd (omega (arith, lt, below));
        replies_are_of_answers = refl;
      }

      unplugs : UnpluggedOutcomeEmptiesPort x.steps (after m x.steps)
      unplugs = record { none_is_left = λ e other here. absurd (no_answer x.steps x.only e Unplugged here); none_is_told_dead = λ e other here. absurd (no_answer x.steps x.only e Unplugged here) }

      owes : RequeuesAndAbortsFitTurn InProbe port accesses old new m its x.steps
      owes = (devices_all (OnlyPortsShowingErrorRequeueAbortRevokeFault its) (device_grounded its) tt x.steps x.only, refl, refl)

      ties : CorrespondsInServiceLosesNoErrorInRestart InProbe port [] accesses old new m its x.steps
      ties = (
        record {
          finds_done = λ ready. absurd (unready ready);
          lone_plain_faults_are_told_unless_dead = λ alone. absurd (unready alone.ready);
          probes_disk = λ served comes. did.probes m comes;
          boots_anew = (λ ready. absurd (unready ready), did.boots);
          loses_no_error = did.port_error m;
          runs_well_anew = did.well m;
          handles_evidence = λ ready. absurd (unready ready);
        },
        did.linked m,
      )

      pub makes_try : SimulatesTurn InProbe port [] accesses old new m
      makes_try = record {
        steps = x.steps;
        evidence = its;
        steps_are_enabled = x.may;
        machine_relation = x.stands;
        is_backed = x.backed;
        steps_are_of_turn = devices_all (All (IsTurnOrDeviceStep port)) (λ step base device rest. All-cons (IsTurnOrDeviceStep port) step base (device_own port step device) rest) (All-nil (IsTurnOrDeviceStep port)) x.steps x.only;
        steps_are_of_call = devices_belong {D = DeviceStep} Service (ports_of new) x.steps x.only;
        issues_are_last = devices_last x.steps x.only;
        names_only_port = names;
        answers_are_lawful = devices_lawful (abstract_state_of old m) its (ports_of new) x.steps x.only;
        requeues_and_aborts_fit_turn = owes;
        replies_match = tells;
        unplugged_outcome_empties_port = unplugs;
        port_is_serviced = t.becomes;
        shown_disk_was_in_or_came = x.disk;
        same_disk_or_none_unanswered = inr (none_waits m is x.steps x.only);
        issues_due = λ _. none_issued new (after m x.steps) x.stands x.steps (λ id. devices_issue_none id x.steps x.only) (mode_in new port) port (settled.none_is_due port);
        is_evidenced = evidenced m;
        faults_are_told = λ told here. absurd (nowhere told here);
        turn_corresponds = ties;
        finds_done = λ other. absurd (let z : InProbe ≡ ServingReady = other in cc);
      }
