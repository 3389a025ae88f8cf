-- A turn that mends its port does of its port what a call does of a port.
use Rattle.std.proofs.Common.{◌≡◌, Bool, false, subst, List, [], refl, sym, ◌∙◌, ⊎_elim, ◌≢◌}
use Rattle.std.specs.List.{Contains}
use Rattle.ata_types.specs.declared.Port.{Port}
use Rattle.ata_types.specs.declared.PortState.TheVariants as shown
use Rattle.ata_types.specs.declared.PortState.TheVariants.{Ready as ReadyState}
use Rattle.ata_types.specs.declared.request.Reply.{Reply}
use Rattle.refinement.specs.Fragments.{AnySlotStates, IsSimulated}
use Rattle.refinement.specs.Errors.{IsFatalEntryOf}
use Rattle.refinement.specs.HaltRecovery.{WorksOnUnqueuedCommandsOnly}
use Rattle.block_machine.specs.Events.{Service}
use Rattle.block_machine.specs.Histories.{IsReachable}
use Rattle.block_machine.specs.State.{Machine}
use Rattle.driver_history.specs.Histories.{IsForeignOrUnfit, HasOnlyTaskFileError}
use Rattle.host_boot.specs.TakeOver.{probe_result_of}
use Rattle.port_control.specs.PortEvents.{IsPxisSstsOrOwnIsAccess}
use Rattle.port_control.specs.declared.events.PortError.{PortError}
use Rattle.port_control.specs.declared.events.PortError.TheVariants.{FatalError, TaskFileError, TimedOut, LinkChanged}
use Rattle.server_history.specs.Prerequisites.{PrerequisiteLaws}
use Rattle.server_history.specs.ErrorHandling.{AreAllQueuedAs, HandlesPortError}
use Rattle.server_history.specs.ServerState.{ServerState, InCallInvariant, MachineRelation, ports_of, slots_at, state_of}
use Rattle.server_history.specs.Turns.{LosesNoErrorAndRunsWellAnew, ServingReady, CorrespondsInServiceLosesNoErrorInRestart, joint_state_of}
use Rattle.server_history.proofs.recovery_turn.DecidedSteps.{DecidesTurn}
use Rattle.server_history.proofs.recovery_turn.TurnEvidence.{IsEvident}
use Rattle.server_history.proofs.recovery_turn.ToldFault.{faulting}
use Rattle.server_history.proofs.recovery_turn.DoneRequests.{finding}
use Rattle.server_history.proofs.recovery_turn.MendedMachine.{mid_kept, mid_ready}
use Rattle.server_history.proofs.state.PlainHalts.{plain_port_stays_plain}
use Rattle.server_history.proofs.any_turn.HeededTrouble.{gains_none}
use Rattle.server_history.proofs.recovery_turn.HeededFaults.{serves_ready}
use Rattle.server_history.proofs.recovery_turn.LastingTrouble.{lasting}
use Rattle.server_history.proofs.recovery_turn.RebootedPort.{reboots}
use Rattle.server_history.proofs.recovery_turn.TurnParts.{evidence_by, fatal_of, gone_of}
use Rattle.server_history.proofs.state.PortSlots.{ready_found}
use Rattle.server_history.proofs.recovery_turn.HealthyPort.{going_well}
use Rattle.server_history.proofs.state.FirstMembers.{first_here}
use Rattle.refinement.specs.PreservedParts.{IsPlugEvent}

module _ (laws : PrerequisiteLaws) (port : Port) (replies : List Reply) (old new : ServerState) (k : InCallInvariant old) (ready : state_of (probe_result_of old.probe_results port.0) ≡ ReadyState) (r : HandlesPortError port replies old new)
    (looks : IsSimulated (IsPxisSstsOrOwnIsAccess port) AnySlotStates old.device r.has_resolved.error_handled.device_after_look) (kept : InCallInvariant r.server_after_resolving) (evident : IsEvident port replies old new r)
    (m : Machine) (reached : IsReachable m) (is : MachineRelation old m)
    (d : DecidesTurn port replies old new r (evidence_by r.has_resolved) m) where
  -- the port was ready when the turn began
  not_absent : (ports_of old).state port ≡ shown.Absent → ⊥
  not_absent absent = let z : ReadyState ≡ shown.Absent = sym ready ∙ absent in cc

  not_bad : IsForeignOrUnfit (ports_of old) port → ⊥
  not_bad bad = ⊎_elim
      (λ foreign. let z : ReadyState ≡ shown.Foreign = sym ready ∙ foreign in absurd cc)
      (λ unfit. let z : ReadyState ≡ shown.Unfit unfit.0 = sym ready ∙ unfit.1 in absurd cc)
      bad

  then_kept : InCallInvariant r.has_resolved.server_after_handling
  then_kept = mid_kept laws port r.later_replies old r.server_after_resolving k ready r.has_resolved looks

  then_ready : state_of (probe_result_of r.has_resolved.server_after_handling.probe_results port.0) ≡ ReadyState
  then_ready = mid_ready laws port r.later_replies old r.server_after_resolving k ready r.has_resolved looks

  -- with plain commands outstanding, it has worked on plain ones alone
  plainly : r.has_resolved.error_handled.queued ≡ false → WorksOnUnqueuedCommandsOnly (r.has_resolved.server_after_handling.device.port port.0)
  plainly plain = plain_port_stays_plain laws r.has_resolved.server_after_handling then_kept port then_ready (subst (λ (queued : Bool). AreAllQueuedAs queued (slots_at r.has_resolved.server_after_handling.slots port.0)) plain r.has_resolved.error_handled.are_queued_alike) ((then_kept.port_invariant port.0 (ready_found old port.0 k ready).0).ready_halt_fits_taken_commands then_ready)

  -- where TFES alone was shown, and no fatal error came, a command had failed
  failing : r.has_resolved.error_handled.port_error ≢ TimedOut → HasOnlyTaskFileError port (joint_state_of old m) new.device → r.has_resolved.error_handled.port_error ≡ TaskFileError
  failing unhung alone = by r.has_resolved.error_handled.port_error refl
    where
      by : (t : PortError) → r.has_resolved.error_handled.port_error ≡ t → r.has_resolved.error_handled.port_error ≡ TaskFileError
      by TaskFileError is = is
      by FatalError is =
          let here : Contains (fatal_of port r.has_resolved.error_handled.port_error (old.device.port port.0)) port = subst (λ (t : PortError). Contains (fatal_of port t (old.device.port port.0)) port) (sym is) (first_here port []) in
          absurd (⊎_elim alone.shows_only_tfes.no_fatal_is_shown (gains_none (IsFatalEntryOf port.0) old.device new.device alone.none_is_fatal.new_entries alone.none_is_fatal.tape_is alone.none_is_fatal.no_such_entry) ((evident.evidenced Service m).named_showing_fatal_had_fatal here).1)
      by LinkChanged is =
          let here : Contains (gone_of port r.has_resolved.error_handled.port_error (old.device.port port.0)) port = subst (λ (t : PortError). Contains (gone_of port t (old.device.port port.0)) port) (sym is) (first_here port []) in
          absurd (⊎_elim alone.shows_only_tfes.no_change_is_shown
          (λ more. ⊎_elim (λ (out : (old.device.port port.0).ssts_det ≢ 3). out alone.shows_only_tfes.device_is_shown) (gains_none (IsPlugEvent port.0) old.device new.device alone.no_plug_events.new_entries alone.no_plug_events.tape_is alone.no_plug_events.no_such_entry) more)
          ((evident.evidenced Service m).named_link_changed_had_change_or_no_device here).1)
      by TimedOut is = absurd (unhung is)

  -- what a call does of trouble
  pub heeds_trouble : LosesNoErrorAndRunsWellAnew port evident.accesses (joint_state_of old m) (evidence_by r.has_resolved) (ports_of new) new.device
  heeds_trouble = record {
    loses_no_error = lasting laws port replies old new k ready r looks kept evident.parts m;
    runs_well_anew = going_well laws port replies old new k ready r looks kept evident plainly m;
  }

  pub ties_recovered : r.has_resolved.error_handled.port_error ≢ TimedOut → CorrespondsInServiceLosesNoErrorInRestart ServingReady port replies evident.accesses old new m (evidence_by r.has_resolved) d.steps
  ties_recovered unhung = record {
    finds_done = λ _ e issued. finding laws port replies old new k ready r looks kept evident m reached is d;
    lone_plain_faults_are_told_unless_dead = λ alone e slot issued unended says plain. faulting laws port replies old new k ready r looks kept m reached is d (failing unhung alone) e slot issued unended says plain;
    probes_disk = λ _ _. record {
      absent_with_device_is_booted_dead_or_has_plug_event = λ absent. absurd (not_absent absent);
      absent_gets_first_fis_or_dead_or_no_device = λ absent. absurd (not_absent absent);
      missing_disk_makes_absent_or_dead = λ bad. absurd (not_bad bad);
      changed_disk_is_booted_or_absent_or_dead = λ bad. absurd (not_bad bad);
    };
    boots_anew = reboots laws port replies old new k ready r looks kept evident m;
    loses_no_error = heeds_trouble.loses_no_error;
    runs_well_anew = heeds_trouble.runs_well_anew;
    handles_evidence = λ _. serves_ready laws port replies old new k ready r looks kept evident m reached is d unhung;
  }
