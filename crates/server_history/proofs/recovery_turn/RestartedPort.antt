-- A port that a tick restarts: what the tick owes of it.
use Rattle.std.proofs.Common.{◌≡◌, ◌≢◌, List, sym, ap, ◌∙◌, subst, ⊎_elim}
use Rattle.ata_types.specs.declared.Port.{Port}
use Rattle.ata_types.specs.declared.PortState.TheVariants.{Ready as ReadyState}
use Rattle.ata_types.specs.declared.request.Reply.{Reply}
use Rattle.adapter.specs.declared.access.DeviceStep.{DeviceStep}
use Rattle.refinement.specs.Fragments.{AnySlotStates, IsSimulated}
use Rattle.block_machine.specs.Events.{AreStepsOfCall, UnpluggedExcludesDeadAndSameDisk, Tick}
use Rattle.block_machine.specs.Histories.{IsReachable}
use Rattle.block_machine.specs.Ports.{SameSerialAndSize}
use Rattle.block_machine.specs.State.{Machine}
use Rattle.host_boot.specs.TakeOver.{probe_result_of}
use Rattle.port_control.specs.PortEvents.{IsPxisSstsOrOwnIsAccess}
use Rattle.request_queue.specs.declared.disposition.Revalidation.TheVariants.{DiskLost}
use Rattle.server_history.specs.Prerequisites.{PrerequisiteLaws}
use Rattle.server_history.specs.ErrorHandling.{HasResolved, IsRevalidation, HandlesPortError}
use Rattle.server_history.specs.ServerState.{InCallInvariant, MachineRelation, ServerState, ports_of, state_of}
use Rattle.server_history.specs.Turns.{InRestart, RequeuesAndAbortsFitTurn, RestartsPort}
use Rattle.port_control.specs.declared.events.PortError.TheVariants.{TaskFileError, TimedOut, LinkChanged}
use Rattle.server_history.proofs.recovery_turn.MendedPort.{dead_found, disk_same, interrupted, ready_info}
use Rattle.server_history.proofs.recovery_turn.DecidedSteps.{DecidesTurn, nobody}
use Rattle.server_history.proofs.recovery_turn.TurnEvidence.{IsEvident}
use Rattle.server_history.proofs.recovery_turn.DoneRequests.{found_by_masks, heeding}
use Rattle.server_history.proofs.recovery_turn.HeededFaults.{anew}
use Rattle.server_history.proofs.dispositions.FateReasons.{belong_tick}
use Rattle.server_history.proofs.recovery_turn.RebootedPort.{restarts}
use Rattle.server_history.proofs.recovery_turn.TurnParts.{evidence_by, faults_of}

module _ (laws : PrerequisiteLaws) (port : Port) (replies : List Reply) (old new : ServerState) (k : InCallInvariant old) (ready : state_of (probe_result_of old.probe_results port.0) ≡ ReadyState) (r : HandlesPortError port replies old new)
    (looks : IsSimulated (IsPxisSstsOrOwnIsAccess port) AnySlotStates old.device r.has_resolved.error_handled.device_after_look) (kept : InCallInvariant r.server_after_resolving) (evident : IsEvident port replies old new r) (m : Machine) (reached : IsReachable m) (is : MachineRelation old m)
    (d : DecidesTurn port replies old new r (evidence_by r.has_resolved) m) (hung : r.has_resolved.error_handled.port_error ≡ TimedOut) where
  abbrev a : HasResolved port r.later_replies old r.server_after_resolving
  a = r.has_resolved

  unlost : a.error_handled.port_error ≢ LinkChanged
  unlost lost = let z : TimedOut ≡ LinkChanged = sym hung ∙ lost in cc

  unfailed : a.error_handled.port_error ≢ TaskFileError
  unfailed failed = let z : TimedOut ≡ TaskFileError = sym hung ∙ failed in cc

  pub belongs : AreStepsOfCall {D = DeviceStep} Tick (ports_of new) d.steps
  belongs = belong_tick (ports_of new) d.steps (d.gives unfailed) d.belong

  -- who is told Unplugged had another disk
  another : UnpluggedExcludesDeadAndSameDisk d.steps (ports_of old) (ports_of new)
  another e here =
      let why = d.unplugged e here in
      let told : IsRevalidation a.error_handled.port_error a.disk_before a.found DiskLost = subst (IsRevalidation a.error_handled.port_error a.disk_before a.found) why.0 a.is_revalidation in
      let own = ap (ports_of new).state (sym why.1) in (
        λ dead. told.0 (dead_found laws port replies old new k ready r looks kept (own ∙ dead)),
        λ is_ready same.
            let i = ready_info laws port replies old new k ready r looks kept (own ∙ is_ready) in
            ⊎_elim unlost (λ other. other i.0 i.1 (disk_same laws port replies old new k ready r looks kept i.0 i.1 (subst (SameSerialAndSize (ports_of old) (ports_of new)) why.1 same))) told.1,
      )

  restarted : RestartsPort port evident.accesses old new m (evidence_by a) d.steps
  restarted = record {
    finds_done = found_by_masks laws port replies old new k ready r looks kept evident m reached is d;
    is_dead_or_link_is_reset = restarts laws port replies old new k ready r looks kept evident unfailed unlost;
    answers_ok_what_had_ended = heeding laws port replies old new k ready r looks kept evident m reached is d;
    is_stopped_or_stuck = interrupted laws port replies old new k ready r looks kept;
    issued_are_issued_in_steps = anew laws port replies old new k ready r looks kept evident m reached is d;
    unplugged_lost_its_disk = another;
    shown_disk_was_in_or_came = evident.had m is d.steps d.backed;
  }

  pub owes : RequeuesAndAbortsFitTurn InRestart port evident.accesses old new m (evidence_by a) d.steps
  owes = (restarted, ap faults_of (nobody laws port replies old new k ready r looks kept unfailed))
