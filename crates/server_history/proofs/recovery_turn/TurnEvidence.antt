-- The evidence of a turn that mends its port: what stands behind each port and each fault that it names.
use Rattle.std.proofs.Common.{ℕ, ◌≡◌, ◌≢◌, ◌<◌, ◌++◌, Bool, true, false, List, [], ◌∷◌, Option, Some, None, refl, sym, ap, ◌∙◌, subst, inl, inr, arith, ⊎_elim, ◌⊎◌}
use Rattle.std.specs.List.{All, Contains, list_any}
use Rattle.std.proofs.lemmas.List.Elements.{All-append, All-weaker}
use Rattle.ata_types.specs.declared.Port.{Port}
use Rattle.ata_types.specs.declared.PortState.TheVariants.{Dead as DeadState, Ready as ReadyState}
use Rattle.ata_types.specs.declared.request.Reply.{Reply}
use Rattle.ata_types.specs.declared.request.RequestId.{RequestId}
use Rattle.ata_types.specs.declared.limits.TheConstants.{MOST_READINGS}
use Rattle.hba_regs.specs.declared.reg.PortReg.TheVariants.{Cmd}
use Rattle.hba_regs.specs.declared.reg.Reg.TheVariants.{Ghc, Px}
use Rattle.adapter.specs.Access.{Access, DoesAll}
use Rattle.adapter.specs.Device.{Device}
use Rattle.adapter.specs.declared.command.Operation.TheVariants.{ReadLog}
use Rattle.adapter.specs.declared.tape.Fault as tape_fault
use Rattle.refinement.specs.Fragments.{AnySlotStates, TapeGrows, IsSimulated, AccessesNoOtherPort, GainsNoMove}
use Rattle.refinement.specs.Driver.{TapeBacksSteps}
use Rattle.refinement.specs.PreservedParts.{DoesNotWrite}
use Rattle.block_machine.specs.Events.{AbstractCall, ShownDiskWasInOrCame, Replied, ShowsDisk, changes_disk}
use Rattle.adapter.specs.declared.access.DeviceStep.{DeviceStep}
use Rattle.block_machine.specs.Expected.{after}
use Rattle.block_machine.specs.Ports.{RequestFault, MayBecomeInService}
use Rattle.block_machine.specs.State.{Machine}
use Rattle.block_machine.specs.Steps.{Step}
use Rattle.server_history.proofs.state.ListMembers.{contains_cases}
use Rattle.driver_history.specs.Evidence.{IsEvidencedOf}
use Rattle.driver_history.specs.AccessTrace.{StaysInDriverFrames}
use Rattle.error_recovery.specs.Evidence.{HasFailed}
use Rattle.error_recovery.specs.Recovery.{EndsAsNext, BacksFailure, TellsEngineOutcome}
use Rattle.error_recovery.specs.declared.Next.{Next}
use Rattle.error_recovery.specs.declared.Next.TheVariants as next
use Rattle.ata_types.specs.declared.Slot.{Slot}
use Rattle.host_boot.specs.TakeOver.{probe_result_of, wanted_of}
use Rattle.host_boot.specs.declared.ProbeResult.TheVariants.{Ready, Unready}
use Rattle.port_control.specs.Engines.{EngineSticks, Stops}
use Rattle.port_control.specs.PortEvents.{IsPxisSstsOrOwnIsAccess, TakesEvent}
use Rattle.port_control.specs.declared.events.PortEvent.{PortEvent}
use Rattle.request_queue.specs.BookEntries.{BookEntry, unanswered_of, due_ids}
use Rattle.request_queue.specs.declared.disposition.FailedRequest as failed_request
use Rattle.request_queue.specs.declared.disposition.Revalidation.TheVariants.{DiskLost}
use Rattle.slots.specs.SlotUses.{use_at}
use Rattle.slots.specs.declared.SlotUse.{SlotUse}
use Rattle.server_history.specs.Prerequisites.{PrerequisiteLaws}
use Rattle.server_history.proofs.any_turn.ShownTrouble.{grows_over}
use Rattle.server_history.specs.ErrorHandling.{IsFailedRequest, IsFoundAfterError, LookTellsErrorUnlessTimedOut, IsRevalidation, IsErrorHandled, HasResolved, HandlesPortError}
use Rattle.server_history.specs.IssuingAndAnswering.{AnswersEach}
use Rattle.server_history.specs.ServerState.{ServerState, InCallInvariant, MachineRelation, ports_of, slots_at, state_of, used_for, mode_in}
use Rattle.server_history.specs.Turns.{IsFaultOfCommand, LeavesOtherPortsGrantsAndLastId, PortListsNameOnly, IsFaultOfUsedSlot, joint_state_of, abstract_state_of}
use Rattle.server_history.proofs.healthy_turn.OneAnswer.{answer_kept}
use Rattle.server_history.proofs.recovery_turn.SparedPorts.{leaves_others}
use Rattle.server_history.proofs.recovery_turn.MendedPort.{becomes, dead_found, dead_prospect, disk_same, interrupted, its, lost_is, names, ready_info, state_new, stuck_is, next_dead}
use Rattle.server_history.proofs.any_turn.ToldTrouble.{given_up}
use Rattle.server_history.proofs.recovery_turn.NamedTrouble.{failed_all, failed_only, fatal_all, fatal_only, gone_all, gone_only, loss}
use Rattle.server_history.proofs.recovery_turn.FoundDisk.{booted_had}
use Rattle.server_history.proofs.recovery_turn.BootOrAbsence.{boots_or_absent}
use Rattle.server_history.proofs.state.PlacedSlots.{freed_was}
use Rattle.server_history.proofs.recovery_turn.RecoveryAccesses.{IsEarlyPart, IsPart}
use Rattle.server_history.proofs.recovery_turn.TurnParts.{evidence_by, faults_of, stopped_of}
use Rattle.server_history.proofs.healthy_turn.AnswersAndIssues.{over_on, ready_on}
use Rattle.server_history.proofs.any_turn.ShownDevice.{had_disk, shows_device}
use Rattle.server_history.proofs.state.PortSlots.{CommandsAreOver, ready_found}
use Rattle.server_history.proofs.recovery_turn.TurnStretches.{TurnParts, accesses_in, done_over, found_is, found_kept, mid_device, turn_parts}
use Rattle.server_history.proofs.state.FirstMembers.{nowhere}
use Rattle.port_control.specs.declared.events.PortEvent.TheVariants as look
use Rattle.port_control.specs.declared.events.PortError.{PortError}
use Rattle.port_control.specs.declared.events.PortError.TheVariants.{FatalError, TaskFileError, TimedOut, LinkChanged}
use Rattle.server_history.proofs.state.TurnAccesses.{look_list, look_does}
use Rattle.host_boot.specs.Reboots.{RebootsPort}
use Rattle.host_boot.specs.declared.Booted.{Booted}
use Rattle.host_boot.specs.declared.ProbeResult.{ProbeResult}
use Rattle.server_history.proofs.plain_calls.IssueRounds.{each_driven}

-- ---- what recovery tells of the port's engine

module _ (laws : PrerequisiteLaws) (port : Port) (early part late : List Access) where
  pub engine_stops : (then : Next) → TellsEngineOutcome port then part → Contains (stopped_of port then) port → Stops port (early ++ (part ++ late))
  engine_stops (next.Running token) engine here = laws.fall_holds_with_earlier early (part ++ late) 0 15 port (laws.fall_holds_with_later part late 0 15 port engine)
  engine_stops (next.Restart token) engine here = laws.fall_holds_with_earlier early (part ++ late) 0 15 port (laws.fall_holds_with_later part late 0 15 port engine)
  engine_stops next.Dead engine here = absurd (nowhere port here)

  -- one that is stuck is so in recovery, or later
  pub engine_sticks : (then : Next) → TellsEngineOutcome port then part → (then ≢ next.Dead → EngineSticks port late) → EngineSticks port (early ++ (part ++ late))
  engine_sticks (next.Running token) engine later = laws.sticking_holds_with_earlier early (part ++ late) port (laws.sticking_holds_with_earlier part late port (later (λ e. let z : next.Running token ≡ next.Dead = e in cc)))
  engine_sticks (next.Restart token) engine later = laws.sticking_holds_with_earlier early (part ++ late) port (laws.sticking_holds_with_earlier part late port (later (λ e. let z : next.Restart token ≡ next.Dead = e in cc)))
  engine_sticks next.Dead engine later = laws.sticking_holds_with_earlier early (part ++ late) port (laws.sticking_holds_with_later part late port engine)

  ends_stuck : (queued : Bool) (then : Next) (old new : Device) → EndsAsNext queued port then old new → then ≡ next.Dead → (new.port port.0).notes.engine_wait_count ≡ MOST_READINGS
  ends_stuck queued (next.Running token) old new ends is = let z : next.Running token ≡ next.Dead = is in absurd cc
  ends_stuck queued (next.Restart token) old new ends is = let z : next.Restart token ≡ next.Dead = is in absurd cc
  ends_stuck queued next.Dead old new ends is = ends.1

-- ---- slots

-- what a slot is used for once requests were answered, it was used for before
pub slots_were : (laws : PrerequisiteLaws) (port : Port) → port.0 < 4 → (done : ℕ) (requests : List BookEntry) (old new : ServerState) → InCallInvariant old → state_of (probe_result_of old.probe_results port.0) ≡ ReadyState → CommandsAreOver port done old.device → AnswersEach port done requests old new
    → (slot : ℕ) (used : SlotUse) → used_for new.slots port.0 slot ≡ Some used → used_for old.slots port.0 slot ≡ Some used
slots_were laws port low done [] old new k ready over none slot used is = ap (λ (n : ServerState). used_for n.slots port.0 slot) (sym none) ∙ is
slots_were laws port low done (e ∷ requests) old new k ready over (mid, one, its, more) slot used is =
    let was = slots_were laws port low done requests mid new (answer_kept laws old mid port e k ready one (over one.slot one.slot_is_below_32 its)) (ready_on laws port done e old mid one ready) (over_on laws port done e old mid one over) more slot used is in
    let four = k.slots_are_of_four_ports in
    let places = (k.slots_invariant port.0 low).has_32_slots in
    let small = one.slot_is_below_32 in
    freed_was old.slots port.0 one.slot (omega (arith, four, low)) (omega (arith, places, small)) port.0 slot used (ap (λ (n : ServerState). used_for n.slots port.0 slot) (sym one.server_is) ∙ was)

-- ---- the whole

-- What stands behind the turn, but for its steps: its accesses, what it leaves of the other ports, and its evidence. (Where the port shows a disk after it, the machine had one in the port, or one went or came.)
pub record IsEvident (port : Port) (replies : List Reply) (old new : ServerState) (r : HandlesPortError port replies old new) : Type 0 where
  pub parts : TurnParts port replies old new r
  pub accesses : List Access
  pub accesses_are : accesses ≡ accesses_in parts
  pub does : DoesAll accesses old.device new.device
  pub of : All (AccessesNoOtherPort port) accesses
  pub own : All StaysInDriverFrames accesses
  pub others : LeavesOtherPortsGrantsAndLastId port old new
  pub silent : (q : ℕ) → q ≢ port.0 → state_of (probe_result_of old.probe_results q) ≢ DeadState → GainsNoMove q ReadLog old.device new.device
  pub names : PortListsNameOnly port (evidence_by r.has_resolved)
  pub becomes : MayBecomeInService (ports_of old) (evidence_by r.has_resolved) (ports_of new) port
  pub evidenced : (ask : AbstractCall DeviceStep) (m : Machine) → IsEvidencedOf ask (Replied replies) accesses (joint_state_of old m) (ports_of new) new.device (evidence_by r.has_resolved) port
  pub faults : (told : RequestFault) → Contains (evidence_by r.has_resolved).faults told → IsFaultOfUsedSlot port accesses old new told
  pub had : (m : Machine) → MachineRelation old m → (steps : List Step) → TapeBacksSteps old.device new.device m steps
      → ShownDiskWasInOrCame (abstract_state_of old m) steps (abstract_state_of new (after m steps)) port

module _ (laws : PrerequisiteLaws) (port : Port) (replies : List Reply) (old new : ServerState) (k : InCallInvariant old) (ready : state_of (probe_result_of old.probe_results port.0) ≡ ReadyState) (r : HandlesPortError port replies old new)
    (looks : IsSimulated (IsPxisSstsOrOwnIsAccess port) AnySlotStates old.device r.has_resolved.error_handled.device_after_look) (kept : InCallInvariant r.server_after_resolving) where
  abbrev a : HasResolved port r.later_replies old r.server_after_resolving
  a = r.has_resolved

  abbrev x : IsErrorHandled port old a.server_after_handling a.device_after_handling
  x = a.error_handled

  abbrev part : List Access
  part = x.recovers_or_stops.accesses

  low : port.0 < 4
  low = (ready_found old port.0 k ready).0

  t : TurnParts port replies old new r
  t = turn_parts laws port replies old new k ready r looks kept

  -- ---- the tape grows

  grown_late : TapeGrows a.server_after_handling.device new.device
  grown_late = laws.port_event_laws.tape.growth_is_transitive a.server_after_handling.device a.device_after_handling new.device (grows_over laws part a.server_after_handling.device a.device_after_handling t.does) (grows_over laws t.late.accesses a.device_after_handling new.device t.late.all_are_done)

  grown_seen : TapeGrows x.device_after_look new.device
  grown_seen =
      laws.port_event_laws.tape.growth_is_transitive x.device_after_look x.device_after_read new.device (grows_over laws x.reads_done.driven.accesses x.device_after_look x.device_after_read x.reads_done.driven.all_are_done)
      (subst (λ (d : Device). TapeGrows d new.device) (mid_device laws port replies old new k ready r looks kept) grown_late)

  -- ---- ports

  undue : (old.device.port port.0).link_due ≡ false
  undue = ((k.port_invariant port.0 low).ready_engine_runs ready).faults_are_recorded.no_link_is_due

  -- a dead port's engine was awaited in vain, at last
  counted : a.found ≡ Unready DeadState → (new.device.port port.0).notes.engine_wait_count ≡ MOST_READINGS
  counted dead = by x.result.next refl
    where
      by : (then : Next) → x.result.next ≡ then → (new.device.port port.0).notes.engine_wait_count ≡ MOST_READINGS
      by (next.Running token) is = t.stuck dead (λ e. let z : next.Running token ≡ next.Dead = sym is ∙ e in cc)
      by (next.Restart token) is = t.stuck dead (λ e. let z : next.Restart token ≡ next.Dead = sym is ∙ e in cc)
      by next.Dead is =
          let still : IsFoundAfterError (wanted_of old.wanted port.0) port x.port_error a.disk_before next.Dead a.device_after_handling r.server_after_resolving.device a.found = subst (λ (n : Next). IsFoundAfterError (wanted_of old.wanted port.0) port x.port_error a.disk_before n a.device_after_handling r.server_after_resolving.device a.found) is a.is_found_after_error in
          ap (λ (s : ServerState). (s.device.port port.0).notes.engine_wait_count) (t.with_issue_undone dead) ∙ ap (λ (d : Device). (d.port port.0).notes.engine_wait_count) still.1
          ∙ ends_stuck laws port [] [] [] x.queued x.result.next a.server_after_handling.device a.device_after_handling x.recovers_or_stops.leaves.ends_as_next is

  evidenced : (ask : AbstractCall DeviceStep) (m : Machine) → IsEvidencedOf ask (Replied replies) (accesses_in t) (joint_state_of old m) (ports_of new) new.device (its laws port replies old new k ready r looks kept) port
  evidenced ask m = record {
    named_lost_showed_loss_or_changed = λ here.
        let other = lost_is port a.revalidation here in
        let e : IsRevalidation x.port_error a.disk_before a.found DiskLost = subst (IsRevalidation x.port_error a.disk_before a.found) other a.is_revalidation in
        ⊎_elim
        (λ lost. ⊎_elim (λ change. inl change) (λ more. inr (⊎_elim (λ out. inl out) (λ came. inr (inl came)) more)) (loss laws port old.device x.device_after_look new.device k.adapter_is_on undue grown_seen x.port_error x.error_is_found lost))
        (λ another. inr (inr (inr (
          (λ dead. e.0 (dead_found laws port replies old new k ready r looks kept dead)),
          (λ is same. let i = ready_info laws port replies old new k ready r looks kept is in another i.0 i.1 (disk_same laws port replies old new k ready r looks kept i.0 i.1 same)),
        ))))
        e.1;
    shown_loss_of_ready_is_named = λ _ shows. gone_all laws port old.device x.device_after_look new.device k.adapter_is_on undue grown_seen x.port_error x.error_is_found shows;
    named_link_changed_had_change_or_no_device = λ here. (ready, gone_only laws port old.device x.device_after_look new.device k.adapter_is_on undue grown_seen x.port_error x.error_is_found here);
    shown_failure_of_ready_is_named = λ _ shows. failed_all laws port old.device x.device_after_look new.device k.adapter_is_on undue grown_seen x.port_error shows;
    named_showing_error_had_error = λ here. (ready, failed_only laws port old.device x.device_after_look new.device k.adapter_is_on undue grown_seen x.port_error x.error_is_found here);
    shown_fatal_of_ready_is_named = λ _ fatal. fatal_all laws port old.device x.device_after_look new.device k.adapter_is_on undue grown_seen x.port_error x.error_is_found fatal;
    named_showing_fatal_had_fatal = λ here. (ready, fatal_only laws port old.device x.device_after_look new.device k.adapter_is_on undue grown_seen x.port_error x.error_is_found here);
    engine_is_left_or_stopped = inr (interrupted laws port replies old new k ready r looks kept);
    named_stopped_was_stopped_or_reset = λ here. inl (engine_stops laws port t.early.accesses part t.late.accesses x.result.next x.recovers_or_stops.does.tells_engine_outcome here);
    stuck_only = λ here.
        let dead = dead_prospect laws port replies old new k ready r looks kept (stuck_is port a.revalidation here) in
        inl (engine_sticks laws port t.early.accesses part t.late.accesses x.result.next x.recovers_or_stops.does.tells_engine_outcome (t.sticks dead), counted dead);
  }

  -- ---- faults

  -- Where a queued command is named, the port runs, with the disk that it had.
  module _ (its_failure : Slot × ℕ × ℕ) (named : x.result.failed ≡ Some its_failure) where
    runs_then : x.queued ≡ true → (a.found ≡ Ready a.disk_before) × (r.server_after_resolving.device ≡ a.device_after_handling)
    runs_then queued = by x.result.next refl
      where
        then_is : (then : Next) → x.result.next ≡ then → IsFoundAfterError (wanted_of old.wanted port.0) port x.port_error a.disk_before then a.device_after_handling r.server_after_resolving.device a.found
        then_is then is = subst (λ (n : Next). IsFoundAfterError (wanted_of old.wanted port.0) port x.port_error a.disk_before n a.device_after_handling r.server_after_resolving.device a.found) is a.is_found_after_error

        by : (then : Next) → x.result.next ≡ then → (a.found ≡ Ready a.disk_before) × (r.server_after_resolving.device ≡ a.device_after_handling)
        by (next.Running token) is = then_is (next.Running token) is
        by (next.Restart token) is = let z : Some its_failure ≡ None = sym named ∙ x.recovers_or_stops.tells.queued_restart_names_none token queued is in absurd cc
        by next.Dead is = let z : Some its_failure ≡ None = sym named ∙ x.recovers_or_stops.tells.dead_names_none is in absurd cc

    lives_then : x.queued ≡ true → (ports_of new).state port ≢ DeadState
    lives_then queued dead = let z : ReadyState ≡ DeadState = sym (ap state_of (runs_then queued).0) ∙ sym (state_new laws port replies old new k ready r looks kept) ∙ dead in cc

    -- so its disk sends no page of the log after that of recovery
    quiet_then : x.queued ≡ true → GainsNoMove port.0 ReadLog a.device_after_handling new.device
    quiet_then queued =
        let then = runs_then queued in
        subst (λ (d : Device). GainsNoMove port.0 ReadLog d new.device) then.1
        (t.issuing_silent (λ dead. let z : ReadyState ≡ DeadState = sym (ap state_of (found_is laws port replies old new k ready r looks kept ∙ then.0)) ∙ dead in absurd cc))

    stays_failed : (fault : tape_fault.Fault) → HasFailed port part a.server_after_handling.device a.device_after_handling fault → HasFailed port (accesses_in t) old.device new.device fault
    stays_failed fault = laws.failure_is_of_whole port t.early.accesses part t.late.accesses old.device a.server_after_handling.device a.device_after_handling new.device fault k.adapter_is_on
        (All-weaker (IsEarlyPart port) (DoesNotWrite Ghc) (λ access is. laws.one_port_spares_ghc port access is.0.1) t.early.accesses t.early.accesses_are_of_kind)
        (All-weaker (IsEarlyPart port) (DoesNotWrite (Px port Cmd)) (λ access is. is.1) t.early.accesses t.early.accesses_are_of_kind) t.early.all_are_done t.late.all_are_done

    told_so : (queued : Bool) → x.queued ≡ queued → BacksFailure queued port x.outstanding part a.server_after_handling.device a.device_after_handling (Some its_failure) → (id : RequestId)
        → IsFaultOfCommand queued port (accesses_in t) old.device new.device its_failure.0.0 (record { id = id; status = its_failure.1; error = its_failure.2 })
    told_so false is rests id = (rests.fault, stays_failed rests.fault rests.has_failed, rests.fault_slot_is ∙ sym rests.slot_is, rests.status_is, rests.error_is)
    told_so true is rests id = (
      (rests.fault, stays_failed rests.fault rests.has_failed),
      (rests.last_log_page, laws.log_page_is_of_whole port old.device a.server_after_handling.device a.device_after_handling new.device rests.last_log_page (grows_over laws t.early.accesses old.device a.server_after_handling.device t.early.all_are_done) (quiet_then is) rests.brings, rests.tells),
    )

    tells_named : (used : SlotUse) → use_at (slots_at a.server_after_handling.slots port.0) its_failure.0.0 ≡ Some used → IsFaultOfUsedSlot port (accesses_in t) old new (record { id = used.id; status = its_failure.1; error = its_failure.2 })
    tells_named used there =
        let alike : used.queued ≡ x.queued = x.are_queued_alike its_failure.0.0 used there in
        record {
          slot = its_failure.0.0;
          used = used;
          slot_use_is = slots_were laws port low x.done x.requests (record old { device = x.device_after_read }) a.server_after_handling (found_kept laws port replies old new k ready r looks kept) ready (done_over laws port replies old new k ready r looks kept) x.answers_each its_failure.0.0 used there;
          id_is = refl;
          is_fault_of_command = subst (λ (queued : Bool). IsFaultOfCommand queued port (accesses_in t) old.device new.device its_failure.0.0 (record { id = used.id; status = its_failure.1; error = its_failure.2 })) (sym alike)
              (told_so x.queued refl (subst (BacksFailure x.queued port x.outstanding part a.server_after_handling.device a.device_after_handling) named x.recovers_or_stops.tells.failure_is_backed) used.id);
          port_is_not_dead_if_queued = λ queued. lives_then (sym alike ∙ queued);
        }

  faults : (told : RequestFault) → Contains (faults_of a.failed) told → IsFaultOfUsedSlot port (accesses_in t) old new told
  faults told here = by a.failed refl here
    where
      by_failure : (failed : failed_request.FailedRequest) → a.failed ≡ Some failed → (o : Option (Slot × ℕ × ℕ)) → x.result.failed ≡ o → IsFailedRequest (slots_at a.server_after_handling.slots port.0) o a.failed
          → IsFaultOfUsedSlot port (accesses_in t) old new (record { id = failed.id; status = failed.status; error = failed.error })
      by_failure failed is None none names = let z : Some failed ≡ None = sym is ∙ names in absurd cc
      by_failure failed is (Some its_failure) named names =
          let same : failed ≡ record { id = names.0.id; status = its_failure.1; error = its_failure.2 } = (let z : Some failed ≡ Some (record { id = names.0.id; status = its_failure.1; error = its_failure.2 }) = sym is ∙ names.2 in cc) in
          subst (λ (f : failed_request.FailedRequest). IsFaultOfUsedSlot port (accesses_in t) old new (record { id = f.id; status = f.status; error = f.error })) (sym same) (tells_named its_failure named names.0 names.1)

      by : (f : Option failed_request.FailedRequest) → a.failed ≡ f → Contains (faults_of a.failed) told → IsFaultOfUsedSlot port (accesses_in t) old new told
      by None is there = absurd (nowhere told (subst (λ (o : Option failed_request.FailedRequest). Contains (faults_of o) told) is there))
      by (Some failed) is there =
          let fault : RequestFault = record { id = failed.id; status = failed.status; error = failed.error } in
          let same : told ≡ fault = ⊎_elim (λ e. e) (λ none. absurd (nowhere told none)) (contains_cases fault [] told (subst (λ (o : Option failed_request.FailedRequest). Contains (faults_of o) told) is there)) in
          subst (IsFaultOfUsedSlot port (accesses_in t) old new) (sym same) (by_failure failed is x.result.failed refl a.failed_request_is)

  -- ---- disks

  -- where a device showed at a moment of the turn, a disk was in
  own_at : (accesses : List Access) (d : Device) → DoesAll accesses old.device d → (d.port port.0).ssts_det ≡ 3 → (d.port port.0).present ≡ true
  own_at accesses d does = laws.recovery.shown_disk_stays_in port.0 accesses old.device d does ((k.port_invariant port.0 low).ready_has_disk_if_det_3 ready)

  had_at : (accesses : List Access) (d : Device) → DoesAll accesses old.device d → (d.port port.0).ssts_det ≡ 3 → TapeGrows d new.device → (m : Machine) → MachineRelation old m → (steps : List Step) → TapeBacksSteps old.device new.device m steps
      → (m.present port ≡ true) ⊎ (list_any (changes_disk port) steps ≡ true)
  had_at accesses d does shows grows m is steps backed = had_disk laws port old d new.device m accesses does (own_at accesses d does shows) is grows steps backed

  grown_issuing : TapeGrows r.server_after_resolving.device new.device
  grown_issuing = let issued = each_driven laws port (due_ids (mode_in r.server_after_resolving port) port (unanswered_of r.server_after_resolving.book)) r.server_after_resolving new r.issued in grows_over laws issued.accesses r.server_after_resolving.device new.device issued.all_are_done

  -- a boot that finds a disk sees a device; so did the look that told of an error
  module _ (m : Machine) (stands : MachineRelation old m) (steps : List Step) (backed : TapeBacksSteps old.device new.device m steps) where
    abbrev Had : Type 0
    Had = (m.present port ≡ true) ⊎ (list_any (changes_disk port) steps ≡ true)

    had_seen : (told : PortEvent) (l : TakesEvent port told old.device x.device_after_look) → (told ≡ look.TaskFileError) ⊎ (told ≡ look.FatalError) → Had
    had_seen told l error =
        had_at (look_list port l.causes l.port_mask l.status) x.device_after_look (look_does port told old.device x.device_after_look l) (shows_device laws port old.device x.device_after_look told l k.adapter_is_on (λ lost. ⊎_elim (λ (is : told ≡ look.TaskFileError). let z : look.LinkChanged ≡ look.TaskFileError = sym lost ∙ is in cc) (λ (is : told ≡ look.FatalError). let z : look.LinkChanged ≡ look.FatalError = sym lost ∙ is in cc) error)) grown_seen m stands steps backed

    had_booted : (booted : Booted) → RebootsPort (wanted_of old.wanted port.0) port booted a.device_after_handling r.server_after_resolving.device → ShowsDisk (state_of booted.found) → Had
    had_booted booted b shows =
        booted_had laws port old (wanted_of old.wanted port.0) booted (t.early.accesses ++ part) a.device_after_handling r.server_after_resolving.device new.device k.adapter_is_on (laws.steps_and_accesses.does_append t.early.accesses part old.device a.server_after_handling.device a.device_after_handling t.early.all_are_done t.does)
        (All-append (AccessesNoOtherPort port) t.early.accesses part (All-weaker (IsEarlyPart port) (AccessesNoOtherPort port) (λ access is. is.0.1) t.early.accesses t.early.accesses_are_of_kind) (All-weaker (IsPart port) (AccessesNoOtherPort port) (λ access is. is.1) part t.kinds))
        b shows grown_issuing m stands steps backed

    -- where no command had failed, the port was booted
    had_stopped : x.port_error ≢ TaskFileError → ShowsDisk (state_of a.found) → Had
    had_stopped other shows = by x.result.next refl
      where
        by : (n : Next) → x.result.next ≡ n → Had
        by (next.Running token) is = absurd ((given_up x.port_error port x.outstanding x.queued x.result x.recovers_or_stops.accesses a.server_after_handling.device a.device_after_handling x.tells_error_handling other).1 token is)
        by next.Dead is = absurd (subst (λ (f : ProbeResult). ShowsDisk (state_of f)) (next_dead laws port replies old new k ready r looks kept is) shows)
        by (next.Restart token) is = ⊎_elim
            (λ boots. had_booted after.0 boots (subst (λ (f : ProbeResult). ShowsDisk (state_of f)) (sym after.1) shows))
            (λ absent. absurd (subst (λ (f : ProbeResult). ShowsDisk (state_of f)) (sym after.1 ∙ absent.is) shows))
            (boots_or_absent x.port_error (wanted_of old.wanted port.0) port after.0 a.device_after_handling r.server_after_resolving.device after.2)
          where
            after : IsFoundAfterError (wanted_of old.wanted port.0) port x.port_error a.disk_before (next.Restart token) a.device_after_handling r.server_after_resolving.device a.found
            after = subst (λ (n : Next). IsFoundAfterError (wanted_of old.wanted port.0) port x.port_error a.disk_before n a.device_after_handling r.server_after_resolving.device a.found) is a.is_found_after_error

    had : ShownDiskWasInOrCame (abstract_state_of old m) steps (abstract_state_of new (after m steps)) port
    had shows = by x.port_error refl x.error_is_found
      where
        shows_found : ShowsDisk (state_of a.found)
        shows_found = subst ShowsDisk (state_new laws port replies old new k ready r looks kept) shows

        by : (port_error : PortError) → x.port_error ≡ port_error → LookTellsErrorUnlessTimedOut port port_error old.device x.device_after_look → Had
        by TaskFileError is l = had_seen look.TaskFileError l (inl refl)
        by FatalError is l = had_seen look.FatalError l (inr refl)
        by LinkChanged is l = had_stopped (λ failed. let z : LinkChanged ≡ TaskFileError = sym is ∙ failed in cc) shows_found
        by TimedOut is same = had_stopped (λ failed. let z : TimedOut ≡ TaskFileError = sym is ∙ failed in cc) shows_found

  -- ---- all of it

  kinds : All (IsPart port) (accesses_in t)
  kinds =
      All-append (IsPart port) t.early.accesses (part ++ t.late.accesses) (All-weaker (IsEarlyPart port) (IsPart port) (λ access is. is.0) t.early.accesses t.early.accesses_are_of_kind)
      (All-append (IsPart port) part t.late.accesses t.kinds t.late.accesses_are_of_kind)

  pub evident : IsEvident port replies old new r
  evident = record {
    parts = t;
    accesses = accesses_in t;
    accesses_are = refl;
    does = laws.steps_and_accesses.does_append t.early.accesses (part ++ t.late.accesses) old.device a.server_after_handling.device new.device t.early.all_are_done (laws.steps_and_accesses.does_append part t.late.accesses a.server_after_handling.device a.device_after_handling new.device t.does t.late.all_are_done);
    of = All-weaker (IsPart port) (AccessesNoOtherPort port) (λ access is. is.1) (accesses_in t) kinds;
    own = All-weaker (IsPart port) StaysInDriverFrames (λ access is. is.0) (accesses_in t) kinds;
    others = leaves_others laws port replies old new k r kept;
    silent = t.silent;
    names = names laws port replies old new k ready r looks kept;
    becomes = becomes laws port replies old new k ready r looks kept;
    evidenced = evidenced;
    faults = faults;
    had = had;
  }
