-- The accesses of a whole turn that mends its port: those before the port was recovered, recovery's, and those after it.
use Rattle.std.proofs.Common.{ℕ, ◌≡◌, ◌≢◌, ◌<◌, ◌++◌, List, [], ◌∷◌, length, map, refl, sym, ap, ◌∙◌, subst, inl, inr, arith, ⊎_elim, ◌⊎◌}
use Rattle.std.specs.List.{All, Contains}
use Rattle.std.proofs.lemmas.Bool.Decides.{leb_tells}
use Rattle.std.proofs.lemmas.List.{get_or-set_other, get_or-set_same, get_or_past}
use Rattle.std.proofs.lemmas.List.Elements.{All-append, All-cons, All-nil, All-weaker}
use Rattle.ata_types.specs.declared.Port.{Port}
use Rattle.ata_types.specs.declared.PortState.TheVariants as shown
use Rattle.ata_types.specs.declared.PortState.TheVariants.{Absent as AbsentState, Dead as DeadState, Ready as ReadyState}
use Rattle.ata_types.specs.declared.request.Reply.{Reply}
use Rattle.ata_types.specs.declared.request.RequestId.{RequestId}
use Rattle.ata_types.specs.declared.limits.TheConstants.{MOST_READINGS}
use Rattle.hba_regs.specs.declared.reg.PortReg.TheVariants.{Ci, Sact, Sctl}
use Rattle.hba_regs.specs.declared.reg.Reg.TheVariants.{Px}
use Rattle.adapter.specs.Access.{Access, DoesAll}
use Rattle.adapter.specs.Access.Access.{Reading}
use Rattle.adapter.specs.Device.{Device}
use Rattle.adapter.specs.declared.command.Operation.TheVariants.{ReadLog}
use Rattle.adapter.specs.Memory.{changed}
use Rattle.refinement.specs.Acts.{AnySlots, ActsByDeviceAlone, DriverSlots, AccessesAreSimulatedByActs, driver_state_of_slots, newest_first_steps_of_acts}
use Rattle.refinement.specs.Relation.{port_at}
use Rattle.refinement.specs.Fragments.{AnySlotStates, IsDrivenBy, IsSimulated, GainsNoMove}
use Rattle.refinement.specs.GivingUp.{slots_with_all_parked}
use Rattle.refinement.specs.PreservedParts.{DoesNotWrite}
use Rattle.refinement.specs.Slots.{Free, Own, SlotState}
use Rattle.block_machine.specs.DueRequests.{due_of}
use Rattle.block_machine.specs.Expected.{after}
use Rattle.block_machine.specs.declared.due.Unanswered.{Unanswered}
use Rattle.server_history.proofs.state.ListMembers.{map_in}
use Rattle.driver_history.specs.AccessTrace.{DoesNotWriteCmd, ReadsMasksBeforeCmdWrite, LastSctlWritesResetLink}
use Rattle.error_recovery.specs.Recovery.{IsRecoveryAccess, IsSimulatedWithSlotsSurelyParkedUnlessDead}
use Rattle.error_recovery.specs.declared.Next.{Next}
use Rattle.error_recovery.specs.declared.Next.TheVariants as next
use Rattle.host_boot.specs.TakeOver.{probe_result_of, wanted_of}
use Rattle.host_boot.specs.declared.ProbeResult.TheVariants.{Unready, Unserved}
use Rattle.port_control.specs.Engines.{EngineSticks}
use Rattle.port_control.specs.declared.Stopped.{Stopped}
use Rattle.port_control.specs.PortEvents.{IsPxisSstsOrOwnIsAccess, TakesEvent}
use Rattle.port_control.specs.declared.events.PortEvent.{PortEvent}
use Rattle.port_control.specs.declared.events.PortEvent.TheVariants as look
use Rattle.request_queue.specs.BookEntries.{BookEntry, as_unanswered, unanswered_of, due_ids}
use Rattle.server_history.specs.Prerequisites.{PrerequisiteLaws}
use Rattle.server_history.specs.ErrorHandling.{LookTellsErrorUnlessTimedOut, IsErrorHandled, HasResolved, HandlesPortError}
use Rattle.ncq.specs.Batches.{IsCommandIssueAccess}
use Rattle.server_history.specs.IssuingAndAnswering.{IssuesTogetherIfAny}
use Rattle.server_history.specs.ServerState.{ServerState, InCallInvariant, mode_in, state_of, used_for}
use Rattle.port_control.specs.declared.events.PortError.{PortError}
use Rattle.port_control.specs.declared.events.PortError.TheVariants.{FatalError, TaskFileError, TimedOut, LinkChanged}
use Rattle.server_history.proofs.state.TurnAccesses.{issuing_leaves, issuing_turns, look_does, look_list, look_turns, turn_leaves}
use Rattle.server_history.proofs.plain_calls.Looks.{finding_kept, finding_silent, found_over, looking_kept, looking_silent}
use Rattle.server_history.proofs.state.TransferAccesses.{both_read}
use Rattle.server_history.proofs.recovery_turn.RecoveryAccesses.{AfterList, IsEarlyPart, IsGivenUp, IsPart, after_list, recovering_part}
use Rattle.server_history.proofs.recovery_turn.LinkResets.{recovering_spares, resets_more}
use Rattle.server_history.proofs.plain_calls.IssueRounds.{each_driven, each_silent}
use Rattle.server_history.proofs.healthy_turn.AnswersAndIssues.{answers_kept, answers_settings}
use Rattle.server_history.proofs.state.SilentOperations.{silent_more}
use Rattle.server_history.proofs.state.PortSlots.{CommandsAreOver, not_own, of_ready, ready_found}
use Rattle.server_history.proofs.state.FirstMembers.{first_here}

-- recovery's accesses were made
pub recovery_does : (port : ℕ) (then : Next) (accesses : List Access) (old new : Device) → IsSimulatedWithSlotsSurelyParkedUnlessDead port then accesses old new → DoesAll accesses old new
recovery_does port (next.Running token) accesses old new p = p.accesses_are_done
recovery_does port (next.Restart token) accesses old new p = p.accesses_are_done
recovery_does port next.Dead accesses old new p = ⊎_elim (λ a. a.accesses_are_done) (λ b. ⊎_elim (λ x. x.accesses_are_done) (λ x. x.accesses_are_done) b) p

-- The accesses of the turn: those until the masks were read, after which requests were answered; recovery's; and those after it, of a boot and of issues.
-- No page of the log comes on another port that isn't dead.
pub record TurnParts (port : Port) (replies : List Reply) (old new : ServerState) (r : HandlesPortError port replies old new) : Type 0 where
  pub early : IsDrivenBy (IsEarlyPart port) old.device r.has_resolved.server_after_handling.device
  pub masks : ReadsMasksBeforeCmdWrite port r.has_resolved.error_handled.reads_done.issued r.has_resolved.error_handled.reads_done.active early.accesses
  pub does : DoesAll r.has_resolved.error_handled.recovers_or_stops.accesses r.has_resolved.server_after_handling.device r.has_resolved.device_after_handling
  pub kinds : All (IsPart port) r.has_resolved.error_handled.recovers_or_stops.accesses
  pub late : IsDrivenBy (IsPart port) r.has_resolved.device_after_handling new.device
  pub sticks : r.has_resolved.found ≡ Unready DeadState → r.has_resolved.error_handled.result.next ≢ next.Dead → EngineSticks port late.accesses
  pub stuck : r.has_resolved.found ≡ Unready DeadState → r.has_resolved.error_handled.result.next ≢ next.Dead → (new.device.port port.0).notes.engine_wait_count ≡ MOST_READINGS
  pub resets : (token : Stopped) → r.has_resolved.error_handled.result.next ≡ next.Restart token → r.has_resolved.found ≢ Unready DeadState
      → ((r.has_resolved.error_handled.port_error ≡ LinkChanged) × (r.has_resolved.found ≡ Unready AbsentState)) ⊎ LastSctlWritesResetLink port late.accesses
  pub unreset : ((token : Stopped) → r.has_resolved.error_handled.result.next ≢ next.Restart token) → All (DoesNotWrite (Px port Sctl)) (early.accesses ++ (r.has_resolved.error_handled.recovers_or_stops.accesses ++ late.accesses))
  pub with_issue_undone : r.has_resolved.found ≡ Unready DeadState → new ≡ r.server_after_resolving
  pub silent : (q : ℕ) → q ≢ port.0 → state_of (probe_result_of old.probe_results q) ≢ DeadState → GainsNoMove q ReadLog old.device new.device
  pub issuing_silent : state_of (probe_result_of r.server_after_resolving.probe_results port.0) ≢ DeadState → GainsNoMove port.0 ReadLog r.server_after_resolving.device new.device

abbrev pub accesses_in : {port : Port} {replies : List Reply} {old new : ServerState} {r : HandlesPortError port replies old new} → TurnParts port replies old new r → List Access
accesses_in {port} {replies} {old} {new} {r} t = t.early.accesses ++ (r.has_resolved.error_handled.recovers_or_stops.accesses ++ t.late.accesses)

-- a list with nobody in it
nobody : {X : Type 0} (xs : List X) → ((x : X) → Contains xs x → ⊥) → xs ≡ []
nobody [] none = refl
nobody (x ∷ xs) none = absurd (none x (first_here x xs))

module _ (laws : PrerequisiteLaws) (port : Port) (replies : List Reply) (old new : ServerState) (k : InCallInvariant old) (ready : state_of (probe_result_of old.probe_results port.0) ≡ ReadyState) (r : HandlesPortError port replies old new)
    (looks : IsSimulated (IsPxisSstsOrOwnIsAccess port) AnySlotStates old.device r.has_resolved.error_handled.device_after_look) (kept : InCallInvariant r.server_after_resolving) where
  abbrev a : HasResolved port r.later_replies old r.server_after_resolving
  a = r.has_resolved

  abbrev x : IsErrorHandled port old a.server_after_handling a.device_after_handling
  x = a.error_handled

  low : port.0 < 4
  low = (ready_found old port.0 k ready).0

  -- ---- the server until recovery

  abbrev from : ServerState
  from = record old { device = x.device_after_read }

  pub seen_kept : InCallInvariant (record old { device = x.device_after_look })
  seen_kept = looking_kept old x.device_after_look port k ready laws looks

  pub found_kept : InCallInvariant from
  found_kept = finding_kept (record old { device = x.device_after_look }) x.device_after_read port seen_kept ready laws x.mask x.done x.reads_done

  answered_as : a.server_after_handling ≡ record from { table = a.server_after_handling.table; slots = a.server_after_handling.slots; book = a.server_after_handling.book }
  answered_as = answers_settings laws port x.done x.requests from a.server_after_handling x.answers_each

  -- the commands of slots that were found done are over
  pub done_over : CommandsAreOver port x.done x.device_after_read
  done_over = found_over (record old { device = x.device_after_look }) x.device_after_read port seen_kept ready laws x.mask x.done x.reads_done x.is_mask_of

  pub mid_kept : InCallInvariant a.server_after_handling
  mid_kept = answers_kept laws port x.done x.requests from a.server_after_handling found_kept ready done_over x.answers_each

  pub mid_device : a.server_after_handling.device ≡ x.device_after_read
  mid_device = ap (λ (n : ServerState). n.device) answered_as

  mid_found : (q : ℕ) → probe_result_of a.server_after_handling.probe_results q ≡ probe_result_of old.probe_results q
  mid_found q = ap (λ (n : ServerState). probe_result_of n.probe_results q) answered_as

  -- ---- accesses

  -- one of those before recovery, and it doesn't write PxSCTL
  abbrev IsLookingOn : Access → Type 0
  IsLookingOn access = IsEarlyPart port access × DoesNotWrite (Px port Sctl) access

  -- those of a look; where a request is hung there are none
  looking : IsDrivenBy IsLookingOn old.device x.device_after_look
  looking = by x.port_error x.error_is_found
    where
      looked : (told : PortEvent) → TakesEvent port told old.device x.device_after_look → IsDrivenBy IsLookingOn old.device x.device_after_look
      looked told l = record {
        accesses = look_list port l.causes l.port_mask l.status;
        all_are_done = look_does port told old.device x.device_after_look l;
        accesses_are_of_kind = λ i d small. let t = look_turns port l.causes l.port_mask l.status l.is_sole_bit i d small in let leaves = turn_leaves laws port port _ t in ((t.1, leaves.0), leaves.1);
      }

      by : (port_error : PortError) → LookTellsErrorUnlessTimedOut port port_error old.device x.device_after_look → IsDrivenBy IsLookingOn old.device x.device_after_look
      by TaskFileError l = looked look.TaskFileError l
      by FatalError l = looked look.FatalError l
      by LinkChanged l = looked look.LinkChanged l
      by TimedOut same = subst (IsDrivenBy IsLookingOn old.device) (sym same) (record { accesses = []; all_are_done = refl; accesses_are_of_kind = All-nil IsLookingOn })

  looking_early : All (IsEarlyPart port) looking.accesses
  looking_early = All-weaker IsLookingOn (IsEarlyPart port) (λ access is. is.0) looking.accesses looking.accesses_are_of_kind

  finding : IsDrivenBy (IsEarlyPart port) x.device_after_look x.device_after_read
  finding =
      let m = both_read port x.mask x.done x.device_after_look x.device_after_read x.reads_done in
      record {
        accesses = Reading (Px port Ci) x.reads_done.issued ∷ Reading (Px port Sact) x.reads_done.active ∷ [];
        all_are_done = (m.0, m.1, (x.device_after_read, m.2, refl));
        accesses_are_of_kind = All-cons (IsEarlyPart port) (Reading (Px port Ci) x.reads_done.issued) (Reading (Px port Sact) x.reads_done.active ∷ []) ((tt, refl), tt)
            (All-cons (IsEarlyPart port) (Reading (Px port Sact) x.reads_done.active) [] ((tt, refl), tt) (All-nil (IsEarlyPart port)));
      }

  -- both, in which the masks were read at the end
  early : IsDrivenBy (IsEarlyPart port) old.device a.server_after_handling.device
  early = record {
    accesses = looking.accesses ++ finding.accesses;
    all_are_done = subst (DoesAll (looking.accesses ++ finding.accesses) old.device) (sym mid_device) (laws.steps_and_accesses.does_append looking.accesses finding.accesses old.device x.device_after_look x.device_after_read looking.all_are_done finding.all_are_done);
    accesses_are_of_kind = All-append (IsEarlyPart port) looking.accesses finding.accesses looking_early finding.accesses_are_of_kind;
  }

  early_spares : All (DoesNotWrite (Px port Sctl)) early.accesses
  unfolding early finding
  early_spares = All-append (DoesNotWrite (Px port Sctl)) looking.accesses finding.accesses
      (All-weaker IsLookingOn (DoesNotWrite (Px port Sctl)) (λ access is. is.1) looking.accesses looking.accesses_are_of_kind)
      (All-cons (DoesNotWrite (Px port Sctl)) (Reading (Px port Ci) x.reads_done.issued) (Reading (Px port Sact) x.reads_done.active ∷ []) tt
      (All-cons (DoesNotWrite (Px port Sctl)) (Reading (Px port Sact) x.reads_done.active) [] tt (All-nil (DoesNotWrite (Px port Sctl)))))

  masks : ReadsMasksBeforeCmdWrite port x.reads_done.issued x.reads_done.active early.accesses
  unfolding early finding
  masks = record {
    before = looking.accesses;
    later = [];
    accesses_are_split = refl;
    cmd_is_unwritten_before = All-weaker (IsEarlyPart port) (DoesNotWriteCmd port) (λ access is. is.1) looking.accesses looking_early;
  }

  afterwards : AfterList port x.port_error x.result.next a.found a.device_after_handling r.server_after_resolving.device
  afterwards = after_list laws port low (wanted_of old.wanted port.0) x.port_error a.disk_before x.result.next a.device_after_handling r.server_after_resolving.device a.found a.is_found_after_error

  each : IsDrivenBy (IsCommandIssueAccess port) r.server_after_resolving.device new.device
  each = each_driven laws port (due_ids (mode_in r.server_after_resolving port) port (unanswered_of r.server_after_resolving.book)) r.server_after_resolving new r.issued

  issuing : IsDrivenBy (IsPart port) r.server_after_resolving.device new.device
  issuing = record { accesses = each.accesses; all_are_done = each.all_are_done; accesses_are_of_kind = All-weaker (IsCommandIssueAccess port) (IsPart port) (λ access is. (issuing_turns laws port low access is).1) each.accesses each.accesses_are_of_kind }

  issuing_spares : All (DoesNotWrite (Px port Sctl)) issuing.accesses
  unfolding issuing
  issuing_spares = All-weaker (IsCommandIssueAccess port) (DoesNotWrite (Px port Sctl)) (λ access is. (issuing_leaves laws port port access is).1) each.accesses each.accesses_are_of_kind

  -- nothing is issued on a dead port, of which there are no requests
  none_issued : state_of (probe_result_of r.server_after_resolving.probe_results port.0) ≡ DeadState → new ≡ r.server_after_resolving
  none_issued dead = subst (λ (ids : List RequestId). IssuesTogetherIfAny port ids r.server_after_resolving new) (ap (λ (us : List Unanswered). map (λ (u : Unanswered). u.id) us) (nobody (due_of (mode_in r.server_after_resolving port) port (unanswered_of r.server_after_resolving.book)) none)) r.issued
    where
      none : (u : Unanswered) → Contains (due_of (mode_in r.server_after_resolving port) port (unanswered_of r.server_after_resolving.book)) u → ⊥
      none u here =
          let due = (laws.due_list_is_exact (mode_in r.server_after_resolving port) port (unanswered_of r.server_after_resolving.book) u (laws.due_list_is_of_port (mode_in r.server_after_resolving port) port (unanswered_of r.server_after_resolving.book) u here)).0 here in
          let e = map_in (λ (y : BookEntry). as_unanswered y.request) r.server_after_resolving.book u due.is_in_book in
          let its : e.0.request.port ≡ port = sym (ap (λ (v : Unanswered). v.port) e.2) ∙ laws.due_list_is_of_port (mode_in r.server_after_resolving port) port (unanswered_of r.server_after_resolving.book) u here in
          let z : ReadyState ≡ DeadState = sym (of_ready r.server_after_resolving kept e.0 e.1) ∙ ap (λ (q : Port). state_of (probe_result_of r.server_after_resolving.probe_results q.0)) its ∙ dead in
          absurd cc

  -- ---- what the port is then

  listed : port.0 < length old.probe_results
  listed = ⊎_elim
      (λ past. let z : shown.Absent ≡ ReadyState = sym (ap state_of (get_or_past old.probe_results port.0 Unserved past.1)) ∙ ready in absurd cc)
      (λ within. within.1)
      (leb_tells (length old.probe_results) port.0)

  pub found_is : probe_result_of r.server_after_resolving.probe_results port.0 ≡ a.found
  found_is =
      let many : length a.server_after_handling.probe_results ≡ length old.probe_results = ap (λ (n : ServerState). length n.probe_results) answered_as in
      let within : port.0 < length a.server_after_handling.probe_results = (let small = listed in omega (arith, small, many)) in
      ap (λ (n : ServerState). probe_result_of n.probe_results port.0) a.server_is ∙ get_or-set_same a.server_after_handling.probe_results port.0 a.found Unserved within

  -- ---- no page of the log

  module _ (q : ℕ) (other : q ≢ port.0) (lives : state_of (probe_result_of old.probe_results q) ≢ DeadState) where
    -- its slot 0 has no command of the driver's own
    none_own : mid_kept.machine_relation.uses q 0 ≡ Own ReadLog → ⊥
    none_own = not_own (probe_result_of a.server_after_handling.probe_results q) (used_for a.server_after_handling.slots q 0) (mid_kept.machine_relation.uses q 0) ReadLog (λ dead. lives (ap state_of (sym (mid_found q) ∙ dead))) (mid_kept.machine_relation.slot_states_agree_unless_dead q 0)

    -- nor has it once the port's slots were given up
    given : (token : Stopped) → x.result.next ≡ next.Restart token → (g : IsGivenUp port a.device_after_handling) × (g.uses q 0 ≡ Own ReadLog → ⊥)
    given token is =
        let m = mid_kept.machine in
        let s : DriverSlots = record { slot_states = mid_kept.machine_relation.uses; awaiting_disposition = mid_kept.machine_relation.awaiting_disposition } in
        let p : AccessesAreSimulatedByActs x.recovers_or_stops.accesses AnySlots (slots_with_all_parked port.0) ActsByDeviceAlone a.server_after_handling.device a.device_after_handling = subst (λ (n : Next). IsSimulatedWithSlotsSurelyParkedUnlessDead port.0 n x.recovers_or_stops.accesses a.server_after_handling.device a.device_after_handling) is x.recovers_or_stops.does.slots_after in
        let c = p.acts_reach s m mid_kept.reached mid_kept.machine_relation.driver_relation tt in
        let g = laws.slots.acts_advance_driver c.acts (driver_state_of_slots s a.server_after_handling.device) (driver_state_of_slots (slots_with_all_parked port.0 s) a.device_after_handling) m mid_kept.machine_relation.driver_relation c.acts_are_done in (
          record {
            uses = changed s.slot_states port.0 (λ slot. Free);
            parked = (slots_with_all_parked port.0 s).awaiting_disposition;
            machine = after m (newest_first_steps_of_acts c.acts);
            free = laws.slots.giving_up_frees_slots (driver_state_of_slots s a.server_after_handling.device) port.0;
            reached = laws.steps_and_accesses.reachable_stays_reachable m (newest_first_steps_of_acts c.acts) mid_kept.reached g.steps_are_enabled;
            driver_relation = g.driver_relation;
          },
          λ own. none_own (ap (λ (f : ℕ → SlotState). f 0) (sym (laws.slots.giving_up_spares_other_ports (driver_state_of_slots s a.server_after_handling.device) port.0 q other).0) ∙ own),
        )

    early_silent : GainsNoMove q ReadLog old.device a.server_after_handling.device
    early_silent = subst (GainsNoMove q ReadLog old.device) (sym mid_device)
        (silent_more q ReadLog old.device x.device_after_look x.device_after_read (looking_silent old x.device_after_look port k laws looks q ReadLog refl (λ dead. lives (ap state_of dead)))
        (finding_silent (record old { device = x.device_after_look }) x.device_after_read port seen_kept ready laws x.mask x.done x.reads_done q ReadLog refl (λ dead. lives (ap state_of dead))))

    recovery_silent : GainsNoMove q ReadLog a.server_after_handling.device a.device_after_handling
    recovery_silent = x.recovers_or_stops.leaves.other_ports_move_no_unasked_page (port_at q) ReadLog other refl
        (mid_kept.machine_relation.uses, none_own, record { machine = mid_kept.machine; parked = mid_kept.machine_relation.awaiting_disposition; reached = mid_kept.reached; driver_relation = mid_kept.machine_relation.driver_relation })

    later_found : probe_result_of r.server_after_resolving.probe_results q ≡ probe_result_of old.probe_results q
    later_found = ap (λ (n : ServerState). probe_result_of n.probe_results q) a.server_is ∙ get_or-set_other a.server_after_handling.probe_results port.0 q a.found Unserved other ∙ mid_found q

    whole_silent : GainsNoMove q ReadLog old.device new.device
    whole_silent =
        silent_more q ReadLog old.device a.server_after_handling.device new.device early_silent
        (silent_more q ReadLog a.server_after_handling.device a.device_after_handling new.device recovery_silent
        (silent_more q ReadLog a.device_after_handling r.server_after_resolving.device new.device (afterwards.silent (port_at q) ReadLog other refl given)
        (each_silent laws port (due_ids (mode_in r.server_after_resolving port) port (unanswered_of r.server_after_resolving.book)) r.server_after_resolving new kept r.issued q ReadLog refl (λ dead. lives (ap state_of (sym later_found ∙ dead))))))

  -- ---- the whole

  late : IsDrivenBy (IsPart port) a.device_after_handling new.device
  late = record {
    accesses = afterwards.driven.accesses ++ issuing.accesses;
    all_are_done = laws.steps_and_accesses.does_append afterwards.driven.accesses issuing.accesses a.device_after_handling r.server_after_resolving.device new.device afterwards.driven.all_are_done issuing.all_are_done;
    accesses_are_of_kind = All-append (IsPart port) afterwards.driven.accesses issuing.accesses afterwards.driven.accesses_are_of_kind issuing.accesses_are_of_kind;
  }

  dead_unissued : a.found ≡ Unready DeadState → new ≡ r.server_after_resolving
  dead_unissued dead = none_issued (ap state_of (found_is ∙ dead))

  late_sticks : a.found ≡ Unready DeadState → x.result.next ≢ next.Dead → EngineSticks port late.accesses
  unfolding late
  late_sticks dead lives = laws.sticking_holds_with_later afterwards.driven.accesses issuing.accesses port (afterwards.sticks dead lives)

  late_resets : (token : Stopped) → x.result.next ≡ next.Restart token → a.found ≢ Unready DeadState
      → ((x.port_error ≡ LinkChanged) × (a.found ≡ Unready AbsentState)) ⊎ LastSctlWritesResetLink port late.accesses
  unfolding late
  late_resets token is lives = ⊎_elim (λ absent. inl absent) (λ resets. inr (resets_more port [] afterwards.driven.accesses issuing.accesses resets issuing_spares)) (afterwards.resets token is lives)

  late_spares : ((token : Stopped) → x.result.next ≢ next.Restart token) → All (DoesNotWrite (Px port Sctl)) late.accesses
  unfolding late
  late_spares never = All-append (DoesNotWrite (Px port Sctl)) afterwards.driven.accesses issuing.accesses (afterwards.unreset never) issuing_spares

  pub turn_parts : TurnParts port replies old new r
  turn_parts = record {
    early = early;
    masks = masks;
    does = recovery_does port.0 x.result.next x.recovers_or_stops.accesses a.server_after_handling.device a.device_after_handling x.recovers_or_stops.does.slots_after;
    kinds = All-weaker (IsRecoveryAccess port) (IsPart port) (recovering_part laws port low) x.recovers_or_stops.accesses x.recovers_or_stops.does.accesses_are_recovery;
    late = late;
    sticks = late_sticks;
    stuck = λ dead lives. ap (λ (n : ServerState). (n.device.port port.0).notes.engine_wait_count) (dead_unissued dead) ∙ afterwards.stuck dead lives;
    resets = late_resets;
    unreset = λ never. All-append (DoesNotWrite (Px port Sctl)) early.accesses (x.recovers_or_stops.accesses ++ late.accesses) early_spares
        (All-append (DoesNotWrite (Px port Sctl)) x.recovers_or_stops.accesses late.accesses
        (All-weaker (IsRecoveryAccess port) (DoesNotWrite (Px port Sctl)) (recovering_spares laws port) x.recovers_or_stops.accesses x.recovers_or_stops.does.accesses_are_recovery) (late_spares never));
    with_issue_undone = dead_unissued;
    silent = whole_silent;
    issuing_silent = λ lives. each_silent laws port (due_ids (mode_in r.server_after_resolving port) port (unanswered_of r.server_after_resolving.book)) r.server_after_resolving new kept r.issued port.0 ReadLog refl (λ dead. lives (ap state_of dead));
  }
