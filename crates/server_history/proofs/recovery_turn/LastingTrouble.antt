-- A turn that mends its port loses no trouble: what came since ST was set is shown, where the port is ready then.
use Rattle.std.proofs.Common.{ℕ, ◌≡◌, List, [], ◌∷◌, refl, sym, ap, ◌∙◌, subst, inl, ⊎_elim, ◌<◌}
use Rattle.std.proofs.lemmas.List.Elements.{All-cons, All-nil, All-weaker}
use Rattle.ata_types.specs.declared.Port.{Port}
use Rattle.ata_types.specs.declared.PortState.TheVariants.{Absent as AbsentState, Dead as DeadState, Ready as ReadyState}
use Rattle.ata_types.specs.declared.request.Reply.{Reply}
use Rattle.hba_regs.specs.declared.reg.PortReg.TheVariants.{Ci, Cmd, Ie, Is, Sact, Sctl, Serr}
use Rattle.hba_regs.specs.declared.reg.Reg.{Reg}
use Rattle.hba_regs.specs.declared.reg.Reg.TheVariants.{Ghc, Px}
use Rattle.adapter.specs.Access.{Access, named_causes_mask}
use Rattle.adapter.specs.Access.Access.{Loading, Reading, Storing, Writing}
use Rattle.adapter.specs.Device.{Device}
use Rattle.adapter.specs.Rules.{IsOn}
use Rattle.refinement.specs.Fragments.{AnySlotStates, IsDrivenBy, IsSimulated, AccessesNoOtherPort}
use Rattle.server_history.proofs.state.DrivenAccesses.{by_then, driven_as}
use Rattle.block_machine.specs.State.{Machine}
use Rattle.disk_page.specs.PageRequests.{IsPxciOrSlot0PageMemoryAccess}
use Rattle.driver_history.specs.Histories.{LosesNoPortError}
use Rattle.error_recovery.specs.Evidence.{HidesNoTrouble}
use Rattle.error_recovery.specs.Recovery.{EndsAsNext, RunsAgain}
use Rattle.error_recovery.specs.declared.Next.{Next}
use Rattle.error_recovery.specs.declared.Next.TheVariants as next
use Rattle.host_boot.specs.Reboots.{RebootsPort, EndsReadyOrUnready, IsCapPiOrBootAccess}
use Rattle.identify.specs.Wanted.{serial_of}
use Rattle.port_boot.specs.Outcomes.{EndsReady}
use Rattle.host_boot.specs.TakeOver.{probe_result_of, wanted_of}
use Rattle.host_boot.specs.declared.Booted.{Booted}
use Rattle.host_boot.specs.declared.ProbeResult.{ProbeResult}
use Rattle.host_boot.specs.declared.ProbeResult.TheVariants.{Ready, Unready}
use Rattle.identify.specs.declared.DiskInfo.{DiskInfo}
use Rattle.port_boot.specs.States.{BringsReady, IsBootAccess}
use Rattle.port_control.specs.PortEvents.{IsPxisSstsOrOwnIsAccess}
use Rattle.request_queue.specs.BookEntries.{unanswered_of, due_ids}
use Rattle.identify.specs.declared.wanted.Wanted.{Wanted}
use Rattle.server_history.specs.Prerequisites.{PrerequisiteLaws}
use Rattle.server_history.specs.ErrorHandling.{IsFoundAfterError, IsErrorHandled, HasResolved, HandlesPortError}
use Rattle.ncq.specs.Batches.{IsCommandIssueAccess}
use Rattle.server_history.specs.ServerState.{ServerState, InCallInvariant, mode_in, ports_of, state_of}
use Rattle.server_history.specs.Turns.{joint_state_of}
use Rattle.server_history.proofs.recovery_turn.MendedPort.{interrupted, next_dead, ready_info, state_new}
use Rattle.server_history.proofs.recovery_turn.RecoveryAccesses.{IsEarlyPart, IsPart, start_part}
use Rattle.server_history.proofs.recovery_turn.TurnParts.{evidence_by}
use Rattle.server_history.proofs.recovery_turn.LinkResets.{up_driven}
use Rattle.server_history.proofs.plain_calls.IssueRounds.{each_driven}
use Rattle.server_history.proofs.any_turn.ShownTrouble.{LeavesTrouble, grows_over, shown_more, shown_since, shows_over, stays_on}
use Rattle.server_history.proofs.recovery_turn.TurnStretches.{TurnParts}
use Rattle.server_history.proofs.recovery_turn.BootOrAbsence.{boots_or_absent}
use Rattle.server_history.proofs.state.PortSlots.{ready_found}

-- ---- accesses that leave what a port shows

ci_apart : (port at : Port) (v : ℕ) → LeavesTrouble port (Writing (Px at Ci) v)
ci_apart port at v = (
  (λ e. let z : Px at Ci ≡ Px port Is = e in cc),
  (λ e. let z : Px at Ci ≡ Px port Serr = e in cc),
  (λ e. let z : Px at Ci ≡ Px port Cmd = e in cc),
  (λ e. let z : Px at Ci ≡ Px port Sctl = e in cc),
  stays_on (Writing (Px at Ci) v) (λ e. let z : Px at Ci ≡ Ghc = e in cc),
)

sact_apart : (port at : Port) (v : ℕ) → LeavesTrouble port (Writing (Px at Sact) v)
sact_apart port at v = (
  (λ e. let z : Px at Sact ≡ Px port Is = e in cc),
  (λ e. let z : Px at Sact ≡ Px port Serr = e in cc),
  (λ e. let z : Px at Sact ≡ Px port Cmd = e in cc),
  (λ e. let z : Px at Sact ≡ Px port Sctl = e in cc),
  stays_on (Writing (Px at Sact) v) (λ e. let z : Px at Sact ≡ Ghc = e in cc),
)

ie_apart : (port : Port) (v : ℕ) → LeavesTrouble port (Writing (Px port Ie) v)
ie_apart port v = (
  (λ e. let z : Px port Ie ≡ Px port Is = e in cc),
  (λ e. let z : Px port Ie ≡ Px port Serr = e in cc),
  (λ e. let z : Px port Ie ≡ Px port Cmd = e in cc),
  (λ e. let z : Px port Ie ≡ Px port Sctl = e in cc),
  stays_on (Writing (Px port Ie) v) (λ e. let z : Px port Ie ≡ Ghc = e in cc),
)

-- of any port
pub issuing_leaves : (at port : Port) (access : Access) → IsCommandIssueAccess at access → LeavesTrouble port access
issuing_leaves at port (Reading r v) is = (tt, tt, tt, tt, stays_on (Reading r v) tt)
issuing_leaves at port (Writing r v) is = ⊎_elim
    (λ (same : r ≡ Px at Sact). subst (λ (x : Reg). LeavesTrouble port (Writing x v)) (sym same) (sact_apart port at v))
    (λ (same : r ≡ Px at Ci). subst (λ (x : Reg). LeavesTrouble port (Writing x v)) (sym same) (ci_apart port at v))
    is
issuing_leaves at port (Loading a bytes) is = (tt, tt, tt, tt, stays_on (Loading a bytes) tt)
issuing_leaves at port (Storing a bytes) is = (tt, tt, tt, tt, stays_on (Storing a bytes) tt)

asking_leaves : (port : Port) (access : Access) → IsPxciOrSlot0PageMemoryAccess port access → LeavesTrouble port access
asking_leaves port (Reading r v) is = (tt, tt, tt, tt, stays_on (Reading r v) tt)
asking_leaves port (Writing r v) is = subst (λ (x : Reg). LeavesTrouble port (Writing x v)) (sym is.0) (ci_apart port port v)
asking_leaves port (Loading at bytes) is = (tt, tt, tt, tt, stays_on (Loading at bytes) tt)
asking_leaves port (Storing at bytes) is = (tt, tt, tt, tt, stays_on (Storing at bytes) tt)

-- ---- a port that got ready

module _ (laws : PrerequisiteLaws) (port : Port) (old asked mid new : Device) (on : IsOn asked) (way : BringsReady port asked mid) (later : IsDrivenBy (LeavesTrouble port) mid new) where
  pub ready_up_on : IsOn way.up
  ready_up_on = laws.one_port_keeps_adapter_on port asked way.up on (driven_as (IsBootAccess port) (AccessesNoOtherPort port) asked way.up (λ access x. laws.boot_access_is_of_port port access x) (up_driven laws port asked way.up way.brings_up))

  -- what came since ST was set leaves what the port shows
  pub ready_since : IsDrivenBy (LeavesTrouble port) way.up new
  ready_since =
      by_then laws (driven_as (IsPxciOrSlot0PageMemoryAccess port) (LeavesTrouble port) way.up way.asks_disk.asked (asking_leaves port) way.asks_disk.asks)
      (by_then laws
      (record { accesses = Writing (Px port Ie) named_causes_mask ∷ []; all_are_done = (mid, way.asks_disk.enables_interrupts, refl); accesses_are_of_kind = All-cons (LeavesTrouble port) (Writing (Px port Ie) named_causes_mask) [] (ie_apart port named_causes_mask) (All-nil (LeavesTrouble port)) })
      later)

  pub ready_shows : HidesNoTrouble port.0 old new
  ready_shows = shown_since port.0 old way.up new (shows_over laws port ready_since.accesses way.up new ready_up_on ready_since.accesses_are_of_kind ready_since.all_are_done) way.brings_up.tape_is_as_at_st_set

-- ---- a port that is ready once it was booted

module _ (laws : PrerequisiteLaws) (port : Port) (low : port.0 < 4) (wanted : Wanted) (info : DiskInfo) (booted : Booted) (old d mid new : Device) (on : IsOn d) (b : RebootsPort wanted port booted d mid) (found : booted.found ≡ Ready info)
    (later : IsDrivenBy (LeavesTrouble port) mid new) where
  pub boot_asked_on : IsOn b.device_after_survey
  boot_asked_on = laws.one_port_keeps_adapter_on port d b.device_after_survey on (driven_as (IsCapPiOrBootAccess port) (AccessesNoOtherPort port) d b.device_after_survey (λ access s. (start_part laws port low access s).1) b.surveys.is_driven)

  pub boot_ends : EndsReady (serial_of wanted) port info b.device_after_survey mid
  boot_ends = subst (λ (f : ProbeResult). EndsReadyOrUnready wanted port f b.device_after_survey mid) found b.boots

  abbrev boot_way : BringsReady port b.device_after_survey mid
  boot_way = boot_ends.brings_ready

  pub boot_shows : HidesNoTrouble port.0 old new
  boot_shows = ready_shows laws port old b.device_after_survey mid new boot_asked_on boot_way later

-- ---- the whole

module _ (laws : PrerequisiteLaws) (port : Port) (replies : List Reply) (old new : ServerState) (k : InCallInvariant old) (ready : state_of (probe_result_of old.probe_results port.0) ≡ ReadyState) (r : HandlesPortError port replies old new)
    (looks : IsSimulated (IsPxisSstsOrOwnIsAccess port) AnySlotStates old.device r.has_resolved.error_handled.device_after_look) (kept : InCallInvariant r.server_after_resolving) (t : TurnParts port replies old new r) where
  abbrev a : HasResolved port r.later_replies old r.server_after_resolving
  a = r.has_resolved

  abbrev x : IsErrorHandled port old a.server_after_handling a.device_after_handling
  x = a.error_handled

  low : port.0 < 4
  low = (ready_found old port.0 k ready).0

  -- what is issued leaves what the port shows
  pub issuing : IsDrivenBy (LeavesTrouble port) r.server_after_resolving.device new.device
  issuing = driven_as (IsCommandIssueAccess port) (LeavesTrouble port) r.server_after_resolving.device new.device (issuing_leaves port port) (each_driven laws port (due_ids (mode_in r.server_after_resolving port) port (unanswered_of r.server_after_resolving.book)) r.server_after_resolving new r.issued)

  -- the adapter is on when the port was recovered
  pub recovered_driven : IsDrivenBy (AccessesNoOtherPort port) old.device a.device_after_handling
  recovered_driven = by_then laws (driven_as (IsEarlyPart port) (AccessesNoOtherPort port) old.device a.server_after_handling.device (λ access is. is.0.1) t.early)
      (record { accesses = x.recovers_or_stops.accesses; all_are_done = t.does; accesses_are_of_kind = All-weaker (IsPart port) (AccessesNoOtherPort port) (λ access is. is.1) x.recovers_or_stops.accesses t.kinds })

  pub recovered_on : IsOn a.device_after_handling
  recovered_on = laws.one_port_keeps_adapter_on port old.device a.device_after_handling k.adapter_is_on recovered_driven

  -- a port that runs again
  module _ (token : _) (is : x.result.next ≡ next.Running token) where
    again_is : IsFoundAfterError (wanted_of old.wanted port.0) port x.port_error a.disk_before (next.Running token) a.device_after_handling r.server_after_resolving.device a.found
    again_is = subst (λ (n : Next). IsFoundAfterError (wanted_of old.wanted port.0) port x.port_error a.disk_before n a.device_after_handling r.server_after_resolving.device a.found) is a.is_found_after_error

    pub again : RunsAgain x.queued port.0 a.server_after_handling.device a.device_after_handling
    again = (subst (λ (n : Next). EndsAsNext x.queued port n a.server_after_handling.device a.device_after_handling) is x.recovers_or_stops.leaves.ends_as_next).1

    pub then_issuing : IsDrivenBy (LeavesTrouble port) a.device_after_handling new.device
    then_issuing = subst (λ (d : Device). IsDrivenBy (LeavesTrouble port) d new.device) again_is.1 issuing

    runs_shows : HidesNoTrouble port.0 old.device new.device
    runs_shows = shown_more port.0 old.device a.server_after_handling.device a.device_after_handling new.device again.hides_no_trouble (grows_over laws x.recovers_or_stops.accesses a.server_after_handling.device a.device_after_handling t.does) again.st_set_in_call
        (shows_over laws port then_issuing.accesses a.device_after_handling new.device recovered_on then_issuing.accesses_are_of_kind then_issuing.all_are_done)

  -- one that was booted
  module _ (token : _) (is : x.result.next ≡ next.Restart token) (is_ready : (ports_of new).state port ≡ ReadyState) where
    pub info : (info : DiskInfo) × (a.found ≡ Ready info)
    info = ready_info laws port replies old new k ready r looks kept is_ready

    pub again_booted : (booted : Booted) × (booted.found ≡ a.found) × RebootsPort (wanted_of old.wanted port.0) port booted a.device_after_handling r.server_after_resolving.device
    again_booted =
        let after : IsFoundAfterError (wanted_of old.wanted port.0) port x.port_error a.disk_before (next.Restart token) a.device_after_handling r.server_after_resolving.device a.found =
        subst (λ (n : Next). IsFoundAfterError (wanted_of old.wanted port.0) port x.port_error a.disk_before n a.device_after_handling r.server_after_resolving.device a.found) is a.is_found_after_error in (
          after.0,
          after.1,
          ⊎_elim
              (λ (boots : RebootsPort (wanted_of old.wanted port.0) port after.0 a.device_after_handling r.server_after_resolving.device). boots)
              (λ absent. let z : Unready AbsentState ≡ Ready info.0 = sym absent.is ∙ after.1 ∙ info.1 in absurd cc)
              (boots_or_absent x.port_error (wanted_of old.wanted port.0) port after.0 a.device_after_handling r.server_after_resolving.device after.2),
        )

    abbrev pub asked : Device
    asked = again_booted.2.device_after_survey

    its_shows : HidesNoTrouble port.0 old.device new.device
    its_shows = boot_shows laws port low (wanted_of old.wanted port.0) info.0 again_booted.0 old.device a.device_after_handling r.server_after_resolving.device new.device recovered_on again_booted.2 (again_booted.1 ∙ info.1) issuing

  shows : (ports_of new).state port ≡ ReadyState → HidesNoTrouble port.0 old.device new.device
  shows is_ready = by x.result.next refl
    where
      by : (n : Next) → x.result.next ≡ n → HidesNoTrouble port.0 old.device new.device
      by (next.Running token) is = runs_shows token is
      by (next.Restart token) is = its_shows token is is_ready
      by next.Dead is =
          let dead = state_new laws port replies old new k ready r looks kept ∙ ap state_of (next_dead laws port replies old new k ready r looks kept is) in
          let z : DeadState ≡ ReadyState = sym dead ∙ is_ready in absurd cc

  -- the port was interrupted
  pub lasting : (m : Machine) → LosesNoPortError (evidence_by a) (joint_state_of old m) (ports_of new) new.device port
  lasting m = record {
    ready_errors_are_handled_or_shown = λ _ _. inl (interrupted laws port replies old new k ready r looks kept);
    changes_are_handled_or_shown_unless_dead = λ _ _. inl (interrupted laws port replies old new k ready r looks kept);
    ready_shows_fault_since_start = λ is_ready g. (shows is_ready).fault_is_shown g;
    ready_shows_fatal_since_start = λ is_ready g. (shows is_ready).fatal_is_shown g;
    ready_shows_plug_event_since_start = λ is_ready g. (shows is_ready).plug_is_shown g;
  }
