-- What a turn that mends its port makes of its port, as clients see it, and which ports its evidence names.
use Rattle.std.proofs.Common.{◌≡◌, ◌≢◌, ◌<◌, true, List, [], ◌∷◌, length, Option, Some, None, refl, sym, ap, ap₂, ◌∙◌, subst, inl, inr, arith, ⊎_elim, Bool, false}
use Rattle.std.specs.List.{All, Contains}
use Rattle.std.proofs.lemmas.List.{get_or-set_same}
use Rattle.std.proofs.lemmas.List.Elements.{All-cons, All-nil}
use Rattle.ata_types.specs.declared.Port.{Port}
use Rattle.ata_types.specs.declared.PortState.TheVariants as shown
use Rattle.ata_types.specs.declared.PortState.TheVariants.{Dead as DeadState, Ready as ReadyState}
use Rattle.ata_types.specs.declared.request.Reply.{Reply}
use Rattle.adapter.specs.Device.{Device, DevicePort}
use Rattle.refinement.specs.Fragments.{AnySlotStates, IsSimulated}
use Rattle.block_machine.specs.Ports.{Evidence, IsStoppedOrStuck, MayBecomeInService, SameSerialAndSize}
use Rattle.error_recovery.specs.declared.Next.{Next}
use Rattle.error_recovery.specs.declared.Next.TheVariants as next
use Rattle.host_boot.specs.Reboots.{RebootsPort, EndsReadyOrUnready}
use Rattle.host_boot.specs.TakeOver.{probe_result_of, wanted_of}
use Rattle.host_boot.specs.declared.ProbeResult.{ProbeResult}
use Rattle.host_boot.specs.declared.ProbeResult.TheVariants.{Ready, Unready, Unserved}
use Rattle.identify.specs.declared.DiskInfo.{DiskInfo}
use Rattle.identify.specs.declared.wanted.Wanted.{Wanted}
use Rattle.port_control.specs.PortEvents.{IsPxisSstsOrOwnIsAccess}
use Rattle.request_queue.specs.BookEntries.{unanswered_of, due_ids}
use Rattle.request_queue.specs.declared.disposition.FailedRequest.{FailedRequest}
use Rattle.request_queue.specs.declared.disposition.Revalidation.{Revalidation}
use Rattle.request_queue.specs.declared.disposition.Revalidation.TheVariants.{Dead, DiskLost, SameDisk as SameProspect}
use Rattle.port_control.specs.declared.events.PortError.{PortError}
use Rattle.port_control.specs.declared.events.PortError.TheVariants.{FatalError, TaskFileError, TimedOut, LinkChanged}
use Rattle.server_history.specs.Prerequisites.{PrerequisiteLaws}
use Rattle.server_history.specs.ErrorHandling.{IsFoundAfterError, IsRevalidation, IsErrorHandled, IsDiskOfSameSerialAndSize, HasResolved, HandlesPortError}
use Rattle.server_history.specs.ServerState.{ServerState, InCallInvariant, last_disk_in, last_disk_of, is_served, mode_in, ports_of, remembered_at, last_sectors_of, last_serial_of, state_of}
use Rattle.server_history.specs.Turns.{PortListsNameOnly}
use Rattle.server_history.proofs.recovery_turn.TurnParts.{evidence_by, evidence_of, failed_of, fatal_of, gone_of, lost_of, named_if, stopped_of, stuck_of}
use Rattle.server_history.proofs.plain_calls.IssueRounds.{each_settings}
use Rattle.server_history.proofs.healthy_turn.AnswersAndIssues.{answers_settings}
use Rattle.server_history.proofs.state.PortSlots.{ready_found}
use Rattle.server_history.proofs.recovery_turn.TurnStretches.{found_is}
use Rattle.server_history.proofs.state.FirstMembers.{nowhere}
use Rattle.server_history.proofs.recovery_turn.BootOrAbsence.{boots_or_absent}
use Rattle.server_history.proofs.state.CallEvidence.{shows_failure, shows_fatal, shows_loss}

-- ---- states and prospects

pub dead_is : (f : ProbeResult) → state_of f ≡ DeadState → f ≡ Unready DeadState
dead_is Unserved is = let z : shown.Absent ≡ DeadState = is in absurd cc
dead_is (Ready info) is = let z : ReadyState ≡ DeadState = is in absurd cc
dead_is (Unready state) is = ap Unready is

pub disk_is : (f : ProbeResult) (remembered : Option DiskInfo) → state_of f ≢ ReadyState → last_disk_of f remembered ≡ remembered
disk_is Unserved remembered other = refl
disk_is (Ready info) remembered other = absurd (other refl)
disk_is (Unready state) remembered other = refl

-- a dead port's requests may expect nothing else
prospect_is : (port_error : PortError) (was : DiskInfo) (found : ProbeResult) (revalidation : Revalidation) → IsRevalidation port_error was found revalidation → found ≡ Unready DeadState → revalidation ≡ Dead
prospect_is port_error was found SameProspect is dead = let z : Ready is.1.0 ≡ Unready DeadState = sym is.1.1 ∙ dead in absurd cc
prospect_is port_error was found DiskLost is dead = absurd (is.0 dead)
prospect_is port_error was found Dead is dead = refl

found_dead : (wanted : Wanted) (port : Port) (port_error : PortError) (was : DiskInfo) (then : Next) (old new : Device) (found : ProbeResult) → IsFoundAfterError wanted port port_error was then old new found → then ≡ next.Dead → found ≡ Unready DeadState
found_dead wanted port port_error was (next.Running token) old new found is same = let z : next.Running token ≡ next.Dead = same in absurd cc
found_dead wanted port port_error was (next.Restart token) old new found is same = let z : next.Restart token ≡ next.Dead = same in absurd cc
found_dead wanted port port_error was next.Dead old new found is same = is.0

pub found_served : (wanted : Wanted) (port : Port) (port_error : PortError) (was : DiskInfo) (then : Next) (old new : Device) (found : ProbeResult) → IsFoundAfterError wanted port port_error was then old new found → is_served found ≡ true
found_served wanted port port_error was (next.Running token) old new found is = ap is_served is.0
found_served wanted port port_error was (next.Restart token) old new found is = ap is_served (sym is.1) ∙ ⊎_elim
    (λ (b : RebootsPort wanted port is.0 old new). by b is.0.found b.boots)
    (λ absent. ap is_served absent.is)
    (boots_or_absent port_error wanted port is.0 old new is.2)
  where
    by : (b : RebootsPort wanted port is.0 old new) (f : ProbeResult) → EndsReadyOrUnready wanted port f b.device_after_survey new → is_served f ≡ true
    by b Unserved none = absurd none
    by b (Ready info) x = refl
    by b (Unready state) x = refl
found_served wanted port port_error was next.Dead old new found is = ap is_served is.0

-- ---- who is named

interrupted_by : (port : Port) (port_error : PortError) (shown : DevicePort) (failed : Option FailedRequest) (revalidation : Revalidation) (then : Next) → (then ≡ next.Dead → revalidation ≡ Dead) → IsStoppedOrStuck (evidence_of port port_error shown failed revalidation then) port
interrupted_by port port_error shown failed revalidation (next.Running token) dies = inl (0, omega arith, refl)
interrupted_by port port_error shown failed revalidation (next.Restart token) dies = inl (0, omega arith, refl)
interrupted_by port port_error shown failed revalidation next.Dead dies = inr (subst (λ (p : Revalidation). Contains (stuck_of port p) port) (sym (dies refl)) (0, omega arith, refl))

pub stuck_is : (port : Port) (revalidation : Revalidation) → Contains (stuck_of port revalidation) port → revalidation ≡ Dead
stuck_is port SameProspect here = absurd (nowhere port here)
stuck_is port DiskLost here = absurd (nowhere port here)
stuck_is port Dead here = refl

pub lost_is : (port : Port) (revalidation : Revalidation) → Contains (lost_of port revalidation) port → revalidation ≡ DiskLost
lost_is port SameProspect here = absurd (nowhere port here)
lost_is port DiskLost here = refl
lost_is port Dead here = absurd (nowhere port here)

pub names_only : (port : Port) (port_error : PortError) (shown : DevicePort) (failed : Option FailedRequest) (revalidation : Revalidation) (then : Next) → PortListsNameOnly port (evidence_of port port_error shown failed revalidation then)
names_only port port_error shown failed revalidation then = record {
  lost = lost revalidation;
  link_changed = gone port_error;
  showing_error = failing port_error;
  showing_fatal_error = fatal port_error;
  stopped = stopped then;
  stuck = stuck revalidation;
}
  where
    none : All (λ q. q ≡ port) []
    none = All-nil (λ q. q ≡ port)

    one : All (λ q. q ≡ port) (port ∷ [])
    one = All-cons (λ q. q ≡ port) port [] refl none

    some : (b : Bool) → All (λ q. q ≡ port) (named_if b port)
    some true = one
    some false = none

    gone : (t : PortError) → All (λ q. q ≡ port) (gone_of port t shown)
    gone LinkChanged = one
    gone TaskFileError = none
    gone FatalError = none
    gone TimedOut = some (shows_loss shown)

    failing : (t : PortError) → All (λ q. q ≡ port) (failed_of port t shown)
    failing LinkChanged = some (shows_failure shown)
    failing TaskFileError = one
    failing FatalError = one
    failing TimedOut = some (shows_failure shown)

    fatal : (t : PortError) → All (λ q. q ≡ port) (fatal_of port t shown)
    fatal TaskFileError = none
    fatal FatalError = one
    fatal LinkChanged = some (shows_fatal shown)
    fatal TimedOut = some (shows_fatal shown)

    lost : (p : Revalidation) → All (λ q. q ≡ port) (lost_of port p)
    lost SameProspect = none
    lost DiskLost = one
    lost Dead = none

    stopped : (n : Next) → All (λ q. q ≡ port) (stopped_of port n)
    stopped (next.Running token) = one
    stopped (next.Restart token) = one
    stopped next.Dead = none

    stuck : (p : Revalidation) → All (λ q. q ≡ port) (stuck_of port p)
    stuck SameProspect = none
    stuck DiskLost = none
    stuck Dead = one

-- ---- the port

module _ (laws : PrerequisiteLaws) (port : Port) (replies : List Reply) (old new : ServerState) (k : InCallInvariant old) (ready : state_of (probe_result_of old.probe_results port.0) ≡ ReadyState) (r : HandlesPortError port replies old new)
    (looks : IsSimulated (IsPxisSstsOrOwnIsAccess port) AnySlotStates old.device r.has_resolved.error_handled.device_after_look) (kept : InCallInvariant r.server_after_resolving) where
  abbrev a : HasResolved port r.later_replies old r.server_after_resolving
  a = r.has_resolved

  abbrev x : IsErrorHandled port old a.server_after_handling a.device_after_handling
  x = a.error_handled

  abbrev pub its : Evidence
  its = evidence_by a

  pub issued_as : new ≡ record r.server_after_resolving { device = new.device; slots = new.slots; book = new.book }
  issued_as = each_settings laws port (due_ids (mode_in r.server_after_resolving port) port (unanswered_of r.server_after_resolving.book)) r.server_after_resolving new r.issued

  answered_as : a.server_after_handling ≡ record old { device = x.device_after_read; table = a.server_after_handling.table; slots = a.server_after_handling.slots; book = a.server_after_handling.book }
  answered_as = answers_settings laws port x.done x.requests (record old { device = x.device_after_read }) a.server_after_handling x.answers_each

  pub found_new : probe_result_of new.probe_results port.0 ≡ a.found
  found_new = ap (λ (n : ServerState). probe_result_of n.probe_results port.0) issued_as ∙ found_is laws port replies old new k ready r looks kept

  remembered_new : remembered_at new.remembered port.0 ≡ Some a.disk_before
  remembered_new =
      let many : length a.server_after_handling.remembered ≡ length old.remembered = ap (λ (n : ServerState). length n.remembered) answered_as in
      let four = k.remembered_is_of_four_ports in
      let low = (ready_found old port.0 k ready).0 in
      let within : port.0 < length a.server_after_handling.remembered = omega (arith, low, many, four) in
      ap (λ (n : ServerState). remembered_at n.remembered port.0) issued_as ∙ ap (λ (n : ServerState). remembered_at n.remembered port.0) a.server_is ∙ get_or-set_same a.server_after_handling.remembered port.0 (Some a.disk_before) None within

  -- its disk, now and then
  pub disk_new : last_disk_in new port ≡ last_disk_of a.found (Some a.disk_before)
  disk_new = ap₂ (λ (f : ProbeResult) (was : Option DiskInfo). last_disk_of f was) found_new remembered_new

  pub disk_old : last_disk_in old port ≡ Some a.disk_before
  disk_old = ap (λ (f : ProbeResult). last_disk_of f (remembered_at old.remembered port.0)) a.was_ready

  pub same_disk : last_disk_of a.found (Some a.disk_before) ≡ Some a.disk_before → SameSerialAndSize (ports_of old) (ports_of new) port
  same_disk is = let e : last_disk_in new port ≡ last_disk_in old port = disk_new ∙ is ∙ sym disk_old in (ap last_serial_of e, ap last_sectors_of e)

  -- where it is the same, a ready port has the disk that it had
  pub disk_same : (info : DiskInfo) → a.found ≡ Ready info → SameSerialAndSize (ports_of old) (ports_of new) port → IsDiskOfSameSerialAndSize a.disk_before info
  disk_same info is same =
      let now : last_disk_in new port ≡ Some info = disk_new ∙ ap (λ (f : ProbeResult). last_disk_of f (Some a.disk_before)) is in
      (sym (ap last_serial_of now) ∙ same.0 ∙ ap last_serial_of disk_old, sym (ap last_sectors_of now) ∙ same.1 ∙ ap last_sectors_of disk_old)

  -- what it is
  pub state_new : (ports_of new).state port ≡ state_of a.found
  state_new = ap state_of found_new

  pub dead_found : (ports_of new).state port ≡ DeadState → a.found ≡ Unready DeadState
  dead_found dead = dead_is a.found (sym state_new ∙ dead)

  pub ready_info : (ports_of new).state port ≡ ReadyState → (info : DiskInfo) × (a.found ≡ Ready info)
  ready_info is =
      let e = found_is laws port replies old new k ready r looks kept in
      let f = ready_found r.server_after_resolving port.0 kept (ap state_of e ∙ sym state_new ∙ is) in (f.1.0, sym e ∙ f.1.1)

  pub dead_prospect : a.revalidation ≡ Dead → a.found ≡ Unready DeadState
  dead_prospect is = subst (IsRevalidation x.port_error a.disk_before a.found) is a.is_revalidation

  pub next_dead : x.result.next ≡ next.Dead → a.found ≡ Unready DeadState
  next_dead is = found_dead (wanted_of old.wanted port.0) port x.port_error a.disk_before x.result.next a.device_after_handling r.server_after_resolving.device a.found a.is_found_after_error is

  pub found_prospect : a.found ≡ Unready DeadState → a.revalidation ≡ Dead
  found_prospect dead = prospect_is x.port_error a.disk_before a.found a.revalidation a.is_revalidation dead

  pub interrupted : IsStoppedOrStuck its port
  interrupted = interrupted_by port x.port_error (old.device.port port.0) a.failed a.revalidation x.result.next (λ is. found_prospect (next_dead is))

  pub becomes : MayBecomeInService (ports_of old) its (ports_of new) port
  becomes = (
    λ dead. (let z : ReadyState ≡ DeadState = sym ready ∙ dead in absurd cc),
    λ lives. (
      record {
        served_is_unchanged = ap is_served found_new ∙ found_served (wanted_of old.wanted port.0) port x.port_error a.disk_before x.result.next a.device_after_handling r.server_after_resolving.device a.found a.is_found_after_error ∙ sym (ap is_served a.was_ready);
        dead_exactly_if_stuck = (λ dead. subst (λ (p : Revalidation). Contains (stuck_of port p) port) (sym (found_prospect (dead_found dead))) ((0, omega arith, refl)), λ stuck. state_new ∙ ap state_of (dead_prospect (stuck_is port a.revalidation stuck)));
        disk_is_remembered_unless_ready = λ other. same_disk (disk_is a.found (Some a.disk_before) (λ is. other (state_new ∙ is)));
      },
      inr interrupted,
    ),
  )

  pub names : PortListsNameOnly port its
  names = names_only port x.port_error (old.device.port port.0) a.failed a.revalidation x.result.next
