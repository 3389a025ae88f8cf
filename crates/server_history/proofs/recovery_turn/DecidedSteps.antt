-- The steps of a turn in which a port was recovered.
use Rattle.std.proofs.Common.{ℕ, ◌≡◌, ◌≢◌, ◌⊎◌, ◌<◌, ◌||◌, ◌++◌, Bool, true, false, eq-eqb, eqb-true, List, [], map, Option, Some, None, inl, inr, refl, sym, ap, ◌∙◌, subst, ⊎_elim, arith}
use Rattle.std.specs.List.{All, AllPairs, Contains, list_any}
use Rattle.std.specs.List.Sorted.{IsPermutation}
use Rattle.std.proofs.lemmas.Bool.{false≢true}
use Rattle.std.proofs.lemmas.List.{append-nil, get_or-set_same, map-append}
use Rattle.std.proofs.lemmas.List.Elements.{All-append, All-contains, All-contains_itself, All-cons, All-filter, All-map, All-nil, All-weaker, Contains-append_cases, filter_passes}
use Rattle.std.proofs.lemmas.List.Sorted.{Contains-permutation, IsPermutation-append, IsPermutation-append_comm, IsPermutation-trans}
use Rattle.ata_types.specs.declared.Port.{Port}
use Rattle.ata_types.specs.declared.PortState.TheVariants.{Dead, Ready as ReadyState}
use Rattle.ata_types.specs.declared.request.Outcome.{Outcome}
use Rattle.ata_types.specs.declared.request.Outcome.TheVariants as outcome
use Rattle.ata_types.specs.declared.request.Reply.{Reply}
use Rattle.ata_types.specs.declared.request.RequestId.{RequestId}
use Rattle.adapter.specs.declared.access.DeviceStep.{DeviceStep}
use Rattle.refinement.specs.Fragments.{AnySlotStates, IsSimulated}
use Rattle.refinement.specs.Driver.{TapeBacksSteps}
use Rattle.block_machine.specs.Events.{AllByDevice, AnswersLawfulAndWaitsOnStoppedPorts, AllEnabled, AreStepsOfCall, IsNeitherOkNorDeviceError, IsIssuedIn, IsLawfulAnswer, IssueIsLastOfRequest, IsLowerByPortThenId, AbstractState, Service, RepliesMatch, UnpluggedOutcomeEmptiesPort, IsIssuedInBook, answers_of, issues_id, reply_of, IsReadyAfterStopSerialAndSizeKept}
use Rattle.block_machine.specs.Histories.{IsReachable}
use Rattle.block_machine.specs.Expected.{after}
use Rattle.block_machine.specs.Ports.{Evidence, Ports, SameSerialAndSize}
use Rattle.block_machine.specs.State.{Machine, Pending}
use Rattle.block_machine.specs.Steps.{Step, WaitAgain, Answer, Issue}
use Rattle.block_machine.specs.declared.due.QueueMode.{QueueMode}
use Rattle.block_machine.specs.declared.due.Unanswered.{Unanswered}
use Rattle.server_history.proofs.state.ListMembers.{contains_here, map_in, in_filter}
use Rattle.block_machine.specs.DueRequests.{due_of}
use Rattle.driver_history.specs.EvidenceHandling.{OnlyPortsShowingErrorRequeueAbortRevokeFault, ToldOkOr}
use Rattle.driver_history.specs.Histories.{IssuesDue}
use Rattle.driver_history.specs.PortInvariants.{HasNoUnanswered}
use Rattle.ata_types.specs.declared.Slot.{Slot}
use Rattle.error_recovery.specs.declared.Next.{Next}
use Rattle.error_recovery.specs.declared.Next.TheVariants.{Running, Restart, Dead as Stuck}
use Rattle.host_boot.specs.TakeOver.{probe_result_of}
use Rattle.host_boot.specs.declared.ProbeResult.{ProbeResult}
use Rattle.host_boot.specs.declared.ProbeResult.TheVariants.{Unserved, Ready, Unready}
use Rattle.identify.specs.declared.DiskInfo.{DiskInfo}
use Rattle.port_control.specs.PortEvents.{IsPxisSstsOrOwnIsAccess}
use Rattle.port_control.specs.declared.events.PortError.{PortError}
use Rattle.port_control.specs.declared.events.PortError.TheVariants.{FatalError, TaskFileError, TimedOut, LinkChanged}
use Rattle.request_queue.specs.BookEntries.{BookEntry, as_unanswered, unanswered_of, due_ids, is_of_port}
use Rattle.request_queue.specs.Dispositions.{disposition_of}
use Rattle.request_queue.specs.BookRelation.{EntryRelation}
use Rattle.request_queue.specs.declared.PendingRequest.{PendingRequest}
use Rattle.request_queue.specs.declared.disposition.FailedRequest.{FailedRequest}
use Rattle.request_queue.specs.declared.disposition.Disposition.TheVariants.{Complete}
use Rattle.request_queue.specs.declared.disposition.Revalidation.{Revalidation}
use Rattle.request_queue.specs.declared.disposition.Revalidation.TheVariants.{SameDisk as Same, DiskLost, Dead as NoEnd}
use Rattle.slots.specs.SlotUses.{PortSlots, use_at}
use Rattle.slots.specs.declared.SlotUse.{SlotUse}
use Rattle.server_history.specs.Prerequisites.{PrerequisiteLaws}
use Rattle.server_history.specs.ErrorHandling.{IsFailedRequest, IsRevalidation, HasResolved, HandlesPortError, book_and_loans_of, requests_of}
use Rattle.server_history.specs.IssuingAndAnswering.{HasEnded, ok_answers_newest_first, done_reply}
use Rattle.server_history.specs.ServerState.{InCallInvariant, MachineRelation, ServerState, last_disk_in, last_disk_of, mode_in, ports_of, remembered_at, last_sectors_of, last_serial_of, slots_at, state_of}
use Rattle.server_history.specs.Turns.{IsTurnOrDeviceStep, abstract_state_of}
use Rattle.server_history.proofs.state.AnswerSteps.{answered_in, ended_stood, issuing_answers, may_parts, no_answer, no_answer_issuing, told_so, with_ok}
use Rattle.server_history.proofs.any_turn.ToldTrouble.{given_up, lost_or_not}
use Rattle.server_history.proofs.state.DeviceSteps.{devices_belong, devices_lawful}
use Rattle.server_history.proofs.dispositions.FateReasons.{RestsOnFailure, Why, answered_left, deciding_belong, deciding_grounded, deciding_issues_none, deciding_lawful, deciding_own, issuing_belong, none_left, ok_or_not, other_ends, why, why_again}
use Rattle.server_history.proofs.recovery_turn.MendedMachine.{adds_fates, in_ports, mid_kept, mid_ready, unnamed}
use Rattle.server_history.proofs.any_turn.JoinedParts.{all_pairs_append, answers_append, answers_there}
use Rattle.server_history.proofs.healthy_turn.CallPart.{answered_permuted, answers_all, device_grounded, device_own, devices_all, devices_answers, issues_all, none_last, told_ordered}
use Rattle.server_history.proofs.dispositions.AnswerOrder.{AreDifferent, AreOfPort, answered_id, told_differ, told_in_order}
use Rattle.server_history.proofs.any_turn.TurnSteps.{stood}
use Rattle.server_history.proofs.recovery_turn.TurnParts.{AddsFates, evidence_by, failed_of, faults_of, lost_of, stopped_of, until_issues}
use Rattle.server_history.proofs.plain_calls.IssueRounds.{AreIssued, any_append, devices_issue_none, dues, dues_carried, each_issued, each_settings, last_on, lawful_on, or_none}
use Rattle.server_history.proofs.healthy_turn.ServedPort.{answers_issue_none}
use Rattle.server_history.proofs.state.PortSlots.{of_ready, ready_found, served_request, serves_used}
use Rattle.server_history.proofs.any_turn.TurnsInOrder.{belong_join, grounded_join, lawful_join}
use Rattle.server_history.proofs.state.PairedLists.{at_left, at_right}
use Rattle.server_history.proofs.state.FirstMembers.{first_here}

-- What a machine that stands for the server makes of the turn by its steps, with this evidence. (That a disk was in, `had_disk` has of them.) They are those
-- up to the fates of its requests, and then those that issue what is due.
pub record DecidesTurn (port : Port) (replies : List Reply) (old new : ServerState) (r : HandlesPortError port replies old new) (evidence : Evidence) (m : Machine) : Type 0 where
  pub steps : List Step
  pub dispositions : AddsFates port r.later_replies old r.server_after_resolving r.has_resolved m
  pub issuing : AreIssued port (due_ids (mode_in r.server_after_resolving port) port (unanswered_of r.server_after_resolving.book)) r.server_after_resolving new (after m (until_issues dispositions))
  pub steps_are : steps ≡ issuing.steps ++ until_issues dispositions
  pub may : AllEnabled m steps
  pub stands : MachineRelation new (after m steps)
  pub backed : TapeBacksSteps old.device new.device m steps
  pub own : All (IsTurnOrDeviceStep port) steps
  pub belong : AreStepsOfCall {D = DeviceStep} Service (ports_of new) steps
  pub last : IssueIsLastOfRequest steps
  pub lawful : AnswersLawfulAndWaitsOnStoppedPorts (abstract_state_of old m) evidence (ports_of new) steps
  pub grounded : r.has_resolved.error_handled.port_error ≢ TimedOut → OnlyPortsShowingErrorRequeueAbortRevokeFault evidence steps
  pub tells : RepliesMatch steps replies
  pub unplugs : UnpluggedOutcomeEmptiesPort steps (after m steps)
  pub keeps : SameSerialAndSize (ports_of old) (ports_of new) port ⊎ HasNoUnanswered (after m steps) port
  pub issues : (ports_of new).state port ≡ ReadyState → IssuesDue (mode_in new port) steps (after m steps) port
  pub gives : r.has_resolved.error_handled.port_error ≢ TaskFileError → (e : Pending) (o : Outcome) → Contains steps (Answer e o) → IsNeitherOkNorDeviceError o ⊎ (o ≡ outcome.Ok)
  pub unplugged : (e : Pending) → Contains steps (Answer e outcome.Unplugged) → (r.has_resolved.revalidation ≡ DiskLost) × (e.request.port ≡ port)
  pub emptied : r.has_resolved.error_handled.port_error ≡ LinkChanged → HasNoUnanswered (after m steps) port
  pub told : r.has_resolved.error_handled.port_error ≡ LinkChanged → ToldOkOr outcome.Unplugged steps port ⊎ ToldOkOr outcome.PortDead steps port

-- ---- evidence

stopped_named : (port : Port) (way : Next) → way ≢ Stuck → Contains (stopped_of port way) port
stopped_named port (Running token) lives = first_here port []
stopped_named port (Restart token) lives = first_here port []
stopped_named port Stuck lives = absurd (lives refl)

-- of an error that recovery names the request had a slot
failed_used : (slots : PortSlots) (its : Option (Slot × ℕ × ℕ)) (failed : Option FailedRequest) (x : FailedRequest) → IsFailedRequest slots its failed → failed ≡ Some x → (slot : ℕ) × (used : SlotUse) × (use_at slots slot ≡ Some used) × (x.id ≡ used.id)
failed_used slots None failed x names is = let z : None ≡ Some x = sym names ∙ is in absurd cc
failed_used slots (Some its) failed x (used, at, names) is =
    let z : Some (record { id = used.id; status = its.1; error = its.2 }) ≡ Some x = sym names ∙ is in
    let same : record { id = used.id; status = its.1; error = its.2 } ≡ x = cc in
    (its.0.0, used, at, ap (λ (f : FailedRequest). f.id) (sym same))

module _ (laws : PrerequisiteLaws) (port : Port) (replies : List Reply) (old new : ServerState) (k : InCallInvariant old) (ready : state_of (probe_result_of old.probe_results port.0) ≡ ReadyState) (r : HandlesPortError port replies old new)
    (looks : IsSimulated (IsPxisSstsOrOwnIsAccess port) AnySlotStates old.device r.has_resolved.error_handled.device_after_look) (k_mid : InCallInvariant r.server_after_resolving) where
  abbrev a : HasResolved port r.later_replies old r.server_after_resolving
  a = r.has_resolved

  abbrev its : List BookEntry
  its = requests_of port a.server_after_handling.book

  abbrev evidence : Evidence
  evidence = evidence_by a

  abbrev ids : List RequestId
  ids = due_ids (mode_in r.server_after_resolving port) port (unanswered_of r.server_after_resolving.book)

  low : port.0 < 4
  low = (ready_found old port.0 k ready).0

  -- what was answered before the requests met their fates
  k_then : InCallInvariant a.server_after_handling
  k_then = mid_kept laws port r.later_replies old r.server_after_resolving k ready a looks

  then_ready : state_of (probe_result_of a.server_after_handling.probe_results port.0) ≡ ReadyState
  then_ready = mid_ready laws port r.later_replies old r.server_after_resolving k ready a looks

  -- ---- what the port is

  found_mid : probe_result_of r.server_after_resolving.probe_results port.0 ≡ a.found
  found_mid = ap (λ (s : ServerState). probe_result_of s.probe_results port.0) a.server_is ∙ get_or-set_same a.server_after_handling.probe_results port.0 a.found Unserved (let f = (ready_found a.server_after_handling port.0 k_then then_ready).1 in in_ports a.server_after_handling.probe_results port.0 f.0 f.1)

  remembered_mid : remembered_at r.server_after_resolving.remembered port.0 ≡ Some a.disk_before
  remembered_mid = ap (λ (s : ServerState). remembered_at s.remembered port.0) a.server_is ∙ get_or-set_same a.server_after_handling.remembered port.0 (Some a.disk_before) None (let f = k_then.remembered_is_of_four_ports in let l = low in omega (arith, f, l))

  new_settings : new ≡ record r.server_after_resolving { device = new.device; slots = new.slots; book = new.book }
  new_settings = each_settings laws port ids r.server_after_resolving new r.issued

  ports_same : ports_of new ≡ ports_of r.server_after_resolving
  ports_same = ap (λ (s : ServerState). ports_of s) new_settings

  state_new : (ports_of new).state port ≡ state_of a.found
  state_new = ap (λ (ports : Ports). ports.state port) ports_same ∙ ap state_of found_mid

  mode_new : mode_in new port ≡ mode_in r.server_after_resolving port
  mode_new = ap (λ (ports : Ports). ports.mode port) ports_same

  disk_new : last_disk_in new port ≡ last_disk_of a.found (Some a.disk_before)
  disk_new = ap (λ (s : ServerState). last_disk_in s port) new_settings ∙ ap (λ (f : ProbeResult). last_disk_of f (remembered_at r.server_after_resolving.remembered port.0)) found_mid ∙ ap (last_disk_of a.found) remembered_mid

  disk_old : last_disk_in old port ≡ Some a.disk_before
  disk_old = ap (λ (f : ProbeResult). last_disk_of f (remembered_at old.remembered port.0)) a.was_ready

  -- the disk is the same, where the one that was found is
  same_disk : (info : DiskInfo) → last_disk_of a.found (Some a.disk_before) ≡ Some info → info.serial ≡ a.disk_before.serial → info.sectors ≡ a.disk_before.sectors → SameSerialAndSize (ports_of old) (ports_of new) port
  same_disk info is serial sectors = (
    ap last_serial_of (disk_new ∙ is) ∙ serial ∙ sym (ap last_serial_of disk_old),
    ap last_sectors_of (disk_new ∙ is) ∙ sectors ∙ sym (ap last_sectors_of disk_old),
  )

  no_way : a.error_handled.result.next ≡ Stuck → (a.found ≡ Unready Dead) × (a.failed ≡ None)
  no_way = unnamed laws port r.later_replies old r.server_after_resolving k ready a looks

  -- the same disk
  module _ (is : a.revalidation ≡ Same) where
    info : (info : DiskInfo) × (a.found ≡ Ready info) × ((info.serial ≡ a.disk_before.serial) × (info.sectors ≡ a.disk_before.sectors))
    info = (subst (IsRevalidation a.error_handled.port_error a.disk_before a.found) is a.is_revalidation).1

    same_ready : (ports_of new).state port ≡ ReadyState
    same_ready = state_new ∙ ap state_of info.1

    same_shown : SameSerialAndSize (ports_of old) (ports_of new) port
    same_shown = same_disk info.0 (ap (λ (f : ProbeResult). last_disk_of f (Some a.disk_before)) info.1) info.2.0 info.2.1

    same_stopped : Contains evidence.stopped port
    same_stopped = stopped_named port a.error_handled.result.next (λ stuck. let z : Ready info.0 ≡ Unready Dead = sym info.1 ∙ (no_way stuck).0 in absurd cc)

  -- another one
  module _ (is : a.revalidation ≡ DiskLost) where
    other_stopped : Contains evidence.stopped port
    other_stopped = stopped_named port a.error_handled.result.next (λ stuck. (subst (IsRevalidation a.error_handled.port_error a.disk_before a.found) is a.is_revalidation).0 (no_way stuck).0)

    other_lost : Contains evidence.lost port
    other_lost = subst (λ (p : Revalidation). Contains (lost_of port p) port) (sym is) (first_here port [])

  -- but on the same disk, no request of it is left
  none_stays : a.revalidation ≢ Same → (x : BookEntry) → Contains r.server_after_resolving.book x → x.request.port ≢ port
  none_stays other x here own =
      let w = none_left laws (disposition_of a.failed a.revalidation) (other_ends a.failed a.revalidation other) its r.later_replies (book_and_loans_of port a.server_after_handling) a.book_and_loans_after a.are_resolved x (subst (λ (s : ServerState). Contains s.book x) a.server_is here) in
      w.1 (in_filter (λ (y : BookEntry). is_of_port port y.request) a.server_after_handling.book x w.0 (eq-eqb x.request.port.0 port.0 (ap (λ (q : Port). q.0) own)))

  -- ---- who is named

  -- nobody, unless a command had failed
  pub nobody : a.error_handled.port_error ≢ TaskFileError → a.failed ≡ None
  nobody other =
      let none = (given_up a.error_handled.port_error port a.error_handled.outstanding a.error_handled.queued a.error_handled.result a.error_handled.recovers_or_stops.accesses a.server_after_handling.device a.device_after_handling a.error_handled.tells_error_handling other).0 in
      subst (λ (f : Option (Slot × ℕ × ℕ)). IsFailedRequest (slots_at a.server_after_handling.slots port.0) f a.failed) none a.failed_request_is

  -- where its disk was lost, no request goes on as on the same disk
  not_same : a.error_handled.port_error ≡ LinkChanged → a.revalidation ≢ Same
  not_same lost same = (subst (IsRevalidation a.error_handled.port_error a.disk_before a.found) same a.is_revalidation).0 lost

  -- the port failed, unless its disk was lost, or a request is hung
  pub failed_named : a.error_handled.port_error ≢ TimedOut → a.error_handled.port_error ≢ LinkChanged → Contains evidence.showing_error port
  failed_named unhung other = by a.error_handled.port_error refl
    where
      by : (t : PortError) → a.error_handled.port_error ≡ t → Contains (failed_of port t (old.device.port port.0)) port
      by LinkChanged is = absurd (other is)
      by TaskFileError is = first_here port []
      by FatalError is = first_here port []
      by TimedOut is = absurd (unhung is)

  -- a dead port
  dead_state : a.revalidation ≡ NoEnd → (ports_of new).state port ≡ Dead
  dead_state is = state_new ∙ ap state_of (subst (IsRevalidation a.error_handled.port_error a.disk_before a.found) is a.is_revalidation)

  -- a request that met its fate was in the book
  of_its : (e : BookEntry) → Contains its e → Contains a.server_after_handling.book e × (e.request.port ≡ port)
  of_its e here = (
    All-contains (Contains a.server_after_handling.book) its e (All-filter (λ (x : BookEntry). is_of_port port x.request) (Contains a.server_after_handling.book) a.server_after_handling.book (All-contains_itself a.server_after_handling.book)) here,
    ap (λ (q : ℕ). record { 0 = q }) (eqb-true e.request.port.0 port.0 (All-contains (λ (x : BookEntry). is_of_port port x.request ≡ true) its e (filter_passes (λ (x : BookEntry). is_of_port port x.request) a.server_after_handling.book) here)),
  )

  module _ (m : Machine) (reached : IsReachable m) (is : MachineRelation old m) (f : AddsFates port r.later_replies old r.server_after_resolving a m) where
    abbrev base : List Step
    base = until_issues f

    abbrev began : AbstractState
    began = abstract_state_of old m

    base_reached : IsReachable (after m base)
    base_reached = laws.steps_and_accesses.reachable_stays_reachable m base reached f.may

    pub z : AreIssued port ids r.server_after_resolving new (after m base)
    z = each_issued laws port ids r.server_after_resolving new k_mid r.issued (after m base) base_reached f.stands

    all_is : after m (z.steps ++ base) ≡ after (after m base) z.steps
    all_is = laws.steps_and_accesses.after_joins m z.steps base

    -- ---- what was so when the turn began

    was_issued : (e : BookEntry) → Contains a.server_after_handling.book e → e.request.issued ≡ true → IsIssuedInBook m e.request.id
    was_issued e here issued =
        let there = (answered_left laws port a.error_handled.done a.error_handled.requests _ a.server_after_handling a.error_handled.answers_each e here).0 in
        let p = at_left EntryRelation old.book m.book is.book e there in
        record { pending = p.0; is_in_book = p.1; id_is = p.2.id; issued = p.2.issued ∙ issued }

    -- the one that failed was issued
    failed_issued : (x : FailedRequest) → a.failed ≡ Some x → (e : BookEntry) → Contains a.server_after_handling.book e → x.id.0 ≡ e.request.id.0 → e.request.issued ≡ true
    failed_issued x some e here same =
        let u = failed_used (slots_at a.server_after_handling.slots port.0) a.error_handled.result.failed a.failed x a.failed_request_is some in
        let s = served_request a.server_after_handling k_then.machine port.0 u.0 k_then.machine_relation then_ready u.1.id (serves_used a.server_after_handling k_then.machine port.0 k_then.machine_relation then_ready u.0 u.1 u.2) in
        let one : s.request ≡ e = laws.an_id_is_one_entry a.server_after_handling.book s.request e k_then.book_is_well_formed s.there here (s.id_is ∙ sym u.3 ∙ ap (λ (n : ℕ). record { 0 = n }) same) in
        subst (λ (y : BookEntry). y.request.issued ≡ true) one (sym s.entry.issued ∙ s.issued)

    -- ---- answers

    fate_lawful : (e : Pending) (o : Outcome) → Contains f.dispositions (Answer e o) → IsLawfulAnswer began evidence (ports_of new) e o
    fate_lawful e o here = by (why a.failed a.revalidation w.0.request o w.3)
      where
        w : (request : BookEntry) × Contains its request × EntryRelation request e × (disposition_of a.failed a.revalidation request.request ≡ Complete o)
        w = f.answered e o here

        there : Contains a.server_after_handling.book w.0
        there = (of_its w.0 w.1).0

        its_port : e.request.port ≡ port
        its_port = w.2.port ∙ (of_its w.0 w.1).1

        was : w.0.request.issued ≡ true → IsIssuedInBook m e.request.id
        was issued = subst (IsIssuedInBook m) (sym w.2.id) (was_issued w.0 there issued)

        goes_on : a.revalidation ≡ Same → IsReadyAfterStopSerialAndSizeKept began evidence (ports_of new) e.request.port
        goes_on same = (
          ap (ports_of new).state its_port ∙ same_ready same,
          subst (Contains evidence.stopped) (sym its_port) (same_stopped same),
          subst (SameSerialAndSize (ports_of old) (ports_of new)) (sym its_port) (same_shown same),
        )

        by : Why a.failed a.revalidation w.0.request o → IsLawfulAnswer began evidence (ports_of new) e o
        by (inl x) =
            let issued = failed_issued x.0 x.1 w.0 there x.2 in
            subst (IsLawfulAnswer began evidence (ports_of new) e) (sym x.3) (
              was issued,
              w.2.issued ∙ issued,
              subst (λ (failed : Option FailedRequest). Contains (faults_of failed) (record { id = e.request.id; status = x.0.status; error = x.0.error })) (sym x.1)
                  (contains_here _ [] _ (λ i. record { id = (w.2.id ∙ ap (λ (n : ℕ). record { 0 = n }) (sym x.2)) i; status = x.0.status; error = x.0.error })),
              subst (Contains evidence.stopped) (sym its_port) (stopped_named port a.error_handled.result.next (λ stuck. let y : None ≡ Some x.0 = sym (no_way stuck).1 ∙ x.1 in absurd cc)),
            )
        by (inr (inl x)) =
            subst (IsLawfulAnswer began evidence (ports_of new) e) (sym x.3) (was x.1, w.2.issues ∙ x.2, goes_on x.0)
        by (inr (inr (inl x))) =
            subst (IsLawfulAnswer began evidence (ports_of new) e) (sym x.1) (subst (Contains evidence.lost) (sym its_port) (other_lost x.0), subst (Contains evidence.stopped) (sym its_port) (other_stopped x.0))
        by (inr (inr (inr (inl x)))) = subst (IsLawfulAnswer began evidence (ports_of new) e) (sym x.1) (ap (ports_of new).state its_port ∙ dead_state x.0)
        by (inr (inr (inr (inr x)))) = subst (IsLawfulAnswer began evidence (ports_of new) e) (sym x.3) (inr (goes_on x.0))

    again_same : (e : Pending) → Contains f.dispositions (WaitAgain e) → (a.revalidation ≡ Same) × (e.request.port ≡ port)
    again_same e here = let w = f.again e here in (why_again a.failed a.revalidation w.0.request w.3, w.2.port ∙ (of_its w.0 w.1).1)

    early_may : AllEnabled m f.first × AllEnabled (after m f.first) (ok_answers_newest_first f.ended)
    early_may = may_parts laws m (ok_answers_newest_first f.ended) f.first (may_parts laws m f.middle (ok_answers_newest_first f.ended ++ f.first) (may_parts laws m f.dispositions (f.middle ++ (ok_answers_newest_first f.ended ++ f.first)) f.may).0).0

    ended_by : (e : Pending) → Contains f.ended e → (request : BookEntry) × Contains a.error_handled.requests request × HasEnded port request e
    ended_by e here = at_right (HasEnded port) a.error_handled.requests f.ended f.each e here

    ended_port : (e : Pending) → Contains f.ended e → e.request.port ≡ port
    ended_port e here = let y = ended_by e here in y.2.entry.port ∙ y.2.port_is

    -- who is told Ok was issued when the turn began, and has ended
    ok_lawful : (e : Pending) → Contains f.ended e → IsLawfulAnswer began evidence (ports_of new) e outcome.Ok
    ok_lawful e here =
        let y = ended_by e here in
        let l = laws.steps_and_accesses.entry_is_found_in_earlier_book m.book (after m f.first).book e (laws.steps_and_accesses.device_steps_spare_book m f.first f.first_only).book (ended_stood laws (after m f.first) f.ended early_may.1 e here) in
        (record { pending = l.0; is_in_book = l.1; id_is = ap (λ r. r.id) (sym l.2.request); issued = sym l.2.issued ∙ y.2.issued }, y.2.issued, y.2.touched, y.2.ended)

    lawful : AnswersLawfulAndWaitsOnStoppedPorts began evidence (ports_of new) (z.steps ++ base)
    lawful =
        lawful_on (mode_in r.server_after_resolving port) port began evidence (ports_of new) z.steps base z.only
        (lawful_join began evidence (ports_of new) f.dispositions (f.middle ++ (ok_answers_newest_first f.ended ++ f.first))
        (deciding_lawful port began evidence (ports_of new) f.dispositions f.own fate_lawful (λ e here. let s = again_same e here in subst (Contains evidence.stopped) (sym s.1) (same_stopped s.0)))
        (lawful_join began evidence (ports_of new) f.middle (ok_answers_newest_first f.ended ++ f.first) (devices_lawful began evidence (ports_of new) f.middle f.middle_only)
        (answers_all (AnswersLawfulAndWaitsOnStoppedPorts began evidence (ports_of new)) f.ended f.first (λ e steps here l. (l, ok_lawful e here)) (devices_lawful began evidence (ports_of new) f.first f.first_only))))

    again_failed : a.error_handled.port_error ≢ TimedOut → (e : Pending) → Contains f.dispositions (WaitAgain e) → Contains evidence.showing_error port
    again_failed unhung e here = ⊎_elim (λ lost. absurd (not_same lost (again_same e here).0)) (failed_named unhung) (lost_or_not a.error_handled.port_error)

    answer_failed : a.error_handled.port_error ≢ TimedOut → (e : Pending) (o : Outcome) → Contains f.dispositions (Answer e o) → RestsOnFailure o → Contains evidence.showing_error port
    answer_failed unhung e o here rests = ⊎_elim (λ lost. absurd (none lost (why a.failed a.revalidation w.0.request o w.3))) (failed_named unhung) (lost_or_not a.error_handled.port_error)
      where
        w : (request : BookEntry) × Contains its request × EntryRelation request e × (disposition_of a.failed a.revalidation request.request ≡ Complete o)
        w = f.answered e o here

        none : a.error_handled.port_error ≡ LinkChanged → Why a.failed a.revalidation w.0.request o → ⊥
        none lost (inl x) = let y : None ≡ Some x.0 = sym (nobody (λ failed. let z : LinkChanged ≡ TaskFileError = sym lost ∙ failed in absurd cc)) ∙ x.1 in absurd cc
        none lost (inr (inl x)) = not_same lost x.0
        none lost (inr (inr (inl x))) = subst RestsOnFailure x.1 rests
        none lost (inr (inr (inr (inl x)))) = subst RestsOnFailure x.1 rests
        none lost (inr (inr (inr (inr x)))) = not_same lost x.0

    grounded : a.error_handled.port_error ≢ TimedOut → OnlyPortsShowingErrorRequeueAbortRevokeFault evidence (z.steps ++ base)
    grounded unhung =
        issues_all (OnlyPortsShowingErrorRequeueAbortRevokeFault evidence) (mode_in r.server_after_resolving port) port (device_grounded evidence) (λ e steps own g. g) z.steps base z.only
        (grounded_join evidence f.dispositions (f.middle ++ (ok_answers_newest_first f.ended ++ f.first)) (deciding_grounded port evidence f.dispositions f.own (again_failed unhung) (answer_failed unhung))
        (grounded_join evidence f.middle (ok_answers_newest_first f.ended ++ f.first) (devices_all (OnlyPortsShowingErrorRequeueAbortRevokeFault evidence) (device_grounded evidence) tt f.middle f.middle_only)
        (answers_all (OnlyPortsShowingErrorRequeueAbortRevokeFault evidence) f.ended f.first (λ e steps here g. g) (devices_all (OnlyPortsShowingErrorRequeueAbortRevokeFault evidence) (device_grounded evidence) tt f.first f.first_only))))

    -- ---- its steps

    devices_own : (steps : List Step) → AllByDevice steps → All (IsTurnOrDeviceStep port) steps
    devices_own steps only = devices_all (All (IsTurnOrDeviceStep port)) (λ step rest device more. All-cons (IsTurnOrDeviceStep port) step rest (device_own port step device) more) (All-nil (IsTurnOrDeviceStep port)) steps only

    issuing_own : All (IsTurnOrDeviceStep port) z.steps
    issuing_own = subst (All (IsTurnOrDeviceStep port)) (append-nil z.steps)
        (issues_all (All (IsTurnOrDeviceStep port)) (mode_in r.server_after_resolving port) port (λ step rest device more. All-cons (IsTurnOrDeviceStep port) step rest (device_own port step device) more)
        (λ e rest own more. All-cons (IsTurnOrDeviceStep port) (Issue (mode_in r.server_after_resolving port) e) rest own more) z.steps [] z.only (All-nil (IsTurnOrDeviceStep port)))

    own : All (IsTurnOrDeviceStep port) (z.steps ++ base)
    own = All-append (IsTurnOrDeviceStep port) z.steps base issuing_own
        (All-append (IsTurnOrDeviceStep port) f.dispositions (f.middle ++ (ok_answers_newest_first f.ended ++ f.first)) (deciding_own port f.dispositions f.own)
        (All-append (IsTurnOrDeviceStep port) f.middle (ok_answers_newest_first f.ended ++ f.first) (devices_own f.middle f.middle_only)
        (answers_all (All (IsTurnOrDeviceStep port)) f.ended f.first (λ e rest here more. All-cons (IsTurnOrDeviceStep port) (Answer e outcome.Ok) rest (ended_port e here) more) (devices_own f.first f.first_only))))

    -- what is issued is of a ready port
    issued_ready : (id : RequestId) → IsIssuedIn id z.steps → (ports_of new).state port ≡ ReadyState
    issued_ready id issued =
        let y = map_in (λ (u : Unanswered). u.id) (due_of (mode_in r.server_after_resolving port) port (unanswered_of r.server_after_resolving.book)) id (z.named id issued) in
        let at : y.0.port ≡ port = laws.due_list_is_of_port (mode_in r.server_after_resolving port) port (unanswered_of r.server_after_resolving.book) y.0 y.1 in
        let due = (laws.due_list_is_exact (mode_in r.server_after_resolving port) port (unanswered_of r.server_after_resolving.book) y.0 at).0 y.1 in
        let e = map_in (λ (x : BookEntry). as_unanswered x.request) r.server_after_resolving.book y.0 due.is_in_book in
        ap (λ (ports : Ports). ports.state port) ports_same ∙ ap (λ (q : Port). state_of (probe_result_of r.server_after_resolving.probe_results q.0)) (sym (ap (λ (u : Unanswered). u.port) (sym e.2) ∙ at)) ∙ of_ready r.server_after_resolving k_mid e.0 e.1

    belong : AreStepsOfCall {D = DeviceStep} Service (ports_of new) (z.steps ++ base)
    belong =
        belong_join Service (ports_of new) z.steps base (issuing_belong port (mode_in r.server_after_resolving port) (ports_of new) mode_new z.steps z.only issued_ready)
        (belong_join Service (ports_of new) f.dispositions (f.middle ++ (ok_answers_newest_first f.ended ++ f.first)) (deciding_belong port (ports_of new) f.dispositions f.own (λ e here. let s = again_same e here in ap (ports_of new).state s.1 ∙ same_ready s.0))
        (belong_join Service (ports_of new) f.middle (ok_answers_newest_first f.ended ++ f.first) (devices_belong {D = DeviceStep} Service (ports_of new) f.middle f.middle_only)
        (answers_all (AreStepsOfCall {D = DeviceStep} Service (ports_of new)) f.ended f.first (λ e rest here b. (b, inr tt)) (devices_belong {D = DeviceStep} Service (ports_of new) f.first f.first_only))))

    none_in_base : (id : RequestId) → list_any (issues_id id) base ≡ false
    none_in_base id =
        any_append (issues_id id) f.dispositions (f.middle ++ (ok_answers_newest_first f.ended ++ f.first)) ∙ ap (λ (b : Bool). b || list_any (issues_id id) (f.middle ++ (ok_answers_newest_first f.ended ++ f.first))) (deciding_issues_none port id f.dispositions f.own)
        ∙ any_append (issues_id id) f.middle (ok_answers_newest_first f.ended ++ f.first) ∙ ap (λ (b : Bool). b || list_any (issues_id id) (ok_answers_newest_first f.ended ++ f.first)) (devices_issue_none id f.middle f.middle_only)
        ∙ any_append (issues_id id) (ok_answers_newest_first f.ended) f.first ∙ ap (λ (b : Bool). b || list_any (issues_id id) f.first) (answers_issue_none id f.ended) ∙ devices_issue_none id f.first f.first_only

    last : IssueIsLastOfRequest (z.steps ++ base)
    last = last_on (mode_in r.server_after_resolving port) port z.steps base z.only z.last (none_last base none_in_base) (λ id late early. false≢true (sym (none_in_base id) ∙ early))

    issues : IssuesDue (mode_in new port) (z.steps ++ base) (after m (z.steps ++ base)) port
    issues = subst (λ (mode : QueueMode). IssuesDue mode (z.steps ++ base) (after m (z.steps ++ base)) port) (sym mode_new) (subst (λ (n : Machine). IssuesDue (mode_in r.server_after_resolving port) (z.steps ++ base) n port) (sym all_is)
        (dues_carried laws (mode_in r.server_after_resolving port) z.steps (z.steps ++ base) (after (after m base) z.steps) (after (after m base) z.steps) port refl
        (λ u here its_own. sym (any_append (issues_id u.id) z.steps base ∙ ap (λ (b : Bool). list_any (issues_id u.id) z.steps || b) (none_in_base u.id) ∙ or_none (list_any (issues_id u.id) z.steps)))
        (dues laws port r.server_after_resolving new k_mid r.issued (after m base) z port (λ ne. absurd (ne refl)))))

    -- ---- what it tells

    abbrev told : List (Pending × Outcome)
    told = map with_ok f.ended ++ f.tells.answers

    told_fate : (x : Pending × Outcome) → Contains f.tells.answers x → Contains f.dispositions (Answer x.0 x.1)
    told_fate x here = answers_there f.dispositions x (Contains-permutation f.tells.answers (answers_of f.dispositions) x f.tells.is_permutation here)

    ended_of : AreOfPort port (map with_ok f.ended)
    ended_of = All-map (λ (x : Pending × Outcome). x.0.request.port ≡ port) with_ok f.ended (All-weaker (Contains f.ended) (λ e. e.request.port ≡ port) ended_port f.ended (All-contains_itself f.ended))

    fates_of : AreOfPort port f.tells.answers
    fates_of = All-weaker (Contains f.tells.answers) (λ x. x.0.request.port ≡ port) (λ x here. let w = f.answered x.0 x.1 (told_fate x here) in w.2.port ∙ (of_its w.0 w.1).1) f.tells.answers (All-contains_itself f.tells.answers)

    apart : AreDifferent (map with_ok f.ended ++ f.tells.answers)
    apart = all_pairs_append (λ x y. answered_id x ≢ answered_id y) (map with_ok f.ended) f.tells.answers
        (told_differ port (map with_ok f.ended) ended_of (told_ordered port a.error_handled.requests f.ended f.each a.error_handled.ordered))
        (told_differ port f.tells.answers fates_of f.tells.ordered)
        (λ x y here there same.
        let e = map_in with_ok f.ended x here in
        let d = ended_by e.0 e.1 in
        let w = f.answered y.0 y.1 (told_fate y there) in
        (answered_left laws port a.error_handled.done a.error_handled.requests _ a.server_after_handling a.error_handled.answers_each w.0 (of_its w.0 w.1).0).1 d.0 d.1
        (ap (λ (n : ℕ). record { 0 = n }) (ap (λ (i : RequestId). i.0) (sym w.2.id) ∙ sym same ∙ ap (λ (q : Pending × Outcome). q.0.request.id.0) e.2 ∙ ap (λ (i : RequestId). i.0) d.2.entry.id)))

    replies_are : map done_reply a.error_handled.requests ++ r.later_replies ≡ map reply_of (map with_ok f.ended ++ f.tells.answers)
    replies_are = ap (λ (list : List Reply). list ++ r.later_replies) (told_so port a.error_handled.requests f.ended f.each) ∙ ap (λ (list : List Reply). map reply_of (map with_ok f.ended) ++ list) f.tells.replies_are_of_answers
        ∙ sym (map-append reply_of (map with_ok f.ended) f.tells.answers)

    in_order : (list : List (Pending × Outcome)) × IsPermutation list (map with_ok f.ended ++ f.tells.answers) × AllPairs IsLowerByPortThenId list × (replies ≡ map reply_of list)
    in_order = told_in_order port (map with_ok f.ended ++ f.tells.answers) replies (subst (IsPermutation replies) replies_are r.replies_are) r.ordered (All-append (λ x. x.0.request.port ≡ port) (map with_ok f.ended) f.tells.answers ended_of fates_of) apart

    none_first : map with_ok f.ended ++ answers_of f.first ≡ map with_ok f.ended
    none_first = ap (λ (none : List (Pending × Outcome)). map with_ok f.ended ++ none) (devices_answers f.first f.first_only) ∙ append-nil (map with_ok f.ended)

    answers_are : answers_of (z.steps ++ base) ≡ answers_of f.dispositions ++ answers_of (ok_answers_newest_first f.ended ++ f.first)
    answers_are = issuing_answers (mode_in r.server_after_resolving port) port z.steps base z.only ∙ answers_append f.dispositions (f.middle ++ (ok_answers_newest_first f.ended ++ f.first))
        ∙ ap (λ (list : List (Pending × Outcome)). answers_of f.dispositions ++ list) (answers_append f.middle (ok_answers_newest_first f.ended ++ f.first) ∙ ap (λ (none : List (Pending × Outcome)). none ++ answers_of (ok_answers_newest_first f.ended ++ f.first)) (devices_answers f.middle f.middle_only))

    all_told : IsPermutation (map with_ok f.ended ++ f.tells.answers) (answers_of (z.steps ++ base))
    all_told = subst (IsPermutation (map with_ok f.ended ++ f.tells.answers)) (sym answers_are)
        (IsPermutation-trans _ _ _ (IsPermutation-append_comm (map with_ok f.ended) f.tells.answers)
        (IsPermutation-append _ _ _ _ f.tells.is_permutation (subst (λ (list : List (Pending × Outcome)). IsPermutation list (answers_of (ok_answers_newest_first f.ended ++ f.first))) none_first (answered_permuted f.ended f.first))))

    tells : RepliesMatch (z.steps ++ base) replies
    tells = record {
      answers = in_order.0;
      is_permutation = IsPermutation-trans in_order.0 (map with_ok f.ended ++ f.tells.answers) (answers_of (z.steps ++ base)) in_order.1 all_told;
      ordered = in_order.2;
      replies_are_of_answers = in_order.3;
    }

    -- ---- who is told that the disk has gone

    -- an answer but Ok is a fate
    fated : (e : Pending) (o : Outcome) → o ≢ outcome.Ok → Contains (z.steps ++ base) (Answer e o) → Contains f.dispositions (Answer e o)
    fated e o other here = ⊎_elim
        (λ late. absurd (no_answer_issuing (mode_in r.server_after_resolving port) port z.steps z.only e o late))
        (λ rest. ⊎_elim
        (λ disposition. disposition)
        (λ rest. ⊎_elim
        (λ mid. absurd (no_answer f.middle f.middle_only e o mid))
        (λ rest. ⊎_elim (λ ok. absurd (other (answered_in f.ended e o ok).1)) (λ early. absurd (no_answer f.first f.first_only e o early)) (Contains-append_cases (ok_answers_newest_first f.ended) f.first (Answer e o) rest))
        (Contains-append_cases f.middle (ok_answers_newest_first f.ended ++ f.first) (Answer e o) rest))
        (Contains-append_cases f.dispositions (f.middle ++ (ok_answers_newest_first f.ended ++ f.first)) (Answer e o) rest))
        (Contains-append_cases z.steps base (Answer e o) here)

    -- no fault is told unless a command had failed
    gives : a.error_handled.port_error ≢ TaskFileError → (e : Pending) (o : Outcome) → Contains (z.steps ++ base) (Answer e o) → IsNeitherOkNorDeviceError o ⊎ (o ≡ outcome.Ok)
    gives other e o here = by_ok (ok_or_not o)
      where
        by : (entry : PendingRequest) → Why a.failed a.revalidation entry o → IsNeitherOkNorDeviceError o
        by entry (inl x) = let y : None ≡ Some x.0 = sym (nobody other) ∙ x.1 in absurd cc
        by entry (inr (inl x)) = subst IsNeitherOkNorDeviceError (sym x.3) tt
        by entry (inr (inr (inl x))) = subst IsNeitherOkNorDeviceError (sym x.1) tt
        by entry (inr (inr (inr (inl x)))) = subst IsNeitherOkNorDeviceError (sym x.1) tt
        by entry (inr (inr (inr (inr x)))) = subst IsNeitherOkNorDeviceError (sym x.3) tt

        by_ok : (o ≡ outcome.Ok) ⊎ (o ≢ outcome.Ok) → IsNeitherOkNorDeviceError o ⊎ (o ≡ outcome.Ok)
        by_ok (inl ok) = inr ok
        by_ok (inr told) = let w = f.answered e o (fated e o told here) in inl (by w.0.request (why a.failed a.revalidation w.0.request o w.3))

    -- it is of the port, and has another disk for its reason
    unplugged_why : (e : Pending) → Contains (z.steps ++ base) (Answer e outcome.Unplugged) → (a.revalidation ≡ DiskLost) × (e.request.port ≡ port)
    unplugged_why e here = (by (why a.failed a.revalidation w.0.request outcome.Unplugged w.3), w.2.port ∙ (of_its w.0 w.1).1)
      where
        w : (request : BookEntry) × Contains its request × EntryRelation request e × (disposition_of a.failed a.revalidation request.request ≡ Complete outcome.Unplugged)
        w = f.answered e outcome.Unplugged (fated e outcome.Unplugged (λ x. let y : outcome.Unplugged ≡ outcome.Ok = x in cc) here)

        by : Why a.failed a.revalidation w.0.request outcome.Unplugged → a.revalidation ≡ DiskLost
        by (inl x) = let y : outcome.Unplugged ≡ outcome.DeviceError x.0.status x.0.error = x.3 in absurd cc
        by (inr (inl x)) = let y : outcome.Unplugged ≡ outcome.Aborted = x.3 in absurd cc
        by (inr (inr (inl x))) = x.0
        by (inr (inr (inr (inl x)))) = let y : outcome.Unplugged ≡ outcome.PortDead = x.1 in absurd cc
        by (inr (inr (inr (inr x)))) = let y : outcome.Unplugged ≡ outcome.Revoked = x.3 in absurd cc

    dead_why : (e : Pending) → Contains (z.steps ++ base) (Answer e outcome.PortDead) → a.revalidation ≡ NoEnd
    dead_why e here = by (why a.failed a.revalidation w.0.request outcome.PortDead w.3)
      where
        w : (request : BookEntry) × Contains its request × EntryRelation request e × (disposition_of a.failed a.revalidation request.request ≡ Complete outcome.PortDead)
        w = f.answered e outcome.PortDead (fated e outcome.PortDead (λ x. let y : outcome.PortDead ≡ outcome.Ok = x in cc) here)

        by : Why a.failed a.revalidation w.0.request outcome.PortDead → a.revalidation ≡ NoEnd
        by (inl x) = let y : outcome.PortDead ≡ outcome.DeviceError x.0.status x.0.error = x.3 in absurd cc
        by (inr (inl x)) = let y : outcome.PortDead ≡ outcome.Aborted = x.3 in absurd cc
        by (inr (inr (inl x))) = let y : outcome.PortDead ≡ outcome.Unplugged = x.1 in absurd cc
        by (inr (inr (inr (inl x)))) = x.0
        by (inr (inr (inr (inr x)))) = let y : outcome.PortDead ≡ outcome.Revoked = x.3 in absurd cc

    -- but with the same disk, none of the port's requests is left
    none_waits : a.revalidation ≢ Same → HasNoUnanswered (after m (z.steps ++ base)) port
    none_waits other e here own_port =
        let b = stood laws port (after m base) z.steps issuing_own e (subst (λ (n : Machine). Contains n.book e) all_is here) in
        let h = at_right EntryRelation r.server_after_resolving.book (after m base).book f.stands.book b.was b.here in
        none_stays other h.0 h.1 (sym h.2.port ∙ ap (λ x. x.port) b.request ∙ own_port)

    disk_lost : a.revalidation ≡ DiskLost → a.revalidation ≢ Same
    disk_lost lost same = let y : DiskLost ≡ Same = sym lost ∙ same in absurd cc

    -- and where its disk was lost, all are told alike
    told_lost : a.error_handled.port_error ≡ LinkChanged → ToldOkOr outcome.Unplugged (z.steps ++ base) port ⊎ ToldOkOr outcome.PortDead (z.steps ++ base) port
    told_lost lost = by a.revalidation refl
      where
        told_as : (told : Outcome) → ((e : BookEntry) (o : Outcome) → Why a.failed a.revalidation e.request o → o ≡ told) → ToldOkOr told (z.steps ++ base) port
        told_as told alike e o here own_port = by_ok (ok_or_not o)
          where
            by_ok : (o ≡ outcome.Ok) ⊎ (o ≢ outcome.Ok) → (o ≡ outcome.Ok) ⊎ (o ≡ told)
            by_ok (inl ok) = inl ok
            by_ok (inr other) =
                let w = f.answered e o (fated e o other here) in
                inr (alike w.0 o (why a.failed a.revalidation w.0.request o w.3))

        unnamed_then : (x : FailedRequest) → a.failed ≡ Some x → ⊥
        unnamed_then x is = let y : None ≡ Some x = sym (nobody (λ failed. let z : LinkChanged ≡ TaskFileError = sym lost ∙ failed in absurd cc)) ∙ is in absurd cc

        by : (p : Revalidation) → a.revalidation ≡ p → ToldOkOr outcome.Unplugged (z.steps ++ base) port ⊎ ToldOkOr outcome.PortDead (z.steps ++ base) port
        by Same x = absurd (not_same lost x)
        by DiskLost x = inl (told_as outcome.Unplugged (λ e o reason. ⊎_elim
            (λ named. absurd (unnamed_then named.0 named.1))
            (λ rest. ⊎_elim
            (λ aborted. absurd (disk_lost x aborted.0))
            (λ rest. ⊎_elim
            (λ gone. gone.1)
            (λ rest. ⊎_elim (λ dead. absurd (let y : DiskLost ≡ NoEnd = sym x ∙ dead.0 in cc)) (λ revoked. absurd (disk_lost x revoked.0)) rest)
            rest)
            rest)
            reason))
        by NoEnd x = inr (told_as outcome.PortDead (λ e o reason. ⊎_elim
            (λ named. absurd (unnamed_then named.0 named.1))
            (λ rest. ⊎_elim
            (λ aborted. absurd (let y : NoEnd ≡ Same = sym x ∙ aborted.0 in cc))
            (λ rest. ⊎_elim
            (λ gone. absurd (let y : NoEnd ≡ DiskLost = sym x ∙ gone.0 in cc))
            (λ rest. ⊎_elim (λ dead. dead.1) (λ revoked. absurd (let y : NoEnd ≡ Same = sym x ∙ revoked.0 in cc)) rest)
            rest)
            rest)
            reason))

    unplugs : UnpluggedOutcomeEmptiesPort (z.steps ++ base) (after m (z.steps ++ base))
    unplugs = record {
      none_is_left = λ e other here there same. let w = unplugged_why e here in none_waits (disk_lost w.0) other there (same ∙ w.1);
      none_is_told_dead = λ e other here there same. let y : DiskLost ≡ NoEnd = sym (unplugged_why e here).0 ∙ dead_why other there in absurd cc;
    }

    keeps : SameSerialAndSize (ports_of old) (ports_of new) port ⊎ HasNoUnanswered (after m (z.steps ++ base)) port
    keeps = by a.revalidation refl
      where
        by : (p : Revalidation) → a.revalidation ≡ p → SameSerialAndSize (ports_of old) (ports_of new) port ⊎ HasNoUnanswered (after m (z.steps ++ base)) port
        by Same x = inl (same_shown x)
        by DiskLost x = inr (none_waits (disk_lost x))
        by NoEnd x = inl (same_disk a.disk_before (ap (λ (found : ProbeResult). last_disk_of found (Some a.disk_before)) (subst (IsRevalidation a.error_handled.port_error a.disk_before a.found) x a.is_revalidation)) refl refl)

    pub decides_turn : DecidesTurn port replies old new r evidence m
    decides_turn = record {
      steps = z.steps ++ base;
      dispositions = f;
      issuing = z;
      steps_are = refl;
      may = laws.steps_and_accesses.enabled_lists_join m z.steps base f.may z.may;
      stands = subst (MachineRelation new) (sym all_is) z.stands;
      backed = laws.backed_parts_join old.device r.server_after_resolving.device new.device m base z.steps f.backed z.backed;
      own = own;
      belong = belong;
      last = last;
      lawful = lawful;
      grounded = grounded;
      tells = tells;
      unplugs = unplugs;
      keeps = keeps;
      issues = λ is_ready. issues;
      gives = gives;
      unplugged = unplugged_why;
      emptied = λ lost. none_waits (not_same lost);
      told = told_lost;
    }

-- ---- the whole

-- So it is from each machine that stands for the server.
pub recovered_decides : PrerequisiteLaws → (port : Port) (replies : List Reply) (old new : ServerState) → InCallInvariant old → state_of (probe_result_of old.probe_results port.0) ≡ ReadyState → (r : HandlesPortError port replies old new)
    → IsSimulated (IsPxisSstsOrOwnIsAccess port) AnySlotStates old.device r.has_resolved.error_handled.device_after_look → InCallInvariant r.server_after_resolving → (m : Machine) → IsReachable m → MachineRelation old m
    → DecidesTurn port replies old new r (evidence_by r.has_resolved) m
recovered_decides laws port replies old new k ready r looks k_mid m reached is =
    decides_turn laws port replies old new k ready r looks k_mid m reached is (adds_fates laws port r.later_replies old r.server_after_resolving k ready r.has_resolved looks m reached is)
