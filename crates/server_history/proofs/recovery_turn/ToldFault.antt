-- A turn in which a command had failed, and nothing else, tells a plain request's fault, or leaves the port dead.
use Rattle.std.proofs.Common.{ℕ, ◌≡◌, ◌≢◌, ◌<◌, if◌then◌else◌, Bool, true, false, eq-eqb, List, [], ◌∷◌, Option, Some, None, refl, sym, ap, ◌∙◌, subst, inl, inr, arith, ⊎_elim}
use Rattle.std.specs.List.{All, Contains}
use Rattle.std.specs.Prelude.{◌⊎◌, drop}
use Rattle.std.proofs.lemmas.Bool.{cases_Bool, cases_eq, false≢true}
use Rattle.std.proofs.lemmas.List.Elements.{All-tail, Contains-append_left, Contains-append_right}
use Rattle.std.proofs.lemmas.List.Sorted.{Contains-permutation}
use Rattle.ata_types.specs.declared.Port.{Port}
use Rattle.ata_types.specs.declared.PortState.TheVariants.{Dead as DeadState, Ready as ReadyState}
use Rattle.ata_types.specs.declared.request.Outcome.{Outcome}
use Rattle.ata_types.specs.declared.request.Outcome.TheVariants as outcome
use Rattle.ata_types.specs.declared.request.Reply.{Reply}
use Rattle.ata_types.specs.declared.request.RequestId.{RequestId}
use Rattle.hba_regs.specs.Bits.{bit}
use Rattle.adapter.specs.Commands.{Meaning, is_queued}
use Rattle.adapter.specs.Rules.{InUse}
use Rattle.refinement.specs.Fragments.{AnySlotStates, IsSimulated}
use Rattle.refinement.specs.PortFacts.{ShowsFault}
use Rattle.refinement.specs.Slots.{IsEmptySlot, RelatesSlot, ServesRequest, SlotState}
use Rattle.block_machine.specs.Events.{AllEnabled, answers_of, reply_of}
use Rattle.block_machine.specs.Histories.{IsReachable}
use Rattle.block_machine.specs.Expected.{after}
use Rattle.block_machine.specs.State.{Machine, Pending}
use Rattle.block_machine.specs.Steps.{Answer, IsEnabled, Step}
use Rattle.server_history.proofs.state.ListMembers.{contains_cases, contains_here, map_in, in_filter}
use Rattle.driver_history.specs.Histories.{IsAnsweredFaulty, IsIssuedOn}
use Rattle.ata_types.specs.declared.Slot.{Slot}
use Rattle.error_recovery.specs.Recovery.{PortMayRecover, BacksFailure, TellsRecovery}
use Rattle.error_recovery.specs.declared.Next.{Next}
use Rattle.error_recovery.specs.declared.Next.TheVariants as next
use Rattle.host_boot.specs.TakeOver.{probe_result_of}
use Rattle.port_control.specs.PortEvents.{IsPxisSstsOrOwnIsAccess}
use Rattle.port_control.specs.declared.events.PortError.{PortError}
use Rattle.port_control.specs.declared.events.PortError.TheVariants.{TaskFileError}
use Rattle.request_queue.specs.BookEntries.{BookEntry, is_of_port}
use Rattle.request_queue.specs.Dispositions.{BookAndLoans, AreResolved, IsResolved, disposition_of, disposition_of_unfailed, reply_to}
use Rattle.request_queue.specs.declared.PendingRequest.{PendingRequest}
use Rattle.request_queue.specs.declared.disposition.FailedRequest.{FailedRequest}
use Rattle.request_queue.specs.declared.disposition.Disposition.{Disposition}
use Rattle.request_queue.specs.declared.disposition.Disposition.TheVariants.{Complete}
use Rattle.request_queue.specs.declared.disposition.Revalidation.{Revalidation}
use Rattle.slots.specs.declared.SlotUse.{SlotUse}
use Rattle.server_history.specs.Prerequisites.{PrerequisiteLaws}
use Rattle.server_history.specs.ErrorHandling.{IsFailedRequest, LookTellsErrorUnlessTimedOut, IsErrorHandled, HasResolved, HandlesPortError, book_and_loans_of, requests_of, TellsRecoveryIfTaskFileErrorElseNamesNone}
use Rattle.server_history.specs.IssuingAndAnswering.{AnswersEach, is_used}
use Rattle.server_history.specs.ServerState.{ServerState, InCallInvariant, MachineRelation, ports_of, slots_at, state_of, used_for}
use Rattle.server_history.specs.Turns.{IsTurnOrDeviceStep}
use Rattle.server_history.proofs.healthy_turn.OneAnswer.{answer_kept}
use Rattle.server_history.proofs.recovery_turn.MendedPort.{next_dead, state_new}
use Rattle.server_history.proofs.recovery_turn.DecidedSteps.{DecidesTurn}
use Rattle.server_history.proofs.state.SlotMasks.{has_ended}
use Rattle.server_history.proofs.recovery_turn.FailedPort.{may_recover}
use Rattle.server_history.proofs.recovery_turn.MendedMachine.{mid_kept, mid_ready}
use Rattle.server_history.proofs.any_turn.JoinedParts.{answers_there}
use Rattle.server_history.proofs.any_turn.TurnSteps.{StandsIn, stood}
use Rattle.server_history.proofs.state.PlacedSlots.{placed_other}
use Rattle.server_history.proofs.recovery_turn.TurnParts.{evidence_by, until_issues}
use Rattle.server_history.proofs.healthy_turn.AnswersAndIssues.{over_on, ready_on}
use Rattle.server_history.proofs.state.PortSlots.{CommandsAreOver, HasSlot, IsServedBy, free_unused, issued_has, ready_found, served_request, serves_used}
use Rattle.server_history.proofs.recovery_turn.TurnStretches.{done_over, found_kept}
use Rattle.server_history.proofs.state.FirstMembers.{nowhere}

-- ---- what wasn't done

-- a slot that wasn't found done is used still
left_used : (laws : PrerequisiteLaws) (port : Port) → port.0 < 4 → (done : ℕ) (requests : List BookEntry) (old new : ServerState) → InCallInvariant old → state_of (probe_result_of old.probe_results port.0) ≡ ReadyState → CommandsAreOver port done old.device
    → AnswersEach port done requests old new → (slot : ℕ) (used : SlotUse) → bit done slot ≡ false → used_for old.slots port.0 slot ≡ Some used → used_for new.slots port.0 slot ≡ Some used
left_used laws port low done [] old new k ready over none slot used clear is = ap (λ (n : ServerState). used_for n.slots port.0 slot) none ∙ is
left_used laws port low done (e ∷ requests) old new k ready over (mid, one, its, more) slot used clear is =
    let four = k.slots_are_of_four_ports in
    let places = (k.slots_invariant port.0 low).has_32_slots in
    let small = one.slot_is_below_32 in
    left_used laws port low done requests mid new (answer_kept laws old mid port e k ready one (over one.slot one.slot_is_below_32 its)) (ready_on laws port done e old mid one ready) (over_on laws port done e old mid one over) more slot used clear
    (ap (λ (n : ServerState). used_for n.slots port.0 slot) one.server_is
    ∙ placed_other old.slots port.0 one.slot None (omega (arith, four, low)) (omega (arith, places, small)) port.0 slot (λ _ same. false≢true (sym clear ∙ ap (bit done) same ∙ its)) ∙ is)

-- ---- what is told

-- who ends is told so
fate_told : (disposition : PendingRequest → Disposition) (requests : List BookEntry) (replies : List Reply) (old new : BookAndLoans) → AreResolved disposition requests replies old new → (e : BookEntry) (o : Outcome) → Contains requests e → disposition e.request ≡ Complete o
    → Contains replies (reply_to e o)
fate_told disposition [] replies old new none e o here ends = absurd (nowhere e here)
fate_told disposition (request ∷ requests) replies old new (mid, its, later, split, meets, more) e o here ends = subst (λ (list : List Reply). Contains list (reply_to e o)) (sym split) (⊎_elim
    (λ (same : e ≡ request).
    let m : IsResolved request (Complete o) its old mid = subst (λ (f : Disposition). IsResolved request f its old mid) (ap (λ (h : BookEntry). disposition h.request) (sym same) ∙ ends) meets in
    Contains-append_left its later (reply_to e o) (subst (λ (list : List Reply). Contains list (reply_to e o)) (sym m.0) (contains_here (reply_to request o) [] (reply_to e o) (ap (λ (h : BookEntry). reply_to h o) same))))
    (λ (there : Contains requests e). Contains-append_right its later (reply_to e o) (fate_told disposition requests later mid new more e o there ends))
    (contains_cases request requests e here))

-- who is answered in a turn was unanswered when it began
pub answer_stood : PrerequisiteLaws → (port : Port) (m : Machine) (steps : List Step) → AllEnabled m steps → All (IsTurnOrDeviceStep port) steps → (e : Pending) (o : Outcome) → Contains steps (Answer e o) → StandsIn m.book e
answer_stood laws port m [] may own e o here = absurd (nowhere (Answer e o) here)
answer_stood laws port m (step ∷ steps) may own e o here = ⊎_elim
    (λ (is : Answer e o ≡ step). let may_answer : IsEnabled (after m steps) (Answer e o) = subst (IsEnabled (after m steps)) (sym is) may.1 in stood laws port m steps (All-tail (IsTurnOrDeviceStep port) step steps own) e may_answer.0)
    (λ (there : Contains steps (Answer e o)). answer_stood laws port m steps may.0 (All-tail (IsTurnOrDeviceStep port) step steps own) e o there)
    (contains_cases step steps (Answer e o) here)

-- the one that failed is told its error
failed_fate : (its : FailedRequest) (failed : Option FailedRequest) (revalidation : Revalidation) (e : PendingRequest) → failed ≡ Some its → its.id ≡ e.id → disposition_of failed revalidation e ≡ Complete (outcome.DeviceError its.status its.error)
failed_fate its failed revalidation e is same =
    ap (λ (f : Option FailedRequest). disposition_of f revalidation e) is
    ∙ ap (λ (b : Bool). if b then Complete (outcome.DeviceError its.status its.error) else disposition_of_unfailed revalidation e) (eq-eqb its.id.0 e.id.0 (ap (λ (i : RequestId). i.0) same))

-- ---- the whole

module _ (laws : PrerequisiteLaws) (port : Port) (replies : List Reply) (old new : ServerState) (k : InCallInvariant old) (ready : state_of (probe_result_of old.probe_results port.0) ≡ ReadyState) (r : HandlesPortError port replies old new)
    (looks : IsSimulated (IsPxisSstsOrOwnIsAccess port) AnySlotStates old.device r.has_resolved.error_handled.device_after_look) (kept : InCallInvariant r.server_after_resolving) (m : Machine) (reached : IsReachable m) (is : MachineRelation old m)
    (d : DecidesTurn port replies old new r (evidence_by r.has_resolved) m) where
  abbrev a : HasResolved port r.later_replies old r.server_after_resolving
  a = r.has_resolved

  abbrev x : IsErrorHandled port old a.server_after_handling a.device_after_handling
  x = a.error_handled

  abbrev from : ServerState
  from = record old { device = x.device_after_read }

  low : port.0 < 4
  low = (ready_found old port.0 k ready).0

  from_kept : InCallInvariant from
  from_kept = found_kept laws port replies old new k ready r looks kept

  then_kept : InCallInvariant a.server_after_handling
  then_kept = mid_kept laws port r.later_replies old r.server_after_resolving k ready a looks

  then_ready : state_of (probe_result_of a.server_after_handling.probe_results port.0) ≡ ReadyState
  then_ready = mid_ready laws port r.later_replies old r.server_after_resolving k ready a looks

  -- a request that was answered so
  answered : (e : Pending) → Contains m.book e → (done : Pending) (o : Outcome) → Contains d.steps (Answer done o) → done.request.id ≡ e.request.id → done.request ≡ e.request
  answered e here done o there same =
      let w = answer_stood laws port m d.steps d.may d.own done o there in
      let one : w.was ≡ e = laws.steps_and_accesses.an_id_is_one_request m reached w.was e w.here here (ap (λ (i : RequestId). i.0) (ap (λ q. q.id) w.request ∙ same)) in
      sym w.request ∙ ap (λ (y : Pending). y.request) one

  -- the port's last fault was of a slot that is in use still
  module _ (failing : x.port_error ≡ TaskFileError) (slot : ℕ) (used : SlotUse) (its : used_for old.slots port.0 slot ≡ Some used) (plain : used.queued ≡ false) where
    healed : TellsRecovery port x.outstanding x.queued x.result x.recovers_or_stops.accesses a.server_after_handling.device a.device_after_handling
    healed = subst (λ (t : PortError). TellsRecoveryIfTaskFileErrorElseNamesNone t port x.outstanding x.queued x.result x.recovers_or_stops.accesses a.server_after_handling.device a.device_after_handling) failing x.tells_error_handling

    is_zero : slot ≡ 0
    is_zero = (k.plain_is_alone_in_slot_0 port.0 slot used its plain).0

    fault : ShowsFault (drop (x.device_after_read.port port.0).notes.st_set_at x.device_after_read.tape) (x.device_after_read.port port.0) port.0
    fault = let may : PortMayRecover port.0 x.device_after_read = may_recover laws old x.device_after_look x.device_after_read port x.mask x.done k ready (subst (λ (t : PortError). LookTellsErrorUnlessTimedOut port t old.device x.device_after_look) failing x.error_is_found) looks x.reads_done in may.faults_are_on_record.shows_last_fault may.halted

    unused_free : (other : ℕ) → other ≢ 0 → IsEmptySlot (x.device_after_read.port port.0) other
    unused_free other ne = subst (λ (u : SlotState). RelatesSlot from_kept.machine x.device_after_read.memory x.device_after_read.tape (x.device_after_read.port port.0) port.0 other u)
        (free_unused from from_kept.machine port.0 from_kept.machine_relation ready other ((k.plain_is_alone_in_slot_0 port.0 slot used its plain).1 other ne)) (from_kept.machine_relation.driver_relation.state_relation.relates_slots port.0 other)

    over_idle : (other : ℕ) → (x.device_after_read.port port.0).ci other ≡ false → (x.device_after_read.port port.0).taken other ≡ None → InUse (x.device_after_read.port port.0) other → ⊥
    over_idle other clear free (inl issued) = false≢true (sym clear ∙ issued)
    over_idle other clear free (inr taken) = let z : None ≡ Some taken.0 = sym free ∙ taken.1 in absurd cc

    zero_used : InUse (x.device_after_read.port port.0) 0
    zero_used = ⊎_elim
        (λ (same : fault.fault.slot.0 ≡ 0). subst (InUse (x.device_after_read.port port.0)) same fault.slot_is_issued_or_taken)
        (λ (ne : fault.fault.slot.0 ≢ 0). let f = unused_free fault.fault.slot.0 ne in absurd (over_idle fault.fault.slot.0 f.is_not_issued f.is_not_taken fault.slot_is_issued_or_taken))
        (cases_eq fault.fault.slot.0 0)

    not_done : bit x.done slot ≡ false
    not_done = ⊎_elim
        (λ (done : bit x.done slot ≡ true).
        let o = done_over laws port replies old new k ready r looks kept slot (let z = is_zero in omega (arith, z)) done in
        absurd (over_idle slot o.is_not_issued o.is_not_taken (subst (InUse (x.device_after_read.port port.0)) (sym is_zero) zero_used)))
        (λ clear. clear)
        (cases_Bool (bit x.done slot))

    still : used_for a.server_after_handling.slots port.0 slot ≡ Some used
    still = left_used laws port low x.done x.requests from a.server_after_handling from_kept ready (done_over laws port replies old new k ready r looks kept) x.answers_each slot used not_done its

    mid_queued : x.queued ≡ false
    mid_queued = sym (x.are_queued_alike slot used still) ∙ plain

    outstanding : bit x.outstanding 0 ≡ true
    outstanding = ap (bit x.outstanding) (sym is_zero) ∙ x.outstanding_is_mask slot (let z = is_zero in omega (arith, z)) ∙ ap is_used still

    -- its request
    request : IsServedBy a.server_after_handling then_kept.machine port.0 slot used.id
    request = served_request a.server_after_handling then_kept.machine port.0 slot then_kept.machine_relation then_ready used.id (serves_used a.server_after_handling then_kept.machine port.0 then_kept.machine_relation then_ready slot used still)

    in_its : Contains (requests_of port a.server_after_handling.book) request.request
    in_its = in_filter (λ (y : BookEntry). is_of_port port y.request) a.server_after_handling.book request.request request.there (eq-eqb request.request.request.port.0 port.0 request.port_is)

    module _ (e : Pending) (here : Contains m.book e) (id_is : used.id ≡ e.request.id) where
      told : (its_failure : Slot × ℕ × ℕ) → x.result.failed ≡ Some its_failure → IsAnsweredFaulty e d.steps
      told its_failure named = by (subst (λ (f : Option (Slot × ℕ × ℕ)). IsFailedRequest (slots_at a.server_after_handling.slots port.0) f a.failed) named a.failed_request_is)
        where
          zero_named : its_failure.0.0 ≡ 0
          zero_named = (subst (λ (queued : Bool). BacksFailure queued port x.outstanding x.recovers_or_stops.accesses a.server_after_handling.device a.device_after_handling (Some its_failure)) mid_queued
              (subst (BacksFailure x.queued port x.outstanding x.recovers_or_stops.accesses a.server_after_handling.device a.device_after_handling) named x.recovers_or_stops.tells.failure_is_backed)).slot_is

          by : IsFailedRequest (slots_at a.server_after_handling.slots port.0) (Some its_failure) a.failed → IsAnsweredFaulty e d.steps
          by (other, at, names) =
              let z : Some other ≡ Some used = sym at ∙ ap (used_for a.server_after_handling.slots port.0) (zero_named ∙ sym is_zero) ∙ still in
              let same : other ≡ used = cc in
              let failed : FailedRequest = record { id = other.id; status = its_failure.1; error = its_failure.2 } in
              let o : Outcome = outcome.DeviceError its_failure.1 its_failure.2 in
              let disposition = failed_fate failed a.failed a.revalidation request.request.request names (ap (λ (u : SlotUse). u.id) same ∙ sym request.id_is) in
              let reply = fate_told (disposition_of a.failed a.revalidation) (requests_of port a.server_after_handling.book) r.later_replies (book_and_loans_of port a.server_after_handling) a.book_and_loans_after a.are_resolved request.request o in_its disposition in
              let w = map_in reply_of d.dispositions.tells.answers (reply_to request.request o) (subst (λ (list : List Reply). Contains list (reply_to request.request o)) d.dispositions.tells.replies_are_of_answers reply) in
              let there = answers_there d.dispositions.dispositions w.0 (Contains-permutation d.dispositions.tells.answers (answers_of d.dispositions.dispositions) w.0 d.dispositions.tells.is_permutation w.1) in
              let o_is : w.0.1 ≡ o = ap (λ (y : Reply). y.outcome) (sym w.2) in
              let in_steps : Contains d.steps (Answer w.0.0 o) = subst (λ (y : Outcome). Contains d.steps (Answer w.0.0 y)) o_is (subst (λ (steps : List Step). Contains steps (Answer w.0.0 w.0.1)) (sym d.steps_are)
              (Contains-append_right d.issuing.steps (until_issues d.dispositions) (Answer w.0.0 w.0.1) (Contains-append_left d.dispositions.dispositions _ (Answer w.0.0 w.0.1) there))) in
              let its_id : w.0.0.request.id ≡ e.request.id = ap (λ (y : Reply). y.id) (sym w.2) ∙ request.id_is ∙ id_is in
              (w.0.0, its_failure.1, its_failure.2, answered e here w.0.0 o in_steps its_id, in_steps)

      faulty : IsAnsweredFaulty e d.steps ⊎ ((ports_of new).state port ≡ DeadState)
      faulty = by x.result.next refl
        where
          by_failed : x.result.next ≢ next.Dead → (f : Option (Slot × ℕ × ℕ)) → x.result.failed ≡ f → IsAnsweredFaulty e d.steps
          by_failed lives None none = absurd (healed.plain_is_named_unless_dead mid_queued outstanding lives none)
          by_failed lives (Some its_failure) named = told its_failure named

          by : (after_it : Next) → x.result.next ≡ after_it → IsAnsweredFaulty e d.steps ⊎ ((ports_of new).state port ≡ DeadState)
          by (next.Running token) same = inl (by_failed (λ dead. let z : next.Running token ≡ next.Dead = sym same ∙ dead in absurd cc) x.result.failed refl)
          by (next.Restart token) same = inl (by_failed (λ dead. let z : next.Restart token ≡ next.Dead = sym same ∙ dead in absurd cc) x.result.failed refl)
          by next.Dead same = inr (state_new laws port replies old new k ready r looks kept ∙ ap state_of (next_dead laws port replies old new k ready r looks kept same))

  -- a plain request that is outstanding is told its fault
  pub faulting : x.port_error ≡ TaskFileError → (e : Pending) (slot : ℕ) → IsIssuedOn port m e → e.ended ≡ false → (s : ServesRequest m old.device.memory (old.device.port port.0) port.0 slot e.request.id) → is_queued s.command.operation ≡ false
      → IsAnsweredFaulty e d.steps ⊎ ((ports_of new).state port ≡ DeadState)
  faulting failing e slot own unended says plain = ⊎_elim
      (λ (same : slot ≡ h.slot). faulty failing h.slot h.used h.used_is (its_kind same) e own.is_in_book h.id_is)
      (λ (apart : slot ≢ h.slot). absurd (false≢true (sym unended ∙ has_ended laws old k m reached is port.0 ready e own.is_in_book h.slot h.used h.used_is h.id_is slot apart says)))
      (cases_eq slot h.slot)
    where
      h : HasSlot old port e.request.id
      h = issued_has old m port is k ready e own.is_in_book own.port_is own.issued

      its_kind : slot ≡ h.slot → h.used.queued ≡ false
      its_kind same =
          let c = k.slots_store_commands port.0 slot h.used (ap (used_for old.slots port.0) same ∙ h.used_is) in
          let one = (laws.slots.decoding_is_unique old.device.memory (old.device.port port.0).bases.clb slot says.command c.command says.places c.places says.slot_decodes_to.decodes_to c.stored.slot_decodes_to.decodes_to).0 in
          sym c.is_queued_as_given ∙ ap (λ (y : Meaning). is_queued y.operation) (sym one) ∙ plain
