-- From a machine that stands for the server, a port's recovery, and what its requests meet then, lead to one that stands for the server after them.
use Rattle.std.proofs.Common.{ℕ, ◌≡◌, ◌≢◌, ◌<◌, ◌++◌, Bool, true, false, eq-eqb, eqb-true, List, [], ◌∷◌, get_or, length, Option, None, inl, refl, sym, ap, ◌∙◌, subst, ⊎_elim, arith}
use Rattle.std.specs.List.{All, Contains}
use Rattle.std.proofs.lemmas.Bool.{cases_eq, false≢true}
use Rattle.std.proofs.lemmas.List.{get_or-set_other, get_or-set_same}
use Rattle.std.proofs.lemmas.List.Elements.{All-contains, All-contains_itself, All-filter, All-head, All-tail, Contains-append_cases, filter_passes}
use Rattle.std.proofs.lemmas.List.Kept.{AllPairs-filter}
use Rattle.ata_types.specs.declared.Port.{Port}
use Rattle.ata_types.specs.declared.PortState.TheVariants.{Dead, Ready as ReadyState}
use Rattle.ata_types.specs.declared.request.ClientId.{ClientId}
use Rattle.ata_types.specs.declared.request.Frame.{Frame}
use Rattle.ata_types.specs.declared.request.Reply.{Reply}
use Rattle.ata_types.specs.declared.request.RequestId.{RequestId}
use Rattle.adapter.specs.Device.{Device}
use Rattle.refinement.specs.Acts.{DriverSlots, driver_state_of_slots}
use Rattle.refinement.specs.Fragments.{AnySlotStates, IsSimulated}
use Rattle.refinement.specs.Driver.{HasNoSlot, TapeBacksSteps}
use Rattle.refinement.specs.Slots.{Serves}
use Rattle.refinement.specs.SparedBook.{KeepsLoansAndPendingsOnlyAdvance}
use Rattle.block_machine.specs.Events.{AllByDevice, AllEnabled}
use Rattle.block_machine.specs.Histories.{IsReachable}
use Rattle.block_machine.specs.Expected.{after}
use Rattle.block_machine.specs.State.{Machine, Pending}
use Rattle.block_machine.specs.Steps.{Step, Accept, after_step, Revoke}
use Rattle.block_machine.specs.declared.due.QueueMode.{QueueMode}
use Rattle.dma_frames.specs.Loan.{Lending}
use Rattle.error_recovery.specs.declared.Next.{Next}
use Rattle.error_recovery.specs.declared.Next.TheVariants.{Running, Restart, Dead as Stuck}
use Rattle.host_boot.specs.TakeOver.{probe_result_of, wanted_of}
use Rattle.host_boot.specs.declared.ProbeResult.{ProbeResult}
use Rattle.host_boot.specs.declared.ProbeResult.TheVariants.{Unserved, Ready, Unready}
use Rattle.identify.specs.declared.DiskInfo.{DiskInfo}
use Rattle.port_control.specs.PortEvents.{IsPxisSstsOrOwnIsAccess}
use Rattle.request_queue.specs.BookEntries.{BookEntry, IsEarlier, is_of_port}
use Rattle.request_queue.specs.Dispositions.{KeepsOrEndsLoan, BookAndLoans, AreResolved, IsResolved, disposition_of, disposition_of_unfailed, keeps_loan}
use Rattle.request_queue.specs.BookRelation.{EntryRelation}
use Rattle.request_queue.specs.declared.PendingRequest.{PendingRequest}
use Rattle.request_queue.specs.declared.disposition.FailedRequest.{FailedRequest}
use Rattle.request_queue.specs.declared.disposition.Disposition.{Disposition}
use Rattle.request_queue.specs.declared.disposition.Disposition.TheVariants.{Complete, Requeue, Wait}
use Rattle.request_queue.specs.declared.disposition.Revalidation.{Revalidation}
use Rattle.request_queue.specs.declared.disposition.Revalidation.TheVariants.{SameDisk, DiskLost, Dead as NoEnd}
use Rattle.slots.specs.SlotUses.{PortSlots}
use Rattle.server_history.specs.Prerequisites.{PrerequisiteLaws}
use Rattle.server_history.specs.ResolvedRequests.{IsResolveStep, AreResolvable, AreResolvedInMachine, completes_keeping_loan}
use Rattle.server_history.specs.ErrorHandling.{HasAllSlotsFreeAndCountOfMode, IsFailedRequest, IsFoundAfterError, IsRevalidation, HasResolved, book_and_loans_of, requests_of, with_port_resolved}
use Rattle.server_history.specs.IssuingAndAnswering.{ok_answers_newest_first}
use Rattle.server_history.specs.ServerState.{KeptRequestsRelation, SlotStatesAgreeUnlessDead, InCallInvariant, MachineRelation, ServerState, is_served, quarantined_at, slots_at, state_of, RevokedMarkInvariant}
use Rattle.server_history.proofs.state.HistorySteps.{book_on, still_kept}
use Rattle.server_history.proofs.state.Quarantine.{none_alive}
use Rattle.server_history.proofs.plain_calls.Looks.{finding_kept, found_over, looking_kept}
use Rattle.server_history.proofs.dispositions.FittingFates.{fits_each, kept_dead_alone}
use Rattle.server_history.proofs.dispositions.MetFates.{meet, none_parked}
use Rattle.server_history.proofs.recovery_turn.RecoveredDevice.{IsPassed, devices_both, passed, uses_then}
use Rattle.server_history.proofs.recovery_turn.TurnParts.{AddsFates}
use Rattle.server_history.proofs.recovery_turn.ReplacedPort.{is_listed}
use Rattle.server_history.proofs.healthy_turn.ServedPort.{finds_serve, followed_steps, looks_serve}
use Rattle.server_history.proofs.healthy_turn.AnswersAndIssues.{AreAnswered, answers_kept, answers_settings, each_answered}
use Rattle.server_history.proofs.state.PortSlots.{CommandsAreOver, not_dead, ready_found, served_request}
use Rattle.server_history.proofs.state.PairedLists.{at_left}
use Rattle.server_history.proofs.dispositions.MoreKeptLoans.{more_kept}
use Rattle.server_history.proofs.state.FirstMembers.{nowhere}
use Rattle.port_control.specs.declared.events.PortError.{PortError}
use Rattle.server_history.proofs.state.RevokedMarks.{tells_of}
use Rattle.server_history.proofs.state.ListMembers.{in_filter}

-- ---- lists

-- a port that was found with a disk is in the list
pub in_ports : (ports : List ProbeResult) (port : ℕ) (info : DiskInfo) → probe_result_of ports port ≡ Ready info → port < length ports
in_ports ports port info is = is_listed ports port (ap is_served is)

-- ---- what fates leave

-- steps that decide leave the grants, the owners, and the next id
step_leaves : (port : Port) (m : Machine) (step : Step) → IsResolveStep port step → ((after_step m step).rows ≡ m.rows) × ((frame : Frame) → (after_step m step).owner frame ≡ m.owner frame) × ((after_step m step).next_id ≡ m.next_id)
step_leaves port m (Accept r) is = absurd is
step_leaves port m (Revoke client number) is = absurd is
step_leaves port m step is = (refl, λ frame. refl, refl)

pub deciding_leaves : (port : Port) (m : Machine) (steps : List Step) → All (IsResolveStep port) steps → ((after m steps).rows ≡ m.rows) × ((frame : Frame) → (after m steps).owner frame ≡ m.owner frame) × ((after m steps).next_id ≡ m.next_id)
deciding_leaves port m [] own = (refl, λ frame. refl, refl)
deciding_leaves port m (step ∷ steps) own =
    let x = step_leaves port (after m steps) step (All-head (IsResolveStep port) step steps own) in
    let y = deciding_leaves port m steps (All-tail (IsResolveStep port) step steps own) in
    (x.0 ∙ y.0, λ frame. x.1 frame ∙ y.1 frame, x.2 ∙ y.2)

-- and fates the owners
fate_owners : (request : BookEntry) (f : Disposition) (replies : List Reply) (old new : BookAndLoans) → IsResolved request f replies old new → new.table.owners ≡ old.table.owners
fate_owners request Wait replies old new meets = ap (λ (h : BookAndLoans). h.table.owners) meets.1
fate_owners request Requeue replies old new meets = ap (λ (h : BookAndLoans). h.table.owners) meets.1
fate_owners request (Complete o) replies old new meets = by (keeps_loan o request.request) meets.2
  where
    by : (b : Bool) → KeepsOrEndsLoan b request old new → new.table.owners ≡ old.table.owners
    by true loan = ap (λ t. t.owners) loan.1
    by false loan = loan.1.owners_are_kept

pub fates_owners : (disposition : PendingRequest → Disposition) (requests : List BookEntry) (replies : List Reply) (old new : BookAndLoans) → AreResolved disposition requests replies old new → new.table.owners ≡ old.table.owners
fates_owners disposition [] replies old new meets = ap (λ (h : BookAndLoans). h.table.owners) meets.1
fates_owners disposition (request ∷ requests) replies old new (mid, its, later, split, meets, more) = fates_owners disposition requests later mid new more ∙ fate_owners request (disposition request.request) its old mid meets

-- ---- the port's requests meet their fates

-- a dead port has no other prospect
pub dead_end : (port_error : PortError) (was : DiskInfo) (found : ProbeResult) (revalidation : Revalidation) → IsRevalidation port_error was found revalidation → found ≡ Unready Dead → revalidation ≡ NoEnd
dead_end port_error was found SameDisk (_, (info, is, same)) dead = let z : Ready info ≡ Unready Dead = sym is ∙ dead in absurd cc
dead_end port_error was found DiskLost x dead = absurd (x.0 dead)
dead_end port_error was found NoEnd x dead = refl

module _ (laws : PrerequisiteLaws) (port : Port) (mid : ServerState) (k : InCallInvariant mid) (ready : state_of (probe_result_of mid.probe_results port.0) ≡ ReadyState) (n : Machine) (reached : IsReachable n) (is : MachineRelation mid n)
    (way : Next) (found : ProbeResult) (device : Device) (passed : IsPassed port.0 way found mid.device device (record { slot_states = is.uses; awaiting_disposition = is.awaiting_disposition }) n)
    (failed : Option FailedRequest) (revalidation : Revalidation) (port_error : PortError) (was : DiskInfo) (expects : IsRevalidation port_error was found revalidation) (unnamed : way ≡ Stuck → (found ≡ Unready Dead) × (failed ≡ None)) where
  abbrev t : DriverSlots
  t = passed.slots

  abbrev w : Machine
  w = after n passed.passes.steps

  abbrev disposition : PendingRequest → Disposition
  disposition = disposition_of failed revalidation

  abbrev its : List BookEntry
  its = requests_of port mid.book

  low : port.0 < 4
  low = (ready_found mid port.0 k ready).0

  alive : probe_result_of mid.probe_results port.0 ≢ Unready Dead
  alive = not_dead mid port.0 ready

  w_reached : IsReachable w
  w_reached = laws.steps_and_accesses.reachable_stays_reachable n passed.passes.steps reached passed.passes.may

  spares : KeepsLoansAndPendingsOnlyAdvance n w
  spares = laws.steps_and_accesses.device_steps_spare_book n passed.passes.steps passed.passes.only

  in_its : (e : BookEntry) → Contains mid.book e → e.request.port.0 ≡ port.0 → Contains its e
  in_its e here same = in_filter (λ (x : BookEntry). is_of_port port x.request) mid.book e here (eq-eqb e.request.port.0 port.0 same)

  of_its : (e : BookEntry) → Contains its e → Contains mid.book e × (e.request.port ≡ port)
  of_its e here = (
    All-contains (Contains mid.book) its e (All-filter (λ (x : BookEntry). is_of_port port x.request) (Contains mid.book) mid.book (All-contains_itself mid.book)) here,
    ap (λ (q : ℕ). record { 0 = q }) (eqb-true e.request.port.0 port.0 (All-contains (λ (x : BookEntry). is_of_port port x.request ≡ true) its e (filter_passes (λ (x : BookEntry). is_of_port port x.request) mid.book) here)),
  )

  -- one whose loan isn't kept has no slot
  unserved : (e : BookEntry) → Contains its e → completes_keeping_loan (disposition e.request) e.request ≡ false → HasNoSlot t.slot_states e.request.id
  unserved e here never = by e.request.issued refl
    where
      entry : (p : Pending) × Contains n.book p × EntryRelation e p
      entry = at_left EntryRelation mid.book n.book is.book e (of_its e here).0

      served : way ≢ Stuck → e.request.issued ≡ true → HasNoSlot t.slot_states e.request.id
      served lives issued = ⊎_elim
          (λ (parked : Contains (is.awaiting_disposition port.0) entry.0.request.id). absurd (nowhere entry.0.request.id (subst (λ (ids : List RequestId). Contains ids entry.0.request.id) (is.only_dead_ports_park port.0 alive) parked)))
          (λ (slot : (slot : ℕ) × (is.uses port.0 slot ≡ Serves entry.0.request.id)). passed.left.unserved lives is.driver_relation.state_relation.serve_distinct_requests slot.0 e.request.id (slot.1 ∙ ap Serves entry.2.id))
          (is.driver_relation.have_slots_unless_parked port.0 entry.0 (inl (entry.1, entry.2.issued ∙ issued)) (ap (λ (q : Port). q.0) (entry.2.port ∙ (of_its e here).1)))

      of : (x : Next) → way ≡ x → e.request.issued ≡ true → HasNoSlot t.slot_states e.request.id
      of (Running token) z issued = served (λ stuck. let y : Running token ≡ Stuck = sym z ∙ stuck in absurd cc) issued
      of (Restart token) z issued = served (λ stuck. let y : Restart token ≡ Stuck = sym z ∙ stuck in absurd cc) issued
      of Stuck z issued =
          let u = unnamed z in
          let keeps : completes_keeping_loan (disposition e.request) e.request ≡ true =
          ap (λ (f : Option FailedRequest). completes_keeping_loan (disposition_of f revalidation e.request) e.request) u.1 ∙ ap (λ (p : Revalidation). completes_keeping_loan (disposition_of_unfailed p e.request) e.request) (dead_end port_error was found revalidation expects u.0) ∙ issued in
          absurd (false≢true (sym never ∙ keeps))

      by : (b : Bool) → e.request.issued ≡ b → HasNoSlot t.slot_states e.request.id
      by false waits =
          let l = laws.steps_and_accesses.entry_is_found_in_later_book n.book w.book entry.0 spares.book entry.1 in
          subst (HasNoSlot t.slot_states) (ap (λ r. r.id) l.2.request ∙ entry.2.id) (laws.slots.waiting_has_no_slot t.slot_states w device w_reached passed.passes.driver_relation.state_relation l.0 l.1 (l.2.issued ∙ entry.2.issued ∙ waits))
      by true issued = of way refl issued

  -- what is parked was in a slot
  parked_by : (id : RequestId) → Contains (t.awaiting_disposition port.0) id → (e : BookEntry) × Contains its e × (e.request.id ≡ id) × (e.request.issued ≡ true)
  parked_by id here = ⊎_elim
      (λ there.
      let slot = laws.slots.ids_in_slots_are_served is.uses port.0 32 id there in
      let r = served_request mid n port.0 slot.0 is ready id slot.2 in
      (r.request, in_its r.request r.there r.port_is, r.id_is, sym r.entry.issued ∙ r.issued))
      (λ there. absurd (nowhere id (subst (λ (ids : List RequestId). Contains ids id) (is.only_dead_ports_park port.0 alive) there)))
      (Contains-append_cases _ (is.awaiting_disposition port.0) id (passed.left.its id here))

  may_meet : AreResolvable port disposition its (book_and_loans_of port mid) (driver_state_of_slots t device) w
  may_meet = record {
    reached = w_reached;
    driver_relation = passed.passes.driver_relation;
    book_relation = book_on mid.book n.book w.book spares.book is.book;
    loans_agree = λ frame. ap (λ f. f frame) spares.lent ∙ is.lent frame;
    book_is_well_formed = k.book_is_well_formed;
    entries_are_well_formed = k.entries_are_well_formed;
    are_in_book_of_port = of_its;
    revoked_marks_agree = λ e here. tells_of w.rows mid.grants e.request (spares.rows ∙ is.rows) (All-contains (RevokedMarkInvariant mid.grants) mid.book e k.revoked_marks_agree (of_its e here).0).revoked_mark_agrees;
    are_in_order = AllPairs-filter IsEarlier (λ (x : BookEntry). is_of_port port x.request) mid.book k.book_is_well_formed.ids_rise;
    released_have_no_slot = unserved;
  }

  module _ (later : List Reply) (now : BookAndLoans) (meets : AreResolved disposition its later (book_and_loans_of port mid) now) where
    pub met : AreResolvedInMachine port disposition its later (book_and_loans_of port mid) now (driver_state_of_slots t device) w
    met = meet laws port disposition its (fits_each failed revalidation its) later (book_and_loans_of port mid) now (driver_state_of_slots t device) w may_meet meets

    abbrev z : Machine
    z = after w met.steps

    -- a request whose loan is kept is of a dead port
    dies : (e : Pending) → Contains met.newly_kept e → (e.request.port ≡ port) × (found ≡ Unready Dead)
    dies e here = (x.2.port ∙ (of_its x.0 x.1).1, by revalidation refl)
      where
        x : (request : BookEntry) × Contains its request × EntryRelation request e × (completes_keeping_loan (disposition request.request) request.request ≡ true)
        x = met.newly_kept_are_of_requests e here

        lives : revalidation ≢ NoEnd → ⊥
        lives other = false≢true (sym (kept_dead_alone failed revalidation x.0.request other) ∙ x.3)

        by : (p : Revalidation) → revalidation ≡ p → found ≡ Unready Dead
        by SameDisk same = absurd (lives (λ dead. let y : SameDisk ≡ NoEnd = sym same ∙ dead in absurd cc))
        by DiskLost same = absurd (lives (λ dead. let y : DiskLost ≡ NoEnd = sym same ∙ dead in absurd cc))
        by NoEnd same = subst (IsRevalidation port_error was found) same expects

    -- on another port nothing is decided
    quiet : found ≢ Unready Dead → (e : PendingRequest) → completes_keeping_loan (disposition e) e ≡ false
    quiet other e = kept_dead_alone failed revalidation e (λ dead. other (subst (IsRevalidation port_error was found) dead expects))

    none_left : found ≢ Unready Dead → met.parked port.0 ≡ []
    none_left other = none_parked port disposition its (fits_each failed revalidation its) later (book_and_loans_of port mid) now (driver_state_of_slots t device) w met (quiet other) parked_by

    module _ (mode : QueueMode) (slots : PortSlots) (unused : HasAllSlotsFreeAndCountOfMode mode slots) where
      abbrev new : ServerState
      new = with_port_resolved port device found was mode slots now mid

      found_same : probe_result_of new.probe_results port.0 ≡ found
      found_same = get_or-set_same mid.probe_results port.0 found Unserved (let f = (ready_found mid port.0 k ready).1 in in_ports mid.probe_results port.0 f.0 f.1)

      found_other : (q : ℕ) → q ≢ port.0 → probe_result_of new.probe_results q ≡ probe_result_of mid.probe_results q
      found_other q ne = get_or-set_other mid.probe_results port.0 q found Unserved ne

      kept_same : quarantined_at new.kept_loans port.0 ≡ now.kept
      kept_same = get_or-set_same mid.kept_loans port.0 now.kept [] (let f = k.kept_loans_are_of_four_ports in let l = low in omega (arith, f, l))

      kept_other : (q : ℕ) → q ≢ port.0 → quarantined_at new.kept_loans q ≡ quarantined_at mid.kept_loans q
      kept_other q ne = get_or-set_other mid.kept_loans port.0 q now.kept [] ne

      used : SlotStatesAgreeUnlessDead new t.slot_states
      used = uses_then port.0 way found mid.probe_results mid.slots slots (record { slot_states = is.uses; awaiting_disposition = is.awaiting_disposition }) t (let f = (ready_found mid port.0 k ready).1 in in_ports mid.probe_results port.0 f.0 f.1)
          (let f = k.slots_are_of_four_ports in let l = low in omega (arith, f, l)) unused.all_slots_are_free passed.left is.slot_states_agree_unless_dead

      unparked : (q : ℕ) → probe_result_of new.probe_results q ≢ Unready Dead → met.parked q ≡ []
      unparked q lives = ⊎_elim
          (λ (same : q ≡ port.0).
          ap met.parked same ∙ none_left (λ dead. lives (ap (probe_result_of new.probe_results) same ∙ found_same ∙ dead)))
          (λ (ne : q ≢ port.0). met.parked_of_others_is_kept q ne ∙ passed.left.parked q ne ∙ is.only_dead_ports_park q (λ dead. lives (found_other q ne ∙ dead)))
          (cases_eq q port.0)

      -- ---- what is kept

      was_kept : KeptRequestsRelation mid.probe_results mid.kept_loans w.kept
      was_kept = still_kept laws mid.probe_results mid.kept_loans n.kept w.kept spares.kept is.quarantine_relation

      -- one that was kept is of another port
      elsewhere : (e : Pending) → Contains w.kept e → e.request.port.0 ≢ port.0
      elsewhere e here same = alive (ap (probe_result_of mid.probe_results) (sym same) ∙ was_kept.quarantine_ports_are_dead e here)

      none_kept_here : quarantined_at mid.kept_loans port.0 ≡ []
      none_kept_here = none_alive mid k port.0 alive (quarantined_at mid.kept_loans port.0) refl

      are_kept : KeptRequestsRelation new.probe_results new.kept_loans z.kept
      are_kept = subst (KeptRequestsRelation new.probe_results new.kept_loans) (sym met.newly_kept_are_kept)
          (more_kept port mid.probe_results new.probe_results mid.kept_loans new.kept_loans met.newly_kept w.kept was_kept (kept_same ∙ met.loans_of_newly_kept) kept_other
          (λ e here. found_other e.request.port.0 (elsewhere e here) ∙ was_kept.quarantine_ports_are_dead e here)
          (λ e here. let d = dies e here in (d.0, found_same ∙ d.1))
          met.loans_differ_in_request
          (λ a b here there. absurd (nowhere a (subst (λ (loans : List Lending). Contains loans a) none_kept_here here))))

      leaves : (z.rows ≡ w.rows) × ((frame : Frame) → z.owner frame ≡ w.owner frame) × (z.next_id ≡ w.next_id)
      leaves = deciding_leaves port w met.steps met.steps_are_of_port

      pub stands : MachineRelation new z
      stands = record {
        uses = t.slot_states;
        slot_states_agree_unless_dead = used;
        awaiting_disposition = met.parked;
        only_dead_ports_park = unparked;
        driver_relation = met.driver_relation;
        book = met.book;
        quarantine_relation = are_kept;
        rows = leaves.0 ∙ spares.rows ∙ is.rows;
        owner = λ frame. leaves.1 frame ∙ ap (λ f. f frame) spares.owner ∙ is.owner frame
            ∙ ap (λ (owners : List (Option ClientId)). get_or owners frame.0 None) (sym (fates_owners disposition its later (book_and_loans_of port mid) now meets));
        lent = met.loans_agree;
        next_id_is = leaves.2 ∙ spares.next_id ∙ is.next_id_is;
      }

-- ---- the whole

module _ (laws : PrerequisiteLaws) (port : Port) (later : List Reply) (old new : ServerState) (k : InCallInvariant old) (ready : state_of (probe_result_of old.probe_results port.0) ≡ ReadyState) (a : HasResolved port later old new)
    (looks : IsSimulated (IsPxisSstsOrOwnIsAccess port) AnySlotStates old.device a.error_handled.device_after_look) where
  abbrev from : ServerState
  from = record old { device = a.error_handled.device_after_read }

  seen_kept : InCallInvariant (record old { device = a.error_handled.device_after_look })
  seen_kept = looking_kept old a.error_handled.device_after_look port k ready laws looks

  pub found_kept : InCallInvariant from
  found_kept = finding_kept (record old { device = a.error_handled.device_after_look }) a.error_handled.device_after_read port seen_kept ready laws a.error_handled.mask a.error_handled.done a.error_handled.reads_done

  pub over : CommandsAreOver port a.error_handled.done a.error_handled.device_after_read
  over = found_over (record old { device = a.error_handled.device_after_look }) a.error_handled.device_after_read port seen_kept ready laws a.error_handled.mask a.error_handled.done a.error_handled.reads_done a.error_handled.is_mask_of

  pub mid_kept : InCallInvariant a.server_after_handling
  mid_kept = answers_kept laws port a.error_handled.done a.error_handled.requests from a.server_after_handling found_kept ready over a.error_handled.answers_each

  pub settings : a.server_after_handling ≡ record from { table = a.server_after_handling.table; slots = a.server_after_handling.slots; book = a.server_after_handling.book }
  settings = answers_settings laws port a.error_handled.done a.error_handled.requests from a.server_after_handling a.error_handled.answers_each

  pub mid_ready : state_of (probe_result_of a.server_after_handling.probe_results port.0) ≡ ReadyState
  mid_ready = ap (λ (s : ServerState). state_of (probe_result_of s.probe_results port.0)) settings ∙ ready

  -- nobody is named on a port whose engine is stuck
  pub unnamed : a.error_handled.result.next ≡ Stuck → (a.found ≡ Unready Dead) × (a.failed ≡ None)
  unnamed stuck = (
    (subst (λ (way : Next). IsFoundAfterError (wanted_of old.wanted port.0) port a.error_handled.port_error a.disk_before way a.device_after_handling new.device a.found) stuck a.is_found_after_error).0,
    subst (λ (its : Option _). IsFailedRequest (slots_at a.server_after_handling.slots port.0) its a.failed) (a.error_handled.recovers_or_stops.tells.dead_names_none stuck) a.failed_request_is,
  )

  pub adds_fates : (m : Machine) → IsReachable m → MachineRelation old m → AddsFates port later old new a m
  adds_fates m reached is = record {
    first = x.0;
    ended = y.ended;
    middle = p.passes.steps;
    dispositions = f.steps;
    first_only = x.4;
    early = record { looked = looked.0; later = finding.0; first_is = refl; seen = looked.2; seen_backed = looked.3; found = x.2; found_backed = x.3 };
    each = y.each;
    middle_only = p.passes.only;
    may = laws.steps_and_accesses.enabled_lists_join m f.steps (p.passes.steps ++ base) (laws.steps_and_accesses.enabled_lists_join m p.passes.steps base base_may p.passes.may) (subst (λ (s : Machine). AllEnabled s f.steps) (sym then_is) f.steps_are_enabled);
    backed = laws.backed_parts_join old.device new.device new.device m (p.passes.steps ++ base) f.steps
        (laws.backed_parts_join old.device a.server_after_handling.device new.device m base p.passes.steps base_backed p.passes.backed) (subst (λ (s : Machine). TapeBacksSteps new.device new.device s f.steps) (sym then_is) (f.backed new.device));
    stands = subst (MachineRelation new) (sym (laws.steps_and_accesses.after_joins m f.steps (p.passes.steps ++ base) ∙ ap (λ (s : Machine). after s f.steps) then_is))
        (subst (λ (s : ServerState). MachineRelation s (after (after n p.passes.steps) f.steps)) (sym a.server_is)
        (stands laws port a.server_after_handling mid_kept mid_ready n n_reached is_mid a.error_handled.result.next a.found new.device p a.failed a.revalidation a.error_handled.port_error a.disk_before a.is_revalidation unnamed later a.book_and_loans_after a.are_resolved a.mode a.slots a.has_no_used_slot));
    own = f.steps_are_of_port;
    answered = f.answers_are_as_decided;
    again = f.requeues_are_as_decided;
    tells = f.replies_match;
  }
    where
      looked : (steps : List Step) × AllEnabled m steps × MachineRelation (record old { device = a.error_handled.device_after_look }) (after m steps) × TapeBacksSteps old.device a.error_handled.device_after_look m steps × AllByDevice steps
      looked = followed_steps laws old a.error_handled.device_after_look (looks_serve laws port old.device a.error_handled.device_after_look looks) m reached is

      finding : (steps : List Step) × AllEnabled (after m looked.0) steps × MachineRelation from (after (after m looked.0) steps) × TapeBacksSteps a.error_handled.device_after_look a.error_handled.device_after_read (after m looked.0) steps × AllByDevice steps
      finding = followed_steps laws (record old { device = a.error_handled.device_after_look }) a.error_handled.device_after_read (finds_serve laws port a.error_handled.mask a.error_handled.done a.error_handled.device_after_look a.error_handled.device_after_read a.error_handled.reads_done)
          (after m looked.0) (laws.steps_and_accesses.reachable_stays_reachable m looked.0 reached looked.1) looked.2

      x : (steps : List Step) × AllEnabled m steps × MachineRelation from (after m steps) × TapeBacksSteps old.device a.error_handled.device_after_read m steps × AllByDevice steps
      x = (
        finding.0 ++ looked.0,
        laws.steps_and_accesses.enabled_lists_join m finding.0 looked.0 looked.1 finding.1,
        subst (MachineRelation from) (sym (laws.steps_and_accesses.after_joins m finding.0 looked.0)) finding.2,
        laws.backed_parts_join old.device a.error_handled.device_after_look a.error_handled.device_after_read m looked.0 finding.0 looked.3 finding.3,
        devices_both finding.0 looked.0 finding.4 looked.4,
      )

      reached_x : IsReachable (after m x.0)
      reached_x = laws.steps_and_accesses.reachable_stays_reachable m x.0 reached x.1

      y : AreAnswered port a.error_handled.requests from a.server_after_handling (after m x.0)
      y = each_answered laws port a.error_handled.done a.error_handled.requests from a.server_after_handling found_kept ready over a.error_handled.answers_each (after m x.0) reached_x x.2

      base : List Step
      base = ok_answers_newest_first y.ended ++ x.0

      n : Machine
      n = after m base

      base_may : AllEnabled m base
      base_may = laws.steps_and_accesses.enabled_lists_join m (ok_answers_newest_first y.ended) x.0 x.1 y.may

      base_backed : TapeBacksSteps old.device a.server_after_handling.device m base
      base_backed = laws.backed_parts_join old.device a.error_handled.device_after_read a.server_after_handling.device m x.0 (ok_answers_newest_first y.ended) x.3 y.backed

      n_reached : IsReachable n
      n_reached = laws.steps_and_accesses.reachable_stays_reachable m base reached base_may

      is_mid : MachineRelation a.server_after_handling n
      is_mid = subst (MachineRelation a.server_after_handling) (sym (laws.steps_and_accesses.after_joins m (ok_answers_newest_first y.ended) x.0)) y.stands

      p : IsPassed port.0 a.error_handled.result.next a.found a.server_after_handling.device new.device (record { slot_states = is_mid.uses; awaiting_disposition = is_mid.awaiting_disposition }) n
      p = passed laws (wanted_of old.wanted port.0) port a.error_handled.port_error a.disk_before a.error_handled.result.next a.error_handled.recovers_or_stops.accesses a.server_after_handling.device a.device_after_handling new.device a.found a.error_handled.recovers_or_stops.does.slots_after a.is_found_after_error
          (record { slot_states = is_mid.uses; awaiting_disposition = is_mid.awaiting_disposition }) n n_reached is_mid.driver_relation

      f : AreResolvedInMachine port (disposition_of a.failed a.revalidation) (requests_of port a.server_after_handling.book) later (book_and_loans_of port a.server_after_handling) a.book_and_loans_after (driver_state_of_slots p.slots new.device) (after n p.passes.steps)
      f = met laws port a.server_after_handling mid_kept mid_ready n n_reached is_mid a.error_handled.result.next a.found new.device p a.failed a.revalidation a.error_handled.port_error a.disk_before a.is_revalidation unnamed later a.book_and_loans_after a.are_resolved

      then_is : after m (p.passes.steps ++ base) ≡ after n p.passes.steps
      then_is = laws.steps_and_accesses.after_joins m p.passes.steps base
