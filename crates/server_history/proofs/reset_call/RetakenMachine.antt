-- From a machine that stands for the old server, steps of the device, and Release among them, lead to one that knows the adapter as it was taken over again.
use Rattle.std.proofs.Common.{Bool, List, None, Option, Some, [], ap, arith, eq-eqb, eqb-true, false, get_or, inl, inr, length, map, refl, subst, sym, true, ℕ, ⊎_elim, ◌&&◌, ◌++◌, ◌+◌, ◌==◌, ◌∙◌, ◌∷◌, ◌≡◌, ◌≤◌}
use Rattle.std.proofs.lemmas.Bool.{and_from, and_parts, cases_Bool, cond-false, cond-true, false≢true}
use Rattle.std.proofs.lemmas.List.{get_or_default}
use Rattle.std.proofs.lemmas.List.Elements.{All-contains, All-contains_itself, All-filter, Contains-append_left, Contains-append_right, Contains-get_or, filter_passes}
use Rattle.std.specs.List.{All, Contains, count_by, list_any}
use Rattle.std.specs.Prelude.{filter}
use Rattle.adapter.specs.Access.{Access}
use Rattle.adapter.specs.Device.{Device}
use Rattle.adapter.specs.Idle.{IsIdle}
use Rattle.refinement.specs.Acts.{newest_first_steps_of_acts}
use Rattle.refinement.specs.Fragments.{IsSimulatedChangingUses, driver_state_of}
use Rattle.refinement.specs.Driver.{TapeBacksSteps, DriverState, DriverRelation}
use Rattle.refinement.specs.Slots.{Free, Serves, SlotStates}
use Rattle.refinement.specs.SparedBook.{KeepsLoansAndPendingsOnlyAdvance}
use Rattle.ata_types.specs.declared.request.ClientId.{ClientId}
use Rattle.ata_types.specs.declared.request.Frame.{Frame}
use Rattle.ata_types.specs.declared.request.RequestId.{RequestId}
use Rattle.server_history.proofs.state.ListMembers.{into_map, map_in, none_of, in_filter}
use Rattle.block_machine.specs.Confinement.{KeepsLimitsAndHoldsOwnFrames}
use Rattle.block_machine.specs.Events.{AllByDevice, AllEnabled}
use Rattle.block_machine.specs.Histories.{IsReachable}
use Rattle.block_machine.specs.Expected.{after}
use Rattle.block_machine.specs.State.{Machine, Pending}
use Rattle.block_machine.specs.Steps.{Release, Step, after_step, is_lent_to}
use Rattle.dma_frames.specs.Loan.{Lending}
use Rattle.dma_frames.specs.FrameTables.{OwnersAndLoans, lent_to, owner_of}
use Rattle.host_boot.specs.TakeOver.{unused_slots}
use Rattle.host_boot.specs.declared.ProbeResult.{ProbeResult}
use Rattle.request_queue.specs.BookEntries.{BookEntry, IsWellFormedEntry, BookIsWellFormed}
use Rattle.request_queue.specs.BookRelation.{BookRelation, EntryRelation}
use Rattle.server_history.proofs.plain_calls.Acceptances.{any_in}
use Rattle.server_history.proofs.state.HistorySteps.{book_on, still_kept}
use Rattle.server_history.proofs.state.FirstMembers.{nowhere}
use Rattle.server_history.proofs.state.PairedLists.{at_left}
use Rattle.server_history.specs.Prerequisites.{PrerequisiteLaws}
use Rattle.server_history.specs.ResetLaws.{ResetLaws}
use Rattle.server_history.specs.KeptLoans.{IsKeptIn, GivesBackLoans}
use Rattle.server_history.specs.ErrorHandling.{requests_of}
use Rattle.server_history.specs.Resets.{IsReinitialized, MayResolve}
use Rattle.server_history.specs.ServerState.{KeptRequestsRelation, MachineRelation, ServerState, quarantined_at}
use Rattle.server_history.specs.StuckServer.{ServerInvariant}

-- ---- stretches of the device

-- The machine follows by steps of the device alone.
pub record IsStretch (k later : DriverState) (m : Machine) : Type 0 where
  pub steps : List Step
  pub only : AllByDevice steps
  pub may : AllEnabled m steps
  pub backed : TapeBacksSteps k.device later.device m steps
  pub driver_relation : DriverRelation (after m steps) later

pub stretch : {May : Access → Type 0} {Fits : SlotStates → Type 0} {next : SlotStates → SlotStates} {old new : Device} → PrerequisiteLaws → IsSimulatedChangingUses May Fits next old new → (uses : SlotStates) (parked : ℕ → List RequestId) → Fits uses → (m : Machine) → IsReachable m
    → DriverRelation m (driver_state_of uses parked old) → IsStretch (driver_state_of uses parked old) (driver_state_of (next uses) parked new) m
stretch {May} {Fits} {next} {old} {new} laws a uses parked fits m reached knows =
    let c = a.acts_reach (record { slot_states = uses; awaiting_disposition = parked }) m reached knows fits in
    let g = laws.slots.acts_advance_driver c.acts (driver_state_of uses parked old) (driver_state_of (next uses) parked new) m knows c.acts_are_done in
    record { steps = newest_first_steps_of_acts c.acts; only = c.acts_are_such.all_steps_are_by_device; may = g.steps_are_enabled; backed = g.is_backed; driver_relation = g.driver_relation }

-- ---- an idle adapter

-- the ids of the port's requests that are issued
abbrev pub is_issued_on : ℕ → Pending → Bool
is_issued_on port e = e.issued && (e.request.port.0 == port)

abbrev pub issued_on : Machine → ℕ → List RequestId
issued_on m port = map (λ (e : Pending). e.request.id) (filter (is_issued_on port) m.book)

pub in_issued : (m : Machine) (port : ℕ) (e : Pending) → Contains m.book e → e.issued ≡ true → e.request.port.0 ≡ port → Contains (issued_on m port) e.request.id
in_issued m port e here issued own =
    into_map (λ (x : Pending). x.request.id) (filter (is_issued_on port) m.book) e (in_filter (is_issued_on port) m.book e here (and_from e.issued (e.request.port.0 == port) issued (eq-eqb e.request.port.0 port own)))

pub issued_in : (m : Machine) (port : ℕ) (id : RequestId) → Contains (issued_on m port) id → (e : Pending) × Contains m.book e × (e.request.id ≡ id) × (e.issued ≡ true) × (e.request.port.0 ≡ port)
issued_in m port id here =
    let w = map_in (λ (x : Pending). x.request.id) (filter (is_issued_on port) m.book) id here in
    let passes = and_parts w.0.issued (w.0.request.port.0 == port) (All-contains (λ (x : Pending). is_issued_on port x ≡ true) (filter (is_issued_on port) m.book) w.0 (filter_passes (is_issued_on port) m.book) w.1) in (
      w.0,
      All-contains (Contains m.book) (filter (is_issued_on port) m.book) w.0 (All-filter (is_issued_on port) (Contains m.book) m.book (All-contains_itself m.book)) w.1,
      sym w.2,
      passes.0,
      eqb-true w.0.request.port.0 port passes.1,
    )

-- the ids of all that the device may move, and of others
abbrev all_ids : Machine → ℕ → List RequestId
all_ids m port = map (λ (e : Pending). e.request.id) m.book ++ map (λ (e : Pending). e.request.id) m.kept

-- Where the adapter is idle, every slot was given up.
gives_up : (k : DriverState) (m : Machine) → DriverRelation m k → IsIdle k.device → DriverRelation m (driver_state_of unused_slots (all_ids m) k.device)
gives_up k m knows rest = record {
  state_relation = record {
    relates_slots = λ port slot. let p = rest.ports_are_idle port in record { is_not_issued = p.ci_is_clear slot; is_not_taken = p.none_is_taken slot; unarmed = p.sact_is_clear slot };
    serve_distinct_requests = λ port slot other_port other_slot id serves. let z : Free ≡ Serves id = serves in absurd cc;
    received_areas_in_use_are_placed = knows.state_relation.received_areas_in_use_are_placed;
    disks_are_same = knows.state_relation.disks_are_same;
    client_frames_are_same = knows.state_relation.client_frames_are_same;
    sectors_are_same_if_disks_tell = knows.state_relation.sectors_are_same_if_disks_tell;
    knows_replug_candidates_if_disks_tell = knows.state_relation.knows_replug_candidates_if_disks_tell;
  };
  have_slots_unless_parked = λ port e moves own. inl (⊎_elim
      (λ booked. Contains-append_left (map (λ (x : Pending). x.request.id) m.book) (map (λ (x : Pending). x.request.id) m.kept) e.request.id (into_map (λ (x : Pending). x.request.id) m.book e booked.0))
      (λ held. Contains-append_right (map (λ (x : Pending). x.request.id) m.book) (map (λ (x : Pending). x.request.id) m.kept) e.request.id (into_map (λ (x : Pending). x.request.id) m.kept e held))
      moves);
}

-- Where none is kept, only issued requests have to be remembered as parked.
parks_issued : (uses : SlotStates) (parked : ℕ → List RequestId) (d : Device) (m : Machine) → DriverRelation m (driver_state_of uses parked d) → m.kept ≡ [] → DriverRelation m (driver_state_of uses (issued_on m) d)
parks_issued uses parked d m knows none = record {
  state_relation = knows.state_relation;
  have_slots_unless_parked = λ port e moves own. inl (⊎_elim
      (λ booked. in_issued m port e booked.0 booked.1 own)
      (λ held. absurd (nowhere e (subst (λ (es : List Pending). Contains es e) none held)))
      moves);
}

-- ---- the kept loans

-- What the machine lends once the kept requests' frames are given back is what the server lends.
module _ (laws : ResetLaws) (found : List ProbeResult) (kept : List (List Lending)) (table later : OwnersAndLoans) (m : Machine) (reached : IsReachable m) (lent : (frame : Frame) → m.lent frame ≡ lent_to table frame) (are : KeptRequestsRelation found kept m.kept)
    (back : GivesBackLoans table later (IsKeptIn kept)) where
  limits : KeepsLimitsAndHoldsOwnFrames m
  limits = subst KeepsLimitsAndHoldsOwnFrames (sym reached.leads_to_machine) (laws.prerequisites.frame_holders.enabled_histories_stay_in_limits reached.initial_machine reached.steps_since reached.is_initial reached.steps_since_are_enabled)

  is_lent : (id : RequestId) (o : Option RequestId) → is_lent_to id o ≡ true → o ≡ Some id
  is_lent id None is = absurd (false≢true is)
  is_lent id (Some other) is = ap (λ (n : ℕ). Some (record { 0 = n })) (eqb-true other.0 id.0 is)

  -- its frames are lent to it
  lent_out : (e : Pending) → Contains m.kept e → (frame : Frame) → Contains e.request.asked.frames.items frame → m.lent frame ≡ Some e.request.id
  lent_out e here frame (i, small, is) =
      ap m.lent (sym is ∙ get_or_default e.request.asked.frames.items i _ _ small) ∙ limits.frames_are_lent e (inr here) i small

  -- the machine's kept request lends this frame
  by_kept : (frame : Frame) → (e : Pending) → Contains m.kept e → is_lent_to e.request.id (m.lent frame) ≡ true → (loan : Lending) × IsKeptIn kept loan × Contains loan.frames frame
  by_kept frame e here is =
      let f = laws.held_frame_is_of_request m frame e reached (inr here) (is_lent e.request.id (m.lent frame) is) in
      let l = are.each_request_has_its_loan e here in
      (l.0, (e.request.port.0, l.1), subst (λ (frames : List Frame). Contains frames frame) (sym l.2.1) (subst (Contains e.request.asked.frames.items) f.2 (Contains-get_or e.request.asked.frames.items f.0 _ f.1)))

  lends_then : (frame : Frame) → (after_step m Release).lent frame ≡ lent_to later frame
  lends_then frame = ⊎_elim
      (λ (some : list_any (λ (e : Pending). is_lent_to e.request.id (m.lent frame)) m.kept ≡ true).
      let w = any_in (λ (e : Pending). is_lent_to e.request.id (m.lent frame)) m.kept some in
      let l = by_kept frame w.0 w.1 w.2 in
      cond-true (list_any (λ (e : Pending). is_lent_to e.request.id (m.lent frame)) m.kept) None (m.lent frame) some ∙ sym (back.their_frames_are_free l.0 frame l.1 l.2))
      (λ (none : list_any (λ (e : Pending). is_lent_to e.request.id (m.lent frame)) m.kept ≡ false).
      cond-false (list_any (λ (e : Pending). is_lent_to e.request.id (m.lent frame)) m.kept) None (m.lent frame) none ∙ lent frame
      ∙ sym (back.other_loans_are_kept frame (λ loan its there. not_kept none loan its there)))
      (cases_Bool (list_any (λ (e : Pending). is_lent_to e.request.id (m.lent frame)) m.kept))
    where
      not_kept : list_any (λ (e : Pending). is_lent_to e.request.id (m.lent frame)) m.kept ≡ false → (loan : Lending) → IsKeptIn kept loan → Contains loan.frames frame → ⊥
      not_kept none loan (port, its) there =
          let e = are.each_loan_has_its_request port loan its in
          let out = lent_out e.0 e.1 frame (subst (λ (frames : List Frame). Contains frames frame) e.3.1 there) in
          false≢true (sym (none_of (λ (x : Pending). is_lent_to x.request.id (m.lent frame)) m.kept e.0 none e.1)
          ∙ ap (is_lent_to e.0.request.id) out ∙ eq-eqb e.0.request.id.0 e.0.request.id.0 refl)

-- ---- the whole

-- The steps of the device until the adapter is idle, Release, and those while it is taken over; and what the machine has of the server then.
pub record IsRetaken (s taken : ServerState) (uses : SlotStates) (m : Machine) : Type 0 where
  pub first : List Step
  pub first_only : AllByDevice first
  pub second : List Step
  pub second_only : AllByDevice second
  pub may : AllEnabled m (second ++ Release ∷ first)
  pub backed : TapeBacksSteps s.device taken.device m (second ++ Release ∷ first)
  pub driver_relation : DriverRelation (after m (second ++ Release ∷ first)) (driver_state_of uses (issued_on (after m (second ++ Release ∷ first))) taken.device)
  pub book : BookRelation s.book (after m (second ++ Release ∷ first)).book
  pub kept : (after m (second ++ Release ∷ first)).kept ≡ []
  pub rows : (after m (second ++ Release ∷ first)).rows ≡ s.grants
  pub owner : (frame : Frame) → (after m (second ++ Release ∷ first)).owner frame ≡ owner_of s.table frame
  pub lent : (frame : Frame) → (after m (second ++ Release ∷ first)).lent frame ≡ lent_to taken.table frame
  pub next : (after m (second ++ Release ∷ first)).next_id ≡ s.last_id + 1

module _ (laws : ResetLaws) (s taken : ServerState) (takes : IsReinitialized s taken) (m : Machine) (reached : IsReachable m) (is : MachineRelation s m) where
  abbrev down : IsStretch (driver_state_of is.uses is.awaiting_disposition s.device) (driver_state_of is.uses is.awaiting_disposition takes.idle_device) m
  down = stretch laws.prerequisites takes.resets.followed is.uses is.awaiting_disposition tt m reached is.driver_relation

  abbrev idle : Machine
  idle = after m down.steps

  idle_reached : IsReachable idle
  idle_reached = laws.prerequisites.steps_and_accesses.reachable_stays_reachable m down.steps reached down.may

  down_spares : KeepsLoansAndPendingsOnlyAdvance m idle
  down_spares = laws.prerequisites.steps_and_accesses.device_steps_spare_book m down.steps down.only

  idle_kept : KeptRequestsRelation s.probe_results s.kept_loans idle.kept
  idle_kept = still_kept laws.prerequisites s.probe_results s.kept_loans m.kept idle.kept down_spares.kept is.quarantine_relation

  abbrev free : Machine
  free = after_step idle Release

  free_reached : IsReachable free
  free_reached = laws.prerequisites.steps_and_accesses.reachable_stays_reachable idle (Release ∷ []) idle_reached (tt, tt)

  free_knows : DriverRelation free (driver_state_of unused_slots (all_ids idle) takes.idle_device)
  free_knows = laws.release_keeps_driver_relation (driver_state_of unused_slots (all_ids idle) takes.idle_device) idle (all_ids idle) idle_reached (gives_up (driver_state_of is.uses is.awaiting_disposition takes.idle_device) idle down.driver_relation takes.resets.idle)
      (λ e here port slot serves. let z : Free ≡ Serves e.request.id = serves in absurd cc) (λ port other here lives. here)

  abbrev up : IsStretch (driver_state_of unused_slots (all_ids idle) takes.idle_device) (driver_state_of takes.takes_over.uses (all_ids idle) taken.device) free
  up = stretch laws.prerequisites takes.takes_over.followed unused_slots (all_ids idle) refl free free_reached free_knows

  abbrev last : Machine
  last = after free up.steps

  up_spares : KeepsLoansAndPendingsOnlyAdvance free last
  up_spares = laws.prerequisites.steps_and_accesses.device_steps_spare_book free up.steps up.only

  none_kept : last.kept ≡ []
  none_kept = up_spares.kept

  abbrev steps : List Step
  steps = up.steps ++ Release ∷ down.steps

  last_is : after m steps ≡ last
  last_is = laws.prerequisites.steps_and_accesses.after_joins m up.steps (Release ∷ down.steps)

  lent_then : (frame : Frame) → last.lent frame ≡ lent_to taken.table frame
  lent_then frame = ap (λ f. f frame) up_spares.lent
      ∙ lends_then laws s.probe_results s.kept_loans s.table taken.table idle idle_reached (λ f. ap (λ g. g f) down_spares.lent ∙ is.lent f) idle_kept takes.loans_are_taken_back frame

  pub retaken : IsRetaken s taken takes.takes_over.uses m
  retaken = record {
    first = down.steps;
    first_only = down.only;
    second = up.steps;
    second_only = up.only;
    may = laws.prerequisites.steps_and_accesses.enabled_lists_join m up.steps (Release ∷ down.steps) (down.may, tt) up.may;
    backed = laws.prerequisites.backed_parts_join s.device takes.idle_device taken.device m (Release ∷ down.steps) up.steps
        (laws.prerequisites.backed_parts_join s.device takes.idle_device takes.idle_device m down.steps (Release ∷ []) down.backed (laws.prerequisites.drivers_own_step_is_backed takes.idle_device idle Release (λ none. none))) up.backed;
    driver_relation = subst (λ (n : Machine). DriverRelation n (driver_state_of takes.takes_over.uses (issued_on n) taken.device)) (sym last_is) (parks_issued takes.takes_over.uses (all_ids idle) taken.device last up.driver_relation none_kept);
    book = subst (λ (n : Machine). BookRelation s.book n.book) (sym last_is) (book_on s.book free.book last.book up_spares.book (book_on s.book m.book idle.book down_spares.book is.book));
    kept = ap (λ (n : Machine). n.kept) last_is ∙ none_kept;
    rows = ap (λ (n : Machine). n.rows) last_is ∙ up_spares.rows ∙ down_spares.rows ∙ is.rows;
    owner = λ frame. ap (λ (n : Machine). n.owner frame) last_is ∙ ap (λ f. f frame) up_spares.owner ∙ ap (λ f. f frame) down_spares.owner ∙ is.owner frame;
    lent = λ frame. ap (λ (n : Machine). n.lent frame) last_is ∙ lent_then frame;
    next = ap (λ (n : Machine). n.next_id) last_is ∙ up_spares.next_id ∙ down_spares.next_id ∙ is.next_id_is;
  }

-- ---- its requests may meet their fates

-- so each is as it was accepted still
accepted_then : (old new : OwnersAndLoans) (entries : List BookEntry) (m : Machine) → KeepsLimitsAndHoldsOwnFrames m → BookRelation entries m.book → ((frame : Frame) → m.lent frame ≡ lent_to new frame) → new.owners ≡ old.owners
    → All (IsWellFormedEntry old) entries → All (IsWellFormedEntry new) entries
accepted_then old new entries m limits book lent owners accepted i d small =
    let e = get_or entries i d in
    let a = accepted i d small in
    let y = at_left EntryRelation entries m.book book e (Contains-get_or entries i d small) in
    record {
      client_is_at_least_1 = a.client_is_at_least_1;
      client_is_at_most_8 = a.client_is_at_most_8;
      count_is_allowed = a.count_is_allowed;
      range_is_below_2_48_unless_flush = a.range_is_below_2_48_unless_flush;
      frame_count_is = a.frame_count_is;
      frames_are_not_drivers = a.frames_are_not_drivers;
      frames_are_own = λ k f inside. ap (λ (list : List (Option ClientId)). get_or list (get_or e.frames k f).0 None) owners ∙ a.frames_are_own k f inside;
      frames_are_distinct = a.frames_are_distinct;
      frames_are_lent = subst (λ (frames : List Frame). All (λ f. lent_to new f ≡ Some e.request.id) frames) y.2.frames
          (λ k f inside. let g = get_or y.0.request.asked.frames.items k f in
          sym (lent g) ∙ ap m.lent (get_or_default y.0.request.asked.frames.items k f _ inside) ∙ limits.frames_are_lent y.0 (inl y.1) k inside ∙ ap Some y.2.id);
    }

module _ (laws : ResetLaws) (s taken : ServerState) (booked : ServerInvariant s) (takes : IsReinitialized s taken) where
  its : IsRetaken s taken takes.takes_over.uses booked.machine
  its = retaken laws s taken takes booked.machine booked.reached booked.machine_relation

  abbrev end : Machine
  end = after booked.machine (its.second ++ Release ∷ its.first)

  end_limits : KeepsLimitsAndHoldsOwnFrames end
  end_limits =
      let r = laws.prerequisites.steps_and_accesses.reachable_stays_reachable booked.machine (its.second ++ Release ∷ its.first) booked.reached its.may in
      subst KeepsLimitsAndHoldsOwnFrames (sym r.leads_to_machine) (laws.prerequisites.frame_holders.enabled_histories_stay_in_limits r.initial_machine r.steps_since r.is_initial r.steps_since_are_enabled)

  pub book_same : taken.book ≡ s.book
  book_same = ap (λ (t : ServerState). t.book) takes.server_is

  pub accepted_still : All (IsWellFormedEntry taken.table) s.book
  accepted_still = accepted_then s.table taken.table s.book end end_limits its.book its.lent takes.loans_are_taken_back.owners_are_kept booked.entries_are_well_formed

  pub may_settle : MayResolve taken
  may_settle = record {
    kept_loans_are_of_four_ports = takes.kept_loans_are_of_four_ports;
    book_is_well_formed = subst BookIsWellFormed (sym book_same) booked.book_is_well_formed;
    entries_are_well_formed = subst (All (IsWellFormedEntry taken.table)) (sym book_same) accepted_still;
    kept_loans_have_room = λ port. subst (λ (book : List BookEntry). length (quarantined_at taken.kept_loans port.0) + count_by (λ (e : BookEntry). e.request.issued) (requests_of port book) ≤ 32) (sym book_same)
        (subst (λ (loans : List Lending). length loans + count_by (λ (e : BookEntry). e.request.issued) (requests_of port s.book) ≤ 32) (sym (takes.no_loan_is_kept port.0)) (let few = booked.kept_loans_have_room port in omega (arith, few)));
  }
