-- The request of a ready port's slot, whose command is over, is answered.
use Rattle.std.proofs.Common.{ℕ, ◌≡◌, ◌<◌, ◌≤◌, ◌==◌, Bool, true, false, cond, List, [], ◌∷◌, length, get_or, Option, Some, None, inl, inr, refl, sym, ap, ◌∙◌, subst, ⊎_elim, arith, eqb-true, eq-eqb}
use Rattle.std.specs.List.{All, Contains}
use Rattle.std.proofs.lemmas.Bool.{cond-true, false≢true}
use Rattle.std.proofs.lemmas.List.{get_or_default}
use Rattle.std.proofs.lemmas.List.Elements.{All-contains}
use Rattle.ata_types.specs.declared.Port.{Port}
use Rattle.ata_types.specs.declared.PortState.TheVariants.{Ready as ReadyState}
use Rattle.ata_types.specs.declared.request.ClientId.{ClientId}
use Rattle.ata_types.specs.declared.request.Frame.{Frame}
use Rattle.ata_types.specs.declared.request.Outcome.TheVariants as outcome
use Rattle.ata_types.specs.declared.request.RequestId.{RequestId}
use Rattle.adapter.specs.Device.{Device}
use Rattle.std.proofs.lemmas.Bool.Decides.{eqb_tells}
use Rattle.adapter.specs.Memory.{changed}
use Rattle.block_machine.specs.Histories.{IsReachable}
use Rattle.block_machine.specs.State.{Machine, Pending}
use Rattle.block_machine.specs.Steps.{Answer, IsInBookOrKept, after_step, is_lent_to, unlend}
use Rattle.server_history.proofs.state.ListMembers.{contains_cases}
use Rattle.refinement.specs.Fragments.{driver_state_of}
use Rattle.refinement.specs.Driver.{OthersStayParked, HasNoSlot, DriverState, with_slot_freed_and_request_parked}
use Rattle.adapter.specs.OneCommand.{SlotHasNoCommand}
use Rattle.refinement.specs.Slots.{Free, Serves, SlotStates, set_slot_state, IsDropped, IsEnded, ServesRequest}
use Rattle.dma_frames.specs.FrameTables.{OwnersAndLoans, lent_to, SetsLoanOnly}
use Rattle.host_boot.specs.TakeOver.{probe_result_of}
use Rattle.request_queue.specs.BookEntries.{BookEntry, IsWellFormedEntry, without_entry}
use Rattle.request_queue.specs.BookRelation.{BookRelation, EntryRelation}
use Rattle.server_history.specs.IssuingAndAnswering.{AnswersOne, HasEnded}
use Rattle.server_history.specs.ServerState.{ServerState, InCallInvariant, MachineRelation, mode_at, slots_at, state_of, usable_slots_of, with_slot, used_for, RevokedMarkInvariant}
use Rattle.server_history.specs.Prerequisites.{PrerequisiteLaws}
use Rattle.server_history.proofs.state.HistorySteps.{kept_then}
use Rattle.server_history.proofs.state.PlacedSlots.{freed_was, placed_four, placed_has, placed_uses}
use Rattle.server_history.proofs.state.PortSlots.{IsServedBy, its_mode, used_low, used_or_not, ready_found, served_request, serves_used, stage_over, usable_ready}

-- ---- loans

-- the frames of the request given back, in the machine and in the table
pub given_back : PrerequisiteLaws → (m : Machine) (e : BookEntry) (x : Pending) (old new : OwnersAndLoans) → IsReachable m → IsInBookOrKept m x → EntryRelation e x → ((f : Frame) → m.lent f ≡ lent_to old f)
    → All (λ f. lent_to old f ≡ Some e.request.id) e.frames → SetsLoanOnly old new e.frames None → (f : Frame) → unlend x.request.id m.lent f ≡ lent_to new f
given_back laws m e x old new reached lives entry same lent lends f = by (m.lent f) refl
  where
    -- the frame is another's, or nobody's
    left : (o : Option RequestId) → m.lent f ≡ o → (Some e.request.id ≡ o → ⊥) → lent_to new f ≡ o
    left o is ne = lends.others_are_kept f (λ there. ne (sym (All-contains (λ (y : Frame). lent_to old y ≡ Some e.request.id) e.frames f lent there) ∙ sym (same f) ∙ is)) ∙ sym (same f) ∙ is

    seen : (o : Option RequestId) → m.lent f ≡ o → unlend x.request.id m.lent f ≡ cond (is_lent_to x.request.id o) None o
    seen o is = ap (λ (y : Option RequestId). cond (is_lent_to x.request.id y) None y) is

    by : (o : Option RequestId) → m.lent f ≡ o → unlend x.request.id m.lent f ≡ lent_to new f
    by None is = seen None is ∙ sym (left None is (λ q. let z : Some e.request.id ≡ None = q in cc))
    by (Some o) is = held (o.0 == x.request.id.0) refl
      where
        held : (b : Bool) → (o.0 == x.request.id.0) ≡ b → unlend x.request.id m.lent f ≡ lent_to new f
        held true q =
            let mine : o ≡ x.request.id = ap (λ n. record { 0 = n }) (eqb-true o.0 x.request.id.0 q) in
            let place = laws.frame_holders.held_frame_is_of_request m f x reached lives (is ∙ ap Some mine) in
            let there : Contains x.request.asked.frames.items f = (place.0, place.1, get_or_default x.request.asked.frames.items place.0 f _ place.1 ∙ place.2) in
            seen (Some o) is ∙ cond-true (o.0 == x.request.id.0) None (Some o) q
            ∙ sym (All-contains (λ (y : Frame). lent_to new y ≡ None) e.frames f lends.these_are_lent (subst (λ (fs : List Frame). Contains fs f) entry.frames there))
        held false q =
            seen (Some o) is ∙ ap (λ (b : Bool). cond b None (Some o)) q
            ∙ sym (left (Some o) is (λ z. let w : e.request.id ≡ o = (let v : Some e.request.id ≡ Some o = z in cc) in
            false≢true (sym q ∙ eq-eqb o.0 x.request.id.0 (ap (λ (i : RequestId). i.0) (sym w ∙ sym entry.id)))))

-- what is parked last is forgotten
forgets_one : (uses : SlotStates) (parked : ℕ → List RequestId) (d : Device) (port slot : ℕ) (id : RequestId) → OthersStayParked id (with_slot_freed_and_request_parked (driver_state_of uses parked d) port slot id).awaiting_disposition parked
unfolding changed
forgets_one uses parked d port slot id q other =
    elim (eqb_tells q port) [
      | inl both ↦ rw both.0 (λ here ne. ⊎_elim (λ same. absurd (ne same)) (λ there. subst (λ (p : ℕ). Contains (parked p) other) (sym both.1) there) (contains_cases id (parked port) other here))
      | inr both ↦ rw both.0 (λ here ne. here)
    ]

-- ---- it is answered

-- Its request is answered, by a machine's step, after which the machine stands for the new server.
pub record IsAnswer (port : Port) (request : BookEntry) (old new : ServerState) (m : Machine) : Type 0 where
  pub done : Pending
  pub here : Contains m.book done
  pub has : HasEnded port request done
  pub stands : MachineRelation new (after_step m (Answer done outcome.Ok))

module _ (laws : PrerequisiteLaws) (s new : ServerState) (port : Port) (e : BookEntry) (k : InCallInvariant s) (ready : state_of (probe_result_of s.probe_results port.0) ≡ ReadyState)
    (one : AnswersOne port e s new) (over : SlotHasNoCommand (s.device.port port.0) one.slot) where
  abbrev id : RequestId
  id = e.request.id

  abbrev slot : ℕ
  slot = one.slot

  -- the server then
  abbrev left : ServerState
  left = record s { table = new.table; slots = with_slot s.slots port.0 slot None; book = without_entry e.request.id s.book }

  low : port.0 < 4
  low = (ready_found s port.0 k ready).0

  started : (s.device.port port.0).st ≡ true
  started = ((k.port_invariant port.0 low).ready_engine_runs ready).st_is_set

  was_accepted : IsWellFormedEntry s.table e
  was_accepted = All-contains (IsWellFormedEntry s.table) s.book e k.entries_are_well_formed one.is_in_book

  module _ (m : Machine) (reached : IsReachable m) (is : MachineRelation s m) where
    serves : is.uses port.0 slot ≡ Serves id
    serves = serves_used s m port.0 is ready slot one.used one.slot_use_is ∙ ap Serves one.id_is

    abbrev r : IsServedBy s m port.0 slot id
    r = served_request s m port.0 slot is ready id serves

    abbrev x : ServesRequest m s.device.memory (s.device.port port.0) port.0 slot id
    x = r.serves

    abbrev done : Pending
    done = x.pending

    -- it has ended, since the port runs
    ended : IsEnded (s.device.port port.0) slot done
    ended = ⊎_elim
        (λ (y : IsEnded (s.device.port port.0) slot done). y)
        (λ (d : IsDropped (s.device.port port.0) slot done). absurd (false≢true (sym d.st_is_clear ∙ started)))
        (stage_over s.device.memory (s.device.port port.0) port.0 slot done x.command x.places x.stage over)

    same : r.request ≡ e
    same = laws.an_id_is_one_entry s.book r.request e k.book_is_well_formed r.there one.is_in_book r.id_is

    entry : EntryRelation e done
    entry = subst (λ (y : BookEntry). EntryRelation y done) same r.entry

    abbrev answered : Machine
    answered = after_step m (Answer done outcome.Ok)

    abbrev taken : DriverState
    taken = with_slot_freed_and_request_parked (driver_state_of is.uses is.awaiting_disposition s.device) port.0 slot id

    no_slot : HasNoSlot taken.slot_states done.request.id
    no_slot = subst (HasNoSlot taken.slot_states) (sym x.id_is) (laws.slots.parked_frees (driver_state_of is.uses is.awaiting_disposition s.device) port.0 slot id is.driver_relation.state_relation.serve_distinct_requests serves)

    forgets : OthersStayParked done.request.id taken.awaiting_disposition is.awaiting_disposition
    forgets = subst (λ (i : RequestId). OthersStayParked i taken.awaiting_disposition is.awaiting_disposition) (sym x.id_is) (forgets_one is.uses is.awaiting_disposition s.device port.0 slot id)

    stands : MachineRelation left answered
    stands = record {
      uses = set_slot_state is.uses port.0 slot Free;
      slot_states_agree_unless_dead = placed_uses s.slots port.0 slot None (let l = low in let f = k.slots_are_of_four_ports in omega (arith, l, f)) (let h = (k.slots_invariant port.0 low).has_32_slots in let small = one.slot_is_below_32 in omega (arith, h, small)) laws s.probe_results is.uses is.slot_states_agree_unless_dead;
      awaiting_disposition = is.awaiting_disposition;
      only_dead_ports_park = is.only_dead_ports_park;
      driver_relation = laws.slots.answered_agrees taken m done outcome.Ok is.awaiting_disposition reached (laws.slots.parked_agrees (driver_state_of is.uses is.awaiting_disposition s.device) m is.driver_relation port.0 slot over id serves) r.here refl no_slot forgets;
      book = subst (λ (i : RequestId). BookRelation (without_entry i s.book) answered.book) x.id_is (laws.answer_keeps_book_relation s.book m done outcome.Ok is.book);
      quarantine_relation = is.quarantine_relation;
      rows = is.rows;
      owner = λ f. is.owner f ∙ sym (ap (λ (owners : List (Option ClientId)). get_or owners f.0 None) one.lends_only.owners_are_kept);
      lent = given_back laws m e done s.table new.table reached (inl r.here) entry is.lent was_accepted.frames_are_lent one.lends_only;
      next_id_is = is.next_id_is;
    }

    pub answer_one : IsAnswer port e s new m
    answer_one = record {
      done = done;
      here = r.here;
      has = record {
        port_is = ap (λ (n : ℕ). record { 0 = n }) (ap (λ (y : BookEntry). y.request.port.0) (sym same) ∙ r.port_is);
        entry = entry;
        issued = r.issued;
        ended = ended.ended;
        touched = ended.touched;
      };
      stands = subst (λ (n : ServerState). MachineRelation n answered) (sym one.server_is) stands;
    }

  -- ---- what the server keeps

  -- what holds of each that is left
  left_each : (P : BookEntry → Type 0) → All P s.book → All P (without_entry id s.book)
  left_each P all i d small =
      let y : BookEntry = get_or (without_entry id s.book) i d in
      All-contains P s.book y all ((laws.removal_keeps_other_entries s.book id y).0 (i, small, get_or_default (without_entry id s.book) i y d small)).0

  pub answer_kept : InCallInvariant new
  answer_kept =
      let a = answer_one k.machine k.reached k.machine_relation in
      subst InCallInvariant (sym one.server_is)
      (kept_then s s.device s.grants new.table (with_slot s.slots port.0 slot None) (without_entry id s.book) s.last_id k k.rows_are_valid
      k.adapter_is_on (record { disks_tell_sectors = refl; memory_size = refl; cap = refl; pi = refl }) k.port_invariant one.lends_only.owners_are_kept
      (placed_four s.probe_results s.modes s.slots port.0 slot None k.slots_are_of_four_ports low slot_low few k.slots_invariant)
      (placed_has s.probe_results s.modes s.slots port.0 slot None k.slots_are_of_four_ports low slot_low few k.slots_invariant)
      (λ q n used h is there same. k.slots_queue_as_asked q n used h (freed_was s.slots port.0 slot in_list in_places q.0 n used is) ((laws.removal_keeps_other_entries s.book id h).0 there).0 same)
      (λ q n used is. k.slots_store_commands q n used (freed_was s.slots port.0 slot in_list in_places q n used is))
      (λ q n used is plain.
      let a = k.plain_is_alone_in_slot_0 q n used (freed_was s.slots port.0 slot in_list in_places q n used is) plain in
      (a.0, λ other ne. still_none q other (a.1 other ne)))
      (laws.answering_keeps_well_formed s.table new.table s.book e one.is_in_book one.lends_only k.entries_are_well_formed)
      (laws.removing_keeps_book_well_formed s.book id k.book_is_well_formed)
      (left_each (RevokedMarkInvariant s.grants) k.revoked_marks_agree)
      (left_each (λ y. y.request.id.0 ≤ s.last_id) k.ids_were_handed_out)
      (left_each (λ y. state_of (probe_result_of s.probe_results y.request.port.0) ≡ ReadyState) k.requests_are_of_ready_ports)
      (after_step k.machine (Answer a.done outcome.Ok)) (laws.steps_and_accesses.reachable_stays_reachable k.machine (Answer a.done outcome.Ok ∷ []) k.reached (tt, (a.here, tt)))
      (subst (λ (n : ServerState). MachineRelation n (after_step k.machine (Answer a.done outcome.Ok))) one.server_is a.stands))
    where
      slot_low : slot < usable_slots_of (probe_result_of s.probe_results port.0) (mode_at s.modes port.0)
      slot_low = used_low s port.0 slot one.used k low one.slot_use_is

      in_list : port.0 < length s.slots
      in_list = let f = k.slots_are_of_four_ports in let l = low in omega (arith, f, l)

      in_places : slot < length (slots_at s.slots port.0).slot_uses
      in_places = let p = (k.slots_invariant port.0 low).has_32_slots in let t = one.slot_is_below_32 in omega (arith, p, t)

      -- what wasn't used isn't now
      still_none : (q n : ℕ) → used_for s.slots q n ≡ None → used_for (with_slot s.slots port.0 slot None) q n ≡ None
      still_none q n none = ⊎_elim
          (λ x. let z : None ≡ Some x.0 = sym none ∙ freed_was s.slots port.0 slot in_list in_places q n x.0 x.1 in absurd cc)
          (λ free. free)
          (used_or_not (used_for (with_slot s.slots port.0 slot None) q n))

      few : usable_slots_of (probe_result_of s.probe_results port.0) (mode_at s.modes port.0) ≤ 32
      few = let u = usable_ready s port.0 k ready in let f = (its_mode s port.0 k (ready_found s port.0 k ready).0).0.1 in omega (arith, u, f)
