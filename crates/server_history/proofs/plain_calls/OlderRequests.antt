-- Requests that get older: in the book, and in a machine that stands for the server.
use Rattle.std.proofs.Common.{get_or, min, not, ℕ, suc, ◌≡◌, ◌≤◌, ◌&&◌, Bool, true, false, if◌then◌else◌, List, [], ◌∷◌, refl, sym, ap, ◌∙◌, subst, inl, inr, ⊎_elim}
use Rattle.std.specs.List.{All, Contains}
use Rattle.std.proofs.lemmas.List.Elements.{All-map}
use Rattle.ata_types.specs.declared.Port.{Port}
use Rattle.ata_types.specs.declared.PortState.TheVariants.{Ready as ReadyState}
use Rattle.ata_types.specs.declared.request.Op.{Op}
use Rattle.ata_types.specs.declared.request.Op.TheVariants.{Flush, Read, Trim, Write}
use Rattle.ata_types.specs.declared.request.RequestId.{RequestId}
use Rattle.adapter.specs.Commands.{Meaning}
use Rattle.adapter.specs.Device.{DevicePort, FetchedCommand}
use Rattle.refinement.specs.Fragments.{driver_state_of}
use Rattle.refinement.specs.Slots.{MeansRequest, TouchedAsMovedOrCleared, ServesRequest, IsInSomeStage}
use Rattle.block_machine.specs.DueRequests.{NoneDue, is_plain}
use Rattle.block_machine.specs.State.{Machine, Pending}
use Rattle.block_machine.specs.Steps.{Age, after_step, aged_pending}
use Rattle.block_machine.specs.declared.due.Unanswered.{Unanswered}
use Rattle.server_history.proofs.state.ListMembers.{into_map, map_in}
use Rattle.host_boot.specs.TakeOver.{probe_result_of}
use Rattle.request_queue.specs.BookEntries as entries
use Rattle.request_queue.specs.BookEntries.{BookEntry}
use Rattle.request_queue.specs.declared.PendingRequest.{PendingRequest}
use Rattle.server_history.specs.Prerequisites.{PrerequisiteLaws}
use Rattle.server_history.specs.ServerState.{ServerState, InCallInvariant, MachineRelation, InvariantWithNoneDue, mode_in, state_of, RevokedMarkInvariant}
use Rattle.server_history.specs.Turns.{a_tick_older, is_ready}
use Rattle.server_history.proofs.state.RevokedMarks.{older_marked}

-- ---- one request

-- but for its age, the request is what it was
pub older_by : (P : Pending → Type 0) (ready : Port → Bool) (e : Pending) → P e → P (record e { age = suc e.age }) → P (aged_pending ready e)
older_by P ready e same other = by (e.issued && ready e.request.port)
  where
    by : (b : Bool) → P (if b then record e { age = suc e.age } else e)
    by true = other
    by false = same

pub older_request : (ready : Port → Bool) (e : Pending) → (aged_pending ready e).request ≡ e.request
older_request ready e = older_by (λ x. x.request ≡ e.request) ready e refl refl

pub older_issued : (ready : Port → Bool) (e : Pending) → (aged_pending ready e).issued ≡ e.issued
older_issued ready e = older_by (λ x. x.issued ≡ e.issued) ready e refl refl

pub older_ended : (ready : Port → Bool) (e : Pending) → (aged_pending ready e).ended ≡ e.ended
older_ended ready e = older_by (λ x. x.ended ≡ e.ended) ready e refl refl

-- and so it is in the book
pub entry_by : (P : PendingRequest → Type 0) (ready : Port → Bool) (r : PendingRequest) → P r → ((age : ℕ) → P (record r { age = age })) → P (entries.aged_request ready r)
entry_by P ready r same other = by (r.issued && ready r.port)
  where
    by : (b : Bool) → P (if b then record r { age = min (suc r.age) 3 } else r)
    by true = other (min (suc r.age) 3)
    by false = same

-- ---- its slot

module _ (memory : ℕ → ℕ) (p : DevicePort) (port slot : ℕ) where
  progress_on : (op : Op) (e : Pending) (age : ℕ) (t : FetchedCommand) → TouchedAsMovedOrCleared op memory port e t → TouchedAsMovedOrCleared op memory port (record e { age = age }) t
  progress_on Read e age t x = x
  progress_on Write e age t x = x
  progress_on Trim e age t x = x
  progress_on Flush e age t x = x

  stage_on : (e : Pending) (age : ℕ) (c : Meaning) (places : List ℕ) → IsInSomeStage memory p port slot e c places → IsInSomeStage memory p port slot (record e { age = age }) c places
  stage_on e age c places (inl w) = inl (record { started = w.started; issued = w.issued; is_not_taken = w.is_not_taken; sact = w.sact; has_block_if_trim = w.has_block_if_trim; untouched = w.untouched; unended = w.unended })
  stage_on e age c places (inr (inl t)) = inr (inl (record {
    command = t.command;
    taken = t.taken;
    meaning = t.meaning;
    places_are = t.places_are;
    running = t.running;
    ci_is_set_iff_st_and_plain = t.ci_is_set_iff_st_and_plain;
    sact = t.sact;
    progress = progress_on e.request.asked.op e age t.command t.progress;
    unended = t.unended;
  }))
  stage_on e age c places (inr (inr (inl d))) = inr (inr (inl (record { is_not_issued = d.is_not_issued; sact_is_clear = d.sact_is_clear; is_not_taken = d.is_not_taken; ended = d.ended; touched = d.touched })))
  stage_on e age c places (inr (inr (inr d))) = inr (inr (inr (record { st_is_clear = d.st_is_clear; is_not_issued = d.is_not_issued; sact_is_clear = d.sact_is_clear; is_not_taken = d.is_not_taken; unended = d.unended })))

  -- a slot that served the request does so still
  pub serves_on : (m : Machine) (ready : Port → Bool) (id : RequestId) → ServesRequest m memory p port slot id → ServesRequest (after_step m (Age ready)) memory p port slot id
  serves_on m ready id x = ⊎_elim
      (λ here. record {
        pending = aged_pending ready x.pending;
        may_still_move = inl (into_map (aged_pending ready) m.book x.pending here.0, older_issued ready x.pending ∙ here.1);
        id_is = ap (λ r. r.id) (older_request ready x.pending) ∙ x.id_is;
        port_is = ap (λ r. r.port.0) (older_request ready x.pending) ∙ x.port_is;
        list_is_in_place = x.list_is_in_place;
        command = x.command;
        places = x.places;
        slot_decodes_to = x.slot_decodes_to;
        means = older_by (λ e. MeansRequest port slot e.request x.command x.places) ready x.pending x.means x.means;
        stage = older_by (λ e. IsInSomeStage memory p port slot e x.command x.places) ready x.pending x.stage (stage_on x.pending (suc x.pending.age) x.command x.places x.stage);
      })
      (λ kept. record {
        pending = x.pending;
        may_still_move = inr kept;
        id_is = x.id_is;
        port_is = x.port_is;
        list_is_in_place = x.list_is_in_place;
        command = x.command;
        places = x.places;
        slot_decodes_to = x.slot_decodes_to;
        means = x.means;
        stage = x.stage;
      })
      x.may_still_move

-- ---- the server

module _ (laws : PrerequisiteLaws) (s : ServerState) where
  abbrev ready : Port → Bool
  ready port = is_ready (probe_result_of s.probe_results port.0)

  pub older_stands : (m : Machine) → MachineRelation s m → MachineRelation (a_tick_older s) (after_step m (Age ready))
  older_stands m is = record {
    uses = is.uses;
    slot_states_agree_unless_dead = is.slot_states_agree_unless_dead;
    awaiting_disposition = is.awaiting_disposition;
    only_dead_ports_park = is.only_dead_ports_park;
    driver_relation = laws.ages.aging_keeps_driver_relation (driver_state_of is.uses is.awaiting_disposition s.device) m ready is.driver_relation;
    book = laws.ages.aging_keeps_book_relation s.book m ready is.book;
    quarantine_relation = is.quarantine_relation;
    rows = is.rows;
    owner = is.owner;
    lent = is.lent;
    next_id_is = is.next_id_is;
  }

  -- who is in the book then was in it
  was_held : (e : BookEntry) → Contains (a_tick_older s).book e → (o : BookEntry) × Contains s.book o × (e ≡ record o { request = entries.aged_request ready o.request })
  was_held e here = map_in (λ (x : BookEntry). record x { request = entries.aged_request ready x.request }) s.book e here

  still_all : (P : BookEntry → Type 0) → ((e : BookEntry) (age : ℕ) → P e → P (record e { request = record (e.request) { age = age } })) → All P s.book → All P (a_tick_older s).book
  still_all P keeps all = All-map P (λ (x : BookEntry). record x { request = entries.aged_request ready x.request }) s.book
      (λ k d lt. entry_by (λ r. P (record (get_or s.book k d) { request = r })) ready (get_or s.book k d).request (all k d lt) (λ age. keeps (get_or s.book k d) age (all k d lt)))

  pub older_settled : InvariantWithNoneDue s → InvariantWithNoneDue (a_tick_older s)
  older_settled settled = record {
    in_call_invariant = record {
      adapter_is_on = k.adapter_is_on;
      driver_memory_fits = k.driver_memory_fits;
      served_ports_exist = k.served_ports_exist;
      port_invariant = k.port_invariant;
      slots_are_of_four_ports = k.slots_are_of_four_ports;
      modes_are_of_four_ports = k.modes_are_of_four_ports;
      remembered_is_of_four_ports = k.remembered_is_of_four_ports;
      kept_loans_are_of_four_ports = k.kept_loans_are_of_four_ports;
      at_most_32_loans_kept_by_port = k.at_most_32_loans_kept_by_port;
      modes_are_probed = k.modes_are_probed;
      slots_invariant = k.slots_invariant;
      slots_queue_as_asked = λ port slot used e its here id.
          let w = was_held e here in
          let same_id = ap (λ (x : BookEntry). x.request.id) w.2 ∙ entry_by (λ r. r.id ≡ w.0.request.id) ready w.0.request refl (λ age. refl) in
          let same_op = ap (λ (x : BookEntry). x.request.op) w.2 ∙ entry_by (λ r. r.op ≡ w.0.request.op) ready w.0.request refl (λ age. refl) in
          k.slots_queue_as_asked port slot used w.0 its w.1 (sym same_id ∙ id) ∙ ap (λ (op : Op). not (is_plain (mode_in s port) op)) (sym same_op);
      slots_store_commands = k.slots_store_commands;
      plain_is_alone_in_slot_0 = k.plain_is_alone_in_slot_0;
      rows_are_valid = k.rows_are_valid;
      owned_frames_are_clients = k.owned_frames_are_clients;
      entries_are_well_formed = laws.ages.aging_keeps_well_formed_entries s.table s.book ready k.entries_are_well_formed;
      book_is_well_formed = laws.ages.aging_keeps_well_formed_book s.book ready k.book_is_well_formed;
      revoked_marks_agree = still_all (RevokedMarkInvariant s.grants) (older_marked s.grants) k.revoked_marks_agree;
      ids_were_handed_out = still_all (λ e. e.request.id.0 ≤ s.last_id) (λ e age x. x) k.ids_were_handed_out;
      requests_are_of_ready_ports = still_all (λ e. state_of (probe_result_of s.probe_results e.request.port.0) ≡ ReadyState) (λ e age x. x) k.requests_are_of_ready_ports;
      machine = after_step k.machine (Age ready);
      reached = laws.steps_and_accesses.reachable_stays_reachable k.machine (Age ready ∷ []) k.reached (tt, tt);
      machine_relation = older_stands k.machine k.machine_relation;
    };
    none_is_due = λ port. subst (λ (us : List Unanswered). NoneDue (mode_in s port) us port) (sym (laws.ages.aging_keeps_unanswered s.book ready)) (settled.none_is_due port);
  }
    where
      k : InCallInvariant s
      k = settled.in_call_invariant
