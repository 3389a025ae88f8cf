-- A command ends.
use Rattle.std.proofs.Common.{ℕ, ◌++◌, ◌≡◌, ◌≢◌, ◌⊎◌, ◌<◌, Bool, true, false, not, ◌&&◌, [], ◌∷◌, length, Option, Some, None, refl, sym, ◌∙◌, ap, subst, arith, inl, inr, ⊎_elim, lt-ltb}
use Rattle.std.specs.Prelude.{if◌then◌else◌}
use Rattle.ata_types.specs.declared.request.Op.{Op}
use Rattle.ata_types.specs.declared.request.Op.TheVariants.{Read, Write, Trim, Flush}
use Rattle.ata_types.specs.declared.request.RequestId.{RequestId}
use Rattle.adapter.specs.Commands.{Meaning, is_queued}
use Rattle.adapter.specs.Memory.{bytes_at, changed}
use Rattle.adapter.specs.Device.{FetchedCommand, Device}
use Rattle.adapter.specs.Steps.{device_after, MayBeDone, IsFinished, port_after_done_except_lasting, port_with_lasting_after_operation, done_entry}
use Rattle.adapter.specs.Steps.DeviceTransition.{Done}
use Rattle.adapter.specs.declared.command.Operation.{Operation}
use Rattle.adapter.specs.declared.command.Operation.TheVariants as operation
use Rattle.adapter.proofs.Changed.{changed_same, changed_other}
use Rattle.block_machine.specs.State.{Pending, Machine}
use Rattle.block_machine.specs.Histories.{IsReachable}
use Rattle.block_machine.specs.Steps as machine
use Rattle.block_machine.specs.Steps.{AllTouched, after_step, mark_ended}
use Rattle.block_machine.proofs.Standing.{standing}
use Rattle.refinement.specs.MemoryLayout.{scratch_frame_address}
use Rattle.refinement.specs.Slots.{SlotState, Free, Own, Serves, SlotStates, MeansRequest, MeansRange, AreRequestPlaces, TouchedUpTo, TouchedAsMovedOrCleared, ServesRequest, PageCameSinceAndStandsInScratch, OwnAwaitsFetch, OwnIsTaken, OwnIsOverWithPageIfSt, ServesOwn, RelatesSlot, client_operation_of, Armed}
use Rattle.refinement.specs.Relation.{StateRelation, port_at}
use Rattle.refinement.specs.Tape.{TellsDone}
use Rattle.refinement.specs.Simulation.{SimulatesSteps}
use Rattle.refinement.proofs.relation.SlotRelation.{SameSlot, NoPort, placed_on, brought_on, known_on}
use Rattle.refinement.proofs.relation.TouchesAndEnds.{Goes, Goes-refl, end_goes, end_moves}
use Rattle.refinement.proofs.relation.LastingSectors.{gains_quiet, lasting_ended, lasting_ended_elsewhere, lasting_on, lasting_read}
use Rattle.refinement.proofs.relation.OneSlot.{acted, sectors_on, others_move}
use Rattle.refinement.proofs.relation.OtherSlots.{some_none, fixed_more, gains_one, plugged_kept}
use Rattle.refinement.proofs.steps.TakenCommand.{own_plain}
use Rattle.refinement.proofs.steps.MovedSector.{TakenAs, taken_as, means_taken, some_same}
use Rattle.refinement.proofs.steps.ClearedSectors.{length_consecutive}

-- both bits are clear afterwards
issued_clear : (queued st : Bool) (f : ℕ → Bool) (slot : ℕ) → f slot ≡ st && not queued → (if queued then f else changed f slot false) slot ≡ false
issued_clear true true f slot h = h
issued_clear true false f slot h = h
issued_clear false st f slot h = changed_same f slot false

sact_clear : (queued st : Bool) (f : ℕ → Bool) (slot : ℕ) → f slot ≡ st && queued → (if queued then changed f slot false else f) slot ≡ false
sact_clear false true f slot h = h
sact_clear false false f slot h = h
sact_clear true st f slot h = changed_same f slot false

pub own_clear : (queued : Bool) (f : ℕ → Bool) (slot : ℕ) → queued ≡ false → (if queued then f else changed f slot false) slot ≡ false
own_clear false f slot h = changed_same f slot false
own_clear true f slot h = absurd (let e : true ≡ false = h in cc)

own_kept : (queued : Bool) (f : ℕ → Bool) (slot : ℕ) → queued ≡ false → f slot ≡ false → (if queued then changed f slot false else f) slot ≡ false
own_kept false f slot h is = is
own_kept true f slot h is = absurd (let e : true ≡ false = h in cc)

issued_other : (queued : Bool) (f : ℕ → Bool) (slot k : ℕ) → k ≢ slot → (if queued then f else changed f slot false) k ≡ f k
issued_other true f slot k ne = refl
issued_other false f slot k ne = changed_other f slot false k ne

pub sact_other : (queued : Bool) (f : ℕ → Bool) (slot k : ℕ) → k ≢ slot → (if queued then changed f slot false else f) k ≡ f k
sact_other true f slot k ne = changed_other f slot false k ne
sact_other false f slot k ne = refl

-- only a trim's command does a trim
pub is_trim : (o : Operation) → client_operation_of o ≡ Some Trim → o ≡ operation.Trim
is_trim operation.Trim e = refl
is_trim operation.Read e = absurd cc
is_trim operation.ReadQueued e = absurd cc
is_trim operation.Write e = absurd cc
is_trim operation.WriteQueued e = absurd cc
is_trim operation.Flush e = absurd cc
is_trim operation.Identify e = absurd cc
is_trim operation.ReadLog e = absurd cc

upto_all : (f : ℕ → Bool) (n count : ℕ) → TouchedUpTo f n → n ≡ count → (i : ℕ) → i < count → f i ≡ true
upto_all f n count h e i lt = h i ∙ lt-ltb i n (omega (arith, e, lt))

-- all sectors of a finished command were touched
all_touched : (op : Op) (memory : ℕ → ℕ) (port : ℕ) (e : Pending) (t : FetchedCommand) → IsFinished t → client_operation_of t.meaning.operation ≡ Some op → AreRequestPlaces op port e.request t.places →
    (op ≡ Flush → e.request.asked.count ≡ 0) → TouchedAsMovedOrCleared op memory port e t → AllTouched e
all_touched Read memory port e t fin is places flush p = upto_all e.touched t.moved e.request.asked.count p (fin.all_is_moved ∙ places.0)
all_touched Write memory port e t fin is places flush p = upto_all e.touched t.moved e.request.asked.count p (fin.all_is_moved ∙ places.0)
all_touched Flush memory port e t fin is places flush p = λ i lt. absurd (let z : e.request.asked.count ≡ 0 = flush refl in omega (arith, z, lt))
all_touched Trim memory port e t fin is places flush p =
    upto_all e.touched t.cleared e.request.asked.count p.0 (fin.all_is_cleared (is_trim t.meaning.operation is) ∙ ap length range ∙ length_consecutive e.request.asked.first.0 e.request.asked.count)
  where
    one : t.moved ≡ 1
    one = fin.all_is_moved ∙ ap length places

    range : MeansRange t.block e.request
    range = ⊎_elim
        (λ (y : (t.moved ≡ 0) × (t.cleared ≡ 0) × MeansRange (bytes_at memory (scratch_frame_address port) 512) e.request). absurd (let z : t.moved ≡ 1 = one in omega (arith, z, y.0)))
        (λ (y : (t.moved ≡ 1) × MeansRange t.block e.request). y.1) p.1

module _ (uses : SlotStates) (m : Machine) (d : Device) (a : StateRelation uses m d) (reached : IsReachable m) (port slot flag : ℕ) (t : FetchedCommand) (can : MayBeDone d port slot flag t) where
  others_same : (k : ℕ) → k ≢ slot → SameSlot (d.port port) (port_with_lasting_after_operation (port_after_done_except_lasting (d.port port) slot flag t.meaning.operation) t.meaning.operation (length d.tape)) k
  others_same k ne = record {
    issued = issued_other (is_queued t.meaning.operation) (d.port port).ci slot k ne;
    sact = sact_other (is_queued t.meaning.operation) (d.port port).sact slot k ne;
    taken = changed_other (d.port port).taken slot _ k ne;
    st = refl;
    cr = refl;
    since = refl;
    list = refl;
  }

  end_serves : (id : RequestId) (u : uses port slot ≡ Serves id) (h : ServesRequest m d.memory (d.port port) port slot id) (x : TakenAs d.memory (d.port port) port slot h.pending h.command h.places t) → SimulatesSteps uses m d (device_after (Done port slot flag t) d)
  end_serves id u h x = record {
    steps = machine.End h.pending ∷ [];
    steps_are_enabled = (tt, (h.may_still_move, touched, ap m.present here_port ∙ (a.disks_are_same port).present ∙ can.works.working.present));
    disks_tell_sectors_is_same = refl;
    steps_are_faithful = λ _. (tt, tt);
    new_entries = _;
    tape_is = refl;
    tape_tells_steps = (
      machine.End h.pending ∷ [],
      [],
      subst (λ (w : Option Op). TellsDone w m (record { port = record { 0 = port }; slot = record { 0 = slot }; operation = t.meaning.operation }) (machine.End h.pending ∷ [])) (sym means.op_is)
          (record { pending = h.pending; may_still_move = h.may_still_move; port_is = here_port; op_is = refl; step_is = refl }),
      refl,
      refl,
    );
    plugged_disks_match_steps = plugged_kept d port _ (machine.End h.pending ∷ []) refl (λ _. refl);
    state_relation = acted NoPort uses m (after_step m (machine.End h.pending)) d a d.memory (d.tape ++ done_entry port slot t.meaning.operation ∷ []) port slot (port_with_lasting_after_operation (port_after_done_except_lasting (d.port port) slot flag t.meaning.operation) t.meaning.operation (length d.tape)) (record {
      id = h.pending.request.id;
      goes = end_goes m h.pending;
      moves = others_move uses m (after_step m (machine.End h.pending)) d a port slot id u (subst (λ (n : RequestId). Goes m (after_step m (machine.End h.pending)) n) h.id_is (end_goes m h.pending));
      only = λ q z. absurd z;
      fixed = fixed_more uses d.memory d.tape (done_entry port slot t.meaning.operation) (λ q o v z. z);
      others = others_same;
      here = subst (λ (v : SlotState). RelatesSlot (after_step m (machine.End h.pending)) d.memory (d.tape ++ done_entry port slot t.meaning.operation ∷ []) (port_with_lasting_after_operation (port_after_done_except_lasting (d.port port) slot flag t.meaning.operation) t.meaning.operation (length d.tape)) port slot v) (sym u)
          (record {
            pending = mark_ended h.pending;
            may_still_move = end_moves m h.pending h.may_still_move;
            id_is = h.id_is;
            port_is = h.port_is;
            list_is_in_place = placed_on (d.port port) _ port slot refl h.list_is_in_place;
            command = h.command;
            places = h.places;
            slot_decodes_to = h.slot_decodes_to;
            means = h.means;
            stage = inr (inr (inl (record {
              is_not_issued = issued_clear (is_queued t.meaning.operation) (d.port port).st (d.port port).ci slot (x.issued ∙ ap (λ (c : Meaning). (d.port port).st && not (is_queued c.operation)) (sym x.meaning));
              sact_is_clear = sact_clear (is_queued t.meaning.operation) (d.port port).st (d.port port).sact slot (x.sact ∙ ap (λ (c : Meaning). (d.port port).st && is_queued c.operation) (sym x.meaning));
              is_not_taken = changed_same (d.port port).taken slot _;
              ended = refl;
              touched = touched;
            })));
          });
      fre = refl;
      received_at = refl;
      present = refl;
      name = refl;
      size = refl;
      sectors = λ t'. sectors_on m (after_step m (machine.End h.pending)) (d.port port).disk port (λ k b lb. refl) (a.sectors_are_same_if_disks_tell t' port);
      other_sectors = λ t' q ne. sectors_on m (after_step m (machine.End h.pending)) (d.port q).disk q (λ k b lb. refl) (a.sectors_are_same_if_disks_tell t' q);
      lasting = λ t'. lasting_ended m h.pending d.tape (done_entry port slot t.meaning.operation) (λ _ _. refl) (port_after_done_except_lasting (d.port port) slot flag t.meaning.operation) port t.meaning.operation means.op_is (a.sectors_are_same_if_disks_tell t' port) (a.knows_replug_candidates_if_disks_tell t' port);
      other_lasting = λ t' q ne. lasting_ended_elsewhere m h.pending d.tape (done_entry port slot t.meaning.operation) (λ _ _. refl) (d.port q) port q h.port_is ne (a.knows_replug_candidates_if_disks_tell t' q);
      memory = a.client_frames_are_same;
    });
  }
    where
      means : MeansRequest port slot h.pending.request t.meaning t.places
      means = means_taken port slot h.pending.request h.command t.meaning h.places t.places x.meaning x.places_are h.means

      here_port : h.pending.request.port ≡ port_at port
      here_port = ap port_at h.port_is

      touched : AllTouched h.pending
      touched = all_touched h.pending.request.asked.op d.memory port h.pending t can.finished means.op_is means.places_are ((standing m reached).flush h.pending h.may_still_move) x.progress

  end_own : (o : Operation) (u : uses port slot ≡ Own o) (h : ServesOwn d.memory d.tape (d.port port) port slot o) (x : OwnIsTaken d.memory d.tape (d.port port) port slot h.command) → x.command ≡ t → SimulatesSteps uses m d (device_after (Done port slot flag t) d)
  end_own o u h x is = record {
    steps = [];
    steps_are_enabled = tt;
    disks_tell_sectors_is_same = refl;
    steps_are_faithful = λ _. tt;
    new_entries = _;
    tape_is = refl;
    tape_tells_steps = ([], [], subst (λ (w : Option Op). TellsDone w m (record { port = record { 0 = port }; slot = record { 0 = slot }; operation = t.meaning.operation }) []) (sym own) refl, refl, refl);
    plugged_disks_match_steps = plugged_kept d port _ [] refl (λ _. refl);
    state_relation = acted NoPort uses m m d a d.memory (d.tape ++ done_entry port slot t.meaning.operation ∷ []) port slot (port_with_lasting_after_operation (port_after_done_except_lasting (d.port port) slot flag t.meaning.operation) t.meaning.operation (length d.tape)) (record {
      id = record { 0 = 0 };
      goes = Goes-refl m (record { 0 = 0 });
      moves = λ port' slot' id' v ne y is r. r;
      only = λ q z. absurd z;
      fixed = fixed_more uses d.memory d.tape (done_entry port slot t.meaning.operation) (λ q o v z. z);
      others = others_same;
      here = subst (λ (v : SlotState). RelatesSlot m d.memory (d.tape ++ done_entry port slot t.meaning.operation ∷ []) (port_with_lasting_after_operation (port_after_done_except_lasting (d.port port) slot flag t.meaning.operation) t.meaning.operation (length d.tape)) port slot v) (sym u)
          (record {
            operation_is_drivers_own = h.operation_is_drivers_own;
            slot_is_0 = h.slot_is_0;
            list_is_in_place = placed_on (d.port port) _ port slot refl h.list_is_in_place;
            command = h.command;
            operation_is = h.operation_is;
            slot_decodes_to = h.slot_decodes_to;
            unqueued = own_kept (is_queued t.meaning.operation) (d.port port).sact slot (own_plain t.meaning.operation own) h.unqueued;
            st_set_is_on_tape = known_on d.tape (done_entry port slot t.meaning.operation ∷ []) (d.port port).notes.st_set_at h.st_set_is_on_tape;
            stage = inr (inr (record {
              over = record { is_not_issued = own_clear (is_queued t.meaning.operation) (d.port port).ci slot (own_plain t.meaning.operation own); is_not_taken = changed_same (d.port port).taken slot _ };
              page_stands_in_scratch_if_st = inr brought;
            }));
          });
      fre = refl;
      received_at = refl;
      present = refl;
      name = refl;
      size = refl;
      sectors = λ t'. a.sectors_are_same_if_disks_tell t' port;
      other_sectors = λ t' q ne. a.sectors_are_same_if_disks_tell t' q;
      lasting = λ t'. lasting_read m d.tape (done_entry port slot t.meaning.operation) (port_after_done_except_lasting (d.port port) slot flag t.meaning.operation) port t.meaning.operation (λ _ _. refl) own (a.knows_replug_candidates_if_disks_tell t' port);
      other_lasting = λ t' q ne. lasting_on m m d.tape _ (d.port q) (d.port q) q refl refl (λ _ _ held. held) (gains_quiet d.tape (done_entry port slot t.meaning.operation) m q (λ _ _. refl)) (a.knows_replug_candidates_if_disks_tell t' q);
      memory = a.client_frames_are_same;
    });
  }
    where
      own : client_operation_of t.meaning.operation ≡ None
      own = ap (λ (y : FetchedCommand). client_operation_of y.meaning.operation) (sym is) ∙ ap (λ (c : Meaning). client_operation_of c.operation) x.meaning ∙ ap client_operation_of h.operation_is ∙ h.operation_is_drivers_own

      -- all was moved: its page
      moved : t.moved ≡ 1
      moved = can.finished.all_is_moved ∙ ap (λ (y : FetchedCommand). length y.places) (sym is) ∙ ap length x.places_are

      brought : PageCameSinceAndStandsInScratch d.memory (d.tape ++ done_entry port slot t.meaning.operation ∷ []) port h.command.operation (d.port port).notes.st_set_at
      brought = ⊎_elim
          (λ (z : x.command.moved ≡ 0). absurd (let e : t.moved ≡ x.command.moved = ap (λ (y : FetchedCommand). y.moved) (sym is) in let n = moved in omega (arith, e, z, n)))
          (λ (b : (x.command.moved ≡ 1) × PageCameSinceAndStandsInScratch d.memory d.tape port h.command.operation (d.port port).notes.st_set_at).
          brought_on d.memory d.memory d.tape (d.tape ++ done_entry port slot t.meaning.operation ∷ []) port h.command.operation (d.port port).notes.st_set_at (d.port port).notes.st_set_at (λ at here. refl) (gains_one d.tape (done_entry port slot t.meaning.operation) port h.command.operation (λ z. z)) refl b.1)
          x.page_stands_in_scratch_if_moved

  pub end_follows : SimulatesSteps uses m d (device_after (Done port slot flag t) d)
  end_follows = by (uses port slot) refl (a.relates_slots port slot)
    where
      by : (v : SlotState) → uses port slot ≡ v → RelatesSlot m d.memory d.tape (d.port port) port slot v → SimulatesSteps uses m d (device_after (Done port slot flag t) d)
      by Free u h = some_none can.works.taken h.is_not_taken
      by Armed u h = some_none can.works.taken h.is_not_taken
      by (Own o) u h = own h.stage
        where
          own : OwnAwaitsFetch (d.port port) slot ⊎ (OwnIsTaken d.memory d.tape (d.port port) port slot h.command ⊎ OwnIsOverWithPageIfSt d.memory d.tape (d.port port) port slot h.command) → SimulatesSteps uses m d (device_after (Done port slot flag t) d)
          own (inl x) = some_none can.works.taken x.is_not_taken
          own (inr (inl x)) = end_own o u h x (some_same (sym x.taken ∙ can.works.taken))
          own (inr (inr x)) = some_none can.works.taken x.over.is_not_taken
      by (Serves id) u h = end_serves id u h (taken_as d.memory (d.port port) port slot h.pending h.command h.places t can.works.taken h.stage)
