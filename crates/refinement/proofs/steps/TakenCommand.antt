-- The device takes a command.
use Rattle.std.proofs.Common.{ℕ, ◌≡◌, ◌≢◌, ◌⊎◌, Bool, true, false, not, ◌&&◌, List, [], ◌∷◌, Some, None, refl, sym, ◌∙◌, ap, inl, inr, append-nil, if◌then◌else◌}
use Rattle.ata_types.specs.declared.request.Op.{Op}
use Rattle.ata_types.specs.declared.request.Op.TheVariants.{Read, Write, Trim, Flush}
use Rattle.adapter.specs.Commands.{Meaning, is_queued}
use Rattle.adapter.specs.Memory.{changed}
use Rattle.adapter.specs.Device.{Device}
use Rattle.adapter.specs.Decoding.{DecodesTo}
use Rattle.adapter.specs.Steps.{device_after, IsFetchable, MayFetch, MayFetchFault, port_after_fetch, newly_fetched}
use Rattle.adapter.specs.Steps.DeviceTransition.{Fetch}
use Rattle.adapter.specs.declared.command.Operation.{Operation}
use Rattle.adapter.specs.declared.command.Operation.TheVariants as operation
use Rattle.adapter.proofs.Changed.{changed_same, changed_other}
use Rattle.adapter.proofs.SaysLemmas.{says_meaning, says_places}
use Rattle.block_machine.specs.State.{Pending, Machine}
use Rattle.refinement.specs.MemoryLayout.{scratch_frame_address}
use Rattle.refinement.specs.Slots.{SlotState, Free, Own, Serves, SlotStates, TouchedAsMovedOrCleared, HasBlockIfTrim, TouchedUpTo, IsInSomeStage, OwnAwaitsFetch, OwnIsTaken, OwnIsOverWithPageIfSt, RelatesSlot, client_operation_of, Armed}
use Rattle.refinement.specs.Relation.{StateRelation}
use Rattle.refinement.specs.Simulation.{SimulatesSteps}
use Rattle.refinement.proofs.relation.SlotRelation.{SameFixed-refl, NoPort, placed_on}
use Rattle.refinement.proofs.relation.TouchesAndEnds.{Goes-refl}
use Rattle.refinement.proofs.relation.OneSlot.{acted}
use Rattle.refinement.proofs.relation.OtherSlots.{some_none, true_false, plugged_kept}

pub none_op : {A : Type 0} {o : Op} → None ≡ Some o → A
none_op e = absurd cc

-- none of the driver's own commands is queued
pub own_plain : (o : Operation) → client_operation_of o ≡ None → is_queued o ≡ false
own_plain operation.Identify e = refl
own_plain operation.ReadLog e = refl
own_plain operation.Flush e = refl
own_plain operation.Trim e = refl
own_plain operation.Read e = none_op (sym e)
own_plain operation.Write e = none_op (sym e)
own_plain operation.ReadQueued e = none_op (sym e)
own_plain operation.WriteQueued e = none_op (sym e)

-- a bit that falls, or stays
fallen_if : (b : Bool) (f : ℕ → Bool) (slot : ℕ) → f slot ≡ true → (if b then changed f slot false else f) slot ≡ not b
fallen_if true f slot h = changed_same f slot false
fallen_if false f slot h = h

other_if : (b : Bool) (f : ℕ → Bool) (slot k : ℕ) → k ≢ slot → (if b then changed f slot false else f) k ≡ f k
other_if true f slot k ne = changed_other f slot false k ne
other_if false f slot k ne = refl

-- nothing moved yet
started : (op : Op) (memory : ℕ → ℕ) (port : ℕ) (e : Pending) (c : Meaning) (places : List ℕ) → HasBlockIfTrim op memory port e.request → TouchedUpTo e.touched 0 →
    TouchedAsMovedOrCleared op memory port e (newly_fetched c places)
started Read memory port e c places block none = none
started Write memory port e c places block none = none
started Trim memory port e c places block none = (none, inl (refl, refl, block))
started Flush memory port e c places block none = tt

module _ (uses : SlotStates) (m : Machine) (d : Device) (a : StateRelation uses m d) (port slot : ℕ) where
  -- what waits there says a command
  waiting : (u : SlotState) → RelatesSlot m d.memory d.tape (d.port port) port slot u → IsFetchable (d.port port) slot → (c : Meaning) × (places : List ℕ) × DecodesTo d.memory (d.port port).bases.clb slot c places
  waiting Free h w = true_false w.issued h.is_not_issued
  waiting Armed h w = true_false w.issued h.is_not_issued
  waiting (Own o) h w = (h.command, scratch_frame_address port ∷ [], h.slot_decodes_to.decodes_to)
  waiting (Serves id) h w = (h.command, h.places, h.slot_decodes_to.decodes_to)

  -- no issued command is refused for its bytes
  pub never_refused : (kept_bits : ℕ) {A : Type 0} → MayFetchFault d port slot kept_bits → A
  never_refused kept_bits can =
      let w = waiting (uses port slot) (a.relates_slots port slot) can.fetchable in absurd (can.says_nothing w.0 w.1 w.2)

  module _ (c : Meaning) (places : List ℕ) (can : MayFetch d port slot c places) where
    fetch_slot : (u : SlotState) → RelatesSlot m d.memory d.tape (d.port port) port slot u → RelatesSlot m d.memory d.tape (port_after_fetch (d.port port) slot c places) port slot u
    fetch_slot Free h = true_false can.fetchable.issued h.is_not_issued
    fetch_slot Armed h = true_false can.fetchable.issued h.is_not_issued
    fetch_slot (Own o) h = record {
      operation_is_drivers_own = h.operation_is_drivers_own;
      slot_is_0 = h.slot_is_0;
      list_is_in_place = placed_on (d.port port) _ port slot refl h.list_is_in_place;
      command = h.command;
      operation_is = h.operation_is;
      slot_decodes_to = h.slot_decodes_to;
      unqueued = h.unqueued;
      st_set_is_on_tape = h.st_set_is_on_tape;
      stage = own h.stage;
    }
      where
        same : c ≡ h.command
        same = says_meaning d.memory (d.port port).bases.clb slot c h.command places (scratch_frame_address port ∷ []) can.says h.slot_decodes_to.decodes_to

        plain : is_queued c.operation ≡ false
        plain = own_plain c.operation (ap (λ (x : Meaning). client_operation_of x.operation) same ∙ ap client_operation_of h.operation_is ∙ h.operation_is_drivers_own)

        own : OwnAwaitsFetch (d.port port) slot ⊎ (OwnIsTaken d.memory d.tape (d.port port) port slot h.command ⊎ OwnIsOverWithPageIfSt d.memory d.tape (d.port port) port slot h.command)
            → OwnAwaitsFetch (port_after_fetch (d.port port) slot c places) slot ⊎ (OwnIsTaken d.memory d.tape (port_after_fetch (d.port port) slot c places) port slot h.command ⊎ OwnIsOverWithPageIfSt d.memory d.tape (port_after_fetch (d.port port) slot c places) port slot h.command)
        own (inl x) =
            inr (inl (record {
              command = _;
              taken = changed_same (d.port port).taken slot _;
              meaning = same;
              places_are = says_places d.memory (d.port port).bases.clb slot c h.command places (scratch_frame_address port ∷ []) can.says h.slot_decodes_to.decodes_to;
              running = can.working.cr_is_set;
              issued = fallen_if (is_queued c.operation) (d.port port).ci slot can.fetchable.issued ∙ ap not plain ∙ sym can.fetchable.st_is_set;
              page_stands_in_scratch_if_moved = inl refl;
            }))
        own (inr (inl x)) = some_none x.taken can.fetchable.free
        own (inr (inr x)) = true_false can.fetchable.issued x.over.is_not_issued
    fetch_slot (Serves id) h = record {
      pending = h.pending;
      may_still_move = h.may_still_move;
      id_is = h.id_is;
      port_is = h.port_is;
      list_is_in_place = placed_on (d.port port) _ port slot refl h.list_is_in_place;
      command = h.command;
      places = h.places;
      slot_decodes_to = h.slot_decodes_to;
      means = h.means;
      stage = of h.stage;
    }
      where
        same : c ≡ h.command
        same = says_meaning d.memory (d.port port).bases.clb slot c h.command places h.places can.says h.slot_decodes_to.decodes_to

        queued : is_queued c.operation ≡ is_queued h.command.operation
        queued = ap (λ (x : Meaning). is_queued x.operation) same

        of : IsInSomeStage d.memory (d.port port) port slot h.pending h.command h.places → IsInSomeStage d.memory (port_after_fetch (d.port port) slot c places) port slot h.pending h.command h.places
        of (inl x) =
            inr (inl (record {
              command = _;
              taken = changed_same (d.port port).taken slot _;
              meaning = same;
              places_are = says_places d.memory (d.port port).bases.clb slot c h.command places h.places can.says h.slot_decodes_to.decodes_to;
              running = can.working.cr_is_set;
              ci_is_set_iff_st_and_plain = fallen_if (is_queued c.operation) (d.port port).ci slot can.fetchable.issued ∙ ap not queued ∙ ap (λ (st : Bool). st && not (is_queued h.command.operation)) (sym can.fetchable.st_is_set);
              sact = x.sact ∙ ap (λ (st : Bool). st && is_queued h.command.operation) (sym can.fetchable.st_is_set);
              progress = started h.pending.request.asked.op d.memory port h.pending c places x.has_block_if_trim x.untouched;
              unended = x.unended;
            }))
        of (inr (inl x)) = some_none x.taken can.fetchable.free
        of (inr (inr (inl x))) = true_false can.fetchable.issued x.is_not_issued
        of (inr (inr (inr x))) = true_false can.fetchable.issued x.is_not_issued

    pub fetch_follows : SimulatesSteps uses m d (device_after (Fetch port slot c places) d)
    fetch_follows = record {
      steps = [];
      steps_are_enabled = tt;
      disks_tell_sectors_is_same = refl;
      steps_are_faithful = λ _. tt;
      new_entries = [];
      tape_is = sym (append-nil d.tape);
      tape_tells_steps = refl;
      plugged_disks_match_steps = plugged_kept d port _ [] refl (λ _. refl);
      state_relation = acted NoPort uses m m d a d.memory d.tape port slot (port_after_fetch (d.port port) slot c places) (record {
        id = record { 0 = 0 };
        goes = Goes-refl m (record { 0 = 0 });
        moves = λ port' slot' id' u ne e is r. r;
        only = λ q x. absurd x;
        fixed = SameFixed-refl uses d.memory d.tape;
        others = λ k ne. record {
          issued = other_if (is_queued c.operation) (d.port port).ci slot k ne;
          sact = refl;
          taken = changed_other (d.port port).taken slot _ k ne;
          st = refl;
          cr = refl;
          since = refl;
          list = refl;
        };
        here = fetch_slot (uses port slot) (a.relates_slots port slot);
        fre = refl;
        received_at = refl;
        present = refl;
        name = refl;
        size = refl;
        sectors = λ t. a.sectors_are_same_if_disks_tell t port;
        other_sectors = λ t q ne. a.sectors_are_same_if_disks_tell t q;
        lasting = λ t. a.knows_replug_candidates_if_disks_tell t port;
        other_lasting = λ t q ne. a.knows_replug_candidates_if_disks_tell t q;
        memory = a.client_frames_are_same;
      });
    }
