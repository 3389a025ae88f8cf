-- Steps that no slot's request takes part in.
use Rattle.ata_types.specs.declared.memory.TheConstants.{DRIVER_BYTES}
use Rattle.std.proofs.Common.{ℕ, zero, suc, ◌≡◌, ◌⊎◌, ◌<◌, ◌≤◌, ◌+◌, ◌*◌, ◌++◌, ◌==◌, Bool, true, false, not, ◌&&◌, List, [], ◌∷◌, length, slice_index, Option, Some, None, refl, sym, ◌∙◌, ap, subst, arith, inl, inr, ⊎_elim, append-nil, eq-eqb, ne_eqb}
use Rattle.std.specs.Prelude.{All}
use Rattle.std.proofs.lemmas.Bool.{cond-true, cond-false}
use Rattle.adapter.specs.Memory.{patched, changed}
use Rattle.adapter.specs.Commands.{is_queued}
use Rattle.adapter.specs.Device as device
use Rattle.adapter.specs.Device.{HasKnownSectors, DurableState, FetchedCommand, DevicePort, Device}
use Rattle.adapter.specs.Steps.{device_after, MayScribble, port_after_hba_reset, IsReplugOf, WereHeldSinceFlush, lasting_after_plug_or_replug}
use Rattle.adapter.specs.Steps.DeviceTransition.{Fault, Fatal, Fall, FrFall, LinkUp, Unplug, Plug, ResetEnds, Scribble}
use Rattle.adapter.specs.declared.command.Operation.{Operation}
use Rattle.adapter.specs.declared.tape.Entry.{Entry}
use Rattle.adapter.specs.declared.tape.Entry.TheVariants as entry
use Rattle.block_machine.specs.State.{DiskBytes, Machine}
use Rattle.block_machine.specs.Steps as machine
use Rattle.block_machine.specs.Steps.{HoldsOrHeldSinceFlush, after_step}
use Rattle.adapter.specs.OneCommand.{SlotHasNoCommand}
use Rattle.refinement.specs.Slots.{SlotState, Free, Own, Serves, SlotStates, IsInSomeStage, IsMove, OwnAwaitsFetch, OwnIsTaken, OwnIsOverWithPageIfSt, HasListInPlace, RelatesSlot, Armed}
use Rattle.refinement.specs.Relation.{StateRelation, port_at, IsDiskOf, SameSectors, KnowsAllReplugCandidates, HasReceivedArea}
use Rattle.refinement.specs.Tape.{PortPlugsPutInDisks}
use Rattle.refinement.specs.Simulation.{SimulatesSteps}
use Rattle.refinement.proofs.relation.SlotRelation.{SameSlot, SameSlot-refl, GainsNone, SameFixed, SameFixed-refl, NoPort, slot_on, slots_quiet, placed_on}
use Rattle.refinement.proofs.relation.LastingSectors.{Gains, disk_of, gains_none, gains_quiet, lasting_on, lasting_put_in, lasting_put_elsewhere}
use Rattle.refinement.proofs.relation.OneSlot.{changed_at, sectors_on, memory_low}
use Rattle.refinement.proofs.relation.WrittenBytes.{MayChange, fixed_stays}

pub some_none : {A : Type 0} {t : FetchedCommand} {o : Option FetchedCommand} → o ≡ Some t → o ≡ None → A
some_none {A} {t} h k = absurd (let e : Some t ≡ None = sym h ∙ k in cc)

pub true_false : {A : Type 0} {b : Bool} → b ≡ true → b ≡ false → A
true_false h k = absurd (let e : true ≡ false = sym h ∙ k in cc)

-- one more entry, no move of the port's by such a command
pub gains_one : (tape : List Entry) (e : Entry) (port : ℕ) (o : Operation) → (IsMove port o e → ⊥) → GainsNone tape (tape ++ e ∷ []) port o
gains_one tape e port o none = record { new_entries = e ∷ []; is = refl; none = only }
  where
    only : All (λ x. IsMove port o x → ⊥) (e ∷ [])
    only zero d lt = none
    only (suc k) d lt = absurd (omega (arith, lt))

pub fixed_more : (uses : SlotStates) (memory : ℕ → ℕ) (tape : List Entry) (e : Entry) → ((port : ℕ) (o : Operation) → uses port 0 ≡ Own o → IsMove port o e → ⊥) →
    SameFixed NoPort uses memory memory tape (tape ++ e ∷ [])
fixed_more uses memory tape e none = record {
  tables = λ port slot used a b x y. refl;
  scratch = λ port used out below x y. refl;
  gains = λ port o u out. gains_one tape e port o (none port o u);
}

-- no disk was put in
pub none_put : (old new : Device) (steps : List machine.Step) → ((q : ℕ) → (new.port q).plug_history ≡ (old.port q).plug_history) → ((q : ℕ) → PortPlugsPutInDisks q [] steps) →
    (port : ℕ) → (disks : List device.Disk) × ((new.port port).plug_history ≡ (old.port port).plug_history ++ disks) × PortPlugsPutInDisks port disks steps
none_put old new steps same puts port = ([], same port ∙ sym (append-nil (old.port port).plug_history), puts port)

pub same_plugged : (d : Device) (port : ℕ) (new : DevicePort) → new.plug_history ≡ (d.port port).plug_history → (q : ℕ) → (changed d.port port new q).plug_history ≡ (d.port q).plug_history
same_plugged d port new same = changed_at d.port port new (λ q p. p.plug_history ≡ (d.port q).plug_history) same (λ q _. refl)

pub plugged_kept : (d : Device) (port : ℕ) (new : DevicePort) (steps : List machine.Step) → new.plug_history ≡ (d.port port).plug_history → ((q : ℕ) → PortPlugsPutInDisks q [] steps) →
    (q : ℕ) → (disks : List device.Disk) × ((changed d.port port new q).plug_history ≡ (d.port q).plug_history ++ disks) × PortPlugsPutInDisks q disks steps
plugged_kept d port new steps same puts q = ([], same_plugged d port new same q ∙ sym (append-nil (d.port q).plug_history), puts q)

-- a port that looks the same to its slots, with its disk
pub record QuietPort (p new : DevicePort) : Type 0 where
  pub slots : (k : ℕ) → SameSlot p new k
  pub fre : new.fre ≡ p.fre
  pub received_at : new.bases.fb ≡ p.bases.fb
  pub present : new.present ≡ p.present
  pub disk : disk_of new ≡ disk_of p

module _ (uses : SlotStates) (m : Machine) (d : Device) (a : StateRelation uses m d) where
  pub empty_port : (port : ℕ) (new : DevicePort) (later : List Entry) → SameFixed NoPort uses d.memory d.memory d.tape later → ((q : ℕ) → Gains d.tape later m q) → QuietPort (d.port port) new →
      StateRelation uses m (record d { port = changed d.port port new; tape = later })
  empty_port port new later fixed gains q = record {
    relates_slots = slots_quiet uses m m d a d.memory later fixed port new q.slots (λ id e _ r. r);
    serve_distinct_requests = a.serve_distinct_requests;
    received_areas_in_use_are_placed = changed_at d.port port new (λ k p. p.fre ≡ true → HasReceivedArea p k)
        (λ f. let r = a.received_areas_in_use_are_placed port (sym q.fre ∙ f) in record { port_is_below_4 = r.port_is_below_4; area_is_in_place = q.received_at ∙ r.area_is_in_place }) (λ k _. a.received_areas_in_use_are_placed k);
    disks_are_same = changed_at d.port port new (λ k p. IsDiskOf m p k)
        (record {
          present = (a.disks_are_same port).present ∙ sym q.present;
          id = (a.disks_are_same port).id ∙ ap (λ (x : device.Disk × DurableState). x.0.name) (sym q.disk);
          sector_count = (a.disks_are_same port).sector_count ∙ ap (λ (x : device.Disk × DurableState). x.0.sector_count) (sym q.disk);
        })
        (λ k _. a.disks_are_same k);
    client_frames_are_same = a.client_frames_are_same;
    sectors_are_same_if_disks_tell = λ t. changed_at d.port port new (λ k p. SameSectors m p.disk k) (subst (λ (x : device.Disk × DurableState). SameSectors m x.0 port) (sym q.disk) (a.sectors_are_same_if_disks_tell t port)) (λ k _. a.sectors_are_same_if_disks_tell t k);
    knows_replug_candidates_if_disks_tell = λ t. changed_at d.port port new (λ k p. KnowsAllReplugCandidates m later p k)
        (lasting_on m m d.tape later (d.port port) new port (ap (λ (x : device.Disk × DurableState). x.1) q.disk) (ap (λ (x : device.Disk × DurableState). x.0.sector_count) q.disk) (λ _ _ h. h) (gains port) (a.knows_replug_candidates_if_disks_tell t port))
        (λ k _. lasting_on m m d.tape later (d.port k) (d.port k) k refl refl (λ _ _ h. h) (gains k) (a.knows_replug_candidates_if_disks_tell t k));
  }

  -- no entry
  pub silent : (new : Device) → new.disks_tell_sectors ≡ d.disks_tell_sectors → new.tape ≡ d.tape → ((q : ℕ) → (new.port q).plug_history ≡ (d.port q).plug_history) → StateRelation uses m new → SimulatesSteps uses m d new
  silent new disks_tell_sectors tape plugged agrees = record {
    steps = [];
    steps_are_enabled = tt;
    disks_tell_sectors_is_same = disks_tell_sectors;
    steps_are_faithful = λ _. tt;
    new_entries = [];
    tape_is = tape ∙ sym (append-nil d.tape);
    tape_tells_steps = refl;
    plugged_disks_match_steps = none_put d new [] plugged (λ _. refl);
    state_relation = agrees;
  }

  pub fault_follows : (port slot error kept_bits : ℕ) (t : FetchedCommand) → SimulatesSteps uses m d (device_after (Fault port slot error kept_bits t) d)
  fault_follows port slot error kept_bits t = record {
    steps = [];
    steps_are_enabled = tt;
    disks_tell_sectors_is_same = refl;
    steps_are_faithful = λ _. tt;
    new_entries = _;
    tape_is = refl;
    tape_tells_steps = ([], [], refl, refl, refl);
    plugged_disks_match_steps = plugged_kept d port _ [] refl (λ _. refl);
    state_relation = empty_port port _ _ (fixed_more uses d.memory d.tape _ (λ q o u x. x)) (λ q. gains_quiet d.tape _ m q (λ _ _. refl))
        (record { slots = λ k. record { issued = refl; sact = refl; taken = refl; st = refl; cr = refl; since = refl; list = refl }; fre = refl; received_at = refl; present = refl; disk = refl });
  }

  pub fatal_follows : (port place : ℕ) → SimulatesSteps uses m d (device_after (Fatal port place) d)
  fatal_follows port place = record {
    steps = [];
    steps_are_enabled = tt;
    disks_tell_sectors_is_same = refl;
    steps_are_faithful = λ _. tt;
    new_entries = _;
    tape_is = refl;
    tape_tells_steps = ([], [], refl, refl, refl);
    plugged_disks_match_steps = plugged_kept d port _ [] refl (λ _. refl);
    state_relation = empty_port port _ _ (fixed_more uses d.memory d.tape _ (λ q o u x. x)) (λ q. gains_quiet d.tape _ m q (λ _ _. refl))
        (record { slots = λ k. record { issued = refl; sact = refl; taken = refl; st = refl; cr = refl; since = refl; list = refl }; fre = refl; received_at = refl; present = refl; disk = refl });
  }

  pub fr_fall_follows : (port : ℕ) → SimulatesSteps uses m d (device_after (FrFall port) d)
  fr_fall_follows port =
      silent _ refl refl (same_plugged d port _ refl) (empty_port port _ d.tape (SameFixed-refl uses d.memory d.tape) (gains_none d.tape m)
      (record { slots = λ k. record { issued = refl; sact = refl; taken = refl; st = refl; cr = refl; since = refl; list = refl }; fre = refl; received_at = refl; present = refl; disk = refl }))

  pub link_up_follows : (port sig : ℕ) (n : Bool) → SimulatesSteps uses m d (device_after (LinkUp port sig n) d)
  link_up_follows port sig n =
      silent _ refl refl (same_plugged d port _ refl) (empty_port port _ d.tape (SameFixed-refl uses d.memory d.tape) (gains_none d.tape m)
      (record { slots = λ k. record { issued = refl; sact = refl; taken = refl; st = refl; cr = refl; since = refl; list = refl }; fre = refl; received_at = refl; present = refl; disk = refl }))

  -- ---- bytes outside everything

  pub scribble_may : (port slot at : ℕ) (bytes : List ℕ) → MayScribble (d.port port) slot at bytes → MayChange NoPort at (length bytes) × (at + length bytes ≤ DRIVER_BYTES)
  scribble_may port slot at bytes s = ⊎_elim received counted s.place
    where
      received : (((d.port port).bases.fb ≤ at) × (at + length bytes ≤ (d.port port).bases.fb + 256)) → MayChange NoPort at (length bytes) × (at + length bytes ≤ DRIVER_BYTES)
      received x =
          let r = a.received_areas_in_use_are_placed port s.fre_is_set in
          (inl (record { port = port; below = r.port_is_below_4; from = omega (arith, r.area_is_in_place, x.0); to = omega (arith, r.area_is_in_place, x.1) }), omega (arith, r.area_is_in_place, x.1, r.port_is_below_4))

      placed_count : HasListInPlace (d.port port) port slot → at ≡ (d.port port).bases.clb + 32 * slot + 4 → length bytes ≡ 4 → MayChange NoPort at (length bytes) × (at + length bytes ≤ DRIVER_BYTES)
      placed_count w here size =
          (inr (inl (record { port = port; slot = slot; below = w.port_below; slot_below = w.slot_below; here = omega (arith, here, w.list); size = size })), omega (arith, here, size, w.list, w.port_below, w.slot_below))

      use_placed : (u : SlotState) → RelatesSlot m d.memory d.tape (d.port port) port slot u → (t : FetchedCommand) → (d.port port).taken slot ≡ Some t → HasListInPlace (d.port port) port slot
      use_placed Free h t e = some_none e h.is_not_taken
      use_placed Armed h t e = some_none e h.is_not_taken
      use_placed (Own o) h t e = h.list_is_in_place
      use_placed (Serves id) h t e = h.list_is_in_place

      counted : ((t : FetchedCommand) × ((d.port port).taken slot ≡ Some t) × (at ≡ (d.port port).bases.clb + 32 * slot + 4) × (length bytes ≡ 4)) → MayChange NoPort at (length bytes) × (at + length bytes ≤ DRIVER_BYTES)
      counted x = placed_count (use_placed (uses port slot) (a.relates_slots port slot) x.0 x.1) x.2 x.3

  pub scribble_follows : (port slot at : ℕ) (bytes : List ℕ) → MayScribble (d.port port) slot at bytes → SimulatesSteps uses m d (device_after (Scribble port slot at bytes) d)
  scribble_follows port slot at bytes s =
      let may = scribble_may port slot at bytes s in
      let fixed : SameFixed NoPort uses d.memory (patched d.memory at bytes) d.tape d.tape =
      fixed_stays NoPort uses d.memory at bytes d.tape d.tape may.0 (λ q o u out. (SameFixed-refl uses d.memory d.tape).gains q o u out) in
      silent _ refl refl (λ q. refl) (record {
        relates_slots = λ q k. slot_on NoPort uses m m d a (patched d.memory at bytes) d.tape fixed q k (d.port q) (SameSlot-refl (d.port q) k) (λ _ x. x) (λ id u e _ r. r);
        serve_distinct_requests = a.serve_distinct_requests;
        received_areas_in_use_are_placed = a.received_areas_in_use_are_placed;
        disks_are_same = a.disks_are_same;
        client_frames_are_same = memory_low m d.memory at bytes may.1 a.client_frames_are_same;
        sectors_are_same_if_disks_tell = a.sectors_are_same_if_disks_tell;
        knows_replug_candidates_if_disks_tell = a.knows_replug_candidates_if_disks_tell;
      })

  -- ---- the engine stops

  placed_same : (port k : ℕ) (new : DevicePort) → new.bases.clb ≡ (d.port port).bases.clb → HasListInPlace (d.port port) port k → HasListInPlace new port k
  placed_same port k new same h = placed_on (d.port port) new port k same h

  fall_slot : (port k : ℕ) (u : SlotState) → (d.port port).st ≡ false → RelatesSlot m d.memory d.tape (d.port port) port k u → RelatesSlot m d.memory d.tape (record (d.port port) { cr = false; taken = λ _. None }) port k u
  fall_slot port k Free st h = record { is_not_issued = h.is_not_issued; is_not_taken = refl; unarmed = h.unarmed }
  fall_slot port k Armed st h = record { is_not_issued = h.is_not_issued; is_not_taken = refl; armed = h.armed }
  fall_slot port k (Own o) st h = record {
    operation_is_drivers_own = h.operation_is_drivers_own;
    slot_is_0 = h.slot_is_0;
    list_is_in_place = placed_same port k _ refl h.list_is_in_place;
    command = h.command;
    operation_is = h.operation_is;
    slot_decodes_to = h.slot_decodes_to;
    unqueued = h.unqueued;
    st_set_is_on_tape = h.st_set_is_on_tape;
    stage = inr (inr (record { over = over h.stage; page_stands_in_scratch_if_st = inl st }));
  }
    where
      over : OwnAwaitsFetch (d.port port) k ⊎ (OwnIsTaken d.memory d.tape (d.port port) port k h.command ⊎ OwnIsOverWithPageIfSt d.memory d.tape (d.port port) port k h.command) → SlotHasNoCommand (record (d.port port) { cr = false; taken = λ _. None }) k
      over (inl w) = true_false w.started st
      over (inr (inl t)) = record { is_not_issued = t.issued ∙ st; is_not_taken = refl }
      over (inr (inr o)) = record { is_not_issued = o.over.is_not_issued; is_not_taken = refl }
  fall_slot port k (Serves id) st h = record {
    pending = h.pending;
    may_still_move = h.may_still_move;
    id_is = h.id_is;
    port_is = h.port_is;
    list_is_in_place = placed_same port k _ refl h.list_is_in_place;
    command = h.command;
    places = h.places;
    slot_decodes_to = h.slot_decodes_to;
    means = h.means;
    stage = stage h.stage;
  }
    where
      stage : IsInSomeStage d.memory (d.port port) port k h.pending h.command h.places → IsInSomeStage d.memory (record (d.port port) { cr = false; taken = λ _. None }) port k h.pending h.command h.places
      stage (inl w) = true_false w.started st
      stage (inr (inl t)) = inr (inr (inr (record {
        st_is_clear = st;
        is_not_issued = t.ci_is_set_iff_st_and_plain ∙ ap (λ (b : Bool). b && not (is_queued h.command.operation)) st;
        sact_is_clear = t.sact ∙ ap (λ (b : Bool). b && is_queued h.command.operation) st;
        is_not_taken = refl;
        unended = t.unended;
      })))
      stage (inr (inr (inl x))) = inr (inr (inl (record { is_not_issued = x.is_not_issued; sact_is_clear = x.sact_is_clear; is_not_taken = refl; ended = x.ended; touched = x.touched })))
      stage (inr (inr (inr x))) = inr (inr (inr (record { st_is_clear = x.st_is_clear; is_not_issued = x.is_not_issued; sact_is_clear = x.sact_is_clear; is_not_taken = refl; unended = x.unended })))

  pub fall_follows : (port : ℕ) → (d.port port).st ≡ false → SimulatesSteps uses m d (device_after (Fall port) d)
  fall_follows port st = silent _ refl refl (same_plugged d port _ refl) (record {
    relates_slots = λ q k. changed_at d.port port _ (λ x p. RelatesSlot m d.memory d.tape p x k (uses x k)) (fall_slot port k (uses port k) st (a.relates_slots port k)) (λ x _. a.relates_slots x k) q;
    serve_distinct_requests = a.serve_distinct_requests;
    received_areas_in_use_are_placed = changed_at d.port port _ (λ k p. p.fre ≡ true → HasReceivedArea p k) (λ f. let r = a.received_areas_in_use_are_placed port f in record { port_is_below_4 = r.port_is_below_4; area_is_in_place = r.area_is_in_place }) (λ k _. a.received_areas_in_use_are_placed k);
    disks_are_same = changed_at d.port port _ (λ k p. IsDiskOf m p k) (let x = a.disks_are_same port in record { present = x.present; id = x.id; sector_count = x.sector_count }) (λ k _. a.disks_are_same k);
    client_frames_are_same = a.client_frames_are_same;
    sectors_are_same_if_disks_tell = λ t. changed_at d.port port _ (λ k p. SameSectors m p.disk k) (a.sectors_are_same_if_disks_tell t port) (λ k _. a.sectors_are_same_if_disks_tell t k);
    knows_replug_candidates_if_disks_tell = λ t. changed_at d.port port _ (λ k p. KnowsAllReplugCandidates m d.tape p k) (a.knows_replug_candidates_if_disks_tell t port) (λ k _. a.knows_replug_candidates_if_disks_tell t k);
  })

  reset_slot : (port k : ℕ) (u : SlotState) → RelatesSlot m d.memory d.tape (d.port port) port k u → RelatesSlot m d.memory d.tape (port_after_hba_reset (d.port port)) port k u
  reset_slot port k Free h = record { is_not_issued = refl; is_not_taken = refl; unarmed = refl }
  reset_slot port k Armed h = record { is_not_issued = refl; is_not_taken = refl; armed = refl }
  reset_slot port k (Own o) h = record {
    operation_is_drivers_own = h.operation_is_drivers_own;
    slot_is_0 = h.slot_is_0;
    list_is_in_place = placed_same port k _ refl h.list_is_in_place;
    command = h.command;
    operation_is = h.operation_is;
    slot_decodes_to = h.slot_decodes_to;
    unqueued = refl;
    st_set_is_on_tape = h.st_set_is_on_tape;
    stage = inr (inr (record { over = record { is_not_issued = refl; is_not_taken = refl }; page_stands_in_scratch_if_st = inl refl }));
  }
  reset_slot port k (Serves id) h = record {
    pending = h.pending;
    may_still_move = h.may_still_move;
    id_is = h.id_is;
    port_is = h.port_is;
    list_is_in_place = placed_same port k _ refl h.list_is_in_place;
    command = h.command;
    places = h.places;
    slot_decodes_to = h.slot_decodes_to;
    means = h.means;
    stage = ended h.stage;
  }
    where
      dropped : h.pending.ended ≡ false → IsInSomeStage d.memory (port_after_hba_reset (d.port port)) port k h.pending h.command h.places
      dropped unended = inr (inr (inr (record { st_is_clear = refl; is_not_issued = refl; sact_is_clear = refl; is_not_taken = refl; unended = unended })))

      -- what had ended has ended still
      ended : IsInSomeStage d.memory (d.port port) port k h.pending h.command h.places → IsInSomeStage d.memory (port_after_hba_reset (d.port port)) port k h.pending h.command h.places
      ended (inl w) = dropped w.unended
      ended (inr (inl t)) = dropped t.unended
      ended (inr (inr (inl x))) = inr (inr (inl (record { is_not_issued = refl; sact_is_clear = refl; is_not_taken = refl; ended = x.ended; touched = x.touched })))
      ended (inr (inr (inr x))) = dropped x.unended

  pub reset_follows : SimulatesSteps uses m d (device_after ResetEnds d)
  reset_follows = silent _ refl refl (λ q. refl) (record {
    relates_slots = λ q k. reset_slot q k (uses q k) (a.relates_slots q k);
    serve_distinct_requests = a.serve_distinct_requests;
    received_areas_in_use_are_placed = λ q f. absurd (let e : false ≡ true = f in cc);
    disks_are_same = λ q. let x = a.disks_are_same q in record { present = x.present; id = x.id; sector_count = x.sector_count };
    client_frames_are_same = a.client_frames_are_same;
    sectors_are_same_if_disks_tell = λ t q. a.sectors_are_same_if_disks_tell t q;
    knows_replug_candidates_if_disks_tell = λ t q. a.knows_replug_candidates_if_disks_tell t q;
  })

  -- ---- disks come and go

  pub unplug_follows : (port : ℕ) → (d.port port).present ≡ true → SimulatesSteps uses m d (device_after (Unplug port) d)
  unplug_follows port there =
      let m' : Machine = after_step m (machine.Unplug (port_at port)) in
      record {
        steps = machine.Unplug (port_at port) ∷ [];
        steps_are_enabled = (tt, (a.disks_are_same port).present ∙ there);
        disks_tell_sectors_is_same = refl;
        steps_are_faithful = λ _. (tt, tt);
        new_entries = _;
        tape_is = refl;
        tape_tells_steps = (machine.Unplug (port_at port) ∷ [], [], refl, refl, refl);
        plugged_disks_match_steps = plugged_kept d port _ (machine.Unplug (port_at port) ∷ []) refl (λ _. refl);
        state_relation = record {
          relates_slots = slots_quiet uses m m' d a d.memory _ (fixed_more uses d.memory d.tape _ (λ q o u x. x)) port _ (λ k. record { issued = refl; sact = refl; taken = refl; st = refl; cr = refl; since = refl; list = refl }) (λ id e _ r. r);
          serve_distinct_requests = a.serve_distinct_requests;
          received_areas_in_use_are_placed = changed_at d.port port _ (λ k p. p.fre ≡ true → HasReceivedArea p k) (λ f. let r = a.received_areas_in_use_are_placed port f in record { port_is_below_4 = r.port_is_below_4; area_is_in_place = r.area_is_in_place }) (λ k _. a.received_areas_in_use_are_placed k);
          disks_are_same = changed_at d.port port _ (λ k p. IsDiskOf m' p k)
              (record {
                present = cond-true (port == port) false (m.present (port_at port)) (eq-eqb port port refl);
                id = (a.disks_are_same port).id;
                sector_count = (a.disks_are_same port).sector_count;
              })
              (λ k ne. record {
                present = cond-false (k == port) false (m.present (port_at k)) (ne_eqb k port ne) ∙ (a.disks_are_same k).present;
                id = (a.disks_are_same k).id;
                sector_count = (a.disks_are_same k).sector_count;
              });
          client_frames_are_same = a.client_frames_are_same;
          sectors_are_same_if_disks_tell = λ t. changed_at d.port port _ (λ k p. SameSectors m' p.disk k) (sectors_on m m' (d.port port).disk port (λ k b lb. refl) (a.sectors_are_same_if_disks_tell t port)) (λ k _. sectors_on m m' (d.port k).disk k (λ s b lb. refl) (a.sectors_are_same_if_disks_tell t k));
          knows_replug_candidates_if_disks_tell = λ t. changed_at d.port port _ (λ k p. KnowsAllReplugCandidates m' (d.tape ++ entry.Unplug (port_at port) ∷ []) p k)
              (lasting_on m m' d.tape _ (d.port port) (d.port port) port refl refl (λ _ _ h. h) (gains_quiet d.tape _ m' port (λ _ _. refl)) (a.knows_replug_candidates_if_disks_tell t port))
              (λ k _. lasting_on m m' d.tape _ (d.port k) (d.port k) k refl refl (λ _ _ h. h) (gains_quiet d.tape _ m' k (λ _ _. refl)) (a.knows_replug_candidates_if_disks_tell t k));
        };
      }

  -- what a disk holds, if it tells it
  content_of : Option (ℕ → List ℕ) → DiskBytes
  content_of (Some told) k b = slice_index (told k) b
  content_of None k b = 0

  pub plug_follows : (port : ℕ) (disk : device.Disk) → (d.port port).present ≡ false → (d.disks_tell_sectors ≡ true → HasKnownSectors disk) → (disk.name ≡ (d.port port).disk.name → IsReplugOf d port disk) → SimulatesSteps uses m d (device_after (Plug port disk) d)
  unfolding content_of
  plug_follows port disk gone tells known =
      let content : DiskBytes = content_of disk.sectors in
      let m' : Machine = after_step m (machine.PlugDisk (port_at port) disk.name disk.sector_count content) in
      let come_in : (d.disks_tell_sectors ≡ true → SameSectors m' disk port) = (λ t. record {
        told_sectors = (tells t).0;
        disk_tells = (tells t).1;
        bytes_are_same = λ k b kl bl.
            ap (λ (o : Option (ℕ → List ℕ)). content_of o k b) (sym (tells t).1)
            ∙ ap (λ (f : DiskBytes). f k b) (sym (cond-true (port == port) content (m.disk_bytes (port_at port)) (eq-eqb port port refl)));
      }) in
      let comes_back : (d.disks_tell_sectors ≡ true → IsReplugOf d port disk → (k : ℕ) → k < disk.sector_count → HoldsOrHeldSinceFlush m (port_at port) k (content k)) = (λ t that k inside.
      let s = a.sectors_are_same_if_disks_tell t port in
      let told = tells t in
      subst (λ (o : Option (ℕ → List ℕ)). HoldsOrHeldSinceFlush m (port_at port) k (content_of o k)) (sym told.1)
      (⊎_elim
      (λ (now : told.0 k ≡ s.told_sectors k). inl (λ b lb. ap (λ (l : List ℕ). slice_index l b) now ∙ s.bytes_are_same k b (subst (λ (n : ℕ). k < n) that.size inside) lb))
      (λ (was : WereHeldSinceFlush d.tape (d.port port).lasting port k (told.0 k)). a.knows_replug_candidates_if_disks_tell t port k (subst (λ (n : ℕ). k < n) that.size inside) (told.0 k) was)
      (that.holds s.told_sectors told.0 s.disk_tells told.1 k inside))) in
      record {
        steps = machine.PlugDisk (port_at port) disk.name disk.sector_count content ∷ [];
        steps_are_enabled = (tt, ((a.disks_are_same port).present ∙ gone, λ same. (known (same ∙ (a.disks_are_same port).id)).size ∙ sym (a.disks_are_same port).sector_count));
        disks_tell_sectors_is_same = refl;
        steps_are_faithful = λ t. (tt, λ same. comes_back t (known (same ∙ (a.disks_are_same port).id)));
        new_entries = _;
        tape_is = refl;
        tape_tells_steps = (machine.PlugDisk (port_at port) disk.name disk.sector_count content ∷ [], [], (disk.sector_count, content, refl), refl, refl);
        plugged_disks_match_steps = changed_at d.port port _ (λ q p. (disks : List device.Disk) × (p.plug_history ≡ (d.port q).plug_history ++ disks) × PortPlugsPutInDisks q disks (machine.PlugDisk (port_at port) disk.name disk.sector_count content ∷ []))
            (disk ∷ [], refl, inr (refl, ([], disk, refl, record { name_is = refl; size_is = refl; bytes_are_same = λ told is k b kl bl. ap (λ (o : Option (ℕ → List ℕ)). content_of o k b) (sym is) }, refl)))
            (λ q ne. ([], sym (append-nil (d.port q).plug_history), inl (λ e. ne (sym e), refl)));
        state_relation = record {
          relates_slots = slots_quiet uses m m' d a d.memory _ (fixed_more uses d.memory d.tape _ (λ q o u x. x)) port _ (λ k. record { issued = refl; sact = refl; taken = refl; st = refl; cr = refl; since = refl; list = refl }) (λ id e _ r. r);
          serve_distinct_requests = a.serve_distinct_requests;
          received_areas_in_use_are_placed = changed_at d.port port _ (λ k p. p.fre ≡ true → HasReceivedArea p k) (λ f. let r = a.received_areas_in_use_are_placed port f in record { port_is_below_4 = r.port_is_below_4; area_is_in_place = r.area_is_in_place }) (λ k _. a.received_areas_in_use_are_placed k);
          disks_are_same = changed_at d.port port _ (λ k p. IsDiskOf m' p k)
              (record {
                present = cond-true (port == port) true (m.present (port_at port)) (eq-eqb port port refl);
                id = cond-true (port == port) disk.name (m.disk_ids (port_at port)) (eq-eqb port port refl);
                sector_count = cond-true (port == port) disk.sector_count (m.sizes (port_at port)) (eq-eqb port port refl);
              })
              (λ k ne. record {
                present = cond-false (k == port) true (m.present (port_at k)) (ne_eqb k port ne) ∙ (a.disks_are_same k).present;
                id = cond-false (k == port) disk.name (m.disk_ids (port_at k)) (ne_eqb k port ne) ∙ (a.disks_are_same k).id;
                sector_count = cond-false (k == port) disk.sector_count (m.sizes (port_at k)) (ne_eqb k port ne) ∙ (a.disks_are_same k).sector_count;
              });
          client_frames_are_same = a.client_frames_are_same;
          sectors_are_same_if_disks_tell = λ t. changed_at d.port port _ (λ k p. SameSectors m' p.disk k) (come_in t)
              (λ k ne. sectors_on m m' (d.port k).disk k (λ s b lb. ap (λ (f : DiskBytes). f s b) (cond-false (k == port) content (m.disk_bytes (port_at k)) (ne_eqb k port ne))) (a.sectors_are_same_if_disks_tell t k));
          knows_replug_candidates_if_disks_tell = λ t. changed_at d.port port _ (λ k p. KnowsAllReplugCandidates m' (d.tape ++ entry.Plug (port_at port) disk.name ∷ []) p k)
              (lasting_put_in m port disk content d.tape _ (λ _ _. refl) (d.port port) (record (d.port port) { disk = disk; lasting = lasting_after_plug_or_replug (d.port port).lasting (d.port port).disk disk (length d.tape) }) (a.disks_are_same port).id refl refl (λ same. (known same).size) (come_in t) (a.knows_replug_candidates_if_disks_tell t port))
              (λ k ne. lasting_put_elsewhere m port disk content d.tape _ (λ _ _. refl) (d.port k) k ne (a.knows_replug_candidates_if_disks_tell t k));
        };
      }
