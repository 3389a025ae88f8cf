-- The bytes of a slot of a ready port say one request's command.
use Rattle.std.proofs.Common.{ℕ, ◌≡◌, ◌≢◌, ◌≤◌, ◌⊎◌, true, false, List, length, slice_index, Some, None, inl, inr, refl, sym, ap, ◌∙◌, subst, ⊎_elim, arith}
use Rattle.std.proofs.lemmas.Bool.{cases_Bool, cases_eq}
use Rattle.std.specs.List.{Contains}
use Rattle.std.proofs.lemmas.List.Elements.{All-contains}
use Rattle.ata_types.specs.declared.PortState.TheVariants.{Ready as ReadyState}
use Rattle.ata_types.specs.declared.request.Frame.{Frame}
use Rattle.ata_types.specs.declared.request.Op.{Op}
use Rattle.ata_types.specs.declared.request.Op.TheVariants.{Read, Write}
use Rattle.ata_types.specs.declared.request.RequestId.{RequestId}
use Rattle.refinement.specs.MemoryLayout.{sector_address}
use Rattle.refinement.specs.Slots.{AreRequestPlaces, ServesRequest, client_operation_of}
use Rattle.refinement.specs.Relation.{port_at}
use Rattle.adapter.specs.Commands.{Meaning}
use Rattle.block_machine.specs.Rules.{IsAllowedCount, frame_count_for}
use Rattle.block_machine.specs.State.{Accepted, Machine, Pending, nth_frame}
use Rattle.dma_frames.specs.FrameTables.{lent_to}
use Rattle.host_boot.specs.TakeOver.{probe_result_of}
use Rattle.request_queue.specs.BookEntries.{BookEntry, IsWellFormedEntry}
use Rattle.request_queue.specs.BookRelation.{EntryRelation}
use Rattle.slots.specs.declared.SlotUse.{SlotUse}
use Rattle.server_history.specs.Prerequisites.{PrerequisiteLaws}
use Rattle.server_history.specs.ServerState.{IsLoneSlot0, ServerState, InCallInvariant, MachineRelation, mode_in, state_of, used_for}
use Rattle.server_history.proofs.state.PortSlots.{HasSlot, IsServedBy, issued_has, not_true, queued_op, served_request, serves_used, still_booked}
use Rattle.server_history.proofs.state.PairedLists.{at_right}

-- the first place of a read or a write is that of its first frame
first_place : (op : Op) → (op ≡ Read) ⊎ (op ≡ Write) → (port : ℕ) (r : Accepted) (places : List ℕ) → AreRequestPlaces op port r places → 1 ≤ r.asked.count → slice_index places 0 ≡ sector_address r.asked.frames.items 0
first_place op (inl reads) port r places are some = (subst (λ (o : Op). AreRequestPlaces o port r places) reads are).1 0 some
first_place op (inr writes) port r places are some = (subst (λ (o : Op). AreRequestPlaces o port r places) writes are).1 0 some

module _ (laws : PrerequisiteLaws) (s : ServerState) (k : InCallInvariant s) (m : Machine) (is : MachineRelation s m) where
  -- a transfer of the book has a first frame, which is lent to it
  record HasFirst (p : Pending) : Type 0 where
    some : 1 ≤ p.request.asked.count
    lent : lent_to s.table (nth_frame p.request.asked.frames.items 0) ≡ Some p.request.id

  has_first : (p : Pending) → Contains m.book p → (p.request.asked.op ≡ Read) ⊎ (p.request.asked.op ≡ Write) → HasFirst p
  has_first p here transfers = record { some = subst (λ (n : ℕ). 1 ≤ n) (sym (ap (λ r. r.count) x.2.range)) (sized x.0.request.op op refl).0; lent = its_lent }
    where
      x : (h : BookEntry) × Contains s.book h × EntryRelation h p
      x = at_right EntryRelation s.book m.book is.book p here

      a : IsWellFormedEntry s.table x.0
      a = All-contains (IsWellFormedEntry s.table) s.book x.0 k.entries_are_well_formed x.1

      op : (x.0.request.op ≡ Read) ⊎ (x.0.request.op ≡ Write)
      op = subst (λ (o : Op). (o ≡ Read) ⊎ (o ≡ Write)) x.2.op transfers

      -- one sector at least, in one frame at least
      sized : (o : Op) → (o ≡ Read) ⊎ (o ≡ Write) → x.0.request.op ≡ o → (1 ≤ x.0.request.range.count) × (1 ≤ length x.0.frames)
      sized o (inl reads) same =
          let c = subst (λ (y : Op). IsAllowedCount y x.0.request.range.count) (same ∙ reads) a.count_is_allowed in let f = a.frame_count_is ∙ ap (λ (y : Op). frame_count_for y x.0.request.range.count) (same ∙ reads) in let c0 = c.0 in (c0, omega (arith, c0, f))
      sized o (inr writes) same =
          let c = subst (λ (y : Op). IsAllowedCount y x.0.request.range.count) (same ∙ writes) a.count_is_allowed in let f = a.frame_count_is ∙ ap (λ (y : Op). frame_count_for y x.0.request.range.count) (same ∙ writes) in let c0 = c.0 in (c0, omega (arith, c0, f))

      its_lent : lent_to s.table (nth_frame p.request.asked.frames.items 0) ≡ Some p.request.id
      its_lent =
          subst (λ (frames : List Frame). lent_to s.table (nth_frame frames 0) ≡ Some p.request.id) (sym x.2.frames)
          (a.frames_are_lent 0 (record { 0 = 0 }) (sized x.0.request.op op refl).1 ∙ ap Some (sym x.2.id))

  -- what a used slot says besides is its own request's
  module _ (port slot : ℕ) (used : SlotUse) (id : RequestId) (ready : state_of (probe_result_of s.probe_results port) ≡ ReadyState) (its : used_for s.slots port slot ≡ Some used)
      (says : ServesRequest m s.device.memory (s.device.port port) port slot id) where
    x : IsServedBy s m port slot used.id
    x = served_request s m port slot is ready used.id (serves_used s m port is ready slot used its)

    booked : Contains m.book says.pending × (says.pending.issued ≡ true)
    booked = still_booked s m port is ready says.pending says.may_still_move says.port_is

    -- a plain one is alone, so the other has no other slot
    said_plain : used.queued ≡ false → id ≡ used.id
    said_plain plain = sym says.id_is ∙ sym h.id_is ∙ by (cases_eq h.slot 0)
      where
        h : HasSlot s (port_at port) says.pending.request.id
        h = issued_has s m (port_at port) is k ready says.pending booked.0 (ap (λ (n : ℕ). port_at n) says.port_is) booked.1

        a : IsLoneSlot0 s.slots port slot
        a = k.plain_is_alone_in_slot_0 port slot used its plain

        by : (h.slot ≡ 0) ⊎ (h.slot ≢ 0) → h.used.id ≡ used.id
        by (inl head) =
            let z : Some h.used ≡ Some used = sym h.used_is ∙ (ap (used_for s.slots port) (head ∙ sym a.0) ∙ its) in ap (λ (u : SlotUse). u.id) (same_use z)
          where
            same_use : {u v : SlotUse} → Some u ≡ Some v → u ≡ v
            same_use e = cc
        by (inr other) = let z : None ≡ Some h.used = sym (a.1 h.slot other) ∙ h.used_is in absurd cc

    -- the same command in the same frames is of one transfer, since frames are lent to one request
    said_queued : used.queued ≡ true → id ≡ used.id
    said_queued queued = sym says.id_is ∙ same_some (sym there.lent ∙ ap (lent_to s.table) frame_is ∙ own.lent) ∙ x.serves.id_is
      where
        same_some : {a b : RequestId} → Some a ≡ Some b → a ≡ b
        same_some e = cc

        same : (says.command ≡ x.serves.command) × (says.places ≡ x.serves.places)
        same = laws.slots.decoding_is_unique s.device.memory (s.device.port port).bases.clb slot says.command x.serves.command says.places x.serves.places says.slot_decodes_to.decodes_to x.serves.slot_decodes_to.decodes_to

        its_op : (x.serves.pending.request.asked.op ≡ Read) ⊎ (x.serves.pending.request.asked.op ≡ Write)
        its_op =
            subst (λ (o : Op). (o ≡ Read) ⊎ (o ≡ Write)) (sym x.entry.op)
            (queued_op (mode_in s (port_at port)) x.request.request.op (not_true _ (sym (k.slots_queue_as_asked (port_at port) slot used x.request its x.there x.id_is) ∙ queued)))

        op_is : says.pending.request.asked.op ≡ x.serves.pending.request.asked.op
        op_is = same_op (sym says.means.op_is ∙ ap (λ (c : Meaning). client_operation_of c.operation) same.0 ∙ x.serves.means.op_is)
          where
            same_op : {a b : Op} → Some a ≡ Some b → a ≡ b
            same_op e = cc

        op_says : (says.pending.request.asked.op ≡ Read) ⊎ (says.pending.request.asked.op ≡ Write)
        op_says = subst (λ (o : Op). (o ≡ Read) ⊎ (o ≡ Write)) (sym op_is) its_op

        there : HasFirst says.pending
        there = has_first says.pending booked.0 op_says

        own : HasFirst x.serves.pending
        own = has_first x.serves.pending x.here its_op

        first_is : sector_address says.pending.request.asked.frames.items 0 ≡ sector_address x.serves.pending.request.asked.frames.items 0
        first_is =
            sym (first_place says.pending.request.asked.op op_says port says.pending.request says.places says.means.places_are there.some)
            ∙ ap (λ (places : List ℕ). slice_index places 0) same.1
            ∙ first_place x.serves.pending.request.asked.op its_op port x.serves.pending.request x.serves.places x.serves.means.places_are own.some

        frame_is : nth_frame says.pending.request.asked.frames.items 0 ≡ nth_frame x.serves.pending.request.asked.frames.items 0
        frame_is = ap (λ (n : ℕ). record { 0 = n }) (let f = first_is in omega (arith, f))

    pub one_said : id ≡ used.id
    one_said = ⊎_elim said_queued said_plain (cases_Bool used.queued)
