-- Which bytes the device may use; the others may be loaded and stored.
use Rattle.std.proofs.Common.{ℕ, zero, suc, ◌≡◌, ◌≢◌, ◌⊎◌, ◌<◌, ◌≤◌, ◌+◌, ◌*◌, ◌/◌, List, [], ◌∷◌, length, slice_index, Some, refl, sym, ◌∙◌, ap, subst, arith, inl, inr, ⊎_elim}
use Rattle.std.proofs.lemmas.Bool.{cases_order}
use Rattle.ata_types.specs.declared.request.Op.{Op}
use Rattle.ata_types.specs.declared.request.Op.TheVariants.{Read, Write, Trim, Flush}
use Rattle.ata_types.specs.declared.request.RequestId.{RequestId}
use Rattle.ata_types.specs.declared.memory.TheConstants.{DRIVER_FRAMES, DRIVER_BYTES_PER_PORT, PRD_BYTES, SCRATCH_OFFSET, TABLE_BYTES, TABLE_HEAD_BYTES}
use Rattle.adapter.specs.Commands.{Meaning}
use Rattle.adapter.specs.Device.{FetchedCommand, Device}
use Rattle.adapter.specs.Rules.{InDataBlocks, InUse, InTableOrPiece, DeviceOwns, IsInMemoryNotOwnedByDevice, IsOn, HasPort, MayWrite, MayIssue, IsStable}
use Rattle.adapter.specs.Rules as rules
use Rattle.adapter.specs.Decoding.{DecodesTo}
use Rattle.adapter.specs.declared.command.Operation.{Operation}
use Rattle.adapter.proofs.SaysLemmas.{says_table, says_prds, says_places}
use Rattle.block_machine.specs.Confinement.{MovesBytes}
use Rattle.block_machine.specs.Histories.{IsReachable}
use Rattle.block_machine.specs.State.{Pending, Machine, nth_frame}
use Rattle.block_machine.specs.Steps.{IsIssuedOrKept}
use Rattle.block_machine.proofs.Standing.{standing}
use Rattle.refinement.specs.MemoryLayout.{command_list_address, received_fis_address, command_table_address, scratch_frame_address, sector_address}
use Rattle.refinement.specs.Slots as slots
use Rattle.adapter.specs.OneCommand.{SlotHasNoCommand}
use Rattle.refinement.specs.Slots.{SlotState, Free, Own, Serves, SlotDecodesTo, HasListInPlace, MeansRequest, AreRequestPlaces, IsInSomeStage, ServesRequest, ServesOwn, OwnAwaitsFetch, OwnIsTaken, OwnIsOverWithPageIfSt, RelatesSlot, Armed}
use Rattle.refinement.specs.Relation.{StateRelation}
use Rattle.refinement.specs.Driver.{IsInMemoryOfFreeSlot}
use Rattle.refinement.proofs.relation.WrittenBytes.{in_free, narrow, same_port}
use Rattle.refinement.proofs.steps.MovedSector.{some_same}
use Rattle.refinement.proofs.relation.OtherSlots.{some_none, true_false}

-- a byte of the slot's header or of its table
abbrev pub OfSlot : ℕ → ℕ → ℕ → Type 0
OfSlot port slot at = ((command_list_address port + 32 * slot ≤ at) × (at < command_list_address port + 32 * slot + 32)) ⊎ ((command_table_address port slot ≤ at) × (at < command_table_address port slot + TABLE_BYTES))

pub record InSlot (uses : slots.SlotStates) (at : ℕ) : Type 0 where
  pub port : ℕ
  pub slot : ℕ
  pub below : port < 4
  pub slot_below : slot < 32
  pub used : uses port slot ≡ Free → ⊥
  pub here : OfSlot port slot at

pub record InReceived (at : ℕ) : Type 0 where
  pub port : ℕ
  pub below : port < 4
  pub from : received_fis_address port ≤ at
  pub to : at < received_fis_address port + 256

pub record InScratch (uses : slots.SlotStates) (d : Device) (at : ℕ) : Type 0 where
  pub port : ℕ
  pub below : port < 4
  pub used : uses port 0 ≡ Free → ⊥
  pub in_use : InUse (d.port port) 0
  pub from : scratch_frame_address port ≤ at
  pub to : at < scratch_frame_address port + 512

pub record InSector (m : Machine) (at : ℕ) : Type 0 where
  pub pending : Pending
  pub moves : IsIssuedOrKept m pending
  pub number : ℕ
  pub framed : number / 8 < length pending.request.asked.frames.items
  pub from : sector_address pending.request.asked.frames.items number ≤ at
  pub to : at < sector_address pending.request.asked.frames.items number + 512

-- where a byte is that the device may use
abbrev pub IsUsed : slots.SlotStates → Machine → Device → ℕ → Type 0
IsUsed uses m d at = InSlot uses at ⊎ (InReceived at ⊎ (InScratch uses d at ⊎ InSector m at))

module _ (uses : slots.SlotStates) (m : Machine) (d : Device) (reached : IsReachable m) (a : StateRelation uses m d) (port slot at : ℕ) where
  own_used : {o : Operation} → uses port slot ≡ Own o → uses port slot ≡ Free → ⊥
  own_used u f = let z : Own _ ≡ Free = sym u ∙ f in cc

  serves_used : {id : RequestId} → uses port slot ≡ Serves id → uses port slot ≡ Free → ⊥
  serves_used u f = let z : Serves _ ≡ Free = sym u ∙ f in cc

  of_header : HasListInPlace (d.port port) port slot → (uses port slot ≡ Free → ⊥) → (d.port port).bases.clb + 32 * slot ≤ at → at < (d.port port).bases.clb + 32 * slot + 32 → IsUsed uses m d at
  of_header w used low high =
      inl (record { port = port; slot = slot; below = w.port_below; slot_below = w.slot_below; used = used; here = inl (omega (arith, w.list, low), omega (arith, w.list, high)) })

  of_table : HasListInPlace (d.port port) port slot → (uses port slot ≡ Free → ⊥) → (c n : Meaning) (places others : List ℕ) → (told : SlotDecodesTo d.memory (d.port port).bases.clb port slot c places) →
      (s : DecodesTo d.memory (d.port port).bases.clb slot n others) → s.table ≤ at → at < s.table + TABLE_HEAD_BYTES + PRD_BYTES * length s.prds → IsUsed uses m d at
  of_table w used c n places others told s low high =
      let t : s.table ≡ command_table_address port slot = says_table d.memory (d.port port).bases.clb slot n c others places s told.decodes_to ∙ told.table_is in
      let l : length s.prds ≡ length told.decodes_to.prds = ap length (says_prds d.memory (d.port port).bases.clb slot n c others places s told.decodes_to) in
      inl (record { port = port; slot = slot; below = w.port_below; slot_below = w.slot_below; used = used; here = inr (omega (arith, t, low), omega (arith, t, l, told.prds_are_few, high)) })

  -- a byte of the page of the driver's own command
  of_page : {o : Operation} (h : ServesOwn d.memory d.tape (d.port port) port slot o) → uses port slot ≡ Own o → InUse (d.port port) slot → InDataBlocks (scratch_frame_address port ∷ []) at → IsUsed uses m d at
  of_page h u in_use x = inr (inr (inl (record {
    port = port;
    below = h.list_is_in_place.port_below;
    used = λ f. own_used u (ap (λ (k : ℕ). uses port k) h.slot_is_0 ∙ f);
    in_use = subst (λ (k : ℕ). InUse (d.port port) k) h.slot_is_0 in_use;
    from = (let z = x.from in let e : slice_index (scratch_frame_address port ∷ []) x.number ≡ scratch_frame_address port = first x.number x.number_in_range in omega (arith, z, e));
    to = (let z = x.to in let e : slice_index (scratch_frame_address port ∷ []) x.number ≡ scratch_frame_address port = first x.number x.number_in_range in omega (arith, z, e));
  })))
    where
      first : (n : ℕ) → n < 1 → slice_index (scratch_frame_address port ∷ []) n ≡ scratch_frame_address port
      first zero lt = refl
      first (suc n) lt = absurd (omega (arith, lt))

  -- a byte of a request's pieces
  of_places : {id : RequestId} (h : ServesRequest m d.memory (d.port port) port slot id) → uses port slot ≡ Serves id → InUse (d.port port) slot → InDataBlocks h.places at → IsUsed uses m d at
  of_places h u in_use x = by h.pending.request.asked.op refl h.means.places_are
    where
      moved : (op : Op) → h.pending.request.asked.op ≡ op → MovesBytes op → ((length h.places ≡ h.pending.request.asked.count) × ((i : ℕ) → i < h.pending.request.asked.count → slice_index h.places i ≡ sector_address h.pending.request.asked.frames.items i)) → IsUsed uses m d at
      moved op is b places =
          let within : x.number < h.pending.request.asked.count = let l = x.number_in_range in let n = places.0 in omega (arith, l, n) in
          let p : slice_index h.places x.number ≡ sector_address h.pending.request.asked.frames.items x.number = places.1 x.number within in
          inr (inr (inr (record {
            pending = h.pending;
            moves = h.may_still_move;
            number = x.number;
            framed = (standing m reached).framed h.pending h.may_still_move (subst MovesBytes (sym is) b) x.number within;
            from = subst (λ (n : ℕ). n ≤ at) p x.from;
            to = subst (λ (n : ℕ). at < n + 512) p x.to;
          })))

      first : (n : ℕ) → n < 1 → slice_index (scratch_frame_address port ∷ []) n ≡ scratch_frame_address port
      first zero lt = refl
      first (suc n) lt = absurd (omega (arith, lt))

      by : (op : Op) → h.pending.request.asked.op ≡ op → AreRequestPlaces h.pending.request.asked.op port h.pending.request h.places → IsUsed uses m d at
      by Read is places = moved Read is tt (subst (λ (o : Op). AreRequestPlaces o port h.pending.request h.places) is places)
      by Write is places = moved Write is tt (subst (λ (o : Op). AreRequestPlaces o port h.pending.request h.places) is places)
      by Flush is places = absurd (
          let none : h.places ≡ [] = subst (λ (o : Op). AreRequestPlaces o port h.pending.request h.places) is places in
          let n : length h.places ≡ 0 = ap length none in
          let l = x.number_in_range in omega (arith, n, l))
      by Trim is places =
          let one : h.places ≡ scratch_frame_address port ∷ [] = subst (λ (o : Op). AreRequestPlaces o port h.pending.request h.places) is places in
          let y : InDataBlocks (scratch_frame_address port ∷ []) at = subst (λ (l : List ℕ). InDataBlocks l at) one x in
          let head : slot ≡ 0 = h.means.trim_is_in_slot_0 is in
          inr (inr (inl (record {
            port = port;
            below = h.list_is_in_place.port_below;
            used = λ f. serves_used u (ap (λ (k : ℕ). uses port k) head ∙ f);
            in_use = subst (λ (k : ℕ). InUse (d.port port) k) head in_use;
            from = (let z = y.from in let e : slice_index (scratch_frame_address port ∷ []) y.number ≡ scratch_frame_address port = first y.number y.number_in_range in omega (arith, z, e));
            to = (let z = y.to in let e : slice_index (scratch_frame_address port ∷ []) y.number ≡ scratch_frame_address port = first y.number y.number_in_range in omega (arith, z, e));
          })))

  pub over_unused : {A : Type 0} → SlotHasNoCommand (d.port port) slot → InUse (d.port port) slot → A
  over_unused o (inl i) = true_false i o.is_not_issued
  over_unused o (inr t) = some_none t.1 o.is_not_taken

  -- what a command in use stands on
  of_use : InUse (d.port port) slot → ((((d.port port).bases.clb + 32 * slot ≤ at) × (at < (d.port port).bases.clb + 32 * slot + 32)) ⊎ InTableOrPiece d (d.port port) slot at) → IsUsed uses m d at
  of_use in_use x = by (uses port slot) refl (a.relates_slots port slot)
    where
      by : (u : SlotState) → uses port slot ≡ u → RelatesSlot m d.memory d.tape (d.port port) port slot u → IsUsed uses m d at
      by Free u h = over_unused (record { is_not_issued = h.is_not_issued; is_not_taken = h.is_not_taken }) in_use
      by Armed u h = over_unused (record { is_not_issued = h.is_not_issued; is_not_taken = h.is_not_taken }) in_use
      by (Own o) u h = ⊎_elim
          (λ (y : ((d.port port).bases.clb + 32 * slot ≤ at) × (at < (d.port port).bases.clb + 32 * slot + 32)). of_header h.list_is_in_place (own_used u) y.0 y.1)
          (λ (y : InTableOrPiece d (d.port port) slot at). ⊎_elim
          (λ (z : (y.2.table ≤ at) × (at < y.2.table + TABLE_HEAD_BYTES + PRD_BYTES * length y.2.prds)). of_table h.list_is_in_place (own_used u) h.command y.0 (scratch_frame_address port ∷ []) y.1 h.slot_decodes_to y.2 z.0 z.1)
          (λ (z : InDataBlocks y.1 at). of_page h u in_use (subst (λ (l : List ℕ). InDataBlocks l at) (says_places d.memory (d.port port).bases.clb slot y.0 h.command y.1 (scratch_frame_address port ∷ []) y.2 h.slot_decodes_to.decodes_to) z))
          y.3) x
      by (Serves id) u h = ⊎_elim
          (λ (y : ((d.port port).bases.clb + 32 * slot ≤ at) × (at < (d.port port).bases.clb + 32 * slot + 32)). of_header h.list_is_in_place (serves_used u) y.0 y.1)
          (λ (y : InTableOrPiece d (d.port port) slot at). ⊎_elim
          (λ (z : (y.2.table ≤ at) × (at < y.2.table + TABLE_HEAD_BYTES + PRD_BYTES * length y.2.prds)). of_table h.list_is_in_place (serves_used u) h.command y.0 h.places y.1 h.slot_decodes_to y.2 z.0 z.1)
          (λ (z : InDataBlocks y.1 at). of_places h u in_use (subst (λ (l : List ℕ). InDataBlocks l at) (says_places d.memory (d.port port).bases.clb slot y.0 h.command y.1 h.places y.2 h.slot_decodes_to.decodes_to) z))
          y.3) x

  -- the pieces of a taken command
  of_taken : (t : FetchedCommand) → (d.port port).taken slot ≡ Some t → InDataBlocks t.places at → IsUsed uses m d at
  of_taken t is x = by (uses port slot) refl (a.relates_slots port slot)
    where
      by : (u : SlotState) → uses port slot ≡ u → RelatesSlot m d.memory d.tape (d.port port) port slot u → IsUsed uses m d at
      by Free u h = some_none is h.is_not_taken
      by Armed u h = some_none is h.is_not_taken
      by (Own o) u h = own h.stage
        where
          own : OwnAwaitsFetch (d.port port) slot ⊎ (OwnIsTaken d.memory d.tape (d.port port) port slot h.command ⊎ OwnIsOverWithPageIfSt d.memory d.tape (d.port port) port slot h.command) → IsUsed uses m d at
          own (inl y) = some_none is y.is_not_taken
          own (inr (inl y)) = of_page h u (inr (t, is)) (subst (λ (l : List ℕ). InDataBlocks l at) (ap (λ (z : FetchedCommand). z.places) (some_same (sym is ∙ y.taken)) ∙ y.places_are) x)
          own (inr (inr y)) = some_none is y.over.is_not_taken
      by (Serves id) u h = stage h.stage
        where
          stage : IsInSomeStage d.memory (d.port port) port slot h.pending h.command h.places → IsUsed uses m d at
          stage (inl y) = some_none is y.is_not_taken
          stage (inr (inl y)) = of_places h u (inr (t, is)) (subst (λ (l : List ℕ). InDataBlocks l at) (ap (λ (z : FetchedCommand). z.places) (some_same (sym is ∙ y.taken)) ∙ y.places_are) x)
          stage (inr (inr (inl y))) = some_none is y.is_not_taken
          stage (inr (inr (inr y))) = some_none is y.is_not_taken

  pub is_used : rules.DeviceOwns d (d.port port) slot at → IsUsed uses m d at
  is_used (inl x) = of_use x.0 x.1
  is_used (inr (inl x)) = of_taken x.0 x.1 x.2
  is_used (inr (inr x)) =
      let r = a.received_areas_in_use_are_placed port x.0 in
      inr (inl (record { port = port; below = r.port_is_below_4; from = (let y = x.1 in omega (arith, y, r.area_is_in_place)); to = (let y = x.2 in omega (arith, y, r.area_is_in_place)) }))

-- ---- what lies where

pub of_slot_in : (port slot at : ℕ) → slot < 32 → OfSlot port slot at → (DRIVER_BYTES_PER_PORT * port ≤ at) × (at < DRIVER_BYTES_PER_PORT * port + SCRATCH_OFFSET)
of_slot_in port slot at small x = in_free port slot at small x

-- headers and tables of two slots of a port don't meet
slots_apart : (port slot k at : ℕ) → slot < 32 → k < 32 → slot ≢ k → OfSlot port slot at → OfSlot port k at → ⊥
slots_apart port slot k at sb kb ne x y = ⊎_elim ne (λ z. ⊎_elim (λ (l : slot < k). less slot k sb kb l x y) (λ (g : k < slot). less k slot kb sb g y x) z) (cases_order slot k)
  where
    less : (i j : ℕ) → i < 32 → j < 32 → i < j → OfSlot port i at → OfSlot port j at → ⊥
    less i j ib jb l (inl p) (inl q) = omega (arith, l, p.1, q.0)
    less i j ib jb l (inl p) (inr q) = omega (arith, ib, p.1, q.0)
    less i j ib jb l (inr p) (inl q) = omega (arith, jb, p.0, q.1)
    less i j ib jb l (inr p) (inr q) = omega (arith, l, p.1, q.0)

-- ---- the driver's own stores

pub stores_unused : (uses : slots.SlotStates) (m : Machine) (d : Device) (at n byte : ℕ) → IsInMemoryOfFreeSlot uses at n → at ≤ byte → byte < at + n → ((e : Pending) → IsIssuedOrKept m e → (i : ℕ) → i / 8 < length e.request.asked.frames.items → DRIVER_FRAMES ≤ (nth_frame e.request.asked.frames.items (i / 8)).0) → IsUsed uses m d byte → ⊥
stores_unused uses m d at n byte (inl x) low high clients used =
    let y = narrow x.port x.slot at n byte low high x.is_in_header_or_table in
    let r = in_free x.port x.slot byte x.slot_below y in
    by y r used
  where
    by : OfSlot x.port x.slot byte → (DRIVER_BYTES_PER_PORT * x.port ≤ byte) × (byte < DRIVER_BYTES_PER_PORT * x.port + SCRATCH_OFFSET) → IsUsed uses m d byte → ⊥
    by y r (inl u) =
        let s = of_slot_in u.port u.slot byte u.slot_below u.here in
        let e : u.port ≡ x.port = same_port u.port x.port byte s.0 (omega (arith, s.1)) r.0 (omega (arith, r.1)) in
        slots_apart x.port u.slot x.slot byte u.slot_below x.slot_below
        (λ same. u.used (ap (λ (q : ℕ). uses q u.slot) e ∙ ap (λ (k : ℕ). uses x.port k) same ∙ x.free))
        (subst (λ (q : ℕ). OfSlot q u.slot byte) e u.here) y
    by y r (inr (inl u)) =
        let e : u.port ≡ x.port = same_port u.port x.port byte (omega (arith, u.from)) (omega (arith, u.to)) r.0 (omega (arith, r.1)) in
        ⊎_elim (λ (p : (command_list_address x.port + 32 * x.slot ≤ byte) × (byte < command_list_address x.port + 32 * x.slot + 32)). omega (arith, e, x.slot_below, p.1, u.from))
        (λ (p : (command_table_address x.port x.slot ≤ byte) × (byte < command_table_address x.port x.slot + TABLE_BYTES)). omega (arith, e, p.0, u.to)) y
    by y r (inr (inr (inl u))) =
        let e : u.port ≡ x.port = same_port u.port x.port byte (omega (arith, u.from)) (omega (arith, u.to)) r.0 (omega (arith, r.1)) in
        omega (arith, e, r.1, u.from)
    by y r (inr (inr (inr u))) = let c = clients u.pending u.moves u.number u.framed in omega (arith, r.1, x.port_is_below_4, u.from, c)
stores_unused uses m d at n byte (inr x) low high clients used = by used
  where
    by : IsUsed uses m d byte → ⊥
    by (inl u) =
        let s = of_slot_in u.port u.slot byte u.slot_below u.here in
        let e : u.port ≡ x.port = same_port u.port x.port byte s.0 (omega (arith, s.1)) (omega (arith, x.begins_in_scratch, low)) (omega (arith, x.ends_in_scratch, high)) in
        omega (arith, e, s.1, x.begins_in_scratch, low)
    by (inr (inl u)) =
        let e : u.port ≡ x.port = same_port u.port x.port byte (omega (arith, u.from)) (omega (arith, u.to)) (omega (arith, x.begins_in_scratch, low)) (omega (arith, x.ends_in_scratch, high)) in
        omega (arith, e, u.to, x.begins_in_scratch, low)
    by (inr (inr (inl u))) =
        let e : u.port ≡ x.port = same_port u.port x.port byte (omega (arith, u.from)) (omega (arith, u.to)) (omega (arith, x.begins_in_scratch, low)) (omega (arith, x.ends_in_scratch, high)) in
        u.used (ap (λ (q : ℕ). uses q 0) e ∙ x.free)
    by (inr (inr (inr u))) = let c = clients u.pending u.moves u.number u.framed in omega (arith, x.ends_in_scratch, x.below, high, u.from, c)
