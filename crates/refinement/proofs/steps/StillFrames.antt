-- Frames that the device leaves alone.
use Rattle.std.proofs.Common.{ℕ, ◌≡◌, ◌⊎◌, ◌<◌, ◌≤◌, ◌+◌, ◌*◌, ◌/◌, true, List, [], ◌∷◌, length, slice_index, Option, Some, None, refl, sym, ◌∙◌, ap, subst, arith, inl, inr, ⊎_elim}
use Rattle.std.proofs.lemmas.Bool.{both_ways}
use Rattle.std.proofs.lemmas.Option.{none-some, same_Some}
use Rattle.ata_types.specs.declared.request.Frame.{Frame}
use Rattle.ata_types.specs.declared.request.Op.{Op}
use Rattle.ata_types.specs.declared.request.Op.TheVariants.{Read, Write, Trim, Flush}
use Rattle.ata_types.specs.declared.request.RequestId.{RequestId}
use Rattle.ata_types.specs.declared.memory.TheConstants.{DRIVER_BYTES, DRIVER_FRAMES, PRD_BYTES, TABLE_HEAD_BYTES}
use Rattle.adapter.specs.Commands.{Meaning}
use Rattle.adapter.specs.Device.{FetchedCommand, DevicePort, Device}
use Rattle.adapter.specs.Idle.{IsIdle, IsIdlePort}
use Rattle.adapter.specs.KeptBySteps.{PortBitsOnlyFallFreeSlotsStay}
use Rattle.adapter.specs.Rules.{InDataBlocks, InUse, InTableOrPiece, IsInMemoryNotOwnedByDevice, IsStable}
use Rattle.adapter.specs.Rules as rules
use Rattle.adapter.proofs.KeptLemmas.{law_step_lists_keep_what_steps_keep}
use Rattle.adapter.proofs.SaysLemmas.{says_table, says_prds, says_places}
use Rattle.block_machine.specs.Confinement.{MovesBytes}
use Rattle.block_machine.specs.Histories.{IsReachable}
use Rattle.block_machine.specs.Expected as left
use Rattle.block_machine.specs.State.{Machine, nth_frame}
use Rattle.block_machine.proofs.HistoryLemmas.{reached_more}
use Rattle.block_machine.proofs.Standing.{Standing, standing}
use Rattle.refinement.specs.Relation.{StateRelation}
use Rattle.refinement.specs.PortFacts.{DeviceOwnsNoByteOfFrame, CommandsAreOver}
use Rattle.refinement.specs.Simulation.{SimulatesSteps}
use Rattle.refinement.specs.MemoryLayout.{scratch_frame_address, sector_address}
use Rattle.adapter.specs.OneCommand.{SlotHasNoCommand}
use Rattle.refinement.specs.Slots.{SlotState, Free, Own, Serves, SlotStates, SlotDecodesTo, HasListInPlace, AreRequestPlaces, ServesRequest, OwnAwaitsFetch, OwnIsTaken, OwnIsOverWithPageIfSt, RelatesSlot, Armed}
use Rattle.refinement.specs.SparedBook.{KeepsLoansAndPendingsOnlyAdvance}
use Rattle.refinement.proofs.steps.FollowedSteps.{steps_follow}
use Rattle.block_machine.proofs.Lending.{lent_clients}
use Rattle.refinement.proofs.steps.MovedSector.{TakenAs, taken_as}
use Rattle.refinement.proofs.steps.SparedBook.{follows_spare}

-- a slot with nothing issued or taken is not in use
pub over_unused : (p : DevicePort) (slot : ℕ) → SlotHasNoCommand p slot → InUse p slot → ⊥
over_unused p slot o (inl set) = absurd (both_ways _ o.is_not_issued set)
over_unused p slot o (inr (t, is)) = absurd (none-some _ (sym o.is_not_taken ∙ is))

-- what a placed slot's header and bytes say lies below the clients' frames, but for the places
told_low : (d : Device) (p : DevicePort) (port slot : ℕ) (c : Meaning) (places : List ℕ) (at : ℕ) → HasListInPlace p port slot → SlotDecodesTo d.memory p.bases.clb port slot c places → DRIVER_BYTES ≤ at →
    (((p.bases.clb + 32 * slot ≤ at) × (at < p.bases.clb + 32 * slot + 32)) ⊎ InTableOrPiece d p slot at) → InDataBlocks places at
told_low d p port slot c places at w told high (inl x) = absurd (omega (arith, w.list, w.port_below, w.slot_below, x.1, high))
told_low d p port slot c places at w told high (inr (c', places', s, x)) = ⊎_elim
    (λ (t : (s.table ≤ at) × (at < s.table + TABLE_HEAD_BYTES + PRD_BYTES * length s.prds)). absurd (
    let same : s.table ≡ told.decodes_to.table = says_table d.memory p.bases.clb slot c' c places' places s told.decodes_to in
    let prds : s.prds ≡ told.decodes_to.prds = says_prds d.memory p.bases.clb slot c' c places' places s told.decodes_to in
    let long : length s.prds ≡ length told.decodes_to.prds = ap length prds in
    omega (arith, same, told.table_is, long, told.prds_are_few, t.1, high, w.port_below, w.slot_below)))
    (λ (i : InDataBlocks places' at). subst (λ (l : List ℕ). InDataBlocks l at) (says_places d.memory p.bases.clb slot c' c places' places s told.decodes_to) i)
    x

-- a command with its one place in the scratch frame
scratch_low : (port at : ℕ) (places : List ℕ) → port < 4 → places ≡ scratch_frame_address port ∷ [] → DRIVER_BYTES ≤ at → InDataBlocks places at → ⊥
scratch_low port at places below is high x =
    let i : InDataBlocks (scratch_frame_address port ∷ []) at = subst (λ (l : List ℕ). InDataBlocks l at) is x in
    let none : i.number ≡ 0 = let l : i.number < 1 = i.number_in_range in omega (arith, l) in
    let here : slice_index (scratch_frame_address port ∷ []) i.number ≡ scratch_frame_address port = ap (slice_index (scratch_frame_address port ∷ [])) none in
    let to : at < slice_index (scratch_frame_address port ∷ []) i.number + 512 = i.to in
    omega (arith, here, to, below, high)

module _ (uses : SlotStates) (m : Machine) (d : Device) (a : StateRelation uses m d) (reached : IsReachable m) (frame : Frame) (high : DRIVER_FRAMES ≤ frame.0) (over : (id : RequestId) → m.lent frame ≡ Some id → CommandsAreOver uses d id) where
  module _ (port slot at : ℕ) (from : 4096 * frame.0 ≤ at) (to : at < 4096 * frame.0 + 4096) where
    past : DRIVER_BYTES ≤ at
    past = omega (arith, high, from)

    -- a request's place in the frame: the frame is lent to it, so it is over
    place_over : (id : RequestId) → uses port slot ≡ Serves id → (h : ServesRequest m d.memory (d.port port) port slot id) → InUse (d.port port) slot → InDataBlocks h.places at → ⊥
    place_over id u h used x = by h.pending.request.asked.op refl
      where
        std : Standing m
        std = standing m reached

        framed : MovesBytes h.pending.request.asked.op →
            ((length h.places ≡ h.pending.request.asked.count) × ((i : ℕ) → i < h.pending.request.asked.count → slice_index h.places i ≡ sector_address h.pending.request.asked.frames.items i)) → ⊥
        framed moves places =
            let within : x.number < h.pending.request.asked.count = omega (arith, x.number_in_range, places.0) in
            let here : slice_index h.places x.number ≡ sector_address h.pending.request.asked.frames.items x.number = places.1 x.number within in
            let same : (nth_frame h.pending.request.asked.frames.items (x.number / 8)).0 ≡ frame.0 = omega (arith, here, x.from, x.to, from, to) in
            let whole : nth_frame h.pending.request.asked.frames.items (x.number / 8) ≡ frame = ap (λ n. record { 0 = n }) same in
            let lent : m.lent (nth_frame h.pending.request.asked.frames.items (x.number / 8)) ≡ Some h.pending.request.id = std.lent h.pending h.may_still_move (x.number / 8) (std.framed h.pending h.may_still_move moves x.number within) in
            over_unused (d.port port) slot (over id (ap m.lent (sym whole) ∙ lent ∙ ap Some h.id_is) port slot u) used

        by : (op : Op) → h.pending.request.asked.op ≡ op → ⊥
        by Read is = framed (subst MovesBytes (sym is) tt) (subst (λ (o : Op). AreRequestPlaces o port h.pending.request h.places) is h.means.places_are)
        by Write is = framed (subst MovesBytes (sym is) tt) (subst (λ (o : Op). AreRequestPlaces o port h.pending.request h.places) is h.means.places_are)
        by Trim is = scratch_low port at h.places h.list_is_in_place.port_below (subst (λ (o : Op). AreRequestPlaces o port h.pending.request h.places) is h.means.places_are) past x
        by Flush is =
            let none : h.places ≡ [] = subst (λ (o : Op). AreRequestPlaces o port h.pending.request h.places) is h.means.places_are in
            let n : length h.places ≡ 0 = ap length none in
            omega (arith, n, x.number_in_range)

    -- what the slot's bytes say
    said : (u : SlotState) → uses port slot ≡ u → RelatesSlot m d.memory d.tape (d.port port) port slot u → InUse (d.port port) slot →
        (((d.port port).bases.clb + 32 * slot ≤ at) × (at < (d.port port).bases.clb + 32 * slot + 32)) ⊎ InTableOrPiece d (d.port port) slot at → ⊥
    said Free is h used x = over_unused (d.port port) slot (record { is_not_issued = h.is_not_issued; is_not_taken = h.is_not_taken }) used
    said Armed is h used x = over_unused (d.port port) slot (record { is_not_issued = h.is_not_issued; is_not_taken = h.is_not_taken }) used
    said (Own o) is h used x = scratch_low port at (scratch_frame_address port ∷ []) h.list_is_in_place.port_below refl past (told_low d (d.port port) port slot h.command (scratch_frame_address port ∷ []) at h.list_is_in_place h.slot_decodes_to past x)
    said (Serves id) is h used x = place_over id is h used (told_low d (d.port port) port slot h.command h.places at h.list_is_in_place h.slot_decodes_to past x)

    -- what it has taken
    taken : (u : SlotState) → uses port slot ≡ u → RelatesSlot m d.memory d.tape (d.port port) port slot u → (t : FetchedCommand) → (d.port port).taken slot ≡ Some t → InDataBlocks t.places at → ⊥
    taken Free is h t there x = absurd (none-some _ (sym h.is_not_taken ∙ there))
    taken Armed is h t there x = absurd (none-some _ (sym h.is_not_taken ∙ there))
    taken (Own o) is h t there x = own h.stage
      where
        own : OwnAwaitsFetch (d.port port) slot ⊎ (OwnIsTaken d.memory d.tape (d.port port) port slot h.command ⊎ OwnIsOverWithPageIfSt d.memory d.tape (d.port port) port slot h.command) → ⊥
        own (inl w) = absurd (none-some _ (sym w.is_not_taken ∙ there))
        own (inr (inl y)) = scratch_low port at t.places h.list_is_in_place.port_below (ap (λ (z : FetchedCommand). z.places) (same_Some _ _ (sym there ∙ y.taken)) ∙ y.places_are) past x
        own (inr (inr y)) = absurd (none-some _ (sym y.over.is_not_taken ∙ there))
    taken (Serves id) is h t there x =
        let known : TakenAs d.memory (d.port port) port slot h.pending h.command h.places t = taken_as d.memory (d.port port) port slot h.pending h.command h.places t there h.stage in
        place_over id is h (inr (t, there)) (subst (λ (l : List ℕ). InDataBlocks l at) known.places_are x)

    unused : rules.DeviceOwns d (d.port port) slot at → ⊥
    unused x = ⊎_elim
        (λ (s : InUse (d.port port) slot × ((((d.port port).bases.clb + 32 * slot ≤ at) × (at < (d.port port).bases.clb + 32 * slot + 32)) ⊎ InTableOrPiece d (d.port port) slot at)).
        said (uses port slot) refl (a.relates_slots port slot) s.0 s.1)
        (λ (y : ((t : FetchedCommand) × ((d.port port).taken slot ≡ Some t) × InDataBlocks t.places at) ⊎ (((d.port port).fre ≡ true) × ((d.port port).bases.fb ≤ at) × (at < (d.port port).bases.fb + 256))). ⊎_elim
        (λ (t : (t : FetchedCommand) × ((d.port port).taken slot ≡ Some t) × InDataBlocks t.places at). taken (uses port slot) refl (a.relates_slots port slot) t.0 t.1 t.2)
        (λ (f : ((d.port port).fre ≡ true) × ((d.port port).bases.fb ≤ at) × (at < (d.port port).bases.fb + 256)).
        let r = a.received_areas_in_use_are_placed port f.0 in let p = past in omega (arith, r.area_is_in_place, r.port_is_below_4, f.2, p))
        y)
        x

  still_now : DeviceOwnsNoByteOfFrame frame d
  still_now port slot at from to x = unused port slot at from to x

still_stays : (uses : SlotStates) (m : Machine) (d : Device) (frame : Frame) → IsReachable m → StateRelation uses m d → DRIVER_FRAMES ≤ frame.0 → ((id : RequestId) → m.lent frame ≡ Some id → CommandsAreOver uses d id) → IsStable (DeviceOwnsNoByteOfFrame frame) d
still_stays uses m d frame reached a high over mid s =
    let f : SimulatesSteps uses m d mid = steps_follow uses m d mid reached a s in
    let spares : KeepsLoansAndPendingsOnlyAdvance m (left.after m f.steps) = follows_spare uses m d mid f in
    still_now uses (left.after m f.steps) mid f.state_relation (reached_more m f.steps reached f.steps_are_enabled) frame high (λ id lent port slot u.
    let k : PortBitsOnlyFallFreeSlotsStay (d.port port) (mid.port port) = (law_step_lists_keep_what_steps_keep s).port_bits_only_fall port in
    let o : SlotHasNoCommand (d.port port) slot = over id (ap (λ (lent : Frame → Option RequestId). lent frame) (sym spares.lent) ∙ lent) port slot u in
    record { is_not_issued = k.ci_stays_clear slot o.is_not_issued; is_not_taken = k.slots_stay_free slot o.is_not_issued o.is_not_taken })

pub lent_is_still : (uses : SlotStates) (m : Machine) (d : Device) (frame : Frame) (id : RequestId) → IsReachable m → StateRelation uses m d → m.lent frame ≡ Some id → CommandsAreOver uses d id → IsStable (DeviceOwnsNoByteOfFrame frame) d
lent_is_still uses m d frame id reached a lent over = still_stays uses m d frame reached a (lent_clients m frame id reached lent) (λ other is. subst (CommandsAreOver uses d) (same_id (sym lent ∙ is)) over)
  where
    same_id : {x y : RequestId} → Some x ≡ Some y → x ≡ y
    same_id e = cc

pub unlent_is_still : (uses : SlotStates) (m : Machine) (d : Device) (frame : Frame) → IsReachable m → StateRelation uses m d → m.lent frame ≡ None → DRIVER_FRAMES ≤ frame.0 → IsStable (DeviceOwnsNoByteOfFrame frame) d
unlent_is_still uses m d frame reached a none high = still_stays uses m d frame reached a high (λ id is. absurd (none-some _ (sym none ∙ is)))

-- an idle device, which has nothing in use whatever it does, uses no byte
pub idle_is_still : (d : Device) (frame : Frame) → IsIdle d → IsStable (DeviceOwnsNoByteOfFrame frame) d
idle_is_still d frame idle mid s port slot at from to x =
    let k : PortBitsOnlyFallFreeSlotsStay (d.port port) (mid.port port) = (law_step_lists_keep_what_steps_keep s).port_bits_only_fall port in
    let i : IsIdlePort (d.port port) = idle.ports_are_idle port in
    let none : SlotHasNoCommand (mid.port port) slot = record { is_not_issued = k.ci_stays_clear slot (i.ci_is_clear slot); is_not_taken = k.slots_stay_free slot (i.ci_is_clear slot) (i.none_is_taken slot) } in
    ⊎_elim
    (λ (u : InUse (mid.port port) slot × ((((mid.port port).bases.clb + 32 * slot ≤ at) × (at < (mid.port port).bases.clb + 32 * slot + 32)) ⊎ InTableOrPiece mid (mid.port port) slot at)). over_unused (mid.port port) slot none u.0)
    (λ (y : ((t : FetchedCommand) × ((mid.port port).taken slot ≡ Some t) × InDataBlocks t.places at) ⊎ (((mid.port port).fre ≡ true) × ((mid.port port).bases.fb ≤ at) × (at < (mid.port port).bases.fb + 256))). ⊎_elim
    (λ (t : (t : FetchedCommand) × ((mid.port port).taken slot ≡ Some t) × InDataBlocks t.places at). over_unused (mid.port port) slot none (inr (t.0, t.1)))
    (λ (f : ((mid.port port).fre ≡ true) × ((mid.port port).bases.fb ≤ at) × (at < (mid.port port).bases.fb + 256)). absurd (both_ways _ (k.fre_stays_clear i.fre_is_clear) f.0))
    y)
    x

-- the bytes of a still frame are free
pub still_is_free : (d : Device) (frame : Frame) (offset n : ℕ) → IsStable (DeviceOwnsNoByteOfFrame frame) d → 4096 * frame.0 + 4096 ≤ d.memory_size → offset + n ≤ 4096 → IsStable (IsInMemoryNotOwnedByDevice (4096 * frame.0 + offset) n) d
still_is_free d frame offset n still inside within mid s = record {
  inside = let same : mid.memory_size ≡ d.memory_size = (law_step_lists_keep_what_steps_keep s).memory_size_is_kept in omega (arith, same, inside, within);
  is_not_owned = λ port slot byte from to u. still mid s port slot byte (omega (arith, from)) (omega (arith, to, within)) u;
}

-- no two slots serve one request
pub served_once : (uses : SlotStates) (m : Machine) (d : Device) (port slot : ℕ) (id : RequestId) → StateRelation uses m d → uses port slot ≡ Serves id → SlotHasNoCommand (d.port port) slot → CommandsAreOver uses d id
served_once uses m d port slot id a u over q k v =
    let same = a.serve_distinct_requests port slot q k id u v in
    subst (λ (x : ℕ). SlotHasNoCommand (d.port q) x) same.1 (subst (λ (x : ℕ). SlotHasNoCommand (d.port x) slot) same.0 over)
