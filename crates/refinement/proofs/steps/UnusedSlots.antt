-- What the device leaves of what no slot uses.
use Rattle.std.proofs.Common.{ℕ, ◌≡◌, ◌⊎◌, ◌<◌, ◌≤◌, ◌/◌, Bool, true, false, List, [], ◌∷◌, length, slice_index, Some, refl, sym, ◌∙◌, ap, subst, arith, inl, inr, if◌then◌else◌}
use Rattle.ata_types.specs.declared.request.Op.{Op}
use Rattle.ata_types.specs.declared.request.Op.TheVariants.{Read, Write, Trim, Flush}
use Rattle.ata_types.specs.declared.memory.TheConstants.{DRIVER_FRAMES}
use Rattle.adapter.specs.Commands.{Meaning, reads_memory}
use Rattle.adapter.specs.Device.{FetchedCommand, Device}
use Rattle.adapter.specs.Memory.{patched}
use Rattle.adapter.specs.Steps as steps
use Rattle.adapter.specs.Steps.{Can, device_after, TransitionsLead, Steps, MayMove, next_place, port_after_done_except_lasting}
use Rattle.adapter.specs.Steps.DeviceTransition.{Fetch, FetchFault, Move, Clear, Done, Fault, Fatal, Fall, FrFall, LinkUp, Unplug, Plug, ResetEnds, Scribble}
use Rattle.adapter.specs.declared.command.Operation.{Operation}
use Rattle.adapter.specs.KeptBySteps.{KeepsOverSteps}
use Rattle.adapter.proofs.KeptLemmas.{step_keeps}
use Rattle.adapter.proofs.MemoryLemmas.{patched_apart}
use Rattle.block_machine.specs.Confinement.{MovesBytes}
use Rattle.block_machine.specs.Histories.{IsReachable}
use Rattle.block_machine.specs.Expected as left
use Rattle.block_machine.specs.State.{Accepted, Machine, nth_frame}
use Rattle.block_machine.proofs.HistoryLemmas.{reached_more}
use Rattle.block_machine.proofs.Standing.{standing}
use Rattle.refinement.proofs.relation.SlotRelation.{told_on, block_on}
use Rattle.refinement.specs.MemoryLayout.{command_list_address, scratch_frame_address, sector_address}
use Rattle.refinement.specs.Slots.{SlotDecodesTo, HasBlockIfTrim, SlotState, Free, Own, Serves, SlotStates, MeansRequest, AreRequestPlaces, OwnAwaitsFetch, OwnIsTaken, OwnIsOverWithPageIfSt, RelatesSlot, Armed}
use Rattle.refinement.specs.Relation.{StateRelation}
use Rattle.refinement.specs.Driver.{KeepsTablesAndScratchUnlessOwn}
use Rattle.refinement.specs.Simulation.{SimulatesSteps}
use Rattle.refinement.proofs.relation.WrittenBytes.{MayChange, table_spared, scratch_spared}
use Rattle.refinement.proofs.steps.EndedCommand.{is_trim}
use Rattle.refinement.proofs.steps.FollowedSteps.{step_follows}
use Rattle.refinement.proofs.steps.MovedSector.{TakenAs, taken_as, means_taken, some_same}
use Rattle.refinement.proofs.relation.OtherSlots.{some_none, true_false, scribble_may}
use Rattle.refinement.proofs.relation.ReachedMachine.{client_frame}

-- slot 0 of the port has a command of the driver's own
abbrev HasOwn : SlotStates → ℕ → Type 0
HasOwn uses port = (o : Operation) × (uses port 0 ≡ Own o)

pub same_bytes : (uses : SlotStates) (old new : Device) → new.memory ≡ old.memory → KeepsTablesAndScratchUnlessOwn uses old new
same_bytes uses old new same = record {
  tables = λ port slot a below small t. ap (λ (f : ℕ → ℕ). f a) same;
  scratch = λ port a below own s. ap (λ (f : ℕ → ℕ). f a) same;
}

pub leaves_none : (uses : SlotStates) (d : Device) → KeepsTablesAndScratchUnlessOwn uses d d
leaves_none uses d = same_bytes uses d d refl

pub leaves_more : (uses : SlotStates) (old mid new : Device) → KeepsTablesAndScratchUnlessOwn uses old mid → KeepsTablesAndScratchUnlessOwn uses mid new → KeepsTablesAndScratchUnlessOwn uses old new
leaves_more uses old mid new x y = record {
  tables = λ p s at b c t. y.tables p s at b c t ∙ x.tables p s at b c t;
  scratch = λ p at b o s. y.scratch p at b o s ∙ x.scratch p at b o s;
}

patched_leaves : (uses : SlotStates) (old new : Device) (at : ℕ) (bytes : List ℕ) → MayChange (HasOwn uses) at (length bytes) → new.memory ≡ patched old.memory at bytes → KeepsTablesAndScratchUnlessOwn uses old new
patched_leaves uses old new at bytes may same = record {
  tables = λ port slot a below small t. ap (λ (f : ℕ → ℕ). f a) same ∙ patched_apart old.memory at bytes a (λ low high. table_spared (HasOwn uses) port slot at (length bytes) a below small may t low high);
  scratch = λ port a below own s. ap (λ (f : ℕ → ℕ). f a) same ∙ patched_apart old.memory at bytes a (λ low high. scratch_spared (HasOwn uses) port at (length bytes) a below (λ x. own x.0 x.1) may s low high);
}

-- what no port is excepted from, none of these is
weaken : (uses : SlotStates) (at n : ℕ) → MayChange (λ q. ⊥) at n → MayChange (HasOwn uses) at n
weaken uses at n (inl x) = inl x
weaken uses at n (inr (inl x)) = inr (inl x)
weaken uses at n (inr (inr (inl x))) = absurd x.excepted
weaken uses at n (inr (inr (inr x))) = inr (inr (inr x))

module _ (uses : SlotStates) (m : Machine) (d : Device) (reached : IsReachable m) (a : StateRelation uses m d) where
  move_may : (port slot : ℕ) (t : FetchedCommand) (bytes : List ℕ) → MayMove d port slot t bytes → reads_memory t.meaning.operation ≡ false → MayChange (HasOwn uses) (next_place t) (length bytes)
  move_may port slot t bytes can plain = by (uses port slot) refl (a.relates_slots port slot)
    where
      by : (u : SlotState) → uses port slot ≡ u → RelatesSlot m d.memory d.tape (d.port port) port slot u → MayChange (HasOwn uses) (next_place t) (length bytes)
      by Free u h = some_none can.works.taken h.is_not_taken
      by Armed u h = some_none can.works.taken h.is_not_taken
      by (Own o) u h = own h.stage
        where
          own : OwnAwaitsFetch (d.port port) slot ⊎ (OwnIsTaken d.memory d.tape (d.port port) port slot h.command ⊎ OwnIsOverWithPageIfSt d.memory d.tape (d.port port) port slot h.command) → MayChange (HasOwn uses) (next_place t) (length bytes)
          own (inl x) = some_none can.works.taken x.is_not_taken
          own (inr (inr x)) = some_none can.works.taken x.over.is_not_taken
          own (inr (inl x)) =
              let e : x.command ≡ t = some_same (sym x.taken ∙ can.works.taken) in
              let places : t.places ≡ scratch_frame_address port ∷ [] = ap (λ (y : FetchedCommand). y.places) (sym e) ∙ x.places_are in
              let none : t.moved ≡ 0 = let n : length t.places ≡ 1 = ap length places in let l : t.moved < length t.places = can.piece_is_left in omega (arith, l, n) in
              inr (inr (inl (record {
                port = port;
                below = h.list_is_in_place.port_below;
                excepted = (o, subst (λ (k : ℕ). uses port k ≡ Own o) h.slot_is_0 u);
                here = ap (λ (k : ℕ). slice_index t.places k) none ∙ ap (λ (l : List ℕ). slice_index l 0) places;
                size = can.bytes_are_sector.0;
              })))
      by (Serves id) u h = client h.pending.request.asked.op refl (taken_as d.memory (d.port port) port slot h.pending h.command h.places t can.works.taken h.stage)
        where
          framed : (op : Op) → h.pending.request.asked.op ≡ op → MovesBytes op → ((length t.places ≡ h.pending.request.asked.count) × ((i : ℕ) → i < h.pending.request.asked.count → slice_index t.places i ≡ sector_address h.pending.request.asked.frames.items i)) → MayChange (HasOwn uses) (next_place t) (length bytes)
          framed op is b places =
              let within : t.moved < h.pending.request.asked.count = let l : t.moved < length t.places = can.piece_is_left in omega (arith, l, places.0) in
              let f : DRIVER_FRAMES ≤ (nth_frame h.pending.request.asked.frames.items (t.moved / 8)).0 = client_frame m reached h.pending h.may_still_move (t.moved / 8) ((standing m reached).framed h.pending h.may_still_move (subst MovesBytes (sym is) b) t.moved within) in
              let p : next_place t ≡ sector_address h.pending.request.asked.frames.items t.moved = places.1 t.moved within in
              inr (inr (inr (omega (arith, f, p))))

          means : TakenAs d.memory (d.port port) port slot h.pending h.command h.places t → MeansRequest port slot h.pending.request t.meaning t.places
          means x = means_taken port slot h.pending.request h.command t.meaning h.places t.places x.meaning x.places_are h.means

          client : (op : Op) → h.pending.request.asked.op ≡ op → TakenAs d.memory (d.port port) port slot h.pending h.command h.places t → MayChange (HasOwn uses) (next_place t) (length bytes)
          client Read is x = framed Read is tt (subst (λ (o : Op). AreRequestPlaces o port h.pending.request t.places) is (means x).places_are)
          client Write is x = framed Write is tt (subst (λ (o : Op). AreRequestPlaces o port h.pending.request t.places) is (means x).places_are)
          client Flush is x = absurd (
              let none : t.places ≡ [] = subst (λ (o : Op). AreRequestPlaces o port h.pending.request t.places) is (means x).places_are in
              let n : length t.places ≡ 0 = ap length none in
              let l : t.moved < length t.places = can.piece_is_left in omega (arith, n, l))
          client Trim is x = true_false (ap reads_memory (is_trim t.meaning.operation ((means x).op_is ∙ ap Some is))) plain

  move_leaves : (port slot : ℕ) (t : FetchedCommand) (bytes : List ℕ) → MayMove d port slot t bytes → KeepsTablesAndScratchUnlessOwn uses d (device_after (Move port slot t bytes) d)
  move_leaves port slot t bytes can = by (reads_memory t.meaning.operation) refl
    where
      by : (b : Bool) → reads_memory t.meaning.operation ≡ b → KeepsTablesAndScratchUnlessOwn uses d (device_after (Move port slot t bytes) d)
      by true e = same_bytes uses d (device_after (Move port slot t bytes) d) (ap (λ (b : Bool). if b then d.memory else patched d.memory (next_place t) bytes) e)
      by false e = patched_leaves uses d (device_after (Move port slot t bytes) d) (next_place t) bytes (move_may port slot t bytes can e)
          (ap (λ (b : Bool). if b then d.memory else patched d.memory (next_place t) bytes) e)

  step_leaves : (step : steps.DeviceTransition) → d.hr ≡ false → Can step d → KeepsTablesAndScratchUnlessOwn uses d (device_after step d)
  step_leaves (Move port slot t bytes) calm can = move_leaves port slot t bytes can
  step_leaves (Scribble port slot at bytes) calm can = patched_leaves uses d (device_after (Scribble port slot at bytes) d) at bytes (weaken uses at (length bytes) (scribble_may uses m d a port slot at bytes can).0) refl
  step_leaves (Done port slot flag t) calm can = same_bytes uses d (device_after (Done port slot flag t) d) refl
  step_leaves (Fetch port slot c places) calm can = same_bytes uses d (device_after (Fetch port slot c places) d) refl
  step_leaves (FetchFault port slot queued kept_bits) calm can = same_bytes uses d (device_after (FetchFault port slot queued kept_bits) d) refl
  step_leaves (Clear port slot t first count) calm can = same_bytes uses d (device_after (Clear port slot t first count) d) refl
  step_leaves (Fault port slot error kept_bits t) calm can = same_bytes uses d (device_after (Fault port slot error kept_bits t) d) refl
  step_leaves (Fatal port place) calm can = same_bytes uses d (device_after (Fatal port place) d) refl
  step_leaves (Fall port) calm can = same_bytes uses d (device_after (Fall port) d) refl
  step_leaves (FrFall port) calm can = same_bytes uses d (device_after (FrFall port) d) refl
  step_leaves (LinkUp port sig n) calm can = same_bytes uses d (device_after (LinkUp port sig n) d) refl
  step_leaves (Unplug port) calm can = same_bytes uses d (device_after (Unplug port) d) refl
  step_leaves (Plug port disk) calm can = same_bytes uses d (device_after (Plug port disk) d) refl
  step_leaves ResetEnds calm can = true_false can calm

leads_leave : (uses : SlotStates) (m : Machine) (steps : List steps.DeviceTransition) (old new : Device) → IsReachable m → StateRelation uses m old → old.hr ≡ false → TransitionsLead steps old new → KeepsTablesAndScratchUnlessOwn uses old new
leads_leave uses m [] old new r a calm e = subst (KeepsTablesAndScratchUnlessOwn uses old) (sym e) (leaves_none uses old)
leads_leave uses m (step ∷ steps) old new r a calm (can, lead) =
    let f : SimulatesSteps uses m old (device_after step old) = step_follows uses m old step r a can in
    let x : KeepsTablesAndScratchUnlessOwn uses old (device_after step old) = step_leaves uses m old r a step calm can in
    let k : KeepsOverSteps old (device_after step old) = step_keeps step old can in
    let y : KeepsTablesAndScratchUnlessOwn uses (device_after step old) new = leads_leave uses (left.after m f.steps) steps (device_after step old) new (reached_more m f.steps r f.steps_are_enabled) f.state_relation (k.keeps_outside_reset calm).no_reset lead in
    leaves_more uses old (device_after step old) new x y

pub steps_leave : (uses : SlotStates) (m : Machine) (old new : Device) → IsReachable m → StateRelation uses m old → old.hr ≡ false → Steps old new → KeepsTablesAndScratchUnlessOwn uses old new
steps_leave uses m old new r a calm s = leads_leave uses m s.steps old new r a calm s.lead

-- so what the bytes of a slot say goes on
pub told_is_left : (uses : SlotStates) (old new : Device) → KeepsTablesAndScratchUnlessOwn uses old new → (port slot : ℕ) (c : Meaning) (places : List ℕ) → port < 4 → slot < 32 →
    SlotDecodesTo old.memory (command_list_address port) port slot c places → SlotDecodesTo new.memory (command_list_address port) port slot c places
told_is_left uses old new l port slot c places below small told =
    told_on old.memory new.memory (command_list_address port) (command_list_address port) port slot c places refl refl (λ at t. l.tables port slot at below small t) told

-- and a trim's block stands there, where slot 0 has no command of the driver's own
pub block_is_left : (uses : SlotStates) (old new : Device) → KeepsTablesAndScratchUnlessOwn uses old new → (port : ℕ) (r : Accepted) → port < 4 → ((o : Operation) → uses port 0 ≡ Own o → ⊥) →
    HasBlockIfTrim r.asked.op old.memory port r → HasBlockIfTrim r.asked.op new.memory port r
block_is_left uses old new l port r below own block = block_on r.asked.op old.memory new.memory port r (λ _ at t. l.scratch port at below own t) block
