-- Clients store into their frames, and load from them.
use Rattle.std.proofs.Common.{ℕ, ◌≡◌, ◌<◌, ◌≤◌, ◌+◌, ◌*◌, List, [], ◌∷◌, length, slice_index, Option, refl, sym, ◌∙◌, ap, subst, inr, ⊎_elim, arith}
use Rattle.std.proofs.lemmas.Bool.{cases_lt}
use Rattle.ata_types.specs.declared.refusal.MemFault.TheVariants.{FrameForeign, OutsideFrame}
use Rattle.ata_types.specs.declared.request.ClientId.{ClientId}
use Rattle.ata_types.specs.declared.request.Frame.{Frame}
use Rattle.ata_types.specs.declared.request.RequestId.{RequestId}
use Rattle.ata_types.specs.declared.memory.TheConstants.{DRIVER_FRAMES}
use Rattle.adapter.specs.Access.{Loads, Stores}
use Rattle.adapter.specs.Device.{Device}
use Rattle.adapter.specs.Memory.{patched}
use Rattle.adapter.proofs.MemoryLemmas.{bytes_index}
use Rattle.block_machine.specs.Histories.{IsReachable}
use Rattle.block_machine.specs.Expected as left
use Rattle.block_machine.specs.Expected.{IsInitial}
use Rattle.block_machine.specs.Refusals.{MayAccessFrame}
use Rattle.block_machine.specs.State.{Machine}
use Rattle.block_machine.specs.Steps.{Store, Load, IsEnabled, after_step}
use Rattle.block_machine.proofs.Configured.{owners_stay}
use Rattle.block_machine.proofs.Limits.{owned}
use Rattle.refinement.specs.StepLaws.{StepLaws}
use Rattle.refinement.specs.Relation.{StateRelation}
use Rattle.refinement.specs.Driver.{DriverState, DriverRelation, TapeBacksSteps, EndsInOneStep}
use Rattle.refinement.specs.Simulation.{SimulatesSteps}
use Rattle.refinement.specs.Slots.{SlotStates}
use Rattle.refinement.proofs.driver.AddedSteps.{backed, backed_then}
use Rattle.refinement.proofs.relation.WrittenBytes.{fixed_stays}
use Rattle.refinement.proofs.driver.IssueWrite.{own_backed}
use Rattle.refinement.proofs.steps.FollowedSteps.{steps_follow}
use Rattle.refinement.proofs.steps.WrittenSector.{memory_put}
use Rattle.refinement.proofs.relation.SlotRelation.{SameSlot-refl, GainsNone-refl, NoPort, slot_on}
use Rattle.refinement.proofs.steps.SparedBook.{follows_spare}
use Rattle.refinement.proofs.steps.WaitingRequests.{tells_device, follows_have}

-- ---- loans and owners stay while the device goes on

pub open_stays : (uses : SlotStates) (m : Machine) (old new : Device) (f : SimulatesSteps uses m old new) (client : ClientId) (frame : Frame) (offset n : ℕ) → MayAccessFrame m.owner m.lent client frame offset n →
    MayAccessFrame (left.after m f.steps).owner (left.after m f.steps).lent client frame offset n
open_stays uses m old new f client frame offset n opens =
    let s = follows_spare uses m old new f in
    subst (λ (o : Frame → Option ClientId). MayAccessFrame o (left.after m f.steps).lent client frame offset n) (sym s.owner)
    (subst (λ (l : Frame → Option RequestId). MayAccessFrame m.owner l client frame offset n) (sym s.lent) opens)

-- the frame is a client's, and the bytes are in it
pub open_in : (m : Machine) → IsReachable m → (client : ClientId) (frame : Frame) (offset n : ℕ) → MayAccessFrame m.owner m.lent client frame offset n → (DRIVER_FRAMES ≤ frame.0) × (offset + n ≤ 4096)
open_in m r client frame offset n opens = (
  (r.is_initial.owned_frames_are_clients frame client (sym (owners_stay r.initial_machine r.steps_since frame) ∙ ap (λ (x : Machine). x.owner frame) (sym r.leads_to_machine) ∙ owned (m.owner frame) client (opens FrameForeign))).2,
  ⊎_elim (λ (l : 4096 < offset + n). absurd (opens OutsideFrame l)) (λ (g : offset + n ≤ 4096). g) (cases_lt 4096 (offset + n)),
)

-- ---- a store

stored_on : (uses : SlotStates) (m : Machine) (d : Device) → IsReachable m → StateRelation uses m d → (client : ClientId) (frame : Frame) (offset : ℕ) (bytes : List ℕ) → MayAccessFrame m.owner m.lent client frame offset (length bytes) →
    StateRelation uses (after_step m (Store client frame offset bytes)) (record d { memory = patched d.memory (4096 * frame.0 + offset) bytes })
stored_on uses m d reached a client frame offset bytes opens =
    let x = open_in m reached client frame offset (length bytes) opens in
    let at : ℕ = 4096 * frame.0 + offset in
    let fixed = fixed_stays NoPort uses d.memory (4096 * frame.0 + offset) bytes d.tape d.tape (inr (inr (inr (omega (arith, x.0))))) (λ q o u out. GainsNone-refl d.tape q o) in
    record {
      relates_slots = λ q k. slot_on NoPort uses m (after_step m (Store client frame offset bytes)) d a (patched d.memory (4096 * frame.0 + offset) bytes) d.tape fixed q k (d.port q) (SameSlot-refl (d.port q) k) (λ _ z. z) (λ id u e _ r. r);
      serve_distinct_requests = a.serve_distinct_requests;
      received_areas_in_use_are_placed = a.received_areas_in_use_are_placed;
      disks_are_same = λ q. record { present = (a.disks_are_same q).present; id = (a.disks_are_same q).id; sector_count = (a.disks_are_same q).sector_count };
      client_frames_are_same = λ f b from small. memory_put m d.memory (4096 * frame.0 + offset) frame offset bytes refl x.1 a.client_frames_are_same f b from small;
      sectors_are_same_if_disks_tell = λ t q. let s = a.sectors_are_same_if_disks_tell t q in record { told_sectors = s.told_sectors; disk_tells = s.disk_tells; bytes_are_same = s.bytes_are_same };
      knows_replug_candidates_if_disks_tell = a.knows_replug_candidates_if_disks_tell;
    }

pub client_stores : StepLaws → (k : DriverState) (m : Machine) (client : ClientId) (frame : Frame) (offset : ℕ) (bytes : List ℕ) (new : Device) → IsReachable m → DriverRelation m k → IsEnabled m (Store client frame offset bytes) →
    Stores (4096 * frame.0 + offset) bytes k.device new → EndsInOneStep k m (Store client frame offset bytes) (record k { device = new })
client_stores laws k m client frame offset bytes new r knows may call =
    let f : SimulatesSteps k.slot_states m k.device call.at_access = steps_follow k.slot_states m k.device call.at_access r knows.state_relation call.steps in
    let later : IsReachable (left.after m f.steps) = laws.reachable_goes_on m f.steps r f.steps_are_enabled in
    let opens = open_stays k.slot_states m k.device call.at_access f client frame offset (length bytes) may in
    let first : TapeBacksSteps k.device call.at_access m f.steps = backed k.slot_states m k.device call.at_access f in
    let all : TapeBacksSteps k.device call.at_access m (Store client frame offset bytes ∷ f.steps) = backed_then k.device call.at_access call.at_access m f.steps (Store client frame offset bytes ∷ []) first (own_backed call.at_access (left.after m f.steps) (Store client frame offset bytes) (λ z. z)) in
    record {
      steps = f.steps;
      all_steps_are_by_device = tells_device m f.new_entries f.steps f.tape_tells_steps;
      steps_are_enabled = (f.steps_are_enabled, opens);
      is_backed = subst (λ (d : Device). TapeBacksSteps k.device d m (Store client frame offset bytes ∷ f.steps)) (sym call.effect)
          (record { disks_tell_sectors_is_same = all.disks_tell_sectors_is_same; new_entries = all.new_entries; tape_is = all.tape_is; tells_device_steps = all.tells_device_steps; steps_are_faithful = all.steps_are_faithful; plugged_disks_match_steps = all.plugged_disks_match_steps });
      driver_relation = record {
        state_relation = subst (λ (d : Device). StateRelation k.slot_states (after_step (left.after m f.steps) (Store client frame offset bytes)) d) (sym call.effect)
            (stored_on k.slot_states (left.after m f.steps) call.at_access later f.state_relation client frame offset bytes opens);
        have_slots_unless_parked = λ q. follows_have k.slot_states m k.device call.at_access f q (k.awaiting_disposition q) (knows.have_slots_unless_parked q);
      };
    }

-- ---- a load

pub client_loads : StepLaws → (k : DriverState) (m : Machine) (client : ClientId) (frame : Frame) (offset : ℕ) (bytes : List ℕ) (new : Device) → IsReachable m → DriverRelation m k → MayAccessFrame m.owner m.lent client frame offset (length bytes) →
    Loads (4096 * frame.0 + offset) bytes k.device new → EndsInOneStep k m (Load client frame offset bytes) (record k { device = new })
client_loads laws k m client frame offset bytes new r knows may call =
    let f : SimulatesSteps k.slot_states m k.device new = steps_follow k.slot_states m k.device new r knows.state_relation call.steps in
    let later : IsReachable (left.after m f.steps) = laws.reachable_goes_on m f.steps r f.steps_are_enabled in
    let opens = open_stays k.slot_states m k.device new f client frame offset (length bytes) may in
    let x = open_in (left.after m f.steps) later client frame offset (length bytes) opens in
    let first : TapeBacksSteps k.device new m f.steps = backed k.slot_states m k.device new f in
    record {
      steps = f.steps;
      all_steps_are_by_device = tells_device m f.new_entries f.steps f.tape_tells_steps;
      steps_are_enabled = (
        f.steps_are_enabled,
        (
          opens,
          λ b lt.
              ap (λ (l : List ℕ). slice_index l b) call.shows
              ∙ bytes_index new.memory (4096 * frame.0 + offset) (length bytes) b lt
              ∙ ap new.memory (let e : 4096 * frame.0 + offset + b ≡ 4096 * frame.0 + (offset + b) = omega arith in e)
              ∙ f.state_relation.client_frames_are_same frame (offset + b) x.0 (let y = x.1 in omega (arith, y, lt)),
        ),
      );
      is_backed = backed_then k.device new new m f.steps (Load client frame offset bytes ∷ []) first (own_backed new (left.after m f.steps) (Load client frame offset bytes) (λ z. z));
      driver_relation = record {
        state_relation = let a = f.state_relation in record { relates_slots = a.relates_slots; serve_distinct_requests = a.serve_distinct_requests; received_areas_in_use_are_placed = a.received_areas_in_use_are_placed; disks_are_same = a.disks_are_same; client_frames_are_same = a.client_frames_are_same; sectors_are_same_if_disks_tell = a.sectors_are_same_if_disks_tell; knows_replug_candidates_if_disks_tell = a.knows_replug_candidates_if_disks_tell };
        have_slots_unless_parked = λ q. follows_have k.slot_states m k.device new f q (k.awaiting_disposition q) (knows.have_slots_unless_parked q);
      };
    }
