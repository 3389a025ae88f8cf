-- A call of the adapter: what the device does first is followed, and then the call's effect leaves the two in agreement.
use Rattle.std.proofs.Common.{ℕ, ◌≡◌, List, length, refl, sym, ◌∙◌, subst}
use Rattle.hba_regs.specs.declared.reg.Reg.{Reg}
use Rattle.hba_regs.specs.declared.reg.Reg.TheVariants.{Cap, Ghc, Is, Pi, Vs, Cap2, Bohc, Px}
use Rattle.adapter.specs.Memory.{patched}
use Rattle.adapter.specs.Device.{DevicePort, Device}
use Rattle.adapter.specs.Access.{Reads, Loads, Stores, device_after_reading, notes_after_reading}
use Rattle.hba_regs.specs.declared.reg.PortReg.{PortReg}
use Rattle.hba_regs.specs.declared.reg.PortReg.TheVariants as px
use Rattle.block_machine.specs.State.{Machine}
use Rattle.block_machine.specs.Expected as left
use Rattle.block_machine.specs.Histories.{IsReachable}
use Rattle.refinement.specs.Slots.{SlotStates}
use Rattle.refinement.specs.Relation.{StateRelation}
use Rattle.refinement.specs.Driver.{IsInMemoryOfFreeSlot}
use Rattle.refinement.specs.Simulation.{SimulatesSteps}
use Rattle.refinement.proofs.relation.SlotRelation.{SameSlot-refl, SameFixed-refl, NoPort, slot_on}
use Rattle.refinement.proofs.relation.OneSlot.{memory_low}
use Rattle.refinement.proofs.relation.LastingSectors.{gains_none}
use Rattle.refinement.proofs.relation.OtherSlots.{empty_port, same_plugged}
use Rattle.refinement.proofs.relation.WrittenBytes.{stored_fixed, stored_low}
use Rattle.refinement.proofs.steps.FollowedSteps.{steps_follow}

-- an effect that writes no tape and puts no disk in
pub effect_on : (uses others : SlotStates) (m : Machine) (old mid new : Device) → (f : SimulatesSteps uses m old mid) → new.disks_tell_sectors ≡ mid.disks_tell_sectors → new.tape ≡ mid.tape → ((q : ℕ) → (new.port q).plug_history ≡ (mid.port q).plug_history) →
    StateRelation others (left.after m f.steps) new → SimulatesSteps others m old new
effect_on uses others m old mid new f disks_tell_sectors tape plugged agrees = record {
  disks_tell_sectors_is_same = disks_tell_sectors ∙ f.disks_tell_sectors_is_same;
  steps = f.steps;
  steps_are_enabled = f.steps_are_enabled;
  steps_are_faithful = f.steps_are_faithful;
  new_entries = f.new_entries;
  tape_is = tape ∙ f.tape_is;
  tape_tells_steps = f.tape_tells_steps;
  plugged_disks_match_steps = λ q. let x = f.plugged_disks_match_steps q in (x.0, plugged q ∙ x.1, x.2);
  state_relation = agrees;
}

-- a reading doesn't touch when ST was set, nor when SCTL was written
pub note_times : (r : PortReg) (v : ℕ) (p : DevicePort) → ((notes_after_reading r v p).st_set_at ≡ p.notes.st_set_at) × ((notes_after_reading r v p).sctl_written_at ≡ p.notes.sctl_written_at)
note_times px.Clb v p = (refl, refl)
note_times px.Clbu v p = (refl, refl)
note_times px.Fb v p = (refl, refl)
note_times px.Fbu v p = (refl, refl)
note_times px.Is v p = (refl, refl)
note_times px.Ie v p = (refl, refl)
note_times px.Cmd v p = (refl, refl)
note_times px.Tfd v p = (refl, refl)
note_times px.Sig v p = (refl, refl)
note_times px.Ssts v p = (refl, refl)
note_times px.Sctl v p = (refl, refl)
note_times px.Serr v p = (refl, refl)
note_times px.Sact v p = (refl, refl)
note_times px.Ci v p = (refl, refl)

noted_agrees : (uses : SlotStates) (m : Machine) (r : Reg) (v : ℕ) (d : Device) → StateRelation uses m d → StateRelation uses m (device_after_reading r v d)
noted_agrees uses m (Px port r) v d a =
    empty_port uses m d a port.0 _ d.tape (SameFixed-refl uses d.memory d.tape) (gains_none d.tape m)
    (record { slots = λ k. record { issued = refl; sact = refl; taken = refl; st = refl; cr = refl; since = (note_times r v (d.port port.0)).0; list = refl }; fre = refl; received_at = refl; present = refl; disk = refl })
noted_agrees uses m Cap v d a = a
noted_agrees uses m Ghc v d a = a
noted_agrees uses m Is v d a = a
noted_agrees uses m Pi v d a = a
noted_agrees uses m Vs v d a = a
noted_agrees uses m Cap2 v d a = a
noted_agrees uses m Bohc v d a = a

pub noted_telling : (r : Reg) (v : ℕ) (d : Device) → (device_after_reading r v d).disks_tell_sectors ≡ d.disks_tell_sectors
noted_telling (Px port r) v d = refl
noted_telling Cap v d = refl
noted_telling Ghc v d = refl
noted_telling Is v d = refl
noted_telling Pi v d = refl
noted_telling Vs v d = refl
noted_telling Cap2 v d = refl
noted_telling Bohc v d = refl

pub noted_tape : (r : Reg) (v : ℕ) (d : Device) → (device_after_reading r v d).tape ≡ d.tape
noted_tape (Px port r) v d = refl
noted_tape Cap v d = refl
noted_tape Ghc v d = refl
noted_tape Is v d = refl
noted_tape Pi v d = refl
noted_tape Vs v d = refl
noted_tape Cap2 v d = refl
noted_tape Bohc v d = refl

noted_plugged : (r : Reg) (v : ℕ) (d : Device) (q : ℕ) → ((device_after_reading r v d).port q).plug_history ≡ (d.port q).plug_history
noted_plugged (Px port r) v d q = same_plugged d port.0 _ refl q
noted_plugged Cap v d q = refl
noted_plugged Ghc v d q = refl
noted_plugged Is v d q = refl
noted_plugged Pi v d q = refl
noted_plugged Vs v d q = refl
noted_plugged Cap2 v d q = refl
noted_plugged Bohc v d q = refl

pub read_follows : (uses : SlotStates) (m : Machine) (r : Reg) (v : ℕ) (old new : Device) → IsReachable m → StateRelation uses m old → Reads r v old new → SimulatesSteps uses m old new
read_follows uses m r v old new reached a call =
    let f : SimulatesSteps uses m old call.at_access = steps_follow uses m old call.at_access reached a call.steps in
    subst (λ (d : Device). SimulatesSteps uses m old d) (sym call.effect)
    (effect_on uses uses m old call.at_access (device_after_reading r v call.at_access) f (noted_telling r v call.at_access) (noted_tape r v call.at_access) (noted_plugged r v call.at_access) (noted_agrees uses (left.after m f.steps) r v call.at_access f.state_relation))

pub load_follows : (uses : SlotStates) (m : Machine) (at : ℕ) (bytes : List ℕ) (old new : Device) → IsReachable m → StateRelation uses m old → Loads at bytes old new → SimulatesSteps uses m old new
load_follows uses m at bytes old new reached a call = steps_follow uses m old new reached a call.steps

-- a store by the driver, where no slot in use rests
stored_agrees : (uses : SlotStates) (m : Machine) (d : Device) (at : ℕ) (bytes : List ℕ) → StateRelation uses m d → IsInMemoryOfFreeSlot uses at (length bytes) → StateRelation uses m (record d { memory = patched d.memory at bytes })
stored_agrees uses m d at bytes a may = record {
  relates_slots = λ q k. slot_on NoPort uses m m d a (patched d.memory at bytes) d.tape (stored_fixed uses d.memory at bytes d.tape may) q k (d.port q) (SameSlot-refl (d.port q) k) (λ _ x. x) (λ id u e _ r. r);
  serve_distinct_requests = a.serve_distinct_requests;
  received_areas_in_use_are_placed = a.received_areas_in_use_are_placed;
  disks_are_same = a.disks_are_same;
  client_frames_are_same = memory_low m d.memory at bytes (stored_low uses at (length bytes) may) a.client_frames_are_same;
  sectors_are_same_if_disks_tell = a.sectors_are_same_if_disks_tell;
  knows_replug_candidates_if_disks_tell = a.knows_replug_candidates_if_disks_tell;
}

pub store_follows : (uses : SlotStates) (m : Machine) (at : ℕ) (bytes : List ℕ) (old new : Device) → IsReachable m → StateRelation uses m old → IsInMemoryOfFreeSlot uses at (length bytes) → Stores at bytes old new → SimulatesSteps uses m old new
store_follows uses m at bytes old new reached a may call =
    let f : SimulatesSteps uses m old call.at_access = steps_follow uses m old call.at_access reached a call.steps in
    subst (λ (d : Device). SimulatesSteps uses m old d) (sym call.effect)
    (effect_on uses uses m old call.at_access (record call.at_access { memory = patched call.at_access.memory at bytes }) f refl refl (λ q. refl) (stored_agrees uses (left.after m f.steps) call.at_access at bytes f.state_relation may))
