-- Device and machine agree after a step of one slot.
use Rattle.std.proofs.Common.{ℕ, ◌≡◌, ◌≢◌, ◌<◌, ◌≤◌, ◌+◌, ◌*◌, true, List, length, sym, ◌∙◌, ap, subst, arith, ⊎_elim}
use Rattle.std.proofs.lemmas.Bool.{cases_eq}
use Rattle.ata_types.specs.declared.request.RequestId.{RequestId}
use Rattle.ata_types.specs.declared.memory.TheConstants.{DRIVER_BYTES}
use Rattle.adapter.specs.Memory.{patched, changed}
use Rattle.adapter.specs.Device.{Disk, DevicePort, Device}
use Rattle.adapter.specs.declared.tape.Entry.{Entry}
use Rattle.adapter.proofs.Changed.{changed_same, changed_other}
use Rattle.adapter.proofs.MemoryLemmas.{patched_apart}
use Rattle.block_machine.specs.State.{Pending, Machine}
use Rattle.block_machine.specs.Steps.{IsIssuedOrKept}
use Rattle.refinement.specs.Slots.{Serves, SlotStates, RelatesSlot}
use Rattle.refinement.specs.Relation.{StateRelation, port_at, IsDiskOf, SameSectors, KnowsAllReplugCandidates, SameClientFrames, HasReceivedArea, ServeDistinctRequests}
use Rattle.refinement.proofs.relation.SlotRelation.{SameSlot, SameFixed, slots_after}
use Rattle.refinement.proofs.relation.TouchesAndEnds.{Goes}

-- a function changed at one place, where the others are known to be others
pub changed_at : {A : Type 0} (f : ℕ → A) (place : ℕ) (new : A) (P : ℕ → A → Type 0) → P place new → ((k : ℕ) → k ≢ place → P k (f k)) → (k : ℕ) → P k (changed f place new k)
changed_at {A} f place new P here others k = ⊎_elim
    (λ (e : k ≡ place). subst (λ (x : ℕ). P x (changed f place new x)) (sym e) (subst (λ (v : A). P place v) (sym (changed_same f place new)) here))
    (λ (ne : k ≡ place → ⊥). subst (λ (v : A). P k v) (sym (changed_other f place new k ne)) (others k ne))
    (cases_eq k place)

pub sectors_on : (m m' : Machine) (disk : Disk) (port : ℕ) → ((k b : ℕ) → b < 512 → m'.disk_bytes (port_at port) k b ≡ m.disk_bytes (port_at port) k b) → SameSectors m disk port → SameSectors m' disk port
sectors_on m m' disk port same s = record { told_sectors = s.told_sectors; disk_tells = s.disk_tells; bytes_are_same = λ k b kl bl. s.bytes_are_same k b kl bl ∙ sym (same k b bl) }

-- What a step of one slot has to show.
pub record Acts (Except : ℕ → Type 0) (uses : SlotStates) (m m' : Machine) (d : Device) (memory' : ℕ → ℕ) (later : List Entry) (port slot : ℕ) (new : DevicePort) : Type 0 where
  pub id : RequestId
  pub goes : Goes m m' id
  pub moves : (port' slot' : ℕ) (id' : RequestId) → uses port' slot' ≡ Serves id' → (port' ≡ port → slot' ≡ slot → ⊥) → (e : Pending) → e.request.id ≡ id' → IsIssuedOrKept m e → IsIssuedOrKept m' e
  pub only : (q : ℕ) → Except q → (q ≡ port) × (slot ≡ 0)
  pub fixed : SameFixed Except uses d.memory memory' d.tape later
  pub others : (k : ℕ) → k ≢ slot → SameSlot (d.port port) new k
  pub here : RelatesSlot m' memory' later new port slot (uses port slot)
  pub fre : new.fre ≡ (d.port port).fre
  pub received_at : new.bases.fb ≡ (d.port port).bases.fb
  pub present : new.present ≡ (d.port port).present
  pub name : new.disk.name ≡ (d.port port).disk.name
  pub size : new.disk.sector_count ≡ (d.port port).disk.sector_count
  pub sectors : d.disks_tell_sectors ≡ true → SameSectors m' new.disk port
  pub other_sectors : d.disks_tell_sectors ≡ true → (q : ℕ) → q ≢ port → SameSectors m' (d.port q).disk q
  pub lasting : d.disks_tell_sectors ≡ true → KnowsAllReplugCandidates m' later new port
  pub other_lasting : d.disks_tell_sectors ≡ true → (q : ℕ) → q ≢ port → KnowsAllReplugCandidates m' later (d.port q) q
  pub memory : SameClientFrames m' memory'

pub acted : (Except : ℕ → Type 0) (uses : SlotStates) (m m' : Machine) (d : Device) (a : StateRelation uses m d) (memory' : ℕ → ℕ) (later : List Entry) (port slot : ℕ) (new : DevicePort) →
    Acts Except uses m m' d memory' later port slot new → StateRelation uses m' (record d { memory = memory'; port = changed d.port port new; tape = later })
acted Except uses m m' d a memory' later port slot new x = record {
  relates_slots = slots_after Except uses m m' d a memory' later x.fixed port slot new x.others x.only x.moves x.here;
  serve_distinct_requests = a.serve_distinct_requests;
  received_areas_in_use_are_placed = changed_at d.port port new (λ q p. p.fre ≡ true → HasReceivedArea p q)
      (λ f. let r = a.received_areas_in_use_are_placed port (sym x.fre ∙ f) in record { port_is_below_4 = r.port_is_below_4; area_is_in_place = x.received_at ∙ r.area_is_in_place }) (λ q _. a.received_areas_in_use_are_placed q);
  disks_are_same = changed_at d.port port new (λ q p. IsDiskOf m' p q)
      (record {
        present = x.goes.present (port_at port) ∙ (a.disks_are_same port).present ∙ sym x.present;
        id = x.goes.ids (port_at port) ∙ (a.disks_are_same port).id ∙ sym x.name;
        sector_count = x.goes.sizes (port_at port) ∙ (a.disks_are_same port).sector_count ∙ sym x.size;
      })
      (λ q _. record {
        present = x.goes.present (port_at q) ∙ (a.disks_are_same q).present;
        id = x.goes.ids (port_at q) ∙ (a.disks_are_same q).id;
        sector_count = x.goes.sizes (port_at q) ∙ (a.disks_are_same q).sector_count;
      });
  client_frames_are_same = x.memory;
  sectors_are_same_if_disks_tell = λ t. changed_at d.port port new (λ q p. SameSectors m' p.disk q) (x.sectors t) (x.other_sectors t);
  knows_replug_candidates_if_disks_tell = λ t. changed_at d.port port new (λ q p. KnowsAllReplugCandidates m' later p q) (x.lasting t) (x.other_lasting t);
}

-- another slot's request is another
pub other_id : (uses : SlotStates) (port slot : ℕ) (id : RequestId) (port' slot' : ℕ) (id' : RequestId) → ServeDistinctRequests uses →
    uses port slot ≡ Serves id → uses port' slot' ≡ Serves id' → (port' ≡ port → slot' ≡ slot → ⊥) → id' ≢ id
other_id uses port slot id port' slot' id' apart u v ne e =
    let r = apart port' slot' port slot id (v ∙ ap Serves e) u in ne r.0 r.1

pub others_move : (uses : SlotStates) (m m' : Machine) (d : Device) (a : StateRelation uses m d) (port slot : ℕ) (id : RequestId) → uses port slot ≡ Serves id → Goes m m' id →
    (port' slot' : ℕ) (id' : RequestId) → uses port' slot' ≡ Serves id' → (port' ≡ port → slot' ≡ slot → ⊥) → (e : Pending) → e.request.id ≡ id' → IsIssuedOrKept m e → IsIssuedOrKept m' e
others_move uses m m' d a port slot id u goes port' slot' id' v ne e is r =
    goes.moves e (λ same. other_id uses port slot id port' slot' id' a.serve_distinct_requests u v ne (sym is ∙ same)) r

-- bytes below the clients' frames
pub memory_low : (m : Machine) (memory : ℕ → ℕ) (at : ℕ) (bytes : List ℕ) → at + length bytes ≤ DRIVER_BYTES → SameClientFrames m memory → SameClientFrames m (patched memory at bytes)
memory_low m memory at bytes low same frame b from small =
    patched_apart memory at bytes (4096 * frame.0 + b) (λ l h. omega (arith, low, l, h, from)) ∙ same frame b from small
