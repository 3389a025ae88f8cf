-- An adapter's device, a block machine, and what the driver has put into the slots (this project's own).
use Rattle.std.specs.Prelude.{ℕ, true, ◌≡◌, ◌⊎◌, ◌+◌, ◌*◌, ◌<◌, ◌≤◌, List, Some, Contains, slice_index}
use Rattle.ata_types.specs.declared.Port.{Port}
use Rattle.ata_types.specs.declared.memory.TheConstants.{DRIVER_FRAMES, FRAME_BYTES}
use Rattle.ata_types.specs.declared.request.Frame.{Frame}
use Rattle.ata_types.specs.declared.request.RequestId.{RequestId}
use Rattle.adapter.specs.Device.{Disk, DevicePort, Device}
use Rattle.adapter.specs.Steps.{WereHeldSinceFlush}
use Rattle.adapter.specs.declared.tape.Entry.{Entry}
use Rattle.block_machine.specs.State.{Pending, Machine}
use Rattle.block_machine.specs.Steps.{IsIssuedOrKept, HoldsOrHeldSinceFlush}
use Rattle.refinement.specs.MemoryLayout.{received_fis_address}
use Rattle.refinement.specs.Slots.{Serves, SlotStates, RelatesSlot}

-- the port of a number
abbrev pub port_at : ℕ → Port
port_at n = record { 0 = n }

-- The received FIS area is in its place.
pub record HasReceivedArea (p : DevicePort) (port : ℕ) : Type 0 where
  pub port_is_below_4 : port < 4
  pub area_is_in_place : p.bases.fb ≡ received_fis_address port

-- The machine's disk is the port's: whether it is in, which one it is, and how many sectors it has.
pub record IsDiskOf (m : Machine) (p : DevicePort) (port : ℕ) : Type 0 where
  pub present : m.present (port_at port) ≡ p.present
  pub id : m.disk_ids (port_at port) ≡ p.disk.name
  pub sector_count : m.sizes (port_at port) ≡ p.disk.sector_count

-- The disk has specified contents, and its sectors hold what the machine's do.
pub record SameSectors (m : Machine) (disk : Disk) (port : ℕ) : Type 0 where
  pub told_sectors : ℕ → List ℕ
  pub disk_tells : disk.sectors ≡ Some told_sectors
  pub bytes_are_same : (k b : ℕ) → k < disk.sector_count → b < 512
      → slice_index (told_sectors k) b ≡ m.disk_bytes (port_at port) k b

-- what a sector of the port's disk may come back with, the machine's disk holds there, or held since its last flush
abbrev pub KnowsAllReplugCandidates : Machine → List Entry → DevicePort → ℕ → Type 0
KnowsAllReplugCandidates m tape p port = (k : ℕ) → k < p.disk.sector_count → (bytes : List ℕ)
    → WereHeldSinceFlush tape p.lasting port k bytes
    → HoldsOrHeldSinceFlush m (port_at port) k (slice_index bytes)

-- each client frame holds what the machine's does
abbrev pub SameClientFrames : Machine → (ℕ → ℕ) → Type 0
SameClientFrames m memory = (frame : Frame) (b : ℕ) → DRIVER_FRAMES ≤ frame.0 → b < FRAME_BYTES
    → memory (FRAME_BYTES * frame.0 + b) ≡ m.memory frame b

-- no two slots serve one request
abbrev pub ServeDistinctRequests : SlotStates → Type 0
ServeDistinctRequests uses = (port slot other_port other_slot : ℕ) (id : RequestId) → uses port slot ≡ Serves id
    → uses other_port other_slot ≡ Serves id → (port ≡ other_port) × (slot ≡ other_slot)

-- Device and machine agree. Each slot is as its use says, each received FIS area that is in use is in its place, disks
-- are the same, and client frames hold the same bytes. If the adapter's disks have specified contents, their sectors
-- hold the same bytes, and the machine knows what those disks may come back with.
pub record StateRelation (uses : SlotStates) (m : Machine) (d : Device) : Type 0 where
  pub relates_slots : (port slot : ℕ) → RelatesSlot m d.memory d.tape (d.port port) port slot (uses port slot)
  pub serve_distinct_requests : ServeDistinctRequests uses
  pub received_areas_in_use_are_placed : (port : ℕ) → (d.port port).fre ≡ true → HasReceivedArea (d.port port) port
  pub disks_are_same : (port : ℕ) → IsDiskOf m (d.port port) port
  pub client_frames_are_same : SameClientFrames m d.memory
  pub sectors_are_same_if_disks_tell : d.disks_tell_sectors ≡ true → (port : ℕ) → SameSectors m (d.port port).disk port
  pub knows_replug_candidates_if_disks_tell : d.disks_tell_sectors ≡ true → (port : ℕ)
      → KnowsAllReplugCandidates m d.tape (d.port port) port

-- ---- what stands beside it, by port

-- Each request of the port that is issued or kept has a slot, except those with these ids: their slots were given up
-- before the requests were decided.
abbrev pub HaveSlotsUnlessParked : SlotStates → Machine → ℕ → List RequestId → Type 0
HaveSlotsUnlessParked uses m port parked = (e : Pending) → IsIssuedOrKept m e → e.request.port.0 ≡ port
    → Contains parked e.request.id ⊎ ((slot : ℕ) × (uses port slot ≡ Serves e.request.id))
