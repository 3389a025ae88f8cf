-- An adapter with one command in use.
use Rattle.std.specs.Prelude.{ℕ, Bool, false, true, ◌≡◌, ◌≢◌, ◌+◌, ◌*◌, ◌<◌, ◌≤◌, ◌&&◌, ◌||◌, not, List, [], ◌∷◌, length, None, Some, nat_le, nat_lt}
use Rattle.ata_types.specs.declared.memory.TheConstants.{HEADER_BYTES, PRD_BYTES, RECEIVED_FIS_BYTES, TABLE_HEAD_BYTES}
use Rattle.adapter.specs.Commands.{Meaning}
use Rattle.adapter.specs.Device.{FetchedCommand, DevicePort, Device}
use Rattle.adapter.specs.Idle.{IsIdlePort}
use Rattle.adapter.specs.Rules.{InUse}
use Rattle.adapter.specs.Decoding.{DecodesTo}

-- The places of a command in memory: its header, its table with this number of entries, its pieces, and its port's
-- received FIS area.
pub record CommandLayout : Type 0 where
  pub header : ℕ
  pub table : ℕ
  pub prd_count : ℕ
  pub places : List ℕ
  pub received_fis_area : ℕ

-- The byte is one of this many, from an address on.
abbrev pub is_in_span : ℕ → ℕ → ℕ → Bool
is_in_span first n at = nat_le first at && nat_lt at (first + n)

-- the byte is one of a piece
abbrev pub is_in_pieces : List ℕ → ℕ → Bool
is_in_pieces [] at = false
is_in_pieces (place ∷ places) at = is_in_span place 512 at || is_in_pieces places at

-- A byte that the device only reads: one of the header, except PRDBC, or of the table.
abbrev pub is_read_only : CommandLayout → ℕ → Bool
is_read_only s at = is_in_span s.header 4 at || is_in_span (s.header + 8) 24 at
    || is_in_span s.table (TABLE_HEAD_BYTES + PRD_BYTES * s.prd_count) at

-- a byte that the device may write: of PRDBC, of a piece, or of the received FIS area
abbrev pub is_device_writable : CommandLayout → ℕ → Bool
is_device_writable s at = is_in_span
    (s.header + 4) 4 at || is_in_pieces s.places at || is_in_span s.received_fis_area RECEIVED_FIS_BYTES at

-- every byte that the device doesn't write
abbrev pub is_not_device_writable : CommandLayout → ℕ → Bool
is_not_device_writable s at = not (is_device_writable s at)

-- a slot with no command, neither issued nor taken
pub record SlotHasNoCommand (p : DevicePort) (slot : ℕ) : Type 0 where
  pub is_not_issued : p.ci slot ≡ false
  pub is_not_taken : p.taken slot ≡ None

-- the slot's bytes say a command
pub record SlotDecodesToCommand (d : Device) (port slot : ℕ) : Type 0 where
  pub meaning : Meaning
  pub places : List ℕ
  pub says : DecodesTo d.memory (d.port port).bases.clb slot meaning places

-- The places of the command in the slot: its header, its table and its pieces, and the FIS area of its port.
abbrev pub layout_of : (d : Device) (port slot : ℕ) → SlotDecodesToCommand d port slot → CommandLayout
layout_of d port slot c =
    record {
      header = (d.port port).bases.clb + HEADER_BYTES * slot;
      table = c.says.table;
      prd_count = length c.says.prds;
      places = c.places;
      received_fis_area = (d.port port).bases.fb;
    }

-- One slot of one port has a command that is issued or taken, and its bytes say it; if it is taken, then with the
-- places that they say. No byte that the device only reads for it is one that it writes. All other slots are free, and
-- all other ports idle.
pub record HasOneCommand (d : Device) (port slot : ℕ) : Type 0 where
  pub slot_is_used : InUse (d.port port) slot
  pub command : SlotDecodesToCommand d port slot
  pub taken_has_these_places : (t : FetchedCommand) → (d.port port).taken slot ≡ Some t → t.places ≡ command.places
  pub reads_apart_from_writes : (at : ℕ) → is_read_only (layout_of d port slot command) at ≡ true
      → is_not_device_writable (layout_of d port slot command) at ≡ true
  pub other_slots_have_no_command : (k : ℕ) → k ≢ slot → SlotHasNoCommand (d.port port) k
  pub other_ports_are_idle : (q : ℕ) → q ≢ port → IsIdlePort (d.port q)

-- these bytes are inside the memory, and none of them is the command's
pub record IsOutsideCommand (s : CommandLayout) (at n : ℕ) (d : Device) : Type 0 where
  pub inside : at + n ≤ d.memory_size
  pub elsewhere : (a : ℕ) → at ≤ a → a < at + n → is_read_only s a || is_device_writable s a ≡ false

-- no slot of any port has a command
abbrev pub NoSlotHasCommand : Device → Type 0
NoSlotHasCommand d = (port slot : ℕ) → SlotHasNoCommand (d.port port) slot
