-- Bytes that no step of the device changes, and on which every command in use stands.
use Rattle.std.specs.Prelude.{ℕ, Bool, true, ◌≡◌, ◌+◌, ◌*◌, ◌<◌, ◌≤◌, length, List, Some}
use Rattle.ata_types.specs.declared.memory.TheConstants.{HEADER_BYTES, PRD_BYTES, RECEIVED_FIS_BYTES, TABLE_HEAD_BYTES}
use Rattle.adapter.specs.Commands.{Meaning}
use Rattle.adapter.specs.Device.{FetchedCommand, DevicePort, Device}
use Rattle.adapter.specs.Decoding.{DecodesTo}
use Rattle.adapter.specs.Rules.{InDataBlocks, InUse}

-- the bytes from one address up to another are in the set
abbrev pub HasRange : (ℕ → Type 0) → ℕ → ℕ → Type 0
HasRange Set from to = (at : ℕ) → from ≤ at → at < to → Set at

-- none of these bytes is in the set
abbrev pub MissesRange : (ℕ → Type 0) → ℕ → ℕ → Type 0
MissesRange Set from to = (at : ℕ) → from ≤ at → at < to → Set at → ⊥

-- no piece has a byte of the set
abbrev pub MissesPieces : (ℕ → Type 0) → List ℕ → Type 0
MissesPieces Set places = (at : ℕ) → Set at → InDataBlocks places at → ⊥

-- The bytes of a slot mean a command. Its header (except PRDBC) and its table are table bytes. Its PRDBC and its pieces
-- aren't kept.
pub record IsGuardedSlot (Tables Kept : ℕ → Type 0) (memory : ℕ → ℕ) (list slot : ℕ) : Type 0 where
  pub meaning : Meaning
  pub places : List ℕ
  pub says : DecodesTo memory list slot meaning places
  pub header_start_is_table : HasRange Tables (list + HEADER_BYTES * slot) (list + HEADER_BYTES * slot + 4)
  pub header_end_is_table : HasRange Tables (list + HEADER_BYTES * slot + 8) (list + HEADER_BYTES * slot + HEADER_BYTES)
  pub table_is_guarded : HasRange Tables says.table (says.table + TABLE_HEAD_BYTES + PRD_BYTES * length says.prds)
  pub prdbc_is_not_kept : MissesRange Kept (list + HEADER_BYTES * slot + 4) (list + HEADER_BYTES * slot + 8)
  pub pieces_are_not_kept : MissesPieces Kept places

-- Each slot in use is guarded, no piece of a taken command is kept, nor is a byte of the received FIS area.
pub record IsGuardedPort (Tables Kept : ℕ → Type 0) (memory : ℕ → ℕ) (p : DevicePort) : Type 0 where
  pub slots_are_guarded : (slot : ℕ) → InUse p slot → IsGuardedSlot Tables Kept memory p.bases.clb slot
  pub taken_pieces_are_not_kept : (slot : ℕ) (t : FetchedCommand) → p.taken slot ≡ Some t → MissesPieces Kept t.places
  pub received_fis_is_not_kept : p.fre ≡ true → MissesRange Kept p.bases.fb (p.bases.fb + RECEIVED_FIS_BYTES)

-- Two sets of bytes: tables, and what is kept, the tables among them. It asks of slots in use alone, and of their
-- PRDBC: the place of the 128th header would be a table.
pub record IsGuarded (Tables Kept : ℕ → Type 0) (d : Device) : Type 0 where
  pub tables_are_kept : (at : ℕ) → Tables at → Kept at
  pub ports_are_guarded : (port : ℕ) → IsGuardedPort Tables Kept d.memory (d.port port)

-- These bytes are inside the memory and kept, in no table, and in no header of a slot in use.
pub record IsKeptOutsideTables (Tables Kept : ℕ → Type 0) (at n : ℕ) (d : Device) : Type 0 where
  pub inside : at + n ≤ d.memory_size
  pub kept : HasRange Kept at (at + n)
  pub no_table : MissesRange Tables at (at + n)
  pub no_header : (port slot a : ℕ) → InUse (d.port port) slot → at ≤ a → a < at + n →
      (d.port port).bases.clb + HEADER_BYTES * slot ≤ a → a < (d.port port).bases.clb + HEADER_BYTES * slot
      + HEADER_BYTES → ⊥

-- the bytes that pass a test, as a set
abbrev pub PassesTest : (ℕ → Bool) → ℕ → Type 0
PassesTest test at = test at ≡ true
