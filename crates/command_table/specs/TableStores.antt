-- What is stored for a slot's command (AHCI 1.3.1, 4.2.2 and 4.2.3), and what the stores may touch.
use Rattle.std.specs.Prelude.{ℕ, ◌≡◌, ◌+◌, ◌*◌, ◌^◌, ◌≤◌, ◌<◌, ◌⊎◌, List, length, slice_index_or, take, All}
use Rattle.ata_types.specs.declared.limits.TheConstants.{MOST_REQUEST_FRAMES}
use Rattle.ata_types.specs.declared.memory.TheConstants.{DRIVER_BYTES, HEADER_BYTES, PRD_BYTES, TABLE_BYTES, TABLE_HEAD_BYTES}
use Rattle.byteorder.specs.Endian.{little_from}
use Rattle.adapter.specs.Access.{Access, Stores}
use Rattle.adapter.specs.Access.Access.{Storing}
use Rattle.adapter.specs.Device.{Device}
use Rattle.adapter.specs.Commands.{Meaning, IsValidMeaning, command_of, transfer_sector_count}
use Rattle.adapter.specs.Rules.{IsOn}
use Rattle.adapter.specs.Decoding.{pieces, IsWholePieces}
use Rattle.adapter.specs.Encoding.{AreZero, IsAllowedPrd, EncodesCommand, EncodesPrd}
use Rattle.adapter.specs.declared.command.Command.{Command}
use Rattle.adapter.specs.declared.command.Prd.{Prd}
use Rattle.refinement.specs.Fragments.{SomeMachineAgreesWith}
use Rattle.refinement.specs.MemoryLayout.{command_list_address, scratch_frame_address, command_table_address}
use Rattle.refinement.specs.Slots.{Free, SlotStates}
use Rattle.command_table.specs.BufferBytes.{bytes_from}

-- A command table (AHCI 1.3.1, 4.2.3) at the head of some bytes: the FIS at 00h, the PRDs from 80h on, and zeros
-- between them, where ACMD stands at 40h.
pub record IsTable (bytes : List ℕ) (command : Command) (prds : List Prd) : Type 0 where
  pub size : TABLE_HEAD_BYTES + PRD_BYTES * length prds ≤ length bytes
  pub fis : EncodesCommand (bytes_from bytes 0 20) command
  pub zeros_are_between : AreZero bytes 20 TABLE_HEAD_BYTES
  pub prds_are_encoded : (i : ℕ) (d : Prd) → i < length prds
      → EncodesPrd (bytes_from bytes (TABLE_HEAD_BYTES + PRD_BYTES * i) 16) (slice_index_or prds i d)

-- The slot is one of 32, and its table has room for the PRDs, which are allowed, as is the command's address (AHCI
-- 1.3.1, 4.2.3.3).
pub record FitsTable (slot : ℕ) (command : Command) (prds : List Prd) : Type 0 where
  pub slot_in_range : slot < 32
  pub lba_in_range : command.lba < 2 ^ 48
  pub prd_count_is_allowed : length prds ≤ MOST_REQUEST_FRAMES
  pub prds_are_allowed : All IsAllowedPrd prds

-- such a table was stored here at once, without what is behind its last PRD
pub record StoresTable (at : ℕ) (command : Command) (prds : List Prd) (old new : Device) : Type 0 where
  pub bytes : List ℕ
  pub table : IsTable bytes command prds
  pub stored : Stores at (take (TABLE_HEAD_BYTES + PRD_BYTES * length prds) bytes) old new

-- Command and PRDs are those of this meaning in the slot: the command has its fields, and the PRDs cut into its places,
-- as many as it moves pieces.
pub record IsTableFor (slot : ℕ) (command : Command) (prds : List Prd) (m : Meaning) (places : List ℕ) : Type 0 where
  pub meaning : IsValidMeaning m
  pub fields : command ≡ command_of m.operation slot m.first m.count
  pub prds_are_whole_pieces : All IsWholePieces prds
  pub places_are : places ≡ pieces prds
  pub place_count_is : length places ≡ transfer_sector_count m.operation m.count

-- The bytes stand in the place of the slot's header, as many as it has; of them PRDBC, 4 to 7, is zero: nothing was
-- moved for the command yet.
abbrev pub FillsHeaderWithPrdbcZero : ℕ → ℕ → ℕ → List ℕ → Type 0
FillsHeaderWithPrdbcZero port slot at bytes = (at ≡ command_list_address port + HEADER_BYTES * slot)
    × (length bytes ≡ HEADER_BYTES)
    × (little_from 4 4 bytes ≡ 0)

-- the bytes are of the slot's table
abbrev pub IsInTable : ℕ → ℕ → ℕ → List ℕ → Type 0
IsInTable port slot at bytes = (command_table_address port slot ≤ at)
    × (at + length bytes ≤ command_table_address port slot + TABLE_BYTES)

-- it stores such a header, or such bytes
abbrev pub IsHeaderOrTableStore : ℕ → ℕ → Access → Type 0
IsHeaderOrTableStore port slot (Storing at bytes) = FillsHeaderWithPrdbcZero port slot at bytes
    ⊎ IsInTable port slot at bytes
IsHeaderOrTableStore port slot access = ⊥

-- A block of 512 bytes is stored at the head of the port's scratch frame, for the command of slot 0: no other slot has
-- one.
abbrev pub IsBlockStore : ℕ → ℕ → Access → Type 0
IsBlockStore port slot (Storing at bytes) = (slot ≡ 0) × (at ≡ scratch_frame_address port) × (length bytes ≡ 512)
IsBlockStore port slot access = ⊥

-- it stores such a header or table, or such a block
abbrev pub IsHeaderTableOrBlockStore : ℕ → ℕ → Access → Type 0
IsHeaderTableOrBlockStore port slot access = IsHeaderOrTableStore port slot access ⊎ IsBlockStore port slot access

-- the slot's state is Free
abbrev pub IsSlotStateFree : ℕ → ℕ → SlotStates → Type 0
IsSlotStateFree port slot uses = uses port slot ≡ Free

-- Header and table of a port's slot may be written: the slot is unused in a machine that agrees, and memory has the
-- driver's areas.
pub record MayWriteTable (port slot : ℕ) (d : Device) : Type 0 where
  pub adapter_is_on : IsOn d
  pub machine_is_related : SomeMachineAgreesWith (IsSlotStateFree port slot) d
  pub driver_memory_fits : DRIVER_BYTES ≤ d.memory_size
  pub port_in_range : port < 4
