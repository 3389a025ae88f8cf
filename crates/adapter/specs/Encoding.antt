-- How a command FIS, a command header and a PRD are spelled in bytes.
use Rattle.std.specs.Prelude.{ℕ, Bool, ◌≡◌, ◌+◌, ◌*◌, ◌^◌, ◌<◌, ◌≤◌, ◌%◌, List, length, slice_index, if◌then◌else◌}
use Rattle.ata_types.specs.declared.memory.TheConstants.{HEADER_BYTES, TABLE_ALIGNMENT}
use Rattle.byteorder.specs.Endian.{little_from}
use Rattle.adapter.specs.declared.command.Command.{Command}
use Rattle.adapter.specs.declared.command.Prd.{Prd}

-- the bytes at these places are zero
abbrev pub AreZero : List ℕ → ℕ → ℕ → Type 0
AreZero bytes from to = (i : ℕ) → from ≤ i → i < to → slice_index bytes i ≡ 0

-- A Register FIS from host to device (Serial ATA; AHCI 1.3.1, 4.2.3.1), with the C bit one.
pub record EncodesCommand (bytes : List ℕ) (c : Command) : Type 0 where
  pub size : length bytes ≡ 20
  pub fis_type : slice_index bytes 0 ≡ 0x27
  pub c_bit : slice_index bytes 1 ≡ 0x80
  pub code : slice_index bytes 2 ≡ c.code
  pub features : slice_index bytes 3 + 2 ^ 8 * slice_index bytes 11 ≡ c.features
  pub lba : little_from 4 3 bytes + 2 ^ 24 * little_from 8 3 bytes ≡ c.lba
  pub device : slice_index bytes 7 ≡ c.device
  pub count : little_from 12 2 bytes ≡ c.count
  pub zeros : AreZero bytes 14 20

-- A command header (AHCI 1.3.1, 4.2.2): a FIS of five double words, W as said, all other bits zero, this number of
-- entries, and the address of the command table. PRDBC, bytes 4 to 7, may be any number.
pub record EncodesHeader (bytes : List ℕ) (writes : Bool) (entries table : ℕ) : Type 0 where
  pub size : length bytes ≡ HEADER_BYTES
  pub dword0_is : little_from 0 4 bytes ≡ 5 + (if writes then 2 ^ 6 else 0) + 2 ^ 16 * entries
  pub table_address_is : little_from 8 4 bytes ≡ table
  pub aligned : table % TABLE_ALIGNMENT ≡ 0
  pub zeros : AreZero bytes 12 HEADER_BYTES

-- An address and a number of bytes that a PRD may have (AHCI 1.3.1, 4.2.3.3): both even, at most 4 MiB.
pub record IsAllowedPrd (e : Prd) : Type 0 where
  pub even_address : e.address % 2 ≡ 0
  pub even_bytes : e.bytes % 2 ≡ 0
  pub is_not_empty : 0 < e.bytes
  pub is_at_most_4_mib : e.bytes ≤ 2 ^ 22

-- A PRD of a command table (AHCI 1.3.1, 4.2.3.3): no upper address, I zero, the number of bytes less one.
pub record EncodesPrd (bytes : List ℕ) (e : Prd) : Type 0 where
  pub size : length bytes ≡ 16
  pub allowed : IsAllowedPrd e
  pub address : little_from 0 4 bytes ≡ e.address
  pub upper_is_zero : little_from 4 8 bytes ≡ 0
  pub byte_count_is : little_from 12 4 bytes + 1 ≡ e.bytes
