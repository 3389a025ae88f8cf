-- What the bytes at a slot's places mean, read as the device reads them.
use Rattle.std.specs.Prelude.{ℕ, zero, suc, ◌≡◌, ◌+◌, ◌*◌, ◌/◌, ◌%◌, ◌≤◌, List, [], ◌∷◌, ◌++◌, length, All}
use Rattle.ata_types.specs.declared.limits.TheConstants.{MOST_REQUEST_FRAMES}
use Rattle.ata_types.specs.declared.memory.TheConstants.{HEADER_BYTES, TABLE_HEAD_BYTES}
use Rattle.adapter.specs.Memory.{bytes_at}
use Rattle.adapter.specs.Commands.{Meaning, IsValidMeaning, command_of, reads_memory, transfer_sector_count}
use Rattle.adapter.specs.Encoding.{EncodesCommand, EncodesHeader, EncodesPrd}
use Rattle.adapter.specs.declared.command.Prd.{Prd}

-- these PRDs stand one after another from an address on
abbrev pub HasPrds : (ℕ → ℕ) → ℕ → List Prd → Type 0
HasPrds memory at [] = Unit {0}
HasPrds memory at (e ∷ es) = EncodesPrd (bytes_at memory at 16) e × HasPrds memory (at + 16) es

-- n pieces of 512 bytes, each by its address
abbrev pub piece_addresses : ℕ → ℕ → List ℕ
piece_addresses at zero = []
piece_addresses at (suc n) = at ∷ piece_addresses (at + 512) n

-- the bytes of the PRDs, in order, cut into pieces of 512
abbrev pub pieces : List Prd → List ℕ
pieces [] = []
pieces (e ∷ es) = piece_addresses e.address (e.bytes / 512) ++ pieces es

-- the PRD is a whole number of pieces
abbrev pub IsWholePieces : Prd → Type 0
IsWholePieces e = e.bytes % 512 ≡ 0

-- Header, FIS and PRDs of a slot say this command, and these are the addresses of its pieces: the i-th is the place of
-- its i-th sector (AHCI 1.3.1, 4.2.2 and 4.2.3). The number in PRDBC may be any.
pub record DecodesTo (memory : ℕ → ℕ) (list slot : ℕ) (m : Meaning) (places : List ℕ) : Type 0 where
  pub table : ℕ
  pub prds : List Prd
  pub header : EncodesHeader (bytes_at memory (list + HEADER_BYTES * slot) HEADER_BYTES) (reads_memory m.operation)
      (length prds) table
  pub fis : EncodesCommand (bytes_at memory table 20) (command_of m.operation slot m.first m.count)
  pub meaning : IsValidMeaning m
  pub prds_are_encoded : HasPrds memory (table + TABLE_HEAD_BYTES) prds
  -- no more than a PRD for each frame of the longest request (this project's own)
  pub prd_count_is_allowed : length prds ≤ MOST_REQUEST_FRAMES
  pub prds_are_whole_pieces : All IsWholePieces prds
  pub places_are : places ≡ pieces prds
  pub place_count_is : length places ≡ transfer_sector_count m.operation m.count
