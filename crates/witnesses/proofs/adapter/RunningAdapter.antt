-- The memory that the runs begin with: commands for two queued reads and a trim on port 0, and a read on port 1; each of one PRD.
use Rattle.ata_types.specs.declared.memory.TheConstants.{TABLE_HEAD_BYTES}
use Rattle.std.proofs.Common.{ℕ, ◌≡◌, ◌<◌, ◌+◌, ◌*◌, ◌^◌, ◌%◌, true, cond, List, [], ◌∷◌, ◌++◌, length, replicate, refl, zero, suc, All, arith}
use Rattle.byteorder.specs.Endian.{little_from}
use Rattle.adapter.specs.Commands.{Meaning, IsValidMeaning, command_of, transfer_sector_count, reads_memory}
use Rattle.adapter.specs.Memory.{patched, bytes_at}
use Rattle.adapter.specs.Decoding.{DecodesTo, IsWholePieces}
use Rattle.adapter.specs.Encoding.{EncodesCommand, EncodesPrd}
use Rattle.adapter.specs.declared.command.Operation.TheVariants.{ReadQueued, Trim}
use Rattle.adapter.specs.declared.command.Prd.{Prd}
use Rattle.witnesses.proofs.adapter.Sets.{true-false, are_bytes, bytes_patched, zero_run, zeros_are}

-- ---- bytes

-- a header: its first byte, one PRD, and a table at 256 times this address
abbrev header_up_to_ctba : ℕ → ℕ → List ℕ
header_up_to_ctba first table = first ∷ 0 ∷ 1 ∷ 0 ∷ 0 ∷ 0 ∷ 0 ∷ 0 ∷ 0 ∷ table ∷ replicate 22 0

-- a table: a FIS of 20 bytes, and a PRD of 512 bytes at 256 times this address
abbrev table_bytes : List ℕ → ℕ → ℕ → List ℕ
table_bytes fis low high = (fis ++ replicate 108 0) ++ 0 ∷ low ∷ high ∷ 0 ∷ 0 ∷ 0 ∷ 0 ∷ 0 ∷ 0 ∷ 0 ∷ 0 ∷ 0 ∷ 0xff ∷ 1 ∷ 0 ∷ 0 ∷ []

-- READ FPDMA QUEUED of sector 64h with the tag in eights; DATA SET MANAGEMENT with TRIM
abbrev queued_fis : ℕ → List ℕ
queued_fis tag = 0x27 ∷ 0x80 ∷ 0x60 ∷ 1 ∷ 0x64 ∷ 0 ∷ 0 ∷ 0x40 ∷ 0 ∷ 0 ∷ 0 ∷ 0 ∷ tag ∷ replicate 7 0

abbrev trim_fis : List ℕ
trim_fis = 0x27 ∷ 0x80 ∷ 6 ∷ 1 ∷ 0 ∷ 0 ∷ 0 ∷ 0 ∷ 0 ∷ 0 ∷ 0 ∷ 0 ∷ 1 ∷ replicate 7 0

-- eight sectors from 64h on
abbrev trim_block : List ℕ
trim_block = 0x64 ∷ 0 ∷ 0 ∷ 0 ∷ 0 ∷ 0 ∷ 8 ∷ replicate 505 0

-- Port 0's command list is at 0, with queued reads in slots 0 and 1 and a trim in slot 2; port 1's is at 800h, with a queued read in slot 0.
unfoldable pub memory : ℕ → ℕ
memory =
    patched (patched (patched (patched (patched (patched (patched (λ _. 0) 0 (header_up_to_ctba 5 0x10 ++ header_up_to_ctba 5 0x14 ++ header_up_to_ctba 0x45 0x18)) 0x800 (header_up_to_ctba 5 0x1c))
    0x1000 (table_bytes (queued_fis 0) 0x80 2)) 0x1400 (table_bytes (queued_fis 8) 0x90 2)) 0x1800 (table_bytes trim_fis 0x90 0)) 0x1c00 (table_bytes (queued_fis 0) 0xa0 2))
    0x9000 trim_block

pub memory_bytes : (a : ℕ) → memory a < 256
unfolding memory are_bytes
memory_bytes =
    bytes_patched _ _ _ refl (bytes_patched _ _ _ refl (bytes_patched _ _ _ refl (bytes_patched _ _ _ refl (bytes_patched _ _ _ refl
    (bytes_patched _ _ _ refl (bytes_patched _ _ _ refl (λ a. omega arith)))))))

-- ---- what they mean

abbrev pub queued_read : Meaning
queued_read = record { operation = ReadQueued; first = 100; count = 1 }

abbrev pub a_trim : Meaning
a_trim = record { operation = Trim; first = 0; count = 0 }

abbrev prd : ℕ → Prd
prd address = record { address = address; bytes = 512 }

all_whole : (address : ℕ) → All IsWholePieces (prd address ∷ [])
all_whole address zero d small = refl
all_whole address (suc k) d small = absurd (omega arith)

-- what a slot says whose header and table are such bytes
says_by : (list slot table : ℕ) (m : Meaning) (address : ℕ)
    → length (bytes_at memory (list + 32 * slot) 32) ≡ 32
    → little_from 0 4 (bytes_at memory (list + 32 * slot) 32) ≡ 5 + cond (reads_memory m.operation) (2 ^ 6) 0 + 2 ^ 16 * 1
    → little_from 8 4 (bytes_at memory (list + 32 * slot) 32) ≡ table
    → table % 128 ≡ 0
    → zero_run (bytes_at memory (list + 32 * slot) 32) 12 20 ≡ true
    → EncodesCommand (bytes_at memory table 20) (command_of m.operation slot m.first m.count)
    → IsValidMeaning m
    → EncodesPrd (bytes_at memory (table + TABLE_HEAD_BYTES) 16) (prd address)
    → 1 ≡ transfer_sector_count m.operation m.count
    → DecodesTo memory list slot m (address ∷ [])
says_by list slot table m address size first points aligned zeros fis meaning entry many = record {
  table = table;
  prds = prd address ∷ [];
  header = record { size = size; dword0_is = first; table_address_is = points; aligned = aligned; zeros = zeros_are _ 12 20 zeros };
  fis = fis;
  meaning = meaning;
  prds_are_encoded = (entry, tt);
  prd_count_is_allowed = omega arith;
  prds_are_whole_pieces = all_whole address;
  places_are = refl;
  place_count_is = many;
}

pub first_says : DecodesTo memory 0 0 queued_read (0x28000 ∷ [])
unfolding memory patched bytes_at zero_run
first_says = says_by 0 0 0x1000 queued_read 0x28000 refl refl refl refl refl
    (record { size = refl; fis_type = refl; c_bit = refl; code = refl; features = refl; lba = refl; device = refl; count = refl; zeros = zeros_are (bytes_at memory 0x1000 20) 14 6 refl })
    (record { sectors_fit_if_it_moves_some = λ _. (omega arith, omega arith, omega arith); sectors_are_zero_if_it_moves_none = λ h. absurd (true-false refl h) })
    (record { size = refl; allowed = record { even_address = refl; even_bytes = refl; is_not_empty = omega arith; is_at_most_4_mib = omega arith }; address = refl; upper_is_zero = refl; byte_count_is = refl })
    refl

pub second_says : DecodesTo memory 0 1 queued_read (0x29000 ∷ [])
unfolding memory patched bytes_at zero_run
second_says = says_by 0 1 0x1400 queued_read 0x29000 refl refl refl refl refl
    (record { size = refl; fis_type = refl; c_bit = refl; code = refl; features = refl; lba = refl; device = refl; count = refl; zeros = zeros_are (bytes_at memory 0x1400 20) 14 6 refl })
    (record { sectors_fit_if_it_moves_some = λ _. (omega arith, omega arith, omega arith); sectors_are_zero_if_it_moves_none = λ h. absurd (true-false refl h) })
    (record { size = refl; allowed = record { even_address = refl; even_bytes = refl; is_not_empty = omega arith; is_at_most_4_mib = omega arith }; address = refl; upper_is_zero = refl; byte_count_is = refl })
    refl

pub trim_says : DecodesTo memory 0 2 a_trim (0x9000 ∷ [])
unfolding memory patched bytes_at zero_run
trim_says = says_by 0 2 0x1800 a_trim 0x9000 refl refl refl refl refl
    (record { size = refl; fis_type = refl; c_bit = refl; code = refl; features = refl; lba = refl; device = refl; count = refl; zeros = zeros_are (bytes_at memory 0x1800 20) 14 6 refl })
    (record { sectors_fit_if_it_moves_some = λ h. absurd (true-false h refl); sectors_are_zero_if_it_moves_none = λ _. (refl, refl) })
    (record { size = refl; allowed = record { even_address = refl; even_bytes = refl; is_not_empty = omega arith; is_at_most_4_mib = omega arith }; address = refl; upper_is_zero = refl; byte_count_is = refl })
    refl

pub other_port_says : DecodesTo memory 0x800 0 queued_read (0x2a000 ∷ [])
unfolding memory patched bytes_at zero_run
other_port_says = says_by 0x800 0 0x1c00 queued_read 0x2a000 refl refl refl refl refl
    (record { size = refl; fis_type = refl; c_bit = refl; code = refl; features = refl; lba = refl; device = refl; count = refl; zeros = zeros_are (bytes_at memory 0x1c00 20) 14 6 refl })
    (record { sectors_fit_if_it_moves_some = λ _. (omega arith, omega arith, omega arith); sectors_are_zero_if_it_moves_none = λ h. absurd (true-false refl h) })
    (record { size = refl; allowed = record { even_address = refl; even_bytes = refl; is_not_empty = omega arith; is_at_most_4_mib = omega arith }; address = refl; upper_is_zero = refl; byte_count_is = refl })
    refl

pub first_table : (first_says.table ≡ 0x1000) × (length first_says.prds ≡ 1)
unfolding first_says says_by memory patched bytes_at zero_run
first_table = (refl, refl)

pub second_table : (second_says.table ≡ 0x1400) × (length second_says.prds ≡ 1)
unfolding second_says says_by memory patched bytes_at zero_run
second_table = (refl, refl)

pub trim_table : (trim_says.table ≡ 0x1800) × (length trim_says.prds ≡ 1)
unfolding trim_says says_by memory patched bytes_at zero_run
trim_table = (refl, refl)

pub other_port_table : (other_port_says.table ≡ 0x1c00) × (length other_port_says.prds ≡ 1)
unfolding other_port_says says_by memory patched bytes_at zero_run
other_port_table = (refl, refl)
