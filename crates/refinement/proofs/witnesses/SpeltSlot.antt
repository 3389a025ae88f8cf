-- A slot of port 0 with one PRD: what its bytes say, by computing with them.
use Rattle.std.proofs.Common.{ℕ, zero, suc, ◌≡◌, ◌≤◌, ◌+◌, ◌*◌, ◌/◌, ◌%◌, ◌^◌, ◌&&◌, Bool, true, false, List, [], ◌∷◌, All, slice_index, refl, sym, ◌∙◌, arith, append-nil, eqb-true}
use Rattle.std.specs.Prelude.{if◌then◌else◌, nat_eq}
use Rattle.std.proofs.lemmas.Bool.{and_parts, both_ways}
use Rattle.byteorder.specs.Endian.{little_from}
use Rattle.adapter.specs.declared.command.Operation.{Operation}
use Rattle.adapter.specs.Commands.{Meaning, IsValidMeaning, moves_disk_sectors, command_of, transfer_sector_count, reads_memory}
use Rattle.adapter.specs.Memory.{bytes_at}
use Rattle.adapter.specs.Decoding.{DecodesTo, IsWholePieces, piece_addresses}
use Rattle.adapter.specs.Encoding.{IsAllowedPrd}
use Rattle.adapter.specs.declared.command.Command.{Command}
use Rattle.adapter.specs.declared.command.Prd.{Prd}
use Rattle.adapter.proofs.MemoryLemmas.{bytes_length}
use Rattle.adapter.proofs.SaysLemmas.{cut_length}
use Rattle.refinement.specs.MemoryLayout.{scratch_frame_address, command_table_address}
use Rattle.refinement.specs.Slots.{SlotDecodesTo}

-- the bytes from a place on are zero, as a test
unfoldable pub zeros_from : ℕ → List ℕ → Bool
zeros_from from [] = true
zeros_from zero (b ∷ bytes) = nat_eq b 0 && zeros_from zero bytes
zeros_from (suc from) (b ∷ bytes) = zeros_from from bytes

are_zero : (from : ℕ) (bytes : List ℕ) (i : ℕ) → zeros_from from bytes ≡ true → from ≤ i → slice_index bytes i ≡ 0
unfolding zeros_from
are_zero from [] i h low = refl
are_zero zero (b ∷ bytes) zero h low = eqb-true b 0 (and_parts _ _ h).0
are_zero zero (b ∷ bytes) (suc i) h low = are_zero zero bytes i (and_parts _ _ h).1 (omega arith)
are_zero (suc from) (b ∷ bytes) zero h low = absurd (omega (arith, low))
are_zero (suc from) (b ∷ bytes) (suc i) h low = are_zero from bytes i h (omega (arith, low))

-- the FIS, the header and the PRD of a slot
abbrev pub IsSpeltCommand : List ℕ → Command → Type 0
IsSpeltCommand bytes c =
    (slice_index bytes 0 ≡ 0x27) × (slice_index bytes 1 ≡ 0x80) × (slice_index bytes 2 ≡ c.code)
    × (slice_index bytes 3 + 2 ^ 8 * slice_index bytes 11 ≡ c.features)
    × (little_from 4 3 bytes + 2 ^ 24 * little_from 8 3 bytes ≡ c.lba)
    × (slice_index bytes 7 ≡ c.device) × (little_from 12 2 bytes ≡ c.count) × (zeros_from 14 bytes ≡ true)

abbrev pub IsSpeltHeader : List ℕ → Bool → ℕ → Type 0
IsSpeltHeader bytes writes table =
    (little_from 0 4 bytes ≡ 5 + (if writes then 2 ^ 6 else 0) + 2 ^ 16 * 1) × (little_from 8 4 bytes ≡ table)
    × (zeros_from 12 bytes ≡ true)

abbrev pub IsSpeltPrd : List ℕ → Prd → Type 0
IsSpeltPrd bytes e = (little_from 0 4 bytes ≡ e.address) × (little_from 4 8 bytes ≡ 0) × (little_from 12 4 bytes + 1 ≡ e.bytes)

-- the slot says the command, with the PRD
pub record IsSpelt (memory : ℕ → ℕ) (slot : ℕ) (c : Meaning) (e : Prd) : Type 0 where
  pub header : IsSpeltHeader (bytes_at memory (0 + 32 * slot) 32) (reads_memory c.operation) (command_table_address 0 slot)
  pub aligned : command_table_address 0 slot % 128 ≡ 0
  pub fis : IsSpeltCommand (bytes_at memory (command_table_address 0 slot) 20) (command_of c.operation slot c.first c.count)
  pub meaning : IsValidMeaning c
  pub prd : IsSpeltPrd (bytes_at memory (command_table_address 0 slot + 128) 16) e
  pub allowed : IsAllowedPrd e
  pub whole : e.bytes % 512 ≡ 0
  pub as_many : e.bytes / 512 ≡ transfer_sector_count c.operation c.count

one_whole : (e : Prd) → e.bytes % 512 ≡ 0 → All IsWholePieces (e ∷ [])
one_whole e whole zero d small = whole
one_whole e whole (suc k) d small = absurd (omega (arith, small))

module _ (memory : ℕ → ℕ) (slot : ℕ) (c : Meaning) (e : Prd) (s : IsSpelt memory slot c e) where
  says : DecodesTo memory 0 slot c (piece_addresses e.address (e.bytes / 512))
  says = record {
    table = command_table_address 0 slot;
    prds = e ∷ [];
    header = record {
      size = bytes_length memory (0 + 32 * slot) 32;
      dword0_is = s.header.0;
      table_address_is = s.header.1;
      aligned = s.aligned;
      zeros = λ i low high. are_zero 12 (bytes_at memory (0 + 32 * slot) 32) i s.header.2 low;
    };
    fis = record {
      size = bytes_length memory (command_table_address 0 slot) 20;
      fis_type = s.fis.0;
      c_bit = s.fis.1;
      code = s.fis.2;
      features = s.fis.3;
      lba = s.fis.4;
      device = s.fis.5;
      count = s.fis.6;
      zeros = λ i low high. are_zero 14 (bytes_at memory (command_table_address 0 slot) 20) i s.fis.7 low;
    };
    meaning = s.meaning;
    prds_are_encoded = (
      record { size = bytes_length memory (command_table_address 0 slot + 128) 16; allowed = s.allowed; address = s.prd.0; upper_is_zero = s.prd.1; byte_count_is = s.prd.2 },
      tt,
    );
    prd_count_is_allowed = omega arith;
    prds_are_whole_pieces = one_whole e s.whole;
    places_are = sym (append-nil (piece_addresses e.address (e.bytes / 512)));
    place_count_is = cut_length e.address (e.bytes / 512) ∙ s.as_many;
  }

  pub spelt_told : SlotDecodesTo memory 0 0 slot c (piece_addresses e.address (e.bytes / 512))
  unfolding says
  spelt_told = record { decodes_to = says; table_is = refl; prds_are_few = omega arith }

-- a command of slot 0 that names no sectors and has its page or block in the scratch frame
abbrev page_prd : Prd
page_prd = record { address = scratch_frame_address 0; bytes = 512 }

pub page_told : (memory : ℕ → ℕ) (o : Operation) → moves_disk_sectors o ≡ false → transfer_sector_count o 0 ≡ 1 → IsSpeltHeader (bytes_at memory 0 32) (reads_memory o) 0x1000 →
    IsSpeltCommand (bytes_at memory 0x1000 20) (command_of o 0 0 0) → IsSpeltPrd (bytes_at memory 0x1080 16) page_prd → SlotDecodesTo memory 0 0 0 (record { operation = o; first = 0; count = 0 }) (scratch_frame_address 0 ∷ [])
page_told memory o unranged one header fis prd = spelt_told memory 0 (record { operation = o; first = 0; count = 0 }) page_prd (record {
  header = header;
  aligned = refl;
  fis = fis;
  meaning = record { sectors_fit_if_it_moves_some = λ h. absurd (both_ways _ unranged h); sectors_are_zero_if_it_moves_none = λ _. (refl, refl) };
  prd = prd;
  allowed = record { even_address = refl; even_bytes = refl; is_not_empty = omega arith; is_at_most_4_mib = omega arith };
  whole = refl;
  as_many = sym one;
})
