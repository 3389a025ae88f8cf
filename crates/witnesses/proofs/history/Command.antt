-- A read of one sector, as it stands in memory: into the first 512 bytes of frame 100.
use Rattle.std.proofs.Common.{ℕ, zero, suc, ◌≡◌, ◌≤◌, ◌<◌, ◌+◌, ◌*◌, ◌%◌, false, List, [], ◌∷◌, ◌++◌, All, length, replicate, slice_index, refl, subst, sym, arith}
use Rattle.std.proofs.lemmas.Bool.{true≢false}
use Rattle.std.proofs.lemmas.List.{get_or-replicate}
use Rattle.std.specs.Int.{to_le_bytes, w32}
use Rattle.byteorder.specs.Endian.{little_from}
use Rattle.adapter.specs.FirstRead.{header_up_to_ctba}
use Rattle.adapter.specs.Memory.{bytes_at, patched}
use Rattle.adapter.specs.ReadDone.{read_of}
use Rattle.adapter.specs.Commands.{IsValidMeaning, Meaning, command_of, transfer_sector_count, reads_memory}
use Rattle.adapter.specs.Decoding.{IsWholePieces, piece_addresses}
use Rattle.adapter.specs.Encoding.{EncodesCommand, EncodesHeader, EncodesPrd}
use Rattle.refinement.specs.MemoryLayout.{command_table_address}
use Rattle.adapter.specs.declared.command.Prd.{Prd}
use Rattle.adapter.specs.declared.command.Operation.TheVariants.{ReadQueued}
use Rattle.refinement.specs.Slots.{SlotDecodesTo}

-- READ DMA EXT of sector 100 alone
abbrev pub read_bytes : List ℕ
read_bytes = 0x27 ∷ 0x80 ∷ 0x25 ∷ 0 ∷ 0x64 ∷ 0 ∷ 0 ∷ 0x40 ∷ 0 ∷ 0 ∷ 0 ∷ 0 ∷ 1 ∷ 0 ∷ []

-- the PRD of the first 512 bytes of this frame
abbrev pub frame_head : ℕ → List ℕ
frame_head frame = to_le_bytes w32 (4096 * frame) ++ replicate 8 0 ++ 0xff ∷ 1 ∷ 0 ∷ 0 ∷ []

abbrev pub place_bytes : List ℕ
place_bytes = frame_head 100

abbrev pub zeros : ℕ → ℕ
zeros at = 0

-- with the header of the first read, and its zeros, all that is in memory
unfoldable pub read_memory : ℕ → ℕ
read_memory = patched (patched (patched zeros 0 header_up_to_ctba) 0x1000 read_bytes) 0x1080 place_bytes

pub zeros_past : (first : List ℕ) (n i : ℕ) → length first ≤ i → i < length first + n → slice_index (first ++ replicate n 0) i ≡ 0
zeros_past [] n i low high = get_or-replicate n i 0 0 (omega (arith, high))
zeros_past (x ∷ first) n zero low high = absurd (omega (arith, low))
zeros_past (x ∷ first) n (suc i) low high = zeros_past first n i (omega (arith, low)) (omega (arith, high))

whole : (prd : Prd) → IsWholePieces prd → All IsWholePieces (prd ∷ [])
whole prd is zero d small = is
whole prd is (suc k) d small = absurd (omega (arith, small))

-- The header, the FIS and the PRD of a slot of port 0 say a read of one sector into this place.
pub told_one : (memory : ℕ → ℕ) (slot : ℕ) (c : Meaning) (address : ℕ) → EncodesHeader (bytes_at memory (0 + 32 * slot) 32) (reads_memory c.operation) 1 (command_table_address 0 slot)
    → EncodesCommand (bytes_at memory (command_table_address 0 slot) 20) (command_of c.operation slot c.first c.count) → IsValidMeaning c
    → EncodesPrd (bytes_at memory (command_table_address 0 slot + 128) 16) (record { address = address; bytes = 512 }) → 1 ≡ transfer_sector_count c.operation c.count → SlotDecodesTo memory 0 0 slot c (piece_addresses address 1)
told_one memory slot c address header fis meaning prd many = record {
  decodes_to = record {
    table = command_table_address 0 slot;
    prds = record { address = address; bytes = 512 } ∷ [];
    header = header;
    fis = fis;
    meaning = meaning;
    prds_are_encoded = (prd, tt);
    prd_count_is_allowed = omega arith;
    prds_are_whole_pieces = whole (record { address = address; bytes = 512 }) refl;
    places_are = refl;
    place_count_is = many;
  };
  table_is = refl;
  prds_are_few = omega arith;
}

pub told : SlotDecodesTo read_memory 0 0 0 (read_of 100 1) (piece_addresses 0x64000 1)
unfolding read_memory patched bytes_at
told = told_one read_memory 0 (read_of 100 1) 0x64000
    (record { size = refl; dword0_is = refl; table_address_is = refl; aligned = refl; zeros = λ i low high. zeros_past header_up_to_ctba 20 i low high })
    (record {
      size = refl;
      fis_type = refl;
      c_bit = refl;
      code = refl;
      features = refl;
      lba = refl;
      device = refl;
      count = refl;
      zeros = λ i low high. zeros_past read_bytes 6 i low high;
    })
    (record { sectors_fit_if_it_moves_some = λ _. (omega arith, omega arith, omega arith); sectors_are_zero_if_it_moves_none = λ h. absurd (true≢false h) })
    (record { size = refl; allowed = record { even_address = refl; even_bytes = refl; is_not_empty = omega arith; is_at_most_4_mib = omega arith }; address = refl; upper_is_zero = refl; byte_count_is = refl })
    refl

-- ---- a queued read of one sector

-- READ FPDMA QUEUED of sector k alone
abbrev pub queued_read : ℕ → Meaning
queued_read k = record { operation = ReadQueued; first = k; count = 1 }

-- its FIS in this slot, its tag, but for the zeros at the end (a sector below 256)
abbrev pub queued_bytes : ℕ → ℕ → List ℕ
queued_bytes slot k = 0x27 ∷ 0x80 ∷ 0x60 ∷ 1 ∷ k ∷ 0 ∷ 0 ∷ 0x40 ∷ 0 ∷ 0 ∷ 0 ∷ 0 ∷ 8 * slot ∷ 0 ∷ []

-- its header, but for those: no W, one PRD, and the address of the slot's table
abbrev pub header_to : ℕ → List ℕ
header_to slot = 5 ∷ 0 ∷ 1 ∷ replicate 5 0 ++ to_le_bytes w32 (command_table_address 0 slot)

pub told_queued : (memory : ℕ → ℕ) (slot k frame : ℕ) → k < 256 → little_from 8 4 (header_to slot) ≡ command_table_address 0 slot → command_table_address 0 slot % 128 ≡ 0
    → little_from 0 4 (frame_head frame) ≡ 4096 * frame → 4096 * frame % 2 ≡ 0
    → bytes_at memory (0 + 32 * slot) 32 ≡ header_to slot ++ replicate 20 0 → bytes_at memory (command_table_address 0 slot) 20 ≡ queued_bytes slot k ++ replicate 6 0
    → bytes_at memory (command_table_address 0 slot + 128) 16 ≡ frame_head frame → SlotDecodesTo memory 0 0 slot (queued_read k) (piece_addresses (4096 * frame) 1)
told_queued memory slot k frame low points aligned address even header fis prd = told_one memory slot (queued_read k) (4096 * frame)
    (subst (λ (bytes : List ℕ). EncodesHeader bytes false 1 (command_table_address 0 slot)) (sym header)
    (record { size = refl; dword0_is = refl; table_address_is = points; aligned = aligned; zeros = λ i from to. zeros_past (header_to slot) 20 i from to }))
    (subst (λ (bytes : List ℕ). EncodesCommand bytes (command_of ReadQueued slot k 1)) (sym fis)
    (record {
      size = refl;
      fis_type = refl;
      c_bit = refl;
      code = refl;
      features = refl;
      lba = omega arith;
      device = refl;
      count = omega arith;
      zeros = λ i from to. zeros_past (queued_bytes slot k) 6 i from to;
    }))
    (record { sectors_fit_if_it_moves_some = λ _. (omega arith, omega arith, omega (arith, low)); sectors_are_zero_if_it_moves_none = λ h. absurd (true≢false h) })
    (subst (λ (bytes : List ℕ). EncodesPrd bytes (record { address = 4096 * frame; bytes = 512 })) (sym prd)
    (record { size = refl; allowed = record { even_address = even; even_bytes = refl; is_not_empty = omega arith; is_at_most_4_mib = omega arith }; address = address; upper_is_zero = refl; byte_count_is = refl }))
    refl
