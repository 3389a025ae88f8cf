-- The first read, checked byte by byte.
use Rattle.std.proofs.Common.{ℕ, zero, suc, ◌≡◌, ◌<◌, ◌≤◌, ◌+◌, ◌-◌, ◌*◌, ◌&&◌, ◌||◌, ◌⊎◌, not, Bool, true, false, List, [], ◌∷◌, Some, slice_index_or, nat_le, nat_lt, refl, sym, ◌∙◌, ap, subst, arith, inl, inr, All}
use Rattle.std.proofs.lemmas.Bool.{le-leb, lt-leb, le-ltb, leb-true, ltb-true}
use Rattle.std.proofs.lemmas.Bool.Decides.{leb_tells}
use Rattle.std.proofs.lemmas.List.{length-replicate}
use Rattle.std.proofs.lemmas.List.Elements.{All-replicate}
use Rattle.adapter.specs.Memory.{patched, bytes_at, changed}
use Rattle.adapter.specs.Device.{Disk, IsValidSector, HasValidSectors, HasKnownSectors, DevicePort, Device}
use Rattle.adapter.specs.FirstRead.{header_up_to_ctba, command_fis_up_to_count, prd_bytes, first_memory, first_disk_sector, first_disk, no_disk, empty_port, reading_port, first_read_device}
use Rattle.adapter.specs.Idle.{IsIdlePort, HoldsBytesAndTellsDisks}
use Rattle.adapter.specs.OneCommand.{HasOneCommand, SlotDecodesToCommand, CommandLayout, layout_of, is_in_span, is_in_pieces, is_read_only, is_device_writable, is_not_device_writable, IsOutsideCommand}
use Rattle.adapter.specs.ReadDone.{read_of, IsReadDone}
use Rattle.adapter.specs.Rules.{IsInMemoryNotOwnedByDevice, IsStable}
use Rattle.adapter.specs.Decoding.{DecodesTo, IsWholePieces, piece_addresses}
use Rattle.adapter.specs.declared.command.Prd.{Prd}
use Rattle.adapter.proofs.Absurd.{true-false, some-none, some_one}
use Rattle.adapter.proofs.Changed.{changed_other, changed_each}
use Rattle.adapter.proofs.OneCommand.{elsewhere_free}
use Rattle.adapter.proofs.ReadDone.{read_done}
use Rattle.adapter.proofs.SaysLemmas.{cut_index}
use Rattle.adapter.proofs.MemoryLemmas.{bytes_index, patched_before, patched_past}

-- ---- what the bytes say

-- the memory is zero between what was put there
zero_between : (a : ℕ) → 12 ≤ a → a < 0x1000 → first_memory a ≡ 0
unfolding first_memory
zero_between a low high =
    patched_before (patched (patched (λ _. 0) 0 header_up_to_ctba) 0x1000 command_fis_up_to_count) 0x1080 prd_bytes a (omega (arith, high))
    ∙ (patched_before (patched (λ _. 0) 0 header_up_to_ctba) 0x1000 command_fis_up_to_count a high ∙ patched_past (λ _. 0) 0 header_up_to_ctba a low)

zero_after_fis : (a : ℕ) → 0x100e ≤ a → a < 0x1080 → first_memory a ≡ 0
unfolding first_memory
zero_after_fis a low high =
    patched_before (patched (patched (λ _. 0) 0 header_up_to_ctba) 0x1000 command_fis_up_to_count) 0x1080 prd_bytes a high
    ∙ (patched_past (patched (λ _. 0) 0 header_up_to_ctba) 0x1000 command_fis_up_to_count a low ∙ patched_past (λ _. 0) 0 header_up_to_ctba a (omega (arith, low)))

abbrev prd : Prd
prd = record { address = 0x64000; bytes = 4096 }

-- the one PRD is of whole pieces
all_one : All IsWholePieces (prd ∷ [])
all_one zero d small = refl
all_one (suc k) d small = absurd (omega arith)

pub first_says : DecodesTo first_memory 0 0 (read_of 100 8) (piece_addresses 0x64000 8)
unfolding first_memory patched bytes_at
first_says = record {
  table = 0x1000;
  prds = prd ∷ [];
  header = record {
    size = refl;
    dword0_is = refl;
    table_address_is = refl;
    aligned = refl;
    zeros = λ i low high. bytes_index first_memory 0 32 i high ∙ zero_between (0 + i) (omega (arith, low)) (omega (arith, high));
  };
  fis = record {
    size = refl;
    fis_type = refl;
    c_bit = refl;
    code = refl;
    features = refl;
    lba = refl;
    device = refl;
    count = refl;
    zeros = λ i low high. bytes_index first_memory 0x1000 20 i high ∙ zero_after_fis (0x1000 + i) (omega (arith, low)) (omega (arith, high));
  };
  meaning = record {
    sectors_fit_if_it_moves_some = λ _. (omega arith, omega arith, omega arith);
    sectors_are_zero_if_it_moves_none = λ h. true-false refl h;
  };
  prds_are_encoded = (
    record {
      size = refl;
      allowed = record { even_address = refl; even_bytes = refl; is_not_empty = omega arith; is_at_most_4_mib = omega arith };
      address = refl;
      upper_is_zero = refl;
      byte_count_is = refl;
    },
    tt,
  );
  prd_count_is_allowed = omega arith;
  prds_are_whole_pieces = all_one;
  places_are = refl;
  place_count_is = refl;
}

-- ---- the rest of the adapter

and_left : (a b : Bool) → a && b ≡ true → a ≡ true
and_left true b h = refl
and_left false b h = h

and_right : (a b : Bool) → a && b ≡ true → b ≡ true
and_right true b h = h
and_right false b h = true-false h refl

sector_is : (k : ℕ) → k < 256 → IsValidSector (first_disk_sector k)
unfolding first_disk_sector
sector_is k small = (length-replicate 512 k, All-replicate (λ b. b < 256) 512 k small)

told_sectors : (disk : Disk) (told : ℕ → List ℕ) → disk.sectors ≡ Some told → ((k : ℕ) → k < disk.sector_count → IsValidSector (told k)) → HasValidSectors disk
told_sectors disk told is each = λ other other_is k small.
    let P : (ℕ → List ℕ) → Type 0 = λ f. IsValidSector (f k) in
    subst P (some_one (sym is ∙ other_is)) (each k small)

-- bytes that are small, as a test
are_small : List ℕ → Bool
are_small [] = true
are_small (b ∷ bs) = nat_lt b 256 && are_small bs

small_index : (bs : List ℕ) (k d : ℕ) → are_small bs ≡ true → d < 256 → slice_index_or bs k d < 256
unfolding are_small
small_index [] k d all small = small
small_index (b ∷ bs) zero d all small = ltb-true b 256 (and_left (nat_lt b 256) (are_small bs) all)
small_index (b ∷ bs) (suc k) d all small = small_index bs k d (and_right (nat_lt b 256) (are_small bs) all) small

small_patched : (memory : ℕ → ℕ) (at : ℕ) (bs : List ℕ) → are_small bs ≡ true → ((a : ℕ) → memory a < 256) → (a : ℕ) → patched memory at bs a < 256
unfolding patched
small_patched memory at bs all small a =
    elim (leb_tells at a) [
      | inl here ↦ rw here.0 (small_index bs (a - at) (memory a) all (small a))
      | inr there ↦ rw there.0 (small a)
    ]

first_small : (a : ℕ) → first_memory a < 256
unfolding first_memory are_small
first_small =
    small_patched (patched (patched (λ _. 0) 0 header_up_to_ctba) 0x1000 command_fis_up_to_count) 0x1080 prd_bytes refl
    (small_patched (patched (λ _. 0) 0 header_up_to_ctba) 0x1000 command_fis_up_to_count refl (small_patched (λ _. 0) 0 header_up_to_ctba refl (λ a. omega arith)))

pub first_sane : HoldsBytesAndTellsDisks first_read_device
first_sane = record {
  memory_holds_bytes = first_small;
  disks_hold_sectors = changed_each (λ _. empty_port) 0 reading_port (λ q p. HasValidSectors p.disk) (told_sectors first_disk first_disk_sector refl (λ k small. sector_is k small)) (λ q. told_sectors no_disk (λ k. []) refl (λ k small. absurd (omega arith)));
  disks_are_known_if_telling = λ _. changed_each (λ _. empty_port) 0 reading_port (λ q p. HasKnownSectors p.disk) (first_disk_sector, refl) (λ q. (λ k. [], refl));
}

-- ---- tests of bytes

from_within : (first n at : ℕ) → is_in_span first n at ≡ true → (first ≤ at) × (at < first + n)
from_within first n at h =
    (leb-true first at (and_left (nat_le first at) (nat_lt at (first + n)) h), ltb-true at (first + n) (and_right (nat_le first at) (nat_lt at (first + n)) h))

from_no : (first n at : ℕ) → (at < first) ⊎ (first + n ≤ at) → is_in_span first n at ≡ false
from_no first n at (inl before) = rw (lt-leb first at before) refl
from_no first n at (inr past) = rw (le-leb first at (omega (arith, past)), le-ltb at (first + n) past) refl

-- a byte outside a run of pieces is in none
pieces_no : (first n at : ℕ) → (at < first) ⊎ (first + 512 * n ≤ at) → is_in_pieces (piece_addresses first n) at ≡ false
pieces_no first zero at outside = refl
pieces_no first (suc n) at (inl before) = rw (from_no first 512 at (inl before), pieces_no (first + 512) n at (inl (omega (arith, before)))) refl
pieces_no first (suc n) at (inr past) = rw (from_no first 512 at (inr (omega (arith, past))), pieces_no (first + 512) n at (inr (omega (arith, past)))) refl

-- ---- the one command

command : SlotDecodesToCommand first_read_device 0 0
unfolding changed
command = record { meaning = read_of 100 8; places = piece_addresses 0x64000 8; says = first_says }

-- where it stands
abbrev stands : CommandLayout
stands = record { header = 0; table = 0x1000; prd_count = 1; places = piece_addresses 0x64000 8; received_fis_area = 0x400 }

stands_is : layout_of first_read_device 0 0 command ≡ stands
unfolding changed command first_says
stands_is = refl

none_of : (a b c : Bool) → a ≡ false → b ≡ false → c ≡ false → a || b || c ≡ false
none_of a b c x y z = rw (x, y, z) refl

one_of : (a b c : Bool) → a || b || c ≡ true → (a ≡ true) ⊎ ((b ≡ true) ⊎ (c ≡ true))
one_of true b c h = inl refl
one_of false true c h = inr (inl refl)
one_of false false c h = inr (inr h)

unwritten : (at : ℕ) → (at < 4) ⊎ (8 ≤ at) → (at < 0x400) ⊎ (0x500 ≤ at) → (at < 0x64000) ⊎ (0x65000 ≤ at) → is_device_writable stands at ≡ false
unwritten at count area frame =
    none_of (is_in_span 4 4 at) (is_in_pieces (piece_addresses 0x64000 8) at) (is_in_span 0x400 256 at) (from_no 4 4 at count) (pieces_no 0x64000 8 at frame) (from_no 0x400 256 at area)

stands_apart : (at : ℕ) → is_read_only stands at ≡ true → is_not_device_writable stands at ≡ true
stands_apart at h =
    elim (one_of (is_in_span 0 4 at) (is_in_span 8 24 at) (is_in_span 0x1000 144 at) h) [
      | inl head ↦
          let in_head = from_within 0 4 at head in
          ap not (unwritten at (inl in_head.1) (inl (omega (arith, in_head.1))) (inl (omega (arith, in_head.1))))
      | inr (inl rest) ↦
          let in_rest = from_within 8 24 at rest in
          ap not (unwritten at (inr in_rest.0) (inl (omega (arith, in_rest.1))) (inl (omega (arith, in_rest.1))))
      | inr (inr table) ↦
          let in_table = from_within 0x1000 144 at table in
          ap not (unwritten at (inr (omega (arith, in_table.0))) (inr (omega (arith, in_table.0))) (inl (omega (arith, in_table.1))))
    ]

pub first_command : HasOneCommand first_read_device 0 0
unfolding changed
first_command = record {
  slot_is_used = inl refl;
  command = command;
  taken_has_these_places = λ t is. some-none is refl;
  reads_apart_from_writes = let P : CommandLayout → Type 0 = λ s. (at : ℕ) → is_read_only s at ≡ true → is_not_device_writable s at ≡ true in subst P (sym stands_is) stands_apart;
  other_slots_have_no_command = λ k ne. record { is_not_issued = changed_other (λ _. false) 0 true k ne; is_not_taken = refl };
  other_ports_are_idle = λ q ne. let P : DevicePort → Type 0 = λ p. IsIdlePort p in subst P (sym (changed_other (λ _. empty_port) 0 reading_port q ne)) quiet;
}
  where
    quiet : IsIdlePort empty_port
    quiet = record { st_is_clear = refl; cr_is_clear = refl; fre_is_clear = refl; fr_is_clear = refl; ci_is_clear = λ _. refl; sact_is_clear = λ _. refl; none_is_taken = λ _. refl }

-- the next frame is none of it
elsewhere : IsOutsideCommand stands 0x65000 4096 first_read_device
elsewhere = record {
  inside = omega arith;
  elsewhere = λ a low high.
      or_no (is_read_only stands a) (is_device_writable stands a)
      (none_of (is_in_span 0 4 a) (is_in_span 8 24 a) (is_in_span 0x1000 144 a) (from_no 0 4 a (inr (omega (arith, low)))) (from_no 8 24 a (inr (omega (arith, low)))) (from_no 0x1000 144 a (inr (omega (arith, low)))))
      (unwritten a (inr (omega (arith, low))) (inr (omega (arith, low))) (inr low));
}
  where
    or_no : (a b : Bool) → a ≡ false → b ≡ false → a || b ≡ false
    or_no a b x y = rw (x, y) refl

pub first_free : IsStable (IsInMemoryNotOwnedByDevice 0x65000 4096) first_read_device
unfolding first_command
first_free =
    let P : CommandLayout → Type 0 = λ s. IsOutsideCommand s 0x65000 4096 first_read_device in
    elsewhere_free first_read_device 0 0 first_command 0x65000 4096 (subst P (sym stands_is) elsewhere)

-- ---- and it can be done

pub first_done : (new : Device) × IsReadDone first_read_device new 0 0 100 8 (piece_addresses 0x64000 8) first_disk_sector
unfolding changed
first_done =
    read_done first_read_device 0 0 100 8 (piece_addresses 0x64000 8) first_disk_sector
    (record {
      may_be_fetched = record {
        fetchable = record { st_is_set = refl; issued = refl; free = refl };
        working = record { cr_is_set = refl; present = refl; fresh = refl; admitted = refl; is_not_broken = refl };
        is_alone_or_all_are_queued = λ slot t is. some-none is refl;
        says = first_says;
      };
      disk_holds_sectors = first_sane.disks_hold_sectors 0;
      told_is = refl;
      on_disk = omega arith;
      inside = λ k small. let place = cut_index 0x64000 8 k small in omega (arith, place, small);
      pieces_are_apart = λ j k before small.
          let first = cut_index 0x64000 8 j (omega (arith, before, small)) in
          let then = cut_index 0x64000 8 k small in
          inl (omega (arith, first, then, before));
    })
