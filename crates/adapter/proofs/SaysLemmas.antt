-- What a slot says depends on its header and its table alone, and is one command with one list of places.
use Rattle.ata_types.specs.declared.memory.TheConstants.{PRD_BYTES, TABLE_HEAD_BYTES}
use Rattle.std.proofs.Common.{ℕ, zero, suc, ◌≡◌, ◌<◌, ◌≤◌, ◌+◌, ◌*◌, ◌^◌, List, [], ◌∷◌, length, slice_index, refl, sym, ◌∙◌, ap, arith, subst, Bool, true, false, if◌then◌else◌, nat_eq}
use Rattle.byteorder.specs.Endian.{little_from}
use Rattle.adapter.specs.Memory.{bytes_at}
use Rattle.adapter.specs.Commands.{Meaning, command_of, moves_disk_sectors, reads_memory, transfer_sector_count}
use Rattle.adapter.specs.Encoding.{EncodesCommand, EncodesHeader, EncodesPrd}
use Rattle.adapter.specs.Decoding.{DecodesTo, HasPrds, pieces, piece_addresses}
use Rattle.adapter.specs.declared.command.Operation.{Operation}
use Rattle.adapter.specs.declared.command.Operation.TheVariants.{Identify, Read, Write, ReadQueued, WriteQueued, Flush, Trim, ReadLog}
use Rattle.adapter.specs.declared.command.Prd.{Prd}
use Rattle.adapter.proofs.Absurd.{true-false}
use Rattle.adapter.proofs.MemoryLemmas.{bytes_same, bytes_length, bytes_index}

-- two memories have the same bytes there
abbrev pub Agree : (ℕ → ℕ) → (ℕ → ℕ) → ℕ → ℕ → Type 0
Agree old new from to = (at : ℕ) → from ≤ at → at < to → new at ≡ old at

-- where two lists agree, byte by byte, they spell the same number
pub little_from_agrees : (n i j : ℕ) (xs ys : List ℕ) → ((m : ℕ) → m < n → slice_index xs (i + m) ≡ slice_index ys (j + m)) → little_from i n xs ≡ little_from j n ys
little_from_agrees zero i j xs ys h = refl
little_from_agrees (suc n) i j xs ys h =
    let head : slice_index xs i ≡ slice_index ys j = ap (slice_index xs) (omega arith) ∙ h 0 (omega arith) ∙ ap (slice_index ys) (omega arith) in
    let rest : little_from (suc i) n xs ≡ little_from (suc j) n ys =
    little_from_agrees n (suc i) (suc j) xs ys (λ m lt.
    ap (slice_index xs) (omega arith) ∙ h (suc m) (omega arith) ∙ ap (slice_index ys) (omega arith)) in
    rw (head, rest) refl

-- ---- the same bytes say the same

module _ (old new : ℕ → ℕ) where
  pub byte_same : (at n i : ℕ) → i < n → new (at + i) ≡ old (at + i) → slice_index (bytes_at new at n) i ≡ slice_index (bytes_at old at n) i
  byte_same at n i small same = bytes_index new at n i small ∙ same ∙ sym (bytes_index old at n i small)

  pub header_same : (at : ℕ) (writes : Bool) (entries table : ℕ) → Agree old new at (at + 4) → Agree old new (at + 8) (at + 32) →
      EncodesHeader (bytes_at old at 32) writes entries table → EncodesHeader (bytes_at new at 32) writes entries table
  header_same at writes entries table head rest s = record {
    size = bytes_length new at 32;
    dword0_is = little_from_agrees 4 0 0 (bytes_at new at 32) (bytes_at old at 32) (λ m lt. byte_same at 32 (0 + m) (omega arith) (head (at + (0 + m)) (omega arith) (omega arith))) ∙ s.dword0_is;
    table_address_is = little_from_agrees 4 8 8 (bytes_at new at 32) (bytes_at old at 32) (λ m lt. byte_same at 32 (8 + m) (omega arith) (rest (at + (8 + m)) (omega arith) (omega arith))) ∙ s.table_address_is;
    aligned = s.aligned;
    zeros = λ i low high. byte_same at 32 i high (rest (at + i) (omega arith) (omega arith)) ∙ s.zeros i low high;
  }

  pub prds_same : (from to at : ℕ) (prds : List Prd) → Agree old new from to → from ≤ at → at + 16 * length prds ≤ to → HasPrds old at prds → HasPrds new at prds
  prds_same from to at [] same low high s = s
  prds_same from to at (e ∷ es) same low high s =
      let here : bytes_at new at 16 ≡ bytes_at old at 16 = bytes_same old new at 16 (λ a from_at to_at. same a (omega arith) (omega arith)) in
      let P : List ℕ → Type 0 = λ bytes. EncodesPrd bytes e in
      (subst P (sym here) s.0, prds_same from to (at + 16) es same (omega arith) (omega arith) s.1)

  unfoldable pub says_same : (list slot : ℕ) (m : Meaning) (places : List ℕ) (s : DecodesTo old list slot m places) →
      Agree old new (list + 32 * slot) (list + 32 * slot + 4) → Agree old new (list + 32 * slot + 8) (list + 32 * slot + 32) →
      Agree old new s.table (s.table + TABLE_HEAD_BYTES + PRD_BYTES * length s.prds) → DecodesTo new list slot m places
  says_same list slot m places s head rest body =
      let fis : bytes_at new s.table 20 ≡ bytes_at old s.table 20 = bytes_same old new s.table 20 (λ a low high. body a low (omega arith)) in
      let P : List ℕ → Type 0 = λ bytes. EncodesCommand bytes (command_of m.operation slot m.first m.count) in
      record {
        table = s.table;
        prds = s.prds;
        header = header_same (list + 32 * slot) (reads_memory m.operation) (length s.prds) s.table head rest s.header;
        fis = subst P (sym fis) s.fis;
        meaning = s.meaning;
        prds_are_encoded = prds_same s.table (s.table + TABLE_HEAD_BYTES + PRD_BYTES * length s.prds) (s.table + TABLE_HEAD_BYTES) s.prds body (omega arith) (omega arith) s.prds_are_encoded;
        prd_count_is_allowed = s.prd_count_is_allowed;
        prds_are_whole_pieces = s.prds_are_whole_pieces;
        places_are = s.places_are;
        place_count_is = s.place_count_is;
      }

-- ---- pieces cut from a region

pub cut_length : (at n : ℕ) → length (piece_addresses at n) ≡ n
cut_length at zero = refl
cut_length at (suc n) = let rest = cut_length (at + 512) n in omega (arith, rest)

pub cut_index : (at n i : ℕ) → i < n → slice_index (piece_addresses at n) i ≡ at + 512 * i
cut_index at zero i small = absurd (omega arith)
cut_index at (suc n) zero small = omega arith
cut_index at (suc n) (suc i) small = cut_index (at + 512) n i (omega arith) ∙ omega arith

-- ---- one meaning

prd_one : (bytes : List ℕ) (a b : Prd) → EncodesPrd bytes a → EncodesPrd bytes b → a ≡ b
prd_one bytes a b x y =
    let e : a.address ≡ b.address = sym x.address ∙ y.address in
    let f : a.bytes ≡ b.bytes = sym x.byte_count_is ∙ y.byte_count_is in
    λ i. record { address = e i; bytes = f i }

prds_one : (memory : ℕ → ℕ) (at : ℕ) (xs ys : List Prd) → length xs ≡ length ys → HasPrds memory at xs → HasPrds memory at ys → xs ≡ ys
prds_one memory at [] [] e x y = refl
prds_one memory at [] (b ∷ ys) e x y = absurd (omega arith)
prds_one memory at (a ∷ xs) [] e x y = absurd (omega arith)
prds_one memory at (a ∷ xs) (b ∷ ys) e x y =
    let here : a ≡ b = prd_one (bytes_at memory at 16) a b x.0 y.0 in
    let there : xs ≡ ys = prds_one memory (at + 16) xs ys (omega arith) x.1 y.1 in
    λ i. here i ∷ there i

w_small : (b : Bool) → (if b then 2 ^ 6 else 0) ≤ 64
w_small true = omega arith
w_small false = omega arith

-- the operation of a code
abbrev operation_of : ℕ → Operation
operation_of code =
    if nat_eq code 0xec then Identify
    else (if nat_eq code 0x25 then Read
    else (if nat_eq code 0x35 then Write
    else (if nat_eq code 0x60 then ReadQueued
    else (if nat_eq code 0x61 then WriteQueued
    else (if nat_eq code 0xea then Flush
    else (if nat_eq code 0x06 then Trim else ReadLog))))))

operation_back : (o : Operation) (slot first count : ℕ) → operation_of (command_of o slot first count).code ≡ o
operation_back Identify slot first count = refl
operation_back Read slot first count = refl
operation_back Write slot first count = refl
operation_back ReadQueued slot first count = refl
operation_back WriteQueued slot first count = refl
operation_back Flush slot first count = refl
operation_back Trim slot first count = refl
operation_back ReadLog slot first count = refl

lba_first : (o : Operation) (slot first count : ℕ) → moves_disk_sectors o ≡ true → (command_of o slot first count).lba ≡ first
lba_first Read slot first count h = refl
lba_first Write slot first count h = refl
lba_first ReadQueued slot first count h = refl
lba_first WriteQueued slot first count h = refl
lba_first Identify slot first count h = true-false h refl
lba_first Flush slot first count h = true-false h refl
lba_first Trim slot first count h = true-false h refl
lba_first ReadLog slot first count h = true-false h refl

pieces_ranged : (o : Operation) (count : ℕ) → moves_disk_sectors o ≡ true → transfer_sector_count o count ≡ count
pieces_ranged Read count h = refl
pieces_ranged Write count h = refl
pieces_ranged ReadQueued count h = refl
pieces_ranged WriteQueued count h = refl
pieces_ranged Identify count h = true-false h refl
pieces_ranged Flush count h = true-false h refl
pieces_ranged Trim count h = true-false h refl
pieces_ranged ReadLog count h = true-false h refl

-- two readings of a slot are one
module _ (memory : ℕ → ℕ) (list slot : ℕ) (m n : Meaning) (xs ys : List ℕ) (a : DecodesTo memory list slot m xs) (b : DecodesTo memory list slot n ys) where
  pub says_table : a.table ≡ b.table
  says_table = sym a.header.table_address_is ∙ b.header.table_address_is

  pub says_prds : a.prds ≡ b.prds
  says_prds =
      let same : length a.prds ≡ length b.prds =
      omega (arith, a.header.dword0_is, b.header.dword0_is, w_small (reads_memory m.operation), w_small (reads_memory n.operation)) in
      let P : ℕ → Type 0 = λ at. HasPrds memory (at + TABLE_HEAD_BYTES) a.prds in
      prds_one memory (b.table + TABLE_HEAD_BYTES) a.prds b.prds same (subst P says_table a.prds_are_encoded) b.prds_are_encoded

  pub says_places : xs ≡ ys
  says_places = a.places_are ∙ (ap pieces says_prds ∙ sym b.places_are)

  fis_there : EncodesCommand (bytes_at memory b.table 20) (command_of m.operation slot m.first m.count)
  fis_there =
      let P : ℕ → Type 0 = λ t. EncodesCommand (bytes_at memory t 20) (command_of m.operation slot m.first m.count) in
      subst P says_table a.fis

  pub says_operation : m.operation ≡ n.operation
  says_operation =
      sym (operation_back m.operation slot m.first m.count)
      ∙ ap operation_of (sym fis_there.code ∙ b.fis.code)
      ∙ operation_back n.operation slot n.first n.count

  first_same : (moves_sectors : Bool) → moves_disk_sectors m.operation ≡ moves_sectors → m.first ≡ n.first
  first_same true h =
      let k : moves_disk_sectors n.operation ≡ true = ap moves_disk_sectors (sym says_operation) ∙ h in
      sym (lba_first m.operation slot m.first m.count h) ∙ (sym fis_there.lba ∙ b.fis.lba) ∙ lba_first n.operation slot n.first n.count k
  first_same false h =
      let k : moves_disk_sectors n.operation ≡ false = ap moves_disk_sectors (sym says_operation) ∙ h in
      (a.meaning.sectors_are_zero_if_it_moves_none h).0 ∙ sym (b.meaning.sectors_are_zero_if_it_moves_none k).0

  count_same : (moves_sectors : Bool) → moves_disk_sectors m.operation ≡ moves_sectors → m.count ≡ n.count
  count_same true h =
      let k : moves_disk_sectors n.operation ≡ true = ap moves_disk_sectors (sym says_operation) ∙ h in
      sym (pieces_ranged m.operation m.count h) ∙ (sym a.place_count_is ∙ ap length says_places ∙ b.place_count_is) ∙ pieces_ranged n.operation n.count k
  count_same false h =
      let k : moves_disk_sectors n.operation ≡ false = ap moves_disk_sectors (sym says_operation) ∙ h in
      (a.meaning.sectors_are_zero_if_it_moves_none h).1 ∙ sym (b.meaning.sectors_are_zero_if_it_moves_none k).1

  pub says_meaning : m ≡ n
  says_meaning =
      let o : m.operation ≡ n.operation = says_operation in
      let f : m.first ≡ n.first = first_same (moves_disk_sectors m.operation) refl in
      let c : m.count ≡ n.count = count_same (moves_disk_sectors m.operation) refl in
      λ i. record { operation = o i; first = f i; count = c i }
