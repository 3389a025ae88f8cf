-- PRDs, one more at the end; and the bytes of a slot, one way and the other.
use Rattle.std.proofs.Common.{ℕ, Bool, zero, suc, ◌≡◌, ◌<◌, ◌≤◌, ◌+◌, ◌-◌, ◌*◌, ◌/◌, List, [], ◌∷◌, ◌++◌, length, take, drop, All, slice_index, slice_index_or, refl, sym, ◌∙◌, ap, arith, subst, append_assoc, length-append}
use Rattle.std.proofs.lemmas.List.{drop_all, get_or_append_left, get_or-append_right}
use Rattle.adapter.specs.Memory.{bytes_at}
use Rattle.adapter.specs.Commands.{IsValidMeaning, Meaning, command_of, reads_memory, transfer_sector_count}
use Rattle.adapter.specs.Encoding.{EncodesPrd, EncodesHeader, EncodesCommand}
use Rattle.adapter.specs.Decoding.{HasPrds, IsWholePieces, DecodesTo, pieces, piece_addresses}
use Rattle.adapter.specs.declared.command.Operation.{Operation}
use Rattle.adapter.specs.declared.command.Prd.{Prd}
use Rattle.adapter.proofs.SaysLemmas.{cut_length, cut_index}
use Rattle.device_model.specs.FetchedBytes.{no_prd}

abbrev Here : (ℕ → ℕ) → ℕ → Prd → Type 0
Here memory at e = EncodesPrd (bytes_at memory at 16) e

pub has_more : (memory : ℕ → ℕ) (at : ℕ) (xs : List Prd) (e : Prd) → HasPrds memory at xs → Here memory (at + 16 * length xs) e →
    HasPrds memory at (xs ++ e ∷ [])
has_more memory at [] e s here = (let p : at + 16 * 0 ≡ at = omega arith in subst (λ a. Here memory a e) p here, tt)
has_more memory at (x ∷ xs) e s here =
    let p : at + 16 * suc (length xs) ≡ at + 16 + 16 * length xs = omega arith in
    (s.0, has_more memory (at + 16) xs e s.1 (subst (λ a. Here memory a e) p here))

-- the i-th of them
pub has_at : (memory : ℕ → ℕ) (at : ℕ) (xs : List Prd) (i : ℕ) → HasPrds memory at xs → i < length xs →
    Here memory (at + 16 * i) (slice_index_or xs i no_prd)
has_at memory at [] i s small = absurd (omega arith)
has_at memory at (x ∷ xs) zero s small = let p : at ≡ at + 16 * 0 = omega arith in subst (λ a. Here memory a x) p s.0
has_at memory at (x ∷ xs) (suc i) s small =
    let p : at + 16 + 16 * i ≡ at + 16 * suc i = omega arith in
    subst (λ a. Here memory a (slice_index_or xs i no_prd)) p (has_at memory (at + 16) xs i s.1 (omega arith))

abbrev prd : ℕ → ℕ → Prd
prd a b = record { address = a; bytes = b }

prd_once : (bytes : List ℕ) (e f : Prd) → EncodesPrd bytes e → EncodesPrd bytes f → e ≡ f
prd_once bytes e f x y = ap (λ a. prd a e.bytes) (sym x.address ∙ y.address) ∙ ap (prd f.address) (sym x.byte_count_is ∙ y.byte_count_is)

-- so many stand there in one way alone
pub has_once : (memory : ℕ → ℕ) (at : ℕ) (xs ys : List Prd) → length xs ≡ length ys → HasPrds memory at xs → HasPrds memory at ys → xs ≡ ys
has_once memory at [] [] n s r = refl
has_once memory at [] (y ∷ ys) n s r = absurd (omega arith)
has_once memory at (x ∷ xs) [] n s r = absurd (omega arith)
has_once memory at (x ∷ xs) (y ∷ ys) n s r =
    let first : x ≡ y = prd_once (bytes_at memory at 16) x y s.0 r.0 in
    let rest : xs ≡ ys = has_once memory (at + 16) xs ys (omega arith) s.1 r.1 in
    λ i. first i ∷ rest i

-- ---- pieces

-- the pieces of one more
pieces_suc : (xs : List Prd) (i : ℕ) → i < length xs →
    length (pieces (take (suc i) xs)) ≡ length (pieces (take i xs)) + (slice_index_or xs i no_prd).bytes / 512
pieces_suc [] i small = absurd (omega arith)
pieces_suc (x ∷ xs) zero small =
    simp (length-append, cut_length x.address (x.bytes / 512)) (omega arith)
pieces_suc (x ∷ xs) (suc i) small =
    let rest = pieces_suc xs i (omega arith) in
    let front = piece_addresses x.address (x.bytes / 512) in
    omega (arith, length-append front (pieces (take (suc i) xs)), length-append front (pieces (take i xs)), rest)

pub pieces_next : (xs : List Prd) (i : ℕ) → i < length xs →
    length (pieces (take (i + 1) xs)) ≡ length (pieces (take i xs)) + (slice_index_or xs i no_prd).bytes / 512
pieces_next xs i small = let next : i + 1 ≡ suc i = omega arith in rw next (pieces_suc xs i small)

-- the pieces of the first ones stand in front of this one
pub record IsBefore (xs : List Prd) (i number left : ℕ) : Type 0 where
  pub front : List ℕ
  pub split : pieces xs ≡ front ++ pieces (drop i xs)
  pub sum : number ≡ length front + left
  pub bound : length front ≤ 8388608 * i

pub before_none : (xs : List Prd) (number : ℕ) → IsBefore xs 0 number number
before_none xs number = record { front = []; split = refl; sum = omega arith; bound = omega arith }

drop_suc : (xs : List Prd) (i : ℕ) (e : Prd) → i < length xs → e ≡ slice_index_or xs i no_prd → drop i xs ≡ e ∷ drop (suc i) xs
drop_suc [] i e small is = absurd (omega arith)
drop_suc (x ∷ xs) zero e small is = ap (λ (y : Prd). y ∷ xs) (sym is)
drop_suc (x ∷ xs) (suc i) e small is = drop_suc xs i e (omega arith) is

drop_next : (xs : List Prd) (i : ℕ) (e : Prd) → i < length xs → e ≡ slice_index_or xs i no_prd → drop i xs ≡ e ∷ drop (i + 1) xs
drop_next xs i e small is = let next : i + 1 ≡ suc i = omega arith in rw next (drop_suc xs i e small is)

pub before_more : (xs : List Prd) (i number left : ℕ) (e : Prd) → i < length xs → e ≡ slice_index_or xs i no_prd → e.bytes / 512 ≤ left →
    e.bytes / 512 ≤ 8388608 → IsBefore xs i number left → IsBefore xs (i + 1) number (left - e.bytes / 512)
before_more xs i number left e small is past most b =
    let front = piece_addresses e.address (e.bytes / 512) in
    let rest : drop i xs ≡ e ∷ drop (i + 1) xs = drop_next xs i e small is in
    record {
      front = b.front ++ front;
      split = b.split ∙ ap (λ (es : List Prd). b.front ++ pieces es) rest ∙ sym (append_assoc b.front front (pieces (drop (i + 1) xs)));
      sum = omega (arith, b.sum, length-append b.front front, cut_length e.address (e.bytes / 512));
      bound = omega (arith, b.bound, most, length-append b.front front, cut_length e.address (e.bytes / 512));
    }

-- and in front of a later one
pub before_on : (xs : List Prd) (i number left k : ℕ) → IsBefore xs i number left → IsBefore xs i (number + k) (left + k)
before_on xs i number left k b = record { front = b.front; split = b.split; sum = omega (arith, b.sum); bound = b.bound }

-- one of the pieces of this one
pub before_here : (xs : List Prd) (i number left : ℕ) (e : Prd) → i < length xs → e ≡ slice_index_or xs i no_prd → left < e.bytes / 512 →
    IsBefore xs i number left → (number < length (pieces xs)) × (e.address + 512 * left ≡ slice_index (pieces xs) number)
before_here xs i number left e small is here b =
    let front = piece_addresses e.address (e.bytes / 512) in
    let after : List ℕ = pieces (drop (i + 1) xs) in
    let all : pieces xs ≡ b.front ++ (front ++ after) = b.split ∙ ap (λ (es : List Prd). b.front ++ pieces es) (drop_next xs i e small is) in
    let n : length front ≡ e.bytes / 512 = cut_length e.address (e.bytes / 512) in
    let place : number - length b.front ≡ left = omega (arith, b.sum) in
    let sizes = ap length all in (
      omega (arith, b.sum, n, sizes, length-append b.front (front ++ after), length-append front after),
      sym
          (ap (λ (l : List ℕ). slice_index l number) all
          ∙ (get_or-append_right b.front (front ++ after) (length b.front) number 0 refl (omega (arith, b.sum))
          ∙ (ap (λ k. slice_index (front ++ after) k) place
          ∙ (get_or_append_left front after 0 left (omega (arith, n)) ∙ cut_index e.address (e.bytes / 512) left here)))),
    )

-- past the last one, all are in front
pub before_all : (xs : List Prd) (i number left : ℕ) → length xs ≤ i → IsBefore xs i number left → length (pieces xs) ≤ number
before_all xs i number left past b =
    let none : pieces (drop i xs) ≡ [] = ap pieces (drop_all i xs past) in
    let all : length (pieces xs) ≡ length (b.front ++ []) = ap length b.split ∙ ap (λ (l : List ℕ). length (b.front ++ l)) none in
    omega (arith, all, b.sum, length-append {A = ℕ} b.front [])

pub only_one : (e : Prd) → IsWholePieces e → All IsWholePieces (e ∷ [])
only_one e here zero d lt = here
only_one e here (suc k) d lt = absurd (omega arith)

-- ---- what a command of this kind says

module _ (k : Operation) (memory : ℕ → ℕ) (list slot : ℕ) (m : Meaning) (places : List ℕ) (is : m.operation ≡ k)
    (s : DecodesTo memory list slot m places) where
  pub said_header : EncodesHeader (bytes_at memory (list + 32 * slot) 32) (reads_memory k) (length s.prds) s.table
  said_header = subst (λ (w : Bool). EncodesHeader (bytes_at memory (list + 32 * slot) 32) w (length s.prds) s.table) (ap reads_memory is) s.header

  pub said_command : EncodesCommand (bytes_at memory s.table 20) (command_of k slot m.first m.count)
  said_command = subst (λ (o : Operation). EncodesCommand (bytes_at memory s.table 20) (command_of o slot m.first m.count)) is s.fis

  pub said_meaning : IsValidMeaning (record { operation = k; first = m.first; count = m.count })
  said_meaning = subst (λ (o : Operation). IsValidMeaning (record { operation = o; first = m.first; count = m.count })) is s.meaning

  pub said_count : length (pieces s.prds) ≡ transfer_sector_count k m.count
  said_count = ap length (sym s.places_are) ∙ (s.place_count_is ∙ ap (λ (o : Operation). transfer_sector_count o m.count) is)
