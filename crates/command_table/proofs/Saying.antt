-- A table and a header that stand in memory say their command.
use Rattle.ata_types.specs.declared.memory.TheConstants.{PRD_BYTES, TABLE_HEAD_BYTES}
use Rattle.ata_types.specs.declared.limits.TheConstants.{MOST_REQUEST_FRAMES}
use Rattle.std.proofs.Common.{ℕ, suc, ◌≡◌, ◌+◌, ◌*◌, ◌<◌, ◌≤◌, Bool, List, [], ◌∷◌, length, take, drop, refl, sym, ◌∙◌, ap, subst, arith, slice_index, slice_index_or, length-drop}
use Rattle.std.proofs.lemmas.List.{get_or-take, get_or-drop, length-take}
use Rattle.adapter.specs.Commands.{Meaning, command_of, reads_memory}
use Rattle.adapter.specs.Memory.{bytes_at}
use Rattle.adapter.specs.Decoding.{DecodesTo, HasPrds}
use Rattle.adapter.specs.Encoding.{EncodesCommand, EncodesHeader, EncodesPrd}
use Rattle.adapter.specs.declared.command.Command.{Command}
use Rattle.adapter.specs.declared.command.Operation.{Operation}
use Rattle.adapter.specs.declared.command.Prd.{Prd}
use Rattle.command_table.specs.BufferBytes.{bytes_from}
use Rattle.command_table.specs.Laws.{MemoryLaws}
use Rattle.command_table.specs.TableStores.{IsTableFor}
use Rattle.command_table.proofs.Parts.{numbers_alike}

-- where memory holds the front of some bytes, it holds each part of that front
pub part_at : MemoryLaws → (memory : ℕ → ℕ) (at n : ℕ) (bs : List ℕ) (i k : ℕ) → bytes_at memory at n ≡ take n bs → n ≤ length bs → i + k ≤ n → bytes_at memory (at + i) k ≡ bytes_from bs i k
part_at laws memory at n bs i k e fits le =
    let size : length (bytes_from bs i k) ≡ k = simp (length-take, length-drop) (omega arith) in
    numbers_alike (bytes_at memory (at + i) k) (bytes_from bs i k) (laws.length_is_count memory (at + i) k ∙ sym size) (λ j lt.
    let small : j < k = omega (arith, laws.length_is_count memory (at + i) k) in
    let place : at + i + j ≡ at + (i + j) = omega arith in
    laws.byte_at_index memory (at + i) k j small
    ∙ ap memory place
    ∙ sym (laws.byte_at_index memory at n (i + j) (omega arith))
    ∙ ap (λ (xs : List ℕ). slice_index xs (i + j)) e
    ∙ get_or-take n bs (i + j) 0 (omega arith)
    ∙ sym (get_or-drop i bs j 0)
    ∙ sym (get_or-take k (drop i bs) j 0 small))

-- PRDs that stand one by one stand in a row
pub prds_stand : (memory : ℕ → ℕ) (es : List Prd) (at : ℕ) → ((i : ℕ) (d : Prd) → i < length es → EncodesPrd (bytes_at memory (at + 16 * i) 16) (slice_index_or es i d)) → HasPrds memory at es
prds_stand memory [] at each = tt
prds_stand memory (e ∷ es) at each =
    let first : at + 16 * 0 ≡ at = omega arith in (
      rw first at (each 0 e (omega arith)),
      prds_stand memory es (at + 16) (λ i d lt.
          let next : at + 16 + 16 * i ≡ at + 16 * (suc i) = omega arith in
          rw next (each (suc i) d (omega arith))),
    )

-- a table at the head of some bytes, which memory holds with FIS and PRDs, and a header
module _ (laws : MemoryLaws) (memory : ℕ → ℕ) (list slot at : ℕ) (prds : List Prd) (table header : List ℕ) (few : length prds ≤ MOST_REQUEST_FRAMES) (size : TABLE_HEAD_BYTES + PRD_BYTES * length prds ≤ length table)
    (here : bytes_at memory at (TABLE_HEAD_BYTES + PRD_BYTES * length prds) ≡ take (TABLE_HEAD_BYTES + PRD_BYTES * length prds) table) (head : bytes_at memory (list + 32 * slot) 32 ≡ header)
    (writes : Bool) (command : Command) (direction : (o : Operation) (s first count : ℕ) → command ≡ command_of o s first count → writes ≡ reads_memory o) (fis : EncodesCommand (bytes_from table 0 20) command)
    (each : (i : ℕ) (d : Prd) → i < length prds → EncodesPrd (bytes_from table (TABLE_HEAD_BYTES + PRD_BYTES * i) 16) (slice_index_or prds i d))
    (heads : EncodesHeader header writes (length prds) at) where
  part_here : (i k : ℕ) → i + k ≤ TABLE_HEAD_BYTES + PRD_BYTES * length prds → bytes_at memory (at + i) k ≡ bytes_from table i k
  part_here i k fits = part_at laws memory at (TABLE_HEAD_BYTES + PRD_BYTES * length prds) table i k here size fits

  fis_here : bytes_at memory at 20 ≡ bytes_from table 0 20
  fis_here = let same : at + 0 ≡ at = omega arith in ap (λ (a : ℕ). bytes_at memory a 20) (sym same) ∙ part_here 0 20 (omega arith)

  pub table_says : (m : Meaning) (places : List ℕ) → IsTableFor slot command prds m places →
      (s : DecodesTo memory list slot m places) × (s.table ≡ at) × (s.prds ≡ prds)
  table_says m places is =
      let H : List ℕ → Type 0 = λ bytes. EncodesHeader bytes writes (length prds) at in
      let W : Bool → Type 0 = λ w. EncodesHeader (bytes_at memory (list + 32 * slot) 32) w (length prds) at in
      let F : List ℕ → Type 0 = λ bytes. EncodesCommand bytes command in
      let C : Command → Type 0 = λ c. EncodesCommand (bytes_at memory at 20) c in (
        record {
          table = at;
          prds = prds;
          header = subst W (direction m.operation slot m.first m.count is.fields) (subst H (sym head) heads);
          fis = subst C is.fields (subst F (sym fis_here) fis);
          meaning = is.meaning;
          prds_are_encoded = prds_stand memory prds (at + 128) (λ i d lt.
              let P : List ℕ → Type 0 = λ bytes. EncodesPrd bytes (slice_index_or prds i d) in
              let place : at + (TABLE_HEAD_BYTES + PRD_BYTES * i) ≡ at + TABLE_HEAD_BYTES + PRD_BYTES * i = omega arith in
              subst P (sym (part_here (TABLE_HEAD_BYTES + PRD_BYTES * i) 16 (omega arith)) ∙ ap (λ (a : ℕ). bytes_at memory a 16) place) (each i d lt));
          prd_count_is_allowed = omega arith;
          prds_are_whole_pieces = is.prds_are_whole_pieces;
          places_are = is.places_are;
          place_count_is = is.place_count_is;
        },
        refl,
        refl,
      )
