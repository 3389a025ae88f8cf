-- Numbered sectors are sectors, and the next one is cleared.
use Rattle.std.proofs.Common.{ℕ, suc, Bool, true, false, ◌≡◌, ◌≢◌, ◌∙◌, ◌<◌, ◌≤◌, ◌+◌, ◌%◌, ◌&&◌, List, replicate, sym, ap, inl, inr, arith}
use Rattle.std.specs.Prelude.{if◌then◌else◌, nat_le, nat_lt}
use Rattle.std.proofs.lemmas.Bool.{and_from}
use Rattle.std.proofs.lemmas.Bool.Decides.{eqb_tells, leb_tells}
use Rattle.std.proofs.lemmas.List.{length-replicate}
use Rattle.std.proofs.lemmas.List.Elements.{All-replicate}
use Rattle.sector_store.specs.Stores.{IsSectorBytes, with_sector}
use Rattle.server_examples.specs.NumberedSectors.{numbered_sectors_with_cleared_range}

same_bytes : (byte : ℕ) → byte < 256 → IsSectorBytes (replicate 512 byte)
same_bytes byte small = (length-replicate 512 byte, All-replicate (λ b. b < 256) 512 byte small)

pub numbered_sector : (first next k : ℕ) → IsSectorBytes (numbered_sectors_with_cleared_range first next k)
numbered_sector first next k = by (nat_le first k && nat_lt k next)
  where
    by : (b : Bool) → IsSectorBytes (if b then replicate 512 0 else replicate 512 (k % 256))
    by true = same_bytes 0 (omega arith)
    by false = same_bytes (k % 256) (omega arith)

is_le : (a b : ℕ) → a ≤ b → nat_le a b ≡ true
is_le a b le = elim (leb_tells a b) [ inl is ↦ is.0 | inr isnt ↦ absurd (let lt : b < a = isnt.1 in omega (arith, le, lt)) ]

is_lt : (a b : ℕ) → a < b → nat_lt a b ≡ true
is_lt a b lt = is_le (suc a) b (omega (arith, lt))

-- whether a number is below the next one
same_lt : (k next : ℕ) → k ≢ next → nat_lt k (next + 1) ≡ nat_lt k next
same_lt k next ne =
    elim (leb_tells (suc k) next) [
      | inl is ↦ is_lt k (next + 1) (let le : suc k ≤ next = is.1 in omega (arith, le)) ∙ sym is.0
      | inr isnt ↦
          let lt : next < suc k = isnt.1 in
          elim (leb_tells (suc k) (next + 1)) [
            | inl up ↦ absurd (ne (let le : suc k ≤ next + 1 = up.1 in omega (arith, le, lt)))
            | inr down ↦ down.0 ∙ sym isnt.0
          ]
    ]

-- the sector behind those that were cleared is cleared
pub numbered_clears : (first next : ℕ) → first ≤ next → numbered_sectors_with_cleared_range first (next + 1) ≡ with_sector (numbered_sectors_with_cleared_range first next) next (replicate 512 0)
numbered_clears first next le = λ i k. at k i
  where
    zeros : List ℕ
    zeros = replicate 512 0

    at : (k : ℕ) → numbered_sectors_with_cleared_range first (next + 1) k ≡ with_sector (numbered_sectors_with_cleared_range first next) next zeros k
    at k =
        elim (eqb_tells k next) [
          | inl same ↦
              let here : k ≡ next = same.1 in
              ap (λ (b : Bool). if b then zeros else replicate 512 (k % 256))
              (and_from (nat_le first k) (nat_lt k (next + 1)) (is_le first k (omega (arith, le, here))) (is_lt k (next + 1) (omega (arith, here))))
              ∙ sym (ap (λ (b : Bool). if b then zeros else numbered_sectors_with_cleared_range first next k) same.0)
          | inr other ↦
              ap (λ (b : Bool). if nat_le first k && b then zeros else replicate 512 (k % 256)) (same_lt k next other.1)
              ∙ sym (ap (λ (b : Bool). if b then zeros else numbered_sectors_with_cleared_range first next k) other.0)
        ]
