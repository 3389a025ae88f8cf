-- A bit for each frame in words.
use Rattle.std.proofs.Common.{ℕ, ◌≡◌, ◌≢◌, ◌*◌, ◌/◌, ◌%◌, ◌^◌, ◌<◌, ◌⊎◌, List, length, get_or, set, bit_and, bit_or, sym, ap, ◌∙◌, arith, inl, inr}
use Rattle.std.specs.Int.{bit_at, bit_not, w64}
use Rattle.std.proofs.lemmas.Bool.{cases_eq, cases_lt}
use Rattle.std.proofs.lemmas.List.{get_or_past, get_or-set_other, get_or-set_same}
use Rattle.std.proofs.lemmas.Nat.Bits.{bit_at_clear_other, bit_at_clear_same, bit_at_set_other, bit_at_set_same, bit_at-zero}
use Rattle.ata_types.specs.declared.memory.TheConstants.{MOST_FRAMES}
use Rattle.dma_frames.specs.FrameBits.{frame_bit}

-- where a word is put in the place of the frame's, with the other bits as they were
module _ (words : List ℕ) (many : length words ≡ 16) (f w : ℕ) (within : f < MOST_FRAMES) where
  here : get_or (set words (f / 64) w) (f / 64) 0 ≡ w
  here = get_or-set_same words (f / 64) w 0 (omega (arith, many, within))

  bit_here : frame_bit (set words (f / 64) w) f ≡ bit_at w (f % 64)
  bit_here = ap (λ (x : ℕ). bit_at x (f % 64)) here

  bits_stay : ((i : ℕ) → i < 64 → i ≢ f % 64 → bit_at w i ≡ bit_at (get_or words (f / 64) 0) i) → (k : ℕ) → k ≢ f → frame_bit (set words (f / 64) w) k ≡ frame_bit words k
  bits_stay same k other = by (cases_eq (k / 64) (f / 64))
    where
      by : (k / 64 ≡ f / 64) ⊎ (k / 64 ≢ f / 64) → frame_bit (set words (f / 64) w) k ≡ frame_bit words k
      by (inl e) =
          ap (λ (i : ℕ). bit_at (get_or (set words (f / 64) w) i 0) (k % 64)) e
          ∙ (ap (λ (x : ℕ). bit_at x (k % 64)) here
          ∙ (same (k % 64) (omega arith) (λ p. other (omega (arith, p, e)))
          ∙ ap (λ (i : ℕ). bit_at (get_or words i 0) (k % 64)) (sym e)))
      by (inr not) = ap (λ (x : ℕ). bit_at x (k % 64)) (get_or-set_other words (f / 64) (k / 64) w 0 not)

module _ (words : List ℕ) (many : length words ≡ 16) (f : ℕ) (within : f < MOST_FRAMES) where
  abbrev word : ℕ
  word = get_or words (f / 64) 0

  abbrev with_bit : ℕ
  with_bit = bit_or word (1 * 2 ^ (f % 64) % 2 ^ 64)

  abbrev without_bit : ℕ
  without_bit = bit_and word (bit_not w64 (1 * 2 ^ (f % 64) % 2 ^ 64))

  pub set_here : frame_bit (set words (f / 64) with_bit) f ≡ 1
  set_here = bit_here words many f with_bit within ∙ bit_at_set_same w64 word (f % 64) (omega arith)

  pub set_others : (k : ℕ) → k ≢ f → frame_bit (set words (f / 64) with_bit) k ≡ frame_bit words k
  set_others = bits_stay words many f with_bit within (λ i lt other. bit_at_set_other w64 word (f % 64) (omega arith) i other)

  pub clear_here : frame_bit (set words (f / 64) without_bit) f ≡ 0
  clear_here = bit_here words many f without_bit within ∙ bit_at_clear_same w64 word (f % 64) (omega arith)

  pub clear_others : (k : ℕ) → k ≢ f → frame_bit (set words (f / 64) without_bit) k ≡ frame_bit words k
  clear_others = bits_stay words many f without_bit within (λ i lt other. bit_at_clear_other w64 word (f % 64) (omega arith) i lt other)

-- words of zeros have no bit
pub no_bit : (words : List ℕ) → ((i : ℕ) → get_or words i 0 ≡ 0) → (f : ℕ) → frame_bit words f ≡ 1 → ⊥
no_bit words zero f one =
    let e = ap (λ (w : ℕ). bit_at w (f % 64)) (zero (f / 64)) in let z = bit_at-zero (f % 64) in omega (arith, one, e, z)

-- and none past the memory has
pub within_if_set : (words : List ℕ) → length words ≡ 16 → (f : ℕ) → frame_bit words f ≡ 1 → f < MOST_FRAMES
within_if_set words many f one = elim (cases_lt f MOST_FRAMES) [
  | inl lt ↦ lt
  | inr past ↦ absurd (
      let e = ap (λ (w : ℕ). bit_at w (f % 64)) (get_or_past words (f / 64) 0 (omega (arith, many, past))) in let z = bit_at-zero (f % 64) in omega (arith, one, e, z))
]
