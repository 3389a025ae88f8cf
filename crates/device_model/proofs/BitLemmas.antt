-- Bits of `a | b` and `a & !b`, as functions of the place.
use Rattle.std.proofs.Common.{ℕ, zero, suc, ◌≡◌, ◌<◌, ◌≤◌, ◌+◌, ◌-◌, ◌*◌, ◌/◌, ◌%◌, ◌^◌, ◌⊎◌, Bool, false, ap, ◌==◌, refl, sym, ◌∙◌, arith, min, inl, inr, ◌||◌, ◌&&◌, w32, ◌≢◌}
use Rattle.std.specs.Prelude.{not, bit_and, bit_or}
use Rattle.std.specs.Int.{bit_at, bit_not, trailing_zeros}
use Rattle.std.proofs.Math.Nat.{div-add-mod, div-eq_of_lt}
use Rattle.std.proofs.lemmas.Nat.{mod_below, pow_pos}
use Rattle.std.proofs.lemmas.Nat.Bits.{bit_at_or, bit_at_and, bit_at-lt, bit_at-suc, bit_at_not, bit_at_above, bit_at-trailing_zeros}
use Rattle.std.proofs.lemmas.Bool.Decides.{eqb_tells}
use Rattle.std.proofs.lemmas.Bool.{cases_lt}
use Rattle.hba_regs.specs.Bits.{bit}
use Rattle.adapter.specs.Memory.{changed}
use Rattle.device_model.proofs.Absurd.{true-false}
use Rattle.device_model.proofs.Places.{fun_ext, changed_same, changed_other}
use Rattle.device_model.specs.WordBits.{word_bits}

-- a bit is nought or one
nought_or_one : (n k : ℕ) → (bit_at n k ≡ 0) ⊎ (bit_at n k ≡ 1)
nought_or_one n k = small (bit_at n k) (bit_at-lt n k)
  where
    small : (b : ℕ) → b < 2 → (b ≡ 0) ⊎ (b ≡ 1)
    small zero h = inl refl
    small (suc b) h = inr (omega arith)

pub bit-or : (a b k : ℕ) → bit (bit_or a b) k ≡ bit a k || bit b k
bit-or a b k =
    rw bit_at_or
    (elim (nought_or_one a k) [
      | inl x ↦ elim (nought_or_one b k) [ inl y ↦ rw (x, y) refl | inr y ↦ rw (x, y) refl ]
      | inr x ↦ elim (nought_or_one b k) [ inl y ↦ rw (x, y) refl | inr y ↦ rw (x, y) refl ]
    ])

pub bits_of-or : (a b : ℕ) → word_bits (bit_or a b) ≡ (λ k. word_bits a k || word_bits b k)
bits_of-or a b = fun_ext (λ k. bit-or a b k)

kept_low : (a b k : ℕ) → b < 2 ^ 32 → k < 32 → bit (bit_and a (bit_not w32 b)) k ≡ bit a k && not (bit b k)
kept_low a b k small low =
    let e : bit_at (bit_not w32 b) k ≡ 1 - bit_at b k = bit_at_not w32 b k small low in
    rw (bit_at_and a (bit_not w32 b) k, e)
    (elim (nought_or_one a k) [
      | inl x ↦ elim (nought_or_one b k) [ inl y ↦ rw (x, y) refl | inr y ↦ rw (x, y) refl ]
      | inr x ↦ elim (nought_or_one b k) [ inl y ↦ rw (x, y) refl | inr y ↦ rw (x, y) refl ]
    ])

min_zero : (n : ℕ) → min 0 n ≡ 0
min_zero n = omega arith

kept_high : (a b k : ℕ) → a < 2 ^ 32 → 32 ≤ k → bit (bit_and a (bit_not w32 b)) k ≡ bit a k && not (bit b k)
kept_high a b k small high =
    let e : bit_at a k ≡ 0 = bit_at_above a 32 k small high in
    rw (bit_at_and a (bit_not w32 b) k, e) (rw (min_zero (bit_at (bit_not w32 b) k)) refl)

pub bits_of-and_not : (a b : ℕ) → a < 2 ^ 32 → b < 2 ^ 32 → word_bits (bit_and a (bit_not w32 b)) ≡ (λ k. word_bits a k && not (word_bits b k))
bits_of-and_not a b small other =
    fun_ext (λ k. elim (cases_lt k 32) [ inl low ↦ kept_low a b k other low | inr high ↦ kept_high a b k small high ])

-- a value of 32 bits of which none is set is zero
pub none_set : (value : ℕ) → value < 2 ^ 32 → ((k : ℕ) → bit value k ≡ false) → value ≡ 0
none_set value fits none =
    elim (cases_lt 0 value) [
      | inl some ↦
          let lowest = bit_at-trailing_zeros w32 value some fits in
          absurd (true-false (ap (λ (b : ℕ). b == 1) lowest.1) (none (trailing_zeros w32 value)))
      | inr least ↦ omega arith
    ]

-- a value of 32 bits with one bit as said, and the others as they were
pub one_bit : (value new place : ℕ) (set : Bool) → value < 2 ^ 32 → new < 2 ^ 32 → bit new place ≡ set →
    ((k : ℕ) → k < 32 → k ≢ place → bit new k ≡ bit value k) → word_bits new ≡ changed (word_bits value) place set
one_bit value new place set fits new_fits here others =
    fun_ext (λ k.
    elim (eqb_tells k place) [
      | inl same ↦ rw same.1 (here ∙ sym (changed_same (word_bits value) place set))
      | inr differ ↦ other_bit k differ.1 ∙ sym (changed_other (word_bits value) place set k differ.1)
    ])
  where
    other_bit : (k : ℕ) → k ≢ place → bit new k ≡ bit value k
    other_bit k ne =
        elim (cases_lt k 32) [
          | inl low ↦ others k low ne
          | inr high ↦ rw (bit_at_above new 32 k new_fits high, bit_at_above value 32 k fits high) refl
        ]

-- a value that is shifted to zero has no bit set from there on
pub shifted_clear : (value place k : ℕ) → value / 2 ^ place ≡ 0 → place ≤ k → bit value k ≡ false
shifted_clear value place k gone high =
    let whole : 2 ^ place * (value / 2 ^ place) + value % 2 ^ place ≡ value = div-add-mod value (2 ^ place) in
    let none : 2 ^ place * 0 + value % 2 ^ place ≡ value = rw gone at whole in
    let rest : value % 2 ^ place < 2 ^ place = mod_below value (2 ^ place) (pow_pos place) in
    let small : value < 2 ^ place = omega (arith, none, rest) in
    rw (bit_at_above value place k small high) refl

-- a value of 32 bits with no bit set from a place on is below that power
below_place : (value place : ℕ) → value < 2 ^ 32 → ((k : ℕ) → place ≤ k → bit value k ≡ false) → value < 2 ^ place
below_place value zero fits none =
    let nothing : value ≡ 0 = none_set value fits (λ k. none k (omega arith)) in
    omega (arith, nothing)
below_place value (suc place) fits none =
    let split : 2 * (value / 2) + value % 2 ≡ value = div-add-mod value 2 in
    let rest : value % 2 < 2 = mod_below value 2 (omega arith) in
    let half : value / 2 < 2 ^ place =
    below_place (value / 2) place (omega (arith, split, rest, fits))
    (λ k high. ap (λ (b : ℕ). b == 1) (sym (bit_at-suc value k)) ∙ none (suc k) (omega (arith, high))) in
    omega (arith, split, rest, half)

-- a value of 32 bits with no bit set from a place on is shifted to zero
pub clear_shifted : (value place : ℕ) → value < 2 ^ 32 → ((k : ℕ) → place ≤ k → bit value k ≡ false) →
    value / 2 ^ place ≡ 0
clear_shifted value place fits none =
    let below : value < 2 ^ place = below_place value place fits none in
    div-eq_of_lt below

pub bit-and : (a b k : ℕ) → bit (bit_and a b) k ≡ bit a k && bit b k
bit-and a b k =
    rw bit_at_and
    (elim (nought_or_one a k) [
      | inl x ↦ elim (nought_or_one b k) [ inl y ↦ rw (x, y) refl | inr y ↦ rw (x, y) refl ]
      | inr x ↦ elim (nought_or_one b k) [ inl y ↦ rw (x, y) refl | inr y ↦ rw (x, y) refl ]
    ])
