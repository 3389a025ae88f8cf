-- Numbers of four bits in a word.
use Rattle.std.proofs.Common.{ℕ, zero, suc, ◌≡◌, ◌≢◌, ◌+◌, ◌-◌, ◌*◌, ◌/◌, ◌%◌, ◌^◌, ◌<◌, ◌≤◌, bit_or, mul-le-mul, sym, ap, ◌∙◌, arith, inl, inr}
use Rattle.std.proofs.Math.Nat.{div-div-eq-div-mul, one-le-pow, pow-le-pow_right}
use Rattle.std.specs.Int.{bit_at}
use Rattle.std.proofs.lemmas.Bool.{cases_lt}
use Rattle.std.proofs.lemmas.Nat.{pow-add}
use Rattle.std.proofs.lemmas.Nat.Bits.{bit_at_or, bit_at-zero, bit_at_above, bit_at_cat_low, bit_at_cat_high, same_from_bits_below}
use Rattle.dma_frames.specs.TableWords.{number_at}

-- the bits of what is shifted
bit_at_shifted : (n s i : ℕ) → bit_at (n / 2 ^ s) i ≡ bit_at n (s + i)
bit_at_shifted n s i = ap (λ (x : ℕ). x % 2) (div-div-eq-div-mul n (2 ^ s) (2 ^ i) ∙ ap (λ (x : ℕ). n / x) (sym (pow-add 2 s i)))

-- the low four bits
low_bits : (x i : ℕ) → i < 4 → bit_at (x % 16) i ≡ bit_at x i
low_bits x zero lt = omega arith
low_bits x (suc zero) lt = omega arith
low_bits x (suc (suc zero)) lt = omega arith
low_bits x (suc (suc (suc zero))) lt = omega arith
low_bits x (suc (suc (suc (suc i)))) lt = absurd (omega arith)

-- the bits of the k-th number
number_bits : (word k i : ℕ) → i < 4 → bit_at (number_at word k) i ≡ bit_at word (4 * k + i)
number_bits word k i lt = low_bits (word / 2 ^ (4 * k)) i lt ∙ bit_at_shifted word (4 * k) i

number_small : (word k : ℕ) → number_at word k < 2 ^ 4
number_small word k = omega arith

-- two numbers are the same where their bits are
same_number : (a b j k : ℕ) → ((i : ℕ) → i < 4 → bit_at a (4 * j + i) ≡ bit_at b (4 * k + i)) → number_at a j ≡ number_at b k
same_number a b j k same = same_from_bits_below 4 (number_at a j) (number_at b k) (number_small a j) (number_small b k)
    (λ i lt. number_bits a j i lt ∙ (same i lt ∙ sym (number_bits b k i lt)))

module _ (word n k : ℕ) (small : n < 16) (free : number_at word k ≡ 0) where
  -- the bits of the number at its place: none before, and none from the next place on
  placed_before : (i : ℕ) → i < 4 * k → bit_at (n * 2 ^ (4 * k)) i ≡ 0
  placed_before i lt = ap (λ (x : ℕ). bit_at x i) (let e : n * 2 ^ (4 * k) ≡ n * 2 ^ (4 * k) + 0 = omega arith in e) ∙ (bit_at_cat_low n (4 * k) 0 i lt ∙ bit_at-zero i)

  placed_from : (i : ℕ) → bit_at (n * 2 ^ (4 * k)) (4 * k + i) ≡ bit_at n i
  placed_from i =
      ap (λ (x : ℕ). bit_at x (4 * k + i)) (let e : n * 2 ^ (4 * k) ≡ n * 2 ^ (4 * k) + 0 = omega arith in e)
      ∙ (bit_at_cat_high n (4 * k) 0 (4 * k + i) (one-le-pow (4 * k) 2 (omega arith)) (omega arith) ∙ ap (bit_at n) (let e : 4 * k + i - 4 * k ≡ i = omega arith in e))

  pub put_here : number_at (bit_or word (n * 2 ^ (4 * k))) k ≡ n
  put_here = same_from_bits_below 4 (number_at (bit_or word (n * 2 ^ (4 * k))) k) n (number_small _ k) small (λ i lt.
      let had : bit_at word (4 * k + i) ≡ 0 = sym (number_bits word k i lt) ∙ (ap (λ (x : ℕ). bit_at x i) free ∙ bit_at-zero i) in
      let put = placed_from i in
      let both = bit_at_or word (n * 2 ^ (4 * k)) (4 * k + i) in
      number_bits (bit_or word (n * 2 ^ (4 * k))) k i lt ∙ omega (arith, had, put, both))

  pub others_stay : (j : ℕ) → j ≢ k → number_at (bit_or word (n * 2 ^ (4 * k))) j ≡ number_at word j
  others_stay j other = same_number (bit_or word (n * 2 ^ (4 * k))) word j j (λ i lt.
      let both = bit_at_or word (n * 2 ^ (4 * k)) (4 * j + i) in
      let none = empty i lt in
      omega (arith, both, none))
    where
      empty : (i : ℕ) → i < 4 → bit_at (n * 2 ^ (4 * k)) (4 * j + i) ≡ 0
      empty i lt = elim (cases_lt j k) [
        | inl before ↦ placed_before (4 * j + i) (omega arith)
        | inr behind ↦
            let at : 4 * j + i ≡ 4 * k + (4 * (j - k) + i) = omega arith in
            ap (bit_at (n * 2 ^ (4 * k))) at ∙ (placed_from (4 * (j - k) + i) ∙ bit_at_above n 4 (4 * (j - k) + i) small (omega arith))
      ]

-- a number of four bits in a word doesn't leave it
pub stays_in_word : (n k : ℕ) → n < 16 → k < 16 → n * 2 ^ (4 * k) % 2 ^ 64 ≡ n * 2 ^ (4 * k)
stays_in_word n k small low =
    let p : 2 ^ (4 * k) ≤ 2 ^ 60 = pow-le-pow_right {n = 2} (omega arith) {i = 4 * k} {j = 60} (omega arith) in
    let most : n ≤ 15 = omega arith in
    let q : n * 2 ^ (4 * k) ≤ 15 * 2 ^ 60 = mul-le-mul most p in
    omega (arith, q)
