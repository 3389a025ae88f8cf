-- The owners in words, and what a number more does to them.
use Rattle.std.proofs.Common.{ℕ, ◌≡◌, ◌≢◌, ◌==◌, ◌⊎◌, ◌*◌, ◌/◌, ◌%◌, ◌^◌, ◌<◌, ◌≤◌, List, length, get_or, set, bit_or, None, Some, sym, ap, ◌∙◌, arith, inl, inr}
use Rattle.std.proofs.Math.Nat.{zero-div}
use Rattle.std.proofs.lemmas.Bool.{cases_eq, cases_lt, cond-false, eqb-true, false_from_ne_true}
use Rattle.std.proofs.lemmas.List.{get_or-set_other, get_or-set_same, get_or_past, length-set}
use Rattle.std.proofs.lemmas.List.FromFn.{get_or-map-range_with_len, length-map-range_with_len}
use Rattle.ata_types.specs.declared.request.ClientId.{ClientId}
use Rattle.dma_frames.specs.TableWords.{number_at, client_of, owner_in, owners_of}
use Rattle.dma_frames.proofs.OwnerNumbers.{put_here, others_stay, stays_in_word}

pub owner_is : (words : List ℕ) (f : ℕ) → f < 16 * length words → get_or (owners_of words) f None ≡ owner_in words f
owner_is words f lt = get_or-map-range_with_len (owner_in words) 0 (16 * length words) f f None lt (omega arith)

pub owner_past : (words : List ℕ) (f : ℕ) → 16 * length words ≤ f → get_or (owners_of words) f None ≡ None
owner_past words f past =
    let n = length-map-range_with_len (owner_in words) 0 (16 * length words) in
    get_or_past (owners_of words) f None (omega (arith, n, past))

pub some_client : (n : ℕ) → 1 ≤ n → client_of n ≡ Some (record { 0 = n })
some_client n some = cond-false (n == 0) None (Some (record { 0 = n })) (false_from_ne_true (n == 0) (λ is. omega (arith, eqb-true n 0 is, some)))

no_client : (n : ℕ) → client_of n ≡ None → n ≡ 0
no_client n none = elim (cases_eq n 0) [ inl e ↦ e | inr not ↦ absurd (let some = some_client n (omega arith) in cc) ]

module _ (words : List ℕ) (f n : ℕ) (within : f < 16 * length words) (some : 1 ≤ n) (small : n < 16) (free : get_or (owners_of words) f None ≡ None) where
  abbrev word : ℕ
  word = get_or words (f / 16) 0

  abbrev pub later : List ℕ
  later = set words (f / 16) (bit_or word (n * 2 ^ (4 * (f % 16)) % 2 ^ 64))

  in_words : f / 16 < length words
  in_words = omega (arith, within)

  empty : number_at word (f % 16) ≡ 0
  empty = no_client (number_at word (f % 16)) (sym (owner_is words f within) ∙ free)

  same_length : length later ≡ length words
  same_length = length-set words (f / 16) (bit_or word (n * 2 ^ (4 * (f % 16)) % 2 ^ 64))

  put : bit_or word (n * 2 ^ (4 * (f % 16)) % 2 ^ 64) ≡ bit_or word (n * 2 ^ (4 * (f % 16)))
  put = ap (bit_or word) (stays_in_word n (f % 16) small (omega arith))

  here : get_or later (f / 16) 0 ≡ bit_or word (n * 2 ^ (4 * (f % 16)))
  here = get_or-set_same words (f / 16) (bit_or word (n * 2 ^ (4 * (f % 16)) % 2 ^ 64)) 0 in_words ∙ put

  pub owner_put : get_or (owners_of later) f None ≡ Some (record { 0 = n })
  owner_put =
      let length = same_length in
      owner_is later f (omega (arith, within, length))
      ∙ (ap (λ (w : ℕ). client_of (number_at w (f % 16))) here
      ∙ (ap client_of (put_here word n (f % 16) small empty) ∙ some_client n some))

  pub owners_stay : (k : ℕ) → k ≢ f → get_or (owners_of later) k None ≡ get_or (owners_of words) k None
  owners_stay k other = elim (cases_lt k (16 * length words)) [
    | inl lt ↦ let length = same_length in
        owner_is later k (omega (arith, lt, length)) ∙ (inside (cases_eq (k / 16) (f / 16)) ∙ sym (owner_is words k lt))
    | inr past ↦ let length = same_length in owner_past later k (omega (arith, past, length)) ∙ sym (owner_past words k past)
  ]
    where
      inside : (k / 16 ≡ f / 16) ⊎ (k / 16 ≢ f / 16) → owner_in later k ≡ owner_in words k
      inside (inl same) =
          ap (λ (i : ℕ). client_of (number_at (get_or later i 0) (k % 16))) same
          ∙ (ap (λ (w : ℕ). client_of (number_at w (k % 16))) here
          ∙ (ap client_of (others_stay word n (f % 16) small empty (k % 16) (λ e. other (omega (arith, same, e))))
          ∙ ap (λ (i : ℕ). client_of (number_at (get_or words i 0) (k % 16))) (sym same)))
      inside (inr not) = ap (λ (w : ℕ). client_of (number_at w (k % 16))) (get_or-set_other words (f / 16) (k / 16) (bit_or word (n * 2 ^ (4 * (f % 16)) % 2 ^ 64)) 0 not)

-- where all words are zero, nobody owns a frame
pub nobody_owns : (words : List ℕ) → ((i : ℕ) → get_or words i 0 ≡ 0) → (f : ℕ) → get_or (owners_of words) f None ≡ None
nobody_owns words none f = elim (cases_lt f (16 * length words)) [
  | inl lt ↦ owner_is words f lt ∙ (ap (λ (w : ℕ). client_of (number_at w (f % 16))) (none (f / 16)) ∙ ap (λ (n : ℕ). client_of (n % 16)) (zero-div (2 ^ (4 * (f % 16)))))
  | inr past ↦ owner_past words f past
]

-- a frame that somebody owns is one of the words'
pub owned_in_memory : (words : List ℕ) (f : ℕ) (client : ClientId) → get_or (owners_of words) f None ≡ Some client → f < 16 * length words
owned_in_memory words f client owned = elim (cases_lt f (16 * length words)) [
  | inl lt ↦ lt
  | inr past ↦ absurd (let none = owner_past words f past in let both = sym none ∙ owned in cc)
]
