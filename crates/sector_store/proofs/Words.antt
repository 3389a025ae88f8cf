-- Words of a page that is written word by word.
use Rattle.std.proofs.Common.{ℕ, ◌≡◌, ◌≢◌, ◌<◌, ◌≤◌, inl, inr, refl, ◌+◌, ◌*◌, ◌/◌, ◌%◌, List, Option, length, replicate, sum, slice_index, ◌∙◌, ap, subst, arith, get_or-set_same, get_or-set_other}
use Rattle.std.proofs.lemmas.List.{get_or-replicate, length-set}
use Rattle.std.proofs.lemmas.List.Sums.{sum_by-set}
use Rattle.std.specs.Prelude.{slice_set}
use Rattle.sector_store.specs.Pages.{IsLogPage, IsIdentifyPage, IsIdentifyWord, logged_error_byte, logged_status, logged_tag, identify_word}
use Rattle.sector_store.specs.declared.pages.Abilities.{Abilities}
use Rattle.sector_store.specs.declared.pages.LoggedError.{LoggedError}

-- a page with one word written
abbrev pub with_word : List ℕ → ℕ → ℕ → List ℕ
with_word page n w = slice_set (slice_set page (2 * n) (w % 256)) (2 * n + 1) (w / 256)

pub word_written : (page : List ℕ) (n w : ℕ) → 2 * n + 1 < length page → identify_word (with_word page n w) n ≡ w
word_written page n w small =
    let low = get_or-set_other (slice_set page (2 * n) (w % 256)) (2 * n + 1) (2 * n) (w / 256) 0 (λ e. absurd (omega (arith, e))) in
    let first = get_or-set_same page (2 * n) (w % 256) 0 (omega (arith, small)) in
    let size = length-set page (2 * n) (w % 256) in
    let high = get_or-set_same (slice_set page (2 * n) (w % 256)) (2 * n + 1) (w / 256) 0 (omega (arith, small, size)) in
    omega (arith, low, first, high)

-- a byte of another word stays
byte_stays : (page : List ℕ) (n w k : ℕ) → k ≢ 2 * n → k ≢ 2 * n + 1 → slice_index (with_word page n w) k ≡ slice_index page k
byte_stays page n w k low high =
    get_or-set_other (slice_set page (2 * n) (w % 256)) (2 * n + 1) k (w / 256) 0 high ∙ get_or-set_other page (2 * n) k (w % 256) 0 low

pub word_stays : (page : List ℕ) (n w k : ℕ) → k < n → identify_word (with_word page n w) k ≡ identify_word page k
word_stays page n w k less =
    let low = byte_stays page n w (2 * k) (λ e. absurd (omega (arith, e, less))) (λ e. absurd (omega (arith, e, less))) in
    let high = byte_stays page n w (2 * k + 1) (λ e. absurd (omega (arith, e, less))) (λ e. absurd (omega (arith, e, less))) in
    omega (arith, low, high)

pub last_stays : (page : List ℕ) (n w : ℕ) → n < 255 → slice_index (with_word page n w) 511 ≡ slice_index page 511
last_stays page n w less = byte_stays page n w 511 (λ e. absurd (omega (arith, e, less))) (λ e. absurd (omega (arith, e, less)))

-- and so are those of the words past it
pub zeros_stay : (page : List ℕ) (n w k : ℕ) → 2 * n + 2 ≤ k → slice_index (with_word page n w) k ≡ slice_index page k
zeros_stay page n w k past = byte_stays page n w k (λ e. absurd (omega (arith, e, past))) (λ e. absurd (omega (arith, e, past)))

-- a word past all of which something is told is zero
pub unfilled : (serial : List ℕ) (sectors : ℕ) (a : Abilities) (number : ℕ) → 170 ≤ number → IsIdentifyWord serial sectors a number 0
unfilled serial sectors a number past =
    record {
      serial_is = λ _ less. absurd (omega (arith, less, past));
      deterministic_trim_is = λ e. absurd (omega (arith, e, past));
      depth_is = λ e. absurd (omega (arith, e, past));
      queuing_is = λ e. absurd (omega (arith, e, past));
      word_83_is = λ e. absurd (omega (arith, e, past));
      sectors_are = λ _ less. absurd (omega (arith, less, past));
      data_set_management_is = λ either. absurd (elim either [ inl e ↦ omega (arith, e, past) | inr e ↦ omega (arith, e, past) ]);
      sector_size_is = λ e. absurd (omega (arith, e, past));
      others_are = λ _ _ _ _ _ _ _ _ _. refl;
    }

pub size_stays : (page : List ℕ) (n w : ℕ) → length (with_word page n w) ≡ length page
size_stays page n w = length-set (slice_set page (2 * n) (w % 256)) (2 * n + 1) (w / 256) ∙ length-set page (2 * n) (w % 256)

sum_set : (xs : List ℕ) (p v : ℕ) → p < length xs → sum (slice_set xs p v) + slice_index xs p ≡ sum xs + v
sum_set xs p v small = sum_by-set (λ (n : ℕ). n) xs p v 0 small

module _ (serial : List ℕ) (sectors : ℕ) (a : Abilities) (page : List ℕ) (size : length page ≡ 512) (last : slice_index page 511 ≡ 0)
    (words : (number : ℕ) → number < 255 → IsIdentifyWord serial sectors a number (identify_word page number)) where
  abbrev signed_page : List ℕ
  signed_page = slice_set page 510 0xa5

  at_sign : (k : ℕ) → k ≢ 510 → slice_index signed_page k ≡ slice_index page k
  at_sign k other = get_or-set_other page 510 k 0xa5 0 other

  -- the page is done with a last byte that makes its sum 0
  pub page_is : (byte : ℕ) → (byte + sum signed_page) % 256 ≡ 0 → IsIdentifyPage serial sectors a (slice_set signed_page 511 byte)
  page_is byte zero_sum =
      let kept : length signed_page ≡ 512 = length-set page 510 0xa5 ∙ size in
      let same : (k : ℕ) → k < 510 → slice_index (slice_set signed_page 511 byte) k ≡ slice_index page k =
      λ (k : ℕ) (less : k < 510).
      get_or-set_other signed_page 511 k byte 0 (λ e. absurd (omega (arith, e, less))) ∙ at_sign k (λ e. absurd (omega (arith, e, less))) in
      record {
        size = length-set signed_page 511 byte ∙ kept;
        words = λ number less.
            let low = same (2 * number) (omega (arith, less)) in
            let high = same (2 * number + 1) (omega (arith, less)) in
            let is : identify_word page number ≡ identify_word (slice_set signed_page 511 byte) number = omega (arith, low, high) in
            subst (λ w. IsIdentifyWord serial sectors a number w) is (words number less);
        signature_is = get_or-set_other signed_page 511 510 byte 0 (λ e. absurd (omega (arith, e))) ∙ get_or-set_same page 510 0xa5 0 (omega (arith, size));
        checksum_is_zero =
            let total = sum_set signed_page 511 byte (omega (arith, kept)) in
            let none = at_sign 511 (λ e. absurd (omega (arith, e))) in
            let all : sum (slice_set signed_page 511 byte) ≡ byte + sum signed_page = omega (arith, total, none, last) in
            ap (λ n. n % 256) all ∙ zero_sum;
      }

-- ---- the page of the log

module _ (tag status error : ℕ) where
  abbrev pub named_page : List ℕ
  named_page = slice_set (slice_set (slice_set (replicate 512 0) 0 tag) 2 status) 3 error

  pub named_size : length named_page ≡ 512
  named_size =
      length-set (slice_set (slice_set (replicate 512 0) 0 tag) 2 status) 3 error
      ∙ (length-set (slice_set (replicate 512 0) 0 tag) 2 status ∙ length-set (replicate 512 0) 0 tag)

  -- its other bytes are zero
  named_zero : (k : ℕ) → k < 512 → k ≢ 0 → k ≢ 2 → k ≢ 3 → slice_index named_page k ≡ 0
  named_zero k small no_tag no_status no_error =
      get_or-set_other (slice_set (slice_set (replicate 512 0) 0 tag) 2 status) 3 k error 0 no_error
      ∙ (get_or-set_other (slice_set (replicate 512 0) 0 tag) 2 k status 0 no_status
      ∙ (get_or-set_other (replicate 512 0) 0 k tag 0 no_tag ∙ get_or-replicate 512 k 0 0 small))

  -- the page is done with a last byte that makes its sum 0
  pub log_is : (failed : Option LoggedError) (byte : ℕ) → tag ≡ logged_tag failed → status ≡ logged_status failed → error ≡ logged_error_byte failed →
      (byte + sum named_page) % 256 ≡ 0 → IsLogPage failed (slice_set named_page 511 byte)
  log_is failed byte its_tag its_status its_error zero_sum =
      let same : (k : ℕ) → k < 511 → slice_index (slice_set named_page 511 byte) k ≡ slice_index named_page k =
      λ (k : ℕ) (less : k < 511). get_or-set_other named_page 511 k byte 0 (λ e. absurd (omega (arith, e, less))) in
      let two : List ℕ = slice_set (slice_set (replicate 512 0) 0 tag) 2 status in
      let one : List ℕ = slice_set (replicate 512 0) 0 tag in
      let long : length one ≡ 512 = length-set (replicate 512 0) 0 tag in
      let longer : length two ≡ 512 = length-set one 2 status ∙ long in
      record {
        size = length-set named_page 511 byte ∙ named_size;
        tag = same 0 (omega arith)
            ∙ (get_or-set_other two 3 0 error 0 (λ e. absurd (omega (arith, e)))
            ∙ (get_or-set_other one 2 0 status 0 (λ e. absurd (omega (arith, e))) ∙ (get_or-set_same (replicate 512 0) 0 tag 0 (omega arith) ∙ its_tag)));
        status = same 2 (omega arith)
            ∙ (get_or-set_other two 3 2 error 0 (λ e. absurd (omega (arith, e))) ∙ (get_or-set_same one 2 status 0 (omega (arith, long)) ∙ its_status));
        error = same 3 (omega arith) ∙ (get_or-set_same two 3 error 0 (omega (arith, longer)) ∙ its_error);
        zeros = λ k less no_tag no_status no_error. same k less ∙ named_zero k (omega (arith, less)) no_tag no_status no_error;
        checksum_is_zero =
            let total = sum_set named_page 511 byte (omega (arith, named_size)) in
            let none = named_zero 511 (omega arith) (λ e. absurd (omega (arith, e))) (λ e. absurd (omega (arith, e))) (λ e. absurd (omega (arith, e))) in
            let all : sum (slice_set named_page 511 byte) ≡ byte + sum named_page = omega (arith, total, none) in
            ap (λ n. n % 256) all ∙ zero_sum;
      }
