use Rattle.std.proofs.Common.{rules, ℕ, ◌≡◌, ◌∙◌, ◌+◌, ◌-◌, ◌*◌, ◌%◌, ◌<◌, inl, inr, sym, subst, below_more, arith}
use Rattle.std.specs.Prelude.{slice_set}
use Rattle.std.proofs.lemmas.Bool.{cases_lt}
use Rattle.std.proofs.lemmas.List.{get_or-replicate, length-set}
use Rattle.std.proofs.lemmas.List.Elements.{All-set}
use Rattle.sector_store.specs.Pages.{IsIdentifyWord, identify_word}
use Rattle.sector_store.proofs.Words.{unfilled, with_word, word_written, zeros_stay, word_stays, last_stays, size_stays, page_is}
use Rattle.sector_store.proofs.pages.identify_page.Goals as goal

pub loop-number-init : goal.loop-number-init
loop-number-init c =
    record {
      size = search rules;
      last = get_or-replicate 512 511 0 0 (omega arith);
      most = omega arith;
      zeros = λ k _ small. get_or-replicate 512 k 0 0 small;
      words = λ k less. absurd (omega (arith, less));
    }

pub loop-number-preserved : goal.loop-number-preserved
loop-number-preserved c =
    let page = c.loop-number.page in
    let n = c.loop-number.number in
    let w = c.word_at-word.result in
    let is = c.loop-number.invariant in
    record {
      size = size_stays page n w ∙ is.size;
      last = last_stays page n w (let less = c.loop-number-test.true in omega (arith, less)) ∙ is.last;
      most = let less = c.loop-number-test.true in omega (arith, less);
      zeros = λ k past small. zeros_stay page n w k (omega (arith, past)) ∙ is.zeros k (omega (arith, past)) small;
      words = below_more (λ k. IsIdentifyWord c.args.serial.now c.args.sectors c.args.abilities k (identify_word (with_word page n w) k)) n
          (λ k less. subst (λ v. IsIdentifyWord c.args.serial.now c.args.sectors c.args.abilities k v) (sym (word_stays page n w k less)) (is.words k less))
          (subst (λ v. IsIdentifyWord c.args.serial.now c.args.sectors c.args.abilities n v)
          (sym (word_written page n w (omega (arith, is.size, c.loop-number-test.true)))) c.word_at-word.ensures);
    }

pub returns-clause-page : goal.returns-clause-page
returns-clause-page c =
    let is = c.loop-number.invariant in
    page_is c.args.serial.now c.args.sectors c.args.abilities c.loop-number.page is.size is.last
    (λ k less.
    elim (cases_lt k 170) [
      | inl below ↦ is.words k (omega (arith, below, c.loop-number-test.false))
      | inr past ↦
          let most = c.loop-number.invariant.most in
          let low = is.zeros (2 * k) (omega (arith, past, most)) (omega (arith, less)) in
          let high = is.zeros (2 * k + 1) (omega (arith, past, most)) (omega (arith, less)) in
          let none : 0 ≡ identify_word c.loop-number.page k = omega (arith, low, high) in
          subst (λ v. IsIdentifyWord c.args.serial.now c.args.sectors c.args.abilities k v) none
          (unfilled c.args.serial.now c.args.sectors c.args.abilities k past)
    ]) _
    (let s = c.sum_of.ensures.total in omega (arith, s))

pub returns-clause-bytes : goal.returns-clause-bytes
returns-clause-bytes c =
    let page = slice_set c.loop-number.page 510 0xa5 in
    let last : ℕ = (0 + (256 - c.sum_of.result)) % 256 in
    let small : last < 256 = omega arith in (
      length-set page 511 last ∙ (length-set c.loop-number.page 510 0xa5 ∙ c.loop-number.invariant.size),
      All-set (λ byte. byte < 256) page 511 last small c.sum_of.ensures.bytes,
    )
