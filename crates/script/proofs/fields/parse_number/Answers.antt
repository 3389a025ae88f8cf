use Rattle.std.proofs.Common.{rules, decimal, suc, ◌≡◌, ◌<◌, ◌+◌, ◌*◌, ◌^◌, ◌∙◌, ◌∷◌, [], Some, ap, arith, length, take, sym}
use Rattle.std.proofs.lemmas.Fmt.{decimal_digit, decimal_injective, decimal_nonempty}
use Rattle.std.proofs.lemmas.List.{take_all}
use Rattle.script.proofs.NumberLemmas.{digit_at, goes_on, one_more}
use Rattle.script.proofs.fields.parse_number.Goals as goal

pub returns-in_err-first-clause-spelled_value_is_found : goal.returns-in_err-first-clause-spelled_value_is_found
returns-in_err-first-clause-spelled_value_is_found c = λ n below spells.
    absurd (omega (arith, decimal_nonempty n (omega (arith, below, c.ranges.last.fits)), ap length spells, c.in_err-first.ensures.cases))

pub returns-in_err-number-clause-spelled_value_is_found : goal.returns-in_err-number-clause-spelled_value_is_found
returns-in_err-number-clause-spelled_value_is_found c = λ n below spells.
    let whole : c.args.word.now ≡ c.in_ok-first.first.now ∷ c.in_ok-first.rest.now = search rules in
    let d = digit_at n 0 (c.in_ok-first.first.now ∷ c.in_ok-first.rest.now) (omega (arith, below, c.ranges.last.fits)) (spells ∙ whole) (omega arith) in
    let bad = sym c.in_err-number.was ∙ c.digit.ensures.only d.0 d.1 d.2 in
    cc

pub loop-byte-init : goal.loop-byte-init
loop-byte-init c =
    let whole : c.args.word.now ≡ c.in_ok-first.first.now ∷ c.in_ok-first.rest.now = search rules in
    let found = c.in_ok-number.ensures.found in
    record { spells = decimal_digit c.in_ok-number.number found.0 ∙ ap (λ b. b ∷ []) (sym found.1) ∙ ap (take 1) (sym whole); fits = omega (arith, found.0) }

pub returns-then-number-eq0-clause-spelled_value_is_found : goal.returns-then-number-eq0-clause-spelled_value_is_found
returns-then-number-eq0-clause-spelled_value_is_found c = λ n below spells.
    let whole : c.args.word.now ≡ c.in_ok-first.first.now ∷ c.in_ok-first.rest.now = search rules in
    let more = goes_on n c.loop-byte.number (c.loop-byte.byte-index + 1) c.args.word.now (omega (arith, below, c.ranges.last.fits)) spells c.loop-byte.invariant.fits
    (omega arith) (omega (arith, ap length whole, c.loop-byte-test.true)) c.loop-byte.invariant.spells in
    absurd (omega (arith, more.some, c.if-number-eq0.true))

pub returns-in_err-checked_mul-clause-spelled_value_is_found : goal.returns-in_err-checked_mul-clause-spelled_value_is_found
returns-in_err-checked_mul-clause-spelled_value_is_found c = λ n below spells.
    let whole : c.args.word.now ≡ c.in_ok-first.first.now ∷ c.in_ok-first.rest.now = search rules in
    let more = goes_on n c.loop-byte.number (c.loop-byte.byte-index + 1) c.args.word.now (omega (arith, below, c.ranges.last.fits)) spells c.loop-byte.invariant.fits
    (omega arith) (omega (arith, ap length whole, c.loop-byte-test.true)) c.loop-byte.invariant.spells in
    absurd (omega (arith, more.within, below, c.ranges.last.fits, c.in_err-checked_mul.ensures))

pub returns-in_err-digit-clause-spelled_value_is_found : goal.returns-in_err-digit-clause-spelled_value_is_found
returns-in_err-digit-clause-spelled_value_is_found c = λ n below spells.
    let whole : c.args.word.now ≡ c.in_ok-first.first.now ∷ c.in_ok-first.rest.now = search rules in
    let d = digit_at n (suc c.loop-byte.byte-index) (c.in_ok-first.first.now ∷ c.in_ok-first.rest.now) (omega (arith, below, c.ranges.last.fits)) (spells ∙ whole)
    (omega (arith, c.loop-byte-test.true)) in
    let bad = sym c.in_err-digit.was ∙ c.digit-in-loop-byte.ensures.only d.0 d.1 d.2 in
    cc

pub returns-in_err-number-2-clause-spelled_value_is_found : goal.returns-in_err-number-2-clause-spelled_value_is_found
returns-in_err-number-2-clause-spelled_value_is_found c = λ n below spells.
    let whole : c.args.word.now ≡ c.in_ok-first.first.now ∷ c.in_ok-first.rest.now = search rules in
    let next : c.loop-byte.byte-index + 1 ≡ suc c.loop-byte.byte-index = omega arith in
    let more = goes_on n c.loop-byte.number (suc c.loop-byte.byte-index) (c.in_ok-first.first.now ∷ c.in_ok-first.rest.now)
    (omega (arith, below, c.ranges.last.fits)) (spells ∙ whole) c.loop-byte.invariant.fits
    (omega arith) (omega (arith, c.loop-byte-test.true)) (c.loop-byte.invariant.spells ∙ (λ i. take (next i) (whole i))) in
    let read = c.in_ok-digit.ensures.found in
    absurd (omega (arith, more.within, more.byte_is, read.1, below, c.ranges.last.fits, c.in_err-number-2.ensures, c.in_ok-checked_mul.ensures))

pub loop-byte-preserved : goal.loop-byte-preserved
loop-byte-preserved c =
    let whole : c.args.word.now ≡ c.in_ok-first.first.now ∷ c.in_ok-first.rest.now = search rules in
    let read = c.in_ok-digit.ensures.found in
    let sum : c.in_ok-number-2.number ≡ c.loop-byte.number * 10 + c.in_ok-digit.field-0 = omega (arith, c.in_ok-number-2.ensures, c.in_ok-checked_mul.ensures) in
    let fits : c.in_ok-number-2.number < 2 ^ 64 = omega (arith, c.in_ok-number-2.ensures) in
    let next : c.loop-byte.byte-index + 1 ≡ suc c.loop-byte.byte-index = omega arith in
    let last : suc c.loop-byte.byte-index + 1 ≡ c.loop-byte.byte-index + 1 + 1 = omega arith in
    let more = one_more c.loop-byte.number c.in_ok-digit.field-0 (suc c.loop-byte.byte-index) (c.in_ok-first.first.now ∷ c.in_ok-first.rest.now)
    (omega (arith, c.if-number-eq0.false)) read.0 (omega (arith, fits, sum)) (omega (arith, c.loop-byte-test.true)) read.1
    (c.loop-byte.invariant.spells ∙ (λ i. take (next i) (whole i))) in
    record { spells = ap decimal sum ∙ more ∙ (λ i. take (last i) (sym whole i)); fits = fits }

pub returns-then-number-last-clause-spelled_value_is_found : goal.returns-then-number-last-clause-spelled_value_is_found
returns-then-number-last-clause-spelled_value_is_found c = λ n below spells.
    let whole : c.args.word.now ≡ c.in_ok-first.first.now ∷ c.in_ok-first.rest.now = search rules in
    let all = take_all (c.loop-byte.byte-index + 1) c.args.word.now (omega (arith, ap length whole, c.loop-byte-test.false)) in
    let same = decimal_injective c.loop-byte.number n c.loop-byte.invariant.fits (omega (arith, below, c.ranges.last.fits)) (c.loop-byte.invariant.spells ∙ all ∙ sym spells) in
    absurd (omega (arith, same, below, c.if-number-last.true))

pub returns-clause-spelled_value_is_found : goal.returns-clause-spelled_value_is_found
returns-clause-spelled_value_is_found c = λ n below spells.
    let whole : c.args.word.now ≡ c.in_ok-first.first.now ∷ c.in_ok-first.rest.now = search rules in
    let all = take_all (c.loop-byte.byte-index + 1) c.args.word.now (omega (arith, ap length whole, c.loop-byte-test.false)) in
    ap Some (decimal_injective c.loop-byte.number n c.loop-byte.invariant.fits (omega (arith, below, c.ranges.last.fits)) (c.loop-byte.invariant.spells ∙ all ∙ sym spells))
