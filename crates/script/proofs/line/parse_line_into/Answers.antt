use Rattle.std.proofs.Common.{rules, ◌≡◌, ◌∙◌, ◌∷◌, ap, sym, arith, length, map}
use Rattle.std.proofs.lemmas.List.Splits.{join_with_byte-slice_split}
use Rattle.std.specs.List.{join_with_byte, slice_split}
use Rattle.std.specs.Bool.{◌==◌}
use Rattle.script.proofs.LineLemmas.{parted_line, few_words, spelled}
use Rattle.script.proofs.line.parse_line_into.Goals as goal

pub returns-in_err-part-clause-spelled_call_is_found : goal.returns-in_err-part-clause-spelled_call_is_found
returns-in_err-part-clause-spelled_call_is_found c = λ line is e.
    let parts = parted_line line c.args.text.now is e in
    let many = c.part.ensures.many c.in_err-part.was in
    absurd (omega (arith, many, ap length parts, few_words line))

pub returns-clause-found : goal.returns-clause-found
returns-clause-found c =
    let parts : map (λ w. w.now) c.as_slice.result.now ≡ slice_split (λ b. b == 32) c.args.text.now = search rules in
    let first : c.as_slice.result.now ≡ c.in_ok-name.name.now ∷ c.in_ok-name.rest.now = search rules in
    spelled c.asked.result c.asked.new.call (map (λ w. w.now) (c.in_ok-name.name.now ∷ c.in_ok-name.rest.now)) c.args.text.now
    (ap (join_with_byte 32) (sym (ap (map (λ w. w.now)) first) ∙ parts) ∙ join_with_byte-slice_split 32 c.args.text.now) c.asked.ensures.found

pub returns-clause-spelled_call_is_found : goal.returns-clause-spelled_call_is_found
returns-clause-spelled_call_is_found c = λ line is e.
    let parts : map (λ w. w.now) c.as_slice.result.now ≡ slice_split (λ b. b == 32) c.args.text.now = search rules in
    let first : c.as_slice.result.now ≡ c.in_ok-name.name.now ∷ c.in_ok-name.rest.now = search rules in
    c.asked.ensures.only line is (sym (parted_line line c.args.text.now is e) ∙ sym parts ∙ ap (map (λ w. w.now)) first)
