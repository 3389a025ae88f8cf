use Rattle.std.proofs.Common.{◌≡◌, ◌∙◌, ◌+◌, ◌-◌, ◌++◌, ◌∷◌, [], ℕ, List, append_assoc, ap, arith, drop, length, length-append, map, refl, sym, take}
use Rattle.std.proofs.lemmas.List.{length-map}
use Rattle.std.proofs.lemmas.List.Splits.{length-slice_split}
use Rattle.std.specs.List.{slice_split}
use Rattle.std.specs.Bool.{◌==◌}
use Rattle.script.proofs.PartLemmas.{lacks_more, on_some, part_first, part_last}
use Rattle.script.proofs.line.part.Goals as goal
use Rattle.script.proofs.line.part.Goals.{then-text-place-eq32+in_ok-push_word, else-text-place-eq32}

-- no more words fit, and one more at least is there
pub returns-in_err-push_word-clause-many : goal.returns-in_err-push_word-clause-many
returns-in_err-push_word-clause-many c = λ none.
    let full : length c.loop-place.words.items ≡ 6 = c.in_err-push_word.ensures.full refl in
    let rest : List (List ℕ) = slice_split (λ b. b == 32) (drop c.loop-place.begin c.args.text.now) in
    let all = ap length (sym c.loop-place.invariant.parted) ∙ length-append (map (λ w. w.now) c.loop-place.words.items) rest in
    let words = length-map c.loop-place.words.items (λ w. w.now) in
    let some = length-slice_split (λ b. b == 32) (drop c.loop-place.begin c.args.text.now) in
    omega (arith, all, words, full, some)

pub loop-place-preserved : goal.loop-place-preserved
loop-place-preserved c = elim c.if-text-place-eq32.branch [
  | then-text-place-eq32+in_ok-push_word w ↦
      let p : List ℕ → List (List ℕ) = slice_split (λ b. b == 32) in
      let text : List ℕ = c.args.text.now in
      let at = c.loop-place.place in
      let word : List ℕ = take (at - c.loop-place.begin) (drop c.loop-place.begin text) in
      let before : List (List ℕ) = map (λ w. w.now) c.loop-place.words.items in
      let pushed : map (λ w. w.now) w.push_word.new.words.items ≡ before ++ word ∷ [] = w.in_ok-push_word.ensures.pushed in
      let begin = w.begin-is in
      record {
        order = omega (arith, begin);
        parted = (λ i. map (λ w. w.now) (w.words-is i).items ++ p (drop (w.begin-is i) text))
            ∙ (ap (λ ws. ws ++ p (drop (at + 1) text)) pushed
            ∙ (append_assoc before (word ∷ []) (p (drop (at + 1) text))
            ∙ (ap (λ ws. before ++ ws)
            (sym (part_first 32 text c.loop-place.begin at c.loop-place.invariant.order c.loop-place-test.true c.loop-place.invariant.lacks w.if-text-place-eq32.true))
            ∙ c.loop-place.invariant.parted)));
        lacks = λ k above below. absurd (omega (arith, above, below, begin));
      }
  | else-text-place-eq32 w ↦
      let begin = w.begin-is in
      record {
        order = let order = c.loop-place.invariant.order in omega (arith, begin, order);
        parted = (λ i. map (λ w. w.now) (w.words-is i).items ++ slice_split (λ b. b == 32) (drop (w.begin-is i) c.args.text.now))
            ∙ c.loop-place.invariant.parted;
        lacks = λ k above below.
            lacks_more 32 c.args.text.now c.loop-place.begin c.loop-place.place c.loop-place.invariant.lacks w.if-text-place-eq32.false k (omega (arith, above, begin)) below;
      }
]

pub returns-clause-parted : goal.returns-clause-parted
returns-clause-parted c =
    let text : List ℕ = c.args.text.now in
    let within = c.loop-place-test.false in
    let last = part_last 32 text c.loop-place.begin (λ k above below. c.loop-place.invariant.lacks k above (omega (arith, below, within))) in
    on_some c.push_word-2.result
    (λ pushed. pushed ∙ (ap (λ ws. map (λ w. w.now) c.loop-place.words.items ++ ws) (sym last) ∙ c.loop-place.invariant.parted)) c.push_word-2.ensures.pushed
