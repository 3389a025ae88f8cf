use Rattle.std.proofs.Common.{refl, ◌≡◌, ◌≤◌, ◌∙◌, ◌+◌, ◌-◌, ◌++◌, ◌∷◌, [], ℕ, List, append_assoc, ap, arith, drop, length, map, subst, sym, take, true≢false}
use Rattle.std.specs.Bool.{◌==◌}
use Rattle.std.specs.List.{All, slice_split}
use Rattle.script.proofs.FrameLemmas.{IsFrame, frame_pushed, frames_small, next_frame, none_for_dash, parted_word, same_frames, spelled, whole_word}
use Rattle.script.proofs.PartLemmas.{lacks_more, part_first, part_last}
use Rattle.script.proofs.fields.parse_frames.Goals as goal
use Rattle.script.proofs.fields.parse_frames.Goals.{then-word-place-eq44+in_ok-push_frame, else-word-place-eq44}

pub returns-then-is_text-clause-spelled_value_is_found : goal.returns-then-is_text-clause-spelled_value_is_found
returns-then-is_text-clause-spelled_value_is_found c = λ v all most e.
    let none : v.items ≡ [] = none_for_dash v.items all (e ∙ c.is_text.ensures.0 c.if-is_text.true) in
    (refl, ap (λ items. record { items = items }) (c.clear.ensures ∙ sym none))

pub returns-in_err-push_frame-clause-spelled_value_is_found : goal.returns-in_err-push_frame-clause-spelled_value_is_found
returns-in_err-push_frame-clause-spelled_value_is_found c = λ v all most e.
    let word : List ℕ = c.args.word.now in
    let is = c.loop-place.invariant in
    let other = parted_word v.items word all e (λ dash. true≢false (sym (c.is_text.ensures.1 dash) ∙ c.if-is_text.false)) in
    let next = part_first 44 word c.loop-place.begin c.loop-place.place is.order c.loop-place-test.true is.lacks c.if-word-place-eq44.true in
    let frame = next_frame c.loop-place.frames.items _ _ v.items all (ap (λ ws. map spelled c.loop-place.frames.items ++ ws) (sym next) ∙ (is.parted ∙ other)) in
    let full = c.in_err-push_frame.ensures.full refl frame.0 frame.1 frame.2 in
    let less = frame.3 in
    absurd (omega (arith, full, less, most))

pub loop-place-preserved : goal.loop-place-preserved
loop-place-preserved c = elim c.if-word-place-eq44.branch [
  | then-word-place-eq44+in_ok-push_frame w ↦
      let p : List ℕ → List (List ℕ) = slice_split (λ b. b == 44) in
      let word : List ℕ = c.args.word.now in
      let at = c.loop-place.place in
      let is = c.loop-place.invariant in
      let part : List ℕ = take (at - c.loop-place.begin) (drop c.loop-place.begin word) in
      let before : List (List ℕ) = map spelled c.loop-place.frames.items in
      let pushed = w.in_ok-push_frame.ensures.pushed in
      let all = frame_pushed c.loop-place.frames.items pushed.0 part w.push_frame.new.frames.items pushed.3 pushed.2 in
      let begin = w.begin-is in
      record {
        order = omega (arith, begin);
        parted = (λ i. map spelled (w.frames-is i).items ++ p (drop (w.begin-is i) word))
            ∙ (ap (λ ws. ws ++ p (drop (at + 1) word)) all
            ∙ (append_assoc before (part ∷ []) (p (drop (at + 1) word))
            ∙ (ap (λ ws. before ++ ws)
            (sym (part_first 44 word c.loop-place.begin at is.order c.loop-place-test.true is.lacks w.if-word-place-eq44.true)) ∙ is.parted)));
        lacks = λ k above below. absurd (omega (arith, above, below, begin));
        small = subst (λ frames. All IsFrame frames.items) (sym w.frames-is)
            (frames_small c.loop-place.frames.items pushed.0 w.push_frame.new.frames.items pushed.3 is.small pushed.1);
        most = subst (λ frames. length frames.items ≤ 128) (sym w.frames-is) w.in_ok-push_frame.ensures.few;
      }
  | else-word-place-eq44 w ↦
      let begin = w.begin-is in
      let is = c.loop-place.invariant in
      record {
        order = let order = is.order in omega (arith, begin, order);
        parted = (λ i. map spelled (w.frames-is i).items ++ slice_split (λ b. b == 44) (drop (w.begin-is i) c.args.word.now)) ∙ is.parted;
        lacks = λ k above below.
            lacks_more 44 c.args.word.now c.loop-place.begin c.loop-place.place is.lacks w.if-word-place-eq44.false k (omega (arith, above, begin)) below;
        small = subst (λ frames. All IsFrame frames.items) (sym w.frames-is) is.small;
        most = subst (λ frames. length frames.items ≤ 128) (sym w.frames-is) is.most;
      }
]

pub returns-in_err-push_frame-2-clause-spelled_value_is_found : goal.returns-in_err-push_frame-2-clause-spelled_value_is_found
returns-in_err-push_frame-2-clause-spelled_value_is_found c = λ v all most e.
    let word : List ℕ = c.args.word.now in
    let is = c.loop-place.invariant in
    let within = c.loop-place-test.false in
    let other = parted_word v.items word all e (λ dash. true≢false (sym (c.is_text.ensures.1 dash) ∙ c.if-is_text.false)) in
    let last = part_last 44 word c.loop-place.begin (λ k above below. is.lacks k above (omega (arith, below, within))) in
    let frame = next_frame c.loop-place.frames.items _ [] v.items all (ap (λ ws. map spelled c.loop-place.frames.items ++ ws) (sym last) ∙ (is.parted ∙ other)) in
    let full = c.in_err-push_frame-2.ensures.full refl frame.0 frame.1 frame.2 in
    let less = frame.3 in
    absurd (omega (arith, full, less, most))

pub returns-clause-spelled : goal.returns-clause-spelled
returns-clause-spelled c =
    let word : List ℕ = c.args.word.now in
    let is = c.loop-place.invariant in
    let within = c.loop-place-test.false in
    let items = c.push_frame-2.new.frames.items in
    let pushed = c.in_ok-push_frame-2.ensures.pushed in
    let last = part_last 44 word c.loop-place.begin (λ k above below. is.lacks k above (omega (arith, below, within))) in
    let all = frame_pushed c.loop-place.frames.items pushed.0 _ items pushed.3 pushed.2 in (
      frames_small c.loop-place.frames.items pushed.0 items pushed.3 is.small pushed.1,
      whole_word items word (all ∙ (ap (λ ws. map spelled c.loop-place.frames.items ++ ws) (sym last) ∙ is.parted)),
    )

pub returns-clause-at_most_128_frames : goal.returns-clause-at_most_128_frames
returns-clause-at_most_128_frames c = c.in_ok-push_frame-2.ensures.few

pub returns-clause-spelled_value_is_found : goal.returns-clause-spelled_value_is_found
returns-clause-spelled_value_is_found c = λ v given most e.
    let word : List ℕ = c.args.word.now in
    let is = c.loop-place.invariant in
    let within = c.loop-place-test.false in
    let items = c.push_frame-2.new.frames.items in
    let pushed = c.in_ok-push_frame-2.ensures.pushed in
    let other = parted_word v.items word given e (λ dash. true≢false (sym (c.is_text.ensures.1 dash) ∙ c.if-is_text.false)) in
    let last = part_last 44 word c.loop-place.begin (λ k above below. is.lacks k above (omega (arith, below, within))) in
    let all = frame_pushed c.loop-place.frames.items pushed.0 _ items pushed.3 pushed.2 in
    let small = frames_small c.loop-place.frames.items pushed.0 items pushed.3 is.small pushed.1 in
    let same : items ≡ v.items = same_frames items v.items small given
    (all ∙ (ap (λ ws. map spelled c.loop-place.frames.items ++ ws) (sym last) ∙ (is.parted ∙ other))) in
    (refl, ap (λ items. record { items = items }) same)
