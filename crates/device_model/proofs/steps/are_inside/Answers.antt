use Rattle.std.proofs.Common.{rules, ℕ, ◌<◌, ◌≤◌, length, slice_index_or, below_more, subst, arith}
use Rattle.std.proofs.lemmas.List.{get_or_default}
use Rattle.adapter.specs.declared.command.Prd.{Prd}
use Rattle.device_model.specs.FetchedBytes.{no_prd}
use Rattle.device_model.specs.Finishing.{IsInside}
use Rattle.device_model.proofs.Ready.{all_inside, inside_all}
use Rattle.device_model.proofs.steps.are_inside.Goals as goal

pub loop-prd-init : goal.loop-prd-init
loop-prd-init c = λ k small d. absurd (omega (arith, small))

pub loop-prd-preserved : goal.loop-prd-preserved
loop-prd-preserved c =
    let xs = c.args.prds.now in
    let here : c.loop-prd.prd-index < length xs = search rules in
    below_more (λ (k : ℕ). (d : Prd) → IsInside c.args.size (slice_index_or xs k d)) c.loop-prd.prd-index c.loop-prd.invariant
    (λ d. subst (IsInside c.args.size) (get_or_default xs c.loop-prd.prd-index no_prd d here) (c.is_inside.ensures.inside c.if-not-is_inside.false))

pub returns-then-not-is_inside-clause-only : goal.returns-then-not-is_inside-clause-only
returns-then-not-is_inside-clause-only c = λ _ all.
    let xs = c.args.prds.now in
    let here : c.loop-prd.prd-index < length xs = search rules in
    c.is_inside.ensures.only c.if-not-is_inside.true (inside_all c.args.size xs all c.loop-prd.prd-index no_prd here)

pub returns-clause-inside : goal.returns-clause-inside
returns-clause-inside c = λ _.
    let all : length c.args.prds.now ≤ c.loop-prd.prd-index = search rules in
    all_inside c.args.size c.args.prds.now (λ k d small. c.loop-prd.invariant k (omega (arith, small, all)) d)
