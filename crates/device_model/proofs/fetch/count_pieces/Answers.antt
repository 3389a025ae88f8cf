use Rattle.std.proofs.Common.{rules, ◌<◌, ◌≤◌, ap, ◌∙◌, arith, length, List}
use Rattle.adapter.specs.declared.command.Prd.{Prd}
use Rattle.adapter.specs.Decoding.{pieces}
use Rattle.std.proofs.lemmas.List.{take_all}
use Rattle.device_model.proofs.Fetches.{pieces_next}
use Rattle.device_model.proofs.fetch.count_pieces.Goals as goal

pub loop-prd-preserved : goal.loop-prd-preserved
loop-prd-preserved c =
    let small : c.loop-prd.prd-index < length c.args.prds.now = search rules in
    let more = pieces_next c.args.prds.now c.loop-prd.prd-index small in
    record { counted = omega (arith, more, c.loop-prd.invariant.counted); bounded = omega arith }

pub returns : goal.returns
returns c =
    let all : length c.args.prds.now ≤ c.loop-prd.prd-index = search rules in
    c.loop-prd.invariant.counted ∙ ap (λ (es : List Prd). length (pieces es)) (take_all c.loop-prd.prd-index c.args.prds.now all)
