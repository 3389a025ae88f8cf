use Rattle.std.proofs.Common.{arith}
use Rattle.script.proofs.PartLemmas.{position_found, position_none}
use Rattle.script.proofs.script.line_feed.Goals as goal

pub returns-then-text-place-eq10 : goal.returns-then-text-place-eq10
returns-then-text-place-eq10 c =
    position_found 10 c.args.text.now c.loop-place.place c.loop-place-test.true (λ k _ below. c.loop-place.invariant k below) c.if-text-place-eq10.true

pub returns : goal.returns
returns c = position_none 10 c.args.text.now (λ k _ below. c.loop-place.invariant k (omega (arith, below, c.loop-place-test.false)))
