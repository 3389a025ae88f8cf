use Rattle.std.proofs.Common.{arith}
use Rattle.slots.proofs.Free.{lowest_clear, set_below}
use Rattle.slots.proofs.lowest_clear.Goals as goal

pub returns-then-place-from-clause-found : goal.returns-then-place-from-clause-found
returns-then-place-from-clause-found c =
    let low = c.if-place-from.true in
    let few = c.requires in
    let from = c.from.ensures in
    (omega (arith, low, from), lowest_clear c.args.mask c.ranges.mask.fits (omega (arith, low, from, few)))

pub returns-clause-none : goal.returns-clause-none
returns-clause-none c = λ k lt.
    let high = c.if-place-from.false in
    let few = c.requires in
    let from = c.from.ensures in
    set_below c.args.mask c.ranges.mask.fits k (omega (arith, lt, high, from)) (omega (arith, lt, few))
