use Rattle.std.proofs.Common.{arith}
use Rattle.command_table.proofs.Cover.{longest}
use Rattle.command_table.proofs.run_length.Goals as goal

pub returns-then-frames-from : goal.returns-then-frames-from
returns-then-frames-from c =
    longest c.args.frames.now c.args.from c.loop-count.count (let lt = c.loop-count-test.true in omega (arith, lt)) (omega arith) c.loop-count.invariant
    (λ _ e. c.if-frames-from.true e)

pub returns : goal.returns
returns c =
    let past = c.loop-count-test.false in
    longest c.args.frames.now c.args.from _ (omega arith) (omega arith) (λ k lt. c.loop-count.invariant k (omega (arith, past, lt))) (λ lt _. absurd (omega (arith, lt)))
