use Rattle.std.proofs.Common.{ap, arith, length, take}
use Rattle.std.proofs.lemmas.List.{length-take}
use Rattle.std.proofs.lemmas.List.Sums.{length-filter, count_by-le-length}
use Rattle.block_machine.specs.DueRequests as due
use Rattle.machine_rules.proofs.due.due_list.Goals as goal

pub push-requires : goal.push-requires
push-requires c =
    let kept = take c.loop-r.r-index c.args.book.now in
    let p = due.is_due c.args.mode c.args.book.now in
    let a = ap length c.loop-r.invariant in
    let b = length-filter p kept in
    let d = count_by-le-length p kept in
    (omega arith, omega (arith, a, b, d, length-take c.loop-r.r-index c.args.book.now, c.loop-r-test.true, c.requires))
