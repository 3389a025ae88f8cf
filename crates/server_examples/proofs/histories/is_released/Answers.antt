use Rattle.std.proofs.Common.{◌≡◌, length, arith}
use Rattle.server_examples.proofs.Showing.{eight}
use Rattle.server_examples.proofs.histories.is_released.Goals as goal

pub returns-then-is_stuck : goal.returns-then-is_stuck
returns-then-is_stuck c = λ yes.
    let stuck = c.is_stuck.ensures c.if-is_stuck.true in
    let freed = c.is_freed.ensures yes in
    let len : length c.args.said.now ≡ 8 = omega (arith, c.in-len8.len_at_least, c.in-len8.len_below) in
    let is = eight c.args.said.now c.held-item.result c.failed-item.result c.accepted-item.result c.served-item.result c.reply-item.result c.refused-item.result c.reset-item.result c.stored-item.result len
    c.held-item.is c.failed-item.is c.accepted-item.is c.served-item.is c.reply-item.is c.refused-item.is c.reset-item.is c.stored-item.is in
    let e1 = stuck.3 in
    let e2 = stuck.4 in
    let e3 = stuck.5 in
    let e4 = stuck.6 in
    let e5 = stuck.7 in
    let e6 = freed.0 in
    let e7 = freed.1 in
    let e8 = freed.2 in
    (stuck.0, stuck.1, stuck.2, cc (is, e1, e2, e3, e4, e5, e6, e7, e8))
