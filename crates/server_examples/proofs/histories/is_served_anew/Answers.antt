use Rattle.std.proofs.Common.{◌≡◌, length, arith}
use Rattle.server_examples.proofs.Showing.{nine}
use Rattle.server_examples.proofs.histories.is_served_anew.Goals as goal

pub returns-then-is_alone : goal.returns-then-is_alone
returns-then-is_alone c = λ yes.
    let alone = c.is_alone.ensures c.if-is_alone.true in
    let mended = c.is_mended.ensures yes in
    let len : length c.args.said.now ≡ 9 = omega (arith, c.in-len9.len_at_least, c.in-len9.len_below) in
    let is = nine c.args.said.now c.first-item.result c.one-item.result c.two-item.result c.three-item.result c.failed-item.result c.quiet-item.result c.done-item.result c.served-item.result c.reply-item.result len
    c.first-item.is c.one-item.is c.two-item.is c.three-item.is c.failed-item.is c.quiet-item.is c.done-item.is c.served-item.is c.reply-item.is in
    let e1 = alone.1 in
    let e2 = alone.2 in
    let e3 = alone.3 in
    let e4 = alone.4 in
    let e5 = mended.2 in
    let e6 = mended.3 in
    let e7 = mended.4 in
    let e8 = mended.5 in
    let e9 = mended.6 in
    (alone.0, mended.0, mended.1, cc (is, e1, e2, e3, e4, e5, e6, e7, e8, e9))
