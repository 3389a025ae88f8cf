use Rattle.std.proofs.Common.{arith}
use Rattle.device_model.proofs.model.bays_for.Goals as goal

pub push_bay-requires-2 : goal.push_bay-requires-2
push_bay-requires-2 g c =
    let made = c.in_ok-bays.ensures in
    let one = c.push_bay.ensures.left 3 (omega (arith, made.len, made.capacity)) in
    omega (arith, one)

pub push_bay-requires-3 : goal.push_bay-requires-3
push_bay-requires-3 g c =
    let made = c.in_ok-bays.ensures in
    let one = c.push_bay.ensures.left 3 (omega (arith, made.len, made.capacity)) in
    let two = c.push_bay-2.ensures.left 2 (omega (arith, one)) in
    omega (arith, two)

pub push_bay-requires-4 : goal.push_bay-requires-4
push_bay-requires-4 g c =
    let made = c.in_ok-bays.ensures in
    let one = c.push_bay.ensures.left 3 (omega (arith, made.len, made.capacity)) in
    let two = c.push_bay-2.ensures.left 2 (omega (arith, one)) in
    let three = c.push_bay-3.ensures.left 1 (omega (arith, two)) in
    omega (arith, three)
