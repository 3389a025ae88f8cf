use Rattle.std.proofs.Common.{ℕ, ◌≤◌, ◌+◌, ◌*◌, ◌∙◌, List, length, ap, arith, length-append}
use Rattle.byteorder.specs.Endian.{little_from}
use Rattle.adapter.specs.Trim.{consecutive}
use Rattle.device_model.proofs.Runs.{behind, behind_next, behind_none, consecutive_length}
use Rattle.device_model.proofs.clearing.count_sectors.Goals as goal

pub loop-place-preserved : goal.loop-place-preserved
loop-place-preserved c =
    let block = c.args.block.now in
    let place = c.loop-place.place in
    let small : 8 * place + 8 ≤ length block = omega (arith, c.loop-place-test.true) in
    let f = little_from (8 * place) 6 block in
    let n = little_from (8 * place + 6) 2 block in
    let next = ap length (behind_next block place small) ∙ length-append (consecutive f n) (behind block (place + 1)) in
    record {
      counted = omega (arith, c.loop-place.invariant.counted, next, consecutive_length f n, c.entry_at-count.ensures.count);
      bounded = omega (arith, c.loop-place.invariant.bounded, c.entry_at-count.ensures.range.1);
    }

pub returns : goal.returns
returns c =
    let block = c.args.block.now in
    let none = ap (λ (l : List ℕ). length l) (behind_none block c.loop-place.place c.loop-place-test.false) in
    omega (arith, c.loop-place.invariant.counted, none)
