use Rattle.std.proofs.Common.{ℕ, ◌≡◌, ◌+◌, ◌*◌, ◌≤◌, List, length, ◌++◌, drop, arith}
use Rattle.byteorder.specs.Endian.{little_from}
use Rattle.adapter.specs.Trim.{consecutive, trim_sectors}
use Rattle.device_model.proofs.Runs.{behind, behind_next, behind_none, counted_all, counted_none, counted_skip, counted_with}
use Rattle.device_model.proofs.clearing.count_runs.Goals as goal
use Rattle.device_model.proofs.clearing.count_runs.Goals.{then-entry-skip, else-entry-skip}

pub loop-place-init : goal.loop-place-init
loop-place-init c = record { counted = counted_none (trim_sectors c.args.block.now) c.args.cleared; few = omega arith }

-- the sectors from this entry on are its own, and then the others
here : (block : List ℕ) (place f n : ℕ) → 8 * place + 8 ≤ length block → f ≡ little_from (8 * place) 6 block → n ≡ little_from (8 * place + 6) 2 block →
    behind block place ≡ consecutive f n ++ behind block (place + 1)
here block place f n small first count = rw (first, count) (behind_next block place small)

pub loop-place-preserved : goal.loop-place-preserved
loop-place-preserved c =
    let block = c.args.block.now in
    let place = c.loop-place.place in
    let small : 8 * place + 8 ≤ length block = omega (arith, c.loop-place-test.true) in
    let entry = c.entry_at-entry.result in
    let is = here block place entry.first entry.count small c.entry_at-entry.ensures.first c.entry_at-entry.ensures.count in
    let all = drop c.args.cleared (trim_sectors block) in
    let few = c.loop-place.invariant.few in
    elim c.if-entry-skip.branch [
      | then-entry-skip w ↦
          rw (w.skip-is, w.runs-is, w.next-is)
          (record {
            counted = counted_skip all _ _ c.loop-place.skip c.loop-place.runs c.loop-place.next entry.first entry.count is
                c.loop-place.invariant.counted w.if-entry-skip.true;
            few = omega (arith, few);
          })
      | else-entry-skip w ↦
          let end = w.from.ensures in
          let with = w.runs_with-runs.ensures in
          let next = counted_with all _ _ c.loop-place.skip c.loop-place.runs c.loop-place.next entry.first entry.count is c.loop-place.invariant.counted
          w.if-entry-skip.false w.runs_with-runs.result with.begins with.goes_on in
          let more = next.1 in
          rw (w.skip-is, w.runs-is, w.next-is, end) (record { counted = next.0; few = omega (arith, few, more) })
    ]

pub returns : goal.returns
returns c =
    counted_all (drop c.args.cleared (trim_sectors c.args.block.now)) _ c.loop-place.skip c.loop-place.runs c.loop-place.next
    (behind_none c.args.block.now c.loop-place.place c.loop-place-test.false) c.loop-place.invariant.counted
