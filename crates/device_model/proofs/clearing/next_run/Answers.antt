use Rattle.std.proofs.Common.{ℕ, ◌≡◌, ◌+◌, ◌*◌, ◌≤◌, List, length, ◌++◌, arith, sym}
use Rattle.byteorder.specs.Endian.{little_from}
use Rattle.adapter.specs.Trim.{consecutive, trim_sectors}
use Rattle.device_model.proofs.Runs.{along_count, along_first, along_head, along_more, along_none, along_skip, along_stops, behind, behind_next, behind_none}
use Rattle.device_model.proofs.clearing.next_run.Goals as goal
use Rattle.device_model.proofs.clearing.next_run.Goals.{then-entry-skip, else-entry-skip+then-run-eq0, else-entry-skip+else-run-eq0+then-run-from}

pub loop-place-init : goal.loop-place-init
loop-place-init c = record { along = along_none (trim_sectors c.args.block.now) c.args.cleared c.args.most; low = omega arith; fits = omega arith }

-- the sectors from this entry on are its own, and then the others
here : (block : List ℕ) (place f n : ℕ) → 8 * place + 8 ≤ length block → f ≡ little_from (8 * place) 6 block → n ≡ little_from (8 * place + 6) 2 block →
    behind block place ≡ consecutive f n ++ behind block (place + 1)
here block place f n small first count = rw (first, count) (behind_next block place small)

pub loop-place-preserved : goal.loop-place-preserved
loop-place-preserved c =
    let block = c.args.block.now in
    let place = c.loop-place.place in
    let small : 8 * place + 8 ≤ length block = omega (arith, c.loop-place-test.true) in
    let entry = c.entry_at-entry.result in
    let is = here block place entry.first entry.count small c.entry_at-entry.ensures.first c.entry_at-entry.ensures.count in
    let sectors = trim_sectors block in
    let low = c.loop-place.invariant.low in
    let fits = c.loop-place.invariant.fits in
    let first_low = c.entry_at-entry.ensures.range.0 in
    let count_low = c.entry_at-entry.ensures.range.1 in
    elim c.if-entry-skip.branch [
      | then-entry-skip w ↦
          rw (w.skip-is, w.run-is)
          (record {
            along = along_skip sectors c.args.cleared c.args.most _ _ c.loop-place.skip _ _ entry.first entry.count is c.loop-place.invariant.along w.if-entry-skip.true;
            low = low;
            fits = let past = w.if-entry-skip.true in omega (arith, fits, past, count_low);
          })
      | else-entry-skip+then-run-eq0 w ↦
          let inside = w.if-entry-skip.false in
          rw (w.skip-is, w.run-is, w.from.ensures, w.min.ensures)
          (record {
            along = along_first sectors c.args.cleared c.args.most _ _ c.loop-place.skip _ _ entry.first entry.count is c.loop-place.invariant.along inside
                w.if-run-eq0.true;
            low = omega (arith, first_low, count_low, inside, w.from.ensures);
            fits = let none = w.if-run-eq0.true in omega (arith, fits, none, inside, count_low);
          })
      | else-entry-skip+else-run-eq0+then-run-from w ↦
          let some = w.if-run-eq0.false in
          rw (w.skip-is, w.run-is, w.min-then-run-from.ensures)
          (record {
            along = along_more sectors c.args.cleared c.args.most _ _ c.loop-place.skip _ _ entry.first entry.count is c.loop-place.invariant.along
                (omega (arith, some)) (let same = w.if-run-from.true in omega (arith, same, w.from-else-run-eq0.ensures));
            low = low;
            fits = omega (arith, fits, count_low);
          })
    ]

pub returns-else-run-from-clause-count : goal.returns-else-run-from-clause-count
returns-else-run-from-clause-count c =
    let block = c.args.block.now in
    let place = c.loop-place.place in
    let small : 8 * place + 8 ≤ length block = omega (arith, c.loop-place-test.true) in
    let entry = c.entry_at-entry.result in
    let is = here block place entry.first entry.count small c.entry_at-entry.ensures.first c.entry_at-entry.ensures.count in
    let some = c.if-run-eq0.false in
    sym
    (along_stops (trim_sectors block) c.args.cleared c.args.most _ _ c.loop-place.skip _ _ entry.first entry.count is c.loop-place.invariant.along
    c.if-entry-skip.false (omega (arith, some)) (λ same. let other = c.if-run-from.false in absurd (other (omega (arith, same, c.from-else-run-eq0.ensures)))))

pub returns-else-run-from-clause-first : goal.returns-else-run-from-clause-first
returns-else-run-from-clause-first c = λ some.
    along_head (trim_sectors c.args.block.now) c.args.cleared c.args.most _ c.loop-place.skip _ _ c.loop-place.invariant.along some

pub returns-clause-count : goal.returns-clause-count
returns-clause-count c =
    sym
    (along_count (trim_sectors c.args.block.now) c.args.cleared c.args.most _ c.loop-place.skip _ _
    (behind_none c.args.block.now c.loop-place.place c.loop-place-test.false) c.loop-place.invariant.along)

pub returns-clause-first : goal.returns-clause-first
returns-clause-first c = λ some.
    along_head (trim_sectors c.args.block.now) c.args.cleared c.args.most _ c.loop-place.skip _ _ c.loop-place.invariant.along some

-- no more than the entries name
pub returns-else-run-from-clause-fits : goal.returns-else-run-from-clause-fits
returns-else-run-from-clause-fits c = λ some.
    let none = c.loop-place.invariant.along.started some in
    let fits = c.loop-place.invariant.fits in
    omega (arith, fits, none, c.requires, c.loop-place-test.true)

pub returns-clause-fits : goal.returns-clause-fits
returns-clause-fits c = λ some.
    let none = c.loop-place.invariant.along.started some in
    let fits = c.loop-place.invariant.fits in
    let places = c.loop-place.auto.place-end in
    omega (arith, fits, none, c.requires, places)
