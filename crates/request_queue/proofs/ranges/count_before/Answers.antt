use Rattle.std.proofs.Common.{ℕ, ◌<◌, ◌+◌, ◌-◌, ◌/◌, length, subst, sym, arith}
use Rattle.std.proofs.lemmas.Bool.{iff_false}
use Rattle.request_queue.specs.declared.ranges.RequestRange.{RequestRange}
use Rattle.request_queue.specs.BookRanges.{StandsBefore}
use Rattle.request_queue.specs.RangeIndex.{items_of}
use Rattle.request_queue.proofs.Sorting.{item_at, as_many, low_more, high_more}
use Rattle.request_queue.proofs.ranges.count_before.Goals as goal

pub loop-low-preserved-then-is_before : goal.loop-low-preserved-then-is_before
loop-low-preserved-then-is_before c =
    let v = c.loop-low.invariant in
    let es = c.args.entries.now in
    let within = v.within in
    let going = c.loop-low-test.true in
    let middle : ℕ = c.loop-low.low + (c.loop-low.high - c.loop-low.low) / 2 in
    let inside : middle < length es = omega (arith, within, going) in
    let n = as_many es in
    let is = c.is_before.ensures.0 c.if-is_before.true in
    record {
      meets = omega (arith, going);
      within = within;
      before = low_more (items_of es) c.requires middle c.args.first c.args.id (omega (arith, n, inside)) (λ d. subst (λ (x : RequestRange). StandsBefore x c.args.first c.args.id) (sym (item_at es middle _ d inside)) is);
      behind = v.behind;
    }

pub loop-low-preserved : goal.loop-low-preserved
loop-low-preserved c =
    let v = c.loop-low.invariant in
    let es = c.args.entries.now in
    let within = v.within in
    let going = c.loop-low-test.true in
    let middle : ℕ = c.loop-low.low + (c.loop-low.high - c.loop-low.low) / 2 in
    let inside : middle < length es = omega (arith, within, going) in
    let n = as_many es in
    let not = iff_false c.is_before.ensures c.if-is_before.false in
    record {
      meets = omega (arith, going);
      within = omega (arith, within, going);
      before = v.before;
      behind = λ k d ge lt. high_more (items_of es) c.requires middle c.args.first c.args.id (omega (arith, n, inside))
          (λ e is. not (subst (λ (x : RequestRange). StandsBefore x c.args.first c.args.id) (item_at es middle _ e inside) is)) k d ge (omega (arith, n, lt));
    }
