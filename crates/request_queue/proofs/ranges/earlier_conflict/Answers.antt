use Rattle.std.proofs.Common.{ℕ, ◌<◌, ◌-◌, length, get_or, subst, sym, ap, ◌∙◌, arith, inl, inr}
use Rattle.std.proofs.lemmas.Bool.{cases_eq}
use Rattle.request_queue.specs.BookRanges.{StandsBefore, is_earlier_conflict_on_port}
use Rattle.request_queue.specs.RangeIndex.{items_of}
use Rattle.request_queue.proofs.Sorting.{item_at, as_many, blank}
use Rattle.request_queue.proofs.Ends.{begins_late, none_conflicts, none_left}
use Rattle.request_queue.proofs.ranges.earlier_conflict.Goals as goal

pub loop-past-init : goal.loop-past-init
loop-past-init c =
    let es = c.args.entries.now in
    record {
      within = c.count_before-past.ensures.within;
      none = λ k d ge lt.
          begins_late c.args.item.now (get_or (items_of es) k d)
          (λ is. c.count_before-past.ensures.behind k d ge (let n = as_many es in omega (arith, n, lt)) (subst (λ (e : ℕ). StandsBefore (get_or (items_of es) k d) e 0) (sym c.end_of.ensures) is));
    }

pub returns-then-entry-first-clause-none_conflicts : goal.returns-then-entry-first-clause-none_conflicts
returns-then-entry-first-clause-none_conflicts c =
    let es = c.args.entries.now in
    let v = c.loop-past.invariant in
    let within = v.within in
    let some = c.loop-past-test.true in
    let early = c.if-entry-first.true in
    let from = c.from-first.ensures in
    (none_conflicts c.args.item.now (items_of es) (c.loop-past.past - 1) (get_or es (c.loop-past.past - 1) blank).greatest_end (c.requires.ends_are_greatest (c.loop-past.past - 1) blank (omega (arith, within, some))) (omega (arith, early, from))
    (λ k d more lt. v.none k d (omega (arith, more)) lt))

pub returns-then-is_earlier_conflict_on_port-clause-found : goal.returns-then-is_earlier_conflict_on_port-clause-found
returns-then-is_earlier_conflict_on_port-clause-found c =
    let es = c.args.entries.now in
    let within = c.loop-past.invariant.within in
    let some = c.loop-past-test.true in
    let n = as_many es in
    let inside : c.loop-past.past - 1 < length es = omega (arith, within, some) in
    ((c.loop-past.past - 1, omega (arith, n, inside), item_at es (c.loop-past.past - 1) _ _ inside), sym c.is_earlier_conflict_on_port.ensures ∙ c.if-is_earlier_conflict_on_port.true)

pub loop-past-preserved : goal.loop-past-preserved
loop-past-preserved c =
    let es = c.args.entries.now in
    let v = c.loop-past.invariant in
    let within = v.within in
    let some = c.loop-past-test.true in
    let inside : c.loop-past.past - 1 < length es = omega (arith, within, some) in
    record {
      within = omega (arith, within);
      none = λ k d ge lt. elim (cases_eq k (c.loop-past.past - 1)) [
        | inl e ↦ ap (λ (i : ℕ). is_earlier_conflict_on_port c.args.item.now (get_or (items_of es) i d)) e ∙ (ap (is_earlier_conflict_on_port c.args.item.now) (item_at es (c.loop-past.past - 1) _ d inside) ∙ (sym c.is_earlier_conflict_on_port.ensures ∙ c.if-is_earlier_conflict_on_port.false))
        | inr ne ↦ v.none k d (omega (arith, ge, ne, some)) lt
      ];
    }

pub returns-clause-none_conflicts : goal.returns-clause-none_conflicts
returns-clause-none_conflicts c =
    let over = c.loop-past-test.false in
    (none_left c.args.item.now (items_of c.args.entries.now) (λ k d ge lt. c.loop-past.invariant.none k d (omega (arith, over)) lt))
