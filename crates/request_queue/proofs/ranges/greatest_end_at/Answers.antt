use Rattle.std.proofs.Common.{ℕ, ◌≡◌, ◌+◌, ◌-◌, get_or, subst, sym, ap, ◌∙◌, arith}
use Rattle.request_queue.specs.declared.ranges.RequestRange.{RequestRange}
use Rattle.request_queue.specs.BookRanges.{EndIsGreatestUpTo, item_end}
use Rattle.request_queue.specs.RangeIndex.{items_of}
use Rattle.request_queue.proofs.Sorting.{item_at, blank}
use Rattle.request_queue.proofs.Ends.{end_grows, end_stays}
use Rattle.request_queue.proofs.ranges.greatest_end_at.Goals as goal

pub returns-then-before-end : goal.returns-then-before-end
returns-then-before-end c =
    let es = c.args.entries.now in
    let place = c.args.place in
    let some = c.if-place-eq0.false in
    let e : place - 1 + 1 ≡ place = omega arith in
    let ends : (d : RequestRange) → item_end (get_or (items_of es) (place - 1 + 1) d) ≡ c.end_of-end.result =
    λ (d : RequestRange). ap (λ (i : ℕ). item_end (get_or (items_of es) i d)) e ∙ (ap item_end (item_at es place _ d c.requires.within) ∙ sym c.end_of-end.ensures) in
    subst (λ (i : ℕ). EndIsGreatestUpTo (items_of es) i c.end_of-end.result) e
    (end_grows (items_of es) (place - 1) _ c.end_of-end.result (c.requires.before (place - 1) _ (omega arith)) ends c.if-before-end.true)

pub returns : goal.returns
returns c =
    let es = c.args.entries.now in
    let place = c.args.place in
    let some = c.if-place-eq0.false in
    let e : place - 1 + 1 ≡ place = omega arith in
    let ends : (d : RequestRange) → item_end (get_or (items_of es) (place - 1 + 1) d) ≡ c.end_of-end.result =
    λ (d : RequestRange). ap (λ (i : ℕ). item_end (get_or (items_of es) i d)) e ∙ (ap item_end (item_at es place _ d c.requires.within) ∙ sym c.end_of-end.ensures) in
    subst (λ (i : ℕ). EndIsGreatestUpTo (items_of es) i (get_or es (place - 1) blank).greatest_end) e
    (end_stays (items_of es) (place - 1) (get_or es (place - 1) blank).greatest_end c.end_of-end.result (c.requires.before (place - 1) blank (omega arith)) ends c.if-before-end.false)
