use Rattle.std.proofs.Common.{ℕ, ◌≡◌, ◌<◌, ◌≤◌, List, length, get_or, Some, sym, ap, ◌∙◌, subst, arith}
use Rattle.std.specs.List.{Contains}
use Rattle.std.proofs.lemmas.Option.{slice_get-get_or}
use Rattle.request_queue.specs.declared.ranges.RequestRange.{RequestRange}
use Rattle.request_queue.specs.declared.ranges.IndexEntry.{IndexEntry}
use Rattle.request_queue.specs.BookRanges.{StandsBefore, item_first}
use Rattle.request_queue.specs.RangeIndex.{IsSortedWithGreatestEndSoFar, items_of}
use Rattle.request_queue.proofs.Sorting.{as_many}
use Rattle.request_queue.proofs.Editing.{its_place, removed_below, removed_follow, removed_view, removed_index}
use Rattle.request_queue.proofs.ranges.RangeIndex.remove.Goals as goal

-- the place that the search gives is the item's
placed : (slice es : List IndexEntry) (x : RequestRange) (place first : ℕ) → slice ≡ es → IsSortedWithGreatestEndSoFar es → Contains (items_of es) x → first ≡ item_first x
    → ((k : ℕ) (d : RequestRange) → k < place → StandsBefore (get_or (items_of slice) k d) first x.id.0)
    → ((k : ℕ) (d : RequestRange) → place ≤ k → k < length slice → StandsBefore (get_or (items_of slice) k d) first x.id.0 → ⊥)
    → (place < length (items_of es)) × (get_or (items_of es) place x ≡ x)
placed slice es x place first value is there from before behind =
    let n = as_many es in
    let len = ap length value in
    its_place (items_of es) x place is.sorted there
    (λ k d lt. subst (λ (f : ℕ). StandsBefore (get_or (items_of es) k d) f x.id.0) from (subst (λ (xs : List IndexEntry). StandsBefore (get_or (items_of xs) k d) first x.id.0) value (before k d lt)))
    (λ k d ge lt h. behind k d ge (omega (arith, len, n, lt))
    (subst (λ (xs : List IndexEntry). StandsBefore (get_or (items_of xs) k d) first x.id.0) (sym value) (subst (λ (f : ℕ). StandsBefore (get_or (items_of es) k d) f x.id.0) (sym from) h)))

pub remove-requires : goal.remove-requires
remove-requires c =
    let old = c.self.inside.entries.items in
    let p = c.count_before-own.ensures in
    let at = placed c.as_slice.result.now old c.args.item.now c.count_before-own.result c.from-first.result c.as_slice.ensures.value c.self.invariant.0
    (subst (λ (xs : List RequestRange). Contains xs c.args.item.now) (sym c.self.view_is) c.requires) c.from-first.ensures p.before p.behind in
    let n = as_many old in
    let low = at.0 in
    let len = c.as_slice.ensures.len in
    let same = ap length c.as_slice.ensures.value in
    omega (arith, low, n, len, same)

pub note_ends-requires-clause-before : goal.note_ends-requires-clause-before
note_ends-requires-clause-before c =
    let old = c.self.inside.entries.items in
    let p = c.count_before-own.ensures in
    let at = placed c.as_slice.result.now old c.args.item.now c.count_before-own.result c.from-first.result c.as_slice.ensures.value c.self.invariant.0
    (subst (λ (xs : List RequestRange). Contains xs c.args.item.now) (sym c.self.view_is) c.requires) c.from-first.ensures p.before p.behind in
    let n = as_many old in
    let low = at.0 in
    removed_below old c.remove.new.self.items c.remove.new.self.items c.count_before-own.result c.self.invariant.0 c.remove.ensures.items (omega (arith, low, n))

pub note_ends-requires-clause-follow : goal.note_ends-requires-clause-follow
note_ends-requires-clause-follow c =
    let old = c.self.inside.entries.items in
    let p = c.count_before-own.ensures in
    let at = placed c.as_slice.result.now old c.args.item.now c.count_before-own.result c.from-first.result c.as_slice.ensures.value c.self.invariant.0
    (subst (λ (xs : List RequestRange). Contains xs c.args.item.now) (sym c.self.view_is) c.requires) c.from-first.ensures p.before p.behind in
    let n = as_many old in
    let low = at.0 in
    removed_follow old c.remove.new.self.items c.remove.new.self.items c.count_before-own.result c.self.invariant.0 c.remove.ensures.items (omega (arith, low, n))

pub invariant_of-self : goal.invariant_of-self
invariant_of-self c =
    let old = c.self.inside.entries.items in
    let p = c.count_before-own.ensures in
    let at = placed c.as_slice.result.now old c.args.item.now c.count_before-own.result c.from-first.result c.as_slice.ensures.value c.self.invariant.0
    (subst (λ (xs : List RequestRange). Contains xs c.args.item.now) (sym c.self.view_is) c.requires) c.from-first.ensures p.before p.behind in
    let n = as_many old in
    let low = at.0 in
    let room = c.note_ends.ensures.room in
    let more = c.remove.ensures.capacity in
    let had = c.self.invariant.1 in (
      removed_index old c.remove.new.self.items c.note_ends.new.entries.items c.count_before-own.result c.self.invariant.0 c.remove.ensures.items (omega (arith, low, n)) c.note_ends.ensures.items c.note_ends.ensures.ends,
      omega (arith, room, more, had),
    )

pub returns : goal.returns
returns c =
    let old = c.self.inside.entries.items in
    let p = c.count_before-own.ensures in
    let place = c.count_before-own.result in
    let x = c.args.item.now in
    let at = placed c.as_slice.result.now old x place c.from-first.result c.as_slice.ensures.value c.self.invariant.0
    (subst (λ (xs : List RequestRange). Contains xs x) (sym c.self.view_is) c.requires) c.from-first.ensures p.before p.behind in
    let n = as_many old in
    let low = at.0 in (
      place,
      subst (λ (xs : List RequestRange). Rattle.std.specs.List.slice_get xs place ≡ Some x) c.self.view_is (slice_get-get_or (items_of old) place x low ∙ ap Some at.1),
      subst (λ (xs : List RequestRange). items_of c.note_ends.new.entries.items ≡ Rattle.std.specs.List.remove xs place) c.self.view_is
          (removed_view old c.remove.new.self.items c.note_ends.new.entries.items place c.self.invariant.0 c.remove.ensures.items (omega (arith, low, n)) c.note_ends.ensures.items c.note_ends.ensures.ends),
    )
