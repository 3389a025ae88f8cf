use Rattle.std.proofs.Common.{ℕ, ◌≡◌, ◌≢◌, List, length, get_or, sym, ap, subst, arith}
use Rattle.std.specs.List.{All}
use Rattle.request_queue.specs.declared.ranges.RequestRange.{RequestRange}
use Rattle.request_queue.specs.declared.ranges.IndexEntry.{IndexEntry}
use Rattle.request_queue.specs.BookRanges.{StandsBefore}
use Rattle.request_queue.specs.RangeIndex.{items_of}
use Rattle.request_queue.proofs.Sorting.{as_many}
use Rattle.request_queue.proofs.Editing.{inserted_below, inserted_follow, inserted_view, inserted_index}
use Rattle.request_queue.proofs.ranges.RangeIndex.insert.Goals as goal

pub note_ends-requires-clause-before : goal.note_ends-requires-clause-before
note_ends-requires-clause-before c =
    let within = c.count_before-place.ensures.within in
    let len = ap length c.as_slice.ensures.value in
    inserted_below c.self.inside.entries.items c.insert.new.self.items c.insert.new.self.items c.count_before-place.result (record { item = c.args.item; greatest_end = 0 }) c.self.invariant.0 c.in-Ok.ensures.items (omega (arith, within, len))

pub note_ends-requires-clause-follow : goal.note_ends-requires-clause-follow
note_ends-requires-clause-follow c =
    let within = c.count_before-place.ensures.within in
    let len = ap length c.as_slice.ensures.value in
    inserted_follow c.self.inside.entries.items c.insert.new.self.items c.insert.new.self.items c.count_before-place.result (record { item = c.args.item; greatest_end = 0 }) c.self.invariant.0 c.in-Ok.ensures.items (omega (arith, within, len))

pub invariant_of-self : goal.invariant_of-self
invariant_of-self c =
    let old = c.self.inside.entries.items in
    let place = c.count_before-place.result in
    let p = c.count_before-place.ensures in
    let within = p.within in
    let value = c.as_slice.ensures.value in
    let len = ap length value in
    let from = c.from-first.ensures in
    let room = c.note_ends.ensures.room in
    let more = c.in-Ok.ensures.capacity in
    let had = c.self.invariant.1 in (
      inserted_index old c.insert.new.self.items c.note_ends.new.entries.items place (record { item = c.args.item; greatest_end = 0 }) c.self.invariant.0 c.in-Ok.ensures.items (omega (arith, within, len))
          c.note_ends.ensures.items c.note_ends.ensures.ends
          (λ k d lt. subst (λ (f : ℕ). StandsBefore (get_or (items_of old) k d) f c.args.item.id.0) from (subst (λ (es : List IndexEntry). StandsBefore (get_or (items_of es) k d) c.from-first.result c.args.item.id.0) value (p.before k d lt)))
          (λ k d ge lt is. p.behind k d ge (omega (arith, len, lt))
          (subst (λ (es : List IndexEntry). StandsBefore (get_or (items_of es) k d) c.from-first.result c.args.item.id.0) (sym value) (subst (λ (f : ℕ). StandsBefore (get_or (items_of old) k d) f c.args.item.id.0) (sym from) is)))
          (subst (λ (xs : List RequestRange). All (λ (y : RequestRange). y.id ≢ c.args.item.id) xs) (sym c.self.view_is) c.requires.id_is_new),
      omega (arith, room, more, had),
    )

pub returns : goal.returns
returns c =
    let within = c.count_before-place.ensures.within in
    let len = ap length c.as_slice.ensures.value in
    let n = as_many c.self.inside.entries.items in
    let now = ap length c.self.view_is in
    let P : List RequestRange → Type 0 = λ (xs : List RequestRange). items_of c.note_ends.new.entries.items ≡ Rattle.std.specs.List.insert xs c.count_before-place.result c.args.item in (
      c.count_before-place.result,
      omega (arith, within, len, n, now),
      subst P c.self.view_is
          (inserted_view c.self.inside.entries.items c.insert.new.self.items c.note_ends.new.entries.items c.count_before-place.result (record { item = c.args.item; greatest_end = 0 }) c.self.invariant.0 c.in-Ok.ensures.items
          (omega (arith, within, len)) c.note_ends.ensures.items c.note_ends.ensures.ends),
    )
