use Rattle.std.proofs.Common.{ℕ, ◌≡◌, ◌<◌, List, length, get_or, set, subst, sym, ap, ◌∙◌, arith, inl, inr}
use Rattle.std.proofs.lemmas.Bool.{cases_eq, cases_lt}
use Rattle.std.proofs.lemmas.List.{get_or_default, length-set, get_or-set_same, get_or-set_other}
use Rattle.request_queue.specs.declared.ranges.RequestRange.{RequestRange}
use Rattle.request_queue.specs.declared.ranges.IndexEntry.{IndexEntry}
use Rattle.request_queue.specs.BookRanges.{EndIsGreatestUpTo}
use Rattle.request_queue.specs.RangeIndex.{items_of}
use Rattle.request_queue.proofs.Editing.{items_set}
use Rattle.request_queue.proofs.Ends.{all_follow}
use Rattle.request_queue.proofs.ranges.note_ends.Goals as goal

pub loop-place-preserved : goal.loop-place-preserved
loop-place-preserved c =
    let v = c.loop-place.invariant in
    let es = c.loop-place.entries.items in
    let place = c.loop-place.place in
    let all = c.args.entries.now.items in
    let new : IndexEntry = record { item = c.index_mut.result.now.item; greatest_end = c.greatest_end_at-greatest_end.result } in
    let long = v.long in
    let n = c.len-place-end.ensures in
    let len = c.as_slice.ensures.len in
    let same = ap length c.as_slice.ensures.value in
    let going = c.loop-place-test.true in
    let lt : place < length es = omega (arith, long, n, len, same, going) in
    let slice : items_of c.as_slice.result.now ≡ items_of all = ap items_of c.as_slice.ensures.value ∙ v.items in
    record {
      long = v.long;
      many = length-set es place new ∙ v.many;
      room = v.room;
      items = items_set es place c.index_mut.result.now c.greatest_end_at-greatest_end.result lt c.index_mut.ensures.value ∙ v.items;
      ends = λ k d h. elim (cases_eq k place) [
        | inl e ↦ subst (λ (i : ℕ). EndIsGreatestUpTo (items_of all) i (get_or (set es place new) i d).greatest_end) (sym e)
            (subst (λ (r : ℕ). EndIsGreatestUpTo (items_of all) place r) (sym (ap (λ (x : IndexEntry). x.greatest_end) (get_or-set_same es place new d lt)))
            (subst (λ (xs : List RequestRange). EndIsGreatestUpTo xs place c.greatest_end_at-greatest_end.result) slice c.greatest_end_at-greatest_end.ensures))
        | inr ne ↦ subst (λ (r : ℕ). EndIsGreatestUpTo (items_of all) k r) (sym (ap (λ (x : IndexEntry). x.greatest_end) (get_or-set_other es place k new d ne))) (v.ends k d (omega (arith, h, ne)))
      ];
      later = λ k d h. get_or-set_other es place k new d (λ e. let no : ⊥ = omega (arith, e, h) in no) ∙ v.later k d (omega (arith, h));
    }

pub returns-then-index-greatest_end-clause-ends : goal.returns-then-index-greatest_end-clause-ends
returns-then-index-greatest_end-clause-ends c = λ k d lt. elim (cases_lt k c.loop-place.place) [
  | inl low ↦ c.loop-place.invariant.ends k d low
  | inr high ↦
      let v = c.loop-place.invariant in
      let es = c.loop-place.entries.items in
      let all = c.args.entries.now.items in
      let place = c.loop-place.place in
      let slice : items_of c.as_slice.result.now ≡ items_of all = ap items_of c.as_slice.ensures.value ∙ v.items in
      let past = c.if-place-from.true in
      let many = v.many in
      let inside : place < length es = omega (arith, lt, high, many) in
      let kept : (get_or all place d).greatest_end ≡ c.greatest_end_at-greatest_end.result =
      ap (λ (x : IndexEntry). x.greatest_end) (sym (v.later place d (omega arith)) ∙ (get_or_default es place d c.index.result.now inside ∙ sym c.index.ensures)) ∙ c.if-index-greatest_end.true in
      let here : EndIsGreatestUpTo (items_of all) place (get_or all place d).greatest_end =
      subst (EndIsGreatestUpTo (items_of all) place) (sym kept) (subst (λ (xs : List RequestRange). EndIsGreatestUpTo xs place c.greatest_end_at-greatest_end.result) slice c.greatest_end_at-greatest_end.ensures) in
      subst (λ (x : IndexEntry). EndIsGreatestUpTo (items_of all) k x.greatest_end) (sym (v.later k d high))
      (all_follow all place d (λ n le. c.requires.follow n d (omega (arith, le, past))) here k high lt)
]
