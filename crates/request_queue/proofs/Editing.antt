-- What putting an item in its place, and taking one out, do to the index.
use Rattle.std.proofs.Common.{◌≡◌, ◌≢◌, ℕ, ◌+◌, ◌-◌, suc, ◌<◌, ◌≤◌, ◌++◌, ◌∷◌, List, length, get_or, set, take, drop, sym, ap, ◌∙◌, subst, arith, inl, inr}
use Rattle.std.specs.List.{All, Contains, insert, remove}
use Rattle.std.proofs.lemmas.Bool.{cases_eq, cases_lt}
use Rattle.std.proofs.lemmas.List.{map-append, take-map, drop-map, map-set, set-get_or}
use Rattle.std.proofs.lemmas.List.Edits.{length-insert, length-remove, get_or-insert_above, get_or-insert_below, get_or-remove_above, get_or-remove_below}
use Rattle.std.proofs.lemmas.List.Quantifiers.{all_pairs_remove}
use Rattle.request_queue.specs.declared.ranges.RequestRange.{RequestRange}
use Rattle.request_queue.specs.declared.ranges.IndexEntry.{IndexEntry}
use Rattle.request_queue.specs.BookRanges.{AreSorted, StandsBefore, EndIsGreatestUpTo, item_end, item_first}
use Rattle.request_queue.specs.RangeIndex.{NextEndIsGreatestIfThis, IsSortedWithGreatestEndSoFar, items_of}
use Rattle.request_queue.proofs.Ends.{next_end}
use Rattle.request_queue.proofs.Sorting.{item_at, as_many, sorted_insert, itself}

item : IndexEntry → RequestRange
item k = k.item

-- the greatest end at an entry doesn't change the items
pub items_set : (es : List IndexEntry) (i : ℕ) (x : IndexEntry) (greatest_end : ℕ) → i < length es → x ≡ get_or es i x → items_of (set es i (record { item = x.item; greatest_end = greatest_end })) ≡ items_of es
items_set es i x greatest_end lt is =
    let same : x.item ≡ get_or (items_of es) i x.item = ap (λ (k : IndexEntry). k.item) is ∙ sym (item_at es i x x.item lt) in
    map-set (λ (k : IndexEntry). k.item) es i (record { item = x.item; greatest_end = greatest_end }) ∙ (ap (set (items_of es) i) same ∙ set-get_or (items_of es) i x.item)

-- a greatest end is of the items up to it alone
pub same_greatest : (old new : List RequestRange) (k greatest_end : ℕ) → ((j : ℕ) (d : RequestRange) → j ≤ k → get_or new j d ≡ get_or old j d) → EndIsGreatestUpTo old k greatest_end → EndIsGreatestUpTo new k greatest_end
same_greatest old new k greatest_end same so = record {
  bounds_all_ends = λ j d le. let e = ap item_end (same j d le) in let h = so.bounds_all_ends j d le in omega (arith, e, h);
  place_of_end = so.place_of_end;
  place_is_in_range = so.place_is_in_range;
  end_is_greatest = λ d. ap item_end (same so.place_of_end d so.place_is_in_range) ∙ so.end_is_greatest d;
}

items_insert : (es : List IndexEntry) (place : ℕ) (x : IndexEntry) → items_of (insert es place x) ≡ insert (items_of es) place x.item
items_insert es place x =
    map-append (λ (k : IndexEntry). k.item) (take place es) (x ∷ drop place es)
    ∙ (ap (λ (xs : List RequestRange). xs ++ x.item ∷ items_of (drop place es)) (sym (take-map (λ (k : IndexEntry). k.item) place es))
    ∙ ap (λ (xs : List RequestRange). take place (items_of es) ++ x.item ∷ xs) (sym (drop-map (λ (k : IndexEntry). k.item) place es)))

items_remove : (es : List IndexEntry) (place : ℕ) → items_of (remove es place) ≡ remove (items_of es) place
items_remove es place =
    map-append (λ (k : IndexEntry). k.item) (take place es) (drop (suc place) es)
    ∙ (ap (λ (xs : List RequestRange). xs ++ items_of (drop (suc place) es)) (sym (take-map (λ (k : IndexEntry). k.item) place es))
    ∙ ap (λ (xs : List RequestRange). take place (items_of es) ++ xs) (sym (drop-map (λ (k : IndexEntry). k.item) (suc place) es)))

-- an index again, where the items are in order and the greatest ends those of the items
index_of : (grown new : List IndexEntry) → AreSorted (items_of grown) → items_of new ≡ items_of grown
    → ((k : ℕ) (d : IndexEntry) → k < length grown → EndIsGreatestUpTo (items_of grown) k (get_or new k d).greatest_end) → IsSortedWithGreatestEndSoFar new
index_of grown new sorted items ends = record {
  sorted = subst AreSorted (sym items) sorted;
  ends_are_greatest = λ k d lt.
      let a = as_many new in let b = as_many grown in let e = ap length items in
      subst (λ (xs : List RequestRange). EndIsGreatestUpTo xs k (get_or new k d).greatest_end) (sym items) (ends k d (omega (arith, a, b, e, lt)));
}

module _ (old grown new : List IndexEntry) (place : ℕ) (x : IndexEntry) (is : IsSortedWithGreatestEndSoFar old) (grew : grown ≡ insert old place x) (within : place ≤ length old) where
  pub inserted_below : (k : ℕ) (d : IndexEntry) → k < place → EndIsGreatestUpTo (items_of grown) k (get_or grown k d).greatest_end
  inserted_below k d lt =
      let n = as_many old in
      let here : get_or grown k d ≡ get_or old k d = ap (λ (es : List IndexEntry). get_or es k d) grew ∙ get_or-insert_below old place x d k lt within in
      let items : items_of grown ≡ insert (items_of old) place x.item = ap items_of grew ∙ items_insert old place x in
      subst (λ (r : ℕ). EndIsGreatestUpTo (items_of grown) k r) (sym (ap (λ (e : IndexEntry). e.greatest_end) here))
      (same_greatest (items_of old) (items_of grown) k (get_or old k d).greatest_end
      (λ j e le. ap (λ (xs : List RequestRange). get_or xs j e) items ∙ get_or-insert_below (items_of old) place x.item e j (omega (arith, le, lt)) (omega (arith, n, within)))
      (is.ends_are_greatest k d (omega (arith, lt, within))))

  pub inserted_follow : (k : ℕ) (d : IndexEntry) → place < k → NextEndIsGreatestIfThis grown k d
  inserted_follow k d more short here =
      let n = as_many old in
      let m = length-insert old place x within in
      let grown_long = ap length grew in
      let e : k - 1 + 1 ≡ k = omega (arith, more) in
      let lt : k < length old = omega (arith, short, m, grown_long) in
      let items : items_of grown ≡ insert (items_of old) place x.item = ap items_of grew ∙ items_insert old place x in
      let first : get_or grown k d ≡ get_or old (k - 1) d = ap (λ (es : List IndexEntry). get_or es k d) grew
      ∙ (ap (λ (i : ℕ). get_or (insert old place x) i d) (sym e) ∙ get_or-insert_above old place x d (k - 1) (omega (arith, more)) within) in
      let second : get_or grown (k + 1) d ≡ get_or old k d = ap (λ (es : List IndexEntry). get_or es (k + 1) d) grew ∙ get_or-insert_above old place x d k (omega (arith, more)) within in
      let its : RequestRange = (get_or old k d).item in
      let a = (get_or old (k - 1) d).greatest_end in
      let b = (get_or old k d).greatest_end in
      subst (EndIsGreatestUpTo (items_of grown) (k + 1)) (sym (ap (λ (y : IndexEntry). y.greatest_end) second))
      (next_end (items_of old) (items_of grown) (k - 1) k a b its (is.ends_are_greatest (k - 1) d (omega (arith, lt)))
      (subst (λ (i : ℕ). EndIsGreatestUpTo (items_of old) i b) (sym e) (is.ends_are_greatest k d lt))
      (λ y. ap (λ (i : ℕ). get_or (items_of old) i y) e ∙ item_at old k d y lt)
      (λ y. item_at grown (k + 1) d y short ∙ ap (λ (z : IndexEntry). z.item) second)
      (subst (EndIsGreatestUpTo (items_of grown) k) (ap (λ (y : IndexEntry). y.greatest_end) first) here))

  module _ (items : items_of new ≡ items_of grown) (ends : (k : ℕ) (d : IndexEntry) → k < length grown → EndIsGreatestUpTo (items_of grown) k (get_or new k d).greatest_end) where
    pub inserted_view : items_of new ≡ insert (items_of old) place x.item
    inserted_view = items ∙ (ap items_of grew ∙ items_insert old place x)

    pub inserted_index : ((k : ℕ) (d : RequestRange) → k < place → StandsBefore (get_or (items_of old) k d) (item_first x.item) x.item.id.0)
        → ((k : ℕ) (d : RequestRange) → place ≤ k → k < length old → StandsBefore (get_or (items_of old) k d) (item_first x.item) x.item.id.0 → ⊥)
        → All (λ (y : RequestRange). y.id ≢ x.item.id) (items_of old) → IsSortedWithGreatestEndSoFar new
    inserted_index before behind fresh =
        let n = as_many old in
        index_of grown new
        (subst AreSorted (sym (ap items_of grew ∙ items_insert old place x))
        (sorted_insert (items_of old) place x.item is.sorted (omega (arith, n, within)) before (λ k d ge lt. behind k d ge (omega (arith, n, lt))) fresh))
        items ends

module _ (old shrunk new : List IndexEntry) (place : ℕ) (is : IsSortedWithGreatestEndSoFar old) (shrank : shrunk ≡ remove old place) (within : place < length old) where
  pub removed_below : (k : ℕ) (d : IndexEntry) → k < place → EndIsGreatestUpTo (items_of shrunk) k (get_or shrunk k d).greatest_end
  removed_below k d lt =
      let n = as_many old in
      let here : get_or shrunk k d ≡ get_or old k d = ap (λ (es : List IndexEntry). get_or es k d) shrank ∙ get_or-remove_below old place d k lt within in
      let items : items_of shrunk ≡ remove (items_of old) place = ap items_of shrank ∙ items_remove old place in
      subst (λ (r : ℕ). EndIsGreatestUpTo (items_of shrunk) k r) (sym (ap (λ (e : IndexEntry). e.greatest_end) here))
      (same_greatest (items_of old) (items_of shrunk) k (get_or old k d).greatest_end
      (λ j e le. ap (λ (xs : List RequestRange). get_or xs j e) items ∙ get_or-remove_below (items_of old) place e j (omega (arith, le, lt)) (omega (arith, n, within)))
      (is.ends_are_greatest k d (omega (arith, lt, within))))

  pub removed_follow : (k : ℕ) (d : IndexEntry) → place < k → NextEndIsGreatestIfThis shrunk k d
  removed_follow k d more short here =
      let m = length-remove old place within in
      let long = ap length shrank in
      let lt : k + 1 + 1 < length old = omega (arith, short, m, long) in
      let first : get_or shrunk k d ≡ get_or old (k + 1) d = ap (λ (es : List IndexEntry). get_or es k d) shrank ∙ get_or-remove_above old place d k (omega (arith, more)) within in
      let second : get_or shrunk (k + 1) d ≡ get_or old (k + 1 + 1) d = ap (λ (es : List IndexEntry). get_or es (k + 1) d) shrank ∙ get_or-remove_above old place d (k + 1) (omega (arith, more)) within in
      let its : RequestRange = (get_or old (k + 1 + 1) d).item in
      let a = (get_or old (k + 1) d).greatest_end in
      let b = (get_or old (k + 1 + 1) d).greatest_end in
      subst (EndIsGreatestUpTo (items_of shrunk) (k + 1)) (sym (ap (λ (y : IndexEntry). y.greatest_end) second))
      (next_end (items_of old) (items_of shrunk) (k + 1) k a b its (is.ends_are_greatest (k + 1) d (omega (arith, lt))) (is.ends_are_greatest (k + 1 + 1) d lt)
      (λ y. item_at old (k + 1 + 1) d y lt)
      (λ y. item_at shrunk (k + 1) d y short ∙ ap (λ (z : IndexEntry). z.item) second)
      (subst (EndIsGreatestUpTo (items_of shrunk) k) (ap (λ (y : IndexEntry). y.greatest_end) first) here))

  module _ (items : items_of new ≡ items_of shrunk) (ends : (k : ℕ) (d : IndexEntry) → k < length shrunk → EndIsGreatestUpTo (items_of shrunk) k (get_or new k d).greatest_end) where
    pub removed_view : items_of new ≡ remove (items_of old) place
    removed_view = items ∙ (ap items_of shrank ∙ items_remove old place)

    pub removed_index : IsSortedWithGreatestEndSoFar new
    removed_index =
        let n = as_many old in
        index_of shrunk new
        (subst AreSorted (sym (ap items_of shrank ∙ items_remove old place)) (all_pairs_remove (λ (a : RequestRange) (b : RequestRange). StandsBefore a (item_first b) b.id.0) (items_of old) place (omega (arith, n, within)) is.sorted))
        items ends

-- what stands behind all that stand before an item, and before all that don't, is the item
pub its_place : (items : List RequestRange) (x : RequestRange) (place : ℕ) → AreSorted items → Contains items x
    → ((k : ℕ) (d : RequestRange) → k < place → StandsBefore (get_or items k d) (item_first x) x.id.0)
    → ((k : ℕ) (d : RequestRange) → place ≤ k → k < length items → StandsBefore (get_or items k d) (item_first x) x.id.0 → ⊥)
    → (place < length items) × (get_or items place x ≡ x)
its_place items x place sorted there before behind = elim (cases_lt there.0 place) [
  | inl low ↦ absurd (itself x (subst (λ (y : RequestRange). StandsBefore y (item_first x) x.id.0) there.2 (before there.0 x low)))
  | inr high ↦ elim (cases_eq there.0 place) [
    | inl e ↦ (let h = there.1 in omega (arith, e, h), ap (λ (i : ℕ). get_or items i x) (sym e) ∙ there.2)
    | inr ne ↦ absurd (behind place x (omega arith) (let h = there.1 in omega (arith, high, h))
        (subst (λ (y : RequestRange). StandsBefore (get_or items place x) (item_first y) y.id.0) there.2 (sorted place there.0 x (omega arith) there.1)))
  ]
]
