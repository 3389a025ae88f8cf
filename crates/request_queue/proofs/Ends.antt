-- The greatest ends, and what they save.
use Rattle.std.proofs.Common.{◌≢◌, ◌⊎◌, zero, suc, subst, ◌≡◌, ℕ, ◌+◌, ◌<◌, ◌≤◌, ◌&&◌, ◌||◌, ◌==◌, true, false, List, length, get_or, ap, arith, inl, inr}
use Rattle.std.specs.Prelude.{nat_lt}
use Rattle.std.specs.List.{list_any}
use Rattle.std.proofs.lemmas.Bool.{cases_eq, cases_lt, and_parts, ltb-true, false_from_ne_true}
use Rattle.std.proofs.lemmas.List.Folds.{list_any_none}
use Rattle.block_machine.specs.DueRequests.{are_overlapping}
use Rattle.request_queue.specs.declared.ranges.RequestRange.{RequestRange}
use Rattle.request_queue.specs.declared.ranges.IndexEntry.{IndexEntry}
use Rattle.request_queue.specs.RangeIndex.{NextEndIsGreatestIfThis, items_of}
use Rattle.request_queue.specs.BookRanges.{StandsBefore, EndIsGreatestUpTo, item_end, item_first, is_earlier_conflict_on_port}

-- the greatest end goes on, with the next item's
pub end_grows : (items : List RequestRange) (k greatest_end end : ℕ) → EndIsGreatestUpTo items k greatest_end → ((d : RequestRange) → item_end (get_or items (k + 1) d) ≡ end) → greatest_end < end → EndIsGreatestUpTo items (k + 1) end
end_grows items k greatest_end end so is less = record {
  bounds_all_ends = λ j d le. elim (cases_eq j (k + 1)) [
    | inl e ↦ let same = ap (λ (i : ℕ). item_end (get_or items i d)) e in let h = is d in omega (arith, same, h)
    | inr ne ↦ let h = so.bounds_all_ends j d (omega arith) in omega (arith, h, less)
  ];
  place_of_end = k + 1;
  place_is_in_range = omega arith;
  end_is_greatest = is;
}

-- or stays as it is
pub end_stays : (items : List RequestRange) (k greatest_end end : ℕ) → EndIsGreatestUpTo items k greatest_end → ((d : RequestRange) → item_end (get_or items (k + 1) d) ≡ end) → end ≤ greatest_end → EndIsGreatestUpTo items (k + 1) greatest_end
end_stays items k greatest_end end so is more = record {
  bounds_all_ends = λ j d le. elim (cases_eq j (k + 1)) [
    | inl e ↦ let same = ap (λ (i : ℕ). item_end (get_or items i d)) e in let h = is d in omega (arith, same, h, more)
    | inr ne ↦ so.bounds_all_ends j d (omega arith)
  ];
  place_of_end = so.place_of_end;
  place_is_in_range = let h = so.place_is_in_range in omega (arith, h);
  end_is_greatest = so.end_is_greatest;
}

-- there is one
one_end : (items : List RequestRange) (k a b : ℕ) (d : RequestRange) → EndIsGreatestUpTo items k a → EndIsGreatestUpTo items k b → a ≡ b
one_end items k a b d is so =
    let p = is.bounds_all_ends so.place_of_end d so.place_is_in_range in
    let q = so.bounds_all_ends is.place_of_end d is.place_is_in_range in
    let x = is.end_is_greatest d in
    let y = so.end_is_greatest d in
    omega (arith, p, q, x, y)

-- the next end follows wherever the same item stands behind the same end
pub next_end : (old new : List RequestRange) (i j a b : ℕ) (x : RequestRange) → EndIsGreatestUpTo old i a → EndIsGreatestUpTo old (i + 1) b → ((d : RequestRange) → get_or old (i + 1) d ≡ x) → ((d : RequestRange) → get_or new (j + 1) d ≡ x)
    → EndIsGreatestUpTo new j a → EndIsGreatestUpTo new (j + 1) b
next_end old new i j a b x is so in_old in_new here = elim (cases_lt a (item_end x)) [
  | inl less ↦
      let e = one_end old (i + 1) (item_end x) b x (end_grows old i a (item_end x) is (λ d. ap item_end (in_old d)) less) so in
      subst (EndIsGreatestUpTo new (j + 1)) e (end_grows new j a (item_end x) here (λ d. ap item_end (in_new d)) less)
  | inr more ↦
      let e = one_end old (i + 1) a b x (end_stays old i a (item_end x) is (λ d. ap item_end (in_old d)) more) so in
      subst (EndIsGreatestUpTo new (j + 1)) e (end_stays new j a (item_end x) here (λ d. ap item_end (in_new d)) more)
]

-- so all behind a right one are right
pub all_follow : (es : List IndexEntry) (place : ℕ) (d : IndexEntry) → ((k : ℕ) → place ≤ k → NextEndIsGreatestIfThis es k d) → EndIsGreatestUpTo (items_of es) place (get_or es place d).greatest_end
    → (k : ℕ) → place ≤ k → k < length es → EndIsGreatestUpTo (items_of es) k (get_or es k d).greatest_end
all_follow es place d follow here zero le lt = subst (λ (n : ℕ). EndIsGreatestUpTo (items_of es) n (get_or es n d).greatest_end) (let e : place ≡ 0 = omega (arith, le) in e) here
all_follow es place d follow here (suc k) le lt = by (cases_eq place (suc k)) (λ low. follow k low (let l : k + 1 < length es = omega (arith, lt) in l) (all_follow es place d follow here k low (omega (arith, lt))))
  where
    by : (place ≡ suc k) ⊎ (place ≢ suc k) → (place ≤ k → EndIsGreatestUpTo (items_of es) (k + 1) (get_or es (k + 1) d).greatest_end) → EndIsGreatestUpTo (items_of es) (suc k) (get_or es (suc k) d).greatest_end
    by (inl e) next = subst (λ (n : ℕ). EndIsGreatestUpTo (items_of es) n (get_or es n d).greatest_end) e here
    by (inr ne) next = subst (λ (n : ℕ). EndIsGreatestUpTo (items_of es) n (get_or es n d).greatest_end) (let e : k + 1 ≡ suc k = omega arith in e) (next (omega (arith, le, ne)))

-- what two items that conflict have in common
shared : (r x : RequestRange) → is_earlier_conflict_on_port r x ≡ true → (item_first x < item_end r) × (item_first r < item_end x)
shared r x is =
    let after = and_parts (x.port.0 == r.port.0) (nat_lt x.id.0 r.id.0 && ((x.changes_sectors || r.changes_sectors) && are_overlapping x.range r.range)) is in
    let both = and_parts (x.changes_sectors || r.changes_sectors) (are_overlapping x.range r.range) (and_parts (nat_lt x.id.0 r.id.0) ((x.changes_sectors || r.changes_sectors) && are_overlapping x.range r.range) after.1).1 in
    let meet = and_parts (nat_lt (item_first x) (item_end r) && nat_lt (item_first r) (item_end x)) (nat_lt 0 x.range.count && nat_lt 0 r.range.count) both.1 in
    let sides = and_parts (nat_lt (item_first x) (item_end r)) (nat_lt (item_first r) (item_end x)) meet.0 in
    (ltb-true (item_first x) (item_end r) sides.0, ltb-true (item_first r) (item_end x) sides.1)

-- one that begins where r ends, or later, doesn't conflict with it
pub begins_late : (r x : RequestRange) → (StandsBefore x (item_end r) 0 → ⊥) → is_earlier_conflict_on_port r x ≡ false
begins_late r x not = false_from_ne_true (is_earlier_conflict_on_port r x) (λ is. not (inl (shared r x is).0))

-- one that ends where r begins, or earlier, doesn't conflict with it
pub ends_early : (r x : RequestRange) (greatest_end : ℕ) → item_end x ≤ greatest_end → greatest_end ≤ item_first r → is_earlier_conflict_on_port r x ≡ false
ends_early r x greatest_end h g = false_from_ne_true (is_earlier_conflict_on_port r x) (λ is. let s = (shared r x is).1 in omega (arith, s, h, g))

-- nor do all up to a place whose greatest end is there
pub none_conflicts : (r : RequestRange) (items : List RequestRange) (past greatest_end : ℕ) → EndIsGreatestUpTo items past greatest_end → greatest_end ≤ item_first r
    → ((k : ℕ) (d : RequestRange) → past < k → k < length items → is_earlier_conflict_on_port r (get_or items k d) ≡ false) → list_any (is_earlier_conflict_on_port r) items ≡ false
none_conflicts r items past greatest_end so early behind = list_any_none (is_earlier_conflict_on_port r) items (λ k d lt. elim (cases_lt past k) [
  | inl more ↦ behind k d more lt
  | inr up ↦ ends_early r (get_or items k d) greatest_end (so.bounds_all_ends k d up) early
])

pub none_left : (r : RequestRange) (items : List RequestRange) → ((k : ℕ) (d : RequestRange) → 0 ≤ k → k < length items → is_earlier_conflict_on_port r (get_or items k d) ≡ false) → list_any (is_earlier_conflict_on_port r) items ≡ false
none_left r items none = list_any_none (is_earlier_conflict_on_port r) items (λ k d lt. none k d (omega arith) lt)
