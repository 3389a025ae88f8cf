-- The order of items, and a search in it by halves.
use Rattle.std.proofs.Common.{◌≡◌, ◌≢◌, ℕ, ◌+◌, ◌-◌, ◌<◌, ◌≤◌, inl, inr, List, length, get_or, false, sym, ap, ◌∙◌, subst, arith}
use Rattle.std.specs.List.{All, insert}
use Rattle.std.proofs.lemmas.Bool.{cases_eq, cases_lt}
use Rattle.std.proofs.lemmas.List.{get_or-map, length-map}
use Rattle.std.proofs.lemmas.List.Edits.{length-insert, get_or-insert_below, get_or-insert_at, get_or-insert_above}
use Rattle.request_queue.specs.declared.ranges.RequestRange.{RequestRange}
use Rattle.request_queue.specs.declared.ranges.IndexEntry.{IndexEntry}
use Rattle.request_queue.specs.BookRanges.{AreSorted, StandsBefore, item_first}
use Rattle.request_queue.specs.RangeIndex.{items_of}

pub item_at : (es : List IndexEntry) (k : ℕ) (d : IndexEntry) (e : RequestRange) → k < length es → get_or (items_of es) k e ≡ (get_or es k d).item
item_at es k d e lt = get_or-map (λ (x : IndexEntry). x.item) es k d e lt

pub as_many : (es : List IndexEntry) → length (items_of es) ≡ length es
as_many es = length-map es (λ (x : IndexEntry). x.item)

before_both : (a b : RequestRange) (first id : ℕ) → StandsBefore a (item_first b) b.id.0 → StandsBefore b first id → StandsBefore a first id
before_both a b first id (inl p) (inl q) = inl (omega (arith, p, q))
before_both a b first id (inl p) (inr q) = inl (let e = q.0 in omega (arith, p, e))
before_both a b first id (inr p) (inl q) = inl (let e = p.0 in omega (arith, e, q))
before_both a b first id (inr p) (inr q) = inr (p.0 ∙ q.0, let x = p.1 in let y = q.1 in omega (arith, x, y))

module _ (items : List RequestRange) (sorted : AreSorted items) (m first id : ℕ) (within : m < length items) where
  pub low_more : ((d : RequestRange) → StandsBefore (get_or items m d) first id) → (k : ℕ) (d : RequestRange) → k < m + 1 → StandsBefore (get_or items k d) first id
  low_more here k d lt = elim (cases_eq k m) [
    | inl e ↦ subst (λ (i : ℕ). StandsBefore (get_or items i d) first id) (sym e) (here d)
    | inr not ↦ before_both (get_or items k d) (get_or items m d) first id (sorted k m d (omega arith) within) (here d)
  ]

  pub high_more : ((d : RequestRange) → StandsBefore (get_or items m d) first id → ⊥) → (k : ℕ) (d : RequestRange) → m ≤ k → k < length items → StandsBefore (get_or items k d) first id → ⊥
  high_more here k d ge lt is = elim (cases_eq k m) [
    | inl e ↦ here d (subst (λ (i : ℕ). StandsBefore (get_or items i d) first id) e is)
    | inr not ↦ here d (before_both (get_or items m d) (get_or items k d) first id (sorted m k d (omega arith) lt) is)
  ]

-- ---- one more in its place

later : (x y : RequestRange) → (x.id ≡ y.id → ⊥) → (StandsBefore x (item_first y) y.id.0 → ⊥) → StandsBefore y (item_first x) x.id.0
later x y other not = elim (cases_lt (item_first x) (item_first y)) [
  | inl less ↦ absurd (not (inl less))
  | inr more ↦ elim (cases_eq (item_first x) (item_first y)) [
    | inl same ↦ elim (cases_lt x.id.0 y.id.0) [
      | inl less ↦ absurd (not (inr (same, less)))
      | inr ge ↦ elim (cases_eq x.id.0 y.id.0) [
        | inl e ↦ absurd (other (ap (λ (n : ℕ). record { 0 = n }) e))
        | inr ne ↦ inr (sym same, omega arith)
      ]
    ]
    | inr ne ↦ inl (omega arith)
  ]
]

pub sorted_insert : (items : List RequestRange) (place : ℕ) (x : RequestRange) → AreSorted items → place ≤ length items
    → ((k : ℕ) (d : RequestRange) → k < place → StandsBefore (get_or items k d) (item_first x) x.id.0)
    → ((k : ℕ) (d : RequestRange) → place ≤ k → k < length items → StandsBefore (get_or items k d) (item_first x) x.id.0 → ⊥)
    → All (λ (y : RequestRange). y.id ≢ x.id) items → AreSorted (insert items place x)
sorted_insert items place x sorted within before behind fresh i j d less lt = elim (cases_lt i place) [
  | inl i_low ↦ elim (cases_lt j place) [
    | inl j_low ↦ put i j (low i i_low) (low j j_low) (sorted i j d less (omega arith))
    | inr j_high ↦ elim (cases_eq j place) [
      | inl e ↦ put i j (low i i_low) (at j e) (before i d i_low)
      | inr ne ↦ put i j (low i i_low) (high j (omega arith)) (sorted i (j - 1) d (omega arith) (in_old j lt (omega arith)))
    ]
  ]
  | inr i_high ↦ elim (cases_eq i place) [
    | inl e ↦ put i j (at i e) (high j (omega arith))
        (later (get_or items (j - 1) d) x (fresh (j - 1) d (in_old j lt (omega arith))) (behind (j - 1) d (omega arith) (in_old j lt (omega arith))))
    | inr ne ↦ put i j (high i (omega arith)) (high j (omega arith)) (sorted (i - 1) (j - 1) d (omega arith) (in_old j lt (omega arith)))
  ]
]
  where
    in_old : (k : ℕ) → k < length (insert items place x) → 0 < k → k - 1 < length items
    in_old k h some = let n = length-insert items place x within in omega (arith, n, h, some)

    low : (k : ℕ) → k < place → get_or (insert items place x) k d ≡ get_or items k d
    low k h = get_or-insert_below items place x d k h within

    at : (k : ℕ) → k ≡ place → get_or (insert items place x) k d ≡ x
    at k e = ap (λ (n : ℕ). get_or (insert items place x) n d) e ∙ get_or-insert_at items place x d within

    high : (k : ℕ) → place < k → get_or (insert items place x) k d ≡ get_or items (k - 1) d
    high k h =
        let e : k ≡ k - 1 + 1 = omega arith in
        ap (λ (n : ℕ). get_or (insert items place x) n d) e ∙ get_or-insert_above items place x d (k - 1) (omega arith) within

    put : {a b : RequestRange} (p q : ℕ) → get_or (insert items place x) p d ≡ a → get_or (insert items place x) q d ≡ b → StandsBefore a (item_first b) b.id.0
        → StandsBefore (get_or (insert items place x) p d) (item_first (get_or (insert items place x) q d)) (get_or (insert items place x) q d).id.0
    put p q ea eb h = rw (ea, eb) h

pub itself : (x : RequestRange) → StandsBefore x (item_first x) x.id.0 → ⊥
itself x (inl less) = omega (arith, less)
itself x (inr less) = let h = less.1 in omega (arith, h)

-- an entry of no request, for places that there are not
abbrev pub blank : IndexEntry
blank = record { item = record { id = record { 0 = 0 }; port = record { 0 = 0 }; range = record { first = record { 0 = 0 }; count = 0 }; changes_sectors = false }; greatest_end = 0 }
