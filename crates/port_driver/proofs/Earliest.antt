-- The place with the least id, of those that were seen so far.
use Rattle.std.proofs.Common.{ℕ, Bool, true, false, not, ◌⊎◌, inl, inr, ◌≡◌, ◌≢◌, ◌+◌, ◌-◌, ◌%◌, ◌/◌, ◌^◌, ◌<◌, ◌≤◌, List, Option, Some, None, get_or, refl, sym, ap, ◌∙◌, subst, ⊎_elim, arith}
use Rattle.std.specs.Int.{bit_at, trailing_zeros, w32}
use Rattle.std.specs.Option.{is_some}
use Rattle.std.specs.Prelude.{IfNone, IfSome}
use Rattle.std.proofs.lemmas.Bool.{cases_eq, cases_lt, true≢false}
use Rattle.std.proofs.Math.Nat.{div-le_self, div-lt_iff_lt-mul}
use Rattle.std.proofs.lemmas.Nat.{pow_pos, shr-shr}
use Rattle.std.proofs.lemmas.Nat.Bits.{bit_at-trailing_zeros, bit_at_above}
use Rattle.port_driver.specs.SlotTables.{HasLeastIdIn}
use Rattle.ata_types.specs.declared.request.RequestId.{RequestId}

-- no place below this one is used and has its bit set
abbrev pub NoneBelow : List (Option RequestId) → ℕ → ℕ → Type 0
NoneBelow places mask below = (place : ℕ) → place < below → bit_at mask place ≡ 1 → get_or places place None ≡ None

-- this place is used, for this id, and has its bit set, and no other one below has an earlier id
pub record IsLeastBelow (places : List (Option RequestId)) (mask below place id : ℕ) : Type 0 where
  pub here : place < below
  pub marked : bit_at mask place ≡ 1
  pub used : RequestId
  pub taken : get_or places place None ≡ Some used
  pub id_is : used.0 ≡ id
  pub least : (other : ℕ) (its : RequestId) → other < below → bit_at mask other ≡ 1 → get_or places other None ≡ Some its → id ≤ its.0

-- what was found below a place
abbrev pub ProbeResult : List (Option RequestId) → ℕ → ℕ → Option ℕ → ℕ → Type 0
ProbeResult places mask below None least = NoneBelow places mask below
ProbeResult places mask below (Some place) least = IsLeastBelow places mask below place least

-- the id isn't earlier than what was found: nothing was found that it would be earlier than, or the least id is as early
abbrev pub IsNoEarlier : Option ℕ → ℕ → ℕ → Type 0
IsNoEarlier None least id = ⊥
IsNoEarlier (Some place) least id = least ≤ id

-- the id that a place is used for
abbrev id_in : Option RequestId → ℕ
id_in None = 0
id_in (Some used) = used.0

pub same_id : (place : Option RequestId) (a b : RequestId) → place ≡ Some a → place ≡ Some b → a.0 ≡ b.0
same_id place a b is_a is_b = ap id_in (sym is_a ∙ is_b)

-- it is earlier where nothing was found, or where it is less than what was found
pub earlier : (found : Option ℕ) (none : Bool) (id least : ℕ) → is_some found ≡ not none → (none ≡ true) ⊎ ((none ≡ false) × (id < least))
    → (place : ℕ) → found ≡ Some place → id < least
earlier found none id least is (inr less) place some = less.1
earlier found none id least is (inl empty) place some = absurd (true≢false (sym (ap is_some some) ∙ is ∙ ap not empty))

-- and else it isn't
pub no_earlier : (found : Option ℕ) (none : Bool) (id least : ℕ) → is_some found ≡ not none → none ≡ false → least ≤ id → IsNoEarlier found least id
no_earlier None none id least is some more = absurd (true≢false (sym (is ∙ ap not some)))
no_earlier (Some place) none id least is some more = more

module _ (places : List (Option RequestId)) (mask at : ℕ) where
  -- what is so of the place, and of those below it
  one_more : (P : ℕ → Type 0) → P at → (place : ℕ) → place < at + 1 → (place < at → P place) → P place
  one_more P here place lt below = ⊎_elim
      (λ (same : place ≡ at). subst P (sym same) here)
      (λ (other : place ≢ at). below (omega (arith, lt, other)))
      (cases_eq place at)

  -- A place that isn't used, or has no bit set, or has no earlier id, changes nothing.
  pub passed : (found : Option ℕ) (least : ℕ) → ProbeResult places mask at found least
      → ((used : RequestId) → bit_at mask at ≡ 1 → get_or places at None ≡ Some used → IsNoEarlier found least used.0) → ProbeResult places mask (at + 1) found least
  passed None least none blocks = λ place lt. one_more (λ k. bit_at mask k ≡ 1 → get_or places k None ≡ None) (λ marked. by (get_or places at None) refl marked) place lt (none place)
    where
      by : (u : Option RequestId) → get_or places at None ≡ u → bit_at mask at ≡ 1 → get_or places at None ≡ None
      by None is marked = is
      by (Some used) is marked = absurd (blocks used marked is)
  passed (Some place) least so_far blocks = record {
    here = let h = so_far.here in omega (arith, h);
    marked = so_far.marked;
    used = so_far.used;
    taken = so_far.taken;
    id_is = so_far.id_is;
    least = λ other its lt. one_more (λ k. bit_at mask k ≡ 1 → get_or places k None ≡ Some its → least ≤ its.0) (λ marked is. blocks its marked is) other lt (so_far.least other its);
  }

  -- A place with an earlier id is the one with the least, from then on.
  pub taken : (found : Option ℕ) (least : ℕ) → ProbeResult places mask at found least → (used : RequestId) → bit_at mask at ≡ 1 → get_or places at None ≡ Some used
      → ((place : ℕ) → found ≡ Some place → used.0 < least) → ProbeResult places mask (at + 1) (Some at) used.0
  taken found least so_far used marked is earlier = record {
    here = omega arith;
    marked = marked;
    used = used;
    taken = is;
    id_is = refl;
    least = λ other its lt. one_more (λ k. bit_at mask k ≡ 1 → get_or places k None ≡ Some its → used.0 ≤ its.0) (λ m its_is. own its its_is) other lt (others found so_far earlier other its);
  }
    where
      own : (its : RequestId) → get_or places at None ≡ Some its → used.0 ≤ its.0
      own its its_is = let e = same_id _ used its is its_is in omega (arith, e)

      others : (found : Option ℕ) → ProbeResult places mask at found least → ((place : ℕ) → found ≡ Some place → used.0 < least) → (other : ℕ) (its : RequestId) → other < at → bit_at mask other ≡ 1
          → get_or places other None ≡ Some its → used.0 ≤ its.0
      others None none e other its lt m its_is = absurd (differ (sym (none other lt m) ∙ its_is))
        where
          differ : None ≡ Some its → ⊥
          differ same = cc
      others (Some place) so_far e other its lt m its_is = let low = so_far.least other its lt m its_is in let early = e place refl in omega (arith, low, early)

  -- Where no later place has its bit set, what was found is all.
  module _ (small : at ≤ 32) (above : (k : ℕ) → at ≤ k → k < 32 → bit_at mask k ≡ 1 → ⊥) where
    pub all_found : (found : Option ℕ) (least : ℕ) → ProbeResult places mask at found least → IfSome found (λ place. HasLeastIdIn places mask place)
    all_found None least none = tt
    all_found (Some place) least so_far = record {
      slot_in_range = let h = so_far.here in omega (arith, h, small);
      mask_has_slot = so_far.marked;
      id = so_far.used;
      id_is = so_far.taken;
      least = λ other its lt m its_is. ⊎_elim
          (λ (low : other < at). let l = so_far.least other its low m its_is in let i = so_far.id_is in omega (arith, l, i))
          (λ (high : at ≤ other). absurd (above other high lt m))
          (cases_lt other at);
    }

    pub none_found : (found : Option ℕ) (least : ℕ) → ProbeResult places mask at found least → IfNone found ((place : ℕ) → place < 32 → bit_at mask place ≡ 1 → get_or places place None ≡ None)
    none_found (Some place) least so_far = tt
    none_found None least none = λ place lt m. ⊎_elim
        (λ (low : place < at). none place low m)
        (λ (high : at ≤ place). absurd (above place high lt m))
        (cases_lt place at)

-- a number that is 0 once it is shifted by a place has no bit set from there on
pub none_above : (mask at : ℕ) → mask / 2 ^ at ≡ 0 → (k : ℕ) → at ≤ k → k < 32 → bit_at mask k ≡ 1 → ⊥
none_above mask at none k above small marked =
    let one : mask / 2 ^ at < 1 = omega (arith, none) in
    let low = (div-lt_iff_lt-mul {k = 2 ^ at} {x = mask} {y = 1} (pow_pos at)).0 one in
    let zero = bit_at_above mask at k (omega (arith, low)) above in omega (arith, zero, marked)

-- ---- from bit to bit

-- the first place from one on that has its bit set
pub record IsNext (mask from place : ℕ) : Type 0 where
  pub behind : from ≤ place
  pub small : place < 32
  pub marked : bit_at mask place ≡ 1
  pub none : (k : ℕ) → from ≤ k → k < place → bit_at mask k ≡ 0

-- what is left of a mask from a place on tells it
pub next : (mask from : ℕ) → mask < 2 ^ 32 → (mask / 2 ^ from ≢ 0) → IsNext mask from (from + trailing_zeros w32 (mask / 2 ^ from))
next mask from fits some = record {
  behind = omega arith;
  small = ⊎_elim
      (λ (low : from + zeros < 32). low)
      (λ (high : 32 ≤ from + zeros). let one = shifted zeros in let its = lowest.1 in let none = bit_at_above mask 32 (from + zeros) fits high in absurd (omega (arith, one, its, none)))
      (cases_lt (from + zeros) 32);
  marked = sym (shifted zeros) ∙ lowest.1;
  none = λ k low lt.
      let is : k ≡ from + (k - from) = omega (arith, low) in
      ap (bit_at mask) is ∙ (sym (shifted (k - from)) ∙ lowest.2 (k - from) (omega (arith, low, lt)));
}
  where
    left : ℕ
    left = mask / 2 ^ from

    zeros : ℕ
    zeros = trailing_zeros w32 left

    shifted : (k : ℕ) → bit_at left k ≡ bit_at mask (from + k)
    shifted k = ap (λ (n : ℕ). n % 2) (shr-shr mask from k)

    fewer : left ≤ mask
    fewer = div-le_self mask (2 ^ from)

    lowest : (zeros < 32) × (bit_at left zeros ≡ 1) × ((i : ℕ) → i < zeros → bit_at left i ≡ 0)
    lowest = bit_at-trailing_zeros w32 left (omega (arith, some)) (let f = fewer in omega (arith, f, fits))

-- no place in between has its bit set, so that what was found is found up to there
pub skipped : (places : List (Option RequestId)) (mask from place : ℕ) → IsNext mask from place → (found : Option ℕ) (least : ℕ) → ProbeResult places mask from found least → ProbeResult places mask place found least
skipped places mask from place is None least none = λ k lt marked. ⊎_elim
    (λ (low : k < from). none k low marked)
    (λ (high : from ≤ k). let zero = is.none k high lt in absurd (omega (arith, zero, marked)))
    (cases_lt k from)
skipped places mask from place is (Some at) least so_far = record {
  here = let h = so_far.here in let b = is.behind in omega (arith, h, b);
  marked = so_far.marked;
  used = so_far.used;
  taken = so_far.taken;
  id_is = so_far.id_is;
  least = λ other its lt marked its_is. ⊎_elim
      (λ (low : other < from). so_far.least other its low marked its_is)
      (λ (high : from ≤ other). let zero = is.none other high lt in absurd (omega (arith, zero, marked)))
      (cases_lt other from);
}
