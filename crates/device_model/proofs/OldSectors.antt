-- What is found among old sectors whose numbers rise, and what one more of them changes.
use Rattle.std.proofs.Common.{true, ◌≡◌, ◌≢◌, ℕ, zero, suc, ◌+◌, ◌-◌, ◌<◌, ◌≤◌, List, [], ◌∷◌, length, Some, None, Result, Ok, Err, IfOk, IfErr, sym, ap, subst, refl, arith}
use Rattle.std.specs.Prelude.{is_some, slice_index_or}
use Rattle.std.specs.List.{insert}
use Rattle.std.specs.List.Sorted.{IsSearchInRange, IsBinarySearchResult, IsNonDecreasingBy}
use Rattle.std.specs.Ordering.{nat_cmp, ordering_index}
use Rattle.std.proofs.lemmas.Cmp.{ranked}
use Rattle.std.proofs.lemmas.List.Sorted.{IsNonDecreasingBy-from_default}
use Rattle.std.proofs.lemmas.List.Edits.{length-insert, get_or-insert_below, get_or-insert_at, get_or-insert_above}
use Rattle.std.proofs.lemmas.Bool.Decides.{nat_tests}
use Rattle.device_model.specs.OldSectors.{AreRising, IsGapFor, IsOldAt, SetsOldBytesOfSector, no_old_sector, old_number_at, old_bytes_of}
use Rattle.device_model.specs.declared.old_sectors.OldSector.{OldSector}

-- none before this place has this number
abbrev pub NoneBefore : List OldSector → ℕ → ℕ → Type 0
NoneBefore olds sector place = (k : ℕ) → k < place → old_number_at olds k ≢ sector

none_after_first : (o : OldSector) (olds : List OldSector) (sector place : ℕ) → NoneBefore (o ∷ olds) sector (suc place) → NoneBefore olds sector place
none_after_first o olds sector place none k lt = none (suc k) (omega arith)

at_after_first : (o : OldSector) (olds : List OldSector) (sector place : ℕ) → IsOldAt (o ∷ olds) sector (suc place) → IsOldAt olds sector place
at_after_first o olds sector place is = record { is_inside = omega (arith, is.is_inside); number = is.number }

-- one that isn't there has no old bytes
absent_none : (olds : List OldSector) (sector : ℕ) → NoneBefore olds sector (length olds) → old_bytes_of olds sector ≡ None
absent_none [] sector none = refl
absent_none (o ∷ olds) sector none = grind (arith, nat_tests, none 0 (omega arith), absent_none olds sector (none_after_first o olds sector _ none))

-- the first one with this number gives its bytes
present_some : (olds : List OldSector) (sector place : ℕ) → IsOldAt olds sector place → NoneBefore olds sector place →
    old_bytes_of olds sector ≡ Some (slice_index_or olds place no_old_sector).bytes
present_some [] sector place is none = absurd (omega (arith, is.is_inside))
present_some (o ∷ olds) sector zero is none = grind (arith, nat_tests, is.number)
present_some (o ∷ olds) sector (suc place) is none =
    grind (arith, nat_tests, none 0 (omega arith), present_some olds sector place (at_after_first o olds sector place is) (none_after_first o olds sector place none))

-- a new one before any with its number gives its bytes
insert_keeps : (olds : List OldSector) (new : OldSector) (place : ℕ) → NoneBefore olds new.sector place → SetsOldBytesOfSector olds (insert olds place new) new.sector new.bytes
insert_keeps olds new zero none k = refl
insert_keeps [] new (suc place) none k = refl
insert_keeps (o ∷ olds) new (suc place) none k =
    grind (arith, nat_tests, none 0 (omega arith), insert_keeps olds new place (none_after_first o olds new.sector place none) k)

module _ (olds : List OldSector) (rising : AreRising olds) where
  -- each stands there once
  pub once : (place : ℕ) → place < length olds → old_bytes_of olds (old_number_at olds place) ≡ Some (slice_index_or olds place no_old_sector).bytes
  once place inside =
      present_some olds (old_number_at olds place) place (record { is_inside = inside; number = refl })
      (λ k lt same. let up = rising k place lt inside in omega (arith, up, same))

  module _ (sector : ℕ) where
    -- the comparisons rise along the list, as a binary search asks
    comparisons_rise : IsNonDecreasingBy (λ (o : OldSector). ordering_index (nat_cmp o.sector sector)) olds
    comparisons_rise = IsNonDecreasingBy-from_default (λ (o : OldSector). ordering_index (nat_cmp o.sector sector)) olds no_old_sector (λ i j le inside.
        let up : old_number_at olds i ≤ old_number_at olds j = grind (arith, rising i j, λ (same : i ≡ j). ap (old_number_at olds) same) in
        grind (arith, nat_tests))

    -- a binary search ends at the sector, or at the gap for it
    pub searched : (r : Result ℕ ℕ) → IsSearchInRange r (length olds) → IsBinarySearchResult (λ (o : OldSector). nat_cmp o.sector sector) olds r →
        record { found : IfOk r (IsOldAt olds sector); absent : IfErr r (IsGapFor olds sector) }
    searched (Ok at) inside equal = record { found = record { is_inside = inside; number = ranked _ sector _ (sym (equal no_old_sector)) }; absent = tt }
    searched (Err at) inside parted = record {
      found = tt;
      absent = record {
        is_inside = inside;
        lower = λ k lt. ranked _ sector _ (sym ((parted comparisons_rise).0 k no_old_sector (omega arith) lt));
        higher = λ k le lt. ranked _ sector _ (sym ((parted comparisons_rise).1 k no_old_sector le lt));
      };
    }

    pub found_some : (place : ℕ) → IsOldAt olds sector place → is_some (old_bytes_of olds sector) ≡ true
    found_some place is =
        ap is_some (present_some olds sector place is (λ k lt same. let up = rising k place lt is.is_inside in let at = is.number in omega (arith, up, at, same)))

module _ (olds : List OldSector) (sector place : ℕ) (gap : IsGapFor olds sector place) where
  pub gap_none : old_bytes_of olds sector ≡ None
  gap_none = absent_none olds sector (λ k lt same. grind (arith, gap.lower k, gap.higher k))

  module _ (bytes : List ℕ) where
    abbrev new : OldSector
    new = record { sector = sector; bytes = bytes }

    pub gap_keeps : SetsOldBytesOfSector olds (insert olds place new) sector bytes
    gap_keeps = insert_keeps olds new place (λ k lt same. let low = gap.lower k lt in omega (arith, low, same))

    -- each number is one below the gap, or the new one, or one moved up by a place
    pub still_rising : AreRising olds → AreRising (insert olds place new)
    still_rising rising i j lt inside =
        let now = insert olds place new in
        let number : OldSector → ℕ = λ (o : OldSector). o.sector in
        let long = length-insert olds place new gap.is_inside in
        let below : (i : ℕ) → i < place → old_number_at now i ≡ old_number_at olds i = λ i below. ap number (get_or-insert_below olds place new no_old_sector i below gap.is_inside) in
        let here : (i : ℕ) → i ≡ place → old_number_at now i ≡ sector = λ i here. rw here (ap number (get_or-insert_at olds place new no_old_sector gap.is_inside)) in
        let above : (i : ℕ) → place < i → old_number_at now i ≡ old_number_at olds (i - 1) = λ i above.
        subst (λ q. old_number_at now q ≡ old_number_at olds (i - 1)) {x = i - 1 + 1} (omega arith) (ap number (get_or-insert_above olds place new no_old_sector (i - 1) (omega arith) gap.is_inside)) in
        grind (arith, below i, here i, above i, below j, here j, above j, rising i j, rising i (j - 1), rising (i - 1) (j - 1), gap.lower i, gap.higher (j - 1))
