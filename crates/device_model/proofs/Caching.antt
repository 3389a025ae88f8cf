-- What is lasting stays so, as a sector is written whose old bytes are kept, and as old bytes are written back.
use Rattle.std.proofs.Common.{ℕ, Bool, true, false, zero, suc, ◌≡◌, ◌≢◌, ◌<◌, ◌≤◌, ◌+◌, ◌∙◌, ◌⊎◌, take, List, [], ◌∷◌, ◌++◌, length, Option, None, Some, refl, sym, ap, subst, inl, inr, arith}
use Rattle.std.specs.Prelude.{Contains, IfSome, if◌then◌else◌, is_some, nat_eq, option_map, slice_index_or, unwrap_or}
use Rattle.std.proofs.lemmas.Bool.{cases_order}
use Rattle.std.proofs.lemmas.Bool.Decides.{eqb_tells}
use Rattle.std.proofs.lemmas.Option.{same_Some}
use Rattle.sector_store.specs.Stores.{HasRecordAndNotesOneMoreFailure, with_sector}
use Rattle.sector_store.specs.declared.store.Failures.{Failures}
use Rattle.device_model.proofs.Absurd.{fun_ext, some-none}
use Rattle.device_model.specs.WriteCaches.{HasRoomForOldSectors, RollsBack, WritesFail, sector_told}
use Rattle.device_model.specs.declared.cache.Cache.{Cache}
use Rattle.device_model.specs.OldSectors.{AreRising, SetsOldBytesOfSector, old_number_at, old_bytes_of, with_old_bytes}
use Rattle.device_model.specs.declared.old_sectors.OldSector.{OldSector}

below_or : (a b : ℕ) → (a < b) ⊎ (b ≤ a)
below_or a b = elim (cases_order a b) [ inl same ↦ inr (omega (arith, same)) | inr other ↦ elim other [ inl lt ↦ inl lt | inr gt ↦ inr (omega (arith, gt)) ] ]

same_one : (k : ℕ) → nat_eq k k ≡ true
same_one k = elim (eqb_tells k k) [ inl same ↦ same.0 | inr other ↦ absurd (other.1 refl) ]

apart : (k q : ℕ) → k ≢ q → nat_eq k q ≡ false
apart k q ne = elim (eqb_tells k q) [ inl same ↦ absurd (ne same.1) | inr other ↦ other.0 ]

module _ (olds now : List OldSector) (k : ℕ) (bytes : List ℕ) (f : ℕ → List ℕ) (none : old_bytes_of olds k ≡ None) (keeps : SetsOldBytesOfSector olds now k bytes) (is : bytes ≡ f k) where
  kept_here : (g : ℕ → List ℕ) → with_old_bytes now g k ≡ with_old_bytes olds f k
  kept_here g =
      ap (λ (x : Option (List ℕ)). unwrap_or x (g k)) (keeps k)
      ∙ (ap (λ b. unwrap_or (if b then Some bytes else old_bytes_of olds k) (g k)) (same_one k)
      ∙ (is ∙ ap (λ (x : Option (List ℕ)). unwrap_or x (f k)) (sym none)))

  kept_there : (g : ℕ → List ℕ) (q : ℕ) → q ≢ k → g q ≡ f q → with_old_bytes now g q ≡ with_old_bytes olds f q
  kept_there g q ne same =
      ap (λ (x : Option (List ℕ)). unwrap_or x (g q)) (keeps q)
      ∙ (ap (λ b. unwrap_or (if b then Some bytes else old_bytes_of olds q) (g q)) (apart k q (λ e. ne (sym e)))
      ∙ ap (λ (x : List ℕ). unwrap_or (old_bytes_of olds q) x) same)

  kept_with : (g : ℕ → List ℕ) → ((q : ℕ) → q ≢ k → g q ≡ f q) → with_old_bytes now g ≡ with_old_bytes olds f
  kept_with g same =
      fun_ext (λ q.
      elim (eqb_tells q k) [
        | inl here ↦ subst (λ n. with_old_bytes now g n ≡ with_old_bytes olds f n) (sym here.1) (kept_here g)
        | inr there ↦ kept_there g q there.1 (same q there.1)
      ])

written_other : (f : ℕ → List ℕ) (k q : ℕ) (bytes : List ℕ) → q ≢ k → with_sector f k bytes q ≡ f q
written_other f k q bytes ne = ap (λ b. if b then bytes else f q) (apart q k ne)

pub written_here : (f : ℕ → List ℕ) (k : ℕ) (bytes : List ℕ) → with_sector f k bytes k ≡ bytes
written_here f k bytes = ap (λ b. if b then bytes else f k) (same_one k)

-- the old bytes of a sector were kept
pub kept_lasts : (olds now : List OldSector) (k : ℕ) (bytes : List ℕ) (told : Option (ℕ → List ℕ)) → old_bytes_of olds k ≡ None → SetsOldBytesOfSector olds now k bytes →
    IfSome told (λ f. bytes ≡ f k) → option_map (with_old_bytes now) told ≡ option_map (with_old_bytes olds) told
kept_lasts olds now k bytes None none keeps is = refl
kept_lasts olds now k bytes (Some f) none keeps is = ap Some (kept_with olds now k bytes f none keeps is f (λ _ _. refl))

-- and then it was written
pub kept_written : (olds now : List OldSector) (k : ℕ) (bytes : List ℕ) (told : Option (ℕ → List ℕ)) → old_bytes_of olds k ≡ None → SetsOldBytesOfSector olds now k bytes →
    IfSome told (λ f. bytes ≡ f k) → (put : List ℕ) → option_map (with_old_bytes now) (option_map (λ f. with_sector f k put) told) ≡ option_map (with_old_bytes olds) told
kept_written olds now k bytes None none keeps is put = refl
kept_written olds now k bytes (Some f) none keeps is put = ap Some (kept_with olds now k bytes f none keeps is (with_sector f k put) (λ q ne. written_other f k q put ne))

-- a sector was written that has old bytes
had_written : (olds : List OldSector) (k : ℕ) (f : ℕ → List ℕ) (put : List ℕ) → is_some (old_bytes_of olds k) ≡ true → with_old_bytes olds (with_sector f k put) ≡ with_old_bytes olds f
had_written olds k f put has =
    fun_ext (λ q.
    elim (eqb_tells q k) [
      | inl here ↦ subst (λ n. with_old_bytes olds (with_sector f k put) n ≡ with_old_bytes olds f n) (sym here.1) (by (old_bytes_of olds k) has)
      | inr there ↦ ap (λ (x : List ℕ). unwrap_or (old_bytes_of olds q) x) (written_other f k q put there.1)
    ])
  where
    by : (x : Option (List ℕ)) → is_some x ≡ true → unwrap_or x (with_sector f k put k) ≡ unwrap_or x (f k)
    by None e = absurd (let never : false ≡ true = e in cc)
    by (Some b) e = refl

pub had_lasts : (olds : List OldSector) (k : ℕ) (told : Option (ℕ → List ℕ)) → is_some (old_bytes_of olds k) ≡ true → (put : List ℕ) →
    option_map (with_old_bytes olds) (option_map (λ f. with_sector f k put) told) ≡ option_map (with_old_bytes olds) told
had_lasts olds k None has put = refl
had_lasts olds k (Some f) has put = ap Some (had_written olds k f put has)

-- whether the sector was written then or not
pub put_lasts : (olds now : List OldSector) (k : ℕ) (put : List ℕ) (told then_told : Option (ℕ → List ℕ)) → option_map (with_old_bytes now) told ≡ option_map (with_old_bytes olds) told →
    option_map (with_old_bytes now) (option_map (λ f. with_sector f k put) told) ≡ option_map (with_old_bytes olds) told → (done : Bool) →
    (done ≡ true → then_told ≡ option_map (λ f. with_sector f k put) told) → (done ≡ false → then_told ≡ told) →
    option_map (with_old_bytes now) then_told ≡ option_map (with_old_bytes olds) told
put_lasts olds now k put told then_told lasts written true puts held = ap (option_map (with_old_bytes now)) (puts refl) ∙ written
put_lasts olds now k put told then_told lasts written false puts held = ap (option_map (with_old_bytes now)) (held refl) ∙ lasts

-- ---- old bytes are written back

-- A store was told to write an old sector back. It did, or that call failed; or there is no such sector.
abbrev pub WritesOne : {S : Type 0} → (S → ℕ) → (S → Option (ℕ → List ℕ)) → (S → Option Failures) → OldSector → S → S → Type 0
WritesOne size told failures old was now = (size now ≡ size was)
    × (((old.sector < size was) × (told now ≡ option_map (λ f. with_sector f old.sector old.bytes) (told was)) × (failures now ≡ failures was))
    ⊎ (((old.sector < size was) × (told now ≡ told was) × HasRecordAndNotesOneMoreFailure true old.sector (failures was) (failures now))
    ⊎ ((size was ≤ old.sector) × (told now ≡ told was) × (failures now ≡ failures was))))

-- these old sectors were written back one after another, in their order
abbrev pub WritesBack : {S : Type 0} → (S → ℕ) → (S → Option (ℕ → List ℕ)) → (S → Option Failures) → List OldSector → S → S → Type 0
WritesBack size told failures [] was now = now ≡ was
WritesBack {S} size told failures (old ∷ rest) was now = (mid : S) × WritesOne size told failures old was mid × WritesBack size told failures rest mid now

-- one more of them
pub writes_more : {S : Type 0} (size : S → ℕ) (told : S → Option (ℕ → List ℕ)) (failures : S → Option Failures) (olds : List OldSector) (old : OldSector) (was mid now : S) →
    WritesBack size told failures olds was mid → WritesOne size told failures old mid now → WritesBack size told failures (olds ++ old ∷ []) was now
writes_more size told failures [] old was mid now same one = (now, subst (λ x. WritesOne size told failures old x now) same one, refl)
writes_more size told failures (o ∷ olds) old was mid now back one = (back.0, back.1, writes_more size told failures olds old back.0 mid now back.2 one)

-- ---- what rises, after its first

rest_rises : (o : OldSector) (olds : List OldSector) → AreRising (o ∷ olds) → AreRising olds
rest_rises o olds rising i j lt inside = rising (suc i) (suc j) (omega (arith, lt)) (omega (arith, inside))

-- all have this number at least
abbrev AreFrom : ℕ → List OldSector → Type 0
AreFrom low olds = (k : ℕ) → k < length olds → low ≤ old_number_at olds k

rest_higher : (o : OldSector) (olds : List OldSector) → AreRising (o ∷ olds) → AreFrom (o.sector + 1) olds
rest_higher o olds rising k inside = let up : o.sector < old_number_at olds k = rising 0 (suc k) (omega arith) (omega (arith, inside)) in omega (arith, up)

-- what is lower has no old bytes
lower_none : (olds : List OldSector) (low k : ℕ) → AreFrom low olds → k < low → old_bytes_of olds k ≡ None
lower_none [] low k from lt = refl
lower_none (o ∷ olds) low k from lt =
    let first : low ≤ o.sector = from 0 (omega arith) in
    let ne : o.sector ≢ k = λ same. omega (arith, first, lt, same) in
    ap (λ b. if b then Some o.bytes else old_bytes_of olds k) (apart o.sector k ne)
    ∙ lower_none olds low k (λ i inside. from (suc i) (omega (arith, inside))) lt

-- ---- what a list contains

none_there : (k : ℕ) → Contains [] k → ⊥
none_there k at = omega (arith, at.1)

more_there : (s k : ℕ) (l : List ℕ) → Contains l k → Contains (s ∷ l) k
more_there s k l (i, inside, is) = (suc i, omega (arith, inside), is)

first_there : (s : ℕ) (l : List ℕ) → Contains (s ∷ l) s
first_there s l = (0, omega arith, refl)

there_cases : (s k : ℕ) (l : List ℕ) → Contains (s ∷ l) k → (s ≡ k) ⊎ Contains l k
there_cases s k l (zero, inside, is) = inl is
there_cases s k l (suc i, inside, is) = inr (i, omega (arith, inside), is)

pub is_there : (l : List ℕ) (k : ℕ) → Contains l k ⊎ (Contains l k → ⊥)
is_there [] k = inr (none_there k)
is_there (s ∷ l) k =
    elim (eqb_tells s k) [
      | inl same ↦ inl (subst (λ n. Contains (s ∷ l) n) same.1 (first_there s l))
      | inr other ↦ elim (is_there l k) [
        | inl at ↦ inl (more_there s k l at)
        | inr never ↦ inr (λ at. elim (there_cases s k l at) [ inl is ↦ other.1 is | inr rest ↦ never rest ])
      ]
    ]

-- ---- a sector after them all

-- the same sector of a store that has replaced another one
told_other : (told : Option (ℕ → List ℕ)) (s k : ℕ) (bytes : List ℕ) → k ≢ s → sector_told (option_map (λ f. with_sector f s bytes) told) k ≡ sector_told told k
told_other None s k bytes ne = refl
told_other (Some f) s k bytes ne = ap Some (written_other f s k bytes ne)

-- what an old sector says of others is what those after it say
after_other : (o : OldSector) (olds : List OldSector) (told : Option (ℕ → List ℕ)) (k : ℕ) → k ≢ o.sector →
    sector_told (option_map (with_old_bytes olds) told) k ≡ sector_told (option_map (with_old_bytes (o ∷ olds)) told) k
after_other o olds None k ne = refl
after_other o olds (Some f) k ne =
    ap (λ (x : Option (List ℕ)). Some (unwrap_or x (f k))) (sym (ap (λ b. if b then Some o.bytes else old_bytes_of olds k) (apart o.sector k (λ same. ne (sym same)))))

-- one that has none is as the store tells
told_none : (olds : List OldSector) (told : Option (ℕ → List ℕ)) (k : ℕ) → old_bytes_of olds k ≡ None → sector_told (option_map (with_old_bytes olds) told) k ≡ sector_told told k
told_none olds None k none = refl
told_none olds (Some f) k none = ap (λ (x : Option (List ℕ)). Some (unwrap_or x (f k))) none

-- one that was put back has its old bytes
put_here : (o : OldSector) (olds : List OldSector) (told : Option (ℕ → List ℕ)) → old_bytes_of olds o.sector ≡ None →
    sector_told (option_map (with_old_bytes olds) (option_map (λ f. with_sector f o.sector o.bytes) told)) o.sector ≡ sector_told (option_map (with_old_bytes (o ∷ olds)) told) o.sector
put_here o olds None none = refl
put_here o olds (Some f) none =
    ap (λ (x : Option (List ℕ)). Some (unwrap_or x (with_sector f o.sector o.bytes o.sector))) none
    ∙ (ap Some (written_here f o.sector o.bytes)
    ∙ sym (ap (λ b. Some (unwrap_or (if b then Some o.bytes else old_bytes_of olds o.sector) (f o.sector))) (same_one o.sector)))

-- and another one is as if the store hadn't replaced that
put_there : (o : OldSector) (olds : List OldSector) (told : Option (ℕ → List ℕ)) (k : ℕ) → k ≢ o.sector →
    sector_told (option_map (with_old_bytes olds) (option_map (λ f. with_sector f o.sector o.bytes) told)) k ≡ sector_told (option_map (with_old_bytes (o ∷ olds)) told) k
put_there o olds None k ne = refl
put_there o olds (Some f) k ne =
    ap (λ (x : List ℕ). Some (unwrap_or (old_bytes_of olds k) x)) (written_other f o.sector k o.bytes ne) ∙ after_other o olds (Some f) k ne

-- ---- they all

module _ {S : Type 0} (size : S → ℕ) (told : S → Option (ℕ → List ℕ)) (failures : S → Option Failures) where
  -- a store has turned back into what these say, none of which has a lower number
  record Turned (low : ℕ) (olds : List OldSector) (was now : S) : Type 0 where
    failed : List ℕ
    low_none : (k : ℕ) → Contains failed k → low ≤ k
    few : 1 ≤ length failed → length failed + low ≤ size was
    fails : WritesFail failed (failures was) (failures now)
    sized : size now ≡ size was
    back : (k : ℕ) → k < size was → (Contains failed k → ⊥) → sector_told (told now) k ≡ sector_told (option_map (with_old_bytes olds) (told was)) k
    left : (k : ℕ) → (size was ≤ k) ⊎ Contains failed k → sector_told (told now) k ≡ sector_told (told was) k

  -- one before them was put back
  module _ (o : OldSector) (olds : List OldSector) (low : ℕ) (first : low ≤ o.sector) (high : AreFrom (o.sector + 1) olds) (was mid now : S) (same : size mid ≡ size was)
      (rested : Turned (o.sector + 1) olds mid now) where
    absent : old_bytes_of olds o.sector ≡ None
    absent = lower_none olds (o.sector + 1) o.sector high (omega arith)

    low_then : (k : ℕ) → Contains rested.failed k → low ≤ k
    low_then k at = let up = rested.low_none k at in omega (arith, up, first)

    few_then : 1 ≤ length rested.failed → length rested.failed + low ≤ size was
    few_then some = let up = rested.few some in omega (arith, up, first, same)

    turned_put : o.sector < size was → told mid ≡ option_map (λ f. with_sector f o.sector o.bytes) (told was) → failures mid ≡ failures was → Turned low (o ∷ olds) was now
    turned_put inside put serves =
        record {
          failed = rested.failed;
          low_none = low_then;
          few = few_then;
          fails = subst (λ x. WritesFail rested.failed x (failures now)) serves rested.fails;
          sized = rested.sized ∙ same;
          back = λ k lt never. rested.back k (omega (arith, lt, same)) never ∙ (ap (λ x. sector_told (option_map (with_old_bytes olds) x) k) put ∙ here k (eqb_tells k o.sector));
          left = λ k out. rested.left k (elim out [ inl past ↦ inl (omega (arith, past, same)) | inr at ↦ inr at ]) ∙ (ap (λ x. sector_told x k) put ∙ told_other (told was) o.sector k o.bytes (other k out));
        }
      where
        here : (k : ℕ) → ((nat_eq k o.sector ≡ true) × (k ≡ o.sector)) ⊎ ((nat_eq k o.sector ≡ false) × (k ≢ o.sector)) →
            sector_told (option_map (with_old_bytes olds) (option_map (λ f. with_sector f o.sector o.bytes) (told was))) k ≡ sector_told (option_map (with_old_bytes (o ∷ olds)) (told was)) k
        here k (inl is) =
            subst (λ n. sector_told (option_map (with_old_bytes olds) (option_map (λ f. with_sector f o.sector o.bytes) (told was))) n ≡ sector_told (option_map (with_old_bytes (o ∷ olds)) (told was)) n) (sym is.1) (put_here o olds (told was) absent)
        here k (inr is) = put_there o olds (told was) k is.1

        other : (k : ℕ) → (size was ≤ k) ⊎ Contains rested.failed k → k ≢ o.sector
        other k (inl past) is = omega (arith, past, inside, is)
        other k (inr at) is = let up = rested.low_none k at in omega (arith, up, is)

    turned_failed : o.sector < size was → told mid ≡ told was → HasRecordAndNotesOneMoreFailure true o.sector (failures was) (failures mid) → Turned low (o ∷ olds) was now
    turned_failed inside kept fails =
        record {
          failed = o.sector ∷ rested.failed;
          low_none = λ k at. elim (there_cases o.sector k rested.failed at) [ inl is ↦ omega (arith, first, is) | inr rest ↦ low_then k rest ];
          few = λ _. few_more rested.failed rested.few;
          fails = (failures mid, fails, rested.fails);
          sized = rested.sized ∙ same;
          back = λ k lt never.
              rested.back k (omega (arith, lt, same)) (λ at. never (more_there o.sector k rested.failed at))
              ∙ (ap (λ x. sector_told (option_map (with_old_bytes olds) x) k) kept
              ∙ after_other o olds (told was) k (λ is. never (subst (λ n. Contains (o.sector ∷ rested.failed) n) (sym is) (first_there o.sector rested.failed))));
          left = λ k out. left_so k out ∙ ap (λ x. sector_told x k) kept;
        }
      where
        few_more : (l : List ℕ) → (1 ≤ length l → length l + (o.sector + 1) ≤ size mid) → length (o.sector ∷ l) + low ≤ size was
        few_more [] few = omega (arith, inside, first)
        few_more (s ∷ l) few = let up : length (s ∷ l) + (o.sector + 1) ≤ size mid = few (omega arith) in omega (arith, up, first, same)

        itself : sector_told (told now) o.sector ≡ sector_told (told mid) o.sector
        itself =
            rested.back o.sector (omega (arith, inside, same)) (λ at. let up = rested.low_none o.sector at in omega (arith, up))
            ∙ told_none olds (told mid) o.sector absent

        left_so : (k : ℕ) → (size was ≤ k) ⊎ Contains (o.sector ∷ rested.failed) k → sector_told (told now) k ≡ sector_told (told mid) k
        left_so k (inl past) = rested.left k (inl (omega (arith, past, same)))
        left_so k (inr at) =
            elim (there_cases o.sector k rested.failed at) [
              | inl is ↦ subst (λ n. sector_told (told now) n ≡ sector_told (told mid) n) is itself
              | inr rest ↦ rested.left k (inr rest)
            ]

    turned_past : size was ≤ o.sector → told mid ≡ told was → failures mid ≡ failures was → Turned low (o ∷ olds) was now
    turned_past past kept serves =
        record {
          failed = rested.failed;
          low_none = low_then;
          few = few_then;
          fails = subst (λ x. WritesFail rested.failed x (failures now)) serves rested.fails;
          sized = rested.sized ∙ same;
          back = λ k lt never.
              rested.back k (omega (arith, lt, same)) never
              ∙ (ap (λ x. sector_told (option_map (with_old_bytes olds) x) k) kept ∙ after_other o olds (told was) k (λ is. omega (arith, past, lt, is)));
          left = λ k out. rested.left k (elim out [ inl up ↦ inl (omega (arith, up, same)) | inr at ↦ inr at ]) ∙ ap (λ x. sector_told x k) kept;
        }

    turned_one : WritesOne size told failures o was mid → Turned low (o ∷ olds) was now
    turned_one one =
        elim one.1 [
          | inl put ↦ turned_put put.0 put.1 put.2
          | inr rest ↦ elim rest [ inl failed ↦ turned_failed failed.0 failed.1 failed.2 | inr past ↦ turned_past past.0 past.1 past.2 ]
        ]

  turned : (olds : List OldSector) (low : ℕ) → AreRising olds → AreFrom low olds → (was now : S) → WritesBack size told failures olds was now → Turned low olds was now
  turned [] low rising from was now same =
      record {
        failed = [];
        low_none = λ k at. absurd (none_there k at);
        few = λ some. absurd (omega (arith, some));
        fails = ap failures same;
        sized = ap size same;
        back = λ k lt never. ap (λ (s : S). sector_told (told s) k) same ∙ sym (told_none [] (told was) k refl);
        left = λ k out. ap (λ (s : S). sector_told (told s) k) same;
      }
  turned (o ∷ olds) low rising from was now (mid, one, back) =
      let high : AreFrom (o.sector + 1) olds = rest_higher o olds rising in
      turned_one o olds low (from 0 (omega arith)) high was mid now one.0
      (turned olds (o.sector + 1) (rest_rises o olds rising) high mid now back) one

  pub writes_turn : (olds : List OldSector) → AreRising olds → (was now : S) → WritesBack size told failures olds was now →
      RollsBack size told failures (option_map (with_old_bytes olds) (told was)) was now
  writes_turn olds rising was now back =
      let t = turned olds 0 rising (λ _ _. omega arith) was now back in
      record {
        failed = t.failed;
        failed_count_is_allowed = few_of t.failed t.few;
        writes_fail = t.fails;
        size_is_kept = t.sized;
        unfailed_sectors_are_rolled_back = t.back;
        failed_are_kept = t.left;
      }
    where
      few_of : (l : List ℕ) → (1 ≤ length l → length l + 0 ≤ size was) → length l ≤ size was
      few_of [] few = omega arith
      few_of (s ∷ l) few = let up : length (s ∷ l) + 0 ≤ size was = few (omega arith) in omega (arith, up)

  -- each sector is as it was, or as it was to be
  pub turned_each : (into : Option (ℕ → List ℕ)) (was now : S) → RollsBack size told failures into was now → (k : ℕ) →
      (sector_told (told now) k ≡ sector_told (told was) k) ⊎ (sector_told (told now) k ≡ sector_told into k)
  turned_each into was now t k =
      elim (is_there t.failed k) [
        | inl at ↦ inl (t.failed_are_kept k (inr at))
        | inr never ↦ elim (below_or k (size was)) [ inl lt ↦ inr (t.unfailed_sectors_are_rolled_back k lt never) | inr past ↦ inl (t.failed_are_kept k (inl past)) ]
      ]

-- each sector is as it was, or has its old bytes
abbrev pub IsBack : List OldSector → (was now : ℕ → List ℕ) → Type 0
IsBack olds was now = (k : ℕ) → (now k ≡ was k) ⊎ (old_bytes_of olds k ≡ Some (now k))

-- what a store tells then
abbrev pub TellsBack : List OldSector → (was now : Option (ℕ → List ℕ)) → Type 0
TellsBack olds was now = ((was ≡ None) × (now ≡ None)) ⊎ ((f : ℕ → List ℕ) × (g : ℕ → List ℕ) × (was ≡ Some f) × (now ≡ Some g) × IsBack olds f g)

each_back : (olds : List OldSector) (was now : Option (ℕ → List ℕ)) →
    ((k : ℕ) → (sector_told now k ≡ sector_told was k) ⊎ (sector_told now k ≡ sector_told (option_map (with_old_bytes olds) was) k)) → TellsBack olds was now
each_back olds None None each = inl (refl, refl)
each_back olds None (Some g) each = absurd (elim (each 0) [ inl same ↦ some-none refl same | inr back ↦ some-none refl back ])
each_back olds (Some f) None each = absurd (elim (each 0) [ inl same ↦ some-none refl (sym same) | inr back ↦ some-none refl (sym back) ])
each_back olds (Some f) (Some g) each = inr (f, g, refl, refl, λ k. elim (each k) [ inl same ↦ inl (same_Some (g k) (f k) same) | inr back ↦ by k (old_bytes_of olds k) refl (same_Some (g k) (with_old_bytes olds f k) back) ])
  where
    by : (k : ℕ) (x : Option (List ℕ)) → old_bytes_of olds k ≡ x → g k ≡ with_old_bytes olds f k → (g k ≡ f k) ⊎ (old_bytes_of olds k ≡ Some (g k))
    by k (Some b) has is = inr (has ∙ ap Some (sym (is ∙ ap (λ (x : Option (List ℕ)). unwrap_or x (f k)) has)))
    by k None none is = inl (is ∙ ap (λ (x : Option (List ℕ)). unwrap_or x (f k)) none)

pub turned_tells : {S : Type 0} (size : S → ℕ) (told : S → Option (ℕ → List ℕ)) (failures : S → Option Failures) (olds : List OldSector) (was now : S) →
    RollsBack size told failures (option_map (with_old_bytes olds) (told was)) was now → TellsBack olds (told was) (told now)
turned_tells size told failures olds was now t = each_back olds (told was) (told now) (turned_each size told failures (option_map (with_old_bytes olds) (told was)) was now t)

-- so they tell as before
pub back_some : (olds : List OldSector) (was now : Option (ℕ → List ℕ)) → TellsBack olds was now → is_some now ≡ is_some was
back_some olds was now (inl none) = ap is_some none.1 ∙ sym (ap is_some none.0)
back_some olds was now (inr (f, g, is, at, back)) = ap is_some at ∙ sym (ap is_some is)

-- what is lasting stays so
pub back_lasts : (olds : List OldSector) (was now : Option (ℕ → List ℕ)) → TellsBack olds was now → option_map (with_old_bytes olds) now ≡ option_map (with_old_bytes olds) was
back_lasts olds was now (inl none) = ap (option_map (with_old_bytes olds)) none.1 ∙ sym (ap (option_map (with_old_bytes olds)) none.0)
back_lasts olds was now (inr (f, g, is, at, back)) =
    ap (option_map (with_old_bytes olds)) at ∙ (ap Some (fun_ext (λ k. by k (old_bytes_of olds k) refl (back k))) ∙ sym (ap (option_map (with_old_bytes olds)) is))
  where
    by : (k : ℕ) (x : Option (List ℕ)) → old_bytes_of olds k ≡ x → (g k ≡ f k) ⊎ (old_bytes_of olds k ≡ Some (g k)) → with_old_bytes olds g k ≡ with_old_bytes olds f k
    by k (Some b) has so = ap (λ (x : Option (List ℕ)). unwrap_or x (g k)) has ∙ sym (ap (λ (x : Option (List ℕ)). unwrap_or x (f k)) has)
    by k None none (inl same) = ap (λ (x : List ℕ). unwrap_or (old_bytes_of olds k) x) same
    by k None none (inr has) = some-none has none

-- and each sector is as it was, or as it is lasting
pub back_holds : (olds : List OldSector) (was now : Option (ℕ → List ℕ)) (last comes : ℕ → List ℕ) → TellsBack olds was now → was ≡ Some last → now ≡ Some comes →
    (k : ℕ) → (comes k ≡ last k) ⊎ (option_map (λ (f : ℕ → List ℕ). f k) (option_map (with_old_bytes olds) was) ≡ Some (comes k))
back_holds olds was now last comes (inl none) is at k = some-none is none.0
back_holds olds was now last comes (inr (f, g, had, has, back)) is at k =
    let old : f ≡ last = same_Some f last (sym had ∙ is) in
    let new : g ≡ comes = same_Some g comes (sym has ∙ at) in
    elim (back k) [
      | inl same ↦ inl (sym (ap (λ (h : ℕ → List ℕ). h k) new) ∙ (same ∙ ap (λ (h : ℕ → List ℕ). h k) old))
      | inr put ↦
          let held : option_map (λ (h : ℕ → List ℕ). h k) (option_map (with_old_bytes olds) was) ≡ Some (comes k) =
          ap (λ (x : Option (ℕ → List ℕ)). option_map (λ (h : ℕ → List ℕ). h k) (option_map (with_old_bytes olds) x)) had
          ∙ (ap (λ (x : Option (List ℕ)). Some (unwrap_or x (f k))) put ∙ ap (λ (h : ℕ → List ℕ). Some (h k)) new) in
          inr held
    ]

-- the old sectors before a place, and the one in it
pub take_more : (olds : List OldSector) (place : ℕ) (d : OldSector) → place < length olds → take (place + 1) olds ≡ take place olds ++ slice_index_or olds place d ∷ []
take_more [] place d inside = absurd (omega (arith, inside))
take_more (o ∷ olds) zero d inside = refl
take_more (o ∷ olds) (suc place) d inside =
    let next : suc place + 1 ≡ suc (place + 1) = omega arith in
    ap (λ k. take k (o ∷ olds)) next ∙ ap (λ (l : List OldSector). o ∷ l) (take_more olds place d (omega (arith, inside)))

-- what a write has made of a store
pub wrote_one : {S : Type 0} (size : S → ℕ) (told : S → Option (ℕ → List ℕ)) (failures : S → Option Failures) (old : OldSector) (done : Bool) (was now : S) → size now ≡ size was →
    (done ≡ true → old.sector < size was) → (done ≡ true → told now ≡ option_map (λ f. with_sector f old.sector old.bytes) (told was)) →
    ((done ≡ true) ⊎ (size was ≤ old.sector) → failures now ≡ failures was) → (done ≡ false → told now ≡ told was) →
    (done ≡ false → old.sector < size was → HasRecordAndNotesOneMoreFailure true old.sector (failures was) (failures now)) → WritesOne size told failures old was now
wrote_one size told failures old true was now sized inside puts serves kept fails = (sized, inl (inside refl, puts refl, serves (inl refl)))
wrote_one size told failures old false was now sized inside puts serves kept fails =
    (sized, inr (elim (below_or old.sector (size was)) [ inl lt ↦ inl (lt, kept refl, fails refl lt) | inr past ↦ inr (past, kept refl, serves (inr past)) ]))

-- where there is room for some, there is for fewer
pub less_room : (c : Cache) (more less : ℕ) → less ≤ more → HasRoomForOldSectors c more → HasRoomForOldSectors c less
less_room c more less le room on some = let all = room on (omega (arith, some, le)) in omega (arith, all, le)

-- none need none
pub no_room : (c : Cache) → HasRoomForOldSectors c 0
no_room c on some = absurd (omega (arith, some))
