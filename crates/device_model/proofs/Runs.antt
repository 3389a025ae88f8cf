-- The sectors of a block, entry by entry, and the runs that they are in.
use Rattle.std.proofs.Common.{ℕ, Bool, true, false, zero, suc, ◌≡◌, ◌≢◌, ◌<◌, ◌≤◌, ◌+◌, ◌-◌, ◌*◌, ◌/◌, ◌⊎◌, inl, inr, List, [], ◌∷◌, ◌++◌, length, take, drop, slice_index, min, refl, sym, ◌∙◌, ap, ap₂, subst, arith, append-nil, append_assoc, length-drop, get_or-take, get_or-drop}
use Rattle.std.specs.Prelude.{if◌then◌else◌, nat_eq}
use Rattle.std.proofs.lemmas.Bool.{cases_lt}
use Rattle.std.proofs.lemmas.Bool.Decides.{eqb_tells}
use Rattle.std.proofs.lemmas.List.{drop_all, take_all}
use Rattle.byteorder.specs.Endian.{little_from}
use Rattle.adapter.specs.Trim.{consecutive, trim_sectors}
use Rattle.device_model.specs.Trims.{run_length_from, first_run_length, run_count_from, run_count_of}

-- ---- sectors that follow one another

pub consecutive_length : (a n : ℕ) → length (consecutive a n) ≡ n
consecutive_length a zero = refl
consecutive_length a (suc n) = ap suc (consecutive_length (suc a) n)

consecutive_add : (m n a : ℕ) → consecutive a (m + n) ≡ consecutive a m ++ consecutive (a + m) n
consecutive_add zero n a =
    let none : zero + n ≡ n = omega arith in
    let same : a + zero ≡ a = omega arith in
    rw (none, same) refl
consecutive_add (suc m) n a =
    let more : suc m + n ≡ suc (m + n) = omega arith in
    let next : suc a + m ≡ a + suc m = omega arith in
    rw (more, consecutive_add m n (suc a), next) refl

-- they go on, with others behind them
joined : (a m n : ℕ) (rest : List ℕ) → consecutive a m ++ (consecutive (a + m) n ++ rest) ≡ consecutive a (m + n) ++ rest
joined a m n rest = sym (append_assoc (consecutive a m) (consecutive (a + m) n) rest) ∙ ap (λ (xs : List ℕ). xs ++ rest) (sym (consecutive_add m n a))

drop_front : (a n k : ℕ) (rest : List ℕ) → k ≤ n → drop k (consecutive a n ++ rest) ≡ consecutive (a + k) (n - k) ++ rest
drop_front a n zero rest small =
    let same : a ≡ a + zero = omega arith in
    let all : n ≡ n - zero = omega arith in
    λ i. consecutive (same i) (all i) ++ rest
drop_front a zero (suc k) rest small = absurd (omega (arith, small))
drop_front a (suc n) (suc k) rest small =
    let next : suc a + k ≡ a + suc k = omega arith in
    let left : n - k ≡ suc n - suc k = omega arith in
    drop_front (suc a) n k rest (omega (arith, small)) ∙ (λ i. consecutive (next i) (left i) ++ rest)

drop_past : (a n k : ℕ) (rest : List ℕ) → n ≤ k → drop k (consecutive a n ++ rest) ≡ drop (k - n) rest
drop_past a zero k rest past = let all : k ≡ k - zero = omega arith in ap (λ (i : ℕ). drop i rest) all
drop_past a (suc n) zero rest past = absurd (omega (arith, past))
drop_past a (suc n) (suc k) rest past =
    let left : k - n ≡ suc k - suc n = omega arith in
    drop_past (suc a) n k rest (omega (arith, past)) ∙ ap (λ (i : ℕ). drop i rest) left

take_front : (a n k : ℕ) (rest : List ℕ) → k ≤ n → take k (consecutive a n ++ rest) ≡ consecutive a k
take_front a n zero rest small = refl
take_front a zero (suc k) rest small = absurd (omega (arith, small))
take_front a (suc n) (suc k) rest small = ap (λ (xs : List ℕ). a ∷ xs) (take_front (suc a) n k rest (omega (arith, small)))

take_past : (a n k : ℕ) (rest : List ℕ) → n ≤ k → take k (consecutive a n ++ rest) ≡ consecutive a n ++ take (k - n) rest
take_past a zero k rest past = let all : k ≡ k - zero = omega arith in ap (λ (i : ℕ). take i rest) all
take_past a (suc n) zero rest past = absurd (omega (arith, past))
take_past a (suc n) (suc k) rest past =
    let left : k - n ≡ suc k - suc n = omega arith in
    ap (λ (xs : List ℕ). a ∷ xs) (take_past (suc a) n k rest (omega (arith, past)) ∙ ap (λ (i : ℕ). consecutive (suc a) n ++ take i rest) left)

take_some : (a n k : ℕ) (rest : List ℕ) → take k (consecutive a n ++ rest) ≡ consecutive a (min n k) ++ take (k - min n k) rest
take_some a n k rest =
    elim (cases_lt k n) [
      | inl less ↦
          let few : k ≡ min n k = omega (arith, less) in
          let none : 0 ≡ k - min n k = omega (arith, less) in
          take_front a n k rest (omega (arith, less))
          ∙ (sym (append-nil (consecutive a k)) ∙ (λ i. consecutive a (few i) ++ take (none i) rest))
      | inr all ↦
          let whole : n ≡ min n k = omega (arith, all) in
          take_past a n k rest all ∙ (λ i. consecutive a (whole i) ++ take (k - whole i) rest)
    ]

-- ---- entries

six : (a b c d e f : ℕ) → a + 256 * (b + 256 * (c + 256 * (d + 256 * (e + 256 * f)))) ≡ a + 256 * (b + 256 * (c + 256 * (d + 256 * (e + 256 * (f + 256 * 0)))))
six a b c d e f = omega arith

two : (l h : ℕ) → l + 256 * h ≡ l + 256 * (h + 256 * 0)
two l h = omega arith

first_entry : (xs : List ℕ) → 8 ≤ length xs → trim_sectors xs ≡ consecutive (little_from 0 6 xs) (little_from 6 2 xs) ++ trim_sectors (drop 8 xs)
first_entry (a ∷ b ∷ c ∷ d ∷ e ∷ f ∷ l ∷ h ∷ rest) long = λ i. consecutive (six a b c d e f i) (two l h i) ++ trim_sectors rest
first_entry [] long = absurd (omega (arith, long))
first_entry (a ∷ []) long = absurd (omega (arith, long))
first_entry (a ∷ b ∷ []) long = absurd (omega (arith, long))
first_entry (a ∷ b ∷ c ∷ []) long = absurd (omega (arith, long))
first_entry (a ∷ b ∷ c ∷ d ∷ []) long = absurd (omega (arith, long))
first_entry (a ∷ b ∷ c ∷ d ∷ e ∷ []) long = absurd (omega (arith, long))
first_entry (a ∷ b ∷ c ∷ d ∷ e ∷ f ∷ []) long = absurd (omega (arith, long))
first_entry (a ∷ b ∷ c ∷ d ∷ e ∷ f ∷ l ∷ []) long = absurd (omega (arith, long))

no_entry : (xs : List ℕ) → length xs < 8 → trim_sectors xs ≡ []
no_entry [] short = refl
no_entry (a ∷ []) short = refl
no_entry (a ∷ b ∷ []) short = refl
no_entry (a ∷ b ∷ c ∷ []) short = refl
no_entry (a ∷ b ∷ c ∷ d ∷ []) short = refl
no_entry (a ∷ b ∷ c ∷ d ∷ e ∷ []) short = refl
no_entry (a ∷ b ∷ c ∷ d ∷ e ∷ f ∷ []) short = refl
no_entry (a ∷ b ∷ c ∷ d ∷ e ∷ f ∷ l ∷ []) short = refl
no_entry (a ∷ b ∷ c ∷ d ∷ e ∷ f ∷ l ∷ h ∷ rest) short = absurd (omega (arith, short))

-- what is read behind a list's first bytes is read of the rest
from_drop : (n i at : ℕ) (xs : List ℕ) → little_from (at + i) n xs ≡ little_from i n (drop at xs)
from_drop zero i at xs = refl
from_drop (suc n) i at xs =
    let next : suc (at + i) ≡ at + suc i = omega arith in
    ap₂ (λ (x y : ℕ). x + 256 * y) (sym (get_or-drop at xs i 0)) (ap (λ (j : ℕ). little_from j n xs) next ∙ from_drop n (suc i) at xs)

pub drop_twice : (m n : ℕ) (xs : List ℕ) → drop n (drop m xs) ≡ drop (m + n) xs
drop_twice zero n xs = let same : n ≡ zero + n = omega arith in ap (λ (k : ℕ). drop k xs) same
drop_twice (suc m) n [] = drop_all n [] (omega arith) ∙ sym (drop_all (suc m + n) [] (omega arith))
drop_twice (suc m) n (x ∷ xs) = let same : suc (m + n) ≡ suc m + n = omega arith in drop_twice m n xs ∙ ap (λ (k : ℕ). drop k (x ∷ xs)) same

-- the sectors of the entries from this place of a block on
abbrev pub behind : List ℕ → ℕ → List ℕ
behind block place = trim_sectors (drop (8 * place) block)

pub behind_next : (block : List ℕ) (place : ℕ) → 8 * place + 8 ≤ length block →
    behind block place ≡ consecutive (little_from (8 * place) 6 block) (little_from (8 * place + 6) 2 block) ++ behind block (place + 1)
behind_next block place small =
    let xs : List ℕ = drop (8 * place) block in
    let size : length xs ≡ length block - 8 * place = length-drop (8 * place) block in
    let at : 8 * place + 0 ≡ 8 * place = omega arith in
    let after : 8 * place + 8 ≡ 8 * (place + 1) = omega arith in
    let low : little_from 0 6 xs ≡ little_from (8 * place) 6 block = sym (from_drop 6 0 (8 * place) block) ∙ ap (λ (k : ℕ). little_from k 6 block) at in
    let high : little_from 6 2 xs ≡ little_from (8 * place + 6) 2 block = sym (from_drop 2 6 (8 * place) block) in
    let rest : drop 8 xs ≡ drop (8 * (place + 1)) block = drop_twice (8 * place) 8 block ∙ ap (λ (k : ℕ). drop k block) after in
    first_entry xs (omega (arith, size, small)) ∙ (λ i. consecutive (low i) (high i) ++ trim_sectors (rest i))

pub behind_none : (block : List ℕ) (place : ℕ) → length block / 8 ≤ place → behind block place ≡ []
behind_none block place past =
    let size : length (drop (8 * place) block) ≡ length block - 8 * place = length-drop (8 * place) block in
    no_entry (drop (8 * place) block) (omega (arith, size, past))

-- ---- the first run

same_number : (a : ℕ) → nat_eq a a ≡ true
same_number a = elim (eqb_tells a a) [ inl here ↦ here.0 | inr there ↦ absurd (there.1 refl) ]

other_number : (a b : ℕ) → a ≢ b → nat_eq a b ≡ false
other_number a b ne = elim (eqb_tells a b) [ inl here ↦ absurd (ne here.1) | inr there ↦ there.0 ]

run_on : (a m : ℕ) (rest : List ℕ) → run_length_from a (consecutive a m ++ rest) ≡ m + run_length_from (a + m) rest
run_on a zero rest =
    let same : a ≡ a + zero = omega arith in
    ap (λ (k : ℕ). run_length_from k rest) same ∙ omega arith
run_on a (suc m) rest =
    let next : suc a + m ≡ a + suc m = omega arith in
    let more : suc (m + run_length_from (a + suc m) rest) ≡ suc m + run_length_from (a + suc m) rest = omega arith in
    rw (same_number a) (ap suc (run_on (suc a) m rest ∙ ap (λ (k : ℕ). m + run_length_from k rest) next) ∙ more)

run_is : (a m : ℕ) (rest : List ℕ) → 1 ≤ m → run_length_from (a + m) rest ≡ 0 → first_run_length (consecutive a m ++ rest) ≡ m
run_is a zero rest some stops = absurd (omega (arith, some))
run_is a (suc m) rest some stops =
    let next : suc a + m ≡ a + suc m = omega arith in
    let on = run_on (suc a) m rest ∙ ap (λ (k : ℕ). m + run_length_from k rest) next in
    let whole : m + run_length_from (a + suc m) rest ≡ m = omega (arith, stops) in
    ap suc (on ∙ whole)

first_of : (xs rest : List ℕ) (most a m : ℕ) → take most xs ≡ consecutive a m ++ rest → 1 ≤ m → m ≤ most → a ≡ slice_index xs 0
first_of xs rest most a zero parts some few = absurd (omega (arith, some))
first_of xs rest most a (suc m) parts some few =
    sym (ap (λ (l : List ℕ). slice_index l 0) parts) ∙ get_or-take most xs 0 0 (omega (arith, some, few))

-- Of these sectors, but for some that were cleared, and so many at the most, these follow one another; the others are behind, but for some.
pub record IsAlong (sectors : List ℕ) (cleared most : ℕ) (rest : List ℕ) (skip first count : ℕ) : Type 0 where
  pub parts : take most (drop cleared sectors) ≡ consecutive first count ++ take (most - count) (drop skip rest)
  pub few : count ≤ most
  pub started : 1 ≤ count → skip ≡ 0

pub along_none : (sectors : List ℕ) (cleared most : ℕ) → IsAlong sectors cleared most sectors cleared 0 0
along_none sectors cleared most =
    let all : most ≡ most - 0 = omega arith in
    record {
      parts = ap (λ (k : ℕ). take k (drop cleared sectors)) all;
      few = omega arith;
      started = λ some. absurd (omega (arith, some));
    }

module _ (sectors : List ℕ) (cleared most : ℕ) (here rest : List ℕ) (skip first count f n : ℕ) (is : here ≡ consecutive f n ++ rest)
    (along : IsAlong sectors cleared most here skip first count) where
  parts_here : take most (drop cleared sectors) ≡ consecutive first count ++ take (most - count) (drop skip (consecutive f n ++ rest))
  parts_here = along.parts ∙ ap (λ (l : List ℕ). consecutive first count ++ take (most - count) (drop skip l)) is

  pub along_skip : n ≤ skip → IsAlong sectors cleared most rest (skip - n) first count
  along_skip past = record {
    parts = parts_here ∙ ap (λ (l : List ℕ). consecutive first count ++ take (most - count) l) (drop_past f n skip rest past);
    few = along.few;
    started = λ some. let none = along.started some in omega (arith, none);
  }

  pub along_first : skip < n → count ≡ 0 → IsAlong sectors cleared most rest 0 (f + skip) (min (n - skip) most)
  along_first inside none =
      let all : most - count ≡ most = omega (arith, none) in
      let start : consecutive first count ++ take (most - count) (drop skip (consecutive f n ++ rest)) ≡ take most (drop skip (consecutive f n ++ rest)) =
      λ i. consecutive first (none i) ++ take (all i) (drop skip (consecutive f n ++ rest)) in
      record {
        parts = parts_here
            ∙ (start
            ∙ (ap (λ (l : List ℕ). take most l) (drop_front f n skip rest (omega (arith, inside)))
            ∙ take_some (f + skip) (n - skip) most rest));
        few = omega arith;
        started = λ _. refl;
      }

  -- the entry's sectors, where some were found before
  parts_on : 1 ≤ count → take most (drop cleared sectors) ≡ consecutive first count ++ (consecutive f (min n (most - count)) ++ take (most - count - min n (most - count)) rest)
  parts_on some =
      parts_here
      ∙ ap (λ (l : List ℕ). consecutive first count ++ l)
      (ap (λ (k : ℕ). take (most - count) (drop k (consecutive f n ++ rest))) (along.started some) ∙ take_some f n (most - count) rest)

  pub along_more : 1 ≤ count → first + count ≡ f → IsAlong sectors cleared most rest skip first (count + min n (most - count))
  along_more some next =
      let none : skip ≡ 0 = along.started some in
      let back : 0 ≡ skip = sym none in
      let from : f ≡ first + count = sym next in
      let left : most - count - min n (most - count) ≡ most - (count + min n (most - count)) = omega arith in
      record {
        parts = parts_on some
            ∙ ((λ i. consecutive first count ++ (consecutive (from i) (min n (most - count)) ++ take (left i) (drop (back i) rest)))
            ∙ joined first count (min n (most - count)) (take (most - (count + min n (most - count))) (drop skip rest)));
        few = let few = along.few in omega (arith, few);
        started = λ _. none;
      }

  -- the next entry doesn't go on
  pub along_stops : skip < n → 1 ≤ count → first + count ≢ f → first_run_length (take most (drop cleared sectors)) ≡ count
  along_stops inside some other =
      ap first_run_length (parts_on some)
      ∙ run_is first count (consecutive f (min n (most - count)) ++ take (most - count - min n (most - count)) rest) some (stop (most - count))
    where
      stop : (k : ℕ) → run_length_from (first + count) (consecutive f (min n k) ++ take (k - min n k) rest) ≡ 0
      stop zero =
          let few : min n 0 ≡ 0 = omega arith in
          let left : 0 - min n 0 ≡ 0 = omega arith in
          λ i. run_length_from (first + count) (consecutive f (few i) ++ take (left i) rest)
      stop (suc k) =
          let m : ℕ = min n (suc k) - 1 in
          let some_more : min n (suc k) ≡ suc m = omega (arith, inside) in
          let ne : f ≢ first + count = λ same. other (sym same) in
          ap (λ (j : ℕ). run_length_from (first + count) (consecutive f j ++ take (suc k - min n (suc k)) rest)) some_more
          ∙ ap (λ (b : Bool). if b then suc (run_length_from (suc (first + count)) (consecutive (suc f) m ++ take (suc k - min n (suc k)) rest)) else 0)
          (other_number f (first + count) ne)

-- what is found once no entry is left
pub along_count : (sectors : List ℕ) (cleared most : ℕ) (rest : List ℕ) (skip first count : ℕ) → rest ≡ [] → IsAlong sectors cleared most rest skip first count →
    first_run_length (take most (drop cleared sectors)) ≡ count
along_count sectors cleared most rest skip first zero none along =
    ap first_run_length
    (along.parts
    ∙ (ap (λ (l : List ℕ). take (most - zero) (drop skip l)) none
    ∙ (ap (λ (l : List ℕ). take (most - zero) l) (drop_all skip [] (omega arith)) ∙ take_all (most - zero) [] (omega arith))))
along_count sectors cleared most rest skip first (suc count) none along =
    let nothing : take (most - suc count) (drop skip rest) ≡ [] =
    ap (λ (l : List ℕ). take (most - suc count) (drop skip l)) none
    ∙ (ap (λ (l : List ℕ). take (most - suc count) l) (drop_all skip [] (omega arith)) ∙ take_all (most - suc count) [] (omega arith)) in
    ap first_run_length along.parts
    ∙ run_is first (suc count) (take (most - suc count) (drop skip rest)) (omega arith) (ap (λ (l : List ℕ). run_length_from (first + suc count) l) nothing)

pub along_head : (sectors : List ℕ) (cleared most : ℕ) (rest : List ℕ) (skip first count : ℕ) → IsAlong sectors cleared most rest skip first count →
    1 ≤ count → first ≡ slice_index (drop cleared sectors) 0
along_head sectors cleared most rest skip first count along some =
    first_of (drop cleared sectors) (take (most - count) (drop skip rest)) most first count along.parts some along.few

-- ---- what a run leaves

take_run_from : (next j : ℕ) (xs : List ℕ) → j ≤ run_length_from next xs → take j xs ≡ consecutive next j
take_run_from next zero xs few = refl
take_run_from next (suc j) [] few = absurd (omega (arith, few))
take_run_from next (suc j) (x ∷ xs) few =
    elim (eqb_tells x next) [
      | inl here ↦
          let on : j ≤ run_length_from (suc next) xs = let more = rw here.0 at few in omega (arith, more) in
          let same : x ≡ next = here.1 in
          (λ i. same i ∷ take_run_from (suc next) j xs on i)
      | inr there ↦ let none = rw there.0 at few in absurd (omega (arith, none))
    ]

-- of a run each number of sectors follow one another
pub take_run : (xs : List ℕ) (j : ℕ) → j ≤ first_run_length xs → take j xs ≡ consecutive (slice_index xs 0) j
take_run xs zero few = refl
take_run [] (suc j) few = absurd (omega (arith, few))
take_run (x ∷ xs) (suc j) few = ap (λ (l : List ℕ). x ∷ l) (take_run_from (suc x) j xs (omega (arith, few)))

run_from_long : (next : ℕ) (xs : List ℕ) → run_length_from next xs ≤ length xs
run_from_long next [] = omega arith
run_from_long next (x ∷ xs) =
    elim (eqb_tells x next) [
      | inl here ↦ rw here.0 (let rest = run_from_long (suc next) xs in omega (arith, rest))
      | inr there ↦ rw there.0 (omega arith)
    ]

pub run_long : (xs : List ℕ) → first_run_length xs ≤ length xs
run_long [] = omega arith
run_long (x ∷ xs) = let rest = run_from_long (suc x) xs in omega (arith, rest)

run_from_runs : (next : ℕ) (xs : List ℕ) → run_count_from next xs ≡ run_count_of (drop (run_length_from next xs) xs)
run_from_runs next [] = refl
run_from_runs next (x ∷ xs) =
    elim (eqb_tells x next) [
      | inl here ↦
          let on = run_from_runs (suc next) xs in
          let same : suc x ≡ suc next = ap suc here.1 in
          rw here.0 (ap (λ (k : ℕ). run_count_from k xs) same ∙ on)
      | inr there ↦ rw there.0 refl
    ]

-- one run less is left once the first one is taken away
pub one_less : (xs : List ℕ) (n : ℕ) → run_count_of xs ≡ suc n → run_count_of (drop (first_run_length xs) xs) ≡ n
one_less [] n e = absurd (omega (arith, e))
one_less (x ∷ xs) n e = sym (run_from_runs (suc x) xs) ∙ (let less : run_count_from (suc x) xs ≡ n = omega (arith, e) in less)

pub no_runs : (xs : List ℕ) → run_count_of xs ≡ 0 → xs ≡ []
no_runs [] e = refl
no_runs (x ∷ xs) e = absurd (omega (arith, e))

pub some_runs : (xs : List ℕ) (n : ℕ) → run_count_of xs ≡ suc n → 1 ≤ length xs
some_runs [] n e = absurd (omega (arith, e))
some_runs (x ∷ xs) n e = omega arith

-- ---- runs, entry by entry

runs_on : (a m : ℕ) (rest : List ℕ) → run_count_from a (consecutive a m ++ rest) ≡ run_count_from (a + m) rest
runs_on a zero rest = let same : a ≡ a + zero = omega arith in ap (λ (k : ℕ). run_count_from k rest) same
runs_on a (suc m) rest =
    let next : suc a + m ≡ a + suc m = omega arith in
    rw (same_number a) (runs_on (suc a) m rest ∙ ap (λ (k : ℕ). run_count_from k rest) next)

runs_begin : (a m : ℕ) (rest : List ℕ) → 1 ≤ m → run_count_of (consecutive a m ++ rest) ≡ suc (run_count_from (a + m) rest)
runs_begin a zero rest some = absurd (omega (arith, some))
runs_begin a (suc m) rest some =
    let next : suc a + m ≡ a + suc m = omega arith in ap suc (runs_on (suc a) m rest ∙ ap (λ (k : ℕ). run_count_from k rest) next)

runs_anew : (next a m : ℕ) (rest : List ℕ) → a ≢ next → 1 ≤ m → run_count_from next (consecutive a m ++ rest) ≡ suc (run_count_from (a + m) rest)
runs_anew next a zero rest other some = absurd (omega (arith, some))
runs_anew next a (suc m) rest other some =
    let on : suc a + m ≡ a + suc m = omega arith in
    rw (other_number a next other) (ap suc (runs_on (suc a) m rest ∙ ap (λ (k : ℕ). run_count_from k rest) on))

-- the runs that are left behind so many, the last of which ends at this sector
abbrev pub runs_more : ℕ → ℕ → List ℕ → ℕ
runs_more runs next xs = if nat_eq runs 0 then run_count_of xs else run_count_from next xs

-- Of these sectors so many runs were counted, and the others are behind, but for some.
pub record IsCounted (all rest : List ℕ) (skip runs next : ℕ) : Type 0 where
  pub total : run_count_of all ≡ runs + runs_more runs next (drop skip rest)
  pub started : 1 ≤ runs → skip ≡ 0

pub counted_none : (xs : List ℕ) (cleared : ℕ) → IsCounted (drop cleared xs) xs cleared 0 0
counted_none xs cleared = record { total = omega arith; started = λ some. absurd (omega (arith, some)) }

module _ (all here rest : List ℕ) (skip runs next f n : ℕ) (is : here ≡ consecutive f n ++ rest) (counted : IsCounted all here skip runs next) where
  pub counted_skip : n ≤ skip → IsCounted all rest (skip - n) runs next
  counted_skip past =
      let same : drop skip here ≡ drop (skip - n) rest = ap (λ (l : List ℕ). drop skip l) is ∙ drop_past f n skip rest past in
      record {
        total = counted.total ∙ ap (λ (l : List ℕ). runs + runs_more runs next l) same;
        started = λ some. let none = counted.started some in omega (arith, none);
      }

  -- what is left of the entry
  left_here : skip < n → drop skip here ≡ consecutive (f + skip) (n - skip) ++ rest
  left_here inside = ap (λ (l : List ℕ). drop skip l) is ∙ drop_front f n skip rest (omega (arith, inside))

  counted_to : (more : ℕ) → run_count_of all ≡ more + runs_more more (f + n) rest → IsCounted all rest 0 more (f + n)
  counted_to more total = record { total = total; started = λ _. refl }

  end_is : skip < n → f + skip + (n - skip) ≡ f + n
  end_is inside = omega (arith, inside)

  some_left : (more : ℕ) → 1 ≤ more → nat_eq more 0 ≡ false
  some_left more some = other_number more 0 (λ none. absurd (omega (arith, some, none)))

  -- a run begins
  pub counted_more : skip < n → (runs ≡ 0) ⊎ ((runs ≢ 0) × (f ≢ next)) → IsCounted all rest 0 (runs + 1) (f + n)
  counted_more inside (inl none) = counted_to (runs + 1)
      (counted.total
      ∙ (ap (λ (b : Bool). runs + (if b then run_count_of (drop skip here) else run_count_from next (drop skip here))) (ap (λ (k : ℕ). nat_eq k 0) none)
      ∙ (ap (λ (l : List ℕ). runs + run_count_of l) (left_here inside)
      ∙ (ap (λ (k : ℕ). runs + k) (runs_begin (f + skip) (n - skip) rest (omega (arith, inside)))
      ∙ (ap (λ (k : ℕ). runs + suc (run_count_from k rest)) (end_is inside)
      ∙ (one (run_count_from (f + n) rest)
      ∙ ap (λ (b : Bool). runs + 1 + (if b then run_count_of rest else run_count_from (f + n) rest)) (sym (some_left (runs + 1) (omega arith)))))))))
    where
      one : (k : ℕ) → runs + suc k ≡ runs + 1 + k
      one k = omega arith
  counted_more inside (inr more) = counted_to (runs + 1)
      (counted.total
      ∙ (ap (λ (b : Bool). runs + (if b then run_count_of (drop skip here) else run_count_from next (drop skip here))) (other_number runs 0 more.0)
      ∙ (ap (λ (l : List ℕ). runs + run_count_from next l) (left_here inside)
      ∙ (ap (λ (k : ℕ). runs + k) (runs_anew next (f + skip) (n - skip) rest other (omega (arith, inside)))
      ∙ (ap (λ (k : ℕ). runs + suc (run_count_from k rest)) (end_is inside)
      ∙ (one (run_count_from (f + n) rest)
      ∙ ap (λ (b : Bool). runs + 1 + (if b then run_count_of rest else run_count_from (f + n) rest)) (sym (some_left (runs + 1) (omega arith)))))))))
    where
      one : (k : ℕ) → runs + suc k ≡ runs + 1 + k
      one k = omega arith

      at_start : skip ≡ 0
      at_start = let ne = more.0 in counted.started (omega (arith, ne))

      other : f + skip ≢ next
      other same = more.1 (omega (arith, same, at_start))

  -- the last run goes on
  pub counted_on : skip < n → runs ≢ 0 → f ≡ next → IsCounted all rest 0 runs (f + n)
  counted_on inside some same = counted_to runs
      (counted.total
      ∙ (ap (λ (b : Bool). runs + (if b then run_count_of (drop skip here) else run_count_from next (drop skip here))) (other_number runs 0 some)
      ∙ (ap (λ (l : List ℕ). runs + run_count_from next l) (left_here inside)
      ∙ (ap (λ (k : ℕ). runs + run_count_from k (consecutive (f + skip) (n - skip) ++ rest)) start
      ∙ (ap (λ (k : ℕ). runs + k) (runs_on (f + skip) (n - skip) rest)
      ∙ (ap (λ (k : ℕ). runs + run_count_from k rest) (end_is inside)
      ∙ ap (λ (b : Bool). runs + (if b then run_count_of rest else run_count_from (f + n) rest)) (sym (other_number runs 0 some))))))))
    where
      at_start : skip ≡ 0
      at_start = counted.started (omega (arith, some))

      start : next ≡ f + skip
      start = omega (arith, same, at_start)

  -- the one or the other, as many runs as there are with the entry's
  pub counted_with : skip < n → (more : ℕ) → ((runs ≡ 0) ⊎ ((runs ≢ 0) × (f ≢ next)) → more ≡ runs + 1) → (runs ≢ 0 → f ≡ next → more ≡ runs) →
      IsCounted all rest 0 more (f + n) × (more ≤ runs + 1)
  counted_with inside more begins goes_on =
      elim (eqb_tells runs 0) [
        | inl none ↦ anew (inl none.1)
        | inr some ↦
            elim (eqb_tells f next) [
              | inl same ↦
                  let is = goes_on some.1 same.1 in
                  (subst (λ (k : ℕ). IsCounted all rest 0 k (f + n)) (sym is) (counted_on inside some.1 same.1), omega (arith, is))
              | inr other ↦ anew (inr (some.1, other.1))
            ]
      ]
    where
      anew : (runs ≡ 0) ⊎ ((runs ≢ 0) × (f ≢ next)) → IsCounted all rest 0 more (f + n) × (more ≤ runs + 1)
      anew why =
          let is = begins why in
          (subst (λ (k : ℕ). IsCounted all rest 0 k (f + n)) (sym is) (counted_more inside why), omega (arith, is))

-- what is counted once no entry is left
pub counted_all : (all rest : List ℕ) (skip runs next : ℕ) → rest ≡ [] → IsCounted all rest skip runs next → runs ≡ run_count_of all
counted_all all rest skip runs next none counted =
    let nothing : drop skip rest ≡ [] = ap (λ (l : List ℕ). drop skip l) none ∙ drop_all skip [] (omega arith) in
    sym (counted.total ∙ (ap (λ (l : List ℕ). runs + runs_more runs next l) nothing ∙ no_more (nat_eq runs 0)))
  where
    no_more : (b : Bool) → runs + (if b then run_count_of [] else run_count_from next []) ≡ runs
    no_more true = omega arith
    no_more false = omega arith
