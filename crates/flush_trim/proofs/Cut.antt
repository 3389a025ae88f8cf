-- A range that is cut from its front is the sectors of its entries, in order.
use Rattle.std.proofs.Common.{Bool, ℕ, zero, suc, ◌≡◌, ◌+◌, ◌*◌, ◌-◌, ◌<◌, ◌≤◌, ◌⊎◌, inl, inr, ⊎_elim, List, [], ◌∷◌, ◌++◌, length, drop, refl, sym, ap, ap₂, ◌∙◌, arith, append-nil}
use Rattle.std.specs.Prelude.{min, if◌then◌else◌}
use Rattle.std.proofs.lemmas.Bool.{cases_lt, le-ltb, lt-ltb}
use Rattle.std.proofs.lemmas.List.{get_or-drop}
use Rattle.std.proofs.Math.Nat.{min-eq_left, min-eq_right}
use Rattle.byteorder.specs.Endian.{little_from}
use Rattle.adapter.specs.Trim.{consecutive, trim_sectors}
use Rattle.flush_trim.specs.TrimBlocks.{entry_first, entry_length, wanted_entry_first, wanted_entry_length}

consecutive-add : (m n a : ℕ) → consecutive a (m + n) ≡ consecutive a m ++ consecutive (a + m) n
consecutive-add zero n a =
    let none : zero + n ≡ n = omega arith in
    let same : a + zero ≡ a = omega arith in
    rw (none, same) refl
consecutive-add (suc m) n a =
    let more : suc m + n ≡ suc (m + n) = omega arith in
    let next : suc a + m ≡ a + suc m = omega arith in
    rw (more, consecutive-add m n (suc a), next) refl

-- the front of a run of sectors, and the rest of it
split_at : (a b m n count : ℕ) → m + n ≡ count → (n ≡ 0) ⊎ (b ≡ a + m) → consecutive a m ++ consecutive b n ≡ consecutive a count
split_at a b m n count whole (inl none) =
    let same : m ≡ count = omega (arith, whole, none) in
    rw (none, append-nil, same) refl
split_at a b m n count whole (inr next) = rw (next, ← whole) (sym (consecutive-add m n a))

-- the entries behind the first are those of the rest of the range
first_behind : (first count place : ℕ) → wanted_entry_first first count (suc place) ≡ wanted_entry_first (first + 65535) (count - 65535) place
first_behind first count place = ⊎_elim
    (λ (less : 65535 * suc place < count).
    let rest : 65535 * place < count - 65535 = omega (arith, less) in
    rw (lt-ltb (65535 * suc place) count less, lt-ltb (65535 * place) (count - 65535) rest) (omega arith))
    (λ (most : count ≤ 65535 * suc place).
    let rest : count - 65535 ≤ 65535 * place = omega (arith, most) in
    rw (le-ltb (65535 * suc place) count most, le-ltb (65535 * place) (count - 65535) rest) refl)
    (cases_lt (65535 * suc place) count)

length_behind : (count place : ℕ) → wanted_entry_length count (suc place) ≡ wanted_entry_length (count - 65535) place
length_behind count place =
    let same : count - 65535 * suc place ≡ count - 65535 - 65535 * place = omega arith in
    ap (λ (n : ℕ). min n 65535) same

-- ---- by entries

-- these entries cut the range
abbrev AreEntries : (n : ℕ) → List ℕ → (first count : ℕ) → Type 0
AreEntries n block first count = (place : ℕ) → place < n → (entry_first block place ≡ wanted_entry_first first count place) × (entry_length block place ≡ wanted_entry_length count place)

-- what is read behind a list's first bytes is read of the rest
pub from_drop : (n i at : ℕ) (xs : List ℕ) → little_from (at + i) n xs ≡ little_from i n (drop at xs)
from_drop zero i at xs = refl
from_drop (suc n) i at xs =
    let next : suc (at + i) ≡ at + suc i = omega arith in
    ap₂ (λ (x y : ℕ). x + 256 * y) (sym (get_or-drop at xs i 0)) (ap (λ (j : ℕ). little_from j n xs) next ∙ from_drop n (suc i) at xs)

entries_behind : (n a b c d e f l h : ℕ) (rest : List ℕ) (first count : ℕ) → AreEntries (suc n) (a ∷ b ∷ c ∷ d ∷ e ∷ f ∷ l ∷ h ∷ rest) first count → AreEntries n rest (first + 65535) (count - 65535)
entries_behind n a b c d e f l h rest first count cut place small =
    let block : List ℕ = a ∷ b ∷ c ∷ d ∷ e ∷ f ∷ l ∷ h ∷ rest in
    let x = cut (suc place) (omega (arith, small)) in
    let at : 8 * suc place ≡ 8 + 8 * place = omega arith in
    let past : 8 * suc place + 6 ≡ 8 + (8 * place + 6) = omega arith in (
      sym (from_drop 6 (8 * place) 8 block) ∙ ap (λ (i : ℕ). little_from i 6 block) (sym at) ∙ x.0 ∙ first_behind first count place,
      sym (from_drop 2 (8 * place + 6) 8 block) ∙ ap (λ (i : ℕ). little_from i 2 block) (sym past) ∙ x.1 ∙ length_behind count place,
    )

-- the first entry, and the others
whole_is : (f l first count : ℕ) → f ≡ wanted_entry_first first count 0 → l ≡ wanted_entry_length count 0 → consecutive f l ++ consecutive (first + 65535) (count - 65535) ≡ consecutive first count
whole_is f l first count f_is l_is = ⊎_elim
    (λ (some : 0 < count).
    let same : f ≡ first = f_is ∙ ap (λ (b : Bool). if b then first + 65535 * 0 else 0) (lt-ltb (65535 * 0) count (omega (arith, some))) ∙ omega arith in
    ap (λ (x : ℕ). consecutive x l ++ consecutive (first + 65535) (count - 65535)) same ∙ parts some)
    (λ (none : count ≤ 0).
    let zero_l : l ≡ 0 = l_is ∙ min-eq_left (omega (arith, none)) ∙ omega (arith, none) in
    let gone : count ≡ 0 = omega (arith, none) in
    let left : count - 65535 ≡ 0 = omega (arith, none) in
    rw (zero_l, left, gone) refl)
    (cases_lt 0 count)
  where
    parts : 0 < count → consecutive first l ++ consecutive (first + 65535) (count - 65535) ≡ consecutive first count
    parts some = ⊎_elim
        (λ (full : 65535 < count).
        let most : l ≡ 65535 = l_is ∙ min-eq_right (omega (arith, full)) in
        split_at first (first + 65535) l (count - 65535) count (omega (arith, most, full)) (inr (omega (arith, most))))
        (λ (few : count ≤ 65535).
        let all : l ≡ count = l_is ∙ min-eq_left (omega (arith, few)) ∙ omega arith in
        split_at first (first + 65535) l (count - 65535) count (omega (arith, all, few)) (inl (omega (arith, few))))
        (cases_lt 65535 count)

-- numbers in six bytes, and in two
six : (a b c d e f : ℕ) → a + 256 * (b + 256 * (c + 256 * (d + 256 * (e + 256 * f)))) ≡ a + 256 * (b + 256 * (c + 256 * (d + 256 * (e + 256 * (f + 256 * 0)))))
six a b c d e f = omega arith

two : (l h : ℕ) → l + 256 * h ≡ l + 256 * (h + 256 * 0)
two l h = omega arith

pub cut_means : (n : ℕ) (block : List ℕ) (first count : ℕ) → length block ≡ 8 * n → count ≤ 65535 * n → AreEntries n block first count → trim_sectors block ≡ consecutive first count
cut_means zero [] first count size few cut = let none : count ≡ 0 = omega (arith, few) in rw none refl
cut_means zero (a ∷ block) first count size few cut = absurd (omega (arith, size))
cut_means (suc n) (a ∷ b ∷ c ∷ d ∷ e ∷ f ∷ l ∷ h ∷ rest) first count size few cut =
    let x = cut 0 (omega arith) in
    let f_is : a + 256 * (b + 256 * (c + 256 * (d + 256 * (e + 256 * f)))) ≡ wanted_entry_first first count 0 = six a b c d e f ∙ x.0 in
    let l_is : l + 256 * h ≡ wanted_entry_length count 0 = two l h ∙ x.1 in
    ap (λ (list : List ℕ). consecutive (a + 256 * (b + 256 * (c + 256 * (d + 256 * (e + 256 * f))))) (l + 256 * h) ++ list)
    (cut_means n rest (first + 65535) (count - 65535) (omega (arith, size)) (omega (arith, few)) (entries_behind n a b c d e f l h rest first count cut))
    ∙ whole_is (a + 256 * (b + 256 * (c + 256 * (d + 256 * (e + 256 * f))))) (l + 256 * h) first count f_is l_is
cut_means (suc n) [] first count size few cut = absurd (omega (arith, size))
cut_means (suc n) (a ∷ []) first count size few cut = absurd (omega (arith, size))
cut_means (suc n) (a ∷ b ∷ []) first count size few cut = absurd (omega (arith, size))
cut_means (suc n) (a ∷ b ∷ c ∷ []) first count size few cut = absurd (omega (arith, size))
cut_means (suc n) (a ∷ b ∷ c ∷ d ∷ []) first count size few cut = absurd (omega (arith, size))
cut_means (suc n) (a ∷ b ∷ c ∷ d ∷ e ∷ []) first count size few cut = absurd (omega (arith, size))
cut_means (suc n) (a ∷ b ∷ c ∷ d ∷ e ∷ f ∷ []) first count size few cut = absurd (omega (arith, size))
cut_means (suc n) (a ∷ b ∷ c ∷ d ∷ e ∷ f ∷ l ∷ []) first count size few cut = absurd (omega (arith, size))
