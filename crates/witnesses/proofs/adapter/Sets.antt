-- Sets of bytes by their ranges, and tests that tell what is in them.
use Rattle.std.proofs.Common.{ℕ, zero, suc, ◌≡◌, ◌<◌, ◌≤◌, ◌+◌, ◌&&◌, ◌||◌, Bool, true, false, List, [], ◌∷◌, length, slice_index, slice_index_or, nat_le, nat_lt, nat_eq, ◌⊎◌, inl, inr, arith, refl, ap, ◌∙◌, ◌-◌, All}
use Rattle.std.proofs.lemmas.Bool.{eqb-true, ltb-true}
use Rattle.std.proofs.lemmas.Bool.Decides.{nat_tests, eqb_tells, leb_tells}
use Rattle.adapter.specs.Device.{IsValidSector}
use Rattle.adapter.specs.Guarded.{PassesTest, HasRange, MissesRange, MissesPieces}
use Rattle.adapter.specs.Memory.{patched}
use Rattle.adapter.specs.Encoding.{AreZero}

-- the bytes from one address up to another
pub record Range : Type 0 where
  pub from : ℕ
  pub to : ℕ

unfoldable pub is_in : List Range → ℕ → Bool
is_in [] at = false
is_in (r ∷ rs) at = nat_le r.from at && nat_lt at r.to || is_in rs at

-- one of the ranges has all bytes from one address up to another
unfoldable pub covers : List Range → ℕ → ℕ → Bool
covers [] from to = false
covers (r ∷ rs) from to = nat_le r.from from && nat_le to r.to || covers rs from to

-- none of the ranges has a byte of these
unfoldable pub spares : List Range → ℕ → ℕ → Bool
spares [] from to = true
spares (r ∷ rs) from to = (nat_le to r.from || nat_le r.to from) && spares rs from to

unfoldable pub spares_all : List Range → List ℕ → Bool
spares_all rs [] = true
spares_all rs (place ∷ places) = spares rs place (place + 512) && spares_all rs places

-- what a test of a range says
covers_one : (r : Range) (rest : Bool) (from to at : ℕ) → nat_le r.from from && nat_le to r.to || rest ≡ true → from ≤ at → at < to
    → (nat_le r.from at && nat_lt at r.to ≡ true) ⊎ (rest ≡ true)
covers_one r rest from to at h low high = grind (arith, nat_tests)

spares_one : (r : Range) (rest more : Bool) (from to at : ℕ) → (nat_le to r.from || nat_le r.to from) && rest ≡ true → from ≤ at → at < to
    → nat_le r.from at && nat_lt at r.to || more ≡ true → (rest ≡ true) × (more ≡ true)
spares_one r rest more from to at h low high here = (grind (arith, nat_tests), grind (arith, nat_tests))

pub true-false : {a : Bool} → a ≡ true → a ≡ false → ⊥
true-false x y = (cc)

or_left : (a b : Bool) → a ≡ true → a || b ≡ true
or_left true b h = refl
or_left false b h = absurd (true-false h refl)

or_right : (a b : Bool) → b ≡ true → a || b ≡ true
or_right true b h = refl
or_right false b h = h

pub both : (a b : Bool) → a && b ≡ true → (a ≡ true) × (b ≡ true)
both true b h = (refl, h)
both false b h = absurd (true-false h refl)

pub covered : (rs : List Range) (from to : ℕ) → covers rs from to ≡ true → HasRange (PassesTest (is_in rs)) from to
unfolding covers is_in
covered [] from to h at low high = h
covered (r ∷ rs) from to h at low high =
    elim (covers_one r (covers rs from to) from to at h low high) [
      | inl here ↦ or_left (nat_le r.from at && nat_lt at r.to) (is_in rs at) here
      | inr later ↦ or_right (nat_le r.from at && nat_lt at r.to) (is_in rs at) (covered rs from to later at low high)
    ]

pub spared : (rs : List Range) (from to : ℕ) → spares rs from to ≡ true → MissesRange (PassesTest (is_in rs)) from to
unfolding spares is_in
spared [] from to h at low high here = true-false here refl
spared (r ∷ rs) from to h at low high here =
    let later = spares_one r (spares rs from to) (is_in rs at) from to at h low high here in
    spared rs from to later.0 at low high later.1

-- no byte of a piece is in the set
avoids_piece : (rs : List Range) (places : List ℕ) (k : ℕ) → spares_all rs places ≡ true → k < length places → (at : ℕ) → slice_index places k ≤ at → at < slice_index places k + 512
    → is_in rs at ≡ true → ⊥
unfolding spares_all
avoids_piece rs [] k h less at low high here = omega arith
avoids_piece rs (place ∷ places) zero h less at low high here = spared rs place (place + 512) (both _ _ h).0 at low high here
avoids_piece rs (place ∷ places) (suc k) h less at low high here = avoids_piece rs places k (both _ _ h).1 (omega (arith, less)) at low high here

pub avoided : (rs : List Range) (places : List ℕ) → spares_all rs places ≡ true → MissesPieces (PassesTest (is_in rs)) places
unfolding spares_all
avoided rs places h at here p = avoids_piece rs places p.number h p.number_in_range at p.from p.to here

-- ---- tests of bytes

unfoldable pub are_bytes : List ℕ → Bool
are_bytes [] = true
are_bytes (b ∷ bs) = nat_lt b 256 && are_bytes bs

-- so many bytes from a place on are zero
unfoldable pub zero_run : List ℕ → ℕ → ℕ → Bool
zero_run bytes from zero = true
zero_run bytes from (suc n) = nat_eq (slice_index bytes from) 0 && zero_run bytes (suc from) n

zero_in_run : (bytes : List ℕ) (from n : ℕ) → zero_run bytes from n ≡ true → (i : ℕ) → from ≤ i → i < from + n → slice_index bytes i ≡ 0
unfolding zero_run
zero_in_run bytes from zero h i low high = absurd (omega (arith, low, high))
zero_in_run bytes from (suc n) h i low high =
    let here : slice_index bytes from ≡ 0 = eqb-true (slice_index bytes from) 0 (both _ _ h).0 in
    elim (eqb_tells i from) [
      | inl same ↦ ap (λ (k : ℕ). slice_index bytes k) same.1 ∙ here
      | inr other ↦ zero_in_run bytes (suc from) n (both _ _ h).1 i (omega (arith, low, other.1)) (omega (arith, high))
    ]

pub zeros_are : (bytes : List ℕ) (from n : ℕ) → zero_run bytes from n ≡ true → AreZero bytes from (from + n)
zeros_are bytes from n h i low high = zero_in_run bytes from n h i low high

bytes_each : (bytes : List ℕ) (k d : ℕ) → are_bytes bytes ≡ true → (k < length bytes) ⊎ (d < 256) → slice_index_or bytes k d < 256
unfolding are_bytes
bytes_each [] k d h (inl less) = absurd (omega (arith, less))
bytes_each [] k d h (inr small) = small
bytes_each (b ∷ bs) zero d h either = ltb-true b 256 (both _ _ h).0
bytes_each (b ∷ bs) (suc k) d h (inl less) = bytes_each bs k d (both _ _ h).1 (inl (omega (arith, less)))
bytes_each (b ∷ bs) (suc k) d h (inr small) = bytes_each bs k d (both _ _ h).1 (inr small)

pub all_bytes : (bytes : List ℕ) → are_bytes bytes ≡ true → All (λ b. b < 256) bytes
all_bytes bytes h = λ k d less. bytes_each bytes k d h (inl less)

pub is_sector : (bytes : List ℕ) → length bytes ≡ 512 → are_bytes bytes ≡ true → IsValidSector bytes
is_sector bytes size h = (size, all_bytes bytes h)

-- a memory of bytes, with these bytes in it, is one of bytes
pub bytes_patched : (memory : ℕ → ℕ) (at : ℕ) (bs : List ℕ) → are_bytes bs ≡ true → ((a : ℕ) → memory a < 256) → (a : ℕ) → patched memory at bs a < 256
unfolding patched
bytes_patched memory at bs all small a =
    elim (leb_tells at a) [
      | inl here ↦ rw here.0 (bytes_each bs (a - at) (memory a) all (inr (small a)))
      | inr there ↦ rw there.0 (small a)
    ]
