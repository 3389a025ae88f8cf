-- Sectors that are made zero one by one are cleared.
use Rattle.std.proofs.Common.{ℕ, true, ◌≡◌, ◌+◌, ◌&&◌, List, Option, None, Some, replicate, refl, sym, ◌∙◌, ap, inl, inr, arith}
use Rattle.std.specs.Prelude.{if◌then◌else◌, is_some, nat_le, nat_lt, option_map}
use Rattle.std.proofs.lemmas.Bool.{cases_lt, le-ltb, lt-ltb}
use Rattle.std.proofs.lemmas.Bool.Decides.{eqb_tells, leb_tells}
use Rattle.sector_store.specs.Stores.{with_sector}
use Rattle.adapter.specs.Device.{Disk}
use Rattle.adapter.specs.Steps.{disk_cleared}
use Rattle.device_model.proofs.Absurd.{fun_ext}

abbrev zeros : List ℕ
zeros = replicate 512 0

abbrev cleared : ℕ → ℕ → (ℕ → List ℕ) → ℕ → List ℕ
cleared first count told = λ k. if nat_le first k && nat_lt k (first + count) then zeros else told k

none_cleared : (first : ℕ) (told : ℕ → List ℕ) → cleared first 0 told ≡ told
none_cleared first told =
    fun_ext (λ k.
    elim (leb_tells first k) [
      | inl above ↦
          let far = above.1 in
          rw (above.0, le-ltb k (first + 0) (omega (arith, far))) refl
      | inr below ↦ rw below.0 refl
    ])

one_cleared : (first count : ℕ) (told : ℕ → List ℕ) → with_sector (cleared first count told) (first + count) zeros ≡ cleared first (count + 1) told
one_cleared first count told =
    fun_ext (λ k.
    elim (eqb_tells k (first + count)) [
      | inl here ↦
          let at = here.1 in
          let above : nat_le first k ≡ true = elim (leb_tells first k) [ inl low ↦ low.0 | inr high ↦ let far = high.1 in absurd (omega (arith, at, far)) ] in
          rw (here.0, above, lt-ltb k (first + (count + 1)) (omega (arith, at))) refl
      | inr there ↦
          let ne = there.1 in
          let same : nat_lt k (first + count) ≡ nat_lt k (first + (count + 1)) =
          elim (cases_lt k (first + count)) [
            | inl low ↦ lt-ltb k (first + count) low ∙ sym (lt-ltb k (first + (count + 1)) (omega (arith, low)))
            | inr high ↦ le-ltb k (first + count) high ∙ sym (le-ltb k (first + (count + 1)) (omega (arith, high, ne)))
          ] in
          rw (there.0, same) refl
    ])

-- none is cleared
pub clears_none : (disk : Disk) (first : ℕ) → disk_cleared disk first 0 ≡ disk
clears_none disk first = by disk.sectors refl
  where
    by : (o : Option (ℕ → List ℕ)) → disk.sectors ≡ o → disk_cleared disk first 0 ≡ disk
    by None e = λ i. record disk { sectors = (ap (λ (x : Option (ℕ → List ℕ)). option_map (cleared first 0) x) e ∙ sym e) i }
    by (Some f) e =
        λ i. record disk { sectors = (ap (λ (x : Option (ℕ → List ℕ)). option_map (cleared first 0) x) e ∙ (ap Some (none_cleared first f) ∙ sym e)) i }

mapped_more : (o : Option (ℕ → List ℕ)) (first count : ℕ) →
    option_map (λ f. with_sector f (first + count) zeros) (option_map (cleared first count) o) ≡ option_map (cleared first (count + 1)) o
mapped_more None first count = refl
mapped_more (Some f) first count = ap Some (one_cleared first count f)

-- one more is
pub clears_more : (disk : Disk) (first count : ℕ) (told new : Option (ℕ → List ℕ)) → told ≡ (disk_cleared disk first count).sectors →
    new ≡ option_map (λ f. with_sector f (first + count) zeros) told → new ≡ (disk_cleared disk first (count + 1)).sectors
clears_more disk first count told new was put =
    put ∙ (ap (λ (x : Option (ℕ → List ℕ)). option_map (λ f. with_sector f (first + count) zeros) x) was ∙ mapped_more disk.sectors first count)

mapped_tells : (o : Option (ℕ → List ℕ)) (first count : ℕ) → is_some (option_map (cleared first count) o) ≡ is_some o
mapped_tells None first count = refl
mapped_tells (Some f) first count = refl

-- a disk tells its sectors after a clear as it did
pub cleared_tells : (disk : Disk) (first count : ℕ) → is_some (disk_cleared disk first count).sectors ≡ is_some disk.sectors
cleared_tells disk first count = mapped_tells disk.sectors first count
