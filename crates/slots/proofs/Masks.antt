-- Masks with a bit more or less, and the bits of two masks together.
use Rattle.std.proofs.Common.{ℕ, ◌≡◌, ◌≢◌, ◌*◌, ◌%◌, ◌^◌, ◌<◌, ◌↔◌, bit_and, bit_or, inl, inr, sym, ◌∙◌, subst, ⊎_elim, arith}
use Rattle.std.specs.Int.{bit_at, bit_not, w32}
use Rattle.std.proofs.lemmas.Bool.{cases_eq}
use Rattle.std.proofs.lemmas.Nat.Bits.{bit_at-lt, bit_at_or, bit_at_clear_other, bit_at_clear_same, bit_at_set_other, bit_at_set_same}
use Rattle.slots.specs.SlotMasks.{AreApart, HasOneLess, HasOneMore, IsLowestClear, IsLowestFreeSlot, IsTakenSlot, SlotMasks}

pub one_more : (mask slot : ℕ) → slot < 32 → HasOneMore mask (bit_or mask (1 * 2 ^ slot % 2 ^ 32)) slot
one_more mask slot small = (bit_at_set_same w32 mask slot small, λ k low other. bit_at_set_other w32 mask slot small k other)

pub one_less : (mask slot : ℕ) → slot < 32 → HasOneLess mask (bit_and mask (bit_not w32 (1 * 2 ^ slot % 2 ^ 32))) slot
one_less mask slot small = (bit_at_clear_same w32 mask slot small, λ k low other. bit_at_clear_other w32 mask slot small k low other)

-- a bit of both together is one of either
pub of_both : (s : SlotMasks) (k : ℕ) → (bit_at (bit_or s.queued s.plain) k ≡ 1) ↔ IsTakenSlot s k
of_both s k = (to, back)
  where
    is : bit_at (bit_or s.queued s.plain) k ≡ Rattle.std.specs.Prelude.max (bit_at s.queued k) (bit_at s.plain k)
    is = bit_at_or s.queued s.plain k

    to : bit_at (bit_or s.queued s.plain) k ≡ 1 → IsTakenSlot s k
    to one = ⊎_elim
        (λ (q : bit_at s.queued k ≡ 1). inl q)
        (λ (other : bit_at s.queued k ≢ 1). let a = bit_at-lt s.queued k in let b = bit_at-lt s.plain k in inr (omega (arith, one, is, other, a, b)))
        (cases_eq (bit_at s.queued k) 1)

    back : IsTakenSlot s k → bit_at (bit_or s.queued s.plain) k ≡ 1
    back (inl q) = let b = bit_at-lt s.plain k in omega (arith, q, is, b)
    back (inr p) = let a = bit_at-lt s.queued k in omega (arith, p, is, a)

-- the lowest one that is clear in both is the lowest free slot
pub lowest_of_both : (s : SlotMasks) (slot both : ℕ) → ((k : ℕ) → (bit_at both k ≡ 1) ↔ IsTakenSlot s k) → slot < 32 → slot < s.usable_count → IsLowestClear both slot → IsLowestFreeSlot s slot
lowest_of_both s slot both are small usable low = (small, usable, (clear s.queued inl, clear s.plain inr), λ k below. (are k).0 (low.1 k below))
  where
    clear : (mask : ℕ) → (bit_at mask slot ≡ 1 → IsTakenSlot s slot) → bit_at mask slot ≡ 0
    clear mask taken = ⊎_elim
        (λ (one : bit_at mask slot ≡ 1). let z = (are slot).1 (taken one) in let none = low.0 in absurd (omega (arith, z, none)))
        (λ (other : bit_at mask slot ≢ 1). let few = bit_at-lt mask slot in omega (arith, few, other))
        (cases_eq (bit_at mask slot) 1)

-- a slot that is free goes into one of the masks, and they stay apart
pub queued_apart : (queued plain new slot : ℕ) → AreApart queued plain → bit_at plain slot ≡ 0 → HasOneMore queued new slot → AreApart new plain
queued_apart queued plain new slot apart free more k small one = ⊎_elim
    (λ (same : k ≡ slot). subst (λ (n : ℕ). bit_at plain n ≡ 0) (sym same) free)
    (λ (other : k ≢ slot). apart k small (sym (more.1 k small other) ∙ one))
    (cases_eq k slot)

pub plain_apart : (queued plain new slot : ℕ) → AreApart queued plain → bit_at queued slot ≡ 0 → HasOneMore plain new slot → AreApart queued new
plain_apart queued plain new slot apart free more k small one = ⊎_elim
    (λ (same : k ≡ slot). let z = subst (λ (n : ℕ). bit_at queued n ≡ 1) same one in absurd (omega (arith, z, free)))
    (λ (other : k ≢ slot). more.1 k small other ∙ apart k small one)
    (cases_eq k slot)

pub less_apart : (queued plain new_queued new_plain slot : ℕ) → AreApart queued plain → HasOneLess queued new_queued slot → HasOneLess plain new_plain slot → AreApart new_queued new_plain
less_apart queued plain new_queued new_plain slot apart a b k small one = ⊎_elim
    (λ (same : k ≡ slot). subst (λ (n : ℕ). bit_at new_plain n ≡ 0) (sym same) b.0)
    (λ (other : k ≢ slot). b.1 k small other ∙ apart k small (sym (a.1 k small other) ∙ one))
    (cases_eq k slot)
