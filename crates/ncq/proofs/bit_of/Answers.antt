use Rattle.std.proofs.Common.{ℕ, ◌≡◌, ◌≢◌, ◌^◌, ◌<◌, ◌==◌, true, false, inl, inr, ◌∙◌, ap, subst}
use Rattle.std.proofs.lemmas.Bool.{cases_lt}
use Rattle.std.proofs.lemmas.Nat.Bits.{bit_at-zero, bit_at_above}
use Rattle.hba_regs.specs.Bits.{bit}
use Rattle.refinement.specs.Fragments.{IsSoleBit}
use Rattle.ncq.proofs.bit_of.Goals as goal

-- a bit that was set in no other bits
alone : (slot place v : ℕ) → place ≡ slot → v < 2 ^ 32 → bit v place ≡ true → ((k : ℕ) → k < 32 → k ≢ place → bit v k ≡ bit 0 k) → IsSoleBit slot v
alone slot place v same fits set others = subst (λ (p : ℕ). IsSoleBit p v) same (record { bit_is_set = set; no_other_bit_is_set = zeros })
  where
    zeros : (k : ℕ) → k ≢ place → bit v k ≡ false
    zeros k other = elim (cases_lt k 32) [
      | inl small ↦ others k small other ∙ ap (λ (n : ℕ). n == 1) (bit_at-zero k)
      | inr above ↦ ap (λ (n : ℕ). n == 1) (bit_at_above v 32 k fits above)
    ]

pub returns : goal.returns
returns c = alone c.args.slot.0 _ _ c.from.ensures c.with_bit.type_inv c.with_bit.ensures.set c.with_bit.ensures.others_are_kept
