use Rattle.std.proofs.Common.{ℕ, Option, refl, sym, subst, arith}
use Rattle.ata_types.specs.declared.Slot.{Slot}
use Rattle.error_recovery.specs.Recovery.{IsNamedSlot}
use Rattle.error_recovery.proofs.others.Goals as goal

pub without_bit-requires : goal.without_bit-requires
without_bit-requires c =
    let slot = c.in-Some.named.0.0 in
    let small = c.requires.small slot (subst (λ (o : Option (Slot × ℕ × ℕ)). IsNamedSlot o slot) (sym c.in-Some.is) refl) in
    let same = c.from.ensures in
    omega (arith, small, same)
