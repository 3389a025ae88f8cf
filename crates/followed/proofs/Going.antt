-- Accesses of a model that has gone on by steps first.
use Rattle.std.proofs.Common.{ℕ, ◌≡◌, ◌∙◌, sym, subst, true}
use Rattle.hba_regs.specs.Bits.{bit}
use Rattle.hba_regs.specs.declared.reg.Reg.{Reg}
use Rattle.hba_regs.specs.declared.reg.Reg.TheVariants.{Cap, Ghc, Is, Pi, Vs, Cap2, Bohc, Px}
use Rattle.adapter.specs.Access.{Reads, Writes}
use Rattle.adapter.specs.Device.{Device}
use Rattle.adapter.specs.KeptBySteps.{KeepsOverSteps}
use Rattle.adapter.specs.Rules.{HasPort, IsOn, MayRead, IsStable}
use Rattle.adapter.specs.Steps.{Steps}

on_stays : (old mid : Device) → KeepsOverSteps old mid → IsOn old → IsOn mid
on_stays old mid kept on = let still = kept.keeps_outside_reset on.no_reset in record { ae_is_set = still.ae_is_kept ∙ on.ae_is_set; no_reset = still.no_reset }

port_stays : (port : ℕ) (old mid : Device) → KeepsOverSteps old mid → HasPort old port → HasPort mid port
port_stays port old mid kept has = (has.0, subst (λ (pi : ℕ). bit pi port ≡ true) (sym kept.pi_is_kept) has.1)

-- a register that may be read may still be
pub may_read_still : (r : Reg) (old mid : Device) → KeepsOverSteps old mid → MayRead r old → MayRead r mid
may_read_still Cap old mid kept may = on_stays old mid kept may
may_read_still Ghc old mid kept may = tt
may_read_still Is old mid kept may = on_stays old mid kept may
may_read_still Pi old mid kept may = on_stays old mid kept may
may_read_still Vs old mid kept may = on_stays old mid kept may
may_read_still Cap2 old mid kept may = on_stays old mid kept may
may_read_still Bohc old mid kept may = on_stays old mid kept may
may_read_still (Px port r) old mid kept may = (on_stays old mid kept may.0, port_stays port.0 old mid kept may.1)

-- what holds whatever the device does, holds so still
pub stays_still : (P : Device → Type 0) (old mid : Device) → ((old mid new : Device) → Steps old mid → Steps mid new → Steps old new) → Steps old mid → IsStable P old
    → IsStable P mid
stays_still P old mid compose steps h = λ late more. h late (compose old mid late steps more)

-- steps and then a reading are a reading
pub reads_since : (r : Reg) (v : ℕ) (old mid new : Device) → ((old mid new : Device) → Steps old mid → Steps mid new → Steps old new) → Steps old mid
    → Reads r v mid new → Reads r v old new
reads_since r v old mid new compose steps reads =
    record { at_access = reads.at_access; steps = compose old mid reads.at_access steps reads.steps; shows = reads.shows; effect = reads.effect }

-- and so with a write
pub writes_since : (r : Reg) (v : ℕ) (old mid new : Device) → ((old mid new : Device) → Steps old mid → Steps mid new → Steps old new) → Steps old mid
    → Writes r v mid new → Writes r v old new
writes_since r v old mid new compose steps writes = record { at_access = writes.at_access; steps = compose old mid writes.at_access steps writes.steps; effect = writes.effect }
