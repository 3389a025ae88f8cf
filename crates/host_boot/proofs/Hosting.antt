-- What accesses of the adapter's own registers do.
use Rattle.std.proofs.Common.{ℕ, ◌≡◌, sym, ◌∙◌, ap}
use Rattle.hba_regs.specs.declared.reg.Reg.TheVariants.{Cap, Ghc, Pi}
use Rattle.adapter.specs.Access.{Reads, Writes}
use Rattle.adapter.specs.Access.Access.{Reading, Writing}
use Rattle.adapter.specs.Device.{Device}
use Rattle.adapter.specs.Rules.{IsOn}
use Rattle.refinement.specs.Fragments.{AnySlotStates, IsSimulated}
use Rattle.refinement.specs.PreservedParts.{SameAdapter}
use Rattle.host_boot.specs.TakeOver.{ReadsCapOrPiOrSetsAe}
use Rattle.host_boot.specs.Laws.{Laws}
use Rattle.host_boot.specs.Laws.AccessPurpose.{AccessingHostRegisters}

pub pi_is : (w : ℕ) (old new : Device) → Reads Pi w old new → w ≡ new.pi
pi_is w old new call = call.shows ∙ sym (ap (λ (d : Device). d.pi) call.effect)

module _ (laws : Laws) where
  pub ghc_followed : (v : ℕ) (old new : Device) → ReadsCapOrPiOrSetsAe (Writing Ghc v) → Writes Ghc v old new → IsSimulated ReadsCapOrPiOrSetsAe AnySlotStates old new
  ghc_followed v old new kind call = (laws.fragments.writes AccessingHostRegisters Ghc v old new kind (λ mid steps. tt) (λ uses is. tt) call).is_simulated

  -- and another after it
  pub hosted_then : (old mid new : Device) → IsSimulated ReadsCapOrPiOrSetsAe AnySlotStates old mid → IsSimulated ReadsCapOrPiOrSetsAe AnySlotStates mid new → IsSimulated ReadsCapOrPiOrSetsAe AnySlotStates old new
  hosted_then old mid new a b = (laws.fragments.fragments_join AccessingHostRegisters AccessingHostRegisters (λ uses. uses) (λ uses. uses) (λ access may. may) (λ uses any. tt) old mid new a b).is_simulated

  -- a reading of CAP or PI
  pub cap_followed : (v : ℕ) (old new : Device) → Reads Cap v old new → IsSimulated ReadsCapOrPiOrSetsAe AnySlotStates old new
  cap_followed v old new call = (laws.fragments.reads AccessingHostRegisters Cap v old new tt call).is_simulated

  pub pi_followed : (v : ℕ) (old new : Device) → Reads Pi v old new → IsSimulated ReadsCapOrPiOrSetsAe AnySlotStates old new
  pi_followed v old new call = (laws.fragments.reads AccessingHostRegisters Pi v old new tt call).is_simulated

  pub cap_on : (v : ℕ) (old new : Device) → IsOn old → Reads Cap v old new → IsOn new
  cap_on v old new on call = laws.access_keeps_adapter_on (Reading Cap v) old new on (λ k e. absurd cc) call

  pub pi_on : (v : ℕ) (old new : Device) → IsOn old → Reads Pi v old new → IsOn new
  pi_on v old new on call = laws.access_keeps_adapter_on (Reading Pi v) old new on (λ k e. absurd cc) call

  -- CAP was read, and then PI
  pub cap_is : (v w : ℕ) (old mid new : Device) → Reads Cap v old mid → Reads Pi w mid new → v ≡ new.cap
  cap_is v w old mid new first second =
      let s : SameAdapter mid new = laws.access_keeps_adapter (Reading Pi w) mid new second in
      first.shows ∙ (sym (ap (λ (d : Device). d.cap) first.effect) ∙ sym s.cap)
