-- A port that stays healthy in a call runs well after it.
use Rattle.std.proofs.Common.{ℕ, ◌≡◌, ◌≢◌, ◌⊎◌, ◌*◌, ◌+◌, true, false, List, [], ◌∷◌, None, Some, Ok, refl, sym, ◌∙◌, inl, inr, subst}
use Rattle.std.specs.List.{All}
use Rattle.std.proofs.lemmas.List.Elements.{All-cons, All-nil, All-weaker}
use Rattle.ata_types.specs.declared.Port.{Port}
use Rattle.ata_types.specs.declared.memory.TheConstants.{FRAME_BYTES}
use Rattle.hba_regs.specs.declared.reg.Reg.TheVariants.{Ghc, Px}
use Rattle.hba_regs.specs.declared.reg.PortReg.TheVariants.{Cmd, Sctl, Sact, Ci}
use Rattle.adapter.specs.Access.{Access, DoesAll}
use Rattle.adapter.specs.Access.Access.{Reading, Writing, Loading, Storing}
use Rattle.adapter.specs.AskedSteps.{DoesOrFailsStep}
use Rattle.adapter.specs.Device.{Device}
use Rattle.adapter.specs.Rules.{IsOn}
use Rattle.adapter.specs.Steps.{Steps}
use Rattle.adapter.specs.declared.access.DeviceStep.{DeviceStep}
use Rattle.refinement.specs.PortFacts.{RunsWell, Undisturbed}
use Rattle.refinement.specs.PreservedParts.{DoesNotWrite}
use Rattle.block_machine.specs.Events.{AbstractCall, Submit, StoreAt, LoadAt, Service, Tick, Reset, RevokeOf, StepDevice, AbstractCallResult, Submitted, Stored, Loaded, Replied, WasRevoked, Stepped, TimesOutAtTick, AbstractState}
use Rattle.driver_history.specs.Histories.{ExplainsAccesses, StoresOrWritesSactOrCi, IsServedAndNotDead}
use Rattle.driver_history.specs.AccessTrace.{UsesPortsAndNotGhc, WritesNeitherCmdNorSctl}
use Rattle.port_boot.specs.States.{StaysRunningIfUndisturbed}

-- it writes neither GHC, nor PxCMD or PxSCTL of the port
abbrev pub LeavesRunning : Port → Access → Type 0
LeavesRunning port access = DoesNotWrite Ghc access × WritesNeitherCmdNorSctl port access

-- such accesses, or none
abbrev pub IsCalm : Port → List Access → Device → Device → Type 0
IsCalm port accesses old new = (All (LeavesRunning port) accesses × DoesAll accesses old new) ⊎ Steps old new

issuing_leaves : (port at : Port) (access : Access) → StoresOrWritesSactOrCi at access → LeavesRunning port access
issuing_leaves port at (Writing r v) (inl e) =
    (λ q. absurd (let z : Px at Sact ≡ Ghc = sym e ∙ q in cc), ((λ q. absurd (let z : Px at Sact ≡ Px port Cmd = sym e ∙ q in cc)), (λ q. absurd (let z : Px at Sact ≡ Px port Sctl = sym e ∙ q in cc))))
issuing_leaves port at (Writing r v) (inr e) =
    (λ q. absurd (let z : Px at Ci ≡ Ghc = sym e ∙ q in cc), ((λ q. absurd (let z : Px at Ci ≡ Px port Cmd = sym e ∙ q in cc)), (λ q. absurd (let z : Px at Ci ≡ Px port Sctl = sym e ∙ q in cc))))
issuing_leaves port at (Storing place bytes) here = (tt, (tt, tt))
issuing_leaves port at (Reading r v) here = absurd here
issuing_leaves port at (Loading place bytes) here = absurd here

one_leaves : (port : Port) (access : Access) → LeavesRunning port access → All (LeavesRunning port) (access ∷ [])
one_leaves port access is = All-cons (LeavesRunning port) access [] is (All-nil (LeavesRunning port))

-- the call isn't a reset
abbrev pub IsNoReset : AbstractCall DeviceStep → Type 0
IsNoReset ask = ask ≢ Reset

-- what laws say of a port that runs well
pub record KeepsWell : Type 0 where
  -- what the device was told to do is some of its steps
  pub asked : (step : DeviceStep) (old new : Device) → DoesOrFailsStep step old new → Steps old new
  -- over the device's steps
  pub steps : (port : ℕ) (old new : Device) → old.hr ≡ false → Steps old new → Undisturbed port old new → RunsWell (old.port port) → RunsWell (new.port port)
  -- and over accesses
  pub runs : (port : Port) (accesses : List Access) (old new : Device) → IsOn old → DoesAll accesses old new → All (DoesNotWrite Ghc) accesses → All (DoesNotWrite (Px port Sctl)) accesses
      → All (DoesNotWrite (Px port Cmd)) accesses → StaysRunningIfUndisturbed port.0 old new
  pub well : (port : ℕ) (old new : Device) → StaysRunningIfUndisturbed port old new → Undisturbed port old new → RunsWell (old.port port) → RunsWell (new.port port)

module _ (port : Port) (m : AbstractState) (accesses : List Access) (old new : Device) where
  abbrev Calm : Type 0
  Calm = IsCalm port accesses old new

  serving : (Such : Port → Type 0) → All (UsesPortsAndNotGhc Such) accesses → All (WritesNeitherCmdNorSctl port) accesses → All (LeavesRunning port) accesses
  serving Such serves leaves i e small = ((serves i e small).1, leaves i e small)

  none : accesses ≡ [] → new ≡ old → Calm
  none made same = inl (subst (λ (list : List Access). All (LeavesRunning port) list × DoesAll list old new) (sym made) (All-nil (LeavesRunning port), same))

  -- how the call came there, if it leaves the engine alone
  pub came_calmly : KeepsWell → (ask : AbstractCall DeviceStep) (said : AbstractCallResult) → ExplainsAccesses m ask said accesses old new → IsNoReset ask → All (WritesNeitherCmdNorSctl port) accesses → Calm
  came_calmly laws (StepDevice step) (Stepped true) c other leaves = inr (laws.asked step old new c.1)
  came_calmly laws (Submit r) (Submitted (Ok id)) c other leaves = inl ((λ i e small. issuing_leaves port c.1.0.port _ (c.1.2 i e small)), c.0)
  came_calmly laws (RevokeOf client number) (WasRevoked (Some replies)) c other leaves = inl ((λ i e small. issuing_leaves port c.1.0.0.port _ (c.1.1 i e small)), c.0)
  came_calmly laws (StoreAt client frame offset bytes) (Stored None) c other leaves =
      inl (subst (All (LeavesRunning port)) (sym c.1) (one_leaves port (Storing (FRAME_BYTES * frame.0 + offset) bytes) (tt, (tt, tt))), c.0)
  came_calmly laws (LoadAt client frame offset count) (Loaded (Ok bytes)) c other leaves =
      inl (subst (All (LeavesRunning port)) (sym c.1) (one_leaves port (Loading (FRAME_BYTES * frame.0 + offset) bytes) (tt, (tt, tt))), c.0)
  came_calmly laws Service (Replied replies) c other leaves = inl (serving (IsServedAndNotDead m.ports) c.1 leaves, c.0)
  came_calmly laws Tick (Replied replies) c other leaves = inl (serving (TimesOutAtTick m) c.1 leaves, c.0)
  came_calmly laws Reset said c other leaves = absurd (other refl)
  came_calmly laws ask said c other leaves = none c.0 c.1

pub runs_well : KeepsWell → (port : Port) (accesses : List Access) (old new : Device) → IsOn old → IsCalm port accesses old new → Undisturbed port.0 old new → RunsWell (old.port port.0) → RunsWell (new.port port.0)
runs_well laws port accesses old new on (inr moves) calm well = laws.steps port.0 old new on.no_reset moves calm well
runs_well laws port accesses old new on (inl (only, does)) calm well =
    laws.well port.0 old new (laws.runs port accesses old new on does (All-weaker (LeavesRunning port) (DoesNotWrite Ghc) (λ access is. is.0) accesses only)
    (All-weaker (LeavesRunning port) (DoesNotWrite (Px port Sctl)) (λ access is. is.1.1) accesses only) (All-weaker (LeavesRunning port) (DoesNotWrite (Px port Cmd)) (λ access is. is.1.0) accesses only)) calm well
