-- The accesses of one port leave the others to the device.
use Rattle.std.proofs.Common.{ℕ, ◌≡◌, inl, inr, refl, sym, subst}
use Rattle.ata_types.specs.declared.Port.{Port}
use Rattle.hba_regs.specs.declared.reg.Reg.{Reg}
use Rattle.hba_regs.specs.declared.reg.Reg.TheVariants.{Px}
use Rattle.hba_regs.specs.declared.reg.PortReg.{PortReg}
use Rattle.adapter.specs.Access.{Access}
use Rattle.adapter.specs.Access.Access.{Reading, Writing, Loading, Storing}
use Rattle.refinement.specs.Fragments.{AccessesNoOtherPort}
use Rattle.port_control.specs.PortEvents.{IsPxisSstsOrOwnIsAccess}

module _ (port : Port) where
  -- a register of the port is read, or written
  reading_own : (r : PortReg) (at : Reg) (v : ℕ) → at ≡ Px port r → AccessesNoOtherPort port (Reading at v)
  reading_own r at v e = subst (λ (w : Reg). AccessesNoOtherPort port (Reading w v)) (sym e) refl

  writing_own : (r : PortReg) (at : Reg) (v : ℕ) → at ≡ Px port r → AccessesNoOtherPort port (Writing at v)
  writing_own r at v e = subst (λ (w : Reg). AccessesNoOtherPort port (Writing w v)) (sym e) refl

  pub looking_of : (access : Access) → IsPxisSstsOrOwnIsAccess port access → AccessesNoOtherPort port access
  looking_of (Reading r v) (inl e) = reading_own _ r v e
  looking_of (Reading r v) (inr e) = reading_own _ r v e
  looking_of (Writing r v) (inl e) = writing_own _ r v e
  looking_of (Writing r v) (inr is) = subst (λ (w : Reg). AccessesNoOtherPort port (Writing w v)) (sym is.0) is.1
  looking_of (Storing at bytes) here = absurd here
  looking_of (Loading at bytes) here = absurd here
