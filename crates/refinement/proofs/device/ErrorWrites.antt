-- What writes of PxSCTL, PxSERR and PxIS do to a port's link and to its errors.
use Rattle.std.proofs.Common.{ℕ, ◌≡◌, ◌≢◌, ◌+◌, ◌*◌, ◌/◌, ◌%◌, ◌&&◌, ◌||◌, not, Bool, true, false, refl, sym, ◌∙◌, ap, subst, arith, eq-eqb, ne_eqb, ◌⊎◌, inl, inr}
use Rattle.std.specs.Prelude.{if◌then◌else◌, nat_eq}
use Rattle.std.proofs.lemmas.Bool.{and_right, or_right, cases_eq}
use Rattle.ata_types.specs.declared.Port.{Port}
use Rattle.hba_regs.specs.Bits.{bit}
use Rattle.hba_regs.specs.declared.reg.Reg.TheVariants.{Px}
use Rattle.hba_regs.specs.declared.reg.PortReg.TheVariants.{Is, Sctl, Serr}
use Rattle.adapter.specs.Access.{Writes}
use Rattle.adapter.specs.Device.{DevicePort, Device}
use Rattle.adapter.specs.KeptBySteps.{KeepsControlsFlagsRise}
use Rattle.refinement.specs.StepLaws.{StepLaws}
use Rattle.refinement.proofs.device.ErrorBits.{steps_undue}
use Rattle.refinement.proofs.device.ControlWrites.{seen}

-- ---- PxSCTL

pub comreset_shown : (port : Port) (v : ℕ) (old new : Device) → v % 16 ≡ 1 → Writes (Px port Sctl) v old new → ((new.port port.0).ssts_det ≡ 0) × ((new.port port.0).tfd % 256 ≡ 0x7f)
comreset_shown port v old new one x = seen (λ (p : DevicePort). (p.ssts_det ≡ 0) × (p.tfd % 256 ≡ 0x7f)) port Sctl v old new x
    (subst (λ (b : Bool). ((if b then 0 else (x.at_access.port port.0).ssts_det) ≡ 0) × ((if b then 0x7f + 256 * ((x.at_access.port port.0).tfd / 256) else (x.at_access.port port.0).tfd) % 256 ≡ 0x7f)) (sym (eq-eqb (v % 16) 1 one)) (refl, omega arith))

pub release_due : StepLaws → (port : Port) (v : ℕ) (old new : Device) → old.hr ≡ false → (old.port port.0).sctl_det ≡ 1 → v % 16 ≡ 0 → Writes (Px port Sctl) v old new → (new.port port.0).link_due ≡ true
release_due laws port v old new off one none x =
    let c : KeepsControlsFlagsRise (old.port port.0) (x.at_access.port port.0) = ((laws.steps_keep _ _ x.steps).keeps_outside_reset off).controls_are_kept port.0 in
    seen (λ (p : DevicePort). p.link_due ≡ true) port Sctl v old new x
    (or_right (x.at_access.port port.0).link_due _ (ap (λ (b : Bool). b && nat_eq (v % 16) 0) (eq-eqb (x.at_access.port port.0).sctl_det 1 (c.sctl_det_is_kept ∙ one)) ∙ eq-eqb (v % 16) 0 none))

pub undue_written : StepLaws → (port : Port) (v : ℕ) (old new : Device) → old.hr ≡ false → (old.port port.0).link_due ≡ false → ((old.port port.0).sctl_det ≡ 1 → v % 16 ≢ 0) → Writes (Px port Sctl) v old new →
    (new.port port.0).link_due ≡ false
undue_written laws port v old new off undue other x =
    let c : KeepsControlsFlagsRise (old.port port.0) (x.at_access.port port.0) = ((laws.steps_keep _ _ x.steps).keeps_outside_reset off).controls_are_kept port.0 in
    let a : (x.at_access.port port.0).link_due ≡ false = steps_undue laws port.0 old x.at_access off undue x.steps in
    seen (λ (p : DevicePort). p.link_due ≡ false) port Sctl v old new x
    (ap (λ (z : Bool). z || nat_eq (x.at_access.port port.0).sctl_det 1 && nat_eq (v % 16) 0) a ∙ both c (cases_eq (x.at_access.port port.0).sctl_det 1))
  where
    both : KeepsControlsFlagsRise (old.port port.0) (x.at_access.port port.0) → ((x.at_access.port port.0).sctl_det ≡ 1) ⊎ ((x.at_access.port port.0).sctl_det ≢ 1) → nat_eq (x.at_access.port port.0).sctl_det 1 && nat_eq (v % 16) 0 ≡ false
    both c (inl one) = and_right (nat_eq (x.at_access.port port.0).sctl_det 1) (nat_eq (v % 16) 0) (ne_eqb _ _ (other (sym c.sctl_det_is_kept ∙ one)))
    both c (inr ne) = ap (λ (z : Bool). z && nat_eq (v % 16) 0) (ne_eqb _ _ ne)

-- ---- PxSERR and PxIS

pub errors_cleared : (port : Port) (v : ℕ) (old new : Device) → Writes (Px port Serr) v old new → (bit v 16 ≡ true → (new.port port.0).serr_n ≡ false) × (bit v 26 ≡ true → (new.port port.0).serr_x ≡ false)
errors_cleared port v old new x = seen (λ (p : DevicePort). (bit v 16 ≡ true → p.serr_n ≡ false) × (bit v 26 ≡ true → p.serr_x ≡ false)) port Serr v old new x (
  λ set. and_right (x.at_access.port port.0).serr_n (not (bit v 16)) (ap not set),
  λ set. and_right (x.at_access.port port.0).serr_x (not (bit v 26)) (ap not set),
)

pub causes_cleared : (port : Port) (v : ℕ) (old new : Device) → Writes (Px port Is) v old new → (place : ℕ) → bit v place ≡ true → (new.port port.0).is place ≡ false
causes_cleared port v old new x = seen (λ (p : DevicePort). (place : ℕ) → bit v place ≡ true → p.is place ≡ false) port Is v old new x
    (λ place set. and_right ((x.at_access.port port.0).is place) (not (bit v place)) (ap not set))
