-- What holds of a port goes on over an access: the device's steps come first, and then the access's effect.
use Rattle.std.proofs.Common.{ℕ, ◌≡◌, ◌≢◌, Bool, true, false, length, refl, sym, ◌∙◌, ap, subst}
use Rattle.std.specs.Prelude.{if◌then◌else◌}
use Rattle.std.proofs.lemmas.Bool.{cond-false}
use Rattle.ata_types.specs.declared.Port.{Port}
use Rattle.hba_regs.specs.Bits.{bit}
use Rattle.hba_regs.specs.declared.reg.Reg.{Reg}
use Rattle.hba_regs.specs.declared.reg.Reg.TheVariants.{Cap, Ghc, Is, Pi, Vs, Cap2, Bohc, Px}
use Rattle.hba_regs.specs.declared.reg.PortReg.{PortReg}
use Rattle.adapter.specs.Access.{Access, Does, notes_after_reading, device_after_reading, device_after_write, port_after_write, port_after_hba_is_write}
use Rattle.adapter.specs.Access.Access.{Reading, Writing, Loading, Storing}
use Rattle.adapter.specs.Device.{DevicePort, Device}
use Rattle.adapter.specs.Steps.{Steps}
use Rattle.adapter.proofs.Changed.{changed_other}
use Rattle.refinement.specs.Relation.{port_at}
use Rattle.refinement.specs.Fragments.{AccessesNoOtherPort}
use Rattle.refinement.proofs.steps.AdapterCalls.{noted_tape}
use Rattle.refinement.proofs.device.HealthyPort.{at_port, written_tape}

-- the device's steps in an access, which alone gain entries
pub access_steps : (access : Access) (old new : Device) → Does access old new → (mid : Device) × Steps old mid × (new.tape ≡ mid.tape)
access_steps (Reading r v) old new x = (x.at_access, x.steps, ap (λ (d : Device). d.tape) x.effect ∙ noted_tape r v x.at_access)
access_steps (Writing r v) old new x = (x.at_access, x.steps, ap (λ (d : Device). d.tape) x.effect ∙ written_tape r v x.at_access)
access_steps (Loading at bytes) old new x = (new, x.steps, refl)
access_steps (Storing at bytes) old new x = (x.at_access, x.steps, ap (λ (d : Device). d.tape) x.effect)

module _ (P : DevicePort → Type 0) (port : Port) (noting : (p : DevicePort) (r : PortReg) (v : ℕ) → P p → P (record p { notes = notes_after_reading r v p })) where
  pub noted_on : (r : Reg) (v : ℕ) (d : Device) → P (d.port port.0) → P ((device_after_reading r v d).port port.0)
  noted_on (Px p r) v d h = at_port P P d p.0 port.0 _ h (λ e x. noting (d.port p.0) r v x) (λ ne x. x)
  noted_on Cap v d h = h
  noted_on Ghc v d h = h
  noted_on Is v d h = h
  noted_on Pi v d h = h
  noted_on Vs v d h = h
  noted_on Cap2 v d h = h
  noted_on Bohc v d h = h

  module _ (acknowledging : (p : DevicePort) → P p → P (port_after_hba_is_write p)) where
    pub written_on : (r : Reg) (v : ℕ) (d : Device) → ((q : PortReg) → r ≡ Px port q → P (d.port port.0) → P (port_after_write q v (length d.tape) (d.port port.0))) → P (d.port port.0) → P ((device_after_write r v d).port port.0)
    written_on (Px p r) v d writing h = at_port P P d p.0 port.0 _ h
        (λ e x.
        let same : p ≡ port = ap port_at e in
        subst (λ (q : Port). P (d.port q.0) → P (port_after_write r v (length d.tape) (d.port q.0))) (sym same) (writing r (ap (λ (q : Port). Px q r) same)) x)
        (λ ne x. x)
    written_on Is v d writing h = by (bit v port.0)
      where
        by : (b : Bool) → P (if b then port_after_hba_is_write (d.port port.0) else d.port port.0)
        by true = acknowledging (d.port port.0) h
        by false = h
    written_on Cap v d writing h = h
    written_on Ghc v d writing h = h
    written_on Pi v d writing h = h
    written_on Vs v d writing h = h
    written_on Cap2 v d writing h = h
    written_on Bohc v d writing h = h

    -- what holds before the access's effect holds after it
    pub effect_keeps : (access : Access) (old new : Device) (x : Does access old new) →
        ((r : PortReg) (v : ℕ) (mid : Device) → access ≡ Writing (Px port r) v → Steps old mid → P (mid.port port.0) → P (port_after_write r v (length mid.tape) (mid.port port.0))) →
        P ((access_steps access old new x).0.port port.0) → P (new.port port.0)
    unfolding access_steps
    effect_keeps (Reading r v) old new x writing h = subst (λ (d : Device). P (d.port port.0)) (sym x.effect) (noted_on r v x.at_access h)
    effect_keeps (Writing r v) old new x writing h = subst (λ (d : Device). P (d.port port.0)) (sym x.effect)
        (written_on r v x.at_access (λ q is. writing q v x.at_access (ap (λ (z : Reg). Writing z v) is) x.steps) h)
    effect_keeps (Loading at bytes) old new x writing h = h
    effect_keeps (Storing at bytes) old new x writing h = subst (λ (d : Device). P (d.port port.0)) (sym x.effect) h

-- ---- a port that the access isn't of

module _ (port : Port) (q : ℕ) (other : q ≢ port.0) where
  beside : (p : Port) → p ≡ port → q ≢ p.0
  beside p is e = other (e ∙ ap (λ (x : Port). x.0) is)

  noted_beside : (r : Reg) (v : ℕ) (d : Device) → AccessesNoOtherPort port (Reading r v) → (device_after_reading r v d).port q ≡ d.port q
  noted_beside (Px p r) v d is = changed_other d.port p.0 _ q (beside p is)
  noted_beside Cap v d is = refl
  noted_beside Ghc v d is = refl
  noted_beside Is v d is = refl
  noted_beside Pi v d is = refl
  noted_beside Vs v d is = refl
  noted_beside Cap2 v d is = refl
  noted_beside Bohc v d is = refl

  written_beside : (r : Reg) (v : ℕ) (d : Device) → AccessesNoOtherPort port (Writing r v) → (device_after_write r v d).port q ≡ d.port q
  written_beside (Px p r) v d is = changed_other d.port p.0 _ q (beside p is)
  written_beside Cap v d is = absurd is
  written_beside Ghc v d is = absurd is
  written_beside Is v d is = cond-false (bit v q) (port_after_hba_is_write (d.port q)) (d.port q) (is.no_other_bit_is_set q other)
  written_beside Pi v d is = absurd is
  written_beside Vs v d is = absurd is
  written_beside Cap2 v d is = absurd is
  written_beside Bohc v d is = absurd is

  -- it is as the device's steps left it
  pub beside_same : (access : Access) (old new : Device) (x : Does access old new) → AccessesNoOtherPort port access → new.port q ≡ (access_steps access old new x).0.port q
  unfolding access_steps
  beside_same (Reading r v) old new x is = ap (λ (d : Device). d.port q) x.effect ∙ noted_beside r v x.at_access is
  beside_same (Writing r v) old new x is = ap (λ (d : Device). d.port q) x.effect ∙ written_beside r v x.at_access is
  beside_same (Loading at bytes) old new x is = refl
  beside_same (Storing at bytes) old new x is = ap (λ (d : Device). d.port q) x.effect
