-- What a write of a port's control sets.
use Rattle.std.proofs.Common.{ℕ, ◌≡◌, ◌%◌, Bool, true, false, length, refl, sym, ◌∙◌, ap, subst}
use Rattle.std.proofs.lemmas.Bool.{cond-true, cond-false}
use Rattle.ata_types.specs.declared.Port.{Port}
use Rattle.hba_regs.specs.Bits.{bit}
use Rattle.hba_regs.specs.declared.reg.Reg.TheVariants.{Px}
use Rattle.hba_regs.specs.declared.reg.PortReg.{PortReg}
use Rattle.hba_regs.specs.declared.reg.PortReg.TheVariants.{Clb, Clbu, Fb, Fbu, Ie, Cmd, Sctl}
use Rattle.adapter.specs.Access.{Writes, port_after_write, port_after_st_write, port_after_fre_write}
use Rattle.adapter.specs.Device.{DevicePort, Device}
use Rattle.adapter.specs.Steps.{halt_after_start}
use Rattle.adapter.proofs.Changed.{changed_same}
use Rattle.refinement.specs.StepLaws.{StepLaws}

-- the port as the write leaves it
port_is : (port : Port) (r : PortReg) (v : ℕ) (old new : Device) (x : Writes (Px port r) v old new) → new.port port.0 ≡ port_after_write r v (length x.at_access.tape) (x.at_access.port port.0)
port_is port r v old new x = ap (λ (d : Device). d.port port.0) x.effect ∙ changed_same x.at_access.port port.0 _

-- and what is seen of it
pub seen : (P : DevicePort → Type 0) (port : Port) (r : PortReg) (v : ℕ) (old new : Device) (x : Writes (Px port r) v old new) → P (port_after_write r v (length x.at_access.tape) (x.at_access.port port.0)) → P (new.port port.0)
seen P port r v old new x h = subst P (sym (port_is port r v old new x)) h

-- the write adds nothing to the tape
tape_is : (port : Port) (r : PortReg) (v : ℕ) (old new : Device) (x : Writes (Px port r) v old new) → length x.at_access.tape ≡ length new.tape
tape_is port r v old new x = ap (λ (d : Device). length d.tape) (sym x.effect)

st_set : (b : Bool) (tape : ℕ) (p : DevicePort) → (port_after_st_write b tape p).st ≡ b
st_set false tape p = refl
st_set true tape p = by p.st refl
  where
    by : (s : Bool) → p.st ≡ s → (port_after_st_write true tape p).st ≡ true
    by true is = ap (λ (x : DevicePort). x.st) (cond-true p.st p _ is) ∙ is
    by false is = ap (λ (x : DevicePort). x.st) (cond-false p.st p _ is)

pub command_set : (port : Port) (v : ℕ) (old new : Device) → Writes (Px port Cmd) v old new → ((new.port port.0).st ≡ bit v 0) × ((new.port port.0).fre ≡ bit v 4)
command_set port v old new x = seen (λ (p : DevicePort). (p.st ≡ bit v 0) × (p.fre ≡ bit v 4)) port Cmd v old new x (st_set (bit v 0) (length x.at_access.tape) (x.at_access.port port.0), refl)

pub start_sets_cr_and_time : StepLaws → (port : Port) (v : ℕ) (old new : Device) → (old.port port.0).st ≡ false → bit v 0 ≡ true → Writes (Px port Cmd) v old new → ((new.port port.0).cr ≡ true) × ((new.port port.0).notes.st_set_at ≡ length new.tape)
start_sets_cr_and_time laws port v old new off on x = seen (λ (p : DevicePort). (p.cr ≡ true) × (p.notes.st_set_at ≡ length new.tape)) port Cmd v old new x
    (subst (λ (b : Bool). ((port_after_fre_write (bit v 4) (port_after_st_write b (length x.at_access.tape) p)).cr ≡ true) × ((port_after_fre_write (bit v 4) (port_after_st_write b (length x.at_access.tape) p)).notes.st_set_at ≡ length new.tape)) (sym on)
    (subst (λ (y : DevicePort). ((port_after_fre_write (bit v 4) y).cr ≡ true) × ((port_after_fre_write (bit v 4) y).notes.st_set_at ≡ length new.tape)) (sym (cond-false p.st p started still)) (refl, tape_is port Cmd v old new x)))
  where
    p : DevicePort
    p = x.at_access.port port.0

    still : (x.at_access.port port.0).st ≡ false
    still = ((laws.steps_keep _ _ x.steps).port_bits_only_fall port.0).st_stays_clear off

    started : DevicePort
    started = record (x.at_access.port port.0) {
      st = true;
      cr = true;
      broken = false;
      halt = halt_after_start (x.at_access.port port.0).halt;
      notes = record (x.at_access.port port.0).notes { st_set_at = length x.at_access.tape };
    }

pub control_set : (port : Port) (v : ℕ) (old new : Device) → Writes (Px port Sctl) v old new → ((new.port port.0).sctl_det ≡ v % 16) × ((new.port port.0).notes.sctl_written_at ≡ length new.tape)
control_set port v old new x = seen (λ (p : DevicePort). (p.sctl_det ≡ v % 16) × (p.notes.sctl_written_at ≡ length new.tape)) port Sctl v old new x (refl, tape_is port Sctl v old new x)

pub interrupts_set : (port : Port) (v : ℕ) (old new : Device) → Writes (Px port Ie) v old new → (new.port port.0).ie ≡ v
interrupts_set port v old new x = seen (λ (p : DevicePort). p.ie ≡ v) port Ie v old new x refl

pub list_set : (port : Port) (v : ℕ) (old new : Device) → Writes (Px port Clb) v old new → ((new.port port.0).bases.clb ≡ v) × ((new.port port.0).bases.clb_set ≡ true)
list_set port v old new x = seen (λ (p : DevicePort). (p.bases.clb ≡ v) × (p.bases.clb_set ≡ true)) port Clb v old new x (refl, refl)

pub list_upper_set : (port : Port) (v : ℕ) (old new : Device) → Writes (Px port Clbu) v old new → (new.port port.0).bases.clbu_set ≡ true
list_upper_set port v old new x = seen (λ (p : DevicePort). p.bases.clbu_set ≡ true) port Clbu v old new x refl

pub received_set : (port : Port) (v : ℕ) (old new : Device) → Writes (Px port Fb) v old new → ((new.port port.0).bases.fb ≡ v) × ((new.port port.0).bases.fb_set ≡ true)
received_set port v old new x = seen (λ (p : DevicePort). (p.bases.fb ≡ v) × (p.bases.fb_set ≡ true)) port Fb v old new x (refl, refl)

pub received_upper_set : (port : Port) (v : ℕ) (old new : Device) → Writes (Px port Fbu) v old new → (new.port port.0).bases.fbu_set ≡ true
received_upper_set port v old new x = seen (λ (p : DevicePort). p.bases.fbu_set ≡ true) port Fbu v old new x refl
