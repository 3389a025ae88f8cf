-- Bits of SACT that are clear.
use Rattle.std.proofs.Common.{ℕ, ◌≡◌, Bool, true, false, ◌||◌, length, refl, sym, ◌∙◌, ap, subst, inl, inr}
use Rattle.std.specs.Prelude.{if◌then◌else◌}
use Rattle.ata_types.specs.declared.Port.{Port}
use Rattle.hba_regs.specs.Bits.{bit}
use Rattle.hba_regs.specs.declared.reg.Reg.{Reg}
use Rattle.hba_regs.specs.declared.reg.Reg.TheVariants.{Px}
use Rattle.hba_regs.specs.declared.reg.PortReg.{PortReg}
use Rattle.hba_regs.specs.declared.reg.PortReg.TheVariants as px
use Rattle.adapter.specs.Access.{Reads, Writes, notes_after_reading, port_after_write, port_after_st_write}
use Rattle.adapter.specs.Device.{DevicePort, Device}
use Rattle.adapter.specs.Steps.{Steps, halt_after_start}
use Rattle.block_machine.specs.State.{Machine}
use Rattle.refinement.specs.StepLaws.{StepLaws}
use Rattle.adapter.specs.OneCommand.{SlotHasNoCommand}
use Rattle.refinement.specs.Slots.{SlotState, Free, Own, Serves, SlotStates, IsInSomeStage, RelatesSlot, Armed}
use Rattle.refinement.specs.Relation.{StateRelation, port_at}
use Rattle.refinement.proofs.device.FactsOverAccesses.{noted_on, written_on}
use Rattle.refinement.proofs.relation.OtherSlots.{some_none, true_false}
use Rattle.refinement.proofs.steps.RegisterWrites.{or_false}

-- a bit that is clear
abbrev IsClearBit : ℕ → DevicePort → Type 0
IsClearBit slot p = p.sact slot ≡ false

pub steps_clear : StepLaws → (port slot : ℕ) (old new : Device) → Steps old new → (old.port port).sact slot ≡ false → (new.port port).sact slot ≡ false
steps_clear laws port slot old new s u = ((laws.steps_keep _ _ s).port_bits_only_fall port).sact_stays_clear slot u

-- a slot in use whose command is over has no bit
pub over_unarmed : (uses : SlotStates) (m : Machine) (d : Device) (port slot : ℕ) → StateRelation uses m d → (uses port slot ≡ Armed → ⊥) → SlotHasNoCommand (d.port port) slot → (d.port port).sact slot ≡ false
over_unarmed uses m d port slot a unarmed over = by (uses port slot) refl (a.relates_slots port slot)
  where
    by : (u : SlotState) → uses port slot ≡ u → RelatesSlot m d.memory d.tape (d.port port) port slot u → (d.port port).sact slot ≡ false
    by Free u h = h.unarmed
    by Armed u h = absurd (unarmed u)
    by (Own o) u h = h.unqueued
    by (Serves id) u h = stage h.stage
      where
        stage : IsInSomeStage d.memory (d.port port) port slot h.pending h.command h.places → (d.port port).sact slot ≡ false
        stage (inl w) = true_false w.issued over.is_not_issued
        stage (inr (inl t)) = some_none t.taken over.is_not_taken
        stage (inr (inr (inl x))) = x.sact_is_clear
        stage (inr (inr (inr x))) = x.sact_is_clear

-- a free slot has none
pub free_unarmed : (uses : SlotStates) (m : Machine) (d : Device) → StateRelation uses m d → (port slot : ℕ) → uses port slot ≡ Free → (d.port port).sact slot ≡ false
free_unarmed uses m d a port slot free = (subst (λ (w : SlotState). RelatesSlot m d.memory d.tape (d.port port) port slot w) free (a.relates_slots port slot)).unarmed

-- ---- over readings and writes

-- bits that are cleared or stay
pub if_false : (b : Bool) (f : ℕ → Bool) (s : ℕ) → f s ≡ false → (if b then (λ _. false) else f) s ≡ false
if_false true f s h = refl
if_false false f s h = h

module _ (slot : ℕ) where
  reading_clear : (p : DevicePort) (r : PortReg) (v : ℕ) → IsClearBit slot p → IsClearBit slot (record p { notes = notes_after_reading r v p })
  reading_clear p r v u = u

  command_clear : (st : Bool) (tape : ℕ) (p : DevicePort) → IsClearBit slot p → IsClearBit slot (port_after_st_write st tape p)
  command_clear false tape p u = if_false p.st p.sact slot u
  command_clear true tape p u = by p.st
    where
      by : (b : Bool) → IsClearBit slot (if b then p else record p { st = true; cr = true; broken = false; halt = halt_after_start p.halt; notes = record p.notes { st_set_at = tape } })
      by true = u
      by false = u

  writing_clear : (r : PortReg) (v tape : ℕ) (p : DevicePort) → (r ≡ px.Sact → bit v slot ≡ false) → IsClearBit slot p → IsClearBit slot (port_after_write r v tape p)
  writing_clear px.Sact v tape p clear u = ap (λ (b : Bool). p.sact slot || b) (clear refl) ∙ or_false (p.sact slot) ∙ u
  writing_clear px.Cmd v tape p clear u = command_clear (bit v 0) tape p u
  writing_clear px.Clb v tape p clear u = u
  writing_clear px.Clbu v tape p clear u = u
  writing_clear px.Fb v tape p clear u = u
  writing_clear px.Fbu v tape p clear u = u
  writing_clear px.Is v tape p clear u = u
  writing_clear px.Ie v tape p clear u = u
  writing_clear px.Tfd v tape p clear u = u
  writing_clear px.Sig v tape p clear u = u
  writing_clear px.Ssts v tape p clear u = u
  writing_clear px.Sctl v tape p clear u = u
  writing_clear px.Serr v tape p clear u = u
  writing_clear px.Ci v tape p clear u = u

pub reads_clear : StepLaws → (port slot : ℕ) (r : Reg) (v : ℕ) (old new : Device) → Reads r v old new → (old.port port).sact slot ≡ false → (new.port port).sact slot ≡ false
reads_clear laws port slot r v old new x u =
    subst (λ (d : Device). IsClearBit slot (d.port port)) (sym x.effect)
    (noted_on (IsClearBit slot) (port_at port) (reading_clear slot) r v x.at_access (steps_clear laws port slot old x.at_access x.steps u))

pub writes_clear : StepLaws → (port : Port) (slot : ℕ) (r : Reg) (v : ℕ) (old new : Device) → (r ≡ Px port px.Sact → bit v slot ≡ false) → Writes r v old new →
    (old.port port.0).sact slot ≡ false → (new.port port.0).sact slot ≡ false
writes_clear laws port slot r v old new clear x u =
    subst (λ (d : Device). IsClearBit slot (d.port port.0)) (sym x.effect)
    (written_on (IsClearBit slot) port (reading_clear slot) (λ p h. h) r v x.at_access
    (λ q is. writing_clear slot q v (length x.at_access.tape) (x.at_access.port port.0) (λ c. clear (is ∙ ap (Px port) c)))
    (steps_clear laws port.0 slot old x.at_access x.steps u))
