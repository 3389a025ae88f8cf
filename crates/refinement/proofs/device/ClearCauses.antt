-- Bits of PxIS stay clear while the engine stands; and what a write leaves of the port's notes.
use Rattle.std.proofs.Common.{ℕ, ◌≡◌, ◌≢◌, Bool, true, false, not, ◌&&◌, length, refl, sym, ◌∙◌, ap, subst}
use Rattle.std.proofs.lemmas.Bool.{cond-true, cond-false, both_ways}
use Rattle.ata_types.specs.declared.Port.{Port}
use Rattle.hba_regs.specs.Bits.{bit}
use Rattle.hba_regs.specs.declared.reg.PortReg.{PortReg}
use Rattle.hba_regs.specs.declared.reg.PortReg.TheVariants.{Is, Cmd, Sctl}
use Rattle.hba_regs.specs.declared.reg.Reg.TheVariants.{Px}
use Rattle.adapter.specs.Access.{Access, Does, Writes, port_after_write, port_after_st_write, port_after_fre_write}
use Rattle.adapter.specs.Device.{Notes, DevicePort, Device}
use Rattle.adapter.specs.Steps.{DeviceTransition, Can, device_after, Steps}
use Rattle.adapter.specs.Steps.DeviceTransition.{Fetch, FetchFault, Move, Clear, Done, Fault, Fatal, Fall, FrFall, LinkUp, Unplug, Plug, ResetEnds, Scribble}
use Rattle.refinement.specs.StepLaws.{StepLaws}
use Rattle.refinement.proofs.device.AwaitedLink.{leads_keep}
use Rattle.refinement.proofs.device.FactsOverAccesses.{access_steps, effect_keeps}
use Rattle.refinement.proofs.device.ErrorBits.{command_beside}
use Rattle.refinement.proofs.device.HealthyPort.{at_port}
use Rattle.refinement.proofs.device.ControlWrites.{seen}

module _ (place : ℕ) where
  -- the engine stands, and the bit is clear
  abbrev Stands : DevicePort → Type 0
  Stands p = (p.cr ≡ false) × (p.is place ≡ false)

  step_stands : (d : Device) (port : ℕ) (step : DeviceTransition) → Can step d → Stands (d.port port) → Stands ((device_after step d).port port)
  step_stands d port (Fetch p slot c places) can h = at_port Stands Stands d p port _ h (λ e x. absurd (both_ways _ x.0 can.working.cr_is_set)) (λ ne x. x)
  step_stands d port (FetchFault p slot queued kept_bits) can h = at_port Stands Stands d p port _ h (λ e x. absurd (both_ways _ x.0 can.working.cr_is_set)) (λ ne x. x)
  step_stands d port (Move p slot t bytes) can h = at_port Stands Stands d p port _ h (λ e x. x) (λ ne x. x)
  step_stands d port (Clear p slot t first count) can h = at_port Stands Stands d p port _ h (λ e x. x) (λ ne x. x)
  step_stands d port (Done p slot flag t) can h = at_port Stands Stands d p port _ h (λ e x. absurd (both_ways _ x.0 can.works.working.cr_is_set)) (λ ne x. x)
  step_stands d port (Fault p slot error kept_bits t) can h = at_port Stands Stands d p port _ h (λ e x. absurd (both_ways _ x.0 can.cr_is_set)) (λ ne x. x)
  step_stands d port (Fatal p which) can h = at_port Stands Stands d p port _ h (λ e x. absurd (both_ways _ x.0 can.0)) (λ ne x. x)
  step_stands d port (Fall p) can h = at_port Stands Stands d p port _ h (λ e x. (refl, x.1)) (λ ne x. x)
  step_stands d port (FrFall p) can h = at_port Stands Stands d p port _ h (λ e x. x) (λ ne x. x)
  step_stands d port (LinkUp p sig n) can h = at_port Stands Stands d p port _ h (λ e x. x) (λ ne x. x)
  step_stands d port (Unplug p) can h = at_port Stands Stands d p port _ h (λ e x. x) (λ ne x. x)
  step_stands d port (Plug p disk) can h = at_port Stands Stands d p port _ h (λ e x. x) (λ ne x. x)
  step_stands d port ResetEnds can h = (refl, refl)
  step_stands d port (Scribble p slot at bytes) can h = h

  pub steps_clear : (port : ℕ) (old new : Device) → (old.port port).cr ≡ false → Steps old new → (old.port port).is place ≡ false → (new.port port).is place ≡ false
  steps_clear port old new cr s clear = (leads_keep Stands step_stands port s.steps old new s.lead (cr, clear)).1

  abbrev IsClearAt : DevicePort → Type 0
  IsClearAt p = p.is place ≡ false

  written_clear : (r : PortReg) (v tape : ℕ) (p : DevicePort) → IsClearAt p → IsClearAt (port_after_write r v tape p)
  written_clear Is v tape p h = ap (λ (b : Bool). b && not (bit v place)) h
  written_clear Cmd v tape p h = ap (λ (f : ℕ → Bool). f place) (command_beside v tape p).0 ∙ h
  written_clear _ v tape p h = h

  pub access_clear : (port : Port) (access : Access) (old new : Device) → (old.port port.0).cr ≡ false → Does access old new → (old.port port.0).is place ≡ false → (new.port port.0).is place ≡ false
  access_clear port access old new cr x clear =
      let s = access_steps access old new x in
      effect_keeps IsClearAt port (λ p r v h. h) (λ p h. h) access old new x
      (λ r v mid is steps h. written_clear r v (length mid.tape) (mid.port port.0) h)
      (steps_clear port.0 old s.0 cr s.1 clear)

-- ---- notes

command_notes : (v tape : ℕ) (p : DevicePort) → bit v 0 ≡ false → (port_after_write Cmd v tape p).notes ≡ p.notes
command_notes v tape p off = ap (λ (b : Bool). (port_after_fre_write (bit v 4) (port_after_st_write b tape p)).notes) off

register_notes : (r : PortReg) (v tape : ℕ) (p : DevicePort) → r ≢ Sctl → r ≢ Is → (r ≡ Cmd → bit v 0 ≡ false) → (port_after_write r v tape p).notes ≡ p.notes
register_notes Sctl v tape p control is off = absurd (control refl)
register_notes Is v tape p control is off = absurd (is refl)
register_notes Cmd v tape p control is off = command_notes v tape p (off refl)
register_notes _ v tape p control is off = refl

pub written_notes : StepLaws → (port : Port) (r : PortReg) (v : ℕ) (old new : Device) → r ≢ Sctl → r ≢ Is → (r ≡ Cmd → bit v 0 ≡ false) → Writes (Px port r) v old new →
    (new.port port.0).notes ≡ (old.port port.0).notes
written_notes laws port r v old new control is off x =
    seen (λ (p : DevicePort). p.notes ≡ (old.port port.0).notes) port r v old new x
    (register_notes r v (length x.at_access.tape) (x.at_access.port port.0) control is off ∙ (laws.steps_keep _ _ x.steps).notes_are_kept port.0)

-- all but when ST was set
abbrev IsSetAlone : Notes → Notes → Type 0
IsSetAlone old new = new ≡ record old { st_set_at = new.st_set_at }

started_notes : (v tape : ℕ) (p : DevicePort) → IsSetAlone p.notes (port_after_write Cmd v tape p).notes
started_notes v tape p = by (bit v 0) p.st refl
  where
    by : (b s : Bool) → p.st ≡ s → IsSetAlone p.notes (port_after_fre_write (bit v 4) (port_after_st_write b tape p)).notes
    by false s is = refl
    by true true is = subst (λ (x : DevicePort). IsSetAlone p.notes (port_after_fre_write (bit v 4) x).notes) (sym (cond-true p.st p _ is)) refl
    by true false is = subst (λ (x : DevicePort). IsSetAlone p.notes (port_after_fre_write (bit v 4) x).notes) (sym (cond-false p.st p _ is)) refl

pub command_written_notes : StepLaws → (port : Port) (v : ℕ) (old new : Device) → Writes (Px port Cmd) v old new →
    (new.port port.0).notes ≡ record (old.port port.0).notes { st_set_at = (new.port port.0).notes.st_set_at }
command_written_notes laws port v old new x =
    seen (λ (p : DevicePort). IsSetAlone (old.port port.0).notes p.notes) port Cmd v old new x
    (subst (λ (n : Notes). IsSetAlone n (port_after_write Cmd v (length x.at_access.tape) (x.at_access.port port.0)).notes) ((laws.steps_keep _ _ x.steps).notes_are_kept port.0)
    (started_notes v (length x.at_access.tape) (x.at_access.port port.0)))
