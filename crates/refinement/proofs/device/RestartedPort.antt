-- A link that is up stays so while nothing disturbs the port, so that the port may be stopped and started again.
use Rattle.std.proofs.Common.{ℕ, ◌≡◌, ◌≢◌, ◌++◌, Bool, true, false, List, length, refl, sym, ap, subst}
use Rattle.std.proofs.lemmas.Bool.{cond-true, cond-false, both_ways}
use Rattle.ata_types.specs.declared.Port.{Port}
use Rattle.hba_regs.specs.Bits.{bit}
use Rattle.hba_regs.specs.declared.reg.Reg.TheVariants.{Px}
use Rattle.hba_regs.specs.declared.reg.PortReg.{PortReg}
use Rattle.hba_regs.specs.declared.reg.PortReg.TheVariants.{Cmd, Sctl}
use Rattle.adapter.specs.Access.{Access, Does, port_after_write, port_after_st_write, port_after_fre_write}
use Rattle.adapter.specs.Device.{Halt, DevicePort, Device}
use Rattle.adapter.specs.Device.Halt.{NotHalted}
use Rattle.adapter.specs.Steps.{DeviceTransition, Can, device_after, Steps, halt_after_start}
use Rattle.adapter.specs.Steps.DeviceTransition.{Fetch, FetchFault, Move, Clear, Done, Fault, Fatal, Fall, FrFall, LinkUp, Unplug, Plug, ResetEnds, Scribble}
use Rattle.adapter.specs.declared.tape.Entry.{Entry}
use Rattle.refinement.specs.StepLaws.{StepLaws}
use Rattle.refinement.specs.PortFacts.{IsDisturbance, Undisturbed}
use Rattle.refinement.specs.PreservedParts.{DoesNotWrite}
use Rattle.refinement.specs.StartedPort.{IsUpForStart, IsStarted}
use Rattle.refinement.proofs.device.RisingLink.{Up, up_of, is_up}
use Rattle.refinement.proofs.device.FactsOverAccesses.{access_steps, effect_keeps}
use Rattle.refinement.proofs.device.TapeGains.{NoneOf, gained_none}
use Rattle.refinement.proofs.device.HealthyPort.{at_port}
use Rattle.refinement.proofs.device.PortControls.{spared}
use Rattle.refinement.proofs.device.RunningPort.{leads_calmly, calm_before}

-- a port that was started has its link up
pub started_up : (p : DevicePort) → IsStarted p → p.sctl_det ≢ 1 → IsUpForStart p
started_up p h released = record { det_is_3 = h.det_is_3; present = h.present; fresh = h.fresh; no_link_is_due = h.no_link_is_due; comreset_is_over = released; start_ends_halt = ap halt_after_start h.is_not_halted }

-- ---- steps

module _ (port : ℕ) (d : Device) (gained : List Entry) (calm : NoneOf (IsDisturbance port) gained) where
  step_up : (step : DeviceTransition) → d.hr ≡ false → Can step d → (device_after step d).tape ≡ d.tape ++ gained → Up (d.port port) → Up ((device_after step d).port port)
  step_up (Fetch p slot c places) off can is h = at_port Up Up d p port _ h (λ e x. x) (λ ne x. x)
  step_up (FetchFault p slot queued kept_bits) off can is h = at_port Up Up d p port _ h
      (λ e x. absurd (gained_none (IsDisturbance port) d.tape _ gained is calm e)) (λ ne x. x)
  step_up (Move p slot t bytes) off can is h = at_port Up Up d p port _ h (λ e x. x) (λ ne x. x)
  step_up (Clear p slot t first count) off can is h = at_port Up Up d p port _ h (λ e x. x) (λ ne x. x)
  step_up (Done p slot flag t) off can is h = at_port Up Up d p port _ h (λ e x. (x.0, x.1, x.2, x.3, x.4, refl)) (λ ne x. x)
  step_up (Fault p slot error kept_bits t) off can is h = at_port Up Up d p port _ h
      (λ e x. absurd (gained_none (IsDisturbance port) d.tape _ gained is calm e)) (λ ne x. x)
  step_up (Fatal p place) off can is h = at_port Up Up d p port _ h (λ e x. x) (λ ne x. x)
  step_up (Fall p) off can is h = at_port Up Up d p port _ h (λ e x. x) (λ ne x. x)
  step_up (FrFall p) off can is h = at_port Up Up d p port _ h (λ e x. x) (λ ne x. x)
  step_up (LinkUp p sig n) off can is h = at_port Up Up d p port _ h (λ e x. absurd (both_ways _ x.3 can.link_is_due)) (λ ne x. x)
  step_up (Unplug p) off can is h = at_port Up Up d p port _ h
      (λ e x. absurd (gained_none (IsDisturbance port) d.tape _ gained is calm e)) (λ ne x. x)
  step_up (Plug p disk) off can is h = at_port Up Up d p port _ h
      (λ e x. absurd (gained_none (IsDisturbance port) d.tape _ gained is calm e)) (λ ne x. x)
  step_up ResetEnds off can is h = absurd (both_ways _ off can)
  step_up (Scribble p slot at bytes) off can is h = h

on_up : StepLaws → (port : ℕ) (old new : Device) → old.hr ≡ false → Undisturbed port old new → Steps old new → Up (old.port port) → Up (new.port port)
on_up laws port old new off u s h =
    (leads_calmly laws port (λ d. (d.hr ≡ false) × Up (d.port port))
    (λ d gained calm step can is x. (((laws.one_step_keeps step _ can).keeps_outside_reset x.0).no_reset, step_up port d gained calm step x.0 can is x.1))
    s.steps old new s.lead u (off, h)).1

pub steps_stay_up : StepLaws → (port : ℕ) (old new : Device) → old.hr ≡ false → Undisturbed port old new → Steps old new → IsUpForStart (old.port port) → IsUpForStart (new.port port)
steps_stay_up laws port old new off u s h = is_up (new.port port) (on_up laws port old new off u s (up_of (old.port port) h))

-- ---- accesses

-- a halt that ST ends, it ends once more
restarted_twice : (h : Halt) → halt_after_start h ≡ NotHalted → halt_after_start (halt_after_start h) ≡ NotHalted
restarted_twice h e = ap halt_after_start e

command_up : (v tape : ℕ) (p : DevicePort) → Up p → Up (port_after_write Cmd v tape p)
command_up v tape p h = by (bit v 0) p.st refl
  where
    by : (b s : Bool) → p.st ≡ s → Up (port_after_fre_write (bit v 4) (port_after_st_write b tape p))
    by false s is = h
    by true true is = subst (λ (x : DevicePort). Up (port_after_fre_write (bit v 4) x)) (sym (cond-true p.st p _ is)) h
    by true false is = subst (λ (x : DevicePort). Up (port_after_fre_write (bit v 4) x)) (sym (cond-false p.st p _ is)) (h.0, h.1, h.2, h.3, h.4, restarted_twice p.halt h.5)

written_up : (r : PortReg) (v tape : ℕ) (p : DevicePort) → r ≢ Sctl → Up p → Up (port_after_write r v tape p)
written_up Cmd v tape p other h = command_up v tape p h
written_up Sctl v tape p other h = absurd (other refl)
written_up _ v tape p other h = h

pub access_stays_up : StepLaws → (port : Port) (access : Access) (old new : Device) → old.hr ≡ false → DoesNotWrite (Px port Sctl) access → Undisturbed port.0 old new → Does access old new → IsUpForStart (old.port port.0) → IsUpForStart (new.port port.0)
access_stays_up laws port access old new off spares u x h =
    let s = access_steps access old new x in
    is_up (new.port port.0)
    (effect_keeps Up port (λ p r v y. y) (λ p y. y) access old new x
    (λ r v mid is steps y. written_up r v (length mid.tape) (mid.port port.0) (spared port r Sctl access v spares is) y)
    (on_up laws port.0 old s.0 off (calm_before port.0 old s.0 new s.2 u) s.1 (up_of (old.port port.0) h)))
