-- A device shows in PxSSTS, or no disk is in.
use Rattle.std.proofs.Common.{ℕ, ◌≡◌, ◌≢◌, false, List, [], ◌∷◌, length, refl, sym, ◌∙◌, subst, inl, inr, ⊎_elim}
use Rattle.std.proofs.lemmas.Bool.{both_ways}
use Rattle.ata_types.specs.declared.Port.{Port}
use Rattle.hba_regs.specs.declared.reg.Reg.TheVariants.{Px}
use Rattle.hba_regs.specs.declared.reg.PortReg.{PortReg}
use Rattle.hba_regs.specs.declared.reg.PortReg.TheVariants.{Cmd, Sctl}
use Rattle.adapter.specs.Access.{Access, Does, port_after_write}
use Rattle.adapter.specs.Device.{DevicePort, Device}
use Rattle.adapter.specs.Steps.{DeviceTransition, Can, device_after, TransitionsLead, Steps}
use Rattle.adapter.specs.Steps.DeviceTransition.{Fetch, FetchFault, Move, Clear, Done, Fault, Fatal, Fall, FrFall, LinkUp, Unplug, Plug, ResetEnds, Scribble}
use Rattle.refinement.specs.StepLaws.{StepLaws}
use Rattle.refinement.specs.PreservedParts.{DoesNotWrite, HasDet3IfDiskPresent}
use Rattle.refinement.proofs.device.FactsOverAccesses.{access_steps, effect_keeps}
use Rattle.refinement.proofs.device.ErrorBits.{command_beside}
use Rattle.refinement.proofs.device.HealthyPort.{at_port}
use Rattle.refinement.proofs.device.PortControls.{spared}

abbrev Shown : DevicePort → Type 0
Shown p = HasDet3IfDiskPresent p

step_shown : (port : ℕ) (d : Device) (step : DeviceTransition) → d.hr ≡ false → Can step d → Shown (d.port port) → Shown ((device_after step d).port port)
step_shown port d (Fetch p slot c places) off can h = at_port Shown Shown d p port _ h (λ e x. x) (λ ne x. x)
step_shown port d (FetchFault p slot queued kept_bits) off can h = at_port Shown Shown d p port _ h (λ e x. x) (λ ne x. x)
step_shown port d (Move p slot t bytes) off can h = at_port Shown Shown d p port _ h (λ e x. x) (λ ne x. x)
step_shown port d (Clear p slot t first count) off can h = at_port Shown Shown d p port _ h (λ e x. x) (λ ne x. x)
step_shown port d (Done p slot flag t) off can h = at_port Shown Shown d p port _ h (λ e x. x) (λ ne x. x)
step_shown port d (Fault p slot error kept_bits t) off can h = at_port Shown Shown d p port _ h (λ e x. x) (λ ne x. x)
step_shown port d (Fatal p place) off can h = at_port Shown Shown d p port _ h (λ e x. x) (λ ne x. x)
step_shown port d (Fall p) off can h = at_port Shown Shown d p port _ h (λ e x. x) (λ ne x. x)
step_shown port d (FrFall p) off can h = at_port Shown Shown d p port _ h (λ e x. x) (λ ne x. x)
step_shown port d (LinkUp p sig n) off can h = at_port Shown Shown d p port _ h (λ e x. inl refl) (λ ne x. x)
step_shown port d (Unplug p) off can h = at_port Shown Shown d p port _ h (λ e x. inr refl) (λ ne x. x)
step_shown port d (Plug p disk) off can h = at_port Shown Shown d p port _ h (λ e x. inl refl) (λ ne x. x)
step_shown port d ResetEnds off can h = absurd (both_ways _ off can)
step_shown port d (Scribble p slot at bytes) off can h = h

leads_shown : StepLaws → (port : ℕ) (steps : List DeviceTransition) (old new : Device) → old.hr ≡ false → TransitionsLead steps old new → Shown (old.port port) → Shown (new.port port)
leads_shown laws port [] old new off e h = subst (λ (d : Device). Shown (d.port port)) (sym e) h
leads_shown laws port (step ∷ steps) old new off (can, lead) h =
    leads_shown laws port steps (device_after step old) new ((laws.one_step_keeps step _ can).keeps_outside_reset off).no_reset lead (step_shown port old step off can h)

pub steps_shown : StepLaws → (port : ℕ) (old new : Device) → old.hr ≡ false → Steps old new → HasDet3IfDiskPresent (old.port port) → HasDet3IfDiskPresent (new.port port)
steps_shown laws port old new off s h = leads_shown laws port s.steps old new off s.lead h

written_shown : (r : PortReg) (v tape : ℕ) (p : DevicePort) → r ≢ Sctl → Shown p → Shown (port_after_write r v tape p)
written_shown Sctl v tape p other h = absurd (other refl)
written_shown Cmd v tape p other h =
    let c = command_beside v tape p in
    ⊎_elim (λ (up : p.ssts_det ≡ 3). inl (c.3 ∙ up)) (λ (out : p.present ≡ false). inr (c.6 ∙ out)) h
written_shown _ v tape p other h = h

pub access_shown : StepLaws → (port : Port) (access : Access) (old new : Device) → old.hr ≡ false → DoesNotWrite (Px port Sctl) access → Does access old new → HasDet3IfDiskPresent (old.port port.0) → HasDet3IfDiskPresent (new.port port.0)
access_shown laws port access old new off spares x h =
    let s = access_steps access old new x in
    effect_keeps Shown port (λ p r v y. y) (λ p y. y) access old new x
    (λ r v mid is steps y. written_shown r v (length mid.tape) (mid.port port.0) (spared port r Sctl access v spares is) y)
    (steps_shown laws port.0 old s.0 off s.1 h)
