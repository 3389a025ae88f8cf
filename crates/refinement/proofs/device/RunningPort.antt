-- A port that was started goes on while nothing disturbs it, its bits of trouble stay clear, and so it runs well.
use Rattle.std.proofs.Common.{ℕ, ◌≡◌, ◌≤◌, ◌++◌, Bool, true, false, List, [], ◌∷◌, length, refl, sym, ◌∙◌, ap, subst}
use Rattle.std.proofs.lemmas.Bool.{cond-true, both_ways}
use Rattle.ata_types.specs.declared.Port.{Port}
use Rattle.hba_regs.specs.Bits.{bit}
use Rattle.hba_regs.specs.declared.reg.Reg.{Reg}
use Rattle.hba_regs.specs.declared.reg.Reg.TheVariants.{Px}
use Rattle.hba_regs.specs.declared.reg.PortReg.{PortReg}
use Rattle.hba_regs.specs.declared.reg.PortReg.TheVariants.{Cmd, Sctl}
use Rattle.adapter.specs.Access.{Access, Does, Reads, Writes, port_after_write, port_after_st_write, port_after_fre_write}
use Rattle.adapter.specs.Access.Access.{Reading, Writing}
use Rattle.adapter.specs.Device.{DevicePort, Device}
use Rattle.adapter.specs.Device.Halt.{NotHalted}
use Rattle.adapter.specs.KeptBySteps.{KeepsOverSteps}
use Rattle.adapter.specs.Steps.{DeviceTransition, Can, device_after, TransitionsLead, Steps}
use Rattle.adapter.specs.Steps.DeviceTransition.{Fetch, FetchFault, Move, Clear, Done, Fault, Fatal, Fall, FrFall, LinkUp, Unplug, Plug, ResetEnds, Scribble}
use Rattle.adapter.specs.declared.tape.Entry.{Entry}
use Rattle.refinement.specs.StepLaws.{StepLaws}
use Rattle.refinement.specs.Relation.{port_at}
use Rattle.refinement.specs.Errors.{LinkErrorsRiseByDisks, ErrorBitsStayClear}
use Rattle.refinement.specs.PortFacts.{RunsWell, IsDisturbance, Undisturbed, ShowsNoTrouble}
use Rattle.refinement.specs.PreservedParts.{DoesNotWrite}
use Rattle.refinement.specs.StartedPort.{IsStarted, WritesCmdOnlyWithStSet}
use Rattle.refinement.proofs.device.FactsOverAccesses.{access_steps, effect_keeps}
use Rattle.refinement.proofs.device.ErrorBits.{plugs_come, steps_change, access_change}
use Rattle.refinement.proofs.device.TapeGains.{NoneOf, gained_none}
use Rattle.refinement.proofs.device.HealthyPort.{at_port, undisturbed_parts}
use Rattle.refinement.proofs.device.PortControls.{spared, undisturbed_plugs}
use Rattle.refinement.proofs.device.RaisedBits.{steps_unset, access_unset}

-- ---- steps that disturb nothing

-- before the effect of an access the tape has what it has after it
pub calm_before : (port : ℕ) (old mid new : Device) → new.tape ≡ mid.tape → Undisturbed port old new → Undisturbed port old mid
calm_before port old mid new same u = record { new_entries = u.new_entries; tape_is = sym same ∙ u.tape_is; no_disturbance = u.no_disturbance }

-- what each step keeps that is no disturbance, lists of them keep
pub leads_calmly : StepLaws → (port : ℕ) (P : Device → Type 0) →
    ((d : Device) (gained : List Entry) → NoneOf (IsDisturbance port) gained → (step : DeviceTransition) → Can step d → (device_after step d).tape ≡ d.tape ++ gained → P d → P (device_after step d)) →
    (steps : List DeviceTransition) (old new : Device) → TransitionsLead steps old new → Undisturbed port old new → P old → P new
leads_calmly laws port P keep [] old new e u h = subst P (sym e) h
leads_calmly laws port P keep (step ∷ steps) old new (can, lead) u h =
    let k : KeepsOverSteps old (device_after step old) = laws.one_step_keeps step _ can in
    let l : KeepsOverSteps (device_after step old) new = laws.steps_keep _ _ (record { steps = steps; lead = lead }) in
    let parts = undisturbed_parts port old (device_after step old) new k.new_entries l.new_entries k.tape_grows l.tape_grows u in
    leads_calmly laws port P keep steps (device_after step old) new lead parts.1 (keep old parts.0.new_entries parts.0.no_disturbance step can parts.0.tape_is h)

-- ---- a port that was started

abbrev Started : DevicePort → Type 0
Started p =
    (p.st ≡ true) × (p.cr ≡ true) × (p.ssts_det ≡ 3) × (p.present ≡ true) × (p.fresh ≡ true) × (p.link_due ≡ false) × (p.halt ≡ NotHalted)
    × (p.broken ≡ false)

started_of : (p : DevicePort) → IsStarted p → Started p
started_of p h = (h.st_is_set, h.cr_is_set, h.det_is_3, h.present, h.fresh, h.no_link_is_due, h.is_not_halted, h.is_not_broken)

is_started : (p : DevicePort) → Started p → IsStarted p
is_started p h = record { st_is_set = h.0; cr_is_set = h.1; det_is_3 = h.2; present = h.3; fresh = h.4; no_link_is_due = h.5; is_not_halted = h.6; is_not_broken = h.7 }

module _ (port : ℕ) (d : Device) (gained : List Entry) (calm : NoneOf (IsDisturbance port) gained) where
  abbrev At : DevicePort → Type 0
  At p = Started p

  step_started : (step : DeviceTransition) → d.hr ≡ false → Can step d → (device_after step d).tape ≡ d.tape ++ gained → At (d.port port) → At ((device_after step d).port port)
  step_started (Fetch p slot c places) off can is h = at_port At At d p port _ h (λ e x. x) (λ ne x. x)
  step_started (FetchFault p slot queued kept_bits) off can is h = at_port At At d p port _ h
      (λ e x. absurd (gained_none (IsDisturbance port) d.tape _ gained is calm e)) (λ ne x. x)
  step_started (Move p slot t bytes) off can is h = at_port At At d p port _ h (λ e x. x) (λ ne x. x)
  step_started (Clear p slot t first count) off can is h = at_port At At d p port _ h (λ e x. x) (λ ne x. x)
  step_started (Done p slot flag t) off can is h = at_port At At d p port _ h (λ e x. (x.0, x.1, x.2, x.3, x.4, x.5, refl, x.7)) (λ ne x. x)
  step_started (Fault p slot error kept_bits t) off can is h = at_port At At d p port _ h
      (λ e x. absurd (gained_none (IsDisturbance port) d.tape _ gained is calm e)) (λ ne x. x)
  step_started (Fatal p place) off can is h = at_port At At d p port _ h
      (λ e x. absurd (gained_none (IsDisturbance port) d.tape _ gained is calm e)) (λ ne x. x)
  step_started (Fall p) off can is h = at_port At At d p port _ h (λ e x. absurd (both_ways _ can.0 x.0)) (λ ne x. x)
  step_started (FrFall p) off can is h = at_port At At d p port _ h (λ e x. x) (λ ne x. x)
  step_started (LinkUp p sig n) off can is h = at_port At At d p port _ h (λ e x. absurd (both_ways _ x.5 can.link_is_due)) (λ ne x. x)
  step_started (Unplug p) off can is h = at_port At At d p port _ h
      (λ e x. absurd (gained_none (IsDisturbance port) d.tape _ gained is calm e)) (λ ne x. x)
  step_started (Plug p disk) off can is h = at_port At At d p port _ h
      (λ e x. absurd (gained_none (IsDisturbance port) d.tape _ gained is calm e)) (λ ne x. x)
  step_started ResetEnds off can is h = absurd (both_ways _ off can)
  step_started (Scribble p slot at bytes) off can is h = h

-- no reset is pending, either
abbrev OnStarted : ℕ → Device → Type 0
OnStarted port d = (d.hr ≡ false) × Started (d.port port)

on_started : StepLaws → (port : ℕ) (old new : Device) → old.hr ≡ false → Undisturbed port old new → Steps old new → Started (old.port port) → Started (new.port port)
on_started laws port old new off u s h =
    (leads_calmly laws port (OnStarted port)
    (λ d gained calm step can is x. (((laws.one_step_keeps step _ can).keeps_outside_reset x.0).no_reset, step_started port d gained calm step x.0 can is x.1))
    s.steps old new s.lead u (off, h)).1

pub steps_started : StepLaws → (port : ℕ) (old new : Device) → old.hr ≡ false → Undisturbed port old new → Steps old new → IsStarted (old.port port) → IsStarted (new.port port)
steps_started laws port old new off u s h = is_started (new.port port) (on_started laws port old new off u s (started_of (old.port port) h))

-- ST stays 1
command_started : (v tape : ℕ) (p : DevicePort) → bit v 0 ≡ true → Started p → Started (port_after_write Cmd v tape p)
command_started v tape p on h =
    subst (λ (b : Bool). Started (port_after_fre_write (bit v 4) (port_after_st_write b tape p))) (sym on)
    (subst (λ (x : DevicePort). Started (port_after_fre_write (bit v 4) x)) (sym (cond-true p.st p _ h.0)) h)

written_started : (r : PortReg) (v tape : ℕ) (p : DevicePort) → (r ≡ Cmd → bit v 0 ≡ true) → (r ≡ Sctl → ⊥) → Started p → Started (port_after_write r v tape p)
written_started Cmd v tape p on other h = command_started v tape p (on refl) h
written_started Sctl v tape p on other h = absurd (other refl)
written_started _ v tape p on other h = h

pub access_started : StepLaws → (port : Port) (access : Access) (old new : Device) → old.hr ≡ false → WritesCmdOnlyWithStSet port access → DoesNotWrite (Px port Sctl) access → Undisturbed port.0 old new → Does access old new →
    IsStarted (old.port port.0) → IsStarted (new.port port.0)
access_started laws port access old new off keeps spares u x h =
    let s = access_steps access old new x in
    let c = on_started laws port.0 old s.0 off (calm_before port.0 old s.0 new s.2 u) s.1 (started_of (old.port port.0) h) in
    is_started (new.port port.0)
    (effect_keeps Started port (λ p r v y. y) (λ p y. y) access old new x
    (λ r v mid is steps y. written_started r v (length mid.tape) (mid.port port.0)
    (λ e. keeps v (is ∙ ap (λ (q : PortReg). Writing (Px port q) v) e)) (spared port r Sctl access v spares is) y) c)

-- ---- the bits of trouble

abbrev Quiets : DevicePort → DevicePort → Type 0
Quiets first p = (place : ℕ) → 27 ≤ place → place ≤ 30 → first.is place ≡ false → p.is place ≡ false

-- faults and fatal errors are disturbances
on_quiets : StepLaws → (port : ℕ) (old new : Device) → Undisturbed port old new → Steps old new → Quiets (old.port port) (new.port port)
on_quiets laws port old new u s = λ place low up clear. steps_unset laws (IsDisturbance port) port place low (λ f e z. e) (λ at e z. e) old new s (u.new_entries, u.tape_is, u.no_disturbance) clear

access_quiets : StepLaws → (port : ℕ) (access : Access) (old new : Device) → Undisturbed port old new → Does access old new → Quiets (old.port port) (new.port port)
access_quiets laws port access old new u x = λ place low up clear. access_unset laws (IsDisturbance port) port place low (λ f e z. e) (λ at e z. e) access old new x (u.new_entries, u.tape_is, u.no_disturbance) clear

-- N and X, where no link is due
clear_of : (port : ℕ) (old new : Device) → Undisturbed port old new → LinkErrorsRiseByDisks port old new → Quiets (old.port port) (new.port port) → ErrorBitsStayClear (old.port port) (new.port port)
clear_of port old new u c quiets =
    let none = undisturbed_plugs port old new u in
    record { serr_n_stays_clear = c.serr_n_rises_by_plug_events none; serr_x_stays_clear = c.serr_x_rises_by_disk_coming (plugs_come port old new none); pxis_bits_27_to_30_stay_clear = quiets }

pub steps_clear : StepLaws → (port : ℕ) (old new : Device) → old.hr ≡ false → (old.port port).link_due ≡ false → Undisturbed port old new → Steps old new → ErrorBitsStayClear (old.port port) (new.port port)
steps_clear laws port old new off undue u s = clear_of port old new u (steps_change laws port old new off undue s) (on_quiets laws port old new u s)

pub access_clear : StepLaws → (port : Port) (access : Access) (old new : Device) → old.hr ≡ false → (old.port port.0).link_due ≡ false → Undisturbed port.0 old new → Does access old new → ErrorBitsStayClear (old.port port.0) (new.port port.0)
access_clear laws port access old new off undue u x = clear_of port.0 old new u (access_change laws port access old new off undue x) (access_quiets laws port.0 access old new u x)

-- ---- both

pub well_of : (p : DevicePort) → IsStarted p → ShowsNoTrouble p → RunsWell p
well_of p h quiet = record {
  st_is_set = h.st_is_set;
  cr_is_set = h.cr_is_set;
  det_is_3 = h.det_is_3;
  present = h.present;
  fresh = h.fresh;
  no_link_is_due = h.no_link_is_due;
  is_not_halted = h.is_not_halted;
  is_not_broken = h.is_not_broken;
  shows_no_trouble = quiet;
}

pub started_well : (p : DevicePort) → RunsWell p → IsStarted p
started_well p h = record { st_is_set = h.st_is_set; cr_is_set = h.cr_is_set; det_is_3 = h.det_is_3; present = h.present; fresh = h.fresh; no_link_is_due = h.no_link_is_due; is_not_halted = h.is_not_halted; is_not_broken = h.is_not_broken }

pub shows_still : (p new : DevicePort) → ErrorBitsStayClear p new → ShowsNoTrouble p → ShowsNoTrouble new
shows_still p new c h = record { serr_n_is_clear = c.serr_n_stays_clear h.serr_n_is_clear; serr_x_is_clear = c.serr_x_stays_clear h.serr_x_is_clear; bits_27_to_30_are_clear = λ place low up. c.pxis_bits_27_to_30_stay_clear place low up (h.bits_27_to_30_are_clear place low up) }

pub law_running_well_stays_if_undisturbed : StepLaws → (port : ℕ) (old new : Device) → old.hr ≡ false → Steps old new → Undisturbed port old new → RunsWell (old.port port) → RunsWell (new.port port)
law_running_well_stays_if_undisturbed laws port old new off s u h =
    well_of (new.port port) (steps_started laws port old new off u s (started_well (old.port port) h))
    (shows_still (old.port port) (new.port port) (steps_clear laws port old new off h.no_link_is_due u s) h.shows_no_trouble)

healthy_access : StepLaws → (port : Port) (access : Access) (old new : Device) → old.hr ≡ false → WritesCmdOnlyWithStSet port access → DoesNotWrite (Px port Sctl) access → Undisturbed port.0 old new → Does access old new →
    RunsWell (old.port port.0) → RunsWell (new.port port.0)
healthy_access laws port access old new off keeps spares u x h =
    well_of (new.port port.0) (access_started laws port access old new off keeps spares u x (started_well (old.port port.0) h))
    (shows_still (old.port port.0) (new.port port.0) (access_clear laws port access old new off h.no_link_is_due u x) h.shows_no_trouble)

-- a reading writes nothing
pub reading_clears : (port : Port) (r : Reg) (v : ℕ) → WritesCmdOnlyWithStSet port (Reading r v)
reading_clears port r v w e = absurd (let z : Reading r v ≡ Writing (Px port Cmd) w = e in cc)

pub healthy_reads : StepLaws → (port : ℕ) (r : Reg) (v : ℕ) (old new : Device) → old.hr ≡ false → Reads r v old new → Undisturbed port old new → RunsWell (old.port port) → RunsWell (new.port port)
healthy_reads laws port r v old new off call u h = healthy_access laws (port_at port) (Reading r v) old new off (reading_clears (port_at port) r v) tt u call h

-- what a write writes
register_of : Reg → Access → Reg
register_of r (Writing q v) = q
register_of r _ = r

value_of : ℕ → Access → ℕ
value_of n (Writing q v) = v
value_of n _ = n

pub healthy_writes : StepLaws → (port : Port) (r : Reg) (v : ℕ) (old new : Device) → old.hr ≡ false → (r ≡ Px port Cmd → bit v 0 ≡ true) → (r ≡ Px port Sctl → ⊥) → Writes r v old new →
    Undisturbed port.0 old new → RunsWell (old.port port.0) → RunsWell (new.port port.0)
unfolding register_of value_of
healthy_writes laws port r v old new off on other call u h =
    (healthy_access laws) port (Writing r v) old new off
    (λ w e. subst (λ (n : ℕ). bit n 0 ≡ true) (ap (value_of v) e) (on (ap (register_of r) e))) other u call h
