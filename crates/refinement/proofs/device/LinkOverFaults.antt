-- A link that is up stays up over faults, and a port that runs with it runs on.
use Rattle.std.proofs.Common.{ℕ, ◌≡◌, ◌≢◌, ◌++◌, Bool, true, false, List, [], ◌∷◌, length, refl, sym, ◌∙◌, ap, subst, ⊎_elim}
use Rattle.std.proofs.lemmas.Bool.{cond-true, cond-false, both_ways}
use Rattle.ata_types.specs.declared.Port.{Port}
use Rattle.hba_regs.specs.Bits.{bit}
use Rattle.hba_regs.specs.declared.reg.Reg.TheVariants.{Px}
use Rattle.hba_regs.specs.declared.reg.PortReg.{PortReg}
use Rattle.hba_regs.specs.declared.reg.PortReg.TheVariants.{Cmd, Sctl}
use Rattle.adapter.specs.Access.{Access, Does, Writes, port_after_write, port_after_st_write, port_after_fre_write}
use Rattle.adapter.specs.Access.Access.{Writing}
use Rattle.adapter.specs.Device.{DevicePort, Device}
use Rattle.adapter.specs.Device.Halt.{NotHalted}
use Rattle.adapter.specs.KeptBySteps.{KeepsOverSteps}
use Rattle.adapter.specs.Steps.{DeviceTransition, Can, device_after, TransitionsLead, Steps}
use Rattle.adapter.specs.Steps.DeviceTransition.{Fetch, FetchFault, Move, Clear, Done, Fault, Fatal, Fall, FrFall, LinkUp, Unplug, Plug, ResetEnds, Scribble}
use Rattle.adapter.specs.declared.tape.Entry.{Entry}
use Rattle.adapter.proofs.Changed.{changed_same}
use Rattle.refinement.specs.StepLaws.{StepLaws}
use Rattle.refinement.specs.Errors.{NoFatalErrors, IsFatalEntryOf}
use Rattle.refinement.specs.PreservedParts.{DoesNotWrite, NoPlugEvents, KeepsDisk, SameLink, ComesUp, LinkIsSameOrComesUp, IsPlugEvent}
use Rattle.refinement.specs.StartedPort.{IsUpForStart, IsStarted, WritesCmdOnlyWithStSet}
use Rattle.refinement.proofs.device.FactsOverAccesses.{access_steps, effect_keeps}
use Rattle.refinement.proofs.device.FaultlessStretches.{fatal_parts}
use Rattle.refinement.proofs.device.TapeGains.{NoneOf, gained_none}
use Rattle.refinement.proofs.device.HealthyPort.{at_port, written_tape}
use Rattle.refinement.proofs.device.PortControls.{steps_link, access_link, steps_disk, access_disk, access_controls, plugs_parts, plugs_before, spared}
use Rattle.refinement.specs.HaltRecovery.{IsLinked, RunsLinked}

-- ---- the link

-- the same link of the same disk
linked_on : (p new : DevicePort) → LinkIsSameOrComesUp p new → KeepsDisk p new → new.sctl_det ≡ p.sctl_det → IsLinked p → IsLinked new
linked_on p new l disk control h = record {
  det_is_3 = ⊎_elim (λ (s : SameLink p new). s.det ∙ h.det_is_3) (λ (c : ComesUp p new). c.det) l;
  present = disk.present ∙ h.present;
  fresh = ⊎_elim (λ (s : SameLink p new). s.fresh ∙ h.fresh) (λ (c : ComesUp p new). c.fresh) l;
  no_link_is_due = ⊎_elim (λ (s : SameLink p new). s.due ∙ h.no_link_is_due) (λ (c : ComesUp p new). c.link_is_not_due_any_more) l;
  comreset_is_over = λ one. h.comreset_is_over (sym control ∙ one);
}

pub steps_linked : StepLaws → (port : ℕ) (old new : Device) → old.hr ≡ false → NoPlugEvents port old new → Steps old new → IsLinked (old.port port) → IsLinked (new.port port)
steps_linked laws port old new off none s h =
    linked_on (old.port port) (new.port port) (steps_link laws port old new off s none) (steps_disk laws port old new s none) (((laws.steps_keep _ _ s).keeps_outside_reset off).controls_are_kept port).sctl_det_is_kept h

pub access_linked : StepLaws → (port : Port) (access : Access) (old new : Device) → old.hr ≡ false → DoesNotWrite (Px port Sctl) access → NoPlugEvents port.0 old new → Does access old new → IsLinked (old.port port.0) → IsLinked (new.port port.0)
access_linked laws port access old new off spares none x h =
    linked_on (old.port port.0) (new.port port.0) (access_link laws port access old new off spares x none) (access_disk laws port.0 access old new x none)
    ((access_controls laws port access old new off x).control spares).0 h

pub started_linked : (p : DevicePort) → IsStarted p → p.sctl_det ≢ 1 → IsLinked p
started_linked p h released = record { det_is_3 = h.det_is_3; present = h.present; fresh = h.fresh; no_link_is_due = h.no_link_is_due; comreset_is_over = released }

pub up_linked : (p : DevicePort) → IsUpForStart p → IsLinked p
up_linked p h = record { det_is_3 = h.det_is_3; present = h.present; fresh = h.fresh; no_link_is_due = h.no_link_is_due; comreset_is_over = h.comreset_is_over }

-- ---- a port that runs with it

abbrev Runs : DevicePort → Type 0
Runs p = (p.st ≡ true) × (p.cr ≡ true) × (p.ssts_det ≡ 3) × (p.present ≡ true) × (p.fresh ≡ true) × (p.link_due ≡ false) × (p.broken ≡ false)

runs_of : (p : DevicePort) → RunsLinked p → Runs p
runs_of p h = (h.st_is_set, h.cr_is_set, h.det_is_3, h.present, h.fresh, h.no_link_is_due, h.is_not_broken)

is_running : (p : DevicePort) → Runs p → RunsLinked p
is_running p h = record { st_is_set = h.0; cr_is_set = h.1; det_is_3 = h.2; present = h.3; fresh = h.4; no_link_is_due = h.5; is_not_broken = h.6 }

module _ (port : ℕ) (d : Device) (gained others : List Entry) (none : NoneOf (IsPlugEvent port) gained) (calm : NoneOf (IsFatalEntryOf port) others) where
  step_runs : (step : DeviceTransition) → d.hr ≡ false → Can step d → (device_after step d).tape ≡ d.tape ++ gained → (device_after step d).tape ≡ d.tape ++ others → Runs (d.port port) → Runs ((device_after step d).port port)
  step_runs (Fetch p slot c places) off can is too h = at_port Runs Runs d p port _ h (λ e x. x) (λ ne x. x)
  step_runs (FetchFault p slot queued kept_bits) off can is too h = at_port Runs Runs d p port _ h (λ e x. x) (λ ne x. x)
  step_runs (Move p slot t bytes) off can is too h = at_port Runs Runs d p port _ h (λ e x. x) (λ ne x. x)
  step_runs (Clear p slot t first count) off can is too h = at_port Runs Runs d p port _ h (λ e x. x) (λ ne x. x)
  step_runs (Done p slot flag t) off can is too h = at_port Runs Runs d p port _ h (λ e x. x) (λ ne x. x)
  step_runs (Fault p slot error kept_bits t) off can is too h = at_port Runs Runs d p port _ h (λ e x. x) (λ ne x. x)
  step_runs (Fatal p place) off can is too h = at_port Runs Runs d p port _ h
      (λ e x. absurd (gained_none (IsFatalEntryOf port) d.tape _ others too calm e)) (λ ne x. x)
  step_runs (Fall p) off can is too h = at_port Runs Runs d p port _ h (λ e x. absurd (both_ways _ can.0 x.0)) (λ ne x. x)
  step_runs (FrFall p) off can is too h = at_port Runs Runs d p port _ h (λ e x. x) (λ ne x. x)
  step_runs (LinkUp p sig n) off can is too h = at_port Runs Runs d p port _ h (λ e x. absurd (both_ways _ x.5 can.link_is_due)) (λ ne x. x)
  step_runs (Unplug p) off can is too h = at_port Runs Runs d p port _ h
      (λ e x. absurd (gained_none (IsPlugEvent port) d.tape _ gained is none e)) (λ ne x. x)
  step_runs (Plug p disk) off can is too h = at_port Runs Runs d p port _ h
      (λ e x. absurd (gained_none (IsPlugEvent port) d.tape _ gained is none e)) (λ ne x. x)
  step_runs ResetEnds off can is too h = absurd (both_ways _ off can)
  step_runs (Scribble p slot at bytes) off can is too h = h

leads_run : StepLaws → (port : ℕ) (steps : List DeviceTransition) (old new : Device) → old.hr ≡ false → NoPlugEvents port old new → NoFatalErrors port old new → TransitionsLead steps old new → Runs (old.port port) → Runs (new.port port)
leads_run laws port [] old new off none calm e h = subst (λ (d : Device). Runs (d.port port)) (sym e) h
leads_run laws port (step ∷ steps) old new off none calm (can, lead) h =
    let k : KeepsOverSteps old (device_after step old) = laws.one_step_keeps step _ can in
    let l : KeepsOverSteps (device_after step old) new = laws.steps_keep _ _ (record { steps = steps; lead = lead }) in
    let plugs = plugs_parts port old (device_after step old) new k.new_entries l.new_entries k.tape_grows l.tape_grows none in
    let fatal = fatal_parts port old (device_after step old) new k.new_entries l.new_entries k.tape_grows l.tape_grows calm in
    leads_run laws port steps (device_after step old) new (k.keeps_outside_reset off).no_reset plugs.1 fatal.1 lead
    (step_runs port old plugs.0.new_entries fatal.0.new_entries plugs.0.no_such_entry fatal.0.no_such_entry step off can plugs.0.tape_is fatal.0.tape_is h)

pub steps_run : StepLaws → (port : ℕ) (old new : Device) → old.hr ≡ false → NoPlugEvents port old new → NoFatalErrors port old new → Steps old new → RunsLinked (old.port port) → RunsLinked (new.port port)
steps_run laws port old new off none calm s h = is_running (new.port port) (leads_run laws port s.steps old new off none calm s.lead (runs_of (old.port port) h))

-- ST stays 1
command_runs : (v tape : ℕ) (p : DevicePort) → bit v 0 ≡ true → Runs p → Runs (port_after_write Cmd v tape p)
command_runs v tape p on h =
    subst (λ (b : Bool). Runs (port_after_fre_write (bit v 4) (port_after_st_write b tape p))) (sym on)
    (subst (λ (x : DevicePort). Runs (port_after_fre_write (bit v 4) x)) (sym (cond-true p.st p _ h.0)) h)

written_runs : (r : PortReg) (v tape : ℕ) (p : DevicePort) → (r ≡ Cmd → bit v 0 ≡ true) → r ≢ Sctl → Runs p → Runs (port_after_write r v tape p)
written_runs Cmd v tape p on other h = command_runs v tape p (on refl) h
written_runs Sctl v tape p on other h = absurd (other refl)
written_runs _ v tape p on other h = h

-- before the effect of an access the tape has what it has after it
fatal_before : (port : ℕ) (old mid new : Device) → new.tape ≡ mid.tape → NoFatalErrors port old new → NoFatalErrors port old mid
fatal_before port old mid new same h = record { new_entries = h.new_entries; tape_is = sym same ∙ h.tape_is; no_such_entry = h.no_such_entry }

pub access_runs : StepLaws → (port : Port) (access : Access) (old new : Device) → old.hr ≡ false → WritesCmdOnlyWithStSet port access → DoesNotWrite (Px port Sctl) access → NoPlugEvents port.0 old new → NoFatalErrors port.0 old new → Does access old new →
    RunsLinked (old.port port.0) → RunsLinked (new.port port.0)
access_runs laws port access old new off keeps spares none calm x h =
    let s = access_steps access old new x in
    let c = leads_run laws port.0 s.1.steps old s.0 off (plugs_before port.0 old s.0 new s.2 none) (fatal_before port.0 old s.0 new s.2 calm) s.1.lead (runs_of (old.port port.0) h) in
    is_running (new.port port.0)
    (effect_keeps Runs port (λ p r v y. y) (λ p y. y) access old new x
    (λ r v mid is steps y. written_runs r v (length mid.tape) (mid.port port.0)
    (λ e. keeps v (is ∙ ap (λ (q : PortReg). Writing (Px port q) v) e)) (spared port r Sctl access v spares is) y) c)

-- ST goes to 1
running_now : (v tape : ℕ) (p : DevicePort) → bit v 0 ≡ true → p.st ≡ false → IsLinked p → RunsLinked (port_after_fre_write (bit v 4) (port_after_st_write (bit v 0) tape p))
running_now v tape p on off u =
    subst (λ (b : Bool). RunsLinked (port_after_fre_write (bit v 4) (port_after_st_write b tape p))) (sym on)
    (subst (λ (x : DevicePort). RunsLinked (port_after_fre_write (bit v 4) x)) (sym (cond-false p.st p _ off))
    (record { st_is_set = refl; cr_is_set = refl; det_is_3 = u.det_is_3; present = u.present; fresh = u.fresh; no_link_is_due = u.no_link_is_due; is_not_broken = refl }))

pub start_runs : StepLaws → (port : Port) (v : ℕ) (old new : Device) → old.hr ≡ false → (old.port port.0).st ≡ false → (old.port port.0).cr ≡ false → bit v 0 ≡ true → NoPlugEvents port.0 old new → Writes (Px port Cmd) v old new →
    IsLinked (old.port port.0) → RunsLinked (new.port port.0)
start_runs laws port v old new off stopped stands on none call h =
    let k : KeepsOverSteps old call.at_access = laws.steps_keep _ _ call.steps in
    let before : NoPlugEvents port.0 old call.at_access = plugs_before port.0 old call.at_access new (ap (λ (d : Device). d.tape) call.effect ∙ written_tape (Px port Cmd) v call.at_access) none in
    subst RunsLinked (sym (ap (λ (d : Device). d.port port.0) call.effect ∙ changed_same call.at_access.port port.0 _))
    (running_now v (length call.at_access.tape) (call.at_access.port port.0) on ((k.port_bits_only_fall port.0).st_stays_clear stopped) (steps_linked laws port.0 old call.at_access off before call.steps h))

pub running_started : (p : DevicePort) → RunsLinked p → p.halt ≡ NotHalted → IsStarted p
running_started p h ends = record { st_is_set = h.st_is_set; cr_is_set = h.cr_is_set; det_is_3 = h.det_is_3; present = h.present; fresh = h.fresh; no_link_is_due = h.no_link_is_due; is_not_halted = ends; is_not_broken = h.is_not_broken }
