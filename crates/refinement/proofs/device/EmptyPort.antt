-- A port with no disk in, and one whose disk has shown itself, while none comes.
use Rattle.std.proofs.Common.{ℕ, ◌≡◌, ◌≢◌, ◌%◌, ◌++◌, Bool, true, false, List, [], ◌∷◌, length, refl, sym, ◌∙◌, ap, subst, arith, inl}
use Rattle.std.specs.Prelude.{if◌then◌else◌, nat_eq}
use Rattle.std.proofs.lemmas.Bool.{cond-true, cond-false, both_ways}
use Rattle.ata_types.specs.declared.Port.{Port}
use Rattle.hba_regs.specs.Bits.{bit}
use Rattle.hba_regs.specs.declared.reg.Reg.TheVariants.{Ghc, Px}
use Rattle.hba_regs.specs.declared.reg.PortReg.{PortReg}
use Rattle.hba_regs.specs.declared.reg.PortReg.TheVariants.{Cmd, Sctl, Ssts}
use Rattle.adapter.specs.Access.{Access, Does, Reads, Writes, notes_after_reading, port_after_hba_is_write, port_after_write, port_after_st_write, port_after_fre_write, port_after_det_write}
use Rattle.adapter.specs.Device.{DevicePort, Device}
use Rattle.adapter.specs.Idle.{IsIdle}
use Rattle.adapter.specs.KeptBySteps.{KeepsOverSteps}
use Rattle.adapter.specs.Steps.{DeviceTransition, Can, device_after, TransitionsLead, Steps}
use Rattle.adapter.specs.Steps.DeviceTransition.{Fetch, FetchFault, Move, Clear, Done, Fault, Fatal, Fall, FrFall, LinkUp, Unplug, Plug, ResetEnds, Scribble}
use Rattle.adapter.specs.declared.tape.Entry.{Entry}
use Rattle.adapter.proofs.Changed.{changed_same}
use Rattle.refinement.specs.StepLaws.{StepLaws}
use Rattle.refinement.specs.Errors.{IsDiskComing, NoDiskComes}
use Rattle.refinement.specs.PreservedParts.{HasDet3IfDiskPresent}
use Rattle.refinement.proofs.device.FactsOverAccesses.{access_steps, effect_keeps}
use Rattle.refinement.proofs.device.ErrorBits.{comes_parts, comes_before, command_beside}
use Rattle.refinement.proofs.device.TapeGains.{NoneOf, gained_none}
use Rattle.refinement.proofs.device.HaltedPort.{reset_read, law_hr_read_clear_means_ports_are_quiescent, reset_idle}
use Rattle.refinement.proofs.device.HealthyPort.{at_port}
use Rattle.refinement.proofs.device.AdapterReset.{ghc_told}
use Rattle.refinement.specs.Vacant.{IsVacant, HasFirstFisIfDet3}

-- ---- facts of a port that its steps keep while no disk comes

-- what each step keeps that is no disk's coming, lists of them keep
leads_without : StepLaws → (port : ℕ) (P : DevicePort → Type 0) →
    ((d : Device) (gained : List Entry) → NoneOf (IsDiskComing port) gained → (step : DeviceTransition) → Can step d → (device_after step d).tape ≡ d.tape ++ gained → P (d.port port) → P ((device_after step d).port port)) →
    (steps : List DeviceTransition) (old new : Device) → TransitionsLead steps old new → NoDiskComes port old new → P (old.port port) → P (new.port port)
leads_without laws port P keep [] old new e none h = subst (λ (d : Device). P (d.port port)) (sym e) h
leads_without laws port P keep (step ∷ steps) old new (can, lead) none h =
    let k : KeepsOverSteps old (device_after step old) = laws.one_step_keeps step _ can in
    let l : KeepsOverSteps (device_after step old) new = laws.steps_keep _ _ (record { steps = steps; lead = lead }) in
    let parts = comes_parts port old (device_after step old) new k.new_entries l.new_entries k.tape_grows l.tape_grows none in
    leads_without laws port P keep steps (device_after step old) new lead parts.1 (keep old parts.0.new_entries parts.0.no_such_entry step can parts.0.tape_is h)

-- and so do accesses, where their writes keep it
access_without : StepLaws → (port : Port) (P : DevicePort → Type 0) →
    ((d : Device) (gained : List Entry) → NoneOf (IsDiskComing port.0) gained → (step : DeviceTransition) → Can step d → (device_after step d).tape ≡ d.tape ++ gained → P (d.port port.0) → P ((device_after step d).port port.0)) →
    ((p : DevicePort) (r : PortReg) (v : ℕ) → P p → P (record p { notes = notes_after_reading r v p })) → ((p : DevicePort) → P p → P (port_after_hba_is_write p)) →
    ((r : PortReg) (v tape : ℕ) (p : DevicePort) → P p → P (port_after_write r v tape p)) →
    (access : Access) (old new : Device) → NoDiskComes port.0 old new → Does access old new → P (old.port port.0) → P (new.port port.0)
access_without laws port P keep noting acknowledging writing access old new none x h =
    let s = access_steps access old new x in
    effect_keeps P port noting acknowledging access old new x (λ r v mid is steps y. writing r v (length mid.tape) (mid.port port.0) y)
    (leads_without laws port.0 P keep s.1.steps old s.0 s.1.lead (comes_before port.0 old s.0 new s.2 none) h)

not_three : {A : Type 0} → ◌≡◌ {A = ℕ} 0 3 → A
not_three e = absurd (omega (arith, e))

-- DET that COMRESET clears, or that stays
det_was : (b : Bool) (det : ℕ) → (if b then 0 else det) ≡ 3 → det ≡ 3
det_was true det e = not_three e
det_was false det e = e

-- ---- no disk is in

abbrev Out : DevicePort → Type 0
Out p = p.present ≡ false

module _ (port : ℕ) (d : Device) (gained : List Entry) (none : NoneOf (IsDiskComing port) gained) where
  step_out : (step : DeviceTransition) → Can step d → (device_after step d).tape ≡ d.tape ++ gained → Out (d.port port) → Out ((device_after step d).port port)
  step_out (Fetch p slot c places) can is h = at_port Out Out d p port _ h (λ e x. x) (λ ne x. x)
  step_out (FetchFault p slot queued kept_bits) can is h = at_port Out Out d p port _ h (λ e x. x) (λ ne x. x)
  step_out (Move p slot t bytes) can is h = at_port Out Out d p port _ h (λ e x. x) (λ ne x. x)
  step_out (Clear p slot t first count) can is h = at_port Out Out d p port _ h (λ e x. x) (λ ne x. x)
  step_out (Done p slot flag t) can is h = at_port Out Out d p port _ h (λ e x. x) (λ ne x. x)
  step_out (Fault p slot error kept_bits t) can is h = at_port Out Out d p port _ h (λ e x. x) (λ ne x. x)
  step_out (Fatal p place) can is h = at_port Out Out d p port _ h (λ e x. x) (λ ne x. x)
  step_out (Fall p) can is h = at_port Out Out d p port _ h (λ e x. x) (λ ne x. x)
  step_out (FrFall p) can is h = at_port Out Out d p port _ h (λ e x. x) (λ ne x. x)
  step_out (LinkUp p sig n) can is h = at_port Out Out d p port _ h (λ e x. x) (λ ne x. x)
  step_out (Unplug p) can is h = at_port Out Out d p port _ h (λ e x. refl) (λ ne x. x)
  step_out (Plug p disk) can is h = at_port Out Out d p port _ h (λ e x. absurd (gained_none (IsDiskComing port) d.tape _ gained is none e)) (λ ne x. x)
  step_out ResetEnds can is h = h
  step_out (Scribble p slot at bytes) can is h = h

written_out : (r : PortReg) (v tape : ℕ) (p : DevicePort) → Out p → Out (port_after_write r v tape p)
written_out Cmd v tape p h = (command_beside v tape p).6 ∙ h
written_out _ v tape p h = h

pub out_steps : StepLaws → (port : ℕ) (old new : Device) → NoDiskComes port old new → Steps old new → (old.port port).present ≡ false → (new.port port).present ≡ false
out_steps laws port old new none s h = leads_without laws port Out (step_out port) s.steps old new s.lead none h

pub out_access : StepLaws → (port : Port) (access : Access) (old new : Device) → NoDiskComes port.0 old new → Does access old new → (old.port port.0).present ≡ false → (new.port port.0).present ≡ false
out_access laws port access old new none x h = access_without laws port Out (step_out port.0) (λ p r v y. y) (λ p y. y) written_out access old new none x h

-- ---- and none shows

abbrev Vacant : DevicePort → Type 0
Vacant p = (p.present ≡ false) × (p.ssts_det ≢ 3)

is_vacant : (p : DevicePort) → Vacant p → IsVacant p
is_vacant p h = record { no_disk_is_in = h.0; det_is_not_3 = h.1 }

module _ (port : ℕ) (d : Device) (gained : List Entry) (none : NoneOf (IsDiskComing port) gained) where
  step_vacant : (step : DeviceTransition) → Can step d → (device_after step d).tape ≡ d.tape ++ gained → Vacant (d.port port) → Vacant ((device_after step d).port port)
  step_vacant (Fetch p slot c places) can is h = at_port Vacant Vacant d p port _ h (λ e x. x) (λ ne x. x)
  step_vacant (FetchFault p slot queued kept_bits) can is h = at_port Vacant Vacant d p port _ h (λ e x. x) (λ ne x. x)
  step_vacant (Move p slot t bytes) can is h = at_port Vacant Vacant d p port _ h (λ e x. x) (λ ne x. x)
  step_vacant (Clear p slot t first count) can is h = at_port Vacant Vacant d p port _ h (λ e x. x) (λ ne x. x)
  step_vacant (Done p slot flag t) can is h = at_port Vacant Vacant d p port _ h (λ e x. x) (λ ne x. x)
  step_vacant (Fault p slot error kept_bits t) can is h = at_port Vacant Vacant d p port _ h (λ e x. x) (λ ne x. x)
  step_vacant (Fatal p place) can is h = at_port Vacant Vacant d p port _ h (λ e x. x) (λ ne x. x)
  step_vacant (Fall p) can is h = at_port Vacant Vacant d p port _ h (λ e x. x) (λ ne x. x)
  step_vacant (FrFall p) can is h = at_port Vacant Vacant d p port _ h (λ e x. x) (λ ne x. x)
  step_vacant (LinkUp p sig n) can is h = at_port Vacant Vacant d p port _ h (λ e x. absurd (both_ways _ x.0 can.present)) (λ ne x. x)
  step_vacant (Unplug p) can is h = at_port Vacant Vacant d p port _ h (λ e x. (refl, λ z. not_three z)) (λ ne x. x)
  step_vacant (Plug p disk) can is h = at_port Vacant Vacant d p port _ h (λ e x. absurd (gained_none (IsDiskComing port) d.tape _ gained is none e)) (λ ne x. x)
  step_vacant ResetEnds can is h = (h.0, λ z. not_three z)
  step_vacant (Scribble p slot at bytes) can is h = h

written_vacant : (r : PortReg) (v tape : ℕ) (p : DevicePort) → Vacant p → Vacant (port_after_write r v tape p)
written_vacant Cmd v tape p h = let c = command_beside v tape p in (c.6 ∙ h.0, λ up. h.1 (sym c.3 ∙ up))
written_vacant Sctl v tape p h = (h.0, λ up. h.1 (det_was (nat_eq (v % 16) 1) p.ssts_det up))
written_vacant _ v tape p h = h

pub vacant_steps : StepLaws → (port : ℕ) (old new : Device) → NoDiskComes port old new → Steps old new → IsVacant (old.port port) → IsVacant (new.port port)
vacant_steps laws port old new none s h = is_vacant (new.port port) (leads_without laws port Vacant (step_vacant port) s.steps old new s.lead none (h.no_disk_is_in, h.det_is_not_3))

pub vacant_access : StepLaws → (port : Port) (access : Access) (old new : Device) → NoDiskComes port.0 old new → Does access old new → IsVacant (old.port port.0) → IsVacant (new.port port.0)
vacant_access laws port access old new none x h =
    is_vacant (new.port port.0) (access_without laws port Vacant (step_vacant port.0) (λ p r v y. y) (λ p y. y) written_vacant access old new none x (h.no_disk_is_in, h.det_is_not_3))

-- ---- a disk that shows has sent its first FIS

module _ (port : ℕ) (d : Device) (gained : List Entry) (none : NoneOf (IsDiskComing port) gained) where
  step_fresh : (step : DeviceTransition) → Can step d → (device_after step d).tape ≡ d.tape ++ gained → HasFirstFisIfDet3 (d.port port) → HasFirstFisIfDet3 ((device_after step d).port port)
  step_fresh (Fetch p slot c places) can is h = at_port HasFirstFisIfDet3 HasFirstFisIfDet3 d p port _ h (λ e x. x) (λ ne x. x)
  step_fresh (FetchFault p slot queued kept_bits) can is h = at_port HasFirstFisIfDet3 HasFirstFisIfDet3 d p port _ h (λ e x. x) (λ ne x. x)
  step_fresh (Move p slot t bytes) can is h = at_port HasFirstFisIfDet3 HasFirstFisIfDet3 d p port _ h (λ e x. x) (λ ne x. x)
  step_fresh (Clear p slot t first count) can is h = at_port HasFirstFisIfDet3 HasFirstFisIfDet3 d p port _ h (λ e x. x) (λ ne x. x)
  step_fresh (Done p slot flag t) can is h = at_port HasFirstFisIfDet3 HasFirstFisIfDet3 d p port _ h (λ e x. x) (λ ne x. x)
  step_fresh (Fault p slot error kept_bits t) can is h = at_port HasFirstFisIfDet3 HasFirstFisIfDet3 d p port _ h (λ e x. x) (λ ne x. x)
  step_fresh (Fatal p place) can is h = at_port HasFirstFisIfDet3 HasFirstFisIfDet3 d p port _ h (λ e x. x) (λ ne x. x)
  step_fresh (Fall p) can is h = at_port HasFirstFisIfDet3 HasFirstFisIfDet3 d p port _ h (λ e x. x) (λ ne x. x)
  step_fresh (FrFall p) can is h = at_port HasFirstFisIfDet3 HasFirstFisIfDet3 d p port _ h (λ e x. x) (λ ne x. x)
  step_fresh (LinkUp p sig n) can is h = at_port HasFirstFisIfDet3 HasFirstFisIfDet3 d p port _ h (λ e x _. refl) (λ ne x. x)
  step_fresh (Unplug p) can is h = at_port HasFirstFisIfDet3 HasFirstFisIfDet3 d p port _ h (λ e x z. not_three z) (λ ne x. x)
  step_fresh (Plug p disk) can is h = at_port HasFirstFisIfDet3 HasFirstFisIfDet3 d p port _ h (λ e x. absurd (gained_none (IsDiskComing port) d.tape _ gained is none e)) (λ ne x. x)
  step_fresh ResetEnds can is h = λ z. not_three z
  step_fresh (Scribble p slot at bytes) can is h = h

-- a write of PxCMD leaves whether the first FIS has come
command_fresh : (v tape : ℕ) (p : DevicePort) → (port_after_write Cmd v tape p).fresh ≡ p.fresh
command_fresh v tape p = by (bit v 0) p.st refl
  where
    by : (b s : Bool) → p.st ≡ s → (port_after_fre_write (bit v 4) (port_after_st_write b tape p)).fresh ≡ p.fresh
    by false s is = refl
    by true true is = ap (λ (x : DevicePort). x.fresh) (cond-true p.st p _ is)
    by true false is = ap (λ (x : DevicePort). x.fresh) (cond-false p.st p _ is)

written_fresh : (r : PortReg) (v tape : ℕ) (p : DevicePort) → HasFirstFisIfDet3 p → HasFirstFisIfDet3 (port_after_write r v tape p)
written_fresh Cmd v tape p h = λ up. command_fresh v tape p ∙ h (sym (command_beside v tape p).3 ∙ up)
written_fresh Sctl v tape p h = λ up. h (det_was (nat_eq (v % 16) 1) p.ssts_det up)
written_fresh _ v tape p h = h

pub fresh_steps : StepLaws → (port : ℕ) (old new : Device) → NoDiskComes port old new → Steps old new → HasFirstFisIfDet3 (old.port port) → HasFirstFisIfDet3 (new.port port)
fresh_steps laws port old new none s h = leads_without laws port HasFirstFisIfDet3 (step_fresh port) s.steps old new s.lead none h

pub fresh_access : StepLaws → (port : Port) (access : Access) (old new : Device) → NoDiskComes port.0 old new → Does access old new → HasFirstFisIfDet3 (old.port port.0) → HasFirstFisIfDet3 (new.port port.0)
fresh_access laws port access old new none x h = access_without laws port HasFirstFisIfDet3 (step_fresh port.0) (λ p r v y. y) (λ p y. y) written_fresh access old new none x h

-- ---- where it begins

module _ (laws : StepLaws) (v : ℕ) (old new : Device) (on : old.hr ≡ true) (call : Reads Ghc v old new) (clear : bit v 0 ≡ false) (port : ℕ) (none : NoDiskComes port old new) where
  pub vacant_reset : (old.port port).present ≡ false → IsVacant (new.port port)
  vacant_reset out =
      let s = reset_read v old new on call clear in
      let a : KeepsOverSteps old (device_after ResetEnds s.0) = laws.steps_keep _ _ s.2 in
      let b : KeepsOverSteps (device_after ResetEnds s.0) new = laws.steps_keep _ _ s.1 in
      let parts = comes_parts port old (device_after ResetEnds s.0) new a.new_entries b.new_entries a.tape_grows b.tape_grows none in
      (vacant_steps laws) port (device_after ResetEnds s.0) new parts.1 s.1 (is_vacant _ (out_steps laws port old (device_after ResetEnds s.0) parts.0 s.2 out, λ z. not_three z))

  pub fresh_reset : HasFirstFisIfDet3 (new.port port)
  fresh_reset =
      let s = reset_read v old new on call clear in
      let a : KeepsOverSteps old (device_after ResetEnds s.0) = laws.steps_keep _ _ s.2 in
      let b : KeepsOverSteps (device_after ResetEnds s.0) new = laws.steps_keep _ _ s.1 in
      let parts = comes_parts port old (device_after ResetEnds s.0) new a.new_entries b.new_entries a.tape_grows b.tape_grows none in
      (fresh_steps laws) port (device_after ResetEnds s.0) new parts.1 s.1 (λ z. not_three z)

pub fresh_comreset : (port : Port) (v : ℕ) (old new : Device) → v % 16 ≡ 1 → Writes (Px port Sctl) v old new → HasFirstFisIfDet3 (new.port port.0)
fresh_comreset port v old new one call =
    subst HasFirstFisIfDet3 (sym (ap (λ (d : Device). d.port port.0) call.effect ∙ changed_same call.at_access.port port.0 _))
    (subst (λ (n : ℕ). HasFirstFisIfDet3 (port_after_det_write n (length call.at_access.tape) (call.at_access.port port.0))) (sym one) (λ z. not_three z))

pub device_shown : (port : Port) (v : ℕ) (old new : Device) → Reads (Px port Ssts) v old new → v % 16 ≡ 3 → HasDet3IfDiskPresent (new.port port.0)
device_shown port v old new call three =
    inl (ap (λ (d : Device). (d.port port.0).ssts_det) call.effect ∙ (ap (λ (p : DevicePort). p.ssts_det) (changed_same call.at_access.port port.0 _) ∙ (sym call.shows ∙ three)))

-- ---- a reset of the adapter

pub reset_read_idle : StepLaws → (v : ℕ) (old new : Device) → old.hr ≡ true → Reads Ghc v old new → bit v 0 ≡ false → IsIdle new
reset_read_idle laws v old new on call clear = record {
  no_reset = (ghc_told v old new call).0 ∙ clear;
  ports_are_idle = λ port. reset_idle (new.port port) (law_hr_read_clear_means_ports_are_quiescent laws v old new on call clear port);
}
