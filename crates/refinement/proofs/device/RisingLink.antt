-- A link that comes up while the engine stands.
use Rattle.std.proofs.Common.{ℕ, ◌≡◌, ◌≢◌, ◌⊎◌, ◌%◌, ◌++◌, ◌&&◌, Bool, true, false, List, [], ◌∷◌, length, refl, sym, ◌∙◌, ap, subst, arith, ⊎_elim}
use Rattle.std.specs.Prelude.{if◌then◌else◌, nat_eq}
use Rattle.std.proofs.lemmas.Bool.{cases_eq, both_ways}
use Rattle.ata_types.specs.declared.Port.{Port}
use Rattle.hba_regs.specs.Bits.{bit}
use Rattle.hba_regs.specs.declared.reg.Reg.TheVariants.{Ghc, Px}
use Rattle.hba_regs.specs.declared.reg.PortReg.{PortReg}
use Rattle.hba_regs.specs.declared.reg.PortReg.TheVariants.{Cmd, Ssts, Sctl}
use Rattle.adapter.specs.Access.{Access, Does, Reads, Writes, port_after_write, port_after_st_write, port_after_fre_write, port_after_det_write}
use Rattle.adapter.specs.Access.Access.{Reading, Writing}
use Rattle.adapter.specs.Device.{DevicePort, Device}
use Rattle.adapter.specs.Device.Halt.{NotHalted}
use Rattle.adapter.specs.KeptBySteps.{KeepsOverSteps, PortBitsOnlyFallFreeSlotsStay}
use Rattle.adapter.specs.Steps.{DeviceTransition, Can, device_after, TransitionsLead, Steps, halt_after_start}
use Rattle.adapter.specs.Steps.DeviceTransition.{Fetch, FetchFault, Move, Clear, Done, Fault, Fatal, Fall, FrFall, LinkUp, Unplug, Plug, ResetEnds, Scribble}
use Rattle.adapter.specs.declared.tape.Entry.{Entry}
use Rattle.adapter.proofs.Changed.{changed_same}
use Rattle.refinement.specs.StepLaws.{StepLaws}
use Rattle.refinement.specs.Errors.{IsDiskComing, NoDiskComes}
use Rattle.refinement.specs.PreservedParts.{DoesNotWrite, NoPlugEvents, SameLink, ComesUp}
use Rattle.refinement.specs.StartedPort.{IsUpForStart, IsStoppedAndUpForStartIfDet3, WritesCmdOnlyWithStClear}
use Rattle.refinement.proofs.device.FactsOverAccesses.{access_steps, effect_keeps}
use Rattle.refinement.proofs.device.ErrorBits.{comes_parts, comes_before, plugs_come}
use Rattle.refinement.proofs.device.TapeGains.{NoneOf, gained_none}
use Rattle.refinement.proofs.device.HaltedPort.{reset_read}
use Rattle.refinement.proofs.device.HealthyPort.{at_port}
use Rattle.refinement.proofs.device.PortControls.{steps_link, access_link}
use Rattle.refinement.proofs.device.StartConditions.{neither, not_one}

-- ---- as facts of a port's fields

abbrev pub Up : DevicePort → Type 0
Up p = (p.ssts_det ≡ 3) × (p.present ≡ true) × (p.fresh ≡ true) × (p.link_due ≡ false) × (p.sctl_det ≢ 1) × (halt_after_start p.halt ≡ NotHalted)

abbrev Coming : DevicePort → Type 0
Coming p = (p.cr ≡ false) × (p.ssts_det ≡ 3 → Up p)

pub up_of : (p : DevicePort) → IsUpForStart p → Up p
up_of p u = (u.det_is_3, u.present, u.fresh, u.no_link_is_due, u.comreset_is_over, u.start_ends_halt)

pub is_up : (p : DevicePort) → Up p → IsUpForStart p
is_up p u = record { det_is_3 = u.0; present = u.1; fresh = u.2; no_link_is_due = u.3; comreset_is_over = u.4; start_ends_halt = u.5 }

coming_of : (p : DevicePort) → IsStoppedAndUpForStartIfDet3 p → Coming p
coming_of p h = (h.cr_is_clear, λ det. up_of p (h.is_up_if_det_3 det))

is_coming : (p : DevicePort) → Coming p → IsStoppedAndUpForStartIfDet3 p
is_coming p h = record { cr_is_clear = h.0; is_up_if_det_3 = λ det. is_up p (h.1 det) }

-- no device shows
not_three : {A : Type 0} → ◌≡◌ {A = ℕ} 0 3 → A
not_three e = absurd (omega (arith, e))

pub unlinked : (p : DevicePort) → p.cr ≡ false → p.ssts_det ≢ 3 → IsStoppedAndUpForStartIfDet3 p
unlinked p stands other = record { cr_is_clear = stands; is_up_if_det_3 = λ det. absurd (other det) }

-- ---- a step

module _ (port : ℕ) (d : Device) (gained : List Entry) (none : NoneOf (IsDiskComing port) gained) (h : Coming (d.port port)) where
  -- a step of an engine that runs
  works : {Q : Type 0} (p : ℕ) → (d.port p).cr ≡ true → p ≡ port → Q
  works p runs e = absurd (both_ways _ (ap (λ (k : ℕ). (d.port k).cr) e ∙ h.0) runs)

  step_coming : (step : DeviceTransition) → Can step d → (device_after step d).tape ≡ d.tape ++ gained → Coming ((device_after step d).port port)
  step_coming (Fetch p slot c places) can is = at_port Coming Coming d p port _ h (λ e x. works p can.working.cr_is_set e) (λ ne x. x)
  step_coming (FetchFault p slot queued kept_bits) can is = at_port Coming Coming d p port _ h (λ e x. works p can.working.cr_is_set e) (λ ne x. x)
  step_coming (Move p slot t bytes) can is = at_port Coming Coming d p port _ h (λ e x. x) (λ ne x. x)
  step_coming (Clear p slot t first count) can is = at_port Coming Coming d p port _ h (λ e x. x) (λ ne x. x)
  step_coming (Done p slot flag t) can is = at_port Coming Coming d p port _ h (λ e x. works p can.works.working.cr_is_set e) (λ ne x. x)
  step_coming (Fault p slot error kept_bits t) can is = at_port Coming Coming d p port _ h (λ e x. works p can.cr_is_set e) (λ ne x. x)
  step_coming (Fatal p place) can is = at_port Coming Coming d p port _ h (λ e x. x) (λ ne x. x)
  step_coming (Fall p) can is = at_port Coming Coming d p port _ h (λ e x. works p can.1 e) (λ ne x. x)
  step_coming (FrFall p) can is = at_port Coming Coming d p port _ h (λ e x. x) (λ ne x. x)
  step_coming (LinkUp p sig n) can is = at_port Coming Coming d p port _ h
      (λ e x. (x.0, λ _. (refl, can.present, refl, refl, λ one. absurd (let z = can.no_comreset in omega (arith, one, z)), refl))) (λ ne x. x)
  step_coming (Unplug p) can is = at_port Coming Coming d p port _ h (λ e x. (x.0, λ det. not_three det)) (λ ne x. x)
  step_coming (Plug p disk) can is = at_port Coming Coming d p port _ h
      (λ e x. absurd (gained_none (IsDiskComing port) d.tape _ gained is none e)) (λ ne x. x)
  step_coming ResetEnds can is = (refl, λ det. not_three det)
  step_coming (Scribble p slot at bytes) can is = h

leads_coming : StepLaws → (port : ℕ) (steps : List DeviceTransition) (old new : Device) → TransitionsLead steps old new → NoDiskComes port old new → Coming (old.port port) → Coming (new.port port)
leads_coming laws port [] old new e none h = subst (λ (d : Device). Coming (d.port port)) (sym e) h
leads_coming laws port (step ∷ steps) old new (can, lead) none h =
    let k : KeepsOverSteps old (device_after step old) = laws.one_step_keeps step _ can in
    let l : KeepsOverSteps (device_after step old) new = laws.steps_keep _ _ (record { steps = steps; lead = lead }) in
    let parts = comes_parts port old (device_after step old) new k.new_entries l.new_entries k.tape_grows l.tape_grows none in
    leads_coming laws port steps (device_after step old) new lead parts.1 (step_coming port old parts.0.new_entries parts.0.no_such_entry h step can parts.0.tape_is)

pub steps_coming : StepLaws → (port : ℕ) (old new : Device) → NoDiskComes port old new → Steps old new → IsStoppedAndUpForStartIfDet3 (old.port port) → IsStoppedAndUpForStartIfDet3 (new.port port)
steps_coming laws port old new none s h = is_coming (new.port port) (leads_coming laws port s.steps old new s.lead none (coming_of (old.port port) h))

-- ---- an access

module _ (v tape : ℕ) (p : DevicePort) where
  command_coming : bit v 0 ≡ false → Coming p → Coming (port_after_write Cmd v tape p)
  command_coming off h = subst (λ (b : Bool). Coming (port_after_fre_write (bit v 4) (port_after_st_write b tape p))) (sym off) h

  -- DET of PxSCTL isn't 1, and wasn't
  released_up : (w : ℕ) → w ≢ 1 → Up p → Up (port_after_det_write w tape p)
  released_up w other u = (
    ap (λ (b : Bool). if b then 0 else p.ssts_det) (not_one w other) ∙ u.0,
    u.1,
    u.2,
    neither p.link_due (nat_eq p.sctl_det 1 && nat_eq w 0) u.3 (ap (λ (b : Bool). b && nat_eq w 0) (not_one p.sctl_det u.4)),
    other,
    u.5,
  )

  control_coming : (w : ℕ) → Coming p → Coming (port_after_det_write w tape p)
  control_coming w h = ⊎_elim
      (λ (one : w ≡ 1). subst (λ (n : ℕ). Coming (port_after_det_write n tape p)) (sym one) (h.0, λ det. not_three det))
      (λ (other : w ≡ 1 → ⊥). (h.0, λ det. released_up w other (h.1 (sym (ap (λ (b : Bool). if b then 0 else p.ssts_det) (not_one w other)) ∙ det))))
      (cases_eq w 1)

written_coming : (r : PortReg) (v tape : ℕ) (p : DevicePort) → (r ≡ Cmd → bit v 0 ≡ false) → Coming p → Coming (port_after_write r v tape p)
written_coming Cmd v tape p off h = command_coming v tape p (off refl) h
written_coming Sctl v tape p off h = control_coming v tape p (v % 16) h
written_coming _ v tape p off h = h

module _ (laws : StepLaws) (port : Port) (access : Access) (old new : Device) (off : WritesCmdOnlyWithStClear port access) (x : Does access old new) where
  pub access_coming : NoDiskComes port.0 old new → IsStoppedAndUpForStartIfDet3 (old.port port.0) → IsStoppedAndUpForStartIfDet3 (new.port port.0)
  access_coming none h =
      let s = access_steps access old new x in
      let c = leads_coming laws port.0 s.1.steps old s.0 s.1.lead (comes_before port.0 old s.0 new s.2 none) (coming_of (old.port port.0) h) in
      is_coming (new.port port.0)
      (effect_keeps Coming port (λ p r v y. y) (λ p y. y) access old new x
      (λ r v mid is steps y. written_coming r v (length mid.tape) (mid.port port.0) (λ e. off v (is ∙ ap (λ (q : PortReg). Writing (Px port q) v) e)) y) c)

-- ---- it begins

pub comreset_comes : StepLaws → (port : Port) (v : ℕ) (old new : Device) → (old.port port.0).cr ≡ false → v % 16 ≡ 1 → Writes (Px port Sctl) v old new → IsStoppedAndUpForStartIfDet3 (new.port port.0)
comreset_comes laws port v old new stands one call =
    let k : PortBitsOnlyFallFreeSlotsStay (old.port port.0) (call.at_access.port port.0) = (laws.steps_keep _ _ call.steps).port_bits_only_fall port.0 in
    subst IsStoppedAndUpForStartIfDet3 (sym (ap (λ (d : Device). d.port port.0) call.effect ∙ changed_same call.at_access.port port.0 _))
    (is_coming _ (subst (λ (n : ℕ). Coming (port_after_det_write n (length call.at_access.tape) (call.at_access.port port.0))) (sym one) (k.cr_stays_clear stands, λ det. not_three det)))

pub reset_comes : StepLaws → (v : ℕ) (old new : Device) → old.hr ≡ true → Reads Ghc v old new → bit v 0 ≡ false → (port : ℕ) → NoDiskComes port old new → IsStoppedAndUpForStartIfDet3 (new.port port)
reset_comes laws v old new on call clear port none =
    let s = reset_read v old new on call clear in
    let a : KeepsOverSteps old (device_after ResetEnds s.0) = laws.steps_keep _ _ s.2 in
    let b : KeepsOverSteps (device_after ResetEnds s.0) new = laws.steps_keep _ _ s.1 in
    let parts = comes_parts port old (device_after ResetEnds s.0) new a.new_entries b.new_entries a.tape_grows b.tape_grows none in
    (steps_coming laws) port (device_after ResetEnds s.0) new parts.1 s.1 (is_coming _ (refl, λ det. not_three det))

-- ---- it is found up

pub up_is_found : StepLaws → (port : Port) (v : ℕ) (old new : Device) → NoDiskComes port.0 old new → Reads (Px port Ssts) v old new → v % 16 ≡ 3 → IsStoppedAndUpForStartIfDet3 (old.port port.0) → IsUpForStart (new.port port.0)
up_is_found laws port v old new none call three h =
    (access_coming laws port (Reading (Px port Ssts) v) old new (λ w e. absurd (let z : Reading (Px port Ssts) v ≡ Writing (Px port Cmd) w = e in cc)) call none h).is_up_if_det_3
    (ap (λ (d : Device). (d.port port.0).ssts_det) call.effect ∙ ap (λ (p : DevicePort). p.ssts_det) (changed_same call.at_access.port port.0 _) ∙ sym call.shows ∙ three)

-- ---- and stays so

-- the link is as it was, or has come up
still_three : (p new : DevicePort) → p.ssts_det ≡ 3 → SameLink p new ⊎ ComesUp p new → new.ssts_det ≡ 3
still_three p new three = ⊎_elim (λ (s : SameLink p new). s.det ∙ three) (λ (c : ComesUp p new). c.det)

pub steps_up : StepLaws → (port : ℕ) (old new : Device) → old.hr ≡ false → (old.port port).cr ≡ false → NoPlugEvents port old new → Steps old new → IsUpForStart (old.port port) → IsUpForStart (new.port port)
steps_up laws port old new off stands none s u =
    (steps_coming laws port old new (plugs_come port old new none) s (record { cr_is_clear = stands; is_up_if_det_3 = λ _. u })).is_up_if_det_3
    (still_three (old.port port) (new.port port) u.det_is_3 (steps_link laws port old new off s none))

pub access_up : StepLaws → (port : Port) (access : Access) (old new : Device) → old.hr ≡ false → (old.port port.0).cr ≡ false → WritesCmdOnlyWithStClear port access → DoesNotWrite (Px port Sctl) access → NoPlugEvents port.0 old new → Does access old new →
    IsUpForStart (old.port port.0) → IsUpForStart (new.port port.0)
access_up laws port access old new off stands sets spares none x u =
    (access_coming laws port access old new sets x (plugs_come port.0 old new none) (record { cr_is_clear = stands; is_up_if_det_3 = λ _. u })).is_up_if_det_3
    (still_three (old.port port.0) (new.port port.0) u.det_is_3 (access_link laws port access old new off spares x none))
