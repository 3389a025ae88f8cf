-- Bits that tell of a port's errors stay set, and rise for its disks alone.
use Rattle.std.proofs.Common.{ℕ, ◌≡◌, ◌≢◌, ◌++◌, ◌%◌, not, Bool, true, false, List, [], ◌∷◌, length, refl, sym, ◌∙◌, ap, subst, arith, ⊎_elim, append-nil}
use Rattle.std.specs.Prelude.{if◌then◌else◌, nat_eq}
use Rattle.std.proofs.lemmas.Bool.{cases_eq, and_left, cond-true, cond-false, both_ways}
use Rattle.std.proofs.lemmas.List.Elements.{All-nil, All-cons}
use Rattle.ata_types.specs.declared.Port.{Port}
use Rattle.hba_regs.specs.Bits.{bit}
use Rattle.hba_regs.specs.declared.reg.Reg.TheVariants.{Px}
use Rattle.hba_regs.specs.declared.reg.PortReg.{PortReg}
use Rattle.hba_regs.specs.declared.reg.PortReg.TheVariants.{Is, Cmd, Sctl, Serr}
use Rattle.adapter.specs.Access.{Access, Does, port_after_write, port_after_st_write, port_after_fre_write}
use Rattle.adapter.specs.Device.{DevicePort, Device}
use Rattle.adapter.specs.KeptBySteps.{KeepsOverSteps, KeepsControlsFlagsRise}
use Rattle.adapter.specs.Memory.{changed}
use Rattle.adapter.specs.Steps.{DeviceTransition, Can, device_after, TransitionsLead, Steps}
use Rattle.adapter.specs.Steps.DeviceTransition.{Fetch, FetchFault, Move, Clear, Done, Fault, Fatal, Fall, FrFall, LinkUp, Unplug, Plug, ResetEnds, Scribble}
use Rattle.adapter.specs.declared.tape.Entry.{Entry}
use Rattle.adapter.specs.declared.tape.Entry.TheVariants as entry
use Rattle.adapter.proofs.Changed.{changed_same, changed_other}
use Rattle.refinement.specs.StepLaws.{StepLaws}
use Rattle.refinement.specs.Fragments.{TapeGrows}
use Rattle.refinement.specs.Errors.{KeepsSetBitsOfPxisAndSerrNX, IsDiskComing, NoDiskComes, LinkErrorsRiseByDisks}
use Rattle.refinement.specs.PreservedParts.{DoesNotWrite, IsPlugEvent, NoPlugEvents}
use Rattle.refinement.proofs.device.FactsOverAccesses.{access_steps, effect_keeps}
use Rattle.refinement.proofs.device.TapeGains.{gains_nothing, gains_more, gains_parts, gained_none, none_narrower}
use Rattle.refinement.proofs.device.HealthyPort.{at_port}
use Rattle.refinement.proofs.device.PortControls.{spared, plugs_nothing, plugs_more, plugs_parts, plugs_before}

-- ---- disks that come

pub comes_nothing : (port : ℕ) (d : Device) → NoDiskComes port d d
comes_nothing port d = let g = gains_nothing (IsDiskComing port) d in record { new_entries = g.0; tape_is = g.1; no_such_entry = g.2 }

pub comes_more : (port : ℕ) (old mid new : Device) → NoDiskComes port old mid → NoDiskComes port mid new → NoDiskComes port old new
comes_more port old mid new a b =
    let g = gains_more (IsDiskComing port) old mid new (a.new_entries, a.tape_is, a.no_such_entry) (b.new_entries, b.tape_is, b.no_such_entry) in
    record { new_entries = g.0; tape_is = g.1; no_such_entry = g.2 }

pub comes_parts : (port : ℕ) (old mid new : Device) (early late : List Entry) → mid.tape ≡ old.tape ++ early → new.tape ≡ mid.tape ++ late → NoDiskComes port old new → NoDiskComes port old mid × NoDiskComes port mid new
comes_parts port old mid new early late a b h =
    let g = gains_parts (IsDiskComing port) old mid new early late a b (h.new_entries, h.tape_is, h.no_such_entry) in
    (record { new_entries = g.0.0; tape_is = g.0.1; no_such_entry = g.0.2 }, record { new_entries = g.1.0; tape_is = g.1.1; no_such_entry = g.1.2 })

pub plugs_come : (port : ℕ) (old new : Device) → NoPlugEvents port old new → NoDiskComes port old new
plugs_come port old new p = record { new_entries = p.new_entries; tape_is = p.tape_is; no_such_entry = none_narrower (IsPlugEvent port) (IsDiskComing port) narrower p.new_entries p.no_such_entry }
  where
    narrower : (e : Entry) → IsDiskComing port e → IsPlugEvent port e
    narrower (entry.Plug at name) x = x
    narrower (entry.Unplug at) x = absurd x
    narrower (entry.Move move) x = absurd x
    narrower (entry.Clear clear) x = absurd x
    narrower (entry.Done done) x = absurd x
    narrower (entry.Fault fault) x = absurd x
    narrower (entry.Fatal at) x = absurd x

-- ---- what changes by disks

pub change_none : (port : ℕ) (d : Device) → LinkErrorsRiseByDisks port d d
change_none port d = record { serr_n_rises_by_plug_events = λ none h. h; serr_x_rises_by_disk_coming = λ none h. h; det_3_was_3_and_none_went_if_none_comes = λ none up. (up, plugs_nothing port d) }

pub change_more : (port : ℕ) (old mid new : Device) → TapeGrows old mid → TapeGrows mid new → LinkErrorsRiseByDisks port old mid → LinkErrorsRiseByDisks port mid new → LinkErrorsRiseByDisks port old new
change_more port old mid new early late a b = record {
  serr_n_rises_by_plug_events = λ none h. let parts = plugs_parts port old mid new early.0 late.0 early.1 late.1 none in b.serr_n_rises_by_plug_events parts.1 (a.serr_n_rises_by_plug_events parts.0 h);
  serr_x_rises_by_disk_coming = λ none h. let parts = comes_parts port old mid new early.0 late.0 early.1 late.1 none in b.serr_x_rises_by_disk_coming parts.1 (a.serr_x_rises_by_disk_coming parts.0 h);
  det_3_was_3_and_none_went_if_none_comes = λ none up.
      let parts = comes_parts port old mid new early.0 late.0 early.1 late.1 none in
      let last = b.det_3_was_3_and_none_went_if_none_comes parts.1 up in
      let first = a.det_3_was_3_and_none_went_if_none_comes parts.0 last.0 in
      (first.0, plugs_more port old mid new first.1 last.1);
}

-- before the effect of an access the tape has what it has after it
pub comes_before : (port : ℕ) (old mid new : Device) → new.tape ≡ mid.tape → NoDiskComes port old new → NoDiskComes port old mid
comes_before port old mid new same h = record { new_entries = h.new_entries; tape_is = sym same ∙ h.tape_is; no_such_entry = h.no_such_entry }

-- ---- a step while no link is due

-- what tells of the link and of its disk is the same
abbrev SameNews : DevicePort → DevicePort → Type 0
SameNews p q = (q.link_due ≡ p.link_due) × (q.serr_n ≡ p.serr_n) × (q.serr_x ≡ p.serr_x) × (q.ssts_det ≡ p.ssts_det)

-- the tape gains one entry, or none
one_plugs : (port : ℕ) (d new : Device) (e : Entry) → (IsPlugEvent port e → ⊥) → new.tape ≡ d.tape ++ e ∷ [] → NoPlugEvents port d new
one_plugs port d new e other is = record { new_entries = e ∷ []; tape_is = is; no_such_entry = All-cons (λ e. IsPlugEvent port e → ⊥) e [] other (All-nil (λ e. IsPlugEvent port e → ⊥)) }

no_plugs : (port : ℕ) (d new : Device) → new.tape ≡ d.tape → NoPlugEvents port d new
no_plugs port d new is = record { new_entries = []; tape_is = is ∙ sym (append-nil d.tape); no_such_entry = All-nil (λ e. IsPlugEvent port e → ⊥) }

-- a step, and then steps, while no link is due
abbrev Turns : ℕ → Device → Device → Type 0
Turns port old new = ((new.port port).link_due ≡ false) × LinkErrorsRiseByDisks port old new

module _ (port : ℕ) (d : Device) (off : d.hr ≡ false) (undue : (d.port port).link_due ≡ false) where
  abbrev News : DevicePort → Type 0
  News q = SameNews (d.port port) q

  calm : (new : Device) → News (new.port port) → NoPlugEvents port d new → Turns port d new
  calm new same none = (
    same.0 ∙ undue,
    record { serr_n_rises_by_plug_events = λ _ h. same.1 ∙ h; serr_x_rises_by_disk_coming = λ _ h. same.2 ∙ h; det_3_was_3_and_none_went_if_none_comes = λ _ up. (sym same.3 ∙ up, none) },
  )

  -- a disk of another port goes or comes
  elsewhere : (p : ℕ) (new : DevicePort) (device_after : Device) → device_after.port ≡ changed d.port p new → NoPlugEvents port d device_after → (p ≡ port → ⊥) → Turns port d device_after
  elsewhere p new device_after is none ne =
      let same : device_after.port port ≡ d.port port = ap (λ (f : ℕ → DevicePort). f port) is ∙ changed_other d.port p new port (λ e. ne (sym e)) in
      calm device_after (subst News (sym same) (refl, refl, refl, refl)) none

  step_turns : (step : DeviceTransition) → Can step d → Turns port d (device_after step d)
  step_turns (Fetch p slot c places) can = calm _ (at_port News News d p port _ (refl, refl, refl, refl) (λ e x. x) (λ ne x. x)) (no_plugs port d _ refl)
  step_turns (FetchFault p slot queued kept_bits) can = calm _ (at_port News News d p port _ (refl, refl, refl, refl) (λ e x. x) (λ ne x. x)) (one_plugs port d _ _ (λ x. x) refl)
  step_turns (Move p slot t bytes) can = calm _ (at_port News News d p port _ (refl, refl, refl, refl) (λ e x. x) (λ ne x. x)) (one_plugs port d _ _ (λ x. x) refl)
  step_turns (Clear p slot t first count) can = calm _ (at_port News News d p port _ (refl, refl, refl, refl) (λ e x. x) (λ ne x. x)) (one_plugs port d _ _ (λ x. x) refl)
  step_turns (Done p slot flag t) can = calm _ (at_port News News d p port _ (refl, refl, refl, refl) (λ e x. x) (λ ne x. x)) (one_plugs port d _ _ (λ x. x) refl)
  step_turns (Fault p slot error kept_bits t) can = calm _ (at_port News News d p port _ (refl, refl, refl, refl) (λ e x. x) (λ ne x. x)) (one_plugs port d _ _ (λ x. x) refl)
  step_turns (Fatal p place) can = calm _ (at_port News News d p port _ (refl, refl, refl, refl) (λ e x. x) (λ ne x. x)) (one_plugs port d _ _ (λ x. x) refl)
  step_turns (Fall p) can = calm _ (at_port News News d p port _ (refl, refl, refl, refl) (λ e x. x) (λ ne x. x)) (no_plugs port d _ refl)
  step_turns (FrFall p) can = calm _ (at_port News News d p port _ (refl, refl, refl, refl) (λ e x. x) (λ ne x. x)) (no_plugs port d _ refl)
  step_turns (LinkUp p sig n) can = calm _ (at_port News News d p port _ (refl, refl, refl, refl) (λ e x. absurd (both_ways _ (x.0 ∙ undue) can.link_is_due)) (λ ne x. x)) (no_plugs port d _ refl)
  step_turns (Unplug p) can = ⊎_elim
      (λ (e : p ≡ port). (
        at_port News (λ (q : DevicePort). q.link_due ≡ false) d p port _ (refl, refl, refl, refl) (λ _ x. x.0 ∙ undue) (λ _ x. undue),
        record {
          serr_n_rises_by_plug_events = λ none h. absurd (gained_none (IsPlugEvent port) d.tape _ none.new_entries none.tape_is none.no_such_entry e);
          serr_x_rises_by_disk_coming = λ none h. at_port News (λ (q : DevicePort). q.serr_x ≡ false) d p port _ (refl, refl, refl, refl) (λ _ x. x.2 ∙ h) (λ _ x. h);
          det_3_was_3_and_none_went_if_none_comes = λ none up. absurd (lost p e up);
        },
      ))
      (λ (ne : p ≡ port → ⊥). elsewhere p _ _ refl (one_plugs port d _ _ ne refl) ne)
      (cases_eq p port)
    where
      lost : (p : ℕ) → p ≡ port → ((device_after (Unplug p) d).port port).ssts_det ≡ 3 → ⊥
      lost p e up =
          let z : 0 ≡ 3 = sym (ap (λ (q : DevicePort). q.ssts_det) (changed_same d.port p _)) ∙ (ap (λ (k : ℕ). ((device_after (Unplug p) d).port k).ssts_det) e ∙ up) in
          omega (arith, z)
  step_turns (Plug p disk) can = ⊎_elim
      (λ (e : p ≡ port). (
        at_port News (λ (q : DevicePort). q.link_due ≡ false) d p port _ (refl, refl, refl, refl) (λ _ x. x.0 ∙ undue) (λ _ x. undue),
        record {
          serr_n_rises_by_plug_events = λ none h. absurd (gained_none (IsPlugEvent port) d.tape _ none.new_entries none.tape_is none.no_such_entry e);
          serr_x_rises_by_disk_coming = λ none h. absurd (gained_none (IsDiskComing port) d.tape _ none.new_entries none.tape_is none.no_such_entry e);
          det_3_was_3_and_none_went_if_none_comes = λ none up. absurd (gained_none (IsDiskComing port) d.tape _ none.new_entries none.tape_is none.no_such_entry e);
        },
      ))
      (λ (ne : p ≡ port → ⊥). elsewhere p _ _ refl (one_plugs port d _ _ ne refl) ne)
      (cases_eq p port)
  step_turns ResetEnds can = absurd (both_ways _ off can)
  step_turns (Scribble p slot at bytes) can = calm _ (refl, refl, refl, refl) (no_plugs port d _ refl)

leads_turn : StepLaws → (port : ℕ) (steps : List DeviceTransition) (old new : Device) → old.hr ≡ false → (old.port port).link_due ≡ false → TransitionsLead steps old new → Turns port old new
leads_turn laws port [] old new off undue e = subst (Turns port old) (sym e) (calm port old off undue old (refl, refl, refl, refl) (plugs_nothing port old))
leads_turn laws port (step ∷ steps) old new off undue (can, lead) =
    let k : KeepsOverSteps old (device_after step old) = laws.one_step_keeps step _ can in
    let l : KeepsOverSteps (device_after step old) new = laws.steps_keep _ _ (record { steps = steps; lead = lead }) in
    let a = step_turns port old off undue step can in
    let b = leads_turn laws port steps (device_after step old) new (k.keeps_outside_reset off).no_reset a.0 lead in (
      b.0,
      change_more port old (device_after step old) new (k.new_entries, k.tape_grows) (l.new_entries, l.tape_grows) a.1 b.1,
    )

-- ---- steps

pub steps_errors : StepLaws → (port : ℕ) (old new : Device) → old.hr ≡ false → Steps old new → KeepsSetBitsOfPxisAndSerrNX (old.port port) (new.port port)
steps_errors laws port old new off s =
    let c : KeepsControlsFlagsRise (old.port port) (new.port port) = ((laws.steps_keep _ _ s).keeps_outside_reset off).controls_are_kept port in
    record { set_pxis_bits_stay_set = c.causes_stay_set; serr_n_is_kept = c.serr_n_stays_set; serr_x_is_kept = c.serr_x_stays_set }

pub steps_change : StepLaws → (port : ℕ) (old new : Device) → old.hr ≡ false → (old.port port).link_due ≡ false → Steps old new → LinkErrorsRiseByDisks port old new
steps_change laws port old new off undue s = (leads_turn laws port s.steps old new off undue s.lead).1

pub steps_undue : StepLaws → (port : ℕ) (old new : Device) → old.hr ≡ false → (old.port port).link_due ≡ false → Steps old new → (new.port port).link_due ≡ false
steps_undue laws port old new off undue s = (leads_turn laws port s.steps old new off undue s.lead).0

-- ---- accesses

-- what a write of PxCMD leaves of a port
abbrev pub SameBeside : DevicePort → DevicePort → Type 0
SameBeside p q = (q.is ≡ p.is) × (q.serr_n ≡ p.serr_n) × (q.serr_x ≡ p.serr_x) × (q.ssts_det ≡ p.ssts_det) × (q.link_due ≡ p.link_due) × (q.disk ≡ p.disk) × (q.present ≡ p.present)

pub command_beside : (v tape : ℕ) (p : DevicePort) → SameBeside p (port_after_write Cmd v tape p)
command_beside v tape p = by (bit v 0) p.st refl
  where
    by : (b s : Bool) → p.st ≡ s → SameBeside p (port_after_fre_write (bit v 4) (port_after_st_write b tape p))
    by false s is = (refl, refl, refl, refl, refl, refl, refl)
    by true true is = subst (λ (x : DevicePort). SameBeside p (port_after_fre_write (bit v 4) x)) (sym (cond-true p.st p _ is)) (refl, refl, refl, refl, refl, refl, refl)
    by true false is = subst (λ (x : DevicePort). SameBeside p (port_after_fre_write (bit v 4) x)) (sym (cond-false p.st p _ is)) (refl, refl, refl, refl, refl, refl, refl)

-- N and X rise no more, and DET isn't raised to 3
abbrev Unraised : DevicePort → DevicePort → Type 0
Unraised first p = (first.serr_n ≡ false → p.serr_n ≡ false) × (first.serr_x ≡ false → p.serr_x ≡ false) × (p.ssts_det ≡ 3 → first.ssts_det ≡ 3)

written_unraised : (first : DevicePort) (r : PortReg) (v tape : ℕ) (p : DevicePort) → Unraised first p → Unraised first (port_after_write r v tape p)
written_unraised first Cmd v tape p h =
    let c = command_beside v tape p in
    (λ n. c.1 ∙ h.0 n, λ x. c.2 ∙ h.1 x, λ up. h.2 (sym c.3 ∙ up))
written_unraised first Serr v tape p h = (λ n. and_left p.serr_n (not (bit v 16)) (h.0 n), λ x. and_left p.serr_x (not (bit v 26)) (h.1 x), h.2)
written_unraised first Sctl v tape p h = (h.0, h.1, λ up. h.2 (by (nat_eq (v % 16) 1) up))
  where
    by : (b : Bool) → (if b then 0 else p.ssts_det) ≡ 3 → p.ssts_det ≡ 3
    by true up = absurd (omega (arith, up))
    by false up = up
written_unraised first _ v tape p h = h

pub access_change : StepLaws → (port : Port) (access : Access) (old new : Device) → old.hr ≡ false → (old.port port.0).link_due ≡ false → Does access old new → LinkErrorsRiseByDisks port.0 old new
access_change laws port access old new off undue x =
    let s = access_steps access old new x in
    let c : LinkErrorsRiseByDisks port.0 old s.0 = steps_change laws port.0 old s.0 off undue s.1 in
    let first : DevicePort = s.0.port port.0 in
    let u : Unraised first (new.port port.0) =
    effect_keeps (Unraised first) port (λ p r v h. h) (λ p h. h) access old new x (λ r v mid is steps h. written_unraised first r v (length mid.tape) (mid.port port.0) h) (λ n. n, λ x. x, λ up. up) in
    record {
      serr_n_rises_by_plug_events = λ none h. u.0 (c.serr_n_rises_by_plug_events (plugs_before port.0 old s.0 new s.2 none) h);
      serr_x_rises_by_disk_coming = λ none h. u.1 (c.serr_x_rises_by_disk_coming (comes_before port.0 old s.0 new s.2 none) h);
      det_3_was_3_and_none_went_if_none_comes = λ none up.
          let y = c.det_3_was_3_and_none_went_if_none_comes (comes_before port.0 old s.0 new s.2 none) (u.2 up) in
          (y.0, record { new_entries = y.1.new_entries; tape_is = s.2 ∙ y.1.tape_is; no_such_entry = y.1.no_such_entry });
    }

-- no link is due
abbrev Undue : DevicePort → Type 0
Undue p = p.link_due ≡ false

written_undue : (r : PortReg) (v tape : ℕ) (p : DevicePort) → r ≢ Sctl → Undue p → Undue (port_after_write r v tape p)
written_undue Sctl v tape p other h = absurd (other refl)
written_undue Cmd v tape p other h = (command_beside v tape p).4 ∙ h
written_undue _ v tape p other h = h

pub access_undue : StepLaws → (port : Port) (access : Access) (old new : Device) → old.hr ≡ false → (old.port port.0).link_due ≡ false → DoesNotWrite (Px port Sctl) access → Does access old new → (new.port port.0).link_due ≡ false
access_undue laws port access old new off undue spares x =
    let s = access_steps access old new x in
    effect_keeps Undue port (λ p r v h. h) (λ p h. h) access old new x
    (λ r v mid is steps h. written_undue r v (length mid.tape) (mid.port port.0) (spared port r Sctl access v spares is) h)
    (steps_undue laws port.0 old s.0 off undue s.1)

-- N and X stay set
abbrev KeepsNews : DevicePort → DevicePort → Type 0
KeepsNews first p = (first.serr_n ≡ true → p.serr_n ≡ true) × (first.serr_x ≡ true → p.serr_x ≡ true)

written_news : (first : DevicePort) (r : PortReg) (v tape : ℕ) (p : DevicePort) → r ≢ Serr → KeepsNews first p → KeepsNews first (port_after_write r v tape p)
written_news first Serr v tape p other h = absurd (other refl)
written_news first Cmd v tape p other h = let c = command_beside v tape p in (λ n. c.1 ∙ h.0 n, λ x. c.2 ∙ h.1 x)
written_news first _ v tape p other h = h

pub access_news : StepLaws → (port : Port) (access : Access) (old new : Device) → old.hr ≡ false → DoesNotWrite (Px port Serr) access → Does access old new →
    ((old.port port.0).serr_n ≡ true → (new.port port.0).serr_n ≡ true) × ((old.port port.0).serr_x ≡ true → (new.port port.0).serr_x ≡ true)
access_news laws port access old new off spares x =
    let s = access_steps access old new x in
    let e : KeepsSetBitsOfPxisAndSerrNX (old.port port.0) (s.0.port port.0) = steps_errors laws port.0 old s.0 off s.1 in
    effect_keeps (KeepsNews (old.port port.0)) port (λ p r v h. h) (λ p h. h) access old new x
    (λ r v mid is steps h. written_news (old.port port.0) r v (length mid.tape) (mid.port port.0) (spared port r Serr access v spares is) h)
    (e.serr_n_is_kept, e.serr_x_is_kept)

-- bits of PxIS stay set
abbrev KeepsCauses : DevicePort → DevicePort → Type 0
KeepsCauses first p = (place : ℕ) → first.is place ≡ true → p.is place ≡ true

written_causes : (first : DevicePort) (r : PortReg) (v tape : ℕ) (p : DevicePort) → r ≢ Is → KeepsCauses first p → KeepsCauses first (port_after_write r v tape p)
written_causes first Is v tape p other h = absurd (other refl)
written_causes first Cmd v tape p other h = λ place set. ap (λ (f : ℕ → Bool). f place) (command_beside v tape p).0 ∙ h place set
written_causes first _ v tape p other h = h

pub access_causes : StepLaws → (port : Port) (access : Access) (old new : Device) → old.hr ≡ false → DoesNotWrite (Px port Is) access → Does access old new → (place : ℕ) → (old.port port.0).is place ≡ true → (new.port port.0).is place ≡ true
access_causes laws port access old new off spares x =
    let s = access_steps access old new x in
    effect_keeps (KeepsCauses (old.port port.0)) port (λ p r v h. h) (λ p h. h) access old new x
    (λ r v mid is steps h. written_causes (old.port port.0) r v (length mid.tape) (mid.port port.0) (spared port r Is access v spares is) h)
    (steps_errors laws port.0 old s.0 off s.1).set_pxis_bits_stay_set
