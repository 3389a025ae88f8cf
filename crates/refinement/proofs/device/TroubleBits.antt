-- The bits that tell of a port's trouble.
use Rattle.std.proofs.Common.{ℕ, ◌≡◌, ◌⊎◌, ◌≤◌, ◌&&◌, not, Bool, true, false, List, [], ◌∷◌, length, refl, sym, ◌∙◌, ap, subst, arith, inl, inr, ⊎_elim, append-nil, if◌then◌else◌}
use Rattle.std.specs.Prelude.{All}
use Rattle.std.proofs.lemmas.Bool.{cases_eq, both_ways, true≢false}
use Rattle.std.proofs.lemmas.List.Elements.{All-nil, All-cons}
use Rattle.ata_types.specs.declared.Port.{Port}
use Rattle.hba_regs.specs.Bits.{bit}
use Rattle.hba_regs.specs.declared.reg.Reg.{Reg}
use Rattle.hba_regs.specs.declared.reg.Reg.TheVariants.{Cap, Ghc, Pi, Vs, Cap2, Bohc, Px}
use Rattle.hba_regs.specs.declared.reg.Reg.TheVariants as adapter
use Rattle.hba_regs.specs.declared.reg.PortReg.{PortReg}
use Rattle.hba_regs.specs.declared.reg.PortReg.TheVariants.{Clb, Clbu, Fb, Fbu, Is, Ie, Cmd, Tfd, Sig, Ssts, Sctl, Serr, Sact, Ci}
use Rattle.adapter.specs.Access.{PortShows, Reads, Writes, Stores, device_after_reading, device_after_write, port_after_write, port_after_fre_write, port_after_hba_is_write}
use Rattle.adapter.specs.Device.{DevicePort, Device}
use Rattle.adapter.specs.KeptBySteps.{KeepsOverSteps, KeepsOutsideReset, KeepsControlsFlagsRise}
use Rattle.adapter.specs.Memory.{changed}
use Rattle.adapter.specs.Steps.{DeviceTransition, Can, device_after, TransitionsLead, Steps}
use Rattle.adapter.specs.Steps.DeviceTransition.{Fetch, FetchFault, Move, Clear, Done, Fault, Fatal, Fall, FrFall, LinkUp, Unplug, Plug, ResetEnds, Scribble}
use Rattle.adapter.specs.declared.tape.Entry.{Entry}
use Rattle.adapter.specs.RegisterEffects.{PortRegisterRead}
use Rattle.adapter.proofs.Changed.{changed_same}
use Rattle.refinement.specs.StepLaws.{StepLaws}
use Rattle.refinement.specs.Relation.{port_at}
use Rattle.refinement.specs.PortFacts.{RunsWell, IsDisturbance, Undisturbed, ShowsNoTrouble, PxisValueTellsNoTrouble, ClearsNoTrouble}
use Rattle.refinement.proofs.steps.AdapterCalls.{noted_tape}
use Rattle.refinement.proofs.relation.OneSlot.{changed_at}
use Rattle.refinement.proofs.device.HealthyPort.{undisturbed_none, undisturbed_more, written_tape}
use Rattle.refinement.proofs.device.RunningPort.{healthy_reads}

-- ---- the bits

pub was_false : (a b : Bool) → (a ≡ true → b ≡ true) → b ≡ false → a ≡ false
was_false true b rises clear = absurd (both_ways _ clear (rises refl))
was_false false b rises clear = refl

-- a port with the same bits
shows_alike : (p q : DevicePort) → p.serr_n ≡ q.serr_n → p.serr_x ≡ q.serr_x → ((place : ℕ) → p.is place ≡ q.is place) → ShowsNoTrouble q → ShowsNoTrouble p
shows_alike p q n x is h = record {
  serr_n_is_clear = n ∙ h.serr_n_is_clear;
  serr_x_is_clear = x ∙ h.serr_x_is_clear;
  bits_27_to_30_are_clear = λ place low up. is place ∙ h.bits_27_to_30_are_clear place low up;
}

-- what isn't set now wasn't before
shown_before : (p q : DevicePort) → KeepsControlsFlagsRise p q → ShowsNoTrouble q → ShowsNoTrouble p
shown_before p q k h = record {
  serr_n_is_clear = was_false p.serr_n q.serr_n k.serr_n_stays_set h.serr_n_is_clear;
  serr_x_is_clear = was_false p.serr_x q.serr_x k.serr_x_stays_set h.serr_x_is_clear;
  bits_27_to_30_are_clear = λ place low up. was_false (p.is place) (q.is place) (k.causes_stay_set place) (h.bits_27_to_30_are_clear place low up);
}

-- one port changed: what its new bits tell of the old
before_change : (d : Device) (p port : ℕ) (new : DevicePort) → (ShowsNoTrouble new → ShowsNoTrouble (d.port p)) → ShowsNoTrouble (changed d.port p new port) → ShowsNoTrouble (d.port port)
before_change d p port new back = changed_at d.port p new (λ k x. ShowsNoTrouble x → ShowsNoTrouble (d.port k)) back (λ k _ h. h) port

either : {Q : Type 0} (P : DevicePort → Type 0) (b : Bool) (x y : DevicePort) → (P x → Q) → (P y → Q) → P (if b then x else y) → Q
either P true x y f g h = f h
either P false x y f g h = g h

-- ---- a step

-- nothing stands on the tape
still : {port : ℕ} {d new : Device} → new.tape ≡ d.tape → Undisturbed port d new
still {port} {d} {new} same = record { new_entries = []; tape_is = same ∙ sym (append-nil d.tape); no_disturbance = All-nil (λ x. IsDisturbance port x → ⊥) }

-- one entry stands there
one_calm : (port : ℕ) (e : Entry) → (IsDisturbance port e → ⊥) → All (λ x. IsDisturbance port x → ⊥) (e ∷ [])
one_calm port e calm = All-cons (λ x. IsDisturbance port x → ⊥) e [] calm (All-nil (λ x. IsDisturbance port x → ⊥))

module _ (port : ℕ) (d : Device) where
  -- a step of this port that sets a bit isn't one that shows none
  at_port : {A : Type 0} (p : ℕ) (new : DevicePort) → ShowsNoTrouble (changed d.port p new port) → (ShowsNoTrouble new → A) → p ≡ port → A
  at_port p new h set e =
      set (subst ShowsNoTrouble (changed_same d.port p new) (subst (λ (k : ℕ). ShowsNoTrouble (changed d.port p new k)) (sym e) h))

  step_calm : (step : DeviceTransition) → d.hr ≡ false → Can step d → ShowsNoTrouble ((device_after step d).port port) → Undisturbed port d (device_after step d)
  step_calm (FetchFault p slot queued kept_bits) off can h = record {
    new_entries = _;
    tape_is = refl;
    no_disturbance = one_calm port _ (at_port p _ h (λ x. absurd (both_ways _ (x.bits_27_to_30_are_clear 30 (omega arith) (omega arith)) (changed_same (d.port p).is 30 true))));
  }
  step_calm (Fault p slot error kept_bits t) off can h = record {
    new_entries = _;
    tape_is = refl;
    no_disturbance = one_calm port _ (at_port p _ h (λ x. absurd (both_ways _ (x.bits_27_to_30_are_clear 30 (omega arith) (omega arith)) (changed_same (d.port p).is 30 true))));
  }
  step_calm (Fatal p place) off can h = record {
    new_entries = _;
    tape_is = refl;
    no_disturbance = one_calm port _ (at_port p _ h (λ x. absurd (both_ways _ (x.bits_27_to_30_are_clear place (low can.1) (high can.1)) (changed_same (d.port p).is place true))));
  }
    where
      low : (place ≡ 27) ⊎ (place ≡ 29) → 27 ≤ place
      low (inl e) = omega (arith, e)
      low (inr e) = omega (arith, e)

      high : (place ≡ 27) ⊎ (place ≡ 29) → place ≤ 30
      high (inl e) = omega (arith, e)
      high (inr e) = omega (arith, e)
  step_calm (Unplug p) off can h = record { new_entries = _; tape_is = refl; no_disturbance = one_calm port _ (at_port p _ h (λ x. absurd (true≢false x.serr_n_is_clear))) }
  step_calm (Plug p disk) off can h = record { new_entries = _; tape_is = refl; no_disturbance = one_calm port _ (at_port p _ h (λ x. absurd (true≢false x.serr_n_is_clear))) }
  step_calm (Move p slot t bytes) off can h = record { new_entries = _; tape_is = refl; no_disturbance = one_calm port _ (λ x. x) }
  step_calm (Clear p slot t first count) off can h = record { new_entries = _; tape_is = refl; no_disturbance = one_calm port _ (λ x. x) }
  step_calm (Done p slot flag t) off can h = record { new_entries = _; tape_is = refl; no_disturbance = one_calm port _ (λ x. x) }
  step_calm (Fetch p slot c places) off can h = still refl
  step_calm (Fall p) off can h = still refl
  step_calm (FrFall p) off can h = still refl
  step_calm (LinkUp p sig n) off can h = still refl
  step_calm ResetEnds off can h = still refl
  step_calm (Scribble p slot at bytes) off can h = still refl

leads_calm : StepLaws → (port : ℕ) (steps : List DeviceTransition) (old new : Device) → old.hr ≡ false → TransitionsLead steps old new → ShowsNoTrouble (new.port port) → Undisturbed port old new
leads_calm laws port [] old new off e h = subst (Undisturbed port old) (sym e) (undisturbed_none port old)
leads_calm laws port (step ∷ steps) old new off (can, lead) h =
    let k : KeepsOverSteps old (device_after step old) = laws.one_step_keeps step _ can in
    let l : KeepsOverSteps (device_after step old) new = laws.steps_keep _ _ (record { steps = steps; lead = lead }) in
    let on : KeepsOutsideReset old (device_after step old) = k.keeps_outside_reset off in
    let mid : ShowsNoTrouble ((device_after step old).port port) = shown_before ((device_after step old).port port) (new.port port) ((l.keeps_outside_reset on.no_reset).controls_are_kept port) h in
    undisturbed_more port old (device_after step old) new (step_calm port old step off can mid) (leads_calm laws port steps (device_after step old) new on.no_reset lead h)

pub steps_show : StepLaws → (port : ℕ) (old new : Device) → old.hr ≡ false → Steps old new → ShowsNoTrouble (new.port port) → ShowsNoTrouble (old.port port) × Undisturbed port old new
steps_show laws port old new off s h =
    let on : KeepsOutsideReset old new = (laws.steps_keep _ _ s).keeps_outside_reset off in
    (shown_before (old.port port) (new.port port) (on.controls_are_kept port) h, leads_calm laws port s.steps old new off s.lead h)

-- ---- an access

-- steps, and then an effect that writes no tape, and sets no bit and clears none
module _ (laws : StepLaws) (port : ℕ) (old mid new : Device) (off : old.hr ≡ false) (s : Steps old mid) where
  then_effect : new.tape ≡ mid.tape → (ShowsNoTrouble (new.port port) → ShowsNoTrouble (mid.port port)) → ShowsNoTrouble (new.port port) → ShowsNoTrouble (old.port port) × Undisturbed port old new
  then_effect tape back h =
      let x = steps_show laws port old mid off s (back h) in
      (x.0, record { new_entries = x.1.new_entries; tape_is = tape ∙ x.1.tape_is; no_disturbance = x.1.no_disturbance })

noted_before : (port : ℕ) (r : Reg) (v : ℕ) (d : Device) → ShowsNoTrouble ((device_after_reading r v d).port port) → ShowsNoTrouble (d.port port)
noted_before port (Px p r) v d = before_change d p.0 port _ (shows_alike (d.port p.0) _ refl refl (λ place. refl))
noted_before port Cap v d = λ h. h
noted_before port Ghc v d = λ h. h
noted_before port adapter.Is v d = λ h. h
noted_before port Pi v d = λ h. h
noted_before port Vs v d = λ h. h
noted_before port Cap2 v d = λ h. h
noted_before port Bohc v d = λ h. h

pub reads_show : StepLaws → (port : ℕ) (r : Reg) (v : ℕ) (old new : Device) → old.hr ≡ false → Reads r v old new → ShowsNoTrouble (new.port port) → ShowsNoTrouble (old.port port) × Undisturbed port old new
reads_show laws port r v old new off call =
    (then_effect laws) port old call.at_access new off call.steps (ap (λ (d : Device). d.tape) call.effect ∙ noted_tape r v call.at_access)
    (λ h. noted_before port r v call.at_access (subst (λ (d : Device). ShowsNoTrouble (d.port port)) call.effect h))

pub stores_show : StepLaws → (port at : ℕ) (bytes : List ℕ) (old new : Device) → old.hr ≡ false → Stores at bytes old new → ShowsNoTrouble (new.port port) → ShowsNoTrouble (old.port port) × Undisturbed port old new
stores_show laws port at bytes old new off call =
    (then_effect laws) port old call.at_access new off call.steps (ap (λ (d : Device). d.tape) call.effect)
    (λ h. subst (λ (d : Device). ShowsNoTrouble (d.port port)) call.effect h)

-- a bit that isn't cleared was clear before
kept_bit : (a b : Bool) → b ≡ false → a && not b ≡ false → a ≡ false
kept_bit true true keep clear = absurd (true≢false keep)
kept_bit true false keep clear = clear
kept_bit false b keep clear = refl

port_before : (port : Port) (r : PortReg) (v tape : ℕ) (p : DevicePort) → ClearsNoTrouble port (Px port r) v → ShowsNoTrouble (port_after_write r v tape p) → ShowsNoTrouble p
port_before port Cmd v tape p keep h =
    either (λ x. ShowsNoTrouble (port_after_fre_write (bit v 4) x)) (bit v 0) _ _
    (either (λ x. ShowsNoTrouble (port_after_fre_write (bit v 4) x)) p.st _ _ (shows_alike p _ refl refl (λ place. refl)) (shows_alike p _ refl refl (λ place. refl)))
    (shows_alike p _ refl refl (λ place. refl)) h
port_before port Serr v tape p keep h = record {
  serr_n_is_clear = kept_bit p.serr_n (bit v 16) (keep.serr_trouble_is_kept refl).0 h.serr_n_is_clear;
  serr_x_is_clear = kept_bit p.serr_x (bit v 26) (keep.serr_trouble_is_kept refl).1 h.serr_x_is_clear;
  bits_27_to_30_are_clear = h.bits_27_to_30_are_clear;
}
port_before port Is v tape p keep h = record {
  serr_n_is_clear = h.serr_n_is_clear;
  serr_x_is_clear = h.serr_x_is_clear;
  bits_27_to_30_are_clear = λ place low up. kept_bit (p.is place) (bit v place) (keep.pxis_trouble_is_kept refl place low up) (h.bits_27_to_30_are_clear place low up);
}
port_before port Sctl v tape p keep h = shows_alike p _ refl refl (λ place. refl) h
port_before port Clb v tape p keep h = shows_alike p _ refl refl (λ place. refl) h
port_before port Clbu v tape p keep h = shows_alike p _ refl refl (λ place. refl) h
port_before port Fb v tape p keep h = shows_alike p _ refl refl (λ place. refl) h
port_before port Fbu v tape p keep h = shows_alike p _ refl refl (λ place. refl) h
port_before port Sact v tape p keep h = shows_alike p _ refl refl (λ place. refl) h
port_before port Ci v tape p keep h = shows_alike p _ refl refl (λ place. refl) h
port_before port Ie v tape p keep h = shows_alike p _ refl refl (λ place. refl) h
port_before port Tfd v tape p keep h = h
port_before port Sig v tape p keep h = h
port_before port Ssts v tape p keep h = h

written_before : (port : Port) (r : Reg) (v : ℕ) (d : Device) → ClearsNoTrouble port r v → ShowsNoTrouble ((device_after_write r v d).port port.0) → ShowsNoTrouble (d.port port.0)
written_before port (Px p r) v d keep =
    changed_at d.port p.0 _ (λ k x. k ≡ port.0 → ShowsNoTrouble x → ShowsNoTrouble (d.port k))
    (λ e. port_before p r v (length d.tape) (d.port p.0) (subst (λ (q : Port). ClearsNoTrouble q (Px p r) v) (sym (ap port_at e)) keep))
    (λ k _ _ h. h) port.0 refl
written_before port adapter.Is v d keep =
    either ShowsNoTrouble (bit v port.0) (port_after_hba_is_write (d.port port.0)) (d.port port.0) (shows_alike (d.port port.0) _ refl refl (λ place. refl)) (λ h. h)
written_before port Cap v d keep = λ h. h
written_before port Ghc v d keep = λ h. h
written_before port Pi v d keep = λ h. h
written_before port Vs v d keep = λ h. h
written_before port Cap2 v d keep = λ h. h
written_before port Bohc v d keep = λ h. h

pub writes_show : StepLaws → (port : Port) (r : Reg) (v : ℕ) (old new : Device) → old.hr ≡ false → ClearsNoTrouble port r v → Writes r v old new → ShowsNoTrouble (new.port port.0) →
    ShowsNoTrouble (old.port port.0) × Undisturbed port.0 old new
writes_show laws port r v old new off keep call =
    (then_effect laws) port.0 old call.at_access new off call.steps (ap (λ (d : Device). d.tape) call.effect ∙ written_tape r v call.at_access)
    (λ h. written_before port r v call.at_access keep (subst (λ (d : Device). ShowsNoTrouble (d.port port.0)) call.effect h))

-- ---- what PxIS tells

-- the four places
four : (P : ℕ → Type 0) → P 27 → P 28 → P 29 → P 30 → (place : ℕ) → 27 ≤ place → place ≤ 30 → P place
four P a b c e place low up =
    ⊎_elim (λ (x : place ≡ 27). subst P (sym x) a)
    (λ (not_a : place ≡ 27 → ⊥). ⊎_elim (λ (x : place ≡ 28). subst P (sym x) b)
    (λ (not_b : place ≡ 28 → ⊥). ⊎_elim (λ (x : place ≡ 29). subst P (sym x) c)
    (λ (not_c : place ≡ 29 → ⊥). subst P (let x : place ≡ 30 = omega (arith, low, up, not_a, not_b, not_c) in sym x) e)
    (cases_eq place 29)) (cases_eq place 28)) (cases_eq place 27)

-- each of them is a cause, and is shown as it is
pub shown_place : (v : ℕ) (p : DevicePort) → PortShows Is v p → (place : ℕ) → 27 ≤ place → place ≤ 30 → bit v place ≡ p.is place
shown_place v p shows = four (λ place. bit v place ≡ p.is place) (shows 27 refl) (shows 28 refl) (shows 29 refl) (shows 30 refl)

module _ (laws : StepLaws) (port : Port) (v : ℕ) (old new : Device) (off : old.hr ≡ false) (call : Reads (Px port Is) v old new) where
  here : PortRegisterRead port.0 Is v old new
  here = laws.reading_shows_register port Is v old new call off

  pub told_calm : PxisValueTellsNoTrouble v → ShowsNoTrouble (new.port port.0)
  told_calm h = record {
    serr_n_is_clear = sym (here.shows 22 refl) ∙ h.prcs_is_clear;
    serr_x_is_clear = sym (here.shows 6 refl) ∙ h.pcs_is_clear;
    bits_27_to_30_are_clear = λ place low up. sym (shown_place v (new.port port.0) here.shows place low up) ∙ h.bits_27_to_30_are_clear place low up;
  }

  pub calm_told : ShowsNoTrouble (new.port port.0) → PxisValueTellsNoTrouble v
  calm_told h = record {
    pcs_is_clear = here.shows 6 refl ∙ h.serr_x_is_clear;
    prcs_is_clear = here.shows 22 refl ∙ h.serr_n_is_clear;
    bits_27_to_30_are_clear = λ place low up. shown_place v (new.port port.0) here.shows place low up ∙ h.bits_27_to_30_are_clear place low up;
  }

  pub calm_is_found : PxisValueTellsNoTrouble v → RunsWell (old.port port.0) → Undisturbed port.0 old new × RunsWell (new.port port.0)
  calm_is_found h healthy =
      let x = reads_show laws port.0 (Px port Is) v old new off call (told_calm h) in
      (x.1, healthy_reads laws port.0 (Px port Is) v old new off call x.1 healthy)

-- so it may be written back
pub back_clears : (port : Port) (v : ℕ) → PxisValueTellsNoTrouble v → ClearsNoTrouble port (Px port Is) v
back_clears port v h = record { pxis_trouble_is_kept = λ _. h.bits_27_to_30_are_clear; serr_trouble_is_kept = λ e. absurd (let z : Px port Is ≡ Px port Serr = e in cc) }

pub healthy_shows : (p : DevicePort) → RunsWell p → ShowsNoTrouble p
healthy_shows p h = h.shows_no_trouble

-- PxIS, and then PxSERR
pub pair_is_found : StepLaws → (port : Port) (v errors : ℕ) (old mid new : Device) → old.hr ≡ false → Reads (Px port Is) v old mid → Reads (Px port Serr) errors mid new →
    ((place : ℕ) → 27 ≤ place → place ≤ 30 → bit v place ≡ false) → bit errors 16 ≡ false → bit errors 26 ≡ false → RunsWell (old.port port.0) → Undisturbed port.0 old mid × RunsWell (mid.port port.0)
pair_is_found laws port v errors old mid new off one two quiet n x healthy =
    let a : PortRegisterRead port.0 Is v old mid = laws.reading_shows_register port Is v old mid one off in
    let b : PortRegisterRead port.0 Serr errors mid new = laws.reading_shows_register port Serr errors mid new two a.keeps.keeps_outside_reset.no_reset in
    let c : KeepsControlsFlagsRise (mid.port port.0) (new.port port.0) = b.keeps.keeps_outside_reset.controls_are_kept port.0 in
    let shows : ShowsNoTrouble (mid.port port.0) = record {
      serr_n_is_clear = was_false (mid.port port.0).serr_n (new.port port.0).serr_n c.serr_n_stays_set (sym b.shows.0 ∙ n);
      serr_x_is_clear = was_false (mid.port port.0).serr_x (new.port port.0).serr_x c.serr_x_stays_set (sym b.shows.1 ∙ x);
      bits_27_to_30_are_clear = λ place low up. sym (shown_place v (mid.port port.0) a.shows place low up) ∙ quiet place low up;
    } in
    let calm = reads_show laws port.0 (Px port Is) v old mid off one shows in
    (calm.1, healthy_reads laws port.0 (Px port Is) v old mid off one calm.1 healthy)
