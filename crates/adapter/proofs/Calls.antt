-- What one access leaves, in the terms of the state after it.
use Rattle.std.proofs.Common.{ℕ, ◌≡◌, ◌≢◌, false, refl, subst, sym, ◌∙◌, ap, List, [], ◌∷◌, ◌++◌}
use Rattle.hba_regs.specs.declared.reg.Reg.TheVariants.{Px}
use Rattle.hba_regs.specs.declared.reg.PortReg.{PortReg}
use Rattle.hba_regs.specs.declared.reg.PortReg.TheVariants.{Clb, Clbu, Fb, Fbu, Is, Ie, Cmd, Tfd, Sig, Ssts, Sctl, Serr, Sact, Ci}
use Rattle.ata_types.specs.declared.Port.{Port}
use Rattle.adapter.specs.Device.{Notes, DevicePort, Device}
use Rattle.adapter.specs.KeptBySteps.{KeepsOverSteps, KeepsOutsideReset, PortBitsOnlyFallFreeSlotsStay, KeepsControlsFlagsRise}
use Rattle.adapter.specs.Rules.{IsOn}
pub use Rattle.adapter.specs.RegisterEffects.{IsAsAfterStepsOutsideReset, PortRegisterRead, PortRegisterWritten}
use Rattle.adapter.specs.Steps.{Steps, with_port}
use Rattle.adapter.specs.Access.{PortShows, notes_after_reading, Reads, Writes, Access, Does, DoesAll, IsDriven}
use Rattle.adapter.proofs.Changed.{changed_same, changed_other, changed_each}
use Rattle.adapter.proofs.KeptLemmas.{law_step_lists_keep_what_steps_keep, same_engine, still, same_controls, calm, PortBitsOnlyFallFreeSlotsStay-refl, PortBitsOnlyFallFreeSlotsStay-trans, KeepsControlsFlagsRise-refl, KeepsControlsFlagsRise-trans}

-- ---- lists of accesses

pub driven_none : (d : Device) → IsDriven d d
driven_none d = record { accesses = []; does_all = refl }

pub driven_one : (access : Access) (old new : Device) → Does access old new → IsDriven old new
driven_one access old new does = record { accesses = access ∷ []; does_all = (new, does, refl) }

pub does_append : (first then : List Access) (old mid new : Device) → DoesAll first old mid → DoesAll then mid new → DoesAll (first ++ then) old new
does_append [] then old mid new e rest = let P : Device → Type 0 = λ d. DoesAll then d new in subst P e rest
does_append (access ∷ accesses) then old mid new (one, does, more) rest = (one, does, does_append accesses then one mid new more rest)

pub driven_then : {old mid new : Device} → IsDriven old mid → IsDriven mid new → IsDriven old new
driven_then {old} {mid} {new} a b = record { accesses = a.accesses ++ b.accesses; does_all = does_append a.accesses b.accesses old mid new a.does_all b.does_all }

-- ---- rules that last

pub on_after : {old new : Device} → IsOn old → KeepsOutsideReset old new → IsOn new
on_after on keeps = record { ae_is_set = keeps.ae_is_kept ∙ on.ae_is_set; no_reset = keeps.no_reset }

pub on_stays : {old new : Device} → IsOn old → Steps old new → IsOn new
on_stays on steps = let k = law_step_lists_keep_what_steps_keep steps in on_after on (k.keeps_outside_reset on.no_reset)

-- ---- a register of a port is read

-- no register shows what stands beside the state
shows_noted : (r : PortReg) (v : ℕ) (p : DevicePort) (n : Notes) → PortShows r v p → PortShows r v (record p { notes = n })
shows_noted Clb v p n h = h
shows_noted Clbu v p n h = h
shows_noted Fb v p n h = h
shows_noted Fbu v p n h = h
shows_noted Is v p n h = h
shows_noted Ie v p n h = h
shows_noted Cmd v p n h = h
shows_noted Tfd v p n h = h
shows_noted Sig v p n h = h
shows_noted Ssts v p n h = h
shows_noted Sctl v p n h = h
shows_noted Serr v p n h = h
shows_noted Sact v p n h = h
shows_noted Ci v p n h = h

pub IsAsAfterStepsOutsideReset-trans : {old mid new : Device} → IsAsAfterStepsOutsideReset old mid → IsAsAfterStepsOutsideReset mid new → IsAsAfterStepsOutsideReset old new
IsAsAfterStepsOutsideReset-trans a b = record {
  memory_size = b.memory_size ∙ a.memory_size;
  cap_is_kept = b.cap_is_kept ∙ a.cap_is_kept;
  pi_is_kept = b.pi_is_kept ∙ a.pi_is_kept;
  keeps_outside_reset = record {
    no_reset = b.keeps_outside_reset.no_reset;
    ae_is_kept = b.keeps_outside_reset.ae_is_kept ∙ a.keeps_outside_reset.ae_is_kept;
    ie_is_kept = b.keeps_outside_reset.ie_is_kept ∙ a.keeps_outside_reset.ie_is_kept;
    controls_are_kept = λ q. KeepsControlsFlagsRise-trans (a.keeps_outside_reset.controls_are_kept q) (b.keeps_outside_reset.controls_are_kept q);
  };
  ports_keep_what_steps_keep = λ q. PortBitsOnlyFallFreeSlotsStay-trans (a.ports_keep_what_steps_keep q) (b.ports_keep_what_steps_keep q);
}

pub steps_keep_all : {old new : Device} → old.hr ≡ false → Steps old new → IsAsAfterStepsOutsideReset old new
steps_keep_all h steps = let k = law_step_lists_keep_what_steps_keep steps in record { memory_size = k.memory_size_is_kept; cap_is_kept = k.cap_is_kept; pi_is_kept = k.pi_is_kept; keeps_outside_reset = k.keeps_outside_reset h; ports_keep_what_steps_keep = k.port_bits_only_fall }

module _ (port : Port) (r : PortReg) (v : ℕ) (old new : Device) (call : Reads (Px port r) v old new) (h : old.hr ≡ false) where
  kept : KeepsOverSteps old call.at_access
  kept = law_step_lists_keep_what_steps_keep call.steps

  there : DevicePort
  there = record (call.at_access.port port.0) { notes = notes_after_reading r v (call.at_access.port port.0) }

  is_there : new.port port.0 ≡ there
  unfolding there
  is_there = ap (λ (d : Device). d.port port.0) call.effect ∙ changed_same call.at_access.port port.0 there

  noted_keeps : IsAsAfterStepsOutsideReset call.at_access (with_port call.at_access port.0 there)
  unfolding there
  noted_keeps =
      let on : KeepsOutsideReset old call.at_access = kept.keeps_outside_reset h in
      record {
        memory_size = refl;
        cap_is_kept = refl;
        pi_is_kept = refl;
        keeps_outside_reset = record {
          no_reset = on.no_reset;
          ae_is_kept = refl;
          ie_is_kept = refl;
          controls_are_kept = changed_each call.at_access.port port.0 there (λ q p. KeepsControlsFlagsRise (call.at_access.port q) p) (calm (call.at_access.port port.0) there (same_controls (call.at_access.port port.0))) (λ q. KeepsControlsFlagsRise-refl (call.at_access.port q));
        };
        ports_keep_what_steps_keep = changed_each call.at_access.port port.0 there (λ q p. PortBitsOnlyFallFreeSlotsStay (call.at_access.port q) p) (still (call.at_access.port port.0) there (same_engine (call.at_access.port port.0))) (λ q. PortBitsOnlyFallFreeSlotsStay-refl (call.at_access.port q));
      }

  seen_keeps : IsAsAfterStepsOutsideReset old new
  unfolding there
  seen_keeps =
      let P : Device → Type 0 = λ d. IsAsAfterStepsOutsideReset old d in
      subst P (sym call.effect) (IsAsAfterStepsOutsideReset-trans (steps_keep_all h call.steps) noted_keeps)

  seen_shows : PortShows r v (new.port port.0)
  unfolding there
  seen_shows =
      let P : DevicePort → Type 0 = λ p. PortShows r v p in
      subst P (sym is_there) (shows_noted r v (call.at_access.port port.0) (notes_after_reading r v (call.at_access.port port.0)) call.shows)

  seen_notes : (new.port port.0).notes ≡ notes_after_reading r v (record (new.port port.0) { notes = (old.port port.0).notes })
  unfolding there
  seen_notes =
      let P : DevicePort → Type 0 = λ p. p.notes ≡ notes_after_reading r v (record p { notes = (old.port port.0).notes }) in
      let Q : Notes → Type 0 = λ n. notes_after_reading r v (call.at_access.port port.0) ≡ notes_after_reading r v (record (call.at_access.port port.0) { notes = n }) in
      subst P (sym is_there) (subst Q (kept.notes_are_kept port.0) refl)

  seen_others : (q : ℕ) → q ≢ port.0 → (new.port q).notes ≡ (old.port q).notes
  unfolding there
  seen_others q ne =
      ap (λ (d : Device). (d.port q).notes) call.effect ∙ (ap (λ (p : DevicePort). p.notes) (changed_other call.at_access.port port.0 there q ne) ∙ kept.notes_are_kept q)

  pub seen : PortRegisterRead port.0 r v old new
  seen = record { keeps = seen_keeps; shows = seen_shows; notes = seen_notes; notes_of_other_ports_are_kept = seen_others }

-- ---- a register of a port is written: the port has it, after what the device did first; the others have what that left

pub put : (port : Port) (r : PortReg) (v : ℕ) (old new : Device) → Writes (Px port r) v old new → old.hr ≡ false → PortRegisterWritten port.0 r v old new
put port r v old new call h =
    let k : KeepsOverSteps old call.at_access = law_step_lists_keep_what_steps_keep call.steps in
    let on : KeepsOutsideReset old call.at_access = k.keeps_outside_reset h in
    record {
      at_access = call.at_access;
      steps = call.steps;
      keeps = steps_keep_all h call.steps;
      steps_keep_notes = k.notes_are_kept;
      no_reset = ap (λ (d : Device). d.hr) call.effect ∙ on.no_reset;
      ae_is_kept = ap (λ (d : Device). d.ae) call.effect ∙ on.ae_is_kept;
      ie_is_kept = ap (λ (d : Device). d.ie) call.effect ∙ on.ie_is_kept;
      memory_size = ap (λ (d : Device). d.memory_size) call.effect ∙ k.memory_size_is_kept;
      cap_is_kept = ap (λ (d : Device). d.cap) call.effect ∙ k.cap_is_kept;
      pi_is_kept = ap (λ (d : Device). d.pi) call.effect ∙ k.pi_is_kept;
      memory_is_as_at_access = ap (λ (d : Device). d.memory) call.effect;
      tape_is_as_at_access = ap (λ (d : Device). d.tape) call.effect;
      port_is_written = ap (λ (d : Device). d.port port.0) call.effect ∙ changed_same call.at_access.port port.0 _;
      other_ports_are_kept = λ q ne. ap (λ (d : Device). d.port q) call.effect ∙ changed_other call.at_access.port port.0 _ q ne;
    }
