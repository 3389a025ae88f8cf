-- Whatever error of a port comes is shown by a bit of its PxIS.
use Rattle.std.proofs.Common.{ℕ, ◌≡◌, ◌≢◌, ◌⊎◌, ◌≤◌, ◌++◌, Bool, true, false, List, [], ◌∷◌, length, refl, sym, ◌∙◌, ap, subst, arith, inl, inr, append-nil}
use Rattle.std.proofs.lemmas.Bool.{true≢false}
use Rattle.std.proofs.lemmas.List.Elements.{All-nil, All-cons}
use Rattle.ata_types.specs.declared.Port.{Port}
use Rattle.hba_regs.specs.declared.reg.Reg.TheVariants.{Px}
use Rattle.hba_regs.specs.declared.reg.PortReg.{PortReg}
use Rattle.hba_regs.specs.declared.reg.PortReg.TheVariants.{Is, Cmd}
use Rattle.adapter.specs.Access.{Access, Does, port_after_write}
use Rattle.adapter.specs.Device.{DevicePort, Device}
use Rattle.adapter.specs.KeptBySteps.{KeepsOverSteps, KeepsControlsFlagsRise}
use Rattle.adapter.specs.Memory.{changed}
use Rattle.adapter.specs.Steps.{DeviceTransition, Can, device_after, TransitionsLead, Steps}
use Rattle.adapter.specs.Steps.DeviceTransition.{Fetch, FetchFault, Move, Clear, Done, Fault, Fatal, Fall, FrFall, LinkUp, Unplug, Plug, ResetEnds, Scribble}
use Rattle.adapter.specs.declared.tape.Entry.{Entry}
use Rattle.adapter.specs.declared.tape.Entry.TheVariants as entry
use Rattle.refinement.specs.Errors.{IsFatalEntryOf, NoFatalErrors, NoFaults}
use Rattle.refinement.specs.PortFacts.{IsFaultOf}
use Rattle.refinement.specs.PreservedParts.{DoesNotWrite}
use Rattle.refinement.proofs.relation.OneSlot.{changed_at}
use Rattle.refinement.proofs.device.FactsOverAccesses.{access_steps, effect_keeps}
use Rattle.refinement.proofs.device.ErrorBits.{command_beside}
use Rattle.refinement.proofs.device.TapeGains.{NoneOf, GainsNone, gains_nothing, gains_more}
use Rattle.refinement.proofs.device.PortControls.{spared}
use Rattle.refinement.proofs.device.TroubleBits.{was_false}

-- what a function that is changed at one place has there
there : {A : Type 0} (f : ℕ → A) (place : ℕ) (new : A) → changed f place new place ≡ new
there f place new = changed_at f place new (λ k x. k ≡ place → x ≡ new) (λ _. refl) (λ k ne e. absurd (ne e)) place refl

-- an entry of an error of the port, whose bit of PxIS is one of these
abbrev IsErrorIn : ℕ → ℕ → ℕ → Entry → Type 0
IsErrorIn low high port (entry.Fault f) = (f.port.0 ≡ port) × (low ≤ 30) × (30 ≤ high)
IsErrorIn low high port (entry.Fatal at) = (at.0 ≡ port) × (low ≤ 27) × (29 ≤ high)
IsErrorIn low high port _ = ⊥

-- Entries of a kind whose errors have these bits.
module _ (keeps : (old new : Device) → Steps old new → KeepsOverSteps old new) (low high : ℕ) (IsKind : Entry → Type 0) (port : ℕ) (only : (e : Entry) → IsKind e → IsErrorIn low high port e) where
  abbrev Untold : DevicePort → Type 0
  Untold p = (place : ℕ) → low ≤ place → place ≤ high → p.is place ≡ false

  -- the bits that an access finds
  abbrev SameBits : DevicePort → DevicePort → Type 0
  SameBits first p = (place : ℕ) → p.is place ≡ first.is place

  untold_before : (p q : DevicePort) → KeepsControlsFlagsRise p q → Untold q → Untold p
  untold_before p q k h = λ place from to. was_false (p.is place) (q.is place) (k.causes_stay_set place) (h place from to)

  one : (e : Entry) → (IsKind e → ⊥) → NoneOf IsKind (e ∷ [])
  one e other = All-cons (λ x. IsKind x → ⊥) e [] other (All-nil (λ x. IsKind x → ⊥))

  module _ (d : Device) where
    no_entry : d.tape ≡ d.tape ++ []
    no_entry = sym (append-nil d.tape)

    -- a step of this port that sets a bit isn't one that shows none
    at_port : (p place : ℕ) (new : DevicePort) → Untold (changed d.port p new port) → low ≤ place → place ≤ high → new.is place ≡ true → p ≡ port → ⊥
    at_port p place new h from to set e =
        let here : Untold new = subst Untold (there d.port p new) (subst (λ (k : ℕ). Untold (changed d.port p new k)) (sym e) h) in
        true≢false (sym set ∙ here place from to)

    step_untold : (step : DeviceTransition) → Can step d → Untold ((device_after step d).port port) → GainsNone IsKind d (device_after step d)
    step_untold (FetchFault p slot queued kept_bits) can h =
        (_, refl, one _ (λ x. let y = only _ x in at_port p 30 _ h y.1 y.2 (there (d.port p).is 30 true) y.0))
    step_untold (Fault p slot error kept_bits t) can h =
        (_, refl, one _ (λ x. let y = only _ x in at_port p 30 _ h y.1 y.2 (there (d.port p).is 30 true) y.0))
    step_untold (Fatal p place) can h =
        (_, refl, one _ (λ x. let y = only _ x in at_port p place _ h (from can.1 y.1) (to can.1 y.2) (there (d.port p).is place true) y.0))
      where
        from : (place ≡ 27) ⊎ (place ≡ 29) → low ≤ 27 → low ≤ place
        from (inl e) l = omega (arith, e, l)
        from (inr e) l = omega (arith, e, l)

        to : (place ≡ 27) ⊎ (place ≡ 29) → 29 ≤ high → place ≤ high
        to (inl e) l = omega (arith, e, l)
        to (inr e) l = omega (arith, e, l)
    step_untold (Move p slot t bytes) can h = (_, refl, one _ (only _))
    step_untold (Clear p slot t first count) can h = (_, refl, one _ (only _))
    step_untold (Done p slot flag t) can h = (_, refl, one _ (only _))
    step_untold (Unplug p) can h = (_, refl, one _ (only _))
    step_untold (Plug p disk) can h = (_, refl, one _ (only _))
    step_untold (Fetch p slot c places) can h = ([], no_entry, All-nil (λ e. IsKind e → ⊥))
    step_untold (Fall p) can h = ([], no_entry, All-nil (λ e. IsKind e → ⊥))
    step_untold (FrFall p) can h = ([], no_entry, All-nil (λ e. IsKind e → ⊥))
    step_untold (LinkUp p sig n) can h = ([], no_entry, All-nil (λ e. IsKind e → ⊥))
    step_untold ResetEnds can h = ([], no_entry, All-nil (λ e. IsKind e → ⊥))
    step_untold (Scribble p slot at bytes) can h = ([], no_entry, All-nil (λ e. IsKind e → ⊥))

  leads_untold : (steps : List DeviceTransition) (old new : Device) → old.hr ≡ false → TransitionsLead steps old new → Untold (new.port port) → GainsNone IsKind old new
  leads_untold [] old new off e h = subst (GainsNone IsKind old) (sym e) (gains_nothing IsKind old)
  leads_untold (step ∷ steps) old new off (can, lead) h =
      let k : KeepsOverSteps old (device_after step old) = keeps old (device_after step old) (record { steps = step ∷ []; lead = (can, refl) }) in
      let l : KeepsOverSteps (device_after step old) new = keeps (device_after step old) new (record { steps = steps; lead = lead }) in
      let off' : (device_after step old).hr ≡ false = (k.keeps_outside_reset off).no_reset in
      let mid : Untold ((device_after step old).port port) = untold_before ((device_after step old).port port) (new.port port) ((l.keeps_outside_reset off').controls_are_kept port) h in
      gains_more IsKind old (device_after step old) new (step_untold old step can mid) (leads_untold steps (device_after step old) new off' lead h)

  steps_untold : (old new : Device) → old.hr ≡ false → Steps old new → Untold (new.port port) → Untold (old.port port) × GainsNone IsKind old new
  steps_untold old new off s h =
      let k : KeepsOverSteps old new = keeps old new s in (
        untold_before (old.port port) (new.port port) ((k.keeps_outside_reset off).controls_are_kept port) h,
        leads_untold s.steps old new off s.lead h,
      )

  written_bits : (first : DevicePort) (r : PortReg) (v tape : ℕ) (p : DevicePort) → r ≢ Is → SameBits first p → SameBits first (port_after_write r v tape p)
  written_bits first Is v tape p other h = absurd (other refl)
  written_bits first Cmd v tape p other h = λ place. ap (λ (f : ℕ → Bool). f place) (command_beside v tape p).0 ∙ h place
  written_bits first _ v tape p other h = h

  access_untold : (at : Port) (access : Access) (old new : Device) → at.0 ≡ port → old.hr ≡ false → DoesNotWrite (Px at Is) access → Does access old new → Untold (new.port port) →
      Untold (old.port port) × GainsNone IsKind old new
  access_untold at access old new here off spares x h =
      let s = access_steps access old new x in
      let first : DevicePort = s.0.port at.0 in
      let same : SameBits first (new.port at.0) = effect_keeps (SameBits first) at (λ p r v y. y) (λ p y. y) access old new x
      (λ r v mid is steps y. written_bits first r v (length mid.tape) (mid.port at.0) (spared at r Is access v spares is) y)
      (λ place. refl) in
      let alike : SameBits (s.0.port port) (new.port port) = subst (λ (k : ℕ). SameBits (s.0.port k) (new.port k)) here same in
      let found = steps_untold old s.0 off s.1 (λ place from to. sym (alike place) ∙ h place from to) in
      let g : GainsNone IsKind old s.0 = found.1 in
      (found.0, (g.0, s.2 ∙ g.1, g.2))

-- ---- faults

fault_only : (port : ℕ) (e : Entry) → IsFaultOf port e → IsErrorIn 30 30 port e
fault_only port (entry.Fault f) is = (is, omega arith, omega arith)
fault_only port _ is = absurd is

alone : (p : DevicePort) → p.is 30 ≡ false → (place : ℕ) → 30 ≤ place → place ≤ 30 → p.is place ≡ false
alone p clear place from to = let e : 30 ≡ place = omega (arith, from, to) in subst (λ (k : ℕ). p.is k ≡ false) e clear

-- ---- fatal errors

fatal_only : (port : ℕ) (e : Entry) → IsFatalEntryOf port e → IsErrorIn 27 29 port e
fatal_only port (entry.Fatal at) is = (is, omega arith, omega arith)
fatal_only port _ is = absurd is

abbrev ShowsNoFatal : DevicePort → Type 0
ShowsNoFatal p = (place : ℕ) → 27 ≤ place → place ≤ 29 → p.is place ≡ false

-- ---- both

module _ (keeps : (old new : Device) → Steps old new → KeepsOverSteps old new) where
  as_fails : (port : ℕ) (old new : Device) → Untold keeps 30 30 (IsFaultOf port) port (fault_only port) (old.port port) × GainsNone (IsFaultOf port) old new → ((old.port port).is 30 ≡ false) × NoFaults port old new
  as_fails port old new (h, g) = (h 30 (omega arith) (omega arith), record { new_entries = g.0; tape_is = g.1; no_such_entry = g.2 })

  pub steps_fault : (port : ℕ) (old new : Device) → old.hr ≡ false → Steps old new → (new.port port).is 30 ≡ false → ((old.port port).is 30 ≡ false) × NoFaults port old new
  steps_fault port old new off s clear = as_fails port old new (steps_untold keeps 30 30 (IsFaultOf port) port (fault_only port) old new off s (alone (new.port port) clear))

  pub access_fault : (port : Port) (access : Access) (old new : Device) → old.hr ≡ false → DoesNotWrite (Px port Is) access → Does access old new → (new.port port.0).is 30 ≡ false →
      ((old.port port.0).is 30 ≡ false) × NoFaults port.0 old new
  access_fault port access old new off spares x clear =
      as_fails port.0 old new (access_untold keeps 30 30 (IsFaultOf port.0) port.0 (fault_only port.0) port access old new refl off spares x (alone (new.port port.0) clear))

  as_fatal : (port : ℕ) (old new : Device) → ShowsNoFatal (old.port port) × GainsNone (IsFatalEntryOf port) old new → ShowsNoFatal (old.port port) × NoFatalErrors port old new
  as_fatal port old new (h, g) = (h, record { new_entries = g.0; tape_is = g.1; no_such_entry = g.2 })

  pub steps_fatal : (port : ℕ) (old new : Device) → old.hr ≡ false → Steps old new → ShowsNoFatal (new.port port) → ShowsNoFatal (old.port port) × NoFatalErrors port old new
  steps_fatal port old new off s clear = as_fatal port old new (steps_untold keeps 27 29 (IsFatalEntryOf port) port (fatal_only port) old new off s clear)

  pub access_fatal : (port : Port) (access : Access) (old new : Device) → old.hr ≡ false → DoesNotWrite (Px port Is) access → Does access old new → ShowsNoFatal (new.port port.0) →
      ShowsNoFatal (old.port port.0) × NoFatalErrors port.0 old new
  access_fatal port access old new off spares x clear =
      as_fatal port.0 old new (access_untold keeps 27 29 (IsFatalEntryOf port.0) port.0 (fatal_only port.0) port access old new refl off spares x clear)
