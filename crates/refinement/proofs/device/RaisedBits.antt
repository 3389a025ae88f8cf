-- A bit of PxIS that tells of an error rises only with the entry of the error.
use Rattle.std.proofs.Common.{ℕ, ◌≡◌, ◌⊎◌, ◌≤◌, ◌+◌, ◌++◌, not, Bool, true, false, List, [], ◌∷◌, length, refl, sym, ◌∙◌, ap, subst, arith, inl, inr, ⊎_elim}
use Rattle.std.proofs.lemmas.Bool.{cases_eq, and_left}
use Rattle.ata_types.specs.declared.Port.{Port}
use Rattle.hba_regs.specs.Bits.{bit}
use Rattle.hba_regs.specs.declared.reg.PortReg.{PortReg}
use Rattle.hba_regs.specs.declared.reg.PortReg.TheVariants.{Is, Cmd}
use Rattle.adapter.specs.Access.{Access, Does, port_after_write}
use Rattle.adapter.specs.Device.{DevicePort, Device}
use Rattle.adapter.specs.KeptBySteps.{KeepsOverSteps}
use Rattle.adapter.specs.Steps.{DeviceTransition, Can, device_after, TransitionsLead, Steps}
use Rattle.adapter.specs.Steps.DeviceTransition.{Fetch, FetchFault, Move, Clear, Done, Fault, Fatal, Fall, FrFall, LinkUp, Unplug, Plug, ResetEnds, Scribble}
use Rattle.adapter.specs.declared.tape.Fault as tape_fault
use Rattle.adapter.specs.declared.tape.Entry.{Entry}
use Rattle.adapter.specs.declared.tape.Entry.TheVariants as entry
use Rattle.adapter.proofs.Changed.{changed_other}
use Rattle.refinement.specs.StepLaws.{StepLaws}
use Rattle.refinement.specs.Relation.{port_at}
use Rattle.refinement.specs.Errors.{IsFatalEntryOf, ErrorBitsRiseByErrors}
use Rattle.refinement.specs.PortFacts.{IsFaultOf}
use Rattle.refinement.proofs.device.FactsOverAccesses.{access_steps, effect_keeps}
use Rattle.refinement.proofs.device.ErrorBits.{command_beside}
use Rattle.refinement.proofs.device.FaultlessStretches.{fatal_gains, fails_gains}
use Rattle.refinement.proofs.device.TapeGains.{NoneOf, GainsNone, gains_parts, gained_none}
use Rattle.refinement.proofs.device.HealthyPort.{at_port}

-- no place of an error is one of a command's end
no_error : (flag place : ℕ) → (flag ≡ 0) ⊎ (flag ≡ 1) ⊎ (flag ≡ 3) → 27 ≤ place → place ≡ flag → ⊥
no_error flag place (inl z) low e = omega (arith, z, low, e)
no_error flag place (inr (inl z)) low e = omega (arith, z, low, e)
no_error flag place (inr (inr z)) low e = omega (arith, z, low, e)

fatal_place : (k place : ℕ) → (k ≡ 27) ⊎ (k ≡ 29) → place ≡ k → (place ≡ 27) ⊎ (place ≡ 29)
fatal_place k place (inl z) e = inl (e ∙ z)
fatal_place k place (inr z) e = inr (e ∙ z)

-- Entries of a kind that has the port's faults, where the bit is TFES, and its fatal errors, where it is IFS or HBFS.
module _ (laws : StepLaws) (IsKind : Entry → Type 0) (port place : ℕ) (high : 27 ≤ place) (faults : (f : tape_fault.Fault) → f.port.0 ≡ port → place ≡ 30 → IsKind (entry.Fault f))
    (fatals : (at : Port) → at.0 ≡ port → (place ≡ 27) ⊎ (place ≡ 29) → IsKind (entry.Fatal at)) where
  abbrev Unset : DevicePort → Type 0
  Unset p = p.is place ≡ false

  module _ (d : Device) (gained : List Entry) (none : NoneOf IsKind gained) where
    step_unset : (step : DeviceTransition) → Can step d → (device_after step d).tape ≡ d.tape ++ gained → Unset (d.port port) → Unset ((device_after step d).port port)
    step_unset (Fetch p slot c places) can is h = at_port Unset Unset d p port _ h (λ e x. x) (λ ne x. x)
    step_unset (FetchFault p slot queued kept_bits) can is h = at_port Unset Unset d p port _ h
        (λ e x. ⊎_elim
        (λ (z : place ≡ 30). absurd (gained_none IsKind d.tape _ gained is none (faults (record { port = record { 0 = p }; slot = record { 0 = slot }; status = 0x41 + kept_bits; error = 4 }) e z)))
        (λ (ne : place ≡ 30 → ⊥). changed_other (d.port p).is 30 true place ne ∙ x)
        (cases_eq place 30))
        (λ ne x. x)
    step_unset (Move p slot t bytes) can is h = at_port Unset Unset d p port _ h (λ e x. x) (λ ne x. x)
    step_unset (Clear p slot t from count) can is h = at_port Unset Unset d p port _ h (λ e x. x) (λ ne x. x)
    step_unset (Done p slot flag t) can is h = at_port Unset Unset d p port _ h
        (λ e x. changed_other (d.port p).is flag true place (no_error flag place can.cause_is_allowed high) ∙ x) (λ ne x. x)
    step_unset (Fault p slot error kept_bits t) can is h = at_port Unset Unset d p port _ h
        (λ e x. ⊎_elim
        (λ (z : place ≡ 30). absurd (gained_none IsKind d.tape _ gained is none (faults (record { port = record { 0 = p }; slot = record { 0 = slot }; status = 0x41 + kept_bits; error = error }) e z)))
        (λ (ne : place ≡ 30 → ⊥). changed_other (d.port p).is 30 true place ne ∙ x)
        (cases_eq place 30))
        (λ ne x. x)
    step_unset (Fatal p k) can is h = at_port Unset Unset d p port _ h
        (λ e x. ⊎_elim
        (λ (z : place ≡ k). absurd (gained_none IsKind d.tape _ gained is none (fatals (record { 0 = p }) e (fatal_place k place can.1 z))))
        (λ (ne : place ≡ k → ⊥). changed_other (d.port p).is k true place ne ∙ x)
        (cases_eq place k))
        (λ ne x. x)
    step_unset (Fall p) can is h = at_port Unset Unset d p port _ h (λ e x. x) (λ ne x. x)
    step_unset (FrFall p) can is h = at_port Unset Unset d p port _ h (λ e x. x) (λ ne x. x)
    step_unset (LinkUp p sig n) can is h = at_port Unset Unset d p port _ h (λ e x. x) (λ ne x. x)
    step_unset (Unplug p) can is h = at_port Unset Unset d p port _ h (λ e x. x) (λ ne x. x)
    step_unset (Plug p disk) can is h = at_port Unset Unset d p port _ h (λ e x. x) (λ ne x. x)
    step_unset ResetEnds can is h = refl
    step_unset (Scribble p slot at bytes) can is h = h

  leads_unset : (steps : List DeviceTransition) (old new : Device) → TransitionsLead steps old new → GainsNone IsKind old new → Unset (old.port port) → Unset (new.port port)
  leads_unset [] old new e none h = subst (λ (d : Device). Unset (d.port port)) (sym e) h
  leads_unset (step ∷ steps) old new (can, lead) none h =
      let k : KeepsOverSteps old (device_after step old) = laws.one_step_keeps step _ can in
      let l : KeepsOverSteps (device_after step old) new = laws.steps_keep _ _ (record { steps = steps; lead = lead }) in
      let parts = gains_parts IsKind old (device_after step old) new k.new_entries l.new_entries k.tape_grows l.tape_grows none in
      leads_unset steps (device_after step old) new lead parts.1 (step_unset old parts.0.0 parts.0.2 step can parts.0.1 h)

  pub steps_unset : (old new : Device) → Steps old new → GainsNone IsKind old new → Unset (old.port port) → Unset (new.port port)
  steps_unset old new s none h = leads_unset s.steps old new s.lead none h

  written_unset : (r : PortReg) (v tape : ℕ) (p : DevicePort) → Unset p → Unset (port_after_write r v tape p)
  written_unset Is v tape p h = and_left (p.is place) (not (bit v place)) h
  written_unset Cmd v tape p h = ap (λ (f : ℕ → Bool). f place) (command_beside v tape p).0 ∙ h
  written_unset _ v tape p h = h

  pub access_unset : (access : Access) (old new : Device) → Does access old new → GainsNone IsKind old new → Unset (old.port port) → Unset (new.port port)
  access_unset access old new x none h =
      let s = access_steps access old new x in
      effect_keeps Unset (port_at port) (λ p r v y. y) (λ p y. y) access old new x
      (λ r v mid is steps y. written_unset r v (length mid.tape) (mid.port port) y)
      (steps_unset old s.0 s.1 (none.0, sym s.2 ∙ none.1, none.2) h)

-- ---- by errors

no_fault : (place : ℕ) → place ≤ 29 → place ≡ 30 → ⊥
no_fault place up e = omega (arith, up, e)

no_fatal : (place : ℕ) → place ≡ 30 → (place ≡ 27) ⊎ (place ≡ 29) → ⊥
no_fatal place e (inl z) = omega (arith, e, z)
no_fatal place e (inr z) = omega (arith, e, z)

pub steps_raise : StepLaws → (port : ℕ) (old new : Device) → Steps old new → ErrorBitsRiseByErrors port old new
steps_raise laws port old new s = record {
  fatal = λ none place low up h.
      (steps_unset laws) (IsFatalEntryOf port) port place low (λ f e z. no_fault place up z) (λ at e z. e) old new s (fatal_gains port old new none) h;
  fault = λ none h. steps_unset laws (IsFaultOf port) port 30 (omega arith) (λ f e z. e) (λ at e z. no_fatal 30 refl z) old new s (fails_gains port old new none) h;
}

pub access_raises : StepLaws → (port : Port) (access : Access) (old new : Device) → Does access old new → ErrorBitsRiseByErrors port.0 old new
access_raises laws port access old new x = record {
  fatal = λ none place low up h.
      (access_unset laws) (IsFatalEntryOf port.0) port.0 place low (λ f e z. no_fault place up z) (λ at e z. e) access old new x (fatal_gains port.0 old new none) h;
  fault = λ none h. access_unset laws (IsFaultOf port.0) port.0 30 (omega arith) (λ f e z. e) (λ at e z. no_fatal 30 refl z) access old new x (fails_gains port.0 old new none) h;
}
