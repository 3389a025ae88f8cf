-- A port whose engine stands does nothing.
use Rattle.std.proofs.Common.{ℕ, ◌≡◌, ◌++◌, false, true, List, [], ◌∷◌, length, refl, sym, ◌∙◌, subst, append-nil}
use Rattle.std.proofs.lemmas.List.{append_cancel_left}
use Rattle.std.proofs.lemmas.List.Elements.{All-nil, All-cons}
use Rattle.std.proofs.lemmas.Bool.{both_ways}
use Rattle.hba_regs.specs.declared.reg.PortReg.{PortReg}
use Rattle.hba_regs.specs.declared.reg.PortReg.TheVariants.{Cmd}
use Rattle.adapter.specs.Access.{Access, Does, port_after_write}
use Rattle.adapter.specs.Device.{Disk, DevicePort, Device}
use Rattle.adapter.specs.KeptBySteps.{KeepsOverSteps}
use Rattle.adapter.specs.Steps.{DeviceTransition, Can, device_after, TransitionsLead, Steps}
use Rattle.adapter.specs.Steps.DeviceTransition.{Fetch, FetchFault, Move, Clear, Done, Fault, Fatal, Fall, FrFall, LinkUp, Unplug, Plug, ResetEnds, Scribble}
use Rattle.adapter.specs.declared.tape.Entry.{Entry}
use Rattle.refinement.specs.StepLaws.{StepLaws}
use Rattle.refinement.specs.Relation.{port_at}
use Rattle.refinement.specs.Errors.{IsDiskComing, NoDiskComes, IsEngineWorkOrErrorOf}
use Rattle.refinement.proofs.device.FactsOverAccesses.{access_steps, effect_keeps}
use Rattle.refinement.proofs.device.ErrorBits.{comes_parts, comes_before, command_beside}
use Rattle.refinement.proofs.device.TapeGains.{NoneOf, GainsNone, gains_nothing, gains_more, gained_none}
use Rattle.refinement.proofs.device.HealthyPort.{at_port}

-- ---- its work

module _ (port : ℕ) (d : Device) (cr : (d.port port).cr ≡ false) where
  stands : (p : ℕ) → (d.port p).cr ≡ true → p ≡ port → ⊥
  stands p on e = absurd (both_ways _ cr (subst (λ (k : ℕ). (d.port k).cr ≡ true) e on))

  -- the tape gains one entry, or none
  one : (e : Entry) → (IsEngineWorkOrErrorOf port e → ⊥) → NoneOf (IsEngineWorkOrErrorOf port) (e ∷ [])
  one e other = All-cons (λ e. IsEngineWorkOrErrorOf port e → ⊥) e [] other (All-nil (λ e. IsEngineWorkOrErrorOf port e → ⊥))

  no_entry : d.tape ≡ d.tape ++ []
  no_entry = sym (append-nil d.tape)

  step_silent : (step : DeviceTransition) → Can step d → GainsNone (IsEngineWorkOrErrorOf port) d (device_after step d)
  step_silent (Fetch p slot c places) can = ([], no_entry, All-nil (λ e. IsEngineWorkOrErrorOf port e → ⊥))
  step_silent (FetchFault p slot queued kept_bits) can = (_, refl, one _ (stands p can.working.cr_is_set))
  step_silent (Move p slot t bytes) can = (_, refl, one _ (stands p can.works.working.cr_is_set))
  step_silent (Clear p slot t first count) can = (_, refl, one _ (stands p can.works.working.cr_is_set))
  step_silent (Done p slot flag t) can = (_, refl, one _ (stands p can.works.working.cr_is_set))
  step_silent (Fault p slot error kept_bits t) can = (_, refl, one _ (stands p can.cr_is_set))
  step_silent (Fatal p place) can = (_, refl, one _ (stands p can.0))
  step_silent (Fall p) can = ([], no_entry, All-nil (λ e. IsEngineWorkOrErrorOf port e → ⊥))
  step_silent (FrFall p) can = ([], no_entry, All-nil (λ e. IsEngineWorkOrErrorOf port e → ⊥))
  step_silent (LinkUp p sig n) can = ([], no_entry, All-nil (λ e. IsEngineWorkOrErrorOf port e → ⊥))
  step_silent (Unplug p) can = (_, refl, one _ (λ x. x))
  step_silent (Plug p disk) can = (_, refl, one _ (λ x. x))
  step_silent ResetEnds can = ([], no_entry, All-nil (λ e. IsEngineWorkOrErrorOf port e → ⊥))
  step_silent (Scribble p slot at bytes) can = ([], no_entry, All-nil (λ e. IsEngineWorkOrErrorOf port e → ⊥))

leads_silent : StepLaws → (port : ℕ) (steps : List DeviceTransition) (old new : Device) → (old.port port).cr ≡ false → TransitionsLead steps old new → GainsNone (IsEngineWorkOrErrorOf port) old new
leads_silent laws port [] old new cr e = subst (GainsNone (IsEngineWorkOrErrorOf port) old) (sym e) (gains_nothing (IsEngineWorkOrErrorOf port) old)
leads_silent laws port (step ∷ steps) old new cr (can, lead) =
    let k : KeepsOverSteps old (device_after step old) = laws.one_step_keeps step _ can in
    gains_more (IsEngineWorkOrErrorOf port) old (device_after step old) new (step_silent port old cr step can) (leads_silent laws port steps (device_after step old) new ((k.port_bits_only_fall port).cr_stays_clear cr) lead)

pub steps_silent : StepLaws → (port : ℕ) (old new : Device) (gained : List Entry) → (old.port port).cr ≡ false → Steps old new → new.tape ≡ old.tape ++ gained → NoneOf (IsEngineWorkOrErrorOf port) gained
steps_silent laws port old new gained cr s is =
    let g = leads_silent laws port s.steps old new cr s.lead in
    subst (NoneOf (IsEngineWorkOrErrorOf port)) (append_cancel_left old.tape g.0 gained (sym g.1 ∙ is)) g.2

pub access_silent : StepLaws → (port : ℕ) (access : Access) (old new : Device) (gained : List Entry) → (old.port port).cr ≡ false → Does access old new → new.tape ≡ old.tape ++ gained → NoneOf (IsEngineWorkOrErrorOf port) gained
access_silent laws port access old new gained cr x is = let s = access_steps access old new x in steps_silent laws port old s.0 gained cr s.1 (sym s.2 ∙ is)

-- ---- its disk

module _ (laws : StepLaws) (disk : Disk) where
  -- the engine stands, and the disk is this one
  abbrev Rests : DevicePort → Type 0
  Rests p = (p.cr ≡ false) × (p.disk ≡ disk)

  step_rests : (port : ℕ) (d : Device) (gained : List Entry) → NoneOf (IsDiskComing port) gained → (step : DeviceTransition) → Can step d → (device_after step d).tape ≡ d.tape ++ gained → Rests (d.port port) → Rests ((device_after step d).port port)
  step_rests port d gained none (Fetch p slot c places) can is h = at_port Rests Rests d p port _ h (λ e x. x) (λ ne x. x)
  step_rests port d gained none (FetchFault p slot queued kept_bits) can is h = at_port Rests Rests d p port _ h (λ e x. x) (λ ne x. x)
  step_rests port d gained none (Move p slot t bytes) can is h = at_port Rests Rests d p port _ h (λ e x. absurd (both_ways _ x.0 can.works.working.cr_is_set)) (λ ne x. x)
  step_rests port d gained none (Clear p slot t first count) can is h = at_port Rests Rests d p port _ h (λ e x. absurd (both_ways _ x.0 can.works.working.cr_is_set)) (λ ne x. x)
  step_rests port d gained none (Done p slot flag t) can is h = at_port Rests Rests d p port _ h (λ e x. x) (λ ne x. x)
  step_rests port d gained none (Fault p slot error kept_bits t) can is h = at_port Rests Rests d p port _ h (λ e x. x) (λ ne x. x)
  step_rests port d gained none (Fatal p place) can is h = at_port Rests Rests d p port _ h (λ e x. x) (λ ne x. x)
  step_rests port d gained none (Fall p) can is h = at_port Rests Rests d p port _ h (λ e x. (refl, x.1)) (λ ne x. x)
  step_rests port d gained none (FrFall p) can is h = at_port Rests Rests d p port _ h (λ e x. x) (λ ne x. x)
  step_rests port d gained none (LinkUp p sig n) can is h = at_port Rests Rests d p port _ h (λ e x. x) (λ ne x. x)
  step_rests port d gained none (Unplug p) can is h = at_port Rests Rests d p port _ h (λ e x. x) (λ ne x. x)
  step_rests port d gained none (Plug p disk) can is h = at_port Rests Rests d p port _ h (λ e x. absurd (gained_none (IsDiskComing port) d.tape _ gained is none e)) (λ ne x. x)
  step_rests port d gained none ResetEnds can is h = (refl, h.1)
  step_rests port d gained none (Scribble p slot at bytes) can is h = h

  leads_rest : (port : ℕ) (steps : List DeviceTransition) (old new : Device) → TransitionsLead steps old new → NoDiskComes port old new → Rests (old.port port) → Rests (new.port port)
  leads_rest port [] old new e comes h = subst (λ (d : Device). Rests (d.port port)) (sym e) h
  leads_rest port (step ∷ steps) old new (can, lead) comes h =
      let k : KeepsOverSteps old (device_after step old) = laws.one_step_keeps step _ can in
      let l : KeepsOverSteps (device_after step old) new = laws.steps_keep _ _ (record { steps = steps; lead = lead }) in
      let parts = comes_parts port old (device_after step old) new k.new_entries l.new_entries k.tape_grows l.tape_grows comes in
      leads_rest port steps (device_after step old) new lead parts.1 (step_rests port old parts.0.new_entries parts.0.no_such_entry step can parts.0.tape_is h)

  abbrev Holds : DevicePort → Type 0
  Holds p = p.disk ≡ disk

  written_disk : (r : PortReg) (v tape : ℕ) (p : DevicePort) → Holds p → Holds (port_after_write r v tape p)
  written_disk Cmd v tape p h = (command_beside v tape p).5 ∙ h
  written_disk _ v tape p h = h

pub steps_hold : StepLaws → (port : ℕ) (old new : Device) → (old.port port).cr ≡ false → Steps old new → NoDiskComes port old new → (new.port port).disk ≡ (old.port port).disk
steps_hold laws port old new cr s comes = (leads_rest laws (old.port port).disk port s.steps old new s.lead comes (cr, refl)).1

pub access_hold : StepLaws → (port : ℕ) (access : Access) (old new : Device) → (old.port port).cr ≡ false → Does access old new → NoDiskComes port old new → (new.port port).disk ≡ (old.port port).disk
access_hold laws port access old new cr x comes =
    let s = access_steps access old new x in
    effect_keeps (Holds laws (old.port port).disk) (port_at port) (λ p r v h. h) (λ p h. h) access old new x
    (λ r v mid is steps h. written_disk laws (old.port port).disk r v (length mid.tape) (mid.port port) h)
    (steps_hold laws port old s.0 cr s.1 (comes_before port old s.0 new s.2 comes))
