-- A port none of whose slots has a command moves nothing.
use Rattle.std.proofs.Common.{ℕ, ◌≡◌, ◌++◌, false, Some, List, [], ◌∷◌, refl, sym, ◌∙◌, subst, append-nil}
use Rattle.std.proofs.lemmas.List.Elements.{All-nil, All-cons}
use Rattle.ata_types.specs.declared.Port.{Port}
use Rattle.hba_regs.specs.Bits.{bit}
use Rattle.hba_regs.specs.declared.reg.Reg.TheVariants.{Px}
use Rattle.hba_regs.specs.declared.reg.PortReg.{PortReg}
use Rattle.hba_regs.specs.declared.reg.PortReg.TheVariants.{Ci}
use Rattle.adapter.specs.Access.{Access, Does}
use Rattle.adapter.specs.Access.Access.{Writing}
use Rattle.adapter.specs.Device.{Device}
use Rattle.adapter.specs.KeptBySteps.{KeepsOverSteps}
use Rattle.adapter.specs.Steps.{DeviceTransition, Can, device_after, TransitionsLead, Steps}
use Rattle.adapter.specs.Steps.DeviceTransition.{Fetch, FetchFault, Move, Clear, Done, Fault, Fatal, Fall, FrFall, LinkUp, Unplug, Plug, ResetEnds, Scribble}
use Rattle.adapter.specs.declared.command.Operation.{Operation}
use Rattle.adapter.specs.declared.tape.Entry.{Entry}
use Rattle.adapter.proofs.Absurd.{some-none}
use Rattle.refinement.specs.StepLaws.{StepLaws}
use Rattle.refinement.specs.Fragments.{NoCommandIsIssuedOrTaken, ReadsPortOrWrites, IsDrivenBy}
use Rattle.refinement.specs.Slots.{IsMove}
use Rattle.refinement.proofs.device.FactsOverAccesses.{access_steps}
use Rattle.refinement.proofs.driver.Stretches.{along}
use Rattle.refinement.proofs.driver.FinishedCommand.{access_over}
use Rattle.refinement.proofs.device.TapeGains.{NoneOf, GainsNone, gains_nothing, gains_more}

module _ (laws : StepLaws) (port : ℕ) (o : Operation) where
  one : (e : Entry) → (IsMove port o e → ⊥) → NoneOf (IsMove port o) (e ∷ [])
  one e other = All-cons (λ e. IsMove port o e → ⊥) e [] other (All-nil (λ e. IsMove port o e → ⊥))

  nothing : (d : Device) → GainsNone (IsMove port o) d d
  nothing d = gains_nothing (IsMove port o) d

  module _ (d : Device) (none : NoCommandIsIssuedOrTaken (d.port port)) where
    no_entry : d.tape ≡ d.tape ++ []
    no_entry = sym (append-nil d.tape)

    step_unmoving : (step : DeviceTransition) → Can step d → GainsNone (IsMove port o) d (device_after step d)
    step_unmoving (Move p slot t bytes) can = (_, refl, one _ (λ x. some-none {x = t} (subst (λ (k : ℕ). (d.port k).taken slot ≡ Some t) x.0 can.works.taken) (none slot).is_not_taken))
    step_unmoving (Fetch p slot c places) can = ([], no_entry, All-nil (λ e. IsMove port o e → ⊥))
    step_unmoving (FetchFault p slot queued kept_bits) can = (_, refl, one _ (λ x. x))
    step_unmoving (Clear p slot t first count) can = (_, refl, one _ (λ x. x))
    step_unmoving (Done p slot flag t) can = (_, refl, one _ (λ x. x))
    step_unmoving (Fault p slot error kept_bits t) can = (_, refl, one _ (λ x. x))
    step_unmoving (Fatal p place) can = (_, refl, one _ (λ x. x))
    step_unmoving (Fall p) can = ([], no_entry, All-nil (λ e. IsMove port o e → ⊥))
    step_unmoving (FrFall p) can = ([], no_entry, All-nil (λ e. IsMove port o e → ⊥))
    step_unmoving (LinkUp p sig n) can = ([], no_entry, All-nil (λ e. IsMove port o e → ⊥))
    step_unmoving (Unplug p) can = (_, refl, one _ (λ x. x))
    step_unmoving (Plug p disk) can = (_, refl, one _ (λ x. x))
    step_unmoving ResetEnds can = ([], no_entry, All-nil (λ e. IsMove port o e → ⊥))
    step_unmoving (Scribble p slot at bytes) can = ([], no_entry, All-nil (λ e. IsMove port o e → ⊥))

  leads_unmoving : (steps : List DeviceTransition) (old new : Device) → NoCommandIsIssuedOrTaken (old.port port) → TransitionsLead steps old new → GainsNone (IsMove port o) old new
  leads_unmoving [] old new none e = subst (GainsNone (IsMove port o) old) (sym e) (nothing old)
  leads_unmoving (step ∷ steps) old new none (can, lead) =
      let k : KeepsOverSteps old (device_after step old) = laws.one_step_keeps step _ can in
      gains_more (IsMove port o) old (device_after step old) new (step_unmoving old none step can)
      (leads_unmoving steps (device_after step old) new (λ slot. record { is_not_issued = (k.port_bits_only_fall port).ci_stays_clear slot (none slot).is_not_issued; is_not_taken = (k.port_bits_only_fall port).slots_stay_free slot (none slot).is_not_issued (none slot).is_not_taken }) lead)

  pub steps_unmoving : (old new : Device) → NoCommandIsIssuedOrTaken (old.port port) → Steps old new → GainsNone (IsMove port o) old new
  steps_unmoving old new none s = leads_unmoving s.steps old new none s.lead

  pub access_unmoving : (access : Access) (old new : Device) → NoCommandIsIssuedOrTaken (old.port port) → Does access old new → GainsNone (IsMove port o) old new
  access_unmoving access old new none x =
      let s = access_steps access old new x in
      let g = steps_unmoving old s.0 none s.1 in
      (g.0, s.2 ∙ g.1, g.2)

-- over accesses of one port that write no PxCI
abbrev Unmoving : ℕ → Operation → Device → Device → Type 0
Unmoving port o old new = NoCommandIsIssuedOrTaken (old.port port) → GainsNone (IsMove port o) old new × NoCommandIsIssuedOrTaken (new.port port)

module _ (laws : StepLaws) (Written : PortReg → Type 0) (quiet : Written Ci → ⊥) (port : Port) (o : Operation) where
  issues_none : (access : Access) → ReadsPortOrWrites Written port access → (slot v : ℕ) → access ≡ Writing (Px port Ci) v → bit v slot ≡ false
  issues_none access may slot v is = absurd (quiet (subst (ReadsPortOrWrites Written port) is may).1)

  pub controls_unmoving : (old new : Device) → IsDrivenBy (ReadsPortOrWrites Written port) old new → NoCommandIsIssuedOrTaken (old.port port.0) → GainsNone (IsMove port.0 o) old new × NoCommandIsIssuedOrTaken (new.port port.0)
  controls_unmoving old new a none =
      along (Unmoving port.0 o) (λ d h. (nothing laws port.0 o d, h))
      (λ x y z p q h. let u = p h in let w = q u.1 in (gains_more (IsMove port.0 o) x y z u.0 w.0, w.1))
      (ReadsPortOrWrites Written port)
      (λ access x y may does h. (access_unmoving laws port.0 o access x y h does, λ slot. access_over laws port slot access x y (issues_none access may slot) does (h slot)))
      a.accesses old new a.accesses_are_of_kind a.all_are_done none
