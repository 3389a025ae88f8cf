-- The link is awaited; and a port on which ST may be set.
use Rattle.std.proofs.Common.{ℕ, ◌≡◌, ◌⊎◌, ◌+◌, ◌*◌, ◌/◌, ◌%◌, Bool, true, false, ◌&&◌, ◌||◌, List, [], ◌∷◌, length, refl, sym, ◌∙◌, ap, subst, arith, inl, inr, ⊎_elim, eq-eqb, eqb-true}
use Rattle.std.specs.Prelude.{if◌then◌else◌, nat_eq}
use Rattle.std.proofs.lemmas.Bool.{cond-true, cond-false, and_parts, or_cases, both_ways, false≢true}
use Rattle.ata_types.specs.declared.Port.{Port}
use Rattle.hba_regs.specs.Bits.{bit}
use Rattle.hba_regs.specs.declared.reg.Reg.{Reg}
use Rattle.hba_regs.specs.declared.reg.Reg.TheVariants.{Cap, Ghc, Pi, Vs, Cap2, Bohc, Px}
use Rattle.hba_regs.specs.declared.reg.Reg.TheVariants as adapter
use Rattle.hba_regs.specs.declared.reg.PortReg.TheVariants.{Clb, Clbu, Fb, Fbu, Is, Ie, Cmd, Tfd, Sig, Ssts, Sctl, Serr, Sact, Ci}
use Rattle.adapter.specs.Access.{Reads, Writes, device_after_reading, device_after_write, port_after_write, port_after_st_write, port_after_fre_write, port_after_det_write, port_after_hba_is_write}
use Rattle.adapter.specs.Device.{DevicePort, Device}
use Rattle.adapter.specs.KeptBySteps.{PortBitsOnlyFallFreeSlotsStay}
use Rattle.adapter.specs.Rules.{MayWrite, IsStable}
use Rattle.adapter.specs.Steps.{DeviceTransition, Can, device_after, TransitionsLead, Steps}
use Rattle.adapter.specs.Steps.DeviceTransition.{Fetch, FetchFault, Move, Clear, Done, Fault, Fatal, Fall, FrFall, LinkUp, Unplug, Plug, ResetEnds, Scribble}
use Rattle.adapter.proofs.Changed.{changed_same}
use Rattle.refinement.specs.StepLaws.{StepLaws}
use Rattle.refinement.specs.PortFacts.{WhileLinkAwaitedCrIsClearAndDrqSet, CrAndTfesAreClear, IsCleanToStart, StartsCleanAndWritesSctlStopped}
use Rattle.refinement.proofs.device.HealthyPort.{at_port}

-- ---- predicates of a port that no step, or no reading, spoils

-- what each step keeps of a port, lists of steps keep
pub leads_keep : (P : DevicePort → Type 0) → ((d : Device) (port : ℕ) (step : DeviceTransition) → Can step d → P (d.port port) → P ((device_after step d).port port)) →
    (port : ℕ) (steps : List DeviceTransition) (old new : Device) → TransitionsLead steps old new → P (old.port port) → P (new.port port)
leads_keep P keep port [] old new e h = subst (λ (d : Device). P (d.port port)) (sym e) h
leads_keep P keep port (step ∷ steps) old new (can, lead) h = leads_keep P keep port steps (device_after step old) new lead (keep old port step can h)

-- ---- the link

step_awaited : (d : Device) (port : ℕ) (step : DeviceTransition) → Can step d → WhileLinkAwaitedCrIsClearAndDrqSet (d.port port) → WhileLinkAwaitedCrIsClearAndDrqSet ((device_after step d).port port)
step_awaited d port (Fetch p slot c places) can h = at_port WhileLinkAwaitedCrIsClearAndDrqSet WhileLinkAwaitedCrIsClearAndDrqSet d p port _ h (λ e x due. absurd (both_ways _ (x due).0 can.working.cr_is_set)) (λ ne x. x)
step_awaited d port (FetchFault p slot queued kept_bits) can h = at_port WhileLinkAwaitedCrIsClearAndDrqSet WhileLinkAwaitedCrIsClearAndDrqSet d p port _ h (λ e x due. absurd (both_ways _ (x due).0 can.working.cr_is_set)) (λ ne x. x)
step_awaited d port (Move p slot t bytes) can h = at_port WhileLinkAwaitedCrIsClearAndDrqSet WhileLinkAwaitedCrIsClearAndDrqSet d p port _ h (λ e x. x) (λ ne x. x)
step_awaited d port (Clear p slot t first count) can h = at_port WhileLinkAwaitedCrIsClearAndDrqSet WhileLinkAwaitedCrIsClearAndDrqSet d p port _ h (λ e x. x) (λ ne x. x)
step_awaited d port (Done p slot flag t) can h = at_port WhileLinkAwaitedCrIsClearAndDrqSet WhileLinkAwaitedCrIsClearAndDrqSet d p port _ h (λ e x due. absurd (both_ways _ (x due).0 can.works.working.cr_is_set)) (λ ne x. x)
step_awaited d port (Fault p slot error kept_bits t) can h = at_port WhileLinkAwaitedCrIsClearAndDrqSet WhileLinkAwaitedCrIsClearAndDrqSet d p port _ h (λ e x due. absurd (both_ways _ (x due).0 can.cr_is_set)) (λ ne x. x)
step_awaited d port (Fatal p place) can h = at_port WhileLinkAwaitedCrIsClearAndDrqSet WhileLinkAwaitedCrIsClearAndDrqSet d p port _ h (λ e x. x) (λ ne x. x)
step_awaited d port (Fall p) can h = at_port WhileLinkAwaitedCrIsClearAndDrqSet WhileLinkAwaitedCrIsClearAndDrqSet d p port _ h (λ e x due. (refl, (x due).1)) (λ ne x. x)
step_awaited d port (FrFall p) can h = at_port WhileLinkAwaitedCrIsClearAndDrqSet WhileLinkAwaitedCrIsClearAndDrqSet d p port _ h (λ e x. x) (λ ne x. x)
step_awaited d port (LinkUp p sig n) can h = at_port WhileLinkAwaitedCrIsClearAndDrqSet WhileLinkAwaitedCrIsClearAndDrqSet d p port _ h
    (λ e x due. ⊎_elim
    (λ (up : false ≡ true). absurd (false≢true up))
    (λ (one : (d.port p).sctl_det ≡ 1). absurd (let z : (d.port p).sctl_det ≡ 0 = can.no_comreset in omega (arith, one, z)))
    due)
    (λ ne x. x)
step_awaited d port (Unplug p) can h = at_port WhileLinkAwaitedCrIsClearAndDrqSet WhileLinkAwaitedCrIsClearAndDrqSet d p port _ h (λ e x. x) (λ ne x. x)
step_awaited d port (Plug p disk) can h = at_port WhileLinkAwaitedCrIsClearAndDrqSet WhileLinkAwaitedCrIsClearAndDrqSet d p port _ h (λ e x. x) (λ ne x. x)
step_awaited d port ResetEnds can h = λ due. (refl, refl)
step_awaited d port (Scribble p slot at bytes) can h = h

pub steps_awaited : (port : ℕ) (old new : Device) → Steps old new → WhileLinkAwaitedCrIsClearAndDrqSet (old.port port) → WhileLinkAwaitedCrIsClearAndDrqSet (new.port port)
steps_awaited port old new s h = leads_keep WhileLinkAwaitedCrIsClearAndDrqSet step_awaited port s.steps old new s.lead h

noted_awaited : (port : ℕ) (r : Reg) (v : ℕ) (d : Device) → WhileLinkAwaitedCrIsClearAndDrqSet (d.port port) → WhileLinkAwaitedCrIsClearAndDrqSet ((device_after_reading r v d).port port)
noted_awaited port (Px p r) v d h = at_port WhileLinkAwaitedCrIsClearAndDrqSet WhileLinkAwaitedCrIsClearAndDrqSet d p.0 port _ h (λ e x. x) (λ ne x. x)
noted_awaited port Cap v d h = h
noted_awaited port Ghc v d h = h
noted_awaited port adapter.Is v d h = h
noted_awaited port Pi v d h = h
noted_awaited port Vs v d h = h
noted_awaited port Cap2 v d h = h
noted_awaited port Bohc v d h = h

pub reads_awaited : (port : ℕ) (r : Reg) (v : ℕ) (old new : Device) → Reads r v old new → WhileLinkAwaitedCrIsClearAndDrqSet (old.port port) → WhileLinkAwaitedCrIsClearAndDrqSet (new.port port)
reads_awaited port r v old new call h = subst (λ (d : Device). WhileLinkAwaitedCrIsClearAndDrqSet (d.port port)) (sym call.effect) (noted_awaited port r v call.at_access (steps_awaited port old call.at_access call.steps h))

-- COMRESET shows DRQ
drq_shown : (tfd : ℕ) → bit (0x7f + 256 * (tfd / 256)) 3 ≡ true
drq_shown tfd = eq-eqb _ 1 (omega arith)

module _ (p : DevicePort) (v tape : ℕ) where
  comreset_awaited : p.cr ≡ false → v % 16 ≡ 1 → WhileLinkAwaitedCrIsClearAndDrqSet (port_after_write Sctl v tape p)
  comreset_awaited cr one = subst (λ (n : ℕ). WhileLinkAwaitedCrIsClearAndDrqSet (port_after_det_write n tape p)) (sym one) (λ due. (cr, drq_shown p.tfd))

  released_awaited : p.cr ≡ false → WhileLinkAwaitedCrIsClearAndDrqSet p → v % 16 ≡ 0 → WhileLinkAwaitedCrIsClearAndDrqSet (port_after_write Sctl v tape p)
  released_awaited cr h none = subst (λ (n : ℕ). WhileLinkAwaitedCrIsClearAndDrqSet (port_after_det_write n tape p)) (sym none) (λ due. ⊎_elim
      (λ (up : p.link_due || nat_eq p.sctl_det 1 && true ≡ true). (cr, (h (before up)).1))
      (λ (one : 0 ≡ 1). absurd (omega (arith, one)))
      due)
    where
      before : p.link_due || nat_eq p.sctl_det 1 && true ≡ true → (p.link_due ≡ true) ⊎ (p.sctl_det ≡ 1)
      before up = ⊎_elim (λ (l : p.link_due ≡ true). inl l) (λ (o : (nat_eq p.sctl_det 1 && true) ≡ true). inr (eqb-true p.sctl_det 1 (and_parts _ _ o).0)) (or_cases _ _ up)

  command_awaited : WhileLinkAwaitedCrIsClearAndDrqSet p → (bit v 0 ≡ true → (p.st ≡ true) ⊎ IsCleanToStart p) → WhileLinkAwaitedCrIsClearAndDrqSet (port_after_write Cmd v tape p)
  command_awaited h may = by (bit v 0) refl p.st refl
    where
      by : (b : Bool) → bit v 0 ≡ b → (s : Bool) → p.st ≡ s → WhileLinkAwaitedCrIsClearAndDrqSet (port_after_fre_write (bit v 4) (port_after_st_write b tape p))
      by false e s is = h
      by true e true is = subst (λ (x : DevicePort). WhileLinkAwaitedCrIsClearAndDrqSet (port_after_fre_write (bit v 4) x)) (sym (cond-true p.st p _ is)) h
      by true e false is = subst (λ (x : DevicePort). WhileLinkAwaitedCrIsClearAndDrqSet (port_after_fre_write (bit v 4) x)) (sym (cond-false p.st p _ is))
          (⊎_elim
          (λ (on : p.st ≡ true). absurd (both_ways _ is on))
          (λ (q : IsCleanToStart p) (due : (p.link_due ≡ true) ⊎ (p.sctl_det ≡ 1)). ⊎_elim (λ (l : p.link_due ≡ true). absurd (both_ways _ q.no_link_is_due l)) (λ (o : p.sctl_det ≡ 1). absurd (q.no_comreset o)) due)
          (may e))

written_awaited : (port : ℕ) (d : Device) (r : Reg) (v : ℕ) → MayWrite r v d → StartsCleanAndWritesSctlStopped r v d → WhileLinkAwaitedCrIsClearAndDrqSet (d.port port) → WhileLinkAwaitedCrIsClearAndDrqSet ((device_after_write r v d).port port)
written_awaited port d Ghc v may x h = h
written_awaited port d adapter.Is v may x h = by (bit v port)
  where
    by : (b : Bool) → WhileLinkAwaitedCrIsClearAndDrqSet (if b then port_after_hba_is_write (d.port port) else d.port port)
    by true = h
    by false = h
written_awaited port d (Px p Clb) v may x h = at_port WhileLinkAwaitedCrIsClearAndDrqSet WhileLinkAwaitedCrIsClearAndDrqSet d p.0 port _ h (λ e y. y) (λ ne y. y)
written_awaited port d (Px p Clbu) v may x h = at_port WhileLinkAwaitedCrIsClearAndDrqSet WhileLinkAwaitedCrIsClearAndDrqSet d p.0 port _ h (λ e y. y) (λ ne y. y)
written_awaited port d (Px p Fb) v may x h = at_port WhileLinkAwaitedCrIsClearAndDrqSet WhileLinkAwaitedCrIsClearAndDrqSet d p.0 port _ h (λ e y. y) (λ ne y. y)
written_awaited port d (Px p Fbu) v may x h = at_port WhileLinkAwaitedCrIsClearAndDrqSet WhileLinkAwaitedCrIsClearAndDrqSet d p.0 port _ h (λ e y. y) (λ ne y. y)
written_awaited port d (Px p Ie) v may x h = at_port WhileLinkAwaitedCrIsClearAndDrqSet WhileLinkAwaitedCrIsClearAndDrqSet d p.0 port _ h (λ e y. y) (λ ne y. y)
written_awaited port d (Px p Serr) v may x h = at_port WhileLinkAwaitedCrIsClearAndDrqSet WhileLinkAwaitedCrIsClearAndDrqSet d p.0 port _ h (λ e y. y) (λ ne y. y)
written_awaited port d (Px p Sact) v may x h = at_port WhileLinkAwaitedCrIsClearAndDrqSet WhileLinkAwaitedCrIsClearAndDrqSet d p.0 port _ h (λ e y. y) (λ ne y. y)
written_awaited port d (Px p Is) v may x h = at_port WhileLinkAwaitedCrIsClearAndDrqSet WhileLinkAwaitedCrIsClearAndDrqSet d p.0 port _ h (λ e y. y) (λ ne y. y)
written_awaited port d (Px p Ci) v may x h = at_port WhileLinkAwaitedCrIsClearAndDrqSet WhileLinkAwaitedCrIsClearAndDrqSet d p.0 port _ h (λ e y. y) (λ ne y. y)
written_awaited port d (Px p Cmd) v may x h = at_port WhileLinkAwaitedCrIsClearAndDrqSet WhileLinkAwaitedCrIsClearAndDrqSet d p.0 port _ h (λ e y. command_awaited (d.port p.0) v (length d.tape) y x) (λ ne y. y)
written_awaited port d (Px p Sctl) v may x h = at_port WhileLinkAwaitedCrIsClearAndDrqSet WhileLinkAwaitedCrIsClearAndDrqSet d p.0 port _ h
    (λ e y. ⊎_elim
    (λ (none : v % 16 ≡ 0). released_awaited (d.port p.0) v (length d.tape) x y none)
    (λ (one : v % 16 ≡ 1). comreset_awaited (d.port p.0) v (length d.tape) x one)
    may.2.1)
    (λ ne y. y)
written_awaited port d (Px p Tfd) v may x h = absurd may.2
written_awaited port d (Px p Sig) v may x h = absurd may.2
written_awaited port d (Px p Ssts) v may x h = absurd may.2
written_awaited port d Cap v may x h = absurd may
written_awaited port d Pi v may x h = absurd may
written_awaited port d Vs v may x h = absurd may
written_awaited port d Cap2 v may x h = absurd may
written_awaited port d Bohc v may x h = absurd may

pub writes_awaited : (port : ℕ) (r : Reg) (v : ℕ) (old new : Device) → IsStable (MayWrite r v) old → IsStable (StartsCleanAndWritesSctlStopped r v) old → Writes r v old new → WhileLinkAwaitedCrIsClearAndDrqSet (old.port port) → WhileLinkAwaitedCrIsClearAndDrqSet (new.port port)
writes_awaited port r v old new may keeps call h =
    subst (λ (d : Device). WhileLinkAwaitedCrIsClearAndDrqSet (d.port port)) (sym call.effect)
    (written_awaited port call.at_access r v (may call.at_access call.steps) (keeps call.at_access call.steps) (steps_awaited port old call.at_access call.steps h))

pub comreset_shows_drq_till_link : StepLaws → (port : Port) (v : ℕ) (old new : Device) → (old.port port.0).cr ≡ false → v % 16 ≡ 1 → Writes (Px port Sctl) v old new → WhileLinkAwaitedCrIsClearAndDrqSet (new.port port.0)
comreset_shows_drq_till_link laws port v old new cr one call =
    let k : PortBitsOnlyFallFreeSlotsStay (old.port port.0) (call.at_access.port port.0) = (laws.steps_keep _ _ call.steps).port_bits_only_fall port.0 in
    subst WhileLinkAwaitedCrIsClearAndDrqSet (sym (ap (λ (d : Device). d.port port.0) call.effect ∙ changed_same call.at_access.port port.0 _))
    (comreset_awaited (call.at_access.port port.0) v (length call.at_access.tape) (k.cr_stays_clear cr) one)

-- ---- TFES

step_unflagged : (d : Device) (port : ℕ) (step : DeviceTransition) → Can step d → CrAndTfesAreClear (d.port port) → CrAndTfesAreClear ((device_after step d).port port)
step_unflagged d port (Fetch p slot c places) can h = at_port CrAndTfesAreClear CrAndTfesAreClear d p port _ h (λ e x. x) (λ ne x. x)
step_unflagged d port (FetchFault p slot queued kept_bits) can h = at_port CrAndTfesAreClear CrAndTfesAreClear d p port _ h (λ e x. absurd (both_ways _ x.0 can.working.cr_is_set)) (λ ne x. x)
step_unflagged d port (Move p slot t bytes) can h = at_port CrAndTfesAreClear CrAndTfesAreClear d p port _ h (λ e x. x) (λ ne x. x)
step_unflagged d port (Clear p slot t first count) can h = at_port CrAndTfesAreClear CrAndTfesAreClear d p port _ h (λ e x. x) (λ ne x. x)
step_unflagged d port (Done p slot flag t) can h = at_port CrAndTfesAreClear CrAndTfesAreClear d p port _ h (λ e x. absurd (both_ways _ x.0 can.works.working.cr_is_set)) (λ ne x. x)
step_unflagged d port (Fault p slot error kept_bits t) can h = at_port CrAndTfesAreClear CrAndTfesAreClear d p port _ h (λ e x. absurd (both_ways _ x.0 can.cr_is_set)) (λ ne x. x)
step_unflagged d port (Fatal p place) can h = at_port CrAndTfesAreClear CrAndTfesAreClear d p port _ h (λ e x. absurd (both_ways _ x.0 can.0)) (λ ne x. x)
step_unflagged d port (Fall p) can h = at_port CrAndTfesAreClear CrAndTfesAreClear d p port _ h (λ e x. (refl, x.1)) (λ ne x. x)
step_unflagged d port (FrFall p) can h = at_port CrAndTfesAreClear CrAndTfesAreClear d p port _ h (λ e x. x) (λ ne x. x)
step_unflagged d port (LinkUp p sig n) can h = at_port CrAndTfesAreClear CrAndTfesAreClear d p port _ h (λ e x. x) (λ ne x. x)
step_unflagged d port (Unplug p) can h = at_port CrAndTfesAreClear CrAndTfesAreClear d p port _ h (λ e x. x) (λ ne x. x)
step_unflagged d port (Plug p disk) can h = at_port CrAndTfesAreClear CrAndTfesAreClear d p port _ h (λ e x. x) (λ ne x. x)
step_unflagged d port ResetEnds can h = (refl, refl)
step_unflagged d port (Scribble p slot at bytes) can h = h

pub steps_unflagged : (port : ℕ) (old new : Device) → Steps old new → CrAndTfesAreClear (old.port port) → CrAndTfesAreClear (new.port port)
steps_unflagged port old new s h = leads_keep CrAndTfesAreClear step_unflagged port s.steps old new s.lead h
