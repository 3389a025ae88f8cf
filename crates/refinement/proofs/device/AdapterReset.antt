-- What a reset of the adapter leaves, and what GHC tells.
use Rattle.std.proofs.Common.{ℕ, ◌≡◌, ◌≢◌, ◌||◌, Bool, true, false, refl, sym, ◌∙◌, ap, subst, arith, ⊎_elim}
use Rattle.std.proofs.lemmas.Bool.{or_right, both_ways, true≢false}
use Rattle.hba_regs.specs.Bits.{bit}
use Rattle.hba_regs.specs.declared.reg.Reg.TheVariants.{Ghc}
use Rattle.adapter.specs.Access.{Reads, Writes}
use Rattle.adapter.specs.Device.{DevicePort, Device}
use Rattle.adapter.specs.FirstRead.{first_read_device}
use Rattle.adapter.specs.KeptBySteps.{KeepsOutsideReset}
use Rattle.adapter.specs.Memory.{changed}
use Rattle.adapter.specs.Rules.{IsOn}
use Rattle.adapter.specs.Steps.{DeviceTransition, Can, device_after, Steps}
use Rattle.adapter.specs.Steps.DeviceTransition.{Fetch, FetchFault, Move, Clear, Done, Fault, Fatal, Fall, FrFall, LinkUp, Unplug, Plug, ResetEnds, Scribble}
use Rattle.refinement.specs.StepLaws.{StepLaws}
use Rattle.refinement.specs.Errors.{IsLeftByReset, ShowsResetStateUntilSerrX}
use Rattle.refinement.specs.PortFacts.{WhileLinkAwaitedCrIsClearAndDrqSet}
use Rattle.refinement.proofs.device.AwaitedLink.{leads_keep, steps_awaited}
use Rattle.refinement.proofs.device.HaltedPort.{reset_left, reset_read}
use Rattle.refinement.proofs.device.HealthyPort.{at_port}
use Rattle.refinement.proofs.steps.RegisterWrites.{or_false}

-- ---- GHC

pub ghc_told : (v : ℕ) (old new : Device) → Reads Ghc v old new → (new.hr ≡ bit v 0) × (new.ae ≡ bit v 31)
ghc_told v old new call = (
  ap (λ (d : Device). d.hr) call.effect ∙ sym call.shows.0,
  ap (λ (d : Device). d.ae) call.effect ∙ sym call.shows.2,
)

pub reset_begins : (v : ℕ) (old new : Device) → bit v 0 ≡ true → Writes Ghc v old new → new.hr ≡ true
reset_begins v old new set call = ap (λ (d : Device). d.hr) call.effect ∙ or_right call.at_access.hr (bit v 0) set

pub switched_on : StepLaws → (v : ℕ) (old new : Device) → old.hr ≡ false → bit v 31 ≡ true → bit v 0 ≡ false → Writes Ghc v old new → IsOn new
switched_on laws v old new off set none call =
    let on : KeepsOutsideReset old call.at_access = (laws.steps_keep _ _ call.steps).keeps_outside_reset off in
    subst IsOn (sym call.effect) (record { ae_is_set = set; no_reset = ap (λ (b : Bool). call.at_access.hr || b) none ∙ or_false call.at_access.hr ∙ on.no_reset })

-- ---- what a reset leaves

reset_port : (d : Device) (port : ℕ) → IsLeftByReset ((device_after ResetEnds d).port port)
reset_port d port = record {
  is_quiescent = reset_left d port;
  pxis_is_clear = λ place. refl;
  serr_n_is_clear = refl;
  serr_x_is_clear = refl;
  sctl_det = refl;
  ssts_det = refl;
  tfd = refl;
  sig = refl;
  first_fis_has_not_come = refl;
  is_not_broken = refl;
}

pub reset_leaves : (v : ℕ) (old new : Device) → old.hr ≡ true → Reads Ghc v old new → bit v 0 ≡ false →
    (mid : Device) × (mid.hr ≡ false) × ((port : ℕ) → IsLeftByReset (mid.port port)) × Steps mid new × Steps old mid
reset_leaves v old new on call clear = let s = reset_read v old new on call clear in (device_after ResetEnds s.0, refl, reset_port s.0, s.1, s.2)

-- and what goes on while CR is 0
abbrev Idles : DevicePort → Type 0
Idles p =
    (p.cr ≡ false) × ((place : ℕ) → p.is place ≡ false) × (p.sctl_det ≡ 0)
    × (p.serr_x ≡ false → (p.ssts_det ≡ 0) × (p.tfd ≡ 0x7f) × (p.sig ≡ 0xffffffff))

step_idles : (d : Device) (port : ℕ) (step : DeviceTransition) → Can step d → Idles (d.port port) → Idles ((device_after step d).port port)
step_idles d port (Fetch p slot c places) can h = at_port Idles Idles d p port _ h (λ e x. absurd (both_ways _ x.0 can.working.cr_is_set)) (λ ne x. x)
step_idles d port (FetchFault p slot queued kept_bits) can h = at_port Idles Idles d p port _ h (λ e x. absurd (both_ways _ x.0 can.working.cr_is_set)) (λ ne x. x)
step_idles d port (Move p slot t bytes) can h = at_port Idles Idles d p port _ h (λ e x. x) (λ ne x. x)
step_idles d port (Clear p slot t first count) can h = at_port Idles Idles d p port _ h (λ e x. x) (λ ne x. x)
step_idles d port (Done p slot flag t) can h = at_port Idles Idles d p port _ h (λ e x. absurd (both_ways _ x.0 can.works.working.cr_is_set)) (λ ne x. x)
step_idles d port (Fault p slot error kept_bits t) can h = at_port Idles Idles d p port _ h (λ e x. absurd (both_ways _ x.0 can.cr_is_set)) (λ ne x. x)
step_idles d port (Fatal p place) can h = at_port Idles Idles d p port _ h (λ e x. absurd (both_ways _ x.0 can.0)) (λ ne x. x)
step_idles d port (Fall p) can h = at_port Idles Idles d p port _ h (λ e x. (refl, x.1, x.2, x.3)) (λ ne x. x)
step_idles d port (FrFall p) can h = at_port Idles Idles d p port _ h (λ e x. x) (λ ne x. x)
step_idles d port (LinkUp p sig n) can h = at_port Idles Idles d p port _ h (λ e x. (x.0, x.1, x.2, λ clear. absurd (true≢false clear))) (λ ne x. x)
step_idles d port (Unplug p) can h = at_port Idles Idles d p port _ h (λ e x. (x.0, x.1, x.2, λ clear. let y = x.3 clear in (refl, y.1, y.2))) (λ ne x. x)
step_idles d port (Plug p disk) can h = at_port Idles Idles d p port _ h (λ e x. (x.0, x.1, x.2, λ clear. absurd (true≢false clear))) (λ ne x. x)
step_idles d port ResetEnds can h = (refl, λ place. refl, refl, λ clear. (refl, refl, refl))
step_idles d port (Scribble p slot at bytes) can h = h

pub reset_clears : (v : ℕ) (old new : Device) → old.hr ≡ true → Reads Ghc v old new → bit v 0 ≡ false → (port : ℕ) → ShowsResetStateUntilSerrX (new.port port)
reset_clears v old new on call clear port =
    let s = reset_read v old new on call clear in
    let i : Idles (new.port port) = leads_keep Idles step_idles port s.1.steps (device_after ResetEnds s.0) new s.1.lead (refl, λ place. refl, refl, λ clear. (refl, refl, refl)) in
    record { pxis_is_clear = i.1; sctl_det = i.2; shows_no_link_until_x = i.3 }

pub reset_awaits : (v : ℕ) (old new : Device) → old.hr ≡ true → Reads Ghc v old new → bit v 0 ≡ false → (port : ℕ) → WhileLinkAwaitedCrIsClearAndDrqSet (new.port port)
reset_awaits v old new on call clear port =
    let s = reset_read v old new on call clear in
    steps_awaited port (device_after ResetEnds s.0) new s.1 (λ due. (refl, refl))

-- ---- the link is awaited where none is due

pub undue_awaited : (p : DevicePort) → p.link_due ≡ false → p.sctl_det ≢ 1 → WhileLinkAwaitedCrIsClearAndDrqSet p
undue_awaited p undue other = λ due. ⊎_elim (λ (e : p.link_due ≡ true). absurd (both_ways _ undue e)) (λ (e : p.sctl_det ≡ 1). absurd (other e)) due

pub first_awaited : WhileLinkAwaitedCrIsClearAndDrqSet (first_read_device.port 0)
unfolding changed
first_awaited = undue_awaited (first_read_device.port 0) refl (λ (e : 0 ≡ 1). omega (arith, e))
