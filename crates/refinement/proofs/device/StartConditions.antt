-- What must hold where ST is set, and what a fault shows.
use Rattle.std.proofs.Common.{ℕ, ◌≡◌, ◌≢◌, ◌⊎◌, ◌%◌, ◌==◌, Bool, true, false, not, ◌&&◌, ◌||◌, length, refl, sym, ◌∙◌, ap, subst, arith, inl, inr, ⊎_elim}
use Rattle.std.specs.Prelude.{nat_eq}
use Rattle.std.specs.Int.{bit_at}
use Rattle.std.proofs.lemmas.Bool.{cases_Bool, and_left, and_right, both_ways, true≢false}
use Rattle.std.proofs.Common.{eqb-true}
use Rattle.ata_types.specs.declared.Port.{Port}
use Rattle.hba_regs.specs.Bits.{bit}
use Rattle.hba_regs.specs.declared.reg.Reg.{Reg}
use Rattle.hba_regs.specs.declared.reg.Reg.TheVariants.{Px}
use Rattle.hba_regs.specs.declared.reg.PortReg.{PortReg}
use Rattle.hba_regs.specs.declared.reg.PortReg.TheVariants.{Clb, Clbu, Fb, Fbu, Is, Ie, Cmd, Tfd, Sig, Ssts, Sctl, Serr, Sact, Ci}
use Rattle.adapter.specs.Access.{Reads, Writes, port_after_write, port_after_st_write, port_after_fre_write, notes_after_reading}
use Rattle.adapter.specs.Device.{DevicePort, Device}
use Rattle.adapter.specs.KeptBySteps.{PortBitsOnlyFallFreeSlotsStay}
use Rattle.adapter.specs.Steps.{DeviceTransition, Can, device_after, Steps}
use Rattle.adapter.specs.Steps.DeviceTransition.{Fetch, FetchFault, Move, Clear, Done, Fault, Fatal, Fall, FrFall, LinkUp, Unplug, Plug, ResetEnds, Scribble}
use Rattle.adapter.proofs.Changed.{changed_same}
use Rattle.refinement.specs.StepLaws.{StepLaws}
use Rattle.refinement.specs.Relation.{port_at}
use Rattle.refinement.specs.PortFacts.{WhileLinkAwaitedCrIsClearAndDrqSet, CrAndTfesAreClear, IsCleanToStart}
use Rattle.refinement.proofs.device.FactsOverAccesses.{noted_on, written_on}
use Rattle.refinement.proofs.device.AwaitedLink.{leads_keep, steps_awaited, steps_unflagged}
use Rattle.refinement.proofs.device.HealthyPort.{at_port}

-- ---- no link is due

abbrev IsLinked : DevicePort → Type 0
IsLinked p = (p.link_due ≡ false) × (p.sctl_det ≢ 1)

pub not_one : (n : ℕ) → n ≢ 1 → nat_eq n 1 ≡ false
not_one n ne = ⊎_elim (λ (t : nat_eq n 1 ≡ true). absurd (ne (eqb-true n 1 t))) (λ (f : nat_eq n 1 ≡ false). f) (cases_Bool (nat_eq n 1))

pub neither : (a b : Bool) → a ≡ false → b ≡ false → a || b ≡ false
neither false b x y = y
neither true b x y = absurd (true≢false x)

step_linked : (d : Device) (port : ℕ) (step : DeviceTransition) → Can step d → IsLinked (d.port port) → IsLinked ((device_after step d).port port)
step_linked d port (Fetch p slot c places) can h = at_port IsLinked IsLinked d p port _ h (λ e x. x) (λ ne x. x)
step_linked d port (FetchFault p slot queued kept_bits) can h = at_port IsLinked IsLinked d p port _ h (λ e x. x) (λ ne x. x)
step_linked d port (Move p slot t bytes) can h = at_port IsLinked IsLinked d p port _ h (λ e x. x) (λ ne x. x)
step_linked d port (Clear p slot t first count) can h = at_port IsLinked IsLinked d p port _ h (λ e x. x) (λ ne x. x)
step_linked d port (Done p slot flag t) can h = at_port IsLinked IsLinked d p port _ h (λ e x. x) (λ ne x. x)
step_linked d port (Fault p slot error kept_bits t) can h = at_port IsLinked IsLinked d p port _ h (λ e x. x) (λ ne x. x)
step_linked d port (Fatal p place) can h = at_port IsLinked IsLinked d p port _ h (λ e x. x) (λ ne x. x)
step_linked d port (Fall p) can h = at_port IsLinked IsLinked d p port _ h (λ e x. x) (λ ne x. x)
step_linked d port (FrFall p) can h = at_port IsLinked IsLinked d p port _ h (λ e x. x) (λ ne x. x)
step_linked d port (LinkUp p sig n) can h = at_port IsLinked IsLinked d p port _ h (λ e x. (refl, x.1)) (λ ne x. x)
step_linked d port (Unplug p) can h = at_port IsLinked IsLinked d p port _ h (λ e x. x) (λ ne x. x)
step_linked d port (Plug p disk) can h = at_port IsLinked IsLinked d p port _ h (λ e x. x) (λ ne x. x)
step_linked d port ResetEnds can h = (neither (d.port port).link_due (nat_eq (d.port port).sctl_det 1) h.0 (not_one (d.port port).sctl_det h.1), λ (e : 0 ≡ 1). omega (arith, e))
step_linked d port (Scribble p slot at bytes) can h = h

steps_linked : (port : ℕ) (old new : Device) → Steps old new → IsLinked (old.port port) → IsLinked (new.port port)
steps_linked port old new s h = leads_keep IsLinked step_linked port s.steps old new s.lead h

pub steps_quiet : (port : ℕ) (old new : Device) → Steps old new → IsCleanToStart (old.port port) → IsCleanToStart (new.port port)
steps_quiet port old new s q =
    let l : IsLinked (new.port port) = steps_linked port old new s (q.no_link_is_due, q.no_comreset) in
    record { is_stopped_tfes_clear = steps_unflagged port old new s q.is_stopped_tfes_clear; no_link_is_due = l.0; no_comreset = l.1 }

-- ---- TFES over readings and writes

pub reads_unflagged : (port : ℕ) (r : Reg) (v : ℕ) (old new : Device) → Reads r v old new → CrAndTfesAreClear (old.port port) → CrAndTfesAreClear (new.port port)
reads_unflagged port r v old new x h =
    subst (λ (d : Device). CrAndTfesAreClear (d.port port)) (sym x.effect) (noted_on CrAndTfesAreClear (port_at port) (λ p q w y. y) r v x.at_access (steps_unflagged port old x.at_access x.steps h))

-- PxIS is written with bit 30
pub clearing_unflags : StepLaws → (port : Port) (v : ℕ) (old new : Device) → (old.port port.0).cr ≡ false → bit v 30 ≡ true → Writes (Px port Is) v old new → CrAndTfesAreClear (new.port port.0)
clearing_unflags laws port v old new cr set call =
    let k : PortBitsOnlyFallFreeSlotsStay (old.port port.0) (call.at_access.port port.0) = (laws.steps_keep _ _ call.steps).port_bits_only_fall port.0 in
    subst CrAndTfesAreClear (sym (ap (λ (d : Device). d.port port.0) call.effect ∙ changed_same call.at_access.port port.0 _))
    (k.cr_stays_clear cr, and_right ((call.at_access.port port.0).is 30) (not (bit v 30)) (ap not set))

stopped_unflagged : (p : DevicePort) (v tape : ℕ) → bit v 0 ≡ false → CrAndTfesAreClear p → CrAndTfesAreClear (port_after_write Cmd v tape p)
stopped_unflagged p v tape off h = subst (λ (b : Bool). CrAndTfesAreClear (port_after_fre_write (bit v 4) (port_after_st_write b tape p))) (sym off) h

port_unflagged : (r : PortReg) (v tape : ℕ) (p : DevicePort) → (r ≡ Cmd → bit v 0 ≡ false) → CrAndTfesAreClear p → CrAndTfesAreClear (port_after_write r v tape p)
port_unflagged Cmd v tape p off h = stopped_unflagged p v tape (off refl) h
port_unflagged Is v tape p off h = (h.0, and_left (p.is 30) (not (bit v 30)) h.1)
port_unflagged Clb v tape p off h = h
port_unflagged Clbu v tape p off h = h
port_unflagged Fb v tape p off h = h
port_unflagged Fbu v tape p off h = h
port_unflagged Ie v tape p off h = h
port_unflagged Tfd v tape p off h = h
port_unflagged Sig v tape p off h = h
port_unflagged Ssts v tape p off h = h
port_unflagged Sctl v tape p off h = h
port_unflagged Serr v tape p off h = h
port_unflagged Sact v tape p off h = h
port_unflagged Ci v tape p off h = h

pub writes_unflagged : (port : Port) (r : Reg) (v : ℕ) (old new : Device) → (r ≡ Px port Cmd → bit v 0 ≡ false) → Writes r v old new → CrAndTfesAreClear (old.port port.0) → CrAndTfesAreClear (new.port port.0)
writes_unflagged port r v old new off x h =
    subst (λ (d : Device). CrAndTfesAreClear (d.port port.0)) (sym x.effect)
    (written_on CrAndTfesAreClear port (λ p q w y. y) (λ p y. y) r v x.at_access
    (λ q is. port_unflagged q v (length x.at_access.tape) (x.at_access.port port.0) (λ c. off (is ∙ ap (Px port) c)))
    (steps_unflagged port.0 old x.at_access x.steps h))

-- ---- no link is due, over readings and writes

linked_quiet : (p : DevicePort) → CrAndTfesAreClear p → IsLinked p → IsCleanToStart p
linked_quiet p u l = record { is_stopped_tfes_clear = u; no_link_is_due = l.0; no_comreset = l.1 }

stopped_linked : (p : DevicePort) (v tape : ℕ) → bit v 0 ≡ false → IsLinked p → IsLinked (port_after_write Cmd v tape p)
stopped_linked p v tape off h = subst (λ (b : Bool). IsLinked (port_after_fre_write (bit v 4) (port_after_st_write b tape p))) (sym off) h

port_linked : (r : PortReg) (v tape : ℕ) (p : DevicePort) → (r ≡ Cmd → bit v 0 ≡ false) → (r ≡ Sctl → v % 16 ≢ 1) → IsLinked p → IsLinked (port_after_write r v tape p)
port_linked Cmd v tape p off sends h = stopped_linked p v tape (off refl) h
port_linked Sctl v tape p off sends h = (neither p.link_due (nat_eq p.sctl_det 1 && nat_eq (v % 16) 0) h.0 (and_left (nat_eq p.sctl_det 1) (nat_eq (v % 16) 0) (not_one p.sctl_det h.1)), sends refl)
port_linked Is v tape p off sends h = h
port_linked Clb v tape p off sends h = h
port_linked Clbu v tape p off sends h = h
port_linked Fb v tape p off sends h = h
port_linked Fbu v tape p off sends h = h
port_linked Ie v tape p off sends h = h
port_linked Tfd v tape p off sends h = h
port_linked Sig v tape p off sends h = h
port_linked Ssts v tape p off sends h = h
port_linked Serr v tape p off sends h = h
port_linked Sact v tape p off sends h = h
port_linked Ci v tape p off sends h = h

pub reads_quiet : (port : ℕ) (r : Reg) (v : ℕ) (old new : Device) → Reads r v old new → IsCleanToStart (old.port port) → IsCleanToStart (new.port port)
reads_quiet port r v old new x q =
    linked_quiet (new.port port) (reads_unflagged port r v old new x q.is_stopped_tfes_clear)
    (subst (λ (d : Device). IsLinked (d.port port)) (sym x.effect) (noted_on IsLinked (port_at port) (λ p z w y. y) r v x.at_access (steps_linked port old x.at_access x.steps (q.no_link_is_due, q.no_comreset))))

pub writes_quiet : (port : Port) (r : Reg) (v : ℕ) (old new : Device) → (r ≡ Px port Cmd → bit v 0 ≡ false) → (r ≡ Px port Sctl → v % 16 ≢ 1) → Writes r v old new → IsCleanToStart (old.port port.0) → IsCleanToStart (new.port port.0)
writes_quiet port r v old new off sends x q =
    linked_quiet (new.port port.0) (writes_unflagged port r v old new off x q.is_stopped_tfes_clear)
    (subst (λ (d : Device). IsLinked (d.port port.0)) (sym x.effect)
    (written_on IsLinked port (λ p z w y. y) (λ p y. y) r v x.at_access
    (λ z is. port_linked z v (length x.at_access.tape) (x.at_access.port port.0) (λ c. off (is ∙ ap (Px port) c)) (λ c. sends (is ∙ ap (Px port) c)))
    (steps_linked port.0 old x.at_access x.steps (q.no_link_is_due, q.no_comreset))))

-- ---- the task file is read

-- the bits that the device shows are those of the value
drq_read : (v tfd : ℕ) → v % 65536 ≡ tfd → bit tfd 3 ≡ bit v 3
drq_read v tfd e = ap (λ (n : ℕ). n == 1) (ap (λ (n : ℕ). bit_at n 3) (sym e) ∙ low)
  where
    low : bit_at (v % 65536) 3 ≡ bit_at v 3
    low = omega arith

-- without DRQ the link isn't awaited
pub law_tfes_and_drq_clear_mean_clean_to_start : (port : Port) (v : ℕ) (old new : Device) → WhileLinkAwaitedCrIsClearAndDrqSet (old.port port.0) → CrAndTfesAreClear (old.port port.0) → Reads (Px port Tfd) v old new → bit v 3 ≡ false → IsCleanToStart (new.port port.0)
law_tfes_and_drq_clear_mean_clean_to_start port v old new awaited unflagged call clear =
    let u : CrAndTfesAreClear (call.at_access.port port.0) = steps_unflagged port.0 old call.at_access call.steps unflagged in
    let w : WhileLinkAwaitedCrIsClearAndDrqSet (call.at_access.port port.0) = steps_awaited port.0 old call.at_access call.steps awaited in
    let none : ((call.at_access.port port.0).link_due ≡ true) ⊎ ((call.at_access.port port.0).sctl_det ≡ 1) → ⊥ = λ due. absurd (both_ways _ clear (sym (drq_read v (call.at_access.port port.0).tfd call.shows) ∙ (w due).1)) in
    let q : IsCleanToStart (call.at_access.port port.0) = record {
      is_stopped_tfes_clear = u;
      no_link_is_due = ⊎_elim (λ (t : (call.at_access.port port.0).link_due ≡ true). absurd (none (inl t))) (λ (f : (call.at_access.port port.0).link_due ≡ false). f) (cases_Bool (call.at_access.port port.0).link_due);
      no_comreset = λ e. none (inr e);
    } in
    let is : new.port port.0 ≡ record (call.at_access.port port.0) { notes = notes_after_reading Tfd v (call.at_access.port port.0) } = ap (λ (d : Device). d.port port.0) call.effect ∙ changed_same call.at_access.port port.0 _ in
    subst IsCleanToStart (sym is) (record { is_stopped_tfes_clear = q.is_stopped_tfes_clear; no_link_is_due = q.no_link_is_due; no_comreset = q.no_comreset })
