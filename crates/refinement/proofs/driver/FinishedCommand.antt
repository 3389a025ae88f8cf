-- A command that is over stays so, and so does what the machine has of its request.
use Rattle.std.proofs.Common.{ℕ, ◌≡◌, ◌<◌, ◌||◌, Bool, true, false, List, length, None, refl, sym, ◌∙◌, ap, subst, inl, inr, ⊎_elim}
use Rattle.std.specs.List.{Contains}
use Rattle.std.proofs.lemmas.Bool.{cond-true, cond-false, false≢true}
use Rattle.ata_types.specs.declared.Port.{Port}
use Rattle.ata_types.specs.declared.request.RequestId.{RequestId}
use Rattle.hba_regs.specs.Bits.{bit}
use Rattle.hba_regs.specs.declared.reg.Reg.TheVariants.{Px}
use Rattle.hba_regs.specs.declared.reg.PortReg.{PortReg}
use Rattle.hba_regs.specs.declared.reg.PortReg.TheVariants.{Clb, Clbu, Fb, Fbu, Is, Cmd, Sctl, Serr, Sact, Ci}
use Rattle.adapter.specs.Access.{Access, Does, port_after_write, port_after_st_write, port_after_fre_write}
use Rattle.adapter.specs.Access.Access.{Writing}
use Rattle.adapter.specs.Device.{DevicePort, Device}
use Rattle.adapter.specs.KeptBySteps.{PortBitsOnlyFallFreeSlotsStay}
use Rattle.adapter.specs.Steps.{Steps}
use Rattle.block_machine.specs.Events.{AllByDevice}
use Rattle.block_machine.specs.Expected.{after}
use Rattle.block_machine.specs.State.{Accepted, Pending, Machine}
use Rattle.block_machine.specs.Steps.{Step, IsIssuedOrKept, NoneKept}
use Rattle.refinement.specs.StepLaws.{StepLaws}
use Rattle.refinement.specs.PortFacts.{EndedOnPort, IsSlotClear}
use Rattle.adapter.specs.OneCommand.{SlotHasNoCommand}
use Rattle.refinement.specs.SparedBook.{IsAsFarOrFurther, KeepsLoansAndPendingsOnlyAdvance}
use Rattle.refinement.proofs.device.FactsOverAccesses.{access_steps, effect_keeps}
use Rattle.refinement.proofs.steps.SparedBook.{steps_spare, entry_is_found_in_later_book}
use Rattle.refinement.proofs.device.ClearSactBits.{if_false}
use Rattle.refinement.proofs.steps.RegisterWrites.{or_false}

-- ---- a slot

pub steps_over : StepLaws → (port slot : ℕ) (old new : Device) → Steps old new → SlotHasNoCommand (old.port port) slot → SlotHasNoCommand (new.port port) slot
steps_over laws port slot old new s h =
    let k : PortBitsOnlyFallFreeSlotsStay (old.port port) (new.port port) = (laws.steps_keep _ _ s).port_bits_only_fall port in
    record { is_not_issued = k.ci_stays_clear slot h.is_not_issued; is_not_taken = k.slots_stay_free slot h.is_not_issued h.is_not_taken }

pub steps_clear : StepLaws → (port slot : ℕ) (old new : Device) → Steps old new → IsSlotClear (old.port port) slot → IsSlotClear (new.port port) slot
steps_clear laws port slot old new s h = record { over = steps_over laws port slot old new s h.over; sact_is_clear = ((laws.steps_keep _ _ s).port_bits_only_fall port).sact_stays_clear slot h.sact_is_clear }

-- the slot's bits are clear
abbrev IsUnset : Bool → DevicePort → ℕ → Type 0
IsUnset armed p slot = (p.ci slot ≡ false) × (p.taken slot ≡ None) × (armed ≡ true → p.sact slot ≡ false)

command_unset : (armed : Bool) (slot v tape : ℕ) (p : DevicePort) → IsUnset armed p slot → IsUnset armed (port_after_write Cmd v tape p) slot
command_unset armed slot v tape p h = by (bit v 0) p.st refl
  where
    by : (b s : Bool) → p.st ≡ s → IsUnset armed (port_after_fre_write (bit v 4) (port_after_st_write b tape p)) slot
    by false s is = (if_false p.st p.ci slot h.0, h.1, λ a. if_false p.st p.sact slot (h.2 a))
    by true true is = subst (λ (x : DevicePort). IsUnset armed (port_after_fre_write (bit v 4) x) slot) (sym (cond-true p.st p _ is)) h
    by true false is = subst (λ (x : DevicePort). IsUnset armed (port_after_fre_write (bit v 4) x) slot) (sym (cond-false p.st p _ is)) h

set_unset : (f : ℕ → Bool) (v slot : ℕ) → bit v slot ≡ false → f slot ≡ false → (f slot || bit v slot) ≡ false
set_unset f v slot clear h = ap (λ (b : Bool). f slot || b) clear ∙ or_false (f slot) ∙ h

written_unset : (armed : Bool) (slot : ℕ) (r : PortReg) (v tape : ℕ) (p : DevicePort) → (r ≡ Ci → bit v slot ≡ false) → (armed ≡ true → r ≡ Sact → bit v slot ≡ false) → IsUnset armed p slot → IsUnset armed (port_after_write r v tape p) slot
written_unset armed slot Ci v tape p ci sact h = (set_unset p.ci v slot (ci refl) h.0, h.1, h.2)
written_unset armed slot Sact v tape p ci sact h = (h.0, h.1, λ a. set_unset p.sact v slot (sact a refl) (h.2 a))
written_unset armed slot Cmd v tape p ci sact h = command_unset armed slot v tape p h
written_unset armed slot Clb v tape p ci sact h = h
written_unset armed slot Clbu v tape p ci sact h = h
written_unset armed slot Fb v tape p ci sact h = h
written_unset armed slot Fbu v tape p ci sact h = h
written_unset armed slot Is v tape p ci sact h = h
written_unset armed slot Sctl v tape p ci sact h = h
written_unset armed slot Serr v tape p ci sact h = h
written_unset armed slot _ v tape p ci sact h = h

-- the access doesn't write the slot's bit of the register
abbrev Spares : Port → PortReg → ℕ → Access → Type 0
Spares port r slot access = (v : ℕ) → access ≡ Writing (Px port r) v → bit v slot ≡ false

effect_unset : (armed : Bool) (port : Port) (slot : ℕ) (access : Access) (old new : Device) (x : Does access old new) → Spares port Ci slot access → (armed ≡ true → Spares port Sact slot access) →
    IsUnset armed ((access_steps access old new x).0.port port.0) slot → IsUnset armed (new.port port.0) slot
effect_unset armed port slot access old new x ci sact h =
    effect_keeps (λ (p : DevicePort). IsUnset armed p slot) port (λ p r v y. y) (λ p y. y) access old new x
    (λ r v mid is s y. written_unset armed slot r v (length mid.tape) (mid.port port.0)
    (λ e. ci v (is ∙ ap (λ (q : PortReg). Writing (Px port q) v) e))
    (λ a e. sact a v (is ∙ ap (λ (q : PortReg). Writing (Px port q) v) e)) y)
    h

pub access_over : StepLaws → (port : Port) (slot : ℕ) (access : Access) (old new : Device) → ((v : ℕ) → access ≡ Writing (Px port Ci) v → bit v slot ≡ false) → Does access old new → SlotHasNoCommand (old.port port.0) slot → SlotHasNoCommand (new.port port.0) slot
access_over laws port slot access old new ci x h =
    let s = access_steps access old new x in
    let mid : SlotHasNoCommand (s.0.port port.0) slot = steps_over laws port.0 slot old s.0 s.1 h in
    let e = effect_unset false port slot access old new x ci (λ a. absurd (false≢true a)) (mid.is_not_issued, mid.is_not_taken, λ a. absurd (false≢true a)) in
    record { is_not_issued = e.0; is_not_taken = e.1 }

pub access_clear : StepLaws → (port : Port) (slot : ℕ) (access : Access) (old new : Device) → ((v : ℕ) → access ≡ Writing (Px port Ci) v → bit v slot ≡ false) → ((v : ℕ) → access ≡ Writing (Px port Sact) v → bit v slot ≡ false) →
    Does access old new → IsSlotClear (old.port port.0) slot → IsSlotClear (new.port port.0) slot
access_clear laws port slot access old new ci sact x h =
    let s = access_steps access old new x in
    let mid : IsSlotClear (s.0.port port.0) slot = steps_clear laws port.0 slot old s.0 s.1 h in
    let e = effect_unset true port slot access old new x ci (λ a. sact) (mid.over.is_not_issued, mid.over.is_not_taken, λ a. mid.sact_is_clear) in
    record { over = record { is_not_issued = e.0; is_not_taken = e.1 }; sact_is_clear = e.2 refl }

-- ---- its request

pub ended_stays : (m : Machine) (steps : List Step) (port : Port) (id : RequestId) → AllByDevice steps → EndedOnPort m port id → EndedOnPort (after m steps) port id
ended_stays m steps port id is h = ⊎_elim booked kept h.may_still_move
  where
    spares : KeepsLoansAndPendingsOnlyAdvance m (after m steps)
    spares = steps_spare m steps is

    ended : (x : Pending) → IsAsFarOrFurther h.pending x → IsIssuedOrKept (after m steps) x → (NoneKept (after m steps) port → Contains (after m steps).book x) → EndedOnPort (after m steps) port id
    ended x f moves booked = record {
      pending = x;
      may_still_move = moves;
      id_is = ap (λ (r : Accepted). r.id) f.request ∙ h.id_is;
      port_is = ap (λ (r : Accepted). r.port) f.request ∙ h.port_is;
      ended = f.ended h.ended;
      all_are_touched = λ i lt. f.touched i (h.all_are_touched i (subst (λ (r : Accepted). i < r.asked.count) f.request lt));
      in_book_if_none_kept = booked;
    }

    booked : Contains m.book h.pending × (h.pending.issued ≡ true) → EndedOnPort (after m steps) port id
    booked z =
        let q = entry_is_found_in_later_book m.book (after m steps).book h.pending spares.book z.0 in
        ended q.0 q.2 (inl (q.1, q.2.issued ∙ z.1)) (λ none. q.1)

    kept : Contains m.kept h.pending → EndedOnPort (after m steps) port id
    kept z =
        let q = entry_is_found_in_later_book m.kept (after m steps).kept h.pending spares.kept z in
        ended q.0 q.2 (inr q.1) (λ none. absurd (none q.0 q.1 (ap (λ (r : Accepted). r.port) q.2.request ∙ h.port_is)))
