-- A slot in use is outstanding, and so is that of a fault.
use Rattle.std.proofs.Common.{ℕ, ◌≡◌, ◌≢◌, ◌⊎◌, Bool, true, false, not, ◌&&◌, List, None, refl, ◌∙◌, ap, subst, inl, inr, ⊎_elim, sym}
use Rattle.std.proofs.lemmas.Bool.{cases_eq, both_ways}
use Rattle.std.proofs.lemmas.Option.{none-some}
use Rattle.ata_types.specs.declared.request.RequestId.{RequestId}
use Rattle.adapter.specs.Commands.{is_queued}
use Rattle.adapter.specs.Device.{Device}
use Rattle.adapter.specs.Rules.{InUse}
use Rattle.adapter.specs.declared.tape.Entry.{Entry}
use Rattle.block_machine.specs.State.{Pending, Machine}
use Rattle.block_machine.specs.Steps.{IsIssuedOrKept}
use Rattle.refinement.specs.Relation.{StateRelation}
use Rattle.refinement.specs.PortFacts.{ShowsFault}
use Rattle.adapter.specs.OneCommand.{SlotHasNoCommand}
use Rattle.refinement.specs.Slots.{SlotState, Free, Armed, Own, Serves, SlotStates, IsInSomeStage, OwnAwaitsFetch, OwnIsTaken, OwnIsOverWithPageIfSt, ServesRequest, RelatesSlot}
use Rattle.refinement.proofs.device.FaultedPort.{fault_has_a_use}
use Rattle.refinement.proofs.steps.StillFrames.{over_unused}
use Rattle.refinement.specs.GivingUp.{IsOutstanding}

-- one of the two bits
one_bit : (queued ci sact st : Bool) → ci ≡ st && not queued → sact ≡ st && queued → st ≡ true → (ci ≡ true) ⊎ (sact ≡ true)
one_bit true ci sact st c s on = inr (s ∙ ap (λ (b : Bool). b && true) on)
one_bit false ci sact st c s on = inl (c ∙ ap (λ (b : Bool). b && true) on)

module _ (uses : SlotStates) (m : Machine) (d : Device) (port slot : ℕ) (a : StateRelation uses m d) (used : InUse (d.port port) slot) where
  unused : {A : Type 0} → (d.port port).ci slot ≡ false → (d.port port).taken slot ≡ None → A
  unused issued free = absurd (over_unused (d.port port) slot (record { is_not_issued = issued; is_not_taken = free }) used)

  pub used_outstanding : IsOutstanding uses m (d.port port) port slot
  used_outstanding = by (uses port slot) refl (a.relates_slots port slot)
    where
      by : (u : SlotState) → uses port slot ≡ u → RelatesSlot m d.memory d.tape (d.port port) port slot u → IsOutstanding uses m (d.port port) port slot
      by Free e h = unused h.is_not_issued h.is_not_taken
      by Armed e h = unused h.is_not_issued h.is_not_taken
      by (Own o) e h = record {
        slot_is_below_32 = h.list_is_in_place.slot_below;
        is_own_or_unended = inl (o, e, h.slot_is_0);
        bit_is_set_while_st = λ st. inl (of st h.stage);
      }
        where
          of : (d.port port).st ≡ true → OwnAwaitsFetch (d.port port) slot ⊎ (OwnIsTaken d.memory d.tape (d.port port) port slot h.command ⊎ OwnIsOverWithPageIfSt d.memory d.tape (d.port port) port slot h.command) → (d.port port).ci slot ≡ true
          of st (inl w) = w.issued
          of st (inr (inl x)) = x.issued ∙ st
          of st (inr (inr x)) = unused x.over.is_not_issued x.over.is_not_taken
      by (Serves id) e h = record {
        slot_is_below_32 = h.list_is_in_place.slot_below;
        is_own_or_unended = inr (id, e, record { pending = h.pending; may_still_move = h.may_still_move; id_is = h.id_is; port_is = h.port_is; unended = of h.stage });
        bit_is_set_while_st = λ st. bits st h.stage;
      }
        where
          of : IsInSomeStage d.memory (d.port port) port slot h.pending h.command h.places → h.pending.ended ≡ false
          of (inl w) = w.unended
          of (inr (inl x)) = x.unended
          of (inr (inr (inl x))) = unused x.is_not_issued x.is_not_taken
          of (inr (inr (inr x))) = x.unended

          bits : (d.port port).st ≡ true → IsInSomeStage d.memory (d.port port) port slot h.pending h.command h.places → ((d.port port).ci slot ≡ true) ⊎ ((d.port port).sact slot ≡ true)
          bits st (inl w) = inl w.issued
          bits st (inr (inl x)) = one_bit (is_queued h.command.operation) ((d.port port).ci slot) ((d.port port).sact slot) (d.port port).st x.ci_is_set_iff_st_and_plain x.sact st
          bits st (inr (inr (inl x))) = unused x.is_not_issued x.is_not_taken
          bits st (inr (inr (inr x))) = unused x.is_not_issued x.is_not_taken

pub shown_outstanding : (uses : SlotStates) (m : Machine) (d : Device) (port : ℕ) (entries : List Entry) → StateRelation uses m d → (s : ShowsFault entries (d.port port) port) → IsOutstanding uses m (d.port port) port s.fault.slot.0
shown_outstanding uses m d port entries a s = used_outstanding uses m d port s.fault.slot.0 a s.slot_is_issued_or_taken

pub sole_fault : (uses : SlotStates) (m : Machine) (d : Device) (port slot : ℕ) (entries : List Entry) → StateRelation uses m d → (s : ShowsFault entries (d.port port) port) → ((other : ℕ) → other ≢ slot → uses port other ≡ Free) → s.fault.slot.0 ≡ slot
sole_fault uses m d port slot entries a s alone = ⊎_elim
    (λ (e : s.fault.slot.0 ≡ slot). e)
    (λ (ne : s.fault.slot.0 ≡ slot → ⊥). absurd (fault_has_a_use uses m d port entries a s (alone s.fault.slot.0 ne)))
    (cases_eq s.fault.slot.0 slot)

-- ---- a port with ST 0

pub stopped_clear : (uses : SlotStates) (m : Machine) (d : Device) (port slot : ℕ) → StateRelation uses m d → (d.port port).st ≡ false → ((d.port port).ci slot ≡ false) × ((d.port port).sact slot ≡ false)
stopped_clear uses m d port slot a st = by (uses port slot) (a.relates_slots port slot)
  where
    masked : (b c : Bool) → b ≡ (d.port port).st && c → b ≡ false
    masked b c is = is ∙ ap (λ (x : Bool). x && c) st

    by : (u : SlotState) → RelatesSlot m d.memory d.tape (d.port port) port slot u → ((d.port port).ci slot ≡ false) × ((d.port port).sact slot ≡ false)
    by Free h = (h.is_not_issued, h.unarmed)
    by Armed h = (h.is_not_issued, h.armed ∙ st)
    by (Own o) h = (of h.stage, h.unqueued)
      where
        of : OwnAwaitsFetch (d.port port) slot ⊎ (OwnIsTaken d.memory d.tape (d.port port) port slot h.command ⊎ OwnIsOverWithPageIfSt d.memory d.tape (d.port port) port slot h.command) → (d.port port).ci slot ≡ false
        of (inl w) = absurd (both_ways _ st w.started)
        of (inr (inl t)) = t.issued ∙ st
        of (inr (inr x)) = x.over.is_not_issued
    by (Serves id) h = of h.stage
      where
        of : IsInSomeStage d.memory (d.port port) port slot h.pending h.command h.places → ((d.port port).ci slot ≡ false) × ((d.port port).sact slot ≡ false)
        of (inl w) = absurd (both_ways _ st w.started)
        of (inr (inl t)) = (masked ((d.port port).ci slot) (not (is_queued h.command.operation)) t.ci_is_set_iff_st_and_plain, masked ((d.port port).sact slot) (is_queued h.command.operation) t.sact)
        of (inr (inr (inl x))) = (x.is_not_issued, x.sact_is_clear)
        of (inr (inr (inr x))) = (x.is_not_issued, x.sact_is_clear)

pub over_decided : (uses : SlotStates) (m : Machine) (d : Device) (port slot : ℕ) (id : RequestId) → StateRelation uses m d → uses port slot ≡ Serves id → SlotHasNoCommand (d.port port) slot →
    (e : Pending) × IsIssuedOrKept m e × (e.request.id ≡ id) × ((e.ended ≡ true) ⊎ (((d.port port).st ≡ false) × (e.ended ≡ false)))
over_decided uses m d port slot id a u over =
    let h : ServesRequest m d.memory (d.port port) port slot id = subst (λ (w : SlotState). RelatesSlot m d.memory d.tape (d.port port) port slot w) u (a.relates_slots port slot) in
    (h.pending, h.may_still_move, h.id_is, of h h.stage)
  where
    of : (h : ServesRequest m d.memory (d.port port) port slot id) → IsInSomeStage d.memory (d.port port) port slot h.pending h.command h.places → (h.pending.ended ≡ true) ⊎ (((d.port port).st ≡ false) × (h.pending.ended ≡ false))
    of h (inl w) = absurd (both_ways _ over.is_not_issued w.issued)
    of h (inr (inl t)) = absurd (none-some _ (sym over.is_not_taken ∙ t.taken))
    of h (inr (inr (inl x))) = inl x.ended
    of h (inr (inr (inr x))) = inr (x.st_is_clear, x.unended)
