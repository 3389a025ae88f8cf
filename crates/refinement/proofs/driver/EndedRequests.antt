-- Which requests have ended, and what the readings of CI and SACT tell of a running port.
use Rattle.std.proofs.Common.{ℕ, ◌≡◌, ◌⊎◌, Bool, true, false, not, ◌&&◌, List, length, sym, ◌∙◌, ap, subst, arith, inl, inr, ⊎_elim}
use Rattle.std.specs.List.{Contains}
use Rattle.std.proofs.lemmas.Bool.{both_ways}
use Rattle.ata_types.specs.declared.Port.{Port}
use Rattle.ata_types.specs.declared.request.RequestId.{RequestId}
use Rattle.hba_regs.specs.Bits.{bit}
use Rattle.hba_regs.specs.declared.reg.Reg.TheVariants.{Px}
use Rattle.hba_regs.specs.declared.reg.PortReg.TheVariants.{Ci}
use Rattle.adapter.specs.Access.{Reads, Loads}
use Rattle.adapter.specs.Commands.{is_queued}
use Rattle.adapter.specs.Device.{Device}
use Rattle.adapter.specs.KeptBySteps.{KeepsOverSteps, KeepsOutsideReset}
use Rattle.adapter.specs.Memory.{bytes_at}
use Rattle.adapter.specs.declared.command.Operation.{Operation}
use Rattle.adapter.specs.RegisterEffects.{PortRegisterRead}
use Rattle.block_machine.specs.Expected.{after}
use Rattle.block_machine.specs.Histories.{IsReachable}
use Rattle.block_machine.specs.State.{Pending, Machine}
use Rattle.block_machine.specs.Steps.{IsIssuedOrKept}
use Rattle.block_machine.proofs.Standing.{standing}
use Rattle.block_machine.proofs.Trace.{living_one, runs_lives}
use Rattle.refinement.specs.StepLaws.{StepLaws}
use Rattle.refinement.specs.Relation.{StateRelation, port_at}
use Rattle.refinement.specs.PortFacts.{EndedOnPort, IsSlotClear, FollowsAndHasPageSinceStSet}
use Rattle.refinement.specs.Simulation.{SimulatesSteps}
use Rattle.refinement.specs.MemoryLayout.{scratch_frame_address}
use Rattle.adapter.specs.OneCommand.{SlotHasNoCommand}
use Rattle.refinement.specs.Slots.{SlotState, Own, Serves, SlotStates, IsEnded, IsInSomeStage, ServesRequest, PageCameSinceAndStandsInScratch, OwnAwaitsFetch, OwnIsTaken, OwnIsOverWithPageIfSt, ServesOwn, RelatesSlot}
use Rattle.refinement.proofs.steps.AdapterCalls.{read_follows, load_follows}

both_clear : {A : Type 0} (q : Bool) {i c : Bool} → i ≡ true && not q → c ≡ true && q → i ≡ false → c ≡ false → A
both_clear true a b e f = absurd (both_ways _ f b)
both_clear false a b e f = absurd (both_ways _ e a)

-- a slot whose command has ended is clear, and its request has ended
is_ended_at_age_two : (m : Machine) (d : Device) (port : Port) (slot : ℕ) (id : RequestId) (h : ServesRequest m d.memory (d.port port.0) port.0 slot id) → IsEnded (d.port port.0) slot h.pending →
    IsSlotClear (d.port port.0) slot × EndedOnPort m port id
is_ended_at_age_two m d port slot id h x = (
  record { over = record { is_not_issued = x.is_not_issued; is_not_taken = x.is_not_taken }; sact_is_clear = x.sact_is_clear },
  record {
    pending = h.pending;
    may_still_move = h.may_still_move;
    id_is = h.id_is;
    port_is = ap port_at h.port_is;
    ended = x.ended;
    all_are_touched = x.touched;
    in_book_if_none_kept = λ none. ⊎_elim
        (λ (z : Contains m.book h.pending × (h.pending.issued ≡ true)). z.0)
        (λ (k : Contains m.kept h.pending). absurd (none h.pending k (ap port_at h.port_is)))
        h.may_still_move;
  },
)

-- so it is where the request has ended
pub law_slot_is_clear_iff_ended_while_st_set : (uses : SlotStates) (m : Machine) (d : Device) (port : Port) (slot : ℕ) (e : Pending) → IsReachable m → StateRelation uses m d → IsIssuedOrKept m e → e.ended ≡ true → uses port.0 slot ≡ Serves e.request.id →
    IsSlotClear (d.port port.0) slot × EndedOnPort m port e.request.id
law_slot_is_clear_iff_ended_while_st_set uses m d port slot e reached a moves ended u = by (subst (λ (v : SlotState). RelatesSlot m d.memory d.tape (d.port port.0) port.0 slot v) u (a.relates_slots port.0 slot))
  where
    by : ServesRequest m d.memory (d.port port.0) port.0 slot e.request.id → IsSlotClear (d.port port.0) slot × EndedOnPort m port e.request.id
    by h = of h.stage
      where
        its : h.pending.ended ≡ true
        its = ap (λ (y : Pending). y.ended) (living_one m (standing m reached).sound h.pending e (runs_lives m h.pending h.may_still_move) (runs_lives m e moves) (ap (λ (i : RequestId). i.0) h.id_is)) ∙ ended

        of : IsInSomeStage d.memory (d.port port.0) port.0 slot h.pending h.command h.places → IsSlotClear (d.port port.0) slot × EndedOnPort m port e.request.id
        of (inl w) = absurd (both_ways _ w.unended its)
        of (inr (inl t)) = absurd (both_ways _ t.unended its)
        of (inr (inr (inl x))) = is_ended_at_age_two m d port slot e.request.id h x
        of (inr (inr (inr x))) = absurd (both_ways _ x.unended its)

-- on a running port a slot whose two bits are clear has ended its request
pub clear_is_ended : (uses : SlotStates) (m : Machine) (d : Device) (port : Port) (slot : ℕ) (id : RequestId) → StateRelation uses m d → uses port.0 slot ≡ Serves id → (d.port port.0).st ≡ true →
    (d.port port.0).ci slot ≡ false → (d.port port.0).sact slot ≡ false → IsSlotClear (d.port port.0) slot × EndedOnPort m port id
clear_is_ended uses m d port slot id a u st issued sact = by (subst (λ (v : SlotState). RelatesSlot m d.memory d.tape (d.port port.0) port.0 slot v) u (a.relates_slots port.0 slot))
  where
    by : ServesRequest m d.memory (d.port port.0) port.0 slot id → IsSlotClear (d.port port.0) slot × EndedOnPort m port id
    by h = of h.stage
      where
        of : IsInSomeStage d.memory (d.port port.0) port.0 slot h.pending h.command h.places → IsSlotClear (d.port port.0) slot × EndedOnPort m port id
        of (inl w) = absurd (both_ways _ issued w.issued)
        of (inr (inl t)) = both_clear (is_queued h.command.operation)
            (t.ci_is_set_iff_st_and_plain ∙ ap (λ (b : Bool). b && not (is_queued h.command.operation)) st)
            (t.sact ∙ ap (λ (b : Bool). b && is_queued h.command.operation) st) issued sact
        of (inr (inr (inl x))) = is_ended_at_age_two m d port slot id h x
        of (inr (inr (inr x))) = absurd (both_ways _ x.st_is_clear st)

-- ---- a page of the driver's own

module _ (uses : SlotStates) (m : Machine) (d : Device) (port : ℕ) (o : Operation) (a : StateRelation uses m d) (u : uses port 0 ≡ Own o) (st : (d.port port).st ≡ true) (issued : (d.port port).ci 0 ≡ false) where
  own : ServesOwn d.memory d.tape (d.port port) port 0 o
  own = subst (λ (v : SlotState). RelatesSlot m d.memory d.tape (d.port port) port 0 v) u (a.relates_slots port 0)

  own_over : OwnIsOverWithPageIfSt d.memory d.tape (d.port port) port 0 own.command
  own_over = of own.stage
    where
      of : OwnAwaitsFetch (d.port port) 0 ⊎ (OwnIsTaken d.memory d.tape (d.port port) port 0 own.command ⊎ OwnIsOverWithPageIfSt d.memory d.tape (d.port port) port 0 own.command) → OwnIsOverWithPageIfSt d.memory d.tape (d.port port) port 0 own.command
      of (inl w) = absurd (both_ways _ issued w.issued)
      of (inr (inl t)) = absurd (both_ways _ issued (t.issued ∙ st))
      of (inr (inr x)) = x

  own_brought : PageCameSinceAndStandsInScratch d.memory d.tape port o (d.port port).notes.st_set_at
  own_brought = ⊎_elim
      (λ (z : (d.port port).st ≡ false). absurd (both_ways _ z st))
      (λ (b : PageCameSinceAndStandsInScratch d.memory d.tape port own.command.operation (d.port port).notes.st_set_at). subst (λ (x : Operation). PageCameSinceAndStandsInScratch d.memory d.tape port x (d.port port).notes.st_set_at) own.operation_is b)
      own_over.page_stands_in_scratch_if_st

  own_clear : IsSlotClear (d.port port) 0
  own_clear = record { over = own_over.over; sact_is_clear = own.unqueued }

pub page_is_read : StepLaws → (uses : SlotStates) (m : Machine) (port : Port) (o : Operation) (v : ℕ) (old new : Device) → IsReachable m → StateRelation uses m old → old.hr ≡ false → (old.port port.0).st ≡ true →
    uses port.0 0 ≡ Own o → Reads (Px port Ci) v old new → bit v 0 ≡ false → FollowsAndHasPageSinceStSet uses m port.0 o old new
page_is_read laws uses m port o v old new reached a h st u call clear =
    let f : SimulatesSteps uses m old new = read_follows uses m (Px port Ci) v old new reached a call in
    let s : PortRegisterRead port.0 Ci v old new = laws.reading_shows_register port Ci v old new call h in
    let now : (new.port port.0).st ≡ true = (s.keeps.keeps_outside_reset.controls_are_kept port.0).st_is_kept ∙ st in
    let none : (new.port port.0).ci 0 ≡ false = sym (s.shows 0 (omega arith)) ∙ clear in
    record {
      simulates_steps = f;
      slot_is_clear = own_clear uses (after m f.steps) new port.0 o f.state_relation u now none;
      page_since_st_set_is_in_scratch = own_brought uses (after m f.steps) new port.0 o f.state_relation u now none;
    }

pub page_is_loaded : StepLaws → (uses : SlotStates) (m : Machine) (port : ℕ) (o : Operation) (bytes : List ℕ) (old new : Device) → IsReachable m → StateRelation uses m old → old.hr ≡ false → (old.port port).st ≡ true →
    uses port 0 ≡ Own o → SlotHasNoCommand (old.port port) 0 → Loads (scratch_frame_address port) bytes old new → length bytes ≡ 512 →
    (page : FollowsAndHasPageSinceStSet uses m port o old new) × (bytes ≡ page.page_since_st_set_is_in_scratch.move.bytes.value)
page_is_loaded laws uses m port o bytes old new reached a h st u over call size =
    let f : SimulatesSteps uses m old new = load_follows uses m (scratch_frame_address port) bytes old new reached a call in
    let k : KeepsOverSteps old new = laws.steps_keep _ _ call.steps in
    let on : KeepsOutsideReset old new = k.keeps_outside_reset h in
    let now : (new.port port).st ≡ true = (on.controls_are_kept port).st_is_kept ∙ st in
    let none : (new.port port).ci 0 ≡ false = (k.port_bits_only_fall port).ci_stays_clear 0 over.is_not_issued in
    let b : PageCameSinceAndStandsInScratch new.memory new.tape port o (new.port port).notes.st_set_at = own_brought uses (after m f.steps) new port o f.state_relation u now none in (
      record { simulates_steps = f; slot_is_clear = own_clear uses (after m f.steps) new port o f.state_relation u now none; page_since_st_set_is_in_scratch = b },
      call.shows ∙ ap (bytes_at new.memory (scratch_frame_address port)) size ∙ b.scratch_holds_page,
    )
