-- Frames and requests of a history.
use Rattle.std.proofs.Common.{ℕ, ◌≡◌, ◌≤◌, ◌⊎◌, ◌&&◌, not, Bool, true, false, List, ◌∷◌, None, sym, ap, ◌∙◌, inl, inr, subst, ⊎_elim}
use Rattle.std.specs.List.{Contains}
use Rattle.std.proofs.lemmas.Bool.{false≢true}
use Rattle.std.proofs.lemmas.List.{append_cancel_left}
use Rattle.std.proofs.lemmas.List.Elements.{All-contains}
use Rattle.ata_types.specs.declared.Port.{Port}
use Rattle.ata_types.specs.declared.PortState.TheVariants.{Ready, Dead}
use Rattle.ata_types.specs.declared.memory.TheConstants.{DRIVER_FRAMES}
use Rattle.ata_types.specs.declared.request.Frame.{Frame}
use Rattle.ata_types.specs.declared.request.Outcome.TheVariants as outcome
use Rattle.ata_types.specs.declared.request.RequestId.{RequestId}
use Rattle.adapter.specs.Commands.{Meaning, is_queued}
use Rattle.adapter.specs.Device.{DevicePort, Device}
use Rattle.adapter.specs.Rules.{IsStable}
use Rattle.adapter.specs.declared.access.DeviceStep.{DeviceStep}
use Rattle.adapter.specs.declared.tape.Entry.{Entry}
use Rattle.refinement.specs.Relation.{StateRelation, port_at}
use Rattle.refinement.specs.PortFacts.{DeviceOwnsNoByteOfFrame}
use Rattle.refinement.specs.PreservedParts.{IsPlugEvent, NoPlugEvents}
use Rattle.refinement.specs.Slots.{ServesRequest, IsInSomeStage, SlotStates}
use Rattle.block_machine.specs.Events.{AbstractCall, Service, abstract_after}
use Rattle.block_machine.specs.Histories.{JointState, JointEvent, IsReachable, joint_state_after}
use Rattle.block_machine.specs.Ports.{SameSerialAndSize}
use Rattle.block_machine.specs.State.{Accepted, Machine, Pending}
use Rattle.block_machine.specs.Steps.{Answer}
use Rattle.identify.specs.declared.wanted.Wanted.{Wanted}
use Rattle.driver_history.specs.EvidenceHandling.{ServicesOrOnlyTickOrResetStops}
use Rattle.driver_history.specs.Evidence.{TapeGainsEntry, ShowsLinkChange}
use Rattle.driver_history.specs.Histories.{IsDriverHistory, CallCorresponds}
use Rattle.driver_history.specs.Laws.{RunLaws}
use Rattle.driver_history.proofs.Telling.{history_reached}
use Rattle.driver_history.proofs.Instants.{fit_at, holds_at, ready_at}
use Rattle.driver_history.proofs.Resting.{lost_then}

-- what the law on frames says
abbrev pub UnlentIsStill : Type 0
UnlentIsStill = (uses : SlotStates) (m : Machine) (d : Device) (frame : Frame) → IsReachable m → StateRelation uses m d → m.lent frame ≡ None → DRIVER_FRAMES ≤ frame.0 → IsStable (DeviceOwnsNoByteOfFrame frame) d

pub unlent_still : UnlentIsStill → RunLaws → (wanted : List Wanted) (first : JointState Device) (past : List (JointEvent Device DeviceStep)) (frame : Frame) → IsDriverHistory wanted first past
    → DRIVER_FRAMES ≤ frame.0 → (joint_state_after first past).abstract.machine.lent frame ≡ None → IsStable (DeviceOwnsNoByteOfFrame frame) (joint_state_after first past).device
unlent_still law runs wanted first past frame history low free =
    let h = holds_at wanted first past history in
    law h.0.slot_states (joint_state_after first past).abstract.machine (joint_state_after first past).device frame (history_reached runs wanted first past history) h.1.driver_relation.state_relation free low

-- ---- what is seen

-- on a started port a taken command has one of its bits
taken_bits : (st queued ci sact : Bool) → st ≡ true → ci ≡ st && not queued → sact ≡ st && queued → ci ≡ false → sact ≡ false → ⊥
taken_bits true true ci sact on i s a b = false≢true (sym b ∙ s)
taken_bits true false ci sact on i s a b = false≢true (sym a ∙ i)
taken_bits false queued ci sact on i s a b = false≢true on

ended_of : (memory : ℕ → ℕ) (p : DevicePort) (port slot : ℕ) (e : Pending) (c : Meaning) (places : List ℕ) → IsInSomeStage memory p port slot e c places → p.st ≡ true
    → p.ci slot ≡ false → p.sact slot ≡ false → e.ended ≡ true
ended_of memory p port slot e c places (inl waits) st ci sact = absurd (false≢true (sym ci ∙ waits.issued))
ended_of memory p port slot e c places (inr (inl taken)) st ci sact = absurd (taken_bits p.st (is_queued c.operation) (p.ci slot) (p.sact slot) st taken.ci_is_set_iff_st_and_plain taken.sact ci sact)
ended_of memory p port slot e c places (inr (inr (inl ended))) st ci sact = ended.ended
ended_of memory p port slot e c places (inr (inr (inr dropped))) st ci sact = absurd (false≢true (sym dropped.st_is_clear ∙ st))

pub seen_answered : (wanted : List Wanted) (first : JointState Device) (past : List (JointEvent Device DeviceStep)) (h : JointEvent Device DeviceStep) (port : Port) (slot : ℕ) (id : RequestId)
    → IsDriverHistory wanted first (h ∷ past) → h.event.call ≡ Service → (joint_state_after first past).abstract.ports.state port ≡ Ready
    → ServesRequest (joint_state_after first past).abstract.machine (joint_state_after first past).device.memory ((joint_state_after first past).device.port port.0) port.0 slot id
    → ((joint_state_after first past).device.port port.0).ci slot ≡ false → ((joint_state_after first past).device.port port.0).sact slot ≡ false
    → (done : Pending) × (done.request.id ≡ id) × Contains h.event.steps (Answer done outcome.Ok)
seen_answered wanted first past h port slot id history asks asked serves ci sact =
    let old : JointState Device = joint_state_after first past in
    let t : CallCorresponds wanted old h = history.2 in
    let holds = holds_at wanted first past history.0 in
    let at = ready_at wanted old port (fit_at wanted first past history.0) holds.0 holds.1 asked in
    let same_port : serves.pending.request.port ≡ port = ap port_at serves.port_is in
    let booked : Contains old.abstract.machine.book serves.pending = ⊎_elim (λ b. b.0) (λ k. absurd (at.none_is_quarantined serves.pending k same_port)) serves.may_still_move in
    let ended : serves.pending.ended ≡ true = ended_of old.device.memory (old.device.port port.0) port.0 slot serves.pending serves.command serves.places serves.stage at.engine_runs.st_is_set ci sact in
    let Heeded : AbstractCall DeviceStep → Type 0 = λ ask. ServicesOrOnlyTickOrResetStops port ask old.abstract h.event.evidence h.event.steps (abstract_after old.abstract h.event) in
    let served : Heeded Service = subst Heeded asks (t.ports_correspond port).handles_evidence in
    let answer = (served asked).answers_ok_what_had_ended serves.pending booked same_port ended in
    (answer.0, ap (λ (r : Accepted). r.id) answer.1 ∙ serves.id_is, answer.2)

-- ---- Unplugged

-- none of a kind was gained
none_of : (port : ℕ) (old new : Device) → NoPlugEvents port old new → TapeGainsEntry (IsPlugEvent port) old new → ⊥
none_of port old new u g =
    let same : g.new_entries ≡ u.new_entries = append_cancel_left old.tape g.new_entries u.new_entries (sym g.tape_is ∙ u.tape_is) in
    All-contains (λ e. IsPlugEvent port e → ⊥) u.new_entries g.entry u.no_such_entry (subst (λ (xs : List Entry). Contains xs g.entry) same g.entry_is_new) g.entry_is_of_kind

pub unplugged_refused : (wanted : List Wanted) (first : JointState Device) (past : List (JointEvent Device DeviceStep)) (h : JointEvent Device DeviceStep) (e : Pending)
    → IsDriverHistory wanted first (h ∷ past) → (ShowsLinkChange ((joint_state_after first past).device.port e.request.port.0) → ⊥) → ((joint_state_after first past).device.port e.request.port.0).ssts_det ≡ 3
    → NoPlugEvents e.request.port.0 (joint_state_after first past).device h.device
    → (h.event.ports.state e.request.port ≡ Dead) ⊎ ((h.event.ports.state e.request.port ≡ Ready) × SameSerialAndSize (joint_state_after first past).abstract.ports h.event.ports e.request.port)
    → Contains h.event.steps (Answer e outcome.Unplugged) → ⊥
unplugged_refused wanted first past h e history quiet det none ends here =
    let lost = lost_then wanted (joint_state_after first past) h history.1 history.2 e here in
    ⊎_elim quiet
    (λ a. ⊎_elim (λ missing. missing det)
    (λ b. ⊎_elim (none_of e.request.port.0 (joint_state_after first past).device h.device none)
    (λ (c : _ × _). ⊎_elim (λ dead. c.0 dead) (λ (same : _ × _). c.1 same.0 same.1) ends) b) a) lost
