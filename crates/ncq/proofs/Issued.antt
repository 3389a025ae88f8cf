-- What the tasks' commands need is stored, their slots armed if they are queued, and their bits of PxCI written.
use Rattle.std.proofs.Common.{ℕ, ◌≡◌, ◌≢◌, ◌<◌, ◌≤◌, ◌⊎◌, ◌/◌, ◌%◌, ◌++◌, ◌||◌, Bool, true, false, not, List, [], ◌∷◌, length, Some, inl, inr, refl, sym, ◌∙◌, ap, subst, ⊎_elim, append_assoc}
use Rattle.std.specs.Prelude.{if◌then◌else◌}
use Rattle.std.proofs.lemmas.Bool.{cond-true, cond-false, or_right}
use Rattle.std.proofs.lemmas.List.Elements.{All-append, All-contains, All-nil}
use Rattle.std.specs.List.{All, AllZip, Contains}
use Rattle.ata_types.specs.declared.Port.{Port}
use Rattle.ata_types.specs.declared.range.Range.{Range}
use Rattle.ata_types.specs.declared.request.Op.{Op}
use Rattle.ata_types.specs.declared.request.Op.TheVariants.{Read, Write, Trim, Flush}
use Rattle.ata_types.specs.declared.request.RequestId.{RequestId}
use Rattle.hba_regs.specs.Bits.{bit}
use Rattle.hba_regs.specs.declared.reg.Reg.{Reg}
use Rattle.hba_regs.specs.declared.reg.Reg.TheVariants.{Ghc, Px}
use Rattle.hba_regs.specs.declared.reg.PortReg.TheVariants.{Clb, Ci, Sact}
use Rattle.adapter.specs.Access.{Access, Does, DoesAll, Writes, device_after_write}
use Rattle.adapter.specs.Access.Access.{Reading, Writing, Loading, Storing}
use Rattle.adapter.specs.Commands.{Meaning, is_queued}
use Rattle.adapter.specs.Device.{DevicePort, Device}
use Rattle.adapter.specs.Rules.{IsOn, HasPort, MayWrite, IsStable}
use Rattle.adapter.specs.Steps.{Steps}
use Rattle.adapter.specs.declared.command.Operation.{Operation}
use Rattle.block_machine.specs.DueRequests.{is_plain}
use Rattle.block_machine.specs.Events.{AllByDevice, AllEnabled}
use Rattle.block_machine.specs.Histories.{IsReachable, IsSimulatedBySteps}
use Rattle.block_machine.specs.Expected.{after}
use Rattle.block_machine.specs.State.{Accepted, Pending, Machine}
use Rattle.block_machine.specs.Steps.{Step, Issue, IsEnabled, after_step}
use Rattle.block_machine.specs.declared.due.QueueMode.{QueueMode}
use Rattle.refinement.specs.Acts.{Act, ActsReach, AreActsDone, DriverSlots, IsActDone, IsIssueStepOn, IsIssueStep, IsAtMostOneStepOrIssuesByPxciWrite, accesses_of, newest_first_steps_of_acts, driver_state_of_slots}
use Rattle.refinement.specs.Relation.{StateRelation, port_at}
use Rattle.refinement.specs.Fragments.{IsSoleBit, AreByDeviceAndKeepUnwrittenSlots, driver_state_of}
use Rattle.refinement.specs.Driver.{IsBackedByDeviceAlone, DriverAdvances, DriverRelation, DriverState, EndsInOwnStepsAfterDeviceSteps, IsRequestPreparedToIssue, KeepsTablesAndScratchUnlessOwn, MissesTableAndHeaderButPrdbc, with_slot_serving}
use Rattle.refinement.specs.Simulation.{SimulatesSteps}
use Rattle.refinement.specs.PreservedParts.{DoesNotWrite, ControlsChangeOnlyByTheirWrites, SameAdapter}
use Rattle.refinement.specs.ReadySlots.{IsStoredAndArmedIffQueued, IsReadyToIssue, IsStoredOnPortWithStSet}
use Rattle.refinement.specs.Slots.{SlotState, Free, Armed, Own, Serves, SlotStates, set_slot_state, MeansRequest, HasBlockIfTrim, IsArmedIfSt, HasListInPlace, RelatesSlot, SlotDecodesTo}
use Rattle.refinement.specs.StartedPort.{WritesCmdOnlyWithStSet}
use Rattle.ncq.specs.Batches.{BatchSlotsAreUnused, HaveOwnSlots, IsBatchIssued, IsCommandIssueAccess, IsSlotOf, IsStoreForBatch, IssuesBatchAtEnd, MayServeBatch, MemoryEncodesTask, PlacedTask, StoresThenWritesAll, issues_newest_first, with_serving_batch}
use Rattle.ncq.specs.Issuing.{IsArmedFor}
use Rattle.ncq.specs.Tasks.{WritesSactIfQueued, BlockNamesSectors, IsFreeArmedOrServing, IsTaskOf, RunsItsList, task_places, meaning_of, task_operation, issuing_writes}
use Rattle.ncq.proofs.Batch.{all_as, all_in, all_one, armed_here, armed_others, uses_armed, bits_begin, bits_more, bits_on, bits_written, changed_here, ci_bits, contains_here, contains_there, first_apart, own_bit, own_bit_is, rest_apart, sact_bits, served_armed, served_here, served_others, uses_served, serving_batch_is, with_bits, zip_as}
use Rattle.ncq.proofs.Stores.{ActLaws, IsStoring, Leaving, batch_stores, does_then, store_for, stored_in, stores_may, stores_on, stores_same, stores_there, storing_writes_none}
use Rattle.ncq.proofs.Telling.{task_block, task_means}

-- ---- what laws of the crates below say

pub record Laws : Type 0 where
  pub leaving : Leaving
  pub acts : ActLaws
  pub same : (access : Access) (old new : Device) → Does access old new → SameAdapter old new
  pub on : (access : Access) (old new : Device) → IsOn old → ((v : ℕ) → access ≡ Writing Ghc v → (bit v 31 ≡ true) × (bit v 0 ≡ false)) → Does access old new → IsOn new
  pub controls : (port : Port) (access : Access) (old new : Device) → old.hr ≡ false → Does access old new → ControlsChangeOnlyByTheirWrites access port (old.port port.0) (new.port port.0)
  pub ends : (k later : DriverState) (m : Machine) (access : Access) (own : List Step) → (e : EndsInOwnStepsAfterDeviceSteps k m own later) → IsAtMostOneStepOrIssuesByPxciWrite access own → Does access k.device later.device
      → IsActDone k m (record { access = Some access; steps = own ++ e.steps; state_after = later })
  pub part : (k : DriverState) (new : Device) → Steps k.device new → IsSimulatedBySteps DriverRelation k (record k { device = new }) (IsBackedByDeviceAlone k.device new)
  pub access : (k later : DriverState) (m : Machine) → IsSimulatedBySteps DriverRelation k later (IsBackedByDeviceAlone k.device later.device) → IsReachable m → DriverRelation m k
      → (steps : List Step) × AllByDevice steps × DriverAdvances k m steps later
  pub none : (k : DriverState) (m : Machine) → DriverRelation m k → DriverAdvances k m [] k
  pub compose : (a b c : DriverState) (m : Machine) (early late : List Step) → DriverAdvances a m early b → DriverAdvances b (after m early) late c → DriverAdvances a m (late ++ early) c
  pub due : (m : Machine) (steps : List Step) → IsReachable m → AllByDevice steps → AllEnabled m steps → (own : List Step) → All IsIssueStep own → AllEnabled m own → AllEnabled (after m steps) own
  pub after : (m : Machine) (late early : List Step) → after m (late ++ early) ≡ after (after m early) late
  pub arms : (k : DriverState) (m : Machine) (port : Port) (slot v : ℕ) → DriverRelation m k → k.slot_states port.0 slot ≡ Free → (k.device.port port.0).st ≡ true → IsSoleBit slot v
      → DriverAdvances k m [] (record k { slot_states = set_slot_state k.slot_states port.0 slot Armed; device = device_after_write (Px port Sact) v k.device })
  pub issues : (k : DriverState) (m : Machine) (port : Port) (slot : ℕ) (mode : QueueMode) (e : Pending) (v : ℕ) → IsReachable m → DriverRelation m k
      → IsRequestPreparedToIssue k.slot_states m k.device port.0 slot mode e v → DriverAdvances k m (Issue mode e ∷ []) (with_slot_serving k port.0 slot e.request.id (device_after_write (Px port Ci) v k.device))
  pub stays : (uses : SlotStates) (m : Machine) (port : Port) (slot : ℕ) (c : Meaning) (places : List ℕ) (access : Access) (old new : Device) → IsReachable m → StateRelation uses m old
      → old.hr ≡ false → WritesCmdOnlyWithStSet port access → DoesNotWrite (Px port Clb) access
      → ((at : ℕ) (bytes : List ℕ) → access ≡ Storing at bytes → MissesTableAndHeaderButPrdbc port.0 slot at (length bytes)) → Does access old new → IsStoredOnPortWithStSet old port.0 slot c places
      → IsStoredOnPortWithStSet new port.0 slot c places
  pub stands : (uses : SlotStates) (m : Machine) (port slot : ℕ) (c : Meaning) (places : List ℕ) (old new : Device) → IsReachable m → StateRelation uses m old → old.hr ≡ false
      → Steps old new → IsStoredOnPortWithStSet old port slot c places → IsStoredOnPortWithStSet new port slot c places
  pub permitted : (uses : SlotStates) (m : Machine) (d : Device) (port : Port) (v : ℕ) → IsReachable m → StateRelation uses m d → IsOn d → HasPort d port.0
      → (d.port port.0).st ≡ true → ((slot : ℕ) → bit v slot ≡ true → IsReadyToIssue uses d port.0 slot) → IsStable (MayWrite (Px port Ci) v) d
  pub prepared : (uses : SlotStates) (m : Machine) (d : Device) (port slot : ℕ) (c : Meaning) (places : List ℕ) (mode : QueueMode) (e : Pending) (v : ℕ)
      → IsStoredAndArmedIffQueued uses d port slot c places → IsEnabled m (Issue mode e) → e.request.port.0 ≡ port → slot < mode.usable_slots → (is_plain mode e.request.asked.op ≡ true → slot ≡ 0)
      → MeansRequest port slot e.request c places → is_queued c.operation ≡ not (is_plain mode e.request.asked.op)
      → HasBlockIfTrim e.request.asked.op d.memory port e.request → bit v slot ≡ true → ((k : ℕ) → k ≢ slot → bit v k ≡ false) → IsRequestPreparedToIssue uses m d port slot mode e v
  pub follows : (uses : SlotStates) (m : Machine) (old new : Device) → IsReachable m → StateRelation uses m old → Steps old new → SimulatesSteps uses m old new
  pub leaves : (uses : SlotStates) (m : Machine) (old new : Device) → IsReachable m → StateRelation uses m old → old.hr ≡ false → (r : Reg) (v : ℕ) → Writes r v old new → KeepsTablesAndScratchUnlessOwn uses old new
  pub leaves_steps : (uses : SlotStates) (m : Machine) (old new : Device) → IsReachable m → StateRelation uses m old → old.hr ≡ false → Steps old new → KeepsTablesAndScratchUnlessOwn uses old new
  pub block : (uses : SlotStates) (old new : Device) → KeepsTablesAndScratchUnlessOwn uses old new → (port : ℕ) (r : Accepted) → port < 4 → ((o : Operation) → uses port 0 ≡ Own o → ⊥) → HasBlockIfTrim r.asked.op old.memory port r
      → HasBlockIfTrim r.asked.op new.memory port r
  pub put_here : (uses : SlotStates) (port slot : ℕ) (u : SlotState) → set_slot_state uses port slot u port slot ≡ u
  pub put_others : (uses : SlotStates) (port slot : ℕ) (u : SlotState) (other_port other_slot : ℕ) → (other_port ≡ port → other_slot ≡ slot → ⊥)
      → set_slot_state uses port slot u other_port other_slot ≡ uses other_port other_slot

-- ---- issues

pub only_issues : (mode : QueueMode) (es : List Pending) → All IsIssueStep (issues_newest_first mode es)
only_issues mode [] = All-nil IsIssueStep
only_issues mode (e ∷ es) = All-append IsIssueStep (issues_newest_first mode es) (Issue mode e ∷ []) (only_issues mode es) (all_one IsIssueStep (Issue mode e) tt)

issues_decide : (port : Port) (v : ℕ) (own : List Step) → All (IsIssueStepOn port) own → IsAtMostOneStepOrIssuesByPxciWrite (Writing (Px port Ci) v) own
issues_decide port v [] all = tt
issues_decide port v (step ∷ []) all = tt
issues_decide port v (step ∷ other ∷ own) all = all

-- they are of the tasks' port
issues_on : (port : Port) (mode : QueueMode) (tasks : List PlacedTask) (es : List Pending) → AllZip (λ t e. IsTaskOf port t.slot t.task t.frames mode e) tasks es → All (IsIssueStepOn port) (issues_newest_first mode es)
issues_on port mode [] [] zip = All-nil (IsIssueStepOn port)
issues_on port mode [] (e ∷ es) zip = absurd zip
issues_on port mode (t ∷ tasks) [] zip = absurd zip
issues_on port mode (t ∷ tasks) (e ∷ es) zip =
    All-append (IsIssueStepOn port) (issues_newest_first mode es) (Issue mode e ∷ []) (issues_on port mode tasks es zip.1) (all_one (IsIssueStepOn port) (Issue mode e) zip.0.port_is)

-- what may come one after another, in two parts
may_split : Laws → (m : Machine) (late early : List Step) → AllEnabled m (late ++ early) → AllEnabled m early × AllEnabled (after m early) late
may_split laws m [] early all = (all, tt)
may_split laws m (step ∷ late) early all =
    let rest = may_split laws m late early all.0 in
    (rest.0, (rest.1, subst (λ (n : Machine). IsEnabled n step) (laws.after m late early) all.1))

-- ---- slots are armed, or left alone

abbrev with_armed : Bool → Port → List PlacedTask → DriverSlots → DriverSlots
with_armed true port tasks s = record s { slot_states = uses_armed port.0 tasks s.slot_states }
with_armed false port tasks s = s

abbrev arming_of : Port → Bool → ℕ → List Access
arming_of port true v = Writing (Px port Sact) v ∷ []
arming_of port false v = []

-- the slot was free, or it is armed
abbrev IsUnissued : SlotState → Type 0
IsUnissued u = (u ≡ Free) ⊎ (u ≡ Armed)

-- how a slot is used before its command is issued
abbrev unused_use : Bool → SlotState
unused_use true = Armed
unused_use false = Free

use_of : (kind queued : Bool) → queued ≡ kind → (if queued then Armed else Free) ≡ unused_use kind
use_of true queued e = cond-true queued Armed Free e
use_of false queued e = cond-false queued Armed Free e

-- Acts with these accesses lead to armed slots, or to ones that are free still. The device alone makes steps, and other slots go on as they are used.
record Reaches (port : Port) (tasks : List PlacedTask) (queued : Bool) (accesses : List Access) (s : DriverSlots) (m : Machine) (from armed : Device) : Type 0 where
  acts : List Act
  done : AreActsDone acts (driver_state_of_slots s from) m (driver_state_of_slots (with_armed queued port tasks s) armed)
  accesses_are : accesses_of acts ≡ accesses
  device : AllByDevice (newest_first_steps_of_acts acts)
  own : (t : PlacedTask) → Contains tasks t → All (λ act. IsUnissued (act.state_after.slot_states port.0 t.slot)) acts
  others : (q k : ℕ) → (q ≡ port.0 → IsSlotOf tasks k → ⊥) → All (λ act. act.state_after.slot_states q k ≡ s.slot_states q k) acts

abbrev places_for : Port → PlacedTask → List ℕ
places_for port t = task_places port.0 t.task.op t.task.range.count t.frames

module _ (laws : Laws) (port : Port) where
  -- bit by bit
  all_armed : (ts : List PlacedTask) (uses : SlotStates) (parked : ℕ → List RequestId) (bits : ℕ → Bool) (d : Device) (m : Machine) → HaveOwnSlots ts → BatchSlotsAreUnused port.0 ts uses →
      ((t : PlacedTask) → Contains ts t → (d.port port.0).st ≡ true) → DriverRelation m (driver_state_of uses parked (bits_on sact_bits port d bits)) →
      DriverAdvances (driver_state_of uses parked (bits_on sact_bits port d bits)) m [] (driver_state_of (uses_armed port.0 ts uses) parked (bits_on sact_bits port d (with_bits ts bits)))
  all_armed [] uses parked bits d m apart free runs knows = laws.none (driver_state_of uses parked (bits_on sact_bits port d bits)) m knows
  all_armed (t ∷ ts) uses parked bits d m apart free runs knows =
      let k : DriverState = driver_state_of uses parked (bits_on sact_bits port d bits) in
      let put_uses : SlotStates = set_slot_state uses port.0 t.slot Armed in
      let more : ℕ → Bool = λ j. bits j || bit (own_bit t.slot) j in
      let next : DriverState = driver_state_of put_uses parked (bits_on sact_bits port d more) in
      let first : DriverAdvances k m [] next =
      subst (λ (new : Device). DriverAdvances k m [] (driver_state_of put_uses parked new)) (bits_more sact_bits port d bits (own_bit t.slot))
      (laws.arms k m port t.slot (own_bit t.slot) knows (All-contains (λ x. uses port.0 x.slot ≡ Free) (t ∷ ts) t free (contains_here t ts))
      (ap (λ (p : DevicePort). p.st) (changed_here d.port port.0 (record (d.port port.0) { sact = bits })) ∙ runs t (contains_here t ts)) (own_bit_is t.slot)) in
      let rest : DriverAdvances next m [] (driver_state_of (uses_armed port.0 ts put_uses) parked (bits_on sact_bits port d (with_bits ts more))) =
      all_armed ts put_uses parked more d m (rest_apart t ts apart)
      (all_in (λ x. put_uses port.0 x.slot ≡ Free) ts (λ x is.
      laws.put_others uses port.0 t.slot Armed port.0 x.slot (λ _ e. first_apart t ts apart (x, is, e)) ∙ All-contains (λ y. uses port.0 y.slot ≡ Free) (t ∷ ts) x free (contains_there t ts x is)))
      (λ x is. runs x (contains_there t ts x is)) first.driver_relation in
      laws.compose k next (driver_state_of (uses_armed port.0 ts put_uses) parked (bits_on sact_bits port d (with_bits ts more))) m [] [] first rest

  -- a slot's bytes say what they did, whatever bits of PxCI are set
  stored_on_bits : (d : Device) (bits : ℕ → Bool) (slot : ℕ) (c : Meaning) (places : List ℕ) → IsStoredOnPortWithStSet d port.0 slot c places → IsStoredOnPortWithStSet (bits_on ci_bits port d bits) port.0 slot c places
  stored_on_bits d bits slot c places x =
      let same : (bits_on ci_bits port d bits).port port.0 ≡ record (d.port port.0) { ci = bits } = changed_here d.port port.0 (record (d.port port.0) { ci = bits }) in
      record {
        st_is_set = ap (λ (p : DevicePort). p.st) same ∙ x.st_is_set;
        list_is_in_place = subst (λ (p : DevicePort). HasListInPlace p port.0 slot) (sym same) (record { port_below = x.list_is_in_place.port_below; slot_below = x.list_is_in_place.slot_below; list = x.list_is_in_place.list });
        slot_decodes_to = subst (λ (p : DevicePort). SlotDecodesTo d.memory p.bases.clb port.0 slot c places) (sym same) x.slot_decodes_to;
      }

  -- request by request
  module _ (mode : QueueMode) where
    abbrev ItsTask : PlacedTask → Pending → Type 0
    ItsTask t e = IsTaskOf port t.slot t.task t.frames mode e

    all_issued : (ts : List PlacedTask) (es : List Pending) (uses : SlotStates) (parked : ℕ → List RequestId) (bits : ℕ → Bool) (d : Device) (m : Machine) → AllZip ItsTask ts es → HaveOwnSlots ts →
        IsReachable m → DriverRelation m (driver_state_of uses parked (bits_on ci_bits port d bits)) → AllEnabled m (issues_newest_first mode es) →
        ((t : PlacedTask) → Contains ts t → is_queued (meaning_of t.task).operation ≡ t.task.queued) →
        ((t : PlacedTask) → Contains ts t → IsStoredAndArmedIffQueued uses d port.0 t.slot (meaning_of t.task) (places_for port t)) → ((t : PlacedTask) → Contains ts t → BlockNamesSectors t.task.op t.task.range port.0 d.memory) →
        DriverAdvances (driver_state_of uses parked (bits_on ci_bits port d bits)) m (issues_newest_first mode es) (driver_state_of (uses_served port.0 ts es uses) parked (bits_on ci_bits port d (with_bits ts bits)))
    all_issued [] [] uses parked bits d m zip apart reached knows may kinds readied blocks = laws.none (driver_state_of uses parked (bits_on ci_bits port d bits)) m knows
    all_issued [] (e ∷ es) uses parked bits d m zip apart reached knows may kinds readied blocks = absurd zip
    all_issued (t ∷ ts) [] uses parked bits d m zip apart reached knows may kinds readied blocks = absurd zip
    all_issued (t ∷ ts) (e ∷ es) uses parked bits d m zip apart reached knows may kinds readied blocks =
        let k : DriverState = driver_state_of uses parked (bits_on ci_bits port d bits) in
        let put_uses : SlotStates = set_slot_state uses port.0 t.slot (Serves e.request.id) in
        let more : ℕ → Bool = λ j. bits j || bit (own_bit t.slot) j in
        let next : DriverState = driver_state_of put_uses parked (bits_on ci_bits port d more) in
        let last : DriverState = driver_state_of (uses_served port.0 ts es put_uses) parked (bits_on ci_bits port d (with_bits ts more)) in
        let x : IsStoredAndArmedIffQueued uses d port.0 t.slot (meaning_of t.task) (places_for port t) = readied t (contains_here t ts) in
        let z : AllEnabled m (Issue mode e ∷ []) × AllEnabled (after_step m (Issue mode e)) (issues_newest_first mode es) = may_split laws m (issues_newest_first mode es) (Issue mode e ∷ []) may in
        let first : DriverAdvances k m (Issue mode e ∷ []) next =
        subst (λ (new : Device). DriverAdvances k m (Issue mode e ∷ []) (driver_state_of put_uses parked new)) (bits_more ci_bits port d bits (own_bit t.slot))
        (laws.issues k m port t.slot mode e (own_bit t.slot) reached knows
        (laws.prepared uses m (bits_on ci_bits port d bits) port.0 t.slot (meaning_of t.task) (places_for port t) mode e (own_bit t.slot)
        (record { armed_if_queued_else_free = x.armed_if_queued_else_free; stored = stored_on_bits d bits t.slot (meaning_of t.task) (places_for port t) x.stored }) z.0.1 (ap (λ (q : Port). q.0) zip.0.port_is) zip.0.slot_is_usable (head t e zip.0)
        (task_means port t.slot t.task t.frames mode e zip.0) (kind t e zip.0 (kinds t (contains_here t ts)))
        (task_block port t.slot t.task t.frames mode e zip.0 d.memory (blocks t (contains_here t ts))) (own_bit_is t.slot).bit_is_set (own_bit_is t.slot).no_other_bit_is_set)) in
        let rest : DriverAdvances next (after_step m (Issue mode e)) (issues_newest_first mode es) last =
        all_issued ts es put_uses parked more d (after_step m (Issue mode e)) zip.1 (rest_apart t ts apart) (laws.acts.reached k next m (Issue mode e ∷ []) reached first) first.driver_relation z.1
        (λ y is. kinds y (contains_there t ts y is))
        (λ y is. let old : IsStoredAndArmedIffQueued uses d port.0 y.slot (meaning_of y.task) (places_for port y) = readied y (contains_there t ts y is) in
        record { armed_if_queued_else_free = laws.put_others uses port.0 t.slot (Serves e.request.id) port.0 y.slot (λ _ s. first_apart t ts apart (y, is, s)) ∙ old.armed_if_queued_else_free; stored = old.stored })
        (λ y is. blocks y (contains_there t ts y is)) in
        laws.compose k next last m (Issue mode e ∷ []) (issues_newest_first mode es) first rest
      where
        kind : (t : PlacedTask) (e : Pending) → ItsTask t e → is_queued (meaning_of t.task).operation ≡ t.task.queued → is_queued (meaning_of t.task).operation ≡ not (is_plain mode e.request.asked.op)
        kind t e is its = its ∙ (is.queued_is ∙ sym (ap (λ (o : Op). not (is_plain mode o)) is.operation_is))

        head : (t : PlacedTask) (e : Pending) → ItsTask t e → is_plain mode e.request.asked.op ≡ true → t.slot ≡ 0
        head t e is plain = is.plain_in_slot_0 (is.queued_is ∙ ap not (sym (ap (is_plain mode) is.operation_is) ∙ plain))

  -- a trim's block stands still, where no command of the driver's own is in slot 0
  module _ (uses : SlotStates) (old new : Device) (low : port.0 < 4) (leaves : KeepsTablesAndScratchUnlessOwn uses old new) where
    block_stays : (op : Op) (range : Range) → (op ≡ Trim → uses port.0 0 ≡ Free) → BlockNamesSectors op range port.0 old.memory → BlockNamesSectors op range port.0 new.memory
    block_stays Read range free block = tt
    block_stays Write range free block = tt
    block_stays Flush range free block = tt
    block_stays Trim range free block = laws.block uses old new leaves port.0 its low (λ o own. let z : Free ≡ Own o = sym (free refl) ∙ own in cc) block
      where
        its : Accepted
        its = record {
          id = record { 0 = 0 };
          port = port;
          asked = record { client = record { 0 = 0 }; grant = 0; op = Trim; first = range.first; count = range.count; frames = record { items = [] } };
          blocks_at_acceptance = λ k place. 0;
        }

  -- ---- the whole

  module _ (queued : Bool) (tasks : List PlacedTask) (own : ℕ) (old armed : Device) (b : IsArmedFor port queued tasks own old armed) where
    abbrev stores_only : (access : Access) → IsStoreForBatch port.0 tasks access → IsStoring access
    stores_only = batch_stores port.0 tasks

    mid_on : IsOn b.after_stores
    mid_on = stores_on laws.leaving port (IsStoreForBatch port.0 tasks) stores_only old b.after_stores b.stores.is_driven b.adapter_is_on

    mid_may : RunsItsList port.0 b.after_stores
    mid_may = stores_may laws.leaving port (IsStoreForBatch port.0 tasks) stores_only old b.after_stores b.stores.is_driven b.adapter_is_on b.list_runs

    mid_there : HasPort b.after_stores port.0
    mid_there = stores_there laws.leaving port (IsStoreForBatch port.0 tasks) stores_only old b.after_stores b.stores.is_driven b.has_port

    stored : (t : PlacedTask) → Contains tasks t → IsStoredOnPortWithStSet b.after_stores port.0 t.slot (meaning_of t.task) (places_for port t)
    stored t is =
        let says = All-contains (λ x. MemoryEncodesTask port.0 x b.after_stores.memory) tasks t b.slots_say_tasks is in
        stored_in port t.slot (meaning_of t.task) (places_for port t) b.after_stores mid_there (All-contains (λ x. x.slot < 32) tasks t b.slots_in_range is) mid_may says.slot_says_task

    kind : (t : PlacedTask) → Contains tasks t → is_queued (meaning_of t.task).operation ≡ t.task.queued
    kind = λ t is. All-contains (λ x. is_queued (meaning_of x.task).operation ≡ x.task.queued) tasks t b.operation_is_queued is

    its_kind : (t : PlacedTask) → Contains tasks t → t.task.queued ≡ queued
    its_kind = λ t is. All-contains (λ x. x.task.queued ≡ queued) tasks t b.all_are_of_kind is

    unused : (s : DriverSlots) → BatchSlotsAreUnused port.0 tasks s.slot_states → (t : PlacedTask) → Contains tasks t → s.slot_states port.0 t.slot ≡ Free
    unused s free t is = All-contains (λ x. s.slot_states port.0 x.slot ≡ Free) tasks t free is

    -- ---- arming

    -- the write of PxSACT
    module _ (call : Writes (Px port Sact) own b.after_stores armed) (s : DriverSlots) (m : Machine) (reached : IsReachable m) (knows : DriverRelation m (driver_state_of_slots s b.after_stores)) (free : BatchSlotsAreUnused port.0 tasks s.slot_states) where
      abbrev later_armed : DriverState
      later_armed = driver_state_of_slots (with_armed true port tasks s) armed

      arm_ends : EndsInOwnStepsAfterDeviceSteps (driver_state_of_slots s b.after_stores) m [] later_armed
      arm_ends =
          let k : DriverState = driver_state_of_slots s b.after_stores in
          let between : DriverState = driver_state_of_slots s call.at_access in
          let x : (steps : List Step) × AllByDevice steps × DriverAdvances k m steps between = laws.access k between m (laws.part k call.at_access call.steps) reached knows in
          let bits : ℕ → Bool = (call.at_access.port port.0).sact in
          let y : DriverAdvances (driver_state_of s.slot_states s.awaiting_disposition (bits_on sact_bits port call.at_access bits)) (after m x.0) []
          (driver_state_of (uses_armed port.0 tasks s.slot_states) s.awaiting_disposition (bits_on sact_bits port call.at_access (with_bits tasks bits))) =
          all_armed tasks s.slot_states s.awaiting_disposition bits call.at_access (after m x.0) b.slots_are_apart free
          (λ t is. (laws.stands s.slot_states m port.0 t.slot (meaning_of t.task) (places_for port t) b.after_stores call.at_access reached knows.state_relation mid_on.no_reset call.steps (stored t is)).st_is_set)
          (subst (λ (d : Device). DriverRelation (after m x.0) (driver_state_of s.slot_states s.awaiting_disposition d)) (sym (bits_begin sact_bits port call.at_access)) x.2.driver_relation) in
          let z : DriverAdvances between (after m x.0) [] later_armed =
          subst (λ (d : Device). DriverAdvances between (after m x.0) [] (driver_state_of (uses_armed port.0 tasks s.slot_states) s.awaiting_disposition d)) (sym (bits_written sact_bits port call.at_access tasks own b.mask_has_slots) ∙ sym call.effect)
          (subst (λ (d : Device). DriverAdvances (driver_state_of s.slot_states s.awaiting_disposition d) (after m x.0) [] (driver_state_of (uses_armed port.0 tasks s.slot_states) s.awaiting_disposition (bits_on sact_bits port call.at_access (with_bits tasks bits))))
          (bits_begin sact_bits port call.at_access) y) in
          let g : DriverAdvances k m x.0 later_armed = laws.compose k between later_armed m x.0 [] x.2 z in
          record { steps = x.0; all_steps_are_by_device = x.1; steps_are_enabled = g.steps_are_enabled; is_backed = g.is_backed; driver_relation = g.driver_relation }

    armed_from : (kind : Bool) → WritesSactIfQueued kind port own b.after_stores armed → (s : DriverSlots) (m : Machine) → IsReachable m → DriverRelation m (driver_state_of_slots s b.after_stores) → BatchSlotsAreUnused port.0 tasks s.slot_states →
        Reaches port tasks kind (arming_of port kind own) s m b.after_stores armed
    armed_from true call s m reached knows free =
        let e : EndsInOwnStepsAfterDeviceSteps (driver_state_of_slots s b.after_stores) m [] (driver_state_of_slots (with_armed true port tasks s) armed) = arm_ends call s m reached knows free in
        let act : Act = record { access = Some (Writing (Px port Sact) own); steps = e.steps; state_after = driver_state_of_slots (with_armed true port tasks s) armed } in
        record {
          acts = act ∷ [];
          done = (laws.ends (driver_state_of_slots s b.after_stores) (driver_state_of_slots (with_armed true port tasks s) armed) m (Writing (Px port Sact) own) [] e tt call, refl);
          accesses_are = refl;
          device = e.all_steps_are_by_device;
          own = λ t is. all_one (λ (a : Act). IsUnissued (a.state_after.slot_states port.0 t.slot)) act (inr (armed_here laws.put_here laws.put_others port.0 tasks s.slot_states b.slots_are_apart t.slot (t, is, refl)));
          others = λ q k other. all_one (λ (a : Act). a.state_after.slot_states q k ≡ s.slot_states q k) act (armed_others laws.put_here laws.put_others port.0 tasks s.slot_states q k other);
        }
    armed_from false same s m reached knows free = record {
      acts = [];
      done = ap (λ (d : Device). driver_state_of_slots s d) same;
      accesses_are = refl;
      device = tt;
      own = λ t is. All-nil (λ (a : Act). IsUnissued (a.state_after.slot_states port.0 t.slot));
      others = λ q k other. All-nil (λ (a : Act). a.state_after.slot_states q k ≡ s.slot_states q k);
    }

    armed_on : (kind : Bool) → WritesSactIfQueued kind port own b.after_stores armed → IsOn armed
    armed_on true call = laws.on (Writing (Px port Sact) own) b.after_stores armed mid_on (λ v e. absurd cc) call
    armed_on false same = subst IsOn (sym same) mid_on

    on_armed : IsOn armed
    on_armed = armed_on queued b.arms

    armed_same : (kind : Bool) → WritesSactIfQueued kind port own b.after_stores armed → (armed.pi ≡ b.after_stores.pi) × (armed.cap ≡ b.after_stores.cap)
    armed_same true call = let z = laws.same (Writing (Px port Sact) own) b.after_stores armed call in (z.pi, z.cap)
    armed_same false same = (ap (λ (d : Device). d.pi) same, ap (λ (d : Device). d.cap) same)

    armed_runs : (kind : Bool) → WritesSactIfQueued kind port own b.after_stores armed → (armed.port port.0).st ≡ true
    armed_runs true call = ((laws.controls port (Writing (Px port Sact) own) b.after_stores armed mid_on.no_reset call).command (λ e. absurd cc)).0 ∙ mid_may.st_is_set
    armed_runs false same = ap (λ (d : Device). (d.port port.0).st) same ∙ mid_may.st_is_set

    armed_stored : (kind : Bool) → WritesSactIfQueued kind port own b.after_stores armed → (uses : SlotStates) (m : Machine) → IsReachable m → StateRelation uses m b.after_stores → (t : PlacedTask) → Contains tasks t →
        IsStoredOnPortWithStSet armed port.0 t.slot (meaning_of t.task) (places_for port t)
    armed_stored true call uses m reached agrees t is =
        laws.stays uses m port t.slot (meaning_of t.task) (places_for port t) (Writing (Px port Sact) own) b.after_stores armed reached agrees mid_on.no_reset (λ v e. absurd cc) (λ e. absurd cc) (λ at bytes e. absurd cc) call (stored t is)
    armed_stored false same uses m reached agrees t is = subst (λ (d : Device). IsStoredOnPortWithStSet d port.0 t.slot (meaning_of t.task) (places_for port t)) (sym same) (stored t is)

    armed_used : (kind : Bool) (s : DriverSlots) → BatchSlotsAreUnused port.0 tasks s.slot_states → (t : PlacedTask) → Contains tasks t → (with_armed kind port tasks s).slot_states port.0 t.slot ≡ unused_use kind
    armed_used true s free t is = armed_here laws.put_here laws.put_others port.0 tasks s.slot_states b.slots_are_apart t.slot (t, is, refl)
    armed_used false s free t is = unused s free t is

    -- a trim isn't queued, so its slot 0 is free
    trim_free : (s : DriverSlots) → BatchSlotsAreUnused port.0 tasks s.slot_states → (t : PlacedTask) → Contains tasks t → t.task.op ≡ Trim → (with_armed queued port tasks s).slot_states port.0 0 ≡ Free
    trim_free s free t is trim =
        let plain : t.task.queued ≡ false = sym (kind t is) ∙ ap (λ (o : Op). is_queued (task_operation t.task.queued o)) trim ∙ never t.task.queued in
        ap (λ (q : Bool). (with_armed q port tasks s).slot_states port.0 0) (sym (its_kind t is) ∙ plain)
        ∙ (ap (s.slot_states port.0) (sym (All-contains (λ x. x.task.op ≡ Trim → x.slot ≡ 0) tasks t b.trim_in_slot_0 is trim)) ∙ unused s free t is)
      where
        never : (q : Bool) → is_queued (task_operation q Trim) ≡ false
        never true = refl
        never false = refl

    -- a queued task has no block, and a plain one's is as it was
    armed_block : (kind : Bool) → WritesSactIfQueued kind port own b.after_stores armed → kind ≡ queued → (t : PlacedTask) → Contains tasks t → (op : Op) → t.task.op ≡ op → BlockNamesSectors op t.task.range port.0 b.after_stores.memory → BlockNamesSectors op t.task.range port.0 armed.memory
    armed_block true call is_kind t is Trim trim block =
        absurd (let z : true ≡ false = is_kind ∙ sym (its_kind t is) ∙ sym (kind t is) ∙ ap (λ (o : Op). is_queued (task_operation t.task.queued o)) trim ∙ never t.task.queued in cc)
      where
        never : (q : Bool) → is_queued (task_operation q Trim) ≡ false
        never true = refl
        never false = refl
    armed_block false same is_kind t is Trim trim block = subst (λ (d : Device). BlockNamesSectors Trim t.task.range port.0 d.memory) (sym same) block
    armed_block kind call is_kind t is Read e block = tt
    armed_block kind call is_kind t is Write e block = tt
    armed_block kind call is_kind t is Flush e block = tt

    block_then : (t : PlacedTask) → Contains tasks t → BlockNamesSectors t.task.op t.task.range port.0 armed.memory
    block_then t is = let says = All-contains (λ x. MemoryEncodesTask port.0 x b.after_stores.memory) tasks t b.slots_say_tasks is in armed_block queued b.arms refl t is t.task.op refl says.block_names_sectors

    -- from a machine that agrees, acts lead to the armed slots, which are ready for PxCI
    record Stage (s : DriverSlots) (m : Machine) : Type 0 where
      reaches : Reaches port tasks queued (b.stores.is_driven.accesses ++ arming_of port queued own) s m old armed
      goes : DriverAdvances (driver_state_of_slots s old) m (newest_first_steps_of_acts reaches.acts) (driver_state_of_slots (with_armed queued port tasks s) armed)
      reached : IsReachable (after m (newest_first_steps_of_acts reaches.acts))
      readied : (t : PlacedTask) → Contains tasks t → IsStoredAndArmedIffQueued (with_armed queued port tasks s).slot_states armed port.0 t.slot (meaning_of t.task) (places_for port t)

    stage : (s : DriverSlots) (m : Machine) → IsReachable m → DriverRelation m (driver_state_of_slots s old) → BatchSlotsAreUnused port.0 tasks s.slot_states → Stage s m
    stage s m reached knows free = record { reaches = reaches; goes = goes; reached = laws.acts.reached (driver_state_of_slots s old) later m (newest_first_steps_of_acts reaches.acts) reached goes; readied = readied }
      where
        later : DriverState
        later = driver_state_of_slots (with_armed queued port tasks s) armed

        x : ActsReach b.stores.is_driven.accesses (driver_state_of_slots s old) m (driver_state_of_slots s b.after_stores) (AreByDeviceAndKeepUnwrittenSlots (IsStoreForBatch port.0 tasks) s.slot_states)
        x = b.stores.acts_reach s m reached knows free

        g : DriverAdvances (driver_state_of_slots s old) m (newest_first_steps_of_acts x.acts) (driver_state_of_slots s b.after_stores)
        g = laws.acts.goes x.acts (driver_state_of_slots s old) (driver_state_of_slots s b.after_stores) m knows x.acts_are_done

        mid_reached : IsReachable (after m (newest_first_steps_of_acts x.acts))
        mid_reached = laws.acts.reached (driver_state_of_slots s old) (driver_state_of_slots s b.after_stores) m (newest_first_steps_of_acts x.acts) reached g

        y : Reaches port tasks queued (arming_of port queued own) s (after m (newest_first_steps_of_acts x.acts)) b.after_stores armed
        y = armed_from queued b.arms s (after m (newest_first_steps_of_acts x.acts)) mid_reached g.driver_relation free

        kept : (q : Port) → All (λ act. act.state_after.slot_states q.0 ≡ s.slot_states q.0) x.acts
        kept q = x.acts_are_such.unwritten_ports_keep_slots q (λ access is. storing_writes_none (Px q Ci) access (stores_only access is)) (λ access is. storing_writes_none (Px q Sact) access (stores_only access is))

        reaches : Reaches port tasks queued (b.stores.is_driven.accesses ++ arming_of port queued own) s m old armed
        reaches = record {
          acts = x.acts ++ y.acts;
          done = laws.acts.more x.acts y.acts (driver_state_of_slots s old) (driver_state_of_slots s b.after_stores) later m x.acts_are_done y.done;
          accesses_are = laws.acts.accesses x.acts y.acts
              ∙ (ap (λ (early : List Access). early ++ accesses_of y.acts) x.accesses_match_acts ∙ ap (λ (late : List Access). b.stores.is_driven.accesses ++ late) y.accesses_are);
          device = subst AllByDevice (sym (laws.acts.steps x.acts y.acts)) (laws.acts.device (newest_first_steps_of_acts y.acts) (newest_first_steps_of_acts x.acts) y.device x.acts_are_such.all_steps_are_by_device);
          own = λ t is. let P : Act → Type 0 = λ act. IsUnissued (act.state_after.slot_states port.0 t.slot) in
              All-append P x.acts y.acts
              (all_as (λ act. act.state_after.slot_states port.0 ≡ s.slot_states port.0) P (λ act same. inl (ap (λ (f : ℕ → SlotState). f t.slot) same ∙ unused s free t is)) x.acts (kept port)) (y.own t is);
          others = λ q k other.
              let P : Act → Type 0 = λ act. act.state_after.slot_states q k ≡ s.slot_states q k in
              All-append P x.acts y.acts
              (all_as (λ act. act.state_after.slot_states q ≡ s.slot_states q) P (λ act same. ap (λ (f : ℕ → SlotState). f k) same) x.acts (kept (port_at q))) (y.others q k other);
        }

        goes : DriverAdvances (driver_state_of_slots s old) m (newest_first_steps_of_acts reaches.acts) later
        goes = laws.acts.goes reaches.acts (driver_state_of_slots s old) later m knows reaches.done

        readied : (t : PlacedTask) → Contains tasks t → IsStoredAndArmedIffQueued (with_armed queued port tasks s).slot_states armed port.0 t.slot (meaning_of t.task) (places_for port t)
        readied t is = record {
          armed_if_queued_else_free = armed_used queued s free t is ∙ sym (use_of queued (is_queued (meaning_of t.task).operation) (kind t is ∙ its_kind t is));
          stored = armed_stored queued b.arms s.slot_states (after m (newest_first_steps_of_acts x.acts)) mid_reached g.driver_relation.state_relation t is;
        }

    -- the machine that the caller knows of
    abbrev s0 : DriverSlots
    s0 = record { slot_states = b.machine_is_related.0; awaiting_disposition = b.machine_is_related.2.parked }

    known_stage : Stage s0 b.machine_is_related.2.machine
    known_stage = stage s0 b.machine_is_related.2.machine b.machine_is_related.2.reached b.machine_is_related.2.driver_relation b.machine_is_related.1

    permitted : IsStable (MayWrite (Px port Ci) own) armed
    permitted =
        let x = known_stage in
        let same = armed_same queued b.arms in
        let whole = stores_same laws.leaving port (IsStoreForBatch port.0 tasks) stores_only old b.after_stores b.stores.is_driven in
        laws.permitted (with_armed queued port tasks s0).slot_states (after b.machine_is_related.2.machine (newest_first_steps_of_acts x.reaches.acts)) armed port own x.reached x.goes.driver_relation.state_relation on_armed
        (b.has_port.0, ap (λ (pi : ℕ). bit pi port.0) (same.0 ∙ whole.pi) ∙ b.has_port.1) (armed_runs queued b.arms)
        (λ slot set.
        let t : IsSlotOf tasks slot = b.mask_has_slots.no_other_is_set slot set in
        subst (IsReadyToIssue (with_armed queued port tasks s0).slot_states armed port.0) t.2 (record {
          slot_is_implemented = subst (λ (cap : ℕ). t.0.slot ≤ cap / 256 % 32) (sym (same.1 ∙ whole.cap)) (All-contains (λ z. z.slot ≤ old.cap / 256 % 32) tasks t.0 b.slots_are_usable t.1);
          command = meaning_of t.0.task;
          places = places_for port t.0;
          readied = x.readied t.0 t.1;
        }))

    -- ---- PxCI is written

    module _ (new : Device) (call : Writes (Px port Ci) own armed new) where
      arming_does : (kind : Bool) → WritesSactIfQueued kind port own b.after_stores armed → DoesAll (arming_of port kind own) b.after_stores armed
      arming_does true arms = (armed, arms, refl)
      arming_does false arms = arms

      arming_only : (kind : Bool) → All (IsCommandIssueAccess port) (arming_of port kind own)
      arming_only true = all_one (IsCommandIssueAccess port) (Writing (Px port Sact) own) (inl refl)
      arming_only false = All-nil (IsCommandIssueAccess port)

      is_issuing : (access : Access) → IsStoreForBatch port.0 tasks access → IsCommandIssueAccess port access
      is_issuing (Storing at bytes) here = (here.0.slot, All-contains (λ x. x.slot < 32) tasks here.0 b.slots_in_range here.1, store_for here.0.task.op port.0 here.0.slot (Storing at bytes) here.2)
      is_issuing (Reading q v) here = absurd (stores_only (Reading q v) here)
      is_issuing (Writing q v) here = absurd (stores_only (Writing q v) here)
      is_issuing (Loading at bytes) here = absurd (stores_only (Loading at bytes) here)

      abbrev accesses : List Access
      accesses = (b.stores.is_driven.accesses ++ arming_of port queued own) ++ Writing (Px port Ci) own ∷ []

      driven_only : All (IsCommandIssueAccess port) accesses
      driven_only =
          let P : Access → Type 0 = IsCommandIssueAccess port in
          All-append P (b.stores.is_driven.accesses ++ arming_of port queued own) (Writing (Px port Ci) own ∷ [])
          (All-append P b.stores.is_driven.accesses (arming_of port queued own) (all_as (IsStoreForBatch port.0 tasks) P is_issuing b.stores.is_driven.accesses b.stores.is_driven.accesses_are_of_kind) (arming_only queued))
          (all_one P (Writing (Px port Ci) own) (inr refl))

      driven_all : DoesAll accesses old new
      driven_all =
          does_then (b.stores.is_driven.accesses ++ arming_of port queued own) (Writing (Px port Ci) own ∷ []) old armed new
          (does_then b.stores.is_driven.accesses (arming_of port queued own) old b.after_stores armed b.stores.is_driven.all_are_done (arming_does queued b.arms)) (new, call, refl)

      writes_are : (kind : Bool) → arming_of port kind own ++ Writing (Px port Ci) own ∷ [] ≡ issuing_writes port kind own
      writes_are true = refl
      writes_are false = refl

      in_order : StoresThenWritesAll port queued tasks accesses
      in_order = record {
        stores = b.stores.is_driven.accesses;
        all_are_batch_stores = b.stores.is_driven.accesses_are_of_kind;
        mask = own;
        mask_has_slots = b.mask_has_slots;
        accesses_are = append_assoc b.stores.is_driven.accesses (arming_of port queued own) (Writing (Px port Ci) own ∷ [])
            ∙ ap (λ (late : List Access). b.stores.is_driven.accesses ++ late) (writes_are queued);
      }

      -- ---- from a machine on which the requests may be issued

      module _ (mode : QueueMode) (es : List Pending) (zip : AllZip (ItsTask mode) tasks es) where
        serves_as : (kind : Bool) (s : DriverSlots) → record (with_armed kind port tasks s) { slot_states = uses_served port.0 tasks es (with_armed kind port tasks s).slot_states } ≡ with_serving_batch port tasks es s
        serves_as true s =
            ap (λ (uses : SlotStates). record s { slot_states = uses }) (served_armed laws.put_here laws.put_others port.0 (ItsTask mode) tasks es s.slot_states zip) ∙ serving_batch_is port tasks es s
        serves_as false s = serving_batch_is port tasks es s

        -- the write of PxCI
        module _ (s : DriverSlots) (m : Machine) (reached : IsReachable m) (knows : DriverRelation m (driver_state_of_slots s armed)) (may : AllEnabled m (issues_newest_first mode es))
            (readied : (t : PlacedTask) → Contains tasks t → IsStoredAndArmedIffQueued s.slot_states armed port.0 t.slot (meaning_of t.task) (places_for port t)) (trims : (t : PlacedTask) → Contains tasks t → t.task.op ≡ Trim → s.slot_states port.0 0 ≡ Free) where
          abbrev k : DriverState
          k = driver_state_of_slots s armed

          abbrev between : DriverState
          between = driver_state_of_slots s call.at_access

          abbrev served : DriverState
          served = driver_state_of (uses_served port.0 tasks es s.slot_states) s.awaiting_disposition new

          issue_ends : EndsInOwnStepsAfterDeviceSteps k m (issues_newest_first mode es) served
          issue_ends =
              let x : (steps : List Step) × AllByDevice steps × DriverAdvances k m steps between = laws.access k between m (laws.part k call.at_access call.steps) reached knows in
              let bits : ℕ → Bool = (call.at_access.port port.0).ci in
              let leaves : KeepsTablesAndScratchUnlessOwn s.slot_states armed call.at_access = laws.leaves_steps s.slot_states m armed call.at_access reached knows.state_relation on_armed.no_reset call.steps in
              let y : DriverAdvances (driver_state_of s.slot_states s.awaiting_disposition (bits_on ci_bits port call.at_access bits)) (after m x.0) (issues_newest_first mode es)
              (driver_state_of (uses_served port.0 tasks es s.slot_states) s.awaiting_disposition (bits_on ci_bits port call.at_access (with_bits tasks bits))) =
              all_issued mode tasks es s.slot_states s.awaiting_disposition bits call.at_access (after m x.0) zip b.slots_are_apart (laws.acts.reached k between m x.0 reached x.2)
              (subst (λ (d : Device). DriverRelation (after m x.0) (driver_state_of s.slot_states s.awaiting_disposition d)) (sym (bits_begin ci_bits port call.at_access)) x.2.driver_relation)
              (laws.due m x.0 reached x.1 x.2.steps_are_enabled (issues_newest_first mode es) (only_issues mode es) may) kind
              (λ t is. record {
                armed_if_queued_else_free = (readied t is).armed_if_queued_else_free;
                stored = laws.stands s.slot_states m port.0 t.slot (meaning_of t.task) (places_for port t) armed call.at_access reached knows.state_relation on_armed.no_reset call.steps (readied t is).stored;
              })
              (λ t is. block_stays s.slot_states armed call.at_access b.has_port.0 leaves t.task.op t.task.range (trims t is) (block_then t is)) in
              let z : DriverAdvances between (after m x.0) (issues_newest_first mode es) served =
              subst (λ (d : Device). DriverAdvances between (after m x.0) (issues_newest_first mode es) (driver_state_of (uses_served port.0 tasks es s.slot_states) s.awaiting_disposition d)) (sym (bits_written ci_bits port call.at_access tasks own b.mask_has_slots) ∙ sym call.effect)
              (subst (λ (d : Device). DriverAdvances (driver_state_of s.slot_states s.awaiting_disposition d) (after m x.0) (issues_newest_first mode es) (driver_state_of (uses_served port.0 tasks es s.slot_states) s.awaiting_disposition (bits_on ci_bits port call.at_access (with_bits tasks bits))))
              (bits_begin ci_bits port call.at_access) y) in
              let g : DriverAdvances k m (issues_newest_first mode es ++ x.0) served = laws.compose k between served m x.0 (issues_newest_first mode es) x.2 z in
              record { steps = x.0; all_steps_are_by_device = x.1; steps_are_enabled = g.steps_are_enabled; is_backed = g.is_backed; driver_relation = g.driver_relation }

        comes : (s : DriverSlots) (m : Machine) → IsReachable m → DriverRelation m (driver_state_of_slots s old) → MayServeBatch port tasks mode es s m →
            ActsReach accesses (driver_state_of_slots s old) m (driver_state_of_slots (with_serving_batch port tasks es s) new) (IssuesBatchAtEnd port tasks mode es s.slot_states)
        comes s m reached knows fits = record {
          acts = x.reaches.acts ++ act ∷ [];
          acts_are_done = laws.acts.more x.reaches.acts (act ∷ []) (driver_state_of_slots s old) before later m x.reaches.done (last, refl);
          accesses_match_acts = laws.acts.accesses x.reaches.acts (act ∷ []) ∙ ap (λ (early : List Access). early ++ Writing (Px port Ci) own ∷ []) x.reaches.accesses_are;
          acts_are_such = record {
            device_steps = ends.steps ++ newest_first_steps_of_acts x.reaches.acts;
            last_act_issues = (x.reaches.acts, act, refl, x.reaches.device);
            only_device_before = laws.acts.device ends.steps (newest_first_steps_of_acts x.reaches.acts) ends.all_steps_are_by_device x.reaches.device;
            issues_come_last = laws.acts.steps x.reaches.acts (act ∷ []) ∙ append_assoc (issues_newest_first mode es) ends.steps (newest_first_steps_of_acts x.reaches.acts);
            own_slots_are_being_issued = zip_as (λ t e. uses_served port.0 tasks es s.slot_states port.0 t.slot ≡ Serves e.request.id) (λ t e. All (λ a. IsFreeArmedOrServing e.request.id (a.state_after.slot_states port.0 t.slot)) (x.reaches.acts ++ act ∷ [])) tasks es
                (λ t e is serves. let P : Act → Type 0 = λ a. IsFreeArmedOrServing e.request.id (a.state_after.slot_states port.0 t.slot) in
                All-append P x.reaches.acts (act ∷ [])
                (all_as (λ a. IsUnissued (a.state_after.slot_states port.0 t.slot)) P (λ a u. ⊎_elim (λ free. inl free) (λ is_armed. inr (inl is_armed)) u) x.reaches.acts (x.reaches.own t is))
                (all_one P act (inr (inr (ap (λ (z : DriverSlots). z.slot_states port.0 t.slot) (sym (serving_batch_is port tasks es s)) ∙ serves)))))
                (served_here laws.put_here laws.put_others port.0 (ItsTask mode) tasks es s.slot_states b.slots_are_apart zip);
            other_slots_are_kept = λ q k other. let P : Act → Type 0 = λ a. a.state_after.slot_states q k ≡ s.slot_states q k in
                All-append P x.reaches.acts (act ∷ []) (x.reaches.others q k other)
                (all_one P act (ap (λ (z : DriverSlots). z.slot_states q k) (sym (serving_batch_is port tasks es s)) ∙ served_others laws.put_here laws.put_others port.0 tasks es s.slot_states q k other));
          };
        }
          where
            before : DriverState
            before = driver_state_of_slots (with_armed queued port tasks s) armed

            later : DriverState
            later = driver_state_of_slots (with_serving_batch port tasks es s) new

            x : Stage s m
            x = stage s m reached knows fits.slots_are_free

            m2 : Machine
            m2 = after m (newest_first_steps_of_acts x.reaches.acts)

            may2 : AllEnabled m2 (issues_newest_first mode es)
            may2 = laws.due m (newest_first_steps_of_acts x.reaches.acts) reached x.reaches.device x.goes.steps_are_enabled (issues_newest_first mode es) (only_issues mode es) fits.may_be_issued

            ends : EndsInOwnStepsAfterDeviceSteps before m2 (issues_newest_first mode es) later
            ends = subst (λ (z : DriverSlots). EndsInOwnStepsAfterDeviceSteps before m2 (issues_newest_first mode es) (driver_state_of_slots z new)) (serves_as queued s)
                (issue_ends (with_armed queued port tasks s) m2 x.reached x.goes.driver_relation may2 x.readied (trim_free s fits.slots_are_free))

            act : Act
            act = record { access = Some (Writing (Px port Ci) own); steps = issues_newest_first mode es ++ ends.steps; state_after = later }

            last : IsActDone before m2 act
            last = laws.ends before later m2 (Writing (Px port Ci) own) (issues_newest_first mode es) ends (issues_decide port own (issues_newest_first mode es) (issues_on port mode tasks es zip)) call

      -- ---- what it leaves

      abbrev uses0 : SlotStates
      uses0 = (with_armed queued port tasks s0).slot_states

      abbrev m0 : Machine
      m0 = after b.machine_is_related.2.machine (newest_first_steps_of_acts known_stage.reaches.acts)

      set : (t : PlacedTask) → Contains tasks t → (new.port port.0).ci t.slot ≡ true
      set t is = ap (λ (d : Device). (d.port port.0).ci t.slot) call.effect
          ∙ (ap (λ (p : DevicePort). p.ci t.slot) (changed_here call.at_access.port port.0 _)
          ∙ or_right ((call.at_access.port port.0).ci t.slot) (bit own t.slot) (All-contains (λ x. bit own x.slot ≡ true) tasks t b.mask_has_slots.slots_are_set is))

      stored_then : (t : PlacedTask) → Contains tasks t → IsStoredOnPortWithStSet new port.0 t.slot (meaning_of t.task) (places_for port t)
      stored_then t is =
          laws.stays uses0 m0 port t.slot (meaning_of t.task) (places_for port t) (Writing (Px port Ci) own) armed new known_stage.reached known_stage.goes.driver_relation.state_relation on_armed.no_reset
          (λ v e. absurd cc) (λ e. absurd cc) (λ at bytes e. absurd cc) call (known_stage.readied t is).stored

      block_new : (t : PlacedTask) → Contains tasks t → BlockNamesSectors t.task.op t.task.range port.0 new.memory
      block_new t is =
          block_stays uses0 armed new b.has_port.0 (laws.leaves uses0 m0 armed new known_stage.reached known_stage.goes.driver_relation.state_relation on_armed.no_reset (Px port Ci) own call) t.task.op t.task.range
          (trim_free s0 b.machine_is_related.1 t is) (block_then t is)

      -- an armed slot's bit of PxSACT goes as ST does
      active : (t : PlacedTask) → Contains tasks t → t.task.queued ≡ true → (new.port port.0).sact t.slot ≡ true
      active t is its_queued =
          let f : SimulatesSteps uses0 m0 armed call.at_access = laws.follows uses0 m0 armed call.at_access known_stage.reached known_stage.goes.driver_relation.state_relation call.steps in
          let used : uses0 port.0 t.slot ≡ Armed = (known_stage.readied t is).armed_if_queued_else_free ∙ cond-true (is_queued (meaning_of t.task).operation) Armed Free (kind t is ∙ its_queued) in
          let h : IsArmedIfSt (call.at_access.port port.0) t.slot = subst (λ (u : SlotState). RelatesSlot (after m0 f.steps) call.at_access.memory call.at_access.tape (call.at_access.port port.0) port.0 t.slot u) used (f.state_relation.relates_slots port.0 t.slot) in
          ap (λ (d : Device). (d.port port.0).sact t.slot) call.effect
          ∙ (ap (λ (p : DevicePort). p.sact t.slot) (changed_here call.at_access.port port.0 _)
          ∙ (h.armed
          ∙ (sym (ap (λ (d : Device). (d.port port.0).st) call.effect ∙ ap (λ (p : DevicePort). p.st) (changed_here call.at_access.port port.0 _)) ∙ (stored_then t is).st_is_set)))

      issued : IsBatchIssued port tasks old new
      issued = record {
        adapter_is_on = laws.on (Writing (Px port Ci) own) armed new on_armed (λ v e. absurd cc) call;
        issues = record {
          queued = queued;
          all_are_of_kind = b.all_are_of_kind;
          slots_in_range = b.slots_in_range;
          slots_are_apart = b.slots_are_apart;
          driven = record { accesses = accesses; all_are_done = driven_all; accesses_are_of_kind = driven_only };
          stores_come_first = in_order;
          machine_follows = λ mode es zip. comes mode es zip;
        };
        stored = all_in (λ t. IsStoredOnPortWithStSet new port.0 t.slot (meaning_of t.task) (places_for port t)) tasks stored_then;
        block_names_sectors = all_in (λ t. BlockNamesSectors t.task.op t.task.range port.0 new.memory) tasks block_new;
        ci_is_set = all_in (λ t. (new.port port.0).ci t.slot ≡ true) tasks set;
        sact_is_set = all_in (λ t. t.task.queued ≡ true → (new.port port.0).sact t.slot ≡ true) tasks active;
      }

    pub leads : IsStable (MayWrite (Px port Ci) own) armed × ((new : Device) → Writes (Px port Ci) own armed new → IsBatchIssued port tasks old new)
    leads = (permitted, issued)
