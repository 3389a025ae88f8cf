-- A slot that is made ready stays so, and its bit of PxCI may be written.
use Rattle.std.proofs.Common.{ℕ, if◌then◌else◌, ◌≡◌, ◌≢◌, ◌<◌, ◌≤◌, ◌/◌, ◌%◌, Bool, true, false, not, List, length, refl, sym, ◌∙◌, ap, subst}
use Rattle.std.proofs.lemmas.Bool.{cond-true, cond-false}
use Rattle.ata_types.specs.declared.Port.{Port}
use Rattle.hba_regs.specs.Bits.{bit}
use Rattle.hba_regs.specs.declared.reg.Reg.TheVariants.{Px}
use Rattle.hba_regs.specs.declared.reg.PortReg.{PortReg}
use Rattle.hba_regs.specs.declared.reg.PortReg.TheVariants.{Cmd, Clb, Ci}
use Rattle.adapter.specs.Access.{Access, Does, port_after_write, port_after_st_write, port_after_fre_write}
use Rattle.adapter.specs.Access.Access.{Reading, Writing, Loading, Storing}
use Rattle.adapter.specs.Commands.{Meaning, is_queued}
use Rattle.adapter.specs.Device.{Bases, DevicePort, Device}
use Rattle.adapter.specs.KeptBySteps.{KeepsOverSteps, KeepsOutsideReset}
use Rattle.adapter.specs.Rules.{IsOn, HasPort, MayWrite, IsStable}
use Rattle.adapter.specs.Steps.{Steps}
use Rattle.adapter.proofs.MemoryLemmas.{patched_apart}
use Rattle.adapter.proofs.SaysLemmas.{says_meaning}
use Rattle.block_machine.specs.DueRequests.{is_plain}
use Rattle.block_machine.specs.Histories.{IsReachable}
use Rattle.block_machine.specs.Expected as left
use Rattle.block_machine.specs.State.{Pending, Machine}
use Rattle.block_machine.specs.Steps.{Issue, IsEnabled}
use Rattle.block_machine.specs.declared.due.QueueMode.{QueueMode}
use Rattle.refinement.specs.StepLaws.{StepLaws}
use Rattle.refinement.specs.Relation.{StateRelation}
use Rattle.refinement.specs.Driver.{IsRequestPreparedToIssue, KeepsTablesAndScratchUnlessOwn, MissesTableAndHeaderButPrdbc}
use Rattle.refinement.specs.Simulation.{SimulatesSteps}
use Rattle.refinement.specs.PreservedParts.{DoesNotWrite}
use Rattle.refinement.specs.MemoryLayout.{IsTableOrHeaderByteButPrdbc}
use Rattle.adapter.specs.OneCommand.{SlotHasNoCommand}
use Rattle.refinement.specs.Slots.{SlotState, Free, Armed, SlotStates, MeansRequest, HasBlockIfTrim, IsArmedIfSt, IsEmptySlot, RelatesSlot}
use Rattle.refinement.specs.StartedPort.{WritesCmdOnlyWithStSet}
use Rattle.refinement.proofs.device.FactsOverAccesses.{access_steps, effect_keeps}
use Rattle.refinement.proofs.steps.FollowedSteps.{steps_follow}
use Rattle.refinement.proofs.steps.UnusedSlots.{steps_leave}
use Rattle.refinement.proofs.driver.UnusedOverCalls.{noted_memory, written_memory}
use Rattle.refinement.proofs.device.PortControls.{spared}
use Rattle.refinement.proofs.relation.SlotRelation.{told_on, placed_on}
use Rattle.refinement.specs.ReadySlots.{IsStoredOnPortWithStSet, IsStoredAndArmedIffQueued, IsReadyToIssue}

-- the same port, as far as the slot's bytes and ST go, and the same table
stored_on : (old new : Device) (port slot : ℕ) (c : Meaning) (places : List ℕ) → (new.port port).st ≡ true → (new.port port).bases.clb ≡ (old.port port).bases.clb →
    (port < 4 → slot < 32 → (at : ℕ) → IsTableOrHeaderByteButPrdbc port slot at → new.memory at ≡ old.memory at) → IsStoredOnPortWithStSet old port slot c places → IsStoredOnPortWithStSet new port slot c places
stored_on old new port slot c places st list same x = record {
  st_is_set = st;
  list_is_in_place = placed_on (old.port port) (new.port port) port slot list x.list_is_in_place;
  slot_decodes_to = told_on old.memory new.memory (old.port port).bases.clb (new.port port).bases.clb port slot c places x.list_is_in_place.list list (same x.list_is_in_place.port_below x.list_is_in_place.slot_below) x.slot_decodes_to;
}

-- ---- the device's steps

module _ (laws : StepLaws) (uses : SlotStates) (m : Machine) (port slot : ℕ) (c : Meaning) (places : List ℕ) (old new : Device) (reached : IsReachable m) (a : StateRelation uses m old) (off : old.hr ≡ false) (s : Steps old new) where
  leaves : KeepsTablesAndScratchUnlessOwn uses old new
  leaves = steps_leave uses m old new reached a off s

  pub steps_stored : IsStoredOnPortWithStSet old port slot c places → IsStoredOnPortWithStSet new port slot c places
  steps_stored x =
      let k : KeepsOverSteps old new = laws.steps_keep _ _ s in
      stored_on old new port slot c places (((k.keeps_outside_reset off).controls_are_kept port).st_is_kept ∙ x.st_is_set) (ap (λ (b : Bases). b.clb) (k.port_bits_only_fall port).bases_are_kept)
      (λ low small at t. leaves.tables port slot at low small t) x

-- ---- an access

-- what an access leaves of a slot's table, where it stores nothing there
module _ (uses : SlotStates) (m : Machine) (port slot : ℕ) (old new : Device) (reached : IsReachable m) (a : StateRelation uses m old) (off : old.hr ≡ false) (low : port < 4) (small : slot < 32) where
  access_tables : (access : Access) → ((from : ℕ) (bytes : List ℕ) → access ≡ Storing from bytes → MissesTableAndHeaderButPrdbc port slot from (length bytes)) → Does access old new → (at : ℕ) → IsTableOrHeaderByteButPrdbc port slot at → new.memory at ≡ old.memory at
  access_tables (Reading r v) misses x at t =
      ap (λ (d : Device). d.memory at) x.effect ∙ (ap (λ (f : ℕ → ℕ). f at) (noted_memory r v x.at_access) ∙ (steps_leave uses m old x.at_access reached a off x.steps).tables port slot at low small t)
  access_tables (Writing r v) misses x at t =
      ap (λ (d : Device). d.memory at) x.effect ∙ (ap (λ (f : ℕ → ℕ). f at) (written_memory r v x.at_access) ∙ (steps_leave uses m old x.at_access reached a off x.steps).tables port slot at low small t)
  access_tables (Loading from bytes) misses x at t = (steps_leave uses m old new reached a off x.steps).tables port slot at low small t
  access_tables (Storing from bytes) misses x at t =
      ap (λ (d : Device). d.memory at) x.effect
      ∙ (patched_apart x.at_access.memory from bytes at (λ below above. misses from bytes refl at t below above) ∙ (steps_leave uses m old x.at_access reached a off x.steps).tables port slot at low small t)

-- ST is 1, with the list where it is
abbrev On : ℕ → DevicePort → Type 0
On list p = (p.st ≡ true) × (p.bases.clb ≡ list)

written_on_still : (list : ℕ) (r : PortReg) (v tape : ℕ) (p : DevicePort) → (r ≡ Cmd → bit v 0 ≡ true) → r ≢ Clb → On list p → On list (port_after_write r v tape p)
written_on_still list Cmd v tape p on other h =
    subst (λ (b : Bool). On list (port_after_fre_write (bit v 4) (port_after_st_write b tape p))) (sym (on refl))
    (subst (λ (x : DevicePort). On list (port_after_fre_write (bit v 4) x)) (sym (cond-true p.st p _ h.0)) h)
written_on_still list Clb v tape p on other h = absurd (other refl)
written_on_still list _ v tape p on other h = h

module _ (laws : StepLaws) (uses : SlotStates) (m : Machine) (port : Port) (slot : ℕ) (c : Meaning) (places : List ℕ) (access : Access) (old new : Device) (reached : IsReachable m) (a : StateRelation uses m old) (off : old.hr ≡ false)
    (keeps : WritesCmdOnlyWithStSet port access) (spares : DoesNotWrite (Px port Clb) access) where
  started_by : (r : PortReg) (v : ℕ) → access ≡ Writing (Px port r) v → r ≡ Cmd → bit v 0 ≡ true
  started_by r v is e = keeps v (is ∙ ap (λ (w : PortReg). Writing (Px port w) v) e)

  pub access_stored : ((at : ℕ) (bytes : List ℕ) → access ≡ Storing at bytes → MissesTableAndHeaderButPrdbc port.0 slot at (length bytes)) → Does access old new → IsStoredOnPortWithStSet old port.0 slot c places → IsStoredOnPortWithStSet new port.0 slot c places
  access_stored misses x h =
      let s = access_steps access old new x in
      let y : IsStoredOnPortWithStSet s.0 port.0 slot c places = steps_stored laws uses m port.0 slot c places old s.0 reached a off s.1 h in
      let k : KeepsOverSteps old s.0 = laws.steps_keep _ _ s.1 in
      let on : On (old.port port.0).bases.clb (new.port port.0) =
      effect_keeps (On (old.port port.0).bases.clb) port (λ p q v z. z) (λ p z. z) access old new x
      (λ q v mid is steps z. written_on_still (old.port port.0).bases.clb q v (length mid.tape) (mid.port port.0) (started_by q v is) (spared port q Clb access v spares is) z)
      (y.st_is_set, ap (λ (b : Bases). b.clb) (k.port_bits_only_fall port.0).bases_are_kept) in
      stored_on old new port.0 slot c places on.0 on.1 (λ low small at t. access_tables uses m port.0 slot old new reached a off low small access misses x at t) h

-- ---- the write of PxCI

-- the slot has no command, and its bit of PxSACT is as this one
record ReadyTo (queued : Bool) (p : DevicePort) (slot : ℕ) : Type 0 where
  over : SlotHasNoCommand p slot
  armed : p.sact slot ≡ queued

served_ready : (m : Machine) (d : Device) (port slot : ℕ) (queued : Bool) (u : SlotState) → u ≡ (if queued then Armed else Free) → (d.port port).st ≡ true →
    RelatesSlot m d.memory d.tape (d.port port) port slot u → ReadyTo queued (d.port port) slot
served_ready m d port slot true u e st served =
    let h : IsArmedIfSt (d.port port) slot = subst (λ (w : SlotState). RelatesSlot m d.memory d.tape (d.port port) port slot w) e served in
    record { over = record { is_not_issued = h.is_not_issued; is_not_taken = h.is_not_taken }; armed = h.armed ∙ st }
served_ready m d port slot false u e st served =
    let h : IsEmptySlot (d.port port) slot = subst (λ (w : SlotState). RelatesSlot m d.memory d.tape (d.port port) port slot w) e served in
    record { over = record { is_not_issued = h.is_not_issued; is_not_taken = h.is_not_taken }; armed = h.unarmed }

-- a queued command is one that isn't plain
used_so : (plain queued : Bool) → queued ≡ not plain → (if queued then Armed else Free) ≡ (if plain then Free else Armed)
used_so true queued e = cond-false queued Armed Free e
used_so false queued e = cond-true queued Armed Free e

pub readied_permitted : StepLaws → (uses : SlotStates) (m : Machine) (d : Device) (port : Port) (v : ℕ) → IsReachable m → StateRelation uses m d → IsOn d → HasPort d port.0 → (d.port port.0).st ≡ true →
    ((slot : ℕ) → bit v slot ≡ true → IsReadyToIssue uses d port.0 slot) → IsStable (MayWrite (Px port Ci) v) d
readied_permitted laws uses m d port v reached a on there st ready mid s =
    let k : KeepsOverSteps d mid = laws.steps_keep _ _ s in
    let w : KeepsOutsideReset d mid = k.keeps_outside_reset on.no_reset in (
      record { ae_is_set = w.ae_is_kept ∙ on.ae_is_set; no_reset = w.no_reset },
      (there.0, ap (λ (n : ℕ). bit n port.0) k.pi_is_kept ∙ there.1),
      record {
        st_is_set = (w.controls_are_kept port.0).st_is_kept ∙ st;
        slots_are_usable = λ j b. subst (λ (n : ℕ). j ≤ n / 256 % 32) (sym k.cap_is_kept) (ready j b).slot_is_implemented;
        slots_are_free = λ j b. let h = slot_ready j b in (h.over.is_not_issued, h.over.is_not_taken);
        slots_say_commands = λ j b. ((ready j b).command, (ready j b).places, (stays j b).slot_decodes_to.decodes_to);
        sact_is_set = λ j meaning list b says q.
            (slot_ready j b).armed
            ∙ ap (λ (e : Meaning). is_queued e.operation) (sym (says_meaning mid.memory (mid.port port.0).bases.clb j meaning (ready j b).command list (ready j b).places says (stays j b).slot_decodes_to.decodes_to)) ∙ q;
      },
    )
  where
    stays : (j : ℕ) (b : bit v j ≡ true) → IsStoredOnPortWithStSet mid port.0 j (ready j b).command (ready j b).places
    stays j b = steps_stored laws uses m port.0 j (ready j b).command (ready j b).places d mid reached a on.no_reset s (ready j b).readied.stored

    slot_ready : (j : ℕ) (b : bit v j ≡ true) → ReadyTo (is_queued (ready j b).command.operation) (mid.port port.0) j
    slot_ready j b =
        let f : SimulatesSteps uses m d mid = steps_follow uses m d mid reached a s in
        served_ready (left.after m f.steps) mid port.0 j (is_queued (ready j b).command.operation) (uses port.0 j) (ready j b).readied.armed_if_queued_else_free (stays j b).st_is_set (f.state_relation.relates_slots port.0 j)

pub readied_prepared : (uses : SlotStates) (m : Machine) (d : Device) (port slot : ℕ) (c : Meaning) (places : List ℕ) (mode : QueueMode) (e : Pending) (v : ℕ) → IsStoredAndArmedIffQueued uses d port slot c places → IsEnabled m (Issue mode e) → e.request.port.0 ≡ port →
    slot < mode.usable_slots → (is_plain mode e.request.asked.op ≡ true → slot ≡ 0) → MeansRequest port slot e.request c places → is_queued c.operation ≡ not (is_plain mode e.request.asked.op) →
    HasBlockIfTrim e.request.asked.op d.memory port e.request → bit v slot ≡ true → ((k : ℕ) → k ≢ slot → bit v k ≡ false) → IsRequestPreparedToIssue uses m d port slot mode e v
readied_prepared uses m d port slot c places mode e v x may at_port usable head means kind block here alone = record {
  issue_is_enabled = may;
  port_is = at_port;
  armed_if_queued_else_free = x.armed_if_queued_else_free ∙ used_so (is_plain mode e.request.asked.op) (is_queued c.operation) kind;
  slot_is_usable = usable;
  plain_is_in_slot_0 = head;
  st_is_set = x.stored.st_is_set;
  list_is_in_place = x.stored.list_is_in_place;
  command = c;
  places = places;
  slot_decodes_to = x.stored.slot_decodes_to;
  means = means;
  queued_as_request = kind;
  has_block_if_trim = block;
  bit_is_set = here;
  no_other_bit_is_set = alone;
}

pub prepared_readied : (uses : SlotStates) (m : Machine) (d : Device) (port slot : ℕ) (mode : QueueMode) (e : Pending) (v : ℕ) → (x : IsRequestPreparedToIssue uses m d port slot mode e v) → IsStoredAndArmedIffQueued uses d port slot x.command x.places
prepared_readied uses m d port slot mode e v x = record {
  armed_if_queued_else_free = x.armed_if_queued_else_free ∙ sym (used_so (is_plain mode e.request.asked.op) (is_queued x.command.operation) x.queued_as_request);
  stored = record { st_is_set = x.st_is_set; list_is_in_place = x.list_is_in_place; slot_decodes_to = x.slot_decodes_to };
}
