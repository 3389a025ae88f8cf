-- Writes that leave each slot to its use.
use Rattle.std.proofs.Common.{ℕ, ◌≡◌, ◌⊎◌, ◌<◌, Bool, true, false, not, ◌&&◌, ◌||◌, length, refl, sym, ◌∙◌, ap, subst, inl, inr, ⊎_elim, []}
use Rattle.std.specs.Prelude.{if◌then◌else◌}
use Rattle.std.proofs.lemmas.Bool.{cond-true, cond-false}
use Rattle.hba_regs.specs.Bits.{bit}
use Rattle.hba_regs.specs.declared.reg.Reg.{Reg}
use Rattle.hba_regs.specs.declared.reg.Reg.TheVariants.{Cap, Ghc, Is, Pi, Vs, Cap2, Bohc, Px}
use Rattle.hba_regs.specs.declared.reg.PortReg.{PortReg}
use Rattle.hba_regs.specs.declared.reg.PortReg.TheVariants as px
use Rattle.adapter.specs.Access.{Writes, device_after_write, port_after_write, port_after_st_write, port_after_fre_write, port_after_hba_is_write}
use Rattle.adapter.specs.Commands.{is_queued}
use Rattle.adapter.specs.Device as device
use Rattle.adapter.specs.Device.{DurableState, DevicePort, Device}
use Rattle.adapter.specs.KeptBySteps.{KeepsOverSteps}
use Rattle.adapter.specs.Rules.{MayWrite, IsStable}
use Rattle.adapter.specs.Steps.{Steps, with_port, halt_after_start}
use Rattle.adapter.proofs.KeptLemmas.{law_step_lists_keep_what_steps_keep}
use Rattle.block_machine.specs.State.{Machine}
use Rattle.block_machine.specs.Expected as left
use Rattle.block_machine.specs.Histories.{IsReachable}
use Rattle.refinement.specs.MemoryLayout.{command_list_address, received_fis_address}
use Rattle.refinement.specs.Slots.{SlotState, Free, Own, Serves, SlotStates, IsInSomeStage, OwnAwaitsFetch, OwnIsTaken, OwnIsOverWithPageIfSt, RelatesSlot, Armed, IsEmptySlot}
use Rattle.refinement.specs.Relation.{StateRelation, IsDiskOf, SameSectors, KnowsAllReplugCandidates, HasReceivedArea}
use Rattle.refinement.specs.Driver.{AllFree, StAndFreBitsMayBeWritten, KeepsSlotStates}
use Rattle.refinement.specs.Simulation.{SimulatesSteps}
use Rattle.refinement.proofs.relation.SlotRelation.{SameSlot, SameSlot-refl, served_on, own_free, serves_free, GainsNone-refl, placed_on}
use Rattle.refinement.proofs.relation.LastingSectors.{disk_of, lasting_same}
use Rattle.refinement.proofs.relation.OneSlot.{changed_at}
use Rattle.refinement.proofs.relation.OtherSlots.{true_false, same_plugged}
use Rattle.refinement.proofs.steps.AdapterCalls.{effect_on}
use Rattle.refinement.proofs.steps.FollowedSteps.{steps_follow}

-- one port is another now, with the same disk
pub port_agrees : (uses : SlotStates) (m : Machine) (d : Device) → StateRelation uses m d → (port : ℕ) (new : DevicePort) → ((k : ℕ) → RelatesSlot m d.memory d.tape new port k (uses port k)) →
    (new.fre ≡ true → HasReceivedArea new port) → new.present ≡ (d.port port).present → disk_of new ≡ disk_of (d.port port) → StateRelation uses m (with_port d port new)
port_agrees uses m d a port new slots receives present disk = record {
  relates_slots = λ q k. changed_at d.port port new (λ x p. RelatesSlot m d.memory d.tape p x k (uses x k)) (slots k) (λ x _. a.relates_slots x k) q;
  serve_distinct_requests = a.serve_distinct_requests;
  received_areas_in_use_are_placed = changed_at d.port port new (λ k p. p.fre ≡ true → HasReceivedArea p k) receives (λ k _. a.received_areas_in_use_are_placed k);
  disks_are_same = changed_at d.port port new (λ k p. IsDiskOf m p k)
      (record {
        present = (a.disks_are_same port).present ∙ sym present;
        id = (a.disks_are_same port).id ∙ ap (λ (x : device.Disk × DurableState). x.0.name) (sym disk);
        sector_count = (a.disks_are_same port).sector_count ∙ ap (λ (x : device.Disk × DurableState). x.0.sector_count) (sym disk);
      })
      (λ k _. a.disks_are_same k);
  client_frames_are_same = a.client_frames_are_same;
  sectors_are_same_if_disks_tell = λ t. changed_at d.port port new (λ k p. SameSectors m p.disk k) (subst (λ (x : device.Disk × DurableState). SameSectors m x.0 port) (sym disk) (a.sectors_are_same_if_disks_tell t port)) (λ k _. a.sectors_are_same_if_disks_tell t k);
  knows_replug_candidates_if_disks_tell = λ t. changed_at d.port port new (λ k p. KnowsAllReplugCandidates m d.tape p k) (lasting_same m d.tape (d.port port) new port disk (a.knows_replug_candidates_if_disks_tell t port)) (λ k _. a.knows_replug_candidates_if_disks_tell t k);
}

-- a slot that looks the same, in a memory that is the same
pub slot_stays : (m : Machine) (d : Device) (p new : DevicePort) (port slot : ℕ) (u : SlotState) → SameSlot p new slot → RelatesSlot m d.memory d.tape p port slot u → RelatesSlot m d.memory d.tape new port slot u
slot_stays m d p new port slot u same h =
    served_on m m d.memory d.memory d.tape d.tape p new port slot u same (λ _ _ _ y z. refl) (λ _ _ _ y z. refl) (λ o _ _. GainsNone-refl d.tape port o) (λ _ _ _ _ r. r) h

pub or_false : (b : Bool) → b || false ≡ b
or_false true = refl
or_false false = refl

module _ (uses : SlotStates) (m : Machine) (d : Device) (a : StateRelation uses m d) (port : ℕ) where
  received_on : (new : DevicePort) → new.fre ≡ (d.port port).fre → new.bases.fb ≡ (d.port port).bases.fb → new.fre ≡ true → HasReceivedArea new port
  received_on new fre fb f = let r = a.received_areas_in_use_are_placed port (sym fre ∙ f) in record { port_is_below_4 = r.port_is_below_4; area_is_in_place = fb ∙ r.area_is_in_place }

  -- a port that looks the same
  pub alike : (new : DevicePort) → ((k : ℕ) → SameSlot (d.port port) new k) → new.fre ≡ (d.port port).fre → new.bases.fb ≡ (d.port port).bases.fb →
      new.present ≡ (d.port port).present → disk_of new ≡ disk_of (d.port port) → StateRelation uses m (with_port d port new)
  alike new same fre fb present disk =
      port_agrees uses m d a port new (λ k. slot_stays m d (d.port port) new port k (uses port k) (same k) (a.relates_slots port k)) (received_on new fre fb) present disk

  -- ---- PxCLB

  listed_slot : (v k : ℕ) (u : SlotState) → (v ≡ command_list_address port) ⊎ (u ≡ Free) → RelatesSlot m d.memory d.tape (d.port port) port k u →
      RelatesSlot m d.memory d.tape (record (d.port port) { bases = record (d.port port).bases { clb = v; clb_set = true } }) port k u
  listed_slot v k Free at h = record { is_not_issued = h.is_not_issued; is_not_taken = h.is_not_taken; unarmed = h.unarmed }
  listed_slot v k Armed at h = record { is_not_issued = h.is_not_issued; is_not_taken = h.is_not_taken; armed = h.armed }
  listed_slot v k (Own o) at h = slot_stays m d (d.port port) _ port k (Own o)
      (record { issued = refl; sact = refl; taken = refl; st = refl; cr = refl; since = refl; list = ⊎_elim (λ (e : v ≡ command_list_address port). e ∙ sym h.list_is_in_place.list) (λ (f : Own o ≡ Free). absurd (own_free f)) at }) h
  listed_slot v k (Serves id) at h = slot_stays m d (d.port port) _ port k (Serves id)
      (record { issued = refl; sact = refl; taken = refl; st = refl; cr = refl; since = refl; list = ⊎_elim (λ (e : v ≡ command_list_address port). e ∙ sym h.list_is_in_place.list) (λ (f : Serves id ≡ Free). absurd (serves_free f)) at }) h

  listed : (v : ℕ) → (v ≡ command_list_address port) ⊎ AllFree uses port → StateRelation uses m (with_port d port (record (d.port port) { bases = record (d.port port).bases { clb = v; clb_set = true } }))
  listed v at = port_agrees uses m d a port _
      (λ k. listed_slot v k (uses port k) (⊎_elim (λ (e : v ≡ command_list_address port). inl e) (λ (f : AllFree uses port). inr (f k)) at) (a.relates_slots port k))
      (λ f. let r = a.received_areas_in_use_are_placed port f in record { port_is_below_4 = r.port_is_below_4; area_is_in_place = r.area_is_in_place }) refl refl

  -- ---- PxSACT, with no bit

  armed : (v : ℕ) → ((k : ℕ) → bit v k ≡ false) → StateRelation uses m (with_port d port (record (d.port port) { sact = λ s. (d.port port).sact s || bit v s }))
  armed v none = alike _
      (λ k. record { issued = refl; sact = ap (λ (b : Bool). (d.port port).sact k || b) (none k) ∙ or_false ((d.port port).sact k); taken = refl; st = refl; cr = refl; since = refl; list = refl }) refl refl refl refl

  -- ---- PxCMD

  fallen_bit : (b : Bool) (f : ℕ → Bool) (slot : ℕ) → (b ≡ false → f slot ≡ false) → (if b then (λ _. false) else f) slot ≡ false
  fallen_bit true f slot h = refl
  fallen_bit false f slot h = h refl

  -- ST is cleared: what waited is given up, and what is taken goes on
  stopped_slot : (tape k : ℕ) (fre : Bool) (u : SlotState) → RelatesSlot m d.memory d.tape (d.port port) port k u → RelatesSlot m d.memory d.tape (port_after_fre_write fre (port_after_st_write false tape (d.port port))) port k u
  stopped_slot tape k fre Free h = record {
    is_not_issued = fallen_bit (d.port port).st (d.port port).ci k (λ _. h.is_not_issued);
    is_not_taken = h.is_not_taken;
    unarmed = fallen_bit (d.port port).st (d.port port).sact k (λ _. h.unarmed);
  }
  stopped_slot tape k fre Armed h = record {
    is_not_issued = fallen_bit (d.port port).st (d.port port).ci k (λ _. h.is_not_issued);
    is_not_taken = h.is_not_taken;
    armed = fallen_bit (d.port port).st (d.port port).sact k (λ s. h.armed ∙ s);
  }
  stopped_slot tape k fre (Own o) h = record {
    operation_is_drivers_own = h.operation_is_drivers_own;
    slot_is_0 = h.slot_is_0;
    list_is_in_place = placed_on (d.port port) _ port k refl h.list_is_in_place;
    command = h.command;
    operation_is = h.operation_is;
    slot_decodes_to = h.slot_decodes_to;
    unqueued = fallen_bit (d.port port).st (d.port port).sact k (λ _. h.unqueued);
    st_set_is_on_tape = h.st_set_is_on_tape;
    stage = stage h.stage;
  }
    where
      stage : OwnAwaitsFetch (d.port port) k ⊎ (OwnIsTaken d.memory d.tape (d.port port) port k h.command ⊎ OwnIsOverWithPageIfSt d.memory d.tape (d.port port) port k h.command)
          → OwnAwaitsFetch (port_after_fre_write fre (port_after_st_write false tape (d.port port))) k ⊎ (OwnIsTaken d.memory d.tape (port_after_fre_write fre (port_after_st_write false tape (d.port port))) port k h.command ⊎ OwnIsOverWithPageIfSt d.memory d.tape (port_after_fre_write fre (port_after_st_write false tape (d.port port))) port k h.command)
      stage (inl w) = inr (inr (record { over = record { is_not_issued = fallen_bit (d.port port).st (d.port port).ci k (λ s. true_false w.started s); is_not_taken = w.is_not_taken }; page_stands_in_scratch_if_st = inl refl }))
      stage (inr (inl t)) = inr (inl (record {
        command = t.command;
        taken = t.taken;
        meaning = t.meaning;
        places_are = t.places_are;
        running = t.running;
        issued = fallen_bit (d.port port).st (d.port port).ci k (λ s. t.issued ∙ s);
        page_stands_in_scratch_if_moved = t.page_stands_in_scratch_if_moved;
      }))
      stage (inr (inr x)) = inr (inr (record { over = record { is_not_issued = fallen_bit (d.port port).st (d.port port).ci k (λ _. x.over.is_not_issued); is_not_taken = x.over.is_not_taken }; page_stands_in_scratch_if_st = inl refl }))
  stopped_slot tape k fre (Serves id) h = record {
    pending = h.pending;
    may_still_move = h.may_still_move;
    id_is = h.id_is;
    port_is = h.port_is;
    list_is_in_place = placed_on (d.port port) _ port k refl h.list_is_in_place;
    command = h.command;
    places = h.places;
    slot_decodes_to = h.slot_decodes_to;
    means = h.means;
    stage = stage h.stage;
  }
    where
      stage : IsInSomeStage d.memory (d.port port) port k h.pending h.command h.places → IsInSomeStage d.memory (port_after_fre_write fre (port_after_st_write false tape (d.port port))) port k h.pending h.command h.places
      stage (inl w) = inr (inr (inr (record {
        st_is_clear = refl;
        is_not_issued = fallen_bit (d.port port).st (d.port port).ci k (λ s. true_false w.started s);
        sact_is_clear = fallen_bit (d.port port).st (d.port port).sact k (λ s. true_false w.started s);
        is_not_taken = w.is_not_taken;
        unended = w.unended;
      })))
      stage (inr (inl t)) = inr (inl (record {
        command = t.command;
        taken = t.taken;
        meaning = t.meaning;
        places_are = t.places_are;
        running = t.running;
        ci_is_set_iff_st_and_plain = fallen_bit (d.port port).st (d.port port).ci k (λ s. t.ci_is_set_iff_st_and_plain ∙ ap (λ (b : Bool). b && not (is_queued h.command.operation)) s);
        sact = fallen_bit (d.port port).st (d.port port).sact k (λ s. t.sact ∙ ap (λ (b : Bool). b && is_queued h.command.operation) s);
        progress = t.progress;
        unended = t.unended;
      }))
      stage (inr (inr (inl x))) = inr (inr (inl (record {
        is_not_issued = fallen_bit (d.port port).st (d.port port).ci k (λ _. x.is_not_issued);
        sact_is_clear = fallen_bit (d.port port).st (d.port port).sact k (λ _. x.sact_is_clear);
        is_not_taken = x.is_not_taken;
        ended = x.ended;
        touched = x.touched;
      })))
      stage (inr (inr (inr x))) = inr (inr (inr (record {
        st_is_clear = refl;
        is_not_issued = fallen_bit (d.port port).st (d.port port).ci k (λ _. x.is_not_issued);
        sact_is_clear = fallen_bit (d.port port).st (d.port port).sact k (λ _. x.sact_is_clear);
        is_not_taken = x.is_not_taken;
        unended = x.unended;
      })))

  receives : (v tape : ℕ) (b : Bool) → (bit v 4 ≡ true → (port < 4) × ((d.port port).bases.fb ≡ received_fis_address port)) → (new : DevicePort) → new.fre ≡ bit v 4 → new.bases.fb ≡ (d.port port).bases.fb → new.fre ≡ true → HasReceivedArea new port
  receives v tape b area new fre fb f = let r = area (sym fre ∙ f) in record { port_is_below_4 = r.0; area_is_in_place = fb ∙ r.1 }

  commanded_by : (v tape : ℕ) → StAndFreBitsMayBeWritten uses port v (d.port port) → (b : Bool) → bit v 0 ≡ b → StateRelation uses m (with_port d port (port_after_fre_write (bit v 4) (port_after_st_write b tape (d.port port))))
  commanded_by v tape c false e =
      port_agrees uses m d a port (port_after_fre_write (bit v 4) (port_after_st_write false tape (d.port port))) (λ k. stopped_slot tape k (bit v 4) (uses port k) (a.relates_slots port k))
      (receives v tape false c.receive _ refl refl) refl refl
  commanded_by v tape c true e = running (d.port port).st refl
    where
      going : (d.port port).st ≡ true → StateRelation uses m (with_port d port (port_after_fre_write (bit v 4) (port_after_st_write true tape (d.port port))))
      going s =
          let same : port_after_st_write true tape (d.port port) ≡ d.port port = cond-true (d.port port).st _ _ s in
          subst (λ (p : DevicePort). StateRelation uses m (with_port d port (port_after_fre_write (bit v 4) p))) (sym same)
          (port_agrees uses m d a port (port_after_fre_write (bit v 4) (d.port port))
          (λ k. slot_stays m d (d.port port) _ port k (uses port k) (record { issued = refl; sact = refl; taken = refl; st = refl; cr = refl; since = refl; list = refl }) (a.relates_slots port k))
          (receives v tape true c.receive _ refl refl) refl refl)

      over : (k : ℕ) → uses port k ≡ Free → IsEmptySlot (d.port port) k
      over k f = subst (λ (u : SlotState). RelatesSlot m d.memory d.tape (d.port port) port k u) f (a.relates_slots port k)

      started : DevicePort
      started = record (d.port port) { st = true; cr = true; broken = false; halt = halt_after_start (d.port port).halt; notes = record (d.port port).notes { st_set_at = tape } }

      starting : (d.port port).st ≡ false → StateRelation uses m (with_port d port (port_after_fre_write (bit v 4) (port_after_st_write true tape (d.port port))))
      starting s =
          let free : AllFree uses port = ⊎_elim (λ (t : (d.port port).st ≡ true). true_false t s) (λ (f : AllFree uses port). f) (c.start e) in
          let same : port_after_st_write true tape (d.port port) ≡ record (d.port port) { st = true; cr = true; broken = false; halt = halt_after_start (d.port port).halt; notes = record (d.port port).notes { st_set_at = tape } } = cond-false (d.port port).st _ _ s in
          subst (λ (p : DevicePort). StateRelation uses m (with_port d port (port_after_fre_write (bit v 4) p))) (sym same)
          (port_agrees uses m d a port
          (port_after_fre_write (bit v 4) (record (d.port port) { st = true; cr = true; broken = false; halt = halt_after_start (d.port port).halt; notes = record (d.port port).notes { st_set_at = tape } }))
          (λ k. subst (λ (u : SlotState). RelatesSlot m d.memory d.tape (port_after_fre_write (bit v 4) (record (d.port port) { st = true; cr = true; broken = false; halt = halt_after_start (d.port port).halt; notes = record (d.port port).notes { st_set_at = tape } })) port k u) (sym (free k))
          (let o = over k (free k) in record { is_not_issued = o.is_not_issued; is_not_taken = o.is_not_taken; unarmed = o.unarmed }))
          (receives v tape true c.receive _ refl refl) refl refl)

      running : (s : Bool) → (d.port port).st ≡ s → StateRelation uses m (with_port d port (port_after_fre_write (bit v 4) (port_after_st_write true tape (d.port port))))
      running true s = going s
      running false s = starting s

  commanded : (v tape : ℕ) → StAndFreBitsMayBeWritten uses port v (d.port port) → StateRelation uses m (with_port d port (port_after_fre_write (bit v 4) (port_after_st_write (bit v 0) tape (d.port port))))
  commanded v tape c = commanded_by v tape c (bit v 0) refl

  -- ---- each register of the port

  port_written_agrees : (r : PortReg) (v : ℕ) → ((d.port port).fre ≡ true → r ≡ px.Fb → ⊥) → KeepsSlotStates uses (Px (record { 0 = port }) r) v d → StateRelation uses m (with_port d port (port_after_write r v (length d.tape) (d.port port)))
  port_written_agrees px.Clb v off x = listed v x
  port_written_agrees px.Clbu v off x = alike _ (λ k. record { issued = refl; sact = refl; taken = refl; st = refl; cr = refl; since = refl; list = refl }) refl refl refl refl
  port_written_agrees px.Fb v off x = port_agrees uses m d a port _
      (λ k. slot_stays m d (d.port port) _ port k (uses port k) (record { issued = refl; sact = refl; taken = refl; st = refl; cr = refl; since = refl; list = refl }) (a.relates_slots port k))
      (λ f. absurd (off f refl)) refl refl
  port_written_agrees px.Fbu v off x = alike _ (λ k. record { issued = refl; sact = refl; taken = refl; st = refl; cr = refl; since = refl; list = refl }) refl refl refl refl
  port_written_agrees px.Is v off x = alike _ (λ k. record { issued = refl; sact = refl; taken = refl; st = refl; cr = refl; since = refl; list = refl }) refl refl refl refl
  port_written_agrees px.Ie v off x = alike _ (λ k. record { issued = refl; sact = refl; taken = refl; st = refl; cr = refl; since = refl; list = refl }) refl refl refl refl
  port_written_agrees px.Cmd v off x = commanded v (length d.tape) x
  port_written_agrees px.Tfd v off x = alike _ (λ k. record { issued = refl; sact = refl; taken = refl; st = refl; cr = refl; since = refl; list = refl }) refl refl refl refl
  port_written_agrees px.Sig v off x = alike _ (λ k. record { issued = refl; sact = refl; taken = refl; st = refl; cr = refl; since = refl; list = refl }) refl refl refl refl
  port_written_agrees px.Ssts v off x = alike _ (λ k. record { issued = refl; sact = refl; taken = refl; st = refl; cr = refl; since = refl; list = refl }) refl refl refl refl
  port_written_agrees px.Sctl v off x = alike _ (λ k. record { issued = refl; sact = refl; taken = refl; st = refl; cr = refl; since = refl; list = refl }) refl refl refl refl
  port_written_agrees px.Serr v off x = alike _ (λ k. record { issued = refl; sact = refl; taken = refl; st = refl; cr = refl; since = refl; list = refl }) refl refl refl refl
  port_written_agrees px.Sact v off x = armed v x
  port_written_agrees px.Ci v off x = alike _
      (λ k. record { issued = ap (λ (b : Bool). (d.port port).ci k || b) (x k) ∙ or_false ((d.port port).ci k); sact = refl; taken = refl; st = refl; cr = refl; since = refl; list = refl }) refl refl refl refl

-- ---- each register

module _ (uses : SlotStates) (m : Machine) (d : Device) (a : StateRelation uses m d) where
  -- the ports look the same
  all_alike : (new : ℕ → DevicePort) → ((q k : ℕ) → SameSlot (d.port q) (new q) k) → ((q : ℕ) → (new q).fre ≡ (d.port q).fre) → ((q : ℕ) → (new q).bases ≡ (d.port q).bases) →
      ((q : ℕ) → (new q).present ≡ (d.port q).present) → ((q : ℕ) → disk_of (new q) ≡ disk_of (d.port q)) → StateRelation uses m (record d { port = new })
  all_alike new same fre bases present disk = record {
    relates_slots = λ q k. slot_stays m d (d.port q) (new q) q k (uses q k) (same q k) (a.relates_slots q k);
    serve_distinct_requests = a.serve_distinct_requests;
    received_areas_in_use_are_placed = λ q f. let r = a.received_areas_in_use_are_placed q (sym (fre q) ∙ f) in record { port_is_below_4 = r.port_is_below_4; area_is_in_place = ap (λ (b : device.Bases). b.fb) (bases q) ∙ r.area_is_in_place };
    disks_are_same = λ q. record {
      present = (a.disks_are_same q).present ∙ sym (present q);
      id = (a.disks_are_same q).id ∙ ap (λ (x : device.Disk × DurableState). x.0.name) (sym (disk q));
      sector_count = (a.disks_are_same q).sector_count ∙ ap (λ (x : device.Disk × DurableState). x.0.sector_count) (sym (disk q));
    };
    client_frames_are_same = a.client_frames_are_same;
    sectors_are_same_if_disks_tell = λ t q. subst (λ (x : device.Disk × DurableState). SameSectors m x.0 q) (sym (disk q)) (a.sectors_are_same_if_disks_tell t q);
    knows_replug_candidates_if_disks_tell = λ t q. lasting_same m d.tape (d.port q) (new q) q (disk q) (a.knows_replug_candidates_if_disks_tell t q);
  }

  told_on : (v : ℕ) → StateRelation uses m (device_after_write Is v d)
  told_on v = all_alike (λ q. if bit v q then port_after_hba_is_write (d.port q) else d.port q)
      (λ q k. same q k (bit v q)) (λ q. fre q (bit v q)) (λ q. bases q (bit v q)) (λ q. present q (bit v q)) (λ q. disk q (bit v q))
    where
      same : (q k : ℕ) (b : Bool) → SameSlot (d.port q) (if b then port_after_hba_is_write (d.port q) else d.port q) k
      same q k true = record { issued = refl; sact = refl; taken = refl; st = refl; cr = refl; since = refl; list = refl }
      same q k false = SameSlot-refl (d.port q) k

      fre : (q : ℕ) (b : Bool) → (if b then port_after_hba_is_write (d.port q) else d.port q).fre ≡ (d.port q).fre
      fre q true = refl
      fre q false = refl

      bases : (q : ℕ) (b : Bool) → (if b then port_after_hba_is_write (d.port q) else d.port q).bases ≡ (d.port q).bases
      bases q true = refl
      bases q false = refl

      present : (q : ℕ) (b : Bool) → (if b then port_after_hba_is_write (d.port q) else d.port q).present ≡ (d.port q).present
      present q true = refl
      present q false = refl

      disk : (q : ℕ) (b : Bool) → disk_of (if b then port_after_hba_is_write (d.port q) else d.port q) ≡ disk_of (d.port q)
      disk q true = refl
      disk q false = refl

  pub written_agrees : (r : Reg) (v : ℕ) → MayWrite r v d → KeepsSlotStates uses r v d → StateRelation uses m (device_after_write r v d)
  written_agrees (Px port r) v may x = port_written_agrees uses m d a port.0 r v (λ f is. off r is may f) x
    where
      -- PxFB is written with FRE clear
      off : (s : PortReg) → s ≡ px.Fb → MayWrite (Px port s) v d → (d.port port.0).fre ≡ true → ⊥
      off s is may on = let y = subst (λ (t : PortReg). MayWrite (Px port t) v d) is may in true_false on y.2.1
  written_agrees Ghc v may x = record { relates_slots = a.relates_slots; serve_distinct_requests = a.serve_distinct_requests; received_areas_in_use_are_placed = a.received_areas_in_use_are_placed; disks_are_same = a.disks_are_same; client_frames_are_same = a.client_frames_are_same; sectors_are_same_if_disks_tell = a.sectors_are_same_if_disks_tell; knows_replug_candidates_if_disks_tell = a.knows_replug_candidates_if_disks_tell }
  written_agrees Is v may x = told_on v
  written_agrees Cap v may x = a
  written_agrees Pi v may x = a
  written_agrees Vs v may x = a
  written_agrees Cap2 v may x = a
  written_agrees Bohc v may x = a

-- ---- the call

-- what is asked of the write stays so, whatever the device does first
leaves_on : (uses : SlotStates) (r : Reg) (v : ℕ) (old mid : Device) → IsStable (MayWrite r v) old → Steps old mid → KeepsSlotStates uses r v old → KeepsSlotStates uses r v mid
leaves_on uses (Px port px.Cmd) v old mid may s x =
    let k : KeepsOverSteps old mid = law_step_lists_keep_what_steps_keep s in
    let hr : old.hr ≡ false = (may old (record { steps = []; lead = refl })).0.no_reset in
    record {
      start = λ b. ⊎_elim (λ (t : (old.port port.0).st ≡ true). inl (((k.keeps_outside_reset hr).controls_are_kept port.0).st_is_kept ∙ t)) (λ (f : AllFree uses port.0). inr f) (x.start b);
      receive = λ b. let y = x.receive b in (y.0, ap (λ (z : device.Bases). z.fb) (k.port_bits_only_fall port.0).bases_are_kept ∙ y.1);
    }
leaves_on uses (Px port px.Clb) v old mid may s x = x
leaves_on uses (Px port px.Sact) v old mid may s x = x
leaves_on uses (Px port px.Ci) v old mid may s x = x
leaves_on uses (Px port px.Clbu) v old mid may s x = tt
leaves_on uses (Px port px.Fb) v old mid may s x = tt
leaves_on uses (Px port px.Fbu) v old mid may s x = tt
leaves_on uses (Px port px.Is) v old mid may s x = tt
leaves_on uses (Px port px.Ie) v old mid may s x = tt
leaves_on uses (Px port px.Tfd) v old mid may s x = tt
leaves_on uses (Px port px.Sig) v old mid may s x = tt
leaves_on uses (Px port px.Ssts) v old mid may s x = tt
leaves_on uses (Px port px.Sctl) v old mid may s x = tt
leaves_on uses (Px port px.Serr) v old mid may s x = tt
leaves_on uses Ghc v old mid may s x = tt
leaves_on uses Is v old mid may s x = tt
leaves_on uses Cap v old mid may s x = tt
leaves_on uses Pi v old mid may s x = tt
leaves_on uses Vs v old mid may s x = tt
leaves_on uses Cap2 v old mid may s x = tt
leaves_on uses Bohc v old mid may s x = tt

written_tape : (r : Reg) (v : ℕ) (d : Device) → (device_after_write r v d).tape ≡ d.tape
written_tape (Px port r) v d = refl
written_tape Ghc v d = refl
written_tape Is v d = refl
written_tape Cap v d = refl
written_tape Pi v d = refl
written_tape Vs v d = refl
written_tape Cap2 v d = refl
written_tape Bohc v d = refl

pub written_telling : (r : Reg) (v : ℕ) (d : Device) → (device_after_write r v d).disks_tell_sectors ≡ d.disks_tell_sectors
written_telling (Px port r) v d = refl
written_telling Ghc v d = refl
written_telling Is v d = refl
written_telling Cap v d = refl
written_telling Pi v d = refl
written_telling Vs v d = refl
written_telling Cap2 v d = refl
written_telling Bohc v d = refl

-- no write puts a disk in
port_plugged : (r : PortReg) (v tape : ℕ) (p : DevicePort) → (port_after_write r v tape p).plug_history ≡ p.plug_history
port_plugged px.Cmd v tape p = by (bit v 0) p.st refl
  where
    by : (b s : Bool) → p.st ≡ s → (port_after_fre_write (bit v 4) (port_after_st_write b tape p)).plug_history ≡ p.plug_history
    by false s e = refl
    by true true e = ap (λ (q : DevicePort). q.plug_history) (cond-true p.st _ _ e)
    by true false e = ap (λ (q : DevicePort). q.plug_history) (cond-false p.st _ _ e)
port_plugged px.Clb v tape p = refl
port_plugged px.Clbu v tape p = refl
port_plugged px.Fb v tape p = refl
port_plugged px.Fbu v tape p = refl
port_plugged px.Is v tape p = refl
port_plugged px.Ie v tape p = refl
port_plugged px.Tfd v tape p = refl
port_plugged px.Sig v tape p = refl
port_plugged px.Ssts v tape p = refl
port_plugged px.Sctl v tape p = refl
port_plugged px.Serr v tape p = refl
port_plugged px.Sact v tape p = refl
port_plugged px.Ci v tape p = refl

pub written_plugged : (r : Reg) (v : ℕ) (d : Device) (q : ℕ) → ((device_after_write r v d).port q).plug_history ≡ (d.port q).plug_history
written_plugged (Px port r) v d q = same_plugged d port.0 _ (port_plugged r v (length d.tape) (d.port port.0)) q
written_plugged Is v d q = by (bit v q)
  where
    by : (b : Bool) → (if b then port_after_hba_is_write (d.port q) else d.port q).plug_history ≡ (d.port q).plug_history
    by true = refl
    by false = refl
written_plugged Ghc v d q = refl
written_plugged Cap v d q = refl
written_plugged Pi v d q = refl
written_plugged Vs v d q = refl
written_plugged Cap2 v d q = refl
written_plugged Bohc v d q = refl

-- a write's effect after what the device did first
pub write_effect : (uses others : SlotStates) (m : Machine) (r : Reg) (v : ℕ) (old new : Device) (call : Writes r v old new) → (f : SimulatesSteps uses m old call.at_access) → StateRelation others (left.after m f.steps) (device_after_write r v call.at_access) → SimulatesSteps others m old new
write_effect uses others m r v old new call f agrees =
    subst (λ (d : Device). SimulatesSteps others m old d) (sym call.effect)
    (effect_on uses others m old call.at_access (device_after_write r v call.at_access) f (written_telling r v call.at_access) (written_tape r v call.at_access) (written_plugged r v call.at_access) agrees)

pub write_follows : (uses : SlotStates) (m : Machine) (r : Reg) (v : ℕ) (old new : Device) → IsReachable m → StateRelation uses m old → IsStable (MayWrite r v) old → KeepsSlotStates uses r v old → Writes r v old new → SimulatesSteps uses m old new
write_follows uses m r v old new reached a may x call =
    let f : SimulatesSteps uses m old call.at_access = steps_follow uses m old call.at_access reached a call.steps in
    write_effect uses uses m r v old new call f
    (written_agrees uses (left.after m f.steps) call.at_access f.state_relation r v (may call.at_access call.steps) (leaves_on uses r v old call.at_access may call.steps x))
