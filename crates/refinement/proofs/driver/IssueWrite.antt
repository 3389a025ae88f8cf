-- The writes of SACT and CI, bit by bit, and the write that issues a command of the driver's own.
use Rattle.std.proofs.Common.{List, ℕ, true, false, ◌≡◌, [], ◌∷◌, refl, sym, ◌∙◌, ap, subst, append-nil, ◌≤◌, length, arith}
use Rattle.ata_types.specs.declared.Port.{Port}
use Rattle.ata_types.specs.declared.request.RequestId.{RequestId}
use Rattle.hba_regs.specs.declared.reg.Reg.TheVariants.{Px}
use Rattle.hba_regs.specs.declared.reg.PortReg.TheVariants as px
use Rattle.adapter.specs.Access.{Writes, device_after_write}
use Rattle.adapter.specs.Device as device
use Rattle.adapter.specs.Device.{Device}
use Rattle.adapter.specs.KeptBySteps.{KeepsOverSteps, KeepsOutsideReset}
use Rattle.adapter.specs.Steps.{Steps, with_port}
use Rattle.adapter.specs.declared.command.Operation.{Operation}
use Rattle.adapter.specs.declared.tape.Entry.{Entry}
use Rattle.adapter.proofs.KeptLemmas.{law_step_lists_keep_what_steps_keep}
use Rattle.block_machine.specs.declared.due.QueueMode.{QueueMode}
use Rattle.block_machine.specs.State.{Pending, Machine}
use Rattle.block_machine.specs.Steps.{Step, Accept, Issue, Touch, End, Age, WaitAgain, Answer, Revoke, Release, Unplug, PlugDisk, Store, Load}
use Rattle.block_machine.specs.Events.{IsByDevice}
use Rattle.block_machine.specs.Expected as left
use Rattle.block_machine.specs.Expected.{StepIsFaithful}
use Rattle.refinement.specs.Tape.{PortPlugsPutInDisks}
use Rattle.block_machine.specs.Histories.{IsReachable, IsSimulatedBySteps}
use Rattle.refinement.specs.MemoryLayout.{scratch_frame_address}
use Rattle.refinement.specs.Slots.{SlotState, Free, Own, Serves, SlotStates, set_slot_state, Armed}
use Rattle.refinement.specs.Relation.{StateRelation}
use Rattle.refinement.specs.Fragments.{IsSoleBit}
use Rattle.refinement.specs.Driver.{DriverState, DriverRelation, TapeBacksSteps, IsBackedByDeviceAlone, DriverAdvances, IsRequestPreparedToIssue, IsOwnCommandPreparedInSlot0, with_slot_serving, KeepsTablesAndScratchUnlessOwn}
use Rattle.refinement.specs.Simulation.{SimulatesSteps}
use Rattle.refinement.proofs.driver.AddedSteps.{backed, nothing_backed}
use Rattle.refinement.proofs.steps.FollowedSteps.{steps_follow}
use Rattle.refinement.proofs.steps.UnusedSlots.{steps_leave}
use Rattle.refinement.proofs.driver.PutSlot.{issue_agrees, issue_have, own_agrees, put_have, arming_agrees}
use Rattle.refinement.proofs.relation.OtherSlots.{same_plugged}
use Rattle.refinement.proofs.relation.SlotRelation.{told_on, placed_on, known_on}
use Rattle.refinement.proofs.steps.WaitingRequests.{follows_have, tells_device}
use Rattle.refinement.proofs.steps.RegisterWrites.{write_effect}

pub own_prepared_stays : (uses : SlotStates) (m : Machine) (old mid : Device) (port : ℕ) (o : Operation) (v : ℕ) → IsReachable m → StateRelation uses m old → old.hr ≡ false →
    Steps old mid → IsOwnCommandPreparedInSlot0 uses old port o v → IsOwnCommandPreparedInSlot0 uses mid port o v
own_prepared_stays uses m old mid port o v r a calm s x =
    let k : KeepsOverSteps old mid = law_step_lists_keep_what_steps_keep s in
    let c : KeepsOutsideReset old mid = k.keeps_outside_reset calm in
    let list : (mid.port port).bases.clb ≡ (old.port port).bases.clb = ap (λ (b : device.Bases). b.clb) (k.port_bits_only_fall port).bases_are_kept in
    let l : KeepsTablesAndScratchUnlessOwn uses old mid = steps_leave uses m old mid r a calm s in
    record {
      operation_is_drivers_own = x.operation_is_drivers_own;
      free = x.free;
      st_is_set = (c.controls_are_kept port).st_is_kept ∙ x.st_is_set;
      list_is_in_place = placed_on (old.port port) (mid.port port) port 0 list x.list_is_in_place;
      command = x.command;
      operation_is = x.operation_is;
      slot_decodes_to = told_on old.memory mid.memory (old.port port).bases.clb (mid.port port).bases.clb port 0 x.command (scratch_frame_address port ∷ []) x.list_is_in_place.list list (λ at t. l.tables port 0 at x.list_is_in_place.port_below x.list_is_in_place.slot_below t) x.slot_decodes_to;
      st_set_is_on_tape = subst (λ (t : List Entry). (mid.port port).notes.st_set_at ≤ length t) (sym k.tape_grows)
          (known_on old.tape k.new_entries (mid.port port).notes.st_set_at (let s : (mid.port port).notes.st_set_at ≡ (old.port port).notes.st_set_at = ap (λ (w : device.Notes). w.st_set_at) (k.notes_are_kept port) in let h = x.st_set_is_on_tape in omega (arith, s, h)));
      bit_is_set = x.bit_is_set;
      no_other_bit_is_set = x.no_other_bit_is_set;
    }

-- a step of the driver's own, with no access
pub own_backed : (d : Device) (m : Machine) (step : Step) → (IsByDevice step → ⊥) → TapeBacksSteps d d m (step ∷ [])
own_backed d m step own = record {
  disks_tell_sectors_is_same = refl;
  new_entries = [];
  tape_is = sym (append-nil d.tape);
  tells_device_steps = (tt, own);
  steps_are_faithful = λ _. (tt, told step own);
  plugged_disks_match_steps = λ q. ([], sym (append-nil (d.port q).plug_history), puts step own q);
}
  where
    told : (s : Step) → (IsByDevice s → ⊥) → StepIsFaithful m s
    told (Touch e i block) o = absurd (o tt)
    told (End e) o = tt
    told (Unplug port) o = tt
    told (PlugDisk port name size disk) o = absurd (o tt)
    told (Accept r) o = tt
    told (Issue mode e) o = tt
    told (Age ready) o = tt
    told (WaitAgain e) o = tt
    told (Answer e outcome) o = tt
    told (Revoke client number) o = tt
    told Release o = tt
    told (Store client frame offset bytes) o = tt
    told (Load client frame offset bytes) o = tt

    puts : (s : Step) → (IsByDevice s → ⊥) → (q : ℕ) → PortPlugsPutInDisks q [] (s ∷ [])
    puts (PlugDisk port name size disk) o q = absurd (o tt)
    puts (Touch e i block) o q = refl
    puts (End e) o q = refl
    puts (Unplug port) o q = refl
    puts (Accept r) o q = refl
    puts (Issue mode e) o q = refl
    puts (Age ready) o q = refl
    puts (WaitAgain e) o q = refl
    puts (Answer e outcome) o q = refl
    puts (Revoke client number) o q = refl
    puts Release o q = refl
    puts (Store client frame offset bytes) o q = refl
    puts (Load client frame offset bytes) o q = refl

-- ---- bits that are written in turn

-- what is backed stays so as a port is changed that has the same disks
backed_on : (old mid : Device) (m : Machine) (steps : List Step) (port : ℕ) (p : device.DevicePort) → p.plug_history ≡ (mid.port port).plug_history → TapeBacksSteps old mid m steps → TapeBacksSteps old (with_port mid port p) m steps
backed_on old mid m steps port p same b = record {
  disks_tell_sectors_is_same = b.disks_tell_sectors_is_same;
  new_entries = b.new_entries;
  tape_is = b.tape_is;
  tells_device_steps = b.tells_device_steps;
  steps_are_faithful = b.steps_are_faithful;
  plugged_disks_match_steps = λ q. let z = b.plugged_disks_match_steps q in (z.0, same_plugged mid port p same q ∙ z.1, z.2);
}

-- a slot is armed: no step of the machine
pub bit_arms : (k : DriverState) (m : Machine) (port : Port) (slot v : ℕ) → DriverRelation m k → k.slot_states port.0 slot ≡ Free → (k.device.port port.0).st ≡ true → IsSoleBit slot v →
    DriverAdvances k m [] (record k { slot_states = set_slot_state k.slot_states port.0 slot Armed; device = device_after_write (Px port px.Sact) v k.device })
bit_arms k m port slot v knows free st sole = record {
  steps_are_enabled = tt;
  is_backed = backed_on k.device k.device m [] port.0 _ refl (nothing_backed k.device m);
  driver_relation = record {
    state_relation = arming_agrees k.slot_states m k.device knows.state_relation port.0 slot v free st sole.bit_is_set sole.no_other_bit_is_set;
    have_slots_unless_parked = λ q. put_have k.slot_states m port.0 slot Armed q (k.awaiting_disposition q) (λ id u. absurd (let z : Free ≡ Serves id = sym free ∙ u in cc)) (knows.have_slots_unless_parked q);
  };
}

-- a request is issued
pub bit_issues : (k : DriverState) (m : Machine) (port : Port) (slot : ℕ) (mode : QueueMode) (e : Pending) (v : ℕ) → IsReachable m → DriverRelation m k → IsRequestPreparedToIssue k.slot_states m k.device port.0 slot mode e v →
    DriverAdvances k m (Issue mode e ∷ []) (with_slot_serving k port.0 slot e.request.id (device_after_write (Px port px.Ci) v k.device))
bit_issues k m port slot mode e v reached knows x = record {
  steps_are_enabled = (tt, x.issue_is_enabled);
  is_backed = backed_on k.device k.device m (Issue mode e ∷ []) port.0 _ refl (own_backed k.device m (Issue mode e) (λ z. z));
  driver_relation = record {
    state_relation = issue_agrees k.slot_states m k.device reached knows.state_relation port.0 slot mode e v x;
    have_slots_unless_parked = λ q. issue_have k.slot_states m k.device reached knows.state_relation port.0 slot mode e v x q (k.awaiting_disposition q) (knows.have_slots_unless_parked q);
  };
}

-- ---- a command of the driver's own

-- a command of the driver's own is issued: no step of the machine
pub own_adds : (k : DriverState) (port : Port) (o : Operation) (v : ℕ) (new : Device) → k.device.hr ≡ false → IsOwnCommandPreparedInSlot0 k.slot_states k.device port.0 o v → Writes (Px port px.Ci) v k.device new →
    IsSimulatedBySteps DriverRelation k (record k { slot_states = set_slot_state k.slot_states port.0 0 (Own o); device = new }) (IsBackedByDeviceAlone k.device new)
own_adds k port o v new calm x call = record {
  simulates = λ m r knows.
      let f : SimulatesSteps k.slot_states m k.device call.at_access = steps_follow k.slot_states m k.device call.at_access r knows.state_relation call.steps in
      let y : IsOwnCommandPreparedInSlot0 k.slot_states call.at_access port.0 o v = own_prepared_stays k.slot_states m k.device call.at_access port.0 o v r knows.state_relation calm call.steps x in
      let g : SimulatesSteps (set_slot_state k.slot_states port.0 0 (Own o)) m k.device new = write_effect k.slot_states (set_slot_state k.slot_states port.0 0 (Own o)) m (Px port px.Ci) v k.device new call f (own_agrees k.slot_states (left.after m f.steps) call.at_access f.state_relation port.0 o v y) in (
        g.steps,
        g.steps_are_enabled,
        record {
          state_relation = g.state_relation;
          have_slots_unless_parked = λ q. follows_have (set_slot_state k.slot_states port.0 0 (Own o)) m k.device new g q (k.awaiting_disposition q) (put_have k.slot_states m port.0 0 (Own o) q (k.awaiting_disposition q) (λ id u. free_serves x.free u) (knows.have_slots_unless_parked q));
        },
        record { is_backed = backed (set_slot_state k.slot_states port.0 0 (Own o)) m k.device new g; all_steps_are_by_device = tells_device m g.new_entries g.steps g.tape_tells_steps },
      );
}
  where
    free_serves : {u : SlotState} {id : RequestId} → u ≡ Free → u ≡ Serves id → ⊥
    free_serves a b = let e : Free ≡ Serves _ = sym a ∙ b in cc
