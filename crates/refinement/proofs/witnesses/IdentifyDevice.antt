-- IDENTIFY DEVICE in slot 0, byte by byte, and how its page comes.
use Rattle.std.proofs.Common.{ℕ, ◌≡◌, ◌==◌, true, false, [], ◌∷◌, refl, sym, ◌∙◌, ap, arith, inl}
use Rattle.std.proofs.lemmas.Nat.Bits.{bit_at-zero}
use Rattle.hba_regs.specs.Bits.{bit}
use Rattle.hba_regs.specs.declared.reg.Reg.TheVariants.{Px}
use Rattle.hba_regs.specs.declared.reg.PortReg.TheVariants.{Ci}
use Rattle.adapter.specs.Access.{Reads, device_after_reading}
use Rattle.adapter.specs.Commands.{Meaning}
use Rattle.adapter.specs.Device.{IsValidSector, FetchedCommand, Device}
use Rattle.adapter.specs.FirstRead.{first_memory, first_disk_sector}
use Rattle.adapter.specs.Memory.{patched, bytes_at, changed}
use Rattle.adapter.specs.Steps.{Can, Steps, device_after, newly_fetched}
use Rattle.adapter.specs.Steps.DeviceTransition.{Fetch, Move, Done}
use Rattle.adapter.specs.declared.command.Operation.TheVariants.{Identify, Trim}
use Rattle.adapter.proofs.FirstRead.{first_sane}
use Rattle.block_machine.specs.Histories.{IsReachable}
use Rattle.block_machine.specs.State.{Machine}
use Rattle.refinement.specs.StepLaws.{StepLaws}
use Rattle.refinement.specs.Relation.{port_at}
use Rattle.refinement.specs.Driver.{DriverRelation, IsOwnCommandPreparedInSlot0, idle_driver_state}
use Rattle.refinement.specs.MemoryLayout.{scratch_frame_address}
use Rattle.refinement.specs.Slots.{Free, Own, Serves, SlotDecodesTo}
use Rattle.refinement.specs.ReadWitness.{identify_memory, prepared_identify, issued_identify, own_driver_state, OwnCommandAgrees}
use Rattle.refinement.proofs.relation.OneSlot.{changed_at}
use Rattle.refinement.proofs.driver.EndedRequests.{page_is_read}
use Rattle.refinement.proofs.driver.PermittedAccesses.{issuing_page_command_is_permitted}
use Rattle.refinement.proofs.driver.PutSlot.{put_same, put_have, own_agrees}
use Rattle.refinement.proofs.witnesses.SpeltSlot.{page_told, zeros_from}
use Rattle.refinement.proofs.witnesses.FirstRead.{start_with, starts_with, ready_knows, can_take, bit_one_other}

-- ---- what the bytes say

abbrev identify : Meaning
identify = record { operation = Identify; first = 0; count = 0 }

told : SlotDecodesTo identify_memory 0 0 0 identify (scratch_frame_address 0 ∷ [])
unfolding identify_memory first_memory patched bytes_at zeros_from
told = page_told identify_memory Identify refl refl (refl, refl, refl) (refl, refl, refl, refl, refl, refl, refl, refl) (refl, refl, refl)

-- ---- it is issued

abbrev machine : Machine
machine = start_with identify_memory

reached : IsReachable machine
reached = record { initial_machine = machine; steps_since = []; is_initial = starts_with identify_memory; steps_since_are_enabled = tt; leads_to_machine = refl }

before : DriverRelation machine (idle_driver_state prepared_identify)
before = ready_knows identify_memory

prepared : IsOwnCommandPreparedInSlot0 (idle_driver_state prepared_identify).slot_states prepared_identify 0 Identify 1
unfolding changed
prepared = record {
  operation_is_drivers_own = refl;
  free = refl;
  st_is_set = refl;
  list_is_in_place = record { port_below = omega arith; slot_below = omega arith; list = refl };
  command = identify;
  operation_is = refl;
  slot_decodes_to = told;
  st_set_is_on_tape = omega arith;
  bit_is_set = refl;
  no_other_bit_is_set = bit_one_other;
}

knows : DriverRelation machine own_driver_state
knows = record {
  state_relation = own_agrees (idle_driver_state prepared_identify).slot_states machine prepared_identify before.state_relation 0 Identify 1 prepared;
  have_slots_unless_parked = λ q. put_have (idle_driver_state prepared_identify).slot_states machine 0 0 (Own Identify) q [] (λ id u. absurd (let z : Free ≡ Serves id = u in cc)) (before.have_slots_unless_parked q);
}

-- ---- and its page comes

abbrev taken : FetchedCommand
taken = newly_fetched identify (scratch_frame_address 0 ∷ [])

abbrev brought : FetchedCommand
brought = record taken { moved = 1 }

abbrev fetched : Device
fetched = device_after (Fetch 0 0 identify (scratch_frame_address 0 ∷ [])) issued_identify

abbrev moved : Device
moved = device_after (Move 0 0 taken (first_disk_sector 0)) fetched

abbrev ended : Device
ended = device_after (Done 0 0 0 brought) moved

page_is_sector : IsValidSector (first_disk_sector 0)
unfolding changed
page_is_sector = first_sane.disks_hold_sectors 0 first_disk_sector refl 0 (omega arith)

can_fetch : Can (Fetch 0 0 identify (scratch_frame_address 0 ∷ [])) issued_identify
can_fetch = can_take identify_memory identify (scratch_frame_address 0 ∷ []) told.decodes_to

can_move : Can (Move 0 0 taken (first_disk_sector 0)) fetched
unfolding changed
can_move = record {
  works = record { taken = refl; working = record { cr_is_set = refl; present = refl; fresh = refl; admitted = refl; is_not_broken = refl } };
  piece_is_left = omega arith;
  bytes_are_sector = page_is_sector;
  brings = tt;
}

can_end : Can (Done 0 0 0 brought) moved
unfolding changed
can_end = record {
  works = record { taken = refl; working = record { cr_is_set = refl; present = refl; fresh = refl; admitted = refl; is_not_broken = refl } };
  finished = record { all_is_moved = refl; all_is_cleared = λ (e : Identify ≡ Trim). absurd cc };
  cause_is_allowed = inl refl;
}

comes : Steps issued_identify ended
comes = record {
  steps = Fetch 0 0 identify (scratch_frame_address 0 ∷ []) ∷ Move 0 0 taken (first_disk_sector 0) ∷ Done 0 0 0 brought ∷ [];
  lead = (can_fetch, (can_move, (can_end, refl)));
}

-- no bit of PxCI is set then
none_issued : (slot : ℕ) → (ended.port 0).ci slot ≡ bit 0 slot
unfolding changed
none_issued slot =
    changed_at (λ k. bit 1 k) 0 false (λ k b. b ≡ bit 0 k) refl
    (λ k ne. bit_one_other k ne ∙ sym (ap (λ (n : ℕ). n == 1) (bit_at-zero k))) slot

reads : Reads (Px (port_at 0) Ci) 0 issued_identify (device_after_reading (Px (port_at 0) Ci) 0 ended)
reads = record { at_access = ended; steps = comes; shows = λ slot small. sym (none_issued slot); effect = refl }

running : (issued_identify.port 0).st ≡ true
unfolding changed
running = refl

pub own_is_known : StepLaws → OwnCommandAgrees
own_is_known laws = record {
  machine = machine;
  reached = reached;
  relation_before_issue = before;
  prepared = prepared;
  permitted = issuing_page_command_is_permitted laws (idle_driver_state prepared_identify).slot_states machine prepared_identify reached before.state_relation (port_at 0) Identify 1
      (record { ae_is_set = refl; no_reset = refl }) (omega arith, refl) prepared;
  writes = record { at_access = prepared_identify; steps = record { steps = []; lead = refl }; effect = refl };
  driver_relation = knows;
  device_after_read = device_after_reading (Px (port_at 0) Ci) 0 ended;
  reads = reads;
  finds_own_page = page_is_read laws own_driver_state.slot_states machine (port_at 0) Identify 0 issued_identify (device_after_reading (Px (port_at 0) Ci) 0 ended) reached knows.state_relation refl running
      (put_same (λ _ _. Free) 0 0 (Own Identify)) reads refl;
}
