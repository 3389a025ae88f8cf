-- READ LOG EXT in slot 0, byte by byte, and how it ends the halt.
use Rattle.std.proofs.Common.{ℕ, ◌≡◌, ◌≢◌, ◌==◌, Bool, true, false, [], ◌∷◌, refl, sym, ◌∙◌, ap, subst, arith, inl, ⊎_elim, if◌then◌else◌}
use Rattle.std.specs.Prelude.{nat_eq}
use Rattle.std.proofs.lemmas.Bool.{cases_eq}
use Rattle.std.proofs.lemmas.Nat.Bits.{bit_at-zero}
use Rattle.std.proofs.lemmas.Option.{none-some}
use Rattle.hba_regs.specs.Bits.{bit}
use Rattle.hba_regs.specs.declared.reg.Reg.TheVariants.{Px}
use Rattle.hba_regs.specs.declared.reg.PortReg.TheVariants.{Is, Ci}
use Rattle.adapter.specs.Access.{Reads, Writes, device_after_reading, device_after_write, shown_interrupt}
use Rattle.adapter.specs.Commands.{Meaning}
use Rattle.adapter.specs.Device.{IsValidSector, FetchedCommand, DevicePort, Device}
use Rattle.adapter.specs.Device.Halt.{LogOnly}
use Rattle.adapter.specs.FirstRead.{first_memory, first_disk_sector}
use Rattle.adapter.specs.Memory.{patched, bytes_at, changed}
use Rattle.adapter.specs.Steps.{Can, Steps, device_after, newly_fetched}
use Rattle.adapter.specs.Steps.DeviceTransition.{Fetch, Move, Done}
use Rattle.adapter.specs.declared.command.Operation.TheVariants.{ReadLog, Trim}
use Rattle.adapter.proofs.Changed.{changed_other}
use Rattle.adapter.proofs.FirstRead.{first_sane}
use Rattle.block_machine.specs.Histories.{IsReachable}
use Rattle.block_machine.specs.State.{Machine}
use Rattle.refinement.specs.StepLaws.{StepLaws}
use Rattle.refinement.specs.Relation.{StateRelation, port_at}
use Rattle.refinement.specs.Driver.{DriverRelation, IsOwnCommandPreparedInSlot0, idle_driver_state}
use Rattle.refinement.specs.PortFacts.{PxisValueTellsNoTrouble}
use Rattle.refinement.specs.MemoryLayout.{scratch_frame_address}
use Rattle.refinement.specs.Slots.{Free, Own, SlotDecodesTo}
use Rattle.refinement.specs.ReadWitness.{ready_device}
use Rattle.refinement.proofs.relation.OneSlot.{changed_at}
use Rattle.refinement.proofs.driver.PermittedAccesses.{issuing_page_command_is_permitted}
use Rattle.refinement.proofs.driver.PutSlot.{put_other, own_agrees}
use Rattle.refinement.proofs.relation.LastingSectors.{gains_none}
use Rattle.refinement.proofs.relation.OtherSlots.{empty_port}
use Rattle.refinement.proofs.relation.SlotRelation.{SameFixed-refl}
use Rattle.refinement.proofs.witnesses.SpeltSlot.{page_told, zeros_from}
use Rattle.refinement.proofs.witnesses.FirstRead.{start_with, starts_with, ready_knows, bit_one_other}
use Rattle.refinement.specs.LogWitness.{log_memory, log_port, log_device, slot_states_with_own_read_log, LogEndsHaltWitness}
use Rattle.refinement.specs.HaltRecovery.{RunsLinked, PlainSlot0IsIssuedOrNotHalted, FaultLeavesIssued}
use Rattle.refinement.proofs.driver.EndedHalt.{issued_ends, ended_well}

-- ---- what the bytes say

abbrev read_log : Meaning
read_log = record { operation = ReadLog; first = 0; count = 0 }

told : SlotDecodesTo log_memory 0 0 0 read_log (scratch_frame_address 0 ∷ [])
unfolding log_memory first_memory patched bytes_at zeros_from
told = page_told log_memory ReadLog refl refl (refl, refl, refl) (refl, refl, refl, refl, refl, refl, refl, refl) (refl, refl, refl)

-- ---- a machine that agrees

abbrev machine : Machine
machine = start_with log_memory

reached : IsReachable machine
reached = record { initial_machine = machine; steps_since = []; is_initial = starts_with log_memory; steps_since_are_enabled = tt; leads_to_machine = refl }

ready : DriverRelation machine (idle_driver_state (ready_device log_memory))
ready = ready_knows log_memory

-- a halt is no matter of the slots
halt_agrees : StateRelation (idle_driver_state log_device).slot_states machine log_device
unfolding changed
halt_agrees =
    empty_port (idle_driver_state (ready_device log_memory)).slot_states machine (ready_device log_memory) ready.state_relation 0 log_port [] (SameFixed-refl (idle_driver_state (ready_device log_memory)).slot_states log_memory []) (gains_none [] machine)
    (record { slots = λ k. record { issued = refl; sact = refl; taken = refl; st = refl; cr = refl; since = refl; list = refl }; fre = refl; received_at = refl; present = refl; disk = refl })

knows : DriverRelation machine (idle_driver_state log_device)
knows = record { state_relation = halt_agrees; have_slots_unless_parked = ready.have_slots_unless_parked }

runs : RunsLinked (log_device.port 0)
unfolding changed
runs = record { st_is_set = refl; cr_is_set = refl; det_is_3 = refl; present = refl; fresh = refl; no_link_is_due = refl; is_not_broken = refl }

prepared : IsOwnCommandPreparedInSlot0 (idle_driver_state log_device).slot_states log_device 0 ReadLog 1
unfolding changed
prepared = record {
  operation_is_drivers_own = refl;
  free = refl;
  st_is_set = refl;
  list_is_in_place = record { port_below = omega arith; slot_below = omega arith; list = refl };
  command = read_log;
  operation_is = refl;
  slot_decodes_to = told;
  st_set_is_on_tape = omega arith;
  bit_is_set = refl;
  no_other_bit_is_set = bit_one_other;
}

-- ---- it is issued

abbrev issued : Device
issued = device_after_write (Px (port_at 0) Ci) 1 log_device

writes : Writes (Px (port_at 0) Ci) 1 log_device issued
writes = record { at_access = log_device; steps = record { steps = []; lead = refl }; effect = refl }

ends : StepLaws → PlainSlot0IsIssuedOrNotHalted slot_states_with_own_read_log 0 issued
ends laws = issued_ends laws (idle_driver_state log_device).slot_states machine (port_at 0) ReadLog 1 log_device issued reached halt_agrees refl (λ slot ne. refl) prepared writes

opens : FaultLeavesIssued slot_states_with_own_read_log 0 issued
unfolding changed
opens = record { hr_is_clear = refl; st_is_set = refl; slot_0_is_plain = refl; link_is_not_due = refl; no_other_slot_is_used = λ slot ne. put_other (λ _ _. Free) 0 0 (Own ReadLog) 0 slot (λ _ z. ne z); tfes_is_clear_or_issued = inl refl }

issued_agrees : StateRelation slot_states_with_own_read_log machine issued
issued_agrees = own_agrees (idle_driver_state log_device).slot_states machine log_device halt_agrees 0 ReadLog 1 prepared

issued_runs : RunsLinked (issued.port 0)
unfolding changed
issued_runs = record { st_is_set = refl; cr_is_set = refl; det_is_3 = refl; present = refl; fresh = refl; no_link_is_due = refl; is_not_broken = refl }

-- ---- and its page comes

abbrev taken : FetchedCommand
taken = newly_fetched read_log (scratch_frame_address 0 ∷ [])

abbrev brought : FetchedCommand
brought = record taken { moved = 1 }

abbrev fetched : Device
fetched = device_after (Fetch 0 0 read_log (scratch_frame_address 0 ∷ [])) issued

abbrev moved : Device
moved = device_after (Move 0 0 taken (first_disk_sector 0)) fetched

abbrev ended : Device
ended = device_after (Done 0 0 0 brought) moved

page_is_sector : IsValidSector (first_disk_sector 0)
unfolding changed
page_is_sector = first_sane.disks_hold_sectors 0 first_disk_sector refl 0 (omega arith)

can_fetch : Can (Fetch 0 0 read_log (scratch_frame_address 0 ∷ [])) issued
unfolding changed
can_fetch = record {
  fetchable = record { st_is_set = refl; issued = refl; free = refl };
  working = record { cr_is_set = refl; present = refl; fresh = refl; admitted = refl; is_not_broken = refl };
  is_alone_or_all_are_queued = λ slot t is. absurd (none-some _ is);
  says = told.decodes_to;
}

can_move : Can (Move 0 0 taken (first_disk_sector 0)) fetched
unfolding changed
can_move = record {
  works = record { taken = refl; working = record { cr_is_set = refl; present = refl; fresh = refl; admitted = refl; is_not_broken = refl } };
  piece_is_left = omega arith;
  bytes_are_sector = page_is_sector;
  brings = tt;
}

can_end : Can (Done 0 0 0 brought) moved
unfolding changed
can_end = record {
  works = record { taken = refl; working = record { cr_is_set = refl; present = refl; fresh = refl; admitted = refl; is_not_broken = refl } };
  finished = record { all_is_moved = refl; all_is_cleared = λ (e : ReadLog ≡ Trim). absurd cc };
  cause_is_allowed = inl refl;
}

comes : Steps issued ended
comes = record {
  steps = Fetch 0 0 read_log (scratch_frame_address 0 ∷ []) ∷ Move 0 0 taken (first_disk_sector 0) ∷ Done 0 0 0 brought ∷ [];
  lead = (can_fetch, (can_move, (can_end, refl)));
}

-- no bit of PxCI is set then
none_issued : (slot : ℕ) → (ended.port 0).ci slot ≡ bit 0 slot
unfolding changed
none_issued slot =
    changed_at (λ k. bit 1 k) 0 false (λ k b. b ≡ bit 0 k) refl
    (λ k ne. bit_one_other k ne ∙ sym (ap (λ (n : ℕ). n == 1) (bit_at-zero k))) slot

abbrev over : Device
over = device_after_reading (Px (port_at 0) Ci) 0 ended

reads : Reads (Px (port_at 0) Ci) 0 issued over
reads = record { at_access = ended; steps = comes; shows = λ slot small. sym (none_issued slot); effect = refl }

-- where bit 0 alone is set PxIS may be read 1
one_shown : (p : DevicePort) → p.serr_x ≡ false → p.serr_n ≡ false → p.is 0 ≡ true → ((place : ℕ) → place ≢ 0 → p.is place ≡ false) → (place : ℕ) → bit 1 place ≡ shown_interrupt p place
one_shown p x n first is place = ⊎_elim
    (λ (e : place ≡ 0). subst (λ (k : ℕ). bit 1 k ≡ shown_interrupt p k) (sym e) (sym first))
    (λ (ne : place ≡ 0 → ⊥). bit_one_other place ne ∙ sym (by (nat_eq place 6) (nat_eq place 22) ne))
    (cases_eq place 0)
  where
    by : (b c : Bool) → (place ≡ 0 → ⊥) → (if b then p.serr_x else (if c then p.serr_n else p.is place)) ≡ false
    by true c ne = x
    by false true ne = n
    by false false ne = is place ne

errors : ((over.port 0).serr_x ≡ false) × ((over.port 0).serr_n ≡ false) × ((over.port 0).is 0 ≡ true)
unfolding changed
errors = (refl, refl, refl)

first_alone : (place : ℕ) → place ≢ 0 → (over.port 0).is place ≡ false
unfolding changed
first_alone place ne = changed_other (λ _. false) 0 true place ne

tells : Reads (Px (port_at 0) Is) 1 over (device_after_reading (Px (port_at 0) Is) 1 over)
tells = record { at_access = over; steps = record { steps = []; lead = refl }; shows = λ place cause. one_shown (over.port 0) errors.0 errors.1 errors.2 first_alone place; effect = refl }

no_trouble : PxisValueTellsNoTrouble 1
no_trouble = record {
  pcs_is_clear = bit_one_other 6 (λ e. omega (arith, e));
  prcs_is_clear = bit_one_other 22 (λ e. omega (arith, e));
  bits_27_to_30_are_clear = λ place low high. bit_one_other place (λ e. omega (arith, e, low));
}

halted : (log_device.port 0).halt ≡ LogOnly
unfolding changed
halted = refl

pub log_is_ended : StepLaws → LogEndsHaltWitness
log_is_ended laws = record {
  machine = machine;
  reached = reached;
  driver_relation = knows;
  halted = halted;
  runs_linked = runs;
  prepared = prepared;
  permitted = issuing_page_command_is_permitted laws (idle_driver_state log_device).slot_states machine log_device reached halt_agrees (port_at 0) ReadLog 1 (record { ae_is_set = refl; no_reset = refl }) (omega arith, refl) prepared;
  issued = issued;
  writes = writes;
  ends_halt = (ends laws);
  fault_leaves_issued = opens;
  ended_device = over;
  reads = reads;
  found = device_after_reading (Px (port_at 0) Is) 1 over;
  tells = tells;
  port_runs_well = ended_well laws slot_states_with_own_read_log machine (port_at 0) 0 1 issued over (device_after_reading (Px (port_at 0) Is) 1 over) reached issued_agrees (ends laws) issued_runs reads refl tells no_trouble;
}
