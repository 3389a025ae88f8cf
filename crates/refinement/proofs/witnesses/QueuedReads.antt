-- Two queued reads, served at once.
use Rattle.std.proofs.Common.{ℕ, ◌≡◌, ◌<◌, ◌+◌, ◌*◌, ◌%◌, ◌^◌, ◌==◌, true, false, [], ◌∷◌, Some, refl, sym, ◌∙◌, ap, subst, arith, inl, ⊎_elim}
use Rattle.std.specs.List.{Contains}
use Rattle.std.proofs.lemmas.Nat.Bits.{bit_at-pow_same}
use Rattle.std.proofs.lemmas.Bool.{false≢true, true≢false}
use Rattle.std.proofs.lemmas.Option.{none-some}
use Rattle.ata_types.specs.declared.request.Frame.{Frame}
use Rattle.hba_regs.specs.Bits.{bit}
use Rattle.hba_regs.specs.declared.reg.Reg.TheVariants.{Px}
use Rattle.hba_regs.specs.declared.reg.PortReg.TheVariants.{Sact}
use Rattle.adapter.specs.Access.{device_after_write}
use Rattle.adapter.specs.Commands.{command_of}
use Rattle.adapter.specs.Device.{Device}
use Rattle.adapter.specs.FirstRead.{first_memory}
use Rattle.adapter.specs.Memory.{patched, bytes_at, changed}
use Rattle.adapter.specs.Decoding.{piece_addresses}
use Rattle.adapter.specs.Steps.{Can, newly_fetched}
use Rattle.adapter.specs.Steps.DeviceTransition.{Fetch}
use Rattle.adapter.specs.declared.command.Operation.TheVariants.{ReadQueued}
use Rattle.adapter.specs.declared.command.Prd.{Prd}
use Rattle.adapter.proofs.SaysLemmas.{cut_length}
use Rattle.block_machine.specs.declared.due.QueueMode.{QueueMode}
use Rattle.block_machine.specs.Histories.{IsReachable}
use Rattle.block_machine.specs.State.{Accepted, Pending, Machine, unanswered}
use Rattle.block_machine.specs.Steps.{Accept, Issue, IsEnabled, after_step, newly_accepted, newly_issued}
use Rattle.block_machine.proofs.Members.{contains_here, contains_there, contains_none, contains_cases, into_map}
use Rattle.block_machine.proofs.Setting.{frame}
use Rattle.refinement.specs.StepLaws.{StepLaws}
use Rattle.refinement.specs.Relation.{StateRelation, port_at, HaveSlotsUnlessParked}
use Rattle.refinement.specs.Driver.{DriverRelation, IsRequestPreparedToIssue, idle_driver_state}
use Rattle.refinement.specs.MemoryLayout.{command_table_address}
use Rattle.refinement.specs.TwoReadsWitness.{queued_read, two_reads_memory, two_armed, armed_slot_states, one_issued, two_issued, one_taken, two_reads_driver_state, TwoReadsWitness, TwoStoredReads}
use Rattle.refinement.specs.Slots.{Free, Serves, SlotStates, set_slot_state, SlotDecodesTo, Armed}
use Rattle.refinement.specs.ReadWitness.{first_id, ready_device}
use Rattle.refinement.proofs.witnesses.AcceptedRequests.{accepted_of, has_its_grant, read_into, read_is_new, read_no_trim, places_in}
use Rattle.refinement.proofs.driver.OwnSteps.{accept_knows}
use Rattle.refinement.proofs.steps.FollowedSteps.{silent_agrees}
use Rattle.refinement.proofs.driver.PermittedAccesses.{issue_is_permitted}
use Rattle.refinement.proofs.driver.PutSlot.{issue_agrees, issue_have, put_have, arming_agrees}
use Rattle.refinement.proofs.relation.SlotRelation.{serves_free}
use Rattle.refinement.proofs.witnesses.SpeltSlot.{IsSpelt, IsSpeltHeader, IsSpeltCommand, IsSpeltPrd, spelt_told, zeros_from}
use Rattle.refinement.proofs.steps.TakenCommand.{fetch_follows}
use Rattle.refinement.proofs.witnesses.FirstRead.{start_with, starts_with, ready_knows, other_bit}

-- ---- what the bytes say

abbrev frame_prd : ℕ → Prd
frame_prd n = record { address = 4096 * n; bytes = 4096 }

-- a queued read of eight sectors into a frame
queued_spelt : (memory : ℕ → ℕ) (slot first n : ℕ) → first < 2 ^ 48 → command_table_address 0 slot % 128 ≡ 0 → 4096 * n % 2 ≡ 0 →
    IsSpeltHeader (bytes_at memory (0 + 32 * slot) 32) false (command_table_address 0 slot) →
    IsSpeltCommand (bytes_at memory (command_table_address 0 slot) 20) (command_of ReadQueued slot first 8) →
    IsSpeltPrd (bytes_at memory (command_table_address 0 slot + 128) 16) (frame_prd n) → IsSpelt memory slot (queued_read first) (frame_prd n)
queued_spelt memory slot first n small aligned even header fis prd = record {
  header = header;
  aligned = aligned;
  fis = fis;
  meaning = record { sectors_fit_if_it_moves_some = λ _. (omega arith, omega arith, small); sectors_are_zero_if_it_moves_none = λ h. absurd (true≢false h) };
  prd = prd;
  allowed = record { even_address = even; even_bytes = refl; is_not_empty = omega arith; is_at_most_4_mib = omega arith };
  whole = refl;
  as_many = refl;
}

first_told : SlotDecodesTo two_reads_memory 0 0 0 (queued_read 100) (piece_addresses 0x64000 8)
unfolding two_reads_memory first_memory patched bytes_at zeros_from
first_told = spelt_told two_reads_memory 0 (queued_read 100) (frame_prd 100)
    (queued_spelt two_reads_memory 0 100 100 (omega arith) refl refl (refl, refl, refl) (refl, refl, refl, refl, refl, refl, refl, refl) (refl, refl, refl))

pub second_told : SlotDecodesTo two_reads_memory 0 0 1 (queued_read 108) (piece_addresses 0x65000 8)
unfolding two_reads_memory first_memory patched bytes_at zeros_from
second_told = spelt_told two_reads_memory 1 (queued_read 108) (frame_prd 101)
    (queued_spelt two_reads_memory 1 108 101 (omega arith) refl refl (refl, refl, refl) (refl, refl, refl, refl, refl, refl, refl, refl) (refl, refl, refl))

-- ---- the machine

abbrev start : Machine
start = start_with two_reads_memory

abbrev first_request : Accepted
first_request = accepted_of start (read_into 100 100)

abbrev one_accepted : Machine
one_accepted = after_step start (Accept first_request)

abbrev second_request : Accepted
second_request = accepted_of one_accepted (read_into 108 101)

abbrev accepted : Machine
accepted = after_step one_accepted (Accept second_request)

accepted_reached : IsReachable accepted
accepted_reached = record {
  initial_machine = start;
  steps_since = Accept second_request ∷ Accept first_request ∷ [];
  is_initial = starts_with two_reads_memory;
  steps_since_are_enabled = (
    (tt, read_is_new start 100 100 refl refl refl (omega arith) (omega arith) (omega arith) (omega arith)),
    read_is_new one_accepted 108 101 refl refl refl (omega arith) (omega arith) (omega arith) (omega arith),
  );
  leads_to_machine = refl;
}

abbrev queued : QueueMode
queued = record { queued = true; usable_slots = 32 }

abbrev first_waits : Pending
first_waits = newly_accepted first_request

abbrev second_waits : Pending
second_waits = newly_accepted second_request

first_in : Contains accepted.book first_waits
first_in = contains_here first_waits (second_waits ∷ []) first_waits refl

may_first : IsEnabled accepted (Issue queued first_waits)
may_first = (first_in, record { is_in_book = into_map unanswered accepted.book first_waits first_in; waits_and_nothing_blocks = refl; slot_is_left = λ _. omega arith }, λ e h. absurd (contains_none e h), has_its_grant refl)

abbrev issuing : Machine
issuing = after_step accepted (Issue queued first_waits)

issuing_reached : StepLaws → IsReachable issuing
issuing_reached laws = laws.reachable_goes_on accepted (Issue queued first_waits ∷ []) accepted_reached (tt, may_first)

second_in : Contains issuing.book second_waits
second_in = contains_there (newly_issued first_waits) (second_waits ∷ []) second_waits (contains_here second_waits [] second_waits refl)

may_second : IsEnabled issuing (Issue queued second_waits)
may_second = (second_in, record { is_in_book = into_map unanswered issuing.book second_waits second_in; waits_and_nothing_blocks = refl; slot_is_left = λ _. omega arith }, λ e h. absurd (contains_none e h), has_its_grant refl)

abbrev machine : Machine
machine = after_step issuing (Issue queued second_waits)

reached : StepLaws → IsReachable machine
reached laws = laws.reachable_goes_on issuing (Issue queued second_waits ∷ []) (issuing_reached laws) (tt, may_second)

-- ---- a read is prepared in a slot, with its bit of PxSACT

read_prepared : (uses : SlotStates) (m was : Machine) (d : Device) (slot first n : ℕ) → IsEnabled m (Issue queued (newly_accepted (accepted_of was (read_into first n)))) → uses 0 slot ≡ Armed → slot < 32 → (d.port 0).st ≡ true → (d.port 0).bases.clb ≡ 0 →
    SlotDecodesTo d.memory 0 0 slot (queued_read first) (piece_addresses (4096 * n) 8) → IsRequestPreparedToIssue uses m d 0 slot queued (newly_accepted (accepted_of was (read_into first n))) (2 ^ slot)
read_prepared uses m was d slot first n may free small started list told = record {
  issue_is_enabled = may;
  port_is = refl;
  armed_if_queued_else_free = free;
  slot_is_usable = small;
  plain_is_in_slot_0 = λ plain. absurd (false≢true plain);
  st_is_set = started;
  list_is_in_place = record { port_below = omega arith; slot_below = small; list = list };
  command = queued_read first;
  places = piece_addresses (4096 * n) 8;
  slot_decodes_to = subst (λ (at : ℕ). SlotDecodesTo d.memory at 0 slot (queued_read first) (piece_addresses (4096 * n) 8)) (sym list) told;
  means = record { op_is = refl; first_sector_is_if_it_moves_sectors = λ _. refl; places_are = (cut_length (4096 * n) 8, places_in n); trim_is_in_slot_0 = λ e. absurd (read_no_trim e) };
  queued_as_request = refl;
  has_block_if_trim = tt;
  bit_is_set = ap (λ (b : ℕ). b == 1) (bit_at-pow_same slot);
  no_other_bit_is_set = other_bit slot;
}

-- ---- PxSACT is written

accepted_knows : DriverRelation accepted (idle_driver_state (ready_device two_reads_memory))
accepted_knows = accept_knows (idle_driver_state (ready_device two_reads_memory)) one_accepted second_request (accept_knows (idle_driver_state (ready_device two_reads_memory)) start first_request (ready_knows two_reads_memory))

abbrev one_armed : Device
one_armed = device_after_write (Px (port_at 0) Sact) 1 (ready_device two_reads_memory)

bit_here : (slot : ℕ) → bit (2 ^ slot) slot ≡ true
bit_here slot = ap (λ (b : ℕ). b == 1) (bit_at-pow_same slot)

ready_runs : ((ready_device two_reads_memory).port 0).st ≡ true
unfolding changed
ready_runs = refl

one_runs : (one_armed.port 0).st ≡ true
unfolding changed
one_runs = refl

still_free : set_slot_state (λ _ _. Free) 0 0 Armed 0 1 ≡ Free
unfolding changed
still_free = refl

one_armed_agrees : StateRelation (set_slot_state (λ _ _. Free) 0 0 Armed) accepted one_armed
one_armed_agrees = arming_agrees (idle_driver_state (ready_device two_reads_memory)).slot_states accepted (ready_device two_reads_memory) accepted_knows.state_relation 0 0 1 refl ready_runs (bit_here 0) (other_bit 0)

two_armed_agrees : StateRelation armed_slot_states accepted two_armed
two_armed_agrees = arming_agrees (set_slot_state (λ _ _. Free) 0 0 Armed) accepted one_armed one_armed_agrees 0 1 2 still_free one_runs (bit_here 1) (other_bit 1)

armed_have : (q : ℕ) → HaveSlotsUnlessParked armed_slot_states accepted q []
armed_have q =
    put_have (set_slot_state (λ _ _. Free) 0 0 Armed) accepted 0 1 Armed q [] (λ id u. absurd (serves_free (sym u ∙ still_free)))
    (put_have (λ _ _. Free) accepted 0 0 Armed q [] (λ id u. absurd (serves_free (sym u))) (accepted_knows.have_slots_unless_parked q))

-- ---- both are issued

abbrev one_uses : SlotStates
one_uses = set_slot_state armed_slot_states 0 0 (Serves first_id)

first_prepared : IsRequestPreparedToIssue armed_slot_states accepted two_armed 0 0 queued first_waits 1
unfolding changed
first_prepared = read_prepared armed_slot_states accepted start two_armed 0 100 100 may_first refl (omega arith) refl refl first_told

one_agrees : StateRelation one_uses issuing one_issued
one_agrees = issue_agrees armed_slot_states accepted two_armed accepted_reached two_armed_agrees 0 0 queued first_waits 1 first_prepared

one_have : (q : ℕ) → HaveSlotsUnlessParked one_uses issuing q []
one_have q = issue_have armed_slot_states accepted two_armed accepted_reached two_armed_agrees 0 0 queued first_waits 1 first_prepared q [] (armed_have q)

second_prepared : IsRequestPreparedToIssue one_uses issuing one_issued 0 1 queued second_waits 2
unfolding changed
second_prepared = read_prepared one_uses issuing one_accepted one_issued 1 108 101 may_second refl (omega arith) refl refl second_told

two_knows : StepLaws → DriverRelation machine (two_reads_driver_state two_issued)
two_knows laws = record {
  state_relation = issue_agrees one_uses issuing one_issued (issuing_reached laws) one_agrees 0 1 queued second_waits 2 second_prepared;
  have_slots_unless_parked = λ q. issue_have one_uses issuing one_issued (issuing_reached laws) one_agrees 0 1 queued second_waits 2 second_prepared q [] (one_have q);
}

-- ---- and the one is taken

can_fetch : Can (Fetch 0 0 (queued_read 100) (piece_addresses 0x64000 8)) two_issued
unfolding changed
can_fetch = record {
  fetchable = record { st_is_set = refl; issued = refl; free = refl };
  working = record { cr_is_set = refl; present = refl; fresh = refl; admitted = refl; is_not_broken = refl };
  is_alone_or_all_are_queued = λ slot t is. absurd (none-some _ is);
  says = first_told.decodes_to;
}

taken_agrees : StepLaws → StateRelation (two_reads_driver_state one_taken).slot_states machine one_taken
taken_agrees laws = silent_agrees (two_reads_driver_state one_taken).slot_states machine two_issued one_taken
    (fetch_follows (two_reads_driver_state one_taken).slot_states machine two_issued (two_knows laws).state_relation 0 0 (queued_read 100) (piece_addresses 0x64000 8) can_fetch) refl

bits : ((one_taken.port 0).taken 0 ≡ Some (newly_fetched (queued_read 100) (piece_addresses 0x64000 8))) × ((one_taken.port 0).ci 1 ≡ true)
unfolding changed
bits = (refl, refl)

-- frames 100 and 101 are two
frames_apart : (f : Frame) → Contains (frame 100 ∷ []) f → Contains (frame 101 ∷ []) f → ⊥
frames_apart f a b = ⊎_elim
    (λ (x : f ≡ frame 100). ⊎_elim (λ (y : f ≡ frame 101). let z : 100 ≡ 101 = ap (λ (g : Frame). g.0) (sym x ∙ y) in omega (arith, z)) (λ y. contains_none f y) (contains_cases (frame 101) [] f b))
    (λ x. contains_none f x)
    (contains_cases (frame 100) [] f a)

pub two_are_known : StepLaws → TwoReadsWitness
two_are_known laws = record {
  machine_before_issue = accepted;
  reached_before = accepted_reached;
  armed = record { state_relation = two_armed_agrees; have_slots_unless_parked = armed_have };
  machine = machine;
  reached = (reached laws);
  first_request = newly_issued first_waits;
  second_request = newly_issued second_waits;
  may_still_move = (
    inl (contains_here (newly_issued first_waits) (newly_issued second_waits ∷ []) (newly_issued first_waits) refl, refl),
    inl (contains_there (newly_issued first_waits) (newly_issued second_waits ∷ []) (newly_issued second_waits) (contains_here (newly_issued second_waits) [] (newly_issued second_waits) refl), refl),
  );
  ids = (refl, refl);
  frames_are_disjoint = frames_apart;
  first_permitted = issue_is_permitted laws armed_slot_states accepted two_armed accepted_reached two_armed_agrees (port_at 0) 0 queued first_waits 1
      (record { ae_is_set = refl; no_reset = refl }) (omega arith, refl) (omega arith) first_prepared;
  second_permitted = issue_is_permitted laws one_uses issuing one_issued (issuing_reached laws) one_agrees (port_at 0) 1 queued second_waits 2
      (record { ae_is_set = refl; no_reset = refl }) (omega arith, refl) (omega arith) second_prepared;
  issued = (two_knows laws);
  takes = record { steps = (Fetch 0 0 (queued_read 100) (piece_addresses 0x64000 8)) ∷ []; lead = (can_fetch, refl) };
  driver_relation = record { state_relation = (taken_agrees laws); have_slots_unless_parked = (two_knows laws).have_slots_unless_parked };
  command = newly_fetched (queued_read 100) (piece_addresses 0x64000 8);
  taken = bits.0;
  queued = refl;
  second_waits_for_fetch = bits.1;
}

pub two_are_stored : TwoStoredReads
two_are_stored = record {
  machine = accepted;
  reached = accepted_reached;
  driver_relation = accepted_knows;
  mode = queued;
  queued = refl;
  two_slots_are_usable = omega arith;
  first_request = first_waits;
  second_request = second_waits;
  first_asks = record { port_is = refl; operation = refl; first_is = refl; count = refl; frames = refl };
  second_asks = record { port_is = refl; operation = refl; first_is = refl; count = refl; frames = refl };
  issues_are_enabled = ((tt, may_first), may_second);
  first_says = first_told;
  second_says = second_told;
}
