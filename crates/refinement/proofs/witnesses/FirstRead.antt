-- The first read, as device and as machine.
use Rattle.std.proofs.Common.{ℕ, ◌≡◌, ◌<◌, ◌+◌, ◌*◌, ◌^◌, ◌==◌, ◌≢◌, Bool, true, false, cond, List, [], ◌∷◌, length, slice_index, Some, refl, sym, ◌∙◌, ap, subst, arith, inl, inr, ⊎_elim, ne_eqb}
use Rattle.std.proofs.lemmas.Bool.{cond-false}
use Rattle.std.proofs.lemmas.Nat.Bits.{bit_at-pow_other}
use Rattle.std.proofs.lemmas.List.{get_or-replicate}
use Rattle.std.proofs.lemmas.List.Elements.{All-contains, All-nil}
use Rattle.std.proofs.lemmas.Option.{none-some, same_Some}
use Rattle.hba_regs.specs.Bits.{bit}
use Rattle.hba_regs.specs.declared.reg.Reg.TheVariants.{Px}
use Rattle.hba_regs.specs.declared.reg.PortReg.TheVariants.{Ci}
use Rattle.byteorder.specs.Endian.{little_from}
use Rattle.adapter.specs.Access.{device_after_write}
use Rattle.adapter.specs.Commands.{Meaning}
use Rattle.adapter.specs.Device.{DevicePort, Device}
use Rattle.adapter.specs.FirstRead.{first_memory, first_read_device, empty_port, reading_port, first_disk_sector}
use Rattle.adapter.specs.Memory.{bytes_at, changed, patched}
use Rattle.adapter.specs.ReadDone.{read_of}
use Rattle.adapter.specs.Decoding.{DecodesTo, piece_addresses}
use Rattle.adapter.specs.Steps.{Can, WereHeldSinceFlush}
use Rattle.adapter.specs.Steps.DeviceTransition.{Fetch}
use Rattle.adapter.proofs.Changed.{fun_ext, changed_same, changed_other}
use Rattle.adapter.proofs.FirstRead.{first_says}
use Rattle.adapter.proofs.SaysLemmas.{cut_length}
use Rattle.block_machine.specs.declared.due.QueueMode.{QueueMode}
use Rattle.block_machine.specs.Histories.{IsReachable}
use Rattle.block_machine.specs.Expected.{IsInitial}
use Rattle.block_machine.specs.State.{Accepted, Pending, Machine}
use Rattle.block_machine.specs.Steps.{Accept, Issue, IsEnabled, MayAccept, IsIssuedOrKept, HoldsOrHeldSinceFlush, after_step, newly_accepted, newly_issued}
use Rattle.block_machine.proofs.Setting.{empty, filled_starts}
use Rattle.refinement.specs.StepLaws.{StepLaws}
use Rattle.refinement.specs.Slots.{Free, Serves, SlotDecodesTo, IsEmptySlot}
use Rattle.refinement.specs.Relation.{StateRelation, port_at, IsDiskOf, SameSectors, KnowsAllReplugCandidates, HasReceivedArea}
use Rattle.refinement.specs.Driver.{DriverRelation, IsRequestPreparedToIssue, idle_driver_state}
use Rattle.refinement.specs.ReadWitness.{first_slot_states, first_driver_state, ready_port, ready_device, prepared_read, PreparedReadWitness, FirstReadWitness}
use Rattle.refinement.proofs.relation.OneSlot.{changed_at}
use Rattle.refinement.proofs.witnesses.AcceptedRequests.{accepted_of, has_its_grant, read_into, read_is_new, read_no_trim, places_in}
use Rattle.refinement.proofs.driver.PutSlot.{issued_port, issue_agrees, issue_have}
use Rattle.refinement.proofs.driver.OwnSteps.{accept_knows}
use Rattle.refinement.proofs.driver.PermittedAccesses.{issue_is_permitted}
use Rattle.refinement.proofs.relation.OtherSlots.{true_false}

-- ---- the machine

-- it begins with the device's disks and its frames
abbrev pub start_with : (ℕ → ℕ) → Machine
start_with memory = record empty {
  present = λ p. p.0 == 0;
  disk_ids = λ p. 0;
  sizes = λ p. cond (p.0 == 0) 256 0;
  disk_bytes = λ p k b. k;
  memory = λ f b. memory (4096 * f.0 + b);
}

pub starts_with : (memory : ℕ → ℕ) → IsInitial (start_with memory)
starts_with memory =
    let s : IsInitial (record empty { memory = λ f b. memory (4096 * f.0 + b) }) = filled_starts (λ f b. memory (4096 * f.0 + b)) in
    record { book_is_empty = s.book_is_empty; none_is_kept = s.none_is_kept; no_frame_is_lent = s.no_frame_is_lent; next_id_is_1 = s.next_id_is_1; rows_are_at_most_64 = s.rows_are_at_most_64; rows_differ_in_name = s.rows_differ_in_name; rows_are_valid = s.rows_are_valid; owned_frames_are_clients = s.owned_frames_are_clients }

abbrev start : Machine
start = start_with first_memory

abbrev accepted : Accepted
accepted = accepted_of start (read_into 100 100)

is_new : MayAccept start accepted
is_new = read_is_new start 100 100 refl refl refl (omega arith) (omega arith) (omega arith) (omega arith)

abbrev pub plain : QueueMode
plain = record { queued = false; usable_slots = 1 }

abbrev pub waits : Pending
waits = newly_accepted accepted

abbrev accepting : Machine
accepting = after_step start (Accept accepted)

accepting_reached : IsReachable accepting
accepting_reached = record { initial_machine = start; steps_since = Accept accepted ∷ []; is_initial = starts_with first_memory; steps_since_are_enabled = (tt, is_new); leads_to_machine = refl }

may_issue : IsEnabled accepting (Issue plain waits)
may_issue = ((0, omega arith, refl), record { is_in_book = (0, omega arith, refl); waits_and_nothing_blocks = refl; slot_is_left = λ h. true_false refl h }, λ e h. absurd (All-contains (λ _. ⊥) [] e (All-nil (λ _. ⊥)) h), has_its_grant refl)

abbrev pub issued : Machine
issued = after_step accepting (Issue plain waits)

pub reached : StepLaws → IsReachable issued
reached laws = laws.reachable_goes_on accepting (Issue plain waits ∷ []) accepting_reached (tt, may_issue)

moves : IsIssuedOrKept issued (newly_issued waits)
moves = inl ((0, omega arith, refl), refl)

-- ---- the relation

-- where the header says that the table is, and how many PRDs it has
points : little_from 8 4 (bytes_at first_memory 0 32) ≡ 0x1000
unfolding first_memory patched bytes_at
points = refl

entries : little_from 0 4 (bytes_at first_memory 0 32) ≡ 65541
unfolding first_memory patched bytes_at
entries = refl

told : SlotDecodesTo first_memory 0 0 0 (read_of 100 8) (piece_addresses 0x64000 8)
told = record {
  decodes_to = first_says;
  table_is = sym first_says.header.table_address_is ∙ points;
  prds_are_few = (let h : little_from 0 4 (bytes_at first_memory 0 32) ≡ 5 + 0 + 65536 * length first_says.prds = first_says.header.dword0_is in let n = entries in omega (arith, h, n));
}

pub tells : (k b : ℕ) → b < 512 → slice_index (first_disk_sector k) b ≡ k
unfolding first_disk_sector
tells k b bl = get_or-replicate 512 b k 0 bl

-- nothing is on the tape: the disk may come back as it was first in
lasts : (memory : ℕ → ℕ) (k : ℕ) (bytes : List ℕ) → WereHeldSinceFlush [] (record { sectors = Some first_disk_sector; tape_length = 0 }) 0 k bytes → HoldsOrHeldSinceFlush (start_with memory) (port_at 0) k (slice_index bytes)
lasts memory k bytes (inl is) = inl (λ b bl. ap (λ (l : List ℕ). slice_index l b) (sym (same_Some (first_disk_sector k) bytes is)) ∙ tells k b bl)
lasts memory k bytes (inr (entry, here, is)) = let lt = here.1 in absurd (omega (arith, lt))

-- a device with no command in a slot agrees with a machine to begin with
pub ready_knows : (memory : ℕ → ℕ) → DriverRelation (start_with memory) (idle_driver_state (ready_device memory))
ready_knows memory = record {
  state_relation = record {
    relates_slots = λ q k. changed_at (λ _. empty_port) 0 ready_port (λ n p. IsEmptySlot p k) (record { is_not_issued = refl; is_not_taken = refl; unarmed = refl }) (λ n ne. record { is_not_issued = refl; is_not_taken = refl; unarmed = refl }) q;
    serve_distinct_requests = λ q k q' k' id u v. absurd (let z : Free ≡ Serves id = u in cc);
    received_areas_in_use_are_placed = changed_at (λ _. empty_port) 0 ready_port (λ n p. p.fre ≡ true → HasReceivedArea p n) (λ _. record { port_is_below_4 = omega arith; area_is_in_place = refl }) (λ n ne f. true_false f refl);
    disks_are_same = changed_at (λ _. empty_port) 0 ready_port (λ n p. IsDiskOf (start_with memory) p n) (record { present = refl; id = refl; sector_count = refl })
        (λ n ne. record { present = ne_eqb n 0 ne; id = refl; sector_count = cond-false (n == 0) 256 0 (ne_eqb n 0 ne) });
    client_frames_are_same = λ f b from small. refl;
    sectors_are_same_if_disks_tell = λ _. changed_at (λ _. empty_port) 0 ready_port (λ n p. SameSectors (start_with memory) p.disk n)
        (record { told_sectors = first_disk_sector; disk_tells = refl; bytes_are_same = λ k b kl bl. tells k b bl })
        (λ n ne. record { told_sectors = λ k. []; disk_tells = refl; bytes_are_same = λ k b kl bl. absurd (omega (arith, kl)) });
    knows_replug_candidates_if_disks_tell = λ _. changed_at (λ _. empty_port) 0 ready_port (λ n p. KnowsAllReplugCandidates (start_with memory) [] p n) (λ k inside bytes w. lasts memory k bytes w) (λ n ne k inside bytes w. absurd (omega (arith, inside)));
  };
  have_slots_unless_parked = λ q e may at_port. ⊎_elim (λ z. absurd (All-contains (λ _. ⊥) [] e (All-nil (λ _. ⊥)) z.0)) (λ z. absurd (All-contains (λ _. ⊥) [] e (All-nil (λ _. ⊥)) z)) may;
}

-- a command that is issued there may be taken
pub can_take : (memory : ℕ → ℕ) (c : Meaning) (places : List ℕ) → DecodesTo memory 0 0 c places → Can (Fetch 0 0 c places) (device_after_write (Px (port_at 0) Ci) 1 (ready_device memory))
unfolding changed
can_take memory c places says = record {
  fetchable = record { st_is_set = refl; issued = refl; free = refl };
  working = record { cr_is_set = refl; present = refl; fresh = refl; admitted = refl; is_not_broken = refl };
  is_alone_or_all_are_queued = λ slot t is. absurd (none-some _ is);
  says = says;
}

accepting_knows : DriverRelation accepting (idle_driver_state prepared_read)
accepting_knows = accept_knows (idle_driver_state prepared_read) start accepted (ready_knows first_memory)

-- ---- the read is issued

-- a power of two has one bit
pub other_bit : (n k : ℕ) → k ≢ n → bit (2 ^ n) k ≡ false
other_bit n k ne = ap (λ (b : ℕ). b == 1) (bit_at-pow_other n k ne)

pub bit_one_other : (k : ℕ) → k ≢ 0 → bit 1 k ≡ false
bit_one_other k ne = other_bit 0 k ne

prepared : IsRequestPreparedToIssue (idle_driver_state prepared_read).slot_states accepting prepared_read 0 0 plain waits 1
unfolding changed
prepared = record {
  issue_is_enabled = may_issue;
  port_is = refl;
  armed_if_queued_else_free = refl;
  slot_is_usable = omega arith;
  plain_is_in_slot_0 = λ _. refl;
  st_is_set = refl;
  list_is_in_place = record { port_below = omega arith; slot_below = omega arith; list = refl };
  command = read_of 100 8;
  places = piece_addresses 0x64000 8;
  slot_decodes_to = told;
  means = record { op_is = refl; first_sector_is_if_it_moves_sectors = λ _. refl; places_are = (cut_length 0x64000 8, places_in 100); trim_is_in_slot_0 = λ e. absurd (read_no_trim e) };
  queued_as_request = refl;
  has_block_if_trim = tt;
  bit_is_set = refl;
  no_other_bit_is_set = bit_one_other;
}

-- the write gives the first read
issued_port_is : issued_port ready_port 1 ≡ reading_port
issued_port_is = ap (λ (ci : ℕ → Bool). record reading_port { ci = ci })
    (fun_ext (changed_at (λ _. false) 0 true (λ k b. bit 1 k ≡ b) refl bit_one_other))

pub issued_ports : changed (changed (λ _. empty_port) 0 ready_port) 0 (issued_port ready_port 1) ≡ changed (λ _. empty_port) 0 reading_port
issued_ports = fun_ext (λ q. changed_at (changed (λ _. empty_port) 0 ready_port) 0 (issued_port ready_port 1) (λ n p. p ≡ changed (λ _. empty_port) 0 reading_port n)
    (issued_port_is ∙ sym (changed_same (λ _. empty_port) 0 reading_port))
    (λ n ne. changed_other (λ _. empty_port) 0 ready_port n ne ∙ sym (changed_other (λ _. empty_port) 0 reading_port n ne)) q)

issues : first_read_device ≡ device_after_write (Px (port_at 0) Ci) 1 prepared_read
issues =
    ap (λ (ports : ℕ → DevicePort). record first_read_device { port = ports })
    (sym issued_ports ∙ ap (λ (p : DevicePort). changed (changed (λ _. empty_port) 0 ready_port) 0 (issued_port p 1)) (sym (changed_same (λ _. empty_port) 0 ready_port)))

pub prepared_is_known : StepLaws → PreparedReadWitness
prepared_is_known laws = record {
  machine = accepting;
  reached = accepting_reached;
  driver_relation = accepting_knows;
  mode = plain;
  request = waits;
  id_is = refl;
  prepared = prepared;
  permitted = issue_is_permitted laws (idle_driver_state prepared_read).slot_states accepting prepared_read accepting_reached accepting_knows.state_relation (port_at 0) 0 plain waits 1
      (record { ae_is_set = refl; no_reset = refl }) (omega arith, refl) (omega arith) prepared;
  writes = record { at_access = prepared_read; steps = record { steps = []; lead = refl }; effect = issues };
}

pub first_knows : DriverRelation issued first_driver_state
first_knows = record {
  state_relation = subst (λ (d : Device). StateRelation first_slot_states issued d) (sym issues)
      (issue_agrees (idle_driver_state prepared_read).slot_states accepting prepared_read accepting_reached accepting_knows.state_relation 0 0 plain waits 1 prepared);
  have_slots_unless_parked = λ q. issue_have (idle_driver_state prepared_read).slot_states accepting prepared_read accepting_reached accepting_knows.state_relation 0 0 plain waits 1 prepared q [] (accepting_knows.have_slots_unless_parked q);
}

pub first_is_known : StepLaws → FirstReadWitness
first_is_known laws = record { machine = issued; reached = (reached laws); driver_relation = first_knows; request = newly_issued waits; may_still_move = moves; id_is = refl }
