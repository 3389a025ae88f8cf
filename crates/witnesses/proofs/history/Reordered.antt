-- The two queued reads end in the other order: the history.
use Rattle.std.proofs.Common.{ℕ, zero, suc, ◌≡◌, ◌⊎◌, ◌↔◌, ◌+◌, ◌*◌, ◌^◌, ◌∙◌, ◌++◌, true, false, [], ◌∷◌, Some, None, inl, inr, ⊎_elim, refl, sym, ap, subst, arith}
use Rattle.std.proofs.lemmas.Bool.{le-ltb, true≢false}
use Rattle.std.specs.List.{All, Contains}
use Rattle.std.proofs.lemmas.List.Elements.{All-append, All-from_recursion}
use Rattle.ata_types.specs.declared.request.Op.TheVariants.{Read, Write, Trim, Flush}
use Rattle.ata_types.specs.declared.request.Outcome.TheVariants as outcome
use Rattle.ata_types.specs.declared.request.RequestId.{RequestId}
use Rattle.byteorder.specs.Endian.{little_from}
use Rattle.hba_regs.specs.Bits.{bit}
use Rattle.adapter.specs.Commands.{command_of, moves_disk_sectors}
use Rattle.adapter.specs.Device.{DevicePort}
use Rattle.adapter.specs.Memory.{bytes_at, patched}
use Rattle.adapter.specs.declared.command.Operation.{Operation}
use Rattle.adapter.specs.declared.command.Operation.TheVariants as operation
use Rattle.refinement.specs.Relation.{SameClientFrames, port_at}
use Rattle.refinement.specs.PortFacts.{IsDisturbance, RunsWell}
use Rattle.refinement.specs.MemoryLayout.{command_table_address}
use Rattle.refinement.specs.TwoReadsWitness.{second_id}
use Rattle.refinement.specs.Slots.{IsMove, ServesRequest, client_operation_of}
use Rattle.refinement.specs.ReadWitness.{first_id}
use Rattle.block_machine.specs.State.{Accepted, Pending, unanswered}
use Rattle.block_machine.specs.declared.due.Unanswered.{Unanswered}
use Rattle.driver_history.specs.Evidence.{StaysHealthy}
use Rattle.driver_history.specs.Histories.{IsAnsweredOk, IsIssuedOn}
use Rattle.witnesses.specs.QueuedReads.{QueuedReadsEndOutOfOrder}
use Rattle.witnesses.specs.RunningAdapter.{queued_disk_mode, running_port}
use Rattle.witnesses.proofs.history.Command.{queued_read, told_queued}
use Rattle.witnesses.proofs.history.Devices.{no_bit, other_bit}
use Rattle.witnesses.proofs.history.Finding as found_on
use Rattle.witnesses.proofs.history.Finding.{Discovery, IsFound}
use Rattle.witnesses.proofs.history.Holding.{first_slots, no_slots}
use Rattle.witnesses.proofs.history.Issuing as issued_on
use Rattle.witnesses.proofs.history.Issuing.{IsIssued, Submission, accepted_as, reading}
use Rattle.witnesses.proofs.history.Members.{nowhere, only}
use Rattle.witnesses.proofs.history.Memory.{moved_alike}
use Rattle.witnesses.proofs.history.Pages.{queueing_disks}
use Rattle.witnesses.proofs.history.Queueing.{neither, one_memory, two_issued, two_reads_memory, two_zeros}
use Rattle.witnesses.proofs.history.Ready.{Agreeing, Stands, agrees_none, begins, but_commands, fit_ready, starts}
use Rattle.witnesses.proofs.history.Serving.{HasOne, agrees_one, none_due, serves_none}
use Rattle.witnesses.proofs.history.Together.{first, submission_one, two_slots, submission_two, both_issuing, held, held_too, outstanding_first, outstanding_second, issued_first, in_book, each_has, not_second, two_agree, issued_second}
use Rattle.witnesses.proofs.history.Swapping.{again_free, again_stands, ends, finds_first, finds_second, found, found_again, found_free, found_stands, found_taken, found_waits, none_active, one_active, reads_into, swapped_memory}

-- the service that finds the second done, and the one that finds the first done
abbrev discovery_two : Discovery
discovery_two = record {
  disk = queueing_disks;
  machine = both_issuing;
  slots = two_slots;
  slots_then = first_slots;
  more = [];
  memory = two_reads_memory;
  port = two_issued;
  port_then = found;
  id = second_id;
  sector = 101;
  frame_number = 101;
  held = held_too;
  slot = 1;
  ci = 0;
  sact = 1;
}

abbrev discovery_one : Discovery
discovery_one = record {
  disk = queueing_disks;
  machine = found_on.answered discovery_two;
  slots = first_slots;
  slots_then = no_slots;
  more = ends 1 101 101;
  memory = swapped_memory;
  port = found;
  port_then = found_again;
  id = first_id;
  sector = 100;
  frame_number = 100;
  held = held;
  slot = 0;
  ci = 0;
  sact = 0;
}

-- ---- which slot serves which

-- the sector that the FIS of a slot of port 0 names
abbrev named_sector : (ℕ → ℕ) → ℕ → ℕ
named_sector memory slot = little_from 4 3 (bytes_at memory (command_table_address 0 slot) 20) + 2 ^ 24 * little_from 8 3 (bytes_at memory (command_table_address 0 slot) 20)

-- a read names its sectors
names : (o : Operation) (slot first count : ℕ) → client_operation_of o ≡ Some Read → ((command_of o slot first count).lba ≡ first) × (moves_disk_sectors o ≡ true)
names operation.Read slot first count is = (refl, refl)
names operation.ReadQueued slot first count is = (refl, refl)
names operation.Write slot first count is = absurd (let x : Some Write ≡ Some Read = is in cc)
names operation.WriteQueued slot first count is = absurd (let x : Some Write ≡ Some Read = is in cc)
names operation.Trim slot first count is = absurd (let x : Some Trim ≡ Some Read = is in cc)
names operation.Flush slot first count is = absurd (let x : Some Flush ≡ Some Read = is in cc)
names operation.Identify slot first count is = absurd (let x : None ≡ Some Read = is in cc)
names operation.ReadLog slot first count is = absurd (let x : None ≡ Some Read = is in cc)

-- the slot's FIS names the first sector of the request that it serves
its_sector : (slot : ℕ) (id : RequestId) (s : ServesRequest both_issuing two_reads_memory two_issued 0 slot id) → s.pending.request.asked.op ≡ Read → named_sector two_reads_memory slot ≡ s.pending.request.asked.first.0
its_sector slot id s reads =
    let read = names s.command.operation slot s.command.first s.command.count (s.means.op_is ∙ ap Some reads) in
    ap (λ (table : ℕ). little_from 4 3 (bytes_at two_reads_memory table 20) + 2 ^ 24 * little_from 8 3 (bytes_at two_reads_memory table 20)) (sym s.slot_decodes_to.table_is)
    ∙ s.slot_decodes_to.decodes_to.fis.lba ∙ read.0 ∙ s.means.first_sector_is_if_it_moves_sectors read.1

-- no slot but 0 and 1 serves a request
no_third : (slot : ℕ) (id : RequestId) → ServesRequest both_issuing two_reads_memory two_issued 0 (suc (suc slot)) id → ⊥
no_third slot id s = serves_none both_issuing two_reads_memory two_issued (suc (suc slot)) id s refl (neither slot) refl
    (⊎_elim (λ here. each_has (λ x. x.ended ≡ false) refl refl s.pending here.0) (λ kept. absurd (nowhere s.pending kept)) s.may_still_move)

-- and the request that one serves under the id of one of the book is that
served_is : (e : Pending) (slot : ℕ) → Contains both_issuing.book e → (s : ServesRequest both_issuing two_reads_memory two_issued 0 slot e.request.id) → s.pending ≡ e
served_is e slot here s = ⊎_elim (λ found. same s.pending e found.0 here s.id_is) (λ kept. absurd (nowhere s.pending kept)) s.may_still_move
  where
    same : (a b : Pending) → Contains both_issuing.book a → Contains both_issuing.book b → a.request.id ≡ b.request.id → a ≡ b
    same a b here there ids = ⊎_elim
        (λ (x : a ≡ outstanding_first). ⊎_elim
        (λ (y : b ≡ outstanding_first). x ∙ sym y)
        (λ (y : b ≡ outstanding_second). absurd (not_second (ap (λ (p : Pending). p.request.id) (sym x) ∙ ids ∙ ap (λ (p : Pending). p.request.id) y)))
        (in_book b there))
        (λ (x : a ≡ outstanding_second). ⊎_elim
        (λ (y : b ≡ outstanding_first). absurd (not_second (sym (ap (λ (p : Pending). p.request.id) (sym x) ∙ ids ∙ ap (λ (p : Pending). p.request.id) y))))
        (λ (y : b ≡ outstanding_second). x ∙ sym y)
        (in_book b there))
        (in_book a here)

-- the slot that serves a request of the book names its first sector
sector_is : (e : Pending) (slot : ℕ) → Contains both_issuing.book e → ServesRequest both_issuing two_reads_memory two_issued 0 slot e.request.id → named_sector two_reads_memory slot ≡ e.request.asked.first.0
sector_is e slot here s =
    let same = served_is e slot here s in
    its_sector slot e.request.id s (ap (λ (x : Pending). x.request.asked.op) same ∙ each_has (λ x. x.request.asked.op ≡ Read) refl refl e here)
    ∙ ap (λ (x : Pending). x.request.asked.first.0) same

-- slot 0 serves the first alone, and slot 1 the second
in_slot : (e : Pending) (slot : ℕ) → Contains both_issuing.book e → ServesRequest both_issuing two_reads_memory two_issued 0 slot e.request.id
    → ((e ≡ outstanding_first) × (slot ≡ 0)) ⊎ ((e ≡ outstanding_second) × (slot ≡ 1))
unfolding two_reads_memory one_memory patched bytes_at
in_slot e zero here s = ⊎_elim
    (λ (is : e ≡ outstanding_first). inl (is, refl))
    (λ (is : e ≡ outstanding_second). absurd (let other : 100 ≡ 101 = sector_is e 0 here s ∙ ap (λ (x : Pending). x.request.asked.first.0) is in omega (arith, other)))
    (in_book e here)
in_slot e (suc zero) here s = ⊎_elim
    (λ (is : e ≡ outstanding_first). absurd (let other : 101 ≡ 100 = sector_is e 1 here s ∙ ap (λ (x : Pending). x.request.asked.first.0) is in omega (arith, other)))
    (λ (is : e ≡ outstanding_second). inr (is, refl))
    (in_book e here)
in_slot e (suc (suc slot)) here s = absurd (no_third slot e.request.id s)

-- ---- the second ends

swapped_frames : SameClientFrames (found_on.answered discovery_two) swapped_memory
swapped_frames = moved_alike two_reads_memory both_issuing.memory 101 101 (λ f b from small. two_zeros f b from)

-- no page came after those of the two ports
unpaged : (slot k n port : ℕ) → All (λ e. IsMove port operation.Identify e → ⊥) (ends slot k n)
unpaged slot k n port = All-from_recursion (λ e. IsMove port operation.Identify e → ⊥) (ends slot k n) (λ (x : _ × _). let same : operation.ReadQueued ≡ operation.Identify = x.1 in cc, (λ x. x, tt))

-- the first is taken still
has_left : HasOne queueing_disks (found_on.answered discovery_two) (ends 1 101 101) swapped_memory found (queued_read 100) 100 100 held 0
unfolding two_reads_memory one_memory patched bytes_at
has_left = record {
  stands = found_stands;
  disks = (refl, refl, refl, refl);
  book = refl;
  unkept = refl;
  unpaged = unpaged 1 101 101;
  still = refl;
  op = refl;
  first = refl;
  kind = refl;
  told = told_queued swapped_memory 0 100 100 (omega arith) refl refl refl refl refl refl refl;
  stage = inr (inl (record {
    command = reads_into 100 100;
    taken = found_taken;
    meaning = refl;
    places_are = refl;
    running = refl;
    ci_is_set_iff_st_and_plain = found_waits 0;
    sact = one_active 0;
    progress = λ i. sym (le-ltb i 0 (omega arith));
    unended = refl;
  }));
  others = λ slot. record { is_not_issued = found_waits (suc slot); is_not_taken = found_free slot; unarmed = one_active (suc slot) ∙ other_bit (suc slot) (omega arith) };
  frames = swapped_frames;
}

left_agrees : Agreeing queueing_disks first_slots (found_on.answered discovery_two) (ends 1 101 101) swapped_memory found
left_agrees = agrees_one queueing_disks (found_on.answered discovery_two) (ends 1 101 101) swapped_memory found (queued_read 100) 100 100 held 0 has_left

-- exactly the second is answered
exact_two : (e : Pending) (slot : ℕ) → IsIssuedOn (port_at 0) both_issuing e → ServesRequest both_issuing two_reads_memory two_issued 0 slot e.request.id
    → IsAnsweredOk e (found_on.steps discovery_two) ↔ ((bit 0 slot ≡ false) × (bit 1 slot ≡ false))
exact_two e slot on s = ⊎_elim
    (λ (x : (e ≡ outstanding_first) × (slot ≡ 0)). right e slot outstanding_first 0 x.0 x.1 (λ a. absurd (not_answered a), λ clear. absurd (true≢false clear.1)))
    (λ (x : (e ≡ outstanding_second) × (slot ≡ 1)). right e slot outstanding_second 1 x.0 x.1 (λ a. (refl, refl), λ clear. (found_on.ended discovery_two, refl, (0, omega arith, refl))))
    (in_slot e slot on.is_in_book s)
  where
    right : (e : Pending) (slot : ℕ) (f : Pending) (k : ℕ) → e ≡ f → slot ≡ k → IsAnsweredOk f (found_on.steps discovery_two) ↔ ((bit 0 k ≡ false) × (bit 1 k ≡ false))
        → IsAnsweredOk e (found_on.steps discovery_two) ↔ ((bit 0 slot ≡ false) × (bit 1 slot ≡ false))
    right e slot f k is at holds =
        subst (λ (n : ℕ). IsAnsweredOk e (found_on.steps discovery_two) ↔ ((bit 0 n ≡ false) × (bit 1 n ≡ false))) (sym at)
        (subst (λ (x : Pending). IsAnsweredOk x (found_on.steps discovery_two) ↔ ((bit 0 k ≡ false) × (bit 1 k ≡ false))) (sym is) holds)

    not_answered : IsAnsweredOk outstanding_first (found_on.steps discovery_two) → ⊥
    not_answered a =
        let same : a.0 ≡ found_on.ended discovery_two = (found_on.only_answer discovery_two a.0 outcome.Ok a.2).0 in
        not_second (sym (ap (λ (r : Accepted). r.id) a.1) ∙ ap (λ (x : Pending). x.request.id) same)

found_two : IsFound discovery_two
found_two = record {
  agreed = two_agree;
  agreeing = left_agrees;
  here = (1, omega arith, refl);
  touched_here = (1, omega arith, refl);
  ended_here = (1, omega arith, refl);
  lent = refl;
  on_disk = omega arith;
  unended = each_has (λ x. x.ended ≡ false) refl refl;
  none_due = none_due queued_disk_mode (unanswered outstanding_first ∷ []) (λ r here. ap (λ (x : Unanswered). x.issued) (only (unanswered outstanding_first) r here));
  none_issued = refl;
  does = finds_second.0;
  exact = exact_two;
}

-- ---- and then the first

none_left : Agreeing queueing_disks no_slots (found_on.answered discovery_one) (ends 1 101 101 ++ ends 0 100 100) (found_on.memory_then discovery_one) found_again
none_left = agrees_none queueing_disks (found_on.answered discovery_one) (ends 1 101 101 ++ ends 0 100 100) (found_on.memory_then discovery_one) found_again
    again_stands (refl, refl, refl, refl) refl refl
    (λ port. All-append (λ e. IsMove port operation.Identify e → ⊥) (ends 1 101 101) (ends 0 100 100) (unpaged 1 101 101 port) (unpaged 0 100 100 port)) refl
    (λ slot. record { is_not_issued = found_waits slot; is_not_taken = again_free slot; unarmed = none_active slot })
    (moved_alike swapped_memory (found_on.answered discovery_two).memory 100 100 swapped_frames)

found_one : IsFound discovery_one
found_one = record {
  agreed = left_agrees;
  agreeing = none_left;
  here = (0, omega arith, refl);
  touched_here = (0, omega arith, refl);
  ended_here = (0, omega arith, refl);
  lent = refl;
  on_disk = omega arith;
  unended = λ e here. ap (λ (x : Pending). x.ended) (only outstanding_first e here);
  none_due = λ port r at due. absurd (nowhere r due.is_in_book);
  none_issued = refl;
  does = finds_first.0;
  exact = λ e slot on s. (
    λ a. (no_bit slot, no_bit slot),
    λ clear. (found_on.ended discovery_one, sym (ap (λ (x : Pending). x.request) (only outstanding_first e on.is_in_book)), (0, omega arith, refl)),
  );
}

-- ---- the history

-- a port that stands so, with its commands as they are, runs well
runs_well : (p : DevicePort) → Stands p → RunsWell p
runs_well p stands = record {
  st_is_set = was (λ q. q.st);
  cr_is_set = was (λ q. q.cr);
  det_is_3 = was (λ q. q.ssts_det);
  present = was (λ q. q.present);
  fresh = was (λ q. q.fresh);
  no_link_is_due = was (λ q. q.link_due);
  is_not_halted = was (λ q. q.halt);
  is_not_broken = was (λ q. q.broken);
  shows_no_trouble = record { serr_n_is_clear = was (λ q. q.serr_n); serr_x_is_clear = was (λ q. q.serr_x); bits_27_to_30_are_clear = λ place from to. stands.quiet place from };
}
  where
    was : {A : Type 0} (part : DevicePort → A) → part (but_commands p) ≡ part (but_commands (running_port 0))
    was part = ap part stands.same

-- nothing goes wrong on it in such a service
stays_healthy : (c : Discovery) → IsFound c → StaysHealthy 0 (found_on.before c).device (found_on.served_at c).device
stays_healthy c is = record {
  port_runs_well = runs_well c.port is.agreed.stands;
  undisturbed = record { new_entries = found_on.gained c; tape_is = refl; no_disturbance = All-from_recursion (λ e. IsDisturbance 0 e → ⊥) (found_on.gained c) (λ x. x, (λ x. x, tt)) };
}

pub order_is_free : QueuedReadsEndOutOfOrder
unfolding issued_on.submit_ties found_on.service_ties
order_is_free = record {
  initial_state = first;
  queues = refl;
  submit_first = issued_on.submit submission_one;
  asked_first = reading 100 100;
  submits_first = (refl, refl);
  submit_second = issued_on.submit submission_two;
  asked_second = reading 101 101;
  submits_second = (refl, refl);
  both_are_reads = (refl, refl);
  issued = (refl, refl);
  both_active = (refl, refl);
  service_second = found_on.service discovery_two;
  answers_second = (refl, refl);
  one_active = (one_active 0, one_active 1);
  only_first_is_left = λ e here. let is = only outstanding_first e here in (ap (λ (x : Pending). x.request.id) is, ap (λ (x : Pending). x.issued) is);
  service_first = found_on.service discovery_one;
  answers_first_only = (refl, refl);
  ready = (refl, refl, refl, refl, refl);
  healthy = (stays_healthy discovery_two found_two, stays_healthy discovery_one found_one);
  port_runs_well = runs_well found_again again_stands;
  service_second_reads_masks = finds_second.0;
  service_first_reads_masks = finds_first.0;
  allowed = (finds_second.1, finds_first.1);
  history = (
    (
      (
        (((starts, fit_ready queueing_disks), begins queueing_disks), issued_on.submit_happens submission_one issued_first, issued_on.submit_ties submission_one issued_first),
        issued_on.submit_happens submission_two issued_second,
        issued_on.submit_ties submission_two issued_second,
      ),
      found_on.service_happens discovery_two found_two,
      found_on.service_ties discovery_two found_two,
    ),
    found_on.service_happens discovery_one found_one,
    found_on.service_ties discovery_one found_one,
  );
  accesses = (refl, refl);
  submit_first_corresponds = λ port. issued_on.submit_part submission_one issued_first port.0;
  submit_second_corresponds = λ port. issued_on.submit_part submission_two issued_second port.0;
  service_second_corresponds = λ port. found_on.service_part discovery_two found_two port.0;
  service_first_corresponds = λ port. found_on.service_part discovery_one found_one port.0;
}
