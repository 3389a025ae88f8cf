-- Two queued reads are accepted, and issued one beside the other.
use Rattle.std.proofs.Common.{ℕ, zero, suc, ◌≡◌, ◌⊎◌, ◌↔◌, ◌*◌, ◌∙◌, ◌≤◌, true, false, not, [], ◌∷◌, inl, inr, ⊎_elim, refl, sym, ap, subst, arith}
use Rattle.std.proofs.lemmas.Bool.{le-ltb, true≢false}
use Rattle.std.specs.List.{Contains}
use Rattle.ata_types.specs.declared.Port.{Port}
use Rattle.ata_types.specs.declared.request.RequestId.{RequestId}
use Rattle.adapter.specs.Device.{Device}
use Rattle.adapter.specs.Decoding.{piece_addresses}
use Rattle.refinement.specs.Acts.{DriverSlots}
use Rattle.refinement.specs.Relation.{ServeDistinctRequests, port_at}
use Rattle.refinement.specs.TwoReadsWitness.{second_id}
use Rattle.refinement.specs.Slots.{Free, RelatesSlot, Serves, IsInSomeStage, SlotStates}
use Rattle.refinement.specs.ReadWitness.{first_id}
use Rattle.block_machine.specs.DueRequests.{IsDue, is_plain}
use Rattle.block_machine.specs.Events.{IsIssuedIn}
use Rattle.block_machine.specs.Histories.{JointState}
use Rattle.block_machine.specs.Expected.{after}
use Rattle.block_machine.specs.State.{Block, Machine, Pending, unanswered}
use Rattle.block_machine.specs.Steps.{Accept, Issue, IsEnabled, newly_accepted}
use Rattle.block_machine.specs.declared.due.Unanswered.{Unanswered}
use Rattle.driver_history.specs.Histories.{IssuesDue}
use Rattle.driver_history.specs.PortInvariants.{ReadySlotsInvariant, IsFreeOrServes, SlotCommandIsQueuedUnlessPlain}
use Rattle.witnesses.specs.RunningAdapter.{queued_disk_mode, running_port}
use Rattle.witnesses.proofs.history.Command.{queued_read, zeros}
use Rattle.witnesses.proofs.history.Devices.{other_bit}
use Rattle.witnesses.proofs.history.Holding.{first_slots, no_slots}
use Rattle.witnesses.proofs.history.Issuing as issued_on
use Rattle.witnesses.proofs.history.Issuing.{IsIssued, Submission, accepted_as, reading}
use Rattle.witnesses.proofs.history.Members.{either, nowhere, only}
use Rattle.witnesses.proofs.history.Pages.{queueing_disks}
use Rattle.witnesses.proofs.history.Queueing.{first_told, neither, one_issued, one_memory, one_submits, one_told, one_zeros, queue_accesses, queues, second_told, two_issued, two_reads_memory, two_submits, two_zeros}
use Rattle.witnesses.proofs.history.Ready.{Agreeing, Stands, granted, instant_with, no_page, start}
use Rattle.witnesses.proofs.history.Serving.{HasOne, agrees_one, none_due, serves_one, outstanding_as}
use Rattle.witnesses.proofs.history.Swapping.{pages}

-- ---- the machine

abbrev pub first : JointState Device
first = instant_with queueing_disks no_slots start [] zeros (running_port 0)

abbrev pub submission_one : Submission
submission_one = record {
  disk = queueing_disks;
  machine = start;
  slots = no_slots;
  slots_then = first_slots;
  memory = zeros;
  memory_then = one_memory;
  port = running_port 0;
  port_then = one_issued;
  id = first_id;
  sector = 100;
  frame_number = 100;
  accesses = queue_accesses 0 100 100 1;
}

abbrev first_issuing : Machine
first_issuing = issued_on.issuing submission_one

-- slot 0 of port 0 serves request 1, and slot 1 request 2
abbrev pub two_uses : SlotStates
two_uses zero zero = Serves first_id
two_uses zero (suc zero) = Serves second_id
two_uses zero (suc (suc slot)) = Free
two_uses (suc port) slot = Free

abbrev pub two_slots : DriverSlots
two_slots = record { slot_states = two_uses; awaiting_disposition = λ port. [] }

abbrev pub submission_two : Submission
submission_two = record {
  disk = queueing_disks;
  machine = first_issuing;
  slots = first_slots;
  slots_then = two_slots;
  memory = one_memory;
  memory_then = two_reads_memory;
  port = one_issued;
  port_then = two_issued;
  id = second_id;
  sector = 101;
  frame_number = 101;
  accesses = queue_accesses 1 101 101 2;
}

abbrev pub both_issuing : Machine
both_issuing = issued_on.issuing submission_two

abbrev pub held : ℕ → Block
held = (issued_on.accepted submission_one).blocks_at_acceptance

abbrev pub held_too : ℕ → Block
held_too = (issued_on.accepted submission_two).blocks_at_acceptance

abbrev pub outstanding_first : Pending
outstanding_first = outstanding_as first_id 100 100 held

abbrev pub outstanding_second : Pending
outstanding_second = outstanding_as second_id 101 101 held_too

-- ---- the first read is issued

one_stands : Stands one_issued
one_stands = record { same = refl; quiet = λ place from. refl }

has_one : HasOne queueing_disks first_issuing [] one_memory one_issued (queued_read 100) 100 100 held 0
has_one = record {
  stands = one_stands;
  disks = (refl, refl, refl, refl);
  book = refl;
  unkept = refl;
  unpaged = no_page;
  still = refl;
  op = refl;
  first = refl;
  kind = refl;
  told = one_told;
  stage = inl (record { started = refl; issued = refl; is_not_taken = refl; sact = refl; has_block_if_trim = tt; untouched = λ i. sym (le-ltb i 0 (omega arith)); unended = refl });
  others = λ slot. record { is_not_issued = other_bit (suc slot) (omega arith); is_not_taken = refl; unarmed = other_bit (suc slot) (omega arith) };
  frames = λ f b from small. one_zeros f b from;
}

one_agrees : Agreeing queueing_disks first_slots first_issuing [] one_memory one_issued
one_agrees = agrees_one queueing_disks first_issuing [] one_memory one_issued (queued_read 100) 100 100 held 0 has_one

may_first : IsEnabled (after start (Accept (issued_on.accepted submission_one) ∷ [])) (Issue queued_disk_mode (newly_accepted (issued_on.accepted submission_one)))
may_first = ((0, omega arith, refl), record { is_in_book = (0, omega arith, refl); waits_and_nothing_blocks = refl; slot_is_left = λ _. omega arith }, λ e h. absurd (nowhere e h), granted)

pub issued_first : IsIssued submission_one
unfolding one_memory
issued_first = record {
  stands = record { same = refl; quiet = λ place from. refl };
  agreeing = one_agrees;
  takes = record { rows = refl; id_is = refl; left = omega arith; few = omega arith; owned = refl; free = refl; from = omega arith; to = omega arith; on_disk = omega arith };
  may = may_first;
  all_issued = λ port is. none_due queued_disk_mode (unanswered outstanding_first ∷ []) (λ r here. ap (λ (x : Unanswered). x.issued) (only (unanswered outstanding_first) r here)) port;
  due = issued_on.due_alone submission_one refl may_first.1 refl;
  does = queues pages zeros (running_port 0) 0 100 100 1;
  only = one_submits;
}

-- ---- and the second beside it

pub two_stands : Stands two_issued
two_stands = record { same = refl; quiet = λ place from. refl }

pub in_book : (e : Pending) → Contains both_issuing.book e → (e ≡ outstanding_first) ⊎ (e ≡ outstanding_second)
in_book e here = either outstanding_first outstanding_second e here

-- a fact of each of the two is one of each request of the book
pub each_has : (P : Pending → Type 0) → P outstanding_first → P outstanding_second → (e : Pending) → Contains both_issuing.book e → P e
each_has P a b e here = ⊎_elim (λ (is : e ≡ outstanding_first). subst P (sym is) a) (λ (is : e ≡ outstanding_second). subst P (sym is) b) (in_book e here)

waits_in : (k n slot : ℕ) (id : RequestId) (block : ℕ → Block) → two_issued.ci slot ≡ true → two_issued.sact slot ≡ true → IsInSomeStage two_reads_memory two_issued 0 slot (outstanding_as id k n block) (queued_read k) (piece_addresses (4096 * n) 1)
waits_in k n slot id block issued active = inl (record { started = refl; issued = issued; is_not_taken = refl; sact = active; has_block_if_trim = tt; untouched = λ i. sym (le-ltb i 0 (omega arith)); unended = refl })

two_serve : (slot : ℕ) → RelatesSlot both_issuing two_reads_memory pages two_issued 0 slot (two_uses 0 slot)
two_serve zero = serves_one both_issuing two_reads_memory two_issued 0 (queued_read 100) first_id 100 100 held 0 refl (omega arith) (0, omega arith, refl) refl refl first_told (waits_in 100 100 0 first_id held refl refl)
two_serve (suc zero) = serves_one both_issuing two_reads_memory two_issued 1 (queued_read 101) second_id 101 101 held_too 0 refl (omega arith) (1, omega arith, refl) refl refl second_told (waits_in 101 101 1 second_id held_too refl refl)
two_serve (suc (suc slot)) = record { is_not_issued = neither slot; is_not_taken = refl; unarmed = neither slot }

pub not_second : first_id ≡ second_id → ⊥
not_second same = let n : 1 ≡ 2 = ap (λ (id : RequestId). id.0) same in omega (arith, n)

-- no two slots serve the same
two_apart : ServeDistinctRequests two_uses
two_apart zero zero zero zero id u v = (refl, refl)
two_apart zero (suc zero) zero (suc zero) id u v = (refl, refl)
two_apart zero zero zero (suc zero) id u v = absurd (let x : Serves first_id ≡ Serves second_id = u ∙ sym v in not_second cc)
two_apart zero (suc zero) zero zero id u v = absurd (let x : Serves first_id ≡ Serves second_id = v ∙ sym u in not_second cc)
two_apart (suc p) slot q k id u v = absurd (let x : Free ≡ Serves id = u in cc)
two_apart zero (suc (suc slot)) q k id u v = absurd (let x : Free ≡ Serves id = u in cc)
two_apart zero slot (suc q) k id u v = absurd (let x : Free ≡ Serves id = v in cc)
two_apart zero slot zero (suc (suc k)) id u v = absurd (let x : Free ≡ Serves id = v in cc)

-- the command of each is queued, and so is its request
two_requests : ReadySlotsInvariant two_slots (issued_on.submitted_at submission_two) (port_at 0) queued_disk_mode
two_requests = record {
  slots_serve_clients = clients;
  unusable_are_free = low;
  none_is_parked = refl;
  unended_commands_are_queued_as_asked = λ slot e s unended. kinds slot e s.is_in_book s.serves;
  plain_is_alone = λ slot e s plain. absurd (true≢false (sym plain ∙ each_has (λ x. is_plain queued_disk_mode x.request.asked.op ≡ false) refl refl e s.is_in_book));
}
  where
    clients : (slot : ℕ) → IsFreeOrServes (two_uses 0 slot)
    clients zero = inr (first_id, refl)
    clients (suc zero) = inr (second_id, refl)
    clients (suc (suc slot)) = inl refl

    low : (slot : ℕ) → 32 ≤ slot → two_uses 0 slot ≡ Free
    low zero above = absurd (omega (arith, above))
    low (suc zero) above = absurd (omega (arith, above))
    low (suc (suc slot)) above = refl

    kind_of : (e : Pending) → Contains both_issuing.book e → true ≡ not (is_plain queued_disk_mode e.request.asked.op)
    kind_of = each_has (λ x. true ≡ not (is_plain queued_disk_mode x.request.asked.op)) refl refl

    kinds : (slot : ℕ) (e : Pending) → Contains both_issuing.book e → two_uses 0 slot ≡ Serves e.request.id → SlotCommandIsQueuedUnlessPlain queued_disk_mode (issued_on.submitted_at submission_two).device 0 slot e
    kinds zero e here u = record { command = queued_read 100; places = piece_addresses 0x64000 1; slot_decodes_to = first_told; is_queued_if_not_plain = kind_of e here }
    kinds (suc zero) e here u = record { command = queued_read 101; places = piece_addresses 0x65000 1; slot_decodes_to = second_told; is_queued_if_not_plain = kind_of e here }
    kinds (suc (suc slot)) e here u = absurd (let x : Free ≡ Serves e.request.id = u in cc)

pub two_agree : Agreeing queueing_disks two_slots both_issuing [] two_reads_memory two_issued
two_agree = record {
  stands = two_stands;
  disks = (refl, refl, refl, refl);
  unkept = refl;
  unpaged = no_page;
  still = refl;
  first_alone = each_has (λ x. x.request.port.0 ≡ 0) refl refl;
  slots = two_serve;
  others = λ n k. refl;
  unparked = λ n. refl;
  apart = two_apart;
  frames = λ f b from small. two_zeros f b from;
  have = each_has (λ x. (slot : ℕ) × (two_uses 0 slot ≡ Serves x.request.id)) (0, refl) (1, refl);
  requests = two_requests;
}

abbrev waits_second : Pending
waits_second = newly_accepted (issued_on.accepted submission_two)

may_second : IsEnabled (after first_issuing (Accept (issued_on.accepted submission_two) ∷ [])) (Issue queued_disk_mode waits_second)
may_second = ((1, omega arith, refl), record { is_in_book = (1, omega arith, refl); waits_and_nothing_blocks = refl; slot_is_left = λ _. omega arith }, λ e h. absurd (nowhere e h), granted)

due_second : (port : Port) → IssuesDue queued_disk_mode (issued_on.submit_steps submission_two) both_issuing port
due_second port r here at_port = ⊎_elim
    (λ (is : r ≡ unanswered outstanding_first). subst Right (sym is) (λ f. absurd (true≢false (sym f)), λ due. absurd (true≢false (sym due.waits_and_nothing_blocks))))
    (λ (is : r ≡ unanswered waits_second). subst Right (sym is) (λ _. may_second.1, λ _. refl))
    (either (unanswered outstanding_first) (unanswered waits_second) r here)
  where
    Right : Unanswered → Type 0
    Right x = IsIssuedIn x.id (issued_on.submit_steps submission_two) ↔ IsDue queued_disk_mode (unanswered outstanding_first ∷ unanswered waits_second ∷ []) x

pub issued_second : IsIssued submission_two
unfolding two_reads_memory
issued_second = record {
  stands = one_stands;
  agreeing = two_agree;
  takes = record { rows = refl; id_is = refl; left = omega arith; few = omega arith; owned = refl; free = refl; from = omega arith; to = omega arith; on_disk = omega arith };
  may = may_second;
  all_issued = λ port is. none_due queued_disk_mode (unanswered outstanding_first ∷ unanswered outstanding_second ∷ []) all_issued port;
  due = due_second;
  does = queues pages one_memory one_issued 1 101 101 2;
  only = two_submits;
}
  where
    all_issued : (r : Unanswered) → Contains (unanswered outstanding_first ∷ unanswered outstanding_second ∷ []) r → r.issued ≡ true
    all_issued r here = ⊎_elim (λ is. ap (λ (x : Unanswered). x.issued) is) (λ is. ap (λ (x : Unanswered). x.issued) is) (either (unanswered outstanding_first) (unanswered outstanding_second) r here)
