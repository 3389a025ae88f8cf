-- The first witness's read is accepted and issued: the machine, and what holds before and after it.
use Rattle.std.proofs.Common.{ℕ, zero, suc, ◌≡◌, ◌≤◌, ◌∙◌, true, false, List, [], ◌∷◌, None, inl, inr, ⊎_elim, refl, sym, ap, arith}
use Rattle.std.specs.Prelude.{count_by}
use Rattle.std.proofs.lemmas.Bool.{le-ltb, true≢false}
use Rattle.std.specs.List.{Contains}
use Rattle.std.proofs.lemmas.List.Elements.{All-from_recursion}
use Rattle.ata_types.specs.declared.Port.{Port}
use Rattle.ata_types.specs.declared.request.Outcome.{Outcome}
use Rattle.ata_types.specs.declared.grant.GrantRow.{GrantRow}
use Rattle.ata_types.specs.declared.request.Request.{Request}
use Rattle.hba_regs.specs.Bits.{bit}
use Rattle.adapter.specs.Commands.{is_queued}
use Rattle.adapter.specs.Device.{Device, DevicePort}
use Rattle.adapter.specs.ReadDone.{read_of}
use Rattle.adapter.specs.Decoding.{piece_addresses}
use Rattle.adapter.specs.declared.access.DeviceStep.{DeviceStep}
use Rattle.refinement.specs.Relation.{port_at}
use Rattle.refinement.specs.Slots.{ServesRequest, IsInSomeStage}
use Rattle.refinement.specs.ReadWitness.{first_id}
use Rattle.block_machine.specs.Events.{Happens, AbstractState}
use Rattle.block_machine.specs.Histories.{JointEvent, JointState}
use Rattle.block_machine.specs.Expected.{after}
use Rattle.block_machine.specs.Ports.{Evidence, Ports, SamePort}
use Rattle.block_machine.specs.State.{Machine, Pending, unanswered}
use Rattle.block_machine.specs.Steps.{Accept, Answer, Issue, IsEnabled, newly_accepted}
use Rattle.block_machine.specs.declared.due.Unanswered.{Unanswered}
use Rattle.identify.specs.declared.wanted.Wanted.TheVariants.{Any}
use Rattle.driver_history.specs.EvidenceHandling.{ServicesReadyPort, tells_fault}
use Rattle.driver_history.specs.Histories.{IsIssuedOn, StoresOrWritesSactOrCi, CallCorresponds, PortCorresponds}
use Rattle.driver_history.specs.PortInvariants.{DriverInvariantWith}
use Rattle.witnesses.specs.ReadyPort.{HistoryBeginsReady}
use Rattle.witnesses.specs.RunningAdapter.{plain_disk_mode, running_port}
use Rattle.witnesses.proofs.history.Command.{read_memory, told, zeros}
use Rattle.witnesses.proofs.history.Holding.{IsUnnamed, first_slots, no_slots}
use Rattle.witnesses.proofs.history.Issuing.{Submission, IsIssued, reading, submit_happens as happens_so, submit_part as part_of, submit_ties as ties_so}
use Rattle.witnesses.proofs.history.Issuing as issuing_on
use Rattle.witnesses.proofs.history.Members.{nowhere, only}
use Rattle.witnesses.proofs.history.Memory.{past_driver}
use Rattle.witnesses.proofs.history.Pages.{plain_disks}
use Rattle.witnesses.proofs.history.Ready.{Agreeing, Stands, begins, fit_ready, granted, holds, instant_with, no_page, start, starts, two_ready, two_rows}
use Rattle.witnesses.proofs.history.Serving.{HasOne, agrees_one, aged, none_due, serves_none, serves_one, outstanding_as}
use Rattle.witnesses.proofs.history.Submitting.{issued, others_clear, submit_accesses, submits, submitted}

-- ---- the machine

abbrev pub both : Ports
both = two_ready plain_disks

abbrev pub first : JointState Device
first = instant_with plain_disks no_slots start [] zeros (running_port 0)

-- a read of one sector
abbrev pub asked : Request
asked = reading 100 100

abbrev pub submission : Submission
submission = record {
  disk = plain_disks;
  machine = start;
  slots = no_slots;
  slots_then = first_slots;
  memory = zeros;
  memory_then = read_memory;
  port = running_port 0;
  port_then = issued;
  id = first_id;
  sector = 100;
  frame_number = 100;
  accesses = submit_accesses;
}

abbrev waits : Pending
waits = newly_accepted (issuing_on.accepted submission)

abbrev pub issuing : Machine
issuing = issuing_on.issuing submission

abbrev pub waiting : Pending
waiting = outstanding_as first_id 100 100 (issuing_on.accepted submission).blocks_at_acceptance

abbrev pub submitted_at : JointState Device
submitted_at = issuing_on.submitted_at submission

-- the read issued still when it has this age
abbrev pub waiting_for : ℕ → Pending
waiting_for age = aged age waiting

abbrev pub issued_for : ℕ → Machine
issued_for age = record issuing { book = waiting_for age ∷ [] }

abbrev pub issued_at : ℕ → JointState Device
issued_at age = record { device = submitted; abstract = record { machine = issued_for age; ports = both } }

may_issue : IsEnabled (after start (Accept (issuing_on.accepted submission) ∷ [])) (Issue plain_disk_mode waits)
may_issue = ((0, omega arith, refl), record { is_in_book = (0, omega arith, refl); waits_and_nothing_blocks = refl; slot_is_left = λ h. absurd (true≢false h) }, λ e h. absurd (nowhere e h), granted)

stands : Stands issued
stands = record { same = refl; quiet = λ place from. refl }

pub in_book : (age : ℕ) (e : Pending) → Contains (issued_for age).book e → e ≡ waiting_for age
in_book age e here = only (waiting_for age) e here

-- ---- what holds

serves_stage : (age : ℕ) → IsInSomeStage read_memory issued 0 0 (waiting_for age) (read_of 100 1) (piece_addresses 0x64000 1)
serves_stage age = inl (record { started = refl; issued = refl; is_not_taken = refl; sact = refl; has_block_if_trim = tt; untouched = λ i. sym (le-ltb i 0 (omega arith)); unended = refl })

pub serves : ServesRequest issuing read_memory issued 0 0 first_id
serves = serves_one issuing read_memory issued 0 (read_of 100 1) first_id 100 100 waiting.request.blocks_at_acceptance 0 refl (omega arith) (0, omega arith, refl) refl refl told (serves_stage 0)

pub serves_plain : is_queued serves.command.operation ≡ false
unfolding serves serves_one
serves_plain = refl

-- whatever grants there are then
abbrev pub issued_under : List GrantRow → ℕ → Machine
issued_under rows age = record (issued_for age) { rows = rows }

has_one : (rows : List GrantRow) (age : ℕ) → HasOne plain_disks (issued_under rows age) [] read_memory issued (read_of 100 1) 100 100 waiting.request.blocks_at_acceptance age
has_one rows age = record {
  stands = stands;
  disks = (refl, refl, refl, refl);
  book = refl;
  unkept = refl;
  unpaged = no_page;
  still = refl;
  op = refl;
  first = refl;
  kind = refl;
  told = told;
  stage = serves_stage age;
  others = λ slot. record { is_not_issued = others_clear slot; is_not_taken = refl; unarmed = refl };
  frames = λ f b from small. past_driver f b from;
}

pub issued_agrees : (rows : List GrantRow) (age : ℕ) → Agreeing plain_disks first_slots (issued_under rows age) [] read_memory issued
issued_agrees rows age = agrees_one plain_disks (issued_under rows age) [] read_memory issued (read_of 100 1) 100 100 waiting.request.blocks_at_acceptance age (has_one rows age)

pub holds_issued : (age : ℕ) → DriverInvariantWith (Any ∷ Any ∷ []) first_slots (issued_at age)
holds_issued age = holds plain_disks first_slots (issued_for age) [] read_memory issued (issued_agrees two_rows age)

pub holds_submitted : DriverInvariantWith (Any ∷ Any ∷ []) first_slots submitted_at
holds_submitted = holds_issued 0

pub ready_has_begun : HistoryBeginsReady
ready_has_begun = record {
  initial_state = first;
  ready = (refl, refl);
  pages_are_on_tape = ((0, omega arith, refl), (1, omega arith, refl));
  history_begins = ((starts, fit_ready plain_disks), begins plain_disks);
}

-- ---- the read is accepted

is_issued : IsIssued submission
is_issued = record {
  stands = record { same = refl; quiet = λ place from. refl };
  agreeing = issued_agrees two_rows 0;
  takes = record { rows = refl; id_is = refl; left = omega arith; few = omega arith; owned = refl; free = refl; from = omega arith; to = omega arith; on_disk = omega arith };
  may = may_issue;
  all_issued = λ port is. none_due plain_disk_mode (unanswered waiting ∷ []) (λ r here. ap (λ (x : Unanswered). x.issued) (only (unanswered waiting) r here)) port;
  due = issuing_on.due_alone submission refl may_issue.1 refl;
  does = submits;
  only = All-from_recursion (StoresOrWritesSactOrCi (port_at 0)) submit_accesses (omega arith, (omega arith, (omega arith, (inr refl, tt))));
}

abbrev pub submit : JointEvent Device DeviceStep
submit = issuing_on.submit submission

pub submit_happens : Happens first.abstract submit.event
submit_happens = happens_so submission is_issued

pub submit_ties : CallCorresponds (Any ∷ Any ∷ []) first submit
submit_ties = ties_so submission is_issued

pub submit_parts : (port : Port) → PortCorresponds first submit submit_ties.accesses port
unfolding submit_ties ties_so
submit_parts port = part_of submission is_issued port.0

-- ---- a service that answers it

-- no bit of PxIS was set when it began
pub no_flags : (n place : ℕ) → (submitted.port n).is place ≡ false
no_flags zero place = refl
no_flags (suc zero) place = refl
no_flags (suc (suc n)) place = refl

-- no request had ended then
pub not_ended : (age : ℕ) (e : Pending) → Contains (issued_for age).book e → e.ended ≡ true → ⊥
not_ended age e here is = true≢false (sym is ∙ ap (λ (x : Pending). x.ended) (in_book age e here))

-- where no command is taken yet, a slot whose bit of PxCI is clear serves no request
pub bits_set : (age : ℕ) (p : DevicePort) → p.st ≡ true → ((k : ℕ) → p.ci k ≡ bit 1 k) → ((k : ℕ) → p.taken k ≡ None) → (e : Pending) (k : ℕ) → ServesRequest (issued_for age) read_memory p 0 k e.request.id → bit 1 k ≡ false → ⊥
bits_set age p started waits free e k s ci = serves_none (issued_for age) read_memory p k e.request.id s started (waits k ∙ ci) (free k)
    (ap (λ (x : Pending). x.ended) (⊎_elim (λ m. in_book age s.pending m.0) (λ m. absurd (nowhere s.pending m)) s.may_still_move))

-- and no other port has one
pub none_there : (age n : ℕ) (e : Pending) → IsIssuedOn (port_at (suc n)) (issued_for age) e → ⊥
none_there age n e on = let z : 0 ≡ suc n = sym (ap (λ (x : Pending). x.request.port.0) (in_book age e on.is_in_book)) ∙ ap (λ (p : Port). p.0) on.port_is in omega (arith, z)

-- where this is the one step, there is one answer
pub the_answer : (told : Outcome) (e : Pending) (o : Outcome) → Contains (Answer waiting told ∷ []) (Answer e o) → (e ≡ waiting) × (o ≡ told)
the_answer told e o here = let same : Answer e o ≡ Answer waiting told = only (Answer waiting told) (Answer e o) here in (cc, cc)

-- and the other port is left alone, if it isn't named
pub leaves_other : (told : Outcome) (evidence : Evidence) (new : AbstractState) → IsUnnamed evidence (port_at 1) → count_by (tells_fault (port_at 1)) (Answer waiting told ∷ []) ≤ 1 → SamePort both new.ports (port_at 1)
    → ServicesReadyPort submitted_at.abstract evidence (Answer waiting told ∷ []) new (port_at 1)
leaves_other told evidence new un single same = record {
  answers_ok_what_had_ended = λ e here at_port ended. absurd (not_ended 0 e here ended);
  link_change_leaves_none = λ g. absurd (un.gone g);
  link_change_tells_alike = λ g. absurd (un.gone g);
  trouble_stops_or_sticks = λ why. absurd (⊎_elim un.failed un.gone why);
  error_or_stop_leaves_no_old_issue = λ why. absurd (⊎_elim un.failed un.stopped why);
  one_fault_at_most = single;
  fatal_tells_no_fault = λ h. absurd (un.fatal h);
  shown_disk_was_in_or_came = λ shows. inl refl;
  is_left_alone_if_calm = inr (record {
    port_is_same = same;
    only_ok_is_told = λ e o here at_port. absurd (let z : 0 ≡ 1 = sym (ap (λ (x : Pending). x.request.port.0) (the_answer told e o here).0) ∙ ap (λ (p : Port). p.0) at_port in omega (arith, z));
    is_neither_stopped_nor_stuck = λ why. ⊎_elim un.stopped un.stuck why;
  });
}
