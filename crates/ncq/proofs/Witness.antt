-- The first read may be issued.
use Rattle.std.proofs.Common.{ℕ, List, length, ◌≡◌, ◌<◌, ◌+◌, ◌/◌, ◌^◌, Bool, true, false, not, [], ◌∷◌, Some, inl, refl, sym, ◌∙◌, ap, subst, lit<, arith, ⊎_elim}
use Rattle.std.proofs.lemmas.Bool.{cases_eq}
use Rattle.ata_types.specs.declared.Port.{Port}
use Rattle.ata_types.specs.declared.refusal.Rule.TheVariants.{FrameCount}
use Rattle.ata_types.specs.declared.request.Op.{Op}
use Rattle.ata_types.specs.declared.request.Op.TheVariants.{Read}
use Rattle.adapter.specs.Commands.{Meaning, is_queued, moves_disk_sectors}
use Rattle.adapter.specs.FirstRead.{first_read_device}
use Rattle.adapter.specs.Memory.{changed}
use Rattle.adapter.specs.ReadDone.{read_of}
use Rattle.adapter.specs.Decoding.{DecodesTo, piece_addresses}
use Rattle.block_machine.specs.Confinement.{WasAccepted}
use Rattle.block_machine.specs.DueRequests.{is_plain}
use Rattle.block_machine.specs.Events.{AllEnabled}
use Rattle.block_machine.specs.Expected.{IsInitial, after}
use Rattle.block_machine.specs.Rules.{frame_count_for}
use Rattle.block_machine.specs.State.{Accepted, Machine, Pending}
use Rattle.block_machine.specs.Steps.{Issue, IsEnabled, Step}
use Rattle.block_machine.specs.declared.due.QueueMode.{QueueMode}
use Rattle.refinement.specs.Driver.{IsRequestPreparedToIssue, idle_driver_state}
use Rattle.refinement.specs.Slots.{AreRequestPlaces, client_operation_of}
use Rattle.refinement.specs.ReadWitness.{PreparedReadWitness, prepared_read}
use Rattle.ncq.specs.Tasks.{IsFitTransfer}
use Rattle.ncq.specs.Witness.{TransferIssueWitness}
use Rattle.ncq.specs.declared.tasks.Task.{Task}

-- a request that was accepted has as many frames as it needs
frames_fit : (start : Machine) (history : List Step) (r : Accepted) → WasAccepted start history r → length r.asked.frames.items ≡ frame_count_for r.asked.op r.asked.count
frames_fit start [] r was = absurd was
frames_fit start (step ∷ past) r was = ⊎_elim
    (λ first. ⊎_elim (λ same. same) (λ other. absurd (first.1.breaks_no_rule FrameCount other)) (cases_eq (length r.asked.frames.items) (frame_count_for r.asked.op r.asked.count)))
    (λ before. frames_fit start past r before)
    was

-- given what the laws say of the first read, and of requests that are issued
module _ (known : PreparedReadWitness) (one : (memory : ℕ → ℕ) (list slot : ℕ) (m n : Meaning) (xs ys : List ℕ) → DecodesTo memory list slot m xs → DecodesTo memory list slot n ys → (m ≡ n) × (xs ≡ ys))
    (says : DecodesTo first_read_device.memory 0 0 (read_of 100 8) (piece_addresses 0x64000 8))
    (issued : (start : Machine) (history : List Step) (mode : QueueMode) (e : Pending) → IsInitial start → AllEnabled start history → IsEnabled (after start history) (Issue mode e) → WasAccepted start history e.request) where
  prepared : IsRequestPreparedToIssue (idle_driver_state prepared_read).slot_states known.machine prepared_read 0 0 known.mode known.request 1
  prepared = known.prepared

  abbrev request : Accepted
  request = known.request.request

  -- memory says the first read, so the request is that read
  same : (prepared.command ≡ read_of 100 8) × (prepared.places ≡ piece_addresses 0x64000 8)
  unfolding changed
  same = one first_read_device.memory 0 0 prepared.command (read_of 100 8) prepared.places (piece_addresses 0x64000 8) prepared.slot_decodes_to.decodes_to says

  read_is : request.asked.op ≡ Read
  read_is = some_read (sym prepared.means.op_is ∙ ap (λ (m : Meaning). client_operation_of m.operation) same.0)
    where
      some_read : {op : Op} → Some op ≡ Some Read → op ≡ Read
      some_read e = cc

  first_is : request.asked.first.0 ≡ 100
  first_is = sym (prepared.means.first_sector_is_if_it_moves_sectors (ap (λ (m : Meaning). moves_disk_sectors m.operation) same.0)) ∙ ap (λ (m : Meaning). m.first) same.0

  count_is : request.asked.count ≡ 8
  count_is = sym (subst (λ (op : Op). AreRequestPlaces op 0 request prepared.places) read_is prepared.means.places_are).0 ∙ ap (λ (places : List ℕ). length places) same.1

  number_is : length request.asked.frames.items ≡ (request.asked.count + 7) / 8
  number_is =
      frames_fit known.reached.initial_machine known.reached.steps_since request
      (issued known.reached.initial_machine known.reached.steps_since known.mode known.request known.reached.is_initial known.reached.steps_since_are_enabled (subst (λ (m : Machine). IsEnabled m (Issue known.mode known.request)) known.reached.leads_to_machine prepared.issue_is_enabled))
      ∙ ap (λ (op : Op). frame_count_for op request.asked.count) read_is

  is_plain_read : is_plain known.mode request.asked.op ≡ true
  is_plain_read = is_true (is_plain known.mode request.asked.op) (sym (ap (λ (m : Meaning). is_queued m.operation) same.0) ∙ prepared.queued_as_request)
    where
      is_true : (b : Bool) → false ≡ not b → b ≡ true
      is_true true e = refl
      is_true false e = absurd (let z : false ≡ true = e in cc)

  abbrev transfer : Task
  transfer = record { op = request.asked.op; range = record { first = request.asked.first; count = request.asked.count }; queued = false }

  fits : IsFitTransfer transfer request.asked.frames.items
  fits = record {
    is_transfer = inl read_is;
    count_is_positive = let count = count_is in omega (arith, count);
    count_is_allowed = let count = count_is in omega (arith, count);
    first_in_range = subst (λ (n : ℕ). n < 2 ^ 48) (sym first_is) (omega arith);
    frame_count_is = number_is;
  }

  pub first_may_be_issued : TransferIssueWitness
  unfolding changed
  first_may_be_issued = record {
    adapter_is_on = record { ae_is_set = refl; no_reset = refl };
    has_port = (lit< tt, refl);
    driver_memory_fits = omega arith;
    list_runs = record { st_is_set = refl; list_is_in_place = refl };
    machine_is_related = record {
      machine = known.machine;
      parked = λ port. [];
      reached = known.reached;
      driver_relation = known.driver_relation;
    };
    mode = known.mode;
    request = known.request;
    issue_is_enabled = prepared.issue_is_enabled;
    transfer = transfer;
    frames = request.asked.frames.items;
    fits = fits;
    plain = refl;
    is_task = record {
      port_is = ap (λ (n : ℕ). let port : Port = record { 0 = n } in port) prepared.port_is;
      operation_is = refl;
      first_is = refl;
      count_is = refl;
      frames_are = refl;
      queued_is = sym (ap (λ (b : Bool). not b) is_plain_read);
      slot_is_usable = prepared.slot_is_usable;
      plain_in_slot_0 = λ q. refl;
    };
  }
