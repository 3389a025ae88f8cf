-- A slot serves a read of one sector.
use Rattle.std.proofs.Common.{ℕ, zero, suc, ◌≡◌, ◌<◌, ◌*◌, ◌∙◌, ◌++◌, ◌&&◌, Bool, true, false, not, List, [], ◌∷◌, slice_index, None, Some, inl, ⊎_elim, refl, ap, subst, arith, sym}
use Rattle.std.proofs.lemmas.Bool.{true≢false}
use Rattle.std.specs.List.{All, Contains, list_any}
use Rattle.ata_types.specs.declared.Port.{Port}
use Rattle.ata_types.specs.declared.request.Op.TheVariants.{Read, Trim}
use Rattle.ata_types.specs.declared.request.RequestId.{RequestId}
use Rattle.adapter.specs.Commands.{Meaning, is_queued}
use Rattle.adapter.specs.Device.{DevicePort}
use Rattle.adapter.specs.Decoding.{piece_addresses}
use Rattle.adapter.specs.declared.command.Operation.TheVariants.{Identify}
use Rattle.adapter.specs.declared.tape.Entry.{Entry}
use Rattle.refinement.specs.Relation.{ServeDistinctRequests, SameClientFrames}
use Rattle.refinement.specs.MemoryLayout.{sector_address}
use Rattle.refinement.specs.Slots.{IsDropped, IsEnded, IsEmptySlot, IsMove, RelatesSlot, Serves, IsTakenFor, ServesRequest, IsInSomeStage, SlotDecodesTo, AwaitsFetch, client_operation_of}
use Rattle.refinement.specs.ReadWitness.{first_id}
use Rattle.block_machine.specs.DueRequests.{NoneDue, waits_for, is_waiting_and_unblocked, is_plain}
use Rattle.block_machine.specs.State.{Block, Machine, Pending}
use Rattle.block_machine.specs.Steps.{newly_issued, newly_accepted}
use Rattle.block_machine.specs.declared.due.QueueMode.{QueueMode}
use Rattle.block_machine.specs.declared.due.Unanswered.{Unanswered}
use Rattle.driver_history.specs.PortInvariants.{SlotCommandIsQueuedUnlessPlain, mode_of_disk}
use Rattle.witnesses.specs.RunningAdapter.{queueing_cap}
use Rattle.witnesses.proofs.history.Holding.{first_slots, requests_first, answers_first_only, uses_first}
use Rattle.witnesses.proofs.history.Issuing.{accepted_as}
use Rattle.witnesses.proofs.history.Members.{only}
use Rattle.witnesses.proofs.history.Pages.{Kind}
use Rattle.witnesses.proofs.history.Still.{all_still}
use Rattle.witnesses.proofs.history.Ready.{Agreeing, Stands, frame, instant_with, served_with, start}
use Rattle.witnesses.proofs.history.Submitting.{sent}

-- a read of sector k into frame n that was issued once
abbrev pub outstanding_as : RequestId → ℕ → ℕ → (ℕ → Block) → Pending
outstanding_as id k n held = newly_issued (newly_accepted (accepted_as id k n held))

-- the request at an age
abbrev pub aged : ℕ → Pending → Pending
aged age e = record e { age = age }

unfoldable pub serves_one : (m : Machine) (memory : ℕ → ℕ) (p : DevicePort) (slot : ℕ) (c : Meaning) (id : RequestId) (k n : ℕ) (held : ℕ → Block) (age : ℕ) → p.bases.clb ≡ 0 → slot < 32
    → Contains m.book (aged age (outstanding_as id k n held)) → client_operation_of c.operation ≡ Some Read → c.first ≡ k → SlotDecodesTo memory 0 0 slot c (piece_addresses (4096 * n) 1)
    → IsInSomeStage memory p 0 slot (aged age (outstanding_as id k n held)) c (piece_addresses (4096 * n) 1) → ServesRequest m memory p 0 slot id
serves_one m memory p slot c id k n held age list below here op first told stage =
    record {
      pending = aged age (outstanding_as id k n held);
      may_still_move = inl (here, refl);
      id_is = refl;
      port_is = refl;
      list_is_in_place = record { port_below = omega arith; slot_below = below; list = list };
      command = c;
      places = piece_addresses (4096 * n) 1;
      slot_decodes_to = subst (λ (at : ℕ). SlotDecodesTo memory at 0 slot c (piece_addresses (4096 * n) 1)) (sym list) told;
      means = record { op_is = op; first_sector_is_if_it_moves_sectors = λ _. first; places_are = (refl, places); trim_is_in_slot_0 = λ e. absurd (let x : Read ≡ Trim = e in cc) };
      stage = stage;
    }
  where
    places : (i : ℕ) → i < 1 → slice_index (piece_addresses (4096 * n) 1) i ≡ sector_address (frame n ∷ []) i
    places zero low = omega arith
    places (suc i) low = absurd (omega (arith, low))

-- A slot of a running port that has neither an issued command nor a taken one serves no request that hasn't ended.
pub serves_none : (m : Machine) (memory : ℕ → ℕ) (p : DevicePort) (slot : ℕ) (id : RequestId) (s : ServesRequest m memory p 0 slot id) → p.st ≡ true → p.ci slot ≡ false → p.taken slot ≡ None
    → s.pending.ended ≡ false → ⊥
serves_none m memory p slot id s started with_issue_undone free unended = ⊎_elim
    (λ (w : AwaitsFetch memory p 0 slot s.pending s.command). true≢false (sym w.issued ∙ with_issue_undone))
    (λ r. ⊎_elim
    (λ (w : IsTakenFor memory p 0 slot s.pending s.command s.places). let x : None ≡ Some w.command = sym free ∙ w.taken in cc)
    (λ r. ⊎_elim
    (λ (w : IsEnded p slot s.pending). true≢false (sym w.ended ∙ unended))
    (λ (w : IsDropped p slot s.pending). true≢false (sym started ∙ w.st_is_clear)) r) r)
    s.stage

-- ---- slot 0 alone is in use

first_apart : ServeDistinctRequests first_slots.slot_states
first_apart q k q' k' id u v = let one = answers_first_only q k id u in let other = answers_first_only q' k' id v in (one.0 ∙ sym other.0, one.1 ∙ sym other.1)

module _ (disk : Kind) (m : Machine) (more : List Entry) (memory : ℕ → ℕ) (p : DevicePort) (c : Meaning) (k n : ℕ) (held : ℕ → Block) (age : ℕ) where
  abbrev the_request : Pending
  the_request = aged age (outstanding_as first_id k n held)

  abbrev mode : QueueMode
  mode = mode_of_disk queueing_cap disk.info

  -- Request 1, a read by this command, is the one of the book; it is in slot 0 of port 0, and no other slot is in use.
  pub record HasOne : Type 0 where
    pub stands : Stands p
    pub disks : (m.present ≡ start.present) × (m.disk_ids ≡ start.disk_ids) × (m.sizes ≡ start.sizes) × (m.disk_bytes ≡ start.disk_bytes)
    pub book : m.book ≡ aged age (outstanding_as first_id k n held) ∷ []
    pub unkept : m.kept ≡ []
    pub unpaged : (port : ℕ) → All (λ e. IsMove port Identify e → ⊥) more
    pub still : all_still more ≡ true
    pub op : client_operation_of c.operation ≡ Some Read
    pub first : c.first ≡ k
    pub kind : is_queued c.operation ≡ not (is_plain (mode_of_disk queueing_cap disk.info) Read)
    pub told : SlotDecodesTo memory 0 0 0 c (piece_addresses (4096 * n) 1)
    pub stage : IsInSomeStage memory p 0 0 (aged age (outstanding_as first_id k n held)) c (piece_addresses (4096 * n) 1)
    pub others : (slot : ℕ) → IsEmptySlot p (suc slot)
    pub frames : SameClientFrames m memory

  module _ (has : HasOne) where
    pub the_one : (e : Pending) → Contains m.book e → e ≡ the_request
    the_one e here = only the_request e (subst (λ (es : List Pending). Contains es e) has.book here)

    slots : (slot : ℕ) → RelatesSlot m memory (sent disk.page ++ more) p 0 slot (uses_first 0 slot)
    slots zero = serves_one m memory p 0 c first_id k n held age (ap (λ (q : DevicePort). q.bases.clb) has.stands.same) (omega arith) (subst (λ (es : List Pending). Contains es the_request) (sym has.book) (0, omega arith, refl)) has.op has.first has.told has.stage
    slots (suc slot) = has.others slot

    kind_of : (e : Pending) → e ≡ the_request → SlotCommandIsQueuedUnlessPlain mode (served_with disk first_slots m more memory p) 0 0 e
    kind_of e is = subst (SlotCommandIsQueuedUnlessPlain mode (served_with disk first_slots m more memory p) 0 0) (sym is) (record {
      command = c;
      places = piece_addresses (4096 * n) 1;
      slot_decodes_to = subst (λ (at : ℕ). SlotDecodesTo memory at 0 0 c (piece_addresses (4096 * n) 1)) (sym (ap (λ (q : DevicePort). q.bases.clb) has.stands.same)) has.told;
      is_queued_if_not_plain = has.kind;
    })

    pub agrees_one : Agreeing disk first_slots m more memory p
    agrees_one = record {
      stands = has.stands;
      disks = has.disks;
      unkept = has.unkept;
      unpaged = has.unpaged;
      still = has.still;
      first_alone = λ e here. ap (λ (x : Pending). x.request.port.0) (the_one e here);
      slots = slots;
      others = λ q slot. refl;
      unparked = λ q. refl;
      apart = first_apart;
      frames = has.frames;
      have = λ e here. (0, sym (ap (λ (x : Pending). Serves x.request.id) (the_one e here)));
      requests = requests_first (instant_with disk first_slots m more memory p) mode disk.mode.0 (λ e here. kind_of e (the_one e here));
    }

-- ---- nothing is due

-- no request is due where each is issued
pub none_due : (mode : QueueMode) (book : List Unanswered) → ((r : Unanswered) → Contains book r → r.issued ≡ true) → (port : Port) → NoneDue mode book port
none_due mode book all port r at_port due =
    let held : is_waiting_and_unblocked mode book r ≡ false = ap (λ (issued : Bool). not issued && not (list_any (waits_for mode r) book)) (all r due.is_in_book) in
    absurd (true≢false (sym due.waits_and_nothing_blocks ∙ held))
