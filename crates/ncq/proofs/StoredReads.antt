-- Two queued reads are stored, and may be issued together.
use Rattle.std.proofs.Common.{ℕ, zero, suc, ◌≡◌, ◌<◌, ◌≤◌, ◌/◌, ◌%◌, ◌==◌, true, false, not, List, [], ◌∷◌, inl, refl, sym, ap, arith}
use Rattle.std.proofs.lemmas.Bool.{both_ways}
use Rattle.std.proofs.lemmas.List.Elements.{All-cons}
use Rattle.std.proofs.lemmas.List.Kept.{AllPairs-cons}
use Rattle.std.proofs.lemmas.Nat.Bits.{bit_at_above}
use Rattle.std.specs.List.{All}
use Rattle.ata_types.specs.declared.range.Sector.{Sector}
use Rattle.ata_types.specs.declared.request.Op.TheVariants.{Read}
use Rattle.hba_regs.specs.Bits.{bit}
use Rattle.adapter.specs.Memory.{changed}
use Rattle.block_machine.specs.State.{Pending}
use Rattle.block_machine.specs.declared.due.QueueMode.{QueueMode}
use Rattle.refinement.specs.Relation.{port_at}
use Rattle.refinement.specs.TwoReadsWitness.{ReadsIntoFrame, TwoStoredReads, two_reads_memory}
use Rattle.refinement.specs.Slots.{Free}
use Rattle.refinement.specs.ReadWitness.{ready_device}
use Rattle.ncq.specs.Batches.{BatchSlotsAreUnused, HasExactlySlotBitsOf, IsSlotOf, IsStoreForBatch, MemoryEncodesTask, PlacedTask}
use Rattle.ncq.specs.Tasks.{IsFitTransfer, IsTaskOf}
use Rattle.ncq.specs.Witness.{BatchIssueWitness}
use Rattle.ncq.proofs.Batch.{all_one, contains_here, contains_there, one_apart}
use Rattle.ncq.proofs.Stores.{simulated_none}

-- a queued read of eight sectors into a frame
abbrev read_in : ℕ → ℕ → ℕ → PlacedTask
read_in slot first frame = record {
  slot = slot;
  task = record { op = Read; range = record { first = record { 0 = first }; count = 8 }; queued = true };
  frames = record { 0 = frame } ∷ [];
}

abbrev tasks : List PlacedTask
tasks = read_in 0 100 100 ∷ read_in 1 108 101 ∷ []

-- what holds of both
both : (P : PlacedTask → Type 0) → P (read_in 0 100 100) → P (read_in 1 108 101) → All P tasks
both P one other = All-cons P (read_in 0 100 100) (read_in 1 108 101 ∷ []) one (all_one P (read_in 1 108 101) other)

fits : (slot first frame : ℕ) → first < 281474976710656 → IsFitTransfer (read_in slot first frame).task (read_in slot first frame).frames
fits slot first frame small = record { is_transfer = inl refl; count_is_positive = omega arith; count_is_allowed = omega arith; first_in_range = small; frame_count_is = refl }

has_bits : HasExactlySlotBitsOf tasks 3
has_bits = record { slots_are_set = both (λ t. bit 3 t.slot ≡ true) refl refl; no_other_is_set = alone }
  where
    alone : (slot : ℕ) → bit 3 slot ≡ true → IsSlotOf tasks slot
    alone zero set = (read_in 0 100 100, contains_here (read_in 0 100 100) (read_in 1 108 101 ∷ []), refl)
    alone (suc zero) set =
        (read_in 1 108 101, contains_there (read_in 0 100 100) (read_in 1 108 101 ∷ []) (read_in 1 108 101) (contains_here (read_in 1 108 101) []), refl)
    alone (suc (suc slot)) set = absurd (both_ways (bit 3 (suc (suc slot))) (ap (λ (n : ℕ). n == 1) (bit_at_above 3 2 (suc (suc slot)) (omega arith) (omega arith))) set)

its_task : (mode : QueueMode) (slot first frame : ℕ) (e : Pending) → mode.queued ≡ true → slot < mode.usable_slots → ReadsIntoFrame first frame e → IsTaskOf (port_at 0) slot (read_in slot first frame).task (read_in slot first frame).frames mode e
its_task mode slot first frame e queued usable asks = record {
  port_is = asks.port_is;
  operation_is = asks.operation;
  first_is = ap (λ (n : ℕ). let s : Sector = record { 0 = n } in s) asks.first_is;
  count_is = asks.count;
  frames_are = asks.frames;
  queued_is = sym (ap (λ b. not (not b)) queued);
  slot_is_usable = usable;
  plain_in_slot_0 = λ plain. absurd (let z : true ≡ false = plain in cc);
}

module _ (known : TwoStoredReads) where
  pub batch_may_be_issued : BatchIssueWitness
  unfolding changed
  batch_may_be_issued = record {
    tasks = tasks;
    has_two_tasks = refl;
    stored = record {
      adapter_is_on = record { ae_is_set = refl; no_reset = refl };
      has_port = (omega arith, refl);
      driver_memory_fits = omega arith;
      list_runs = record { st_is_set = refl; list_is_in_place = refl };
      machine_is_related = (λ port slot. Free, both (λ t. Free ≡ Free) refl refl, record { machine = known.machine; parked = λ port. []; reached = known.reached; driver_relation = known.driver_relation });
      slots_are_apart = AllPairs-cons (λ (a b : PlacedTask). a.slot ≡ b.slot → ⊥) (read_in 0 100 100) (read_in 1 108 101 ∷ []) (all_one (λ (b : PlacedTask). 0 ≡ b.slot → ⊥) (read_in 1 108 101) (λ e. omega (arith, e))) (one_apart (read_in 1 108 101));
      slots_in_range = both (λ t. t.slot < 32) (omega arith) (omega arith);
      slots_are_usable = both (λ t. t.slot ≤ (ready_device two_reads_memory).cap / 256 % 32) (omega arith) (omega arith);
      transfers_fit = both (λ t. IsFitTransfer t.task t.frames) (fits 0 100 100 (omega arith)) (fits 1 108 101 (omega arith));
      all_are_queued = both (λ t. t.task.queued ≡ true) refl refl;
      stores = simulated_none (IsStoreForBatch 0 tasks) (BatchSlotsAreUnused 0 tasks) (ready_device two_reads_memory);
      slots_say_tasks = both (λ t. MemoryEncodesTask 0 t two_reads_memory) (record { slot_says_task = known.first_says; block_names_sectors = tt }) (record { slot_says_task = known.second_says; block_names_sectors = tt });
    };
    mask = 3;
    mask_has_slots = has_bits;
    mode = known.mode;
    requests = known.first_request ∷ known.second_request ∷ [];
    are_tasks = (its_task known.mode 0 100 100 known.first_request known.queued (let u = known.two_slots_are_usable in omega (arith, u)) known.first_asks, (its_task known.mode 1 108 101 known.second_request known.queued known.two_slots_are_usable known.second_asks, tt));
    may_serve_batch = record { slots_are_free = both (λ t. Free ≡ Free) refl refl; may_be_issued = known.issues_are_enabled };
  }
