-- What a port keeps of its command slots: their masks, and the request that each taken one serves (this project's own).
use Rattle.std.specs.Prelude.{ℕ, Bool, ◌≡◌, ◌≢◌, ◌↔◌, ◌<◌, ◌≤◌, List, Option, None, Some, IsSome, map, slice_index_or}
use Rattle.std.specs.List.{range_with_len}
use Rattle.std.specs.Int.{bit_at}
use Rattle.ata_types.specs.declared.request.RequestId.{RequestId}
use Rattle.hba_regs.specs.Bits.{bit}
use Rattle.slots.specs.SlotMasks.{IsTakenSlot, SlotMasks}
use Rattle.slots.specs.declared.SlotUse.{SlotUse}

-- what a slot is used for that serves this request: its command is queued if the mask has the slot
abbrev pub use_of : ℕ → ℕ → Option RequestId → Option SlotUse
use_of queued slot None = None
use_of queued slot (Some id) = Some (record { id = id; queued = bit queued slot })

-- what each slot is used for
abbrev pub uses_of : ℕ → List (Option RequestId) → List (Option SlotUse)
uses_of queued requests = map (λ slot. use_of queued slot (slice_index_or requests slot None)) (range_with_len 0 32)

-- a slot serves a request exactly if it is taken
abbrev pub TakenOnesServe : SlotMasks → List (Option RequestId) → Type 0
TakenOnesServe masks requests = (slot : ℕ) → slot < 32
    → IsTakenSlot masks slot ↔ IsSome (slice_index_or requests slot None)

-- the slot was taken for a queued command, or for a plain one, and nothing else changed
pub record TakesSlot (queued : Bool) (slot : ℕ) (old new : SlotMasks) : Type 0 where
  pub usable_count_is_kept : new.usable_count ≡ old.usable_count
  pub is_taken : IsTakenSlot new slot
  pub kind_is : bit new.queued slot ≡ queued
  pub others_are_kept : (k : ℕ) → k < 32 → k ≢ slot → (bit_at new.queued k ≡ bit_at old.queued k)
      × (bit_at new.plain k ≡ bit_at old.plain k)

-- Of the slots that serve requests, and have their bits set in the mask, this one's request has the least id.
pub record HasLeastIdIn (requests : List (Option RequestId)) (mask slot : ℕ) : Type 0 where
  pub slot_in_range : slot < 32
  pub mask_has_slot : bit_at mask slot ≡ 1
  pub id : RequestId
  pub id_is : slice_index_or requests slot None ≡ Some id
  pub least : (other : ℕ) (its : RequestId) → other < 32 → bit_at mask other ≡ 1
      → slice_index_or requests other None ≡ Some its → id.0 ≤ its.0
