-- What the slots of a port are used for (this project's own).
use Rattle.std.specs.Prelude.{◌≡◌, ◌↔◌, ℕ, ◌<◌, ◌≤◌, List, Option, None, Some, IsSome, slice_index_or, slice_set}
use Rattle.std.specs.Int.{bit_at}
use Rattle.slots.specs.declared.SlotUse.{SlotUse}

-- how many slots are usable, and what each of the 32 is used for
pub record PortSlots : Type 0 where
  pub usable_count : ℕ
  pub slot_uses : List (Option SlotUse)

-- what the slot is used for; a slot past the 32 for nothing
abbrev pub use_at : PortSlots → ℕ → Option SlotUse
use_at uses slot = slice_index_or uses.slot_uses slot None

-- the slot is taken
abbrev pub IsTaken : PortSlots → ℕ → Type 0
IsTaken uses slot = IsSome (use_at uses slot)

-- the uses with this one of the slot
abbrev pub with_use : PortSlots → ℕ → Option SlotUse → PortSlots
with_use uses slot used = record uses { slot_uses = slice_set uses.slot_uses slot used }

-- the lowest usable slot that isn't taken
abbrev pub IsLowestFree : PortSlots → ℕ → Type 0
IsLowestFree uses slot = (slot < uses.usable_count) × (use_at uses slot ≡ None) × ((k : ℕ) → k < slot → IsTaken uses k)

-- Of the slots that are used, and have their bits set in the mask, this is the one whose request has the least id.
pub record HasLeastIdOf (places : List (Option SlotUse)) (mask slot : ℕ) : Type 0 where
  pub slot_in_range : slot < 32
  pub mask_has_slot : bit_at mask slot ≡ 1
  pub slot_use : SlotUse
  pub use_is : slice_index_or places slot None ≡ Some slot_use
  pub least : (other : ℕ) (its : SlotUse) → other < 32 → bit_at mask other ≡ 1
      → slice_index_or places other None ≡ Some its
      → slot_use.id.0 ≤ its.id.0

-- the same of the slots of a port
abbrev pub HasLeastId : PortSlots → ℕ → ℕ → Type 0
HasLeastId uses mask slot = HasLeastIdOf uses.slot_uses mask slot

-- it has the bits of the slots that are used for something, and no other
abbrev pub IsTakenMask : List (Option SlotUse) → ℕ → Type 0
IsTakenMask places mask = (slot : ℕ) → slot < 32 → (bit_at mask slot ≡ 1) ↔ IsSome (slice_index_or places slot None)
