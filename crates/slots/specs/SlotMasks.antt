-- Which slots of a port are taken, by masks: bit k stands for slot k (this project's own).
use Rattle.std.specs.Prelude.{ℕ, ◌≡◌, ◌≢◌, ◌⊎◌, ◌<◌}
use Rattle.std.specs.Int.{bit_at}

-- how many slots are usable, and which of the 32 queued commands have, and which plain ones
pub record SlotMasks : Type 0 where
  pub usable_count : ℕ
  pub queued : ℕ
  pub plain : ℕ

-- no slot is in both masks
abbrev pub AreApart : ℕ → ℕ → Type 0
AreApart queued plain = (slot : ℕ) → slot < 32 → bit_at queued slot ≡ 1 → bit_at plain slot ≡ 0

-- a command has the slot
abbrev pub IsTakenSlot : SlotMasks → ℕ → Type 0
IsTakenSlot masks slot = (bit_at masks.queued slot ≡ 1) ⊎ (bit_at masks.plain slot ≡ 1)

-- none has it
abbrev pub IsFreeSlot : SlotMasks → ℕ → Type 0
IsFreeSlot masks slot = (bit_at masks.queued slot ≡ 0) × (bit_at masks.plain slot ≡ 0)

-- the lowest usable slot of the 32 that is free
abbrev pub IsLowestFreeSlot : SlotMasks → ℕ → Type 0
IsLowestFreeSlot masks slot = (slot < 32) × (slot < masks.usable_count) × IsFreeSlot masks slot
    × ((k : ℕ) → k < slot → IsTakenSlot masks k)

-- the bit isn't set, and each below it is
abbrev pub IsLowestClear : ℕ → ℕ → Type 0
IsLowestClear mask slot = (bit_at mask slot ≡ 0) × ((k : ℕ) → k < slot → bit_at mask k ≡ 1)

-- the mask has the bit now, and each other one as before
abbrev pub HasOneMore : (old new slot : ℕ) → Type 0
HasOneMore old new slot = (bit_at new slot ≡ 1) × ((k : ℕ) → k < 32 → k ≢ slot → bit_at new k ≡ bit_at old k)

-- the mask doesn't have the bit now, and each other one as before
abbrev pub HasOneLess : (old new slot : ℕ) → Type 0
HasOneLess old new slot = (bit_at new slot ≡ 0) × ((k : ℕ) → k < 32 → k ≢ slot → bit_at new k ≡ bit_at old k)
