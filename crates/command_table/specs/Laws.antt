-- What laws of the crates below say of memory, and of stores of tables: the proofs of this crate rest on them.
use Rattle.std.specs.Prelude.{ℕ, ◌≡◌, ◌+◌, ◌≤◌, ◌<◌, true, false, List, length, slice_index}
use Rattle.hba_regs.specs.Bits.{bit}
use Rattle.hba_regs.specs.declared.reg.Reg.TheVariants.{Ghc}
use Rattle.adapter.specs.Access.{Access, Does, Stores}
use Rattle.adapter.specs.Access.Access.{Writing}
use Rattle.adapter.specs.Commands.{Meaning}
use Rattle.adapter.specs.Device.{Device}
use Rattle.adapter.specs.Memory.{bytes_at, patched}
use Rattle.adapter.specs.Rules.{IsOn, IsStable, IsInMemoryNotOwnedByDevice}
use Rattle.block_machine.specs.Histories.{IsReachable}
use Rattle.block_machine.specs.State.{Machine}
use Rattle.refinement.specs.Driver.{KeepsTablesAndScratchUnlessOwn, IsInMemoryOfFreeSlot, MissesTableAndHeaderButPrdbc}
use Rattle.refinement.specs.Laws.{FragmentLaws}
use Rattle.refinement.specs.PreservedParts.{SameAdapter}
use Rattle.refinement.specs.MemoryLayout.{command_list_address}
use Rattle.refinement.specs.Relation.{StateRelation}
use Rattle.refinement.specs.Slots.{SlotDecodesTo, SlotStates}
use Rattle.command_table.specs.TableStores.{IsHeaderTableOrBlockStore, IsHeaderOrTableStore, IsSlotStateFree}

-- header and table of a slot of a port are stored; or these of its slot 0, and a block
pub data AccessPurpose : Type 0 where
  Tables : (port slot : ℕ) → AccessPurpose
  TablesAndBlock : (port : ℕ) → AccessPurpose

-- The accesses that a part of a call makes, by its purpose.
abbrev pub accesses_for : AccessPurpose → Access → Type 0
accesses_for (Tables port slot) = IsHeaderOrTableStore port slot
accesses_for (TablesAndBlock port) = IsHeaderTableOrBlockStore port 0

-- What a part of a call needs of the slots, by its purpose.
abbrev pub slot_uses_for : AccessPurpose → SlotStates → Type 0
slot_uses_for (Tables port slot) = IsSlotStateFree port slot
slot_uses_for (TablesAndBlock port) = IsSlotStateFree port 0

-- bytes that are put into memory, and read
pub record MemoryLaws : Type 0 where
  pub reads_back_patch : (memory : ℕ → ℕ) (at : ℕ) (bytes : List ℕ)
      → bytes_at (patched memory at bytes) at (length bytes) ≡ bytes
  pub patch_leaves_others : (memory : ℕ → ℕ) (at : ℕ) (bytes : List ℕ) (place : ℕ)
      → (at ≤ place → place < at + length bytes → ⊥) → patched memory at bytes place ≡ memory place
  pub same_memory_same_bytes : (old new : ℕ → ℕ) (at count : ℕ)
      → ((place : ℕ) → at ≤ place → place < at + count → new place ≡ old place)
      → bytes_at new at count ≡ bytes_at old at count
  pub length_is_count : (memory : ℕ → ℕ) (at count : ℕ) → length (bytes_at memory at count) ≡ count
  pub byte_at_index : (memory : ℕ → ℕ) (at count i : ℕ) → i < count
      → slice_index (bytes_at memory at count) i ≡ memory (at + i)

-- The laws of the crates below that the proofs of this crate use.
pub record Laws : Type 0 where
  pub memory : MemoryLaws
  pub access_keeps_on : (access : Access) (old new : Device) → IsOn old
      → ((v : ℕ) → access ≡ Writing Ghc v → (bit v 31 ≡ true) × (bit v 0 ≡ false)) → Does access old new → IsOn new
  pub access_keeps_adapter : (access : Access) (old new : Device) → Does access old new → SameAdapter old new
  pub device_owns_no_storable_bytes : (uses : SlotStates) (m : Machine) (d : Device) → IsReachable m
      → StateRelation uses m d → (at n : ℕ)
      → at + n ≤ d.memory_size → IsInMemoryOfFreeSlot uses at n → IsStable (IsInMemoryNotOwnedByDevice at n) d
  pub store_keeps_tables : (uses : SlotStates) (m : Machine) (old new : Device) → IsReachable m
      → StateRelation uses m old
      → old.hr ≡ false → (at : ℕ) (bytes : List ℕ) → Stores at bytes old new
      → KeepsTablesAndScratchUnlessOwn uses (record old { memory = patched old.memory at bytes }) new
  pub kept_tables_keep_meaning : (uses : SlotStates) (old new : Device) → KeepsTablesAndScratchUnlessOwn uses old new
      → (port slot : ℕ) (c : Meaning)
      (places : List ℕ) → port < 4 → slot < 32 → SlotDecodesTo old.memory (command_list_address port) port slot c places
      → SlotDecodesTo new.memory (command_list_address port) port slot c places
  pub store_keeps_other_tables : (uses : SlotStates) (at : ℕ) (bytes : List ℕ) (old new : Device)
      → KeepsTablesAndScratchUnlessOwn uses (record old { memory = patched old.memory at bytes }) new
      → (port slot : ℕ) (c : Meaning)
      (places : List ℕ) → port < 4 → slot < 32 → MissesTableAndHeaderButPrdbc port slot at (length bytes)
      → SlotDecodesTo old.memory (command_list_address port) port slot c places
      → SlotDecodesTo new.memory (command_list_address port) port slot c places
  pub fragments : FragmentLaws AccessPurpose accesses_for slot_uses_for
