-- What calls leave of what no slot uses.
use Rattle.std.proofs.Common.{ℕ, ◌≡◌, ◌≢◌, ◌<◌, false, List, length, refl, sym, ◌∙◌, subst}
use Rattle.hba_regs.specs.declared.reg.Reg.{Reg}
use Rattle.hba_regs.specs.declared.reg.Reg.TheVariants.{Cap, Ghc, Pi, Vs, Cap2, Bohc, Px}
use Rattle.hba_regs.specs.declared.reg.Reg.TheVariants as adapter
use Rattle.adapter.specs.Access.{Reads, Writes, Loads, Stores, device_after_reading, device_after_write}
use Rattle.adapter.specs.Commands.{Meaning}
use Rattle.adapter.specs.Device.{Device}
use Rattle.adapter.specs.Memory.{patched}
use Rattle.adapter.specs.declared.command.Operation.{Operation}
use Rattle.adapter.proofs.MemoryLemmas.{patched_apart}
use Rattle.block_machine.specs.Histories.{IsReachable}
use Rattle.block_machine.specs.State.{Accepted, Machine}
use Rattle.refinement.specs.MemoryLayout.{command_list_address}
use Rattle.refinement.specs.Slots.{SlotDecodesTo, HasBlockIfTrim, Free, Own, SlotStates}
use Rattle.refinement.specs.Relation.{StateRelation}
use Rattle.refinement.specs.Driver.{KeepsTablesAndScratchUnlessOwn, MissesTableAndHeaderButPrdbc, MissesScratch, IsInMemoryOfFreeSlot}
use Rattle.refinement.proofs.relation.WrittenBytes.{store_table, store_scratch}
use Rattle.refinement.proofs.steps.UnusedSlots.{same_bytes, leaves_more, steps_leave}
use Rattle.refinement.proofs.relation.SlotRelation.{told_on, block_on}

-- ---- readings, loads and stores

-- neither a reading nor a write of a register changes memory
pub noted_memory : (r : Reg) (v : ℕ) (d : Device) → (device_after_reading r v d).memory ≡ d.memory
noted_memory (Px p r) v d = refl
noted_memory Cap v d = refl
noted_memory Ghc v d = refl
noted_memory adapter.Is v d = refl
noted_memory Pi v d = refl
noted_memory Vs v d = refl
noted_memory Cap2 v d = refl
noted_memory Bohc v d = refl

noted_leaves : (uses : SlotStates) (r : Reg) (v : ℕ) (d : Device) → KeepsTablesAndScratchUnlessOwn uses d (device_after_reading r v d)
noted_leaves uses r v d = same_bytes uses d (device_after_reading r v d) (noted_memory r v d)

-- bytes that are the same, are the same where both were patched
patched_alike : (memory later : ℕ → ℕ) (at : ℕ) (bytes : List ℕ) (place : ℕ) → later place ≡ memory place → patched later at bytes place ≡ patched memory at bytes place
unfolding patched
patched_alike memory later at bytes place same = rw same refl

pub written_memory : (r : Reg) (v : ℕ) (d : Device) → (device_after_write r v d).memory ≡ d.memory
written_memory (Px p r) v d = refl
written_memory adapter.Is v d = refl
written_memory Cap v d = refl
written_memory Ghc v d = refl
written_memory Pi v d = refl
written_memory Vs v d = refl
written_memory Cap2 v d = refl
written_memory Bohc v d = refl

module _ (uses : SlotStates) (m : Machine) (old new : Device) (reached : IsReachable m) (a : StateRelation uses m old) (off : old.hr ≡ false) where
  pub reads_leave : (r : Reg) (v : ℕ) → Reads r v old new → KeepsTablesAndScratchUnlessOwn uses old new
  reads_leave r v call =
      subst (KeepsTablesAndScratchUnlessOwn uses old) (sym call.effect)
      (leaves_more uses old call.at_access (device_after_reading r v call.at_access) (steps_leave uses m old call.at_access reached a off call.steps) (noted_leaves uses r v call.at_access))

  pub loads_leave : (at : ℕ) (bytes : List ℕ) → Loads at bytes old new → KeepsTablesAndScratchUnlessOwn uses old new
  loads_leave at bytes call = steps_leave uses m old new reached a off call.steps

  pub stores_leave : (at : ℕ) (bytes : List ℕ) → Stores at bytes old new → KeepsTablesAndScratchUnlessOwn uses (record old { memory = patched old.memory at bytes }) new
  stores_leave at bytes call =
      let x : KeepsTablesAndScratchUnlessOwn uses old call.at_access = steps_leave uses m old call.at_access reached a off call.steps in
      subst (KeepsTablesAndScratchUnlessOwn uses (record old { memory = patched old.memory at bytes })) (sym call.effect) (record {
        tables = λ port slot place below small t. patched_alike old.memory call.at_access.memory at bytes place (x.tables port slot place below small t);
        scratch = λ port place below own s. patched_alike old.memory call.at_access.memory at bytes place (x.scratch port place below own s);
      })

  pub writes_leave : (r : Reg) (v : ℕ) → Writes r v old new → KeepsTablesAndScratchUnlessOwn uses old new
  writes_leave r v call =
      subst (KeepsTablesAndScratchUnlessOwn uses old) (sym call.effect)
      (leaves_more uses old call.at_access (device_after_write r v call.at_access) (steps_leave uses m old call.at_access reached a off call.steps) (same_bytes uses call.at_access (device_after_write r v call.at_access) (written_memory r v call.at_access)))

-- ---- stores beside a slot

pub store_misses : (uses : SlotStates) (port slot at n : ℕ) → uses port slot ≢ Free → port < 4 → slot < 32 → IsInMemoryOfFreeSlot uses at n → MissesTableAndHeaderButPrdbc port slot at n
store_misses uses port slot at n used below small may place t low high = store_table uses port slot at n place used below small may t low high

pub told_beside : (uses : SlotStates) (at : ℕ) (bytes : List ℕ) (old new : Device) → KeepsTablesAndScratchUnlessOwn uses (record old { memory = patched old.memory at bytes }) new → (port slot : ℕ) (c : Meaning) (places : List ℕ) →
    port < 4 → slot < 32 → MissesTableAndHeaderButPrdbc port slot at (length bytes) → SlotDecodesTo old.memory (command_list_address port) port slot c places → SlotDecodesTo new.memory (command_list_address port) port slot c places
told_beside uses at bytes old new l port slot c places below small misses told =
    told_on old.memory new.memory (command_list_address port) (command_list_address port) port slot c places refl refl
    (λ place t. l.tables port slot place below small t ∙ patched_apart old.memory at bytes place (misses place t)) told

pub store_misses_scratch : (uses : SlotStates) (port at n : ℕ) → uses port 0 ≢ Free → port < 4 → IsInMemoryOfFreeSlot uses at n → MissesScratch port at n
store_misses_scratch uses port at n used below may place t low high = store_scratch uses port at n place below used may t low high

pub block_beside : (uses : SlotStates) (at : ℕ) (bytes : List ℕ) (old new : Device) → KeepsTablesAndScratchUnlessOwn uses (record old { memory = patched old.memory at bytes }) new → (port : ℕ) (r : Accepted) → port < 4 →
    ((o : Operation) → uses port 0 ≡ Own o → ⊥) → MissesScratch port at (length bytes) → HasBlockIfTrim r.asked.op old.memory port r → HasBlockIfTrim r.asked.op new.memory port r
block_beside uses at bytes old new l port r below own misses block =
    block_on r.asked.op old.memory new.memory port r
    (λ _ place s. l.scratch port place below own s ∙ patched_apart old.memory at bytes place (misses place s)) block
