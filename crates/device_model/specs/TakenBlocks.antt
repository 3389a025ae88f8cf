-- The commands that are taken, and the block that a trim has brought: a port has room for one, since a plain command
-- is alone.
use Rattle.std.specs.Prelude.{ℕ, ◌≡◌, ◌+◌, ◌<◌, ◌^◌, List, [], ◌∷◌, Option, None, Some, if◌then◌else◌}
use Rattle.std.specs.List.{slice_get}
use Rattle.std.specs.declared.snapshot.Snapshot.{Snapshot}
use Rattle.hba_regs.specs.Bits.{bit}
use Rattle.device_model.specs.declared.port.TakenCommand.{TakenCommand}
use Rattle.adapter.specs.declared.command.Operation.TheVariants.{Trim}

-- its bytes, where it was moved
abbrev pub brought : Option (Snapshot (List ℕ)) → List ℕ
brought None = []
brought (Some block) = block.value

-- what is taken in each slot: the command in its room, where its bit is a one
abbrev pub taken_in_slot : (filled : ℕ) → List TakenCommand → ℕ → Option TakenCommand
taken_in_slot filled rooms = λ slot. if bit filled slot then slice_get rooms slot else None

-- the same as a list, from a slot on
abbrev pub taken_list_from : (slot filled : ℕ) → List TakenCommand → List (Option TakenCommand)
taken_list_from slot filled [] = []
taken_list_from slot filled (room ∷ rooms) = (if bit filled slot then Some room else None) ∷ taken_list_from
    (slot + 1) filled rooms

-- Where a trim is taken, no other command is; and where it has brought its block, this is it. The first sector of each
-- command has a number of 48 bits.
pub record BlockIsOfTakenTrim (taken : ℕ → Option TakenCommand) (block : List ℕ) : Type 0 where
  pub trim_is_alone : (slot other : ℕ) (t u : TakenCommand) → taken slot ≡ Some t → taken other ≡ Some u →
      t.operation ≡ Trim → other ≡ slot
  pub block_is : (slot : ℕ) (t : TakenCommand) (b : Snapshot (List ℕ)) → taken slot ≡ Some t → t.block ≡ Some b →
      (t.operation ≡ Trim) × (b.value ≡ block)
  pub first_in_range : (slot : ℕ) (t : TakenCommand) → taken slot ≡ Some t → t.first < 2 ^ 48
