-- The moves of a history: to which requests and to which places they belong (this project's own).
use Rattle.std.specs.Prelude.{◌≡◌, ◌++◌, List, [], ◌∷◌, Option, Some, Contains}
use Rattle.ata_types.specs.declared.request.Op.{Op}
use Rattle.ata_types.specs.declared.request.Op.TheVariants.{Read, Write}
use Rattle.adapter.specs.Device.{Device}
use Rattle.adapter.specs.declared.tape.Entry.{Entry}
use Rattle.adapter.specs.declared.tape.Entry.TheVariants as entry
use Rattle.adapter.specs.declared.tape.Move as tape_move
use Rattle.adapter.specs.declared.tape.Clear as tape_clear
use Rattle.refinement.specs.MemoryLayout.{scratch_frame_address}
use Rattle.refinement.specs.Slots.{client_operation_of}
use Rattle.refinement.specs.Tape.{MovesSector, ClearsSectors}
use Rattle.block_machine.specs.Confinement.{IsConfined, WasAccepted}
use Rattle.block_machine.specs.Expected.{after}
use Rattle.block_machine.specs.State.{Machine}
use Rattle.block_machine.specs.Steps.{Step}

-- Among a call's steps, the newest first, which followed these earlier ones of the run, the move is a touch. At that
-- moment it goes between a sector of a request that is issued or kept and that sector's place in a frame that is lent
-- to the request, in the direction of its operation; and the request was accepted, when it broke no rule.
pub record IsConfinedMove (start : Machine) (earlier steps : List Step) (op : Op) (move : tape_move.Move) : Type 0 where
  pub later : List Step
  pub step : Step
  pub before : List Step
  pub steps_are_split : steps ≡ later ++ step ∷ before
  pub moves_sector : MovesSector (after start (before ++ earlier)) op move (step ∷ [])
  pub is_confined : IsConfined start (before ++ earlier) moves_sector.pending.request moves_sector.sector_number

-- A move by a read or a write of a client's is confined; any other, of a page or of a trim's block, goes to the scratch
-- frame of its port or comes from there.
abbrev pub KeepsToLentOrScratchFrames : Option Op → Machine → List Step → List Step → tape_move.Move → Type 0
KeepsToLentOrScratchFrames (Some Read) start earlier steps move = IsConfinedMove start earlier steps Read move
KeepsToLentOrScratchFrames (Some Write) start earlier steps move = IsConfinedMove start earlier steps Write move
KeepsToLentOrScratchFrames other start earlier steps move = move.address ≡ scratch_frame_address move.port.0

-- Among a call's steps, which followed these earlier ones, the clear is of touches in a row. Before the first of them,
-- its sectors are of a trim of its port that is issued or kept, within the trim's own range; and the trim was accepted,
-- when it broke no rule.
pub record IsConfinedClear (start : Machine) (earlier steps : List Step) (clear : tape_clear.Clear) : Type 0 where
  pub later : List Step
  pub touches : List Step
  pub before : List Step
  pub steps_are_split : steps ≡ later ++ (touches ++ before)
  pub clears_sectors : ClearsSectors (after start (before ++ earlier)) clear touches
  pub was_accepted : WasAccepted start (before ++ earlier) clears_sectors.pending.request

-- The moves and clears that the tape has gained in a call of these steps, after these earlier ones, keep to their
-- places.
pub record ConfinesCallMovesAndClears (start : Machine) (earlier steps : List Step) (old new : Device) : Type 0 where
  pub new_entries : List Entry
  pub tape_is : new.tape ≡ old.tape ++ new_entries
  pub moves_keep_to_frames : (move : tape_move.Move) → Contains new_entries (entry.Move move)
      → KeepsToLentOrScratchFrames (client_operation_of move.operation) start earlier steps move
  pub clears_are_confined : (c : tape_clear.Clear) → Contains new_entries (entry.Clear c)
      → IsConfinedClear start earlier steps c
