-- What a port may do with its slots.
use Rattle.std.specs.Prelude.{ℕ, true, ◌≡◌, ◌+◌, ◌*◌, ◌^◌, ◌<◌, ◌≤◌, Some, length, slice_index, slice_index_or}
use Rattle.adapter.specs.Commands.{moves_disk_sectors}
use Rattle.adapter.specs.Device.{DevicePort}
use Rattle.adapter.specs.Decoding.{pieces}
use Rattle.adapter.specs.Steps.{IsFetchable, IsWorking, IsAloneOrAllAreQueued, WorksOn, admits, next_sector}
use Rattle.adapter.specs.declared.command.Operation.{Operation}
use Rattle.device_model.specs.PortView.{Media, halt_of, taken_in, port_of, taken_of, reset_port_without_disk}
use Rattle.device_model.specs.declared.port.TakenCommand.{TakenCommand}
use Rattle.device_model.specs.declared.port.PortModel.{PortModel}
use Rattle.device_model.specs.declared.hardware.Hardware.{Hardware}
use Rattle.device_model.specs.declared.steps.NextMove.{NextMove}
use Rattle.device_model.specs.declared.clearing.SectorExtent.{SectorExtent}
use Rattle.adapter.specs.declared.command.Operation.TheVariants.{Trim}
use Rattle.device_model.specs.Trims.{next_uncleared, next_run_length, uncleared}

-- a command of this operation in this slot may be taken, if its bytes say one
pub record MayTakeIfDecoded (p : DevicePort) (slot : ℕ) (operation : Operation) : Type 0 where
  pub fetchable : IsFetchable p slot
  pub working : IsWorking p operation
  pub is_alone_or_all_are_queued : IsAloneOrAllAreQueued p operation

-- for each operation that the port's halt admits: the slot has a command that is issued and not taken, and the port
-- works on that operation (of a port that a fault has halted it says nothing)
abbrev pub IsFetchableIfHaltAdmits : PortModel → ℕ → Type 0
IsFetchableIfHaltAdmits p slot =
    (m : Media) (operation : Operation) → admits (halt_of p.halting) operation ≡ true → IsFetchable (port_of p m) slot
    × IsWorking (port_of p m) operation

-- such a command may be now: no fault keeps it waiting, and it goes beside those that are taken
abbrev pub AdmitsByHaltAndTaken : PortModel → Operation → Type 0
AdmitsByHaltAndTaken p operation = (admits (halt_of p.halting) operation ≡ true) × ((m : Media)
    → IsAloneOrAllAreQueued (port_of p m) operation)

-- the port works on this command, which it has taken in this slot
pub record WorksOnIn (p : PortModel) (slot : ℕ) (t : TakenCommand) : Type 0 where
  pub is_taken : taken_in p.taken slot ≡ Some t
  pub works : (m : Media) → WorksOn (port_of p m) slot (taken_of t) t.operation

-- a trim whose block was moved, and of which at least so many sectors, and one at least, are left to clear
pub record IsMovedTrimWithSectorsLeftAtLeast (t : TakenCommand) (most : ℕ) : Type 0 where
  pub trim : t.operation ≡ Trim
  pub block_is_moved : t.moved ≡ length (pieces t.prds)
  pub some_are_left : 1 ≤ length (uncleared (taken_of t))
  pub enough_are_left : most ≤ length (uncleared (taken_of t))

-- these sectors of it are cleared at once
pub record IsNextRun (h : Hardware) (port slot most : ℕ) (run : SectorExtent) (t : TakenCommand) : Type 0 where
  pub works_on : WorksOnIn (slice_index_or h.ports port reset_port_without_disk) slot t
  pub can_clear : IsMovedTrimWithSectorsLeftAtLeast t most
  pub first_is : run.first ≡ next_uncleared (taken_of t)
  pub count_is : run.count ≡ next_run_length most (taken_of t)
  pub cleared_fits : t.cleared + run.count < 2 ^ 32

-- So many pieces of this command follow its next one in their region, each with a place in a memory of this size, an
-- address of 32 bits and a sector of 64: none, unless it names sectors.
pub record PiecesFollow (size : ℕ) (next : NextMove) (t : TakenCommand) : Type 0 where
  pub pieces_are : (k : ℕ) → k ≤ next.pieces_following → (t.moved + k < length (pieces t.prds))
      × (slice_index (pieces t.prds) (t.moved + k) ≡ next.address + 512 * k)
  pub moved_fits : t.moved + next.pieces_following + 1 < 2 ^ 32
  pub inside : next.address + 512 * next.pieces_following + 512 ≤ size
  pub addresses_fit : next.address + 512 * next.pieces_following < 2 ^ 32
  pub sectors_fit : next.sector + next.pieces_following < 2 ^ 64
  pub is_ranged_if_any : 1 ≤ next.pieces_following → moves_disk_sectors t.operation ≡ true

-- the next piece of this command goes to or from this address, and is this sector, if it is one
pub record IsNextMove (h : Hardware) (port slot : ℕ) (next : NextMove) (t : TakenCommand) : Type 0 where
  pub works_on : WorksOnIn (slice_index_or h.ports port reset_port_without_disk) slot t
  pub piece_is_left : t.moved < length (pieces t.prds)
  pub moved_fits : t.moved + 1 < 2 ^ 32
  pub operation_is : next.operation ≡ t.operation
  pub sector_is : next.sector ≡ next_sector (taken_of t)
  pub address_is : next.address ≡ slice_index (pieces t.prds) t.moved
  pub inside : next.address + 512 ≤ length h.memory.items
  pub pieces_follow : PiecesFollow (length h.memory.items) next t
