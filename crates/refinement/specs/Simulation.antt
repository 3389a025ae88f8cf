-- The machine follows the device (this project's own).
use Rattle.std.specs.Prelude.{ℕ, true, ◌≡◌, ◌++◌, List}
use Rattle.adapter.specs.Device as device
use Rattle.adapter.specs.Device.{Device}
use Rattle.adapter.specs.declared.tape.Entry.{Entry}
use Rattle.block_machine.specs.State.{Machine}
use Rattle.block_machine.specs.Steps.{Step}
use Rattle.block_machine.specs.Expected.{after, AllStepsFaithful}
use Rattle.block_machine.specs.Events.{AllEnabled}
use Rattle.refinement.specs.Slots.{SlotStates}
use Rattle.refinement.specs.Relation.{StateRelation}
use Rattle.refinement.specs.Tape.{TapeTells, PortPlugsPutInDisks}

-- The entries that the tape gained are steps of the machine, each of which may come. Reads moved what their disks hold,
-- if these have specified contents. The disks that were put in are the device's. After the steps the two agree.
pub record SimulatesSteps (uses : SlotStates) (m : Machine) (old new : Device) : Type 0 where
  pub steps : List Step
  pub disks_tell_sectors_is_same : new.disks_tell_sectors ≡ old.disks_tell_sectors
  pub steps_are_enabled : AllEnabled m steps
  pub steps_are_faithful : old.disks_tell_sectors ≡ true → AllStepsFaithful m steps
  pub new_entries : List Entry
  pub tape_is : new.tape ≡ old.tape ++ new_entries
  pub tape_tells_steps : TapeTells m new_entries steps
  pub plugged_disks_match_steps : (port : ℕ) → (disks : List device.Disk)
      × ((new.port port).plug_history ≡ (old.port port).plug_history ++ disks)
      × PortPlugsPutInDisks port disks steps
  pub state_relation : StateRelation uses (after m steps) new
