-- A command that sends a page to the driver is taken, as the model does by itself.
use Rattle.std.specs.Prelude.{ℕ, ◌≡◌, ◌≢◌, List, Bool, Option}
use Rattle.device_model.specs.Disks.{numbered_disk}
use Rattle.device_model.specs.StepEffects.{OwnStepsKeep}
use Rattle.device_model.specs.Finishing.{HasFinishablePageCommand, HasTakenCommand, MayTakePageCommand, TapeHasRoom}
use Rattle.device_model.specs.HeldPorts.{IsPortReleased}
use Rattle.device_model.specs.ModelState.{device_at}
use Rattle.device_model.specs.ModelOwnSteps.{IsSettled, LeadsBySteps, SendsPages}
use Rattle.device_model.specs.declared.disks.DiskIndex.{DiskIndex}
use Rattle.device_model.specs.declared.model.Model.{Model}

-- By steps of the model's own a command that sends a page is taken on the port: that of this slot, or one that was
-- taken already. If that of the slot could be done to its end, it still can, with as much left. If it may be taken, a
-- command of the port can be done to its end only if that one could. Nothing of another port is another, nor of the
-- disks, and the tape has no more room than it had.
pub record TakesPageCommandUnlessOneIsTaken {S : Type 0} (size : S → ℕ) (told : S → Option (ℕ → List ℕ)) (port slot : ℕ)
    (old new : Model S) : Type 0 where
  pub by_own_steps : (held : List Bool) → IsPortReleased held port
      → LeadsBySteps (SendsPages held) (device_at size told old) (device_at size told new)
  pub stays_settled : (held : List Bool) → IsSettled held (device_at size told old)
      → IsSettled held (device_at size told new)
  pub has_taken_command : HasTakenCommand (device_at size told new) port
  pub finishable_was_finishable : MayTakePageCommand (device_at size told old) port slot → (other : ℕ)
      → HasFinishablePageCommand (device_at size told new) port other
      → HasFinishablePageCommand (device_at size told old) port slot
  pub as_much_is_left : (has : HasFinishablePageCommand (device_at size told old) port slot)
      → (now : HasFinishablePageCommand (device_at size told new) port slot) × (now.moves_left ≡ has.moves_left)
  pub other_ports_are_kept : (q : ℕ) → q ≢ port → (device_at size told new).port q ≡ (device_at size told old).port q
  pub size_is_kept : (device_at size told new).memory_size ≡ (device_at size told old).memory_size
  pub own_steps_keep : OwnStepsKeep size old new
  pub tape_had_room : (n : ℕ) → TapeHasRoom new.hardware n → TapeHasRoom old.hardware n
  pub starved_is_kept : new.hardware.starved ≡ old.hardware.starved
  pub disks_are_kept : (q : ℕ) (w : DiskIndex) → numbered_disk new q w ≡ numbered_disk old q w
