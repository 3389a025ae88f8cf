-- Steps that are queued before accesses.
use Rattle.std.specs.Prelude.{ℕ, Bool, true, ◌≡◌, ◌+◌, ◌-◌, ◌^◌, ◌⊎◌, min, List, [], ◌∷◌, Option, map, nat_le, nat_lt}
use Rattle.std.specs.List.{filter}
use Rattle.adapter.specs.Device.{Device}
use Rattle.adapter.specs.declared.access.DeviceStep.{DeviceStep}
use Rattle.adapter.specs.Access.{Shows, device_after_reading}
use Rattle.hba_regs.specs.declared.reg.Reg.{Reg}
use Rattle.sector_store.specs.declared.store.Failures.{Failures}
use Rattle.device_model.specs.Disks.{numbered_disk, page_source_of, disk_index_of}
use Rattle.device_model.specs.StepEffects.{AnswersStep, StepKeeps}
use Rattle.device_model.specs.DiskPages.{GainsOwnPages}
use Rattle.device_model.specs.ModelOwnSteps.{DoesSpontaneousSteps, EndsPendingResetUnlessAllHeld, LeavesPageWithoutTapeRoom}
use Rattle.device_model.specs.ModelState.{device_at}
use Rattle.device_model.specs.declared.disks.DiskIndex.{DiskIndex}
use Rattle.device_model.specs.declared.model.Model.{Model}
use Rattle.device_model.specs.declared.model.QueuedStep.{QueuedStep}

-- the steps that are due by this access, in their order
abbrev pub steps_due_by_access : ℕ → List QueuedStep → List DeviceStep
steps_due_by_access access queue = map (λ q. q.step) (filter (λ q. nat_le q.access access) queue)

-- those that are not due yet, in their order
abbrev pub later_steps : ℕ → List QueuedStep → List QueuedStep
later_steps access queue = filter (λ q. nat_lt access q.access) queue

-- these steps one after another, each done where it is possible then, or left
abbrev pub AnswersEachStep : {S : Type 0} → (S → ℕ) → (S → Option (ℕ → List ℕ)) → (S → Option Failures)
    → List DeviceStep
    → Model S → Model S → Type 0
AnswersEachStep size told failures [] old new = new ≡ old
AnswersEachStep {S} size told failures (s ∷ steps) old new =
    (answer : Bool) × (mid : Model S) × AnswersStep size told failures s answer old mid
    × AnswersEachStep size told failures steps mid new

-- What each access begins with: it is counted, the steps that were queued before it leave the queue, where the others
-- wait on as they were, and each of those is done, in their order, or left.
pub record BeginsAccess {S : Type 0} (size : S → ℕ) (told : S → Option (ℕ → List ℕ)) (failures : S → Option Failures)
    (old new : Model S) : Type 0 where
  pub access_is_counted : new.accesses.saturating_count ≡ min (old.accesses.saturating_count + 1) (2 ^ 64 - 1)
  pub made_is : new.accesses.count.made ≡ old.accesses.count.made + 1
  pub queue_is : new.queue.items ≡ later_steps new.accesses.saturating_count old.queue.items
  pub does_due_steps : AnswersEachStep size told failures (steps_due_by_access
      new.accesses.saturating_count old.queue.items)
      (record old { accesses = new.accesses; queue = new.queue }) new

-- An access that changes the hardware alone: it begins so, and then changes the device so. The rest of the model stays,
-- and what is told of want of memory.
pub record AppliesEffect {S : Type 0} (size : S → ℕ) (told : S → Option (ℕ → List ℕ)) (failures : S → Option Failures)
    (effect : Device → Device) (old new : Model S) : Type 0 where
  pub after_begin : Model S
  pub begins_access : BeginsAccess size told failures old after_begin
  pub effect_is : device_at size told new ≡ effect (device_at size told after_begin)
  pub rest_is_kept : new ≡ record after_begin { hardware = new.hardware }
  pub starved_is_kept : new.hardware.starved ≡ after_begin.hardware.starved

-- A reading begins so, too. Then a pending reset may end, and the model's own steps are done; and the value is what the
-- register shows then. Of the rest of the model nothing is another, but which ports are held where a reset ended. Each
-- page that the tape has gained is as the disk that is in its port says of itself. Want of memory is told on where it
-- was, and else only where an IDENTIFY DEVICE or a READ LOG EXT is left for it.
pub record DoesRead {S : Type 0} (size : S → ℕ) (told : S → Option (ℕ → List ℕ)) (failures : S → Option Failures)
    (r : Reg) (value : ℕ) (old new : Model S) : Type 0 where
  pub after_begin : Model S
  pub begins_access : BeginsAccess size told failures old after_begin
  pub after_reset_end : Device
  pub ends_reset : EndsPendingResetUnlessAllHeld after_begin.held new.held
      (device_at size told after_begin) after_reset_end
  pub after_own_steps : Device
  pub does_own_steps : DoesSpontaneousSteps new.held after_reset_end after_own_steps
  pub shows : Shows r value after_own_steps
  pub effect : device_at size told new ≡ device_after_reading r value after_own_steps
  pub page_source_is : (port : ℕ) → page_source_of new port ≡ page_source_of after_begin port
  pub gains_own_pages : GainsOwnPages size after_begin new
  pub disk_index_is : (port : ℕ) → disk_index_of new port ≡ disk_index_of after_begin port
  pub disks_are_kept : (port : ℕ) (which : DiskIndex)
      → numbered_disk new port which ≡ numbered_disk after_begin port which
  pub step_keeps : StepKeeps size after_begin new
  pub stays_starved : after_begin.hardware.starved ≡ true → new.hardware.starved ≡ true
  pub starves_for_want : new.hardware.starved ≡ true → (after_begin.hardware.starved ≡ true)
      ⊎ LeavesPageWithoutTapeRoom new.hardware
      after_own_steps
