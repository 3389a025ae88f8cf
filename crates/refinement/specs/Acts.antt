-- A part of a call, described act by act (this project's own).
use Rattle.std.specs.Prelude.{ℕ, ◌≡◌, ◌⊎◌, ◌++◌, List, [], ◌∷◌, All, Option, None, Some}
use Rattle.ata_types.specs.declared.Port.{Port}
use Rattle.ata_types.specs.declared.request.RequestId.{RequestId}
use Rattle.hba_regs.specs.declared.reg.PortReg.TheVariants.{Ci}
use Rattle.hba_regs.specs.declared.reg.Reg.TheVariants.{Px}
use Rattle.adapter.specs.Access.{Access, Does, DoesAll}
use Rattle.adapter.specs.Access.Access.{Writing}
use Rattle.adapter.specs.Device.{Device}
use Rattle.block_machine.specs.Events.{AllByDevice, IsByDevice}
use Rattle.block_machine.specs.Histories.{IsReachable}
use Rattle.block_machine.specs.Expected.{after}
use Rattle.block_machine.specs.State.{Machine}
use Rattle.block_machine.specs.Steps.{Step, Issue}
use Rattle.refinement.specs.Driver.{DriverState, DriverRelation, DriverAdvances}
use Rattle.refinement.specs.Slots.{SlotStates}

-- ---- acts

-- the step issues a request
abbrev pub IsIssueStep : Step → Type 0
IsIssueStep (Issue mode e) = Unit {0}
IsIssueStep step = ⊥

-- it issues a request of the port
abbrev pub IsIssueStepOn : Port → Step → Type 0
IsIssueStepOn port (Issue mode e) = e.request.port ≡ port
IsIssueStepOn port step = ⊥

-- One act of the driver: an access, over which the device makes steps, or no access, when the driver decides on a
-- request or a slot. With it come the machine's steps meanwhile, the last one first, and what the driver knows then.
pub record Act : Type 0 where
  pub access : Option Access
  pub steps : List Step
  pub state_after : DriverState

-- the access is done from the old device to the new; without one, they are the same
abbrev pub AccessIsDoneOrDeviceIsSame : Option Access → Device → Device → Type 0
AccessIsDoneOrDeviceIsSame None old new = new ≡ old
AccessIsDoneOrDeviceIsSame (Some access) old new = Does access old new

-- What the driver decides by an access is one step at most; or, by a write of PxCI, issues of requests of its port:
-- each bit that is written as one issues a command (AHCI 1.3.1, 3.3.14).
abbrev pub IsAtMostOneStepOrIssuesByPxciWrite : Access → List Step → Type 0
IsAtMostOneStepOrIssuesByPxciWrite access [] = Unit {0}
IsAtMostOneStepOrIssuesByPxciWrite access (step ∷ []) = Unit {0}
IsAtMostOneStepOrIssuesByPxciWrite (Writing (Px port Ci) v) own = All (IsIssueStepOn port) own
IsAtMostOneStepOrIssuesByPxciWrite access own = ⊥

-- Over an access these are the device's steps, and after them what the driver decides by it; without one, a step of
-- the driver's own, or none.
abbrev pub AreDeviceStepsThenDriverSteps : Option Access → List Step → Type 0
AreDeviceStepsThenDriverSteps None steps = (steps ≡ []) ⊎ ((step : Step) × (IsByDevice step → ⊥)
    × (steps ≡ step ∷ []))
AreDeviceStepsThenDriverSteps (Some access) steps = AllByDevice steps
    ⊎ ((own before : List Step) × (steps ≡ own ++ before)
    × IsAtMostOneStepOrIssuesByPxciWrite access own × AllByDevice before)

-- The act is done, from a machine that agrees with what the driver knew: its steps lead to one that agrees with what it
-- knows then.
pub record IsActDone (k : DriverState) (m : Machine) (act : Act) : Type 0 where
  pub access_is_done_or_device_is_same : AccessIsDoneOrDeviceIsSame act.access k.device act.state_after.device
  pub are_device_steps_then_decision : AreDeviceStepsThenDriverSteps act.access act.steps
  pub driver_advances : DriverAdvances k m act.steps act.state_after

-- one act after another, from the one machine to the next
abbrev pub AreActsDone : List Act → DriverState → Machine → DriverState → Type 0
AreActsDone [] k m later = later ≡ k
AreActsDone (act ∷ acts) k m later = IsActDone k m act × AreActsDone acts act.state_after (after m act.steps) later

-- the accesses that were made, in their order
abbrev pub prepend_access : Option Access → List Access → List Access
prepend_access None accesses = accesses
prepend_access (Some access) accesses = access ∷ accesses

-- The accesses among the acts.
abbrev pub accesses_of : List Act → List Access
accesses_of [] = []
accesses_of (act ∷ acts) = prepend_access act.access (accesses_of acts)

-- of acts, the first one first, all the machine's steps, the last one first
abbrev pub newest_first_steps_of_acts : List Act → List Step
newest_first_steps_of_acts [] = []
newest_first_steps_of_acts (act ∷ acts) = newest_first_steps_of_acts acts ++ act.steps

-- ---- the form

-- What the driver has put into each slot, and, by port, the requests that it took from their slots and hasn't decided
-- on.
pub record DriverSlots : Type 0 where
  pub slot_states : SlotStates
  pub awaiting_disposition : ℕ → List RequestId

-- with the device, all that the driver knows
abbrev pub driver_state_of_slots : DriverSlots → Device → DriverState
driver_state_of_slots s d = record {
  slot_states = s.slot_states;
  awaiting_disposition = s.awaiting_disposition;
  device = d;
}

-- From this machine, acts with these accesses lead to what the driver knows then, and this holds of them.
pub record ActsReach (accesses : List Access) (k : DriverState) (m : Machine) (later : DriverState) (Tells : List Act
    → Type 0) : Type 0 where
  pub acts : List Act
  pub acts_are_done : AreActsDone acts k m later
  pub accesses_match_acts : accesses_of acts ≡ accesses
  pub acts_are_such : Tells acts

-- The same whatever is in the slots, from each machine that is reached and agrees with that, if the two fit; and the
-- acts lead to what is in the slots next.
abbrev pub ActsReachWith : List Access → (DriverSlots → Machine → Type 0) → (DriverSlots → DriverSlots)
    → (DriverSlots → Machine → List Act → Type 0) → Device → Device → Type 0
ActsReachWith accesses Fits next Tells old new = (s : DriverSlots) (m : Machine) → IsReachable m
    → DriverRelation m (driver_state_of_slots s old) → Fits s m
    → ActsReach accesses (driver_state_of_slots s old) m (driver_state_of_slots (next s) new) (Tells s m)

-- a part of a call, which made these accesses, from the old device to the new
pub record AccessesAreSimulatedByActs (accesses : List Access) (Fits : DriverSlots → Machine
    → Type 0) (next : DriverSlots → DriverSlots)
    (Tells : DriverSlots → Machine → List Act → Type 0) (old new : Device) : Type 0 where
  pub accesses_are_done : DoesAll accesses old new
  pub acts_reach : ActsReachWith accesses Fits next Tells old new

-- whatever is in the slots
abbrev pub AnySlots : DriverSlots → Machine → Type 0
AnySlots s m = Unit {0}

-- the device alone makes steps
abbrev pub ActsByDeviceAlone : DriverSlots → Machine → List Act → Type 0
ActsByDeviceAlone s m acts = AllByDevice (newest_first_steps_of_acts acts)
