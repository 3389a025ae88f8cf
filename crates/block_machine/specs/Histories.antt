-- Histories of a server over a device of state D that can be asked to make steps E, and what its calls add to them
-- (this project's own). The crate that knows the device gives two relations. `Begins` is what a new server leaves.
-- `Relation` relates an event's device to its steps. Accesses of the device lead from the old device to the new one.
-- What the device did in them is the touches, ends and disks of the steps, in order. The device made the step that it
-- was asked for. The evidence stands. After the event disks and frames hold what the machine's do, and the ports are as
-- the event says.
use Rattle.std.specs.Prelude.{◌≡◌, List, [], ◌∷◌, map}
use Rattle.block_machine.specs.State.{Machine}
use Rattle.block_machine.specs.Ports.{PortsWellFormed}
use Rattle.block_machine.specs.Steps.{Step}
use Rattle.block_machine.specs.Expected.{after, IsInitial}
use Rattle.block_machine.specs.Events.{AbstractState, CallRecord, AllEnabled, Happens, abstract_after}

-- device, machine and ports between two calls
pub record JointState (D : Type 0) : Type 0 where
  pub device : D
  pub abstract : AbstractState

-- a call, and the device after it
pub record JointEvent (D E : Type 0) : Type 0 where
  pub event : CallRecord E
  pub device : D

-- the instant after these calls
abbrev pub joint_state_after : {D E : Type 0} → JointState D → List (JointEvent D E) → JointState D
joint_state_after first [] = first
joint_state_after first (h ∷ past) =
    record { device = h.device; abstract = abstract_after (joint_state_after first past).abstract h.event }

-- the calls without the device
abbrev pub events_of : {D E : Type 0} → List (JointEvent D E) → List (CallRecord E)
events_of past = map (λ h. h.event) past

-- calls that happened one after the other, from what a new server left on
abbrev pub IsJointRun : {D E : Type 0} → (JointState D → Type 0) → (JointState D → JointEvent D E → Type 0)
    → JointState D
    → List (JointEvent D E) → Type 0
IsJointRun Begins Relation first [] = (IsInitial first.abstract.machine × PortsWellFormed first.abstract.ports)
    × Begins first
IsJointRun Begins Relation first (h ∷ past) =
    IsJointRun Begins Relation first past × Happens (joint_state_after first past).abstract h.event
    × Relation (joint_state_after first past) h

-- The history leads to a server's state: `Stands` says when a state is at an instant. What a call adds is said of every
-- history that leads to the server. A new server has such a history, so none of this is empty.
pub record LeadsTo {D E S : Type 0} (Begins : JointState D → Type 0) (Relation : JointState D → JointEvent D E → Type 0)
    (IsStateAt : JointState D → S → Type 0) (first : JointState D) (past : List (JointEvent D E)) (state : S) : Type 0
  where
    pub history : IsJointRun Begins Relation first past
    pub state_is_at_history_end : IsStateAt (joint_state_after first past) state

-- a history of steps leads to the machine
pub record IsReachable (m : Machine) : Type 0 where
  pub initial_machine : Machine
  pub steps_since : List Step
  pub is_initial : IsInitial initial_machine
  pub steps_since_are_enabled : AllEnabled initial_machine steps_since
  pub leads_to_machine : m ≡ after initial_machine steps_since

-- What a part of a call does: from each machine that is reached and fits the old state, steps that may come lead to one
-- that fits the new state. `Tells` says what steps they are.
pub record IsSimulatedBySteps {S : Type 0} (Fits : Machine → S → Type 0) (old new : S) (SatisfiesSteps : Machine
    → List Step
    → Type 0) : Type 0 where
  pub simulates : (m : Machine) → IsReachable m → Fits m old
      → (steps : List Step) × AllEnabled m steps × Fits (after m steps) new × SatisfiesSteps m steps
