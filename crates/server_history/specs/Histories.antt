-- Histories of a server of several ports, and what its calls add to them (this project's own).
use Rattle.std.specs.Prelude.{ℕ, Bool, true, false, ◌≡◌, List, [], ◌∷◌, Some, None, Result, Ok, Err}
use Rattle.ata_types.specs.declared.refusal.MemFault.{MemFault}
use Rattle.adapter.specs.Device.{Device}
use Rattle.adapter.specs.declared.access.DeviceStep.{DeviceStep}
use Rattle.block_machine.specs.Events.{AbstractCall, AbstractCallResult, Stored, Loaded}
use Rattle.block_machine.specs.Histories.{JointState, JointEvent}
use Rattle.block_machine.specs.Histories as histories
use Rattle.driver_history.specs.Histories.{HasDriverInvariantAeAndIe, CallCorresponds}
use Rattle.server_history.specs.ServerState.{ServerState, ports_of, InvariantWithNoneDue, MachineRelation}
use Rattle.server_history.specs.StuckServer.{StuckInvariant}

-- The server stands at an instant of a history: the device is its own, the ports are what it says, and the machine
-- stands for it.
pub record ServerRelation (now : JointState Device) (s : ServerState) : Type 0 where
  pub device_is : now.device ≡ s.device
  pub ports_are : now.abstract.ports ≡ ports_of s
  pub machine_stands_for_it : MachineRelation s now.abstract.machine

-- what a store of a client's bytes says
abbrev pub store_result : Result (Unit {0}) MemFault → AbstractCallResult
store_result (Ok done) = Stored None
store_result (Err fault) = Stored (Some fault)

-- what a load of a client's bytes says
abbrev pub load_result : Result (Unit {0}) MemFault → List ℕ → AbstractCallResult
load_result (Ok done) bytes = Loaded (Ok bytes)
load_result (Err fault) bytes = Loaded (Err fault)

-- the history leads to the server
abbrev pub LeadsToServer : JointState Device → List (JointEvent Device DeviceStep) → ServerState → Type 0
LeadsToServer first past s = histories.LeadsTo (HasDriverInvariantAeAndIe s.wanted)
    (CallCorresponds s.wanted) ServerRelation first past s

-- To every history that leads to the old server, a call that asked this and said that adds one event, which leads to
-- the new one.
abbrev pub ExtendsHistory : ServerState → ServerState → AbstractCall DeviceStep → AbstractCallResult → Type 0
ExtendsHistory old new ask said = (first : JointState Device) (past : List (JointEvent Device DeviceStep))
    → LeadsToServer first past old
    → (h : JointEvent Device DeviceStep) × (h.event.call ≡ ask) × (h.event.result ≡ said)
    × LeadsToServer first (h ∷ past) new

-- So it does; and the new server's adapter is on, and each request is issued that is due.
pub record ExtendsToNoneDue (old new : ServerState) (ask : AbstractCall DeviceStep) (said : AbstractCallResult) : Type 0
  where
    pub invariant_with_none_due : InvariantWithNoneDue new
    pub extends_history : ExtendsHistory old new ask said

-- So it does; and the new server's adapter hasn't been seen to end a reset.
pub record ExtendsToStuck (old new : ServerState) (ask : AbstractCall DeviceStep) (said : AbstractCallResult) : Type 0
  where
    pub stuck_invariant : StuckInvariant new
    pub extends_history : ExtendsHistory old new ask said

-- What holds of a server between calls, by whether its last reset got stuck: its adapter is on, and each request is
-- issued that is due; or the adapter hasn't been seen to end that reset.
abbrev pub InvariantBetweenCalls : Bool → ServerState → Type 0
InvariantBetweenCalls false s = InvariantWithNoneDue s
InvariantBetweenCalls true s = StuckInvariant s

-- So it does, and it is for the new server as it was.
abbrev pub ExtendsAndHasInvariantByStuck : Bool → ServerState → ServerState → AbstractCall DeviceStep
    → AbstractCallResult → Type 0
ExtendsAndHasInvariantByStuck stuck old new ask said = InvariantBetweenCalls stuck new × ExtendsHistory old new ask said

-- a history without calls leads to the server
abbrev pub StartsHistory : ServerState → Type 0
StartsHistory s = (first : JointState Device) × LeadsToServer first [] s
