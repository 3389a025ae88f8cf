-- Runs of an adapter with its driver: accesses that keep to the rules, and steps of the device (this project's own).
use Rattle.std.specs.Prelude.{ℕ, Bool, true, false, ◌++◌, ◌≡◌, List, [], ◌∷◌, Some, length}
use Rattle.adapter.specs.Access.{Access, Shows, device_after_reading, device_after_write}
use Rattle.adapter.specs.Access.Access.{Reading, Writing, Loading, Storing}
use Rattle.adapter.specs.Commands.{is_queued}
use Rattle.adapter.specs.Device.{FetchedCommand, DevicePort, Device}
use Rattle.adapter.specs.Device.Halt.{HaltedByQueued, NotHalted}
use Rattle.adapter.specs.FirstRead.{no_notes, empty_port}
use Rattle.adapter.specs.Guarded.{IsGuarded, PassesTest}
use Rattle.adapter.specs.Idle.{IsIdle, HoldsBytesAndTellsDisks}
use Rattle.adapter.specs.Memory.{patched, bytes_at}
use Rattle.adapter.specs.Rules.{InUse, IsInMemoryNotOwnedByDevice, MayRead, MayWrite}
use Rattle.adapter.specs.Steps.{DeviceTransition, Can, device_after, fault_entry}
use Rattle.adapter.specs.declared.tape.Entry.{Entry}
use Rattle.adapter.specs.Steps.DeviceTransition.{Fetch as Fetching, FetchFault as SenselessFetching, Move as Moving, Clear as Clearing, Done as Ending, Fault as Failing, Fatal as FailingFatally, Fall as Falling, FrFall as FallingSilent, LinkUp as Linking, Unplug as Unplugging, Plug as Plugging, ResetEnds as EndingReset, Scribble as Scribbling}

-- an access of the driver, or a step of the device
pub data AccessOrStep : Type 0 where
  MadeAccess : Access → AccessOrStep
  DeviceStepCame : DeviceTransition → AccessOrStep

-- the access keeps to the rules in the state in which it is made, and what it gives is what is there
abbrev pub IsAllowedAndShowsState : Access → Device → Type 0
IsAllowedAndShowsState (Reading r v) d = MayRead r d × Shows r v d
IsAllowedAndShowsState (Writing r v) d = MayWrite r v d
IsAllowedAndShowsState (Loading at bytes) d = IsInMemoryNotOwnedByDevice at (length bytes) d
    × (bytes ≡ bytes_at d.memory at (length bytes))
IsAllowedAndShowsState (Storing at bytes) d = IsInMemoryNotOwnedByDevice at (length bytes) d

-- The device after the access.
abbrev pub after_access : Access → Device → Device
after_access (Reading r v) d = device_after_reading r v d
after_access (Writing r v) d = device_after_write r v d
after_access (Loading at bytes) d = d
after_access (Storing at bytes) d = record d { memory = patched d.memory at bytes }

-- The access or step may come.
abbrev pub MayCome : AccessOrStep → Device → Type 0
MayCome (MadeAccess access) d = IsAllowedAndShowsState access d
MayCome (DeviceStepCame step) d = Can step d

-- The device after the access or step.
abbrev pub after_access_or_step : AccessOrStep → Device → Device
after_access_or_step (MadeAccess access) d = after_access access d
after_access_or_step (DeviceStepCame step) d = device_after step d

-- The device to which events, the first of them first, lead; and that each of them may come when it does.
abbrev pub device_after_run : List AccessOrStep → Device → Device
device_after_run [] d = d
device_after_run (event ∷ events) d = device_after_run events (after_access_or_step event d)

-- Each access or step may come, one after another.
abbrev pub AllMayCome : List AccessOrStep → Device → Type 0
AllMayCome [] d = Unit {0}
AllMayCome (event ∷ events) d = MayCome event d × AllMayCome events (after_access_or_step event d)

-- A port as a reset of the adapter leaves it, with a disk in it or without: no link is due, nothing halts it, and
-- nothing was programmed, set or read yet (AHCI 1.3.1, 10.4.3).
pub record IsAsReset (p : DevicePort) : Type 0 where
  pub bases_are_unprogrammed : p.bases ≡ empty_port.bases
  pub sctl_det_is_zero : p.sctl_det ≡ 0
  pub ssts_det_is_zero : p.ssts_det ≡ 0
  pub no_link_is_due : p.link_due ≡ false
  pub is_not_fresh : p.fresh ≡ false
  pub is_not_halted : p.halt ≡ NotHalted
  pub is_not_broken : p.broken ≡ false
  pub nothing_is_noted : p.notes ≡ no_notes

-- An idle adapter that is switched off, handed over to its driver as after a reset, has come to this state.
pub record IsReachableByRun (d : Device) : Type 0 where
  pub initial_device : Device
  pub starts_idle : IsIdle initial_device
  pub is_off : initial_device.ae ≡ false
  pub ports_are_as_reset : (port : ℕ) → IsAsReset (initial_device.port port)
  pub holds_bytes_and_tells_disks : HoldsBytesAndTellsDisks initial_device
  pub events : List AccessOrStep
  pub events_may_come : AllMayCome events initial_device
  pub device_is : d ≡ device_after_run events initial_device

-- Its commands stand on bytes that no step of the device changes.
pub record CommandBytesAreGuarded (d : Device) : Type 0 where
  pub tables : ℕ → Bool
  pub kept_addresses : ℕ → Bool
  pub guarded : IsGuarded (PassesTest tables) (PassesTest kept_addresses) d

-- ---- the kinds of steps

-- The kinds of steps of a device.
pub data TransitionKind : Type 0 where
  Fetch FetchFault Move Clear Done Fault Fatal Fall FrFall LinkUp Unplug Plug ResetEnds Scribble : TransitionKind

-- The kind of a step.
abbrev pub kind_of : DeviceTransition → TransitionKind
kind_of (Fetching port slot meaning places) = Fetch
kind_of (SenselessFetching port slot queued kept_bits) = FetchFault
kind_of (Moving port slot t bytes) = Move
kind_of (Clearing port slot t first count) = Clear
kind_of (Ending port slot cause_bit t) = Done
kind_of (Failing port slot error kept_bits t) = Fault
kind_of (FailingFatally port place) = Fatal
kind_of (Falling port) = Fall
kind_of (FallingSilent port) = FrFall
kind_of (Linking port sig n) = LinkUp
kind_of (Unplugging port) = Unplug
kind_of (Plugging port disk) = Plug
kind_of EndingReset = ResetEnds
kind_of (Scribbling port slot at bytes) = Scribble

-- a step of the kind can come, in a state that an idle adapter comes to
pub record StepCanCome (kind : TransitionKind) : Type 0 where
  pub device : Device
  pub reached : IsReachableByRun device
  pub step : DeviceTransition
  pub kind_is : kind_of step ≡ kind
  pub step_can_come : Can step device

-- the same in a state in which the commands are safe
pub record CanComeWithGuardedCommands (kind : TransitionKind) : Type 0 where
  pub comes : StepCanCome kind
  pub safe : CommandBytesAreGuarded comes.device

-- ---- what runs come to

-- Two queued commands are taken, in slots 0 and 1, and that in slot 1 may end; that in slot 0 is taken still then.
pub record SecondEndsFirst : Type 0 where
  pub device : Device
  pub reached : IsReachableByRun device
  pub safe : CommandBytesAreGuarded device
  pub first_command : FetchedCommand
  pub second_command : FetchedCommand
  pub both_are_queued : (is_queued first_command.meaning.operation ≡ true)
      × (is_queued second_command.meaning.operation ≡ true)
  pub first_is_taken : (device.port 0).taken 0 ≡ Some first_command
  pub second_may_end : Can (Ending 0 1 3 second_command) device
  pub first_stays_taken : ((device_after (Ending 0 1 3 second_command) device).port 0).taken 0 ≡ Some first_command

-- Two queued commands are taken, in slots 0 and 1, and the first of them has failed.
pub record FirstHasFailed : Type 0 where
  pub device : Device
  pub reached : IsReachableByRun device
  pub safe : CommandBytesAreGuarded device
  pub one : FetchedCommand
  pub other : FetchedCommand
  pub both_are_queued : (is_queued one.meaning.operation ≡ true) × (is_queued other.meaning.operation ≡ true)
  pub failed_is_taken : (device.port 0).taken 0 ≡ Some one
  pub other_is_taken : (device.port 0).taken 1 ≡ Some other
  pub halted : (device.port 0).halt ≡ HaltedByQueued
  pub tfes_is_set : (device.port 0).is 30 ≡ true
  pub fault_is_on_tape : (before : List Entry) × (device.tape ≡ before ++ fault_entry 0 0 0x40 0 ∷ [])

-- A reset of the adapter is pending, and two ports have commands in use.
pub record ResetIsPendingWithTwoUsedPorts : Type 0 where
  pub device : Device
  pub reached : IsReachableByRun device
  pub safe : CommandBytesAreGuarded device
  pub reset_is_pending : device.hr ≡ true
  pub first_used : InUse (device.port 0) 0
  pub second_used : InUse (device.port 1) 0
