-- What stands behind the evidence that a call names: the device when it began, its accesses, and the device at its end
-- (this project's own; PxIS and PxSERR: AHCI 1.3.1, 3.3.5 and 3.3.12).
use Rattle.std.specs.Prelude.{ℕ, true, false, ◌≡◌, ◌≢◌, ◌⊎◌, ◌++◌, List, All, Contains, Some, None}
use Rattle.ata_types.specs.declared.Port.{Port}
use Rattle.ata_types.specs.declared.PortState.TheVariants.{Ready, Dead}
use Rattle.ata_types.specs.declared.limits.TheConstants.{MOST_READINGS}
use Rattle.adapter.specs.Access.{Access}
use Rattle.adapter.specs.Commands.{is_queued}
use Rattle.adapter.specs.Device.{DevicePort, Device}
use Rattle.adapter.specs.declared.access.DeviceStep.{DeviceStep}
use Rattle.adapter.specs.declared.tape.Entry.{Entry}
use Rattle.adapter.specs.declared.tape.Fault as tape_fault
use Rattle.refinement.specs.Errors.{IsFatalEntryOf, NoDiskComes}
use Rattle.refinement.specs.PortFacts.{IsFaultOf, RunsWell, Undisturbed}
use Rattle.refinement.specs.PreservedParts.{IsPlugEvent}
use Rattle.refinement.specs.Slots.{ServesRequest}
use Rattle.block_machine.specs.Events.{AbstractCall, Reset, AbstractCallResult, WasReset}
use Rattle.block_machine.specs.Histories.{JointState}
use Rattle.block_machine.specs.Ports.{Ports, SameSerialAndSize, RequestFault, Evidence, IsStoppedOrStuck}
use Rattle.block_machine.specs.State.{Pending}
use Rattle.port_control.specs.Engines.{Stops, EngineSticks}
use Rattle.error_recovery.specs.ErrorLog.{NamesQueuedCommand}
use Rattle.error_recovery.specs.Evidence.{BringsLastLogPage, HasFailed, ShowsFatal}
use Rattle.driver_history.specs.AccessTrace.{WritesNeitherCmdNorSctl}

-- the tape gained an entry of this kind
pub record TapeGainsEntry (Is : Entry → Type 0) (old new : Device) : Type 0 where
  pub new_entries : List Entry
  pub tape_is : new.tape ≡ old.tape ++ new_entries
  pub entry : Entry
  pub entry_is_new : Contains new_entries entry
  pub entry_is_of_kind : Is entry

-- The port runs well when the call begins, and nothing goes wrong on it meanwhile.
pub record StaysHealthy (port : ℕ) (old new : Device) : Type 0 where
  pub port_runs_well : RunsWell (old.port port)
  pub undisturbed : Undisturbed port old new

-- ---- what a port shows

-- N or X of PxSERR is set: the link has reported a change.
abbrev pub ShowsLinkChange : DevicePort → Type 0
ShowsLinkChange p = (p.serr_n ≡ true) ⊎ (p.serr_x ≡ true)

-- an error of the interface or of the host's bus is shown (IFS, HBDS or HBFS), or TFES is set
abbrev pub ShowsFailure : DevicePort → Type 0
ShowsFailure p = ShowsFatal p ⊎ (p.is 30 ≡ true)

-- ---- a fault that is reported of a request

-- A plain request is the one of its port that is issued, and status and error are those of such a fault of its slot.
pub record BacksPlainFault (old : JointState Device) (new : Device) (accesses : List Access) (e : Pending) (slot : ℕ)
    (told : RequestFault) : Type 0 where
  pub is_only_issued : (other : Pending) → Contains old.abstract.machine.book other → other.request.port
      ≡ e.request.port
      → other.issued ≡ true → other.request.id ≡ e.request.id
  pub fault : tape_fault.Fault
  pub failed : HasFailed e.request.port accesses old.device new fault
  pub slot_is : fault.slot.0 ≡ slot
  pub status_is : fault.status ≡ told.status
  pub error_is : fault.error ≡ told.error

-- Of a queued one, such a fault of the port stands there, and the log's page names the slot, with status and error.
pub record BacksQueuedFault (old : JointState Device) (new : Device) (accesses : List Access) (e : Pending) (slot : ℕ)
    (told : RequestFault) : Type 0 where
  pub fault : tape_fault.Fault
  pub failed : HasFailed e.request.port accesses old.device new fault
  pub page : List ℕ
  pub brings_log : BringsLastLogPage e.request.port old.device new page
  pub page_tells_error : NamesQueuedCommand page slot told.status told.error

-- The fault is of a request that was issued when the call began, in the slot that served it then.
pub record IsFaultTold (old : JointState Device) (new : Device) (accesses : List Access)
    (told : RequestFault) : Type 0 where
  pub pending : Pending
  pub is_in_book : Contains old.abstract.machine.book pending
  pub issued : pending.issued ≡ true
  pub id_is : pending.request.id ≡ told.id
  pub slot : ℕ
  pub serves : ServesRequest old.abstract.machine old.device.memory (old.device.port pending.request.port.0)
      pending.request.port.0 slot told.id
  pub backs_plain_fault : is_queued serves.command.operation ≡ false
      → BacksPlainFault old new accesses pending slot told
  pub backs_queued_fault : is_queued serves.command.operation ≡ true
      → BacksQueuedFault old new accesses pending slot told

-- ---- ports

-- The port had reported a change, or showed no device, when the call began; a disk of it went or came in the call; or
-- it ends the call neither dead nor ready with serial and size as when it was last ready.
abbrev pub HasEvidenceOfLoss : Port → JointState Device → Ports → Device → Type 0
HasEvidenceOfLoss port old ports new =
    ShowsLinkChange (old.device.port port.0)
    ⊎ (((old.device.port port.0).ssts_det ≢ 3)
    ⊎ (TapeGainsEntry (IsPlugEvent port.0) old.device new
    ⊎ ((ports.state port ≢ Dead) × (ports.state port ≡ Ready → SameSerialAndSize old.abstract.ports ports port → ⊥))))

-- It showed a change when the call began; or no device, and no disk came in the call.
abbrev pub ShowedLinkChangeOrNoDeviceAndNoneCame : Port → Device → Device → Type 0
ShowedLinkChangeOrNoDeviceAndNoneCame port old new = ShowsLinkChange (old.port port.0)
    ⊎ (((old.port port.0).ssts_det ≢ 3) × NoDiskComes port.0 old new)

-- It was ready; and it showed a change, or no device, when the call began, or a disk went or came in it.
abbrev pub ReadyPortShowedLossOrHadPlugEvent : Port → JointState Device → Device → Type 0
ReadyPortShowedLossOrHadPlugEvent port old new = (old.abstract.ports.state port ≡ Ready)
    × (ShowsLinkChange (old.device.port port.0)
    ⊎ (((old.device.port port.0).ssts_det ≢ 3)
    ⊎ TapeGainsEntry (IsPlugEvent port.0) old.device new))

-- It was ready, and showed an error when the call began, or had one in it.
abbrev pub ReadyPortShowedOrHadFailure : Port → JointState Device → Device → Type 0
ReadyPortShowedOrHadFailure port old new = (old.abstract.ports.state port ≡ Ready)
    × (ShowsFailure (old.device.port port.0)
    ⊎ (TapeGainsEntry (IsFaultOf port.0) old.device new ⊎ TapeGainsEntry (IsFatalEntryOf port.0) old.device new))

-- It was ready, and showed a fatal error then, or had one in the call.
abbrev pub ReadyPortShowedOrHadFatalError : Port → JointState Device → Device → Type 0
ReadyPortShowedOrHadFatalError port old new = (old.abstract.ports.state port ≡ Ready)
    × (ShowsFatal (old.device.port port.0) ⊎ TapeGainsEntry (IsFatalEntryOf port.0) old.device new)

-- ---- resets

-- the call is a reset that ended
abbrev pub IsEndedReset : AbstractCall DeviceStep → AbstractCallResult → Type 0
IsEndedReset Reset (WasReset (Some replies)) = Unit {0}
IsEndedReset ask said = ⊥

-- the call is a reset that the adapter didn't end
abbrev pub IsStuckReset : AbstractCall DeviceStep → AbstractCallResult → Type 0
IsStuckReset Reset (WasReset None) = Unit {0}
IsStuckReset ask said = ⊥

-- ---- the whole

-- What stands behind one port's items. `lost` and `stuck`: what is named is so. `link_changed`, `showing_error` and
-- `showing_fatal_error`: the port is named if it showed that when the call began, and only if it showed it then or had
-- it in the call. (No call has to handle what comes after the driver's look in that call.) `stopped`: the port is named
-- only if it was stopped. If PxCMD or PxSCTL was written at all, it is stopped or stuck.
pub record IsEvidencedOf (ask : AbstractCall DeviceStep) (said : AbstractCallResult) (accesses : List Access)
    (old : JointState Device)
    (ports : Ports) (new : Device)
    (evidence : Evidence) (port : Port) : Type 0 where
  pub named_lost_showed_loss_or_changed : Contains evidence.lost port
      → HasEvidenceOfLoss port old ports new
  pub shown_loss_of_ready_is_named : old.abstract.ports.state port ≡ Ready
      → ShowedLinkChangeOrNoDeviceAndNoneCame port old.device new
      → Contains evidence.link_changed port
  pub named_link_changed_had_change_or_no_device : Contains evidence.link_changed port
      → ReadyPortShowedLossOrHadPlugEvent port old new
  pub shown_failure_of_ready_is_named : old.abstract.ports.state port ≡ Ready → ShowsFailure (old.device.port port.0)
      → Contains evidence.showing_error port
  pub named_showing_error_had_error : Contains evidence.showing_error port → ReadyPortShowedOrHadFailure port old new
  pub shown_fatal_of_ready_is_named : old.abstract.ports.state port ≡ Ready → ShowsFatal (old.device.port port.0)
      → Contains evidence.showing_fatal_error port
  pub named_showing_fatal_had_fatal : Contains evidence.showing_fatal_error port
      → ReadyPortShowedOrHadFatalError port old new
  pub engine_is_left_or_stopped : All (WritesNeitherCmdNorSctl port) accesses ⊎ IsStoppedOrStuck evidence port
  pub named_stopped_was_stopped_or_reset : Contains evidence.stopped port → Stops port accesses
      ⊎ (IsEndedReset ask said × (old.abstract.ports.served port ≡ true))
  pub stuck_only : Contains evidence.stuck port
      → (EngineSticks port accesses × ((new.port port.0).notes.engine_wait_count ≡ MOST_READINGS))
      ⊎ (IsStuckReset ask said × (old.abstract.ports.served port ≡ true))

-- The device reported each fault that is named, and what is named of ports is so.
pub record IsEvidenced (ask : AbstractCall DeviceStep) (said : AbstractCallResult) (accesses : List Access)
    (old : JointState Device)
    (ports : Ports) (new : Device)
    (evidence : Evidence) : Type 0 where
  pub faults_are_told : (told : RequestFault) → Contains evidence.faults told → IsFaultTold old new accesses told
  pub each_port_is_evidenced : (port : Port) → IsEvidencedOf ask said accesses old ports new evidence port
