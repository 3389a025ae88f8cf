-- The parts of a recovery: the port is stopped and quieted, started again, and asked for its log (this project's own).
use Rattle.std.specs.Prelude.{ℕ, Bool, true, false, ◌≡◌, ◌⊎◌, ◌<◌, ◌≤◌, ◌%◌, List, ◌∷◌, length, Option, None, Some, IfSome}
use Rattle.ata_types.specs.declared.Port.{Port}
use Rattle.ata_types.specs.declared.memory.TheConstants.{DRIVER_BYTES}
use Rattle.hba_regs.specs.Bits.{bit}
use Rattle.hba_regs.specs.declared.reg.PortReg.TheVariants.{Tfd}
use Rattle.hba_regs.specs.declared.reg.Reg.TheVariants.{Px}
use Rattle.adapter.specs.Access.{Access}
use Rattle.adapter.specs.Access.Access.{Reading}
use Rattle.adapter.specs.Device.{Device}
use Rattle.adapter.specs.Device.Halt.{NotHalted}
use Rattle.adapter.specs.Rules.{IsOn, HasPort}
use Rattle.adapter.specs.declared.command.Operation.TheVariants.{Identify, ReadLog}
use Rattle.refinement.specs.Fragments.{SomeMachineAgreesWith, AnySlotStates, IsSimulated, ReadsPortOrWrites, IsSimulatedAlong, GainsNoMove}
use Rattle.refinement.specs.Driver.{AllFree}
use Rattle.refinement.specs.Errors.{LinkErrorsRiseByDisks}
use Rattle.refinement.specs.PortFacts.{RecordsFaults, IsEngineStopped, IsCleanToStart}
use Rattle.refinement.specs.PreservedParts.{NoPlugEvents}
use Rattle.refinement.specs.HaltRecovery.{IsLinked, RunsLinked, WorksOnUnqueuedCommandsOnly}
use Rattle.refinement.specs.StartedPort.{IsStarted, IsUpForStart}
use Rattle.refinement.specs.Slots.{Own}
use Rattle.disk_page.specs.PageRequests.{LeavesPortWhileAsking, ReadsPageOrWaitsInVain}
use Rattle.error_recovery.specs.ErrorLog.{NamesQueuedCommand, NamesNoQueuedCommand}
use Rattle.ata_types.specs.declared.Slot.{Slot}
use Rattle.port_control.specs.Engines.{EngineSticks, Stops}
use Rattle.port_control.specs.Ports.{SerrShowsOnlyNewPlugs, RunsInPlaceWithoutCommands, IsStoppedReceiving, SameSctlAndNotesButCmdAndStart, BacksFault, ShowsIdle, IsCommandRegister}
use Rattle.port_control.specs.declared.PortFault.TheVariants.{EngineStuck}
use Rattle.error_recovery.specs.Recovery.{PlainUsesSlot0, PlainIsSlot0, IsRecoveryAccess, IssueNoCommand, PortMayRecover, NamesSlotNotOutstanding, Recovers}
use Rattle.error_recovery.specs.declared.Recovered.{Recovered}
use Rattle.error_recovery.specs.declared.StoppedAndCleared.{StoppedAndCleared}

-- the adapter is on and has the port and memory for the driver's frames
pub record IsOnWithPortAndDriverMemory (port : ℕ) (d : Device) : Type 0 where
  pub adapter_is_on : IsOn d
  pub has_port : HasPort d port
  pub driver_memory_fits : DRIVER_BYTES ≤ d.memory_size

-- ---- a port that is quieted

-- PxTFD was read first of all, with this value
pub record ReadsTaskFileFirst (port : Port) (shown : ℕ) (accesses : List Access) : Type 0 where
  pub rest : List Access
  pub accesses_are : accesses ≡ Reading (Px port Tfd) shown ∷ rest

-- so it was, and the port was stopped; no command was issued
abbrev pub ReadsTfdStopsAndIssuesNone : Port → ℕ → List Access → Type 0
ReadsTfdStopsAndIssuesNone port shown accesses = ReadsTaskFileFirst port shown accesses × Stops port accesses
    × IssueNoCommand port accesses

-- The port's task file was read, the port was stopped, its errors were forgotten, and the task file was read again. It
-- receives FISes, is quiet, and tells nothing of before.
pub record StopsAndClears (port : Port) (before after : ℕ) (old new : Device) : Type 0 where
  pub is_on_with_driver_memory : IsOnWithPortAndDriverMemory port.0 new
  pub stopped : Device
  pub stops : IsSimulatedAlong (ReadsTfdStopsAndIssuesNone port before)
      (IsRecoveryAccess port) AnySlotStates old stopped
  pub engine_is_stopped : IsEngineStopped (stopped.port port.0)
  pub issues_none_after_stop : IsSimulatedAlong (IssueNoCommand port) (IsRecoveryAccess port) AnySlotStates stopped new
  pub receives : IsStoppedReceiving port.0 (new.port port.0)
  pub no_comreset : (new.port port.0).sctl_det ≡ 0
  pub last_tfd_is : (new.port port.0).notes.last_tfd ≡ after
  pub link_was_seen : (new.port port.0).notes.last_ssts % 16 ≡ 3
  pub link_wait_count_is_kept : (new.port port.0).notes.link_wait_count ≡ (old.port port.0).notes.link_wait_count
  pub no_cause_is_set : (place : ℕ) → place < 32 → (new.port port.0).is place ≡ false
  pub serr_shows_only_new_plugs : SerrShowsOnlyNewPlugs port.0 old new
  pub is_clean_to_start : IsCleanToStart (new.port port.0)
  pub machine_is_related : SomeMachineAgreesWith (λ uses. AllFree uses port.0) new
  pub plain_port_stays_plain : WorksOnUnqueuedCommandsOnly (old.port port.0)
      → WorksOnUnqueuedCommandsOnly (new.port port.0)
  pub no_identify_moves : SomeMachineAgreesWith (λ uses. uses port.0 0 ≡ Own Identify → ⊥) old
      → GainsNoMove port.0 Identify old new

-- The port was to stop, and its engine is stuck.
pub record StopGetsStuck (port : Port) (old new : Device) : Type 0 where
  pub is_simulated : IsSimulatedAlong (EngineSticks port) (IsRecoveryAccess port) AnySlotStates old new
  pub st_is_clear : (new.port port.0).st ≡ false
  pub stuck_is_backed : BacksFault EngineStuck (new.port port.0).notes
  pub no_identify_moves : SomeMachineAgreesWith (λ uses. uses port.0 0 ≡ Own Identify → ⊥) old
      → GainsNoMove port.0 Identify old new

-- ---- a port that is started again

-- ST may be set: what was read last was a device with a link, neither busy nor asking for a transfer, and no slot of
-- the port is used.
pub record MayStartAgain (port : ℕ) (d : Device) : Type 0 where
  pub is_on_with_driver_memory : IsOnWithPortAndDriverMemory port d
  pub receives : IsStoppedReceiving port (d.port port)
  pub link_was_seen : (d.port port).notes.last_ssts % 16 ≡ 3
  pub disk_was_idle : ShowsIdle (d.port port).notes.last_tfd
  pub is_clean_to_start : IsCleanToStart (d.port port)
  pub machine_is_related : SomeMachineAgreesWith (λ uses. AllFree uses port) d

-- It was set: the port runs with no command in a slot, and the record of its faults has begun. Where its link was up,
-- it runs so; and it is started, if no halt is left. What it told of trouble is as it was, but for disks that went or
-- came.
pub record StartsAgain (port : Port) (old new : Device) : Type 0 where
  pub is_on_with_driver_memory : IsOnWithPortAndDriverMemory port.0 new
  pub starts : IsSimulated (ReadsPortOrWrites IsCommandRegister port) (λ uses. AllFree uses port.0) old new
  pub runs : RunsInPlaceWithoutCommands port.0 (new.port port.0)
  pub other_notes_are_kept : SameSctlAndNotesButCmdAndStart (old.port port.0) (new.port port.0)
  pub tape_is_as_at_st_set : (new.port port.0).notes.st_set_at ≡ length new.tape
  pub port_is_started : IsUpForStart (old.port port.0) → NoPlugEvents port.0 old new → IsStarted (new.port port.0)
  pub link_stays_up_without_plug_events : IsLinked (old.port port.0) → NoPlugEvents port.0 old new
      → RunsLinked (new.port port.0)
  pub faults_are_on_record : RecordsFaults new.tape (new.port port.0) port.0
  pub no_cause_rises : (place : ℕ) → (old.port port.0).is place ≡ false → (new.port port.0).is place ≡ false
  pub errors_change_by_disks : LinkErrorsRiseByDisks port.0 old new
  pub machine_is_related : SomeMachineAgreesWith (λ uses. AllFree uses port.0) new

-- ---- what a recovery goes on from

-- The port could be recovered, with these slots outstanding, and was quieted since.
pub record IsStoppedAndCleared (port : Port) (outstanding : ℕ) (queued : Bool) (before after : ℕ) (old d : Device) :
    Type 0 where
  pub adapter_is_on : IsOn old
  pub machine_is_related : SomeMachineAgreesWith (PlainUsesSlot0 queued port.0) old
  pub may_recover : PortMayRecover port.0 old
  pub plain_is_slot_0 : PlainIsSlot0 queued outstanding
  pub stops_and_clears : StopsAndClears port before after old d

-- since some moment a port was stopped and cleared to be recovered
abbrev pub MayFinishRecovery : StoppedAndCleared → ℕ → Bool → Device → Type 0
MayFinishRecovery cleared outstanding queued d = (old : Device)
    × IsStoppedAndCleared cleared.stopped.port outstanding queued cleared.fault.0 cleared.shown.0 old d

-- It is recovered since that moment, whichever it was, and the adapter is on.
pub record FinishesRecovery (cleared : StoppedAndCleared) (outstanding : ℕ) (queued : Bool) (result : Recovered)
    (d new : Device) : Type 0 where
  pub adapter_is_on : IsOn new
  pub recovers : (old : Device)
      → IsStoppedAndCleared cleared.stopped.port outstanding queued cleared.fault.0 cleared.shown.0 old d
      → Recovers cleared.stopped.port outstanding queued result old new

-- ---- the log

-- The page of the log names an outstanding slot. Or no page came; or it names no command, or one that isn't
-- outstanding.
abbrev pub ReadsLog : Port → ℕ → Option (Slot × ℕ × ℕ) → Device → Device → Type 0
ReadsLog port outstanding (Some failed) old new = (page : List ℕ)
    × ReadsPageOrWaitsInVain port ReadLog (Some page) old new
    × NamesQueuedCommand page failed.0.0 failed.1 failed.2 × (bit outstanding failed.0.0 ≡ true)
ReadsLog port outstanding None old new = ReadsPageOrWaitsInVain port ReadLog None old new
    ⊎ ((page : List ℕ) × ReadsPageOrWaitsInVain port ReadLog (Some page) old new
    × (NamesNoQueuedCommand page ⊎ NamesSlotNotOutstanding outstanding page))

-- The log was asked for. The port runs still, without a halt where a slot is named, and no other command of the
-- driver's own was sent.
pub record AsksForLog (port : Port) (outstanding : ℕ) (named : Option (Slot × ℕ × ℕ)) (old new : Device) : Type 0 where
  pub reads : ReadsLog port outstanding named old new
  pub leaves : LeavesPortWhileAsking port.0 old new
  pub is_not_halted_if_named : IfSome named (λ _. (new.port port.0).halt ≡ NotHalted)
  pub no_identify_moves : GainsNoMove port.0 Identify old new
