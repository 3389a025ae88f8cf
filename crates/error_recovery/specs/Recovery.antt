-- What recovery asks, and what it promises (this project's own; recovery: AHCI 1.3.1, 6.2.2; log 10h: ACS-3, A.14).
use Rattle.std.specs.Prelude.{ℕ, Bool, true, false, ◌≡◌, ◌≢◌, ◌⊎◌, ◌<◌, ◌≤◌, ◌%◌, ◌++◌, List, All, Option, None, Some, length}
use Rattle.ata_types.specs.declared.Port.{Port}
use Rattle.ata_types.specs.declared.limits.TheConstants.{MOST_READINGS}
use Rattle.ata_types.specs.declared.memory.TheConstants.{DRIVER_BYTES}
use Rattle.hba_regs.specs.Bits.{bit}
use Rattle.hba_regs.specs.declared.reg.PortReg.{PortReg}
use Rattle.hba_regs.specs.declared.reg.PortReg.TheVariants.{Ci}
use Rattle.hba_regs.specs.declared.reg.Reg.TheVariants.{Px}
use Rattle.adapter.specs.Access.{Access}
use Rattle.adapter.specs.Device.{Device}
use Rattle.adapter.specs.Device.Halt.{LogOnly, NotHalted}
use Rattle.adapter.specs.Rules.{IsOn, HasPort}
use Rattle.adapter.specs.declared.command.Operation.{Operation}
use Rattle.adapter.specs.declared.command.Operation.TheVariants.{Identify, ReadLog}
use Rattle.adapter.specs.declared.tape.Fault as tape_fault
use Rattle.refinement.specs.Acts.{AnySlots, ActsByDeviceAlone, DriverSlots, AccessesAreSimulatedByActs}
use Rattle.refinement.specs.Fragments.{SomeMachineAgreesWith, ReadsPortOrWrites, GainsNoMove}
use Rattle.refinement.specs.Errors.{IsFatalEntryOf}
use Rattle.refinement.specs.PortFacts.{RecordsFaults, IsHaltedByPlainOrQueued, RunsWell}
use Rattle.refinement.specs.GivingUp.{slots_with_all_parked}
use Rattle.refinement.specs.PreservedParts.{NoPlugEvents, DoesNotWrite}
use Rattle.refinement.specs.HaltRecovery.{IsLinked, WorksOnUnqueuedCommandsOnly}
use Rattle.refinement.specs.Slots.{Free, Own, SlotStates, client_operation_of, set_slot_state}
use Rattle.disk_page.specs.PageRequests.{IsPxciOrSlot0PageMemoryAccess, WaitsForSlot0InVain}
use Rattle.error_recovery.specs.ErrorLog.{NamesQueuedCommand, NamesNoQueuedCommand}
use Rattle.ata_types.specs.declared.Slot.{Slot}
use Rattle.port_control.specs.Engines.{EngineSticks, Stops}
use Rattle.port_control.specs.Ports.{IsSerrOrIs, RunsInPlaceWithoutCommands, IsStopped, BacksFault, ShowsIdle, IsCommandRegister, programmed_bases}
use Rattle.port_control.specs.declared.PortFault.TheVariants.{EngineStuck}
use Rattle.port_control.specs.declared.Running as running_token
use Rattle.port_control.specs.declared.Stopped as stopped_token
use Rattle.error_recovery.specs.Evidence.{BringsLastLogPage, GainsSinceStart, HasFailed, HidesNoTrouble}
use Rattle.error_recovery.specs.declared.Next.{Next}
use Rattle.error_recovery.specs.declared.Next.TheVariants.{Running, Restart, Dead}
use Rattle.error_recovery.specs.declared.Recovered.{Recovered}

-- ---- what is asked

-- where the outstanding commands aren't queued, there is one at most, in slot 0
abbrev pub PlainUsesSlot0 : Bool → ℕ → SlotStates → Type 0
PlainUsesSlot0 queued port uses = queued ≡ false → (slot : ℕ) → slot ≢ 0 → uses port slot ≡ Free

-- so tell the outstanding slots, by bit
abbrev pub PlainIsSlot0 : Bool → ℕ → Type 0
PlainIsSlot0 queued outstanding = queued ≡ false → (slot : ℕ) → slot < 32 → bit outstanding slot ≡ true → slot ≡ 0

-- An error of the port may be handled while these commands are outstanding, queued ones or a plain one in slot 0: the
-- adapter is on, and has the port and the driver's memory; and what its slots are used for is known.
pub record MayHandleError (port : Port) (outstanding : ℕ) (queued : Bool) (d : Device) : Type 0 where
  pub adapter_is_on : IsOn d
  pub has_port : HasPort d port.0
  pub driver_memory_fits : DRIVER_BYTES ≤ d.memory_size
  pub machine_is_related : SomeMachineAgreesWith (PlainUsesSlot0 queued port.0) d
  pub plain_is_slot_0 : PlainIsSlot0 queued outstanding

-- A fault has halted the port, which runs with its areas in their places; a device with a link was seen last, no
-- COMRESET is being sent, and the faults since ST was set are on record.
pub record PortMayRecover (port : ℕ) (d : Device) : Type 0 where
  pub st_is_set : (d.port port).st ≡ true
  pub cr_is_set : (d.port port).cr ≡ true
  pub fre_is_set : (d.port port).fre ≡ true
  pub areas_are_in_place : (d.port port).bases ≡ programmed_bases port
  pub no_comreset : (d.port port).sctl_det ≡ 0
  pub link_was_seen : (d.port port).notes.last_ssts % 16 ≡ 3
  pub faults_are_on_record : RecordsFaults d.tape (d.port port) port
  pub halted : IsHaltedByPlainOrQueued (d.port port).halt

-- ---- what is done

-- PxCMD, PxSERR and PxIS
abbrev pub IsCmdSerrOrIs : PortReg → Type 0
IsCmdSerrOrIs r = IsCommandRegister r ⊎ IsSerrOrIs r

-- it reads a register of the port, writes one of these three, or asks for the log: by slot 0's header and table, bit 0
-- of PxCI, and a load of the scratch frame
abbrev pub IsRecoveryAccess : Port → Access → Type 0
IsRecoveryAccess port access = ReadsPortOrWrites IsCmdSerrOrIs port access ⊎ IsPxciOrSlot0PageMemoryAccess port access

-- slot 0 has a command of the driver's own
abbrev pub with_own_command_in_slot_0 : ℕ → Operation → DriverSlots → DriverSlots
with_own_command_in_slot_0 port o s = record s { slot_states = set_slot_state s.slot_states port 0 (Own o) }

-- Each slot of the port was given up once the port had stopped, and the requests that they served are parked; the
-- device alone made steps. Of a dead port the slots are as they were, or READ LOG EXT may be in slot 0 still.
abbrev pub IsSimulatedWithSlotsSurelyParkedUnlessDead : ℕ → Next → List Access → Device → Device → Type 0
IsSimulatedWithSlotsSurelyParkedUnlessDead port Dead accesses old new =
    AccessesAreSimulatedByActs accesses AnySlots (λ s. s) ActsByDeviceAlone old new
    ⊎ (AccessesAreSimulatedByActs accesses AnySlots (slots_with_all_parked port) ActsByDeviceAlone old new
    ⊎ AccessesAreSimulatedByActs accesses AnySlots (λ s. with_own_command_in_slot_0 port ReadLog
    (slots_with_all_parked port s)) ActsByDeviceAlone old new)
IsSimulatedWithSlotsSurelyParkedUnlessDead port _ accesses old new =
    AccessesAreSimulatedByActs accesses AnySlots (slots_with_all_parked port) ActsByDeviceAlone old new

-- the accesses tell that the port was stopped; or that its engine is stuck
abbrev pub TellsEngineOutcome : Port → Next → List Access → Type 0
TellsEngineOutcome port Dead accesses = EngineSticks port accesses
TellsEngineOutcome port _ accesses = Stops port accesses

-- ---- what is told

-- the slot is the one that is named
abbrev pub IsNamedSlot : Option (Slot × ℕ × ℕ) → ℕ → Type 0
IsNamedSlot None slot = ⊥
IsNamedSlot (Some failed) slot = slot ≡ failed.0.0

-- The outstanding slots are the one that is named and those that go again, and no slot is both.
pub record SplitsOutstanding (outstanding : ℕ) (failed : Option (Slot × ℕ × ℕ)) (again : ℕ) : Type 0 where
  pub each_is_in_one : (slot : ℕ) → slot < 32 → bit outstanding slot ≡ true → IsNamedSlot failed slot
      ⊎ (bit again slot ≡ true)
  pub again_is_outstanding_and_unnamed : (slot : ℕ) → slot < 32 → bit again slot ≡ true → (bit outstanding slot ≡ true)
      × (IsNamedSlot failed slot → ⊥)

-- A plain command that is named rests on a fault of its slot, with this status and error.
pub record RestsOnFault (port : Port) (outstanding : ℕ) (accesses : List Access) (old new : Device)
    (failed : Slot × ℕ × ℕ) : Type 0 where
  pub slot_is : failed.0.0 ≡ 0
  pub is_outstanding : bit outstanding 0 ≡ true
  pub fault : tape_fault.Fault
  pub has_failed : HasFailed port accesses old new fault
  pub fault_slot_is : fault.slot.0 ≡ 0
  pub status_is : fault.status ≡ failed.1
  pub error_is : fault.error ≡ failed.2

-- A queued one rests on a fault of the port, and on the last page of the log that the call brought, which names it.
pub record RestsOnLog (port : Port) (outstanding : ℕ) (accesses : List Access) (old new : Device)
    (failed : Slot × ℕ × ℕ) : Type 0 where
  pub slot_in_range : failed.0.0 < 32
  pub is_outstanding : bit outstanding failed.0.0 ≡ true
  pub fault : tape_fault.Fault
  pub has_failed : HasFailed port accesses old new fault
  pub last_log_page : List ℕ
  pub brings : BringsLastLogPage port old new last_log_page
  pub tells : NamesQueuedCommand last_log_page failed.0.0 failed.1 failed.2

-- What stands behind the command that is named: the task file for a plain one, the page of the log for a queued one.
abbrev pub BacksFailure : Bool → Port → ℕ → List Access → Device → Device → Option (Slot × ℕ × ℕ) → Type 0
BacksFailure queued port outstanding accesses old new None = Unit {0}
BacksFailure false port outstanding accesses old new
    (Some failed) = RestsOnFault port outstanding accesses old new failed
BacksFailure true port outstanding accesses old new (Some failed) = RestsOnLog port outstanding accesses old new failed

-- the page names a slot that isn't outstanding
pub record NamesSlotNotOutstanding (outstanding : ℕ) (page : List ℕ) : Type 0 where
  pub tag : ℕ
  pub status : ℕ
  pub error : ℕ
  pub tells : NamesQueuedCommand page tag status error
  pub is_not_outstanding : bit outstanding tag ≡ false

-- they issue no command of the port
abbrev pub IssueNoCommand : Port → List Access → Type 0
IssueNoCommand port accesses = All (DoesNotWrite (Px port Ci)) accesses

-- The port was stopped, which clears PxCI; and then 64 readings in a row showed slot 0's bit, of a command that was
-- issued since. No later reading showed it clear: the count of these readings, which stands beside the device's state,
-- is 64 at the end.
pub record StopsThenWaits (port : Port) (accesses : List Access) (new : Device) : Type 0 where
  pub early : List Access
  pub late : List Access
  pub accesses_are : accesses ≡ early ++ late
  pub stopped : Stops port early
  pub waits_in_vain : WaitsForSlot0InVain port late
  pub slot0_issued_count_is_full : (new.port port.0).notes.slot0_issued_count ≡ MOST_READINGS

-- Why a port has to be booted: BSY or DRQ is what was read last of PxTFD, and no command was issued of which they could
-- be. Or, where queued commands are outstanding, the log named none of them: once the port had stopped, the last 64
-- readings showed READ LOG EXT issued, or its page names no command, or one that isn't outstanding.
abbrev pub ExplainsRestart : Bool → Port → ℕ → List Access → Device → Device → Type 0
ExplainsRestart queued port outstanding accesses old new =
    (IssueNoCommand port accesses × (ShowsIdle (new.port port.0).notes.last_tfd → ⊥))
    ⊎ ((queued ≡ true) × (StopsThenWaits port accesses new
    ⊎ ((page : List ℕ) × BringsLastLogPage port old new page
    × (NamesNoQueuedCommand page ⊎ NamesSlotNotOutstanding outstanding page))))

-- ---- how it ends

-- The port runs, with its areas in their places and no command in a slot; ST was set in the call, so that the record of
-- its faults has begun anew; and the count of PxSSTS is as it was. After queued commands no fault halts it, and one
-- that worked on plain commands alone does so; so none takes READ LOG EXT alone. What came since ST was set is shown.
-- And where the link was up, no disk went or came, and no fatal error came since ST was set, the port runs well; one
-- without queued commands, if it worked on plain ones alone.
pub record RunsAgain (queued : Bool) (port : ℕ) (old new : Device) : Type 0 where
  pub runs : RunsInPlaceWithoutCommands port (new.port port)
  pub faults_are_on_record : RecordsFaults new.tape (new.port port) port
  pub st_set_in_call : length old.tape ≤ (new.port port).notes.st_set_at
  pub link_wait_count_is_kept : (new.port port).notes.link_wait_count ≡ (old.port port).notes.link_wait_count
  pub queued_halt_ends : queued ≡ true → (new.port port).halt ≡ NotHalted
  pub plain_port_stays_plain : queued ≡ false → WorksOnUnqueuedCommandsOnly (old.port port)
      → WorksOnUnqueuedCommandsOnly (new.port port)
  pub is_not_log_only : (queued ≡ false → WorksOnUnqueuedCommandsOnly (old.port port)) → (new.port port).halt ≢ LogOnly
  pub hides_no_trouble : HidesNoTrouble port old new
  pub runs_well_if_linked_without_plug_or_fatal : NoPlugEvents port old new
      → (GainsSinceStart (IsFatalEntryOf port) port old new → ⊥)
      → IsLinked (old.port port)
      → (queued ≡ false → WorksOnUnqueuedCommandsOnly (old.port port)) → RunsWell (new.port port)

-- It is as `next` says: it runs; it is stopped, so that it can be booted; or its engine was awaited in vain.
abbrev pub EndsAsNext : Bool → Port → Next → Device → Device → Type 0
EndsAsNext queued port (Running token) old new = (token.port ≡ port) × RunsAgain queued port.0 old new
EndsAsNext queued port (Restart token) old new = (token.port ≡ port) × IsStopped (new.port port.0)
EndsAsNext queued port Dead old new = ((new.port port.0).st ≡ false) × BacksFault EngineStuck (new.port port.0).notes

-- ---- the whole

-- What recovery does: its accesses are of its kind; what becomes of the slots; and what is told of the port's engine.
pub record DoesRecovery (port : Port) (result : Recovered) (accesses : List Access) (old new : Device) : Type 0 where
  pub accesses_are_recovery : All (IsRecoveryAccess port) accesses
  pub slots_after : IsSimulatedWithSlotsSurelyParkedUnlessDead port.0 result.next accesses old new
  pub tells_engine_outcome : TellsEngineOutcome port result.next accesses

-- What is told of the commands that were outstanding: who failed, on what that rests, and who goes again. Where the
-- port is dead nobody is named, and where queued commands are outstanding, nobody is named of a port that has to be
-- booted.
pub record TellsOutstanding (port : Port) (outstanding : ℕ) (queued : Bool) (result : Recovered)
    (accesses : List Access) (old new : Device) : Type 0 where
  pub splits_outstanding : SplitsOutstanding outstanding result.failed result.again
  pub failure_is_backed : BacksFailure queued port outstanding accesses old new result.failed
  pub dead_names_none : result.next ≡ Dead → result.failed ≡ None
  pub queued_restart_names_none : (token : stopped_token.Stopped) → queued ≡ true → result.next ≡ Restart token
      → result.failed
      ≡ None

-- What a recovery tells besides: whom it names, and why the port has to be booted. Where queued commands are
-- outstanding, it runs only with one of them named; an outstanding plain one is named unless the port is dead.
pub record TellsRecovery (port : Port) (outstanding : ℕ) (queued : Bool) (result : Recovered) (accesses : List Access)
    (old new : Device) : Type 0 where
  pub queued_running_names_one : (token : running_token.Running) → queued ≡ true → result.next ≡ Running token
      → result.failed ≢ None
  pub plain_is_named_unless_dead : queued ≡ false → bit outstanding 0 ≡ true → result.next ≢ Dead → result.failed ≢ None
  pub restart_is_explained : (token : stopped_token.Stopped) → result.next ≡ Restart token
      → ExplainsRestart queued port outstanding accesses old new

-- What it leaves: the port as `next` says; DET of PxSCTL and when it was written, and PxIE, as they were. And where
-- slot 0 had no IDENTIFY DEVICE, the disk has sent no page of it; nor has another port's disk sent a page for a command
-- that its slot 0 hadn't.
pub record IsLeftByRecovery (port : Port) (queued : Bool) (next : Next) (old new : Device) : Type 0 where
  pub ends_as_next : EndsAsNext queued port next old new
  pub sctl_det_is_kept : (new.port port.0).sctl_det ≡ (old.port port.0).sctl_det
  pub sctl_time_is_kept : (new.port port.0).notes.sctl_written_at ≡ (old.port port.0).notes.sctl_written_at
  pub ie_is_kept : (new.port port.0).ie ≡ (old.port port.0).ie
  pub no_identify_moves : SomeMachineAgreesWith (λ uses. uses port.0 0 ≡ Own Identify → ⊥) old
      → GainsNoMove port.0 Identify old new
  pub other_ports_move_no_unasked_page : (q : Port) (o : Operation) → q.0 ≢ port.0 → client_operation_of o ≡ None
      → SomeMachineAgreesWith (λ uses. uses q.0 0 ≡ Own o → ⊥) old → GainsNoMove q.0 o old new

-- What becomes of a port that had trouble: by one list of accesses it was stopped, and runs again, or has to be booted,
-- or is dead.
pub record RecoversOrStops (port : Port) (outstanding : ℕ) (queued : Bool) (result : Recovered)
    (old new : Device) : Type 0 where
  pub accesses : List Access
  pub does : DoesRecovery port result accesses old new
  pub tells : TellsOutstanding port outstanding queued result accesses old new
  pub leaves : IsLeftByRecovery port queued result.next old new

-- All that recovery promises.
pub record Recovers (port : Port) (outstanding : ℕ) (queued : Bool) (result : Recovered)
    (old new : Device) : Type 0 where
  pub handling : RecoversOrStops port outstanding queued result old new
  pub tells : TellsRecovery port outstanding queued result handling.accesses old new

-- All that is promised of a port that is stopped for a reset: PxCMD alone was written, nobody is named, and it doesn't
-- run.
pub record StopsOrSticksForReset (port : Port) (outstanding : ℕ) (queued : Bool) (result : Recovered)
    (old new : Device) : Type 0 where
  pub handling : RecoversOrStops port outstanding queued result old new
  pub only_cmd_is_written : All (ReadsPortOrWrites IsCommandRegister port) handling.accesses
  pub none_is_named : result.failed ≡ None
  pub is_not_running : (token : running_token.Running) → result.next ≢ Running token
