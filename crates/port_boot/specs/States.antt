-- What a port's state rests on after a boot: what was read last, and the page that its disk sent last (this project's
-- own; IDENTIFY DEVICE: ACS-3, 7.12).
use Rattle.std.specs.Prelude.{ℕ, true, false, ◌≡◌, ◌≢◌, ◌≤◌, ◌<◌, ◌⊎◌, ◌++◌, List, ◌∷◌, Option, None, Some, All, length}
use Rattle.ata_types.specs.declared.Port.{Port}
use Rattle.ata_types.specs.declared.PortState.{PortState}
use Rattle.ata_types.specs.declared.PortState.TheVariants.{Absent, Ready, Foreign, Unfit, Dead}
use Rattle.ata_types.specs.declared.memory.TheConstants.{DRIVER_BYTES}
use Rattle.ata_types.specs.declared.limits.TheConstants.{MOST_READINGS}
use Rattle.hba_regs.specs.declared.reg.PortReg.{PortReg}
use Rattle.hba_regs.specs.declared.reg.PortReg.TheVariants.{Ie}
use Rattle.hba_regs.specs.declared.reg.Reg.TheVariants.{Px}
use Rattle.adapter.specs.Access.{Access, Writes, named_causes_mask}
use Rattle.adapter.specs.Device.{Device, DevicePort}
use Rattle.adapter.specs.declared.command.Operation.TheVariants.{Identify}
use Rattle.adapter.specs.declared.tape.Entry.{Entry}
use Rattle.adapter.specs.declared.tape.Entry.TheVariants as entry
use Rattle.adapter.specs.declared.tape.Move as tape_move
use Rattle.adapter.specs.Rules.{IsOn, HasPort}
use Rattle.refinement.specs.Fragments.{SomeMachineAgreesWith, ReadsPortOrWrites, IsDrivenBy, IsSimulatedAlong, IsSimulatedAlongChangingUses}
use Rattle.refinement.specs.Driver.{AllFree}
use Rattle.refinement.specs.Errors.{NoDiskComes, LinkErrorsRiseByDisks, ErrorBitsRiseByErrors, NoFatalErrors, NoFaults}
use Rattle.refinement.specs.PortFacts.{RecordsFaultsIfSt, RunsWell, Undisturbed}
use Rattle.refinement.specs.PreservedParts.{NoPlugEvents}
use Rattle.refinement.specs.Slots.{Own, set_slot_state, IsMove}
use Rattle.refinement.specs.StartedPort.{IsUpForStart, IsStoppedAndUpForStartIfDet3, IsStarted}
use Rattle.disk_page.specs.PageRequests.{IsPxciOrSlot0PageMemoryAccess}
use Rattle.identify.specs.IdentityPage.{Describes, IsFitPage, IsFirstUnfit, IsSerial, unfit_number}
use Rattle.identify.specs.declared.DiskInfo.{DiskInfo}
use Rattle.identify.specs.declared.Unfit.{Unfit as Fault}
use Rattle.port_control.specs.Engines.{Stops, StopsReceiving, EngineSticks}
use Rattle.port_control.specs.Ports.{FailsToStopPort, PortStops, IsCommandRegister, IsStopped, RunsInPlaceWithoutCommands, IsCmdOrBaseRegister, IsSctlSerrOrIs, SawDeviceSinceSctlWrite, BacksFault, FindsSignature, SeesResetFault, SendsComresetThen, SerrShowsOnlyNewPlugs, IsClearAndUpUnlessPlugEvents}
use Rattle.port_control.specs.declared.PortFault.{PortFault}
use Rattle.port_control.specs.declared.PortFault.TheVariants.{NoDevice, Busy, EngineStuck, NotAta}

-- ---- the page

-- These are the bytes of the port's last page of IDENTIFY DEVICE, which came after PxSCTL was last written.
pub record HasLastIdentifyPage (port : ℕ) (d : Device) (page : List ℕ) : Type 0 where
  pub before : List Entry
  pub move : tape_move.Move
  pub later : List Entry
  pub tape_is : d.tape ≡ before ++ entry.Move move ∷ later
  pub came_after_sctl : (d.port port).notes.sctl_written_at ≤ length before
  pub is_move : IsMove port Identify (entry.Move move)
  pub no_later_page : All (λ e. IsMove port Identify e → ⊥) later
  pub bytes_are : page ≡ move.bytes.value

-- the serial number is the one that is named, if one is: 20 characters, filled with spaces
abbrev pub SerialMatches : Option (List ℕ) → List ℕ → Type 0
SerialMatches None serial = Unit {0}
SerialMatches (Some wanted) serial = serial ≡ wanted

-- the page has no fault, tells this, and its serial number is the one that is named
pub record IsFitAndWanted (wanted : Option (List ℕ)) (page : List ℕ) (info : DiskInfo) : Type 0 where
  pub no_fault : IsFitPage page
  pub page_tells : Describes page info
  pub serial_matches : SerialMatches wanted info.serial

-- the page has no fault, and another serial number than the one that is named
pub record HasOtherSerial (wanted : Option (List ℕ)) (page : List ℕ) : Type 0 where
  pub no_fault : IsFitPage page
  pub serial : List ℕ
  pub page_tells : IsSerial page serial
  pub serial_differs : SerialMatches wanted serial → ⊥

-- the page's first fault has this number
abbrev pub HasUnfitNumber : ℕ → List ℕ → Type 0
HasUnfitNumber n page = (fault : Fault) × IsFirstUnfit page fault × (n ≡ unfit_number fault)

-- what a page makes of a port that isn't ready
abbrev pub IsStateByPage : Option (List ℕ) → PortState → List ℕ → Type 0
IsStateByPage wanted (Unfit n) page = HasUnfitNumber n page
IsStateByPage wanted Foreign page = HasOtherSerial wanted page
IsStateByPage wanted _ page = ⊥

-- ---- the states

-- Why a disk is unfit: 7, it stayed busy; 8, its signature is no ATA disk's; 9, the command for its page didn't end;
-- else its page's first fault.
abbrev pub BacksUnfitNumber : ℕ → ℕ → Device → Type 0
BacksUnfitNumber n port d = ((n ≡ 7) × BacksFault Busy (d.port port).notes)
    ⊎ ((n ≡ 8) × ((signature : ℕ) × BacksFault (NotAta signature) (d.port port).notes))
    ⊎ ((n ≡ 9) × SawDeviceSinceSctlWrite (d.port port).notes × ((d.port port).notes.slot0_issued_count ≡ MOST_READINGS))
    ⊎ ((page : List ℕ) × HasLastIdentifyPage port d page ×
    ((fault : Fault) × IsFirstUnfit page fault × (n ≡ unfit_number fault)))

-- the state that tells of a fault
abbrev pub IsStateOfFault : PortState → PortFault → Type 0
IsStateOfFault state NoDevice = state ≡ Absent
IsStateOfFault state Busy = state ≡ Unfit 7
IsStateOfFault state EngineStuck = state ≡ Dead
IsStateOfFault state (NotAta signature) = state ≡ Unfit 8

-- What stands behind each state of a port that a boot leaves, but Ready: Absent, Unfit and Foreign ports are stopped,
-- with no command issued, active or taken; a Dead one was to stop.
abbrev pub BacksState : Option (List ℕ) → PortState → ℕ → Device → Type 0
BacksState wanted Absent port d = IsStopped (d.port port) × BacksFault NoDevice (d.port port).notes
BacksState wanted (Unfit n) port d = IsStopped (d.port port) × BacksUnfitNumber n port d
BacksState wanted Foreign port d = IsStopped (d.port port)
    × ((page : List ℕ) × HasLastIdentifyPage port d page × HasOtherSerial wanted page)
BacksState wanted Dead port d = ((d.port port).st ≡ false) × BacksFault EngineStuck (d.port port).notes
BacksState wanted Ready port d = ⊥

-- What stands behind a ready port as long as it isn't booted anew: no COMRESET is being sent, it tells by interrupts of
-- DHRS, PSS, SDBS, PCS, PRCS, IFS, HBDS, HBFS and TFES (PxIE: AHCI 1.3.1, 3.3.6), and the last page is of a disk that
-- fits.
pub record HasFitDiskAndInterrupts (wanted : Option (List ℕ)) (port : ℕ) (d : Device) (info : DiskInfo) : Type 0 where
  pub no_comreset : (d.port port).sctl_det ≡ 0
  pub ie_is_named : (d.port port).ie ≡ named_causes_mask
  pub last_identify_page : List ℕ
  pub page_is_last : HasLastIdentifyPage port d last_identify_page
  pub disk_is_fit : IsFitAndWanted wanted last_identify_page info

-- Behind Ready stands such a disk, on a port that runs, with no command in a slot, and on which a device was seen.
pub record IsReadyAfterBoot (wanted : Option (List ℕ)) (port : ℕ) (d : Device) (info : DiskInfo) : Type 0 where
  pub runs : RunsInPlaceWithoutCommands port (d.port port)
  pub device_was_seen : SawDeviceSinceSctlWrite (d.port port).notes
  pub has_fit_disk : HasFitDiskAndInterrupts wanted port d info

-- ---- accesses

-- the registers that a boot writes, but for PxCI, by which IDENTIFY DEVICE is issued
abbrev pub IsWrittenInBootButCi : PortReg → Type 0
IsWrittenInBootButCi r = IsCmdOrBaseRegister r ⊎ (IsSctlSerrOrIs r ⊎ (r ≡ Ie))

-- it is one of these writes, a reading of a register of the port, or one of asking for the page
abbrev pub IsBootAccess : Port → Access → Type 0
IsBootAccess port access = ReadsPortOrWrites IsWrittenInBootButCi port access ⊎ IsPxciOrSlot0PageMemoryAccess port
    access

-- What a boot is to each machine that agrees with a driver that uses no slot of the port: steps of the device alone,
-- after which none is used; and so much is told of its accesses.
abbrev pub IsSimulatedBoot : (List Access → Type 0) → Port → Device → Device → Type 0
IsSimulatedBoot Tells port old new = IsSimulatedAlong Tells (IsBootAccess port) (λ uses. AllFree uses port.0) old new

-- So it is of a boot to this state. Where the port is dead, 64 readings are told in place of that, which showed an
-- engine that is stuck; and its slot 0 may have IDENTIFY DEVICE.
abbrev pub IsSimulatedBootTo : (List Access → Type 0) → Port → PortState → Device → Device → Type 0
IsSimulatedBootTo Tells port Dead old new = IsSimulatedBoot (EngineSticks port) port old new
    ⊎ IsSimulatedAlongChangingUses (EngineSticks port) (IsBootAccess port) (λ uses. AllFree uses port.0)
    (λ uses. set_slot_state uses port.0 0 (Own Identify))
    old new
IsSimulatedBootTo Tells port _ old new = IsSimulatedBoot Tells port old new

-- ---- how a boot goes

-- The areas of a stopped port were put in their places. Then COMRESET was sent, and an ATA disk was found that was
-- idle. Then ST was set, last of all (AHCI 1.3.1, 10.1.2).
pub record BringsUpPort (port : Port) (old new : Device) : Type 0 where
  pub placed : Device
  pub places : IsDrivenBy (ReadsPortOrWrites IsCmdOrBaseRegister port) old placed
  pub found : Device
  pub resets : SendsComresetThen port (FindsSignature port 0x101) placed found
  pub starts : IsDrivenBy (ReadsPortOrWrites IsCommandRegister port) found new
  pub tape_is_as_at_st_set : (new.port port.0).notes.st_set_at ≡ length new.tape

-- The disk was asked for its page; and last of all the port was made to tell of the causes of interrupts.
pub record AsksDiskThenEnables (port : Port) (old new : Device) : Type 0 where
  pub asked : Device
  pub asks : IsDrivenBy (IsPxciOrSlot0PageMemoryAccess port) old asked
  pub enables_interrupts : Writes (Px port Ie) named_causes_mask asked new

-- The whole way to a port that is ready. It runs well where no disk went or came on the way, and nothing went wrong
-- since ST was set.
pub record BringsReady (port : Port) (old new : Device) : Type 0 where
  pub up : Device
  pub brings_up : BringsUpPort port old up
  pub asks_disk : AsksDiskThenEnables port up new
  pub runs_well_if_undisturbed : NoPlugEvents port.0 old new → Undisturbed port.0 up new → RunsWell (new.port port.0)

-- The port wasn't started: after COMRESET it was looked at, with this fault. Where no disk came, its link is up if
-- PxSSTS shows one. But for a missing device, PxSERR and PxIS were cleared.
pub record EndsBeforeStart (port : Port) (state : PortState) (old new : Device) : Type 0 where
  pub fault : PortFault
  pub state_is : IsStateOfFault state fault
  pub placed : Device
  pub places : IsDrivenBy (ReadsPortOrWrites IsCmdOrBaseRegister port) old placed
  pub resets : SendsComresetThen port (SeesResetFault port fault) placed new
  pub link_is_up_if_det_3_unless_disk_comes : NoDiskComes port.0 old new
      → IsStoppedAndUpForStartIfDet3 (new.port port.0)
  pub is_clear_and_up_unless_plug_events : fault ≢ NoDevice → IsClearAndUpUnlessPlugEvents port.0 old new

-- the states in which a port wasn't started
abbrev pub IsBeforeStart : PortState → Type 0
IsBeforeStart Absent = Unit {0}
IsBeforeStart (Unfit n) = (n ≡ 7) ⊎ (n ≡ 8)
IsBeforeStart _ = ⊥

-- those in which it was started, and stopped again
abbrev pub IsStateStoppedAfterStart : PortState → Type 0
IsStateStoppedAfterStart Foreign = Unit {0}
IsStateStoppedAfterStart (Unfit n) = (n ≢ 7) × (n ≢ 8)
IsStateStoppedAfterStart _ = ⊥

-- What the accesses of a boot to a state that isn't Dead tell of the port's engines: the one that receives FISes fell;
-- and where the port was started, so did the other.
abbrev pub StopsReceivingAndStartedEngine : Port → PortState → List Access → Type 0
StopsReceivingAndStartedEngine port state accesses = StopsReceiving port accesses
    × (IsStateStoppedAfterStart state → Stops port accesses)

-- ---- what a port shows of trouble after a boot

-- Nothing of what was before COMRESET: N of PxSERR tells a disk that went or came since, and X one that came; IFS, HBDS
-- and HBFS of PxIS tell a fatal error since, and TFES a fault. Faults since ST was set are on record, so that no link
-- is due. And where none of these is on the tape, the port runs well.
pub record ShowsOnlyGainedErrors (port : ℕ) (old new : Device) : Type 0 where
  pub serr_shows_only_new_plugs : SerrShowsOnlyNewPlugs port old new
  pub fatal_bits_show_only_new_errors : NoFatalErrors port old new → (place : ℕ) → 27 ≤ place → place ≤ 29
      → (new.port port).is place ≡ false
  pub tfes_shows_only_new_faults : NoFaults port old new → (new.port port).is 30 ≡ false
  pub faults_are_on_record : RecordsFaultsIfSt new.tape (new.port port) port
  pub runs_well_if_undisturbed : Undisturbed port old new → RunsWell (new.port port)

-- The disk was asked for its page, and then the port was stopped: of registers PxCMD alone was written after it.
pub record AsksThenStops (port : Port) (old new : Device) : Type 0 where
  pub asked : Device
  pub asks : IsDrivenBy (IsPxciOrSlot0PageMemoryAccess port) old asked
  pub stops : IsDrivenBy (ReadsPortOrWrites IsCommandRegister port) asked new

-- A port that was started, asked, and stopped again: PxSERR tells no disk of before COMRESET; its link isn't due
-- to come up any more; and where nothing went wrong, it is up.
pub record EndsAfterStart (port : Port) (old new : Device) : Type 0 where
  pub up : Device
  pub brings_up : BringsUpPort port old up
  pub asks_then_stops : AsksThenStops port up new
  pub serr_shows_only_new_plugs : SerrShowsOnlyNewPlugs port.0 old new
  pub no_link_is_due : (new.port port.0).link_due ≡ false
  pub undisturbed_link_is_up : Undisturbed port.0 old new → IsUpForStart (new.port port.0)

-- ---- the parts of a boot

-- The adapter is on and has the port and memory for the driver's frames; some machine agrees with a driver that uses no
-- slot of the port.
pub record IsOnWithPortMemoryAndFreeSlots (port : Port) (d : Device) : Type 0 where
  pub adapter_is_on : IsOn d
  pub has_port : HasPort d port.0
  pub driver_memory_fits : DRIVER_BYTES ≤ d.memory_size
  pub machine_is_related : SomeMachineAgreesWith (λ uses. AllFree uses port.0) d

-- The port was brought up: it runs, with no command in a slot; COMRESET was sent since, and a device seen. PxIS is
-- clear, PxSERR tells no disk of before, the record of faults begins, and where no disk went or came, the port is
-- started with its link up.
pub record IsBroughtUp (port : Port) (old new : Device) : Type 0 where
  pub bootable : IsOnWithPortMemoryAndFreeSlots port new
  pub runs : RunsInPlaceWithoutCommands port.0 (new.port port.0)
  pub no_comreset : (new.port port.0).sctl_det ≡ 0
  pub device_was_seen : SawDeviceSinceSctlWrite (new.port port.0).notes
  pub st_set_in_tape : (new.port port.0).notes.st_set_at ≤ length new.tape
  pub sctl_written_in_boot : length old.tape ≤ (new.port port.0).notes.sctl_written_at
  pub sctl_time_in_tape : (new.port port.0).notes.sctl_written_at ≤ length new.tape
  pub brings_up_port : BringsUpPort port old new
  pub no_cause_is_set : (place : ℕ) → place < 32 → (new.port port.0).is place ≡ false
  pub serr_shows_only_new_plugs : SerrShowsOnlyNewPlugs port.0 old new
  pub faults_are_on_record : RecordsFaultsIfSt new.tape (new.port port.0) port.0
  pub port_is_started : NoPlugEvents port.0 old new → IsStarted (new.port port.0)

-- What goes on while PxSCTL isn't written and no link is due: no link gets due, N and X rise by disks alone, and the
-- trouble that PxIS tells by errors alone.
pub record BitsRiseWithCause (port : ℕ) (old new : Device) : Type 0 where
  pub no_link_gets_due : (old.port port).link_due ≡ false → (new.port port).link_due ≡ false
  pub link_errors_rise_by_disks : (old.port port).link_due ≡ false → LinkErrorsRiseByDisks port old new
  pub error_bits_rise_by_errors : ErrorBitsRiseByErrors port old new

-- and while ST isn't cleared either: a port that was started is so still where nothing went wrong, and the record of
-- faults goes on
pub record StaysRunningIfUndisturbed (port : ℕ) (old new : Device) : Type 0 where
  pub bits_rise_with_cause : BitsRiseWithCause port old new
  pub undisturbed_stays_started : Undisturbed port old new → IsStarted (old.port port) → IsStarted (new.port port)
  pub faults_are_on_record : RecordsFaultsIfSt old.tape (old.port port) port
      → RecordsFaultsIfSt new.tape (new.port port) port

-- and where ST is cleared in the end, the link of a port that was started is up
pub record StopsWithLinkUpIfUndisturbed (port : Port) (old new : Device) : Type 0 where
  pub asks_disk_then_stops : AsksThenStops port old new
  pub bits_rise_with_cause : BitsRiseWithCause port.0 old new
  pub link_is_up : Undisturbed port.0 old new → IsStarted (old.port port.0) → IsUpForStart (new.port port.0)

-- The port was stopped, and is in this state; or its engine is stuck, and it is dead.
abbrev pub IsStoppedAsOrStuck : Port → PortState → PortState → Device → Device → Type 0
IsStoppedAsOrStuck port wanted state old new = ((state ≡ wanted) × PortStops port old new)
    ⊎ ((state ≡ Dead) × ((new.port port.0).st ≡ false) × FailsToStopPort port old new)

-- ---- what a port shows

-- where a port shows a device in PxSSTS, whose DET is 3, a disk is in (AHCI 1.3.1, 3.3.10)
abbrev pub ShownDiskIsIn : DevicePort → Type 0
ShownDiskIsIn p = p.ssts_det ≡ 3 → p.present ≡ true
