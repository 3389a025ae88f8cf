-- An adapter that is taken over: which of its ports are served, and what stands behind what each was found to be (this
-- project's own; the way: AHCI 1.3.1, 10.1.2).
use Rattle.std.specs.Prelude.{ℕ, [], ◌∷◌, true, ◌≡◌, ◌≢◌, ◌+◌, ◌/◌, ◌%◌, ◌<◌, ◌≤◌, ◌⊎◌, List, length, slice_index_or}
use Rattle.ata_types.specs.declared.Port.{Port}
use Rattle.ata_types.specs.declared.PortState.{PortState as ShownState}
use Rattle.ata_types.specs.declared.PortState.TheVariants.{Foreign, Unfit, Dead}
use Rattle.ata_types.specs.declared.memory.TheConstants.{DRIVER_BYTES}
use Rattle.hba_regs.specs.Bits.{bit}
use Rattle.hba_regs.specs.declared.reg.Reg.TheVariants.{Cap, Ghc, Pi}
use Rattle.adapter.specs.Access.{Access, Writes}
use Rattle.adapter.specs.Access.Access.{Reading, Writing}
use Rattle.adapter.specs.Device.{DevicePort, Device}
use Rattle.adapter.specs.Idle.{IsIdlePort}
use Rattle.adapter.specs.Rules.{IsOn}
use Rattle.adapter.specs.declared.command.Operation.TheVariants.{Identify}
use Rattle.refinement.specs.Relation.{port_at}
use Rattle.refinement.specs.Fragments.{SomeMachineAgreesWith, SomeMachineAgrees, ReadsPortOrWrites, IsDrivenBy, IsSimulatedChangingUses, SameSlotStates, OnlyDeviceChangesPort}
use Rattle.refinement.specs.Driver.{AllFree}
use Rattle.refinement.specs.Halting.{HaltFitsTakenCommands}
use Rattle.refinement.specs.PreservedParts.{SameAdapter}
use Rattle.refinement.specs.Slots.{Free, Own, SlotStates}
use Rattle.identify.specs.Wanted.{serial_of}
use Rattle.identify.specs.declared.DiskInfo.{DiskInfo}
use Rattle.identify.specs.declared.wanted.Wanted.{Wanted}
use Rattle.identify.specs.declared.wanted.Wanted.TheVariants.{Nothing}
use Rattle.port_control.specs.Engines.{StopsEachEngine, EngineSticks}
use Rattle.port_control.specs.Ports.{IsCommandRegister}
use Rattle.port_boot.specs.States.{BacksState, EndsBeforeStart, EndsAfterStart, BringsReady, HasFitDiskAndInterrupts, IsSimulatedBoot, IsSimulatedBootTo, IsBeforeStart, IsStateStoppedAfterStart, IsBootAccess, IsReadyAfterBoot, ShowsOnlyGainedErrors}
use Rattle.host_boot.specs.declared.ProbeResult.{ProbeResult}
use Rattle.host_boot.specs.declared.ProbeResult.TheVariants.{Unserved, Ready, Unready}
use Rattle.host_boot.specs.declared.Host.{Host}

-- ---- ports

-- what is wanted of a port, by its number
abbrev pub wanted_of : List Wanted → ℕ → Wanted
wanted_of wanted port = slice_index_or wanted port Nothing

-- what a port was found to be
abbrev pub probe_result_of : List ProbeResult → ℕ → ProbeResult
probe_result_of ports port = slice_index_or ports port Unserved

-- a disk is wanted in the port, and the adapter has it
abbrev pub IsWantedAndImplemented : Wanted → ℕ → Device → Type 0
IsWantedAndImplemented wanted port d = (wanted ≢ Nothing) × (bit d.pi port ≡ true)

-- in the port a disk was found that isn't served
abbrev pub FoundUnusableDevice : ShownState → Type 0
FoundUnusableDevice Foreign = Unit {0}
FoundUnusableDevice (Unfit n) = Unit {0}
FoundUnusableDevice _ = ⊥

-- What stands behind what a port was found to be. One that isn't served is as idle as it was; what stands behind the
-- others is what their boot found.
abbrev pub BacksProbeResult : Wanted → ProbeResult → ℕ → Device → Type 0
BacksProbeResult wanted Unserved port d = (IsWantedAndImplemented wanted port d → ⊥) × IsIdlePort (d.port port)
BacksProbeResult wanted (Ready info) port d = IsWantedAndImplemented wanted port d
    × IsReadyAfterBoot (serial_of wanted) port d info
BacksProbeResult wanted (Unready state) port d = IsWantedAndImplemented wanted port d
    × BacksState (serial_of wanted) state port d

-- What still stands behind it as long as the port isn't booted anew: behind a ready port, which takes commands, a disk
-- that fits.
abbrev pub StillBacksProbeResult : Wanted → ProbeResult → ℕ → Device → Type 0
StillBacksProbeResult wanted (Ready info) port d = IsWantedAndImplemented wanted port d
    × HasFitDiskAndInterrupts (serial_of wanted) port d info
StillBacksProbeResult wanted found port d = BacksProbeResult wanted found port d

-- What has to be left of a port for that: of a ready one, DET of PxSCTL, PxIE, and when PxSCTL was written; any other
-- is left to the device.
abbrev pub KeepsWhatBacksProbeResult : ProbeResult → DevicePort → DevicePort → Type 0
KeepsWhatBacksProbeResult (Ready info) old new =
    (new.sctl_det ≡ old.sctl_det) × (new.ie ≡ old.ie) × (new.notes.sctl_written_at ≡ old.notes.sctl_written_at)
KeepsWhatBacksProbeResult found old new = OnlyDeviceChangesPort old new

-- PxSCTL of the port was written after the tape was so long, unless the port isn't served, or was dead before that
abbrev pub WroteSctlUnlessUnservedOrDead : ProbeResult → ℕ → ℕ → Device → Type 0
WroteSctlUnlessUnservedOrDead Unserved port since d = Unit {0}
WroteSctlUnlessUnservedOrDead (Unready Dead) port since d = Unit {0}
WroteSctlUnlessUnservedOrDead _ port since d = since ≤ (d.port port).notes.sctl_written_at

-- what halts a port that was found ready fits the commands that are taken
abbrev pub ReadyPortHaltFitsTakenCommands : ProbeResult → ℕ → Device → Type 0
ReadyPortHaltFitsTakenCommands found port d = (info : DiskInfo) → found ≡ Ready info
    → HaltFitsTakenCommands (d.port port)

-- What accesses tell of the engines of a port that was found to be this: both fell, as was read after each was cleared.
-- Of a dead port 64 readings in a row showed one that runs still; and one that isn't served wasn't stopped.
abbrev pub ShowsEnginesStoppedOrStuck : Port → ProbeResult → List Access → Type 0
ShowsEnginesStoppedOrStuck port Unserved accesses = Unit {0}
ShowsEnginesStoppedOrStuck port (Unready Dead) accesses = EngineSticks port accesses
ShowsEnginesStoppedOrStuck port _ accesses = StopsEachEngine port accesses

-- A port that isn't served isn't touched; another was stopped and booted, and its accesses tell of its engines.
abbrev pub IsSimulatedBootOrNothing : Port → ProbeResult → Device → Device → Type 0
IsSimulatedBootOrNothing port Unserved old new = new ≡ old
IsSimulatedBootOrNothing port (Ready info) old new = IsSimulatedBoot (StopsEachEngine port) port old new
IsSimulatedBootOrNothing port (Unready state) old new = IsSimulatedBootTo
    (StopsEachEngine port) port state old new

-- ---- accesses

-- it reads CAP or PI, or writes GHC with AE alone, or with AE and IE
abbrev pub ReadsCapOrPiOrSetsAe : Access → Type 0
ReadsCapOrPiOrSetsAe (Reading Cap v) = Unit {0}
ReadsCapOrPiOrSetsAe (Reading Pi v) = Unit {0}
ReadsCapOrPiOrSetsAe (Writing Ghc v) = (v ≡ 0x80000000) ⊎ (v ≡ 0x80000002)
ReadsCapOrPiOrSetsAe access = ⊥

-- it reads CAP or PI
abbrev pub ReadsCapOrPi : Access → Type 0
ReadsCapOrPi (Reading Cap v) = Unit {0}
ReadsCapOrPi (Reading Pi v) = Unit {0}
ReadsCapOrPi access = ⊥

-- it is one of these, or one of the boot of a port in which a disk is wanted
abbrev pub IsTakeOverAccess : List Wanted → Access → Type 0
IsTakeOverAccess wanted access = ReadsCapOrPiOrSetsAe access ⊎ ((port : Port) × (wanted_of wanted port.0 ≢ Nothing)
    × IsBootAccess port access)

-- every port is left to the device
abbrev pub OnlyDeviceChangesPorts : Device → Device → Type 0
OnlyDeviceChangesPorts old new = (port : ℕ) → OnlyDeviceChangesPort (old.port port) (new.port port)

-- ---- the way

-- By accesses of a boot of this port alone 64 readings in a row showed one of its engines that was cleared, and runs
-- still.
pub record EngineSticksDuringBoot (port : Port) (old new : Device) : Type 0 where
  pub driven : IsDrivenBy (IsBootAccess port) old new
  pub sticks : EngineSticks port driven.accesses

-- A port that isn't served isn't touched. Another was stopped, and then booted, by accesses of a boot of this port
-- alone: it is ready, and each access of that is told, with what it shows of trouble; or it isn't, and what was seen is
-- told. Of each dead one the engine that is stuck is told.
abbrev pub StopsAndBootsOrDoesNothing : Port → ProbeResult → Device → Device → Type 0
StopsAndBootsOrDoesNothing port Unserved old new = new ≡ old
StopsAndBootsOrDoesNothing port (Ready info) old new = (stopped : Device)
    × IsDrivenBy (ReadsPortOrWrites IsCommandRegister port) old stopped
    × IsDrivenBy (IsBootAccess port) stopped new × BringsReady port stopped new
    × ShowsOnlyGainedErrors port.0 stopped new
StopsAndBootsOrDoesNothing port (Unready state) old new = (stopped : Device)
    × IsDrivenBy (ReadsPortOrWrites IsCommandRegister port) old stopped
    × IsDrivenBy (IsBootAccess port) stopped new × (IsBeforeStart state → EndsBeforeStart port state stopped new)
    × (IsStateStoppedAfterStart state → EndsAfterStart port stopped new) × (state ≡ Dead
    → EngineSticksDuringBoot port old new)

-- ---- one port

-- An idle port may be booted, if it is wanted and the adapter has it: the ports that it has are these, by bit; memory
-- has the driver's areas; and no slot of the port is used.
pub record MayBootIdlePort (port : Port) (implemented : ℕ) (d : Device) : Type 0 where
  pub adapter_is_on : IsOn d
  pub port_in_range : port.0 < 4
  pub implemented_is_pi_of_device : implemented ≡ d.pi
  pub driver_memory_fits : DRIVER_BYTES ≤ d.memory_size
  pub machine_is_related : SomeMachineAgreesWith (λ uses. AllFree uses port.0) d
  pub idle : IsIdlePort (d.port port.0)

-- It was found to be this: what stands behind that; PxSCTL was written in it; what halts a ready one fits the
-- commands that are taken; what it is to a machine that agrees; and its way.
pub record BootsAndFindsPort (wanted : Wanted) (port : Port) (found : ProbeResult) (old new : Device) : Type 0 where
  pub result_is_backed : BacksProbeResult wanted found port.0 new
  pub sctl_was_written_unless_unserved_or_dead : WroteSctlUnlessUnservedOrDead found port.0 (length old.tape) new
  pub halt_fits_taken_commands : ReadyPortHaltFitsTakenCommands found port.0 new
  pub boots : IsSimulatedBootOrNothing port found old new
  pub stops_and_boots : StopsAndBootsOrDoesNothing port found old new

-- ---- the whole way

-- so it was with these ports, one after another, of which the first has this number
abbrev pub BootsEachServedPortOrSticks : ℕ → List ProbeResult → Device → Device → Type 0
BootsEachServedPortOrSticks port [] old new = new ≡ old
BootsEachServedPortOrSticks port (found ∷ rest) old new = (mid : Device)
    × StopsAndBootsOrDoesNothing (port_at port) found old mid × BootsEachServedPortOrSticks (port + 1) rest mid new

-- The adapter was switched on with interrupts off, and CAP and PI were read; then each port went its way, in rising
-- number; and last of all the adapter was let interrupt (AHCI 1.3.1, 3.1.2 and 10.1.2).
pub record SwitchesOnBootsAndEnablesInterrupts (ports : List ProbeResult) (old new : Device) : Type 0 where
  pub device_switched_on : Device
  pub switches : Writes Ghc 0x80000000 old device_switched_on
  pub device_after_survey : Device
  pub surveys : IsDrivenBy ReadsCapOrPi device_switched_on device_after_survey
  pub device_after_boots : Device
  pub boots : BootsEachServedPortOrSticks 0 ports device_after_survey device_after_boots
  pub enables_interrupts : Writes Ghc 0x80000002 device_after_boots new

-- ---- the whole

-- no slot is used
abbrev pub unused_slots : SlotStates
unused_slots = λ port slot. Free

-- A slot isn't used; or it is slot 0 of a port that is dead, which may have IDENTIFY DEVICE still.
abbrev pub IsUnusedOrIdentifyOfDeadPort : List ProbeResult → SlotStates → ℕ → ℕ → Type 0
IsUnusedOrIdentifyOfDeadPort ports uses port slot = (uses port slot ≡ Free)
    ⊎ ((slot ≡ 0) × (uses port 0 ≡ Own Identify) × (probe_result_of ports port ≡ Unready Dead))

-- An idle adapter was taken over: it is on, and may interrupt; what is told of it is so; each of its ports is as it was
-- found, by a COMRESET of this very call; what halts a ready one is of a command that is taken; and the machine
-- followed, by steps of the device alone, over accesses that tell of each port's engines.
pub record TakesOver (wanted : List Wanted) (host : Host) (old new : Device) : Type 0 where
  pub adapter_is_on : IsOn new
  pub ie_is_set : new.ie ≡ true
  pub adapter_is_kept : SameAdapter old new
  pub slot_count_is_of_cap : host.slot_count ≡ new.cap / 256 % 32 + 1
  pub ncq_is_of_cap : host.supports_ncq ≡ bit new.cap 30
  pub results_are_backed : (port : ℕ) → port < 4 → BacksProbeResult (wanted_of wanted port)
      (probe_result_of host.ports port) port
      new
  pub sctl_was_written_unless_unserved_or_dead : (port : ℕ) → port < 4
      → WroteSctlUnlessUnservedOrDead (probe_result_of host.ports port) port (length old.tape) new
  pub halt_fits_taken_commands : (port : ℕ) → port < 4
      → ReadyPortHaltFitsTakenCommands (probe_result_of host.ports port) port new
  pub switches_on_and_boots : SwitchesOnBootsAndEnablesInterrupts host.ports old new
  pub uses : SlotStates
  pub slots_are_unused_or_dead : (port slot : ℕ) → IsUnusedOrIdentifyOfDeadPort host.ports uses port slot
  pub followed : IsSimulatedChangingUses (IsTakeOverAccess wanted) (SameSlotStates unused_slots) (λ _. uses) old new
  pub engines_are_shown_stopped_or_stuck : (port : ℕ) → port < 4
      → ShowsEnginesStoppedOrStuck (port_at port) (probe_result_of host.ports port) followed.is_driven.accesses
  pub machine_is_related : SomeMachineAgrees uses new
