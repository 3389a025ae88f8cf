-- What a boot of a port comes to, and what its parts come to (this project's own; the way: AHCI 1.3.1, 10.1.2
-- and 10.4.2).
use Rattle.std.specs.Prelude.{ℕ, false, ◌≡◌, ◌≢◌, ◌≤◌, ◌⊎◌, List, Option, length}
use Rattle.ata_types.specs.declared.Port.{Port}
use Rattle.ata_types.specs.declared.PortState.{PortState}
use Rattle.ata_types.specs.declared.PortState.TheVariants.{Dead}
use Rattle.adapter.specs.Device.{Device}
use Rattle.refinement.specs.Fragments.{ReadsPortOrWrites, IsSimulated, IsSimulatedAlong}
use Rattle.refinement.specs.Driver.{AllFree}
use Rattle.refinement.specs.Halting.{HaltFitsTakenCommands}
use Rattle.identify.specs.declared.DiskInfo.{DiskInfo}
use Rattle.port_control.specs.Engines.{Stops, StopsReceiving}
use Rattle.port_control.specs.Ports.{FailsToStopPort, PortStops}
use Rattle.port_boot.specs.States.{BacksState, EndsBeforeStart, EndsAfterStart, AsksDiskThenEnables, BringsReady, IsSimulatedBoot, IsSimulatedBootTo, IsWrittenInBootButCi, IsBroughtUp, IsBeforeStart, IsStateStoppedAfterStart, IsBootAccess, IsReadyAfterBoot, StaysRunningIfUndisturbed, ShowsOnlyGainedErrors, StopsReceivingAndStartedEngine, StopsWithLinkUpIfUndisturbed}

-- ---- a port that was stopped

-- A boot that leaves the port ready: what stands behind that; PxSCTL was written in it; what it is to a machine that
-- agrees; and its way, with what the port shows of trouble; and what halts it is of a command that is taken.
pub record EndsReady (wanted : Option (List ℕ)) (port : Port) (info : DiskInfo) (old new : Device) : Type 0 where
  pub ready : IsReadyAfterBoot wanted port.0 new info
  pub sctl_written_in_boot : length old.tape ≤ (new.port port.0).notes.sctl_written_at
  pub boots : IsSimulatedBoot (StopsReceiving port) port old new
  pub brings_ready : BringsReady port old new
  pub shows_only_new_errors : ShowsOnlyGainedErrors port.0 old new
  pub halt_fits_taken_commands : HaltFitsTakenCommands (new.port port.0)

-- one that leaves it in another state
pub record EndsUnready (wanted : Option (List ℕ)) (port : Port) (state : PortState) (old new : Device) : Type 0 where
  pub state_is_backed : BacksState wanted state port.0 new
  pub sctl_written_in_boot : state ≢ Dead → length old.tape ≤ (new.port port.0).notes.sctl_written_at
  pub boots : IsSimulatedBootTo (StopsReceivingAndStartedEngine port state) port state old new
  pub unstarted_state_ends_before_start : IsBeforeStart state → EndsBeforeStart port state old new
  pub stopped_state_ends_after_start : IsStateStoppedAfterStart state → EndsAfterStart port old new

-- ---- any port

-- It was stopped, and then booted, which left it ready.
pub record StopsAndEndsReady (wanted : Option (List ℕ)) (port : Port) (info : DiskInfo) (old new : Device) :
    Type 0 where
  pub stopped : Device
  pub stops : PortStops port old stopped
  pub ends_ready : EndsReady wanted port info stopped new

-- It was stopped, and then booted, which left it in another state; or it was to stop, and its engine is stuck.
abbrev pub StopsAndEndsUnready : Option (List ℕ) → Port → PortState → Device → Device → Type 0
StopsAndEndsUnready wanted port state old new =
    ((stopped : Device) × PortStops port old stopped × EndsUnready wanted port state stopped new)
    ⊎ ((state ≡ Dead) × ((new.port port.0).st ≡ false) × FailsToStopPort port old new)

-- ---- the first part: FISes are received, COMRESET is sent, and the port is started

-- It brought the port up.
pub record BootBringsUp (port : Port) (old new : Device) : Type 0 where
  pub boots : IsSimulatedAlong (StopsReceiving port) (ReadsPortOrWrites IsWrittenInBootButCi port)
      (λ uses. AllFree uses port.0) old
      new
  pub is_brought_up : IsBroughtUp port old new

-- Or the port wasn't started, whatever disk is wanted.
pub record BootFailsToBringUp (port : Port) (state : PortState) (old new : Device) : Type 0 where
  pub boots : IsSimulatedBootTo (StopsReceivingAndStartedEngine port state) port state old new
  pub state_is_backed : (wanted : Option (List ℕ)) → BacksState wanted state port.0 new
  pub sctl_written_in_boot : state ≢ Dead → length old.tape ≤ (new.port port.0).notes.sctl_written_at
  pub dead_or_before_start : (state ≡ Dead) ⊎ EndsBeforeStart port state old new

-- ---- the second: the disk is asked for its page

-- It fits, and the port is ready.
pub record Identifies (wanted : Option (List ℕ)) (port : Port) (info : DiskInfo) (old new : Device) : Type 0 where
  pub ready : IsReadyAfterBoot wanted port.0 new info
  pub boots : IsSimulated (IsBootAccess port) (λ uses. AllFree uses port.0) old new
  pub asks_disk : AsksDiskThenEnables port old new
  pub halt_fits_taken_commands : HaltFitsTakenCommands (new.port port.0)
  pub runs_on : StaysRunningIfUndisturbed port.0 old new

-- Or the port was stopped again.
pub record FailsToIdentify (wanted : Option (List ℕ)) (port : Port) (state : PortState)
    (old new : Device) : Type 0 where
  pub state_is_backed : BacksState wanted state port.0 new
  pub boots : IsSimulatedBootTo (Stops port) port state old new
  pub stops_with_link_up : StopsWithLinkUpIfUndisturbed port old new
  pub was_started : IsBeforeStart state → ⊥
