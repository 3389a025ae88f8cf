-- A port that was given up is booted, or found absent.
use Rattle.std.proofs.Common.{◌≡◌, ◌⊎◌, refl, inl, inr, ⊎_elim}
use Rattle.ata_types.specs.declared.Port.{Port}
use Rattle.ata_types.specs.declared.PortState.TheVariants.{Absent}
use Rattle.adapter.specs.Device.{Device}
use Rattle.refinement.specs.Fragments.{IsSimulated}
use Rattle.refinement.specs.Driver.{AllFree}
use Rattle.host_boot.specs.Reboots.{RebootsPort, IsCapPiOrBootAccess}
use Rattle.host_boot.specs.declared.Booted.{Booted}
use Rattle.host_boot.specs.declared.ProbeResult.{ProbeResult}
use Rattle.host_boot.specs.declared.ProbeResult.TheVariants.{Unready}
use Rattle.identify.specs.Wanted.{serial_of}
use Rattle.identify.specs.declared.wanted.Wanted.{Wanted}
use Rattle.port_boot.specs.States.{BacksState}
use Rattle.server_history.specs.ErrorHandling.{RebootsAfterErrorOrFindsAbsent}
use Rattle.port_control.specs.declared.events.PortError.{PortError}
use Rattle.port_control.specs.declared.events.PortError.TheVariants.{FatalError, TaskFileError, TimedOut, LinkChanged}

-- its disk was lost, no device showed, and that was all
pub record IsFoundAbsent (wanted : Wanted) (port : Port) (port_error : PortError) (found : ProbeResult) (old new : Device) : Type 0 where
  pub lost : port_error ≡ LinkChanged
  pub is : found ≡ Unready Absent
  pub starts : IsSimulated (IsCapPiOrBootAccess port) (λ uses. AllFree uses port.0) old new
  pub ended : BacksState (serial_of wanted) Absent port.0 new

pub boots_or_absent : (port_error : PortError) (wanted : Wanted) (port : Port) (booted : Booted) (old new : Device) → RebootsAfterErrorOrFindsAbsent port_error wanted port booted old new
    → RebootsPort wanted port booted old new ⊎ IsFoundAbsent wanted port port_error booted.found old new
boots_or_absent LinkChanged wanted port booted old new b = ⊎_elim (λ boots. inl boots.0) (λ absent. inr (record { lost = refl; is = absent.0; starts = absent.1; ended = absent.2 })) b
boots_or_absent TaskFileError wanted port booted old new b = inl b
boots_or_absent FatalError wanted port booted old new b = inl b
boots_or_absent TimedOut wanted port booted old new b = inl b
