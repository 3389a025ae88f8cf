-- A stopped port that is booted anew (this project's own; the way: AHCI 1.3.1, 10.1.2).
use Rattle.std.specs.Prelude.{◌≡◌, ◌+◌, ◌/◌, ◌%◌, ◌⊎◌}
use Rattle.ata_types.specs.declared.Port.{Port}
use Rattle.ata_types.specs.declared.PortState.TheVariants.{Absent}
use Rattle.hba_regs.specs.Bits.{bit}
use Rattle.adapter.specs.Access.{Access}
use Rattle.adapter.specs.Device.{Device}
use Rattle.refinement.specs.Fragments.{IsSimulated}
use Rattle.refinement.specs.Driver.{AllFree}
use Rattle.identify.specs.Wanted.{serial_of}
use Rattle.identify.specs.declared.wanted.Wanted.{Wanted}
use Rattle.port_boot.specs.Outcomes.{EndsReady, EndsUnready}
use Rattle.port_boot.specs.States.{BacksState, IsBootAccess}
use Rattle.host_boot.specs.TakeOver.{ReadsCapOrPi}
use Rattle.host_boot.specs.declared.Booted.{Booted}
use Rattle.host_boot.specs.declared.ProbeResult.{ProbeResult}
use Rattle.host_boot.specs.declared.ProbeResult.TheVariants.{Unserved, Ready, Unready}

-- what a boot of a stopped port promises, by what the port is found to be
abbrev pub EndsReadyOrUnready : Wanted → Port → ProbeResult → Device → Device → Type 0
EndsReadyOrUnready wanted port Unserved old new = ⊥
EndsReadyOrUnready wanted port (Ready info) old new = EndsReady (serial_of wanted) port info old new
EndsReadyOrUnready wanted port (Unready state) old new = EndsUnready (serial_of wanted) port state old new

-- CAP or PI is read, or it is an access of the port's boot
abbrev pub IsCapPiOrBootAccess : Port → Access → Type 0
IsCapPiOrBootAccess port access = ReadsCapOrPi access ⊎ IsBootAccess port access

-- The adapter was asked what it is capable of (CAP), the port was looked at, if at all, and then it was booted.
pub record RebootsPort (wanted : Wanted) (port : Port) (booted : Booted) (old new : Device) : Type 0 where
  pub device_after_survey : Device
  pub surveys : IsSimulated (IsCapPiOrBootAccess port) (λ uses. AllFree uses port.0) old device_after_survey
  pub boots : EndsReadyOrUnready wanted port booted.found device_after_survey new
  pub slot_count_is_of_cap : booted.slot_count ≡ new.cap / 256 % 32 + 1
  pub ncq_is_of_cap : booted.supports_ncq ≡ bit new.cap 30

-- A port is booted if a device shows: PxSSTS.DET is 3 where its boot begins; or it is found absent, and is left as an
-- absent one is.
abbrev pub RebootsWithDet3OrFindsAbsent : Wanted → Port → Booted → Device → Device → Type 0
RebootsWithDet3OrFindsAbsent wanted port booted old new =
    ((b : RebootsPort wanted port booted old new) × ((b.device_after_survey.port port.0).ssts_det ≡ 3))
    ⊎ ((booted.found ≡ Unready Absent) × IsSimulated (IsCapPiOrBootAccess port) (λ uses. AllFree uses port.0) old new
    × BacksState (serial_of wanted) Absent port.0 new)
