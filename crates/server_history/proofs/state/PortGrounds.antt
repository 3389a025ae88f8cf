-- What stands behind a port goes on.
use Rattle.std.proofs.Common.{ℕ, ◌≡◌, ◌≢◌, ap}
use Rattle.ata_types.specs.declared.PortState.TheVariants.{Dead}
use Rattle.adapter.specs.Device.{Device}
use Rattle.adapter.specs.declared.command.Operation.TheVariants.{Identify}
use Rattle.refinement.specs.Fragments.{OnlyDeviceChangesPort, GainsNoMove}
use Rattle.refinement.specs.PreservedParts.{SameAdapter}
use Rattle.host_boot.specs.TakeOver.{KeepsWhatBacksProbeResult, StillBacksProbeResult}
use Rattle.host_boot.specs.declared.ProbeResult.{ProbeResult}
use Rattle.host_boot.specs.declared.ProbeResult.TheVariants.{Unserved, Ready, Unready}
use Rattle.identify.specs.declared.DiskInfo.{DiskInfo}
use Rattle.identify.specs.declared.wanted.Wanted.{Wanted}
use Rattle.server_history.specs.Prerequisites.{PrerequisiteLaws}

-- the port is left to the device
pub left_on : PrerequisiteLaws → (wanted : Wanted) (found : ProbeResult) (port : ℕ) (old new : Device) → SameAdapter old new → OnlyDeviceChangesPort (old.port port) (new.port port)
    → (found ≢ Unready Dead → GainsNoMove port Identify old new) → StillBacksProbeResult wanted found port old → StillBacksProbeResult wanted found port new
left_on laws wanted found port old new same l silent s = laws.recovery.backing_goes_on wanted found port old new same (enough found) silent s
  where
    enough : (f : ProbeResult) → KeepsWhatBacksProbeResult f (old.port port) (new.port port)
    enough Unserved = l
    enough (Ready info) = (l.controls.sctl_det_is_kept, l.controls.ie_is_kept, ap (λ n. n.sctl_written_at) l.notes)
    enough (Unready state) = l

-- it is ready, and neither PxSCTL nor PxIE is written
pub ready_on : PrerequisiteLaws → (wanted : Wanted) (info : DiskInfo) (port : ℕ) (old new : Device) → SameAdapter old new → (new.port port).sctl_det ≡ (old.port port).sctl_det
    → (new.port port).ie ≡ (old.port port).ie
    → (new.port port).notes.sctl_written_at ≡ (old.port port).notes.sctl_written_at → GainsNoMove port Identify old new
    → StillBacksProbeResult wanted (Ready info) port old → StillBacksProbeResult wanted (Ready info) port new
ready_on laws wanted info port old new same det_is ie_is written silent s = laws.recovery.backing_goes_on wanted (Ready info) port old new same (det_is, ie_is, written) (λ other. silent) s
