-- What laws of the crates below say of an adapter that is taken over, and of the machine when it is reset: the laws of
-- this crate rest on them.
use Rattle.std.specs.Prelude.{List, Some, ℕ, ◌≡◌}
use Rattle.std.specs.List.{Contains}
use Rattle.adapter.specs.Device.{Device}
use Rattle.adapter.specs.Idle.{IsIdle}
use Rattle.refinement.specs.Driver.{ParkedStayUnlessKept, HasNoSlot, DriverState, DriverRelation}
use Rattle.refinement.specs.PortFacts.{RecordsFaultsIfSt, RunsWell, Undisturbed}
use Rattle.refinement.specs.PreservedParts.{HasDet3IfDiskPresent}
use Rattle.ata_types.specs.declared.PortState.{PortState}
use Rattle.ata_types.specs.declared.request.Frame.{Frame}
use Rattle.ata_types.specs.declared.request.RequestId.{RequestId}
use Rattle.block_machine.specs.Confinement.{HasFrame}
use Rattle.block_machine.specs.Histories.{IsReachable}
use Rattle.block_machine.specs.State.{Machine, Pending}
use Rattle.block_machine.specs.Steps.{IsInBookOrKept, Release, after_step}
use Rattle.host_boot.specs.TakeOver.{FoundUnusableDevice, TakesOver, probe_result_of}
use Rattle.host_boot.specs.declared.ProbeResult.TheVariants.{Ready, Unready}
use Rattle.host_boot.specs.declared.Host.{Host}
use Rattle.identify.specs.declared.DiskInfo.{DiskInfo}
use Rattle.identify.specs.declared.wanted.Wanted.{Wanted}
use Rattle.port_boot.specs.States.{ShownDiskIsIn}
use Rattle.server_history.specs.Prerequisites.{PrerequisiteLaws}

-- what a law says of an adapter that was taken over
pub record TakeOverLaws : Type 0 where
  pub port_runs_well : (wanted : List Wanted) (host : Host) (port : ℕ) (info : DiskInfo) (old new : Device) → IsIdle old
      → TakesOver wanted host old new → probe_result_of host.ports port ≡ Ready info → Undisturbed port old new
      → RunsWell (new.port port)
  pub faults_are_on_record : (wanted : List Wanted) (host : Host) (port : ℕ) (info : DiskInfo) (old new : Device)
      → IsIdle old
      → TakesOver wanted host old new → probe_result_of host.ports port ≡ Ready info
      → RecordsFaultsIfSt new.tape (new.port port) port
  pub shown_disk_is_in : (wanted : List Wanted) (host : Host) (port : ℕ) (info : DiskInfo) (old new : Device)
      → IsIdle old
      → TakesOver wanted host old new → probe_result_of host.ports port ≡ Ready info → ShownDiskIsIn (new.port port)
  pub bad_disk_shows_if_in : (wanted : List Wanted) (host : Host) (port : ℕ) (state : PortState) (old new : Device)
      → IsIdle old
      → TakesOver wanted host old new → FoundUnusableDevice state → probe_result_of host.ports port ≡ Unready state
      → HasDet3IfDiskPresent (new.port port)

-- what laws say of an adapter that is taken over again, and of the machine meanwhile
pub record ResetLaws : Type 0 where
  pub prerequisites : PrerequisiteLaws
  pub take_over : TakeOverLaws
  pub held_frame_is_of_request : (m : Machine) (frame : Frame) (e : Pending) → IsReachable m → IsInBookOrKept m e
      → m.lent frame ≡ Some e.request.id → HasFrame e.request frame
  pub release_keeps_driver_relation : (k : DriverState) (m : Machine) (later : ℕ → List RequestId) → IsReachable m
      → DriverRelation m k
      → ((e : Pending) → Contains m.kept e → HasNoSlot k.slot_states e.request.id)
      → ParkedStayUnlessKept m k.awaiting_disposition later
      → DriverRelation (after_step m Release) (record k { awaiting_disposition = later })
