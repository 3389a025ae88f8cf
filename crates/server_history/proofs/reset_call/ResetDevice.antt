-- What the device has done in a reset that ended (this project's own; AHCI 1.3.1, 10.4.3 and 10.1.2).
use Rattle.std.specs.Prelude.{◌≡◌, ◌≢◌, List, [], Some, All, Contains, true}
use Rattle.ata_types.specs.declared.Port.{Port}
use Rattle.ata_types.specs.declared.PortState.TheVariants.{Dead, Ready}
use Rattle.ata_types.specs.declared.request.Reply.{Reply}
use Rattle.adapter.specs.Access.{Access, DoesAll}
use Rattle.block_machine.specs.Events.{Reset, WasReset}
use Rattle.block_machine.specs.Ports.{Evidence, SameSerialAndSize}
use Rattle.block_machine.specs.State.{Machine}
use Rattle.driver_history.specs.Evidence.{IsEvidencedOf}
use Rattle.driver_history.specs.Histories.{BootsAnewWhereRequired, HasAeAndIe, LosesNoPortError, RunsWellAnew, IsPortServed}
use Rattle.driver_history.specs.AccessTrace.{StaysInDriverFrames, UsesPortRegistersOf}
use Rattle.host_boot.specs.Resets.{BeginsWithReset}
use Rattle.server_history.specs.ServerState.{ServerState, ports_of}
use Rattle.server_history.specs.Turns.{joint_state_of}

-- The device's part in a reset that ended, whatever machine stands for the server. The accesses begin with the reset, and use registers of served ports alone; the adapter is on then, and
-- tells of its causes. The evidence names no fault; it names each served port as stopped, each that is dead as stuck, and each other one as lost that isn't ready with its disk.
-- Each that isn't dead was booted, and no trouble of it is lost.
pub record IsRebootedBy (s new : ServerState) (replies : List Reply) : Type 0 where
  pub accesses : List Access
  pub does : DoesAll accesses s.device new.device
  pub own : All StaysInDriverFrames accesses
  pub of : All (UsesPortRegistersOf (IsPortServed (ports_of s))) accesses
  pub begins : BeginsWithReset accesses
  pub tells : HasAeAndIe new.device
  pub evidence : Evidence
  pub faults : evidence.faults ≡ []
  pub evidenced : (m : Machine) (port : Port) → IsEvidencedOf Reset (WasReset (Some replies)) accesses (joint_state_of s m) (ports_of new) new.device evidence port
  pub stopped : (port : Port) → (ports_of s).served port ≡ true → Contains evidence.stopped port
  pub stuck_all : (port : Port) → (ports_of new).state port ≡ Dead → Contains evidence.stuck port
  pub stuck_only : (port : Port) → Contains evidence.stuck port → (ports_of new).state port ≡ Dead
  pub lost_all : (port : Port) → (ports_of s).served port ≡ true → (ports_of new).state port ≢ Dead
      → ((ports_of new).state port ≡ Ready → SameSerialAndSize (ports_of s) (ports_of new) port → ⊥) → Contains evidence.lost port
  pub boots : (m : Machine) (port : Port) → BootsAnewWhereRequired Reset (WasReset (Some replies)) accesses (joint_state_of s m) (ports_of new) new.device port
  pub port_error : (m : Machine) (port : Port) → LosesNoPortError evidence (joint_state_of s m) (ports_of new) new.device port
  pub well : (m : Machine) (port : Port) → RunsWellAnew evidence accesses (joint_state_of s m) (ports_of new) new.device port
