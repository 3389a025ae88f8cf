-- What the ports are to clients and to the book, and what a call may make of them (this project's own).
use Rattle.std.specs.Prelude.{◌≡◌, ◌≢◌, ◌⊎◌, ◌↔◌, ℕ, ◌<◌, ◌≤◌, Bool, true, false, List, Contains}
use Rattle.ata_types.specs.declared.Port.{Port}
use Rattle.ata_types.specs.declared.PortState.{PortState}
use Rattle.ata_types.specs.declared.PortState.TheVariants.{Absent, Ready, Unfit, Dead}
use Rattle.ata_types.specs.declared.request.RequestId.{RequestId}
use Rattle.block_machine.specs.declared.due.QueueMode.{QueueMode}

-- What the ports are. Serial and sectors are those of the disk that the port is ready with, or was last ready with; the
-- two last things are known of a ready port alone.
pub record Ports : Type 0 where
  -- whether adapter and configuration have the port; one that they lack is absent for good
  pub served : Port → Bool
  pub state : Port → PortState
  -- the bytes of the disk's serial, and its size in sectors
  pub serial : Port → List ℕ
  pub sectors : Port → ℕ
  -- whether it promises zeros after a trim, and how the port takes commands with it
  pub zeroes_after_trim : Port → Bool
  pub mode : Port → QueueMode

-- A port has 1 to 32 usable slots, and one if commands aren't queued.
abbrev pub IsValidMode : QueueMode → Type 0
IsValidMode mode = (1 ≤ mode.usable_slots) × (mode.usable_slots ≤ 32) × (mode.queued ≡ false → mode.usable_slots ≡ 1)

-- What ports are between any two calls: at most four are served, and there are nine causes to be unfit. (Only the mode
-- of a ready port is known, from the disk's own page.)
pub record PortsWellFormed (ports : Ports) : Type 0 where
  pub served_are_ports_0_to_3 : (port : Port) → ports.served port ≡ true → port.0 < 4
  pub unserved_are_absent : (port : Port) → ports.served port ≡ false → ports.state port ≡ Absent
  pub modes_are_valid : (port : Port) → ports.state port ≡ Ready → IsValidMode (ports.mode port)
  pub causes_are_valid : (port : Port) (cause : ℕ) → ports.state port ≡ Unfit cause → (1 ≤ cause) × (cause ≤ 9)

-- the port is what it was
abbrev pub SamePort : Ports → Ports → Port → Type 0
SamePort old new port = (new.served port ≡ old.served port) × (new.state port ≡ old.state port)
    × (new.serial port ≡ old.serial port) × (new.sectors port ≡ old.sectors port)
    × (new.zeroes_after_trim port ≡ old.zeroes_after_trim port)
    × (new.mode port ≡ old.mode port)

-- all ports are what they were
abbrev pub SamePorts : Ports → Ports → Type 0
SamePorts old new = (port : Port) → SamePort old new port

-- the disk of the port has the serial and the size that it had: a restart takes it for the same
abbrev pub SameSerialAndSize : Ports → Ports → Port → Type 0
SameSerialAndSize old new port = (new.serial port ≡ old.serial port) × (new.sectors port ≡ old.sectors port)

-- A fault that the device reported of a request: the two bytes of the task file.
pub record RequestFault : Type 0 where
  pub id : RequestId
  pub status : ℕ
  pub error : ℕ

-- What the device vouches for in a call.
--
-- `faults`: requests, each with its two bytes as the device reported them, in the task file or in the log page that was
-- read in the call.
--
-- `lost`: ports that had N or X of PxSERR set, or a DET other than 3, when the call began; ports whose disk went or
-- came in the call; and ports that end the call neither dead nor ready with serial and size as when they were last
-- ready before it.
--
-- `link_changed`: all ports that were ready when the call began and had N or X set then, or had a DET other than 3 if
-- no disk was put in during the call. Other ports only if a disk of theirs went or came in the call, or DET was other
-- than 3.
--
-- `showing_error`: all ports that were ready when the call began and had TFES, HBDS, HBFS or IFS in PxIS then. Other
-- ports only if they came to have one in the call.
--
-- `showing_fatal_error`: the same for HBDS, HBFS and IFS.
--
-- `stopped`: ports whose CR was read 0 in the call after ST was cleared; and the served ports if the call is a reset
-- that finished.
--
-- `stuck`: ports on which a wait of the call read CR, or FR, as 1 at each of its 64 readings; and the served ports if
-- the call is a reset that the adapter didn't finish. A port may be in both of these: stopped first, and stuck later.
--
-- The layer that knows the device backs each port and fault that is named. `faults` and `lost` may leave some out. The
-- others name each port that the layer claims to handle, if they apply to it.
pub record Evidence : Type 0 where
  pub faults : List RequestFault
  pub lost : List Port
  pub link_changed : List Port
  pub showing_error : List Port
  pub showing_fatal_error : List Port
  pub stopped : List Port
  pub stuck : List Port

-- the port was stopped, or got stuck
abbrev pub IsStoppedOrStuck : Evidence → Port → Type 0
IsStoppedOrStuck evidence port = Contains evidence.stopped port ⊎ Contains evidence.stuck port

-- What a call that looks at the port, or boots it, may make of it. A port stays served or unserved. It is dead after
-- the call exactly if it got stuck in the call. If it isn't ready, it remembers the disk that it was last ready with.
pub record MayBecome (old : Ports) (evidence : Evidence) (new : Ports) (port : Port) : Type 0 where
  pub served_is_unchanged : new.served port ≡ old.served port
  pub dead_exactly_if_stuck : (new.state port ≡ Dead) ↔ Contains evidence.stuck port
  pub disk_is_remembered_unless_ready : new.state port ≢ Ready → SameSerialAndSize old new port

-- What a service may make of it: a dead port stays what it is, since a reset alone ends that;
-- another becomes what a call that looks at it may make of it, and is what it was unless it was stopped, or got stuck.
abbrev pub MayBecomeInService : Ports → Evidence → Ports → Port → Type 0
MayBecomeInService old evidence new port = (old.state port ≡ Dead → SamePort old new port)
    × (old.state port ≢ Dead → MayBecome old evidence new port
    × (SamePort old new port ⊎ IsStoppedOrStuck evidence port))

-- What a reset that was stuck makes of it: a served port is dead, for which there is evidence, and remembers its disk.
abbrev pub IsDeadAfterStuckResetIfServed : Ports → Evidence → Ports → Port → Type 0
IsDeadAfterStuckResetIfServed old evidence new port = (new.served port ≡ old.served port)
    × (old.served port ≡ true → (new.state port ≡ Dead) × Contains evidence.stuck port) × SameSerialAndSize old new port
