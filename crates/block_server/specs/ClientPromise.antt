-- What the calls of a list are to clients (this project's own).
use Rattle.std.specs.Prelude.{ℕ, Bool, true, false, ◌≡◌, ◌⊎◌, ◌↔◌, ◌<◌, List, [], ◌∷◌, ◌++◌, Option, map, reverse}
use Rattle.ata_types.specs.declared.Port.{Port}
use Rattle.ata_types.specs.declared.PortState.{PortState}
use Rattle.ata_types.specs.declared.PortState.TheVariants.{Absent, Ready, Dead}
use Rattle.ata_types.specs.declared.grant.GrantRow.{GrantRow}
use Rattle.ata_types.specs.declared.request.ClientId.{ClientId}
use Rattle.ata_types.specs.declared.request.Frame.{Frame}
use Rattle.ata_types.specs.declared.request.RequestId.{RequestId}
use Rattle.adapter.specs.Device.{Device, Disk}
use Rattle.adapter.specs.Rules.{IsOn}
use Rattle.adapter.specs.declared.access.DeviceStep.{DeviceStep}
use Rattle.adapter.specs.declared.tape.Entry.{Entry}
use Rattle.refinement.specs.Relation.{IsDiskOf, SameClientFrames, SameSectors}
use Rattle.refinement.specs.Tape.{PortPlugsPutInDisks, TellsDeviceSteps}
use Rattle.block_machine.specs.Events.{AbstractCall, AbstractCallResult, EveryReadHoldsExpected, EmptyUnlessReady, IsRun, steps_of}
use Rattle.block_machine.specs.Histories.{JointEvent, JointState, events_of, joint_state_after}
use Rattle.durability.specs.Durable.{EveryReplugFindsFlushedOrLater}
use Rattle.driver_history.specs.PortInvariants.{ShowsDiskInfo}
use Rattle.driver_history.specs.ConfinedMoves.{ConfinesCallMovesAndClears}
use Rattle.host_boot.specs.TakeOver.{IsWantedAndImplemented, wanted_of}
use Rattle.identify.specs.Wanted.{serial_of}
use Rattle.identify.specs.declared.DiskInfo.{DiskInfo}
use Rattle.identify.specs.declared.wanted.Wanted.{Wanted}
use Rattle.port_boot.specs.States.{BacksState, HasFitDiskAndInterrupts}

-- Each of these calls, the newest first, which came after that history, is of this kind.
abbrev pub HoldsOfEachAdded : {X : Type 0} → (List X → X → Type 0) → List X → List X → Type 0
HoldsOfEachAdded Is past [] = Unit {0}
HoldsOfEachAdded Is past (h ∷ added) = HoldsOfEachAdded Is past added × Is (added ++ past) h

-- What can be seen of a server: the device behind its adapter, the disks that are wanted in its ports, its grants, by
-- frame the owner and the request that it is lent to, and the states of its ports.
pub record ObservedState : Type 0 where
  pub device : Device
  pub wanted : List Wanted
  pub rows : List GrantRow
  pub owner : Frame → Option ClientId
  pub lent : Frame → Option RequestId
  pub state : Port → PortState

-- so the server is seen at the instant
pub record IsSeenAt (v : ObservedState) (i : JointState Device) : Type 0 where
  pub device_is : i.device ≡ v.device
  pub rows : i.abstract.machine.rows ≡ v.rows
  pub owner : (frame : Frame) → i.abstract.machine.owner frame ≡ v.owner frame
  pub lent : (frame : Frame) → i.abstract.machine.lent frame ≡ v.lent frame
  pub state : (port : Port) → i.abstract.ports.state port ≡ v.state port

-- ---- between two calls

-- Why a port is in its state. One that isn't served is absent. For a ready one the adapter is on, and the page that its
-- disk sent last, since PxSCTL was last written, fits what is wanted. The page also says how many sectors there are,
-- and what else requests are checked by. Absent, unfit and foreign ones are stopped, because of what was read last or
-- because of that page. For a dead one the driver waited for an engine in vain, or the adapter isn't on, because its
-- last reset wasn't seen to finish (PxSSTS, PxTFD, PxSIG, PxCMD: AHCI 1.3.1, 3.3; IDENTIFY DEVICE: ACS-3, 7.12).
abbrev pub PortStateIsJustified : Wanted → JointState Device → Port → Bool → PortState → Type 0
PortStateIsJustified wanted i p false state = state ≡ Absent
PortStateIsJustified wanted i p true Ready = IsOn i.device × (info : DiskInfo)
    × HasFitDiskAndInterrupts (serial_of wanted) p.0 i.device info
    × ShowsDiskInfo i.abstract.ports p i.device.cap info
PortStateIsJustified wanted i p true Dead = BacksState (serial_of wanted) Dead p.0 i.device ⊎ (IsOn i.device → ⊥)
PortStateIsJustified wanted i p true state = BacksState (serial_of wanted) state p.0 i.device

-- What holds between two calls. Of ports 0 to 3 those are served in which a disk is wanted and which the adapter has.
-- Each is in its state for a reason. On one that isn't ready no request waits, unless the adapter isn't on. Clients'
-- frames hold what the machine's do. The disk of each port is the machine's disk, and if the adapter's disks have
-- specified contents, both hold the same.
pub record ClientPromiseInvariant (wanted : List Wanted) (i : JointState Device) : Type 0 where
  pub served_iff_wanted_and_there : (p : Port) → p.0 < 4 → (i.abstract.ports.served p ≡ true)
      ↔ IsWantedAndImplemented (wanted_of wanted p.0) p.0 i.device
  pub states_are_justified : (p : Port) → p.0 < 4
      → PortStateIsJustified (wanted_of wanted p.0) i p (i.abstract.ports.served p) (i.abstract.ports.state p)
  pub unready_have_none_while_on : (p : Port) → p.0 < 4 → IsOn i.device → EmptyUnlessReady i.abstract p
  pub client_frames_are_same : SameClientFrames i.abstract.machine i.device.memory
  pub disks_are_same : (port : ℕ) → IsDiskOf i.abstract.machine (i.device.port port) port
  pub sectors_are_same_if_disks_tell : i.device.disks_tell_sectors ≡ true → (port : ℕ)
      → SameSectors i.abstract.machine (i.device.port port).disk port

-- ---- the promise

-- The device steps of the call are those on its tape, one by one. What moved, was cleared or ended belongs to a request
-- that was issued then, or kept. A move has a sector of that request, to or from the sector's place in a frame that was
-- lent to it. The disks that were put in are the device's. After the call what holds between calls holds.
pub record MatchesTape (wanted : List Wanted) (first : JointState Device) (past : List (JointEvent Device DeviceStep))
    (h : JointEvent Device DeviceStep) : Type 0 where
  pub new_entries : List Entry
  pub tape_is : h.device.tape ≡ (joint_state_after first past).device.tape ++ new_entries
  pub tells_device_steps : TellsDeviceSteps (joint_state_after first past).abstract.machine new_entries h.event.steps
  pub plugged_disks_match_steps : (p : ℕ) → (disks : List Disk) × PortPlugsPutInDisks p disks h.event.steps
      × ((h.device.port p).plug_history ≡ ((joint_state_after first past).device.port p).plug_history ++ disks)
  pub invariant_holds : ClientPromiseInvariant wanted (joint_state_after first (h ∷ past))

-- The promise to clients about calls, the newest first, that asked this and said that, one after another, after a
-- history that begins where the server was made. With these calls the history is a run of the block machine, which
-- leads to the server as it is seen after them. In it each read that was answered Ok has what was left, if the
-- adapter's disks have specified contents. The device stands behind its steps in each of the calls. What holds between
-- calls holds before and after each, and the disks that are wanted stay the same.
pub record MeetsClientPromise (first : JointState Device) (past added : List (JointEvent Device DeviceStep))
    (old new : ObservedState) (asked : List (AbstractCall DeviceStep)) (said : List AbstractCallResult) : Type 0 where
  pub calls_are : map (λ h. h.event.call) (reverse added) ≡ asked
  pub results_are : map (λ h. h.event.result) (reverse added) ≡ said
  pub wanted_is_unchanged : new.wanted ≡ old.wanted
  pub starts_at : IsSeenAt old (joint_state_after first past)
  pub ends_at : IsSeenAt new (joint_state_after first (added ++ past))
  pub is_run : IsRun first.abstract (events_of (added ++ past))
  pub reads_hold_if_disks_tell : first.device.disks_tell_sectors ≡ true
      → EveryReadHoldsExpected first.abstract (events_of (added ++ past))
  pub invariant_at_start : ClientPromiseInvariant old.wanted (joint_state_after first past)
  pub matches_tape : HoldsOfEachAdded (MatchesTape new.wanted first) past added

-- What is promised of moves of data, which follows: in each of these calls moves and clears keep to their places, of
-- requests that were accepted when they broke no rule.
abbrev pub ConfinesMovesAndTrimClears : JointState Device → List (JointEvent Device DeviceStep)
    → List (JointEvent Device DeviceStep) → Type 0
ConfinesMovesAndTrimClears first past added = HoldsOfEachAdded
    (λ before h. ConfinesCallMovesAndClears first.abstract.machine
    (steps_of (events_of before))
    h.event.steps (joint_state_after first before).device h.device) past added

-- The promise to clients about disks that are pulled out. Consider a write or trim that was answered Ok before a flush
-- of its port was accepted, and let the flush be answered Ok, too. Let its disk be in from the acceptance of the write
-- to the answer of the flush, and let no other disk be put in since. If that disk comes back, and the adapter's disks
-- have specified contents, then each sector of the write has the bytes that the write put there, or those of a write or
-- trim that was accepted later.
pub record FlushesSurviveReplugIfDisksTell (first : JointState Device) (calls : List
    (JointEvent Device DeviceStep)) : Type 0 where
  pub plugs_find_flushed_if_disks_tell : first.device.disks_tell_sectors ≡ true
      → EveryReplugFindsFlushedOrLater first.abstract.machine (steps_of (events_of calls))
