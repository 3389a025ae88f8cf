-- What holds of each port between two calls, by its state (this project's own; the registers: AHCI 1.3.1, 3.3 and 10).
use Rattle.std.specs.Prelude.{ℕ, Bool, true, false, not, ◌≡◌, ◌≢◌, ◌⊎◌, ◌↔◌, ◌&&◌, ◌+◌, ◌/◌, ◌%◌, ◌<◌, ◌≤◌, min, if◌then◌else◌, List, [], Contains}
use Rattle.ata_types.specs.declared.Port.{Port}
use Rattle.ata_types.specs.declared.PortState.{PortState}
use Rattle.ata_types.specs.declared.PortState.TheVariants.{Absent, Ready, Foreign, Unfit, Dead}
use Rattle.ata_types.specs.declared.request.RequestId.{RequestId}
use Rattle.ata_types.specs.declared.limits.TheConstants.{MOST_READINGS}
use Rattle.hba_regs.specs.Bits.{bit}
use Rattle.adapter.specs.Commands.{Meaning, is_queued}
use Rattle.adapter.specs.Device.{Device}
use Rattle.adapter.specs.Idle.{IsIdlePort}
use Rattle.adapter.specs.Rules.{IsOn}
use Rattle.refinement.specs.Acts.{DriverSlots, driver_state_of_slots}
use Rattle.refinement.specs.Driver.{AllFree, DriverRelation}
use Rattle.refinement.specs.PortFacts.{RecordsFaults}
use Rattle.refinement.specs.PreservedParts.{HasDet3IfDiskPresent}
use Rattle.refinement.specs.Slots.{SlotState, Free, Serves, SlotDecodesTo}
use Rattle.block_machine.specs.DueRequests.{is_plain}
use Rattle.block_machine.specs.Histories.{JointState}
use Rattle.block_machine.specs.Ports.{Ports}
use Rattle.block_machine.specs.State.{Pending, Machine}
use Rattle.block_machine.specs.Steps.{NoneKept}
use Rattle.block_machine.specs.declared.due.QueueMode.{QueueMode}
use Rattle.host_boot.specs.TakeOver.{wanted_of, FoundUnusableDevice, IsWantedAndImplemented}
use Rattle.identify.specs.Wanted.{serial_of}
use Rattle.identify.specs.declared.DiskInfo.{DiskInfo}
use Rattle.identify.specs.declared.wanted.Wanted.{Wanted}
use Rattle.port_boot.specs.States.{BacksState, HasFitDiskAndInterrupts}
use Rattle.port_control.specs.Ports.{programmed_bases}

-- ---- a ready port

-- How a port takes commands with this disk. If adapter and disk both queue, commands are queued, in as many slots as
-- adapter, disk and the tag's 32 values allow. Otherwise the port takes one at a time (CAP: AHCI 1.3.1, 3.1.1).
abbrev pub mode_of_disk : ℕ → DiskInfo → QueueMode
mode_of_disk cap info =
    if bit cap 30 && info.ncq then record { queued = true; usable_slots = min (cap / 256 % 32 + 1) (min info.depth 32) }
    else record { queued = false; usable_slots = 1 }

-- what the port is to clients is what its disk's page says
pub record ShowsDiskInfo (ports : Ports) (port : Port) (cap : ℕ) (info : DiskInfo) : Type 0 where
  pub serial : ports.serial port ≡ info.serial
  pub sectors : ports.sectors port ≡ info.sectors
  pub zeroes_after_trim_is : ports.zeroes_after_trim port ≡ info.trim
  pub mode : ports.mode port ≡ mode_of_disk cap info

-- The engine of a port runs, with its command list and its received FIS area in their places; a device was seen since
-- PxSCTL was written (the count of PxSSTS stays at 64 from then on, whatever is read later); the record of its faults
-- since ST was set is kept; and no link is due. (Whether the device goes well, or is there still, is no part of it.)
pub record EngineRuns (port : ℕ) (d : Device) : Type 0 where
  pub st_is_set : (d.port port).st ≡ true
  pub cr_is_set : (d.port port).cr ≡ true
  pub fre_is_set : (d.port port).fre ≡ true
  pub bases_are_programmed : (d.port port).bases ≡ programmed_bases port
  pub device_was_seen : (d.port port).notes.link_wait_count ≡ MOST_READINGS
  pub faults_are_recorded : RecordsFaults d.tape (d.port port) port

-- the slot is free, or serves a client's request
abbrev pub IsFreeOrServes : SlotState → Type 0
IsFreeOrServes u = (u ≡ Free) ⊎ ((id : RequestId) × (u ≡ Serves id))

-- the slot serves an unanswered request
pub record SlotServesUnanswered (s : DriverSlots) (i : JointState Device) (port : Port) (slot : ℕ) (e : Pending) : Type
    0 where
  pub is_in_book : Contains i.abstract.machine.book e
  pub serves : s.slot_states port.0 slot ≡ Serves e.request.id

-- the command that header and table of the slot say is queued exactly if the request isn't plain
pub record SlotCommandIsQueuedUnlessPlain (mode : QueueMode) (d : Device) (port slot : ℕ) (e : Pending) : Type 0 where
  pub command : Meaning
  pub places : List ℕ
  pub slot_decodes_to : SlotDecodesTo d.memory (d.port port).bases.clb port slot command places
  pub is_queued_if_not_plain : is_queued command.operation ≡ not (is_plain mode e.request.asked.op)

-- What the driver has in the slots of a port that runs: clients' requests alone, in usable slots, by commands of their
-- kind (of one that has ended nobody asks); a plain one is in slot 0, and alone. No request is parked.
pub record ReadySlotsInvariant (s : DriverSlots) (i : JointState Device) (port : Port) (mode : QueueMode) : Type 0 where
  pub slots_serve_clients : (slot : ℕ) → IsFreeOrServes (s.slot_states port.0 slot)
  pub unusable_are_free : (slot : ℕ) → mode.usable_slots ≤ slot → s.slot_states port.0 slot ≡ Free
  pub none_is_parked : s.awaiting_disposition port.0 ≡ []
  pub unended_commands_are_queued_as_asked : (slot : ℕ) (e : Pending) → SlotServesUnanswered s i port slot e
      → e.ended ≡ false → SlotCommandIsQueuedUnlessPlain mode i.device port.0 slot e
  pub plain_is_alone : (slot : ℕ) (e : Pending) → SlotServesUnanswered s i port slot e
      → is_plain mode e.request.asked.op ≡ true
      → (slot ≡ 0) × ((other : ℕ) → other ≢ 0 → s.slot_states port.0 other ≡ Free)

-- nothing is in the slots of a port, and nothing is parked
pub record HasAllSlotsFreeAndNoneParked (s : DriverSlots) (port : ℕ) : Type 0 where
  pub all_are_free : AllFree s.slot_states port
  pub none_is_parked : s.awaiting_disposition port ≡ []

-- no request of the port is unanswered
abbrev pub HasNoUnanswered : Machine → Port → Type 0
HasNoUnanswered m port = (e : Pending) → Contains m.book e → e.request.port ≢ port

-- A ready port runs. Its disk's last page, which came after PxSCTL was last written, is what clients get to know.
-- Clients' requests are in its slots, and no request is kept.
pub record IsReadyAt (wanted : Wanted) (s : DriverSlots) (i : JointState Device) (port : Port) : Type 0 where
  pub adapter_is_on : IsOn i.device
  pub engine_runs : EngineRuns port.0 i.device
  pub info : DiskInfo
  pub has_fit_disk : HasFitDiskAndInterrupts (serial_of wanted) port.0 i.device info
  pub shows_disk_info : ShowsDiskInfo i.abstract.ports port i.device.cap info
  pub slots_invariant : ReadySlotsInvariant s i port (i.abstract.ports.mode port)
  pub none_is_quarantined : NoneKept i.abstract.machine port

-- ---- the other states

-- An absent, unfit or foreign port is stopped, with nothing in its slots, and what was read last, or its disk's last
-- page, says why. In one with a disk a device shows, or none is in. Nobody waits for it, and no request is kept.
pub record IsStoppedAt (wanted : Wanted) (s : DriverSlots) (i : JointState Device) (port : Port)
    (state : PortState) : Type 0 where
  pub adapter_is_on : IsOn i.device
  pub backs_state : BacksState (serial_of wanted) state port.0 i.device
  pub shows_disk_if_in : FoundUnusableDevice state → HasDet3IfDiskPresent (i.device.port port.0)
  pub has_nothing_in_slots : HasAllSlotsFreeAndNoneParked s port.0
  pub has_no_unanswered : HasNoUnanswered i.abstract.machine port
  pub none_is_quarantined : NoneKept i.abstract.machine port

-- A dead port. The driver waited for its engine in vain, or the adapter isn't on, because its last reset wasn't seen to
-- finish. No request waits for it, except between such a reset and the service that answers it.
pub record IsDeadAt (wanted : Wanted) (i : JointState Device) (port : Port) : Type 0 where
  pub is_backed_or_off : BacksState (serial_of wanted) Dead port.0 i.device ⊎ (IsOn i.device → ⊥)
  pub has_no_unanswered : IsOn i.device → HasNoUnanswered i.abstract.machine port

-- A port that isn't served is idle, with nothing in its slots, and absent to clients: nobody waits for it.
pub record IsUnservedAt (s : DriverSlots) (i : JointState Device) (port : Port) : Type 0 where
  pub state_is_absent : i.abstract.ports.state port ≡ Absent
  pub port_is_idle : IsIdlePort (i.device.port port.0)
  pub has_nothing_in_slots : HasAllSlotsFreeAndNoneParked s port.0
  pub has_no_unanswered : HasNoUnanswered i.abstract.machine port
  pub none_is_quarantined : NoneKept i.abstract.machine port

-- what holds of a port, whether it is served, and in which state
abbrev pub PortStateInvariant : Wanted → DriverSlots → JointState Device → Port → Bool → PortState → Type 0
PortStateInvariant wanted s i port false state = IsUnservedAt s i port
PortStateInvariant wanted s i port true Ready = IsReadyAt wanted s i port
PortStateInvariant wanted s i port true Dead = IsDeadAt wanted i port
PortStateInvariant wanted s i port true Absent = IsStoppedAt wanted s i port Absent
PortStateInvariant wanted s i port true Foreign = IsStoppedAt wanted s i port Foreign
PortStateInvariant wanted s i port true (Unfit cause) = IsStoppedAt wanted s i port (Unfit cause)

-- ---- an instant

-- What holds at each instant of a history, of the device, the ports as clients see them, the machine, and what the
-- driver has in its slots. (A server has ports 0 to 3.)
pub record DriverInvariantWith (wanted : List Wanted) (s : DriverSlots) (i : JointState Device) : Type 0 where
  pub driver_relation : DriverRelation i.abstract.machine (driver_state_of_slots s i.device)
  pub served_iff_wanted_and_there : (port : Port) → port.0 < 4 → (i.abstract.ports.served port ≡ true)
      ↔ IsWantedAndImplemented (wanted_of wanted port.0) port.0 i.device
  pub is_on_or_served_are_dead : IsOn i.device ⊎ ((port : Port) → i.abstract.ports.served port ≡ true
      → i.abstract.ports.state port ≡ Dead)
  pub ports_hold : (port : Port) → port.0 < 4
      → PortStateInvariant (wanted_of wanted port.0) s i port (i.abstract.ports.served port)
      (i.abstract.ports.state port)

-- with something in the slots
abbrev pub DriverInvariant : List Wanted → JointState Device → Type 0
DriverInvariant wanted i = (s : DriverSlots) × DriverInvariantWith wanted s i
