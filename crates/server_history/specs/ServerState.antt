-- What a server of several ports holds, and the block machine that stands for it (this project's own).
use Rattle.std.specs.Prelude.{ℕ, Bool, true, false, not, ◌≡◌, ◌≢◌, ◌↔◌, ◌+◌, ◌*◌, ◌<◌, ◌≤◌, List, [], Option, Some, None, All, AllPairs, Contains, length, slice_index_or, slice_set}
use Rattle.ata_types.specs.declared.Port.{Port}
use Rattle.ata_types.specs.declared.PortState.{PortState}
use Rattle.ata_types.specs.declared.PortState.TheVariants.{Absent, Ready as ReadyState, Dead}
use Rattle.ata_types.specs.declared.grant.GrantRow.{GrantRow}
use Rattle.ata_types.specs.declared.memory.TheConstants.{DRIVER_BYTES, DRIVER_FRAMES, FRAME_BYTES, MOST_FRAMES}
use Rattle.ata_types.specs.declared.request.ClientId.{ClientId}
use Rattle.ata_types.specs.declared.request.Frame.{Frame}
use Rattle.ata_types.specs.declared.request.RequestId.{RequestId}
use Rattle.adapter.specs.Commands.{Meaning, is_queued}
use Rattle.adapter.specs.Device.{Device}
use Rattle.adapter.specs.Rules.{IsOn, HasPort}
use Rattle.refinement.specs.Fragments.{driver_state_of}
use Rattle.refinement.specs.Driver.{DriverRelation}
use Rattle.refinement.specs.Halting.{HaltFitsTakenCommands}
use Rattle.refinement.specs.PreservedParts.{HasDet3IfDiskPresent}
use Rattle.refinement.specs.ReadySlots.{IsStoredOnPortWithStSet}
use Rattle.refinement.specs.Slots.{Free, Serves, SlotState, SlotStates}
use Rattle.block_machine.specs.DueRequests.{NoneDue, is_plain}
use Rattle.block_machine.specs.Histories.{IsReachable}
use Rattle.block_machine.specs.Expected.{IsValidRow}
use Rattle.block_machine.specs.Ports.{Ports}
use Rattle.block_machine.specs.Refusals.{AdmissionContext}
use Rattle.block_machine.specs.Rules.{DifferInName, HasRow}
use Rattle.block_machine.specs.State.{Machine, Pending}
use Rattle.block_machine.specs.declared.due.QueueMode.{QueueMode}
use Rattle.dma_frames.specs.Loan.{Lending}
use Rattle.dma_frames.specs.FrameTables.{OwnersAndLoans, owner_of, lent_to}
use Rattle.host_boot.specs.TakeOver.{FoundUnusableDevice, StillBacksProbeResult, probe_result_of, wanted_of}
use Rattle.host_boot.specs.declared.ProbeResult.{ProbeResult}
use Rattle.host_boot.specs.declared.ProbeResult.TheVariants.{Unserved, Ready, Unready}
use Rattle.host_boot.specs.declared.Host.{Host}
use Rattle.identify.specs.declared.DiskInfo.{DiskInfo}
use Rattle.identify.specs.declared.wanted.Wanted.{Wanted}
use Rattle.port_boot.specs.States.{ShownDiskIsIn}
use Rattle.request_queue.specs.BookEntries.{BookEntry, unanswered_of, entry_count_of_client, IsWellFormedEntry, BookIsWellFormed}
use Rattle.request_queue.specs.BookRelation.{BookRelation}
use Rattle.slots.specs.SlotUses.{PortSlots, use_at, with_use}
use Rattle.slots.specs.declared.SlotUse.{SlotUse}
use Rattle.driver_history.specs.PortInvariants.{EngineRuns, mode_of_disk}
use Rattle.request_queue.specs.declared.PendingRequest.{PendingRequest}

-- The device behind the adapter; the grants; by frame its owner and the request that it is lent to; by port the disk
-- that is wanted, what it was found to be, the disk that it was last ready with before its error was last handled or
-- its adapter last reset (and so while it isn't ready), how it takes commands, what its slots are used for, and what is
-- still lent to requests of it that were answered; the unanswered requests in order of acceptance, with what is lent to
-- them; and the id that was handed out last, or 0.
pub record ServerState : Type 0 where
  pub device : Device
  pub grants : List GrantRow
  pub table : OwnersAndLoans
  pub wanted : List Wanted
  pub probe_results : List ProbeResult
  pub remembered : List (Option DiskInfo)
  pub modes : List QueueMode
  pub slots : List PortSlots
  pub kept_loans : List (List Lending)
  pub book : List BookEntry
  pub last_id : ℕ

-- ---- its ports, to clients

-- it has the port
abbrev pub is_served : ProbeResult → Bool
is_served Unserved = false
is_served (Ready info) = true
is_served (Unready state) = true

-- the port's state; one that it lacks is absent
abbrev pub state_of : ProbeResult → PortState
state_of Unserved = Absent
state_of (Ready info) = ReadyState
state_of (Unready state) = state

-- which disk is remembered of a port, if any
abbrev pub remembered_at : List (Option DiskInfo) → ℕ → Option DiskInfo
remembered_at remembered port = slice_index_or remembered port None

-- the disk that a port is ready with, or was last ready with, which is the remembered one; none, if it never was
abbrev pub last_disk_of : ProbeResult → Option DiskInfo → Option DiskInfo
last_disk_of (Ready info) remembered = Some info
last_disk_of _ remembered = remembered

-- that disk's serial number, and its size in sectors
abbrev pub last_serial_of : Option DiskInfo → List ℕ
last_serial_of None = []
last_serial_of (Some info) = info.serial

-- The sectors of the disk, or 0 if there is none.
abbrev pub last_sectors_of : Option DiskInfo → ℕ
last_sectors_of None = 0
last_sectors_of (Some info) = info.sectors

-- whether its disk trims, which is known of a ready port alone
abbrev pub zeroes_after_trim_of : ProbeResult → Bool
zeroes_after_trim_of (Ready info) = info.trim
zeroes_after_trim_of _ = false

-- commands are plain, and one slot of a port is used
abbrev pub plain_mode : QueueMode
plain_mode = record { queued = false; usable_slots = 1 }

-- how the port takes commands; one that there isn't takes plain ones
abbrev pub mode_at : List QueueMode → ℕ → QueueMode
mode_at modes port = slice_index_or modes port plain_mode

-- how a port that was found so takes commands, by an adapter of these abilities (CAP): a ready one as adapter and disk
-- both can, another one at a time
abbrev pub probed_mode : ℕ → ProbeResult → QueueMode
probed_mode cap (Ready info) = mode_of_disk cap info
probed_mode cap _ = plain_mode

-- the port's mode
abbrev pub mode_in : ServerState → Port → QueueMode
mode_in s port = mode_at s.modes port.0

-- the disk that the port is ready with, or was last ready with
abbrev pub last_disk_in : ServerState → Port → Option DiskInfo
last_disk_in s port = last_disk_of (probe_result_of s.probe_results port.0) (remembered_at s.remembered port.0)

-- The ports of the server as the block machine sees them.
abbrev pub ports_of : ServerState → Ports
ports_of s = record {
  served = λ port. is_served (probe_result_of s.probe_results port.0);
  state = λ port. state_of (probe_result_of s.probe_results port.0);
  serial = λ port. last_serial_of (last_disk_in s port);
  sectors = λ port. last_sectors_of (last_disk_in s port);
  zeroes_after_trim = λ port. zeroes_after_trim_of (probe_result_of s.probe_results port.0);
  mode = mode_in s;
}

-- what a request meets
abbrev pub admission_context : ServerState → AdmissionContext
admission_context s = record {
  rows = s.grants;
  owner = owner_of s.table;
  lent = lent_to s.table;
  state = (ports_of s).state;
  sectors = (ports_of s).sectors;
  zeroes_after_trim = (ports_of s).zeroes_after_trim;
  unanswered_count = λ client. entry_count_of_client s.book client.0;
  next_id = s.last_id + 1;
}

-- ---- the machine that stands for it

-- a port that there isn't has no slot
abbrev pub no_slots : PortSlots
no_slots = record { usable_count = 0; slot_uses = [] }

-- the slots of the port
abbrev pub slots_at : List PortSlots → ℕ → PortSlots
slots_at slots port = slice_index_or slots port no_slots

-- what the slot of the port is used for
abbrev pub used_for : List PortSlots → ℕ → ℕ → Option SlotUse
used_for slots port slot = use_at (slots_at slots port) slot

-- the slots, with this one of the port used for this
abbrev pub with_slot : List PortSlots → ℕ → ℕ → Option SlotUse → List PortSlots
with_slot slots port slot used = slice_set slots port (with_use (slice_index_or slots port no_slots) slot used)

-- it serves its request, or is free
abbrev pub slot_state_of_use : Option SlotUse → SlotState
slot_state_of_use None = Free
slot_state_of_use (Some used) = Serves used.id

-- A slot is used as the server has it, unless its port is dead: there an engine was awaited in vain, or the adapter
-- isn't on, so that what was in the slot may be there still, and nobody asks for it until the adapter is reset.
abbrev pub SlotStateAgreesUnlessDead : ProbeResult → Option SlotUse → SlotState → Type 0
SlotStateAgreesUnlessDead found used u = found ≢ Unready Dead → u ≡ slot_state_of_use used

-- so each slot of each port agrees
abbrev pub SlotStatesAgreeUnlessDead : ServerState → SlotStates → Type 0
SlotStatesAgreeUnlessDead s uses = (port slot : ℕ)
    → SlotStateAgreesUnlessDead (probe_result_of s.probe_results port) (used_for s.slots port slot) (uses port slot)

-- the loans of the port that are kept
abbrev pub quarantined_at : List (List Lending) → ℕ → List Lending
quarantined_at kept port = slice_index_or kept port []

-- the loan is the request's
abbrev pub IsLoanOf : Lending → Pending → Type 0
IsLoanOf loan e = (loan.request ≡ e.request.id) × (loan.frames ≡ e.request.asked.frames.items)

-- the loans are of two requests
abbrev pub DifferInRequest : Lending → Lending → Type 0
DifferInRequest a b = a.request ≢ b.request

-- The machine's kept requests are those whose loans the server keeps, one loan each, on dead ports alone.
pub record KeptRequestsRelation (found : List ProbeResult) (kept : List (List Lending))
    (requests : List Pending) : Type 0 where
  pub quarantine_ports_are_dead : (e : Pending) → Contains requests e → probe_result_of found e.request.port.0
      ≡ Unready Dead
  pub each_request_has_its_loan : (e : Pending) → Contains requests e → (loan : Lending)
      × Contains (quarantined_at kept e.request.port.0) loan
      × IsLoanOf loan e
  pub each_loan_has_its_request : (port : ℕ) (loan : Lending) → Contains (quarantined_at kept port) loan
      → (e : Pending) × Contains requests e × (e.request.port.0 ≡ port) × IsLoanOf loan e
  pub loans_differ_in_request : (port : ℕ) → AllPairs DifferInRequest (quarantined_at kept port)

-- The machine agrees with what the server knows of its device. Only a dead port's requests may have been taken from
-- their slots. The machine has the server's book, the requests whose loans it keeps, its grants, its owners, its loans
-- and its next id.
pub record MachineRelation (s : ServerState) (m : Machine) : Type 0 where
  pub uses : SlotStates
  pub slot_states_agree_unless_dead : SlotStatesAgreeUnlessDead s uses
  pub awaiting_disposition : ℕ → List RequestId
  pub only_dead_ports_park : (port : ℕ) → probe_result_of s.probe_results port ≢ Unready Dead
      → awaiting_disposition port ≡ []
  pub driver_relation : DriverRelation m (driver_state_of uses awaiting_disposition s.device)
  pub book : BookRelation s.book m.book
  pub quarantine_relation : KeptRequestsRelation s.probe_results s.kept_loans m.kept
  pub rows : m.rows ≡ s.grants
  pub owner : (frame : Frame) → m.owner frame ≡ owner_of s.table frame
  pub lent : (frame : Frame) → m.lent frame ≡ lent_to s.table frame
  pub next_id_is : m.next_id ≡ s.last_id + 1

-- ---- what holds of a server between calls

-- the loan's frames are lent to its request
abbrev pub IsLentOut : OwnersAndLoans → Lending → Type 0
IsLentOut table loan = All (λ f. lent_to table f ≡ Some loan.request) loan.frames

-- frames that have an owner are clients' frames of the memory
abbrev pub OwnedFramesAreClientsAndInMemory : OwnersAndLoans → ℕ → Type 0
OwnedFramesAreClientsAndInMemory table size = (frame : Frame) (client : ClientId) → owner_of table frame ≡ Some client
    → (DRIVER_FRAMES ≤ frame.0) × (FRAME_BYTES * frame.0 + FRAME_BYTES ≤ size)

-- What stands behind each port, as it was found. A ready one runs, has a disk in if it shows one, and doesn't wait for
-- READ LOG EXT; if a queued command halted it, a queued one is taken. One with a disk that isn't served shows a device,
-- or has none in.
pub record PortInvariant (wanted : List Wanted) (found : List ProbeResult) (port : ℕ) (d : Device) : Type 0 where
  pub probe_result_is_backed : StillBacksProbeResult (wanted_of wanted port) (probe_result_of found port) port d
  pub ready_engine_runs : state_of (probe_result_of found port) ≡ ReadyState → EngineRuns port d
  pub bad_disk_is_shown_if_in : FoundUnusableDevice (state_of (probe_result_of found port))
      → HasDet3IfDiskPresent (d.port port)
  pub ready_has_disk_if_det_3 : state_of (probe_result_of found port) ≡ ReadyState → ShownDiskIsIn (d.port port)
  pub ready_halt_fits_taken_commands : state_of (probe_result_of found port) ≡ ReadyState
      → HaltFitsTakenCommands (d.port port)

-- how many slots of a port may be used: those of its mode, if it is ready
abbrev pub usable_slots_of : ProbeResult → QueueMode → ℕ
usable_slots_of (Ready info) mode = mode.usable_slots
usable_slots_of _ mode = 0

-- The port may use this many of its 32 slots, and uses no other.
pub record SlotsInvariant (found : List ProbeResult) (modes : List QueueMode) (slots : List PortSlots)
    (port : ℕ) : Type 0 where
  pub has_32_slots : length (slots_at slots port).slot_uses ≡ 32
  pub usable_count_is_of_mode : (slots_at slots port).usable_count ≡ (mode_at modes port).usable_slots
  pub unusable_are_unused : (slot : ℕ) → usable_slots_of (probe_result_of found port) (mode_at modes port) ≤ slot
      → used_for slots port slot ≡ None

-- header and table of a slot of a port that runs say a command that is queued, or one that isn't
pub record HasStoredCommand (queued : Bool) (d : Device) (port slot : ℕ) : Type 0 where
  pub command : Meaning
  pub places : List ℕ
  pub stored : IsStoredOnPortWithStSet d port slot command places
  pub is_queued_as_given : is_queued command.operation ≡ queued

-- the slot is slot 0, and no other one of the port is used
abbrev pub IsLoneSlot0 : List PortSlots → ℕ → ℕ → Type 0
IsLoneSlot0 slots port slot = (slot ≡ 0) × ((other : ℕ) → other ≢ 0 → used_for slots port other ≡ None)

-- a request has no mark just while its grant is there
abbrev pub RevokedMarkAgrees : List GrantRow → PendingRequest → Type 0
RevokedMarkAgrees rows r = (r.revoked ≡ false) ↔ HasRow r.client r.grant rows

-- so it is of each, and one that waits has none
pub record RevokedMarkInvariant (rows : List GrantRow) (e : BookEntry) : Type 0 where
  pub revoked_mark_agrees : RevokedMarkAgrees rows e.request
  pub waiting_is_unmarked : e.request.issued ≡ false → e.request.revoked ≡ false

-- What holds of a server at each moment of a call. The adapter is on and has the memory of the driver and of the
-- clients, and each port that is served. Each port is as it was found, and runs if that was ready. For each of the four
-- ports a disk may be remembered, and at most 32 loans may be kept. Ports take commands as adapter and disk can, and
-- use the slots that they may, for queued commands or for plain ones; a plain one is alone in slot 0. Grants are as a
-- configuration may give them. Requests are as they were accepted, in order, with marks that say whether their grants
-- are there, and belong to ready ports. Some machine that a history leads to stands for the server.
pub record InCallInvariant (s : ServerState) : Type 0 where
  pub adapter_is_on : IsOn s.device
  pub driver_memory_fits : DRIVER_BYTES ≤ s.device.memory_size
  pub served_ports_exist : (port : ℕ) → is_served (probe_result_of s.probe_results port) ≡ true → HasPort s.device port
  pub port_invariant : (port : ℕ) → port < 4 → PortInvariant s.wanted s.probe_results port s.device
  pub slots_are_of_four_ports : length s.slots ≡ 4
  pub modes_are_of_four_ports : length s.modes ≡ 4
  pub remembered_is_of_four_ports : length s.remembered ≡ 4
  pub kept_loans_are_of_four_ports : length s.kept_loans ≡ 4
  pub at_most_32_loans_kept_by_port : (port : ℕ) → length (quarantined_at s.kept_loans port) ≤ 32
  pub modes_are_probed : (port : ℕ) → port < 4
      → mode_at s.modes port ≡ probed_mode s.device.cap (probe_result_of s.probe_results port)
  pub slots_invariant : (port : ℕ) → port < 4 → SlotsInvariant s.probe_results s.modes s.slots port
  pub slots_queue_as_asked : (port : Port) (slot : ℕ) (used : SlotUse) (e : BookEntry) → used_for s.slots port.0 slot
      ≡ Some used
      → Contains s.book e → e.request.id ≡ used.id → used.queued ≡ not (is_plain (mode_in s port) e.request.op)
  pub slots_store_commands : (port slot : ℕ) (used : SlotUse) → used_for s.slots port slot ≡ Some used
      → HasStoredCommand used.queued s.device port slot
  pub plain_is_alone_in_slot_0 : (port slot : ℕ) (used : SlotUse) → used_for s.slots port slot ≡ Some used → used.queued
      ≡ false
      → IsLoneSlot0 s.slots port slot
  pub rows_are_valid : All IsValidRow s.grants
  pub owned_frames_are_clients : OwnedFramesAreClientsAndInMemory s.table s.device.memory_size
  pub entries_are_well_formed : All (IsWellFormedEntry s.table) s.book
  pub book_is_well_formed : BookIsWellFormed s.book
  pub revoked_marks_agree : All (RevokedMarkInvariant s.grants) s.book
  pub ids_were_handed_out : All (λ e. e.request.id.0 ≤ s.last_id) s.book
  pub requests_are_of_ready_ports : All (λ e. state_of (probe_result_of s.probe_results e.request.port.0) ≡ ReadyState)
      s.book
  pub machine : Machine
  pub reached : IsReachable machine
  pub machine_relation : MachineRelation s machine

-- Between calls each request is issued that is due.
pub record InvariantWithNoneDue (s : ServerState) : Type 0 where
  pub in_call_invariant : InCallInvariant s
  pub none_is_due : (port : Port) → NoneDue (mode_in s port) (unanswered_of s.book) port

-- A server as it is made: what was found and wanted of four ports, of which it remembers nothing else, at most 64
-- grants that differ in name, owners that are clients 1 to 8, no frame lent, nothing asked or kept, and no id given
-- out.
pub record IsNewServer (host : Host) (s : ServerState) : Type 0 where
  pub probe_results_are_of_host : s.probe_results ≡ host.ports
  pub host_has_four_ports : length host.ports ≡ 4
  pub remembered_is_of_four_ports : length s.remembered ≡ 4
  pub no_disk_is_remembered : (port : ℕ) → remembered_at s.remembered port ≡ None
  pub kept_loans_are_of_four_ports : length s.kept_loans ≡ 4
  pub no_loan_is_kept : (port : ℕ) → quarantined_at s.kept_loans port ≡ []
  pub rows_are_valid : All IsValidRow s.grants
  pub grants_differ_in_name : AllPairs DifferInName s.grants
  pub at_most_64_grants : length s.grants ≤ 64
  pub owned_frames_are_clients : OwnedFramesAreClientsAndInMemory s.table s.device.memory_size
  pub owners_are_clients : (frame : Frame) (client : ClientId) → owner_of s.table frame ≡ Some client → (1 ≤ client.0)
      × (client.0 ≤ 8) × (frame.0 < MOST_FRAMES)
  pub driver_memory_fits : DRIVER_BYTES ≤ s.device.memory_size
  pub no_frame_is_lent : (frame : Frame) → lent_to s.table frame ≡ None
  pub slots_are_of_four_ports : length s.slots ≡ 4
  pub modes_are_of_four_ports : length s.modes ≡ 4
  pub has_32_slots : (port : ℕ) → port < 4 → length (slots_at s.slots port).slot_uses ≡ 32
  pub modes_are_probed : (port : ℕ) → port < 4
      → mode_at s.modes port ≡ probed_mode s.device.cap (probe_result_of s.probe_results port)
  pub usable_count_is_of_mode : (port : ℕ) → port < 4
      → (slots_at s.slots port).usable_count ≡ (mode_at s.modes port).usable_slots
  pub no_slot_is_used : (port slot : ℕ) → used_for s.slots port slot ≡ None
  pub book_is_empty : s.book ≡ []
  pub no_id_was_handed_out : s.last_id ≡ 0
