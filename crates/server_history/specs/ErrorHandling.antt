-- How the error of a port is handled: a command failed, its link or host bus did, its disk was lost, or its request
-- is hung; and what becomes of its requests (this project's own).
use Rattle.std.specs.Prelude.{ℕ, Bool, true, ◌≡◌, ◌≢◌, ◌⊎◌, ◌<◌, ◌≤◌, ◌++◌, List, Option, Some, None, AllPairs, IsPermutation, filter, length, map, slice_set}
use Rattle.ata_types.specs.declared.Port.{Port}
use Rattle.ata_types.specs.declared.PortState.TheVariants.{Dead as DeadState}
use Rattle.ata_types.specs.declared.request.Reply.{Reply}
use Rattle.hba_regs.specs.Bits.{bit}
use Rattle.adapter.specs.Access.{Access}
use Rattle.adapter.specs.Device.{Device}
use Rattle.block_machine.specs.declared.due.QueueMode.{QueueMode}
use Rattle.ata_types.specs.declared.Slot.{Slot}
use Rattle.error_recovery.specs.Recovery.{RecoversOrStops, TellsRecovery}
use Rattle.error_recovery.specs.declared.Next.{Next}
use Rattle.error_recovery.specs.declared.Next.TheVariants as next
use Rattle.error_recovery.specs.declared.Recovered.{Recovered}
use Rattle.host_boot.specs.Reboots.{RebootsPort, RebootsWithDet3OrFindsAbsent}
use Rattle.host_boot.specs.TakeOver.{probe_result_of, wanted_of}
use Rattle.host_boot.specs.declared.Booted.{Booted}
use Rattle.host_boot.specs.declared.ProbeResult.{ProbeResult}
use Rattle.host_boot.specs.declared.ProbeResult.TheVariants.{Ready, Unready}
use Rattle.identify.specs.declared.DiskInfo.{DiskInfo}
use Rattle.identify.specs.declared.wanted.Wanted.{Wanted}
use Rattle.ncq.specs.Masks.{ReadsDone}
use Rattle.port_control.specs.declared.Running as running_token
use Rattle.port_control.specs.PortEvents.{TakesEvent}
use Rattle.port_control.specs.declared.events.PortEvent.TheVariants as look
use Rattle.request_queue.specs.BookEntries.{BookEntry, IsEarlier, is_of_port}
use Rattle.request_queue.specs.Dispositions.{BookAndLoans, AreResolved, disposition_of}
use Rattle.request_queue.specs.declared.disposition.FailedRequest as disposition
use Rattle.request_queue.specs.declared.disposition.Revalidation.{Revalidation}
use Rattle.request_queue.specs.declared.disposition.Revalidation.TheVariants.{SameDisk, DiskLost, Dead}
use Rattle.slots.specs.SlotUses.{PortSlots, use_at}
use Rattle.slots.specs.declared.SlotUse.{SlotUse}
use Rattle.server_history.specs.IssuingAndAnswering.{AnswersEach, IsMaskOf, IssuesDueOfPort, done_reply}
use Rattle.port_control.specs.declared.events.PortError.{PortError}
use Rattle.port_control.specs.declared.events.PortError.TheVariants.{FatalError, TaskFileError, TimedOut, LinkChanged}
use Rattle.server_history.specs.ServerState.{ServerState, quarantined_at, probed_mode, slots_at, used_for}

-- ---- a port's error is handled

-- How the trouble is found. A look at the port shows that a command had failed, or the link or the host's bus, or that
-- the disk was lost. That a request is hung shows by its age, and the port isn't looked at.
abbrev pub LookTellsErrorUnlessTimedOut : Port → PortError → Device → Device → Type 0
LookTellsErrorUnlessTimedOut port TaskFileError old seen = TakesEvent port look.TaskFileError old seen
LookTellsErrorUnlessTimedOut port FatalError old seen = TakesEvent port look.FatalError old seen
LookTellsErrorUnlessTimedOut port LinkChanged old seen = TakesEvent port look.LinkChanged old seen
LookTellsErrorUnlessTimedOut port TimedOut old seen = seen ≡ old

-- nobody is named, and the port doesn't run
abbrev pub NamesNoneAndIsNotRunning : Recovered → Type 0
NamesNoneAndIsNotRunning result = (result.failed ≡ None)
    × ((token : running_token.Running) → result.next ≢ next.Running token)

-- What is known then. If a command had failed, the port was recovered. If its link or the host's bus had, if its disk
-- was lost, or if a request is hung, no request is named, and the port doesn't run.
abbrev pub TellsRecoveryIfTaskFileErrorElseNamesNone : PortError → Port → ℕ → Bool → Recovered → List Access → Device
    → Device → Type 0
TellsRecoveryIfTaskFileErrorElseNamesNone TaskFileError port outstanding queued result accesses old new =
    TellsRecovery port outstanding queued result
    accesses old new
TellsRecoveryIfTaskFileErrorElseNamesNone port_error port outstanding queued result accesses old new =
    NamesNoneAndIsNotRunning result

-- each used slot has a queued command, or each has a plain one
abbrev pub AreAllQueuedAs : Bool → PortSlots → Type 0
AreAllQueuedAs queued slots = (slot : ℕ) (used : SlotUse) → use_at slots slot ≡ Some used → used.queued ≡ queued

-- Trouble was found out. The masks were read; what was done was answered, in order of acceptance, and no slot of it is
-- in use any more; and the port's error was handled, with the commands of the other used slots outstanding. So it came
-- to this server, and then to this device.
pub record IsErrorHandled (port : Port) (old mid : ServerState) (new : Device) : Type 0 where
  pub port_error : PortError
  pub device_after_look : Device
  pub error_is_found : LookTellsErrorUnlessTimedOut port port_error old.device device_after_look
  pub mask : ℕ
  pub is_mask_of : IsMaskOf (slots_at old.slots port.0) mask
  pub done : ℕ
  pub device_after_read : Device
  pub reads_done : ReadsDone port mask done device_after_look device_after_read
  pub requests : List BookEntry
  pub ordered : AllPairs IsEarlier requests
  pub answers_each : AnswersEach port done requests (record old { device = device_after_read }) mid
  pub done_slots_are_free : (slot : ℕ) → slot < 32 → bit done slot ≡ true → used_for mid.slots port.0 slot ≡ None
  pub outstanding : ℕ
  pub outstanding_is_mask : IsMaskOf (slots_at mid.slots port.0) outstanding
  pub queued : Bool
  pub are_queued_alike : AreAllQueuedAs queued (slots_at mid.slots port.0)
  pub result : Recovered
  pub recovers_or_stops : RecoversOrStops port outstanding queued result mid.device new
  pub tells_error_handling : TellsRecoveryIfTaskFileErrorElseNamesNone port_error port outstanding queued result
      recovers_or_stops.accesses mid.device new

-- ---- what it is then

-- It is booted; one whose disk was lost only if a device shows.
abbrev pub RebootsAfterErrorOrFindsAbsent : PortError → Wanted → Port → Booted → Device → Device → Type 0
RebootsAfterErrorOrFindsAbsent LinkChanged wanted port booted old new = RebootsWithDet3OrFindsAbsent wanted port
    booted old new
RebootsAfterErrorOrFindsAbsent port_error wanted port booted old new = RebootsPort wanted port booted old new

-- What the port is found to be: what it was if it runs, what its boot has found if it has to be booted, or dead.
abbrev pub IsFoundAfterError : Wanted → Port → PortError → DiskInfo → Next → Device → Device → ProbeResult → Type 0
IsFoundAfterError wanted port port_error was (next.Running token) old new found = (found ≡ Ready was) × (new ≡ old)
IsFoundAfterError wanted port port_error was (next.Restart token) old new found = (booted : Booted)
    × (booted.found ≡ found)
    × RebootsAfterErrorOrFindsAbsent port_error wanted port booted old new
IsFoundAfterError wanted port port_error was next.Dead old new found = (found ≡ Unready DeadState) × (new ≡ old)

-- the disk has the serial number and the size of the one that was there
abbrev pub IsDiskOfSameSerialAndSize : DiskInfo → DiskInfo → Type 0
IsDiskOfSameSerialAndSize was info = (info.serial ≡ was.serial) × (info.sectors ≡ was.sectors)

-- What its requests may expect. If its disk was lost, it doesn't count that the same one is there again.
abbrev pub IsRevalidation : PortError → DiskInfo → ProbeResult → Revalidation → Type 0
IsRevalidation port_error was found SameDisk = (port_error ≢ LinkChanged)
    × ((info : DiskInfo) × (found ≡ Ready info) × IsDiskOfSameSerialAndSize was info)
IsRevalidation port_error was found DiskLost = (found ≢ Unready DeadState)
    × ((port_error ≡ LinkChanged) ⊎ ((info : DiskInfo) → found ≡ Ready info → IsDiskOfSameSerialAndSize was info → ⊥))
IsRevalidation port_error was found Dead = found ≡ Unready DeadState

-- ---- what becomes of its requests

-- the request whose command failed is that of the slot that recovery names, with status and error
abbrev pub IsFailedRequest : PortSlots → Option (Slot × ℕ × ℕ) → Option disposition.FailedRequest → Type 0
IsFailedRequest slots None failed = failed ≡ None
IsFailedRequest slots (Some its) failed =
    (used : SlotUse) × (use_at slots its.0.0 ≡ Some used)
    × (failed ≡ Some (record { id = used.id; status = its.1; error = its.2 }))

-- the port's requests, in order of acceptance
abbrev pub requests_of : Port → List BookEntry → List BookEntry
requests_of port book = filter (λ (e : BookEntry). is_of_port port e.request) book

-- what the server holds of all ports' requests, and keeps of the port's loans
abbrev pub book_and_loans_of : Port → ServerState → BookAndLoans
book_and_loans_of port s = record { book = s.book; table = s.table; kept = quarantined_at s.kept_loans port.0 }

-- no slot of the port is used, and as many are usable as its mode has
pub record HasAllSlotsFreeAndCountOfMode (mode : QueueMode) (slots : PortSlots) : Type 0 where
  pub usable_count_is_of_mode : slots.usable_count ≡ mode.usable_slots
  pub has_32_slots : length slots.slot_uses ≡ 32
  pub all_slots_are_free : (slot : ℕ) → use_at slots slot ≡ None

-- The server, with the port found so and its last disk remembered, these slots, and these holdings.
abbrev pub with_port_resolved : Port → Device → ProbeResult → DiskInfo → QueueMode → PortSlots → BookAndLoans
    → ServerState
    → ServerState
with_port_resolved port device found was mode slots now s = record s {
  device = device;
  table = now.table;
  probe_results = slice_set s.probe_results port.0 found;
  remembered = slice_set s.remembered port.0 (Some was);
  modes = slice_set s.modes port.0 mode;
  slots = slice_set s.slots port.0 slots;
  kept_loans = slice_set s.kept_loans port.0 now.kept;
  book = now.book;
}

-- The port's error was handled, and it was booted if it had to be. Then its requests were resolved: the one that failed
-- is answered with its fault, and the others by what their port is then. This leads to this server, with these replies
-- after those to what was done.
pub record HasResolved (port : Port) (later : List Reply) (old new : ServerState) : Type 0 where
  pub disk_before : DiskInfo
  pub was_ready : probe_result_of old.probe_results port.0 ≡ Ready disk_before
  pub server_after_handling : ServerState
  pub device_after_handling : Device
  pub error_handled : IsErrorHandled port old server_after_handling device_after_handling
  pub found : ProbeResult
  pub is_found_after_error : IsFoundAfterError
      (wanted_of old.wanted port.0) port error_handled.port_error disk_before error_handled.result.next
      device_after_handling
      new.device found
  pub mode : QueueMode
  pub mode_is : mode ≡ probed_mode new.device.cap found
  pub slots : PortSlots
  pub has_no_used_slot : HasAllSlotsFreeAndCountOfMode mode slots
  pub failed : Option disposition.FailedRequest
  pub failed_request_is : IsFailedRequest (slots_at server_after_handling.slots port.0) error_handled.result.failed
      failed
  pub revalidation : Revalidation
  pub is_revalidation : IsRevalidation error_handled.port_error disk_before found revalidation
  pub book_and_loans_after : BookAndLoans
  pub are_resolved : AreResolved (disposition_of failed revalidation) (requests_of port server_after_handling.book)
      later
      (book_and_loans_of port server_after_handling) book_and_loans_after
  pub server_is : new ≡ with_port_resolved port new.device found disk_before mode slots book_and_loans_after
      server_after_handling

-- ---- the whole

-- A port's turn in which trouble was found out: it was handled, its requests were resolved, and then what is due on it
-- was issued. The replies stand in order of acceptance.
pub record HandlesPortError (port : Port) (replies : List Reply) (old new : ServerState) : Type 0 where
  pub later_replies : List Reply
  pub server_after_resolving : ServerState
  pub has_resolved : HasResolved port later_replies old server_after_resolving
  pub issued : IssuesDueOfPort port server_after_resolving new
  pub replies_are : IsPermutation replies (map done_reply has_resolved.error_handled.requests ++ later_replies)
  pub ordered : AllPairs (λ (a b : Reply). a.id.0 ≤ b.id.0) replies
