-- A port's slots and the book, as they are lent to what issues and answers (this project's own).
use Rattle.std.specs.Prelude.{ℕ, true, false, ◌≡◌, ◌⊎◌, ◌+◌, ◌^◌, ◌<◌, ◌≤◌, ◌++◌, List, AllPairs, None, map, slice_set}
use Rattle.ata_types.specs.declared.Port.{Port}
use Rattle.ata_types.specs.declared.PortState.TheVariants.{Ready}
use Rattle.ata_types.specs.declared.request.Frame.{Frame}
use Rattle.ata_types.specs.declared.request.Op.TheVariants.{Trim, Flush}
use Rattle.ata_types.specs.declared.request.Reply.{Reply}
use Rattle.hba_regs.specs.Bits.{bit}
use Rattle.adapter.specs.Device.{Device}
use Rattle.adapter.specs.OneCommand.{SlotHasNoCommand}
use Rattle.block_machine.specs.declared.due.QueueMode.{QueueMode}
use Rattle.dma_frames.specs.FrameTables.{OwnersAndLoans}
use Rattle.host_boot.specs.TakeOver.{probe_result_of}
use Rattle.host_boot.specs.declared.ProbeResult.{ProbeResult}
use Rattle.ncq.specs.Tasks.{IsFitTransfer, IsReadOrWrite}
use Rattle.ncq.specs.declared.tasks.Task.{Task}
use Rattle.request_queue.specs.BookEntries.{BookEntry, IsEarlier}
use Rattle.server_history.specs.IssuingAndAnswering.{AnswersEach, AnswersOne, done_reply}
use Rattle.server_history.specs.ServerState.{ServerState, InCallInvariant, mode_in, slots_at, state_of, used_for}
use Rattle.slots.specs.SlotUses.{PortSlots}

-- the server keeps what it keeps, and has this device, this book, and these slots of a port that was found so and has
-- this mode
pub record HasPortToIssue (s : ServerState) (device : Device) (book : List BookEntry) (slots : PortSlots) (port : Port)
    (mode : QueueMode)
    (found : ProbeResult) : Type 0 where
  pub in_call_invariant : InCallInvariant s
  pub probe_result_is : probe_result_of s.probe_results port.0 ≡ found
  pub device_is : s.device ≡ device
  pub book_is : s.book ≡ book
  pub slots_are : slots_at s.slots port.0 ≡ slots
  pub mode_is : mode_in s port ≡ mode

-- the server, with these in their place
abbrev pub with_port_slots : ServerState → Device → List BookEntry → PortSlots → Port → ServerState
with_port_slots s device book slots port =
    record s { device = device; slots = slice_set s.slots port.0 slots; book = book }

-- The server keeps what it keeps, and has these loans, this book, and these slots of a port that is ready. The commands
-- of the slots that have their bits set here are over.
pub record HasPortToAnswer (s : ServerState) (table : OwnersAndLoans) (book : List BookEntry) (slots : PortSlots)
    (port : Port)
    (done : ℕ) : Type 0 where
  pub in_call_invariant : InCallInvariant s
  pub ready : state_of (probe_result_of s.probe_results port.0) ≡ Ready
  pub table_is : s.table ≡ table
  pub book_is : s.book ≡ book
  pub slots_are : slots_at s.slots port.0 ≡ slots
  pub over : (slot : ℕ) → slot < 32 → bit done slot ≡ true → SlotHasNoCommand (s.device.port port.0) slot

-- the server, with these in their place
abbrev pub with_answers : ServerState → OwnersAndLoans → List BookEntry → PortSlots → Port → ServerState
with_answers s table book slots port = record s { table = table; slots = slice_set s.slots port.0 slots; book = book }

-- the request of this slot was answered by this reply
pub record AnswersSlot (port : Port) (slot : ℕ) (reply : Reply) (old new : ServerState) : Type 0 where
  pub request : BookEntry
  pub answers : AnswersOne port request old new
  pub slot_is : answers.slot ≡ slot
  pub reply_is : reply ≡ done_reply request

-- What was found done was answered, in order of acceptance, by replies that came after others; and no slot of it is in
-- use any more.
pub record AnswersDoneSlots (port : Port) (done : ℕ) (before after : List Reply) (old new : ServerState) : Type 0 where
  pub requests : List BookEntry
  pub replies_are_appended : after ≡ before ++ map done_reply requests
  pub ordered : AllPairs IsEarlier requests
  pub answers_each : AnswersEach port done requests old new
  pub done_slots_are_free : (slot : ℕ) → slot < 32 → bit done slot ≡ true → used_for new.slots port.0 slot ≡ None

-- ---- tasks

-- The task may be issued in the slot: a transfer has its frames; a trim names 1 to 4,194,240 sectors, each below 2^48
-- (64 entries of 65,535 in its block); and a trim and a flush aren't queued, and go in slot 0.
pub record FitsSlot (task : Task) (frames : List Frame) (slot : ℕ) : Type 0 where
  pub transfer_fits_frames : IsReadOrWrite task.op → IsFitTransfer task frames
  pub trim_range_is_allowed : task.op ≡ Trim → (1 ≤ task.range.count) × (task.range.count ≤ 4194240)
      × (task.range.first.0 + task.range.count ≤ 2 ^ 48)
  pub trim_and_flush_are_plain_in_slot_0 : (task.op ≡ Trim) ⊎ (task.op ≡ Flush) → (slot ≡ 0) × (task.queued ≡ false)
