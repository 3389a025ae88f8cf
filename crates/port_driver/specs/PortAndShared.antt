-- A server's port, and what it shares with the others, as they are lent to what drives the port (this project's own).
use Rattle.std.specs.Prelude.{ℕ, ◌≡◌, ◌++◌, List, [], None, slice_set}
use Rattle.ata_types.specs.declared.Port.{Port}
use Rattle.ata_types.specs.declared.request.Reply.{Reply}
use Rattle.adapter.specs.Device.{Device}
use Rattle.block_machine.specs.declared.due.QueueMode.{QueueMode}
use Rattle.host_boot.specs.TakeOver.{probe_result_of, wanted_of}
use Rattle.host_boot.specs.declared.ProbeResult.{ProbeResult}
use Rattle.host_boot.specs.declared.ProbeResult.TheVariants.{Ready, Unready, Unserved}
use Rattle.identify.specs.declared.wanted.Wanted.TheVariants.{Nothing}
use Rattle.request_queue.specs.BookEntries.{BookEntry}
use Rattle.server_history.specs.ErrorHandling.{HasAllSlotsFreeAndCountOfMode}
use Rattle.server_history.specs.ServerState.{ServerState, InvariantWithNoneDue, quarantined_at, last_disk_of, mode_at, no_slots, plain_mode, remembered_at, slots_at}
use Rattle.server_history.specs.Turns.{ProbesUnready, ServicesPort, TakesTickTurn}
use Rattle.port_driver.specs.declared.served_port.ServedPort.{ServedPort}
use Rattle.port_driver.specs.declared.served_port.Shared.{Shared}

-- the server's port of this number is this one
pub record HasPortAt (s : ServerState) (number : ℕ) (p : ServedPort) : Type 0 where
  pub wanted_is : wanted_of s.wanted number ≡ p.wanted
  pub probe_result_is : probe_result_of s.probe_results number ≡ p.probe_result
  pub remembered_is : remembered_at s.remembered number ≡ p.remembered
  pub mode_is : mode_at s.modes number ≡ p.mode
  pub slots_are : slots_at s.slots number ≡ p.slots
  pub quarantine_is : quarantined_at s.kept_loans number ≡ p.kept

-- the server has this device, and these loans and requests; and its port is this one
pub record HasPortAndShared (s : ServerState) (device : Device) (shared : Shared) (port : Port)
    (p : ServedPort) : Type 0 where
  pub device_is : s.device ≡ device
  pub table_is : s.table ≡ shared.table.value
  pub book_is : s.book ≡ shared.book
  pub port_is : HasPortAt s port.0 p

-- the server, with these in their place
abbrev pub with_served_port : ServerState → Device → Shared → Port → ServedPort → ServerState
with_served_port s device shared port p = record s {
  device = device;
  table = shared.table.value;
  wanted = slice_set s.wanted port.0 p.wanted;
  probe_results = slice_set s.probe_results port.0 p.probe_result;
  remembered = slice_set s.remembered port.0 p.remembered;
  modes = slice_set s.modes port.0 p.mode;
  slots = slice_set s.slots port.0 p.slots;
  kept_loans = slice_set s.kept_loans port.0 p.kept;
  book = shared.book;
}

-- no request of the server is due, and it has these parts
pub record HasNoneDueAndParts (s : ServerState) (device : Device) (shared : Shared) (port : Port)
    (p : ServedPort) : Type 0 where
  pub invariant_with_none_due : InvariantWithNoneDue s
  pub has_port_and_shared : HasPortAndShared s device shared port p

-- A port had such a turn, with replies that come after others; and no request of the server is due then.
pub record TakesTurn (Such : List Reply → ServerState → ServerState → Type 0) (before after : List Reply)
    (old new : ServerState) : Type 0 where
  pub new_replies : List Reply
  pub replies_are : after ≡ before ++ new_replies
  pub turn_is_taken : Such new_replies old new
  pub invariant_with_none_due : InvariantWithNoneDue new

-- A port's turn, by what it was found to be: a ready one has such a turn, and another one that is served such a one.
abbrev pub TurnByProbeResult : (Port → List Reply → ServerState → ServerState → Type 0)
    → (Port → ServerState → ServerState → Type 0) → ProbeResult → Port → List Reply → ServerState → ServerState
    → Type 0
TurnByProbeResult TurnOfReady TurnOfUnready (Ready info) port replies old new = TurnOfReady port replies old new
TurnByProbeResult TurnOfReady TurnOfUnready (Unready state) port replies old new = (replies ≡ [])
    × TurnOfUnready port old new
TurnByProbeResult TurnOfReady TurnOfUnready Unserved port replies old new = (replies ≡ []) × (new ≡ old)

-- the turn in a service: a ready port is served, and another one that is served is probed
abbrev pub ServesReadyOrProbesUnready : ProbeResult → Port → List Reply → ServerState → ServerState → Type 0
ServesReadyOrProbesUnready found port replies old new = TurnByProbeResult ServicesPort ProbesUnready found port replies
    old new

-- nothing is done of the port
abbrev pub ChangesNothing : Port → ServerState → ServerState → Type 0
ChangesNothing port old new = new ≡ old

-- and the turn in a tick, where the book was this when requests had got older
abbrev pub RestartsOverdueOrRests : ProbeResult → List BookEntry → Port → List Reply → ServerState → ServerState
    → Type 0
RestartsOverdueOrRests found book port replies old new = TurnByProbeResult
    (TakesTickTurn book) ChangesNothing found port replies old new

-- a port that there isn't
abbrev pub no_port : ServedPort
no_port = record {
  wanted = Nothing;
  probe_result = Unserved;
  remembered = None;
  mode = plain_mode;
  slots = no_slots;
  kept = [];
}

-- the port was found to be this: the disk that it was last ready with is remembered, and no slot of it is used
pub record NotesProbeResult (found : ProbeResult) (mode : QueueMode) (old new : ServedPort) : Type 0 where
  pub has_no_used_slot : HasAllSlotsFreeAndCountOfMode mode new.slots
  pub only_these_change : new ≡ record old {
    probe_result = found;
    remembered = last_disk_of old.probe_result old.remembered;
    mode = mode;
    slots = new.slots;
  }
