-- What contracts see of a server.
use Rattle.std.specs.Prelude.{ℕ, Bool, List, Option}
use Rattle.ata_types.specs.declared.grant.GrantRow.{GrantRow}
use Rattle.adapter.specs.Device.{Device}
use Rattle.block_machine.specs.declared.due.QueueMode.{QueueMode}
use Rattle.dma_frames.specs.Loan.{Lending}
use Rattle.dma_frames.specs.FrameTables.{OwnersAndLoans, lent_to, owner_of}
use Rattle.host_boot.specs.TakeOver.{probe_result_of}
use Rattle.host_boot.specs.declared.ProbeResult.{ProbeResult}
use Rattle.identify.specs.declared.DiskInfo.{DiskInfo}
use Rattle.identify.specs.declared.wanted.Wanted.{Wanted}
use Rattle.request_queue.specs.BookEntries.{BookEntry}
use Rattle.server_history.specs.ServerState.{ServerState, state_of}
use Rattle.slots.specs.SlotUses.{PortSlots}
use Rattle.block_server.specs.ClientPromise.{ObservedState}

-- The parts of a server, as lists by port, by frame and by request.
pub record ServerView (A : Type 0) : Type 0 where
  pub adapter : A
  -- the grants, and by frame its owner and the request that it is lent to
  pub grants : List GrantRow
  pub table : OwnersAndLoans
  -- by port, the disk that is wanted, what it was found to be, which disk it was ready with before that, how it takes
  -- commands, what its slots are used for, and what is still lent to requests of it that were answered
  pub wanted : List Wanted
  pub probe_results : List ProbeResult
  pub remembered : List (Option DiskInfo)
  pub modes : List QueueMode
  pub slots : List PortSlots
  pub kept : List (List Lending)
  -- the unanswered requests of all ports, in order of acceptance
  pub book : List BookEntry
  -- the id that was handed out last, or 0
  pub last_id : ℕ
  -- whether the last reset got stuck
  pub stuck : Bool

-- what its histories see
abbrev pub server_of : {A : Type 0} → (A → Device) → ServerView A → ServerState
server_of device s = record {
  device = device s.adapter;
  grants = s.grants;
  table = s.table;
  wanted = s.wanted;
  probe_results = s.probe_results;
  remembered = s.remembered;
  modes = s.modes;
  slots = s.slots;
  kept_loans = s.kept;
  book = s.book;
  last_id = s.last_id;
}

-- what can be seen of it
abbrev pub observed_state_of : {A : Type 0} → (A → Device) → ServerView A → ObservedState
observed_state_of device s = record {
  device = device s.adapter;
  wanted = s.wanted;
  rows = s.grants;
  owner = owner_of s.table;
  lent = lent_to s.table;
  state = λ port. state_of (probe_result_of s.probe_results port.0);
}
