-- What it is to issue all that is due on a port (this project's own).
use Rattle.std.specs.Prelude.{ℕ, ◌≡◌, ◌+◌, ◌*◌, List, [], length}
use Rattle.ata_types.specs.declared.Port.{Port}
use Rattle.ata_types.specs.declared.PortState.TheVariants.{Ready}
use Rattle.adapter.specs.AccessBounds.{MakesAtMost}
use Rattle.adapter.specs.Device.{Device}
use Rattle.block_machine.specs.DueRequests.{due_of}
use Rattle.command_table.specs.Costs.{TABLE_ACCESSES}
use Rattle.ncq.specs.Costs.{BATCH_WRITE_ACCESSES}
use Rattle.request_queue.specs.BookEntries.{BookEntry, unanswered_of}
use Rattle.server_history.specs.IssuingAndAnswering.{IssuesDueOfPort}
use Rattle.server_history.specs.ServerState.{ServerState, state_of}
use Rattle.port_driver.specs.Costs.{ISSUE_DUE_ACCESSES}
use Rattle.port_driver.specs.LentSlots.{HasPortToIssue, with_port_slots}
use Rattle.port_driver.specs.declared.served_port.ServedPort.{ServedPort}

-- The port is ready, and is a part of some server with this adapter and this book.
pub record MayIssueDue {A : Type 0} (device : A → Device) (port : Port) (self : ServedPort) (adapter : A)
    (book : List BookEntry) : Type 0 where
  pub ready : state_of self.probe_result ≡ Ready
  pub some_server_has_port : (s : ServerState)
      × HasPortToIssue s (device adapter) book self.slots port self.mode self.probe_result

-- The port's due requests were issued, in order of acceptance, in slots of its own: so it is of each server that the
-- port, the adapter and the book may be a part of. Nothing else of the port changed, and no request came or went.
-- Where none was due the adapter is as it was, and else no more accesses were made than it takes to store each of them
-- and to issue them by one batch.
pub record IssuesWhatIsDue {A : Type 0} (device : A → Device) (accesses : A → ℕ) (port : Port) (old new : ServedPort)
    (adapter_before after : A) (book book_after : List BookEntry) : Type 0 where
  pub issues_all_due : (s : ServerState)
      → HasPortToIssue s (device adapter_before) book old.slots port old.mode old.probe_result
      → IssuesDueOfPort port s (with_port_slots s (device after) book_after new.slots port)
  pub only_slots_change : new ≡ record old { slots = new.slots }
  pub book_length_is_unchanged : length book_after ≡ length book
  pub none_due_no_access : due_of old.mode port (unanswered_of book) ≡ [] → after ≡ adapter_before
  pub cost_per_due_request : MakesAtMost (TABLE_ACCESSES * length (due_of old.mode port (unanswered_of book)) +
      BATCH_WRITE_ACCESSES)
      (accesses adapter_before) (accesses after)
  pub cost : MakesAtMost ISSUE_DUE_ACCESSES (accesses adapter_before) (accesses after)
