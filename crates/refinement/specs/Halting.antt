-- What a halt is of, while ST is one (this project's own; AHCI 1.3.1, 6.2.2).
use Rattle.std.specs.Prelude.{ℕ, true, ◌≡◌, ◌≢◌, Some}
use Rattle.adapter.specs.Commands.{is_queued}
use Rattle.adapter.specs.Device.{FetchedCommand, DevicePort}
use Rattle.adapter.specs.Device.Halt.{HaltedByQueued, LogOnly}

-- READ LOG EXT isn't awaited. If a queued command has halted the port, a queued one is taken.
pub record HaltFitsTakenCommands (p : DevicePort) : Type 0 where
  pub is_not_log_only : p.halt ≢ LogOnly
  pub queued_is_taken : p.halt ≡ HaltedByQueued → (slot : ℕ) × (t : FetchedCommand) × (p.taken slot ≡ Some t)
      × (is_queued t.meaning.operation ≡ true)

-- so it is while ST is one
abbrev pub HaltFitsTakenCommandsIfSt : DevicePort → Type 0
HaltFitsTakenCommandsIfSt p = p.st ≡ true → HaltFitsTakenCommands p
