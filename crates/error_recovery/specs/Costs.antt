-- How many accesses the calls make, at most.
use Rattle.std.specs.Prelude.{ℕ, ◌+◌}
use Rattle.disk_page.specs.Costs.{PAGE_ACCESSES}
use Rattle.port_control.specs.Costs.{ERROR_STATE_ACCESSES, START_ACCESSES, STOP_ACCESSES}

-- PxTFD is read, the port is stopped, and it forgets its errors
abbrev pub STOP_AND_CLEAR_ACCESSES : ℕ
STOP_AND_CLEAR_ACCESSES = 1 + STOP_ACCESSES + ERROR_STATE_ACCESSES

-- the port is started, asked for its log of errors, and stopped again
abbrev pub FINISH_QUEUED_ACCESSES : ℕ
FINISH_QUEUED_ACCESSES = START_ACCESSES + PAGE_ACCESSES + STOP_ACCESSES

-- both, one after the other
abbrev pub RECOVER_ACCESSES : ℕ
RECOVER_ACCESSES = STOP_AND_CLEAR_ACCESSES + FINISH_QUEUED_ACCESSES
