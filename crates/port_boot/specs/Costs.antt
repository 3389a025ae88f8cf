-- How many accesses the calls make, at most.
use Rattle.std.specs.Prelude.{ℕ, ◌+◌}
use Rattle.disk_page.specs.Costs.{PAGE_ACCESSES}
use Rattle.port_control.specs.Costs.{COMRESET_ACCESSES, RECEIVE_ACCESSES, START_ACCESSES, STOP_ACCESSES}

-- the port receives FISes, is sent COMRESET, and is started
abbrev pub RECEIVE_COMRESET_AND_START_ACCESSES : ℕ
RECEIVE_COMRESET_AND_START_ACCESSES = RECEIVE_ACCESSES + COMRESET_ACCESSES + START_ACCESSES

-- the disk is asked for its page; and then PxIE is written, or the port is stopped
abbrev pub IDENTIFY_ACCESSES : ℕ
IDENTIFY_ACCESSES = PAGE_ACCESSES + STOP_ACCESSES

-- both, one after the other
abbrev pub BOOT_STOPPED_ACCESSES : ℕ
BOOT_STOPPED_ACCESSES = RECEIVE_COMRESET_AND_START_ACCESSES + IDENTIFY_ACCESSES

-- the port is stopped, and booted
abbrev pub BOOT_ACCESSES : ℕ
BOOT_ACCESSES = STOP_ACCESSES + BOOT_STOPPED_ACCESSES
