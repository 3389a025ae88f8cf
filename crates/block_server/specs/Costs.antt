-- How many accesses of its adapter each call of a server makes, at most, whatever the device does.
use Rattle.ata_types.specs.declared.call.Call.{Call}
use Rattle.ata_types.specs.declared.call.Call.TheVariants.{Submit, ClientStore, ClientLoad, Service, Tick, Reset, Revoke, State, Device as Step}
use Rattle.ata_types.specs.declared.limits.TheConstants.{PORTS}
use Rattle.std.specs.Prelude.{ℕ, ◌+◌, ◌*◌, List, [], ◌∷◌}
use Rattle.adapter.specs.declared.access.DeviceStep.{DeviceStep}
use Rattle.host_boot.specs.Costs.{RESET_ACCESSES, TAKE_OVER_ACCESSES}
use Rattle.ncq.specs.Costs.{ISSUE_ACCESSES}
use Rattle.port_control.specs.declared.events.PortError.TheVariants.{TimedOut}
use Rattle.port_driver.specs.Costs.{ISSUE_DUE_ACCESSES, TURN_ACCESSES, port_error_accesses}

-- a new server takes its adapter over
abbrev pub MOST_NEW_ACCESSES : ℕ
MOST_NEW_ACCESSES = TAKE_OVER_ACCESSES

-- A submit issues the request that it accepts, if that is due, and no other.
abbrev pub MOST_SUBMIT_ACCESSES : ℕ
MOST_SUBMIT_ACCESSES = ISSUE_ACCESSES

-- a service gives each port its turn
abbrev pub MOST_SERVICE_ACCESSES : ℕ
MOST_SERVICE_ACCESSES = PORTS * TURN_ACCESSES

-- a tick handles each port that hangs
abbrev pub MOST_TICK_ACCESSES : ℕ
MOST_TICK_ACCESSES = PORTS * port_error_accesses TimedOut

-- a reset ends, the adapter is taken over, and what is due on each port is issued
abbrev pub MOST_RESET_ACCESSES : ℕ
MOST_RESET_ACCESSES = RESET_ACCESSES + TAKE_OVER_ACCESSES + PORTS * ISSUE_DUE_ACCESSES

-- a revocation issues what is due on the grant's port
abbrev pub MOST_REVOKE_ACCESSES : ℕ
MOST_REVOKE_ACCESSES = ISSUE_DUE_ACCESSES

-- a call of a list: a client's bytes are stored or loaded by one access, and a step of the device is none
abbrev pub most_accesses_of : Call DeviceStep → ℕ
most_accesses_of (Submit request) = MOST_SUBMIT_ACCESSES
most_accesses_of (ClientStore client frame offset bytes) = 1
most_accesses_of (ClientLoad client frame offset length) = 1
most_accesses_of Service = MOST_SERVICE_ACCESSES
most_accesses_of Tick = MOST_TICK_ACCESSES
most_accesses_of Reset = MOST_RESET_ACCESSES
most_accesses_of (Revoke client number) = MOST_REVOKE_ACCESSES
most_accesses_of (State port) = 0
most_accesses_of (Step step) = 0

-- all calls of a list
abbrev pub most_accesses_of_all : List (Call DeviceStep) → ℕ
most_accesses_of_all [] = 0
most_accesses_of_all (call ∷ calls) = most_accesses_of call + most_accesses_of_all calls
