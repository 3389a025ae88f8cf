-- The calls of a list, as the machine's (this project's own).
use Rattle.std.specs.Prelude.{min}
use Rattle.ata_types.specs.declared.call.Call.{Call}
use Rattle.ata_types.specs.declared.limits.TheConstants.{MOST_CALL_BYTES}
use Rattle.ata_types.specs.declared.call.Call.TheVariants.{Submit, ClientStore, ClientLoad, Service, Tick, Reset, Revoke, State, Device as Step}
use Rattle.adapter.specs.declared.access.DeviceStep.{DeviceStep}
use Rattle.block_machine.specs.Events.{AbstractCall, Submit as AskSubmit, StoreAt, LoadAt, Service as AskService, Tick as AskTick, Reset as AskReset, RevokeOf, State as AskState, StepDevice as AskDevice}

-- the call of a list, as the machine is asked; a load is of `MOST_CALL_BYTES` at most
abbrev pub abstract_call_of : Call DeviceStep → AbstractCall DeviceStep
abstract_call_of (Submit r) = AskSubmit r
abstract_call_of (ClientStore client frame offset bytes) = StoreAt client frame offset bytes.items
abstract_call_of (ClientLoad client frame offset count) = LoadAt client frame offset (min count MOST_CALL_BYTES)
abstract_call_of Service = AskService
abstract_call_of Tick = AskTick
abstract_call_of Reset = AskReset
abstract_call_of (Revoke client number) = RevokeOf client number
abstract_call_of (State port) = AskState port
abstract_call_of (Step step) = AskDevice step
