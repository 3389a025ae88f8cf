-- What the events of a list say (this project's own).
use Rattle.std.specs.Prelude.{ℕ, ◌≡◌, ◌+◌, List, [], ◌∷◌, ◌++◌, Some, None, Ok, Err, length, map}
use Rattle.ata_types.specs.declared.call.Call.{Call}
use Rattle.ata_types.specs.declared.call.Call.TheVariants.{Submit, ClientStore, ClientLoad, Service, Tick, Reset, Revoke, State, Device as Step}
use Rattle.adapter.specs.declared.access.DeviceStep.{DeviceStep}
use Rattle.block_machine.specs.Events.{AbstractCall, AbstractCallResult}
use Rattle.block_machine.specs.Events as machine
use Rattle.server_history.specs.Histories.{ExtendsHistory}
use Rattle.server_history.specs.ServerState.{ServerState}
use Rattle.block_server.specs.declared.said.Said.{Said}
use Rattle.block_server.specs.declared.said.Said.TheVariants as said
use Rattle.block_server.specs.declared.said.TheConstants.{MOST_SAID}

-- What a call's result is said as: one thing, and one for each reply.
abbrev pub said_of : AbstractCallResult → List Said
said_of (machine.Submitted result) = said.Submitted result ∷ []
said_of (machine.Stored None) = said.Stored (Ok tt) ∷ []
said_of (machine.Stored (Some fault)) = said.Stored (Err fault) ∷ []
said_of (machine.Loaded (Ok bytes)) = said.Loaded (Ok (record { items = bytes })) ∷ []
said_of (machine.Loaded (Err fault)) = said.Loaded (Err fault) ∷ []
said_of (machine.Replied replies) = said.Replied (length replies) ∷ map said.Reply replies
said_of (machine.WasReset (Some replies)) = said.WasReset (Ok (length replies)) ∷ map said.Reply replies
said_of (machine.WasReset None) = said.WasReset (Err (record {})) ∷ []
said_of (machine.WasRevoked (Some replies)) = said.WasRevoked (Ok (length replies)) ∷ map said.Reply replies
said_of (machine.WasRevoked None) = said.WasRevoked (Err (record {})) ∷ []
said_of (machine.PortStateShown state) = said.State state ∷ []
said_of (machine.Stepped done) = said.Stepped done ∷ []

-- The most that an event says: room is made for so much before it.
abbrev pub most_said_of : Call DeviceStep → ℕ
most_said_of (Submit request) = 1
most_said_of (ClientStore client frame offset bytes) = 1
most_said_of (ClientLoad client frame offset length) = 1
most_said_of Service = MOST_SAID
most_said_of Tick = MOST_SAID
most_said_of Reset = MOST_SAID
most_said_of (Revoke client number) = MOST_SAID
most_said_of (State port) = 1
most_said_of (Step step) = 1

-- The most that all events of a list say.
abbrev pub most_said_of_all : List (Call DeviceStep) → ℕ
most_said_of_all [] = 0
most_said_of_all (event ∷ events) = most_said_of event + most_said_of_all events

-- From one server to the next a call asked this, with a result, and it was said behind what had been said.
abbrev pub SaysResult : ServerState → ServerState → AbstractCall DeviceStep → List Said → List Said → Type 0
SaysResult old new asked before after = (result : AbstractCallResult) × ExtendsHistory old new asked result
    × (after ≡ before ++ said_of result)
