-- What a reset of the adapter makes of the server (this project's own).
use Rattle.std.specs.Prelude.{true, false, ◌≡◌, List, [], Some, None, Ok, Err}
use Rattle.std.specs.declared.result.Result.{Result}
use Rattle.ata_types.specs.declared.request.Reply.{Reply}
use Rattle.adapter.specs.Device.{Device}
use Rattle.block_machine.specs.Events.{AbstractCallResult, WasReset}
use Rattle.ata_types.specs.declared.call.AdapterStuck.{AdapterStuck}
use Rattle.server_history.specs.Resets.{ResetsServer}
use Rattle.server_history.specs.StuckServer.{ResetGetsStuck}
use Rattle.block_server.specs.ServerView.{ServerView, server_of}

-- what a reset says, by its replies
abbrev pub reset_result : Result (Unit {0}) AdapterStuck → List Reply → AbstractCallResult
reset_result (Ok done) replies = WasReset (Some replies)
reset_result (Err why) replies = WasReset None

-- The adapter was reset, and so was the server with these replies; or the adapter didn't end its reset, and there is no
-- reply.
abbrev pub ResetsOrGetsStuck : {A : Type 0} → (A → Device) → ServerView A → ServerView A → List Reply
    → Result (Unit {0}) AdapterStuck → Type 0
ResetsOrGetsStuck device old new replies (Ok done) = ResetsServer replies (server_of device old) (server_of device new)
    × (new.stuck ≡ false)
ResetsOrGetsStuck device old new replies (Err why) = (replies ≡ [])
    × ResetGetsStuck (server_of device old) (server_of device new)
    × (new.stuck ≡ true)
