use Rattle.std.proofs.Common.{Some, subst}
use Rattle.std.specs.declared.result.Result.{Result}
use Rattle.ata_types.specs.declared.call.AdapterStuck.{AdapterStuck}
use Rattle.block_machine.specs.Events.{Reset, WasReset}
use Rattle.server_history.specs.Histories.{ExtendsHistory}
use Rattle.block_server.specs.Resetting.{reset_result}
use Rattle.block_server.specs.ServerView.{server_of}
use Rattle.block_server.proofs.Wanted.{reset_wants}
use Rattle.block_server.proofs.server.Server.say_reset.Goals as goal

pub returns-in-Ok-clause-says : goal.returns-in-Ok-clause-says
returns-in-Ok-clause-says g c =
    let count = c.len.ensures.value in
    let replies = c.as_slice.ensures.value in
    let says = c.say_with_replies.ensures.said in
    let Extends : Result (Unit {0}) AdapterStuck → Type 0 = λ r. ExtendsHistory (server_of g.A.Adapter.device c.args.self.now) (server_of g.A.Adapter.device c.reset_into.new.self) Reset (reset_result r c.reset_into.new.replies.items) in
    (WasReset (Some c.reset_into.new.replies.items), subst Extends c.in-Ok.is c.reset_into.ensures.extends_history, cc (says, count, replies))

pub returns-in-Ok-clause-wanted_is_unchanged : goal.returns-in-Ok-clause-wanted_is_unchanged
returns-in-Ok-clause-wanted_is_unchanged g c = reset_wants g.A.Adapter.device c.args.self.now c.reset_into.new.self c.reset_into.new.replies.items c.reset_into.result c.reset_into.ensures.resets
