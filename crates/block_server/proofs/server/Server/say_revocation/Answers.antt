use Rattle.std.proofs.Common.{Some, subst}
use Rattle.std.specs.declared.result.Result.{Result}
use Rattle.ata_types.specs.declared.call.NoRow.{NoRow}
use Rattle.block_machine.specs.Events.{RevokeOf, WasRevoked}
use Rattle.server_history.specs.Histories.{ExtendsHistory}
use Rattle.block_server.specs.Revoking.{revoke_result}
use Rattle.block_server.specs.ServerView.{server_of}
use Rattle.block_server.proofs.Wanted.{revoke_wants}
use Rattle.block_server.proofs.server.Server.say_revocation.Goals as goal

pub returns-in-Ok-clause-says : goal.returns-in-Ok-clause-says
returns-in-Ok-clause-says g c =
    let count = c.len.ensures.value in
    let replies = c.as_slice.ensures.value in
    let says = c.say_with_replies.ensures.said in
    let Extends : Result (Unit {0}) NoRow → Type 0 = λ r. ExtendsHistory (server_of g.A.Adapter.device c.args.self.now) (server_of g.A.Adapter.device c.revoke_into.new.self) (RevokeOf c.args.client c.args.number) (revoke_result r c.revoke_into.new.replies.items) in
    (WasRevoked (Some c.revoke_into.new.replies.items), subst Extends c.in-Ok.is c.revoke_into.ensures.extends_history, cc (says, count, replies))

pub returns-in-Ok-clause-wanted_is_unchanged : goal.returns-in-Ok-clause-wanted_is_unchanged
returns-in-Ok-clause-wanted_is_unchanged g c = revoke_wants g.A.Adapter.device c.args.self.now c.revoke_into.new.self _ _ c.revoke_into.new.replies.items c.revoke_into.result c.revoke_into.ensures.revokes
