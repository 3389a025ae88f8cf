use Rattle.block_machine.specs.Events.{Replied}
use Rattle.block_server.proofs.Wanted.{service_wants}
use Rattle.block_server.proofs.server.Server.say_service.Goals as goal

pub returns-clause-says : goal.returns-clause-says
returns-clause-says g c =
    let count = c.len.ensures.value in
    let replies = c.as_slice.ensures.value in
    let says = c.say_with_replies.ensures.said in
    (Replied c.service_into.new.replies.items, c.service_into.ensures.extends_history, cc (says, count, replies))

pub returns-clause-wanted_is_unchanged : goal.returns-clause-wanted_is_unchanged
returns-clause-wanted_is_unchanged g c = service_wants g.A.Adapter.device c.args.self.now c.service_into.new.self c.service_into.new.replies.items c.service_into.ensures.services
