use Rattle.followed.specs.Asking.AsksUntilDivergence.{asks_nothing}
use Rattle.followed.proofs.followed.FollowedAdapter.store.Goals as goal

pub returns-clause-asks : goal.returns-clause-asks
returns-clause-asks g c = c.send_bytes.ensures.asks c.args.self.now.peer c.args.self.now.divergence asks_nothing
