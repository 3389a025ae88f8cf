use Rattle.followed.specs.Asking.AsksUntilDivergence.{asks_nothing}
use Rattle.followed.proofs.Asking.{stays_so}
use Rattle.followed.proofs.followed.FollowedAdapter.load.Goals as goal

pub returns-clause-asks : goal.returns-clause-asks
returns-clause-asks g c = c.compare_bytes.ensures.asks c.args.self.now.peer c.args.self.now.divergence asks_nothing

pub returns-clause-stays : goal.returns-clause-stays
returns-clause-stays g c = stays_so (c.compare_bytes.ensures.asks c.args.self.now.peer c.args.self.now.divergence asks_nothing)
