use Rattle.followed.specs.Asking.AsksUntilDivergence.{asks_nothing}
use Rattle.followed.proofs.Asking.{stays_so}
use Rattle.followed.proofs.followed.FollowedStepped.step.Goals as goal

pub returns-in-Finish-clause-asks : goal.returns-in-Finish-clause-asks
returns-in-Finish-clause-asks g c = c.awaits.ensures.asks c.args.self.now.peer c.args.self.now.divergence asks_nothing

pub returns-in-Finish-clause-stays : goal.returns-in-Finish-clause-stays
returns-in-Finish-clause-stays g c = stays_so (c.awaits.ensures.asks c.args.self.now.peer c.args.self.now.divergence asks_nothing)

pub returns-in_default-clause-asks : goal.returns-in_default-clause-asks
returns-in_default-clause-asks g c = c.awaits.ensures.asks c.args.self.now.peer c.args.self.now.divergence asks_nothing

pub returns-in_default-clause-stays : goal.returns-in_default-clause-stays
returns-in_default-clause-stays g c = stays_so (c.awaits.ensures.asks c.args.self.now.peer c.args.self.now.divergence asks_nothing)

pub returns-in_default-2-clause-asks : goal.returns-in_default-2-clause-asks
returns-in_default-2-clause-asks g c = asks_nothing

pub returns-in_default-3-clause-asks : goal.returns-in_default-3-clause-asks
returns-in_default-3-clause-asks g c = asks_nothing

pub returns-in_default-4-clause-asks : goal.returns-in_default-4-clause-asks
returns-in_default-4-clause-asks g c = asks_nothing
