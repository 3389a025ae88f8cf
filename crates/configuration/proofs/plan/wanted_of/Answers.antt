use Rattle.configuration.proofs.Wants.{four}
use Rattle.configuration.specs.PlanParts.{IsWantedIn}
use Rattle.configuration.proofs.plan.wanted_of.Goals as goal

pub returns : goal.returns
returns c = four (IsWantedIn c.args.ports.now) _ _ _ _ c.wanted_in.ensures c.wanted_in-2.ensures c.wanted_in-3.ensures c.wanted_in-4.ensures
