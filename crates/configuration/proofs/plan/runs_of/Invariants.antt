use Rattle.std.proofs.Common.{◌≡◌, map, take}
use Rattle.configuration.specs.PlanParts.{owner_extent}
use Rattle.configuration.proofs.plan.runs_of.Given as goal

abbrev pub invariant-loop-client : goal.invariant-loop-client
invariant-loop-client l = l.runs.items ≡ map owner_extent (take l.client-index l.clients)
