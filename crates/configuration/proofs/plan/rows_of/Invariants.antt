use Rattle.std.proofs.Common.{◌≡◌, map, take}
use Rattle.configuration.specs.PlanParts.{row_of}
use Rattle.configuration.proofs.plan.rows_of.Given as goal

abbrev pub invariant-loop-grant : goal.invariant-loop-grant
invariant-loop-grant l = l.rows.items ≡ map row_of (take l.grant-index l.grants)
