use Rattle.ata_types.specs.declared.memory.TheConstants.{MOST_FRAMES}
use Rattle.std.proofs.Common.{◌∙◌, All, AllPairs, ap, arith, length, map, refl, subst, sym}
use Rattle.configuration.specs.Ranges.{IsClientInRange, IsGrantInRange, IsPortInRange}
use Rattle.configuration.specs.Rules.{DifferInNumber}
use Rattle.configuration.specs.declared.FaultKind.TheVariants.{Duplicate}
use Rattle.configuration.proofs.Fits.{clients_within, few_clients, in_range, plan_fits}
use Rattle.configuration.specs.PlanParts.{AreWantedOf, row_of, owner_extent}
use Rattle.configuration.proofs.plan.Plan.of.Goals as goal

pub overflow_cast-result : goal.overflow_cast-result
overflow_cast-result c = omega (arith, (in_range c.args.config.now c.in_ok-check.ensures.lacks_every_fault).numbers.frames.1)

pub runs_of-requires-clause-few : goal.runs_of-requires-clause-few
runs_of-requires-clause-few c =
    omega (arith, few_clients c.args.config.now c.in_ok-check.ensures.lacks_every_fault, ap length c.as_slice.ensures.value)

pub runs_of-requires-clause-clients : goal.runs_of-requires-clause-clients
runs_of-requires-clause-clients c =
    subst (All (IsClientInRange MOST_FRAMES)) (sym c.as_slice.ensures.value) (clients_within c.args.config.now c.in_ok-check.ensures.lacks_every_fault)

pub rows_of-requires-clause-few : goal.rows_of-requires-clause-few
rows_of-requires-clause-few c =
    omega (arith, (in_range c.args.config.now c.in_ok-check.ensures.lacks_every_fault).numbers.at_most_64_grants, ap length c.as_slice-2.ensures.value)

pub rows_of-requires-clause-grants : goal.rows_of-requires-clause-grants
rows_of-requires-clause-grants c =
    subst (All IsGrantInRange) (sym c.as_slice-2.ensures.value) (in_range c.args.config.now c.in_ok-check.ensures.lacks_every_fault).parts.grants

pub wanted_of-requires-clause-ports : goal.wanted_of-requires-clause-ports
wanted_of-requires-clause-ports c =
    subst (All IsPortInRange) (sym c.as_slice-3.ensures.value) (in_range c.args.config.now c.in_ok-check.ensures.lacks_every_fault).parts.ports

pub wanted_of-requires-clause-once : goal.wanted_of-requires-clause-once
wanted_of-requires-clause-once c =
    subst (AllPairs DifferInNumber) (sym c.as_slice-3.ensures.value) (c.in_ok-check.ensures.lacks_every_fault Duplicate).ports

pub returns-clause-is_plan_of : goal.returns-clause-is_plan_of
returns-clause-is_plan_of c = record {
  frames = refl;
  owners = c.runs_of.ensures ∙ ap (map owner_extent) c.as_slice.ensures.value;
  grants = c.rows_of.ensures ∙ ap (map row_of) c.as_slice-2.ensures.value;
  wanted = subst (λ ports. AreWantedOf ports c.wanted_of.result) c.as_slice-3.ensures.value c.wanted_of.ensures;
}

pub invariant_of-result : goal.invariant_of-result
invariant_of-result c = plan_fits c.args.config.now c.in_ok-check.ensures.lacks_every_fault _ (returns-clause-is_plan_of c)

pub returns-clause-is_servable : goal.returns-clause-is_servable
returns-clause-is_servable c = plan_fits c.args.config.now c.in_ok-check.ensures.lacks_every_fault _ (returns-clause-is_plan_of c)
