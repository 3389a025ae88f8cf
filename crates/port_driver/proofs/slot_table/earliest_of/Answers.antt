use Rattle.std.proofs.Common.{◌+◌, ◌/◌, ◌^◌, subst, arith}
use Rattle.std.specs.Int.{trailing_zeros, w32}
use Rattle.port_driver.proofs.Earliest as earliest
use Rattle.port_driver.proofs.Earliest.{IsNext}
use Rattle.port_driver.proofs.slot_table.earliest_of.Goals as goal
use Rattle.port_driver.proofs.slot_table.earliest_of.Goals.{then-is_none-via-then-is_none, then-is_none-via-else-is_none+then-id-least}

pub returns-then-left-eq0-clause-found : goal.returns-then-left-eq0-clause-found
returns-then-left-eq0-clause-found c =
    earliest.all_found c.args.requests.now c.args.mask c.loop-past.past c.loop-past.invariant.within (earliest.none_above c.args.mask c.loop-past.past c.if-left-eq0.true)
    c.loop-past.earliest c.loop-past.least.0 c.loop-past.invariant.found

pub returns-then-left-eq0-clause-none : goal.returns-then-left-eq0-clause-none
returns-then-left-eq0-clause-none c =
    earliest.none_found c.args.requests.now c.args.mask c.loop-past.past c.loop-past.invariant.within (earliest.none_above c.args.mask c.loop-past.past c.if-left-eq0.true)
    c.loop-past.earliest c.loop-past.least.0 c.loop-past.invariant.found

pub bounds : goal.bounds
bounds c =
    let next = earliest.next c.args.mask c.loop-past.past c.ranges.mask.fits c.if-left-eq0.false in
    let small = next.small in
    omega (arith, small, c.requires)

pub loop-past-preserved-in_default : goal.loop-past-preserved-in_default
loop-past-preserved-in_default c =
    let next = earliest.next c.args.mask c.loop-past.past c.ranges.mask.fits c.if-left-eq0.false in
    let place = c.loop-past.past + trailing_zeros w32 (c.args.mask / 2 ^ c.loop-past.past) in
    record {
      within = let small = next.small in omega (arith, small);
      found = earliest.passed c.args.requests.now c.args.mask place c.loop-past.earliest c.loop-past.least.0
          (earliest.skipped c.args.requests.now c.args.mask c.loop-past.past place next c.loop-past.earliest c.loop-past.least.0 c.loop-past.invariant.found)
          (λ used marked is. absurd (c.in_default.not-Some used is));
    }

pub loop-past-preserved-in-loop-past : goal.loop-past-preserved-in-loop-past
loop-past-preserved-in-loop-past c =
    let next = earliest.next c.args.mask c.loop-past.past c.ranges.mask.fits c.if-left-eq0.false in
    let place = c.loop-past.past + trailing_zeros w32 (c.args.mask / 2 ^ c.loop-past.past) in
    record {
      within = let small = next.small in omega (arith, small);
      found = earliest.taken c.args.requests.now c.args.mask place c.loop-past.earliest c.loop-past.least.0
          (earliest.skipped c.args.requests.now c.args.mask c.loop-past.past place next c.loop-past.earliest c.loop-past.least.0 c.loop-past.invariant.found)
          c.in-Some.id next.marked c.in-Some.is
          (earliest.earlier c.loop-past.earliest c.is_none.result c.in-Some.id.0 c.loop-past.least.0 c.is_none.ensures c.then-is_none.either);
    }

pub loop-past-preserved : goal.loop-past-preserved
loop-past-preserved c =
    let next = earliest.next c.args.mask c.loop-past.past c.ranges.mask.fits c.if-left-eq0.false in
    let place = c.loop-past.past + trailing_zeros w32 (c.args.mask / 2 ^ c.loop-past.past) in
    let found = c.loop-past.earliest in
    let least = c.loop-past.least.0 in
    record {
      within = let small = next.small in omega (arith, small);
      found = earliest.passed c.args.requests.now c.args.mask place found least
          (earliest.skipped c.args.requests.now c.args.mask c.loop-past.past place next found least c.loop-past.invariant.found)
          (λ used marked is. subst (earliest.IsNoEarlier found least) (earliest.same_id _ c.in-Some.id used c.in-Some.is is)
          (earliest.no_earlier found c.is_none.result c.in-Some.id.0 least c.is_none.ensures c.if-is_none.false c.if-id-least.false));
    }
