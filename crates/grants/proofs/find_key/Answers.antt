use Rattle.std.proofs.Common.{◌-◌, ap, ◌∙◌, sym, arith, Some}
use Rattle.std.proofs.lemmas.Option.{slice_get-get_or}
use Rattle.grants.proofs.Halving.{spend, low_more, high_more, not_there}
use Rattle.grants.proofs.find_key.Goals as goal

pub loop-low-init : goal.loop-low-init
loop-low-init c =
    let few = c.requires.few in
    record {
      within = omega arith;
      below = λ k d lt. absurd (omega arith);
      above = λ k d ge lt. absurd (omega arith);
      counts = omega arith;
      budget = (7, omega arith, omega (arith, few));
    }

pub loop-low-preserved-in-Less : goal.loop-low-preserved-in-Less
loop-low-preserved-in-Less c =
    let v = c.loop-low.invariant in
    let within = v.within in
    let going = c.loop-low-test.true in
    let counted = c.order.ensures.counted in
    record {
      within = within;
      below = low_more c.args.keys.now c.requires.order _ c.index-keys-middle.result (omega (arith, within, going)) c.index-keys-middle.is _ c.in-Less.ensures.order;
      above = v.above;
      counts = let was = v.counts in omega (arith, was, counted);
      budget = rw counted (spend v.budget.0 c.loop-low.compared _ (c.loop-low.high - c.loop-low.low) _ v.budget.1 v.budget.2 (omega (arith, going)) (omega (arith, going)));
    }

pub loop-low-preserved : goal.loop-low-preserved
loop-low-preserved c =
    let v = c.loop-low.invariant in
    let within = v.within in
    let going = c.loop-low-test.true in
    let counted = c.order.ensures.counted in
    record {
      within = omega (arith, within, going);
      below = v.below;
      above = high_more c.args.keys.now c.requires.order _ c.index-keys-middle.result (omega (arith, within, going)) c.index-keys-middle.is _ c.in-Greater.ensures.order;
      counts = let was = v.counts in omega (arith, was, counted);
      budget = rw counted (spend v.budget.0 c.loop-low.compared _ (c.loop-low.high - c.loop-low.low) _ v.budget.1 v.budget.2 (omega (arith, going)) (omega (arith, going)));
    }

pub returns-in-Equal-clause-place : goal.returns-in-Equal-clause-place
returns-in-Equal-clause-place c =
    let within = c.loop-low.invariant.within in
    let going = c.loop-low-test.true in
    slice_get-get_or c.args.keys.now _ c.index-keys-middle.result (omega (arith, within, going)) ∙ ap Some (sym c.index-keys-middle.is ∙ c.in-Equal.ensures.order)

pub returns : goal.returns
returns c =
    let v = c.loop-low.invariant in
    let spent = v.budget.1 in
    record {
      place = not_there c.args.keys.now (c.args.client, c.args.number) c.loop-low.low c.loop-low.high c.loop-low-test.false v.below v.above;
      counts = v.counts;
      few = omega (arith, spent);
    }
