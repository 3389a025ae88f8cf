use Rattle.std.proofs.Common.{subst, sym}
use Rattle.slots.specs.SlotMasks.{IsLowestFreeSlot, SlotMasks}
use Rattle.slots.proofs.Masks as masks
use Rattle.slots.proofs.Slots.take_plain.Goals as goal

pub invariant_of-self : goal.invariant_of-self
invariant_of-self c =
    let is = c.self.invariant in
    let place = c.in-Some.place in
    let low = subst (λ (s : SlotMasks). IsLowestFreeSlot s place) (sym c.self.view_is) c.in-Some.ensures.lowest in
    (is.0, masks.plain_apart c.self.inside.queued c.self.inside.plain _ place is.1 low.2.0 (masks.one_more c.self.inside.plain place c.in-Some.ensures.lowest.0))

pub returns-clause-taken : goal.returns-clause-taken
returns-clause-taken c = rw (sym c.self.view_is) (masks.one_more c.self.inside.plain c.in-Some.place c.in-Some.ensures.lowest.0)
