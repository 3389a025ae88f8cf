use Rattle.std.proofs.Common.{sym}
use Rattle.slots.proofs.Masks as masks
use Rattle.slots.proofs.Slots.free.Goals as goal

pub invariant_of-self : goal.invariant_of-self
invariant_of-self c =
    let is = c.self.invariant in
    (is.0, masks.less_apart c.self.inside.queued c.self.inside.plain _ _ c.args.slot.0 is.1 (masks.one_less c.self.inside.queued c.args.slot.0 c.requires) (masks.one_less c.self.inside.plain c.args.slot.0 c.requires))

pub returns-clause-queued : goal.returns-clause-queued
returns-clause-queued c = rw (sym c.self.view_is) (masks.one_less c.self.inside.queued c.args.slot.0 c.requires)

pub returns-clause-plain : goal.returns-clause-plain
returns-clause-plain c = rw (sym c.self.view_is) (masks.one_less c.self.inside.plain c.args.slot.0 c.requires)
