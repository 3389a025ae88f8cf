use Rattle.std.proofs.Common.{sym}
use Rattle.slots.proofs.Masks as masks
use Rattle.slots.proofs.Slots.taken.Goals as goal

pub returns : goal.returns
returns c = λ slot. rw (sym c.self.view_is) (masks.of_both (record { usable_count = c.self.inside.usable; queued = c.self.inside.queued; plain = c.self.inside.plain }) slot)
