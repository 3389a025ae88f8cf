use Rattle.std.proofs.Common.{sym, ap, subst, ◌∙◌}
use Rattle.request_queue.specs.Conflicts.{ConflictLists}
use Rattle.request_queue.specs.Sectors.{AreIndexed}
use Rattle.request_queue.proofs.conflicts.Conflicts.blocker.Goals as goal

pub returns : goal.returns
returns c = λ book are.
    c.blocker_of.ensures book
    (subst (λ (l : ConflictLists). AreIndexed book l.sectors) (sym c.self.view_is) are.sectors_are_indexed)
    (c.as_slice.ensures.value ∙ (ap (λ (l : ConflictLists). l.flushes) c.self.view_is ∙ are.flushes_are_listed))
