use Rattle.std.proofs.Common.{◌∙◌}
use Rattle.followed.proofs.Noting.{to_same}
use Rattle.followed.proofs.followed.Followed.follow_fault.Goals as goal

pub returns-then-queued-eq0-clause-slots : goal.returns-then-queued-eq0-clause-slots
returns-then-queued-eq0-clause-slots g c = λ start so.
    c.fail_lowest.ensures.slots start (to_same (c.look-2.ensures.notes.slots_stay ∙ c.look.ensures.notes.slots_stay ∙ c.settled.ensures.notes.slots_stay) so)

pub returns-else-queued-eq0-clause-slots : goal.returns-else-queued-eq0-clause-slots
returns-else-queued-eq0-clause-slots g c = λ start so.
    c.follow_queued_fault.ensures.slots start (to_same (c.look-2.ensures.notes.slots_stay ∙ c.look.ensures.notes.slots_stay ∙ c.settled.ensures.notes.slots_stay) so)
