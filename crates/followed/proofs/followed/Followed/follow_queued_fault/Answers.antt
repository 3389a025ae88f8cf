use Rattle.std.proofs.Common.{ℕ, subst}
use Rattle.followed.specs.DifferingSlots.{FailsLowest}
use Rattle.followed.proofs.followed.Followed.follow_queued_fault.Goals as goal

pub returns-clause-slots : goal.returns-clause-slots
returns-clause-slots g c = λ start so.
    c.fail_lowest.ensures.slots start (c.note_untaken.ensures.goes_on start (c.follow_fallen-2.ensures.slots start (c.follow_fallen.ensures.slots start so)))

pub returns-clause-fails : goal.returns-clause-fails
returns-clause-fails g c =
    let is_queued = ((g.A.Adapter.device c.follow_fallen-2.new.self.model).port c.args.port.0).sact in
    let Failed : ℕ → Type 0 = λ slots. FailsLowest c.args.port.0 slots is_queued c.note_untaken.new.self c.fail_lowest.new.self.differing in
    (c.note_untaken.new.self, is_queued, subst Failed c.taken_or_all.ensures c.fail_lowest.ensures.fails)
