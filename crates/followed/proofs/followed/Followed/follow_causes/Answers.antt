use Rattle.std.proofs.Common.{◌∙◌}
use Rattle.followed.proofs.Noting.{to_same}
use Rattle.followed.proofs.followed.Followed.follow_causes.Goals as goal

pub returns-clause-slots : goal.returns-clause-slots
returns-clause-slots g c = λ start so. to_same (c.meet_if-2.ensures.notes.slots_stay ∙ c.meet_if.ensures.notes.slots_stay) (c.fail_if.ensures.slots start so)
