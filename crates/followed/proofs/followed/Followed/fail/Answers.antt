use Rattle.std.proofs.Common.{◌∙◌}
use Rattle.followed.proofs.Noting.{to_same}
use Rattle.followed.proofs.followed.Followed.fail.Goals as goal

pub returns-clause-slots : goal.returns-clause-slots
returns-clause-slots g c = λ start so. c.note_failed.ensures.goes_on start (to_same (c.go-failed.ensures.notes.slots_stay ∙ c.go-taken.ensures.notes.slots_stay) so)
