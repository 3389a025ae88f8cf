use Rattle.followed.proofs.Noting.{to_same}
use Rattle.followed.proofs.followed.Followed.end_plain.Goals as goal

pub returns-then-has_error-clause-slots : goal.returns-then-has_error-clause-slots
returns-then-has_error-clause-slots g c = λ start so. c.fail.ensures.slots start (to_same c.look.ensures.notes.slots_stay so)
