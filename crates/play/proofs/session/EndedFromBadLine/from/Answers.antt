use Rattle.std.proofs.Common.{rules}
use Rattle.play.proofs.session.EndedFromBadLine.from.Goals as goal

pub returns : goal.returns
returns c = search rules
