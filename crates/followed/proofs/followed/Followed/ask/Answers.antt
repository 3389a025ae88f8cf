use Rattle.std.proofs.Common.{◌∙◌, sym}
use Rattle.followed.proofs.Asking.{answered, none_noted, silent}
use Rattle.followed.proofs.followed.Followed.ask.Goals as goal

pub returns-in-Ok-clause-asks : goal.returns-in-Ok-clause-asks
returns-in-Ok-clause-asks g c = λ first noted so. answered (none_noted c.args.self.now.divergence (sym c.is_some.ensures ∙ c.if-is_some.false)) so c.in-Ok.ensures.made

pub returns-in-Err-clause-asks : goal.returns-in-Err-clause-asks
returns-in-Err-clause-asks g c = λ first noted so. silent (none_noted c.args.self.now.divergence (sym c.is_some.ensures ∙ c.if-is_some.false)) so c.in-Err.ensures.failed
