use Rattle.std.proofs.Common.{◌∙◌, sym}
use Rattle.followed.proofs.Asking.{answered, none_noted, silent, strays}
use Rattle.followed.proofs.followed.Followed.compare_piece.Goals as goal

pub returns-in-Some-clause-asks : goal.returns-in-Some-clause-asks
returns-in-Some-clause-asks g c = λ first noted so.
    let none = none_noted c.args.self.now.divergence (sym c.is_some.ensures ∙ c.if-is_some.false) in strays none (answered none so c.in-Ok.ensures.made) tt

pub returns-in_default-clause-asks : goal.returns-in_default-clause-asks
returns-in_default-clause-asks g c = λ first noted so. answered (none_noted c.args.self.now.divergence (sym c.is_some.ensures ∙ c.if-is_some.false)) so c.in-Ok.ensures.made

pub returns-in-Err-clause-asks : goal.returns-in-Err-clause-asks
returns-in-Err-clause-asks g c = λ first noted so. silent (none_noted c.args.self.now.divergence (sym c.is_some.ensures ∙ c.if-is_some.false)) so c.in-Err.ensures.failed
