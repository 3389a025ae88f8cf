use Rattle.std.proofs.Common.{◌∙◌, sym}
use Rattle.followed.proofs.Asking.{answered, none_noted, silent}
use Rattle.followed.proofs.followed.Followed.send.Goals as goal

pub returns-in-Err-clause-asks : goal.returns-in-Err-clause-asks
returns-in-Err-clause-asks g c = λ first noted so.
    silent (none_noted c.count.new.self.divergence (sym c.is_some.ensures ∙ c.if-is_some.false)) (c.count.ensures.asks first noted so) c.in-Err.ensures.failed

pub returns-in_default-clause-asks : goal.returns-in_default-clause-asks
returns-in_default-clause-asks g c = λ first noted so.
    answered (none_noted c.count.new.self.divergence (sym c.is_some.ensures ∙ c.if-is_some.false)) (c.count.ensures.asks first noted so) c.in_default.ensures.made
