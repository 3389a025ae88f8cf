use Rattle.std.proofs.Common.{◌∙◌, sym}
use Rattle.followed.proofs.Asking.{none_noted, strays}
use Rattle.followed.proofs.followed.Followed.compare.Goals as goal

pub returns-then-not-agrees_in_compared_bits-clause-asks : goal.returns-then-not-agrees_in_compared_bits-clause-asks
returns-then-not-agrees_in_compared_bits-clause-asks g c = λ first noted so. strays (none_noted c.args.self.now.divergence (sym c.is_some.ensures ∙ c.if-is_some.false)) so tt
