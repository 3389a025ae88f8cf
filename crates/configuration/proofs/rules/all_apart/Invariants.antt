use Rattle.std.proofs.Common.{◌↔◌, AllPairs, length}
use Rattle.configuration.proofs.rules.all_apart.Given as goal

abbrev pub invariant-loop-part : goal.invariant-loop-part
invariant-loop-part g l = AllPairs g.A.MustDiffer.apart l.rest ↔ AllPairs g.A.MustDiffer.apart l.fn.parts

abbrev pub decreases-loop-part : goal.decreases-loop-part
decreases-loop-part g l = length l.rest
