use Rattle.std.proofs.Common.{◌≤◌}
use Rattle.identify.specs.declared.Unfit.{Unfit}
use Rattle.identify.specs.IdentityPage.{UnfitApplies, unfit_number}
use Rattle.identify.proofs.parse.Given as goal

-- no fault that was looked for applies
abbrev pub invariant-loop-fault : goal.invariant-loop-fault
invariant-loop-fault l = (g : Unfit) → unfit_number g ≤ l.fault-index → UnfitApplies l.page g → ⊥
