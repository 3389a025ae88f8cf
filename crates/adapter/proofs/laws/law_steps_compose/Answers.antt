use Rattle.adapter.proofs.Runs.{Steps-refl, Steps-trans}
use Rattle.adapter.proofs.laws.law_steps_compose.Goals as goal

pub returns-clause-reflexive : goal.returns-clause-reflexive
returns-clause-reflexive c = Steps-refl

pub returns-clause-transitive : goal.returns-clause-transitive
returns-clause-transitive c = λ old mid new a b. Steps-trans a b
