use Rattle.adapter.proofs.KeptLemmas.{KeepsControlsFlagsRise-refl, KeepsControlsFlagsRise-trans}
use Rattle.adapter.proofs.laws.law_kept_controls_and_rising_flags_compose.Goals as goal

pub returns-clause-reflexive : goal.returns-clause-reflexive
returns-clause-reflexive c = KeepsControlsFlagsRise-refl

pub returns-clause-transitive : goal.returns-clause-transitive
returns-clause-transitive c = λ old mid new a b. KeepsControlsFlagsRise-trans a b
