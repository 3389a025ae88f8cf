use Rattle.adapter.proofs.Calls.{does_append, driven_none, driven_one, driven_then}
use Rattle.adapter.proofs.laws.law_accesses_compose.Goals as goal

pub returns-clause-reflexive : goal.returns-clause-reflexive
returns-clause-reflexive c = driven_none

pub returns-clause-single_access : goal.returns-clause-single_access
returns-clause-single_access c = driven_one

pub returns-clause-transitive : goal.returns-clause-transitive
returns-clause-transitive c = λ old mid new a b. driven_then a b

pub returns-clause-lists_append : goal.returns-clause-lists_append
returns-clause-lists_append c = does_append
