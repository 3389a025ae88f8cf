use Rattle.configuration.proofs.One.{told-kind-is-one}
use Rattle.configuration.proofs.laws.law_least_fault_kind_is_unique.Goals as goal

pub returns : goal.returns
returns c = told-kind-is-one
