use Rattle.machine_rules.proofs.Firsts.{law_first_refusal_is_unique}
use Rattle.machine_rules.proofs.laws.law_first_refusal_is_unique.Goals as goal

pub returns : goal.returns
returns c = law_first_refusal_is_unique
