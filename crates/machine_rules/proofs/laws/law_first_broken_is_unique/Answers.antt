use Rattle.machine_rules.proofs.Firsts.{first_broken_is_one}
use Rattle.machine_rules.proofs.laws.law_first_broken_is_unique.Goals as goal

pub returns : goal.returns
returns c = first_broken_is_one
