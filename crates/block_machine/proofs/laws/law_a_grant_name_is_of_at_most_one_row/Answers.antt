use Rattle.block_machine.proofs.Configured.{names_differ}
use Rattle.block_machine.proofs.RuleLemmas.{one_row}
use Rattle.block_machine.proofs.laws.law_a_grant_name_is_of_at_most_one_row.Goals as goal

pub returns : goal.returns
returns c = λ m client number a b reached. one_row m.rows (names_differ m reached) client number a b
