use Rattle.block_machine.proofs.Turns.{due_of_same, due_same}
use Rattle.block_machine.proofs.laws.law_due_depends_on_own_port.Goals as goal

pub returns-clause-due_list_is_the_same : goal.returns-clause-due_list_is_the_same
returns-clause-due_list_is_the_same c = due_of_same

pub returns-clause-due_is_the_same : goal.returns-clause-due_is_the_same
returns-clause-due_is_the_same c = due_same
