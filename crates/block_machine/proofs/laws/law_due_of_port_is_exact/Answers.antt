use Rattle.block_machine.proofs.Turns.{due_member, due_own}
use Rattle.block_machine.proofs.laws.law_due_of_port_is_exact.Goals as goal

pub returns-clause-exact : goal.returns-clause-exact
returns-clause-exact c = due_member

pub returns-clause-due_are_of_port : goal.returns-clause-due_are_of_port
returns-clause-due_are_of_port c = due_own
