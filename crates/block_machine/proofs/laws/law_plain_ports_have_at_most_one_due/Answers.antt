use Rattle.block_machine.proofs.Alone.{one_due, none_due, first_due}
use Rattle.block_machine.proofs.laws.law_plain_ports_have_at_most_one_due.Goals as goal

pub returns-clause-one_at_most : goal.returns-clause-one_at_most
returns-clause-one_at_most c mode port book order unqueued = one_due mode unqueued port book order

pub returns-clause-none_while_issued : goal.returns-clause-none_while_issued
returns-clause-none_while_issued c mode port book r unqueued here own issued = none_due mode unqueued port book r here own issued

pub returns-clause-is_first_waiting : goal.returns-clause-is_first_waiting
returns-clause-is_first_waiting c mode port book r order unqueued here own first = first_due mode unqueued port book r order here own first
