use Rattle.request_queue.specs.BookEntries.{unanswered_of}
use Rattle.request_queue.proofs.Changing.{asks_in_order}
use Rattle.request_queue.proofs.Working.{head_of}
use Rattle.request_queue.proofs.laws.law_issuing_due_entries_in_turn_leaves_none_due.Goals as goal

pub returns-clause-each_due_is_due_after_those_before : goal.returns-clause-each_due_is_due_after_those_before
returns-clause-each_due_is_due_after_those_before c mode port entries order = c.law_issuing_due_in_turn_leaves_none_due.ensures mode port (unanswered_of entries) (asks_in_order entries order.ids_rise)

pub returns-clause-first_waits_rest_is_due : goal.returns-clause-first_waits_rest_is_due
returns-clause-first_waits_rest_is_due c mode port id ids entries turn = head_of mode port ids id entries turn
