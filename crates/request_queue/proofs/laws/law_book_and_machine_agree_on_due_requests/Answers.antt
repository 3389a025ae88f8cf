use Rattle.request_queue.proofs.Stepping.{same_book, due_there, due_listed}
use Rattle.request_queue.proofs.laws.law_book_and_machine_agree_on_due_requests.Goals as goal

pub returns-clause-book : goal.returns-clause-book
returns-clause-book c = same_book

pub returns-clause-sound : goal.returns-clause-sound
returns-clause-sound c = due_there c.law_due_of_port_is_exact.ensures.exact c.law_due_of_port_is_exact.ensures.due_are_of_port

pub returns-clause-complete : goal.returns-clause-complete
returns-clause-complete c = due_listed c.law_due_of_port_is_exact.ensures.exact
