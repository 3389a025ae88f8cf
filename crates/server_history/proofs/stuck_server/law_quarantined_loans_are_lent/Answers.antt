use Rattle.server_history.proofs.state.Quarantine.{all_lent, answered, one_loan}
use Rattle.server_history.proofs.stuck_server.law_quarantined_loans_are_lent.Goals as goal

pub returns-clause-lent : goal.returns-clause-lent
returns-clause-lent c = λ s port b. all_lent c.law_frame_holder_prerequisites.ensures s b.machine b.reached b.machine_relation port

pub returns-clause-differ_in_one_port : goal.returns-clause-differ_in_one_port
returns-clause-differ_in_one_port c = λ s port b. b.machine_relation.quarantine_relation.loans_differ_in_request port

pub returns-clause-differ_between_ports : goal.returns-clause-differ_between_ports
returns-clause-differ_between_ports c = λ s port other x y b here there same. one_loan c.law_frame_holder_prerequisites.ensures s b.machine b.reached b.machine_relation port x here other y there same

pub returns-clause-book_has_other_ids : goal.returns-clause-book_has_other_ids
returns-clause-book_has_other_ids c = λ s port loan e b here there. answered c.law_frame_holder_prerequisites.ensures s b.machine b.reached b.machine_relation port loan here e there
