use Rattle.server_history.proofs.reset_call.ServerAfterReset.{keeps_all, settled_at_last}
use Rattle.server_history.proofs.reset_call.RetakenMachine.{may_settle}
use Rattle.server_history.proofs.resets.law_reset_leads_to_none_due.Goals as goal

pub returns-clause-may_resolve : goal.returns-clause-may_resolve
returns-clause-may_resolve c = λ s taken booked takes. may_settle c.law_reset_prerequisites.ensures s taken booked takes

pub returns-clause-resolved_has_invariant : goal.returns-clause-resolved_has_invariant
returns-clause-resolved_has_invariant c = λ s taken settled replies booked takes settles. keeps_all c.law_reset_prerequisites.ensures s taken settled booked takes replies settles booked.machine booked.reached booked.machine_relation

pub returns-clause-none_is_due_once_issued : goal.returns-clause-none_is_due_once_issued
returns-clause-none_is_due_once_issued c = λ s taken settled new replies booked takes settles issues.
    settled_at_last c.law_reset_prerequisites.ensures s taken settled booked takes replies settles booked.machine booked.reached booked.machine_relation new issues
