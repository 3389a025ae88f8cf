use Rattle.refinement.proofs.device.ErrorBits.{steps_change, access_change, steps_undue, access_undue}
use Rattle.refinement.proofs.device.ErrorBits.{change_more, change_none}
use Rattle.refinement.proofs.port_facts.law_serr_nx_rise_only_by_plugs_if_no_link_due.Goals as goal

pub returns-clause-steps : goal.returns-clause-steps
returns-clause-steps c = steps_change c.law_prerequisites.ensures

pub returns-clause-access : goal.returns-clause-access
returns-clause-access c = access_change c.law_prerequisites.ensures

pub returns-clause-due : goal.returns-clause-due
returns-clause-due c = steps_undue c.law_prerequisites.ensures

pub returns-clause-no_link_becomes_due_over_access : goal.returns-clause-no_link_becomes_due_over_access
returns-clause-no_link_becomes_due_over_access c = access_undue c.law_prerequisites.ensures

pub returns-clause-reflexive : goal.returns-clause-reflexive
returns-clause-reflexive c = change_none

pub returns-clause-transitive : goal.returns-clause-transitive
returns-clause-transitive c = change_more
