use Rattle.adapter.proofs.Pending.{named_enabled, named_exactly, raised_named, raised_pends, shown_pends}
use Rattle.adapter.proofs.laws.law_ips_is_set_while_enabled_cause_is_shown.Goals as goal

pub returns-clause-named : goal.returns-clause-named
returns-clause-named c = named_enabled

pub returns-clause-steps_raise_named_causes_alone : goal.returns-clause-steps_raise_named_causes_alone
returns-clause-steps_raise_named_causes_alone c = raised_named

pub returns-clause-cause_shown_is_pending : goal.returns-clause-cause_shown_is_pending
returns-clause-cause_shown_is_pending c = shown_pends

pub returns-clause-cause_raised_is_pending : goal.returns-clause-cause_raised_is_pending
returns-clause-cause_raised_is_pending c = raised_pends

pub returns-clause-no_other_is_named : goal.returns-clause-no_other_is_named
returns-clause-no_other_is_named c = named_exactly
