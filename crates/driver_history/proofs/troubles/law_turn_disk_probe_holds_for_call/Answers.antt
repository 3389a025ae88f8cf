use Rattle.driver_history.proofs.Turned.{linked_is_the_calls, tries_are_the_calls}
use Rattle.driver_history.proofs.troubles.law_turn_disk_probe_holds_for_call.Goals as goal

pub returns-clause-probes : goal.returns-clause-probes
returns-clause-probes c port old begun ended ports new on t on_then stays was there linked tried none =
    tries_are_the_calls c.law_prerequisites.ensures port old begun new on t on_then ended ports stays was there linked tried none

pub returns-clause-ends_no_link_due : goal.returns-clause-ends_no_link_due
returns-clause-ends_no_link_due c port old begun ended ports new on t on_then stays was linked =
    linked_is_the_calls c.law_prerequisites.ensures port old begun new on t on_then ended ports stays was linked
