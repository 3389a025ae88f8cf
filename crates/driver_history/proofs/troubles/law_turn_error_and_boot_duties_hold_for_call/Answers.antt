use Rattle.driver_history.proofs.Turned.{boots_are_the_calls, trouble_is_the_calls, well_is_the_calls}
use Rattle.driver_history.proofs.troubles.law_turn_error_and_boot_duties_hold_for_call.Goals as goal

pub returns-clause-loses_no_error : goal.returns-clause-loses_no_error
returns-clause-loses_no_error c port old begun ended ports new turn call on t on_then stays alike was set stops its =
    trouble_is_the_calls c.law_prerequisites.ensures port old begun new on t on_then ended ports stays turn call alike was set stops its

pub returns-clause-boots_anew : goal.returns-clause-boots_anew
returns-clause-boots_anew c port old begun ended ports new one other on undue t on_then stays was its =
    boots_are_the_calls c.law_prerequisites.ensures port old begun new on t on_then ended ports stays one other undue was its

pub returns-clause-runs_well_anew : goal.returns-clause-runs_well_anew
returns-clause-runs_well_anew c port old begun ended ports new turn call on t on_then linked stays alike known its =
    well_is_the_calls c.law_prerequisites.ensures port old begun new on t on_then ended ports stays turn call alike linked known its
