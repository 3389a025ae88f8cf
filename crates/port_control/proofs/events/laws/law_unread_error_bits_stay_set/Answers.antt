use Rattle.port_control.proofs.looks.Seeing.{looking_changes, looking_causes}
use Rattle.port_control.proofs.looks.Serving.{errors_stay}
use Rattle.port_control.proofs.events.laws.law_unread_error_bits_stay_set.Goals as goal

pub returns-clause-services_keep_errors : goal.returns-clause-services_keep_errors
returns-clause-services_keep_errors c = errors_stay c.law_prerequisites.ensures

pub returns-clause-look_keeps_serr_changes : goal.returns-clause-look_keeps_serr_changes
returns-clause-look_keeps_serr_changes c = λ port result old new on l. looking_changes c.law_prerequisites.ensures port result old new l on

pub returns-clause-unread_causes_stay_set : goal.returns-clause-unread_causes_stay_set
returns-clause-unread_causes_stay_set c = λ port result old new on l. looking_causes c.law_prerequisites.ensures port result old new l on
