use Rattle.port_control.proofs.looks.Seeing.{seen_calm, seen_changed, seen_unlinked, seen_well}
use Rattle.port_control.proofs.events.laws.law_looks_see_errors_and_link_changes.Goals as goal

pub returns-clause-no_event_means_no_trouble : goal.returns-clause-no_event_means_no_trouble
returns-clause-no_event_means_no_trouble c = λ port result old new on l. seen_calm c.law_prerequisites.ensures port result old new l on

pub returns-clause-changed : goal.returns-clause-changed
returns-clause-changed c = λ port result old new on l. seen_changed c.law_prerequisites.ensures port result old new l on

pub returns-clause-unlinked : goal.returns-clause-unlinked
returns-clause-unlinked c = λ port result old new on l. seen_unlinked c.law_prerequisites.ensures port result old new l on

pub returns-clause-healthy_port_has_no_event : goal.returns-clause-healthy_port_has_no_event
returns-clause-healthy_port_has_no_event c = λ port result old new on l. seen_well c.law_prerequisites.ensures port result old new l on
