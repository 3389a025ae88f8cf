use Rattle.std.proofs.Common.{refl}
use Rattle.port_control.proofs.looks.Heeding.{look_disks, ordinary_disks, ordinary_fatals, ordinary_shows, tells_loss, unread_fatals, unread_shows}
use Rattle.port_control.proofs.events.laws.law_looks_and_services_hide_no_error.Goals as goal

pub returns-clause-look_hides_no_fault : goal.returns-clause-look_hides_no_fault
returns-clause-look_hides_no_fault c = λ port result old new on l. unread_shows c.law_prerequisites.ensures port result old new l on

pub returns-clause-look_hides_no_fatal : goal.returns-clause-look_hides_no_fatal
returns-clause-look_hides_no_fatal c = λ port result old new on l. unread_fatals c.law_prerequisites.ensures port result old new l on

pub returns-clause-look_hides_no_plug_event : goal.returns-clause-look_hides_no_plug_event
returns-clause-look_hides_no_plug_event c = λ port result old new on l. look_disks c.law_prerequisites.ensures port result old new l on

pub returns-clause-services_hide_no_fault : goal.returns-clause-services_hide_no_fault
returns-clause-services_hide_no_fault c = ordinary_shows c.law_prerequisites.ensures

pub returns-clause-services_hide_no_fatal : goal.returns-clause-services_hide_no_fatal
returns-clause-services_hide_no_fatal c = ordinary_fatals c.law_prerequisites.ensures

pub returns-clause-services_hide_no_plug_event : goal.returns-clause-services_hide_no_plug_event
returns-clause-services_hide_no_plug_event c = ordinary_disks c.law_prerequisites.ensures

pub returns-clause-link_change_is_backed : goal.returns-clause-link_change_is_backed
returns-clause-link_change_is_backed c = λ port old new on l undue. tells_loss c.law_prerequisites.ensures port _ old new l on undue refl
