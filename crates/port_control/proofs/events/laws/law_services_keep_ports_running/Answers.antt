use Rattle.port_control.proofs.looks.Recording.{services_recorded}
use Rattle.port_control.proofs.looks.Serving.{services_on, services_same, services_port, services_controls, services_well, looks_inactive, services_agree}
use Rattle.port_control.proofs.events.laws.law_services_keep_ports_running.Goals as goal

pub returns-clause-stays_on : goal.returns-clause-stays_on
returns-clause-stays_on c = services_on c.law_prerequisites.ensures

pub returns-clause-adapter_is_kept : goal.returns-clause-adapter_is_kept
returns-clause-adapter_is_kept c = services_same c.law_prerequisites.ensures

pub returns-clause-start_and_list_are_kept : goal.returns-clause-start_and_list_are_kept
returns-clause-start_and_list_are_kept c = services_port c.law_prerequisites.ensures

pub returns-clause-controls_are_kept : goal.returns-clause-controls_are_kept
returns-clause-controls_are_kept c = services_controls c.law_prerequisites.ensures

pub returns-clause-sact_stays_clear : goal.returns-clause-sact_stays_clear
returns-clause-sact_stays_clear c = looks_inactive c.law_prerequisites.ensures

pub returns-clause-relation_is_kept : goal.returns-clause-relation_is_kept
returns-clause-relation_is_kept c = services_agree c.law_prerequisites.ensures

pub returns-clause-ports_run_well : goal.returns-clause-ports_run_well
returns-clause-ports_run_well c = services_well c.law_prerequisites.ensures

pub returns-clause-faults_stay_on_record : goal.returns-clause-faults_stay_on_record
returns-clause-faults_stay_on_record c = services_recorded c.law_prerequisites.ensures
