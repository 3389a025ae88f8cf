use Rattle.refinement.specs.Relation.{port_at}
use Rattle.host_boot.proofs.Beginning.{taken_there, taken_faults, taken_ready, taken_runs}
use Rattle.host_boot.proofs.Running.{taken_own}
use Rattle.host_boot.proofs.Showing.{taken_shown}
use Rattle.host_boot.proofs.laws.law_ready_ports_run_and_unusable_disks_show.Goals as goal

pub returns-clause-served_port_exists : goal.returns-clause-served_port_exists
returns-clause-served_port_exists c = taken_there

pub returns-clause-ready_port_is_programmed_and_started : goal.returns-clause-ready_port_is_programmed_and_started
returns-clause-ready_port_is_programmed_and_started c = λ wanted host port info old new taken. taken_ready wanted host port old new taken info

pub returns-clause-healthy_port_runs_well : goal.returns-clause-healthy_port_runs_well
returns-clause-healthy_port_runs_well c = λ wanted host port info old new idle taken. taken_runs c.law_prerequisites.ensures wanted host port old new taken info idle

pub returns-clause-faults_are_on_record : goal.returns-clause-faults_are_on_record
returns-clause-faults_are_on_record c = λ wanted host port info old new idle taken. taken_faults c.law_prerequisites.ensures wanted host port old new taken info idle

pub returns-clause-bad_disk_shows_if_in : goal.returns-clause-bad_disk_shows_if_in
returns-clause-bad_disk_shows_if_in c = λ wanted host port state old new idle taken bad is. taken_shown c.law_prerequisites.ensures (port_at port) state host.ports old new idle bad is taken.switches_on_and_boots

pub returns-clause-disk_is_in_if_det_3 : goal.returns-clause-disk_is_in_if_det_3
returns-clause-disk_is_in_if_det_3 c = λ wanted host port info old new idle taken is. taken_own c.law_prerequisites.ensures (port_at port) info host.ports old new idle is taken.switches_on_and_boots
