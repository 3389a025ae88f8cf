use Rattle.server_history.proofs.start.NewServer.{new_server}
use Rattle.server_history.proofs.laws.law_new_server_starts_history.Goals as goal

pub returns : goal.returns
returns c = new_server c.law_history_prerequisites.ensures (record { port_runs_well = c.law_ready_ports_run_and_unusable_disks_show.ensures.healthy_port_runs_well; faults_are_on_record = c.law_ready_ports_run_and_unusable_disks_show.ensures.faults_are_on_record; shown_disk_is_in = c.law_ready_ports_run_and_unusable_disks_show.ensures.disk_is_in_if_det_3; bad_disk_shows_if_in = c.law_ready_ports_run_and_unusable_disks_show.ensures.bad_disk_shows_if_in })
