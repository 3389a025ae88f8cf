use Rattle.server_history.proofs.resets.law_reset_prerequisites.Goals as goal

pub returns : goal.returns
returns c = record {
  prerequisites = c.law_history_prerequisites.ensures;
  take_over = record {
    port_runs_well = c.law_ready_ports_run_and_unusable_disks_show.ensures.healthy_port_runs_well;
    faults_are_on_record = c.law_ready_ports_run_and_unusable_disks_show.ensures.faults_are_on_record;
    shown_disk_is_in = c.law_ready_ports_run_and_unusable_disks_show.ensures.disk_is_in_if_det_3;
    bad_disk_shows_if_in = c.law_ready_ports_run_and_unusable_disks_show.ensures.bad_disk_shows_if_in;
  };
  held_frame_is_of_request = c.law_lent_frame_is_of_its_request.ensures;
  release_keeps_driver_relation = c.law_releasing_kept_frames_agrees.ensures;
}
