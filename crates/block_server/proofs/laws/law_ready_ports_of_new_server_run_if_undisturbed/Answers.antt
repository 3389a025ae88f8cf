use Rattle.block_server.proofs.Healthy.{begins_well}
use Rattle.block_server.proofs.laws.law_ready_ports_of_new_server_run_if_undisturbed.Goals as goal

pub returns : goal.returns
returns g c = begins_well c.law_ready_ports_run_and_unusable_disks_show.ensures.healthy_port_runs_well g.A.Adapter.device
