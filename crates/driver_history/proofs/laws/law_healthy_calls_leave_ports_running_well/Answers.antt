use Rattle.driver_history.proofs.Leaving.{left_well}
use Rattle.driver_history.proofs.laws.law_healthy_calls_leave_ports_running_well.Goals as goal

pub returns : goal.returns
returns c = left_well c.law_plug_events_match_disk_changes.ensures.entry (record { asked = c.law_asked_steps_are_transitions.ensures; steps = c.law_running_well_stays_if_undisturbed.ensures.steps; runs = c.law_undisturbed_port_runs_on_if_controls_stay.ensures.more_accesses; well = c.law_undisturbed_port_runs_on_if_controls_stay.ensures.healthy_port_stays_well })
