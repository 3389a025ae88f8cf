use Rattle.host_boot.proofs.Running.{other_well}
use Rattle.host_boot.proofs.laws.law_other_port_access_keeps_running_well.Goals as goal

pub returns : goal.returns
returns c = other_well c.law_prerequisites.ensures
