use Rattle.disk_page.proofs.Asking.{asking_is_of}
use Rattle.disk_page.proofs.Leaving.{asked_none, asking_leaves_running}
use Rattle.disk_page.proofs.laws.law_page_request_spares_other_ports.Goals as goal

pub returns-clause-spares_other_ports : goal.returns-clause-spares_other_ports
returns-clause-spares_other_ports c = asking_is_of

pub returns-clause-leaves_running : goal.returns-clause-leaves_running
returns-clause-leaves_running c = asking_leaves_running c.law_prerequisites.ensures

pub returns-clause-slots_stay_empty : goal.returns-clause-slots_stay_empty
returns-clause-slots_stay_empty c = asked_none
