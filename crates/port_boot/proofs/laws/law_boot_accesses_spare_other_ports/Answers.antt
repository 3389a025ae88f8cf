use Rattle.port_boot.proofs.Staying.{of_boot}
use Rattle.port_boot.proofs.laws.law_boot_accesses_spare_other_ports.Goals as goal

pub returns : goal.returns
returns c = of_boot c.law_prerequisites.ensures
