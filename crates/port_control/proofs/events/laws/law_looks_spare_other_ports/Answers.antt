use Rattle.port_control.proofs.looks.Apart.{looking_of}
use Rattle.port_control.proofs.events.laws.law_looks_spare_other_ports.Goals as goal

pub returns : goal.returns
returns c = looking_of
