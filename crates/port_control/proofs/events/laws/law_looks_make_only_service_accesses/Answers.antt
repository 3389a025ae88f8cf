use Rattle.port_control.proofs.looks.Serving.{looking_service, looking_beside}
use Rattle.port_control.proofs.looks.Seeing.{look_driven}
use Rattle.port_control.proofs.events.laws.law_looks_make_only_service_accesses.Goals as goal

pub returns-clause-is_service_access : goal.returns-clause-is_service_access
returns-clause-is_service_access c = looking_service

pub returns-clause-leaves_other_px_is : goal.returns-clause-leaves_other_px_is
returns-clause-leaves_other_px_is c = looking_beside

pub returns-clause-look_is_driven : goal.returns-clause-look_is_driven
returns-clause-look_is_driven c = look_driven
