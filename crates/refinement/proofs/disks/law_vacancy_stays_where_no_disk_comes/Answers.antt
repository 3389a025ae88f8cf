use Rattle.refinement.proofs.device.EmptyPort.{out_steps, out_access, vacant_steps, vacant_access, fresh_steps, fresh_access, vacant_reset, fresh_reset, fresh_comreset, device_shown}
use Rattle.refinement.proofs.disks.law_vacancy_stays_where_no_disk_comes.Goals as goal

pub returns-clause-out_steps : goal.returns-clause-out_steps
returns-clause-out_steps c = out_steps c.law_prerequisites.ensures

pub returns-clause-out_access : goal.returns-clause-out_access
returns-clause-out_access c = out_access c.law_prerequisites.ensures

pub returns-clause-vacant_steps : goal.returns-clause-vacant_steps
returns-clause-vacant_steps c = vacant_steps c.law_prerequisites.ensures

pub returns-clause-vacant_access : goal.returns-clause-vacant_access
returns-clause-vacant_access c = vacant_access c.law_prerequisites.ensures

pub returns-clause-fresh_steps : goal.returns-clause-fresh_steps
returns-clause-fresh_steps c = fresh_steps c.law_prerequisites.ensures

pub returns-clause-fresh_access : goal.returns-clause-fresh_access
returns-clause-fresh_access c = fresh_access c.law_prerequisites.ensures

pub returns-clause-vacant_reset : goal.returns-clause-vacant_reset
returns-clause-vacant_reset c = vacant_reset c.law_prerequisites.ensures

pub returns-clause-fresh_reset : goal.returns-clause-fresh_reset
returns-clause-fresh_reset c = fresh_reset c.law_prerequisites.ensures

pub returns-clause-fresh_comreset : goal.returns-clause-fresh_comreset
returns-clause-fresh_comreset c = fresh_comreset

pub returns-clause-det_3_shows_disk_if_in : goal.returns-clause-det_3_shows_disk_if_in
returns-clause-det_3_shows_disk_if_in c = device_shown
