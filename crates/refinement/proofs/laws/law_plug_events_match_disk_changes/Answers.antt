use Rattle.refinement.proofs.steps.DiskChanges.{steps_told, entry_told, none_told}
use Rattle.refinement.proofs.laws.law_plug_events_match_disk_changes.Goals as goal

pub returns-clause-steps : goal.returns-clause-steps
returns-clause-steps c = steps_told

pub returns-clause-entry : goal.returns-clause-entry
returns-clause-entry c = entry_told

pub returns-clause-none : goal.returns-clause-none
returns-clause-none c = none_told
