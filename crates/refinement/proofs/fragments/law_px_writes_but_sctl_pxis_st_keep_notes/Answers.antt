use Rattle.refinement.proofs.device.ClearCauses.{written_notes, command_written_notes}
use Rattle.refinement.proofs.fragments.law_px_writes_but_sctl_pxis_st_keep_notes.Goals as goal

pub returns-clause-others : goal.returns-clause-others
returns-clause-others c = written_notes c.law_prerequisites.ensures

pub returns-clause-start : goal.returns-clause-start
returns-clause-start c = command_written_notes c.law_prerequisites.ensures
