use Rattle.driver_history.proofs.Telling.{plugs_find}
use Rattle.driver_history.proofs.laws.law_replugs_keep_flushed_if_sectors_told.Goals as goal

pub returns : goal.returns
returns c = λ wanted. plugs_find c.law_run_prerequisites.ensures wanted c.law_flushed_writes_survive_replug.ensures
