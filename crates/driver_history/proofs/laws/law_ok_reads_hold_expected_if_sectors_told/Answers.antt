use Rattle.driver_history.proofs.Telling.{reads_hold}
use Rattle.driver_history.proofs.laws.law_ok_reads_hold_expected_if_sectors_told.Goals as goal

pub returns : goal.returns
returns c = reads_hold c.law_run_prerequisites.ensures
