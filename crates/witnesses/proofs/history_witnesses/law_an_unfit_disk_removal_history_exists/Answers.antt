use Rattle.witnesses.proofs.history.Missing.{missing_disk_is_a_history}
use Rattle.witnesses.proofs.history_witnesses.law_an_unfit_disk_removal_history_exists.Goals as goal

pub returns : goal.returns
returns c = missing_disk_is_a_history
