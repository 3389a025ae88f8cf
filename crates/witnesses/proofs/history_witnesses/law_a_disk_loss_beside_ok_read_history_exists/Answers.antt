use Rattle.witnesses.proofs.history.Answering.{loss_is_a_history}
use Rattle.witnesses.proofs.history_witnesses.law_a_disk_loss_beside_ok_read_history_exists.Goals as goal

pub returns : goal.returns
returns c = loss_is_a_history
