use Rattle.witnesses.proofs.history.Reordered.{order_is_free}
use Rattle.witnesses.proofs.history_witnesses.law_queued_reads_may_end_out_of_order.Goals as goal

pub returns : goal.returns
returns c = order_is_free
