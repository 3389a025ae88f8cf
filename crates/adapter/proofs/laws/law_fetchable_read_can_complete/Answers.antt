use Rattle.adapter.proofs.ReadDone.{read_done}
use Rattle.adapter.proofs.laws.law_fetchable_read_can_complete.Goals as goal

pub returns : goal.returns
returns c = λ port slot first count places told old may. read_done old port slot first count places told may
