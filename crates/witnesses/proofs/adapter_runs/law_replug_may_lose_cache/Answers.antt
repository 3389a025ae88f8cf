use Rattle.witnesses.proofs.adapter.Losing.{may_be_lost}
use Rattle.witnesses.proofs.adapter_runs.law_replug_may_lose_cache.Goals as goal

pub returns : goal.returns
returns c = may_be_lost
