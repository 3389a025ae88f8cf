use Rattle.durability.proofs.Volatile.{run_finds}
use Rattle.durability.proofs.laws.law_flushed_writes_survive_replug.Goals as goal

pub returns : goal.returns
returns g c = run_finds
