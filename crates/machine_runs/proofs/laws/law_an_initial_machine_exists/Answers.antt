use Rattle.block_machine.proofs.Setting.{empty, empty_starts}
use Rattle.machine_runs.proofs.laws.law_an_initial_machine_exists.Goals as goal

pub returns : goal.returns
returns c = (empty, empty_starts)
