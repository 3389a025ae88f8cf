use Rattle.std.proofs.Common.{length}
use Rattle.machine_rules.proofs.history.+last_writer.Given as goal

abbrev pub decreases-last_writer : goal.decreases-last_writer
decreases-last_writer l = length l.history.now
