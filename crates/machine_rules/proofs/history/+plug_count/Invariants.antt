use Rattle.std.proofs.Common.{length}
use Rattle.machine_rules.proofs.history.+plug_count.Given as goal

abbrev pub decreases-plug_count : goal.decreases-plug_count
decreases-plug_count l = length l.history.now
