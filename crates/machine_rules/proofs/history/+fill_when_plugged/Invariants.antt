use Rattle.std.proofs.Common.{length}
use Rattle.machine_rules.proofs.history.+fill_when_plugged.Given as goal

abbrev pub decreases-fill_when_plugged : goal.decreases-fill_when_plugged
decreases-fill_when_plugged l = length l.history.now
