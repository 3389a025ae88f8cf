use Rattle.std.proofs.Common.{length}
use Rattle.machine_rules.proofs.history.+disk_number_read.Given as goal

abbrev pub decreases-disk_number_read : goal.decreases-disk_number_read
decreases-disk_number_read l = length l.history.now
