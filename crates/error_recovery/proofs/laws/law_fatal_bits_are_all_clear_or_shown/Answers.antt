use Rattle.error_recovery.proofs.Running.{fatal_unless_clear}
use Rattle.error_recovery.proofs.laws.law_fatal_bits_are_all_clear_or_shown.Goals as goal

pub returns : goal.returns
returns c = fatal_unless_clear
