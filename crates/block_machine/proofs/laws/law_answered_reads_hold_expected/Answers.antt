use Rattle.block_machine.proofs.EventLemmas.{law_answered_reads_hold_expected}
use Rattle.block_machine.proofs.laws.law_answered_reads_hold_expected.Goals as goal

pub returns : goal.returns
returns g c = law_answered_reads_hold_expected
