use Rattle.block_machine.proofs.DueTests.{overlap_is_overlaps}
use Rattle.machine_rules.proofs.laws.law_overlap_test_is_exact.Goals as goal

pub returns : goal.returns
returns c = overlap_is_overlaps
