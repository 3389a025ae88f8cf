use Rattle.block_machine.specs.DueRequests as due
use Rattle.block_machine.proofs.DueTests.{same_test, overlap_is_overlaps}
use Rattle.block_machine.proofs.due.are_overlapping.Goals as goal

pub returns : goal.returns
returns c = same_test c.overlaps.result (due.are_overlapping c.args.a.now c.args.b.now) c.overlaps.ensures (overlap_is_overlaps c.args.a.now c.args.b.now)
