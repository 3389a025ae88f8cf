use Rattle.std.proofs.Common.{arith}
use Rattle.device_model.proofs.Ready.{left_covered, left_is}
use Rattle.device_model.proofs.steps.moves_left_of.Goals as goal

pub returns-clause-covered : goal.returns-clause-covered
returns-clause-covered c =
    left_covered c.args.command.now c.args.size c.count_pieces.result c.checked_sub.result (rw c.as_slice-prds.ensures.same at c.count_pieces.ensures)
    (rw c.as_slice-prds.ensures.same at (c.are_inside.ensures.inside c.if-not-are_inside.false)) c.checked_sub.ensures

pub returns-clause-only : goal.returns-clause-only
returns-clause-only c = λ left covered.
    left_is c.args.command.now.moved c.count_pieces.result left c.checked_sub.result
    (omega (arith, covered.moves_left_are, rw c.as_slice-prds.ensures.same at c.count_pieces.ensures)) c.checked_sub.ensures
