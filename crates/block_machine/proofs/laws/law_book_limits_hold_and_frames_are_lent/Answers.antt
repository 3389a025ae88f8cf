use Rattle.block_machine.proofs.Limits.{law_book_limits_hold_and_frames_are_lent}
use Rattle.block_machine.proofs.laws.law_book_limits_hold_and_frames_are_lent.Goals as goal

pub returns : goal.returns
returns c = law_book_limits_hold_and_frames_are_lent
