use Rattle.block_machine.proofs.Limits.{law_book_in_order}
use Rattle.block_machine.proofs.laws.law_book_in_order.Goals as goal

pub returns : goal.returns
returns c = law_book_in_order
