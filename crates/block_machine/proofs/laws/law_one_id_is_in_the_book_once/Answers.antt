use Rattle.block_machine.proofs.Standing.{standing}
use Rattle.block_machine.proofs.laws.law_one_id_is_in_the_book_once.Goals as goal

pub returns : goal.returns
returns c = λ m a b reached. (standing m reached).sound.one a b
