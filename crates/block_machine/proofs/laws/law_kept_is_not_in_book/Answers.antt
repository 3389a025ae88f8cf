use Rattle.block_machine.proofs.Standing.{standing}
use Rattle.block_machine.proofs.laws.law_kept_is_not_in_book.Goals as goal

pub returns : goal.returns
returns c = λ m a b reached. (standing m reached).sound.apart a b
