use Rattle.block_machine.proofs.Accepts.{living_accepted}
use Rattle.block_machine.proofs.laws.law_request_in_book_or_kept_was_accepted.Goals as goal

pub returns : goal.returns
returns c start history e starts enabled living = living_accepted start history starts enabled e living
