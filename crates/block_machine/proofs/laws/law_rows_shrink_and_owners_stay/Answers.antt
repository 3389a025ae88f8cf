use Rattle.block_machine.proofs.Configured.{law_rows_shrink_and_owners_stay}
use Rattle.block_machine.proofs.laws.law_rows_shrink_and_owners_stay.Goals as goal

pub returns : goal.returns
returns c = law_rows_shrink_and_owners_stay
