use Rattle.server_examples.proofs.Numbered.{numbered_sector}
use Rattle.server_examples.proofs.tests.numbered_store.NumberedStore.new.Goals as goal

pub invariant_of-result-clause-are_sectors : goal.invariant_of-result-clause-are_sectors
invariant_of-result-clause-are_sectors c = numbered_sector c.args.first_cleared c.args.first_cleared
