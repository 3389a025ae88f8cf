use Rattle.refinement.proofs.driver.AskedPages.{pages_asked, access_pages_asked, pages_once, access_pages_once}
use Rattle.refinement.proofs.laws.law_pages_come_only_for_own_commands.Goals as goal

pub returns-clause-steps : goal.returns-clause-steps
returns-clause-steps c = pages_asked c.law_prerequisites.ensures

pub returns-clause-access : goal.returns-clause-access
returns-clause-access c = access_pages_asked c.law_prerequisites.ensures

pub returns-clause-one_at_most : goal.returns-clause-one_at_most
returns-clause-one_at_most c = pages_once c.law_prerequisites.ensures

pub returns-clause-one_at_most_by_access : goal.returns-clause-one_at_most_by_access
returns-clause-one_at_most_by_access c = access_pages_once c.law_prerequisites.ensures
