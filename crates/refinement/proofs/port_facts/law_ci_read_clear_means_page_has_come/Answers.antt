use Rattle.refinement.proofs.driver.AwaitedPage.{page_is_issued, steps_wait, access_waits, law_ci_read_clear_means_page_has_come, awaited_is_loaded}
use Rattle.refinement.proofs.port_facts.law_ci_read_clear_means_page_has_come.Goals as goal

pub returns-clause-issued : goal.returns-clause-issued
returns-clause-issued c = page_is_issued c.law_prerequisites.ensures

pub returns-clause-steps : goal.returns-clause-steps
returns-clause-steps c = steps_wait c.law_prerequisites.ensures

pub returns-clause-access : goal.returns-clause-access
returns-clause-access c = access_waits c.law_prerequisites.ensures

pub returns-clause-found : goal.returns-clause-found
returns-clause-found c = law_ci_read_clear_means_page_has_come c.law_prerequisites.ensures

pub returns-clause-loaded : goal.returns-clause-loaded
returns-clause-loaded c = awaited_is_loaded c.law_prerequisites.ensures
