use Rattle.refinement.proofs.witnesses.Boot.{boot_is_found}
use Rattle.refinement.proofs.port_facts.law_boot_example_runs_well.Goals as goal

pub returns : goal.returns
returns c = boot_is_found c.law_prerequisites.ensures
