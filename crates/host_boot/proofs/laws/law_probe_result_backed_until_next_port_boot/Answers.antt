use Rattle.host_boot.proofs.Leaving.{boots_begin, still_on}
use Rattle.host_boot.proofs.laws.law_probe_result_backed_until_next_port_boot.Goals as goal

pub returns-clause-begins : goal.returns-clause-begins
returns-clause-begins c = boots_begin

pub returns-clause-goes_on : goal.returns-clause-goes_on
returns-clause-goes_on c = still_on c.law_prerequisites.ensures.probe_results
