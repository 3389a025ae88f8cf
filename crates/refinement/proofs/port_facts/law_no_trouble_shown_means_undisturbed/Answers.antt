use Rattle.refinement.proofs.device.TroubleBits.{steps_show, reads_show, stores_show, writes_show, told_calm, calm_told, back_clears, healthy_shows, calm_is_found, pair_is_found}
use Rattle.refinement.proofs.port_facts.law_no_trouble_shown_means_undisturbed.Goals as goal

pub returns-clause-steps : goal.returns-clause-steps
returns-clause-steps c = steps_show c.law_prerequisites.ensures

pub returns-clause-reads : goal.returns-clause-reads
returns-clause-reads c = reads_show c.law_prerequisites.ensures

pub returns-clause-stores : goal.returns-clause-stores
returns-clause-stores c = stores_show c.law_prerequisites.ensures

pub returns-clause-writes : goal.returns-clause-writes
returns-clause-writes c = writes_show c.law_prerequisites.ensures

pub returns-clause-none_told_none_shown : goal.returns-clause-none_told_none_shown
returns-clause-none_told_none_shown c = told_calm c.law_prerequisites.ensures

pub returns-clause-tells_what_is_shown : goal.returns-clause-tells_what_is_shown
returns-clause-tells_what_is_shown c = calm_told c.law_prerequisites.ensures

pub returns-clause-healthy : goal.returns-clause-healthy
returns-clause-healthy c = healthy_shows

pub returns-clause-found : goal.returns-clause-found
returns-clause-found c = calm_is_found c.law_prerequisites.ensures

pub returns-clause-found_by_two_reads : goal.returns-clause-found_by_two_reads
returns-clause-found_by_two_reads c = pair_is_found c.law_prerequisites.ensures

pub returns-clause-clears_no_trouble : goal.returns-clause-clears_no_trouble
returns-clause-clears_no_trouble c = back_clears
