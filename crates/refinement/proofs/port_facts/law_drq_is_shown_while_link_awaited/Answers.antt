use Rattle.refinement.proofs.device.AdapterReset.{reset_awaits, undue_awaited, first_awaited}
use Rattle.refinement.proofs.device.AwaitedLink.{comreset_shows_drq_till_link, steps_awaited, reads_awaited, writes_awaited}
use Rattle.refinement.proofs.device.OrdinaryAccesses.{access_awaited}
use Rattle.refinement.proofs.port_facts.law_drq_is_shown_while_link_awaited.Goals as goal

pub returns-clause-begins : goal.returns-clause-begins
returns-clause-begins c = comreset_shows_drq_till_link c.law_prerequisites.ensures

pub returns-clause-steps : goal.returns-clause-steps
returns-clause-steps c = steps_awaited

pub returns-clause-reads : goal.returns-clause-reads
returns-clause-reads c = reads_awaited

pub returns-clause-writes : goal.returns-clause-writes
returns-clause-writes c = writes_awaited

pub returns-clause-reset : goal.returns-clause-reset
returns-clause-reset c = reset_awaits

pub returns-clause-undue : goal.returns-clause-undue
returns-clause-undue c = undue_awaited

pub returns-clause-runs : goal.returns-clause-runs
returns-clause-runs c = first_awaited

pub returns-clause-access : goal.returns-clause-access
returns-clause-access c = access_awaited
