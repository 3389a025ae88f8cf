use Rattle.refinement.proofs.steps.UnusedSlots.{steps_leave}
use Rattle.refinement.proofs.driver.UnusedOverCalls.{reads_leave, loads_leave, stores_leave, writes_leave}
use Rattle.refinement.proofs.laws.law_tables_and_idle_scratch_are_kept.Goals as goal

pub returns-clause-steps : goal.returns-clause-steps
returns-clause-steps c = steps_leave

pub returns-clause-reads : goal.returns-clause-reads
returns-clause-reads c = reads_leave

pub returns-clause-loads : goal.returns-clause-loads
returns-clause-loads c = loads_leave

pub returns-clause-stores : goal.returns-clause-stores
returns-clause-stores c = stores_leave

pub returns-clause-writes : goal.returns-clause-writes
returns-clause-writes c = writes_leave
