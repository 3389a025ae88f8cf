use Rattle.refinement.proofs.device.AdapterOverAccesses.{store_after_steps_leaves_ports_tape_hr}
use Rattle.refinement.proofs.port_facts.law_memory_accesses_change_ports_by_steps.Goals as goal

pub returns-clause-load : goal.returns-clause-load
returns-clause-load c = λ at bytes old new x. x.steps

pub returns-clause-store : goal.returns-clause-store
returns-clause-store c = store_after_steps_leaves_ports_tape_hr
