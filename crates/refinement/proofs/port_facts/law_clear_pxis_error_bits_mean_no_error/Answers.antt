use Rattle.refinement.proofs.device.ShownErrors.{steps_fault, access_fault, steps_fatal, access_fatal}
use Rattle.refinement.proofs.port_facts.law_clear_pxis_error_bits_mean_no_error.Goals as goal

pub returns-clause-fault : goal.returns-clause-fault
returns-clause-fault c = steps_fault c.law_step_lists_keep_what_steps_keep.ensures

pub returns-clause-fault_access : goal.returns-clause-fault_access
returns-clause-fault_access c = access_fault c.law_step_lists_keep_what_steps_keep.ensures

pub returns-clause-fatal : goal.returns-clause-fatal
returns-clause-fatal c = steps_fatal c.law_step_lists_keep_what_steps_keep.ensures

pub returns-clause-fatal_access : goal.returns-clause-fatal_access
returns-clause-fatal_access c = access_fatal c.law_step_lists_keep_what_steps_keep.ensures
