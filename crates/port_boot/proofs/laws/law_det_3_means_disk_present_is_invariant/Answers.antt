use Rattle.port_boot.proofs.Owning.{access_own, all_own, ready_own, steps_own}
use Rattle.port_boot.proofs.laws.law_det_3_means_disk_present_is_invariant.Goals as goal

pub returns-clause-steps : goal.returns-clause-steps
returns-clause-steps c = steps_own

pub returns-clause-access : goal.returns-clause-access
returns-clause-access c = access_own

pub returns-clause-accesses : goal.returns-clause-accesses
returns-clause-accesses c = all_own

pub returns-clause-ready_boot_establishes : goal.returns-clause-ready_boot_establishes
returns-clause-ready_boot_establishes c = ready_own
