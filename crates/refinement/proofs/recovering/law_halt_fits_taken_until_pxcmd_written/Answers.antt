use Rattle.refinement.proofs.driver.HaltedCommand.{access_halts, acts_halts, calm_halts, plain_halts, steps_halts}
use Rattle.refinement.proofs.recovering.law_halt_fits_taken_until_pxcmd_written.Goals as goal

pub returns-clause-steps : goal.returns-clause-steps
returns-clause-steps c = steps_halts c.law_prerequisites.ensures

pub returns-clause-access : goal.returns-clause-access
returns-clause-access c = access_halts c.law_prerequisites.ensures

pub returns-clause-without_halt : goal.returns-clause-without_halt
returns-clause-without_halt c = calm_halts

pub returns-clause-plain : goal.returns-clause-plain
returns-clause-plain c = plain_halts

pub returns-clause-acts : goal.returns-clause-acts
returns-clause-acts c = acts_halts c.law_prerequisites.ensures
