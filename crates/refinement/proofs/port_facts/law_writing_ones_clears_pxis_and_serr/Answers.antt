use Rattle.refinement.proofs.device.ErrorWrites.{errors_cleared, causes_cleared}
use Rattle.refinement.proofs.port_facts.law_writing_ones_clears_pxis_and_serr.Goals as goal

pub returns-clause-errors : goal.returns-clause-errors
returns-clause-errors c = errors_cleared

pub returns-clause-causes : goal.returns-clause-causes
returns-clause-causes c = causes_cleared
