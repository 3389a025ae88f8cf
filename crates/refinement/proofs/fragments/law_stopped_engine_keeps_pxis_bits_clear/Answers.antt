use Rattle.refinement.proofs.device.ClearCauses.{steps_clear, access_clear}
use Rattle.refinement.proofs.fragments.law_stopped_engine_keeps_pxis_bits_clear.Goals as goal

pub returns-clause-steps : goal.returns-clause-steps
returns-clause-steps c = λ port place. steps_clear place port

pub returns-clause-access : goal.returns-clause-access
returns-clause-access c = λ port place. access_clear place port
