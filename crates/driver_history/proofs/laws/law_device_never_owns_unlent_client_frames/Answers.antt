use Rattle.driver_history.proofs.Standing.{unlent_still}
use Rattle.driver_history.proofs.laws.law_device_never_owns_unlent_client_frames.Goals as goal

pub returns : goal.returns
returns c = unlent_still c.law_device_never_owns_frames_out_of_use.ensures.unlent c.law_run_prerequisites.ensures
