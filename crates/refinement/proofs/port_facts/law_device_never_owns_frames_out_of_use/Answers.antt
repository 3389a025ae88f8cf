use Rattle.refinement.proofs.steps.StillFrames.{lent_is_still, unlent_is_still, served_once, idle_is_still, still_is_free}
use Rattle.refinement.proofs.port_facts.law_device_never_owns_frames_out_of_use.Goals as goal

pub returns-clause-lent : goal.returns-clause-lent
returns-clause-lent c = lent_is_still

pub returns-clause-unlent : goal.returns-clause-unlent
returns-clause-unlent c = unlent_is_still

pub returns-clause-idle : goal.returns-clause-idle
returns-clause-idle c = idle_is_still

pub returns-clause-free : goal.returns-clause-free
returns-clause-free c = still_is_free

pub returns-clause-over : goal.returns-clause-over
returns-clause-over c = served_once
