use Rattle.refinement.proofs.device.EmptyPort.{reset_read_idle}
use Rattle.refinement.proofs.disks.law_hr_read_clear_leaves_adapter_idle.Goals as goal

pub returns : goal.returns
returns c = reset_read_idle c.law_prerequisites.ensures
