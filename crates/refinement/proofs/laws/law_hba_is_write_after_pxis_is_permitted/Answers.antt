use Rattle.refinement.proofs.device.AllowedWrites.{acknowledging_may}
use Rattle.refinement.proofs.laws.law_hba_is_write_after_pxis_is_permitted.Goals as goal

pub returns : goal.returns
returns c = acknowledging_may
