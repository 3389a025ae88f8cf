use Rattle.device_model.proofs.OldSectors.{found_some}
use Rattle.device_model.proofs.old_sectors.OldSectors.gap_for.Goals as goal

pub returns-in-Ok-clause-has_old_bytes : goal.returns-in-Ok-clause-has_old_bytes
returns-in-Ok-clause-has_old_bytes c = λ _. found_some c.args.self.now.sectors.items c.args.self.now.rising c.args.sector c.in-Ok.field-0 c.in-Ok.ensures.found
