use Rattle.device_model.proofs.SentPages.{IsSoFar, left_in_all}
use Rattle.device_model.specs.ModelState.{device_at}
use Rattle.device_model.proofs.model.Model.send_pages.Given as goal

abbrev pub invariant-loop-found : goal.invariant-loop-found
invariant-loop-found g l = IsSoFar g.S.SectorStore.size g.S.SectorStore.told g.S.SectorStore.failures l.fn.self l.self l.left_out l.lacks

abbrev pub decreases-loop-found : goal.decreases-loop-found
decreases-loop-found g l = left_in_all (device_at g.S.SectorStore.size g.S.SectorStore.told l.self) l.left_out
