use Rattle.device_model.proofs.Losing.{all_back, each_back_or, lost_of}
use Rattle.device_model.specs.Disks.{lasting_of}
use Rattle.device_model.proofs.laws.law_lost_caches_leave_what_is_lasting.Goals as goal

pub returns-clause-each_sector : goal.returns-clause-each_sector
returns-clause-each_sector g c = λ old new p a b was is on did.
    each_back_or g.S.SectorStore.size g.S.SectorStore.told g.S.SectorStore.failures (lasting_of g.S.SectorStore.told a) a.disk.store b.disk.store
    ((lost_of g.S.SectorStore.size g.S.SectorStore.told g.S.SectorStore.failures old new p a b was is did).is_rolled_back_with_cache on) (g.met.S.SectorStore.fits a.disk.store)

pub returns-clause-all_is_lasting_without_failures : goal.returns-clause-all_is_lasting_without_failures
returns-clause-all_is_lasting_without_failures g c = λ old new p a b was is on did.
    all_back g.S.SectorStore.size g.S.SectorStore.told g.S.SectorStore.failures (lasting_of g.S.SectorStore.told a) a.disk.store b.disk.store
    ((lost_of g.S.SectorStore.size g.S.SectorStore.told g.S.SectorStore.failures old new p a b was is did).is_rolled_back_with_cache on) (g.met.S.SectorStore.fits a.disk.store)
