use Rattle.std.proofs.Common.{take}
use Rattle.device_model.proofs.Caching.{WritesBack}
use Rattle.device_model.proofs.cache.roll_back.Given as goal

-- those before are written back
abbrev pub invariant-loop-old : goal.invariant-loop-old
invariant-loop-old g l = WritesBack g.S.SectorStore.size g.S.SectorStore.told g.S.SectorStore.failures (take l.old-index l.old-items) l.fn.store l.store
