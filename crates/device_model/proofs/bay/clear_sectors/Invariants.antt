use Rattle.std.proofs.Common.{ℕ, ◌≡◌, ◌+◌, List, Option}
use Rattle.adapter.specs.Steps.{disk_cleared}
use Rattle.device_model.specs.WriteCaches.{HasRoomForOldSectors, lasting_in}
use Rattle.device_model.specs.Disks.{disk_over}
use Rattle.device_model.proofs.bay.clear_sectors.Given as goal

-- the sectors below are zero, what they held is kept, and no call has failed
abbrev pub invariant-loop-place : goal.invariant-loop-place
invariant-loop-place g l = record {
  disk : disk_over l.fn.which (g.S.SectorStore.size l.disk) (g.S.SectorStore.told l.disk)
      ≡ disk_cleared (disk_over l.fn.which (g.S.SectorStore.size l.fn.disk) (g.S.SectorStore.told l.fn.disk)) l.run.first l.place;
  size : g.S.SectorStore.size l.disk ≡ g.S.SectorStore.size l.fn.disk;
  fine : g.S.SectorStore.failures l.disk ≡ g.S.SectorStore.failures l.fn.disk;
  lasting : (noted : Option (ℕ → List ℕ)) → lasting_in l.cache (g.S.SectorStore.told l.disk) noted ≡ lasting_in l.fn.cache (g.S.SectorStore.told l.fn.disk) noted;
  cached : l.cache.is_on ≡ l.fn.cache.is_on;
  old_room : (n : ℕ) → HasRoomForOldSectors l.fn.cache (l.place + n) → HasRoomForOldSectors l.cache n;
}
