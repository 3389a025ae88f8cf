use Rattle.std.proofs.Common.{Option, All, subst}
use Rattle.adapter.specs.declared.access.DeviceStep.{DeviceStep}
use Rattle.device_model.specs.Disks.{disk_index_of}
use Rattle.device_model.specs.StepEffects.{PutsDiskIntoPort}
use Rattle.device_model.specs.declared.disks.DiskIndex.{DiskIndex}
use Rattle.device_model.proofs.Waiting.{last_waits, out_stays}
use Rattle.device_model.proofs.laws.law_disk_out_stays_out_unless_put_in.Goals as goal

pub returns-clause-other : goal.returns-clause-other
returns-clause-other g c = λ steps old new port which out none does.
    out_stays g.S.SectorStore.size g.S.SectorStore.told g.S.SectorStore.failures port (disk_index_of old port) steps old new which out none does

pub returns-clause-last_in : goal.returns-clause-last_in
returns-clause-last_in g c = λ steps old new port which is empty none does.
    let P : Option DiskIndex → Type 0 = λ l. All (λ (s : DeviceStep). PutsDiskIntoPort l port which s → ⊥) steps in
    last_waits g.S.SectorStore.size g.S.SectorStore.told g.S.SectorStore.failures port steps old new which (λ _. empty) (subst P is none) does
