use Rattle.device_model.proofs.NewModel.{all_told}
use Rattle.device_model.specs.ToldDisks.{all_disks_have_known_sectors}
use Rattle.device_model.proofs.laws.law_disk_sectors_are_known_if_they_tell.Goals as goal

pub returns-clause-tells : goal.returns-clause-tells
returns-clause-tells g c = λ m. all_disks_have_known_sectors g.S.SectorStore.size g.S.SectorStore.told m.bays.items

pub returns-clause-disks_tell_sectors : goal.returns-clause-disks_tell_sectors
returns-clause-disks_tell_sectors g c = λ all m. all_told g.S.SectorStore.told all m.bays.items
