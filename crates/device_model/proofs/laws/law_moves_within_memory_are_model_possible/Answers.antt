use Rattle.device_model.proofs.Finishing.{has_move}
use Rattle.device_model.proofs.TwoDisks.{sized_disks}
use Rattle.device_model.proofs.laws.law_moves_within_memory_are_model_possible.Goals as goal

pub returns : goal.returns
returns g c = λ m p slot t bytes small disk inside can. (
  small,
  t,
  has_move _ p.0 slot.0 t bytes (sized_disks g.S.SectorStore.size g.S.SectorStore.told m p.0) disk inside can,
)
