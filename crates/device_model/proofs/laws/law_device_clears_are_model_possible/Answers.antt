use Rattle.device_model.proofs.Clears.{can_clear}
use Rattle.device_model.proofs.TwoDisks.{sized_disks}
use Rattle.device_model.proofs.laws.law_device_clears_are_model_possible.Goals as goal

pub returns : goal.returns
returns g c = λ m p slot t first count small some can. (
  small,
  t,
  can_clear _ p.0 slot.0 first count t (sized_disks g.S.SectorStore.size g.S.SectorStore.told m p.0) some can,
)
