use Rattle.refinement.proofs.driver.Stretches.{followed_store}
use Rattle.refinement.proofs.access_kinds.law_free_slot_stores_are_simulated.Goals as goal

pub returns : goal.returns
returns g c = λ kind. followed_store (g.K.AccessKindsWithSlotUses.may kind) (g.K.AccessKindsWithSlotUses.fits kind)
