use Rattle.std.proofs.Common.{◌≡◌, refl}
use Rattle.refinement.proofs.driver.Stretches.{told_as, told_joined}
use Rattle.refinement.proofs.driver.ReleasedSlot.{told_released}
use Rattle.refinement.proofs.access_kinds.law_fragments_compose.Goals as goal

pub returns-clause-fragments_join : goal.returns-clause-fragments_join
returns-clause-fragments_join g c = λ kind then first second. told_joined (g.K.AccessKindsWithSlotUses.may kind) (g.K.AccessKindsWithSlotUses.may then) (g.K.AccessKindsWithSlotUses.fits kind) (g.K.AccessKindsWithSlotUses.fits then) first second

pub returns-clause-wider : goal.returns-clause-wider
returns-clause-wider g c = λ kind more next wider fits old new a.
    told_as (λ made. made ≡ a.is_driven.accesses) (g.K.AccessKindsWithSlotUses.may kind) (g.K.AccessKindsWithSlotUses.may more) (g.K.AccessKindsWithSlotUses.fits kind) (g.K.AccessKindsWithSlotUses.fits more) next old new wider fits (record { is_simulated = a; accesses_are_such = refl })

pub returns-clause-own_command_is_over : goal.returns-clause-own_command_is_over
returns-clause-own_command_is_over g c = λ kind. told_released (g.K.AccessKindsWithSlotUses.may kind) (g.K.AccessKindsWithSlotUses.fits kind)
