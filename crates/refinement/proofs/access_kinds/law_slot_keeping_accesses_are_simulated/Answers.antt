use Rattle.std.proofs.Common.{◌≡◌, [], ◌∷◌}
use Rattle.adapter.specs.Access.Access.{Reading, Loading}
use Rattle.refinement.specs.Fragments.{AnySlotStates}
use Rattle.refinement.proofs.driver.Stretches.{followed_asking, told_none, told_as, told_load, told_read, told_write}
use Rattle.refinement.proofs.access_kinds.law_slot_keeping_accesses_are_simulated.Goals as goal

pub returns-clause-no_access : goal.returns-clause-no_access
returns-clause-no_access g c = λ kind. told_none (g.K.AccessKindsWithSlotUses.may kind) (g.K.AccessKindsWithSlotUses.fits kind)

pub returns-clause-reads : goal.returns-clause-reads
returns-clause-reads g c = λ kind r v old new is call.
    told_as (λ made. made ≡ Reading r v ∷ []) (g.K.AccessKindsWithSlotUses.may kind) (g.K.AccessKindsWithSlotUses.may kind) AnySlotStates (g.K.AccessKindsWithSlotUses.fits kind) (λ uses. uses) old new (λ access may. may) (λ uses fits. tt)
    (told_read (g.K.AccessKindsWithSlotUses.may kind) (g.K.AccessKindsWithSlotUses.fits kind) r v old new is call)

pub returns-clause-loads : goal.returns-clause-loads
returns-clause-loads g c = λ kind at bytes old new is call.
    told_as (λ made. made ≡ Loading at bytes ∷ []) (g.K.AccessKindsWithSlotUses.may kind) (g.K.AccessKindsWithSlotUses.may kind) AnySlotStates (g.K.AccessKindsWithSlotUses.fits kind) (λ uses. uses) old new (λ access may. may) (λ uses fits. tt)
    (told_load (g.K.AccessKindsWithSlotUses.may kind) at bytes old new is call)

pub returns-clause-writes : goal.returns-clause-writes
returns-clause-writes g c = λ kind. told_write (g.K.AccessKindsWithSlotUses.may kind) (g.K.AccessKindsWithSlotUses.fits kind)

pub returns-clause-own_command_is_issued : goal.returns-clause-own_command_is_issued
returns-clause-own_command_is_issued g c = λ kind. followed_asking (g.K.AccessKindsWithSlotUses.may kind) (g.K.AccessKindsWithSlotUses.fits kind)
