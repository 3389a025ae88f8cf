use Rattle.refinement.proofs.driver.PerformedStretches.{performs_one, performs_giving_up}
use Rattle.refinement.proofs.access_kinds.law_simulated_fragments_are_call_parts.Goals as goal

pub returns-clause-is_a_part : goal.returns-clause-is_a_part
returns-clause-is_a_part g c = λ kind. performs_one (g.K.AccessKindsWithSlotUses.may kind) (g.K.AccessKindsWithSlotUses.fits kind)

pub returns-clause-giving_up : goal.returns-clause-giving_up
returns-clause-giving_up g c = λ kind second. performs_giving_up c.law_accesses_compose.ensures.lists_append (g.K.AccessKindsWithSlotUses.may kind) (g.K.AccessKindsWithSlotUses.may second) (g.K.AccessKindsWithSlotUses.fits kind) (g.K.AccessKindsWithSlotUses.fits second)
