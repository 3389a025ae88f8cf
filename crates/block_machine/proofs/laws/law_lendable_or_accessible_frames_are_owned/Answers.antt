use Rattle.std.proofs.Common.{get_or}
use Rattle.std.proofs.lemmas.Option.{slice_get-get_or}
use Rattle.ata_types.specs.declared.refusal.FrameFault.TheVariants.{FrameForeign as ForeignOf}
use Rattle.ata_types.specs.declared.refusal.MemFault.TheVariants.{FrameForeign}
use Rattle.ata_types.specs.declared.refusal.Refusal.TheVariants.{Rule}
use Rattle.ata_types.specs.declared.refusal.Rule.TheVariants.{Frames}
use Rattle.block_machine.proofs.Limits.{owned}
use Rattle.block_machine.proofs.laws.law_lendable_or_accessible_frames_are_owned.Goals as goal

pub returns-clause-acceptable : goal.returns-clause-acceptable
returns-clause-acceptable c = λ s r acceptable i d small.
    owned (s.owner (get_or r.frames.items i d)) r.client
    (λ other. acceptable (Rule (Frames (ForeignOf i))) (get_or r.frames.items i d, slice_get-get_or r.frames.items i d small, other))

pub returns-clause-accessible : goal.returns-clause-accessible
returns-clause-accessible c = λ owner lent client frame offset count opens. owned (owner frame) client (opens FrameForeign)
