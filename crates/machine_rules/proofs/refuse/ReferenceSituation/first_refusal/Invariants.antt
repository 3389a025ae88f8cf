use Rattle.std.proofs.Common.{◌<◌}
use Rattle.ata_types.specs.declared.refusal.Refusal.{Refusal}
use Rattle.block_machine.specs.Rules.{refusal_rank}
use Rattle.block_machine.specs.Refusals.{RefusalApplies}
use Rattle.machine_rules.specs.ReferenceSituations.{reference_admission_context}
use Rattle.machine_rules.proofs.refuse.ReferenceSituation.first_refusal.Given as goal

abbrev pub invariant-loop-number : goal.invariant-loop-number
invariant-loop-number l = (other : Refusal) → (refusal_rank other).0 < l.number → RefusalApplies (reference_admission_context l.self) l.request other → ⊥
