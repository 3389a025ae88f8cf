use Rattle.std.proofs.Common.{◌≡◌, ◌<◌}
use Rattle.ata_types.specs.declared.refusal.Refusal.{Refusal}
use Rattle.block_machine.specs.Rules.{refusal_rank}
use Rattle.block_machine.specs.Refusals.{RefusalApplies}
use Rattle.machine_rules.specs.ReferenceSituations.{reference_admission_context}
use Rattle.machine_rules.proofs.refuse.ReferenceSituation.first_fault.Given as goal

abbrev pub invariant-loop-place : goal.invariant-loop-place
invariant-loop-place l = (other : Refusal) → (refusal_rank other).0 ≡ l.number → (refusal_rank other).1 < l.place → RefusalApplies (reference_admission_context l.self) l.request other → ⊥
